-- What stands in the name of a draft.
use Rattle.std.proofs.Common.{◌≡◌, ℕ, ◌-◌, ◌^◌, false, List, [], ◌++◌, length, replicate, Option, Some, IfSome, codes, subst, ◌∙◌, ap, arith}
use Rattle.std.proofs.lemmas.List.{append-nil}
use Rattle.std.specs.Fmt.{char_count, decimal, digits, format_spec, padded_integral, ◌++?◌}
use Rattle.las_outside.specs.DraftNames.{draft_tag, four_digits}

-- what `{:04x}` writes
pub four : (n : ℕ) → padded_integral (format_spec 32 0 4 4 (2 ^ 64 - 1)) false [] (digits 16 false n) ≡ four_digits n
unfolding padded_integral char_count
four n =
    let less : 4 - length (digits 16 false n) - 0 - 0 ≡ 4 - length (digits 16 false n) = omega arith in
    ap (λ (k : ℕ). replicate k 48 ++ (digits 16 false n ++ [])) less ∙ ap (λ (t : List ℕ). replicate (4 - length (digits 16 false n)) 48 ++ t) (append-nil (digits 16 false n))

-- what is written of a process and a number
pub tag_is : (text : List ℕ) (process number : ℕ) (shown : Option (List ℕ)) → shown ≡ Some (four_digits number) → IfSome (Some (decimal process) ++? (Some (codes "-") ++? shown)) (λ written. text ≡ written) → text ≡ draft_tag process number
tag_is text process number shown is told =
    subst (λ (o : Option (List ℕ)). IfSome (Some (decimal process) ++? (Some (codes "-") ++? o)) (λ written. text ≡ written)) is told
