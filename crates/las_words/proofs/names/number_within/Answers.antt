use Rattle.std.proofs.Common.{List, ℕ, ◌+◌, ◌-◌, length, take, drop, sym, subst}
use Rattle.std.specs.Str.{IsUtf8}
use Rattle.las_words.proofs.PartNames.{no_text}
use Rattle.las_words.proofs.names.number_within.Goals as goal

pub returns-in-Err : goal.returns-in-Err
returns-in-Err c =
    let name = c.args.name.now in
    let long = length name - length c.args.end.now - (length c.args.stem.now + 1) in
    let P : List ℕ → Type 0 = λ bytes. IsUtf8 (take long (drop (length c.args.stem.now + 1) bytes)) in
    sym (no_text 4294967295 (take long (drop (length c.args.stem.now + 1) name)) (λ is. c.in-Err.ensures.cases.0 (subst P (sym c.as_bytes.ensures.value) is)))
