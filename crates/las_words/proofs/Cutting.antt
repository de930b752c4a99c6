-- Words one after another, and the options that they are cut into.
use Rattle.std.proofs.Common.{◌≡◌, ℕ, zero, suc, ◌+◌, ◌-◌, ◌<◌, ◌≤◌, List, [], ◌∷◌, ◌++◌, length, drop, take, sym, ◌∙◌, ap, subst, append_assoc, arith, String, Global}
use Rattle.std.specs.Prelude.{string_bytes, All}
use Rattle.std.proofs.lemmas.List.{drop-map, drop_all, length-map, take_rest}
use Rattle.std.proofs.lemmas.List.Elements.{All-push}
use Rattle.std.proofs.Math.Seq.{drop-cons}
use Rattle.las_words.specs.declared.table.Tool.{Tool}
use Rattle.las_words.specs.declared.pieces.Piece.{Piece}
use Rattle.las_words.specs.Texts.{texts, word_at}
use Rattle.las_words.specs.Table.{flag_named}
use Rattle.las_words.specs.Pieces.{values_after, cut_words}

abbrev Words : Type 0
Words = List (String Global)

pub texts-rest : (words : Words) (at : ℕ) → texts (take (length words - at) (drop at words)) ≡ drop at (texts words)
texts-rest words at = ap texts (take_rest words at) ∙ sym (drop-map string_bytes at words)

pub next_word : (words : Words) (at : ℕ) → at < length words → drop at (texts words) ≡ word_at (texts words) at ∷ drop (at + 1) (texts words)
next_word words at within =
    let inside : at < length (texts words) = omega (arith, length-map words string_bytes) in
    let next : suc at ≡ at + 1 = omega arith in
    drop-cons (texts words) at [] inside ∙ ap (λ (n : ℕ). word_at (texts words) at ∷ drop n (texts words)) next

pub no_word : (words : Words) (at : ℕ) → length words ≤ at → drop at (texts words) ≡ []
no_word words at past = drop_all at (texts words) (omega (arith, length-map words string_bytes))

value_cut : (tool : Tool) (at skip : ℕ) (word : List ℕ) (rest : List (List ℕ)) → 0 < skip → cut_words tool at skip (word ∷ rest) ≡ cut_words tool (at + 1) (skip - 1) rest
value_cut tool at zero word rest some = absurd (omega arith)
value_cut tool at (suc skip) word rest some = ap (λ (n : ℕ). cut_words tool (at + 1) n rest) (omega arith)

-- the next word is a value
pub value_next : (tool : Tool) (at skip left : ℕ) (words : Words) (before now all : List Piece) → 0 < skip → at < length words → left ≡ skip - 1 → now ≡ before
    → before ++ cut_words tool at skip (drop at (texts words)) ≡ all → now ++ cut_words tool (at + 1) left (drop (at + 1) (texts words)) ≡ all
value_next tool at skip left words before now all some within is same so_far =
    ap (λ (ps : List Piece). ps ++ cut_words tool (at + 1) left (drop (at + 1) (texts words))) same
    ∙ ap (λ (n : ℕ). before ++ cut_words tool (at + 1) n (drop (at + 1) (texts words))) is
    ∙ ap (λ (ps : List Piece). before ++ ps) (sym (ap (cut_words tool at skip) (next_word words at within) ∙ value_cut tool at skip _ _ some))
    ∙ so_far

abbrev pub piece_at : Tool → ℕ → List (List ℕ) → Piece
piece_at tool at texts = record { at = at; flag = flag_named tool (word_at texts at) }

-- the next word is an option, or should be
pub option_next : (tool : Tool) (at skip left : ℕ) (words : Words) (before now all : List Piece) → skip ≤ 0 → at < length words
    → left ≡ values_after (flag_named tool (word_at (texts words) at)) (drop (at + 1) (texts words)) → now ≡ before ++ piece_at tool at (texts words) ∷ []
    → before ++ cut_words tool at skip (drop at (texts words)) ≡ all → now ++ cut_words tool (at + 1) left (drop (at + 1) (texts words)) ≡ all
option_next tool at skip left words before now all none within is more so_far =
    let zero_left : skip ≡ 0 = omega arith in
    ap (λ (ps : List Piece). ps ++ cut_words tool (at + 1) left (drop (at + 1) (texts words))) more
    ∙ append_assoc before (piece_at tool at (texts words) ∷ []) (cut_words tool (at + 1) left (drop (at + 1) (texts words)))
    ∙ ap (λ (n : ℕ). before ++ (piece_at tool at (texts words) ∷ cut_words tool (at + 1) n (drop (at + 1) (texts words)))) is
    ∙ ap (λ (ps : List Piece). before ++ ps) (sym (ap (cut_words tool at 0) (next_word words at within)))
    ∙ ap (λ (n : ℕ). before ++ cut_words tool at n (drop at (texts words))) (sym zero_left)
    ∙ so_far

-- one option more, within the words
pub within_more : (count : ℕ) (piece : Piece) (before now : List Piece) → now ≡ before ++ piece ∷ [] → All (λ p. p.at < count) before → piece.at < count → All (λ p. p.at < count) now
within_more count piece before now more all inside =
    let P : List Piece → Type 0 = λ ps. All (λ p. p.at < count) ps in
    subst P (sym more) (All-push (λ (p : Piece). p.at < count) before piece all inside)

pub within_still : (count : ℕ) (before now : List Piece) → now ≡ before → All (λ p. p.at < count) before → All (λ p. p.at < count) now
within_still count before now same all = let P : List Piece → Type 0 = λ ps. All (λ p. p.at < count) ps in subst P (sym same) all
