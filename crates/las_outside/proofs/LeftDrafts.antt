-- Lines about drafts that are left after a run that failed.
use Rattle.std.proofs.Common.{◌≡◌, inr, ℕ, ◌-◌, Bool, false, List, refl, sym, subst, codes, arith}
use Rattle.las_outside.specs.LeftDrafts.{SaysOfDraft, SaysOfDrafts, line_of_path}
use Rattle.las_outside.specs.Sinks.{SinkView, Puts}

-- nothing is said of no draft
pub none_said : (keep : Bool) (first : ℕ) (sink : SinkView) → SaysOfDrafts keep (first - first) sink sink
none_said keep first sink =
    let none : 0 ≡ first - first = omega arith in
    subst (λ (drafts : ℕ). SaysOfDrafts keep drafts sink sink) none refl

-- as many drafts, counted in another way
pub said_of : (keep : Bool) (begun begun_now moved moved_now : ℕ) (told now : SinkView) → begun_now ≡ begun → moved_now ≡ moved → SaysOfDrafts keep (begun_now - moved) told now → SaysOfDrafts keep (begun - moved_now) told now
said_of keep begun begun_now moved moved_now told now same_begun same_moved said =
    let same : begun_now - moved ≡ begun - moved_now = omega (arith, same_begun, same_moved) in
    subst (λ (drafts : ℕ). SaysOfDrafts keep drafts told now) same said

-- a draft that is not kept and could not be removed
pub not_removed : (keep : Bool) (path : List ℕ) (old new : SinkView) → keep ≡ false → Puts (line_of_path (codes "not removed: ") path) old new → SaysOfDraft keep old new
not_removed keep path old new not_kept put =
    subst (λ (k : Bool). SaysOfDraft k old new) (sym not_kept) (inr (path, put))
