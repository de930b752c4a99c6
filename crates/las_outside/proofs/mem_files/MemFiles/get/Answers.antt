use Rattle.std.proofs.Common.{◌≡◌, List, ℕ, Option, Some, None, MatchOption, sym, ap, subst}
use Rattle.las_outside.proofs.ByName.{found_bytes, absent_bytes}
use Rattle.las_outside.proofs.mem_files.MemFiles.get.Goals as goal

pub returns-in-Some : goal.returns-in-Some
returns-in-Some c =
    let first = rw c.deref.ensures.value at (c.in-Some.ensures) in
    let is = found_bytes _ _ _ _ first c.index.ensures c.args.self.now.files (ap (λ m. m.files) c.self.view_is) in
    subst (λ (o : Option (List ℕ)). MatchOption c.bytes.result (o ≡ None) (λ b. o ≡ Some b.now)) (sym is) c.bytes.ensures

pub returns-in-None : goal.returns-in-None
returns-in-None c = absent_bytes _ _ (rw c.deref.ensures.value at (c.in-None.ensures)) _ (ap (λ m. m.files) c.self.view_is)
