use Rattle.std.proofs.Common.{◌≡◌, ℕ, max, Option, unwrap_or, sym, ap, ◌∙◌, arith}
use Rattle.std.proofs.lemmas.Result.{on_ok_weaker, on_err_weaker}
use Rattle.std.specs.FinMap as map
use Rattle.las_outside.proofs.ByName.{found_room, files_kept, rooms_changed, rooms_kept, absent_room, files_after_push, rooms_after_push}
use Rattle.las_outside.proofs.mem_files.MemFiles.prepare.Goals as goal

max_zero : (n : ℕ) → max 0 n ≡ n
max_zero n = omega arith

pub returns-in-Some-clause-files : goal.returns-in-Some-clause-files
returns-in-Some-clause-files c =
    let first = rw c.deref.ensures.value at (c.in-Some.ensures) in
    files_kept _ _ _ _ first c.index_mut.ensures.value _ c.widen.new.self (ap (λ m. m.files) c.self.view_is) c.widen.ensures.name c.widen.ensures.bytes

pub returns-in-Some-clause-ok : goal.returns-in-Some-clause-ok
returns-in-Some-clause-ok c =
    let first = rw c.deref.ensures.value at (c.in-Some.ensures) in
    let same_rooms = ap (λ m. m.rooms) c.self.view_is in
    let had = found_room _ _ _ _ first c.index_mut.ensures.value _ same_rooms in
    on_ok_weaker c.widen.result (λ is.
    rooms_changed _ _ _ _ first c.index_mut.ensures.value _ c.widen.new.self _ same_rooms c.widen.ensures.name (is ∙ ap (λ (o : Option ℕ). max (unwrap_or o 0) c.args.room) (sym had))) c.widen.ensures.ok

pub returns-in-Some-clause-err : goal.returns-in-Some-clause-err
returns-in-Some-clause-err c =
    let first = rw c.deref.ensures.value at (c.in-Some.ensures) in
    on_err_weaker c.widen.result (λ is.
    rooms_kept _ _ _ _ first c.index_mut.ensures.value _ c.widen.new.self (ap (λ m. m.rooms) c.self.view_is) c.widen.ensures.name is) c.widen.ensures.err

pub returns-in_ok-push-in-None-clause-files : goal.returns-in_ok-push-in-None-clause-files
returns-in_ok-push-in-None-clause-files c =
    files_after_push _ _ (rw c.deref.ensures.value at (c.in-None.ensures)) _ c.in_ok-made-in-None.made _ (ap (λ m. m.files) c.self.view_is) c.in_ok-push-in-None.ensures.items c.in_ok-made-in-None.ensures.0 c.in_ok-made-in-None.ensures.2

pub returns-in_ok-push-in-None-clause-ok : goal.returns-in_ok-push-in-None-clause-ok
returns-in_ok-push-in-None-clause-ok c =
    let none = rw c.deref.ensures.value at (c.in-None.ensures) in
    let same_rooms = ap (λ m. m.rooms) c.self.view_is in
    let had = absent_room _ _ none _ same_rooms in
    let wide : c.in_ok-made-in-None.made.room ≡ max (unwrap_or (map.get c.args.self.now.rooms c.args.name.now) 0) c.args.room =
    c.in_ok-made-in-None.ensures.1 ∙ sym (max_zero c.args.room) ∙ ap (λ (o : Option ℕ). max (unwrap_or o 0) c.args.room) (sym had) in
    rooms_after_push _ _ none _ c.in_ok-made-in-None.made _ _ same_rooms c.in_ok-push-in-None.ensures.items c.in_ok-made-in-None.ensures.0 wide
