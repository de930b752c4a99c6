use Rattle.std.proofs.Common.{is_some, refl, sym, ◌∙◌, ap}
use Rattle.las_outside.proofs.ByName.{found_room, files_changed, rooms_kept, absent_room}
use Rattle.las_outside.proofs.mem_files.MemFiles.make_empty.Goals as goal

pub returns-in-Some-clause-room : goal.returns-in-Some-clause-room
returns-in-Some-clause-room c =
    let first = rw c.deref.ensures.value at (c.in-Some.ensures) in
    let had = found_room _ _ _ _ first c.index_mut.ensures.value _ (ap (λ m. m.rooms) c.self.view_is) in
    (λ _. ap is_some had, λ _. refl)

pub returns-in-Some-clause-made : goal.returns-in-Some-clause-made
returns-in-Some-clause-made c =
    let first = rw c.deref.ensures.value at (c.in-Some.ensures) in
    λ _. files_changed _ _ _ _ first c.index_mut.ensures.value _ c.create.new.self _ (ap (λ m. m.files) c.self.view_is) c.create.ensures.name c.create.ensures.bytes

pub returns-in-Some-clause-rooms : goal.returns-in-Some-clause-rooms
returns-in-Some-clause-rooms c =
    let first = rw c.deref.ensures.value at (c.in-Some.ensures) in
    rooms_kept _ _ _ _ first c.index_mut.ensures.value _ c.create.new.self (ap (λ m. m.rooms) c.self.view_is) c.create.ensures.name c.create.ensures.room

pub returns-in-None-clause-room : goal.returns-in-None-clause-room
returns-in-None-clause-room c =
    let none = absent_room _ _ (rw c.deref.ensures.value at (c.in-None.ensures)) _ (ap (λ m. m.rooms) c.self.view_is) in
    (λ t. absurd (cc t), λ some. absurd (let other = sym (ap is_some none) ∙ some in cc))
