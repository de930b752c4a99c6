use Rattle.std.proofs.Common.{◌≡◌, ◌-◌, List, [], ◌++◌, ℕ, length, take, Option, Some, unwrap_or, max, ap, ◌∙◌, arith}
use Rattle.std.proofs.lemmas.List.{take_all}
use Rattle.std.specs.FinMap as map
use Rattle.las_outside.specs.MemFiles.{room_of}
use Rattle.las_outside.proofs.ByName.{get-insert_same, found_room, files_changed, rooms_kept, absent_room}
use Rattle.las_outside.proofs.mem_files.MemFiles.put_file.Goals as goal

pub unreachable-requires : goal.unreachable-requires
unreachable-requires c =
    let none = absent_room _ _ (rw c.deref.ensures.value at (c.in-None.ensures)) c.prepare.new.self.rooms (ap (λ m. m.rooms) c.self.view_is) in
    let some = ap (λ m. map.get m c.args.name.now) c.in_ok-prepare.ensures.ok ∙ get-insert_same c.args.self.now.rooms c.args.name.now (max (room_of c.args.self.now.rooms c.args.name.now) (length c.args.bytes.now)) in
    cc (none, some)

pub returns-clause-ok : goal.returns-clause-ok
returns-clause-ok c =
    let first = rw c.deref.ensures.value at (c.in-Some.ensures) in
    let room = max (room_of c.args.self.now.rooms c.args.name.now) (length c.args.bytes.now) in
    let had = found_room _ _ _ _ first c.index_mut-room.ensures.value c.prepare.new.self.rooms (ap (λ m. m.rooms) c.self.view_is) in
    let has = ap (λ m. map.get m c.args.name.now) c.in_ok-prepare.ensures.ok ∙ get-insert_same c.args.self.now.rooms c.args.name.now room in
    let wide : c.index_mut-room.result.now.room ≡ room = cc (had, has) in
    let holds = c.append.ensures.bytes
    ∙ ap (λ (o : Option (List ℕ)). Some (unwrap_or o [] ++ take (c.create.new.self.room - length (unwrap_or o [])) c.args.bytes.now)) c.create.ensures.bytes
    ∙ ap (λ (t : List ℕ). Some t) (take_all (c.create.new.self.room - 0) c.args.bytes.now (omega (arith, wide, c.create.ensures.room))) in
    files_changed _ _ _ _ first c.index_mut-room.ensures.value _ c.append.new.self _ (ap (λ m. m.files) c.self.view_is) (c.append.ensures.name ∙ c.create.ensures.name) holds
    ∙ ap (λ m. map.insert m c.args.name.now c.args.bytes.now) c.in_ok-prepare.ensures.files

pub returns-clause-room : goal.returns-clause-room
returns-clause-room c =
    let first = rw c.deref.ensures.value at (c.in-Some.ensures) in
    rooms_kept _ _ _ _ first c.index_mut-room.ensures.value _ c.append.new.self (ap (λ m. m.rooms) c.self.view_is) (c.append.ensures.name ∙ c.create.ensures.name) (c.append.ensures.room ∙ c.create.ensures.room)
    ∙ c.in_ok-prepare.ensures.ok
