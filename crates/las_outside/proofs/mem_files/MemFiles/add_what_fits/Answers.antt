use Rattle.std.proofs.Common.{◌-◌, List, [], ◌++◌, ℕ, length, take, Option, Some, unwrap_or, sym, ap, ◌∙◌}
use Rattle.std.specs.FinMap as map
use Rattle.las_outside.proofs.Rooms.{held_with, not_missing}
use Rattle.las_outside.proofs.ByName.{found_bytes, found_room, files_changed, rooms_kept, absent_bytes}
use Rattle.las_outside.proofs.mem_files.MemFiles.add_what_fits.Goals as goal

pub append-requires : goal.append-requires
append-requires c =
    let first = rw c.deref.ensures.value at (c.in-Some.ensures) in
    let is = found_bytes _ _ _ _ first c.index_mut.ensures.value c.args.self.now.files (ap (λ m. m.files) c.self.view_is) in
    (held_with _ _ (λ _. Unit {0}) is c.requires).0

pub unreachable-requires : goal.unreachable-requires
unreachable-requires c =
    not_missing _ _ (absent_bytes _ _ (rw c.deref.ensures.value at (c.in-None.ensures)) c.args.self.now.files (ap (λ m. m.files) c.self.view_is)) c.requires

pub returns-clause-files : goal.returns-clause-files
returns-clause-files c =
    let first = rw c.deref.ensures.value at (c.in-Some.ensures) in
    let same_files = ap (λ m. m.files) c.self.view_is in
    let is = found_bytes _ _ _ _ first c.index_mut.ensures.value c.args.self.now.files same_files in
    let had = found_room _ _ _ _ first c.index_mut.ensures.value c.args.self.now.rooms (ap (λ m. m.rooms) c.self.view_is) in
    let old = map.get c.args.self.now.files c.args.name.now in
    let holds = c.append.ensures.bytes
    ∙ ap (λ (o : Option (List ℕ)). Some (unwrap_or o [] ++ take (c.index_mut.result.now.room - length (unwrap_or o [])) c.args.bytes.now)) (sym is)
    ∙ ap (λ (r : Option ℕ). Some (unwrap_or old [] ++ take (unwrap_or r 0 - length (unwrap_or old [])) c.args.bytes.now)) (sym had) in
    files_changed _ _ _ _ first c.index_mut.ensures.value _ c.append.new.self _ same_files c.append.ensures.name holds

pub returns-clause-all : goal.returns-clause-all
returns-clause-all c =
    let first = rw c.deref.ensures.value at (c.in-Some.ensures) in
    let is = found_bytes _ _ _ _ first c.index_mut.ensures.value c.args.self.now.files (ap (λ m. m.files) c.self.view_is) in
    let had = found_room _ _ _ _ first c.index_mut.ensures.value c.args.self.now.rooms (ap (λ m. m.rooms) c.self.view_is) in
    rw (is, had) c.append.ensures.all

pub returns-clause-rooms : goal.returns-clause-rooms
returns-clause-rooms c =
    let first = rw c.deref.ensures.value at (c.in-Some.ensures) in
    rooms_kept _ _ _ _ first c.index_mut.ensures.value _ c.append.new.self (ap (λ m. m.rooms) c.self.view_is) c.append.ensures.name c.append.ensures.room
