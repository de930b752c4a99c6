use Rattle.std.proofs.Common.{◌+◌, ◌≤◌, List, [], ℕ, length, Option, Some, unwrap_or, sym, ap, ◌∙◌}
use Rattle.las_outside.specs.Files.{with_patch}
use Rattle.las_outside.proofs.Rooms.{held_with, not_missing}
use Rattle.las_outside.proofs.ByName.{found_bytes, files_changed, rooms_kept, absent_bytes}
use Rattle.las_outside.proofs.mem_files.MemFiles.replace.Goals as goal

pub patch-requires-clause-held : goal.patch-requires-clause-held
patch-requires-clause-held c =
    let first = rw c.deref.ensures.value at (c.in-Some.ensures) in
    let is = found_bytes _ _ _ _ first c.index_mut.ensures.value c.args.self.now.files (ap (λ m. m.files) c.self.view_is) in
    (held_with _ _ (λ old. c.args.pos + length c.args.bytes.now ≤ length old) is c.requires).0

pub patch-requires-clause-within : goal.patch-requires-clause-within
patch-requires-clause-within c =
    let first = rw c.deref.ensures.value at (c.in-Some.ensures) in
    let is = found_bytes _ _ _ _ first c.index_mut.ensures.value c.args.self.now.files (ap (λ m. m.files) c.self.view_is) in
    (held_with _ _ (λ old. c.args.pos + length c.args.bytes.now ≤ length old) is c.requires).1

pub unreachable-requires : goal.unreachable-requires
unreachable-requires c =
    not_missing _ _ (absent_bytes _ _ (rw c.deref.ensures.value at (c.in-None.ensures)) c.args.self.now.files (ap (λ m. m.files) c.self.view_is)) c.requires

pub returns-clause-files : goal.returns-clause-files
returns-clause-files c =
    let first = rw c.deref.ensures.value at (c.in-Some.ensures) in
    let same_files = ap (λ m. m.files) c.self.view_is in
    let is = found_bytes _ _ _ _ first c.index_mut.ensures.value c.args.self.now.files same_files in
    let holds = c.patch.ensures.bytes ∙ ap (λ (o : Option (List ℕ)). Some (with_patch (unwrap_or o []) c.args.pos c.args.bytes.now)) (sym is) in
    files_changed _ _ _ _ first c.index_mut.ensures.value _ c.patch.new.self _ same_files c.patch.ensures.name holds

pub returns-clause-rooms : goal.returns-clause-rooms
returns-clause-rooms c =
    let first = rw c.deref.ensures.value at (c.in-Some.ensures) in
    rooms_kept _ _ _ _ first c.index_mut.ensures.value _ c.patch.new.self (ap (λ m. m.rooms) c.self.view_is) c.patch.ensures.name c.patch.ensures.room
