-- A writer that takes the records of a reader.
use Rattle.std.proofs.Common.{◌≡◌, ◌≢◌, ℕ, ◌+◌, ◌*◌, ◌%◌, ◌≤◌, false, List, [], ◌++◌, length, refl, sym, ◌∙◌, ap, subst, length-append, arith}
use Rattle.las_outside.specs.Frames.{OnlyReads}
use Rattle.las_outside.specs.Outside.{Outside}
use Rattle.laz_file.specs.Copying.{CanTake, HasRoomFor, HasTaken, Takes, with_reads}
use Rattle.laz_reader.specs.Reading.{ReaderSeen, records_in}
use Rattle.laz_reader.specs.Turns.{MayCome, file_at}
use Rattle.laz_writer.specs.Writing.{IsBegun, WriterSeen}
use Rattle.laz_writer.proofs.Public.{held_text}
use Rattle.laz_file.proofs.Taking.{file_beside, takes_none, takes_read, takes_then}

-- it has taken none yet
pub taken_none : (writer : WriterSeen) (now : Outside) → writer.failed ≡ false → IsBegun now writer → HasTaken writer writer now now []
taken_none writer now sound begun = record { begun = begun; sound = sound; most = refl; takes = takes_none now writer }

module _ (first now : WriterSeen) (old mid : Outside) (records : List ℕ) (t : HasTaken first now old mid records) where
  -- reads between two blocks
  pub read_between : (new : Outside) → OnlyReads mid new → HasTaken first now old new records
  read_between new only = record { begun = t.begun; sound = t.sound; most = t.most; takes = takes_read old mid new first now records only.held only.writes t.takes }

  pub begun_now : IsBegun mid now
  begun_now = let s = t.begun in (with_reads s.0 mid, s.1, s.2 ++ records, t.takes s.0 s.1 s.2 s.3)

  pub same_size : now.size ≡ first.size
  same_size = let s = t.begun in (t.takes s.0 s.1 s.2 s.3).size ∙ sym s.3.size

  pub even_now : (block : List ℕ) → HasRoomFor first records block → length block % now.size ≡ 0
  even_now block room = subst (λ (n : ℕ). length block % n ≡ 0) (sym same_size) room.whole

  pub room_now : (block : List ℕ) → HasRoomFor first records block → now.taken + length block ≤ now.size * now.most
  room_now block room =
      let s = t.begun in
      let taken : now.taken ≡ first.taken + length records = (t.takes s.0 s.1 s.2 s.3).taken ∙ length-append s.2 records ∙ ap (λ (n : ℕ). n + length records) (sym s.3.taken) in
      let size : now.size * now.most ≡ first.size * first.most = ap (λ (n : ℕ). n * now.most) same_size ∙ ap (λ (n : ℕ). first.size * n) t.most in
      omega (arith, room.room, taken, size)

  pub takes_block : (new : WriterSeen) (later : Outside) (block : List ℕ) → new.failed ≡ false → new.most ≡ now.most → Takes mid later now new block → HasTaken first new old later (records ++ block)
  takes_block new later block sound most takes =
      record { begun = t.begun; sound = sound; most = most ∙ t.most; takes = takes_then old mid later first now new records block t.takes takes }

  -- a file of another name is as it was
  pub taken_apart : (name : List ℕ) → name ≢ first.name → file_at mid.held name ≡ file_at old.held name
  taken_apart name ne =
      let s = t.begun in
      let one = held_text s.0 old first s.1 s.2 s.3 in
      let two = held_text (with_reads s.0 mid) mid now s.1 (s.2 ++ records) (t.takes s.0 s.1 s.2 s.3) in
      let other : name ≢ s.1.name = λ e. ne (e ∙ sym s.3.named) in
      ap (λ (o : Outside). file_at o.held name) two.1 ∙ file_beside s.0.held s.1.name two.0 name other
      ∙ sym (ap (λ (o : Outside). file_at o.held name) one.1 ∙ file_beside s.0.held s.1.name one.0 name other)

pub room_for_all : (reader : ReaderSeen) (writer : WriterSeen) → CanTake reader writer → (records block : List ℕ) → MayCome reader records block → HasRoomFor writer records block
room_for_all reader writer can records block come = record {
  whole = subst (λ (n : ℕ). length block % n ≡ 0) (sym can.size) come.whole;
  room =
      let all = subst (λ (n : ℕ). length records + length block ≤ n * records_in reader.left) (sym can.size) come.within in
      omega (arith, can.room, all);
}
