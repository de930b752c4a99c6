-- Parts that are finished or stopped one after another, as a loop over their writers goes.
use Rattle.std.proofs.Common.{◌≡◌, ℕ, ◌≤◌, false, get_or, reverse, List, [], ◌∷◌, ◌++◌, length, take, drop, Option, ◌∙◌, ap, arith}
use Rattle.las_outside.specs.Files.{FileMap}
use Rattle.las_outside.specs.Outside.{Outside}
use Rattle.laz_writer.specs.Writing.{Stands, WriterSeen}
use Rattle.las_split.specs.Files.{with_files}
use Rattle.las_split.specs.Parts.{numbers_of_parts}
use Rattle.las_split.specs.Sorting.{InParts, SplitTask, bytes_at, output_at}
use Rattle.las_split.proofs.Changing.{texts}
use Rattle.las_split.proofs.EndingParts.{EndedSo, emptied, ended_first, ended_last, more, next_held, next_is, put_back}
use Rattle.las_split.proofs.SomeRecords.{some_opened}
use Rattle.las_split.proofs.Standing.{stands_here, writers_length}

-- a writer is the next, and stands for its part
pub record IsNext (task : SplitTask) (records : List (List ℕ)) (number : ℕ) (now : Outside) (w : WriterSeen) : Type 0 where
  pub sound : w.failed ≡ false
  pub stands : Stands now now w (output_at task number) (bytes_at task records number)
  pub some : 1 ≤ length records

module _ (task : SplitTask) (done : ℕ → List ℕ) (was : Option FileMap) (ns : List ℕ) (ws : List WriterSeen)
    (records : List (List ℕ)) where
  -- none is ended, and the writers were turned around
  pub none_ended : (now : Option FileMap) (given turned : List WriterSeen) (len : ℕ)
      → InParts task was now ns ws records records → len ≡ length ws → given ≡ ws → length turned ≡ length given
      → turned ≡ reverse given
      → EndedSo task done was now ns ws (take len (turned ++ drop (length turned) ws)) records
  none_ended now given turned len i all value long after =
      let same : length turned ≡ length ws = long ∙ ap (λ (t : List WriterSeen). length t) value in
      ended_first task done was now ns ws records (take len (turned ++ drop (length turned) ws)) i
      (put_back ws turned len all same ∙ after ∙ ap reverse value)

  -- no writer is left
  pub all_ended : (now : Option FileMap) (rest others : List WriterSeen) → EndedSo task done was now ns ws rest records
      → rest ≡ others ++ [] → length others ≡ 0
      → now ≡ with_files was (texts task done (numbers_of_parts task.rule records))
  all_ended now rest others e items none =
      ended_last task done was now ns ws records rest (emptied rest others items none) e
      ∙ ap (λ (ms : List ℕ). with_files was (texts task done ms)) e.began.numbers_are

  pub next_part : (now : Outside) (rest others : List WriterSeen) (w : WriterSeen)
      (e : EndedSo task done was now.held ns ws rest records) → rest ≡ others ++ w ∷ []
      → IsNext task records (get_or ns e.place 0) now w
  next_part now rest others w e popped =
      let n = get_or ns e.place 0 in
      let is = next_is task done was now.held ns ws records rest others w e popped in
      let past = more task done was now.held ns ws records rest others w e popped in
      let same = writers_length task (bytes_at task records) ns ws e.began.writers_are in
      let count : 1 ≤ length ws = omega (arith, past, same) in
      record {
        sound = is.sound;
        stands = stands_here task n w (bytes_at task records n) now is
            (next_held task done was now.held ns ws records rest others w e popped);
        some = some_opened task was e.parts ns ws records records e.began count;
      }
