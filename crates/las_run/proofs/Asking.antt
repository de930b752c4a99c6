-- How many bytes a command asks for, by what its calls say of a reader.
use Rattle.std.proofs.Common.{◌≡◌, ℕ, ◌+◌, ◌-◌, ◌^◌, ◌≤◌, min, List, drop, Option, Some, None, IsSomeAnd, Result, Ok, Err, refl, sym, ◌∙◌, ap, subst, arith, Bool, true, false}
use Rattle.std.specs.FinMap as finmap
use Rattle.std.proofs.lemmas.Option.{none-some}
use Rattle.las_header.specs.Fields.{head_of, points_of}
use Rattle.las_header.specs.Heads.{HeadView, IsHead}
use Rattle.las_outside.specs.Files.{FileMap, IsMissing, WhereKnown}
use Rattle.las_outside.specs.Outside.{Outside}
use Rattle.las_thin.specs.declared.pick.Pick.{Pick}
use Rattle.las_thin.specs.declared.pick.Pick.TheVariants.{First, Lowest, Highest}
use Rattle.las_words.specs.declared.command.Command.{Command}
use Rattle.las_words.specs.declared.command.WordFault.{WordFault}
use Rattle.las_words.specs.declared.command.WordFault.TheVariants as fault
use Rattle.las_words.specs.Asked.{Asked, Las2lasOptions, LasmergeOptions, OneInput, Work, asked_by, las2las, lasinfo, lasmerge, lassplit, laszip, reads, work_by}
use Rattle.las_words.specs.Says.{Said, asks, usage}
use Rattle.laz_reader.specs.Asking.{AsksAtMost, asked_for_pieces, asked_in, asked_to_open, bytes_left}
use Rattle.laz_forms.specs.Packing.{record_layout}
use Rattle.laz_forms.specs.Pieces.{ArePieces, Piece}
use Rattle.laz_forms.specs.Ranges.{Range, parts_of}
use Rattle.laz_reader.specs.Reading.{IsNewReader, ReaderSeen, StandsFor, chunk_of}
use Rattle.laz_reader.proofs.Public.{if_less}
use Rattle.laz_forms.proofs.Public.{known_three, one_pieces, refused_once, known_then}
use Rattle.las_run.specs.Asking.{AsksFor, AsksOf, AsksToMerge, AsksToMergeIf, AsksWhole, TakesAll, WorkAsks, in_first_reading, in_readings}
use Rattle.las_run.specs.Ends.{IsRead}
use Rattle.las_run.specs.Tools.{range_in}
use Rattle.las_run.proofs.Opening.{both_known}

-- a name that is not missing
where_there : (held : Option FileMap) (name : List ℕ) (P : List ℕ → Type 0) → ((file : List ℕ) → P file) → (IsMissing held name → ⊥) → WhereKnown held name P
where_there None name P all there = tt
where_there (Some files) name P all there = by (finmap.get files name) refl
  where
    by : (o : Option (List ℕ)) → finmap.get files name ≡ o → IsSomeAnd o P
    by None is = absurd (there is)
    by (Some file) is = all file

pub not_missing : {X : Type 0} (held : Option FileMap) (name : List ℕ) (P : List ℕ → Type 0) → WhereKnown held name P → IsMissing held name → X
not_missing None name P known missing = absurd missing
not_missing (Some files) name P known missing = absurd (subst (λ (o : Option (List ℕ)). IsSomeAnd o P) missing known)

-- two readings ask for no less than one
in_one : (pick : Pick) (opening more : ℕ) → opening ≤ in_readings pick (opening + more)
in_one First opening more = omega arith
in_one Lowest opening more = omega arith
in_one Highest opening more = omega arith

-- from what is known of the input, or of none
by_input : (input : List ℕ) (pick : Pick) (start stop : ℕ) (old new : Outside) → (IsMissing old.held input → new.asked ≡ old.asked)
    → ((IsMissing old.held input → ⊥) → WhereKnown old.held input (λ file. AsksOf (Some file) pick start stop old new)) → AsksFor input pick start stop old new
by_input input pick start stop old new missing there known held = by (finmap.get known input) refl
  where
    not_both : (o : Option (List ℕ)) (file : List ℕ) → o ≡ Some file → o ≡ None → ⊥
    not_both o file is none = absurd (cc)

    of_some : (o : Option (List ℕ)) (file : List ℕ) → o ≡ Some file → IsSomeAnd o (λ file. AsksOf (Some file) pick start stop old new) → AsksOf (Some file) pick start stop old new
    of_some None file is p = absurd p
    of_some (Some other) file is p = let same : other ≡ file = cc in subst (λ (f : List ℕ). AsksOf (Some f) pick start stop old new) same p

    by : (o : Option (List ℕ)) → finmap.get known input ≡ o → AsksOf o pick start stop old new
    by None is = missing (subst (λ (h : Option FileMap). IsMissing h input) (sym held) is)
    by (Some file) is =
        let here : IsMissing old.held input → ⊥ = λ gone. not_both (finmap.get known input) file is (subst (λ (h : Option FileMap). IsMissing h input) held gone) in
        of_some (finmap.get known input) file is (subst (λ (h : Option FileMap). WhereKnown h input (λ file. AsksOf (Some file) pick start stop old new)) held (there here))

-- an input that could not be opened
pub asks_opening : (input : List ℕ) (pick : Pick) (start stop : ℕ) (old new : Outside) → (IsMissing old.held input → new.asked ≡ old.asked)
    → ((IsMissing old.held input → ⊥) → WhereKnown old.held input (λ file. AsksAtMost (asked_to_open file) old new)) → AsksFor input pick start stop old new
asks_opening input pick start stop old new missing opened =
    by_input input pick start stop old new missing (λ there. known_then old.held input (λ file. AsksAtMost (asked_to_open file) old new) (λ file. AsksOf (Some file) pick start stop old new) (λ file most. (λ cause is. most, λ pieces are. let less = in_one pick (asked_to_open file) (asked_in file (parts_of file (range_in start stop file) pieces)) in omega (arith, most, less))) (opened there))

-- no file that was asked for anything
pub asks_nothing : (input : List ℕ) (pick : Pick) (start stop : ℕ) (old new : Outside) → new ≡ old → AsksFor input pick start stop old new
asks_nothing input pick start stop old new same =
    let none : new.asked ≡ old.asked = ap (λ (o : Outside). o.asked) same in
    by_input input pick start stop old new (λ missing. none) (where_there old.held input (λ file. AsksOf (Some file) pick start stop old new) (λ file. (λ cause is. omega (arith, none), λ pieces are. omega (arith, none))))

-- what a reader that has read nothing has left, as pieces of its file
pub left_bytes : (reader : ReaderSeen) (file : List ℕ) (pieces : List Piece) (start stop : ℕ) → StandsFor reader file → reader.next ≡ reader.first
    → reader.range ≡ record { start = min start (points_of reader.head.bytes); stop = min stop (points_of reader.head.bytes) } → ArePieces file pieces
    → bytes_left reader ≤ asked_in file (parts_of file (range_in start stop file) pieces)
left_bytes reader file pieces start stop s unread range are =
    let head : reader.head.bytes ≡ head_of file = ap (λ (v : HeadView). v.bytes) s.head in
    let range_at : List ℕ → Range = λ b. record { start = min start (points_of b); stop = min stop (points_of b) } in
    let is : reader.range ≡ range_in start stop file = range ∙ ap range_at head in
    let none : reader.next - reader.first ≡ 0 = omega (arith, unread) in
    let left : reader.left ≡ parts_of file (range_in start stop file) pieces =
    s.left
    ∙ ap (λ (n : ℕ). drop n (parts_of file reader.range s.pieces)) none
    ∙ ap (λ (r : Range). parts_of file r s.pieces) is
    ∙ ap (parts_of file (range_in start stop file)) (one_pieces file s.pieces pieces s.are are) in
    let asked : Option ℕ → List ℕ → ℕ = λ chunk bytes. asked_for_pieces chunk (record_layout bytes) reader.left in
    let whole : asked reader.chunk reader.head.bytes ≡ asked_in file (parts_of file (range_in start stop file) pieces) =
    ap (λ (c : Option ℕ). asked c reader.head.bytes) s.chunk ∙ ap (asked (chunk_of (head_of file))) head ∙ ap (asked_in file) left in
    let less = if_less reader.bad (asked reader.chunk reader.head.bytes) in
    omega (arith, whole, less)

-- the bytes of the readings: opening, a first reading if there are two, and the last one
in_all : (pick : Pick) (opening more : ℕ) → opening + (in_first_reading pick (opening + more) + more) ≡ in_readings pick (opening + more)
in_all First opening more = omega arith
in_all Lowest opening more = omega arith
in_all Highest opening more = omega arith

-- an input that was opened
pub asks_both : (reader : ReaderSeen) (input : List ℕ) (pick : Pick) (start stop : ℕ) (old mid new : Outside) → WhereKnown old.held input (StandsFor reader)
    → ((IsMissing old.held input → ⊥) → WhereKnown old.held input (λ file. AsksAtMost (asked_to_open file) old mid))
    → WhereKnown old.held input (λ file. (pieces : List Piece) → ArePieces file pieces
    → AsksAtMost (in_first_reading pick (asked_to_open file + asked_in file (parts_of file (range_in start stop file) pieces))
    + asked_in file (parts_of file (range_in start stop file) pieces)) mid new)
    → AsksFor input pick start stop old new
asks_both reader input pick start stop old mid new stands opened rest =
    let more_of : (file : List ℕ) → List Piece → ℕ = λ file pieces. asked_in file (parts_of file (range_in start stop file) pieces) in
    let Opened : List ℕ → Type 0 = λ file. AsksAtMost (asked_to_open file) old mid in
    let Rest : List ℕ → Type 0 = λ file. (pieces : List Piece) → ArePieces file pieces → AsksAtMost (in_first_reading pick (asked_to_open file + more_of file pieces) + more_of file pieces) mid new in
    by_input input pick start stop old new (not_missing old.held input (StandsFor reader) stands) (λ there.
    known_three old.held input (StandsFor reader) Opened Rest (λ file. AsksOf (Some file) pick start stop old new)
    (λ file s front more. (
      λ cause is. absurd (none-some cause (refused_once file None (Some cause) s.accepted is)),
      λ pieces are.
          let last = more pieces are in
          let all = in_all pick (asked_to_open file) (more_of file pieces) in
          omega (arith, front, last, all),
    ))
    stands (opened there) rest)

-- what is asked for in a first reading, in which the input is opened again
in_first : (pick : Pick) (opening more looked again : ℕ) → (pick ≡ First → ⊥) → looked ≤ more → again ≤ opening → looked + again ≤ in_first_reading pick (opening + more)
in_first First opening more looked again twice a b = absurd (twice refl)
in_first Lowest opening more looked again twice a b = omega (arith, a, b)
in_first Highest opening more looked again twice a b = omega (arith, a, b)

-- A reader of a known file that has sought a range and read nothing.
module _ (reader : ReaderSeen) (input : List ℕ) (start stop : ℕ) (pick : Pick) (old : Outside) (stands : WhereKnown old.held input (StandsFor reader)) (unread : reader.next ≡ reader.first)
    (range : reader.range ≡ record { start = min start (points_of reader.head.bytes); stop = min stop (points_of reader.head.bytes) }) where
  abbrev more_in : (file : List ℕ) → List Piece → ℕ
  more_in file pieces = asked_in file (parts_of file (range_in start stop file) pieces)

  abbrev AsksIn : (new : Outside) → (most : List ℕ → List Piece → ℕ) → Type 0
  AsksIn new most = WhereKnown old.held input (λ file. (pieces : List Piece) → ArePieces file pieces → AsksAtMost (most file pieces) old new)

  -- it was looked through, perhaps not to the end
  pub asks_looking : (new : Outside) → (pick ≡ First → ⊥) → new.asked ≤ old.asked + bytes_left reader
      → AsksIn new (λ file pieces. in_first_reading pick (asked_to_open file + more_in file pieces))
  asks_looking new twice asked = known_then old.held input (StandsFor reader) _ (λ file s pieces are.
      let less = left_bytes reader file pieces start stop s unread range are in
      let none : 0 ≤ asked_to_open file = omega arith in
      let all = in_first pick (asked_to_open file) (more_in file pieces) (bytes_left reader) 0 twice less none in
      omega (arith, asked, all)) stands

  -- and then the input was opened again
  pub asks_again : (mid new : Outside) → (pick ≡ First → ⊥) → mid.held ≡ old.held → mid.asked ≤ old.asked + bytes_left reader
      → ((IsMissing mid.held input → ⊥) → WhereKnown mid.held input (λ file. AsksAtMost (asked_to_open file) mid new))
      → AsksIn new (λ file pieces. in_first_reading pick (asked_to_open file + more_in file pieces))
  asks_again mid new twice same asked opened =
      let Opened : List ℕ → Type 0 = λ file. AsksAtMost (asked_to_open file) mid new in
      let there : IsMissing mid.held input → ⊥ = λ missing. not_missing old.held input (StandsFor reader) stands (subst (λ (h : Option FileMap). IsMissing h input) same missing) in
      let again = subst (λ (h : Option FileMap). WhereKnown h input Opened) same (opened there) in
      known_then old.held input (λ file. StandsFor reader file × Opened file) _ (λ file h pieces are.
      let less = left_bytes reader file pieces start stop h.0 unread range are in
      let last = h.1 in
      let all = in_first pick (asked_to_open file) (more_in file pieces) (bytes_left reader) (asked_to_open file) twice less (omega arith) in
      omega (arith, asked, last, all)) (both_known old.held input (StandsFor reader) Opened stands again)

  -- and it was read, after what was asked for before
  pub asks_selected : (mid new : Outside) (before : List ℕ → List Piece → ℕ) → WhereKnown old.held input (λ file. (pieces : List Piece) → ArePieces file pieces → AsksAtMost (before file pieces) old mid)
      → new.asked ≤ mid.asked + bytes_left reader → AsksIn new (λ file pieces. before file pieces + more_in file pieces)
  asks_selected mid new before asked rest =
      let Before : List ℕ → Type 0 = λ file. (pieces : List Piece) → ArePieces file pieces → AsksAtMost (before file pieces) old mid in
      known_then old.held input (λ file. StandsFor reader file × Before file) _ (λ file h pieces are.
      let less = left_bytes reader file pieces start stop h.0 unread range are in
      let first = h.1 pieces are in
      omega (arith, first, rest, less)) (both_known old.held input (StandsFor reader) Before stands asked)

-- an input that was not read to the end
pub asks_stopped : (input : List ℕ) (start stop : ℕ) (pick : Pick) (old new : Outside)
    → WhereKnown old.held input (λ file. (pieces : List Piece) → ArePieces file pieces
    → AsksAtMost (in_first_reading pick (asked_to_open file + asked_in file (parts_of file (range_in start stop file) pieces))) old new)
    → WhereKnown old.held input (λ file. (pieces : List Piece) → ArePieces file pieces
    → AsksAtMost (in_first_reading pick (asked_to_open file + asked_in file (parts_of file (range_in start stop file) pieces)) + asked_in file (parts_of file (range_in start stop file) pieces)) old new)
asks_stopped input start stop pick old new asked = known_then old.held input _ _ (λ file h pieces are. let most = h pieces are in omega (arith, most)) asked

-- of words that were read: what the command asks, if what asks nothing is no exception
asks_by : (said : Said) (read : Result Command WordFault) (work : Work) (workers : ℕ) (old new : Outside)
    → IsRead said read → said ≡ asks (record { work = work; workers = workers })
    → ((f : WordFault) → read ≡ Err f → new ≡ old)
    → ((command : Command) → read ≡ Ok command → WorkAsks (work_by command) old new)
    → (new ≡ old → WorkAsks work old new) → WorkAsks work old new
asks_by said (Ok command) work workers old new is asked unread obeyed nothing =
    let same : asks (asked_by command) ≡ asks (record { work = work; workers = workers }) = sym is ∙ asked in
    subst (λ (w : Work). WorkAsks w old new) (same_work (asked_by command) (record { work = work; workers = workers }) same) (obeyed command refl)
  where
    same_work : (a b : Asked) → asks a ≡ asks b → a.work ≡ b.work
    same_work a b e = let inner : a ≡ b = cc in ap (λ (x : Asked). x.work) inner
asks_by said (Err (fault.Usage index)) work workers old new is asked unread obeyed nothing = absurd (apart (record { work = work; workers = workers }) index (sym asked ∙ is))
  where
    apart : (asked : Asked) (index : ℕ) → asks asked ≡ usage index → ⊥
    apart asked index e = absurd (cc)
asks_by said (Err fault.Memory) work workers old new is asked unread obeyed nothing = nothing (unread fault.Memory refl)

pub asks_read : (said : Said) (read : Result Command WordFault) (input : List ℕ) (options : Las2lasOptions) (workers : ℕ) (old new : Outside)
    → IsRead said read → said ≡ asks (record { work = reads input (las2las options); workers = workers })
    → ((f : WordFault) → read ≡ Err f → new ≡ old)
    → ((command : Command) → read ≡ Ok command → WorkAsks (work_by command) old new)
    → AsksFor input options.sieve.pick options.start options.stop old new
asks_read said read input options workers old new is asked unread obeyed =
    asks_by said read (reads input (las2las options)) workers old new is asked unread obeyed (asks_nothing input options.sieve.pick options.start options.stop old new)

-- of a merge
pub asks_merged : (said : Said) (read : Result Command WordFault) (options : LasmergeOptions) (workers : ℕ) (old new : Outside)
    → IsRead said read → said ≡ asks (record { work = lasmerge options; workers = workers })
    → ((f : WordFault) → read ≡ Err f → new ≡ old)
    → ((command : Command) → read ≡ Ok command → WorkAsks (work_by command) old new)
    → AsksToMerge options old new
asks_merged said read options workers old new is asked unread obeyed =
    asks_by said read (lasmerge options) workers old new is asked unread obeyed
    (λ same known held. by options.copy known (ap (λ (o : Outside). o.asked) same))
  where
    by : (copy : Bool) (known : FileMap) → new.asked ≡ old.asked → AsksToMergeIf copy known options.inputs old new
    by true known none = omega (arith, none)
    by false known none = λ asked bound. omega (arith, none)

-- of a command that was obeyed
pub asks_obeyed : (said : Result Command WordFault) (own command : Command) (old new : Outside) → said ≡ Ok own → said ≡ Ok command → WorkAsks (work_by own) old new → WorkAsks (work_by command) old new
asks_obeyed said own command old new is are work = subst (λ (x : Command). WorkAsks (work_by x) old new) (ok_same own command (sym is ∙ are)) work
  where
    ok_same : (a b : Command) → ◌≡◌ {A = Result Command WordFault} (Ok a) (Ok b) → a ≡ b
    ok_same a b e = cc

pub not_both : (said : Result Command WordFault) (command : Command) (f : WordFault) → said ≡ Ok command → said ≡ Err f → ⊥
not_both said command f is was = let clash : ◌≡◌ {A = Result Command WordFault} (Ok command) (Err f) = sym is ∙ was in absurd (cc)

-- the same of a command that takes all records of its input
pub asks_whole : (said : Said) (read : Result Command WordFault) (input : List ℕ) (own : OneInput) (workers : ℕ) (old new : Outside)
    → IsRead said read → said ≡ asks (record { work = reads input own; workers = workers })
    → ((f : WordFault) → read ≡ Err f → new ≡ old)
    → ((command : Command) → read ≡ Ok command → WorkAsks (work_by command) old new)
    → TakesAll own → AsksWhole input old new
asks_whole said read input (las2las options) workers old new is asked unread obeyed whole = absurd whole
asks_whole said read input (laszip options) workers old new is asked unread obeyed whole =
    asks_by said read (reads input (laszip options)) workers old new is asked unread obeyed (asks_nothing input First 0 (2 ^ 32 - 1) old new)
asks_whole said read input (lasinfo options) workers old new is asked unread obeyed whole =
    asks_by said read (reads input (lasinfo options)) workers old new is asked unread obeyed (asks_nothing input First 0 (2 ^ 32 - 1) old new)
asks_whole said read input (lassplit options) workers old new is asked unread obeyed whole =
    asks_by said read (reads input (lassplit options)) workers old new is asked unread obeyed (asks_nothing input First 0 (2 ^ 32 - 1) old new)

-- an input that was opened, and of which all records are read
pub asks_all : (reader : ReaderSeen) (input : List ℕ) (old mid new : Outside) → IsNewReader input reader → IsHead reader.head.bytes → WhereKnown old.held input (StandsFor reader)
    → ((IsMissing old.held input → ⊥) → WhereKnown old.held input (λ file. AsksAtMost (asked_to_open file) old mid)) → AsksAtMost (bytes_left reader) mid new → AsksWhole input old new
asks_all reader input old mid new fresh head stands opened rest =
    let points = points_of reader.head.bytes in
    let first : 0 ≡ min 0 points = omega arith in
    let last : points ≡ min (2 ^ 32 - 1) points = omega (arith, head.points) in
    let range_at : ℕ → ℕ → Range = λ start stop. record { start = start; stop = stop } in
    let range : reader.range ≡ range_at (min 0 points) (min (2 ^ 32 - 1) points) = fresh.whole.all ∙ ap (λ (n : ℕ). range_at n points) first ∙ ap (range_at (min 0 points)) last in
    asks_both reader input First 0 (2 ^ 32 - 1) old mid new stands opened
    (known_then old.held input (StandsFor reader) (λ file. (pieces : List Piece) → ArePieces file pieces → AsksAtMost (in_first_reading First (asked_to_open file + asked_in file (parts_of file (range_in 0 (2 ^ 32 - 1) file) pieces)) + asked_in file (parts_of file (range_in 0 (2 ^ 32 - 1) file) pieces)) mid new)
    (λ file s. λ pieces are. omega (arith, rest, left_bytes reader file pieces 0 (2 ^ 32 - 1) s fresh.unread range are)) stands)
