use Rattle.std.proofs.Common.{◌≡◌, ◌≤◌, ◌%◌, ◌+◌, ◌*◌, ℕ, List, Option, [], ◌++◌, length, take, get_or, sym, ◌∙◌, ap, subst, arith}
use Rattle.laz_forms.specs.Outputs.{front, stopped}
use Rattle.laz_writer.specs.Writing.{Stands, WriterSeen}
use Rattle.laz_file.proofs.Public.{held_after}
use Rattle.las_outside.specs.Files.{FileMap, with_file}
use Rattle.las_outside.specs.Outside.{Outside, with_bytes}
use Rattle.las_outside.proofs.Public.{on_err}
use Rattle.las_split.specs.Sorting.{AreGathered, IsWriter, PushedSo, SplitTask, bytes_at, output_at, part_bytes_of}
use Rattle.las_split.proofs.PushedParts.{bytes_more, bytes_same, even_for, next_here, next_writer, no_bytes, no_writer, pushed_left, pushed_none, pushed_one, room_for, text_at, texts_length, took}
use Rattle.las_split.proofs.Standing.{stands_here}
use Rattle.las_split.proofs.pushing.push_place.Given.{Over}
use Rattle.las_split.proofs.pushing.push_place.Goals.{After-index_mut-writer}
use Rattle.las_split.proofs.pushing.push_place.Goals as goal

pub text-text-requires : goal.text-text-requires
text-text-requires g c =
    let q = c.requires.parts in
    omega (arith, c.requires.place, texts_length q.0 c.args.parts.now.numbers c.args.parts.now.gathered q.2 q.3 q.5)

pub returns-then-is_empty-clause-pushed : goal.returns-then-is_empty-clause-pushed
returns-then-is_empty-clause-pushed g c task was records block p s =
    let now = (g.F.Files.seen c.args.files.now).held in
    let ns = c.args.parts.now.numbers in
    let ws = c.args.parts.now.writers.items in
    let n = get_or ns c.args.place 0 in
    let none : c.text-text.result.now ≡ [] = no_bytes c.text-text.result.now (sym c.is_empty.ensures ∙ c.if-is_empty.true) in
    let gone : part_bytes_of task records block n ≡ [] = sym (c.text-text.ensures ∙ text_at task ns c.args.parts.now.gathered records block s c.args.place c.requires.place) ∙ none in
    pushed_none task was now ns ws records block c.args.place p c.requires.place no_writer (bytes_same task records block n gone)

-- the writer of the part, and the text that it takes
module _ (g : Over) (c : After-index_mut-writer g) (task : SplitTask) (was : Option FileMap) (records block : List (List ℕ))
    (p : PushedSo task was (g.F.Files.seen c.args.files.now).held c.args.parts.now.numbers
    c.args.parts.now.writers.items c.args.place records block)
    (s : AreGathered task c.args.parts.now.numbers c.args.parts.now.gathered records block) where
  abbrev now : Outside
  now = g.F.Files.seen c.args.files.now

  abbrev n : ℕ
  n = get_or c.args.parts.now.numbers c.args.place 0

  is : IsWriter task n c.index_mut-writer.result.now (bytes_at task records n)
  is =
      subst (λ (x : WriterSeen). IsWriter task n x (bytes_at task records n)) (sym c.index_mut-writer.ensures.value)
      (next_writer task was now.held c.args.parts.now.numbers c.args.parts.now.writers.items records block c.args.place
      p c.requires.place c.index_mut-writer.result.now)

  here : Stands now now c.index_mut-writer.result.now (output_at task n) (bytes_at task records n)
  here =
      stands_here task n c.index_mut-writer.result.now (bytes_at task records n) now is
      (next_here task was now.held c.args.parts.now.numbers c.args.parts.now.writers.items records block c.args.place p
      c.requires.place)

  same : c.text-text.result.now ≡ part_bytes_of task records block n
  same =
      c.text-text.ensures
      ∙ text_at task c.args.parts.now.numbers c.args.parts.now.gathered records block s c.args.place c.requires.place

  more : bytes_at task (records ++ block) n ≡ bytes_at task records n ++ c.text-text.result.now
  more = bytes_more task records block n ∙ ap (λ (b : List ℕ). bytes_at task records n ++ b) (sym same)

pub push-requires-clause-open : goal.push-requires-clause-open
push-requires-clause-open g c κs lives =
    let q = c.requires.parts in
    (is g (goal.at.push-requires-clause-open g c).After-index_mut-writer q.0 q.1 q.2 q.3 q.4 q.5).sound

pub push-requires-clause-whole : goal.push-requires-clause-whole
push-requires-clause-whole g c κs lives =
    let k = (goal.at.push-requires-clause-whole g c).After-index_mut-writer in
    let q = c.requires.parts in
    let w = c.index_mut-writer.result.now in
    let m = n g k q.0 q.1 q.2 q.3 q.4 q.5 in
    ap (λ (t : List ℕ). length t % w.size) (same g k q.0 q.1 q.2 q.3 q.4 q.5)
    ∙ even_for q.0 m w (bytes_at q.0 q.2 m) q.2 q.3 q.6 (is g k q.0 q.1 q.2 q.3 q.4 q.5)

pub push-requires-clause-most : goal.push-requires-clause-most
push-requires-clause-most g c κs lives =
    let k = (goal.at.push-requires-clause-most g c).After-index_mut-writer in
    let q = c.requires.parts in
    let w = c.index_mut-writer.result.now in
    subst (λ (t : List ℕ). w.taken + length t ≤ w.size * w.most) (sym (same g k q.0 q.1 q.2 q.3 q.4 q.5))
    (room_for q.0 (n g k q.0 q.1 q.2 q.3 q.4 q.5) w q.2 q.3 q.6 (is g k q.0 q.1 q.2 q.3 q.4 q.5) q.4.sized)

pub push-requires-clause-stands : goal.push-requires-clause-stands
push-requires-clause-stands g c κs lives =
    let k = (goal.at.push-requires-clause-stands g c).After-index_mut-writer in
    let q = c.requires.parts in
    let m = n g k q.0 q.1 q.2 q.3 q.4 q.5 in
    (g.F.Files.seen c.args.files.now, output_at q.0 m, bytes_at q.0 q.2 m, here g k q.0 q.1 q.2 q.3 q.4 q.5)

pub returns-in_err-push-clause-left : goal.returns-in_err-push-clause-left
returns-in_err-push-clause-left g c task was records block p s =
    let k = (goal.at.returns-in_err-push-clause-left g c).After-index_mut-writer in
    let now = g.F.Files.seen c.args.files.now in
    let new = g.F.Files.seen c.push.new.files in
    let m = n g k task was records block p s in
    let out = output_at task m in
    let bytes = bytes_at task records m in
    let e = c.in_err-push.ensures.stopped now out bytes (here g k task was records block p s) in
    let text = take e.0 (stopped out (bytes ++ c.text-text.result.now)) in
    let to = held_after c.in_err-push.field-0.0 (with_bytes now out.name text) new e.1 in
    on_err c.from_residual.result
    (pushed_left task was now.held c.args.parts.now.numbers c.args.parts.now.writers.items records block c.args.place p
    c.requires.place new.held e.0
    (to
    ∙ ap (λ (b : List ℕ). with_file now.held out.name (take e.0 (front out ++ b)))
    (sym (more g k task was records block p s))))

pub returns-clause-pushed : goal.returns-clause-pushed
returns-clause-pushed g c task was records block p s =
    let k = (goal.at.returns-clause-pushed g c).After-index_mut-writer in
    let now = g.F.Files.seen c.args.files.now in
    let new = g.F.Files.seen c.push.new.files in
    let m = n g k task was records block p s in
    let bytes = bytes_at task records m in
    let both = took task m now new c.push.new.self bytes c.text-text.result.now
    (c.in_ok-push.ensures.stands now (output_at task m) bytes (here g k task was records block p s))
    c.in_ok-push.ensures.open (c.push.ensures.most ∙ (is g k task was records block p s).most)
    (bytes_at task (records ++ block) m) (more g k task was records block p s) in
    pushed_one task was now.held c.args.parts.now.numbers c.args.parts.now.writers.items records block c.args.place p
    c.requires.place new.held c.push.new.self both.0 both.1
