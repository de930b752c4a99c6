-- The records of a block go into the parts, one part after another.
use Rattle.std.proofs.Common.{◌≡◌, ℕ, zero, suc, ◌+◌, ◌*◌, ◌%◌, ◌<◌, ◌≤◌, ◌==◌, Bool, true, false, cond, map, List, [], ◌∷◌, ◌++◌, length, take, drop, get_or, set, Option, None, refl, sym, ◌∙◌, ap, subst, length-append, arith}
use borrow.Author.Tests.{eqb-true}
use Rattle.std.specs.List.{concat}
use Rattle.std.specs.Prelude.{All}
use Rattle.std.proofs.lemmas.List.{append-nil, drop_all, get_or-map, length-map, take-append-drop, take_all}
use Rattle.std.proofs.Math.ListN.{length-set}
use Rattle.std.proofs.Math.Nat.{mul-le-mul_left, mul-mod_right}
use Rattle.std.proofs.Math.Seq.{drop-cons}
use Rattle.las_filter.specs.declared.rule.Rule.{Rule}
use Rattle.las_header.specs.Fields.{points_of, record_length_of}
use Rattle.las_header.proofs.Public.{length_whole}
use Rattle.las_outside.specs.Files.{FileMap, with_file}
use Rattle.las_outside.specs.Outside.{Outside}
use Rattle.laz_forms.specs.Outputs.{front}
use Rattle.laz_writer.specs.Writing.{Stands, WriterSeen}
use Rattle.laz_forms.proofs.Public.{concat-append}
use Rattle.las_split.specs.declared.limits.TheConstants.{MAX_PARTS}
use Rattle.las_split.specs.Files.{with_files}
use Rattle.las_split.specs.Parts.{number_by, numbers_from, part, part_from}
use Rattle.las_split.specs.Sorting.{AreGathered, ArePrefixes, AreWriters, FitAfter, InParts, IsWriter, LeavesPrefixes, PushedSo, SplitTask, bytes_at, output_at, standing, part_bytes_of}
use Rattle.las_split.proofs.Changing.{AreOnce, firsts_once, next_done, next_part, next_stands}
use Rattle.las_split.proofs.PartLists.{part-append}
use Rattle.las_split.proofs.Placing.{all_prefixes, prefixes-append, whole_prefix}
use Rattle.las_split.proofs.Standing.{stands_anywhere, text_is, writer_as, writers_after, writers_at, writers_length, writers_more}

-- the records of a part are some of the records
pub part_within : (rule : Rule) (at : ℕ) (xs : List (List ℕ)) (n : ℕ) → length (concat (part_from rule at xs n)) ≤ length (concat xs)
part_within rule at [] n = omega arith
part_within rule at (x ∷ xs) n = by (number_by rule at x == n) (part_within rule (at + 1) xs n)
  where
    by : (b : Bool) → length (concat (part_from rule (at + 1) xs n)) ≤ length (concat xs) → length (concat (cond b (x ∷ part_from rule (at + 1) xs n) (part_from rule (at + 1) xs n))) ≤ length (concat (x ∷ xs))
    by true less = omega (arith, less, length-append x (concat (part_from rule (at + 1) xs n)), length-append x (concat xs))
    by false less = omega (arith, less, length-append x (concat xs))

pub part_size : (rule : Rule) (size at : ℕ) (xs : List (List ℕ)) (n : ℕ) → All (λ x. length x ≡ size) xs → length (concat (part_from rule at xs n)) ≡ size * length (part_from rule at xs n)
part_size rule size at [] n all = omega arith
part_size rule size at (x ∷ xs) n all = by (number_by rule at x == n) (part_size rule size (at + 1) xs n (λ k d lt. all (suc k) d (omega (arith, lt))))
  where
    by : (b : Bool) → length (concat (part_from rule (at + 1) xs n)) ≡ size * length (part_from rule (at + 1) xs n)
        → length (concat (cond b (x ∷ part_from rule (at + 1) xs n) (part_from rule (at + 1) xs n))) ≡ size * length (cond b (x ∷ part_from rule (at + 1) xs n) (part_from rule (at + 1) xs n))
    by true rest =
        let first : length x ≡ size = all 0 [] (omega arith) in
        let more : size * suc (length (part_from rule (at + 1) xs n)) ≡ size + size * length (part_from rule (at + 1) xs n) = omega arith in
        omega (arith, length-append x (concat (part_from rule (at + 1) xs n)), rest, first, more)
    by false rest = rest

module _ (task : SplitTask) (was now : Option FileMap) (ns : List ℕ) (ws : List WriterSeen) (records block : List (List ℕ)) where
  pub pushed_first : InParts task was now ns ws (records ++ block) records → PushedSo task was now ns ws 0 records block
  pushed_first i = record {
    numbers_are = i.numbers_are;
    few = i.few;
    small = i.small;
    same = writers_length task (bytes_at task records) ns ws i.writers_are;
    before = tt;
    after = i.writers_are;
    held = i.held;
    sized = i.sized;
  }

  pub pushed_last : (place : ℕ) → length ns ≤ place → length (concat block) ≡ record_length_of task.head * length block → PushedSo task was now ns ws place records block → InParts task was now ns ws (records ++ block) (records ++ block)
  pushed_last place end whole p =
      let every : take place ns ≡ ns = take_all place ns end in
      let none : drop place ns ≡ [] = drop_all place ns end in
      let writers : take place ws ≡ ws = take_all place ws (omega (arith, end, p.same)) in
      let f = bytes_at task (records ++ block) in
      let count : record_length_of task.head * length (records ++ block) ≡ record_length_of task.head * length records + record_length_of task.head * length block =
      ap (λ (n : ℕ). record_length_of task.head * n) (length-append records block) ∙ (let e : record_length_of task.head * (length records + length block) ≡ record_length_of task.head * length records + record_length_of task.head * length block = omega arith in e) in
      record {
        numbers_are = p.numbers_are;
        few = p.few;
        small = p.small;
        writers_are = subst (λ (ms : List ℕ). AreWriters task f ms ws) every (subst (AreWriters task f (take place ns)) writers p.before);
        held = p.held ∙ ap (λ (ms : List ℕ). with_files was (map (standing task f) (take place ns) ++ map (standing task (bytes_at task records)) ms)) none
            ∙ ap (with_files was) (append-nil (map (standing task f) (take place ns))) ∙ ap (λ (ms : List ℕ). with_files was (map (standing task f) ms)) every;
        sized = omega (arith, ap (λ (t : List ℕ). length t) (concat-append records block), length-append (concat records) (concat block), p.sized, whole, count);
      }

  module _ (place : ℕ) (p : PushedSo task was now ns ws place records block) (within : place < length ns) where
    n : ℕ
    n = get_or ns place 0

    once : AreOnce ns
    once = subst AreOnce (sym p.numbers_are) (firsts_once (numbers_from task.rule 0 (records ++ block)))

    -- the next writer stands for the records before
    pub next_here : now ≡ with_file now (output_at task (get_or ns place 0)).name (front (output_at task (get_or ns place 0)) ++ bytes_at task records (get_or ns place 0))
    next_here = next_stands task (λ k. front (output_at task k) ++ bytes_at task (records ++ block) k) (λ k. front (output_at task k) ++ bytes_at task records k) ns p.small once place within was now p.held

    pub next_writer : (d : WriterSeen) → IsWriter task (get_or ns place 0) (get_or ws place d) (bytes_at task records (get_or ns place 0))
    next_writer d = writers_at task (bytes_at task records) ns ws place d p.after within p.same

    -- it took its records of the block
    pub pushed_one : (new : Option FileMap) (w : WriterSeen) → IsWriter task (get_or ns place 0) w (bytes_at task (records ++ block) (get_or ns place 0))
        → new ≡ with_file now (output_at task (get_or ns place 0)).name (front (output_at task (get_or ns place 0)) ++ bytes_at task (records ++ block) (get_or ns place 0))
        → PushedSo task was new ns (set ws place w) (place + 1) records block
    pushed_one new w is to = record {
      numbers_are = p.numbers_are;
      few = p.few;
      small = p.small;
      same = length-set ws place w ∙ p.same;
      before = writers_more task (bytes_at task (records ++ block)) ns ws place w p.before within p.same is;
      after = writers_past;
      held = next_done task (λ k. front (output_at task k) ++ bytes_at task (records ++ block) k) (λ k. front (output_at task k) ++ bytes_at task records k) ns p.small once place within was now p.held new to;
      sized = p.sized;
    }
      where
        same_past : (vs : List WriterSeen) (j : ℕ) → drop (suc j) (set vs j w) ≡ drop (suc j) vs
        same_past [] j = refl
        same_past (v ∷ vs) zero = refl
        same_past (v ∷ vs) (suc j) = same_past vs j

        writers_past : AreWriters task (bytes_at task records) (drop (place + 1) ns) (drop (place + 1) (set ws place w))
        writers_past =
            let one : place + 1 ≡ suc place = omega arith in
            let same : drop (place + 1) (set ws place w) ≡ drop (place + 1) ws = ap (λ (k : ℕ). drop k (set ws place w)) one ∙ same_past ws place ∙ ap (λ (k : ℕ). drop k ws) (sym one) in
            subst (AreWriters task (bytes_at task records) (drop (place + 1) ns)) (sym same) (writers_after task (bytes_at task records) ns ws place p.after within p.same)

    -- it has none
    pub pushed_none : (d : WriterSeen) → bytes_at task records (get_or ns place 0) ≡ bytes_at task (records ++ block) (get_or ns place 0) → PushedSo task was now ns ws (place + 1) records block
    pushed_none d same =
        let here = next_here ∙ ap (λ (b : List ℕ). with_file now (output_at task (get_or ns place 0)).name (front (output_at task (get_or ns place 0)) ++ b)) same in
        let w = get_or ws place d in
        subst (λ (vs : List WriterSeen). PushedSo task was now ns vs (place + 1) records block) (itself ws place (omega (arith, within, p.same)))
        (pushed_one now w (writer_as task (get_or ns place 0) w (bytes_at task records (get_or ns place 0)) (bytes_at task (records ++ block) (get_or ns place 0)) same (next_writer d)) here)
      where
        itself : (vs : List WriterSeen) (j : ℕ) → j < length vs → set vs j (get_or vs j d) ≡ vs
        itself [] j lt = refl
        itself (v ∷ vs) zero lt = refl
        itself (v ∷ vs) (suc j) lt = ap (λ (t : List WriterSeen). v ∷ t) (itself vs j (omega (arith, lt)))

    -- a call failed while it took them
    pub pushed_left : (new : Option FileMap) (k : ℕ) → new ≡ with_file now (output_at task (get_or ns place 0)).name (take k (front (output_at task (get_or ns place 0)) ++ bytes_at task (records ++ block) (get_or ns place 0)))
        → LeavesPrefixes task was new (records ++ block)
    pushed_left new k to =
        let f = bytes_at task (records ++ block) in
        let first = map (standing task f) (take place ns) in
        let rest = map (standing task (bytes_at task records)) (drop (suc place) ns) in
        let one : List ℕ × List ℕ = ((output_at task (get_or ns place 0)).name, take k (front (output_at task (get_or ns place 0)) ++ f (get_or ns place 0))) in
        let parts : ns ≡ take place ns ++ get_or ns place 0 ∷ drop (suc place) ns = sym (take-append-drop place ns) ∙ ap (λ (t : List ℕ). take place ns ++ t) (drop-cons ns place 0 within) in
        record {
          numbers = ns;
          others = [];
          split = sym p.numbers_are ∙ sym (append-nil ns);
          few = subst (λ (t : List ℕ). length t ≤ MAX_PARTS) p.numbers_are p.few;
          texts = first ++ one ∷ rest;
          are = subst (λ (ms : List ℕ). ArePrefixes task f ms (first ++ one ∷ rest)) (sym parts)
              (prefixes-append task f (take place ns) (get_or ns place 0 ∷ drop (suc place) ns) first (one ∷ rest) (whole_texts (take place ns)) ((refl, (k, refl)), all_prefixes task records block (drop (suc place) ns)));
          held = next_part task (λ m. front (output_at task m) ++ f m) (λ m. front (output_at task m) ++ bytes_at task records m) ns p.small once place within was now p.held new (take k (front (output_at task (get_or ns place 0)) ++ f (get_or ns place 0))) to;
        }
      where
        whole_texts : (ms : List ℕ) → ArePrefixes task (bytes_at task (records ++ block)) ms (map (standing task (bytes_at task (records ++ block))) ms)
        whole_texts [] = tt
        whole_texts (m ∷ ms) =
            let text = front (output_at task m) ++ bytes_at task (records ++ block) m in
            ((refl, (length text, whole_prefix text)), whole_texts ms)

-- ---- what is pushed

pub no_bytes : (text : List ℕ) → (length text == 0) ≡ true → text ≡ []
no_bytes [] e = refl
no_bytes (b ∷ text) e = absurd (omega (arith, eqb-true (length (b ∷ text)) 0 e))

pub bytes_more : (task : SplitTask) (records block : List (List ℕ)) (n : ℕ) → bytes_at task (records ++ block) n ≡ bytes_at task records n ++ part_bytes_of task records block n
bytes_more task records block n =
    let far : 0 + length records ≡ length records = omega arith in
    ap concat (part-append task.rule 0 records block n) ∙ concat-append (part task.rule records n) (part_from task.rule (0 + length records) block n)
    ∙ ap (λ (k : ℕ). bytes_at task records n ++ concat (part_from task.rule k block n)) far

-- no record of the block is in a part that gets no bytes
pub bytes_same : (task : SplitTask) (records block : List (List ℕ)) (n : ℕ) → part_bytes_of task records block n ≡ [] → bytes_at task records n ≡ bytes_at task (records ++ block) n
bytes_same task records block n none = sym (bytes_more task records block n ∙ ap (λ (t : List ℕ). bytes_at task records n ++ t) none ∙ append-nil (bytes_at task records n))

module _ (task : SplitTask) (ns : List ℕ) (texts records block : List (List ℕ)) (s : AreGathered task ns texts records block) where
  pub texts_length : length texts ≡ length ns
  texts_length = ap (λ (t : List (List ℕ)). length t) s ∙ length-map ns (part_bytes_of task records block)

  pub text_at : (place : ℕ) → place < length ns → get_or texts place [] ≡ part_bytes_of task records block (get_or ns place 0)
  text_at place within = ap (λ (t : List (List ℕ)). get_or t place []) s ∙ get_or-map (part_bytes_of task records block) ns place 0 [] within

-- there is room for it
pub room_for : (task : SplitTask) (n : ℕ) (w : WriterSeen) (records block : List (List ℕ)) → FitAfter task records block → IsWriter task n w (bytes_at task records n) → length (concat records) ≡ record_length_of task.head * length records
    → w.taken + length (part_bytes_of task records block n) ≤ w.size * w.most
room_for task n w records block fit is sized =
    let o : Outside = record { held = None; read_faults = 0; write_faults = 0; asked = 0 } in
    let s = is.stands o in
    let size = record_length_of task.head in
    let count : w.taken ≤ length (concat records) = omega (arith, s.taken, part_within task.rule 0 records n) in
    let less = part_within task.rule (length records) block n in
    let long = length_whole size block fit.whole in
    let limit : w.size * w.most ≡ size * points_of task.head = ap (λ (k : ℕ). k * w.most) s.size ∙ ap (λ (k : ℕ). size * k) is.most in
    let both : size * (length records + length block) ≡ size * length records + size * length block = omega arith in
    omega (arith, count, less, long, sized, limit, both, mul-le-mul_left size fit.room)

pub even_for : (task : SplitTask) (n : ℕ) (w : WriterSeen) (bytes : List ℕ) (records block : List (List ℕ)) → FitAfter task records block → IsWriter task n w bytes → length (part_bytes_of task records block n) % w.size ≡ 0
even_for task n w bytes records block fit is =
    let o : Outside = record { held = None; read_faults = 0; write_faults = 0; asked = 0 } in
    let size = record_length_of task.head in
    let part = part_from task.rule (length records) block n in
    ap (λ (m : ℕ). length (part_bytes_of task records block n) % m) (is.stands o).size ∙ ap (λ (m : ℕ). m % size) (part_size task.rule size (length records) block n fit.whole) ∙ mul-mod_right size (length part)

-- a writer that took more records
pub took : (task : SplitTask) (n : ℕ) (now new : Outside) (w : WriterSeen) (bytes more : List ℕ) → Stands now new w (output_at task n) (bytes ++ more) → w.failed ≡ false → w.most ≡ points_of task.head → (all : List ℕ) → all ≡ bytes ++ more
    → IsWriter task n w all × (new.held ≡ with_file now.held (output_at task n).name (front (output_at task n) ++ all))
took task n now new w bytes more s sound most all is = (
  writer_as task n w (bytes ++ more) all (sym is) (record { stands = stands_anywhere task n now new w (bytes ++ more) s; sound = sound; most = most }),
  ap (λ (o : Outside). o.held) (text_is task n now new w (bytes ++ more) s) ∙ ap (λ (b : List ℕ). with_file now.held (output_at task n).name (front (output_at task n) ++ b)) (sym is),
)

-- a writer, for want of another
pub no_writer : WriterSeen
no_writer = record { name = []; start = 0; size = 0; most = 0; taken = 0; long_counts = false; counts = None; packing = None; failed = false }
