-- The part of a record: it is there, or it is opened, or it would be one too many.
use Rattle.std.proofs.Common.{◌≡◌, ℕ, zero, suc, ◌+◌, ◌<◌, ◌≤◌, ◌^◌, ◌==◌, ◌||◌, Bool, true, false, map, List, [], ◌∷◌, ◌++◌, length, take, get_or, slice_get, Option, Some, refl, sym, ◌∙◌, ap, subst, append_assoc, length-append, eq-eqb, arith}
use Rattle.std.specs.List.{concat}
use Rattle.std.proofs.lemmas.List.{append-nil, take_all}
use Rattle.std.proofs.lemmas.List.Elements.{All-append}
use Rattle.las_header.specs.Fields.{points_of}
use Rattle.las_outside.specs.Files.{FileMap, with_file}
use Rattle.las_outside.specs.Outside.{Outside}
use Rattle.laz_forms.specs.Outputs.{front}
use Rattle.laz_writer.specs.Writing.{Stands, WriterSeen}
use Rattle.laz_forms.proofs.Public.{concat-append, prefix_append}
use Rattle.las_split.specs.declared.limits.TheConstants.{MAX_PARTS}
use Rattle.las_split.specs.Files.{with_files}
use Rattle.las_split.specs.Parts.{number_by, numbers_of_parts, part, part_from}
use Rattle.las_split.specs.Sorting.{ArePrefixes, InParts, LeavesPrefixes, SplitTask, bytes_at, is_among, output_at, standing}
use Rattle.las_split.specs.Splitting.{OpensTooMany}
use Rattle.las_split.proofs.PartLists.{no_part, part-append, parts_new, parts_old}
use Rattle.las_split.proofs.PuttingFiles.{with_files-append}
use Rattle.las_split.proofs.Standing.{stands_anywhere, text_is, writers-append, writers_length}

pub has_at : (k : ℕ) (ns : List ℕ) (i : ℕ) → slice_get ns i ≡ Some k → is_among k ns ≡ true
has_at k [] i e = absurd (cc)
has_at k (n ∷ ns) zero e =
    let same : n ≡ k = cc in
    ap (λ (b : Bool). b || is_among k ns) (eq-eqb n k same)
has_at k (n ∷ ns) (suc i) e = ap (λ (b : Bool). (n == k) || b) (has_at k ns i e) ∙ or_true (n == k)
  where
    or_true : (b : Bool) → (b || true) ≡ true
    or_true true = refl
    or_true false = refl

-- ---- the bytes of a part of records and of more records

pub bytes_begin : (task : SplitTask) (xs ys : List (List ℕ)) (n : ℕ) → (more : List ℕ) × (bytes_at task (xs ++ ys) n ≡ bytes_at task xs n ++ more)
bytes_begin task xs ys n = (
  concat (part_from task.rule (0 + length xs) ys n),
  ap concat (part-append task.rule 0 xs ys n) ∙ concat-append (part task.rule xs n) (part_from task.rule (0 + length xs) ys n),
)

-- a prefix of what a part holds is one of what it holds with more records
pub prefix_more : (task : SplitTask) (xs ys : List (List ℕ)) (n k : ℕ) → (m : ℕ) × (take k (front (output_at task n) ++ bytes_at task xs n) ≡ take m (front (output_at task n) ++ bytes_at task (xs ++ ys) n))
prefix_more task xs ys n k =
    let b = bytes_begin task xs ys n in
    let p = prefix_append (front (output_at task n) ++ bytes_at task xs n) b.0 k in
    (p.0, p.1 ∙ ap (take p.0) (append_assoc (front (output_at task n)) (bytes_at task xs n) b.0 ∙ ap (λ (t : List ℕ). front (output_at task n) ++ t) (sym b.1)))

pub whole_prefix : (text : List ℕ) → text ≡ take (length text) text
whole_prefix text = sym (take_all (length text) text (omega arith))

-- what the parts hold are prefixes of what they hold with more records
pub all_prefixes : (task : SplitTask) (xs ys : List (List ℕ)) (ns : List ℕ) → ArePrefixes task (bytes_at task (xs ++ ys)) ns (map (standing task (bytes_at task xs)) ns)
all_prefixes task xs ys [] = tt
all_prefixes task xs ys (n ∷ ns) =
    let text = front (output_at task n) ++ bytes_at task xs n in
    let p = prefix_more task xs ys n (length text) in
    ((refl, (p.0, whole_prefix text ∙ p.1)), all_prefixes task xs ys ns)

pub prefixes-append : (task : SplitTask) (bytes : ℕ → List ℕ) (ns ms : List ℕ) (ps qs : List (List ℕ × List ℕ)) → ArePrefixes task bytes ns ps → ArePrefixes task bytes ms qs → ArePrefixes task bytes (ns ++ ms) (ps ++ qs)
prefixes-append task bytes [] ms [] qs one two = two
prefixes-append task bytes [] ms (p ∷ ps) qs one two = absurd one
prefixes-append task bytes (n ∷ ns) ms [] qs one two = absurd one
prefixes-append task bytes (n ∷ ns) ms (p ∷ ps) qs one two = (one.0, prefixes-append task bytes ns ms ps qs one.1 two)

map-append : (f : ℕ → List ℕ × List ℕ) (ns ms : List ℕ) → map f (ns ++ ms) ≡ map f ns ++ map f ms
map-append f [] ms = refl
map-append f (n ∷ ns) ms = ap (λ (t : List (List ℕ × List ℕ)). f n ∷ t) (map-append f ns ms)

module _ (task : SplitTask) (was now : Option FileMap) (ns : List ℕ) (ws : List WriterSeen) (opened written : List (List ℕ)) (i : InParts task was now ns ws opened written) (more : List (List ℕ)) (whole : opened ≡ written ++ more) where
  -- what stands is what may be left
  pub leaves_here : (later : Option FileMap) → later ≡ now → LeavesPrefixes task was later opened
  leaves_here later same = record {
    numbers = ns;
    others = [];
    split = sym i.numbers_are ∙ sym (append-nil ns);
    few = subst (λ (t : List ℕ). length t ≤ MAX_PARTS) i.numbers_are i.few;
    texts = map (standing task (bytes_at task written)) ns;
    are = subst (λ (t : List (List ℕ)). ArePrefixes task (bytes_at task t) ns (map (standing task (bytes_at task written)) ns)) (sym whole) (all_prefixes task written more ns);
    held = same ∙ i.held;
  }

  module _ (point : List ℕ) (number : ℕ) (is : number ≡ number_by task.rule (length opened) point) where
    -- the part is there
    pub in_old : (place : ℕ) → slice_get ns place ≡ Some number → InParts task was now ns ws (opened ++ point ∷ []) written
    in_old place there =
        let found : is_among (number_by task.rule (length opened) point) (numbers_of_parts task.rule opened) ≡ true = ap (λ (k : ℕ). is_among k (numbers_of_parts task.rule opened)) (sym is) ∙ ap (is_among number) (sym i.numbers_are) ∙ has_at number ns place there in
        record {
          numbers_are = i.numbers_are ∙ sym (parts_old task.rule opened point found);
          few = i.few;
          small = i.small;
          writers_are = i.writers_are;
          held = i.held;
          sized = i.sized;
        }

    module _ (none : is_among number ns ≡ false) where
      absent : is_among (number_by task.rule (length opened) point) (numbers_of_parts task.rule opened) ≡ false
      absent = ap (λ (k : ℕ). is_among k (numbers_of_parts task.rule opened)) (sym is) ∙ ap (is_among number) (sym i.numbers_are) ∙ none

      numbers_new : numbers_of_parts task.rule (opened ++ point ∷ []) ≡ ns ++ number ∷ []
      numbers_new =
          parts_new task.rule opened point absent ∙ ap (λ (t : List ℕ). t ++ number_by task.rule (length opened) point ∷ []) (sym i.numbers_are)
          ∙ ap (λ (k : ℕ). ns ++ k ∷ []) (sym is)

      -- it would be one too many
      pub too_many : MAX_PARTS ≤ length ws → OpensTooMany task.rule opened point
      too_many many =
          let count : length ns ≡ MAX_PARTS = omega (arith, many, writers_length task (bytes_at task written) ns ws i.writers_are, i.few) in
          record {
            full = sym (ap (λ (t : List ℕ). length t) i.numbers_are) ∙ count;
            more = omega (arith, ap (λ (t : List ℕ). length t) numbers_new, length-append ns (number ∷ []), count);
          }

      no_bytes : bytes_at task written number ≡ []
      no_bytes = nothing (part task.rule written number) (part_from task.rule (0 + length written) more number) (sym (part-append task.rule 0 written more number) ∙ ap (λ (t : List (List ℕ)). part task.rule t number) (sym whole) ∙ no_part task.rule opened number (ap (is_among number) (sym i.numbers_are) ∙ none))
        where
          nothing : (xs ys : List (List ℕ)) → xs ++ ys ≡ [] → concat xs ≡ []
          nothing [] ys e = refl
          nothing (x ∷ xs) ys e = absurd (cc)

      module _ (room : length ws < MAX_PARTS) (small : number < 2 ^ 32) where
        count_less : length ns + 1 ≤ MAX_PARTS
        count_less = omega (arith, room, writers_length task (bytes_at task written) ns ws i.writers_are)

        few_new : length (numbers_of_parts task.rule (opened ++ point ∷ [])) ≤ MAX_PARTS
        few_new = omega (arith, ap (λ (t : List ℕ). length t) numbers_new, length-append ns (number ∷ []), count_less)

        -- it is opened
        pub in_new : (old new : Outside) (w : WriterSeen) → old.held ≡ now → Stands old new w (output_at task number) [] → w.failed ≡ false → w.most ≡ points_of task.head → InParts task was new.held (ns ++ number ∷ []) (ws ++ w ∷ []) (opened ++ point ∷ []) written
        in_new old new w at s sound most = record {
          numbers_are = sym numbers_new;
          few = omega (arith, length-append ns (number ∷ []), count_less);
          small = All-append (λ (k : ℕ). k < 2 ^ 32) ns (number ∷ []) i.small (λ j d lt. one j d lt);
          writers_are = writers-append task (bytes_at task written) ns (number ∷ []) ws (w ∷ []) i.writers_are (
            record {
              stands = subst (λ (b : List ℕ). (x : Outside) → Stands x (Rattle.las_outside.specs.Outside.with_bytes x (output_at task number).name (front (output_at task number) ++ b)) w (output_at task number) b) (sym no_bytes) (stands_anywhere task number old new w [] s);
              sound = sound;
              most = most;
            },
            tt,
          );
          held = ap (λ (o : Outside). o.held) (text_is task number old new w [] s)
              ∙ ap (λ (b : List ℕ). with_file old.held (output_at task number).name (front (output_at task number) ++ b)) (sym no_bytes)
              ∙ ap (λ (h : Option FileMap). with_file h (output_at task number).name (front (output_at task number) ++ bytes_at task written number)) (at ∙ i.held)
              ∙ sym (with_files-append was (map (standing task (bytes_at task written)) ns) (standing task (bytes_at task written) number ∷ []))
              ∙ ap (with_files was) (sym (map-append (standing task (bytes_at task written)) ns (number ∷ [])));
          sized = i.sized;
        }
          where
            one : (j d : ℕ) → j < 1 → get_or (number ∷ []) j d < 2 ^ 32
            one zero d lt = small
            one (suc j) d lt = absurd (omega (arith, lt))

        -- it could not be created
        pub left_new : (new : Option FileMap) (k : ℕ) → new ≡ with_file now (output_at task number).name (take k (front (output_at task number))) → LeavesPrefixes task was new (opened ++ point ∷ [])
        left_new new k to =
            let p = prefix_append (front (output_at task number)) (bytes_at task (opened ++ point ∷ []) number) k in
            record {
              numbers = ns ++ number ∷ [];
              others = [];
              split = numbers_new ∙ sym (append-nil (ns ++ number ∷ []));
              few = few_new;
              texts = map (standing task (bytes_at task written)) ns ++ ((output_at task number).name, take k (front (output_at task number))) ∷ [];
              are = prefixes-append task (bytes_at task (opened ++ point ∷ [])) ns (number ∷ []) (map (standing task (bytes_at task written)) ns) (((output_at task number).name, take k (front (output_at task number))) ∷ [])
                  (subst (λ (t : List (List ℕ)). ArePrefixes task (bytes_at task t) ns (map (standing task (bytes_at task written)) ns)) (sym (append_assoc written more (point ∷ [])) ∙ ap (λ (t : List (List ℕ)). t ++ point ∷ []) (sym whole)) (all_prefixes task written (more ++ point ∷ []) ns))
                  ((refl, p), tt);
              held = to ∙ ap (λ (h : Option FileMap). with_file h (output_at task number).name (take k (front (output_at task number)))) i.held
                  ∙ sym (with_files-append was (map (standing task (bytes_at task written)) ns) (((output_at task number).name, take k (front (output_at task number))) ∷ []));
            }

-- ---- one part more

pub text_new : (text : ℕ → List ℕ) (numbers : List ℕ) (number : ℕ) (texts : List (List ℕ)) → text number ≡ [] → texts ≡ map text numbers → texts ++ [] ∷ [] ≡ map text (numbers ++ number ∷ [])
text_new text numbers number texts none is = ap (λ (ts : List (List ℕ)). ts ++ [] ∷ []) is ∙ ap (λ (t : List ℕ). map text numbers ++ t ∷ []) (sym none) ∙ sym (one numbers)
  where
    one : (ms : List ℕ) → map text (ms ++ number ∷ []) ≡ map text ms ++ text number ∷ []
    one [] = refl
    one (m ∷ ms) = ap (λ (ts : List (List ℕ)). text m ∷ ts) (one ms)

pub at_end : (ns : List ℕ) (k : ℕ) → slice_get (ns ++ k ∷ []) (length ns) ≡ Some k
at_end [] k = refl
at_end (n ∷ ns) k = at_end ns k
