-- Parts that are finished or stopped, one after another.
use Rattle.std.proofs.Common.{◌≡◌, inl, inr, ℕ, suc, ◌+◌, ◌<◌, ◌≤◌, map, reverse, List, [], ◌∷◌, ◌++◌, length, take, drop, get_or, Option, refl, sym, ◌∙◌, ap, subst, length-append, arith}
use Rattle.std.proofs.lemmas.List.{append-nil, drop_all, length-drop, length-reverse, reverse-append, take-append-drop, take_all}
use Rattle.std.proofs.Math.Seq.{drop-cons}
use Rattle.las_outside.specs.Drafts.{IsUnfinished}
use Rattle.las_outside.specs.Files.{FileMap, with_file}
use Rattle.laz_forms.specs.Outputs.{draft_of, finished, front, patches_of, stopped}
use Rattle.laz_writer.specs.Writing.{WriterSeen}
use Rattle.las_split.specs.declared.limits.TheConstants.{MAX_PARTS}
use Rattle.las_split.specs.Files.{with_files}
use Rattle.laz_file.specs.Endings.{AreDrafts, AreEnding, OutputFile, named}
use Rattle.las_split.specs.Outputs.{LeavesParts, outputs_under}
use Rattle.las_split.specs.Parts.{numbers_from, numbers_of_parts}
use Rattle.las_split.specs.Sorting.{ArePrefixes, AreWriters, InParts, IsWriter, LeavesPrefixes, SplitTask, bytes_at, output_at, standing}
use Rattle.las_split.proofs.Changing.{AreOnce, firsts_once, next_done, next_part, next_stands, texts}
use Rattle.las_split.proofs.Leaving.{file_at}
use Rattle.las_split.proofs.Placing.{prefixes-append, whole_prefix}
use Rattle.las_split.proofs.Standing.{writers_after, writers_at, writers_length}

-- the first parts hold this text, and the others stand as they did
pub record EndedSo (task : SplitTask) (done : ℕ → List ℕ) (was now : Option FileMap) (ns : List ℕ) (ws rest : List WriterSeen) (records : List (List ℕ)) : Type 0 where
  pub parts : Option FileMap
  pub began : InParts task was parts ns ws records records
  pub place : ℕ
  pub within : place ≤ length ns
  pub rest_is : rest ≡ reverse (drop place ws)
  pub after : AreWriters task (bytes_at task records) (drop place ns) (drop place ws)
  pub held : now ≡ with_files was (texts task done (take place ns) ++ texts task (λ n. front (output_at task n) ++ bytes_at task records n) (drop place ns))

snoc : (xs ys : List WriterSeen) (x y : WriterSeen) → xs ++ x ∷ [] ≡ ys ++ y ∷ [] → (xs ≡ ys) × (x ≡ y)
snoc [] [] x y e = (refl, cc)
snoc [] (z ∷ []) x y e = absurd (let f : x ∷ [] ≡ z ∷ y ∷ [] = e in cc)
snoc [] (z ∷ w ∷ ys) x y e = absurd (let f : x ∷ [] ≡ z ∷ w ∷ (ys ++ y ∷ []) = e in cc)
snoc (z ∷ []) [] x y e = absurd (let f : z ∷ x ∷ [] ≡ y ∷ [] = e in cc)
snoc (z ∷ w ∷ xs) [] x y e = absurd (let f : z ∷ w ∷ (xs ++ x ∷ []) ≡ y ∷ [] = e in cc)
snoc (z ∷ xs) (w ∷ ys) x y e =
    let first : z ≡ w = cc in
    let others : xs ++ x ∷ [] ≡ ys ++ y ∷ [] = cc in
    let both = snoc xs ys x y others in
    (ap (λ (t : List WriterSeen). z ∷ t) both.0 ∙ ap (λ (t : WriterSeen). t ∷ ys) first, both.1)

module _ (task : SplitTask) (done : ℕ → List ℕ) (was now : Option FileMap) (ns : List ℕ) (ws : List WriterSeen) (records : List (List ℕ)) where
  pub ended_first : (rest : List WriterSeen) → InParts task was now ns ws records records → rest ≡ reverse ws → EndedSo task done was now ns ws rest records
  ended_first rest i is = record {
    parts = now;
    began = i;
    place = 0;
    within = omega arith;
    rest_is = is;
    after = i.writers_are;
    held = i.held;
  }

  pub ended_last : (rest : List WriterSeen) → rest ≡ [] → EndedSo task done was now ns ws rest records → now ≡ with_files was (texts task done ns)
  ended_last rest none e =
      let count = writers_length task (bytes_at task records) ns ws e.began.writers_are in
      let long : length (drop e.place ws) ≡ 0 = omega (arith, length-reverse (drop e.place ws), ap (λ (t : List WriterSeen). length t) (sym e.rest_is ∙ none)) in
      let end : length ns ≤ e.place = omega (arith, long, length-drop e.place ws, count) in
      e.held ∙ ap (λ (ms : List ℕ). with_files was (texts task done (take e.place ns) ++ texts task (λ n. front (output_at task n) ++ bytes_at task records n) ms)) (drop_all e.place ns end)
      ∙ ap (with_files was) (append-nil (texts task done (take e.place ns))) ∙ ap (λ (ms : List ℕ). with_files was (texts task done ms)) (take_all e.place ns end)

  module _ (rest others : List WriterSeen) (w : WriterSeen) (e : EndedSo task done was now ns ws rest records) (popped : rest ≡ others ++ w ∷ []) where
    count : length ws ≡ length ns
    count = writers_length task (bytes_at task records) ns ws e.began.writers_are

    pub more : e.place < length ns
    more = omega (arith, ap (λ (t : List WriterSeen). length t) (sym popped ∙ e.rest_is), length-append others (w ∷ []), length-reverse (drop e.place ws), length-drop e.place ws, count)

    both : (others ≡ reverse (drop (suc e.place) ws)) × (w ≡ get_or ws e.place w)
    both =
        let within : e.place < length ws = omega (arith, more, count) in
        snoc others (reverse (drop (suc e.place) ws)) w (get_or ws e.place w) (sym popped ∙ e.rest_is ∙ ap reverse (drop-cons ws e.place w within) ∙ reverse-append (get_or ws e.place w ∷ []) (drop (suc e.place) ws))

    once : AreOnce ns
    once = subst AreOnce (sym e.began.numbers_are) (firsts_once (numbers_from task.rule 0 records))

    -- the next writer stands for its part
    pub next_is : IsWriter task (get_or ns e.place 0) w (bytes_at task records (get_or ns e.place 0))
    next_is = subst (λ (x : WriterSeen). IsWriter task (get_or ns e.place 0) x (bytes_at task records (get_or ns e.place 0))) (sym both.1) (writers_at task (bytes_at task records) ns ws e.place w e.after more count)

    pub next_held : now ≡ with_file now (output_at task (get_or ns e.place 0)).name (front (output_at task (get_or ns e.place 0)) ++ bytes_at task records (get_or ns e.place 0))
    next_held = next_stands task done (λ n. front (output_at task n) ++ bytes_at task records n) ns e.began.small once e.place more was now e.held

    pub ended_more : (new : Option FileMap) → new ≡ with_file now (output_at task (get_or ns e.place 0)).name (done (get_or ns e.place 0)) → EndedSo task done was new ns ws others records
    ended_more new to =
        let one : e.place + 1 ≡ suc e.place = omega arith in
        record {
          parts = e.parts;
          began = e.began;
          place = e.place + 1;
          within = omega (arith, more);
          rest_is = both.0 ∙ ap (λ (k : ℕ). reverse (drop k ws)) (sym one);
          after = writers_after task (bytes_at task records) ns ws e.place e.after more count;
          held = next_done task done (λ n. front (output_at task n) ++ bytes_at task records n) ns e.began.small once e.place more was now e.held new to;
        }

    pub ended_part : (new : Option FileMap) (text : List ℕ) → new ≡ with_file now (output_at task (get_or ns e.place 0)).name text
        → new ≡ with_files was (texts task done (take e.place ns) ++ ((output_at task (get_or ns e.place 0)).name, text) ∷ texts task (λ n. front (output_at task n) ++ bytes_at task records n) (drop (suc e.place) ns))
    ended_part new text to = next_part task done (λ n. front (output_at task n) ++ bytes_at task records n) ns e.began.small once e.place more was now e.held new text to

    -- a call failed: the parts before this one are finished, and those after it are not begun to be
    pub ended_left : ((n : ℕ) → done n ≡ finished (output_at task n) (bytes_at task records n)) → (new : Option FileMap) (text : List ℕ) → new ≡ with_file now (output_at task (get_or ns e.place 0)).name text
        → IsUnfinished (draft_of (output_at task (get_or ns e.place 0)) (bytes_at task records (get_or ns e.place 0))) (patches_of (output_at task (get_or ns e.place 0)) (bytes_at task records (get_or ns e.place 0))) text
        → LeavesParts (outputs_under task.stem task.end task.head task.rule records) was new
    ended_left whole new text to half =
        let left = λ (n : ℕ). front (output_at task n) ++ bytes_at task records n in
        let f = file_at task records in
        let n = get_or ns e.place 0 in
        let ts = map done (take e.place ns) ++ text ∷ map left (drop (suc e.place) ns) in
        let parts : ns ≡ take e.place ns ++ n ∷ drop (suc e.place) ns = sym (take-append-drop e.place ns) ∙ ap (λ (t : List ℕ). take e.place ns ++ t) (drop-cons ns e.place 0 more) in
        let every : take (length ns) (map f (numbers_of_parts task.rule records)) ≡ map f (take e.place ns ++ n ∷ drop (suc e.place) ns) =
        ap (λ (ms : List ℕ). take (length ns) (map f ms)) (sym e.began.numbers_are) ∙ take_all (length ns) (map f ns) (omega (arith, length-map f ns)) ∙ ap (map f) parts in
        let count : length (map f (numbers_of_parts task.rule records)) ≡ length ns = length-map f (numbers_of_parts task.rule records) ∙ ap (λ (ms : List ℕ). length ms) (sym e.began.numbers_are) in (
          length ns,
          ts,
          inr (omega (arith, count), subst (λ (ps : List OutputFile). AreEnding ps ts) (sym every) (ending (take e.place ns) n (drop (suc e.place) ns) text half)),
          ended_part new text to ∙ ap (with_files was) (sym (names (take e.place ns) n (drop (suc e.place) ns) text)) ∙ ap (λ (ps : List OutputFile). with_files was (named ps ts)) (sym every),
        )
      where
        length-map : (f : ℕ → OutputFile) (ms : List ℕ) → length (map f ms) ≡ length ms
        length-map f [] = refl
        length-map f (m ∷ ms) = ap suc (length-map f ms)

        drafts : (ms : List ℕ) → AreDrafts (map (file_at task records) ms) (map (λ n. front (output_at task n) ++ bytes_at task records n) ms)
        drafts [] = tt
        drafts (m ∷ ms) = (refl, drafts ms)

        ending : (ms : List ℕ) (n : ℕ) (ks : List ℕ) (t : List ℕ) → IsUnfinished (draft_of (output_at task n) (bytes_at task records n)) (patches_of (output_at task n) (bytes_at task records n)) t
            → AreEnding (map (file_at task records) (ms ++ n ∷ ks)) (map done ms ++ t ∷ map (λ n. front (output_at task n) ++ bytes_at task records n) ks)
        ending [] n ks t part = inr (part, drafts ks)
        ending (m ∷ ms) n ks t part = inl (whole m, ending ms n ks t part)

        standing_names : (ks : List ℕ) → named (map (file_at task records) ks) (map (λ n. front (output_at task n) ++ bytes_at task records n) ks) ≡ texts task (λ n. front (output_at task n) ++ bytes_at task records n) ks
        standing_names [] = refl
        standing_names (k ∷ ks) =
            let pair : List ℕ × List ℕ = ((output_at task k).name, front (output_at task k) ++ bytes_at task records k) in
            ap (λ (ps : List (List ℕ × List ℕ)). pair ∷ ps) (standing_names ks)

        names : (ms : List ℕ) (n : ℕ) (ks : List ℕ) (t : List ℕ) → named (map (file_at task records) (ms ++ n ∷ ks)) (map done ms ++ t ∷ map (λ n. front (output_at task n) ++ bytes_at task records n) ks)
            ≡ texts task done ms ++ ((output_at task n).name, t) ∷ texts task (λ n. front (output_at task n) ++ bytes_at task records n) ks
        names [] n ks t =
            let pair : List ℕ × List ℕ = ((output_at task n).name, t) in
            ap (λ (ps : List (List ℕ × List ℕ)). pair ∷ ps) (standing_names ks)
        names (m ∷ ms) n ks t =
            let pair : List ℕ × List ℕ = ((output_at task m).name, done m) in
            ap (λ (ps : List (List ℕ × List ℕ)). pair ∷ ps) (names ms n ks t)

-- ---- parts that are stopped

-- stopping a part failed: all parts hold prefixes of what they would
pub ended_prefixes : (task : SplitTask) (was now : Option FileMap) (ns : List ℕ) (ws : List WriterSeen) (records : List (List ℕ)) (rest others : List WriterSeen) (w : WriterSeen) (e : EndedSo task (λ n. stopped (output_at task n) (bytes_at task records n)) was now ns ws rest records) (popped : rest ≡ others ++ w ∷ []) (new : Option FileMap) (k : ℕ)
    → new ≡ with_file now (output_at task (get_or ns e.place 0)).name (take k (stopped (output_at task (get_or ns e.place 0)) (bytes_at task records (get_or ns e.place 0)))) → LeavesPrefixes task was new records
ended_prefixes task was now ns ws records rest others w e popped new k to =
    let done = λ (n : ℕ). stopped (output_at task n) (bytes_at task records n) in
    let n = get_or ns e.place 0 in
    let past = more task done was now ns ws records rest others w e popped in
    let parts : ns ≡ take e.place ns ++ n ∷ drop (suc e.place) ns = sym (take-append-drop e.place ns) ∙ ap (λ (t : List ℕ). take e.place ns ++ t) (drop-cons ns e.place 0 past) in
    let one : List ℕ × List ℕ = ((output_at task n).name, take k (done n)) in
    let before = map (standing task (bytes_at task records)) (take e.place ns) in
    let after = map (standing task (bytes_at task records)) (drop (suc e.place) ns) in
    record {
      numbers = ns;
      others = [];
      split = sym e.began.numbers_are ∙ sym (append-nil ns);
      few = subst (λ (t : List ℕ). length t ≤ MAX_PARTS) e.began.numbers_are e.began.few;
      texts = before ++ one ∷ after;
      are = subst (λ (ms : List ℕ). ArePrefixes task (bytes_at task records) ms (before ++ one ∷ after)) (sym parts)
          (prefixes-append task (bytes_at task records) (take e.place ns) (n ∷ drop (suc e.place) ns) before (one ∷ after) (whole_all (take e.place ns)) ((refl, (k, refl)), whole_all (drop (suc e.place) ns)));
      held = ended_part task done was now ns ws records rest others w e popped new (take k (done n)) to;
    }
  where
    whole_all : (ms : List ℕ) → ArePrefixes task (bytes_at task records) ms (map (standing task (bytes_at task records)) ms)
    whole_all [] = tt
    whole_all (m ∷ ms) =
        let text = front (output_at task m) ++ bytes_at task records m in
        ((refl, (length text, whole_prefix text)), whole_all ms)

pub emptied : (rest others : List WriterSeen) → rest ≡ others ++ [] → length others ≡ 0 → rest ≡ []
emptied rest others is none = is ∙ append-nil others ∙ nothing others none
  where
    nothing : (xs : List WriterSeen) → length xs ≡ 0 → xs ≡ []
    nothing [] e = refl
    nothing (x ∷ xs) e = absurd (omega (arith, e))

-- a list that was written back whole
pub put_back : (ws now : List WriterSeen) (len : ℕ) → len ≡ length ws → length now ≡ length ws → take len (now ++ drop (length now) ws) ≡ now
put_back ws now len all same =
    ap (λ (t : List WriterSeen). take len (now ++ t)) (drop_all (length now) ws (omega (arith, same))) ∙ ap (take len) (append-nil now) ∙ take_all len now (omega (arith, all, same))
