-- The records of inputs that were copied, input after input.
use Rattle.std.proofs.Common.{◌≡◌, ◌≢◌, false, ℕ, ◌+◌, ◌*◌, ◌≤◌, List, [], ◌∷◌, ◌++◌, length, get_or, Option, Some, None, refl, sym, ◌∙◌, ap, subst, append_assoc, length-append, arith}
use Rattle.std.specs.List.{concat}
use Rattle.std.specs.Prelude.{All}
use Rattle.std.proofs.lemmas.List.{append-nil}
use Rattle.std.proofs.lemmas.List.Sums.{sum_by-cons}
use Rattle.std.proofs.Math.Seq.{get_or-append_seam}
use Rattle.las_header.specs.declared.refusal.Refusal.{Refusal}
use Rattle.las_header.specs.Fields.{points_of, record_length_of}
use Rattle.las_outside.specs.Files.{FileMap, WhereKnown}
use Rattle.las_outside.specs.Outside.{Outside}
use Rattle.laz_file.specs.Copying.{LeavesPart, Takes, with_reads}
use Rattle.laz_forms.specs.Outputs.{Output}
use Rattle.laz_writer.specs.Writing.{Stands, WriterSeen}
use Rattle.laz_forms.proofs.Public.{concat-append}
use Rattle.laz_file.proofs.Public.{known_taken, part_then, takes_none, takes_then}
use Rattle.las_merge.specs.Copying.{AreCopied, CopiesAll, CopiesInto, CopiesTo, HasRoomForInput, OnlyRecords}
use Rattle.las_merge.specs.Inputs.{item_at}
use Rattle.las_merge.specs.Opening.{InputSeen, IsItsFile, IsOpen, input_names, points_read}

-- The records of the first readers were copied, and these readers are left.
pub record HasCopied (old now : Outside) (readers rest : List InputSeen) (number : ℕ) (w v : WriterSeen) : Type 0 where
  pub done : List InputSeen
  pub parts : List (List ℕ)
  pub split : readers ≡ done ++ rest
  pub count : length done ≡ number
  pub few : length parts ≡ number
  pub copied : AreCopied old.held (input_names done) parts
  pub takes : Takes old now w v (concat parts)

pub has_none : (old : Outside) (readers : List InputSeen) (w : WriterSeen) → HasCopied old old readers readers 0 w w
has_none old readers w = record { done = []; parts = []; split = refl; count = refl; few = refl; copied = tt; takes = takes_none old w }

-- one input more
copied_more : (held : Option FileMap) (names parts : List (List ℕ)) (name part : List ℕ) → length parts ≡ length names → AreCopied held names parts → CopiesTo held name part None → AreCopied held (names ++ name ∷ []) (parts ++ part ∷ [])
copied_more held [] [] name part same all here = (here, tt)
copied_more held [] (p ∷ ps) name part same all here = absurd all
copied_more held (n ∷ ns) [] name part same all here = absurd (omega (arith, same))
copied_more held (n ∷ ns) (p ∷ ps) name part same all here = (all.0, copied_more held ns ps name part (omega (arith, same)) all.1 here)

-- further inputs
copied_longer : (held : Option FileMap) (names more parts : List (List ℕ)) → AreCopied held names parts → AreCopied held (names ++ more) parts
copied_longer held names more [] all = tt
copied_longer held [] more (p ∷ ps) all = absurd all
copied_longer held (n ∷ ns) more (p ∷ ps) all = (all.0, copied_longer held ns more ps all.1)

names-append : (xs ys : List InputSeen) → input_names (xs ++ ys) ≡ input_names xs ++ input_names ys
names-append [] ys = refl
names-append (x ∷ xs) ys = ap (λ (ns : List (List ℕ)). x.name ∷ ns) (names-append xs ys)

names-length : (xs : List InputSeen) → length (input_names xs) ≡ length xs
names-length [] = refl
names-length (x ∷ xs) = omega (arith, names-length xs)

module _ (old now : Outside) (readers rest : List InputSeen) (reader : InputSeen) (number : ℕ) (w v : WriterSeen) (has : HasCopied old now readers (reader ∷ rest) number w v) where
  names_are : input_names readers ≡ input_names has.done ++ (reader.name ∷ input_names rest)
  names_are = ap input_names has.split ∙ names-append has.done (reader ∷ rest)

  names_count : length (input_names has.done) ≡ number
  names_count = names-length has.done ∙ has.count

  -- some records of the next input
  pub into_next : (P : (name part : List ℕ) → Type 0) (part : List ℕ) → P reader.name part → CopiesInto old.held (input_names readers) number (concat has.parts ++ part) P
  into_next P part here =
      let at : item_at (input_names readers) number ≡ reader.name =
      ap (λ (ns : List (List ℕ)). item_at ns number) names_are
      ∙ ap (λ (k : ℕ). item_at (input_names has.done ++ (reader.name ∷ input_names rest)) k) (sym names_count)
      ∙ get_or-append_seam (input_names has.done) reader.name (input_names rest) [] in
      record {
        parts = has.parts;
        part = part;
        copied = subst (λ (ns : List (List ℕ)). AreCopied old.held ns has.parts) (sym names_are) (copied_longer old.held (input_names has.done) (reader.name ∷ input_names rest) has.parts has.copied);
        number_is = has.few;
        within = omega (arith, ap (λ (ns : List (List ℕ)). length ns) names_are, length-append (input_names has.done) (reader.name ∷ input_names rest), names_count);
        here = subst (λ (n : List ℕ). P n part) (sym at) here;
        records_are = refl;
      }

  -- all of its records
  pub has_more : (later : Outside) (u : WriterSeen) (part : List ℕ) → CopiesTo old.held reader.name part None → Takes now later v u part → HasCopied old later readers rest (number + 1) w u
  has_more later u part here takes = record {
    done = has.done ++ reader ∷ [];
    parts = has.parts ++ part ∷ [];
    split = has.split ∙ sym (append_assoc has.done (reader ∷ []) rest);
    count = omega (arith, length-append has.done (reader ∷ []), has.count);
    few = omega (arith, length-append has.parts (part ∷ []), has.few);
    copied = subst (λ (ns : List (List ℕ)). AreCopied old.held ns (has.parts ++ part ∷ [])) (sym (names-append has.done (reader ∷ [])))
        (copied_more old.held (input_names has.done) has.parts reader.name part (has.few ∙ sym names_count) has.copied here);
    takes = subst (λ (t : List ℕ). Takes old later w u t) (sym (concat-append has.parts (part ∷ []) ∙ ap (λ (t : List ℕ). concat has.parts ++ t) (append-nil part)))
        (takes_then old now later w v u (concat has.parts) part has.takes takes);
  }

  pub takes_next : (later : Outside) (u : WriterSeen) (part : List ℕ) → Takes now later v u part → Takes old later w u (concat has.parts ++ part)
  takes_next later u part takes = takes_then old now later w v u (concat has.parts) part has.takes takes

  pub leaves_next : (later : Outside) (part : List ℕ) → LeavesPart now later v part → LeavesPart old later w (concat has.parts ++ part)
  leaves_next later part left = part_then old now later w v (concat has.parts) part has.takes left

-- all inputs were copied
pub copies_all : (old now : Outside) (readers : List InputSeen) (number : ℕ) (w v : WriterSeen) (has : HasCopied old now readers [] number w v) → CopiesAll old.held (input_names readers) (concat has.parts)
copies_all old now readers number w v has =
    let same : readers ≡ has.done = has.split ∙ append-nil has.done in
    record {
      parts = has.parts;
      copied = subst (λ (rs : List InputSeen). AreCopied old.held (input_names rs) has.parts) (sym same) has.copied;
      all = omega (arith, has.few, has.count, names-length readers, ap (λ (rs : List InputSeen). length rs) same);
      records_are = refl;
    }

-- ---- the next input, while the output is written

all_here : (P : InputSeen → Type 0) (readers done rest : List InputSeen) (reader : InputSeen) → readers ≡ done ++ (reader ∷ rest) → All P readers → P reader
all_here P readers done rest reader split all =
    subst P (ap (λ (rs : List InputSeen). get_or rs (length done) reader) split ∙ get_or-append_seam done reader rest reader)
    (all (length done) reader (omega (arith, ap (λ (rs : List InputSeen). length rs) split, length-append done (reader ∷ rest))))

points-cons : (reader : InputSeen) (rest : List InputSeen) → points_read (reader ∷ rest) ≡ points_of reader.head.bytes + points_read rest
points-cons reader rest = sum_by-cons (λ (r : InputSeen). points_of r.head.bytes) reader rest

module _ (old now : Outside) (readers rest : List InputSeen) (reader : InputSeen) (number : ℕ) (w v : WriterSeen) (has : HasCopied old now readers (reader ∷ rest) number w v) (before : Outside) (out : Output) (bytes : List ℕ) (s : Stands before old w out bytes) where
  pub next_stands : Stands (with_reads before now) now v out (bytes ++ concat has.parts)
  next_stands = has.takes before out bytes s

  same_name : v.name ≡ w.name
  same_name = next_stands.named ∙ sym s.named

  same_size : v.size ≡ w.size
  same_size = next_stands.size ∙ sym s.size

  pub next_name : All (λ r. r.name ≢ w.name) readers → reader.name ≢ v.name
  next_name all e = all_here (λ r. r.name ≢ w.name) readers has.done rest reader has.split all (e ∙ same_name)

  pub next_open : All (IsOpen old.held) readers → All (λ r. r.name ≢ w.name) readers → IsOpen now.held reader
  next_open all names =
      let o = all_here (IsOpen old.held) readers has.done rest reader has.split all in
      let ne = all_here (λ r. r.name ≢ w.name) readers has.done rest reader has.split names in
      record {
        one = o.one;
        none = o.none;
        stands = (known_taken old now w v (concat has.parts) before out bytes s has.takes reader.name ne (IsItsFile reader)).0 o.stands;
      }

  next_size : All (λ r. record_length_of r.head.bytes ≡ w.size) readers → v.size ≡ record_length_of reader.head.bytes
  next_size all = same_size ∙ sym (all_here (λ r. record_length_of r.head.bytes ≡ w.size) readers has.done rest reader has.split all)

  pub next_room : All (λ r. record_length_of r.head.bytes ≡ w.size) readers → v.failed ≡ false → v.taken + v.size * points_read (reader ∷ rest) ≤ v.size * v.most → HasRoomForInput reader v
  next_room sizes sound room =
      let size = next_size sizes in
      let here = ap (λ (n : ℕ). v.size * n) (points-cons reader rest) in
      record { sound = sound; size = size; room = omega (arith, room, here) }

  -- what is known of its file was known before
  pub next_known : All (λ r. r.name ≢ w.name) readers → (P : List ℕ → Type 0) → WhereKnown now.held reader.name P → WhereKnown old.held reader.name P
  next_known names P k =
      (known_taken old now w v (concat has.parts) before out bytes s has.takes reader.name (all_here (λ r. r.name ≢ w.name) readers has.done rest reader has.split names) P).1 k

  pub next_copies : All (λ r. r.name ≢ w.name) readers → (part : List ℕ) (end : Option Refusal) → CopiesTo now.held reader.name part end → CopiesTo old.held reader.name part end
  next_copies names part None k = next_known names (λ file. OnlyRecords file part None) k
  next_copies names part (Some cause) k = (k.0, k.1, next_known names (λ file. OnlyRecords file part (Some k.0)) k.2)

  -- and there is room for those after it
  pub rest_room : (later : Outside) (u : WriterSeen) (part : List ℕ) → Takes now later v u part → length part ≡ v.size * points_of reader.head.bytes → u.most ≡ v.most
      → v.taken + v.size * points_read (reader ∷ rest) ≤ v.size * v.most → u.taken + u.size * points_read rest ≤ u.size * u.most
  rest_room later u part takes long most room =
      let after = takes (with_reads before now) out (bytes ++ concat has.parts) next_stands in
      let size : u.size ≡ v.size = after.size ∙ sym next_stands.size in
      let taken : u.taken ≡ v.taken + length part = after.taken ∙ length-append (bytes ++ concat has.parts) part ∙ ap (λ (n : ℕ). n + length part) (sym next_stands.taken) in
      let here = ap (λ (n : ℕ). v.size * n) (points-cons reader rest) in
      let some : u.taken + v.size * points_read rest ≤ v.size * v.most = omega (arith, room, here, taken, long) in
      subst (λ (k : ℕ). u.taken + k * points_read rest ≤ k * u.most) (sym size) (subst (λ (m : ℕ). u.taken + v.size * points_read rest ≤ v.size * m) (sym most) some)

pub no_items : (items : List InputSeen) (n : ℕ) → length items ≡ n → n ≡ 0 → items ≡ []
no_items [] n long none = refl
no_items (x ∷ xs) n long none = absurd (omega (arith, long, none))
