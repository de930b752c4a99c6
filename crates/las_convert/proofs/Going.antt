-- Records that are kept, taken and seen, some after others.
use Rattle.std.proofs.Common.{◌≡◌, inl, inr, ℕ, ◌+◌, ◌*◌, ◌/◌, ◌%◌, ◌<◌, ◌≤◌, ◌^◌, Bool, false, List, [], ◌++◌, length, take, Option, refl, sym, ◌∙◌, ap, subst, append_assoc, length-append, arith}
use Rattle.std.specs.List.{concat}
use Rattle.std.proofs.lemmas.List.{append-nil, length-take-le}
use Rattle.std.proofs.Math.Nat.{div-add-mod, le_of_mul-le-mul_left, mod-lt, mul-div_right, mul-le-mul_left, mul-mod_right}
use Rattle.std.proofs.lemmas.Bool.{cases_lt}
use Rattle.las_filter.specs.Kept.{Steps}
use Rattle.las_info.specs.Tallies.{TapSeen}
use Rattle.las_thin.specs.Placed.{Placed}
use Rattle.las_thin.specs.Sieving.{Sieving}
use Rattle.las_outside.specs.Outside.{Outside}
use Rattle.las_outside.specs.Files.{FileMap}
use Rattle.laz_file.specs.Copying.{CanTake, HoldFirst, LeavesPart, Takes}
use Rattle.laz_forms.specs.Outputs.{Output}
use Rattle.laz_reader.specs.Reading.{ReaderSeen, records_in}
use Rattle.laz_writer.specs.Writing.{Stands, WriterSeen}
use Rattle.laz_forms.proofs.Public.{concat-append, even_all}
use Rattle.laz_writer.proofs.Public.{cut-append}
use Rattle.laz_file.proofs.Public.{even_for, part_stands, part_then, takes_none, takes_read, takes_then}
use Rattle.las_convert.specs.Adding.{Adds, Goes, HaveCounted, IsAfter, Keeping, LeavesKept}
use Rattle.las_convert.proofs.Shown.{counted_more, seen_by, shown_none, shown_then}
use Rattle.las_convert.proofs.Adding.{adds_none, adds_then}
use Rattle.las_header.specs.Plain.{cut_all}
use Rattle.las_header.proofs.Public.{cut_none, cut_length}

-- ---- whole records

-- ---- what goes into a writer, some after others

module _ (keeping : Keeping) (past : List (List ℕ)) (size : ℕ) (some : 0 < size) where
  pub goes_none : (now : Outside) (w : WriterSeen) (taps : List TapSeen) → Goes keeping past size [] now now w w taps taps 0 false
  goes_none now w taps = record {
    ones = [];
    adds = subst (λ (rs : List (List ℕ)). Adds keeping past rs [] false) (sym (cut_none size some)) (adds_none keeping past);
    count_is = refl;
    bytes = omega arith;
    less = omega arith;
    takes = takes_none now w;
    shown = shown_none size taps some;
  }

  pub goes_read : {taps seen : List TapSeen} (records : List ℕ) (old now later : Outside) (w v : WriterSeen) (count : ℕ) (refused : Bool) → later.held ≡ now.held → later.write_faults ≡ now.write_faults → Goes keeping past size records old now w v taps seen count refused → Goes keeping past size records old later w v taps seen count refused
  goes_read records old now later w v count refused held writes g =
      record { ones = g.ones; adds = g.adds; count_is = g.count_is; bytes = g.bytes; less = g.less; takes = takes_read old now later w v (concat g.ones) held writes g.takes; shown = g.shown }

  pub goes_then : {taps seen last : List TapSeen} (xs ys : List ℕ) (old mid new : Outside) (w v u : WriterSeen) (m n : ℕ) (refused : Bool) → length xs % size ≡ 0 → Goes keeping past size xs old mid w v taps seen m false → Goes keeping (past ++ cut_all size xs) size ys mid new v u seen last n refused
      → Goes keeping past size (xs ++ ys) old new w u taps last (m + n) refused
  goes_then {taps} {seen} {last} xs ys old mid new w v u m n refused even one two =
      let both = concat-append one.ones two.ones in
      let count = length-append one.ones two.ones in
      let long = ap (λ (t : List ℕ). length t) both ∙ length-append (concat one.ones) (concat two.ones) in
      let double : size * length (one.ones ++ two.ones) ≡ size * length one.ones + size * length two.ones = ap (λ (k : ℕ). size * k) count ∙ (let e : size * (length one.ones + length two.ones) ≡ size * length one.ones + size * length two.ones = omega arith in e) in
      let whole : length (concat one.ones) % size ≡ 0 = ap (λ (k : ℕ). k % size) one.bytes ∙ mul-mod_right size (length one.ones) in
      record {
        ones = one.ones ++ two.ones;
        adds = subst (λ (rs : List (List ℕ)). Adds keeping past rs (one.ones ++ two.ones) refused) (sym (cut-append size xs ys some even)) (adds_then keeping past (cut_all size xs) (cut_all size ys) one.ones two.ones refused one.adds two.adds);
        count_is = omega (arith, count, one.count_is, two.count_is);
        bytes = omega (arith, long, double, one.bytes, two.bytes);
        less = omega (arith, long, one.less, two.less, length-append xs ys);
        takes = subst (Takes old new w u) (sym both) (takes_then old mid new w v u (concat one.ones) (concat two.ones) one.takes two.takes);
        shown = subst (λ (t : List ℕ). last ≡ seen_by size t taps) (sym both) (shown_then size (concat one.ones) (concat two.ones) taps seen last some whole one.shown two.shown);
      }

  -- what a failed call leaves
  pub leaves_then : {taps seen : List TapSeen} (xs ys : List ℕ) (old mid new : Outside) (w v : WriterSeen) (m : ℕ) → length xs % size ≡ 0 → Goes keeping past size xs old mid w v taps seen m false → LeavesKept keeping (past ++ cut_all size xs) size ys mid new v → LeavesKept keeping past size (xs ++ ys) old new w
  leaves_then xs ys old mid new w v m even one two = record {
    first = cut_all size xs ++ two.first;
    rest = two.rest;
    ones = one.ones ++ two.ones;
    refused = two.refused;
    split = cut-append size xs ys some even ∙ ap (λ (rs : List (List ℕ)). cut_all size xs ++ rs) two.split ∙ sym (append_assoc (cut_all size xs) two.first two.rest);
    adds = adds_then keeping past (cut_all size xs) two.first one.ones two.ones two.refused one.adds two.adds;
    part = subst (LeavesPart old new w) (sym (concat-append one.ones two.ones)) (part_then old mid new w v (concat one.ones) (concat two.ones) one.takes two.part);
  }

  pub leaves_goes : {taps seen : List TapSeen} (xs ys : List ℕ) (old now later : Outside) (w v : WriterSeen) (m : ℕ) → length xs % size ≡ 0 → later.held ≡ now.held → Goes keeping past size xs old now w v taps seen m false → LeavesKept keeping past size (xs ++ ys) old later w
  leaves_goes xs ys old now later w v m even held g = record {
    first = cut_all size xs;
    rest = cut_all size ys;
    ones = g.ones;
    refused = false;
    split = cut-append size xs ys some even;
    adds = g.adds;
    part = part_stands old now later w v (concat g.ones) held g.takes;
  }

  pub leaves_now : {taps seen : List TapSeen} (xs : List ℕ) (old now later : Outside) (w v : WriterSeen) (m : ℕ) → length xs % size ≡ 0 → later.held ≡ now.held → Goes keeping past size xs old now w v taps seen m false → LeavesKept keeping past size xs old later w
  leaves_now xs old now later w v m even held g =
      subst (λ (t : List ℕ). LeavesKept keeping past size t old later w) (append-nil xs) (leaves_goes xs [] old now later w v m even held g)

-- how many records bytes are
pub count_is : (size : ℕ) (bytes : List ℕ) → length (cut_all size bytes) ≡ length bytes / size
count_is size bytes = cut_length size (length bytes / size) bytes

-- whole records that take no more bytes
pub few_ones : (size len bytes k : ℕ) → 0 < size → len ≡ size * k → len ≤ bytes → (len / size ≡ k) × (k ≤ bytes / size)
few_ones size len bytes k some is less = (
  ap (λ (n : ℕ). n / size) is ∙ mul-div_right k some,
  elim (cases_lt (bytes / size) k) [
    | inr fine ↦ fine
    | inl past ↦
        let more : bytes / size + 1 ≤ k = omega (arith, past) in
        absurd (omega (arith, mul-le-mul_left size more, div-add-mod bytes size, mod-lt bytes some, is, less))
  ],
)

-- how many records were counted by the taps
pub goes_counted : {taps seen : List TapSeen} (keeping : Keeping) (past : List (List ℕ)) (size : ℕ) (records : List ℕ) (old now : Outside) (w v : WriterSeen) (count : ℕ) (refused : Bool) (n m : ℕ) → 0 < size → n + length records / size ≤ m
    → Goes keeping past size records old now w v taps seen count refused → HaveCounted n taps → HaveCounted m seen
goes_counted {taps} {seen} keeping past size records old now w v count refused n m some less g few =
    let fits = few_ones size (length (concat g.ones)) (length records) (length g.ones) some g.bytes g.less in
    counted_more n m size (concat g.ones) taps seen (omega (arith, less, fits.0, fits.1)) g.shown few

-- a sieve that no records came to
pub after_none : (plan : Steps) (looked : List Placed) (past : List (List ℕ)) (sieving : Sieving) (read size : ℕ) → 0 < size → IsAfter plan looked past sieving read → IsAfter plan looked (past ++ cut_all size []) sieving read
after_none plan looked past sieving read size some is =
    subst (λ (rs : List (List ℕ)). IsAfter plan looked rs sieving read) (sym (ap (λ (rs : List (List ℕ)). past ++ rs) (cut_none size some) ∙ append-nil past)) is

-- ---- one block

pub kept_even : (size len wide : ℕ) (buffer : List ℕ) (ones : List (List ℕ)) → len ≤ length buffer → len ≡ size * length ones → wide ≡ size → length (take len buffer) % wide ≡ 0
kept_even size len wide buffer ones within is same =
    ap (λ (n : ℕ). length (take len buffer) % n) same ∙ ap (λ (n : ℕ). n % size) (length-take-le len buffer within ∙ is) ∙ mul-mod_right size (length ones)

pub kept_goes : {taps seen : List TapSeen} (keeping : Keeping) (past : List (List ℕ)) (size len : ℕ) (block buffer : List ℕ) (ones : List (List ℕ)) (old new : Outside) (w v : WriterSeen) (refused : Bool) → 0 < size → len ≤ length block → len ≤ length buffer → take len buffer ≡ concat ones → len ≡ size * length ones
    → Adds keeping past (cut_all size block) ones refused → Takes old new w v (take len buffer) → seen ≡ seen_by size (take len buffer) taps → Goes keeping past size block old new w v taps seen (len / size) refused
kept_goes {taps} {seen} keeping past size len block buffer ones old new w v refused some less within bytes is adds takes shown =
    let long : length (concat ones) ≡ len = ap (λ (t : List ℕ). length t) (sym bytes) ∙ length-take-le len buffer within in
    record {
      ones = ones;
      adds = adds;
      count_is = ap (λ (n : ℕ). n / size) is ∙ mul-div_right (length ones) some;
      bytes = long ∙ is;
      less = omega (arith, long, less);
      takes = subst (Takes old new w v) bytes takes;
      shown = subst (λ (t : List ℕ). seen ≡ seen_by size t taps) bytes shown;
    }

-- what is left if the taps fail
pub leaves_taken : (keeping : Keeping) (past : List (List ℕ)) (size len : ℕ) (block buffer : List ℕ) (ones : List (List ℕ)) (old new : Outside) (w v : WriterSeen) (refused : Bool) → take len buffer ≡ concat ones
    → Adds keeping past (cut_all size block) ones refused → Takes old new w v (take len buffer) → LeavesKept keeping past size block old new w
leaves_taken keeping past size len block buffer ones old new w v refused bytes adds takes = record {
  first = cut_all size block;
  rest = [];
  ones = ones;
  refused = refused;
  split = sym (append-nil (cut_all size block));
  adds = adds;
  part = part_stands old new new w v (concat ones) refl (subst (Takes old new w v) bytes takes);
}

-- what is left if nothing of a block was kept yet
pub leaves_none : (keeping : Keeping) (past : List (List ℕ)) (size : ℕ) (block : List ℕ) (now : Outside) (w : WriterSeen) → LeavesKept keeping past size block now now w
leaves_none keeping past size block now w = record {
  first = [];
  rest = cut_all size block;
  ones = [];
  refused = false;
  split = refl;
  adds = adds_none keeping past;
  part = part_stands now now now w w [] refl (takes_none now w);
}

-- ---- some blocks

-- fewer records are kept than a number of 32 bits has values
pub few_kept : {taps seen : List TapSeen} (keeping : Keeping) (past : List (List ℕ)) (size : ℕ) (records : List ℕ) (old now : Outside) (w v : WriterSeen) (n : ℕ) (refused : Bool) (before : Outside) (out : Output) (bytes : List ℕ) → 0 < size → w.size ≡ size → Stands before old w out bytes → Goes keeping past size records old now w v taps seen n refused → n < 2 ^ 32
few_kept keeping past size records old now w v n refused before out bytes some same s g =
    let t = g.takes before out bytes s in
    let wide : v.size ≡ size = t.size ∙ sym s.size ∙ same in
    let total : length (bytes ++ concat g.ones) ≤ size * v.most = subst (λ (k : ℕ). length (bytes ++ concat g.ones) ≤ k * v.most) (sym t.size ∙ wide) t.within in
    let less : size * length g.ones ≤ size * v.most = omega (arith, total, length-append bytes (concat g.ones), g.bytes) in
    omega (arith, le_of_mul-le-mul_left less some, t.few, g.count_is)

-- the blocks that were read are whole records
pub even_read : (held : Option FileMap) (first : ReaderSeen) (w : WriterSeen) (n : ℕ) (blocks : List (List ℕ)) → CanTake first w → HoldFirst held first n blocks → length (concat blocks) % w.size ≡ 0
even_read held first w n blocks can hold = even_all w.size blocks (even_for first w n blocks can hold.whole)

-- ---- how many records a reader has

pub few_left : (first : ReaderSeen) (w : WriterSeen) → 0 < w.size → CanTake first w → w.most < 2 ^ 32 → records_in first.left < 2 ^ 32
few_left first w some can few =
    let less : w.size * records_in first.left ≤ w.size * w.most = omega (arith, can.room) in
    omega (arith, le_of_mul-le-mul_left less some, few)
