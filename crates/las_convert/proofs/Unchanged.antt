-- Records that go on as they were read.
use Rattle.std.proofs.Common.{◌≡◌, ℕ, ◌+◌, ◌*◌, ◌/◌, ◌%◌, false, List, [], ◌∷◌, ◌++◌, length, map, Option}
use Rattle.std.proofs.Common.{Some, None, refl, sym, ◌∙◌, ap, subst, arith}
use Rattle.std.specs.Option.{is_none, some_prefix}
use Rattle.std.specs.List.{concat, filter, position_from}
use Rattle.std.proofs.lemmas.List.{append-nil}
use Rattle.std.proofs.lemmas.Iterator.Adapters.{position_from-zero}
use Rattle.std.proofs.Math.Nat.{div-add-mod}
use Rattle.las_filter.specs.declared.change.Change.{Change}
use Rattle.las_filter.specs.declared.keep.Keep.{Keep}
use Rattle.las_filter.specs.Filters.{keeps_all}
use Rattle.las_filter.specs.Changes.{changed}
use Rattle.las_filter.specs.Kept.{Kept, Steps, kept, kept_of}
use Rattle.las_info.specs.Tallies.{TapSeen, shown_all}
use Rattle.las_outside.specs.Outside.{Outside}
use Rattle.las_thin.specs.Placed.{Placed}
use Rattle.las_thin.specs.Sieving.{Settings}
use Rattle.laz_file.specs.Copying.{LeavesPart, Takes}
use Rattle.laz_writer.specs.Writing.{WriterSeen}
use Rattle.laz_forms.proofs.Public.{cut-joined}
use Rattle.las_convert.specs.Adding.{Adds, ChangesNothing, Goes, Keeping, LeavesKept, kept_by}
use Rattle.las_convert.proofs.Adding.{kept_from}
use Rattle.las_convert.proofs.Passing.{kept_as_plan}
use Rattle.las_header.specs.Plain.{cut_all}
use Rattle.las_header.proofs.Public.{cut_length}

-- ---- what a plan without filters and changes keeps

each_passes : (records : List (List ℕ)) → map (changed []) (filter (keeps_all []) records) ≡ map
    (λ (point : List ℕ). Some point) records
each_passes [] = refl
each_passes (point ∷ records) = ap (λ (rest : List (Option (List ℕ))). Some point ∷ rest) (each_passes records)

none_refused : (i : ℕ) (records : List (List ℕ)) → position_from is_none i
    (map (λ (point : List ℕ). Some point) records) ≡ None
none_refused i [] = refl
none_refused i (point ∷ records) = none_refused (i + 1) records

all_made : (records : List (List ℕ)) → some_prefix (map (λ (point : List ℕ). Some point) records) ≡ records
all_made [] = refl
all_made (point ∷ records) = ap (λ (rest : List (List ℕ)). point ∷ rest) (all_made records)

all_kept : (records : List (List ℕ)) → kept_of (map (λ (point : List ℕ). Some point) records) ≡ kept_from records None
all_kept records =
    let outcomes = map (λ (point : List ℕ). Some point) records in
    ap (λ (place : Option ℕ). kept_from (some_prefix outcomes) place)
    (position_from-zero is_none outcomes ∙ none_refused 0 records)
    ∙ ap (λ (rs : List (List ℕ)). kept_from rs None) (all_made records)

kept_unchanged : (plan : Steps) (records : List (List ℕ)) → plan.keeps ≡ [] → plan.changes ≡ []
    → kept plan records ≡ kept_from records None
kept_unchanged plan records keeps changes =
    ap (λ (cs : List Change). kept_of (map (changed cs) (filter (keeps_all plan.keeps) records))) changes
    ∙ ap (λ (ks : List Keep). kept_of (map (changed []) (filter (keeps_all ks) records))) keeps
    ∙ ap kept_of (each_passes records)
    ∙ all_kept records

-- ---- all of it goes on

abbrev pub KeepsAll : Keeping → Type 0
KeepsAll keeping = (records : List (List ℕ)) → keeping records ≡ kept_from records None

pub keeps_unchanged : {Tap : Type 0} (plan : Steps) (settings : Settings) (looked : List Placed) (taps : List Tap)
    → ChangesNothing plan settings taps → KeepsAll (kept_by settings looked plan)
keeps_unchanged plan settings looked taps is records =
    sym (kept_as_plan settings looked plan records is.all_pass_it) ∙ kept_unchanged plan records is.no_filter is.no_change

adds_unchanged : (keeping : Keeping) → KeepsAll keeping → (before xs : List (List ℕ)) → Adds keeping before xs xs false
adds_unchanged keeping all before xs none =
    all (before ++ xs) ∙ ap (λ (rs : List (List ℕ)). kept_from (rs ++ xs) None)
    (sym (ap (λ (k : Kept). k.records) (all before)))

module _ (keeping : Keeping) (all : KeepsAll keeping) (size : ℕ) (bytes : List ℕ) (even : length bytes % size ≡ 0)
    (old new : Outside) (w : WriterSeen) where
  whole : length bytes ≡ size * (length bytes / size)
  whole = omega (arith, div-add-mod (length bytes) size, even)

  joined : concat (cut_all size bytes) ≡ bytes
  joined = cut-joined size (length bytes / size) bytes (omega (arith, whole))

  pub goes_unchanged : (v : WriterSeen) (taps : List TapSeen) → taps ≡ [] → Takes old new w v bytes
      → Goes keeping [] size bytes old new w v taps taps (length (cut_all size bytes)) false
  goes_unchanged v taps none takes =
      let long : length (concat (cut_all size bytes)) ≡ length bytes = ap (λ (t : List ℕ). length t) joined in
      let count : size * length (cut_all size bytes) ≡ size * (length bytes / size) =
      ap (λ (n : ℕ). size * n) (cut_length size (length bytes / size) bytes) in
      record {
        ones = cut_all size bytes;
        adds = adds_unchanged keeping all [] (cut_all size bytes);
        count_is = refl;
        bytes = omega (arith, long, count, whole);
        less = omega (arith, long);
        takes = subst (Takes old new w v) (sym joined) takes;
        shown = none ∙ ap (map (λ tap. shown_all tap (cut_all size (concat (cut_all size bytes))))) (sym none);
      }

  pub leaves_unchanged : LeavesPart old new w bytes → LeavesKept keeping [] size bytes old new w
  leaves_unchanged part = record {
    first = cut_all size bytes;
    rest = [];
    ones = cut_all size bytes;
    refused = false;
    split = sym (append-nil (cut_all size bytes));
    adds = adds_unchanged keeping all [] (cut_all size bytes);
    part = subst (LeavesPart old new w) (sym joined) part;
  }
