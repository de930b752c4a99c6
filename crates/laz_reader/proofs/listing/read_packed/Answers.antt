use Rattle.std.proofs.Common.{◌≡◌, ◌+◌, ◌-◌, ◌≤◌, ℕ, List, Bool, true, if◌then◌else◌, take, drop, refl, sym, ◌∙◌, ap, subst, Err, length, arith}
use Rattle.std.proofs.lemmas.Result.{IfOk-from_err}
use Rattle.std.specs.Prelude.{Some}
use Rattle.las_header.specs.declared.refusal.Refusal.{Refusal}
use Rattle.laz_forms.specs.declared.fault.Fault.{Fault}
use Rattle.laz_reader.specs.Asking.{asked_for_table}
use Rattle.laz_reader.specs.Reading.{EndsReading, IsHeadOf, IsTablePlace, points_listed, table_size}
use Rattle.las_header.specs.Heads.{HeadView}
use Rattle.laz_reader.proofs.Exits.{at_exit, ends_after}
use Rattle.las_header.specs.Fields.{head_of, is_packed}
use Rattle.las_outside.proofs.Public.{calm-trans, only_reads-trans}
use Rattle.laz_forms.specs.Refusing.{IsRefusal, table_part, table_place}
use Rattle.laz_forms.proofs.Public.{known_at, known_both, known_then, known_three, ok_no_fault}
use Rattle.laz_reader.proofs.Heads.{residual_is}
use Rattle.laz_reader.proofs.Accepting.{accepted_packed, blocks_as, packed_lie, points_as, refused_pointer, refused_table}
use Rattle.laz_reader.proofs.listing.read_packed.Goals as goal

pub returns-clause-stands : goal.returns-clause-stands
returns-clause-stands g c =
    let offset = c.from-offset.result in
    let start = c.in_ok-place.place.start in
    let end = c.in_ok-place.place.end in
    let offset_is = c.from-offset.ensures ∙ c.offset.ensures.field in
    let blocks_are = blocks_as c.args.head.now.bytes c.args.chunk c.points.result c.blocks_of-blocks.result c.blocks_of-blocks.ensures c.requires.chunk c.points.ensures in
    let counts = c.in_ok-sizes.field-0.sizes.items in
    let sizes = c.in_ok-sizes.field-0.counts.items in
    let order = c.in_ok-place.ensures.order in
    known_three _ _ _ _ _ _ (λ file h place list.
    let both = accepted_packed file c.args.head.now h c.requires.packed c.requires.vlr start end (start - (offset + 8)) offset c.blocks_of-blocks.result place blocks_are offset_is refl c.args.chunk counts sizes list in
    let size_is : c.args.size ≡ length file = sym c.requires.size ∙ h.size in
    let lie = packed_lie file c.args.head.now h c.requires.packed c.requires.vlr start end (start - (offset + 8)) offset c.blocks_of-blocks.result place blocks_are offset_is refl c.args.chunk counts sizes order.0 (omega (arith, order.1, order.2, size_is)) c.in_ok-sizes.ensures.lists.whole in
    record { accepted = both.0; are = both.1; lie = lie }) c.requires.head c.in_ok-place.ensures.place (known_at _ _ _ _ c.in_ok-place.ensures.reads.only.held c.in_ok-sizes.ensures.accepted)

pub returns-clause-points : goal.returns-clause-points
returns-clause-points g c =
    c.in_ok-sizes.ensures.points ∙ ap points_listed c.blocks_of-blocks.ensures ∙ points_as c.args.chunk c.points.result ∙ c.points.ensures

-- what is asked for the list of a packed file
packed_asks : (file : List ℕ) (head : HeadView) (old new : ℕ) → IsHeadOf file head → is_packed head.bytes ≡ true → new ≤ old + (16 + table_size (table_part file)) → new ≤ old + asked_for_table file
packed_asks file head old new h packed asks =
    let is : true ≡ is_packed (head_of file) = sym packed ∙ ap is_packed h.bytes in
    subst (λ (b : Bool). new ≤ old + (if b then 16 + table_size (table_part file) else 0)) is asks

place_asks : (old new size : ℕ) → new ≤ old + 16 → new ≤ old + (16 + size)
place_asks old new size asks = omega arith

asked_both : (old mid new part table : ℕ) → mid ≤ old + 16 → new ≤ mid + part → part ≡ table → new ≤ old + (16 + table)
asked_both old mid new part table first asks same = omega arith

table_asks : (file : List ℕ) (start end old mid new : ℕ) → IsTablePlace file start end → mid ≤ old + 16 → new ≤ mid + table_size (drop start (take end file)) → new ≤ old + (16 + table_size (table_part file))
table_asks file start end old mid new place first asks =
    let same : table_size (drop start (take end file)) ≡ table_size (table_part file) = ap (λ (n : ℕ). table_size (drop n (take end file))) place.starts ∙ ap (λ (n : ℕ). table_size (drop (table_place file) (take n file))) place.ends in
    asked_both old mid new _ _ first asks same

pub returns-clause-asked_of : goal.returns-clause-asked_of
returns-clause-asked_of g c =
    known_three _ _ _ _ _ _ (λ file h place asks. packed_asks file c.args.head.now _ _ h c.requires.packed (table_asks file c.in_ok-place.place.start c.in_ok-place.place.end _ _ _ place c.find_table.ensures.reads.asked asks)) c.requires.head c.in_ok-place.ensures.place (known_at _ _ _ _ c.find_table.ensures.reads.only.held c.read_chunks.ensures.asked_of)

pub returns-clause-reads : goal.returns-clause-reads
returns-clause-reads g c = only_reads-trans _ _ _ c.find_table.ensures.reads.only c.read_chunks.ensures.reads

pub returns-clause-calm : goal.returns-clause-calm
returns-clause-calm g c = calm-trans _ _ _ c.in_ok-place.ensures.calm c.in_ok-sizes.ensures.calm

pub returns-clause-ends : goal.returns-clause-ends
returns-clause-ends g c = tt

pub returns-clause-refused : goal.returns-clause-refused
returns-clause-refused g c = λ cause is. ok_no_fault _ _ is

pub returns-in_err-place : goal.returns-in_err-place
returns-in_err-place g c =
    record {
      chunk = IfOk-from_err c.from_residual.result _ c.from_residual.ensures.0;
      points = IfOk-from_err c.from_residual.result _ c.from_residual.ensures.0;
      some = IfOk-from_err c.from_residual.result _ c.from_residual.ensures.0;
      lists = IfOk-from_err c.from_residual.result _ c.from_residual.ensures.0;
      near = IfOk-from_err c.from_residual.result _ c.from_residual.ensures.0;
      stands = IfOk-from_err c.from_residual.result _ c.from_residual.ensures.0;
      refused = λ cause is.
          let same = residual_is c.from_residual.result c.in_err-place.field-0.0 cause c.from_residual.ensures.1 is in
          let refused = c.in_err-place.ensures.refused cause (ap (λ (f : Fault). Err f) same) in
          known_both _ _ _ _ _ (λ file h bad. subst (λ (x : Refusal). IsRefusal file (Some x)) (sym refused.0)
          (refused_pointer file c.args.head.now h c.requires.packed c.requires.vlr bad)) c.requires.head refused.1;
      reads = c.find_table.ensures.reads.only;
      calm = IfOk-from_err c.from_residual.result _ c.from_residual.ensures.0;
      ends = let old = g.F.Files.seen c.args.files.now in
          let new = g.F.Files.seen c.find_table.new.files in
          at_exit c.from_residual.result c.in_err-place.field-0.0 (EndsReading ⊥ old new) c.from_residual.ensures.1
          c.in_err-place.ensures.ends;
      asked = IfOk-from_err c.from_residual.result _ c.from_residual.ensures.0;
      asked_of =
          known_then _ _ _ _ (λ file h. packed_asks file c.args.head.now _ _ h c.requires.packed (place_asks _ _ _
          c.find_table.ensures.reads.asked)) c.requires.head;
    }

pub returns-in_err-sizes : goal.returns-in_err-sizes
returns-in_err-sizes g c =
    record {
      chunk = IfOk-from_err c.from_residual-in_err-sizes.result _ c.from_residual-in_err-sizes.ensures.0;
      points = IfOk-from_err c.from_residual-in_err-sizes.result _ c.from_residual-in_err-sizes.ensures.0;
      some = IfOk-from_err c.from_residual-in_err-sizes.result _ c.from_residual-in_err-sizes.ensures.0;
      lists = IfOk-from_err c.from_residual-in_err-sizes.result _ c.from_residual-in_err-sizes.ensures.0;
      near = IfOk-from_err c.from_residual-in_err-sizes.result _ c.from_residual-in_err-sizes.ensures.0;
      stands = IfOk-from_err c.from_residual-in_err-sizes.result _ c.from_residual-in_err-sizes.ensures.0;
      refused = λ cause is.
          let same =
          residual_is c.from_residual-in_err-sizes.result c.in_err-sizes.field-0.0 cause
          c.from_residual-in_err-sizes.ensures.1 is in
          let refused = c.in_err-sizes.ensures.refused cause (ap (λ (f : Fault). Err f) same) in
          let offset = c.from-offset.result in
          let start = c.in_ok-place.place.start in
          let offset_is = c.from-offset.ensures ∙ c.offset.ensures.field in
          let blocks_are =
          blocks_as c.args.head.now.bytes c.args.chunk c.points.result c.blocks_of-blocks.result
          c.blocks_of-blocks.ensures c.requires.chunk c.points.ensures in
          known_three _ _ _ _ _ _ (λ file h place table. refused_table file c.args.head.now h c.requires.packed
          c.requires.vlr start c.in_ok-place.place.end (start - (offset + 8)) offset c.blocks_of-blocks.result place
          blocks_are offset_is refl (Some cause) table) c.requires.head c.in_ok-place.ensures.place
          (known_at _ _ _ _ c.in_ok-place.ensures.reads.only.held refused);
      reads = only_reads-trans _ _ _ c.find_table.ensures.reads.only c.read_chunks.ensures.reads;
      calm = IfOk-from_err c.from_residual-in_err-sizes.result _ c.from_residual-in_err-sizes.ensures.0;
      ends = let old = g.F.Files.seen c.args.files.now in
          let mid = g.F.Files.seen c.find_table.new.files in
          let new = g.F.Files.seen c.read_chunks.new.files in
          at_exit c.from_residual-in_err-sizes.result c.in_err-sizes.field-0.0 (EndsReading ⊥ old new)
          c.from_residual-in_err-sizes.ensures.1
          (ends_after ⊥ old mid new c.in_err-sizes.field-0.0 c.in_ok-place.ensures.calm.reads
          c.in_err-sizes.ensures.ends);
      asked = IfOk-from_err c.from_residual-in_err-sizes.result _ c.from_residual-in_err-sizes.ensures.0;
      asked_of =
          known_three _ _ _ _ _ _ (λ file h place asks. packed_asks file c.args.head.now _ _ h c.requires.packed
          (table_asks file c.in_ok-place.place.start c.in_ok-place.place.end _ _ _ place
          c.find_table.ensures.reads.asked asks)) c.requires.head c.in_ok-place.ensures.place
          (known_at _ _ _ _ c.find_table.ensures.reads.only.held c.read_chunks.ensures.asked_of);
    }
