use Rattle.std.proofs.Common.{rules, arith, ◌≡◌, ◌≤◌, ◌++◌, ◌∷◌, ℕ, List, [], length, true, false, Err, inl, refl, sym, ◌∙◌, ap, subst}
use Rattle.las_header.specs.declared.refusal.Refusal.TheVariants.{NotPacked}
use Rattle.las_header.specs.Fields.{is_packed}
use Rattle.las_header.specs.Heads.{HeadView}
use Rattle.laz_table.specs.declared.limits.TheConstants.{MAX_CHUNKS}
use Rattle.laz_table.specs.VlrCauses.{chunk_size_of}
use Rattle.laz_reader.specs.Asking.{asked_for_chunks, asked_for_list}
use Rattle.std.proofs.Common.{◌+◌, ◌-◌, Bool, cond, Option, Some, None}
use Rattle.laz_reader.specs.Reading.{StandsFor}
use Rattle.laz_forms.proofs.Public.{known_then}
use Rattle.las_merge.specs.Appending.{SourceSeen}
use Rattle.las_merge.specs.Fields.{first_difference}
use Rattle.las_merge.specs.Listing.{FailsNextPacked, ListedInput, ListsChunks}
use Rattle.las_merge.specs.Opening.{InputSeen, first_read}
use Rattle.las_merge.specs.Packed.{IsRefusedToCopy}
use Rattle.las_merge.specs.Asking.{asked_to_compare}
use Rattle.las_merge.proofs.Again.{open_by}
use Rattle.las_merge.proofs.Asked.{asked_one}
use Rattle.las_merge.proofs.KeptPacked.{fails_open}
use Rattle.las_merge.proofs.Listed.{list_more, listed_by}
use Rattle.las_merge.proofs.listing.list_next.Given.{Over}
use Rattle.las_merge.proofs.listing.list_next.Goals.{After-head-2}
use Rattle.las_merge.proofs.listing.list_next.Goals as goal

pub returns-in-Err-clause-ends : goal.returns-in-Err-clause-ends
returns-in-Err-clause-ends g c =
    let old = g.F.Files.seen c.args.files.now in
    let new = g.F.Files.seen c.open.new.files in
    let name = c.args.name.now in
    let inputs = c.args.listed.now.inputs.items in
    let number : c.len-number.result ≡ length inputs = search rules in
    subst (FailsNextPacked name inputs old new) (sym c.fault_of.ensures)
    (fails_open old new name c.len-number.result inputs number c.in-Err.fault (λ cause is. c.in-Err.ensures.refused cause (ap Err is)) c.in-Err.ensures.ends)

pub returns-then-not-packed-clause-ends : goal.returns-then-not-packed-clause-ends
returns-then-not-packed-clause-ends g c =
    let held = (g.F.Files.seen c.args.files.now).held in
    let reader = c.in-Ok.reader in
    let number : c.len-number.result ≡ length c.args.listed.now.inputs.items = search rules in
    let head : c.head.result.now.bytes ≡ reader.head.bytes = ap (λ (h : HeadView). h.bytes) c.head.ensures in
    let plain : is_packed reader.head.bytes ≡ false = ap is_packed (sym head) ∙ sym c.packed.ensures ∙ c.if-not-packed.true in (
      number,
      known_then held c.args.name.now (StandsFor reader) (λ file. IsRefusedToCopy file NotPacked)
          (λ file s. inl (refl, s.accepted, ap (λ (h : HeadView). is_packed h.bytes) (sym s.head) ∙ plain)) c.in-Ok.ensures.stands,
    )

-- what stands when the file was found to be packed
module _ (g : Over) (c : After-head-2 g) where
  packed : is_packed c.in-Ok.reader.head.bytes ≡ true
  packed = ap (λ (h : HeadView). is_packed h.bytes) (sym c.head.ensures) ∙ sym c.packed.ensures
      ∙ c.if-not-packed.false

  compared : first_difference (first_read c.args.listed.now.inputs.items) c.in-Ok.reader.head.bytes
      ≡ first_difference (first_read c.deref.result.now) c.head-2.result.now.bytes
  compared =
      ap (λ (is : List InputSeen). first_difference (first_read is) c.in-Ok.reader.head.bytes)
      (sym c.deref.ensures.value)
      ∙ ap (λ (h : HeadView). first_difference (first_read c.deref.result.now) h.bytes) (sym c.head-2.ensures)

pub returns-in-Some-clause-ends : goal.returns-in-Some-clause-ends
returns-in-Some-clause-ends g c =
    let k = (goal.at.returns-in-Some-clause-ends g c).After-head-2 in
    let reader = c.in-Ok.reader in
    let number : c.len-number.result ≡ length c.args.listed.now.inputs.items = search rules in
    let d = c.in-Some.ensures.other c.in-Some.field refl in (
      number,
      omega (arith, d.0, ap (λ (is : List InputSeen). length is) c.deref.ensures.value),
      (
        record { name = c.args.name.now; head = reader.head },
        refl,
        open_by (g.F.Files.seen c.args.files.now).held c.args.name.now reader c.in-Ok.ensures.whole
            c.in-Ok.ensures.stands,
        packed g k,
        compared g k ∙ d.1,
      ),
    )

pub returns-in-Ok-add-clause-next : goal.returns-in-Ok-add-clause-next
returns-in-Ok-add-clause-next g c =
    let k = (goal.at.returns-in-Ok-add-clause-next g c).After-head-2 in
    let reader = c.in-Ok.reader in (
      record { name = c.args.name.now; head = reader.head },
      record {
        named = refl;
        opened = open_by (g.F.Files.seen c.args.files.now).held c.args.name.now reader c.in-Ok.ensures.whole
            c.in-Ok.ensures.stands;
        alike = λ some. compared g k ∙ c.in_default.ensures.same refl
            (omega (arith, some, ap (λ (is : List InputSeen). length is) c.deref.ensures.value));
      },
      c.in-Ok-add.ensures.inputs,
    )

pub returns-in-Ok-add-clause-lists : goal.returns-in-Ok-add-clause-lists
returns-in-Ok-add-clause-lists g c asked lists =
    let held = (g.F.Files.seen c.args.files.now).held in
    let reader = c.in-Ok.reader in
    let was = c.args.listed.now in
    let now = c.add.new.self in
    let l : ListedInput = record { input = record { name = c.args.name.now; head = reader.head }; pieces = reader.pieces } in
    let packed = packed g (goal.at.returns-in-Ok-add-clause-lists g c).After-head-2 in
    let old = g.F.Files.seen c.args.files.now in
    let new = g.F.Files.seen c.open.new.files in
    let spent = new.asked - old.asked in
    let chunk : reader.chunk ≡ Some (chunk_size_of reader.head.bytes) = c.in-Ok.ensures.whole.chunk ∙ ap (λ (b : Bool). cond b (Some (chunk_size_of reader.head.bytes)) None) packed in
    let bound : spent ≤ length reader.head.bytes + asked_for_chunks (length reader.pieces) = omega (arith, c.in-Ok.ensures.asked, ap (λ (o : Option ℕ). asked_for_list o (length reader.pieces)) chunk) in
    let few : length now.lists.points.items ≤ MAX_CHUNKS = search rules in
    let more = list_more held was.inputs.items was.sources.items was.lists.points.items was.lists.bytes.items now.lists.points.items now.lists.bytes.items asked spent l was.lists.many now.lists.many lists
    (listed_by held c.args.name.now reader c.in-Ok.ensures.whole c.in-Ok.ensures.stands packed) bound c.in-Ok-add.ensures.added few in
    subst (λ (is : List InputSeen). ListsChunks held is now.sources.items now.lists.many now.lists.points.items now.lists.bytes.items (asked + spent)) (sym c.in-Ok-add.ensures.inputs)
    (subst (λ (ss : List SourceSeen). ListsChunks held (was.inputs.items ++ l.input ∷ []) ss now.lists.many now.lists.points.items now.lists.bytes.items (asked + spent)) (sym c.in-Ok-add.ensures.sources) more)

pub returns-in-Err-clause-asked : goal.returns-in-Err-clause-asked
returns-in-Err-clause-asked g c =
    asked_one (g.F.Files.seen c.args.files.now).held c.args.name.now asked_to_compare (g.F.Files.seen c.args.files.now) (g.F.Files.seen c.open.new.files)
    (λ gone. let same = c.open.ensures.missing gone in omega (arith, same)) c.open.ensures.asked_of

pub returns-then-not-packed-clause-asked : goal.returns-then-not-packed-clause-asked
returns-then-not-packed-clause-asked g c =
    asked_one (g.F.Files.seen c.args.files.now).held c.args.name.now asked_to_compare (g.F.Files.seen c.args.files.now) (g.F.Files.seen c.open.new.files)
    (λ gone. let same = c.open.ensures.missing gone in omega (arith, same)) c.open.ensures.asked_of

pub returns-in-Some-clause-asked : goal.returns-in-Some-clause-asked
returns-in-Some-clause-asked g c =
    asked_one (g.F.Files.seen c.args.files.now).held c.args.name.now asked_to_compare (g.F.Files.seen c.args.files.now) (g.F.Files.seen c.open.new.files)
    (λ gone. let same = c.open.ensures.missing gone in omega (arith, same)) c.open.ensures.asked_of

pub returns-in-Ok-add-clause-asked : goal.returns-in-Ok-add-clause-asked
returns-in-Ok-add-clause-asked g c =
    asked_one (g.F.Files.seen c.args.files.now).held c.args.name.now asked_to_compare (g.F.Files.seen c.args.files.now) (g.F.Files.seen c.open.new.files)
    (λ gone. let same = c.open.ensures.missing gone in omega (arith, same)) c.open.ensures.asked_of

pub returns-in-Err-add-clause-asked : goal.returns-in-Err-add-clause-asked
returns-in-Err-add-clause-asked g c =
    asked_one (g.F.Files.seen c.args.files.now).held c.args.name.now asked_to_compare (g.F.Files.seen c.args.files.now) (g.F.Files.seen c.open.new.files)
    (λ gone. let same = c.open.ensures.missing gone in omega (arith, same)) c.open.ensures.asked_of
