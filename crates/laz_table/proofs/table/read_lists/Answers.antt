use Rattle.std.proofs.Common.{ℕ, [], List, Bool, true, false, refl, sym, subst, arith}
use Rattle.std.specs.Prelude.{MatchResult}
use Rattle.std.proofs.lemmas.Result.{err_from_is_err_and}
use Rattle.laz_integer.specs.Integer.{IsInts}
use Rattle.laz_table.specs.Entries.{table_use}
use Rattle.laz_table.specs.declared.chunks.TableFault.{TableFault}
use Rattle.laz_table.specs.Steps.{IsFault, NoTable, OneTable}
use Rattle.laz_table.proofs.TableLemmas.{chunks-read, table-read, unopened, unread}
use Rattle.laz_table.proofs.ReadingLemmas.{fault-then}
use Rattle.laz_table.proofs.table.read_lists.Goals as goal

pub returns-in_default-new-clause-reads : goal.returns-in_default-new-clause-reads
returns-in_default-new-clause-reads c =
    let is : IsInts 32 2 c.in-Ok.model = record { state = c.in-Ok.ensures.state; bits = c.in-Ok.ensures.bits; contexts = c.in-Ok.ensures.contexts } in
    unopened c.in-Ok.model c.args.counted is (c.in-Ok.ensures.stands table_use) c.args.chunks (omega (arith, c.if-chunks-eq0.false)) c.args.stream.now c.in_default-new.ensures.none

pub returns-then-counted-clause-reads : goal.returns-then-counted-clause-reads
returns-then-counted-clause-reads c =
    let is : IsInts 32 2 c.in-Ok.model = record { state = c.in-Ok.ensures.state; bits = c.in-Ok.ensures.bits; contexts = c.in-Ok.ensures.contexts } in
    let d = c.in-Ok-new.decoder in
    let read = chunks-read (λ list. list.sizes.items) (λ list. list.counts.items) c.take_chunks.result c.in-Ok.model c.args.chunks d c.take_chunks.new.decoder is (c.in-Ok.ensures.stands table_use) (omega (arith, c.if-chunks-eq0.false)) c.in-Ok-new.ensures.read
    c.take_chunks.ensures.counts c.take_chunks.ensures.sizes c.take_chunks.ensures.reads in
    let here = subst (λ (bs : List ℕ). MatchResult c.take_chunks.result (λ list. OneTable bs c.args.chunks true list.sizes.items list.counts.items) (λ fault. IsFault fault (NoTable bs c.args.chunks true))) c.in-Ok-new.ensures.bytes read in
    subst (λ (b : Bool). MatchResult c.take_chunks.result (λ list. OneTable c.args.stream.now c.args.chunks b list.sizes.items list.counts.items) (λ fault. IsFault fault (NoTable c.args.stream.now c.args.chunks b))) (sym c.if-counted.true) here

pub returns-in_err-counts-clause-reads : goal.returns-in_err-counts-clause-reads
returns-in_err-counts-clause-reads c =
    let is : IsInts 32 2 c.in-Ok.model = record { state = c.in-Ok.ensures.state; bits = c.in-Ok.ensures.bits; contexts = c.in-Ok.ensures.contexts } in
    let d = c.in-Ok-new.decoder in
    let p = err_from_is_err_and c.from_residual.result c.from_residual.ensures.1 in
    let fault = fault-then c.in_err-counts.field-0.0 _ (NoTable d.bytes c.args.chunks false)
    (λ none. unread c.in-Ok.model false is (c.in-Ok.ensures.stands table_use) c.args.chunks (omega (arith, c.if-chunks-eq0.false)) d c.take_counts.new.decoder c.in-Ok-new.ensures.read none) c.in_err-counts.ensures.reads in
    let here = subst (λ (bs : List ℕ). IsFault c.in_err-counts.field-0.0 (NoTable bs c.args.chunks false)) c.in-Ok-new.ensures.bytes fault in
    let there = subst (λ (b : Bool). IsFault c.in_err-counts.field-0.0 (NoTable c.args.stream.now c.args.chunks b)) (sym c.if-counted.false) here in
    rw p.1 (subst (λ (f : TableFault). IsFault f (NoTable c.args.stream.now c.args.chunks c.args.counted)) (sym p.2) there)

pub returns-clause-reads : goal.returns-clause-reads
returns-clause-reads c =
    let is : IsInts 32 2 c.in-Ok.model = record { state = c.in-Ok.ensures.state; bits = c.in-Ok.ensures.bits; contexts = c.in-Ok.ensures.contexts } in
    let d = c.in-Ok-new.decoder in
    let counts = c.in_ok-counts.counts.items in
    let read = table-read c.in-Ok.model false is (c.in-Ok.ensures.stands table_use) c.args.chunks (omega (arith, c.if-chunks-eq0.false)) d c.take_counts.new.decoder [] counts c.in-Ok-new.ensures.read
    (record { point_counts = refl; byte_counts = c.in_ok-counts.ensures.len }) c.in_ok-counts.ensures.reads in
    let here = subst (λ (bs : List ℕ). OneTable bs c.args.chunks false [] counts) c.in-Ok-new.ensures.bytes read in
    let there = subst (λ (b : Bool). OneTable c.args.stream.now c.args.chunks b [] counts) (sym c.if-counted.false) here in
    subst (λ (l : List ℕ). OneTable c.args.stream.now c.args.chunks c.args.counted l counts) (sym c.new-4.ensures.items) there
