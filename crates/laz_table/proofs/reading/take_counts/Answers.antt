use Rattle.std.proofs.Common.{ℕ, ◌+◌, ◌<◌, [], List, length, false, sym, ap, subst, ◌∙◌, arith}
use Rattle.std.proofs.lemmas.List.{length_push}
use Rattle.std.proofs.lemmas.Result.{err_from_is_err_and}
use Rattle.laz_table.specs.Entries.{Entry, entries_of}
use Rattle.laz_table.specs.Steps.{IsFault, NoEntries, TableState, table_start}
use Rattle.laz_table.specs.declared.chunks.TableFault.{TableFault}
use Rattle.laz_table.proofs.ReadingLemmas.{HasReadEntries, fault-then, reads-none, reads-push, reads-stop}
use Rattle.laz_table.proofs.WritingLemmas.{fixed-push}
use Rattle.laz_table.proofs.reading.take_counts.Goals as goal

pub loop-chunk-init : goal.loop-chunk-init
loop-chunk-init c =
    record {
      models = c.requires.models;
      good = c.requires.good;
      len = ap length c.new-counts.ensures.items;
      read = subst (λ (l : List ℕ). HasReadEntries (table_start c.args.model.now false) 0 c.args.decoder.now c.args.decoder.now (entries_of [] l) (table_start c.args.model.now false)) (sym c.new-counts.ensures.items)
          (reads-none (table_start c.args.model.now false) c.args.decoder.now c.requires.within c.requires.good);
    }

pub returns-in_err-before-clause-reads : goal.returns-in_err-before-clause-reads
returns-in_err-before-clause-reads c =
    let now : TableState = record { models = c.loop-chunk.model; latest = record { points = 0; bytes = c.loop-chunk.before }; counted = false; counts_points = false } in
    let st = table_start c.args.model.now false in
    let i = c.loop-chunk._chunk in
    let p = err_from_is_err_and c.from_residual.result c.from_residual.ensures.1 in
    let n : ℕ = c.args.chunks in
    let inside : i < n = omega (arith, c.loop-chunk-test.true) in
    let fault = fault-then c.in_err-before.field-0.0 _ (NoEntries st n c.args.decoder.now c.take_next.new.decoder)
    (λ none. reads-stop st now i n c.args.decoder.now c.loop-chunk.decoder c.take_next.new.decoder (entries_of [] c.loop-chunk.counts.items) c.loop-chunk.invariant.read inside none) c.in_err-before.ensures.reads in
    rw p.1 (subst (λ (f : TableFault). IsFault f (NoEntries st n c.args.decoder.now c.take_next.new.decoder)) (sym p.2) fault)

pub loop-chunk-preserved : goal.loop-chunk-preserved
loop-chunk-preserved c =
    let now : TableState = record { models = c.loop-chunk.model; latest = record { points = 0; bytes = c.loop-chunk.before }; counted = false; counts_points = false } in
    let st = table_start c.args.model.now false in
    let i = c.loop-chunk._chunk in
    let old = c.loop-chunk.counts.items in
    let n = c.in_ok-before.before in
    let more = reads-push st now i c.args.decoder.now c.loop-chunk.decoder c.take_next.new.decoder (entries_of [] old) n c.take_next.new.model c.loop-chunk.invariant.read c.in_ok-before.ensures.reads in
    let next : TableState = record { models = c.take_next.new.model; latest = record { points = 0; bytes = n }; counted = false; counts_points = false } in
    let entries = sym (ap (λ l. entries_of [] l) c.in_ok-before.ensures.items ∙ fixed-push old n) in
    record {
      models = c.take_next.ensures.models;
      good = c.in_ok-before.ensures.good;
      len = ap length c.in_ok-before.ensures.items ∙ (length_push old n ∙ omega (arith, c.loop-chunk.invariant.len));
      read = subst (λ (es : List Entry). HasReadEntries st (i + 1) c.args.decoder.now c.take_next.new.decoder es next) entries more;
    }
