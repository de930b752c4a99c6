use Rattle.std.proofs.Common.{◌≡◌, ℕ, ◌+◌, ◌*◌, ◌<◌, ◌++◌, [], ◌∷◌, List, length, false, true, sym, ap, subst, ◌∙◌, arith}
use Rattle.std.proofs.lemmas.List.{length_push}
use Rattle.std.proofs.lemmas.Result.{err_from_is_err_and}
use Rattle.laz_table.specs.Entries.{Entry, bytes_entry, points_entry, entries_of}
use Rattle.laz_table.specs.Steps.{IsFault, NoEntries, TableState, table_start}
use Rattle.laz_table.specs.declared.chunks.TableFault.{TableFault}
use Rattle.laz_table.proofs.ReadingLemmas.{HasReadEntries, fault-then, reads-none, reads-push, reads-stop}
use Rattle.laz_table.proofs.WritingLemmas.{counted-push}
use Rattle.laz_table.proofs.reading.take_chunks.Goals as goal

two_empty : (a b : List ℕ) → a ≡ [] → b ≡ [] → [] ≡ entries_of a b
two_empty a b e f = sym (ap (λ l. entries_of l b) e ∙ ap (λ l. entries_of [] l) f)

two_more : (s t a b : List ℕ) (n m : ℕ) → s ≡ a ++ n ∷ [] → t ≡ b ++ m ∷ [] → length a ≡ length b → (entries_of a b ++ points_entry n ∷ []) ++ bytes_entry m ∷ [] ≡ entries_of s t
two_more s t a b n m e f same = sym (ap (λ l. entries_of l t) e ∙ (ap (λ l. entries_of (a ++ n ∷ []) l) f ∙ counted-push a b n m same))

pub loop-chunk-init : goal.loop-chunk-init
loop-chunk-init c =
    let st = table_start c.args.model.now true in
    record {
      models = c.requires.models;
      good = c.requires.good;
      counts = ap length c.new-counts.ensures.items;
      sizes = ap length c.new-sizes.ensures.items;
      read = subst (λ (es : List Entry). HasReadEntries st 0 c.args.decoder.now c.args.decoder.now es st) (two_empty c.new-sizes.result.items c.new-counts.result.items c.new-sizes.ensures.items c.new-counts.ensures.items)
          (reads-none st c.args.decoder.now c.requires.within c.requires.good);
    }

pub loop-chunk-preserved : goal.loop-chunk-preserved
loop-chunk-preserved c =
    let now : TableState = record { models = c.loop-chunk.model; latest = record { points = c.loop-chunk.size_before; bytes = c.loop-chunk.count_before }; counted = true; counts_points = true } in
    let n = c.in_ok-size_before.size_before in
    let m = c.in_ok-count_before.count_before in
    let mid : TableState = record { models = c.take_next.new.model; latest = record { points = n; bytes = c.loop-chunk.count_before }; counted = true; counts_points = false } in
    let next : TableState = record { models = c.take_next-in-loop-chunk.new.model; latest = record { points = n; bytes = m }; counted = true; counts_points = true } in
    let st = table_start c.args.model.now true in
    let i = c.loop-chunk._chunk in
    let a = c.loop-chunk.sizes.items in
    let b = c.loop-chunk.counts.items in
    let inv = c.loop-chunk.invariant in
    let one = reads-push st now (2 * i) c.args.decoder.now c.loop-chunk.decoder c.take_next.new.decoder (entries_of a b) n c.take_next.new.model inv.read c.in_ok-size_before.ensures.reads in
    let two = reads-push st mid (2 * i + 1) c.args.decoder.now c.take_next.new.decoder c.take_next-in-loop-chunk.new.decoder (entries_of a b ++ points_entry n ∷ []) m c.take_next-in-loop-chunk.new.model one c.in_ok-count_before.ensures.reads in
    let places : 2 * i + 1 + 1 ≡ 2 * (i + 1) = omega arith in
    let entries = two_more c.take_next.new.numbers.items c.take_next-in-loop-chunk.new.numbers.items a b n m c.in_ok-size_before.ensures.items c.in_ok-count_before.ensures.items (inv.sizes ∙ sym inv.counts) in
    record {
      models = c.take_next-in-loop-chunk.ensures.models;
      good = c.in_ok-count_before.ensures.good;
      counts = ap length c.in_ok-count_before.ensures.items ∙ (length_push b m ∙ omega (arith, inv.counts));
      sizes = ap length c.in_ok-size_before.ensures.items ∙ (length_push a n ∙ omega (arith, inv.sizes));
      read = subst (λ (k : ℕ). HasReadEntries st k c.args.decoder.now c.take_next-in-loop-chunk.new.decoder (entries_of c.take_next.new.numbers.items c.take_next-in-loop-chunk.new.numbers.items) next) places
          (subst (λ (es : List Entry). HasReadEntries st (2 * i + 1 + 1) c.args.decoder.now c.take_next-in-loop-chunk.new.decoder es next) entries two);
    }

pub returns-in_err-size_before-clause-reads : goal.returns-in_err-size_before-clause-reads
returns-in_err-size_before-clause-reads c =
    let now : TableState = record { models = c.loop-chunk.model; latest = record { points = c.loop-chunk.size_before; bytes = c.loop-chunk.count_before }; counted = true; counts_points = true } in
    let st = table_start c.args.model.now true in
    let i = c.loop-chunk._chunk in
    let n : ℕ = 2 * c.args.chunks in
    let p = err_from_is_err_and c.from_residual.result c.from_residual.ensures.1 in
    let inside : 2 * i < n = omega (arith, c.loop-chunk-test.true) in
    let fault = fault-then c.in_err-size_before.field-0.0 _ (NoEntries st n c.args.decoder.now c.take_next.new.decoder)
    (λ none. reads-stop st now (2 * i) n c.args.decoder.now c.loop-chunk.decoder c.take_next.new.decoder (entries_of c.loop-chunk.sizes.items c.loop-chunk.counts.items) c.loop-chunk.invariant.read inside none) c.in_err-size_before.ensures.reads in
    rw p.1 (subst (λ (f : TableFault). IsFault f (NoEntries st n c.args.decoder.now c.take_next.new.decoder)) (sym p.2) fault)

pub returns-in_err-count_before-clause-reads : goal.returns-in_err-count_before-clause-reads
returns-in_err-count_before-clause-reads c =
    let now : TableState = record { models = c.loop-chunk.model; latest = record { points = c.loop-chunk.size_before; bytes = c.loop-chunk.count_before }; counted = true; counts_points = true } in
    let k = c.in_ok-size_before.size_before in
    let mid : TableState = record { models = c.take_next.new.model; latest = record { points = k; bytes = c.loop-chunk.count_before }; counted = true; counts_points = false } in
    let st = table_start c.args.model.now true in
    let i = c.loop-chunk._chunk in
    let n : ℕ = 2 * c.args.chunks in
    let entries = entries_of c.loop-chunk.sizes.items c.loop-chunk.counts.items in
    let p = err_from_is_err_and c.from_residual-in_err-count_before.result c.from_residual-in_err-count_before.ensures.1 in
    let inside : 2 * i + 1 < n = omega (arith, c.loop-chunk-test.true) in
    let one = reads-push st now (2 * i) c.args.decoder.now c.loop-chunk.decoder c.take_next.new.decoder entries k c.take_next.new.model c.loop-chunk.invariant.read c.in_ok-size_before.ensures.reads in
    let fault = fault-then c.in_err-count_before.field-0.0 _ (NoEntries st n c.args.decoder.now c.take_next-in-loop-chunk.new.decoder)
    (λ none. reads-stop st mid (2 * i + 1) n c.args.decoder.now c.take_next.new.decoder c.take_next-in-loop-chunk.new.decoder (entries ++ points_entry k ∷ []) one inside none) c.in_err-count_before.ensures.reads in
    rw p.1 (subst (λ (f : TableFault). IsFault f (NoEntries st n c.args.decoder.now c.take_next-in-loop-chunk.new.decoder)) (sym p.2) fault)
