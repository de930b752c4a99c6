use Rattle.std.proofs.Common.{◌≡◌, ℕ, ◌*◌, ◌^◌, ◌<◌, List, ◌++◌, ◌∙◌, ap, sym, subst, sum, take, drop, length, slice_index, arith}
use Rattle.std.proofs.lemmas.List.{take_at, drop_at, length-append, length-take-le}
use Rattle.laz_models.specs.Counting.{AreStarts, starts_of}
use Rattle.laz_models.specs.Place.{counts_in, dist_in, IsTable}
use Rattle.laz_models.specs.Lookup.{IsLastAt, search_bits}
use Rattle.laz_models.proofs.Lookups.{search_bits-bounds, search-whole}
use Rattle.laz_models.proofs.Parts.{starts_of-AreStarts, sum_positive}
use Rattle.laz_models.proofs.model_cells.write_distribution.Goals as goal

pub write_table_if-requires-clause-starts : goal.write_table_if-requires-clause-starts
write_table_if-requires-clause-starts c =
    let counts = counts_in c.args.size c.args.cells.now in
    let size : length counts ≡ c.args.size = length-take-le c.args.size c.args.cells.now (omega (arith, c.requires.length)) in
    let is : c.write_starts.new.starts ≡ starts_of counts = c.write_starts.ensures ∙ ap starts_of c.split_at_mut-counts.ensures.front in
    let good : AreStarts (length counts) (starts_of counts) = starts_of-AreStarts counts c.requires.counts (omega (arith, c.requires.total)) in
    let same : length (starts_of counts) ≡ length counts = good.length in
    rw (is, same) good

pub write_table_if-requires-clause-shift : goal.write_table_if-requires-clause-shift
write_table_if-requires-clause-shift c = omega (arith, c.requires.shift, search_bits-bounds c.args.size)

pub write_table_if-requires-clause-places : goal.write_table_if-requires-clause-places
write_table_if-requires-clause-places c =
    let rest : length c.split_at_mut-guards.result.1.now ≡ 2 ^ search_bits c.args.size = omega (arith, c.split_at_mut-guards.ensures.back_len, c.split_at_mut-starts.ensures.back_len, c.split_at_mut-counts.ensures.back_len, c.requires.length) in
    rw (rest, c.requires.shift) (omega (arith, search-whole c.args.size))

pub returns-clause-good : goal.returns-clause-good
returns-clause-good c =
    let n = c.args.size in
    let counts = counts_in n c.args.cells.now in
    let starts = c.write_starts.new.starts in
    let guards = c.write_guards.new.guards in
    let table = c.write_table_if.new.table in
    let size : length counts ≡ n = length-take-le n c.args.cells.now (omega (arith, c.requires.length)) in
    let is : starts ≡ starts_of counts = c.write_starts.ensures ∙ ap starts_of c.split_at_mut-counts.ensures.front in
    let good : AreStarts (length counts) (starts_of counts) = starts_of-AreStarts counts c.requires.counts (omega (arith, c.requires.total)) in
    let good_here : AreStarts n (starts_of counts) = rw size at good in
    let count : length starts ≡ n = c.write_starts.auto.starts ∙ c.split_at_mut-starts.ensures.front_len in
    let own : dist_in n (c.split_at_mut-counts.result.0.now ++ (starts ++ (guards ++ table))) ≡ starts ++ (guards ++ table) =
    drop_at c.split_at_mut-counts.result.0.now (starts ++ (guards ++ table)) n c.split_at_mut-counts.ensures.front_len in
    let front : take n (starts ++ (guards ++ table)) ≡ starts = take_at starts (guards ++ table) n count in
    let back : drop n (starts ++ (guards ++ table)) ≡ guards ++ table = drop_at starts (guards ++ table) n count in
    let two : take 2 (guards ++ table) ≡ guards = take_at guards table 2 (c.write_guards.auto.guards ∙ c.split_at_mut-guards.ensures.front_len) in
    let rest : length table ≡ 2 ^ search_bits n = omega (arith, c.write_table_if.auto.table, c.split_at_mut-guards.ensures.back_len, c.split_at_mut-starts.ensures.back_len, c.split_at_mut-counts.ensures.back_len, c.requires.length) in
    rw own
    (record {
      length = omega (arith, length-append starts (guards ++ table), length-append guards table, c.write_guards.auto.guards, c.split_at_mut-guards.ensures.front_len);
      starts = rw (front, is) good_here;
      guards = rw (back, two) c.write_guards.ensures;
    })

pub returns-clause-counts : goal.returns-clause-counts
returns-clause-counts c =
    let rest = c.write_starts.new.starts ++ (c.write_guards.new.guards ++ c.write_table_if.new.table) in
    take_at c.split_at_mut-counts.result.0.now rest c.args.size c.split_at_mut-counts.ensures.front_len ∙ c.split_at_mut-counts.ensures.front

pub returns-clause-starts : goal.returns-clause-starts
returns-clause-starts c =
    let n = c.args.size in
    let starts = c.write_starts.new.starts in
    let rest = c.write_guards.new.guards ++ c.write_table_if.new.table in
    let own = drop_at c.split_at_mut-counts.result.0.now (starts ++ rest) n c.split_at_mut-counts.ensures.front_len in
    let front = take_at starts rest n (c.write_starts.auto.starts ∙ c.split_at_mut-starts.ensures.front_len) in
    ap (take n) own ∙ (front ∙ (c.write_starts.ensures ∙ ap starts_of c.split_at_mut-counts.ensures.front))

pub returns-clause-table : goal.returns-clause-table
returns-clause-table c e =
    let n = c.args.size in
    let shift = c.args.shift in
    let starts = c.write_starts.new.starts in
    let guards = c.write_guards.new.guards in
    let table = c.write_table_if.new.table in
    let own = drop_at c.split_at_mut-counts.result.0.now (starts ++ (guards ++ table)) n c.split_at_mut-counts.ensures.front_len in
    let count : length starts ≡ n = c.write_starts.auto.starts ∙ c.split_at_mut-starts.ensures.front_len in
    let front : take n (starts ++ (guards ++ table)) ≡ starts = take_at starts (guards ++ table) n count in
    let back : drop n (starts ++ (guards ++ table)) ≡ guards ++ table = drop_at starts (guards ++ table) n count in
    let after : drop 2 (drop n (starts ++ (guards ++ table))) ≡ table = ap (drop 2) back ∙ drop_at guards table 2 (c.write_guards.auto.guards ∙ c.split_at_mut-guards.ensures.front_len) in
    let Holds : List ℕ × List ℕ → Type 0 = λ x. (t : ℕ) → t < length x.1 → IsLastAt x.0 (t * 2 ^ shift) (slice_index x.1 t) in
    subst (IsTable n shift) (sym own) (subst Holds (λ i. (sym front i, sym after i)) (c.write_table_if.ensures e))

pub write_starts-requires : goal.write_starts-requires
write_starts-requires c =
    let same : c.args.total ≡ sum c.split_at_mut-counts.result.0.now = c.requires.total ∙ ap sum (sym c.split_at_mut-counts.ensures.front) in
    record {
      lengths = c.split_at_mut-starts.ensures.front_len ∙ sym c.split_at_mut-counts.ensures.front_len;
      total = same;
      some = omega (arith, c.requires.total, sum_positive (counts_in c.args.size c.args.cells.now) c.requires.counts);
    }
