use Rattle.std.proofs.Common.{sym, ◌∙◌}
use Rattle.laz_table.specs.Entries.{table_use}
use Rattle.laz_table.proofs.WritingLemmas.{counted-some, not-empty, table-written}
use Rattle.laz_table.proofs.writing.counted_table_of.Goals as goal

pub put_chunks-requires-clause-stands : goal.put_chunks-requires-clause-stands
put_chunks-requires-clause-stands c = c.in_ok-model.ensures.stands table_use

pub returns : goal.returns
returns c =
    table-written c.args.sizes.now c.args.counts.now c.in_ok-start.start.items c.table_from.result.items c.in_ok-encoder.encoder c.put_chunks.new.encoder (counted-some c.args.sizes.now c.args.counts.now c.requires.same (not-empty c.args.counts.now (sym c.is_empty.ensures ∙ c.if-is_empty.false)))
    c.in_ok-start.ensures.items c.in_ok-encoder.ensures.before c.in_ok-encoder.ensures.span c.put_chunks.ensures c.table_from.ensures
