use Rattle.std.proofs.Common.{[], sym, ◌∙◌}
use Rattle.laz_table.specs.Entries.{table_use}
use Rattle.laz_table.proofs.WritingLemmas.{fixed-some, not-empty, table-written}
use Rattle.laz_table.proofs.writing.table_of.Goals as goal

pub put_counts-requires-clause-stands : goal.put_counts-requires-clause-stands
put_counts-requires-clause-stands c = c.in_ok-model.ensures.stands table_use

pub returns : goal.returns
returns c =
    table-written [] c.args.counts.now c.in_ok-start.start.items c.table_from.result.items c.in_ok-encoder.encoder c.put_counts.new.encoder (fixed-some c.args.counts.now (not-empty c.args.counts.now (sym c.is_empty.ensures ∙ c.if-is_empty.false)))
    c.in_ok-start.ensures.items c.in_ok-encoder.ensures.before c.in_ok-encoder.ensures.span c.put_counts.ensures c.table_from.ensures
