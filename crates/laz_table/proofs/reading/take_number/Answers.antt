use Rattle.laz_integer.proofs.Public.{fixed-reads}
use Rattle.laz_table.proofs.ReadingLemmas.{reads-number}
use Rattle.laz_table.proofs.WritingLemmas.{passed-is}
use Rattle.laz_table.proofs.reading.take_number.Goals as goal

pub returns-clause-reads : goal.returns-clause-reads
returns-clause-reads c =
    reads-number c.args.counts_points c.args.before c.cast_unsigned.result c.context_of-context.result c.in_ok-number.field-0-1 _ c.in_ok-number.number c.args.model.now c.read.new.self c.args.decoder.now c.read.new.decoder
    (passed-is c.cast_signed.result c.args.before c.ranges.before.fits c.cast_signed.ensures) c.context_of-context.ensures.context c.cast_unsigned.ensures (fixed-reads 32 _ _ _ _ _ _ _ _ c.requires.models.bits c.in_ok-number.ensures.reads)
