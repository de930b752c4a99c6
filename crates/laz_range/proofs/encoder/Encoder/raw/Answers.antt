use Rattle.laz_range.proofs.Cuts.{raw_high}
use Rattle.laz_range.proofs.encoder.Encoder.raw.Goals as goal
use Rattle.laz_range.proofs.encoder.Encoder.raw.Goals.{then-bits-gt-MAX_RAW_BITS, else-bits-gt-MAX_RAW_BITS}

pub raw_part-requires-2-clause-value : goal.raw_part-requires-2-clause-value
raw_part-requires-2-clause-value c =
    elim c.if-bits-gt-MAX_RAW_BITS.branch [
      | then-bits-gt-MAX_RAW_BITS w ↦ rw (w.rest-is, w.more-is) (raw_high _ _ w.if-bits-gt-MAX_RAW_BITS.true c.requires.value)
      | else-bits-gt-MAX_RAW_BITS w ↦ rw (w.rest-is, w.more-is) c.requires.value
    ]
