use Rattle.std.proofs.Common.{◌<◌, rules}
use Rattle.std.proofs.lemmas.Result.{err_from_is_err_and}
use Rattle.laz_point10.proofs.Takings.{same-surface, surface-none_first, surface-none_second, surface-takes}
use Rattle.laz_integer.proofs.Public.{byte-model}
use Rattle.laz_point10.proofs.reading.take_surface.Goals as goal

pub returns-in_err-intensity-clause-reads : goal.returns-in_err-intensity-clause-reads
returns-in_err-intensity-clause-reads c =
    let p = err_from_is_err_and c.from_residual.result c.from_residual.ensures.1 in
    let read = rw (c.has_bit.ensures, c.intensity_context-context.ensures.context) at c.in_err-intensity.ensures.reads in
    rw p.1 (surface-none_first c.args.models.now c.args.e.now c.args.changes c.args.flags _ _ read)

pub returns-in_err-classification-clause-reads : goal.returns-in_err-classification-clause-reads
returns-in_err-classification-clause-reads c =
    let p = err_from_is_err_and c.from_residual-in_err-classification.result c.from_residual-in_err-classification.ensures.1 in
    let read = rw (c.has_bit.ensures, c.intensity_context-context.ensures.context) at c.in_ok-intensity.ensures.reads in
    rw p.1 (surface-none_second c.args.models.now c.args.e.now c.args.changes c.args.flags _ _ read.corrector _ read.takes (rw c.has_bit-marked.ensures at c.in_err-classification.ensures.reads))

pub returns-clause-reads : goal.returns-clause-reads
returns-clause-reads c =
    let read = rw (c.has_bit.ensures, c.intensity_context-context.ensures.context) at c.in_ok-intensity.ensures.reads in (
      read.corrector,
      surface-takes c.args.models.now c.args.e.now c.args.changes c.args.flags _ _ read.corrector _ read.takes c.in_ok-classification.classification (rw c.has_bit-marked.ensures at c.in_ok-classification.ensures.reads),
      read.makes,
      same-surface _ _ _ _ read.counts (rw c.has_bit-marked.ensures at c.in_ok-classification.ensures.next),
    )

pub take_byte-requires-clause-size : goal.take_byte-requires-clause-size
take_byte-requires-clause-size c =
    let small : c.args.e.now.previous.classification < 256 = search rules in
    (byte-model 256 c.args.e.now.previous.classification c.args.models.now.classifications c.requires.models.classifications small).1
