use Rattle.std.proofs.lemmas.Result.{err_from_is_err_and}
use Rattle.laz_gpstime.proofs.Rests.{word-none, word-read}
use Rattle.laz_gpstime.proofs.reading.take_word.Goals as goal

pub returns-in_err-word-clause-reads : goal.returns-in_err-word-clause-reads
returns-in_err-word-clause-reads c =
    let p = err_from_is_err_and c.from_residual.result c.from_residual.ensures.1 in
    rw p.1 (word-none c.args.times.now.integers c.args.ctx c.args.decoder.now c.read.new.decoder c.requires.state.integers.bits c.in_err-word.ensures.reads)

pub returns-clause-reads : goal.returns-clause-reads
returns-clause-reads c =
    let h = c.in_ok-word.ensures.reads in
    let r = word-read c.args.times.now.integers c.read.new.self c.args.ctx c.args.pred c.cast_unsigned.result c.cast_signed.result c.in_ok-word.word c.args.decoder.now c.read.new.decoder c.in_ok-word.field-0-1 h.v
    c.requires.state.integers.bits c.ranges.pred.fits c.cast_signed.ensures c.cast_unsigned.ensures h.takes h.makes h.counts in
    ((c.in_ok-word.field-0-1, h.v), r.takes, r.word_is, r.next)
