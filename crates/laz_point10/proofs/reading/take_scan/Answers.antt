use Rattle.std.proofs.Common.{◌<◌, rules}
use Rattle.std.proofs.lemmas.Result.{err_from_is_err_and}
use Rattle.laz_point10.proofs.Takings.{same-scan, scan-none_first, scan-none_second, scan-none_third, scan-takes}
use Rattle.laz_integer.proofs.Public.{byte-model}
use Rattle.laz_point10.proofs.reading.take_scan.Goals as goal

pub returns-in_err-turned-clause-reads : goal.returns-in_err-turned-clause-reads
returns-in_err-turned-clause-reads c =
    let p = err_from_is_err_and c.from_residual.result c.from_residual.ensures.1 in
    rw p.1 (scan-none_first c.args.models.now c.args.e.now c.args.changes c.args.flags _ _ (rw c.has_bit.ensures at c.in_err-turned.ensures.reads))

pub returns-in_err-user-clause-reads : goal.returns-in_err-user-clause-reads
returns-in_err-user-clause-reads c =
    let p = err_from_is_err_and c.from_residual-in_err-user.result c.from_residual-in_err-user.ensures.1 in
    rw p.1 (scan-none_second c.args.models.now c.args.e.now c.args.changes c.args.flags c.in_ok-turned.turned _ _ _ (rw c.has_bit.ensures at c.in_ok-turned.ensures.reads) (rw c.has_bit-2.ensures at c.in_err-user.ensures.reads))

pub returns-in_err-source-clause-reads : goal.returns-in_err-source-clause-reads
returns-in_err-source-clause-reads c =
    let p = err_from_is_err_and c.from_residual-in_err-source.result c.from_residual-in_err-source.ensures.1 in
    rw p.1 (scan-none_third c.args.models.now c.args.e.now c.args.changes c.args.flags c.in_ok-turned.turned c.in_ok-user.user _ _ _ _ (rw c.has_bit.ensures at c.in_ok-turned.ensures.reads) (rw c.has_bit-2.ensures at c.in_ok-user.ensures.reads) (rw c.has_bit-3.ensures at c.in_err-source.ensures.reads))

pub returns-clause-reads : goal.returns-clause-reads
returns-clause-reads c =
    let read = rw c.has_bit-3.ensures at c.in_ok-source.ensures.reads in (
      read.corrector,
      scan-takes c.args.models.now c.args.e.now c.args.changes c.args.flags c.in_ok-turned.turned c.in_ok-user.user read.corrector _ _ _ _ (rw c.has_bit.ensures at c.in_ok-turned.ensures.reads) (rw c.has_bit-2.ensures at c.in_ok-user.ensures.reads) read.takes,
      read.makes,
      same-scan _ _ _ _ _ _ (rw c.has_bit.ensures at c.in_ok-turned.ensures.next) (rw c.has_bit-2.ensures at c.in_ok-user.ensures.next) read.counts,
    )

pub take_byte-requires-2-clause-size : goal.take_byte-requires-2-clause-size
take_byte-requires-2-clause-size c =
    let small : c.args.e.now.previous.user_data < 256 = search rules in
    (byte-model 256 c.args.e.now.previous.user_data c.args.models.now.users c.requires.models.users small).1
