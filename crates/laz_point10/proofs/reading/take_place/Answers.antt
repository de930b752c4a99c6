use Rattle.std.proofs.Common.{◌+◌, ◌/◌, rules}
use Rattle.std.specs.Prelude.{FitsSigned}
use Rattle.std.specs.Int.{w32}
use Rattle.std.proofs.lemmas.Result.{err_from_is_err_and}
use Rattle.laz_integer.proofs.Public.{fixed-none, fixed-reads}
use Rattle.laz_point10.specs.Points.{one_return}
use Rattle.laz_point10.specs.PointEvents.{even_below}
use Rattle.laz_point10.proofs.Takings.{int-counts, int-none, int-takes, int-value, place-none_first, place-none_second, place-none_third, place-takes, same-place, sum-is}
use Rattle.laz_point10.proofs.reading.take_place.Goals as goal

pub returns-in_err-dx-clause-reads : goal.returns-in_err-dx-clause-reads
returns-in_err-dx-clause-reads c =
    let p = err_from_is_err_and c.from_residual.result c.from_residual.ensures.1 in
    let ms = c.args.models.now in
    rw p.1 (place-none_first ms c.args.flags _ _ (int-none ms.dx _ _ _ _ c.one_return-one.ensures.one (fixed-none 32 ms.dx _ _ _ c.requires.models.dx.bits c.in_err-dx.ensures.reads)))

pub returns-in_err-dy-clause-reads : goal.returns-in_err-dy-clause-reads
returns-in_err-dy-clause-reads c =
    let p = err_from_is_err_and c.from_residual-in_err-dy.result c.from_residual-in_err-dy.ensures.1 in
    let ms = c.args.models.now in
    let x = fixed-reads 32 ms.dx _ _ _ _ _ _ _ c.requires.models.dx.bits c.in_ok-dx.ensures.reads in
    rw p.1 (place-none_second ms c.args.flags (c.in_ok-dx.kx, x.v) _ _ _
    (int-takes ms.dx _ _ (c.in_ok-dx.kx, x.v) _ _ c.one_return-one.ensures.one x.takes)
    (int-none ms.dy _ _ _ _ (sum-is _ _ _ _ c.one_return-one.ensures.one c.even_below.ensures.even) (fixed-none 32 ms.dy _ _ _ c.requires.models.dy.bits c.in_err-dy.ensures.reads)))

pub returns-in_err-z-clause-reads : goal.returns-in_err-z-clause-reads
returns-in_err-z-clause-reads c =
    let p = err_from_is_err_and c.from_residual-in_err-z.result c.from_residual-in_err-z.ensures.1 in
    let ms = c.args.models.now in
    let x = fixed-reads 32 ms.dx _ _ _ _ _ _ _ c.requires.models.dx.bits c.in_ok-dx.ensures.reads in
    let y = fixed-reads 32 ms.dy _ _ _ _ _ _ _ c.requires.models.dy.bits c.in_ok-dy.ensures.reads in
    rw p.1 (place-none_third ms c.args.flags (c.in_ok-dx.kx, x.v) (c.in_ok-dy.ky, y.v) _ _ _ _
    (int-takes ms.dx _ _ (c.in_ok-dx.kx, x.v) _ _ c.one_return-one.ensures.one x.takes)
    (int-takes ms.dy _ _ (c.in_ok-dy.ky, y.v) _ _ (sum-is _ _ _ _ c.one_return-one.ensures.one c.even_below.ensures.even) y.takes)
    (int-none ms.z _ _ _ _ (sum-is _ _ _ _ c.one_return-one.ensures.one c.even_below-2.ensures.even) (fixed-none 32 ms.z _ _ _ c.requires.models.z.bits c.in_err-z.ensures.reads)))

pub returns-clause-reads : goal.returns-clause-reads
returns-clause-reads c =
    let ms = c.args.models.now in
    let e = c.args.e.now in
    let x = fixed-reads 32 ms.dx _ _ _ _ _ _ _ c.requires.models.dx.bits c.in_ok-dx.ensures.reads in
    let y = fixed-reads 32 ms.dy _ _ _ _ _ _ _ c.requires.models.dy.bits c.in_ok-dy.ensures.reads in
    let z = fixed-reads 32 ms.z _ _ _ _ _ _ _ c.requires.models.z.bits c.in_ok-z.ensures.reads in
    let fx : FitsSigned w32 e.dx = search rules in
    let fy : FitsSigned w32 e.dy = search rules in
    let fz : FitsSigned w32 e.z = search rules in
    let one = c.one_return-one.ensures.one in
    let second = sum-is _ _ (one_return c.args.flags) (even_below 20 c.in_ok-dx.kx) one c.even_below.ensures.even in
    let third = sum-is _ _ (one_return c.args.flags) (even_below 18 ((c.in_ok-dx.kx + c.in_ok-dy.ky) / 2)) one c.even_below-2.ensures.even in (
      ((c.in_ok-dx.kx, x.v), ((c.in_ok-dy.ky, y.v), (c.in_ok-z.field-0-1, z.v))),
      place-takes ms c.args.flags (c.in_ok-dx.kx, x.v) (c.in_ok-dy.ky, y.v) (c.in_ok-z.field-0-1, z.v) _ _ _ _
          (int-takes ms.dx _ _ (c.in_ok-dx.kx, x.v) _ _ one x.takes)
          (int-takes ms.dy _ _ (c.in_ok-dy.ky, y.v) _ _ second y.takes)
          (int-takes ms.z _ _ (c.in_ok-z.field-0-1, z.v) _ _ third z.takes),
      (
        int-value e.dx c.in_ok-dx.kx x.v c.in_ok-dx.dx fx x.makes,
        int-value e.dy c.in_ok-dy.ky y.v c.in_ok-dy.dy fy y.makes,
        int-value e.z c.in_ok-z.field-0-1 z.v c.in_ok-z.z fz z.makes,
      ),
      same-place _ _ _ _ _ _ (int-counts ms.dx _ _ _ _ x.v one x.counts) (int-counts ms.dy _ _ _ _ y.v second y.counts) (int-counts ms.z _ _ _ _ z.v third z.counts),
    )
