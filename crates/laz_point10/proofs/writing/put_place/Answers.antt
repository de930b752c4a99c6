use Rattle.std.proofs.Common.{refl, rules}
use Rattle.std.specs.Prelude.{FitsSigned}
use Rattle.std.specs.Int.{w32, int_wrapping_sub}
use Rattle.std.proofs.lemmas.Int.{to_z-of_z}
use Rattle.laz_range.proofs.Public.{Codes-append}
use Rattle.laz_point10.proofs.Takings.{int-put, int-next, same-place, width-is, y-context-is, z-context-is}
use Rattle.laz_point10.proofs.writing.put_place.Goals as goal

pub returns-clause-codes : goal.returns-clause-codes
returns-clause-codes g c =
    let ms = c.args.models.now in
    let e = c.args.e.now in
    let p = c.args.p.now in
    let fx : FitsSigned w32 e.dx = search rules in
    let fy : FitsSigned w32 e.dy = search rules in
    let fz : FitsSigned w32 e.z = search rules in
    let gz : FitsSigned w32 p.z = search rules in
    let one = c.one_return-one.ensures.one in
    let kx = width-is c.put_int-kx.result _ e.dx _ (int_wrapping_sub w32 p.x e.previous.x) (to_z-of_z w32 e.dx fx) refl c.put_int-kx.ensures.width in
    let ky = width-is c.put_int-ky.result _ e.dy _ (int_wrapping_sub w32 p.y e.previous.y) (to_z-of_z w32 e.dy fy) refl c.put_int-ky.ensures.width in
    Codes-append _ _ _ _ _
    (int-put ms.dx _ _ _ e.dx _ (int_wrapping_sub w32 p.x e.previous.x) _ _ one (to_z-of_z w32 e.dx fx) refl c.put_int-kx.ensures.codes)
    (Codes-append _ _ _ _ _
    (int-put ms.dy _ _ _ e.dy _ (int_wrapping_sub w32 p.y e.previous.y) _ _ (y-context-is _ _ _ _ _ one c.even_below.ensures.even kx) (to_z-of_z w32 e.dy fy) refl c.put_int-ky.ensures.codes)
    (int-put ms.z _ _ _ e.z _ p.z _ _ (z-context-is _ _ _ _ _ _ _ one c.even_below-2.ensures.even kx ky) (to_z-of_z w32 e.z fz) (to_z-of_z w32 p.z gz) c.put_int.ensures.codes))

pub returns-clause-next : goal.returns-clause-next
returns-clause-next g c =
    let ms = c.args.models.now in
    let e = c.args.e.now in
    let p = c.args.p.now in
    let fx : FitsSigned w32 e.dx = search rules in
    let fy : FitsSigned w32 e.dy = search rules in
    let fz : FitsSigned w32 e.z = search rules in
    let gz : FitsSigned w32 p.z = search rules in
    let one = c.one_return-one.ensures.one in
    let kx = width-is c.put_int-kx.result _ e.dx _ (int_wrapping_sub w32 p.x e.previous.x) (to_z-of_z w32 e.dx fx) refl c.put_int-kx.ensures.width in
    let ky = width-is c.put_int-ky.result _ e.dy _ (int_wrapping_sub w32 p.y e.previous.y) (to_z-of_z w32 e.dy fy) refl c.put_int-ky.ensures.width in
    same-place _ _ _ _ _ _
    (int-next ms.dx _ _ _ _ e.dx _ (int_wrapping_sub w32 p.x e.previous.x) one (to_z-of_z w32 e.dx fx) refl c.put_int-kx.ensures.next)
    (int-next ms.dy _ _ _ _ e.dy _ (int_wrapping_sub w32 p.y e.previous.y) (y-context-is _ _ _ _ _ one c.even_below.ensures.even kx) (to_z-of_z w32 e.dy fy) refl c.put_int-ky.ensures.next)
    (int-next ms.z _ _ _ _ e.z _ p.z (z-context-is _ _ _ _ _ _ _ one c.even_below-2.ensures.even kx ky) (to_z-of_z w32 e.z fz) (to_z-of_z w32 p.z gz) c.put_int.ensures.next)
