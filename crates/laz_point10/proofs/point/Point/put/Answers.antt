use Rattle.std.proofs.Common.{◌<◌, ap, ◌∙◌, rules}
use Rattle.std.specs.Prelude.{FitsSigned}
use Rattle.std.specs.Int.{w32}
use Rattle.laz_point10.specs.Points.{point_at}
use Rattle.laz_point10.proofs.Parts.{word-back, half-back, point-joined}
use Rattle.laz_point10.proofs.point.Point.put.Goals as goal

pub returns : goal.returns
returns c =
    let p = c.args.self in
    let fx : FitsSigned w32 p.x = search rules in
    let fy : FitsSigned w32 p.y = search rules in
    let fz : FitsSigned w32 p.z = search rules in
    let fi : p.intensity < 65536 = search rules in
    let fs : p.point_source < 65536 = search rules in
    ap point_at c.copy_from_slice.ensures.after
    ∙ point-joined p c.to_le_bytes.result c.to_le_bytes-2.result c.to_le_bytes-3.result c.to_le_bytes-4.result c.to_le_bytes-5.result
    (word-back p.x c.to_le_bytes.result fx c.to_le_bytes.ensures)
    (word-back p.y c.to_le_bytes-2.result fy c.to_le_bytes-2.ensures)
    (word-back p.z c.to_le_bytes-3.result fz c.to_le_bytes-3.ensures)
    (half-back p.intensity c.to_le_bytes-4.result fi c.to_le_bytes-4.ensures)
    (half-back p.point_source c.to_le_bytes-5.result fs c.to_le_bytes-5.ensures)
