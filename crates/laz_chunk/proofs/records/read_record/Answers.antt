use Rattle.std.proofs.Common.{refl, rules}
use Rattle.std.proofs.lemmas.Result.{IfOk-from_err, err_from_is_err_and}
use Rattle.laz_point10.specs.Points.{point_at}
use Rattle.laz_chunk.specs.declared.items.Items.{Items}
use Rattle.laz_chunk.specs.Records.{points_of}
use Rattle.laz_chunk.proofs.Coding.{read-record, refuse-colour, refuse-extra, refuse-time}
use Rattle.laz_chunk.proofs.Steps.{same-layout}
use Rattle.laz_chunk.proofs.Whole.{point-refuses}
use Rattle.laz_chunk.specs.Stands.{items_of, layout_in}
use Rattle.laz_chunk.proofs.records.read_record.Goals as goal

pub returns-in_err-read-clause-reads : goal.returns-in_err-read-clause-reads
returns-in_err-read-clause-reads g c h s =
    let items : Items = items_of c.args.point10.now (g.T.TimePart.item c.args.times.now) (g.C.ColourPart.item c.args.colours.now) c.args.extra.now in
    let p = err_from_is_err_and c.from_residual.result c.from_residual.ensures.1 in
    rw p.1 (point-refuses (layout_in items) h c.args.decoder.now c.read.new.decoder (c.in_err-read.ensures.reads h.0 (points_of h.1) s.point))

pub returns-in_err-take_time-clause-reads : goal.returns-in_err-take_time-clause-reads
returns-in_err-take_time-clause-reads g c h s =
    let items : Items = items_of c.args.point10.now (g.T.TimePart.item c.args.times.now) (g.C.ColourPart.item c.args.colours.now) c.args.extra.now in
    let p = err_from_is_err_and c.from_residual-in_err-take_time.result c.from_residual-in_err-take_time.ensures.1 in
    let point = c.in_ok-read.ensures.reads h.0 (points_of h.1) s.point in
    rw p.1 (refuse-time h (point_at c.read.new.part) items c.read.new.self c.args.decoder.now c.read.new.decoder c.take_time.new.decoder s point c.in_err-take_time.ensures.reads)

pub returns-in_err-take_colour-clause-reads : goal.returns-in_err-take_colour-clause-reads
returns-in_err-take_colour-clause-reads g c h s =
    let items : Items = items_of c.args.point10.now (g.T.TimePart.item c.args.times.now) (g.C.ColourPart.item c.args.colours.now) c.args.extra.now in
    let p = err_from_is_err_and c.from_residual-in_err-take_colour.result c.from_residual-in_err-take_colour.ensures.1 in
    let point = c.in_ok-read.ensures.reads h.0 (points_of h.1) s.point in
    rw p.1
    (refuse-colour h (point_at c.read.new.part) c.take_time.new.part items c.read.new.self (g.T.TimePart.item c.take_time.new.self) c.args.decoder.now c.read.new.decoder c.take_time.new.decoder c.take_colour.new.decoder s point
    c.in_ok-take_time.ensures.reads
    c.in_err-take_colour.ensures.reads)

pub returns-in_err-read_extra-clause-reads : goal.returns-in_err-read_extra-clause-reads
returns-in_err-read_extra-clause-reads g c h s =
    let items : Items = items_of c.args.point10.now (g.T.TimePart.item c.args.times.now) (g.C.ColourPart.item c.args.colours.now) c.args.extra.now in
    let p = err_from_is_err_and c.from_residual-in_err-read_extra.result c.from_residual-in_err-read_extra.ensures.1 in
    let point = c.in_ok-read.ensures.reads h.0 (points_of h.1) s.point in
    rw p.1
    (refuse-extra h (point_at c.read.new.part) c.take_time.new.part c.take_colour.new.part items c.read.new.self (g.T.TimePart.item c.take_time.new.self) (g.C.ColourPart.item c.take_colour.new.self) c.args.decoder.now c.read.new.decoder c.take_time.new.decoder c.take_colour.new.decoder
    c.read_extra.new.decoder s point
    c.in_ok-take_time.ensures.reads
    c.in_ok-take_colour.ensures.reads
    c.in_err-read_extra.ensures.reads)

pub returns-clause-reads : goal.returns-clause-reads
returns-clause-reads g c h s =
    let items : Items = items_of c.args.point10.now (g.T.TimePart.item c.args.times.now) (g.C.ColourPart.item c.args.colours.now) c.args.extra.now in
    let point = c.in_ok-read.ensures.reads h.0 (points_of h.1) s.point in
    let new : Items = items_of c.read.new.self (g.T.TimePart.item c.take_time.new.self) (g.C.ColourPart.item c.take_colour.new.self) c.read_extra.new.item in
    read-record h c.read.new.part c.take_time.new.part c.take_colour.new.part c.read_extra.new.part items new c.args.decoder.now c.read.new.decoder c.take_time.new.decoder c.take_colour.new.decoder c.read_extra.new.decoder (search rules) (search rules)
    (search rules) s point
    c.in_ok-take_time.ensures.reads
    c.in_ok-take_colour.ensures.reads
    c.in_ok-read_extra.ensures.reads

pub returns-in_err-read-clause-good : goal.returns-in_err-read-clause-good
returns-in_err-read-clause-good g c = IfOk-from_err c.from_residual.result _ c.from_residual.ensures.0

pub returns-in_err-take_time-clause-good : goal.returns-in_err-take_time-clause-good
returns-in_err-take_time-clause-good g c =
    IfOk-from_err c.from_residual-in_err-take_time.result _ c.from_residual-in_err-take_time.ensures.0

pub returns-in_err-take_colour-clause-good : goal.returns-in_err-take_colour-clause-good
returns-in_err-take_colour-clause-good g c =
    IfOk-from_err c.from_residual-in_err-take_colour.result _ c.from_residual-in_err-take_colour.ensures.0

pub returns-in_err-read_extra-clause-good : goal.returns-in_err-read_extra-clause-good
returns-in_err-read_extra-clause-good g c =
    IfOk-from_err c.from_residual-in_err-read_extra.result _ c.from_residual-in_err-read_extra.ensures.0

pub returns-in_err-read-clause-layout : goal.returns-in_err-read-clause-layout
returns-in_err-read-clause-layout g c =
    same-layout (items_of c.args.point10.now (g.T.TimePart.item c.args.times.now) (g.C.ColourPart.item
    c.args.colours.now) c.args.extra.now)
    (items_of c.read.new.self (g.T.TimePart.item c.args.times.now) (g.C.ColourPart.item c.args.colours.now)
    c.args.extra.now)
    refl refl refl

pub returns-in_err-take_time-clause-layout : goal.returns-in_err-take_time-clause-layout
returns-in_err-take_time-clause-layout g c =
    same-layout (items_of c.args.point10.now (g.T.TimePart.item c.args.times.now) (g.C.ColourPart.item
    c.args.colours.now) c.args.extra.now)
    (items_of c.read.new.self (g.T.TimePart.item c.take_time.new.self) (g.C.ColourPart.item c.args.colours.now)
    c.args.extra.now)
    c.in_err-take_time.ensures.has refl refl

pub returns-in_err-take_colour-clause-layout : goal.returns-in_err-take_colour-clause-layout
returns-in_err-take_colour-clause-layout g c =
    same-layout (items_of c.args.point10.now (g.T.TimePart.item c.args.times.now) (g.C.ColourPart.item
    c.args.colours.now) c.args.extra.now)
    (items_of c.read.new.self (g.T.TimePart.item c.take_time.new.self) (g.C.ColourPart.item c.take_colour.new.self)
    c.args.extra.now)
    c.in_ok-take_time.ensures.has c.in_err-take_colour.ensures.has refl

pub returns-in_err-read_extra-clause-layout : goal.returns-in_err-read_extra-clause-layout
returns-in_err-read_extra-clause-layout g c =
    same-layout (items_of c.args.point10.now (g.T.TimePart.item c.args.times.now) (g.C.ColourPart.item
    c.args.colours.now) c.args.extra.now)
    (items_of c.read.new.self (g.T.TimePart.item c.take_time.new.self) (g.C.ColourPart.item c.take_colour.new.self)
    c.read_extra.new.item)
    c.in_ok-take_time.ensures.has c.in_ok-take_colour.ensures.has c.in_err-read_extra.ensures.extra

pub returns-clause-layout : goal.returns-clause-layout
returns-clause-layout g c =
    same-layout (items_of c.args.point10.now (g.T.TimePart.item c.args.times.now) (g.C.ColourPart.item
    c.args.colours.now) c.args.extra.now)
    (items_of c.read.new.self (g.T.TimePart.item c.take_time.new.self) (g.C.ColourPart.item c.take_colour.new.self)
    c.read_extra.new.item)
    c.in_ok-take_time.ensures.has c.in_ok-take_colour.ensures.has c.in_ok-read_extra.ensures.extra
