use Rattle.std.proofs.Common.{◌∙◌}
use Rattle.laz_chunk.specs.declared.items.Items.{Items}
use Rattle.laz_chunk.specs.Stands.{items_of}
use Rattle.laz_chunk.proofs.Coding.{code-record, drop-same, take-same}
use Rattle.laz_chunk.proofs.Steps.{same-layout}
use Rattle.laz_chunk.proofs.records.code_record.Goals as goal

pub returns-clause-codes : goal.returns-clause-codes
returns-clause-codes g c h are s =
    let items : Items = items_of c.args.point10.now (g.T.TimePart.item c.args.times.now) (g.C.ColourPart.item c.args.colours.now) c.args.extra.now in
    let new : Items = items_of c.code_for.new.self (g.T.TimePart.item c.put_time.new.self) (g.C.ColourPart.item c.put_colour.new.self) c.code_extra.new.item in
    let rest = c.split_at.ensures.back in
    let more = c.split_at-2.ensures.back ∙ drop-same _ _ _ _ c.time_length.ensures rest in
    (code-record h c.args.bytes.now _ _ _ _ items new c.args.encoder.now c.code_for.new.encoder c.put_time.new.encoder c.put_colour.new.encoder c.code_extra.new.encoder are c.requires.whole (λ i. (c.type_inv.bytes i).fits) s
    c.split_at.ensures.front
    (c.split_at-2.ensures.front ∙ take-same _ _ _ _ c.time_length.ensures rest)
    (c.split_at-3.ensures.front ∙ take-same _ _ _ _ c.colour_length.ensures more)
    (c.split_at-3.ensures.back ∙ drop-same _ _ _ _ c.colour_length.ensures more)
    (λ earlier points k. (c.code_for.ensures.events earlier points k, c.code_for.ensures.stands earlier points k))
    (λ earlier points k. (c.put_time.ensures.events earlier points k, c.put_time.ensures.stands earlier points k))
    (λ earlier colours k. (c.put_colour.ensures.events earlier colours k, c.put_colour.ensures.stands earlier colours k))
    (λ earlier extras k. (c.code_extra.ensures.events earlier extras k, c.code_extra.ensures.stands earlier extras k))).0

pub returns-clause-stands : goal.returns-clause-stands
returns-clause-stands g c h are s =
    let items : Items = items_of c.args.point10.now (g.T.TimePart.item c.args.times.now) (g.C.ColourPart.item c.args.colours.now) c.args.extra.now in
    let new : Items = items_of c.code_for.new.self (g.T.TimePart.item c.put_time.new.self) (g.C.ColourPart.item c.put_colour.new.self) c.code_extra.new.item in
    let rest = c.split_at.ensures.back in
    let more = c.split_at-2.ensures.back ∙ drop-same _ _ _ _ c.time_length.ensures rest in
    (code-record h c.args.bytes.now _ _ _ _ items new c.args.encoder.now c.code_for.new.encoder c.put_time.new.encoder c.put_colour.new.encoder c.code_extra.new.encoder are c.requires.whole (λ i. (c.type_inv.bytes i).fits) s
    c.split_at.ensures.front
    (c.split_at-2.ensures.front ∙ take-same _ _ _ _ c.time_length.ensures rest)
    (c.split_at-3.ensures.front ∙ take-same _ _ _ _ c.colour_length.ensures more)
    (c.split_at-3.ensures.back ∙ drop-same _ _ _ _ c.colour_length.ensures more)
    (λ earlier points k. (c.code_for.ensures.events earlier points k, c.code_for.ensures.stands earlier points k))
    (λ earlier points k. (c.put_time.ensures.events earlier points k, c.put_time.ensures.stands earlier points k))
    (λ earlier colours k. (c.put_colour.ensures.events earlier colours k, c.put_colour.ensures.stands earlier colours k))
    (λ earlier extras k. (c.code_extra.ensures.events earlier extras k, c.code_extra.ensures.stands earlier extras k))).1

pub returns-clause-layout : goal.returns-clause-layout
returns-clause-layout g c =
    same-layout (items_of c.args.point10.now (g.T.TimePart.item c.args.times.now) (g.C.ColourPart.item
    c.args.colours.now) c.args.extra.now)
    (items_of c.code_for.new.self (g.T.TimePart.item c.put_time.new.self) (g.C.ColourPart.item c.put_colour.new.self)
    c.code_extra.new.item) c.put_time.ensures.has c.put_colour.ensures.has c.code_extra.ensures.extra
