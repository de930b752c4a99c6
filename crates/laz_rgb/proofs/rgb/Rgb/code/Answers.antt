use Rattle.std.proofs.Common.{◌++◌, ◌∷◌, subst}
use Rattle.laz_range.specs.Coding.{Codes}
use Rattle.laz_integer.specs.Events.{cuts_after}
use Rattle.laz_rgb.specs.declared.colour.Colour.{Colour}
use Rattle.laz_rgb.specs.Colours.{colour_events}
use Rattle.laz_rgb.specs.Items.{RgbStands, RgbState, latest_colour}
use Rattle.laz_rgb.proofs.Spelled.{codes-colour, stands-colour, writer-state}
use Rattle.laz_rgb.proofs.rgb.Rgb.code.Goals as goal

pub invariant_of-self : goal.invariant_of-self
invariant_of-self c =
    let st : RgbState = record { bank = c.self.inside.bank; last = c.self.inside.last } in
    writer-state st c.of-now.result c.put_colour.new.bank c.self.invariant c.put_colour.ensures.next

pub returns-clause-events : goal.returns-clause-events
returns-clause-events c earlier colours h =
    let st : RgbState = record { bank = c.self.inside.bank; last = c.self.inside.last } in
    let stood = rw (← c.self.view_is) at h in
    subst (λ (n : Colour). Codes c.args.encoder.now c.put_colour.new.encoder (cuts_after earlier (colour_events (latest_colour colours) n))) c.of-now.ensures (codes-colour earlier colours st c.self.invariant stood c.of-now.result c.put_colour.ensures.few c.args.encoder.now c.put_colour.new.encoder c.put_colour.ensures.codes)

pub returns-clause-stands : goal.returns-clause-stands
returns-clause-stands c earlier colours h =
    let st : RgbState = record { bank = c.self.inside.bank; last = c.self.inside.last } in
    let stood = rw (← c.self.view_is) at h in
    subst (λ (n : Colour). RgbStands (earlier ++ colour_events (latest_colour colours) n) (n ∷ colours) (record { bank = c.put_colour.new.bank; last = c.of-now.result })) c.of-now.ensures (stands-colour earlier colours st c.self.invariant stood c.of-now.result c.put_colour.ensures.few c.put_colour.new.bank c.put_colour.ensures.next)
