use Rattle.std.proofs.Common.{◌≡◌, sym, subst, ◌∙◌, ap}
use Rattle.std.proofs.lemmas.Result.{err_from_is_err_and}
use Rattle.laz_rgb.specs.declared.colour.Colour.{Colour}
use Rattle.laz_rgb.specs.Colours.{colour_at, colour_made}
use Rattle.laz_rgb.specs.Coded.{choice_symbols}
use Rattle.laz_rgb.specs.Items.{ReadsColour, RgbState}
use Rattle.laz_rgb.proofs.Spelled.{none-colour, one-colour, reads-colour, refuses-colour}
use Rattle.laz_rgb.proofs.rgb.Rgb.read_for.Goals as goal

pub invariant_of-self : goal.invariant_of-self
invariant_of-self g c = c.take_colour.ensures.sizes ∙ c.self.invariant

pub invariant_of-self-2 : goal.invariant_of-self-2
invariant_of-self-2 g c = c.take_colour.ensures.sizes ∙ c.self.invariant

pub returns-in_err-colour-clause-reads : goal.returns-in_err-colour-clause-reads
returns-in_err-colour-clause-reads g c earlier colours h =
    let st : RgbState = record { bank = c.self.inside.bank; last = c.self.inside.last } in
    let stood = rw (← c.self.view_is) at h in
    let p = err_from_is_err_and c.from_residual.result c.from_residual.ensures.1 in
    rw p.1 (refuses-colour earlier colours st c.self.invariant stood _ _ c.in_err-colour.ensures.reads)

pub returns-in_err-colour-clause-none : goal.returns-in_err-colour-clause-none
returns-in_err-colour-clause-none g c earlier colours h sizes has before =
    let st : RgbState = record { bank = c.self.inside.bank; last = c.self.inside.last } in
    let stood = rw (← c.self.view_is) at h in
    let p = err_from_is_err_and c.from_residual.result c.from_residual.ensures.1 in
    rw p.1 (none-colour sizes has earlier before colours _ _ (refuses-colour earlier colours st c.self.invariant stood _ _ c.in_err-colour.ensures.reads))

pub returns-clause-reads : goal.returns-clause-reads
returns-clause-reads g c earlier colours h =
    let st : RgbState = record { bank = c.self.inside.bank; last = c.self.inside.last } in
    let stood = rw (← c.self.view_is) at h in
    let r = c.in_ok-colour.ensures.reads in
    let colour = c.in_ok-colour.colour in
    let new : RgbState = record { bank = c.take_colour.new.bank; last = colour } in
    let same : colour ≡ colour_at c.put.new.part = sym (ap colour_at c.put.ensures) in
    let made = subst (λ (l : Colour). colour ≡ colour_made r.0.0 l (choice_symbols r.0)) stood.last r.2 in
    let read = reads-colour earlier colours st c.self.invariant stood c.args.decoder.now c.take_colour.new.decoder r.0 colour new r.1 made (λ i. record { bank = r.3 i; last = colour }) in
    subst (λ (n : Colour). ReadsColour earlier colours n c.args.decoder.now c.take_colour.new.decoder new) same read

pub returns-clause-only : goal.returns-clause-only
returns-clause-only g c earlier colours h sizes has before =
    let st : RgbState = record { bank = c.self.inside.bank; last = c.self.inside.last } in
    let stood = rw (← c.self.view_is) at h in
    let r = returns-clause-reads g c earlier colours h in
    one-colour sizes has earlier before colours c.args.decoder.now c.take_colour.new.decoder (r.events, colour_at c.put.new.part) r.takes
