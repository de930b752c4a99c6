use Rattle.std.proofs.Common.{◌∙◌, ap, sym}
use Rattle.std.specs.Prelude.{min}
use Rattle.laz_models.specs.Place.{cells_of}
use Rattle.laz_models.proofs.Banks.{fits-place}
use Rattle.laz_models.proofs.Models.{part_end-guard}
use Rattle.laz_models.proofs.lookup.part.Goals as goal

pub returns-clause-end : goal.returns-clause-end
returns-clause-end c =
    let p = c.args.place.now in
    let fits = fits-place p (cells_of p c.args.cells.now) c.requires.placed.model in
    c.min.ensures ∙ (ap (λ next. min next 32768) c.bounds-start.ensures.next ∙ sym (part_end-guard p.size c.args.s _ fits.starts c.requires.symbol))
