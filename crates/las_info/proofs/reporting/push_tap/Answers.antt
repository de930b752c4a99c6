use Rattle.std.proofs.Common.{◌∙◌, ◌++◌, ◌∷◌, [], ap, codes}
use Rattle.std.specs.List.{flat_map}
use Rattle.las_info.specs.Report.{bin_line, line}
use Rattle.las_info.proofs.Texts.{two}
use Rattle.las_info.proofs.reporting.push_tap.Goals as goal

pub returns : goal.returns
returns g c =
    let start = c.args.text.now.items in
    let word = codes "tally" in
    two start (line word (c.as_bytes.result.now ∷ [])) (flat_map bin_line c.deref.result.now) _ _
    c.in_ok-push_text.ensures c.in_ok-push_bins.ensures
    ∙ ap (λ name. start ++ (line word (name ∷ []) ++ flat_map bin_line c.deref.result.now))
    (c.as_bytes.ensures.value ∙ c.name.ensures)
    ∙ ap (λ rows. start ++ (line word (((goal.Tap-dyn g (c.args.tap.now.vtable, c.args.tap.now.value)).tap_seen c.args.tap.now.value).name ∷ [])
    ++ flat_map bin_line rows)) (c.deref.ensures.value ∙ c.in_ok-rows.ensures)
