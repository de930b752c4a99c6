use Rattle.std.proofs.Common.{◌∙◌, ◌++◌, ap}
use Rattle.std.specs.List.{flat_map}
use Rattle.las_info.specs.Report.{head_text, summary_text, tally_text}
use Rattle.las_info.proofs.reporting.text_of.Goals as goal

pub returns : goal.returns
returns g c =
    let taps = flat_map (λ tap. tally_text (((goal.Tap-dyn g (tap.vtable, tap.value)).tap_seen tap.value).name)
    (((goal.Tap-dyn g (tap.vtable, tap.value)).tap_seen tap.value).tally)) in
    c.in_ok-push_taps.ensures ∙ ap (λ xs. c.push_summary.new.text.items ++ taps xs) c.deref.ensures.value
    ∙ ap (λ t. t ++ taps c.args.survey.now.taps.items)
    (c.in_ok-push_summary.ensures
    ∙ ap (λ t. t ++ summary_text c.args.survey.now.summary)
    (c.in_ok-push_head.ensures ∙ ap (λ t. t ++ head_text c.args.head.now.bytes c.args.chunk) c.new-text.ensures.items))
