use Rattle.std.proofs.Common.{◌≡◌, ◌<◌, ◌∙◌, ap, find, get_or, length, subst, true}
use Rattle.std.specs.Str.{bytes_eq}
use Rattle.las_info.proofs.Finding.{differs, without}
use Rattle.las_info.proofs.choosing.take_first.Goals as goal

pub returns-clause-others : goal.returns-clause-others
returns-clause-others g c other apart =
    let at = c.place_of-at.result in
    ap (find (λ tap. bytes_eq (((goal.Tap-dyn g (tap.vtable, tap.value)).tap_seen tap.value).name) other)) c.remove.ensures.items
    ∙ without (λ tap. bytes_eq (((goal.Tap-dyn g (tap.vtable, tap.value)).tap_seen tap.value).name) other) c.args.taps.now.items
    at c.remove.result (subst (λ taps. at < length taps) c.deref.ensures.value c.place_of-at.ensures.within)
    (differs _ c.args.name.now other
    (subst (λ taps. bytes_eq ((goal.Tap-dyn g ((get_or taps at c.remove.result).vtable, (get_or taps at c.remove.result).value)).tap_seen
    (get_or taps at c.remove.result).value).name c.args.name.now ≡ true) c.deref.ensures.value
    (c.place_of-at.ensures.named c.remove.result)) apart)
