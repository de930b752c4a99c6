use Rattle.std.proofs.Common.{◌≡◌, ◌≤◌, ◌<◌, ◌+◌, ◌∙◌, IsSome, Some, ap, arith, find, get_or, string_bytes, subst, sym, take}
use Rattle.std.specs.Str.{bytes_eq}
use Rattle.std.specs.List.{AllZip}
use Rattle.std.proofs.lemmas.List.{get_or_default}
use Rattle.las_info.proofs.Zips.{one_longer}
use Rattle.las_info.proofs.choosing.choose.Goals as goal

pub take_first-tap-requires : goal.take_first-tap-requires
take_first-tap-requires g c =
    let name = c.as_str.ensures.value ∙ ap string_bytes c.index-names-i.is in
    let here : c.loop-i.i ≤ c.loop-i.i = omega arith in
    subst (λ n. IsSome (find (λ tap. bytes_eq (((goal.Tap-dyn g (tap.vtable, tap.value)).tap_seen tap.value).name) n)
    c.loop-i.left.items)) (sym name)
    (subst IsSome (sym (c.loop-i.invariant.1 c.loop-i.i c.index-names-i.result here c.loop-i-test.true))
    (c.requires.there c.loop-i.i c.index-names-i.result c.loop-i-test.true))

pub loop-i-preserved : goal.loop-i-preserved
loop-i-preserved g c =
    let i = c.loop-i.i in
    let names = c.args.names.now in
    let x = c.index-names-i.result in
    let name = c.as_str.ensures.value in
    let here : i ≤ i = omega arith in
    let there : find (λ tap. bytes_eq (((goal.Tap-dyn g (tap.vtable, tap.value)).tap_seen tap.value).name) (string_bytes x))
    c.args.taps.items ≡ Some c.take_first-tap.result =
    sym (subst (λ n. find (λ tap. bytes_eq (((goal.Tap-dyn g (tap.vtable, tap.value)).tap_seen tap.value).name)
    (string_bytes n)) c.loop-i.left.items
    ≡ find (λ tap. bytes_eq (((goal.Tap-dyn g (tap.vtable, tap.value)).tap_seen tap.value).name)
    (string_bytes n)) c.args.taps.items) (sym c.index-names-i.is)
    (c.loop-i.invariant.1 i x here c.loop-i-test.true))
    ∙ subst (λ n. find (λ tap. bytes_eq (((goal.Tap-dyn g (tap.vtable, tap.value)).tap_seen tap.value).name) n)
    c.loop-i.left.items ≡ Some c.take_first-tap.result) name c.take_first-tap.ensures.first in (
      subst (λ taps. AllZip (λ name tap. find (λ other. bytes_eq
          (((goal.Tap-dyn g (other.vtable, other.value)).tap_seen other.value).name) (string_bytes name)) c.args.taps.items ≡ Some tap)
          (take (i + 1) names) taps) (sym c.in_ok-push.ensures.items)
          (one_longer (λ name tap. find (λ other. bytes_eq (((goal.Tap-dyn g (other.vtable, other.value)).tap_seen other.value).name)
          (string_bytes name)) c.args.taps.items ≡ Some tap) names c.loop-i.chosen.items i x c.take_first-tap.result
          c.loop-i-test.true c.loop-i.invariant.0
          (subst (λ n. find (λ tap. bytes_eq (((goal.Tap-dyn g (tap.vtable, tap.value)).tap_seen tap.value).name) (string_bytes n))
          c.args.taps.items ≡ Some c.take_first-tap.result) c.index-names-i.is there)),
      λ k d le lt.
          let later : i < k = omega (arith, le) in
          let before : i ≤ k = omega (arith, le) in
          c.take_first-tap.ensures.others (string_bytes (get_or names k d))
          (ap (λ n. bytes_eq n (string_bytes (get_or names k d)))
          (name ∙ ap string_bytes (c.index-names-i.is ∙ get_or_default names i x d c.loop-i-test.true))
          ∙ c.requires.distinct i k d later lt)
          ∙ c.loop-i.invariant.1 k d before lt,
    )
