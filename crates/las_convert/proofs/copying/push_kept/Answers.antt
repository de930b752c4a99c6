use Rattle.laz_forms.specs.declared.fault.Fault.TheVariants.{Memory}
use Rattle.laz_forms.proofs.Public.{if_err}
use Rattle.las_thin.specs.Sieving.{Sieving}
use Rattle.std.proofs.lemmas.Result.{IfOk-from_err}
use Rattle.std.proofs.Common.{◌≤◌, ◌<◌, ◌+◌, ◌/◌, ◌%◌, ◌^◌, ◌∙◌, ℕ, List, [], length, map, take, sym, ap, subst, arith}
use Rattle.std.proofs.Common.{refl, Err}
use Rattle.std.proofs.Math.Nat.{mul-mod_right}
use Rattle.std.proofs.lemmas.List.{append-nil}
use Rattle.las_filter.specs.Kept.{steps_of}
use Rattle.las_info.specs.Tallies.{TapSeen}
use Rattle.laz_file.specs.Copying.{LeavesPart, Takes}
use Rattle.laz_file.proofs.Public.{part_push, takes_push, cause_push}
use Rattle.las_convert.specs.Adding.{HaveCounted, kept_by}
use Rattle.las_convert.proofs.Going.{few_ones, kept_even, kept_goes, leaves_none, leaves_taken}
use Rattle.las_convert.proofs.Shown.{room_seen, seen_by, shown_as}
use Rattle.las_convert.proofs.copying.push_kept.Goals as goal
use Rattle.las_outside.proofs.Public.{on_err, only_writes-refl}
use Rattle.las_header.specs.Plain.{cut_all}

pub returns-in_err-part-clause-left : goal.returns-in_err-part-clause-left
returns-in_err-part-clause-left g c looked before is =
    on_err c.from_residual.result (leaves_none (kept_by c.args.passage.now.sieve.settings looked (steps_of c.args.plan.now)) before c.args.size c.args.block.now (g.F.Files.seen c.args.files.now) c.args.writer.now)

pub push-requires-clause-whole : goal.push-requires-clause-whole
push-requires-clause-whole g c κs within =
    let a = c.requires.after in
    let k = c.in_ok-part.ensures.kept a.0 a.1 a.2 in
    let fits : c.in_ok-part.part.length ≤ length c.deref.result.now = omega (arith, c.in_ok-part.ensures.long, ap (λ (b : List ℕ). length b) c.deref.ensures.value) in
    kept_even c.args.size c.in_ok-part.part.length c.args.writer.now.size c.deref.result.now k.0 fits k.2 c.requires.same

pub returns-in_err-push-clause-left : goal.returns-in_err-push-clause-left
returns-in_err-push-clause-left g c looked before is =
    let old = g.F.Files.seen c.args.files.now in
    let new = g.F.Files.seen c.push.new.files in
    let k = c.in_ok-part.ensures.kept looked before is in
    let len = c.in_ok-part.part.length in
    let pushed = take len c.deref.result.now in
    on_err c.from_residual-in_err-push.result (record {
      first = cut_all c.args.size c.args.block.now;
      rest = [];
      ones = k.0;
      refused = c.in_ok-part.part.refused;
      split = sym (append-nil (cut_all c.args.size c.args.block.now));
      adds = k.3;
      part = subst (LeavesPart old new c.args.writer.now) (ap (take len) c.deref.ensures.value ∙ k.1) (part_push old new c.args.writer.now pushed c.in_err-push.field-0.0 c.in_err-push.ensures.stopped);
    })

pub show-requires-clause-whole : goal.show-requires-clause-whole
show-requires-clause-whole g c =
    let a = c.requires.after in
    let k = c.in_ok-part.ensures.kept a.0 a.1 a.2 in
    ap (λ (n : ℕ). n % c.args.size) k.2 ∙ mul-mod_right c.args.size (length k.0)

pub show-requires-clause-room : goal.show-requires-clause-room
show-requires-clause-room g c =
    let a = c.requires.after in
    let k = c.in_ok-part.ensures.kept a.0 a.1 a.2 in
    let f = few_ones c.args.size c.in_ok-part.part.length (length c.args.block.now) (length k.0) (omega (arith, c.requires.size)) k.2 c.in_ok-part.ensures.within in
    let few : c.args.passage.now.read + c.in_ok-part.part.length / c.args.size < 2 ^ 63 = omega (arith, c.requires.few, f.0, f.1) in
    room_seen (λ tap. (goal.Tap-dyn g (tap.vtable, tap.value)).tap_seen tap.value) c.keep.new.self.taps.items c.args.passage.now.read (c.in_ok-part.part.length / c.args.size) few
    (subst (λ xs. HaveCounted c.args.passage.now.read (map (λ tap. (goal.Tap-dyn g (tap.vtable, tap.value)).tap_seen tap.value) xs)) (sym c.in_ok-part.ensures.taps) c.requires.counted)

pub returns-in_err-show-clause-left : goal.returns-in_err-show-clause-left
returns-in_err-show-clause-left g c looked before is =
    let old = g.F.Files.seen c.args.files.now in
    let new = g.F.Files.seen c.push.new.files in
    let k = c.in_ok-part.ensures.kept looked before is in
    let len = c.in_ok-part.part.length in
    let buffer = c.deref.result.now in
    on_err c.from_residual-in_err-show.result
    (leaves_taken (kept_by c.args.passage.now.sieve.settings looked (steps_of c.args.plan.now)) before c.args.size len c.args.block.now buffer k.0 old new c.args.writer.now c.push.new.self c.in_ok-part.part.refused
    (ap (take len) c.deref.ensures.value ∙ k.1) k.3 (takes_push old new c.args.writer.now c.push.new.self (take len buffer) c.in_ok-push.ensures.stands))

pub returns-clause-goes : goal.returns-clause-goes
returns-clause-goes g c looked before is =
    let old = g.F.Files.seen c.args.files.now in
    let new = g.F.Files.seen c.push.new.files in
    let size = c.args.size in
    let k = c.in_ok-part.ensures.kept looked before is in
    let len = c.in_ok-part.part.length in
    let buffer = c.keep.new.self.buffer.items in
    let same = c.deref.ensures.value in
    let fits : len ≤ length buffer = omega (arith, c.in_ok-part.ensures.long, c.deref.ensures.len, ap (λ (b : List ℕ). length b) same) in
    let seen : List TapSeen = map (λ tap. (goal.Tap-dyn g (tap.vtable, tap.value)).tap_seen tap.value) c.show.new.self.taps.items in
    let shown = shown_as (λ tap. (goal.Tap-dyn g (tap.vtable, tap.value)).tap_seen tap.value) size (take len buffer) c.keep.new.self.taps.items seen c.in_ok-show.ensures.shown in
    kept_goes (kept_by c.args.passage.now.sieve.settings looked (steps_of c.args.plan.now)) before size len c.args.block.now buffer k.0 old new c.args.writer.now c.push.new.self c.in_ok-part.part.refused (omega (arith, c.requires.size)) c.in_ok-part.ensures.within fits k.1 k.2 k.3
    (subst (λ (b : List ℕ). Takes old new c.args.writer.now c.push.new.self (take len b)) same (takes_push old new c.args.writer.now c.push.new.self (take len c.deref.result.now) c.in_ok-push.ensures.stands))
    (shown ∙ ap (λ xs. seen_by size (take len buffer) (map (λ tap. (goal.Tap-dyn g (tap.vtable, tap.value)).tap_seen tap.value) xs)) c.in_ok-part.ensures.taps)

pub returns-in_err-part-clause-goes : goal.returns-in_err-part-clause-goes
returns-in_err-part-clause-goes g c looked before is = IfOk-from_err c.from_residual.result _ c.from_residual.ensures.0

pub returns-in_err-part-clause-after : goal.returns-in_err-part-clause-after
returns-in_err-part-clause-after g c looked before is = IfOk-from_err c.from_residual.result _ c.from_residual.ensures.0

pub returns-in_err-part-clause-read : goal.returns-in_err-part-clause-read
returns-in_err-part-clause-read g c = IfOk-from_err c.from_residual.result _ c.from_residual.ensures.0

pub returns-in_err-part-clause-open : goal.returns-in_err-part-clause-open
returns-in_err-part-clause-open g c = IfOk-from_err c.from_residual.result _ c.from_residual.ensures.0

pub returns-in_err-part-clause-calm : goal.returns-in_err-part-clause-calm
returns-in_err-part-clause-calm g c = IfOk-from_err c.from_residual.result _ c.from_residual.ensures.0

pub returns-in_err-push-clause-goes : goal.returns-in_err-push-clause-goes
returns-in_err-push-clause-goes g c looked before is =
    IfOk-from_err c.from_residual-in_err-push.result _ c.from_residual-in_err-push.ensures.0

pub returns-in_err-push-clause-after : goal.returns-in_err-push-clause-after
returns-in_err-push-clause-after g c looked before is =
    IfOk-from_err c.from_residual-in_err-push.result _ c.from_residual-in_err-push.ensures.0

pub returns-in_err-push-clause-read : goal.returns-in_err-push-clause-read
returns-in_err-push-clause-read g c =
    IfOk-from_err c.from_residual-in_err-push.result _ c.from_residual-in_err-push.ensures.0

pub returns-in_err-push-clause-open : goal.returns-in_err-push-clause-open
returns-in_err-push-clause-open g c =
    IfOk-from_err c.from_residual-in_err-push.result _ c.from_residual-in_err-push.ensures.0

pub returns-in_err-push-clause-calm : goal.returns-in_err-push-clause-calm
returns-in_err-push-clause-calm g c =
    IfOk-from_err c.from_residual-in_err-push.result _ c.from_residual-in_err-push.ensures.0

pub returns-in_err-show-clause-goes : goal.returns-in_err-show-clause-goes
returns-in_err-show-clause-goes g c looked before is =
    IfOk-from_err c.from_residual-in_err-show.result _ c.from_residual-in_err-show.ensures.0

pub returns-in_err-show-clause-after : goal.returns-in_err-show-clause-after
returns-in_err-show-clause-after g c looked before is =
    IfOk-from_err c.from_residual-in_err-show.result _ c.from_residual-in_err-show.ensures.0

pub returns-in_err-show-clause-read : goal.returns-in_err-show-clause-read
returns-in_err-show-clause-read g c =
    IfOk-from_err c.from_residual-in_err-show.result _ c.from_residual-in_err-show.ensures.0

pub returns-in_err-show-clause-open : goal.returns-in_err-show-clause-open
returns-in_err-show-clause-open g c =
    IfOk-from_err c.from_residual-in_err-show.result _ c.from_residual-in_err-show.ensures.0

pub returns-in_err-show-clause-calm : goal.returns-in_err-show-clause-calm
returns-in_err-show-clause-calm g c =
    IfOk-from_err c.from_residual-in_err-show.result _ c.from_residual-in_err-show.ensures.0

pub returns-in_err-part-clause-settings : goal.returns-in_err-part-clause-settings
returns-in_err-part-clause-settings g c = c.keep.ensures.settings

pub returns-in_err-part-clause-most : goal.returns-in_err-part-clause-most
returns-in_err-part-clause-most g c = refl

pub returns-in_err-part-clause-cause : goal.returns-in_err-part-clause-cause
returns-in_err-part-clause-cause g c = if_err _ c.from_residual.result Memory c.from_residual.ensures.1 tt

pub returns-in_err-part-clause-writes : goal.returns-in_err-part-clause-writes
returns-in_err-part-clause-writes g c = only_writes-refl _

pub returns-in_err-push-clause-settings : goal.returns-in_err-push-clause-settings
returns-in_err-push-clause-settings g c = c.keep.ensures.settings

pub returns-in_err-push-clause-most : goal.returns-in_err-push-clause-most
returns-in_err-push-clause-most g c = c.push.ensures.most

pub returns-in_err-push-clause-cause : goal.returns-in_err-push-clause-cause
returns-in_err-push-clause-cause g c =
    let old = g.F.Files.seen c.args.files.now in
    let h = c.in_err-push.ensures in
    if_err _ c.from_residual-in_err-push.result _ c.from_residual-in_err-push.ensures.1
    (cause_push old old (g.F.Files.seen c.push.new.files) c.in_err-push.field-0.0 h.fault (λ e. h.write (ap Err e))
    refl)

pub returns-in_err-push-clause-writes : goal.returns-in_err-push-clause-writes
returns-in_err-push-clause-writes g c = c.push.ensures.writes

pub returns-in_err-show-clause-settings : goal.returns-in_err-show-clause-settings
returns-in_err-show-clause-settings g c =
    ap (λ (s : Sieving). s.settings) c.show.ensures.sieve ∙ c.keep.ensures.settings

pub returns-in_err-show-clause-most : goal.returns-in_err-show-clause-most
returns-in_err-show-clause-most g c = c.push.ensures.most

pub returns-in_err-show-clause-cause : goal.returns-in_err-show-clause-cause
returns-in_err-show-clause-cause g c =
    if_err _ c.from_residual-in_err-show.result Memory c.from_residual-in_err-show.ensures.1 tt

pub returns-in_err-show-clause-writes : goal.returns-in_err-show-clause-writes
returns-in_err-show-clause-writes g c = c.push.ensures.writes

pub returns-clause-after : goal.returns-clause-after
returns-clause-after g c looked before is = λ fine.
    rw (c.show.ensures.sieve, c.show.ensures.read) (c.in_ok-part.ensures.after looked before is fine)

pub returns-clause-settings : goal.returns-clause-settings
returns-clause-settings g c = ap (λ (s : Sieving). s.settings) c.show.ensures.sieve ∙ c.keep.ensures.settings

pub returns-clause-read : goal.returns-clause-read
returns-clause-read g c = c.show.ensures.read ∙ c.in_ok-part.ensures.read

pub returns-clause-most : goal.returns-clause-most
returns-clause-most g c = c.push.ensures.most

pub returns-clause-open : goal.returns-clause-open
returns-clause-open g c = c.in_ok-push.ensures.open

pub returns-clause-calm : goal.returns-clause-calm
returns-clause-calm g c = c.in_ok-push.ensures.calm

pub returns-clause-writes : goal.returns-clause-writes
returns-clause-writes g c = c.push.ensures.writes
