use Rattle.std.proofs.lemmas.Result.{IfOk-from_err}
use Rattle.std.proofs.Common.{◌≡◌, ◌≤◌, ◌*◌, ◌∙◌, ap, subst, ℕ, ◌+◌, List, length, arith}
use Rattle.std.specs.Prelude.{All}
use Rattle.laz_chunk.specs.Layouts.{Format, layout, record_length}
use Rattle.laz_workers.specs.Rooms.{lengths_of, rooms_of}
use Rattle.laz_forms.specs.Packing.{record_layout}
use Rattle.laz_forms.specs.Packing.{format_in}
use Rattle.laz_reader.proofs.Crews.{have_room}
use Rattle.laz_reader.proofs.reader.Reader.prepare.Goals as goal

pub returns-clause-crew : goal.returns-clause-crew
returns-clause-crew c =
    let r = c.self.inside in
    let head = r.head.bytes in
    let long = record_length (record_layout head) in
    let most = c.greatest.result in
    let counts = r.points.items in
    let crew = c.in_ok-crew.crew in
    let format : ◌≡◌ {A = Format} (record { format = c.format-format.result; extra = c.extra-extra.result }) (format_in head) = λ i. record { format = c.format-format.ensures.field i; extra = c.extra-extra.ensures.field i } in
    let size : c.record_length.result ≡ long = c.record_length.ensures.length ∙ ap (λ (f : Format). record_length (layout f)) (c.new-job.ensures ∙ format) in
    let within = subst (λ (l : List ℕ). All (λ n. n ≤ most) l) c.deref.ensures.value c.greatest.ensures in
    record {
      hands = omega (arith, c.in_ok-crew.ensures.hands, c.requires.workers.0);
      buffers = omega (arith, c.in_ok-self-inside.ensures, c.in_ok-crew.ensures.hands);
      spaces = λ k d lt. c.in_ok-crew.ensures.spaces k d lt ∙ format;
      rooms = have_room long (length head + 8) most (c.record_length.result * most) counts r.bytes.items (lengths_of (rooms_of crew)) within (ap (λ (n : ℕ). n * most) size) c.in_ok-crew.ensures.rooms;
    }

pub returns-in_err-crew-clause-crew : goal.returns-in_err-crew-clause-crew
returns-in_err-crew-clause-crew c =
    IfOk-from_err c.from_residual-in_err-crew.result _ c.from_residual-in_err-crew.ensures.0

pub returns-in_err-crew-clause-hands : goal.returns-in_err-crew-clause-hands
returns-in_err-crew-clause-hands c =
    IfOk-from_err c.from_residual-in_err-crew.result _ c.from_residual-in_err-crew.ensures.0

pub returns-in_err-crew-clause-kept : goal.returns-in_err-crew-clause-kept
returns-in_err-crew-clause-kept c =
    IfOk-from_err c.from_residual-in_err-crew.result _ c.from_residual-in_err-crew.ensures.0

pub returns-in_err-self-inside-clause-crew : goal.returns-in_err-self-inside-clause-crew
returns-in_err-self-inside-clause-crew c = IfOk-from_err c.from_residual.result _ c.from_residual.ensures.0

pub returns-in_err-self-inside-clause-hands : goal.returns-in_err-self-inside-clause-hands
returns-in_err-self-inside-clause-hands c = IfOk-from_err c.from_residual.result _ c.from_residual.ensures.0

pub returns-in_err-self-inside-clause-kept : goal.returns-in_err-self-inside-clause-kept
returns-in_err-self-inside-clause-kept c = IfOk-from_err c.from_residual.result _ c.from_residual.ensures.0

pub returns-in_err-reserve-clause-crew : goal.returns-in_err-reserve-clause-crew
returns-in_err-reserve-clause-crew c =
    IfOk-from_err c.from_residual-in_err-reserve.result _ c.from_residual-in_err-reserve.ensures.0

pub returns-in_err-reserve-clause-hands : goal.returns-in_err-reserve-clause-hands
returns-in_err-reserve-clause-hands c =
    IfOk-from_err c.from_residual-in_err-reserve.result _ c.from_residual-in_err-reserve.ensures.0

pub returns-in_err-reserve-clause-kept : goal.returns-in_err-reserve-clause-kept
returns-in_err-reserve-clause-kept c =
    IfOk-from_err c.from_residual-in_err-reserve.result _ c.from_residual-in_err-reserve.ensures.0
