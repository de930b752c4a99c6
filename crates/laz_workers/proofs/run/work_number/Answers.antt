use Rattle.std.proofs.Common.{◌≡◌, ◌≤◌, ℕ, List, length, vec_len, sym, ap, ◌∙◌, subst, arith}
use Rattle.laz_workers.proofs.Lengths.{length-lengthened}
use Rattle.laz_workers.proofs.Texts.{texts_all}
use Rattle.laz_workers.specs.Rooms.{RoomSeen}
use Rattle.laz_workers.proofs.run.work_number.Goals as goal

pub work_within-answer-requires-clause-fits : goal.work_within-answer-requires-clause-fits
work_within-answer-requires-clause-fits g c =
    let v = c.index-inputs-number.result in
    let number = c.args.number in
    let size = length c.args.room.now.bytes in
    let P : List ℕ → Type 0 = λ i. g.J.Job.fits c.args.job.now i size in
    let here : g.J.Job.fits c.args.job.now v.items size = texts_all P c.args.inputs.now number v c.requires.fits c.requires.number c.index-inputs-number.is in
    let Q : List ℕ × ℕ → Type 0 = λ x. g.J.Job.fits c.args.job.now x.0 x.1 in
    let room = c.room.inside in
    let within : length room.bytes.items ≤ room.size = omega arith in
    let same : size ≡ room.size = ap (λ (r : RoomSeen). length r.bytes) (sym c.room.view_is) ∙ length-lengthened room.size room.bytes.items within in
    subst Q (λ i. (sym c.deref.ensures.value i, same i)) here
