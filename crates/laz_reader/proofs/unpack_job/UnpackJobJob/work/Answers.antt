use Rattle.std.proofs.Common.{◌≡◌, ◌*◌, ◌≤◌, ◌++◌, length, take, drop, sym, ◌∙◌, subst, arith}
use Rattle.laz_reader.specs.Unpacking.{HoldsOnly, chunk_in, count_before}
use Rattle.laz_chunk.specs.Layouts.{layout}
use Rattle.laz_reader.proofs.Unpacking.{bytes_front, front_fits, front_kept, unpacked}
use Rattle.laz_reader.proofs.unpack_job.UnpackJobJob.work.Goals as goal

pub returns-in-Ok-clause-answer : goal.returns-in-Ok-clause-answer
returns-in-Ok-clause-answer c =
    let n = c.record_length.result * c.u32_at-count.result in
    let len = c.args.room.now.len in
    let out = c.unpack.new.out in
    let back = c.split_at_mut-block.result.1.now in
    let more = drop (length (out ++ back)) c.args.room.now.items in
    let long : length out ≡ n = c.unpack.ensures.length ∙ c.split_at_mut-block.ensures.front_len in
    let within : n ≤ len = omega (arith, c.split_at_mut-block.ensures.back_len, c.deref_mut.ensures.len) in (
      front_fits n len out back more long within,
      subst (HoldsOnly (layout c.args.self.now) (count_before c.args.input.now) (chunk_in c.args.input.now)) (sym (front_kept n len out back more long within))
          (unpacked c.args.self.now c.args.space.now c.args.input.now c.split_at.result.1.now out n c.u32_at-count.result c.record_length.result c.requires.suits c.split_at.ensures.back c.u32_at-count.ensures c.record_length.ensures.length long (bytes_front n (take len (out ++ back ++ more)) out (front_kept n len out back more long within) (λ i lt. c.type_inv.room i 0 lt)) c.in-Ok.ensures.holds c.in-Ok.ensures.only),
    )
