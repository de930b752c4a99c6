use Rattle.std.proofs.Common.{◌≡◌, ℕ, ◌*◌, List, ◌++◌, length, take, drop, sym, ◌∙◌, ap, subst, arith}
use Rattle.std.specs.List.{concat}
use Rattle.laz_writer.specs.Writing.{Stands}
use Rattle.las_make.specs.Made.{made_length, records_from}
use Rattle.las_make.proofs.Written.{block_fits, block_joined, block_left, block_whole, end_fits, part_long, put_block}
use Rattle.las_make.proofs.Written.{put_fits, put_long, put_records}
use Rattle.las_make.proofs.plain.push_block.Given.{Over}
use Rattle.las_make.proofs.plain.push_block.Goals.{After-put_records}
use Rattle.las_make.proofs.plain.push_block.Goals as goal
use Rattle.las_outside.proofs.Public.{on_err}

pub slice_bounds-put_records-end : goal.slice_bounds-put_records-end
slice_bounds-put_records-end g c =
    end_fits _ c.requires.range _ _ _ _ c.args.buffer.now c.record_length.ensures c.min-count.ensures c.requires.room

pub slice_bounds-put_records-end-2 : goal.slice_bounds-put_records-end-2
slice_bounds-put_records-end-2 g c = sym (part_long _ c.requires.range _ _ _ _ c.args.buffer.now c.record_length.ensures
    c.min-count.ensures c.requires.room)

pub put_records-requires-clause-room : goal.put_records-requires-clause-room
put_records-requires-clause-room g c =
    part_long _ c.requires.range _ _ _ _ c.args.buffer.now c.record_length.ensures c.min-count.ensures c.requires.room
    ∙ ap (λ (n : ℕ). n * c.min-count.result) c.record_length.ensures

pub slice_bounds-push-end : goal.slice_bounds-push-end
slice_bounds-push-end g c = put_fits _ c.requires.range _ _ _ _ _ c.record_length.ensures c.min-count.ensures
    c.requires.room c.put_records.auto.place

pub slice_bounds-push-end-2 : goal.slice_bounds-push-end-2
slice_bounds-push-end-2 g c = sym (put_long _ c.requires.range _ _ _ _ _ c.record_length.ensures c.min-count.ensures
    c.requires.room c.put_records.auto.place)

-- what stands when the block was filled
module _ (g : Over) (c : After-put_records g) where
  abbrev block : List ℕ
  block = take (c.record_length.result * c.min-count.result)
      (c.put_records.new.place ++ drop (c.record_length.result * c.min-count.result) c.args.buffer.now)

  block_long : length block ≡ made_length c.args.settings * c.min-count.result
  block_long = put_records _ c.requires.range _ _ _ _ _ c.record_length.ensures c.min-count.ensures
      c.requires.room c.put_records.auto.place

  block_is : block ≡ concat (records_from c.args.settings c.args.from c.min-count.result)
  block_is = put_block _ c.requires.range _ _ _ _ _ c.record_length.ensures c.min-count.ensures
      c.requires.room c.put_records.auto.place _ c.put_records.ensures.records

pub push-requires-clause-whole : goal.push-requires-clause-whole
push-requires-clause-whole g c κs within =
    block_whole c.args.settings c.requires.range c.args.writer.now.size c.min-count.result _ c.requires.size
    (block_long g (goal.at.push-requires-clause-whole g c).After-put_records)

pub push-requires-clause-most : goal.push-requires-clause-most
push-requires-clause-most g c κs within =
    block_fits c.args.settings c.requires.range c.args.from c.min-count.result c.args.writer.now.taken
    c.args.writer.now.size c.args.writer.now.most _ c.requires.size c.requires.most c.requires.stands.2.taken
    (block_long g (goal.at.push-requires-clause-most g c).After-put_records)
    (omega (arith, c.min-count.ensures, c.requires.left))

pub returns-in_err-push-clause-left : goal.returns-in_err-push-clause-left
returns-in_err-push-clause-left g c before out s =
    let settings = c.args.settings in
    let from = c.args.from in
    let p = c.in_err-push.ensures.stopped before out (concat (records_from settings 0 from)) s in
    on_err c.from_residual.result
    (block_left settings from c.min-count.result (omega (arith, c.min-count.ensures, c.requires.left)) before
    (g.F.Files.seen c.args.files.now) c.args.writer.now out s (g.F.Files.seen c.push.new.files)
    c.in_err-push.field-0.0 p.0 _ (block_is g (goal.at.returns-in_err-push-clause-left g c).After-put_records) p.1)

pub returns-clause-stands : goal.returns-clause-stands
returns-clause-stands g c before out s =
    let settings = c.args.settings in
    let from = c.args.from in
    subst (λ (t : List ℕ). Stands before (g.F.Files.seen c.push.new.files) c.push.new.self out t)
    (block_joined settings from c.min-count.result _ (block_is g (goal.at.returns-clause-stands g c).After-put_records))
    (c.in_ok-push.ensures.stands before out (concat (records_from settings 0 from)) s)
