use Rattle.std.proofs.Common.{[], ◌∷◌, Err, refl, sym, subst}
use Rattle.las_run.specs.declared.stop.Stop.{Stop}
use Rattle.las_words.specs.Asked.{make}
use Rattle.las_run.specs.Ends.{Ends, cause_of}
use Rattle.las_run.specs.Runs.{task_with}
use Rattle.las_run.specs.Tools.{options_with}
use Rattle.las_run.proofs.Made.{ends_made, ends_unmade, ends_unput}
use Rattle.las_run.proofs.make.make.Goals as goal

pub returns-in-Ok-put_sizes-clause-ends : goal.returns-in-Ok-put_sizes-clause-ends
returns-in-Ok-put_sizes-clause-ends g c =
    let h = c.in-Ok.ensures in
    let old = g.F.Files.seen c.args.files.now in
    let new = g.F.Files.seen c.make.new.files in
    let out = g.O.Sink.seen c.args.out.now in
    let out_now = g.O.Sink.seen c.put_sizes.new.out in
    λ taps. ends_made taps c.args.output.now c.args.packed.now c.args.settings c.requires.range c.args.chunk
    c.args.machine.workers old new out out_now c.in-Ok.sizes h.made h.plain_size h.packed_size
    c.in-Ok-put_sizes.ensures.put

pub returns-in-Err-put_sizes-clause-ends : goal.returns-in-Err-put_sizes-clause-ends
returns-in-Err-put_sizes-clause-ends g c =
    let h = c.in-Ok.ensures in
    let old = g.F.Files.seen c.args.files.now in
    let new = g.F.Files.seen c.make.new.files in
    let out = g.O.Sink.seen c.args.out.now in
    let out_now = g.O.Sink.seen c.put_sizes.new.out in
    λ taps. ends_unput taps c.args.output.now c.args.packed.now c.args.settings c.requires.range c.args.chunk
    c.args.machine.workers old new out out_now c.in-Ok.sizes h.made h.plain_size h.packed_size
    c.in-Err-put_sizes.ensures.failed

pub returns-in-Err-clause-ends : goal.returns-in-Err-clause-ends
returns-in-Err-clause-ends g c =
    let s = c.args.settings in
    let old = g.F.Files.seen c.args.files.now in
    let new = g.F.Files.seen c.make.new.files in
    let out = g.O.Sink.seen c.args.out.now in
    let names = c.args.output.now ∷ c.args.packed.now ∷ [] in
    λ taps. subst (λ (stop : Stop). Ends
    (task_with taps (record {
      work = make (options_with c.args.output.now c.args.packed.now s c.args.chunk);
      workers = c.args.machine.workers;
    })) (record { files = old; files_now = new; out = out; out_now = out })
    (cause_of names (Err stop))) (sym c.stop_making.ensures)
    (ends_unmade taps c.args.output.now c.args.packed.now s c.requires.range c.args.chunk c.args.machine.workers old new
    out out c.in-Err.fault refl c.in-Err.ensures.fails)
