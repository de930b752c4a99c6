use Rattle.std.proofs.Common.{◌≡◌, ◌/◌, ℕ, Some, ◌++◌, length, sym, ◌∙◌, ap}
use Rattle.las_header.specs.Plain.{cut_records}
use Rattle.las_points.specs.Tally.{counts_of}
use Rattle.laz_writer.specs.Writing.{WriterSeen}
use Rattle.laz_writer.proofs.Pushing.{tally_more}
use Rattle.laz_writer.proofs.writer.Writer.tallied.Goals as goal

pub returns-in-Some : goal.returns-in-Some
returns-in-Some c counted before t =
    let w = c.args.self.now in
    let records = c.args.records.now in
    let kept : w.counts ≡ Some c.in-Some.counts = sym (ap (λ (v : WriterSeen). v.counts) c.self.view_is) ∙ c.in-Some.is in
    let size = ap (λ (v : WriterSeen). v.size) c.self.view_is in
    tally_more counted w.counts c.in-Some.counts c.count_all.new.counts before (cut_records w.size (length records / w.size) records) kept t
    (λ xs is. c.count_all.ensures.counts xs is ∙ ap (λ (n : ℕ). counts_of (xs ++ cut_records n (length records / n) records)) size) c.count_all.ensures.within
