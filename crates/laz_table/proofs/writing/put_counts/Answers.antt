use Rattle.std.proofs.Common.{◌<◌, List, [], length, take, get_or, arith, subst}
use Rattle.laz_table.specs.Entries.{Entry, Latest, bytes_entry, entries_of}
use Rattle.laz_table.specs.Steps.{Written}
use Rattle.laz_table.proofs.WritingLemmas.{Written-push, fixed-more}
use Rattle.laz_table.proofs.writing.put_counts.Goals as goal

pub loop-count-preserved : goal.loop-count-preserved
loop-count-preserved c =
    let i = c.loop-count.count-index in
    let counts = c.args.counts.now in
    let l : Latest = record { points = 0; bytes = c.loop-count.before } in
    let within : i < length counts = omega (arith, c.loop-count-test.true) in
    let inv = c.loop-count.invariant in
    let more = Written-push c.args.encoder.now c.loop-count.encoder c.put_number.new.encoder c.loop-count.model c.put_number.new.model l (entries_of [] (take i counts)) (bytes_entry (get_or counts i 0))
    inv.written c.put_number.ensures.codes c.put_number.ensures.stands in
    record {
      models = c.put_number.ensures.models;
      left = omega (arith, inv.left, c.put_number.ensures.used);
      written = subst (λ (es : List Entry). Written c.args.encoder.now c.put_number.new.encoder c.put_number.new.model (record { points = 0; bytes = get_or counts i 0 }) es) (fixed-more counts i within) more;
    }
