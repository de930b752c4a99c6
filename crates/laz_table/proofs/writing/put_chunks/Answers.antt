use Rattle.std.proofs.Common.{◌<◌, ◌∷◌, ◌++◌, List, [], length, take, get_or, arith, subst}
use Rattle.laz_table.specs.Entries.{Entry, Latest, bytes_entry, points_entry, entries_of}
use Rattle.laz_table.specs.Steps.{Written}
use Rattle.laz_table.proofs.WritingLemmas.{Written-push, counted-more}
use Rattle.laz_table.proofs.writing.put_chunks.Goals as goal

pub loop-i-preserved : goal.loop-i-preserved
loop-i-preserved c =
    let i = c.loop-i.i in
    let sizes = c.args.sizes.now in
    let counts = c.args.counts.now in
    let l : Latest = record { points = c.loop-i.size_before; bytes = c.loop-i.count_before } in
    let m : Latest = record { points = get_or sizes i 0; bytes = c.loop-i.count_before } in
    let within : i < length counts = omega (arith, c.loop-i-test.true) in
    let inv = c.loop-i.invariant in
    let entries = entries_of (take i sizes) (take i counts) in
    let one = Written-push c.args.encoder.now c.loop-i.encoder c.put_number.new.encoder c.loop-i.model c.put_number.new.model l entries (points_entry (get_or sizes i 0))
    inv.written c.put_number.ensures.codes c.put_number.ensures.stands in
    let two = Written-push c.args.encoder.now c.put_number.new.encoder c.put_number-in-loop-i.new.encoder c.put_number.new.model c.put_number-in-loop-i.new.model m (entries ++ points_entry (get_or sizes i 0) ∷ []) (bytes_entry (get_or counts i 0))
    one c.put_number-in-loop-i.ensures.codes c.put_number-in-loop-i.ensures.stands in
    record {
      models = c.put_number-in-loop-i.ensures.models;
      left = omega (arith, inv.left, c.put_number.ensures.used, c.put_number-in-loop-i.ensures.used);
      written = subst (λ (es : List Entry). Written c.args.encoder.now c.put_number-in-loop-i.new.encoder c.put_number-in-loop-i.new.model (record { points = get_or sizes i 0; bytes = get_or counts i 0 }) es) (counted-more sizes counts i c.requires.same within) two;
    }
