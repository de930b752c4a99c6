use Rattle.std.proofs.Common.{rules, ◌≡◌, ◌+◌, ◌*◌, ◌/◌, ◌≤◌, ◌<◌, ◌^◌, ℕ, List, ◌++◌, length, sym, ◌∙◌, ap, subst}
use Rattle.std.proofs.Common.{arith}
use Rattle.las_header.specs.Plain.{cut_records}
use Rattle.las_outside.specs.Outside.{Outside}
use Rattle.laz_forms.specs.Outputs.{records_after}
use Rattle.laz_forms.specs.declared.fault.Fault.TheVariants.{Write}
use Rattle.laz_forms.proofs.Public.{ok_no_fault}
use Rattle.laz_writer.specs.Writing.{IsTally, WriterSeen}
use Rattle.laz_writer.proofs.Arms.{held_text}
use Rattle.laz_writer.proofs.Faults.{stops_kind, calm_text, stops_rose}
use Rattle.laz_writer.proofs.Pushing.{few_taken, pushed, text_of}
use Rattle.laz_writer.proofs.writer.Writer.push_block.Goals as goal

pub tallied-counts-requires-clause-tally : goal.tallied-counts-requires-clause-tally
tallied-counts-requires-clause-tally g c =
    let h = c.requires.stands in
    (h.1.counted, records_after h.1.head h.2, h.3.tally, subst (λ (r : List ℕ). length (records_after h.1.head h.2) + length r / c.args.self.now.size < 2 ^ 32) (sym c.deref.ensures.value) (few_taken h.0 _ c.args.self.now h.1 h.2 c.args.block.now.items h.3 c.requires.most))

pub returns-in-Err : goal.returns-in-Err
returns-in-Err g c =
    record {
      stands = λ before text records stands. tt;
      most = search rules;
      «open» = tt;
      stopped =
          λ before out bytes s. let room : length bytes + length c.args.block.now.items ≤ c.args.self.now.size *
          c.args.self.now.most = omega (arith, c.requires.most, s.taken) in
          c.in-Err.ensures.adds before out bytes s room;
      failed = search rules;
      fault = let h = c.requires.stands in
          let w = c.args.self.now in
          let room : length h.2 + length c.args.block.now.items ≤ w.size * w.most =
          omega (arith, c.requires.most, h.3.taken) in
          let left = c.in-Err.ensures.adds h.0 h.1 h.2 h.3 room in
          stops_kind c.in-Err.fault _ _ left.1;
      write = λ of. let h = c.requires.stands in
          let w = c.args.self.now in
          let room : length h.2 + length c.args.block.now.items ≤ w.size * w.most =
          omega (arith, c.requires.most, h.3.taken) in
          let left = c.in-Err.ensures.adds h.0 h.1 h.2 h.3 room in
          let held = held_text h.0 _ w h.1 h.2 h.3 in
          let is : c.in-Err.fault ≡ Write = cc in
          stops_rose (g.F.Files.seen c.args.files.now) _ (g.F.Files.seen c.append_block.new.files) c.in-Err.fault
          (sym (ap (λ (o : Outside). o.write_faults) held.1)) left.1 is;
      calm = tt;
      writes = c.append_block.ensures.writes;
    }

pub returns : goal.returns
returns g c =
    record {
      stands = λ before out bytes s. let w = c.args.self.now in
          let records = c.args.block.now.items in
          let counts = c.tallied-counts.result in
          let room : length bytes + length records ≤ w.size * w.most = omega (arith, c.requires.most, s.taken) in
          let same : c.len-length.result ≡ length records =
          omega (arith, c.len-length.ensures, c.args.block.now.ok.0) in
          let is =
          ap (λ (y : WriterSeen). let x : WriterSeen = record y {
            taken = y.taken + c.len-length.result;
            counts =
                counts;
          } in x) c.self.view_is
          ∙ ap (λ (y : WriterSeen). let x : WriterSeen = record y {
            taken = y.taken + c.len-length.result;
            counts =
                counts;
          } in x) c.append_block.ensures.same
          ∙ ap (λ (n : ℕ). let x : WriterSeen = record w {
            taken = w.taken + n;
            counts = counts;
            packing =
                c.append_block.new.self.packing;
          } in x) same in
          pushed before _ _ w _ out bytes records c.append_block.new.self.packing counts s c.requires.whole
          c.requires.most is (c.in-Ok.ensures.adds before out bytes s room)
          (subst (λ (r : List ℕ). IsTally out.counted counts (records_after out.head bytes ++ cut_records w.size
          (length r / w.size) r)) c.deref.ensures.value
          (c.tallied-counts.ensures out.counted (records_after out.head bytes) s.tally));
      most = search rules;
      «open» = search rules;
      stopped = λ before text records stands. tt;
      failed = tt;
      fault = tt;
      write = λ is. ok_no_fault _ _ is;
      calm = let h = c.requires.stands in
          let w = c.args.self.now in
          let room : length h.2 + length c.args.block.now.items ≤ w.size * w.most =
          omega (arith, c.requires.most, h.3.taken) in
          let held = held_text h.0 _ w h.1 h.2 h.3 in
          let now = text_of h.1.chunk h.0 _ h.1 w.most _ _ (c.in-Ok.ensures.adds h.0 h.1 h.2 h.3 room) in
          calm_text h.0 _ _ h.1.name held.0 now.0 held.1 now.1;
      writes = c.append_block.ensures.writes;
    }
