use Rattle.las_outside.proofs.Public.{calm-trans, only_reads-trans}
use Rattle.las_outside.specs.Files.{IsMissing}
use Rattle.laz_reader.proofs.Exits.{at_exit, ends_after, only_reads-refl}
use Rattle.std.proofs.lemmas.Result.{IfOk-from_err}
use Rattle.std.proofs.Common.{rules, ◌+◌, ◌≤◌, ℕ, List, sym, ap, subst, length, Err, arith, refl}
use Rattle.las_outside.specs.Outside.{Outside}
use Rattle.laz_forms.specs.declared.fault.Fault.{Fault}
use Rattle.laz_reader.specs.Reading.{AgreesWithHead, ReaderSeen, StandsFor, EndsReading}
use Rattle.laz_reader.proofs.Opened.{new_stands}
use Rattle.laz_reader.specs.Asking.{AsksAtMost, asked_for_head, asked_for_list, asked_for_table, asked_to_open}
use Rattle.laz_reader.proofs.PieceLists.{length-pieces, new_agrees}
use Rattle.laz_forms.proofs.Public.{known_at, known_both, known_then, not_missing, ok_no_fault}
use Rattle.laz_reader.proofs.Heads.{residual_is}
use Rattle.laz_reader.proofs.Accepting.{refused_head}
use Rattle.laz_reader.proofs.reader.Reader.open.Goals as goal

pub of-requires : goal.of-requires
of-requires g c =
    let e = c.in_ok-list.ensures in
    record { lists = e.lists; near = e.near; some = e.some; points = e.points; plain = e.plain }

-- what is asked for a head and then for a table, stated where `omega` reads no other fact
ask_both : (file : List ℕ) (old mid new : Outside) → AsksAtMost (asked_for_head file) old mid
    → AsksAtMost (asked_for_table file) mid new → AsksAtMost (asked_to_open file) old new
ask_both file old mid new head table = omega arith

pub returns-in_err-own : goal.returns-in_err-own
returns-in_err-own g c =
    record {
      stands = IfOk-from_err c.from_residual.result _ c.from_residual.ensures.0;
      refused = search rules;
      fresh = IfOk-from_err c.from_residual.result _ c.from_residual.ensures.0;
      whole = IfOk-from_err c.from_residual.result _ c.from_residual.ensures.0;
      reads = only_reads-refl (g.F.Files.seen c.args.files.now);
      calm = IfOk-from_err c.from_residual.result _ c.from_residual.ensures.0;
      ends = search rules;
      asked = IfOk-from_err c.from_residual.result _ c.from_residual.ensures.0;
      asked_of = search rules;
      missing = λ missing. refl;
    }

pub returns-in_err-head : goal.returns-in_err-head
returns-in_err-head g c =
    record {
      stands = IfOk-from_err c.from_residual-in_err-head.result _ c.from_residual-in_err-head.ensures.0;
      refused = λ cause is.
          let same =
          residual_is c.from_residual-in_err-head.result c.in_err-head.field-0.0 cause
          c.from_residual-in_err-head.ensures.1 is in
          known_then _ _ _ _ (λ file none. refused_head file cause none)
          (c.in_err-head.ensures.refused cause (ap (λ (f : Fault). Err f) same));
      fresh = IfOk-from_err c.from_residual-in_err-head.result _ c.from_residual-in_err-head.ensures.0;
      whole = IfOk-from_err c.from_residual-in_err-head.result _ c.from_residual-in_err-head.ensures.0;
      reads = c.read_head.ensures.reads;
      calm = IfOk-from_err c.from_residual-in_err-head.result _ c.from_residual-in_err-head.ensures.0;
      ends = let old = g.F.Files.seen c.args.files.now in
          at_exit c.from_residual-in_err-head.result c.in_err-head.field-0.0
          (EndsReading (IsMissing old.held c.args.name.now) old (g.F.Files.seen c.read_head.new.files))
          c.from_residual-in_err-head.ensures.1 c.in_err-head.ensures.ends;
      asked = IfOk-from_err c.from_residual-in_err-head.result _ c.from_residual-in_err-head.ensures.0;
      asked_of = search rules;
      missing = c.read_head.ensures.missing;
    }

pub returns-in_err-list : goal.returns-in_err-list
returns-in_err-list g c =
    record {
      stands = IfOk-from_err c.from_residual-in_err-list.result _ c.from_residual-in_err-list.ensures.0;
      refused = search rules;
      fresh = IfOk-from_err c.from_residual-in_err-list.result _ c.from_residual-in_err-list.ensures.0;
      whole = IfOk-from_err c.from_residual-in_err-list.result _ c.from_residual-in_err-list.ensures.0;
      reads = only_reads-trans _ _ _ c.read_head.ensures.reads c.read_list.ensures.reads;
      calm = IfOk-from_err c.from_residual-in_err-list.result _ c.from_residual-in_err-list.ensures.0;
      ends = let old = g.F.Files.seen c.args.files.now in
          let mid = g.F.Files.seen c.read_head.new.files in
          let new = g.F.Files.seen c.read_list.new.files in
          let missing = IsMissing old.held c.args.name.now in
          at_exit c.from_residual-in_err-list.result c.in_err-list.field-0.0 (EndsReading missing old new)
          c.from_residual-in_err-list.ensures.1
          (ends_after missing old mid new c.in_err-list.field-0.0 c.in_ok-head.ensures.calm.reads
          c.in_err-list.ensures.ends);
      asked = IfOk-from_err c.from_residual-in_err-list.result _ c.from_residual-in_err-list.ensures.0;
      asked_of = λ there.
          let old = g.F.Files.seen c.args.files.now in
          let mid = g.F.Files.seen c.read_head.new.files in
          let new = g.F.Files.seen c.read_list.new.files in
          known_both old.held c.args.name.now (λ file. AsksAtMost (asked_for_head file) old mid)
          (λ file. AsksAtMost (asked_for_table file) mid new) (λ file. AsksAtMost (asked_to_open file) old new)
          (λ file head table. ask_both file old mid new head table) (c.in_ok-head.ensures.asked_of there)
          (known_at _ _ _ _ c.in_ok-head.ensures.reads.held c.in_err-list.ensures.asked_of);
      missing = λ missing.
          absurd (not_missing _ _ _ c.in_ok-head.ensures.head missing);
    }

pub returns : goal.returns
returns g c =
    record {
      stands = let head = c.in_ok-head.head in
          let list = c.in_ok-list.list in
          known_both _ _ _ _ _ (λ file h lists. subst (λ (r : ReaderSeen). StandsFor r file) (sym c.of.ensures)
          (new_stands file _ head list.chunk list.points.items list.bytes.items h c.in_ok-list.ensures.chunk lists
          c.in_ok-list.ensures.plain)) c.in_ok-head.ensures.head
          (known_at _ _ _ _ c.in_ok-head.ensures.reads.held c.in_ok-list.ensures.stands);
      refused = λ cause is. ok_no_fault _ _ is;
      fresh = search rules;
      whole = let list = c.in_ok-list.list in
          let e = c.in_ok-list.ensures in
          subst AgreesWithHead (sym c.of.ensures)
          (new_agrees _ c.in_ok-head.head list.chunk list.points.items list.bytes.items e.chunk e.vlr
          c.in_ok-head.ensures.plain e.lists.same e.points);
      reads = only_reads-trans _ _ _ c.read_head.ensures.reads c.read_list.ensures.reads;
      calm = calm-trans _ _ _ c.in_ok-head.ensures.calm c.in_ok-list.ensures.calm;
      ends = tt;
      asked = let head = c.in_ok-head.head in
          let list = c.in_ok-list.list in
          let e = c.in_ok-list.ensures in
          let old = (g.F.Files.seen c.args.files.now).asked in
          let new = (g.F.Files.seen c.read_list.new.files).asked in
          let asked : new ≤ old + (length head.bytes + asked_for_list list.chunk (length list.points.items)) =
          omega (arith, c.in_ok-head.ensures.asked, e.asked) in
          let chunks = length-pieces (length head.bytes + 8) list.points.items list.bytes.items e.lists.same in
          subst (λ (r : ReaderSeen). new ≤ old + (length r.head.bytes + asked_for_list r.chunk (length r.pieces)))
          (sym c.of.ensures)
          (subst (λ (n : ℕ). new ≤ old + (length head.bytes + asked_for_list list.chunk n)) (sym chunks) asked);
      asked_of = λ there.
          let old = g.F.Files.seen c.args.files.now in
          let mid = g.F.Files.seen c.read_head.new.files in
          let new = g.F.Files.seen c.read_list.new.files in
          known_both old.held c.args.name.now (λ file. AsksAtMost (asked_for_head file) old mid)
          (λ file. AsksAtMost (asked_for_table file) mid new) (λ file. AsksAtMost (asked_to_open file) old new)
          (λ file head table. ask_both file old mid new head table) (c.in_ok-head.ensures.asked_of there)
          (known_at _ _ _ _ c.in_ok-head.ensures.reads.held c.in_ok-list.ensures.asked_of);
      missing = λ missing.
          absurd (not_missing _ _ _ c.in_ok-head.ensures.head missing);
    }
