use Rattle.laz_reader.proofs.Exits.{at_exit, fails_after}
use Rattle.std.proofs.lemmas.Result.{IfOk-from_err}
use Rattle.std.proofs.Common.{rules, ◌≡◌, sym, ◌∙◌, ap, subst, List, ℕ, length, take, drop, arith, refl}
use Rattle.std.specs.Prelude.{Some}
use Rattle.las_header.specs.Numbers.{number_at}
use Rattle.laz_table.specs.Chunks.{IsAccepted, IsFirstFault}
use Rattle.laz_forms.specs.declared.fault.Fault.TheVariants.{Refused}
use Rattle.laz_reader.specs.Reading.{table_size, EndsReading}
use Rattle.laz_reader.proofs.AllParts.{accepted_some}
use Rattle.laz_forms.proofs.Public.{known_then, ok_no_fault}
use Rattle.laz_reader.proofs.Heads.{never_refused}
use Rattle.laz_reader.proofs.TableFront.{accepted_from_front, accepted_lists, accepted_points, first_from_front}
use Rattle.laz_reader.proofs.opening.read_chunks.Goals as goal

pub returns-in_err-bytes : goal.returns-in_err-bytes
returns-in_err-bytes g c =
    record {
      lists = IfOk-from_err c.from_residual.result _ c.from_residual.ensures.0;
      points = IfOk-from_err c.from_residual.result _ c.from_residual.ensures.0;
      some = IfOk-from_err c.from_residual.result _ c.from_residual.ensures.0;
      accepted = IfOk-from_err c.from_residual.result _ c.from_residual.ensures.0;
      refused =
          λ cause is. never_refused (g.F.Files.seen c.args.files.now) (g.F.Files.seen c.read_table_front.new.files)
          c.from_residual.result c.in_err-bytes.field-0.0 cause c.from_residual.ensures.1
          c.in_err-bytes.ensures.ends is;
      reads = c.read_table_front.ensures.reads;
      calm = IfOk-from_err c.from_residual.result _ c.from_residual.ensures.0;
      ends = let old = g.F.Files.seen c.args.files.now in
          let new = g.F.Files.seen c.read_table_front.new.files in
          at_exit c.from_residual.result c.in_err-bytes.field-0.0 (EndsReading ⊥ old new) c.from_residual.ensures.1
          (fails_after ⊥ old old new c.in_err-bytes.field-0.0 refl c.in_err-bytes.ensures.ends);
      asked = IfOk-from_err c.from_residual.result _ c.from_residual.ensures.0;
      asked_of = c.read_table_front.ensures.asked_of;
    }

pub returns-in-Ok : goal.returns-in-Ok
returns-in-Ok g c =
    record {
      lists =
          accepted_lists c.deref.result.now c.args.blocks c.args.total c.in-Ok.list.sizes.items
          c.in-Ok.list.counts.items c.requires.few c.in-Ok.ensures;
      points =
          accepted_points c.deref.result.now c.args.blocks c.args.total c.in-Ok.list.sizes.items
          c.in-Ok.list.counts.items c.requires.size c.in-Ok.ensures;
      some =
          accepted_some c.deref.result.now c.args.blocks c.args.total c.in-Ok.list.sizes.items c.in-Ok.list.counts.items
          c.requires.size c.in-Ok.ensures;
      accepted = let sizes = c.in-Ok.list.sizes.items in
          let counts = c.in-Ok.list.counts.items in
          known_then _ _ _ _ (λ file is. accepted_from_front c.args.blocks c.requires.few (drop c.args.place.start (take
          c.args.place.end file)) c.args.total sizes counts
          (subst (λ (b : List ℕ). IsAccepted b c.args.blocks c.args.total sizes counts) (c.deref.ensures.value ∙
          is) c.in-Ok.ensures)) c.in_ok-bytes.ensures.bytes;
      refused = λ cause is. ok_no_fault _ _ is;
      reads = c.read_table_front.ensures.reads;
      calm = c.in_ok-bytes.ensures.calm;
      ends = tt;
      asked = let sizes = c.in-Ok.list.sizes.items in
          let counts = c.in-Ok.list.counts.items in
          let lists =
          accepted_lists c.deref.result.now c.args.blocks c.args.total sizes counts c.requires.few c.in-Ok.ensures
          in
          let number : number_at 4 4 c.in_ok-bytes.bytes.items ≡ length counts =
          ap (number_at 4 4) (sym c.deref.ensures.value) ∙ c.in-Ok.ensures.table.begins.holds.number in
          omega (arith, c.in_ok-bytes.ensures.asked, c.in_ok-bytes.ensures.short, number, lists.same);
      asked_of = c.read_table_front.ensures.asked_of;
    }

pub returns : goal.returns
returns g c =
    record {
      lists = tt;
      points = tt;
      some = tt;
      accepted = tt;
      refused = λ cause is.
          let same : c.fault_of.result ≡ Refused cause = cc in
          known_then _ _ _ _ (λ file front. let part = drop c.args.place.start (take c.args.place.end file) in
          first_from_front c.args.blocks c.requires.few part c.args.total (Some cause)
          (c.fault_of.ensures.first (take (table_size part) part) c.args.blocks c.args.total cause same
          (subst (λ (b : List ℕ). IsFirstFault b c.args.blocks c.args.total c.in-Err.fault) (c.deref.ensures.value ∙
          front) c.in-Err.ensures))) c.in_ok-bytes.ensures.bytes;
      reads = c.read_table_front.ensures.reads;
      calm = tt;
      ends = search rules;
      asked = tt;
      asked_of = c.read_table_front.ensures.asked_of;
    }
