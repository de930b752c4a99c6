use Rattle.std.proofs.Common.{rules, ◌≡◌, ◌-◌, ◌≤◌, ◌∙◌, min, refl, sym, ap, List, ℕ, length, arith}
use Rattle.std.proofs.lemmas.Result.{IfOk-from_err}
use Rattle.las_header.specs.Fields.{point_offset_of}
use Rattle.las_header.specs.Refusals.{first_cause, front_causes}
use Rattle.las_outside.proofs.Public.{reads-more}
use Rattle.laz_forms.proofs.Public.{known_both}
use Rattle.laz_reader.specs.Reading.{EndsReading}
use Rattle.laz_reader.proofs.Exits.{at_exit, fails_after}
use Rattle.laz_reader.proofs.Heads.{front_cause, front_read, never_refused, none_of_ok, same_cause}
use Rattle.laz_reader.proofs.opening.read_front.Goals as goal

-- the first bytes are 227, or all
few_more : (most k size : ℕ) → most ≡ min size 227 → most - k ≤ 227
few_more most k size is = omega arith

all_front : (long most size offset : ℕ) → long ≡ most → most ≡ min size 227 → 227 ≤ offset → offset ≤ size → long ≡ 227
all_front long most size offset is few least within = omega arith

pub returns-in_err-read_on : goal.returns-in_err-read_on
returns-in_err-read_on g c =
    record {
      front = IfOk-from_err c.from_residual.result _ c.from_residual.ensures.0;
      offset = IfOk-from_err c.from_residual.result _ c.from_residual.ensures.0;
      bounds = IfOk-from_err c.from_residual.result _ c.from_residual.ensures.0;
      len = IfOk-from_err c.from_residual.result _ c.from_residual.ensures.0;
      bytes = IfOk-from_err c.from_residual.result _ c.from_residual.ensures.0;
      refused =
          λ cause is. never_refused (g.F.Files.seen c.args.files.now) (g.F.Files.seen c.read_on.new.files)
          c.from_residual.result c.in_err-read_on.field-0.0 cause c.from_residual.ensures.1
          c.in_err-read_on.ensures.ends is;
      reads =
          reads-more _ 227 _ _ (few_more c.min-most.result _ c.args.size c.min-most.ensures) c.read_on.ensures.reads;
      calm = IfOk-from_err c.from_residual.result _ c.from_residual.ensures.0;
      ends = let old = g.F.Files.seen c.args.files.now in
          let new = g.F.Files.seen c.read_on.new.files in
          at_exit c.from_residual.result c.in_err-read_on.field-0.0 (EndsReading ⊥ old new) c.from_residual.ensures.1
          (fails_after ⊥ old old new c.in_err-read_on.field-0.0 refl c.in_err-read_on.ensures.ends);
    }

pub returns-in-Ok : goal.returns-in-Ok
returns-in-Ok g c =
    record {
      front =
          ap (λ (l : List ℕ). first_cause (front_causes l c.args.size)) (sym c.deref.ensures.value) ∙
          c.in-Ok.ensures.accepted;
      offset =
          (none_of_ok (first_cause (front_causes c.deref.result.now c.args.size)) c.need.result
          (point_offset_of c.deref.result.now) c.in-Ok.offset c.need.ensures.offset c.need.ensures.refused
          c.in-Ok.is).1
          ∙ ap point_offset_of c.deref.ensures.value;
      bounds = (c.in-Ok.ensures.bounds.0, c.in-Ok.ensures.bounds.1);
      len =
          all_front _ _ c.args.size c.in-Ok.offset c.in_ok-read_on.ensures.len c.min-most.ensures
          c.in-Ok.ensures.bounds.0 c.in-Ok.ensures.bounds.1;
      bytes = let none : length c.args.bytes.now.items ≡ 0 = ap (λ (l : List ℕ). length l) c.requires.empty in
          known_both _ _ _ _ _ (λ file size read. front_read file c.args.bytes.now.items c.read_on.new.bytes.items
          c.args.size _ c.min-most.result size c.min-most.ensures c.requires.empty
          (omega (arith, none, c.args.bytes.now.ok.0)) read) c.requires.size c.in_ok-read_on.ensures.bytes;
      refused = search rules;
      reads =
          reads-more _ 227 _ _ (few_more c.min-most.result _ c.args.size c.min-most.ensures) c.read_on.ensures.reads;
      calm = search rules;
      ends = tt;
    }

pub returns-in-Err : goal.returns-in-Err
returns-in-Err g c =
    record {
      front = tt;
      offset = tt;
      bounds = tt;
      len = tt;
      bytes = tt;
      refused = λ cause is.
          let none : length c.args.bytes.now.items ≡ 0 = ap (λ (l : List ℕ). length l) c.requires.empty in
          known_both _ _ _ _ _ (λ file size read. front_cause file c.deref.result.now c.args.size c.need.result
          c.in-Err.cause cause (c.deref.ensures.value ∙ front_read file c.args.bytes.now.items
          c.read_on.new.bytes.items c.args.size _ c.min-most.result size c.min-most.ensures c.requires.empty
          (omega (arith, none, c.args.bytes.now.ok.0)) read)
          c.need.ensures.offset c.need.ensures.refused c.in-Err.is (same_cause c.in-Err.cause cause is)) c.requires.size
          c.in_ok-read_on.ensures.bytes;
      reads =
          reads-more _ 227 _ _ (few_more c.min-most.result _ c.args.size c.min-most.ensures) c.read_on.ensures.reads;
      calm = tt;
      ends = c.in_ok-read_on.ensures.calm.reads;
    }
