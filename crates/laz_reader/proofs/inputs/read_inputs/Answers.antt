use Rattle.std.proofs.lemmas.Result.{IfOk-from_err}
use Rattle.std.proofs.Common.{◌≡◌, ◌<◌, ℕ, length, take, drop, get_or, sym, ◌∙◌, ap, arith}
use Rattle.las_outside.proofs.Public.{calm-trans, reads-more, reads-trans}
use Rattle.laz_forms.specs.Pieces.{Piece, piece_bytes, pieces_from}
use Rattle.laz_reader.specs.Unpacking.{IsInput, unpack_input}
use Rattle.laz_forms.proofs.Public.{known_at, known_both, known_then}
use Rattle.laz_reader.proofs.InputLists.{at_set, end_within, lies_at, next_place, piece_at}
use Rattle.laz_reader.proofs.inputs.read_inputs.Goals as goal

pub read_input-requires : goal.read_input-requires
read_input-requires g c = record {
  lies = known_at _ _ _ _ (sym c.loop-i.invariant.reads.only.held) (known_then _ _ _ _ (λ file lie. omega (arith, c.loop-i.invariant.place, lies_at file c.args.place c.args.points.now c.args.bytes.now c.loop-i.i c.requires.same.0 c.loop-i-test.true lie)) c.requires.lie);
}

pub overflow_add-at : goal.overflow_add-at
overflow_add-at g c = omega (arith, c.loop-i.invariant.place, c.from-at.ensures, end_within c.args.bytes.now c.loop-i.i (omega (arith, c.requires.same.0, c.loop-i-test.true)), c.requires.near)

pub loop-i-preserved : goal.loop-i-preserved
loop-i-preserved g c =
    let i = c.loop-i.i in
    let counts = c.args.points.now in
    let sizes = c.args.bytes.now in
    let inputs = c.loop-i.inputs in
    let input = c.read_input.new.input in
    let inv = c.loop-i.invariant in
    let one = c.in_ok-read_input.ensures in
    let lt : i < length counts = c.loop-i-test.true in
    let within : i < length inputs = omega (arith, lt, c.requires.same.1, c.loop-i.auto.inputs) in
    record {
      place = omega (arith, inv.place, c.from-at.ensures, next_place sizes i (omega (arith, c.requires.same.0, lt)));
      shape = at_set (λ k t. IsInput (get_or counts k 0) t) inputs i input within inv.shape one.shape;
      known = known_both _ _ _ _ _ (λ file so_far here. λ k d more. at_set (λ k t. (d : Piece) → t ≡ unpack_input (get_or counts k 0) (piece_bytes file (get_or (pieces_from c.args.place counts sizes) k d))) inputs i input within (λ k below d. so_far k d below)
          (λ d. here ∙ ap (λ (n : ℕ). unpack_input (get_or counts i 0) (take (get_or sizes i 0) (drop n file))) inv.place ∙ ap (λ (p : Piece). unpack_input (get_or counts i 0) (piece_bytes file p)) (sym (piece_at c.args.place counts sizes i d c.requires.same.0 lt))) k more d)
          inv.known (known_at _ _ _ _ inv.reads.only.held one.known);
      reads = reads-more _ _ _ _ (omega (arith, next_place sizes i (omega (arith, c.requires.same.0, lt)))) (reads-trans _ _ _ _ _ inv.reads one.reads);
      calm = calm-trans _ _ _ inv.calm one.calm;
    }

pub returns-in_err-read_input-clause-reads : goal.returns-in_err-read_input-clause-reads
returns-in_err-read_input-clause-reads g c =
    reads-more _ _ _ _ (end_within c.args.bytes.now c.loop-i.i (omega (arith, c.requires.same.0, c.loop-i-test.true))) (reads-trans _ _ _ _ _ c.loop-i.invariant.reads c.in_err-read_input.ensures.reads)

pub returns-in_err-read_input-clause-shape : goal.returns-in_err-read_input-clause-shape
returns-in_err-read_input-clause-shape g c = IfOk-from_err c.from_residual.result _ c.from_residual.ensures.0

pub returns-in_err-read_input-clause-known : goal.returns-in_err-read_input-clause-known
returns-in_err-read_input-clause-known g c = IfOk-from_err c.from_residual.result _ c.from_residual.ensures.0

pub returns-in_err-read_input-clause-calm : goal.returns-in_err-read_input-clause-calm
returns-in_err-read_input-clause-calm g c = IfOk-from_err c.from_residual.result _ c.from_residual.ensures.0

pub returns-clause-ends : goal.returns-clause-ends
returns-clause-ends g c = tt
