use Rattle.std.proofs.Common.{◌∙◌, ◌++◌, List, ap, ℕ, arith}
use Rattle.std.proofs.lemmas.List.{append-nil, drop_all}
use Rattle.byteorder.specs.Endian.{little_bytes}
use Rattle.laz_forms.proofs.Public.{on_ok}
use Rattle.laz_reader.proofs.InputLists.{shape_of}
use Rattle.laz_reader.proofs.inputs.fill_input.Goals as goal

pub returns-clause-shape : goal.returns-clause-shape
returns-clause-shape g c = on_ok c.read_exactly.result (shape_of c.args.count c.write_u32.new.buf c.read_exactly.new.bytes (c.write_u32.ensures ∙ ap (λ (t : List ℕ). little_bytes 4 c.args.count ++ t) (drop_all 4 c.split_at_mut-front.result.0.now (omega (arith, c.split_at_mut-front.ensures.front_len))) ∙ append-nil (little_bytes 4 c.args.count)) c.ranges.count.fits)
