use Rattle.std.proofs.Common.{◌≡◌, ◌∙◌, sym, ap, List, [], ℕ, take, drop, get_or, Option, arith, ◌*◌}
use Rattle.std.specs.Prelude.{Some, None, unwrap_or}
use Rattle.las_header.specs.Fields.{record_length_of}
use Rattle.laz_workers.specs.Rooms.{answer_in, numbers_in, rooms_of}
use Rattle.laz_reader.specs.Reading.{ReaderSeen}
use Rattle.laz_reader.proofs.Crews.{answered_there, lent_parts, once_there}
use Rattle.laz_reader.proofs.reader.Reader.block.Goals as goal

pub result-requires : goal.result-requires
result-requires c =
    let rooms = rooms_of c.args.crew.now in
    let is = sym (ap (λ (r : ReaderSeen). r.chunk) c.self.view_is) ∙ c.in-Some.is in
    let lent = lent_parts c.args.self.now.chunk c.in-Some.field-0 c.args.self.now rooms c.requires.0 is c.requires.1 in
    once_there c.args.i (numbers_in rooms) (omega (arith, lent.1.once c.args.i (omega (arith, c.requires.2, lent.2.same))))

pub unreachable-requires : goal.unreachable-requires
unreachable-requires c =
    let rooms = rooms_of c.args.crew.now in
    let is = sym (ap (λ (r : ReaderSeen). r.chunk) c.self.view_is) ∙ c.in-Some.is in
    let lent = lent_parts c.args.self.now.chunk c.in-Some.field-0 c.args.self.now rooms c.requires.0 is c.requires.1 in
    let r = c.in-None-result.ensures in
    let answer = answered_there rooms lent.0 c.args.i r.0 lent.1 (omega (arith, c.requires.2, lent.2.same)) r.1 in
    let none : ◌≡◌ {A = Option (List ℕ)} None (answer_in r.0.bytes r.0.held) = r.2 in
    let never : ◌≡◌ {A = Option (List ℕ)} None (Some (get_or lent.0 c.args.i [])) = none ∙ answer in
    cc

pub returns-in-Some-result : goal.returns-in-Some-result
returns-in-Some-result c = λ blocks lends lt.
    let rooms = rooms_of c.args.crew.now in
    let now = c.args.self.now in
    let size = record_length_of now.head.bytes in
    let is = sym (ap (λ (r : ReaderSeen). r.chunk) c.self.view_is) ∙ c.in-Some.is in
    let lent = lent_parts now.chunk c.in-Some.field-0 now rooms blocks is lends in
    let r = c.in-Some-result.ensures in
    let answer = answered_there rooms lent.0 c.args.i r.0 lent.1 (omega (arith, lt, lent.2.same)) r.1 in
    let whole : c.in-Some-result.block.now ≡ get_or lent.0 c.args.i [] = ap (λ (o : Option (List ℕ)). unwrap_or o []) (r.2 ∙ answer) in
    let cut = get_or now.cuts c.args.i (0, 0) in
    c.part.ensures (0, 0) ∙ ap (λ (b : List ℕ). take (size * cut.1) (drop (size * cut.0) b)) whole ∙ sym (lent.2.parts c.args.i (0, 0) lt)
