use Rattle.std.proofs.Common.{◌≡◌, ◌≤◌, ◌+◌, ◌∙◌, false, sym, ap, subst, List, [], ℕ, length, arith}
use Rattle.std.specs.Prelude.{string_bytes}
use Rattle.las_header.specs.Fields.{points_of, record_length_of}
use Rattle.laz_reader.specs.declared.seeking.Ends.{Ends}
use Rattle.laz_forms.specs.Pieces.{pieces_from}
use Rattle.laz_reader.specs.Reading.{AreListed, IsInPlace, Position, pieces_left, pieces_listed}
use Rattle.laz_reader.proofs.PieceLists.{left_first, placed_packed, placed_plain}
use Rattle.laz_reader.proofs.reader.Reader.of.Goals as goal
use Rattle.laz_reader.proofs.reader.Reader.of.Goals.{in-None, in-Some}

pub invariant_of-result : goal.invariant_of-result
invariant_of-result c =
    let head = c.args.head.bytes in
    let size = record_length_of head in
    let counts = c.args.list.points.items in
    let sizes = c.args.list.bytes.items in
    let h = c.bytes.ensures.head in
    let offset = length c.bytes.result.now in
    let points = c.points-points.result in
    let offset_is : offset ≡ length head = ap (λ (l : List ℕ). length l) c.bytes.ensures.bytes in
    let small : size ≤ 226 = omega (arith, h.extra, h.format) in
    let ends_is : c.all-ends.result ≡ record { first = 0; last = length counts; skip = 0; tail = 0 } = c.all-ends.ensures ∙ (λ i. record { first = 0; last = length (c.deref.ensures.value i); skip = 0; tail = 0 }) in
    let at : ℕ × ℕ → Ends → Position = λ q e. record { at = q.0; blocks = 0; records = q.1; ends = e; next = 0; batch = 0; bad = false } in
    let P : ℕ × ℕ → Type 0 = λ q. IsInPlace size (at q c.all-ends.result) counts sizes in
    let lists : AreListed c.args.list.chunk (length head) (points_of head) counts sizes = record {
      same = c.requires.lists.same;
      few = c.requires.lists.few;
      near = c.requires.near;
      some = c.requires.some;
      all = c.requires.points;
      plain = c.requires.plain;
    } in (
      lists,
      elim c.match-list.branch [
        | in-None w ↦ subst P (sym w.place-is) (subst (λ (e : Ends). IsInPlace size (at (offset, points) e) counts sizes) (sym ends_is)
            (placed_plain size points offset counts sizes c.requires.lists.same (c.requires.plain w.in-None.is) small (omega (arith, c.points-points.ensures, h.points)) (omega (arith, offset_is, h.small))))
        | in-Some w ↦ subst P (sym w.place-is) (subst (λ (e : Ends). IsInPlace size (at (offset + 8, 0) e) counts sizes) (sym ends_is)
            (placed_packed size (offset + 8) counts sizes c.requires.lists.same c.requires.lists.few (omega (arith, c.requires.near _ w.in-Some.is, offset_is))))
      ],
    )

pub returns : goal.returns
returns c =
    let chunk = c.args.list.chunk in
    let head = c.args.head.bytes in
    let size = record_length_of head in
    let counts = c.args.list.points.items in
    let sizes = c.args.list.bytes.items in
    let offset = length c.bytes.result.now in
    let points = c.points-points.result in
    let offset_is : offset ≡ length head = ap (λ (l : List ℕ). length l) c.bytes.ensures.bytes in
    let ends_is : c.all-ends.result ≡ record { first = 0; last = length counts; skip = 0; tail = 0 } = c.all-ends.ensures ∙ (λ i. record { first = 0; last = length (c.deref.ensures.value i); skip = 0; tail = 0 }) in
    let at : ℕ × ℕ → Ends → Position = λ q e. record { at = q.0; blocks = 0; records = q.1; ends = e; next = 0; batch = 0; bad = false } in
    let Q : ℕ × ℕ → Type 0 = λ q. pieces_left chunk size (at q c.all-ends.result) counts sizes ≡ pieces_listed chunk head counts sizes in
    let left : Q c.match-list.place = elim c.match-list.branch [
      | in-None w ↦ subst Q (sym w.place-is) (ap (λ (e : Ends). pieces_left chunk size (at (offset, points) e) counts sizes) ends_is
          ∙ left_first chunk head counts sizes offset points c.requires.lists.same (λ none. (offset_is, c.points-points.ensures)) (λ k some. absurd (let never = sym w.in-None.is ∙ some in cc)))
      | in-Some w ↦ subst Q (sym w.place-is) (ap (λ (e : Ends). pieces_left chunk size (at (offset + 8, 0) e) counts sizes) ends_is
          ∙ left_first chunk head counts sizes (offset + 8) 0 c.requires.lists.same (λ none. absurd (let never = sym w.in-Some.is ∙ none in cc)) (λ k some. ap (λ (n : ℕ). n + 8) offset_is))
    ] in
    λ i. record {
      name = string_bytes c.args.name;
      head = c.args.head;
      chunk = chunk;
      pieces = pieces_from (length head + 8) counts sizes;
      range = record { start = 0; stop = c.points-points.ensures i };
      first = (ends_is i).first;
      next = 0;
      left = left i;
      bad = false;
      failed = false;
      buffers = length (c.new.ensures.items i);
      cuts = [];
      lent = c.new-2.ensures.items i;
    }
