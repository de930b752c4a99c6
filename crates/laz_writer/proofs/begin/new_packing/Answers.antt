use Rattle.std.proofs.lemmas.Result.{IfOk-from_err}
use Rattle.std.proofs.Common.{◌≡◌, ℕ, ◌*◌, min, sym, ◌∙◌, ap, arith}
use Rattle.std.proofs.lemmas.List.Elements.{All-map, All-weaker}
use Rattle.las_header.specs.Fields.{format_of}
use Rattle.laz_chunk.specs.Layouts.{Format, layout, layout_of, record_length, room_for}
use Rattle.laz_workers.specs.Rooms.{HandSeen, lengths_of, rooms_of}
use Rattle.laz_forms.specs.Packing.{format_in}
use Rattle.laz_forms.proofs.Public.{record_is}
use Rattle.laz_writer.proofs.begin.new_packing.Goals as goal

pub invariant_of-result : goal.invariant_of-result
invariant_of-result c =
    let h = c.args.head.now.bytes in
    let f : Format = record { format = c.format-format.result; extra = c.extra-extra.result } in
    let same : f ≡ format_in h = ap (λ (n : ℕ). let x : Format = record { format = n; extra = c.extra-extra.result } in x) c.format-format.ensures.field ∙ ap (λ (n : ℕ). let x : Format = record { format = format_of h; extra = n } in x) c.extra-extra.ensures.field in
    let size : c.from-size.result ≡ record_length (layout f) = c.from-size.ensures ∙ c.record_length.ensures.field ∙ sym (record_is h c.bytes.ensures.head) ∙ ap (λ (x : Format). record_length (layout x)) (sym same) in
    let room : c.room_for-room.result ≡ room_for (layout f) (min c.args.chunk c.args.most) = c.room_for-room.ensures ∙ ap (λ (n : ℕ). room_for (layout_of c.format-format.result c.extra-extra.result) n) c.min-points.ensures in (
      record {
        known = omega (arith, c.format-format.ensures.known);
        extra = omega (arith, c.extra-extra.ensures.known);
        numbers = record {
          size = c.requires.chunk;
          most = omega (arith, c.ranges.most.fits);
          near = omega (arith, c.from.ensures, c.ranges.pointer.fits);
        };
        hands = (
          omega (arith, c.in_ok-crew.ensures.hands, c.requires.workers.0),
          omega (arith, c.in_ok-crew.ensures.hands, c.requires.workers.1),
        );
        spaces_are = All-map (λ (s : Format). s ≡ f) (λ (x : HandSeen Format). x.space) c.in_ok-crew.crew c.in_ok-crew.ensures.spaces;
        rooms_are = All-weaker (λ (n : ℕ). n ≡ c.room_for-room.result) (λ (n : ℕ). n ≡ room_for (layout f) (min c.args.chunk c.args.most)) (λ n is. is ∙ room) (lengths_of (rooms_of c.in_ok-crew.crew)) c.in_ok-crew.ensures.rooms;
      },
      ap (λ (n : ℕ). n * c.args.chunk) size,
    )

pub returns-in_err-crew : goal.returns-in_err-crew
returns-in_err-crew c = IfOk-from_err c.from_residual.result _ c.from_residual.ensures.0

pub returns-in_err-spare : goal.returns-in_err-spare
returns-in_err-spare c = IfOk-from_err c.from_residual-in_err-spare.result _ c.from_residual-in_err-spare.ensures.0

pub returns-in_err-kept : goal.returns-in_err-kept
returns-in_err-kept c = IfOk-from_err c.from_residual-in_err-kept.result _ c.from_residual-in_err-kept.ensures.0

pub returns-in_err-lengths : goal.returns-in_err-lengths
returns-in_err-lengths c =
    IfOk-from_err c.from_residual-in_err-lengths.result _ c.from_residual-in_err-lengths.ensures.0
