use Rattle.std.proofs.Common.{◌/◌, ◌∙◌, length, arith}
use Rattle.las_header.specs.Plain.{cut_records}
use Rattle.las_info.proofs.Shown.{block_shown, points_counted, room_block}
use Rattle.las_info.proofs.survey.Survey.see_piece.Goals as goal

pub add_all-requires-clause-fewer : goal.add_all-requires-clause-fewer
add_all-requires-clause-fewer g c =
    let h = c.requires.shown in
    omega (arith, points_counted h.0 h.1 _ h.2, h.4)

pub show_taps-requires-clause-room : goal.show_taps-requires-clause-room
show_taps-requires-clause-room g c =
    let h = c.requires.shown in
    room_block (λ tap. (goal.Tap-dyn g (tap.vtable, tap.value)).tap_seen tap.value) c.args.self.now.taps.items h.0 h.1 c.args.self.now.summary (length c.args.block.now / c.args.size) h.2 h.3 h.4

pub returns : goal.returns
returns g c taps before is =
    block_shown (λ tap. (goal.Tap-dyn g (tap.vtable, tap.value)).tap_seen tap.value) c.args.self.now.taps.items taps _ before
    (cut_records c.args.size (length c.args.block.now / c.args.size) c.args.block.now) c.args.self.now.summary c.show_taps.new.self.summary is
    (λ records seen. c.in_ok-show_taps.ensures.summary ∙ c.add_all.ensures records seen) c.in_ok-show_taps.ensures.shown
