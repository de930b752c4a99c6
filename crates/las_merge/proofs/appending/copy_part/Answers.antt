use Rattle.std.proofs.lemmas.Result.{IfOk-from_err}
use Rattle.std.proofs.Common.{◌≡◌, ◌+◌, ◌-◌, ◌≤◌, ◌++◌, ℕ, List, length, length-append, take, ◌∙◌, ap, append_assoc}
use Rattle.std.proofs.Common.{arith, subst}
use Rattle.las_outside.specs.Files.{with_file}
use Rattle.las_outside.specs.Outside.{Outside, with_bytes}
use Rattle.las_outside.proofs.Public.{calm-trans, later-trans, on_err}
use Rattle.laz_file.specs.Copying.{with_reads}
use Rattle.las_merge.specs.Appending.{source_bytes}
use Rattle.laz_forms.proofs.Public.{known_then, if_err}
use Rattle.las_merge.proofs.Appended.{part_more, part_prefix, still_known, still_part, copy_fault_since}
use Rattle.las_merge.proofs.appending.copy_part.Given.{Over}
use Rattle.las_merge.proofs.appending.copy_part.Goals.{After-copy_piece}
use Rattle.las_merge.proofs.appending.copy_part.Goals as goal

pub copy_piece-requires-clause-lies : goal.copy_piece-requires-clause-lies
copy_piece-requires-clause-lies g c =
    let h = c.requires.held in
    let before = h.0 in
    let there = c.pieces.invariant.copied h.0 h.1 h.2 in
    let size : length c.split_at_mut-part.result.0.now ≤ c.args.size - c.pieces.done = omega (arith, c.split_at_mut-part.ensures.front_len, c.min-piece.ensures) in
    still_known before.held (g.F.Files.seen c.args.files.now).held (g.F.Files.seen c.pieces.files).held c.args.output.now c.args.input.now h.1 _
    (λ file. c.args.place + c.pieces.done + length c.split_at_mut-part.result.0.now ≤ length file) c.requires.names
    (ap (λ (o : Outside). o.held) h.2) (ap (λ (o : Outside). o.held) there)
    (known_then _ _ _ _ (λ file le. omega (arith, le, size, c.pieces.invariant.within)) c.requires.lies)

pub copy_piece-requires-clause-held : goal.copy_piece-requires-clause-held
copy_piece-requires-clause-held g c =
    let h = c.requires.held in
    (with_reads h.0 (g.F.Files.seen c.pieces.files), _, c.pieces.invariant.copied h.0 h.1 h.2)

-- what stands when the next piece was copied, or could not be
module _ (g : Over) (c : After-copy_piece g) where
  abbrev old : Outside
  old = g.F.Files.seen c.args.files.now

  abbrev cur : Outside
  cur = g.F.Files.seen c.pieces.files

  abbrev size : ℕ
  size = length c.split_at_mut-part.result.0.now

  abbrev one : List ℕ
  one = source_bytes old.held c.args.input.now c.args.place c.pieces.done

  abbrev next : Outside → List ℕ
  next seen = source_bytes seen.held c.args.input.now (c.args.place + c.pieces.done) size

  same : (before : Outside) (text : List ℕ) → old ≡ with_bytes before c.args.output.now text → next cur ≡ next old
  same before text was = still_part before.held old.held cur.held c.args.output.now c.args.input.now text (text ++ one)
      (c.args.place + c.pieces.done) size c.requires.names (ap (λ (o : Outside). o.held) was)
      (ap (λ (o : Outside). o.held) (c.pieces.invariant.copied before text was))

pub returns-in_err-copy_piece-clause-left : goal.returns-in_err-copy_piece-clause-left
returns-in_err-copy_piece-clause-left g c before text was =
    let k = (goal.at.returns-in_err-copy_piece-clause-left g c).After-copy_piece in
    let done = c.pieces.done in
    let n = size g k in
    let one = one g k in
    let l = c.in_err-copy_piece.ensures.left (with_reads before (cur g k)) (text ++ one)
    (c.pieces.invariant.copied before text was) in
    let fits : done + n ≤ c.args.size = omega
    (arith, c.split_at_mut-part.ensures.front_len, c.min-piece.ensures, c.pieces.invariant.within) in
    let p = part_prefix (old g k).held c.args.input.now c.args.place done n c.args.size l.0 fits in
    on_err c.from_residual.result (
      p.0,
      l.1
          ∙ ap (λ (t : List ℕ). with_file before.held c.args.output.now t)
          (append_assoc text one (take l.0 (next g k (cur g k)))
          ∙ ap (λ (t : List ℕ). text ++ (one ++ take l.0 t)) (same g k before text was)
          ∙ ap (λ (t : List ℕ). text ++ t) p.1),
    )

pub pieces-preserved : goal.pieces-preserved
pieces-preserved g c =
    let k = (goal.at.pieces-preserved g c).After-copy_piece in
    let now = g.F.Files.seen c.copy_piece.new.files in
    let done = c.pieces.done in
    let one = one g k in
    let ok = c.in_ok-copy_piece.ensures in
    let inv = c.pieces.invariant in
    let long : size g k ≡ c.min-piece.result = c.split_at_mut-part.ensures.front_len in
    record {
      within = omega (arith, c.min-piece.ensures, inv.within);
      room = omega (
        arith,
        length-append c.copy_piece.new.buffer c.split_at_mut-part.result.1.now,
        ok.room,
        c.split_at_mut-part.ensures.front_len,
        c.split_at_mut-part.ensures.back_len,
        inv.room,
        c.min-piece.ensures,
      );
      copied = λ before text was.
          ok.copied (with_reads before (cur g k)) (text ++ one) (inv.copied before text was)
          ∙ ap (λ (t : List ℕ). with_bytes (with_reads before now) c.args.output.now t)
          (append_assoc text one (next g k (cur g k))
          ∙ ap (λ (t : List ℕ). text ++ (one ++ t)) (same g k before text was)
          ∙ ap (λ (t : List ℕ). text ++ t) (part_more (old g k).held c.args.input.now c.args.place done (size g k))
          ∙ ap (λ (m : ℕ). text ++ source_bytes (old g k).held c.args.input.now c.args.place (done + m)) long);
      calm = calm-trans _ _ _ inv.calm ok.calm;
      frame = record {
        asked = omega (arith, ok.frame.asked, inv.frame.asked, long);
        later = later-trans _ _ _ inv.frame.later ok.frame.later;
      };
    }

pub returns-in_err-copy_piece-clause-copied : goal.returns-in_err-copy_piece-clause-copied
returns-in_err-copy_piece-clause-copied g c before text is =
    IfOk-from_err c.from_residual.result _ c.from_residual.ensures.0

pub returns-in_err-copy_piece-clause-calm : goal.returns-in_err-copy_piece-clause-calm
returns-in_err-copy_piece-clause-calm g c = IfOk-from_err c.from_residual.result _ c.from_residual.ensures.0

pub returns-in_err-copy_piece-clause-cause : goal.returns-in_err-copy_piece-clause-cause
returns-in_err-copy_piece-clause-cause g c =
    let calm = c.pieces.invariant.calm in
    let P : ℕ → Type 0 = λ n. n ≡ c.args.number in
    if_err _ c.from_residual.result _ c.from_residual.ensures.1
    (copy_fault_since P P (g.F.Files.seen c.args.files.now) (g.F.Files.seen c.pieces.files)
    (g.F.Files.seen c.copy_piece.new.files) calm.reads calm.writes (λ n e. e) c.in_err-copy_piece.field-0.0
    c.in_err-copy_piece.ensures.cause)

pub returns-in_err-copy_piece-clause-room : goal.returns-in_err-copy_piece-clause-room
returns-in_err-copy_piece-clause-room g c = omega (
  arith,
  length-append c.copy_piece.new.buffer c.split_at_mut-part.result.1.now,
  c.copy_piece.ensures.room,
  c.split_at_mut-part.ensures.front_len,
  c.split_at_mut-part.ensures.back_len,
  c.pieces.invariant.room,
  c.min-piece.ensures,
)

pub returns-in_err-copy_piece-clause-frame : goal.returns-in_err-copy_piece-clause-frame
returns-in_err-copy_piece-clause-frame g c = record {
  asked = omega (
    arith,
    c.copy_piece.ensures.frame.asked,
    c.pieces.invariant.frame.asked,
    c.split_at_mut-part.ensures.front_len,
    c.min-piece.ensures,
    c.pieces.invariant.within,
  );
  later = later-trans _ _ _ c.pieces.invariant.frame.later c.copy_piece.ensures.frame.later;
}

pub returns-clause-copied : goal.returns-clause-copied
returns-clause-copied g c before text was =
    let old = g.F.Files.seen c.args.files.now in
    let now = g.F.Files.seen c.pieces.files in
    let all : c.pieces.done ≡ c.args.size = omega (arith, c.pieces-test.false, c.pieces.invariant.within) in
    subst
    (λ (n : ℕ). now ≡ with_bytes (with_reads before now) c.args.output.now
    (text ++ source_bytes old.held c.args.input.now c.args.place n)) all (c.pieces.invariant.copied before text was)

pub returns-clause-calm : goal.returns-clause-calm
returns-clause-calm g c = c.pieces.invariant.calm

pub returns-clause-room : goal.returns-clause-room
returns-clause-room g c = c.pieces.invariant.room

pub returns-clause-frame : goal.returns-clause-frame
returns-clause-frame g c = record {
  asked = omega (arith, c.pieces.invariant.frame.asked, c.pieces.invariant.within);
  later = c.pieces.invariant.frame.later;
}
