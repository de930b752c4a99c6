use Rattle.std.proofs.Common.{◌≡◌, ℕ, List, ◌++◌, sym, ◌∙◌, subst}
use Rattle.std.specs.Prelude.{OnErr, OnOk}
use Rattle.std.proofs.lemmas.Result.{on_err_weaker}
use Rattle.laz_forms.proofs.Public.{on_ok_both}
use Rattle.laz_reader.proofs.Public.{lent_is}
use Rattle.laz_file.specs.Copying.{HasRoomFor, HasTaken, LeavesPart}
use Rattle.laz_file.proofs.Taking.{part_then, push_part, push_takes}
use Rattle.laz_file.proofs.Writers.{begun_now, even_now, room_now, takes_block}
use Rattle.laz_file.proofs.copying.push_lent.Goals as goal

-- ---- the block of a plain file

pub push_plain-requires-clause-whole : goal.push_plain-requires-clause-whole
push_plain-requires-clause-whole g c κs within =
    let h = c.requires.fits in
    let reader = c.args.reader.now in
    let is = lent_is reader c.args.crew.now c.args.number h.3 (sym c.chunk.ensures ∙ c.in-None.is) h.5 in
    even_now h.0 c.args.writer.now h.1 (g.F.Files.seen c.args.files.now) h.2 h.4 reader.lent (subst (HasRoomFor h.0 h.2) is h.6)

pub push_plain-requires-clause-most : goal.push_plain-requires-clause-most
push_plain-requires-clause-most g c κs within =
    let h = c.requires.fits in
    let reader = c.args.reader.now in
    let is = lent_is reader c.args.crew.now c.args.number h.3 (sym c.chunk.ensures ∙ c.in-None.is) h.5 in
    room_now h.0 c.args.writer.now h.1 (g.F.Files.seen c.args.files.now) h.2 h.4 reader.lent (subst (HasRoomFor h.0 h.2) is h.6)

pub push_plain-requires-clause-open : goal.push_plain-requires-clause-open
push_plain-requires-clause-open g c κs within = c.requires.fits.4.sound

pub push_plain-requires-clause-stands : goal.push_plain-requires-clause-stands
push_plain-requires-clause-stands g c κs within =
    let h = c.requires.fits in
    begun_now h.0 c.args.writer.now h.1 (g.F.Files.seen c.args.files.now) h.2 h.4

pub returns-in-None-clause-takes : goal.returns-in-None-clause-takes
returns-in-None-clause-takes g c first old records block t lends =
    let mid = g.F.Files.seen c.args.files.now in
    let new = g.F.Files.seen c.push_plain.new.files in
    let w = c.args.writer.now in
    let v = c.push_plain.new.writer in
    let reader = c.args.reader.now in
    let is = lent_is reader c.args.crew.now c.args.number block (sym c.chunk.ensures ∙ c.in-None.is) lends in
    subst (λ (b : List ℕ). OnOk c.push_plain.result (HasTaken first v old new (records ++ b))) (sym is)
    (on_ok_both c.push_plain.result (λ takes sound. takes_block first w old mid records t v new reader.lent sound c.push_plain.ensures.most takes) c.push_plain.ensures.takes c.push_plain.ensures.open)

pub returns-in-None-clause-part : goal.returns-in-None-clause-part
returns-in-None-clause-part g c first old records block t lends =
    let mid = g.F.Files.seen c.args.files.now in
    let new = g.F.Files.seen c.push_plain.new.files in
    let w = c.args.writer.now in
    let reader = c.args.reader.now in
    let is = lent_is reader c.args.crew.now c.args.number block (sym c.chunk.ensures ∙ c.in-None.is) lends in
    subst (λ (b : List ℕ). OnErr c.push_plain.result (LeavesPart old new first (records ++ b))) (sym is)
    (on_err_weaker c.push_plain.result (part_then old mid new first w records reader.lent t.takes) c.push_plain.ensures.part)

-- ---- a block of a packed file

pub block-requires : goal.block-requires
block-requires g c = let l = c.requires.fits.5 in (l.0, l.1, l.2)

pub push-requires-clause-whole : goal.push-requires-clause-whole
push-requires-clause-whole g c κs within =
    let h = c.requires.fits in
    let is : h.3 ≡ c.block.result.now = sym (c.block.ensures h.5.0 h.5.1 h.5.2 ∙ h.5.3) in
    even_now h.0 c.args.writer.now h.1 (g.F.Files.seen c.args.files.now) h.2 h.4 c.block.result.now (subst (HasRoomFor h.0 h.2) is h.6)

pub push-requires-clause-most : goal.push-requires-clause-most
push-requires-clause-most g c κs within =
    let h = c.requires.fits in
    let is : h.3 ≡ c.block.result.now = sym (c.block.ensures h.5.0 h.5.1 h.5.2 ∙ h.5.3) in
    room_now h.0 c.args.writer.now h.1 (g.F.Files.seen c.args.files.now) h.2 h.4 c.block.result.now (subst (HasRoomFor h.0 h.2) is h.6)

pub push-requires-clause-open : goal.push-requires-clause-open
push-requires-clause-open g c κs within = c.requires.fits.4.sound

pub push-requires-clause-stands : goal.push-requires-clause-stands
push-requires-clause-stands g c κs within =
    let h = c.requires.fits in
    begun_now h.0 c.args.writer.now h.1 (g.F.Files.seen c.args.files.now) h.2 h.4

pub returns-in-Some-clause-takes : goal.returns-in-Some-clause-takes
returns-in-Some-clause-takes g c first old records block t lends =
    let mid = g.F.Files.seen c.args.files.now in
    let new = g.F.Files.seen c.push.new.files in
    let w = c.args.writer.now in
    let v = c.push.new.self in
    let is : block ≡ c.block.result.now = sym (c.block.ensures lends.0 lends.1 lends.2 ∙ lends.3) in
    subst (λ (b : List ℕ). OnOk c.push.result (HasTaken first v old new (records ++ b))) (sym is)
    (on_ok_both c.push.result (λ takes sound. takes_block first w old mid records t v new c.block.result.now sound c.push.ensures.most takes) (push_takes c.push.result mid new w v c.block.result.now c.push.ensures.stands) c.push.ensures.open)

pub returns-in-Some-clause-part : goal.returns-in-Some-clause-part
returns-in-Some-clause-part g c first old records block t lends =
    let mid = g.F.Files.seen c.args.files.now in
    let new = g.F.Files.seen c.push.new.files in
    let w = c.args.writer.now in
    let is : block ≡ c.block.result.now = sym (c.block.ensures lends.0 lends.1 lends.2 ∙ lends.3) in
    subst (λ (b : List ℕ). OnErr c.push.result (LeavesPart old new first (records ++ b))) (sym is)
    (on_err_weaker c.push.result (part_then old mid new first w records c.block.result.now t.takes) (push_part c.push.result mid new w c.block.result.now c.push.ensures.stopped))
