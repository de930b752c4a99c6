use Rattle.std.proofs.Common.{◌≡◌, List, [], ℕ, length, ap, refl, sym, subst, ◌∙◌}
use Rattle.std.proofs.lemmas.Result.{err_from_is_err_and}
use Rattle.laz_range.specs.Choice.{AreAsked, all_cuts, state_after}
use Rattle.laz_range.specs.Decoding.{Refuses, Takes}
use Rattle.laz_rgb.specs.Rows.{AreRowModels, IsNextByte, next_cuts, next_row, row_at}
use Rattle.laz_rgb.specs.Extra.{all_marked, extra_made}
use Rattle.laz_rgb.specs.Items.{ExtraStands, ExtraState, HasExtraSizes, ReadsExtra, latest_extra}
use Rattle.laz_rgb.proofs.Extras.{none-extra, one-extra, reads-extra, refuses-extra}
use Rattle.laz_rgb.proofs.Walks.{sized-rows}
use Rattle.laz_rgb.proofs.bytes.Bytes.read.Goals as goal

pub take_bytes-requires-clause-models : goal.take_bytes-requires-clause-models
take_bytes-requires-clause-models c =
    let last = c.self.inside.last.items in
    subst (λ (l : List ℕ). AreRowModels (length l) 0 c.self.inside.bank) (sym c.deref.ensures.value) (sized-rows (length last) 0 c.self.inside.bank [] c.self.invariant.sizes refl)

pub returns-in_err-take_bytes-clause-reads : goal.returns-in_err-take_bytes-clause-reads
returns-in_err-take_bytes-clause-reads c earlier extras h =
    let st : ExtraState = record { bank = c.self.inside.bank; last = c.self.inside.last.items } in
    let stood : ExtraStands earlier extras st = subst (λ (s : ExtraState). ExtraStands earlier extras s) (sym c.self.view_is) h in
    let p = err_from_is_err_and c.from_residual.result c.from_residual.ensures.1 in
    let refuses = subst (λ (l : List ℕ). Refuses (AreAsked next_row IsNextByte (row_at (all_marked (length l)) 0 st.bank) (length l)) (all_cuts next_row next_cuts (row_at (all_marked (length l)) 0 st.bank)) c.args.decoder.now c.take_bytes.new.decoder) c.deref.ensures.value c.in_err-take_bytes.ensures.reads in
    rw p.1 (refuses-extra earlier extras st c.self.invariant stood c.args.decoder.now c.take_bytes.new.decoder refuses)

pub returns-in_err-take_bytes-clause-none : goal.returns-in_err-take_bytes-clause-none
returns-in_err-take_bytes-clause-none c earlier extras h sizes has before =
    let st : ExtraState = record { bank = c.self.inside.bank; last = c.self.inside.last.items } in
    let stood : ExtraStands earlier extras st = subst (λ (s : ExtraState). ExtraStands earlier extras s) (sym c.self.view_is) h in
    let p = err_from_is_err_and c.from_residual.result c.from_residual.ensures.1 in
    let long : length c.args.part.now ≡ length (latest_extra extras) = c.requires.part ∙ ap length h.last in
    let fits = subst (λ (k : ℕ). HasExtraSizes sizes k) long has in
    let refuses = subst (λ (l : List ℕ). Refuses (AreAsked next_row IsNextByte (row_at (all_marked (length l)) 0 st.bank) (length l)) (all_cuts next_row next_cuts (row_at (all_marked (length l)) 0 st.bank)) c.args.decoder.now c.take_bytes.new.decoder) c.deref.ensures.value c.in_err-take_bytes.ensures.reads in
    rw p.1 (none-extra sizes earlier before extras fits c.args.decoder.now c.take_bytes.new.decoder (refuses-extra earlier extras st c.self.invariant stood c.args.decoder.now c.take_bytes.new.decoder refuses))

pub returns-clause-reads : goal.returns-clause-reads
returns-clause-reads c earlier extras h =
    let st : ExtraState = record { bank = c.self.inside.bank; last = c.self.inside.last.items } in
    let stood : ExtraStands earlier extras st = subst (λ (s : ExtraState). ExtraStands earlier extras s) (sym c.self.view_is) h in
    let n = length st.last in
    let bytes = c.take_bytes.new.part in
    let row = row_at (all_marked n) 0 st.bank in
    let r = subst (λ (l : List ℕ). (xs : List ℕ) × Takes (AreAsked next_row IsNextByte (row_at (all_marked (length l)) 0 st.bank) (length l)) (all_cuts next_row next_cuts (row_at (all_marked (length l)) 0 st.bank)) c.args.decoder.now c.take_bytes.new.decoder xs × (bytes ≡ extra_made l xs) × (c.take_bytes.new.bank ≡ (state_after next_row (row_at (all_marked (length l)) 0 st.bank) xs).bank)) c.deref.ensures.value c.in_ok-take_bytes.ensures.reads in
    let long : length bytes ≡ n = c.take_bytes.auto.part ∙ (c.requires.part ∙ ap (λ (s : ExtraState). length s.last) (sym c.self.view_is)) in
    let read = reads-extra earlier extras st c.self.invariant stood c.args.decoder.now c.take_bytes.new.decoder r.0 bytes c.take_bytes.new.bank r.1 r.2 long r.3 in
    subst (λ (l : List ℕ). ReadsExtra earlier extras bytes c.args.decoder.now c.take_bytes.new.decoder (record { bank = c.take_bytes.new.bank; last = l })) (sym c.copy_from_slice.ensures.items) read

pub returns-clause-only : goal.returns-clause-only
returns-clause-only c earlier extras h sizes has before =
    let r = returns-clause-reads c earlier extras h in
    let long : length c.args.part.now ≡ length (latest_extra extras) = c.requires.part ∙ ap length h.last in
    let fits = subst (λ (k : ℕ). HasExtraSizes sizes k) long has in
    one-extra sizes earlier before extras fits c.args.decoder.now c.take_bytes.new.decoder (r.events, c.take_bytes.new.part) r.takes
