use Rattle.std.proofs.Common.{◌≡◌, List, [], ◌∷◌, ◌++◌, ℕ, length, ap, refl, sym, subst, ◌∙◌}
use Rattle.laz_range.specs.Choice.{all_cuts, state_after}
use Rattle.laz_range.specs.Coding.{Codes}
use Rattle.laz_rgb.specs.Rows.{AreRowModels, next_cuts, next_row, row_at}
use Rattle.laz_rgb.specs.Extra.{all_marked, extra_events, extra_symbols}
use Rattle.laz_rgb.specs.Items.{ExtraStands, ExtraState, latest_extra}
use Rattle.laz_rgb.proofs.Extras.{codes-extra, stands-extra}
use Rattle.laz_rgb.proofs.Walks.{sized-rows}
use Rattle.laz_rgb.proofs.bytes.Bytes.code.Goals as goal

pub put_bytes-requires-clause-models : goal.put_bytes-requires-clause-models
put_bytes-requires-clause-models c =
    let last = c.self.inside.last.items in
    subst (λ (l : List ℕ). AreRowModels (length l) 0 c.self.inside.bank) (sym c.deref.ensures.value) (sized-rows (length last) 0 c.self.inside.bank [] c.self.invariant.sizes refl)

pub returns-clause-events : goal.returns-clause-events
returns-clause-events c earlier extras h =
    let st : ExtraState = record { bank = c.self.inside.bank; last = c.self.inside.last.items } in
    let stood : ExtraStands earlier extras st = subst (λ (s : ExtraState). ExtraStands earlier extras s) (sym c.self.view_is) h in
    let long : length c.args.part.now ≡ length st.last = c.requires.part ∙ ap (λ (s : ExtraState). length s.last) (sym c.self.view_is) in
    let codes = subst (λ (l : List ℕ). Codes c.args.encoder.now c.put_bytes.new.encoder (all_cuts next_row next_cuts (row_at (all_marked (length l)) 0 st.bank) (extra_symbols l c.args.part.now))) c.deref.ensures.value c.put_bytes.ensures.codes in
    codes-extra earlier extras st c.self.invariant stood c.args.part.now c.args.encoder.now c.put_bytes.new.encoder long codes

pub returns-clause-stands : goal.returns-clause-stands
returns-clause-stands c earlier extras h =
    let st : ExtraState = record { bank = c.self.inside.bank; last = c.self.inside.last.items } in
    let stood : ExtraStands earlier extras st = subst (λ (s : ExtraState). ExtraStands earlier extras s) (sym c.self.view_is) h in
    let long : length c.args.part.now ≡ length st.last = c.requires.part ∙ ap (λ (s : ExtraState). length s.last) (sym c.self.view_is) in
    let next = subst (λ (l : List ℕ). c.put_bytes.new.bank ≡ (state_after next_row (row_at (all_marked (length l)) 0 st.bank) (extra_symbols l c.args.part.now)).bank) c.deref.ensures.value c.put_bytes.ensures.next in
    let stands = stands-extra earlier extras st c.self.invariant stood c.args.part.now c.put_bytes.new.bank long next in
    subst (λ (l : List ℕ). ExtraStands (earlier ++ extra_events (latest_extra extras) c.args.part.now) (c.args.part.now ∷ extras) (record { bank = c.put_bytes.new.bank; last = l })) (sym c.copy_from_slice.ensures.items) stands
