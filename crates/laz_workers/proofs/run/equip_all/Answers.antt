use Rattle.std.proofs.Common.{◌≡◌, ℕ, ◌+◌, ◌<◌, ◌≤◌, List, [], ◌∷◌, ◌++◌, length, get_or, set, sym, ap, ◌∙◌, subst, ⊎_elim, arith}
use Rattle.std.proofs.lemmas.List.{length-set, get_or_append_left, get_or-set_same, get_or-set_other, get_or_push, get_or_read}
use Rattle.std.proofs.lemmas.Bool.{cases_eq}
use Rattle.laz_workers.specs.Run.{equipped}
use Rattle.laz_workers.proofs.run.equip_all.Goals as goal

-- from the last place to the first: the element at place i is written, and those after it were written before
done_more : {X P : Type 0} (f : X → P → X) (hands old : List X) (passes start : List P) (i : ℕ) (x here : X) (p : P)
    → i < length hands → length passes ≡ i → here ≡ get_or hands i here → x ≡ f here p → ((k : ℕ) (d : X) → k < i + 1 → get_or hands k d ≡ get_or old k d) → ((k : ℕ) (e : P) → k < i + 1 → get_or (passes ++ p ∷ []) k e ≡ get_or start k e)
    → ((k : ℕ) (d : X) (e : P) → i + 1 ≤ k → k < length hands → get_or hands k d ≡ f (get_or old k d) (get_or start k e)) → (k : ℕ) (d : X) (e : P) → i ≤ k → k < length hands → get_or (set hands i x) k d ≡ f (get_or old k d) (get_or start k e)
done_more {X} {P} f hands old passes start i x here p lt count at is behind same done k d e le in_hands =
    let Done : ℕ → Type 0 = λ j. get_or (set hands i x) j d ≡ f (get_or old j d) (get_or start j e) in
    let hand : here ≡ get_or old i d = get_or_read hands i here lt at d ∙ behind i d (omega arith) in
    let pass : p ≡ get_or start i e = sym (get_or_push passes p e i count) ∙ same i e (omega arith) in
    let written : get_or (set hands i x) i d ≡ f (get_or old i d) (get_or start i e) = get_or-set_same hands i x d lt ∙ (is ∙ (λ j. f (hand j) (pass j))) in
    ⊎_elim
    (λ (q : k ≡ i). subst Done (sym q) written)
    (λ (q : k ≡ i → ⊥). let further : i + 1 ≤ k = omega (arith, le, q) in get_or-set_other hands i k x d q ∙ done k d e further in_hands)
    (cases_eq k i)

pub loop-pass-preserved : goal.loop-pass-preserved
loop-pass-preserved g c =
    let before = c.loop-pass.hands in
    let inv = c.loop-pass.invariant in
    let rest = c.pop.new.self in
    let i = c.len.result in
    let hand = c.equip.new.hand in
    let pass = c.in-Some.pass in
    let less : rest.len + 1 ≡ c.loop-pass.passes.len = c.in-Some.ensures.cases in
    let at : i ≡ rest.len = c.len.ensures in
    let count : length rest.items ≡ i = sym rest.ok.0 ∙ sym at in
    let here : i < length before = omega (arith, inv.left, less, at) in
    let kept = length-set before i hand in
    let same = λ (k : ℕ) (e : _) (lt : k < i + 1). ap (λ l. get_or l k e) (sym c.in-Some.ensures.items) ∙ inv.passes k e (omega (arith, lt, less, at)) in
    let behind = λ (k : ℕ) (d : _) (lt : k < i + 1). inv.behind k d (omega (arith, lt, less, at)) in
    let done = λ (k : ℕ) (d : _) (e : _) (le : i + 1 ≤ k) (lt : k < length before). inv.done k d e (omega (arith, le, less, at)) lt in
    let is : hand ≡ equipped c.index-hands-len.result pass = c.equip.ensures ∙ ap (λ h. equipped h pass) (sym c.index-hands-len.is) in
    record {
      left = omega (arith, inv.left, less, kept);
      same_length = kept ∙ inv.same_length;
      passes = λ k e lt. sym (get_or_append_left rest.items (pass ∷ []) e k (omega (arith, lt, rest.ok.0))) ∙ same k e (omega (arith, lt, at));
      behind = λ k d lt. get_or-set_other before i k hand d (omega (arith, lt, at)) ∙ behind k d (omega (arith, lt, at));
      done = λ k d e le lt. done_more equipped before c.args.hands.now rest.items c.args.passes.now.items i hand c.index-hands-len.result pass here count c.index-hands-len.is is behind same done k d e (omega (arith, le, at)) (omega (arith, lt, kept));
      capacity = c.in-Some.ensures.capacity ∙ inv.capacity;
    }

pub returns-clause-hands : goal.returns-clause-hands
returns-clause-hands g c k d e lt =
    let inv = c.loop-pass.invariant in
    inv.done k d e (omega (arith, c.in_default.ensures.cases.0)) (omega (arith, lt, inv.same_length))

pub returns-clause-passes : goal.returns-clause-passes
returns-clause-passes g c = (c.in_default.ensures.cases.1, c.in_default.ensures.capacity ∙ c.loop-pass.invariant.capacity)

pub bounds-hands-len : goal.bounds-hands-len
bounds-hands-len g c = omega (arith, c.loop-pass.invariant.left, c.in-Some.ensures.cases, c.len.ensures)

pub loop-pass-smaller : goal.loop-pass-smaller
loop-pass-smaller g c = omega (arith, c.in-Some.ensures.cases)
