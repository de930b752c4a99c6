use Rattle.std.proofs.Common.{◌≡◌, ℕ, zero, suc, ◌+◌, ◌-◌, ◌<◌, true, false, List, [], ◌∷◌, All, length, sym, ap, ◌∙◌, subst, arith}
use Rattle.std.specs.Prelude.{slice_index_or}
use Rattle.std.proofs.lemmas.List.Elements.{All-push}
use Rattle.laz_workers.specs.Seen.{ClaimsSeen, PassSeen, opening_pass, split_pass}
use Rattle.laz_workers.specs.Run.{Dealt}
use Rattle.laz_workers.proofs.claims.Claims.deal.Goals as goal

-- the opening pass before those that were split from it
dealt : (claims : ClaimsSeen) (o : PassSeen) (ps : List PassSeen) → o ≡ record (opening_pass claims) { rest = o.rest; out = o.out } → o.out ≡ length ps → All (λ (p : PassSeen). p ≡ split_pass (opening_pass claims)) ps → Dealt claims (o ∷ ps)
dealt claims o ps is out split = record { fresh = fresh; opening = λ d. (ap (λ (p : PassSeen). p.opens) is, omega (arith, out)); split = others }
  where
    fresh : All (λ (p : PassSeen). (p.claims ≡ claims) × (p.drawn ≡ []) × (p.spent ≡ false)) (o ∷ ps)
    fresh zero d lt = (ap (λ (p : PassSeen). p.claims) is, ap (λ (p : PassSeen). p.drawn) is, ap (λ (p : PassSeen). p.spent) is)
    fresh (suc k) d lt =
        let e = split k d (omega (arith, lt)) in
        (ap (λ (p : PassSeen). p.claims) e, ap (λ (p : PassSeen). p.drawn) e, ap (λ (p : PassSeen). p.spent) e)

    others : (k : ℕ) (d : PassSeen) → 0 < k → k < length (o ∷ ps) → (slice_index_or (o ∷ ps) k d).opens ≡ false
    others zero d more lt = absurd (omega (arith, more))
    others (suc k) d more lt = ap (λ (p : PassSeen). p.opens) (split k d (omega (arith, lt)))

pub loop-preserved : goal.loop-preserved
loop-preserved c =
    let claims = c.args.self.now in
    let inv = c.loop.invariant in
    let old = c.loop.opening in
    let new = c.split.new.pass in
    let passes = c.loop.passes in
    let split = c.split.ensures.pass in
    let rest : new.rest ≡ old.rest - 1 = ap (λ (p : PassSeen). p.rest) split in
    let out : new.out ≡ old.out + 1 = ap (λ (p : PassSeen). p.out) split in
    let made : c.split.result ≡ split_pass (opening_pass claims) = c.split.ensures.split ∙ ap split_pass inv.opening in
    record {
      opening = split ∙ ((λ i. record { claims = (inv.opening i).claims; opens = (inv.opening i).opens; drawn = (inv.opening i).drawn; spent = (inv.opening i).spent; rest = old.rest - 1; out = old.out + 1 }) ∙ (λ i. record { claims = claims; opens = true; drawn = []; spent = false; rest = sym rest i; out = sym out i }));
      out = omega (arith, out, inv.out, c.push_reserved.ensures.len);
      count = omega (arith, inv.count, c.push_reserved.ensures.len);
      rest = omega (arith, rest, inv.rest, inv.end, c.loop-test.true);
      end = inv.end;
      split = subst (All (λ (p : PassSeen). p ≡ split_pass (opening_pass claims))) (sym c.push_reserved.ensures.items) (All-push (λ (p : PassSeen). p ≡ split_pass (opening_pass claims)) passes.items c.split.result inv.split made);
      capacity = omega (arith, inv.capacity, c.push_reserved.ensures.capacity);
      kept = omega (arith, inv.kept, c.push_reserved.ensures.capacity);
    }

pub returns-clause-ok : goal.returns-clause-ok
returns-clause-ok c =
    let claims = c.args.self.now in
    let inv = c.loop.invariant in
    let passes = c.loop.passes in
    let out : c.loop.opening.out ≡ length passes.items = inv.out ∙ passes.ok.0 in (
      omega (arith, c.in-Ok.ensures.len, inv.count, inv.end, c.loop-test.false, c.loop.auto.counter-end),
      subst (Dealt claims) (sym c.in-Ok.ensures.items) (dealt claims c.loop.opening passes.items inv.opening out inv.split),
    )
