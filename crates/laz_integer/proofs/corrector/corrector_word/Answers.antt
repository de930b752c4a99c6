use Rattle.std.proofs.Common.{◌≡◌, ◌+◌, ◌-◌, ◌*◌, ◌^◌, ◌%◌, ◌<◌, ◌≤◌, refl, arith}
use Rattle.std.proofs.lemmas.Nat.{one_shl}
use Rattle.laz_integer.proofs.Correctors.{choices-more, corrector-zero, corrector-most, corrector-upper, corrector-down, twice, power-le, up-mod, down-mod}
use Rattle.laz_integer.proofs.corrector.corrector_word.Goals as goal

pub returns-then-k-eq0 : goal.returns-then-k-eq0
returns-then-k-eq0 c p = rw (c.if-k-eq0.true, corrector-zero c.args.bits c.args.v) refl

pub returns-then-k-eq-MAX_BITS : goal.returns-then-k-eq-MAX_BITS
returns-then-k-eq-MAX_BITS c p = rw (c.if-k-eq-MAX_BITS.true, corrector-most c.args.bits c.args.v) refl

pub overflow_add-up : goal.overflow_add-up
overflow_add-up c =
    let some : 0 < c.args.k = omega (arith, c.if-k-eq0.false) in
    let small : c.args.k < 32 = omega (arith, c.if-k-eq-MAX_BITS.false, c.requires.width, c.requires.few) in
    let most : 2 ^ c.args.k ≤ 2 ^ 31 = power-le c.args.k 31 (omega arith) in
    omega (arith, most, rw (choices-more c.args.k some small) at c.requires.value)

pub returns-then-v-k : goal.returns-then-v-k
returns-then-v-k c p =
    let some : 0 < c.args.k = omega (arith, c.if-k-eq0.false) in
    let small : c.args.k < 32 = omega (arith, c.if-k-eq-MAX_BITS.false, c.requires.width, c.requires.few) in
    let high = rw (one_shl (c.args.k - 1) 32 (omega arith)) at c.if-v-k.true in
    rw (corrector-upper c.args.bits c.args.k c.args.v some small high) (up-mod p (c.args.v + 1) (2 ^ c.args.bits))

pub returns-else-v-k : goal.returns-else-v-k
returns-else-v-k c p =
    let some : 0 < c.args.k = omega (arith, c.if-k-eq0.false) in
    let small : c.args.k < 32 = omega (arith, c.if-k-eq-MAX_BITS.false, c.requires.width, c.requires.few) in
    let low = rw (one_shl (c.args.k - 1) 32 (omega arith)) at c.if-v-k.false in
    let power : 1 * 2 ^ c.args.k % 4294967296 ≡ 2 ^ c.args.k = one_shl c.args.k 32 small in
    let whole : 2 ^ c.args.k ≤ 2 ^ c.args.bits = power-le c.args.k c.args.bits c.requires.width in
    let middle : 2 ^ c.args.k ≡ 2 * 2 ^ (c.args.k - 1) = twice c.args.k some in
    let word : (c.args.v + (4294967296 - (2 ^ c.args.k - 1))) % 4294967296 ≡ 4294967296 - (2 ^ c.args.k - 1 - c.args.v) = omega (arith, power-le c.args.k 31 (omega arith)) in
    rw (corrector-down c.args.bits c.args.k c.args.v some small low, power, word) (down-mod p (2 ^ c.args.k - 1 - c.args.v) c.args.bits c.requires.few (omega arith))
