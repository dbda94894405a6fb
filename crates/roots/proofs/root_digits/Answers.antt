-- `roots::root_digits` meets its contract: each turn takes two digits of m and finds one of the root. Assumes nothing.
use mathlib.Core.Path.{◌≡◌, subst}
use Prim.Native.Nat.{ℕ, ◌*◌, ◌/◌, ◌^◌, ◌≤◌, ◌<◌}
use native.Mathlib.Omega.{arith}
use Rattle.roots.proofs.Whole.{IsRoot, Turned, turned_lt, turned-root, turn_one, turn-zero, root_unique, whole_root_is}
use Rattle.roots.proofs.root_digits.Goals.{then-next-rest, else-next-rest}
use Rattle.roots.proofs.root_digits.Goals as goal

-- in a turn r has 54 digits at most, and two bits of m follow
small : {m i left rest r n : ℕ} → Turned m i left rest r → i < n → n ≤ 54 → r < 2 ^ 54
small t h k = turned_lt _ _ _ _ _ t (omega arith)

joined : {m i left rest rest' r r' : ℕ} → rest' ≡ rest → r' ≡ r → Turned m i left rest r → Turned m i left rest' r'
joined e f t = rw (e, f) t

pub overflow_mul-rest : goal.overflow_mul-rest
overflow_mul-rest c =
    record { fits = omega (arith, small c.loop-i.invariant c.loop-i-test.true c.requires, c.loop-i.invariant.within) }

pub overflow_add-rest : goal.overflow_add-rest
overflow_add-rest c =
    let t = c.loop-i.invariant in
    record { fits = omega (arith, small t c.loop-i-test.true c.requires, t.within, t.digits) }

pub overflow_mul-next : goal.overflow_mul-next
overflow_mul-next c = record { fits = omega (arith, small c.loop-i.invariant c.loop-i-test.true c.requires) }

pub overflow_add-next : goal.overflow_add-next
overflow_add-next c = record { fits = omega (arith, small c.loop-i.invariant c.loop-i-test.true c.requires) }

pub loop-i-preserved : goal.loop-i-preserved
loop-i-preserved c =
    let t = c.loop-i.invariant in
    elim c.if-next-rest.branch [
      | then-next-rest w ↦ joined w.rest-is w.r-is (turn_one _ _ _ _ _ t w.if-next-rest.true)
      | else-next-rest w ↦ joined w.rest-is w.r-is (turn-zero _ _ _ _ _ t w.if-next-rest.false)
    ]

pub returns : goal.returns
returns c =
    root_unique
    (subst (λ (i : ℕ). IsRoot (c.args.m * 4 ^ i / 2 ^ 64) c.loop-i.r) (omega arith) (turned-root _ _ _ _ _ c.loop-i.invariant))
    (whole_root_is _)
