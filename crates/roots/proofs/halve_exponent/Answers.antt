-- `roots::halve_exponent` meets its contract: each i32 on the way is held as a natural number, 4096 above it. Assumes nothing.
use Prim.Native.Nat.{ℕ, ◌+◌, ◌-◌, ◌*◌, ◌/◌, ◌%◌, ◌<◌}
use native.Mathlib.Omega.{arith}
use lib.IntN.{ℤ, ◌+ℤ◌, ◌-ℤ◌}
use lib.Signed.{shr_z}
use mir.Syntax.{w32}
use mir.Val.{to_z, of_z}
use Rattle.roots.proofs.Signed.{Result, Unsigned, number, plus, minus, half, unsigned}
use Rattle.roots.proofs.halve_exponent.Goals as goal

-- a result that is read back
abbrev back : ℤ → ℤ
back z = to_z w32 (of_z w32 z)

module _ (k z p l : ℕ) (asked : (k < 2048) × (z < 64) × (p < 54) × (l < 2048) × (2 * p < l)) where
  abbrev E : ℤ
  E = to_z w32 k -ℤ to_z w32 (l + z)

  abbrev H : ℤ
  H = shr_z (back (back E +ℤ to_z w32 1)) 2

  abbrev e : ℕ
  e = k + 4096 - (l + z)

  abbrev h : ℕ
  h = (e + 1 + 4096) / 2

  at-e : Result E e
  at-e = minus (number k (omega arith)) (number (l + z) (omega arith)) e (omega arith) (omega arith)

  at_next : Result (back E +ℤ to_z w32 1) (e + 1)
  at_next = plus at-e.held (number 1 (omega arith)) (e + 1) (omega arith) (omega arith)

  at-half : Result H h
  at-half = half at_next.held

  at_twice : Result (back H +ℤ back H) (h + h - 4096)
  at_twice = plus at-half.held at-half.held (h + h - 4096) (omega arith) (omega arith)

  at_odd : Result (back (back H +ℤ back H) -ℤ back E) (e % 2 + 4096)
  at_odd = minus at_twice.held at-e.held (e % 2 + 4096) (omega arith) (omega arith)

  at-dropped : Result (back H +ℤ to_z w32 (l + 32 - p)) (h + (l + 32 - p))
  at-dropped = plus at-half.held (number (l + 32 - p) (omega arith)) (h + (l + 32 - p)) (omega arith) (omega arith)

  odd_is : Unsigned (of_z w32 (back (back H +ℤ back H) -ℤ back E)) (e % 2)
  odd_is = unsigned at_odd.held (e % 2) (omega arith)

  dropped_is : Unsigned (of_z w32 (back H +ℤ to_z w32 (l + 32 - p))) (h + (l + 32 - p) - 4096)
  dropped_is = unsigned at-dropped.held (h + (l + 32 - p) - 4096) (omega arith)

pub overflow_sub-e : goal.overflow_sub-e
overflow_sub-e c = (at-e c.args.k c.args.z c.args.f.digits c.args.f.least c.requires).fit

pub overflow_add-half : goal.overflow_add-half
overflow_add-half c = (at_next c.args.k c.args.z c.args.f.digits c.args.f.least c.requires).fit

pub overflow_add-odd : goal.overflow_add-odd
overflow_add-odd c = (at_twice c.args.k c.args.z c.args.f.digits c.args.f.least c.requires).fit

pub overflow_sub-odd : goal.overflow_sub-odd
overflow_sub-odd c = (at_odd c.args.k c.args.z c.args.f.digits c.args.f.least c.requires).fit

pub overflow_add-dropped-2 : goal.overflow_add-dropped-2
overflow_add-dropped-2 c = (at-dropped c.args.k c.args.z c.args.f.digits c.args.f.least c.requires).fit

pub overflow_cast-result : goal.overflow_cast-result
overflow_cast-result c =
    let r = odd_is c.args.k c.args.z c.args.f.digits c.args.f.least c.requires in
    (r.sign, record { fits = omega (arith, r.is) })

pub overflow_cast-result-2 : goal.overflow_cast-result-2
overflow_cast-result-2 c =
    let r = dropped_is c.args.k c.args.z c.args.f.digits c.args.f.least c.requires in
    (r.sign, record { fits = omega (arith, r.is) })

pub returns : goal.returns
returns c =
    let odd = (odd_is c.args.k c.args.z c.args.f.digits c.args.f.least c.requires).is in
    let dropped = (dropped_is c.args.k c.args.z c.args.f.digits c.args.f.least c.requires).is in
    record { bit = omega (arith, odd); half = omega (arith, odd, dropped) }
