-- What stands at the two places of a vertex.
use Prim.Native.Nat.{ℕ, ◌+◌, ◌*◌, ◌%◌, ◌<◌}
use mathlib.Core.Path.{◌≡◌, ap}
use mathlib.Core.List.{List}
use native.Mathlib.Omega.{arith}
use borrow.Author.Tests.{eq-eqb, ne_eqb}
use lib.Ieee.{Float}
use lib.ListN.{set, length}
use Rattle.lists.specs.Laws.Tables.{stored, stored_more}
use Rattle.pixels.specs.Edge.{hedge, vedge}
use Rattle.grids.specs.Grid.{sample}
use Rattle.velocity.specs.Velocity.{point_at, velocity_at}

module _ (w h : ℕ) (hs vs xy : List Float) (v : ℕ) where
  pub x_place : velocity_at w h hs vs xy (2 * v) ≡ sample vedge w h vs (point_at xy v)
  unfolding velocity_at
  x_place = rw (eq-eqb (2 * v % 2) 0 (omega arith)) (ap (λ (k : ℕ). sample vedge w h vs (point_at xy k)) (omega arith))

  pub y_place : velocity_at w h hs vs xy (2 * v + 1) ≡ sample hedge w h hs (point_at xy v)
  unfolding velocity_at
  y_place = rw (ne_eqb ((2 * v + 1) % 2) 0 (λ z. omega arith)) (ap (λ (k : ℕ). sample hedge w h hs (point_at xy k)) (omega arith))

-- two stores, one after the other
pub two_more : {A : Type 0} (f : ℕ → A) (old : List A) (v : ℕ) {cur : List A} (a b : A) → 2 * v + 1 < length old → cur ≡ stored f old (2 * v) → a ≡ f (2 * v) → b ≡ f (2 * v + 1)
    → set (set cur (2 * v) a) (2 * v + 1) b ≡ stored f old (2 * (v + 1))
two_more f old v {cur} a b h e ea eb =
    rw (e, ea, stored_more f old (2 * v) (omega arith), eb, stored_more f old (2 * v + 1) h) (ap (stored f old) (omega arith))
