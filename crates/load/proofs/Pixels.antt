-- The pixels of a scan, counted by its columns and rows.
use Prim.Native.Nat.{ℕ, ◌+◌, ◌*◌, ◌/◌, ◌%◌, ◌≤◌}
use mathlib.Core.Path.{◌≡◌, sym, ap, ap₂, ◌∙◌}
use mathlib.Core.Bool.{Bool, ◌&&◌}
use mathlib.Core.List.{[], ◌∷◌}
use native.Mathlib.Nat.{add-zero, zero-mul}
use native.Mathlib.Omega.{arith}
use lib.Ieee.{Float}
use Rattle.lists.specs.Lists.{span, count, sum_of}
use Rattle.lists.specs.Laws.Sums.{sum_none, sum_more, count_same, count_most}
use Rattle.lists.specs.Laws.Tables.{length-tabulate}
use Rattle.geometry.specs.Vector.{Vec3, Triangle}
use Rattle.questions.specs.Laws.{Sized, area}
use Rattle.pixels.specs.Laws.{area_below, count_pixels}
use Rattle.rules.specs.Piece.{Piece}
use Rattle.rules.specs.Scan.{screened, scans}
use Rattle.rules.specs.Load.{piece_pixels}
use Rattle.rules.proofs.Laws.Load.{piece_most}
use Rattle.boxes.specs.Reach.{holds_centre}
use Rattle.boxes.proofs.Scans.{by_axes}

-- the columns, and the rows, that the scan of a piece on the screen holds
module _ (w h : ℕ) (s : Triangle (Vec3 Float)) where
  abbrev columns : ℕ
  columns = count (holds_centre s.p0.x s.p1.x s.p2.x) (span 0 w)

  abbrev rows : ℕ
  rows = count (holds_centre s.p0.y s.p1.y s.p2.y) (span 0 h)

module _ (w h : ℕ) (t : Piece) where
  -- the columns times the rows
  product : columns w h (screened w h t.corners) * rows w h (screened w h t.corners) ≡ piece_pixels w h t
  unfolding piece_pixels
  product =
      let s = screened w h t.corners in
      sym
      (count_same (λ p. scans s (p % w) (p / w)) (λ p. holds_centre s.p0.x s.p1.x s.p2.x (p % w) && holds_centre s.p0.y s.p1.y s.p2.y (p / w)) 0 0 (w * h)
      (λ p l. by_axes s w h ((0 + p) % w) ((0 + p) / w))
      ∙ count_pixels (holds_centre s.p0.x s.p1.x s.p2.x) (holds_centre s.p0.y s.p1.y s.p2.y) w h)

  -- as the code has them
  pub counted : {i j : ℕ} → i ≡ columns w h (screened w h t.corners) → j ≡ rows w h (screened w h t.corners) → i * j ≡ piece_pixels w h t
  counted e f = ap₂ ◌*◌ e f ∙ product

  pub no_columns : {i : ℕ} → i ≡ columns w h (screened w h t.corners) → i ≡ 0 → 0 ≡ piece_pixels w h t
  no_columns e none = sym (ap (λ (n : ℕ). n * rows w h (screened w h t.corners)) (sym e ∙ none) ∙ zero-mul _) ∙ product

-- which fits
pub product_fits : (f g : ℕ → Bool) {i j w h : ℕ} → Sized 1 w h → i ≡ count f (span 0 w) → j ≡ count g (span 0 h) → i * j ≤ 16777216
product_fits f g {i} {j} {w} {h} size e k =
    area_below {w = i} {h = j}
    (omega (arith, e, count_most f (span 0 w), length-tabulate (λ n. n) 0 w, size.w_most))
    (omega (arith, k, count_most g (span 0 h), length-tabulate (λ n. n) 0 h, size.h_most))

-- ---- none, one or two pieces

module _ (w h : ℕ) where
  pub sum_of_none : 0 ≡ sum_of (piece_pixels w h) []
  sum_of_none = sym (sum_none (piece_pixels w h))

  pub sum-of-one : (t : Piece) {r : ℕ} → r ≡ piece_pixels w h t → r ≡ sum_of (piece_pixels w h) (t ∷ [])
  sum-of-one t e = e ∙ sym (sum_more (piece_pixels w h) t [] ∙ ap (λ (n : ℕ). piece_pixels w h t + n) (sum_none (piece_pixels w h)) ∙ add-zero (piece_pixels w h t))

  pub sum_of_two : (t u : Piece) {r s : ℕ} → r ≡ piece_pixels w h t → s ≡ piece_pixels w h u → r + s ≡ sum_of (piece_pixels w h) (t ∷ u ∷ [])
  sum_of_two t u e f = ap₂ ◌+◌ e (sum-of-one u f) ∙ sym (sum_more (piece_pixels w h) t (u ∷ []))

  -- which fit
  pub two_fit : Sized 1 w h → (t u : Piece) {r s : ℕ} → r ≡ piece_pixels w h t → s ≡ piece_pixels w h u → r + s ≤ 33554432
  two_fit size t u e f = omega (arith, e, f, piece_most w h t, piece_most w h u, area 1 w h size)
