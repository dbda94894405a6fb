-- Four rows of a column: those past the end are not visited, and those before it that are left out would have changed nothing.
use Prim.Native.Nat.{ℕ, ◌+◌, ◌*◌, ◌-◌, ◌≤◌, ◌<◌}
use mathlib.Core.Path.{◌≡◌, refl, sym, ap, ◌∙◌}
use mathlib.Core.Bool.{Bool, true, false, ◌||◌, cond, false≢true}
use mathlib.Core.Logic.{◌⊎◌, inl, inr}
use mathlib.Core.List.{List, [], ◌∷◌}
use native.Mathlib.Omega.{arith}
use lib.Ieee.{Float, lt, le}
use Rattle.geometry.specs.Vector.{Vec3, vec2, Triangle}
use Rattle.offers.specs.Offer.{lowest}
use Rattle.questions.specs.Laws.{Sized}
use Rattle.cells.specs.Cell.{Cell}
use Rattle.cells.specs.Layer.{Layer, at}
use Rattle.cells.specs.Steps.{Spans}
use Rattle.cells.proofs.Laws.Put.{never_greater}
use Rattle.pixels.specs.Pixel.{centre}
use Rattle.rules.specs.Scan.{depth_at}
use Rattle.rules.specs.Visits.{visited}
use Rattle.lanes.specs.Answer.{or_lowest}
use Rattle.lists.specs.Laws.Tests.{below_or}
use Rattle.blocks.specs.Rows.{depth_cells, rows_down, up_to}
use Rattle.blocks.specs.Greater.{if_greater, two_if_greater, four_if_greater}
use Rattle.blocks.proofs.Centres.{centre-before, centre-after}
use Rattle.blocks.proofs.Down.{rows_none, rows-one}
use Rattle.blocks.proofs.One.{not_greater}
use Rattle.blocks.proofs.Going.{up_to_is, up_to_end, Going, going_first, going_next}

-- ---- none of four can be greater

module _ (os : ℕ → List Cell) where
  left_out : (p : ℕ) (z : Float) (l : Layer) → lt lowest z ≡ false → l ≡ if_greater os p z l
  unfolding if_greater
  left_out p z l e = rw (never_greater z e (at l p).depth)

  pub four_left_out : (w ix iy : ℕ) (z0 z1 z2 z3 : Float) (l : Layer) → lt lowest z0 || (lt lowest z1 || (lt lowest z2 || lt lowest z3)) ≡ false → l ≡ four_if_greater os w ix iy z0 z1 z2 z3 l
  unfolding four_if_greater two_if_greater
  four_left_out w ix iy z0 z1 z2 z3 l e = go (lt lowest z0) refl (lt lowest z1) refl (lt lowest z2) refl (lt lowest z3) refl e
    where
      go :
          (b0 : Bool) → lt lowest z0 ≡ b0 → (b1 : Bool) → lt lowest z1 ≡ b1 → (b2 : Bool) → lt lowest z2 ≡ b2 → (b3 : Bool) → lt lowest z3 ≡ b3
          → b0 || (b1 || (b2 || b3)) ≡ false → l ≡ four_if_greater os w ix iy z0 z1 z2 z3 l
      go true e0 b1 e1 b2 e2 b3 e3 f = absurd (false≢true (sym f))
      go false e0 true e1 b2 e2 b3 e3 f = absurd (false≢true (sym f))
      go false e0 false e1 true e2 b3 e3 f = absurd (false≢true (sym f))
      go false e0 false e1 false e2 true e3 f = absurd (false≢true (sym f))
      go false e0 false e1 false e2 false e3 f =
          left_out (iy * w + ix) z0 l e0 ∙ left_out ((iy + 1) * w + ix) z1 _ e1 ∙ left_out ((iy + 2) * w + ix) z2 _ e2 ∙ left_out ((iy + 2 + 1) * w + ix) z3 _ e3

-- ---- a row with its mask, and four

module _ (counted : Float → Bool) (s : Triangle (Vec3 Float)) (k w h ix y1 : ℕ) (size : Sized 1 w h) (inside : ix < w) (most : y1 ≤ h) (some : 0 < y1) {qx end : Float} (ex : qx ≡ centre ix) (ee : end ≡ centre (y1 - 1)) where
  masked_done :
      (l : Layer) (i : ℕ) {q z m : Float}
      → i < h
      → q ≡ centre i
      → z ≡ or_lowest (depth_at counted s (vec2 qx q))
      → m ≡ cond (le q end) z lowest
      → if_greater (depth_cells counted s k w) (i * w + ix) m l ≡ visited (depth_cells counted s k w) (rows_down w ix (up_to y1 i) (up_to y1 (i + 1))) l
  unfolding if_greater visited lt
  masked_done l i {q} {z} {m} below eq ez em = go (below_or i y1)
    where
      here : (i < y1) → (t : Bool) → lt (at l (i * w + ix)).depth z ≡ t → cond (lt (at l (i * w + ix)).depth z) (visited (depth_cells counted s k w) ((i * w + ix) ∷ []) l) l ≡ visited (depth_cells counted s k w) ((i * w + ix) ∷ []) l
      here b true f = rw f
      here b false f = rw f (not_greater counted s k w ix i l inside ex eq ez f)

      go : (i < y1) ⊎ (y1 ≤ i) → if_greater (depth_cells counted s k w) (i * w + ix) m l ≡ visited (depth_cells counted s k w) (rows_down w ix (up_to y1 i) (up_to y1 (i + 1))) l
      go (inl b) =
          rw (up_to_is y1 i (omega arith), up_to_is y1 (i + 1) (omega arith), rows-one w ix i)
          (ap (λ (x : Float). if_greater (depth_cells counted s k w) (i * w + ix) x l) (em ∙ rw (eq, ee, centre-before i y1 b (omega (arith, size.h_most)))) ∙ here b (lt (at l (i * w + ix)).depth z) refl)
      go (inr b) =
          rw (up_to_end y1 i b, up_to_end y1 (i + 1) (omega arith), rows_none w ix y1 y1 (omega arith))
          (ap (λ (x : Float). if_greater (depth_cells counted s k w) (i * w + ix) x l) (em ∙ rw (eq, ee, centre-after i y1 some b (omega (arith, size.h_most)))) ∙ sym (left_out (depth_cells counted s k w) (i * w + ix) lowest l refl))

  -- one row more
  abbrev Rows : ℕ → Layer → Layer → ℕ → Type 0
  Rows a l cur i = Going (depth_cells counted s k w) w (w * h) ix a y1 l cur i

  row_next :
      (a : ℕ) (l cur : Layer) (i j : ℕ) {q z m : Float}
      → a ≤ y1
      → j ≡ i + 1
      → Rows a l cur i
      → i < h
      → q ≡ centre i
      → z ≡ or_lowest (depth_at counted s (vec2 qx q))
      → m ≡ cond (le q end) z lowest
      → Rows a l (if_greater (depth_cells counted s k w) (i * w + ix) m cur) j
  row_next a l cur i j am ej g below eq ez em =
      rw ej (going_next (depth_cells counted s k w) w (w * h) ix a y1 l am cur _ i (i + 1) (omega arith) g (masked_done cur i below eq ez em))

  -- the four rows of a block
  pub four_done :
      (l : Layer) (iy : ℕ) {new : Layer} {q0 q1 q2 q3 z0 z1 z2 z3 m0 m1 m2 m3 : Float}
      → Spans l (w * h)
      → iy + 4 ≤ h
      → iy < y1
      → q0 ≡ centre iy
      → q1 ≡ centre (iy + 1)
      → q2 ≡ centre (iy + 2)
      → q3 ≡ centre (iy + 3)
      → z0 ≡ or_lowest (depth_at counted s (vec2 qx q0))
      → z1 ≡ or_lowest (depth_at counted s (vec2 qx q1))
      → z2 ≡ or_lowest (depth_at counted s (vec2 qx q2))
      → z3 ≡ or_lowest (depth_at counted s (vec2 qx q3))
      → m0 ≡ cond (le q0 end) z0 lowest
      → m1 ≡ cond (le q1 end) z1 lowest
      → m2 ≡ cond (le q2 end) z2 lowest
      → m3 ≡ cond (le q3 end) z3 lowest
      → new ≡ four_if_greater (depth_cells counted s k w) w ix iy m0 m1 m2 m3 l
      → new ≡ visited (depth_cells counted s k w) (rows_down w ix iy (up_to y1 (iy + 4))) l
  unfolding four_if_greater two_if_greater
  four_done l iy whole room below e0 e1 e2 e3 f0 f1 f2 f3 g0 g1 g2 g3 e =
      let am : iy ≤ y1 = omega arith in
      let r0 = going_first (depth_cells counted s k w) w (w * h) ix iy y1 l am whole in
      let r1 = row_next iy l l iy (iy + 1) am refl r0 (omega arith) e0 f0 g0 in
      let r2 = row_next iy l _ (iy + 1) (iy + 2) am (omega arith) r1 (omega arith) e1 f1 g1 in
      let r3 = row_next iy l _ (iy + 2) (iy + 2 + 1) am refl r2 (omega arith) e2 f2 g2 in
      let third : iy + 3 ≡ iy + 2 + 1 = omega arith in
      let r4 = row_next iy l _ (iy + 2 + 1) (iy + 4) am (omega arith) r3 (omega arith) (e3 ∙ ap centre third) f3 g3 in
      e ∙ r4.is
