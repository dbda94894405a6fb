-- What the corners in one column tell of the pixels before it and after it.
use Rattle.std.specs.Prelude.{ℕ, ◌+◌, ◌≤◌, ◌<◌, ◌≡◌, refl, Bool, true, false, Float}
use Rattle.std.specs.Float.Ieee.{le}
use Rattle.std.proofs.Common.{arith}
use Rattle.std.proofs.Math.Bool.{and-false}
use Rattle.lists.specs.Laws.Tests.{both, after_yes}
use Rattle.rounding.specs.Order.{le_lt, lt_le}
use Rattle.geometry.specs.Arith.{floats}
use Rattle.pixels.specs.Pixel.{pixel}
use Rattle.outlines.specs.Formula.{Ends}
use Rattle.outlines.specs.Covered.{side_of, above_at, below_at, parts_corners, covers}
use Rattle.outline_spans.specs.Course.{Falls, Rises}
use Rattle.outline_spans.specs.Narrowed.{NoneBefore, NoneFrom}

module _ (e : Ends Float) where
  -- a pixel with all its corners on one side
  all_above : (x y : ℕ) → above_at e x y ≡ true → above_at e (x + 1) y ≡ true → covers e (pixel x y) ≡ false
  unfolding covers parts_corners
  all_above x y p q = rw (p, q, and-false, and-false) refl

  all_below : (x y : ℕ) → below_at e x y ≡ true → below_at e (x + 1) y ≡ true → covers e (pixel x y) ≡ false
  unfolding covers parts_corners
  all_below x y p q = rw (p, q, and-false, and-false, and-false) refl

  -- corners whose sides are no less than those of corners above, and no greater than those of corners below
  above_too : (i j y : ℕ) → le (side_of e i y) (side_of e j y) ≡ true → le (side_of e i (y + 1)) (side_of e j (y + 1)) ≡ true → above_at e i y ≡ true
      → above_at e j y ≡ true
  unfolding above_at
  above_too i j y p q a =
      let t = both _ _ a in
      after_yes (lt_le floats.zero (side_of e i y) (side_of e j y) t.0 p) (lt_le floats.zero (side_of e i (y + 1)) (side_of e j (y + 1)) t.1 q)

  below_too : (i j y : ℕ) → le (side_of e j y) (side_of e i y) ≡ true → le (side_of e j (y + 1)) (side_of e i (y + 1)) ≡ true → below_at e i y ≡ true
      → below_at e j y ≡ true
  unfolding below_at
  below_too i j y p q b =
      let t = both _ _ b in
      after_yes (le_lt (side_of e j y) (side_of e i y) floats.zero p t.0) (le_lt (side_of e j (y + 1)) (side_of e i (y + 1)) floats.zero q t.1)

  module _ (w h x y : ℕ) (within : x ≤ w) (row : y < h) where
    -- corners on one side all the way back, or on, leave out the pixels between them
    before_by : (test : ℕ → Bool) → ((i : ℕ) → test i ≡ true → test (i + 1) ≡ true → covers e (pixel i y) ≡ false) → ((i : ℕ) → i ≤ x → test i ≡ true)
        → NoneBefore (λ i. covers e (pixel i y)) w x
    before_by test out back = record { missed = λ i b d l. out i (back i (omega arith)) (back (i + 1) (omega arith)) }

    from_by : (test : ℕ → Bool) → ((i : ℕ) → test i ≡ true → test (i + 1) ≡ true → covers e (pixel i y) ≡ false) → ((i : ℕ) → x ≤ i → i ≤ w → test i ≡ true)
        → NoneFrom (λ i. covers e (pixel i y)) w x
    from_by test out on = record { missed = λ i b d l. out i (on i l (omega arith)) (on (i + 1) (omega arith) (omega arith)) }

    module _ (falls : Falls e w h) where
      pub falling_before : above_at e x y ≡ true → NoneBefore (λ i. covers e (pixel i y)) w x
      falling_before a =
          before_by (λ i. above_at e i y) (λ i. all_above i y) (λ i l. above_too x i y (falls i x y l within (omega arith)) (falls i x (y + 1) l within (omega arith)) a)

      pub falling_from : below_at e x y ≡ true → NoneFrom (λ i. covers e (pixel i y)) w x
      falling_from b =
          from_by (λ i. below_at e i y) (λ i. all_below i y) (λ i l m. below_too x i y (falls x i y l m (omega arith)) (falls x i (y + 1) l m (omega arith)) b)

    module _ (rises : Rises e w h) where
      pub rising_before : below_at e x y ≡ true → NoneBefore (λ i. covers e (pixel i y)) w x
      rising_before b =
          before_by (λ i. below_at e i y) (λ i. all_below i y) (λ i l. below_too x i y (rises i x y l within (omega arith)) (rises i x (y + 1) l within (omega arith)) b)

      pub rising_from : above_at e x y ≡ true → NoneFrom (λ i. covers e (pixel i y)) w x
      rising_from a =
          from_by (λ i. above_at e i y) (λ i. all_above i y) (λ i l m. above_too x i y (rises x i y l m (omega arith)) (rises x i (y + 1) l m (omega arith)) a)
