-- Whole numbers as floats rise, so the lines of an image stand in order along an edge's box.
use Rattle.std.specs.Prelude.{ℕ, ◌+◌, ◌≤◌, ◌<◌, ◌≡◌, refl, Bool, true, false, Float}
use Rattle.std.specs.Float.{binary32}
use Rattle.std.specs.Float.Ieee.{le, of_int}
use Rattle.std.specs.Float.Ieee.Bits.{is_true}
use Rattle.std.specs.Float.Ieee.Order.{round_mono}
use Rattle.std.specs.Float.Ieee.Scale.{finite}
use Rattle.std.proofs.Common.{sym, ◌∙◌, arith}
use Rattle.std.proofs.Math.Bool.{and-false}
use Rattle.std.proofs.lemmas.Bool.{false≢true}
use Rattle.rounding.specs.Order.{le_trans, between_finite}
use Rattle.pixels.specs.Pixel.{as_float}
use Rattle.outlines.specs.Covered.{meets_side}
use Rattle.outline_spans.specs.Narrowed.{NoneBefore, NoneFrom}

pub lines_rise : (i j : ℕ) → i ≤ j → le (as_float i) (as_float j) ≡ true
unfolding of_int
lines_rise i j h = is_true _ (round_mono binary32 i 1 j 1 (omega arith) (omega arith) (omega arith))

outermost_finite : (finite (as_float 0) ≡ true) × (finite (as_float 4096) ≡ true)
unfolding of_int
outermost_finite = (refl, refl)

pub line_finite : (i : ℕ) → i ≤ 4096 → finite (as_float i) ≡ true
line_finite i h = between_finite (as_float 0) (as_float i) (as_float 4096) outermost_finite.0 outermost_finite.1 (lines_rise 0 i (omega arith)) (lines_rise i 4096 h)

-- where the second of two tests fails, so does the first, of which it follows
not_then_not : {p q : Bool} → (p ≡ true → q ≡ true) → q ≡ false → p ≡ false
not_then_not {p = false} f e = refl
not_then_not {p = true} f e = absurd (false≢true (sym e ∙ f refl))

module _ (a b : Float) (n i : ℕ) (edge : Float) (is : edge ≡ as_float i) where
  pub none_before : le a edge ≡ false → le b edge ≡ false → NoneBefore (meets_side a b) n i
  unfolding meets_side
  none_before p q = record { missed = λ j h k l. rw (early a j l p, early b j l q) refl }
    where
      early : (m : Float) (j : ℕ) → j < i → le m edge ≡ false → le m (as_float (j + 1)) ≡ false
      early m j l e = not_then_not (λ t. le_trans m (as_float (j + 1)) (as_float i) t (lines_rise (j + 1) i (omega arith))) (rw is at e)

  pub none_from : le edge a ≡ false → le edge b ≡ false → NoneFrom (meets_side a b) n i
  unfolding meets_side
  none_from p q = record { missed = λ j h k l. rw (late a j l p, late b j l q, and-false) refl }
    where
      late : (m : Float) (j : ℕ) → i ≤ j → le edge m ≡ false → le (as_float j) m ≡ false
      late m j l e = not_then_not (le_trans (as_float i) (as_float j) m (lines_rise i j l)) (rw is at e)
