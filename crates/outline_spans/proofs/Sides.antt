-- The sides of an edge along a row of corners: a product with one factor that rises from column to column.
use Rattle.std.specs.Prelude.{ℕ, ◌≤◌, ◌≡◌, ◌⊎◌, refl, Bool, true, false, pos, Float, Some}
use Rattle.std.specs.Option.{ForSome}
use Rattle.std.specs.Float.{nan, inf, fin, binary32}
use Rattle.std.specs.Float.Ieee.{le, lt, of_bits, is_nan}
use Rattle.std.specs.Float.Ieee.Bits.{is_true}
use Rattle.std.specs.Float.Ieee.Scale.{finite}
use Rattle.std.specs.Float.Order as Std
use Rattle.std.proofs.Common.{arith, inl, inr}
use Rattle.std.proofs.lemmas.Bool.{false≢true}
use Rattle.lists.specs.Laws.Tests.{both}
use Rattle.rounding.specs.Finite.{finite_sub, finite_mul}
use Rattle.rounding.specs.Order.{le_of_lt, between_finite}
use Rattle.rounding.specs.Monotone.{sub_mono_left, sub_anti_right, mul_mono, mul_anti}
use Rattle.geometry.specs.Arith.{floats}
use Rattle.geometry.specs.Formula.{cross2}
use Rattle.pixels.specs.Pixel.{as_float}
use Rattle.outlines.specs.Formula.{Ends}
use Rattle.outlines.specs.Covered.{side_of}
use Rattle.outline_spans.specs.declared.course.Course.TheVariants.{Falling, Rising}
use Rattle.outline_spans.specs.Course.{stretched, ends_finite, Falls, Rises, Runs}
use Rattle.outline_spans.proofs.Lines.{lines_rise, line_finite}

abbrev nought : Float
nought = fin false 0 (pos 0)

below_nought : (k : Float) → finite k ≡ true → le nought k ≡ false → le k nought ≡ true
unfolding is_nan
below_nought nan h e = absurd (false≢true h)
below_nought (inf s) h e = absurd (false≢true h)
below_nought (fin s m d) h e = le_of_lt (fin s m d) nought (is_true _ (Std.lt_of_not-le nought (fin s m d) tt tt (rw e tt)))

fall_or_rise : (k : Float) → finite k ≡ true → (le nought k ≡ true) ⊎ (le k nought ≡ true)
fall_or_rise k h = go (le nought k) refl
  where
    go : (b : Bool) → le nought k ≡ b → (le nought k ≡ true) ⊎ (le k nought ≡ true)
    go true e = inl e
    go false e = inr (below_nought k h e)

-- ---- along lines

module _ (k c : Float) (n : ℕ) (known : ends_finite k c n ≡ true) where
  ends : (finite (stretched k c 0) ≡ true) × (finite (stretched k c n) ≡ true)
  unfolding ends_finite
  ends = both _ _ known

  abbrev way : ℕ → Float
  way i = floats.sub (as_float i) c

  k_finite : finite k ≡ true
  unfolding stretched
  k_finite = (finite_mul k (way 0) ends.0).0

  c_finite : finite c ≡ true
  unfolding stretched
  c_finite = (finite_sub (as_float 0) c (finite_mul k (way 0) ends.0).1).1

  module _ (fits : n ≤ 4096) where
    ways_rise : (i j : ℕ) → i ≤ j → j ≤ n → le (way i) (way j) ≡ true
    ways_rise i j h l =
        sub_mono_left binary32 (as_float i) (as_float j) c (line_finite i (omega arith)) (line_finite j (omega arith)) c_finite (lines_rise i j h)

    way_finite : (i : ℕ) → i ≤ n → finite (way i) ≡ true
    unfolding stretched
    way_finite i h =
        between_finite (way 0) (way i) (way n) (finite_mul k (way 0) ends.0).1 (finite_mul k (way n) ends.1).1
        (ways_rise 0 i (omega arith) h)
        (ways_rise i n h (omega arith))

    stretched_rises : le nought k ≡ true → (i j : ℕ) → i ≤ j → j ≤ n → le (stretched k c i) (stretched k c j) ≡ true
    unfolding stretched
    stretched_rises s i j h l = mul_mono binary32 k (way i) (way j) k_finite (way_finite i (omega arith)) (way_finite j l) s (ways_rise i j h l)

    stretched_falls : le k nought ≡ true → (i j : ℕ) → i ≤ j → j ≤ n → le (stretched k c j) (stretched k c i) ≡ true
    unfolding stretched
    stretched_falls s i j h l = mul_anti binary32 k (way i) (way j) k_finite (way_finite i (omega arith)) (way_finite j l) s (ways_rise i j h l)

    stretched_finite : (i : ℕ) → i ≤ n → finite (stretched k c i) ≡ true
    stretched_finite i h = go (fall_or_rise k k_finite)
      where
        go : (le nought k ≡ true) ⊎ (le k nought ≡ true) → finite (stretched k c i) ≡ true
        go (inl s) =
            between_finite (stretched k c 0) (stretched k c i) (stretched k c n) ends.0 ends.1 (stretched_rises s 0 i (omega arith) h) (stretched_rises s i n h (omega arith))
        go (inr s) =
            between_finite (stretched k c n) (stretched k c i) (stretched k c 0) ends.1 ends.0 (stretched_falls s i n h (omega arith)) (stretched_falls s 0 i (omega arith) h)

-- ---- the sides of an edge

module _ (e : Ends Float) (w h : ℕ) (wide : w ≤ 4096) (high : h ≤ 4096)
    (rows : ends_finite (floats.sub e.q1.x e.q0.x) e.q0.y h ≡ true) (columns : ends_finite (floats.sub e.q1.y e.q0.y) e.q0.x w ≡ true) where
  abbrev of_row : ℕ → Float
  of_row y = stretched (floats.sub e.q1.x e.q0.x) e.q0.y y

  abbrev of_column : ℕ → Float
  of_column x = stretched (floats.sub e.q1.y e.q0.y) e.q0.x x

  -- of two columns, the one whose product is no less has a side that is no greater
  sides_turn : (i j y : ℕ) → i ≤ w → j ≤ w → y ≤ h → le (of_column i) (of_column j) ≡ true → le (side_of e j y) (side_of e i y) ≡ true
  unfolding side_of cross2 stretched
  sides_turn i j y I J Y l =
      sub_anti_right binary32 (of_row y) (of_column i) (of_column j)
      (stretched_finite _ _ h rows high y Y) (stretched_finite _ _ w columns wide i I) (stretched_finite _ _ w columns wide j J) l

  falling : le nought (floats.sub e.q1.y e.q0.y) ≡ true → Falls e w h
  falling s i j y a b d = sides_turn i j y (omega arith) b d (stretched_rises _ _ w columns wide s i j a b)

  rising : le (floats.sub e.q1.y e.q0.y) nought ≡ true → Rises e w h
  rising s i j y a b d = sides_turn j i y b (omega arith) d (stretched_falls _ _ w columns wide s i j a b)

  pub runs_falling : lt floats.zero (floats.sub e.q1.y e.q0.y) ≡ true → ForSome (Some Falling) (λ k. Runs k e w h)
  unfolding of_bits
  runs_falling s = λ k some. record { falls = λ is. falling (le_of_lt _ _ s); rises = λ is. absurd cc }

  pub runs_rising : lt (floats.sub e.q1.y e.q0.y) floats.zero ≡ true → ForSome (Some Rising) (λ k. Runs k e w h)
  unfolding of_bits
  runs_rising s = λ k some. record { falls = λ is. absurd cc; rises = λ is. rising (le_of_lt _ _ s) }
