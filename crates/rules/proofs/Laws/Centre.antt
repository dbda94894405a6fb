-- The centres of an image's columns and rows are exact, and they rise: what is not above a centre is not above a later one.
use Rattle.std.specs.Prelude.{ℕ, zero, suc, ◌+◌, ◌*◌, ◌≤◌, ◌<◌, ◌≡◌, refl, Bool, true, false, ◌&&◌, ◌||◌, T, ltb, eqb, ℤ, pos, negsuc, Float}
use Rattle.std.proofs.lemmas.Bool.{false≢true, eqb-false}
use Rattle.std.proofs.Common.{mul-le-mul_right, not-suc-le-zero, mul-pos, arith, ltb-true, ltb-false, eqb-true, lt-ltb, eq-eqb, eqb→eq}
use Rattle.std.specs.Float.{nan, inf, fin}
use Rattle.std.specs.Float.Ieee.{le, lt, eq, add, of_int, of_bits, up, down}
use Rattle.std.specs.Float.Ieee.Fits.{down_pos, and_l, and_r}
use Rattle.pixels.specs.Pixel.{centre}

-- ---- exact, by one test of all of them

is_half : Float → ℕ → Bool
is_half nan k = false
is_half (inf s) k = false
is_half (fin s m (pos e)) k = false
is_half (fin true m (negsuc e)) k = false
is_half (fin false m (negsuc e)) k = eqb m k && eqb e 0

halves : (x : Float) (k : ℕ) → T (is_half x k) → x ≡ fin false k (negsuc 0)
unfolding is_half
halves nan k t = absurd t
halves (inf s) k t = absurd t
halves (fin s m (pos e)) k t = absurd t
halves (fin true m (negsuc e)) k t = absurd t
halves (fin false m (negsuc e)) k t = rw (eqb→eq m k (and_l (eqb m k) (eqb e 0) t), eqb→eq e 0 (and_r (eqb m k) (eqb e 0) t))

below : (ℕ → Bool) → ℕ → Bool
below f zero = true
below f (suc n) = f n && below f n

at_each : (f : ℕ → Bool) (n : ℕ) → T (below f n) → (i : ℕ) → i < n → T (f i)
unfolding below
at_each f zero t i h = absurd (not-suc-le-zero h)
at_each f (suc n) t i h = go (at_each f n (and_r (f n) (below f n) t) i) (eqb i n) refl
  where
    go : (i < n → T (f i)) → (b : Bool) → eqb i n ≡ b → T (f i)
    go rest true e = rw (eqb-true i n e) (and_l (f n) (below f n) t)
    go rest false e = rest (omega (arith, eqb-false i n e))

tested : T (below (λ i. is_half (centre i) (i + i + 1)) 4096)
unfolding below is_half centre add of_int of_bits
tested = tt

pub centre_is : (i : ℕ) → i < 4096 → centre i ≡ fin false (i + i + 1) (negsuc 0)
centre_is i h = halves (centre i) (i + i + 1) (at_each (λ i. is_half (centre i) (i + i + 1)) 4096 tested i h)

-- ---- rising

-- a ≤ b, as `le` of two values that are not negative has it
level_le : (a b : ℕ) → ltb a b || (eqb a b && true) ≡ true → a ≤ b
level_le a b e = go (ltb a b) refl (eqb a b) refl e
  where
    go : (p : Bool) → ltb a b ≡ p → (q : Bool) → eqb a b ≡ q → p || (q && true) ≡ true → a ≤ b
    go true d q f g = omega (arith, ltb-true a b d)
    go false d true f g = omega (arith, eqb-true a b f)
    go false d false f g = absurd (false≢true g)

le_level : (a b : ℕ) → a ≤ b → ltb a b || (eqb a b && true) ≡ true
le_level a b h = go (ltb a b) refl
  where
    go : (p : Bool) → ltb a b ≡ p → ltb a b || (eqb a b && true) ≡ true
    go true d = rw d
    go false d = rw (d, eq-eqb a b (omega (arith, ltb-false a b d)))

no_level : (a b : ℕ) → 0 < a → eqb a b && eqb a 0 ≡ true → ⊥
no_level a b h t = go (eqb a b) (eqb a 0) refl t
  where
    go : (p q : Bool) → eqb a 0 ≡ q → p && q ≡ true → ⊥
    go p true f g = omega (arith, eqb-true a 0 f)
    go true false f g = false≢true g
    go false false f g = false≢true g

abbrev half : ℕ → Float
half i = fin false (i + i + 1) (negsuc 0)

-- (2i + 1) / 2 over a denominator
over : (i j : ℕ) (e : ℤ) → i ≤ j → (i + i + 1) * 1 * down e ≤ (j + j + 1) * 1 * down e
over i j e h = mul-le-mul_right (down e) (omega arith)

over_pos : (i : ℕ) (e : ℤ) → 0 < (i + i + 1) * 1 * down e
over_pos i e = mul-pos (omega arith) (down_pos e)

low_half : (m : Float) (i j : ℕ) → i ≤ j → le m (half i) ≡ true → le m (half j) ≡ true
unfolding le lt eq
low_half nan i j h t = t
low_half (inf s) i j h t = t
low_half (fin false n e) i j h t =
    le_level (n * up e * 2) ((j + j + 1) * 1 * down e)
    (omega (arith, level_le (n * up e * 2) ((i + i + 1) * 1 * down e) t, over i j e h))
low_half (fin true n e) i j h t = rw (lt-ltb 0 (n * up e * 2 + (j + j + 1) * 1 * down e) (omega (arith, over_pos j e)))

high_half : (m : Float) (i j : ℕ) → i ≤ j → le (half j) m ≡ true → le (half i) m ≡ true
unfolding le lt eq
high_half nan i j h t = t
high_half (inf s) i j h t = t
high_half (fin false n e) i j h t =
    le_level ((i + i + 1) * 1 * down e) (n * up e * 2)
    (omega (arith, level_le ((j + j + 1) * 1 * down e) (n * up e * 2) t, over i j e h))
high_half (fin true n e) i j h t = absurd (no_level ((j + j + 1) * 1 * down e) (n * up e * 2) (over_pos j e) t)

-- what is not above a centre is not above a later one
pub low_centre : (m : Float) (i j : ℕ) → i ≤ j → j < 4096 → le m (centre i) ≡ true → le m (centre j) ≡ true
low_centre m i j h l = rw (centre_is i (omega arith), centre_is j l) (low_half m i j h)

-- what is not below a centre is not below an earlier one
pub high_centre : (m : Float) (i j : ℕ) → i ≤ j → j < 4096 → le (centre j) m ≡ true → le (centre i) m ≡ true
high_centre m i j h l = rw (centre_is i (omega arith), centre_is j l) (high_half m i j h)
