-- The root is IEEE's: of all finite values of the format it is the nearest to the real root, and no other is as near. First in units of the format's smallest value, all
-- natural numbers, then for floats. Assumes nothing.
use mathlib.Core.Path.{◌≡◌, refl, sym, ap, ap₂, ◌∙◌, subst}
use mathlib.Core.Logic.{◌⊎◌, inl, inr, ⊎_elim}
use mathlib.Core.Bool.{Bool, true, false, not, ◌&&◌, true≢false}
use Prim.Native.Nat.{ℕ, zero, suc, ◌+◌, ◌-◌, ◌*◌, ◌/◌, ◌%◌, ◌^◌, ◌≤◌, ◌<◌, compare}
use native.Mathlib.Nat.{le_refl, le_trans, le_of_eq, le_of_lt, lt_of_lt_of_le, lt_of_le_of_lt, lt_irrefl, lt_trans, add_comm, eq_of_mul-eq-mul_right, eq-or-lt_of_le, mul_assoc, mul_comm, mul_left_comm, mul-one, mul-le-mul, mul-le-mul_left, mul-le-mul_right, mul-lt-mul_of_pos_right, lt_of_mul-lt-mul_right, mul_right_comm, zero-mul, add-zero, add-mul, mul-sub, sub-le, div-one, mul-mul-mul_comm, mul-pos, suc-mul, div-mul-le_self, div-lt_iff_lt-mul, le-div_iff_mul-le}
use native.Mathlib.Omega.{arith}
use lib.IntN.{ℤ, pos, negsuc}
use lib.Dec.{T, leb, ltb, eqb, leb→le, ltb→lt, lt→ltb, eqb→eq}
use lib.Pow.{pow-add, pow_pos, pow_mono, pow-lt, shl_lt}
use lib.Ieee.{Format, Float, nan, inf, fin, prec, emax, low, up, down, size, nearest, units, lt, hid, ones, top, fits, is_nan, nan_bits, of_bits, to_bits}
use lib.Ieee.Bits.{of_bits-to_bits, to_bits-lt, nan_bits_is}
use lib.Ieee.Digits.{size-lt, size_reaches}
use lib.Ieee.Exact.{HasValue, units_val}
use lib.Ieee.Fits.{two, reach, down_pos, nearest-le, and_l, and_r}
use lib.Ieee.Nearest.{nearest-ge}
use lib.Ieee.Positive.{num, den, den_pos, positive, positive-finite, positive_of_value, value→cross, value_pos, first_pos}
use lib.Ieee.Scale.{finite}
use Rattle.roots.specs.Root.{whole_root, root, sum_over, RootAbove, RootBelow, Nearest, SquareRoot}
use Rattle.roots.proofs.Whole.{IsRoot, square_lt, square_double, whole_root_is}
use Rattle.roots.specs.Laws.Neighbours.{low_or_high, joined, twice, pow_lt_back, nearest_down, nearest_up}
use Rattle.roots.proofs.Algorithm.{root_units_is, odd_square}
use Rattle.roots.specs.Laws.Pattern.{units_fits, value_unique}
use Rattle.roots.proofs.Fields.{minus, root_positive, positive_by_pattern}

-- ---- numbers

square_mono : (a b : ℕ) → a < b → a * a < b * b
square_mono a b h = lt_of_le_of_lt (mul-le-mul_left a (le_of_lt h)) (mul-lt-mul_of_pos_right h (omega arith))

-- a number has one odd part
odd_part : (i j a b : ℕ) → a % 2 ≡ 1 → b % 2 ≡ 1 → a * 2 ^ i ≡ b * 2 ^ j → a ≡ b
odd_part zero zero a b p q e = omega arith
odd_part zero (suc j) a b p q e = absurd (omega (arith, joined b j 1 (suc j) (omega arith)))
odd_part (suc i) zero a b p q e = absurd (omega (arith, joined a i 1 (suc i) (omega arith)))
odd_part (suc i) (suc j) a b p q e = odd_part i j a b p q (omega (arith, joined a i 1 (suc i) (omega arith), joined b j 1 (suc j) (omega arith)))

-- ---- the root of v in units, v above 0

module _ (f : Format) (v : ℕ) where
  abbrev w : ℕ
  w = whole_root v

  abbrev k : ℕ
  k = size w - prec f

  abbrev t : ℕ
  t = 2 ^ k

  abbrev q : ℕ
  q = w / t

  abbrev mid : ℕ
  mid = (2 * q + 1) * t

  abbrev pub kept : ℕ
  kept = nearest q (compare (4 * v) (mid * mid))

  is_root : IsRoot v w
  is_root = whole_root_is v

  q_low : q * t ≤ w
  q_low = div-mul-le_self w t

  q_high : w < suc q * t
  q_high = (div-lt_iff_lt-mul (pow_pos k)).0 (le_refl (suc q))

  q_small : q < 2 ^ prec f
  q_small =
      (div-lt_iff_lt-mul (pow_pos k)).1
      (lt_of_lt_of_le (size-lt w) (le_trans (pow_mono {i = size w} {j = prec f + k} (omega arith)) (le_of_eq (pow-add 2 (prec f) k))))

  q-full : 0 < k → 2 ^ (prec f - 1) ≤ q
  q-full h =
      (le-div_iff_mul-le (pow_pos k)).1
      (le_trans (le_of_eq (sym (pow-add 2 (prec f - 1) k))) (size_reaches w (prec f - 1 + k) (omega (arith, two f))))

  mid_is : mid ≡ q * t + (q * t + t)
  mid_is =
      let a : (2 * q + 1) * t ≡ suc (2 * q) * t = ap (λ (x : ℕ). x * t) (omega arith) in
      let b : suc (2 * q) * t ≡ 2 * q * t + t = suc-mul (2 * q) t in
      let c : 2 * q * t ≡ 2 * (q * t) = mul_assoc 2 q t in
      omega arith

  next_is : suc q * t ≡ q * t + t
  next_is = suc-mul q t

  -- no value of the format lies between q * t and suc q * t
  gap : (a b : ℕ) → a < 2 ^ prec f → (a * 2 ^ b ≤ q * t) ⊎ (suc q * t ≤ a * 2 ^ b)
  gap a b h = ⊎_elim finer coarser (low_or_high b k)
    where
      finer : b < k → (a * 2 ^ b ≤ q * t) ⊎ (suc q * t ≤ a * 2 ^ b)
      finer l = inl (
          le_trans (le_of_lt (shl_lt (prec f) b h))
          (le_trans (pow_mono {i = prec f + b} {j = prec f - 1 + k} (omega (arith, two f)))
          (le_trans (le_of_eq (pow-add 2 (prec f - 1) k)) (mul-le-mul_right t (q-full (omega arith)))))
          )

      coarser : k ≤ b → (a * 2 ^ b ≤ q * t) ⊎ (suc q * t ≤ a * 2 ^ b)
      coarser l =
          let e : a * 2 ^ (b - k) * t ≡ a * 2 ^ b = joined a (b - k) k b (omega arith) in
          ⊎_elim
          (λ (m : q < a * 2 ^ (b - k)). inr (subst (λ (x : ℕ). suc q * t ≤ x) e (mul-le-mul_right t m)))
          (λ (m : a * 2 ^ (b - k) ≤ q). inl (subst (λ (x : ℕ). x ≤ q * t) e (mul-le-mul_right t m)))
          (low_or_high q (a * 2 ^ (b - k)))

  module _ (pos : 0 < v) where
    q_pos : 0 < q
    q_pos = go k refl
      where
        some : (a : ℕ) → v < suc a * suc a → 0 < a
        some zero h = omega arith
        some (suc a) h = omega arith

        go : (j : ℕ) → k ≡ j → 0 < q
        go zero e = lt_of_lt_of_le (some w is_root.last) (le_of_eq (sym (div-one w) ∙ ap (λ (j : ℕ). w / 2 ^ j) (sym e)))
        go (suc j) e = lt_of_lt_of_le (pow_pos (prec f - 1)) (q-full (omega arith))

    kept_pos : 0 < kept * t
    kept_pos = mul-pos (lt_of_lt_of_le q_pos (nearest-ge q (compare (4 * v) (mid * mid)))) (pow_pos k)

    kept_high : kept * t ≤ 2 * w
    kept_high =
        let a : kept * t ≤ suc q * t = mul-le-mul_right t (nearest-le q (compare (4 * v) (mid * mid))) in
        let b : 1 * t ≤ q * t = mul-le-mul_right t q_pos in
        omega (arith, q_low, next_is)

  module _ (pos : 0 < v) (tie : 4 * v ≡ mid * mid → ⊥) where
    -- the neighbour below or above, by the middle
    picked : ((4 * v < mid * mid) × (kept ≡ q)) ⊎ ((mid * mid < 4 * v) × (kept ≡ suc q))
    picked =
        ⊎_elim
        (λ (l : 4 * v < mid * mid). inl (l, nearest_down q (4 * v) (mid * mid) l))
        (λ (l : mid * mid ≤ 4 * v).
        ⊎_elim (λ (e : mid * mid ≡ 4 * v). absurd (tie (sym e))) (λ (m : mid * mid < 4 * v). inr (m, nearest_up q (4 * v) (mid * mid) m)) (eq-or-lt_of_le l))
        (low_or_high (4 * v) (mid * mid))

    pub units_above : (a b : ℕ) → a < 2 ^ prec f → kept * t < a * 2 ^ b → 4 * v < (kept * t + a * 2 ^ b) * (kept * t + a * 2 ^ b)
    units_above a b h l = ⊎_elim down up picked
      where
        down : (4 * v < mid * mid) × (kept ≡ q) → 4 * v < (kept * t + a * 2 ^ b) * (kept * t + a * 2 ^ b)
        down (m, e) =
            let r : kept * t ≡ q * t = ap (λ (x : ℕ). x * t) e in
            let g : mid ≤ kept * t + a * 2 ^ b = ⊎_elim (λ (x : a * 2 ^ b ≤ q * t). absurd (omega arith)) (λ (x : suc q * t ≤ a * 2 ^ b). omega (arith, mid_is, next_is)) (gap a b h) in
            lt_of_lt_of_le m (mul-le-mul g g)

        up : (mid * mid < 4 * v) × (kept ≡ suc q) → 4 * v < (kept * t + a * 2 ^ b) * (kept * t + a * 2 ^ b)
        up (m, e) =
            let r : kept * t ≡ suc q * t = ap (λ (x : ℕ). x * t) e in
            let g : 2 * suc w ≤ kept * t + a * 2 ^ b = omega (arith, q_high) in
            let s : 2 * suc w * (2 * suc w) ≡ 4 * (suc w * suc w) = square_double (suc w) in
            lt_of_lt_of_le (omega (arith, is_root.last)) (mul-le-mul g g)

    pub units_below : (a b : ℕ) → a < 2 ^ prec f → a * 2 ^ b < kept * t → (kept * t + a * 2 ^ b) * (kept * t + a * 2 ^ b) < 4 * v
    units_below a b h l = ⊎_elim down up picked
      where
        down : (4 * v < mid * mid) × (kept ≡ q) → (kept * t + a * 2 ^ b) * (kept * t + a * 2 ^ b) < 4 * v
        down (m, e) =
            let r : kept * t ≡ q * t = ap (λ (x : ℕ). x * t) e in
            let s : 2 * w * (2 * w) ≡ 4 * (w * w) = square_double w in
            lt_of_lt_of_le (square_mono (kept * t + a * 2 ^ b) (2 * w) (omega (arith, q_low))) (omega (arith, is_root.reached))

        up : (mid * mid < 4 * v) × (kept ≡ suc q) → (kept * t + a * 2 ^ b) * (kept * t + a * 2 ^ b) < 4 * v
        up (m, e) =
            let r : kept * t ≡ suc q * t = ap (λ (x : ℕ). x * t) e in
            let g : kept * t + a * 2 ^ b ≤ mid = ⊎_elim (λ (x : a * 2 ^ b ≤ q * t). omega (arith, mid_is, next_is)) (λ (x : suc q * t ≤ a * 2 ^ b). absurd (omega arith)) (gap a b h) in
            lt_of_le_of_lt (mul-le-mul g g) m

    kept_square : kept * t * (kept * t) < 4 * v
    kept_square = subst (λ (x : ℕ). x * x < 4 * v) (add-zero (kept * t)) (units_below 0 0 (pow_pos (prec f)) (kept_pos pos))

-- ---- a value in units

-- y is its sign and a * 2 ^ b units, with an odd a of the format's digits
pub record InUnits (f : Format) (y : Float) : Type 0 where
  pub a : ℕ
  pub b : ℕ
  pub has : HasValue y (minus y) (a * 2 ^ b) (2 ^ low f)
  pub small : a < 2 ^ prec f
  pub odd : 0 < a → a % 2 ≡ 1
  pub below : a * 2 ^ b < 2 ^ suc (emax f) * 2 ^ low f

pub in_units : (f : Format) (y : Float) → T (fits f y) → T (finite y) → InUnits f y
unfolding fits
in_units f nan h t = absurd t
in_units f (inf s) h t = absurd t
in_units f (fin s zero e) h t = record {
  a = 0;
  b = 0;
  has = (refl, omega (arith, zero-mul (up e), ap (λ (x : ℕ). x * 2 ^ low f) (zero-mul (up e)) ∙ zero-mul (2 ^ low f), zero-mul (down e)));
  small = pow_pos (prec f);
  odd = λ l. absurd (lt_irrefl 0 l);
  below = mul-pos (pow_pos (suc (emax f))) (pow_pos (low f));
}
in_units f (fin s (suc m) e) h t = go e (leb→le (down e) (2 ^ low f) (and_r (A && B) C (and_l (A && B && C) D h))) (ltb→lt (suc m * up e) (2 ^ suc (emax f) * down e) (and_r (A && B && C) D h))
  where
    A : Bool
    A = eqb (suc m % 2) 1

    B : Bool
    B = ltb (suc m) (2 ^ prec f)

    C : Bool
    C = leb (down e) (2 ^ low f)

    D : Bool
    D = ltb (suc m * up e) (2 ^ suc (emax f) * down e)

    at : (d : ℤ) (b : ℕ) → suc m * up d * 2 ^ low f ≡ suc m * 2 ^ b * down d → suc m * up d < 2 ^ suc (emax f) * down d → InUnits f (fin s (suc m) d)
    at d b e l = record {
      a = suc m;
      b = b;
      has = (refl, e);
      small = ltb→lt (suc m) (2 ^ prec f) (and_r A B (and_l (A && B) C (and_l (A && B && C) D h)));
      odd = λ p. eqb→eq (suc m % 2) 1 (and_l A B (and_l (A && B) C (and_l (A && B && C) D h)));
      below =
          lt_of_mul-lt-mul_right (down d)
          (subst (λ (x : ℕ). x < 2 ^ suc (emax f) * 2 ^ low f * down d) e
          (lt_of_lt_of_le (mul-lt-mul_of_pos_right l (pow_pos (low f))) (le_of_eq (mul_right_comm (2 ^ suc (emax f)) (down d) (2 ^ low f)))));
    }

    go : (d : ℤ) → down d ≤ 2 ^ low f → suc m * up d < 2 ^ suc (emax f) * down d → InUnits f (fin s (suc m) d)
    go (pos j) c l = at (pos j) (j + low f) (joined (suc m) j (low f) (j + low f) refl ∙ sym (mul-one (suc m * 2 ^ (j + low f)))) l
    go (negsuc j) c l =
        let i : suc j < suc (low f) = pow_lt_back (suc j) (suc (low f)) (2 ^ low f) c (pow-lt (le_refl (suc (low f)))) in
        at (negsuc j) (low f - suc j) (ap (λ (x : ℕ). x * 2 ^ low f) (mul-one (suc m)) ∙ sym (joined (suc m) (low f - suc j) (suc j) (low f) (omega arith))) l

-- ---- no tie: the middle of two neighbours has a square of too many digits

no_tie_units : (f : Format) (a b : ℕ) → a % 2 ≡ 1 → a < 2 ^ prec f → 4 * (a * 2 ^ b * 2 ^ low f) ≡ mid f (a * 2 ^ b * 2 ^ low f) * mid f (a * 2 ^ b * 2 ^ low f) → ⊥
no_tie_units f a b o l e = go (k f v) refl
  where
    v : ℕ
    v = a * 2 ^ b * 2 ^ low f

    s : ℕ
    s = 2 * q f v + 1

    s_odd : s * s % 2 ≡ 1
    s_odd = odd_square s (omega arith)

    go : (j : ℕ) → k f v ≡ j → ⊥
    go zero z =
        let m : mid f v ≡ s = ap (λ (x : ℕ). s * 2 ^ x) z ∙ mul-one s in
        let g : 4 * v ≡ s * s = e ∙ ap (λ (x : ℕ). x * x) m in
        omega (arith, s_odd)
    go (suc j) z =
        let n : 4 * v ≡ a * 2 ^ (b + low f + 2) = mul_comm 4 v ∙ ap (λ (x : ℕ). x * 4) (joined a b (low f) (b + low f) refl) ∙ joined a (b + low f) 2 (b + low f + 2) refl in
        let m : mid f v * mid f v ≡ s * s * 2 ^ (k f v + k f v) = mul-mul-mul_comm s (t f v) s (t f v) ∙ ap (λ (x : ℕ). s * s * x) (sym (pow-add 2 (k f v) (k f v))) in
        let g : a ≡ s * s = odd_part (b + low f + 2) (k f v + k f v) a (s * s) o s_odd (sym n ∙ e ∙ m) in
        let full : 2 ^ (prec f - 1) ≤ q f v = q-full f v (omega arith) in
        let p : 2 ^ prec f ≡ 2 * 2 ^ (prec f - 1) = twice (prec f) (prec f - 1) (omega (arith, two f)) in
        let i : s * 1 ≤ s * s = mul-le-mul_left s (omega arith) in
        omega (arith, mul-one s)

-- ---- from units to fractions: x is X / dx, and r + y is S / D

module _ (X dx N L S D Z : ℕ) (x-is : X * L ≡ N * dx) (s_is : S * L ≡ Z * D) (L-pos : 0 < L) (dx-pos : 0 < dx) (D-pos : 0 < D) where
  x_scaled : 4 * X * (D * D) * (L * L) ≡ 4 * (N * L) * (dx * (D * D))
  x_scaled =
      let a : 4 * X * (D * D) * (L * L) ≡ X * L * (4 * (L * (D * D))) = simp (mul_assoc, mul_comm, mul_left_comm) in
      let b : N * dx * (4 * (L * (D * D))) ≡ 4 * (N * L) * (dx * (D * D)) = simp (mul_assoc, mul_comm, mul_left_comm) in
      a ∙ ap (λ (n : ℕ). n * (4 * (L * (D * D)))) x-is ∙ b

  s_scaled : S * S * dx * (L * L) ≡ Z * Z * (dx * (D * D))
  s_scaled =
      let a : S * S * dx * (L * L) ≡ S * L * (S * L) * dx = simp (mul_assoc, mul_comm, mul_left_comm) in
      let b : Z * D * (Z * D) * dx ≡ Z * Z * (dx * (D * D)) = simp (mul_assoc, mul_comm, mul_left_comm) in
      a ∙ ap (λ (n : ℕ). n * n * dx) s_is ∙ b

  room : 0 < dx * (D * D)
  room = mul-pos dx-pos (mul-pos D-pos D-pos)

  to_below : 4 * (N * L) < Z * Z → 4 * X * (D * D) < S * S * dx
  to_below h =
      lt_of_mul-lt-mul_right (L * L)
      (subst (λ (n : ℕ). n < S * S * dx * (L * L)) (sym x_scaled) (subst (λ (n : ℕ). 4 * (N * L) * (dx * (D * D)) < n) (sym s_scaled) (mul-lt-mul_of_pos_right h room)))

  to_above : Z * Z < 4 * (N * L) → S * S * dx < 4 * X * (D * D)
  to_above h =
      lt_of_mul-lt-mul_right (L * L)
      (subst (λ (n : ℕ). n < 4 * X * (D * D) * (L * L)) (sym s_scaled) (subst (λ (n : ℕ). Z * Z * (dx * (D * D)) < n) (sym x_scaled) (mul-lt-mul_of_pos_right h room)))

sub-mul : (a b c : ℕ) → (a - b) * c ≡ a * c - b * c
sub-mul a b c = mul_comm (a - b) c ∙ mul-sub c a b ∙ ap₂ (λ (x y : ℕ). x - y) (mul_comm c a) (mul_comm c b)

-- two values over one denominator: p / dp and g / dg, which are P / L and G / L
module _ (p dp g dg P G L : ℕ) (p-is : p * L ≡ P * dp) (g-is : g * L ≡ G * dg) where
  p_over : p * dg * L ≡ P * (dp * dg)
  p_over = mul_right_comm p dg L ∙ ap (λ (n : ℕ). n * dg) p-is ∙ mul_assoc P dp dg

  g_over : g * dp * L ≡ G * (dp * dg)
  g_over = mul_right_comm g dp L ∙ ap (λ (n : ℕ). n * dp) g-is ∙ mul_assoc G dg dp ∙ ap (λ (n : ℕ). G * n) (mul_comm dg dp)

  sum_over_lem : (p * dg + g * dp) * L ≡ (P + G) * (dp * dg)
  sum_over_lem = add-mul (p * dg) (g * dp) L ∙ ap₂ (λ (x y : ℕ). x + y) p_over g_over ∙ sym (add-mul P G (dp * dg))

  difference_over : (p * dg - g * dp) * L ≡ (P - G) * (dp * dg)
  difference_over = sub-mul (p * dg) (g * dp) L ∙ ap₂ (λ (x y : ℕ). x - y) p_over g_over ∙ sym (sub-mul P G (dp * dg))

  order : p * dg < g * dp → 0 < L → P < G
  order h l = lt_of_mul-lt-mul_right (dp * dg) (subst (λ (n : ℕ). n < G * (dp * dg)) p_over (subst (λ (n : ℕ). p * dg * L < n) g_over (mul-lt-mul_of_pos_right h l)))

-- ---- for floats: x is N, r is R and y is Y units

module _ (L N R : ℕ) (L-pos : 0 < L) (x r : Float) (x_has : HasValue x false N L) (r_has : HasValue r false R L) where
  below_from : (y : Float) (Y : ℕ) → HasValue y (minus y) Y L → T (lt r y) → (R < Y → 4 * (N * L) < (R + Y) * (R + Y)) → RootBelow x r y
  unfolding lt
  below_from y Y y-has l h = go r r_has y y-has l
    where
      go : (r : Float) → HasValue r false R L → (y : Float) → HasValue y (minus y) Y L → T (lt r y) → RootBelow x r y
      go (fin false m e) (i, p) (fin false n d) (j, g) l =
          to_below (num x) (den x) N L (m * up e * down d + n * up d * down e) (down e * down d) (R + Y) (value→cross x N L x_has) (sum_over_lem (m * up e) (down e) (n * up d) (down d) R Y L p g) L-pos (den_pos x) (mul-pos (down_pos e) (down_pos d))
          (h (order (m * up e) (down e) (n * up d) (down d) R Y L p g (ltb→lt (m * up e * down d) (n * up d * down e) l) L-pos))
      go (fin false m e) (i, p) (fin true n d) (j, g) l = absurd l
      go (fin true m e) (i, p) y g l = absurd (true≢false i)
      go (fin false m e) (i, p) nan g l = absurd l
      go (fin false m e) (i, p) (inf s) g l = absurd g
      go nan p y g l = absurd p
      go (inf s) p y g l = absurd p

  above_from : (y : Float) (Y : ℕ) → HasValue y (minus y) Y L → T (lt y r) → (Y < R → (R + Y) * (R + Y) < 4 * (N * L)) → R * R < 4 * (N * L) → RootAbove x r y
  unfolding lt
  above_from y Y y-has l h z = go r r_has y y-has l
    where
      go : (r : Float) → HasValue r false R L → (y : Float) → HasValue y (minus y) Y L → T (lt y r) → RootAbove x r y
      go (fin false m e) (i, p) (fin false n d) (j, g) l =
          to_above (num x) (den x) N L (m * up e * down d + n * up d * down e) (down e * down d) (R + Y) (value→cross x N L x_has) (sum_over_lem (m * up e) (down e) (n * up d) (down d) R Y L p g) L-pos (den_pos x) (mul-pos (down_pos e) (down_pos d))
          (h (order (n * up d) (down d) (m * up e) (down e) Y R L g p (ltb→lt (n * up d * down e) (m * up e * down d) l) L-pos))
      go (fin false m e) (i, p) (fin true n d) (j, g) l =
          to_above (num x) (den x) N L (m * up e * down d - n * up d * down e) (down e * down d) (R - Y) (value→cross x N L x_has) (difference_over (m * up e) (down e) (n * up d) (down d) R Y L p g) L-pos (den_pos x) (mul-pos (down_pos e) (down_pos d))
          (lt_of_le_of_lt (mul-le-mul (sub-le R Y) (sub-le R Y)) z)
      go (fin true m e) (i, p) y g l = absurd (true≢false i)
      go (fin false m e) (i, p) nan g l = absurd l
      go (fin false m e) (i, p) (inf s) g l = absurd g
      go nan p y g l = absurd p
      go (inf s) p y g l = absurd p

-- ---- the theorem

positive_plus : (x : Float) → T (positive x) → minus x ≡ false
positive_plus nan p = refl
positive_plus (inf s) p = absurd p
positive_plus (fin true m e) p = absurd p
positive_plus (fin false m e) p = refl

module _ (f : Format) (x : Float) (fit : T (fits f x)) (plus : T (positive x)) where
  i : InUnits f x
  i = in_units f x fit (positive-finite x plus)

  abbrev n : ℕ
  n = i.a * 2 ^ i.b

  abbrev u : ℕ
  u = n * 2 ^ low f

  x_has : HasValue x false n (2 ^ low f)
  x_has = subst (λ (s : Bool). HasValue x s n (2 ^ low f)) (positive_plus x plus) i.has

  n_pos : 0 < n
  n_pos = value_pos x n (2 ^ low f) plus (pow_pos (low f)) x_has

  u_pos : 0 < u
  u_pos = mul-pos n_pos (pow_pos (low f))

  never : 4 * u ≡ mid f u * mid f u → ⊥
  never = no_tie_units f i.a i.b (i.odd (first_pos i.a (2 ^ i.b) n_pos)) i.small

  abbrev r : Float
  r = units f false (kept f u) (k f u)

  r_is : root f x ≡ r
  r_is = sym (root_positive f x n n_pos x_has) ∙ root_units_is f n

  -- the result is below 2 ^ (emax + 1)
  w_lt : w f u < 2 ^ (low f + emax f)
  w_lt =
      square_lt (w f u) (2 ^ (low f + emax f))
      (lt_of_le_of_lt (is_root f u).reached
      (lt_of_lt_of_le (mul-lt-mul_of_pos_right i.below (pow_pos (low f)))
      (le_trans (le_of_eq (joined (2 ^ suc (emax f)) (low f) (low f) (low f + low f) refl ∙ sym (pow-add 2 (suc (emax f)) (low f + low f))))
      (le_trans (pow_mono {i = suc (emax f) + (low f + low f)} {j = low f + emax f + (low f + emax f)} (omega (arith, two f, reach f))) (le_of_eq (pow-add 2 (low f + emax f) (low f + emax f)))))))

  r_lt : kept f u * t f u < 2 ^ (low f + suc (emax f))
  r_lt = omega (arith, w_lt, kept_high f u u_pos, twice (low f + suc (emax f)) (low f + emax f) (omega arith))

  r_has : HasValue r false (kept f u * t f u) (2 ^ low f)
  r_has = units_val f false (kept f u) (k f u) r_lt

  nearest_units : Nearest f x r
  nearest_units = record {
    in_format = units_fits f false (kept f u) (k f u) (le_trans (nearest-le (q f u) (compare (4 * u) (mid f u * mid f u))) (q_small f u));
    above_zero = positive_of_value r (kept f u * t f u) (2 ^ low f) r_has (kept_pos f u u_pos);
    than_above = λ y g h l.
        let j : InUnits f y = in_units f y g h in
        below_from (2 ^ low f) n (kept f u * t f u) (pow_pos (low f)) x r x_has r_has y (j.a * 2 ^ j.b) j.has l (units_above f u u_pos never j.a j.b j.small);
    than_below = λ y g h l.
        let j : InUnits f y = in_units f y g h in
        above_from (2 ^ low f) n (kept f u * t f u) (pow_pos (low f)) x r x_has r_has y (j.a * 2 ^ j.b) j.has l (units_below f u u_pos never j.a j.b j.small) (kept_square f u u_pos never);
  }

  -- of all finite values of the format, the root is the nearest to the real root of x
  pub root_nearest : Nearest f x (root f x)
  root_nearest = subst (Nearest f x) (sym r_is) nearest_units

pub square_root : (f : Format) (x r : Float) → T (fits f x) → r ≡ root f x → SquareRoot f x r
square_root f x r fit e = record { is = e; nearest = λ p. subst (Nearest f x) (sym e) (root_nearest f x fit p) }

-- the pattern of a positive number's root
pub record Answer (f : Format) (x : Float) (bits : ℕ) : Type 0 where
  pub is : of_bits f bits ≡ root f x
  pub below : bits < 2 * top f
  pub number : T (not (nan_bits f bits))

pub answer : (f : Format) (x : Float) → T (fits f x) → 0 < to_bits f x → to_bits f x < ones f * hid f → (r : ℕ) → r ≡ to_bits f (root f (of_bits f (to_bits f x))) → Answer f x r
unfolding is_nan
answer f x fit l h r e =
    subst (Answer f x) (sym (e ∙ ap (λ (v : Float). to_bits f (root f v)) (of_bits-to_bits f x fit)))
    (record {
      is = of_bits-to_bits f (root f x) n.in_format;
      below = to_bits-lt f (root f x) n.in_format;
      number = subst (λ (b : Bool). T (not b)) (sym (nan_bits_is f (to_bits f (root f x)) ∙ ap is_nan (of_bits-to_bits f (root f x) n.in_format))) (a_number (root f x) n.above_zero);
    })
  where
    n : Nearest f x (root f x)
    n = root_nearest f x fit (positive_by_pattern f x l h)

    a_number : (v : Float) → T (positive v) → T (not (is_nan v))
    a_number nan p = absurd p
    a_number (inf s) p = absurd p
    a_number (fin s m d) p = tt

-- ---- the standard's words decide the result

same_size : (m n : ℕ) (e d : ℤ) (a l : ℕ) → m * up e * down d ≡ n * up d * down e → m * up e * l ≡ a * down e → n * up d * l ≡ a * down d
same_size m n e d a l h p =
    eq_of_mul-eq-mul_right (down e) (down_pos e) (n * up d * l) (a * down d)
    (mul_right_comm (n * up d) l (down e) ∙ ap (λ (x : ℕ). x * l) (sym h) ∙ mul_right_comm (m * up e) (down d) l ∙ ap (λ (x : ℕ). x * down d) p ∙ mul_right_comm a (down e) (down d))

-- r below s, and each nearer than the other
clash : (x r s : Float) → T (positive r) → T (positive s) → RootBelow x r s → RootAbove x s r → ⊥
clash x (fin false m e) (fin false n d) p q b a =
    lt_irrefl _
    (lt_trans b
    (subst (λ (k : ℕ). k * k * den x < 4 * num x * (down e * down d * (down e * down d))) (add_comm (n * up d * down e) (m * up e * down d))
    (subst (λ (k : ℕ). (n * up d * down e + m * up e * down d) * (n * up d * down e + m * up e * down d) * den x < 4 * num x * (k * k)) (mul_comm (down d) (down e)) a)))
clash x nan s p q b a = absurd p
clash x (inf t) s p q b a = absurd p
clash x (fin true m e) s p q b a = absurd p
clash x (fin false m e) nan p q b a = absurd q
clash x (fin false m e) (inf t) p q b a = absurd q
clash x (fin false m e) (fin true n d) p q b a = absurd q

pub nearest_unique : (f : Format) (x r s : Float) → Nearest f x r → Nearest f x s → r ≡ s
unfolding lt
nearest_unique f x r s u v = go r s u.above_zero v.above_zero u v
  where
    go : (r s : Float) → T (positive r) → T (positive s) → Nearest f x r → Nearest f x s → r ≡ s
    go (fin false m e) (fin false n d) p q u v = ⊎_elim lower (λ (h : B ≤ A). ⊎_elim equal higher (eq-or-lt_of_le h)) (low_or_high A B)
      where
        A : ℕ
        A = m * up e * down d

        B : ℕ
        B = n * up d * down e

        lower : A < B → fin false m e ≡ fin false n d
        lower h = absurd (clash x (fin false m e) (fin false n d) p q (u.than_above (fin false n d) v.in_format tt (lt→ltb A B h)) (v.than_below (fin false m e) u.in_format tt (lt→ltb A B h)))

        higher : B < A → fin false m e ≡ fin false n d
        higher h = absurd (clash x (fin false n d) (fin false m e) q p (v.than_above (fin false m e) u.in_format tt (lt→ltb B A h)) (u.than_below (fin false n d) v.in_format tt (lt→ltb B A h)))

        equal : B ≡ A → fin false m e ≡ fin false n d
        equal h =
            let i : InUnits f (fin false m e) = in_units f (fin false m e) u.in_format tt in
            value_unique f (fin false m e) (fin false n d) false (i.a * 2 ^ i.b) u.in_format v.in_format i.has (refl, same_size m n e d (i.a * 2 ^ i.b) (2 ^ low f) (sym h) i.has.1)
    go nan s p q u v = absurd p
    go (inf t) s p q u v = absurd p
    go (fin true m e) s p q u v = absurd p
    go (fin false m e) nan p q u v = absurd q
    go (fin false m e) (inf t) p q u v = absurd q
    go (fin false m e) (fin true n d) p q u v = absurd q

-- so whatever is nearest is the root
pub nearest_is_root : (f : Format) (x r : Float) → T (fits f x) → T (positive x) → Nearest f x r → r ≡ root f x
nearest_is_root f x r fit p h = nearest_unique f x r (root f x) h (root_nearest f x fit p)

-- ---- no tie: no other value of the format is as far from the real root, which would lie midway

abbrev pub RootMidway : Float → Float → Float → Type 0
RootMidway x r y = sum_over r y * sum_over r y * den x ≡ 4 * num x * (den r * den y * (den r * den y))

pub no_tie : (f : Format) (x y : Float) → T (fits f x) → T (positive x) → T (fits f y) → T (finite y) → T (lt (root f x) y) ⊎ T (lt y (root f x)) → RootMidway x (root f x) y → ⊥
no_tie f x y fit p g h l e =
    let n : Nearest f x (root f x) = root_nearest f x fit p in
    ⊎_elim (λ a. apart (sym e) (n.than_above y g h a)) (λ a. apart e (n.than_below y g h a)) l
  where
    apart : {a b : ℕ} → a ≡ b → a < b → ⊥
    apart {a} {b} e h = omega arith
