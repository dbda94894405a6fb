-- "Greater" on floats is a strict order, and what is no greater can be chained past anything but a NaN. Equal zeros of two signs are neither above the other.
use Rattle.std.specs.Prelude.{ℕ, ◌+◌, ◌*◌, ◌≤◌, ◌<◌, ◌≡◌, ◌⊎◌, Bool, true, false, not, T, ltb, Float}
use Rattle.std.proofs.Common.{inl, inr, mul-pos, zero-mul, arith, ltb→lt, lt→ltb, nltb→le}
use Rattle.std.proofs.Math.Dec.{not_T}
use Rattle.std.specs.Float.{nan, inf, fin}
use Rattle.std.specs.Float.Ieee.{up, down, below, lt, is_nan}
use Rattle.std.specs.Float.Ieee.Positive.{through, first_pos, den_pos}

-- a test passes or not
pub test : (b : Bool) → T b ⊎ T (not b)
test true = inl tt
test false = inr tt

-- ---- fractions n / d

strict : (x y z p q r : ℕ) → 0 < p → x * q < y * p → y * r < z * q → x * r < z * p
strict x y z p q r P h k = go (test (ltb (x * r) (z * p)))
  where
    go : T (ltb (x * r) (z * p)) ⊎ T (not (ltb (x * r) (z * p))) → x * r < z * p
    go (inl l) = ltb→lt _ _ l
    go (inr l) = absurd (omega (arith, through z x y r p q P (nltb→le _ _ l) (omega arith)))

not_ltb : (a b : ℕ) → b ≤ a → T (not (ltb a b))
not_ltb a b h = not_T (ltb a b) (λ t. omega (arith, ltb→lt a b t))

nought : (n d : ℕ) → 0 < d → n * d ≤ 0 → n ≡ 0
nought n d D h = go (test (ltb 0 n))
  where
    go : T (ltb 0 n) ⊎ T (not (ltb 0 n)) → n ≡ 0
    go (inl p) = let k : 0 < n * d = mul-pos (ltb→lt 0 n p) D in absurd (omega arith)
    go (inr p) = omega (arith, nltb→le 0 n p)

none : (n d : ℕ) → n ≡ 0 → n * d ≡ 0
none n d e = rw (e, zero-mul)

module _ (n₁ d₁ n₂ d₂ n₃ d₃ : ℕ) (D₁ : 0 < d₁) (D₂ : 0 < d₂) (D₃ : 0 < d₃) where
  below_trans : (s t u : Bool) → T (below s (n₁ * d₂) t (n₂ * d₁)) → T (below t (n₂ * d₃) u (n₃ * d₂)) → T (below s (n₁ * d₃) u (n₃ * d₁))
  below_trans false false false h k = lt→ltb _ _ (strict n₁ n₂ n₃ d₁ d₂ d₃ D₁ (ltb→lt _ _ h) (ltb→lt _ _ k))
  below_trans false false true h k = absurd k
  below_trans false true u h k = absurd h
  below_trans true false false h k =
      let p : 0 < n₃ * d₂ = omega (arith, ltb→lt (n₂ * d₃) (n₃ * d₂) k) in
      let q : 0 < n₃ * d₁ = mul-pos (first_pos n₃ d₂ p) D₁ in
      lt→ltb 0 (n₁ * d₃ + n₃ * d₁) (omega arith)
  below_trans true false true h k = absurd k
  below_trans true true false h k =
      let p : 0 < n₁ * d₂ = omega (arith, ltb→lt (n₂ * d₁) (n₁ * d₂) h) in
      let q : 0 < n₁ * d₃ = mul-pos (first_pos n₁ d₂ p) D₃ in
      lt→ltb 0 (n₁ * d₃ + n₃ * d₁) (omega arith)
  below_trans true true true h k = lt→ltb _ _ (strict n₃ n₂ n₁ d₃ d₂ d₁ D₃ (ltb→lt _ _ k) (ltb→lt _ _ h))

  above_trans : (s t u : Bool) → T (not (below s (n₁ * d₂) t (n₂ * d₁))) → T (not (below t (n₂ * d₃) u (n₃ * d₂))) → T (not (below s (n₁ * d₃) u (n₃ * d₁)))
  above_trans false t true h k = tt
  above_trans false false false h k = not_ltb _ _ (through n₃ n₂ n₁ d₃ d₂ d₁ D₂ (nltb→le _ _ k) (nltb→le _ _ h))
  above_trans false true false h k =
      let z = none n₃ d₁ (nought n₃ d₂ D₂ (omega (arith, nltb→le 0 (n₂ * d₃ + n₃ * d₂) k))) in
      not_ltb (n₁ * d₃) (n₃ * d₁) (omega arith)
  above_trans true false false h k =
      let e₁ = nought n₁ d₂ D₂ (omega (arith, nltb→le 0 (n₁ * d₂ + n₂ * d₁) h)) in
      let e₂ = none n₂ d₃ (nought n₂ d₁ D₁ (omega (arith, nltb→le 0 (n₁ * d₂ + n₂ * d₁) h))) in
      let e₃ = nought n₃ d₂ D₂ (omega (arith, nltb→le (n₂ * d₃) (n₃ * d₂) k)) in
      not_ltb 0 (n₁ * d₃ + n₃ * d₁) (omega (arith, none n₁ d₃ e₁, none n₃ d₁ e₃))
  above_trans true false true h k =
      let e₁ = nought n₁ d₂ D₂ (omega (arith, nltb→le 0 (n₁ * d₂ + n₂ * d₁) h)) in
      not_ltb (n₃ * d₁) (n₁ * d₃) (omega (arith, none n₁ d₃ e₁))
  above_trans true true false h k =
      let e₂ = none n₂ d₁ (nought n₂ d₃ D₃ (omega (arith, nltb→le 0 (n₂ * d₃ + n₃ * d₂) k))) in
      let e₃ = nought n₃ d₂ D₂ (omega (arith, nltb→le 0 (n₂ * d₃ + n₃ * d₂) k)) in
      let e₁ = nought n₁ d₂ D₂ (omega (arith, nltb→le (n₂ * d₁) (n₁ * d₂) h)) in
      not_ltb 0 (n₁ * d₃ + n₃ * d₁) (omega (arith, none n₁ d₃ e₁, none n₃ d₁ e₃))
  above_trans true true true h k = not_ltb _ _ (through n₁ n₂ n₃ d₁ d₂ d₃ D₂ (nltb→le _ _ h) (nltb→le _ _ k))

below_irrefl : (s : Bool) (a : ℕ) → T (not (below s a s a))
below_irrefl false a = not_ltb a a (omega arith)
below_irrefl true a = not_ltb a a (omega arith)

-- ---- floats

pub lt_irrefl : (x : Float) → T (not (lt x x))
unfolding lt
lt_irrefl nan = tt
lt_irrefl (inf false) = tt
lt_irrefl (inf true) = tt
lt_irrefl (fin s m e) = below_irrefl s (m * up e * down e)

pub lt_trans : (x y z : Float) → T (lt x y) → T (lt y z) → T (lt x z)
unfolding lt
lt_trans nan y z h k = absurd h
lt_trans (inf s) nan z h k = absurd h
lt_trans (inf false) (inf t) z h k = absurd h
lt_trans (inf true) (inf true) z h k = absurd h
lt_trans (inf true) (inf false) nan h k = absurd k
lt_trans (inf true) (inf false) (inf u) h k = absurd k
lt_trans (inf true) (inf false) (fin u o g) h k = absurd k
lt_trans (inf false) (fin t n d) z h k = absurd h
lt_trans (inf true) (fin t n d) nan h k = absurd k
lt_trans (inf true) (fin t n d) (inf u) h k = k
lt_trans (inf true) (fin t n d) (fin u o g) h k = tt
lt_trans (fin s m e) nan z h k = absurd h
lt_trans (fin s m e) (inf true) z h k = absurd h
lt_trans (fin s m e) (inf false) nan h k = absurd k
lt_trans (fin s m e) (inf false) (inf u) h k = absurd k
lt_trans (fin s m e) (inf false) (fin u o g) h k = absurd k
lt_trans (fin s m e) (fin t n d) nan h k = absurd k
lt_trans (fin s m e) (fin t n d) (inf u) h k = k
lt_trans (fin s m e) (fin t n d) (fin u o g) h k =
    below_trans (m * up e) (down e) (n * up d) (down d) (o * up g) (down g) (den_pos (fin s m e)) (den_pos (fin t n d)) (den_pos (fin u o g)) s t u h k

-- y lies between, so it must be a number
pub not_lt_trans : (x y z : Float) → T (not (is_nan y)) → T (not (lt x y)) → T (not (lt y z)) → T (not (lt x z))
unfolding lt is_nan
not_lt_trans x nan z y h k = absurd y
not_lt_trans nan (inf t) z y h k = tt
not_lt_trans nan (fin t n d) z y h k = tt
not_lt_trans (inf s) (inf t) nan y h k = tt
not_lt_trans (inf false) (inf t) (inf u) y h k = tt
not_lt_trans (inf true) (inf false) (inf u) y h k = absurd h
not_lt_trans (inf true) (inf true) (inf u) y h k = k
not_lt_trans (inf false) (inf t) (fin u o g) y h k = tt
not_lt_trans (inf true) (inf false) (fin u o g) y h k = absurd h
not_lt_trans (inf true) (inf true) (fin u o g) y h k = k
not_lt_trans (inf s) (fin t n d) nan y h k = tt
not_lt_trans (inf false) (fin t n d) (inf u) y h k = tt
not_lt_trans (inf true) (fin t n d) (inf u) y h k = absurd h
not_lt_trans (inf false) (fin t n d) (fin u o g) y h k = tt
not_lt_trans (inf true) (fin t n d) (fin u o g) y h k = absurd h
not_lt_trans (fin s m e) (inf t) nan y h k = tt
not_lt_trans (fin s m e) (inf false) (inf u) y h k = absurd h
not_lt_trans (fin s m e) (inf true) (inf u) y h k = k
not_lt_trans (fin s m e) (inf false) (fin u o g) y h k = absurd h
not_lt_trans (fin s m e) (inf true) (fin u o g) y h k = absurd k
not_lt_trans (fin s m e) (fin t n d) nan y h k = tt
not_lt_trans (fin s m e) (fin t n d) (inf u) y h k = k
not_lt_trans (fin s m e) (fin t n d) (fin u o g) y h k =
    above_trans (m * up e) (down e) (n * up d) (down d) (o * up g) (down g) (den_pos (fin s m e)) (den_pos (fin t n d)) (den_pos (fin u o g)) s t u h k

-- ---- −infinity

pub above_number : (x : Float) → T (lt (inf true) x) → T (not (is_nan x))
unfolding lt is_nan
above_number nan h = absurd h
above_number (inf s) h = tt
above_number (fin s m e) h = tt

-- what is not above −infinity is above nothing
pub not_above : (x y : Float) → T (not (lt (inf true) y)) → T (not (lt x y))
unfolding lt
not_above nan y h = tt
not_above (inf s) nan h = tt
not_above (inf false) (inf t) h = tt
not_above (inf true) (inf t) h = h
not_above (inf s) (fin t n d) h = absurd h
not_above (fin s m e) nan h = tt
not_above (fin s m e) (inf true) h = tt
not_above (fin s m e) (inf false) h = absurd h
not_above (fin s m e) (fin t n d) h = absurd h
