-- Two laws of `narrow`: it gives a value of binary32, and such a value it leaves as it is.
use Rattle.std.proofs.Common.{◌≡◌, ℕ, zero, suc, ◌+◌, ◌-◌, ◌*◌, ◌%◌, ◌^◌, ◌<◌, ◌≤◌, Bool, ◌&&◌, T, eqb, ltb, leb, ℤ, pos, negsuc, sym, refl, ap, ◌∙◌, subst, le_of_eq, lt_of_lt_of_le, mul-lt-mul_of_pos_right, zero-mul, mul-one, arith, lit<, ltb→lt, leb→le, pow_pos, pow_mono, shl_lt}
use lib.Ieee.{Float, nan, inf, fin, binary32, up, down, fits}
use lib.Ieee.Fits.{and_l, and_r, nan-fits, inf-fits, round-fits}
use lib.Ieee.Exact.{HasValue, round_exact}
use Rattle.floats.specs.Narrow.{narrow}
use Rattle.roots.specs.Laws.Neighbours.{joined, pow_lt_back}
use Rattle.roots.specs.Laws.Pattern.{value_unique}
use Rattle.floats.proofs.Narrow.{narrow_value}

pub narrow_fits : (x : Float) → T (fits binary32 (narrow x))
unfolding narrow
narrow_fits nan = nan-fits binary32
narrow_fits (inf s) = inf-fits binary32 s
narrow_fits (fin s m e) = round-fits binary32 s (m * up e) (down e)

-- m * 2 ^ j smallest values, with no more digits than binary32 has
keeps : (x : Float) (s : Bool) (m j : ℕ) → T (fits binary32 x) → HasValue x s (m * 2 ^ j) (2 ^ 149) → m < 2 ^ 24 → m * 2 ^ j < 2 ^ 277 → narrow x ≡ x
keeps x s m j fit h few under =
    value_unique binary32 (narrow x) x s (m * 2 ^ j) (narrow_fits x) fit
    (subst (λ (v : Float). HasValue v s (m * 2 ^ j) (2 ^ 149)) (sym (narrow_value x s (m * 2 ^ j) (2 ^ 149) (pow_pos 149) h))
    (round_exact binary32 s (m * 2 ^ j) (2 ^ 149) m j (pow_pos 149) few under refl))
    h

-- what `fits` says of a number that is not 0
record Held (m : ℕ) (e : ℤ) : Type 0 where
  few : m < 2 ^ 24
  fine : down e ≤ 2 ^ 149
  under : m * up e < 2 ^ 128 * down e

held : (s : Bool) (m : ℕ) (e : ℤ) → T (fits binary32 (fin s (suc m) e)) → Held (suc m) e
unfolding fits
held s m e h =
    let A = eqb (suc m % 2) 1 in
    let B = ltb (suc m) (2 ^ 24) in
    let C = leb (down e) (2 ^ 149) in
    let D = ltb (suc m * up e) (2 ^ 128 * down e) in
    record {
      few = ltb→lt (suc m) (2 ^ 24) (and_r A B (and_l (A && B) C (and_l (A && B && C) D h)));
      fine = leb→le (down e) (2 ^ 149) (and_r (A && B) C (and_l (A && B && C) D h));
      under = ltb→lt (suc m * up e) (2 ^ 128 * down e) (and_r (A && B && C) D h);
    }

pub narrow_keeps : (x : Float) → T (fits binary32 x) → narrow x ≡ x
unfolding narrow
narrow_keeps nan h = refl
narrow_keeps (inf s) h = refl
narrow_keeps (fin s zero e) h = keeps (fin s 0 e) s 0 0 h (refl, ap (λ (x : ℕ). x * 2 ^ 149) (zero-mul (up e)) ∙ sym (zero-mul (down e))) (lit< tt) (lit< tt)
narrow_keeps (fin s (suc m) (pos k)) h =
    let b = held s m (pos k) h in
    let e = joined (suc m) k 149 (k + 149) refl in
    keeps (fin s (suc m) (pos k)) s (suc m) (k + 149) h (refl, e ∙ sym (mul-one (suc m * 2 ^ (k + 149)))) b.few
    (subst (λ (n : ℕ). n < 2 ^ 277) e (mul-lt-mul_of_pos_right {k = 2 ^ 149} (lt_of_lt_of_le b.under (le_of_eq (mul-one (2 ^ 128)))) (pow_pos 149)))
narrow_keeps (fin s (suc m) (negsuc k)) h =
    let b = held s m (negsuc k) h in
    let l : suc k < 150 = pow_lt_back (suc k) 150 (2 ^ 149) b.fine (lit< tt) in
    let j : 149 - suc k + suc k ≡ 149 = omega arith in
    let n : 24 + (149 - suc k) ≤ 277 = omega arith in
    keeps (fin s (suc m) (negsuc k)) s (suc m) (149 - suc k) h
    (refl, ap (λ (x : ℕ). x * 2 ^ 149) (mul-one (suc m)) ∙ sym (joined (suc m) (149 - suc k) (suc k) 149 j))
    b.few
    (lt_of_lt_of_le (shl_lt 24 (149 - suc k) b.few) (pow_mono n))
