-- A number divided by 2 ^ by to the nearest whole number, as `shift_nearest` does it: by a shift, and by what the shift drops.
use Rattle.std.proofs.Common.{◌≡◌, ℕ, suc, ◌+◌, ◌-◌, ◌*◌, ◌/◌, ◌%◌, ◌^◌, ◌<◌, ◌≤◌, T, eqb, sym, refl, ap, ◌∙◌, subst, le_trans, le_of_eq, lt_of_le_of_lt, le_of_lt, mod-eq_of_lt, one-mul, div-add-mod', div-mul-le_self, arith, lit<, pow_pos, pow_mono}
use Prim.Native.Nat.{compare, Ordering}
use lib.Dec.{compare_is_eq, eqb_refl}
use lib.Ieee.{nearest}
use lib.Ieee.Nearest.{closest, closest_mono}
use Rattle.roots.specs.Laws.Neighbours.{nearest_down, nearest_up}

-- ---- by twice the remainder

nearest_tie : (q a b : ℕ) → a ≡ b → nearest q (compare a b) ≡ q + q % 2
nearest_tie q a b e = go (compare a b) (subst (λ (x : ℕ). T (eqb a x)) e (eqb_refl a))
  where
    go : (o : Ordering) → T (compare_is_eq o) → nearest q o ≡ q + q % 2
    go Ordering.lt t = absurd t
    go Ordering.eq t = refl
    go Ordering.gt t = absurd t

pub closest_down : (q u : ℕ) → q % u * 2 < u → closest q u ≡ q / u
closest_down q u = nearest_down (q / u) (q % u * 2) u

pub closest_up : (q u : ℕ) → u < q % u * 2 → closest q u ≡ suc (q / u)
closest_up q u = nearest_up (q / u) (q % u * 2) u

pub closest_tie : (q u : ℕ) → q % u * 2 ≡ u → closest q u ≡ q / u + q / u % 2
closest_tie q u = nearest_tie (q / u) (q % u * 2) u

-- a half at most is nearest to 0
pub closest_none : (q u : ℕ) → 0 < u → q * 2 ≤ u → closest q u ≡ 0
closest_none q u U h = none (closest q u) (closest_mono q u 1 2 U (pow_pos 1) (le_trans h (le_of_eq (sym (one-mul u)))))
  where
    none : (a : ℕ) → a ≤ 0 → a ≡ 0
    none a h = omega arith

-- ---- what the code works out, by at most 62 and q below 2 ^ 62: nothing wraps
module _ (q by : ℕ) (few : q < 2 ^ 62) (within : by ≤ 62) where
  wraps_not : {a : ℕ} → a ≤ 2 ^ 62 → a % 2 ^ 64 ≡ a
  wraps_not {a} h = mod-eq_of_lt (lt_of_le_of_lt h (lit< tt))

  unit_is : 1 * 2 ^ by % 2 ^ 64 ≡ 2 ^ by
  unit_is = ap (λ (u : ℕ). u % 2 ^ 64) (one-mul (2 ^ by)) ∙ wraps_not (pow_mono within)

  back_is : q / 2 ^ by * 2 ^ by % 2 ^ 64 ≡ q / 2 ^ by * 2 ^ by
  back_is = wraps_not (le_trans (div-mul-le_self q (2 ^ by)) (le_of_lt few))

  pub back_le : q / 2 ^ by * 2 ^ by % 2 ^ 64 ≤ q
  back_le = le_trans (le_of_eq back_is) (div-mul-le_self q (2 ^ by))

  rest_is : q - q / 2 ^ by * 2 ^ by % 2 ^ 64 ≡ q % 2 ^ by
  rest_is = go (q / 2 ^ by * 2 ^ by) (q % 2 ^ by) (q / 2 ^ by * 2 ^ by % 2 ^ 64) (div-add-mod' q (2 ^ by)) back_is
    where
      go : (a r b : ℕ) → a + r ≡ q → b ≡ a → q - b ≡ r
      go a r b e h = omega arith

  pub shifted : (1 * 2 ^ by % 2 ^ 64 ≡ 2 ^ by) × (q - q / 2 ^ by * 2 ^ by % 2 ^ 64 ≡ q % 2 ^ by)
  shifted = (unit_is, rest_is)
