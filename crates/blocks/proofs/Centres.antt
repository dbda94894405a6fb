-- The centres of a column: a whole number added to one gives another, exactly, and the last one tells which rows come before the end.
use Prim.Native.Nat.{ℕ, ◌+◌, ◌*◌, ◌-◌, ◌^◌, ◌≤◌, ◌<◌}
use mathlib.Core.Path.{◌≡◌, refl, sym, ap}
use mathlib.Core.Bool.{Bool, true, false, ◌&&◌, ◌||◌, false≢true}
use native.Mathlib.Nat.{mul-pos}
use native.Mathlib.Omega.{arith}
use borrow.Author.Tests.{le-ltb, eq-eqb, ne_eqb, ltb-false}
use lib.Dec.{ltb, eqb}
use lib.IntN.{pos, negsuc}
use lib.Ieee.{Float, nan, inf, fin, binary32, prec, up, down, add, sum, round, of_int, of_bits, le, lt, eq}
use lib.Ieee.Exact.{HasValue}
use lib.Ieee.Back.{round_whole}
use lib.Ieee.Scale.{round_same}
use lib.Ieee.Fits.{down_pos}
use Rattle.pixels.specs.Pixel.{centre, half}
use Rattle.rules.proofs.Laws.Centre.{centre_is}

twice : (a d k : ℕ) → a * 1 ≡ k * d → (a * 2 + 1 * 1 * d) * 2 ≡ (k + k + 1) * (d * 2)
twice a d k e = omega (arith, e)

add_half : (x : Float) (k : ℕ) → HasValue x false k 1 → add binary32 x half ≡ round binary32 false (k + k + 1) 2
unfolding add sum of_bits
add_half nan k v = absurd v
add_half (inf s) k v = absurd v
add_half (fin true m e) k v = absurd (false≢true (sym v.0))
add_half (fin false m e) k v =
    round_same binary32 false (m * up e * 2 + 1 * 1 * down e) (down e * 2) (k + k + 1) 2 (mul-pos (down_pos e) (omega arith)) (omega arith)
    (twice (m * up e) (down e) k v.1)

-- a centre is the value of its fraction
centre_round : (k : ℕ) → k ≤ 2 ^ prec binary32 → centre k ≡ round binary32 false (k + k + 1) 2
unfolding centre of_int
centre_round k h = add_half (round binary32 false k 1) k (round_whole binary32 false k h)

-- j rows on, where j is n times a power of 2
centre_on : (i j n e : ℕ) → i < 4096 → j ≤ 4 → n * 2 ^ e ≡ j → add binary32 (centre i) (fin false n (pos e)) ≡ centre (i + j)
unfolding add sum
centre_on i j n e h l k =
    rw (centre_is i h, ap (λ (a : ℕ). round binary32 false a 2) (moved (n * 2 ^ e) k)) (sym (centre_round (i + j) (omega arith)))
  where
    moved : (x : ℕ) → x ≡ j → (i + i + 1) * 1 * 1 + x * 2 ≡ i + j + (i + j) + 1
    moved x f = omega arith

-- 1 to 4 rows on, as the code has the numbers
module _ (q : Float) (i : ℕ) (e : q ≡ centre i) (h : i < 4096) where
  pub on_1 : add binary32 q (of_bits binary32 0x3f80_0000) ≡ centre (i + 1)
  unfolding of_bits
  on_1 = rw e (centre_on i 1 1 0 h (omega arith) refl)

  pub on_2 : add binary32 q (of_bits binary32 0x4000_0000) ≡ centre (i + 2)
  unfolding of_bits
  on_2 = rw e (centre_on i 2 1 1 h (omega arith) refl)

  pub on_3 : add binary32 q (of_bits binary32 0x4040_0000) ≡ centre (i + 3)
  unfolding of_bits
  on_3 = rw e (centre_on i 3 3 0 h (omega arith) refl)

  pub on_4 : add binary32 q (of_bits binary32 0x4080_0000) ≡ centre (i + 4)
  unfolding of_bits
  on_4 = rw e (centre_on i 4 1 2 h (omega arith) refl)

-- ---- the order of centres

half-before : (i j : ℕ) → i ≤ j → le (fin false (i + i + 1) (negsuc 0)) (fin false (j + j + 1) (negsuc 0)) ≡ true
unfolding le lt eq
half-before i j h = go (ltb ((i + i + 1) * 1 * 2) ((j + j + 1) * 1 * 2)) refl
  where
    go : (t : Bool) → ltb ((i + i + 1) * 1 * 2) ((j + j + 1) * 1 * 2) ≡ t → ltb ((i + i + 1) * 1 * 2) ((j + j + 1) * 1 * 2) || (eqb ((i + i + 1) * 1 * 2) ((j + j + 1) * 1 * 2) && true) ≡ true
    go true e = rw e
    go false e = rw (e, eq-eqb ((i + i + 1) * 1 * 2) ((j + j + 1) * 1 * 2) (omega (arith, ltb-false ((i + i + 1) * 1 * 2) ((j + j + 1) * 1 * 2) e)))

half-after : (i j : ℕ) → j < i → le (fin false (i + i + 1) (negsuc 0)) (fin false (j + j + 1) (negsuc 0)) ≡ false
unfolding le lt eq
half-after i j h =
    rw (
      le-ltb ((i + i + 1) * 1 * 2) ((j + j + 1) * 1 * 2) (omega arith),
      ne_eqb ((i + i + 1) * 1 * 2) ((j + j + 1) * 1 * 2) (λ e. omega arith),
    )

-- row i is one of the n first, or not
pub centre-before : (i n : ℕ) → i < n → n ≤ 4096 → le (centre i) (centre (n - 1)) ≡ true
centre-before i n h l = rw (centre_is i (omega arith), centre_is (n - 1) (omega arith)) (half-before i (n - 1) (omega arith))

pub centre-after : (i n : ℕ) → 0 < n → n ≤ i → i < 4096 → le (centre i) (centre (n - 1)) ≡ false
centre-after i n p h l = rw (centre_is i l, centre_is (n - 1) (omega arith)) (half-after i (n - 1) (omega arith))
