-- Laws of the walk over the edges of an axis, row by row.
use Rattle.std.specs.Prelude.{ℕ, zero, suc, ◌+◌, ◌*◌, ◌-◌, ◌/◌, ◌%◌, ◌<◌, ◌≤◌, ◌≡◌, Bool, true, false, ◌&&◌, cond}
use Rattle.std.proofs.Common.{sym, ◌∙◌, ap, ap₂, add-zero, div-add-mod', div-lt_iff_lt-mul, mod-eq_of_lt, mul-zero, zero-mul, mul-add, mul_comm, mul-le-mul, mul-le-mul_right, arith}
use Rattle.std.proofs.Math.Bool.{and-true, and-false}
use Rattle.std.proofs.Math.Nat.{div-eq_of_lt, div-eq_of_lt-le, mul-add-div_right, mul-add-mod_self_right}
use Rattle.lists.specs.Lists.{span, count}
use Rattle.lists.specs.Laws.Sums.{count_add, count_same, count_alike}
use Rattle.pixels.specs.Edge.{Axis, edge_from, edge_at, per_row, rows, edge_count}

-- A walk from place to place, which no code takes any more: its laws stand, as they say what a row and its pixels are in one number.

-- (x', y') comes after (x, y), in rows of n
pub record Follows (n x y x' y' : ℕ) : Type 0 where
  pub column : x' < n
  pub number : y' * n + x' ≡ y * n + x + 1

-- (x, y) is place i of a walk in rows of n
pub record Walked (n i x y : ℕ) : Type 0 where
  pub number : y * n + x ≡ i
  pub column : 0 < n → x < n

pub walked_none : (n : ℕ) → Walked n 0 0 0
walked_none n = record { number = omega arith; column = λ p. p }

pub walked_more : {n i x y x' y' : ℕ} → Walked n i x y → Follows n x y x' y' → Walked n (i + 1) x' y'
walked_more {n} {i} {x} {y} {x'} {y'} w f = record { number = f.number ∙ ap (λ (k : ℕ). k + 1) w.number; column = λ p. f.column }

wide : (m n i : ℕ) → i < m * n → 0 < n
wide m zero i h = absurd (omega (arith, rw (mul-zero m) at h))
wide m (suc n) i h = omega arith

-- Place i of a walk in m rows of n lies in the rows, and its column and row are i's.
module _ {n i x y : ℕ} (m : ℕ) (k : Walked n i x y) (h : i < m * n) where
  pub in_row : x < n
  in_row = k.column (wide m n i h)

  row_of : i / n ≡ y
  row_of = let e = k.number in let l = in_row in div-eq_of_lt-le n (omega arith) (omega arith)

  column-of : i % n ≡ x
  column-of = let e = k.number in let d : i / n * n + i % n ≡ i = div-add-mod' i n in let d' : y * n + i % n ≡ i = rw row_of at d in omega arith

  pub in_column : y < m
  in_column = rw row_of at ((div-lt_iff_lt-mul (wide m n i h)).1 h)

-- so the pair from (x, y) is pair number i
pub walked_edge : {i x y : ℕ} (a : Axis) (w h : ℕ) → Walked (per_row a w) i x y → i < edge_count a w h → edge_at a w i ≡ edge_from a x y
unfolding edge_at
walked_edge a w h k l = ap₂ (edge_from a) (column-of (rows a h) k l) (row_of (rows a h) k l)

-- column and row of a number in rows of n
pub row-at : (n y x : ℕ) → x < n → (y * n + x) / n ≡ y
row-at n y x h = mul-add-div_right {m = n} (omega arith) y x ∙ ap (λ (k : ℕ). y + k) (div-eq_of_lt h) ∙ add-zero y

pub column-at : (n y x : ℕ) → x < n → (y * n + x) % n ≡ x
column-at n y x h = mul-add-mod_self_right y n x ∙ mod-eq_of_lt h

-- the number of a pixel of the image, and a bound on how many there are
pub number_below : {w h x y : ℕ} → x < w → y < h → y * w + x < w * h
number_below {w} {h} {x} {y} a b = let l : (y + 1) * w ≤ h * w = mul-le-mul_right w (omega arith) in omega (arith, mul_comm w h)

pub area_below : {w h : ℕ} → w ≤ 4096 → h ≤ 4096 → w * h ≤ 16777216
area_below a b = mul-le-mul a b

-- an axis has no more pairs than the largest image has pixels
pub edges_few : {w h : ℕ} → w ≤ 4096 → h ≤ 4096 → (right down : ℕ) → (h - down) * (w - right) ≤ 16777216
edges_few a b right down = area_below (omega arith) (omega arith)

-- ---- pixels counted by column and row

module _ (f g : ℕ → Bool) (w : ℕ) where
  -- whether the pixel numbered p is one
  abbrev both : ℕ → Bool
  both p = f (p % w) && g (p / w)

  alone : (b : Bool) → count (λ i. f i && b) (span 0 w) ≡ count f (span 0 w) * cond b 1 0
  alone true = count_same (λ i. f i && true) f 0 0 w (λ i h. and-true (f (0 + i))) ∙ omega arith
  alone false = count_alike (λ i. f i && false) false 0 w (λ i h. and-false (f (0 + i))) ∙ omega arith

  -- row y
  row_count : (y : ℕ) → count both (span (0 + y * w) w) ≡ count f (span 0 w) * cond (g y) 1 0
  row_count y =
      count_same both (λ i. f i && g y) (0 + y * w) 0 w
      (λ i h.
      let k : 0 + y * w + i ≡ y * w + i = omega arith in
      let j : i ≡ 0 + i = omega arith in
      ap both k ∙ ap₂ (λ (c r : ℕ). f c && g r) (column-at w y i h ∙ j) (row-at w y i h))
      ∙ alone (g y)

  by_rows : (h : ℕ) → count both (span 0 (h * w)) ≡ count f (span 0 w) * count g (span 0 h)
  by_rows zero = ap (λ (n : ℕ). count both (span 0 n)) (zero-mul w) ∙ count_alike both false 0 0 (λ i l. absurd (omega arith)) ∙ sym (ap (λ (n : ℕ). count f (span 0 w) * n) (count_alike g false 0 0 (λ i l. absurd (omega arith))) ∙ mul-zero _)
  by_rows (suc h) =
      ap (λ (n : ℕ). count both (span 0 n)) next
      ∙ count_add both 0 (h * w) w
      ∙ ap₂ ◌+◌ (by_rows h) (row_count h)
      ∙ sym (ap (λ (n : ℕ). count f (span 0 w) * n) last ∙ mul-add _ _ _)
    where
      next : suc h * w ≡ h * w + w
      next = omega arith

      last : count g (span 0 (suc h)) ≡ count g (span 0 h) + cond (g h) 1 0
      last = let e : suc h ≡ h + 1 = omega arith in ap (λ (n : ℕ). count g (span 0 n)) e ∙ count_add g 0 h 1 ∙ ap (λ (n : ℕ). count g (span 0 h) + n) (count_alike g (g h) (0 + h) 1 (λ i l. let k : 0 + h + i ≡ h = omega arith in ap g k))

  -- so many columns times so many rows
  pub count_pixels : (h : ℕ) → count both (span 0 (w * h)) ≡ count f (span 0 w) * count g (span 0 h)
  count_pixels h = ap (λ (n : ℕ). count both (span 0 n)) (mul_comm w h) ∙ by_rows h
