-- Rows of a column: none, one, some and then more, and the first of them.
use Prim.Native.Nat.{ℕ, ◌+◌, ◌-◌, ◌*◌, ◌≤◌}
use mathlib.Core.Path.{◌≡◌, sym, ap, ap₂, ◌∙◌}
use mathlib.Core.Logic.{◌⊎◌, inl, inr}
use mathlib.Core.List.{List, [], ◌∷◌, ◌++◌, append_assoc}
use native.Mathlib.Omega.{arith}
use lib.ListN.{length, take}
use lib.Seq.{take-append-add}
use Rattle.lists.specs.Lists.{tabulate}
use Rattle.lists.specs.Laws.Tables.{length-tabulate, tabulate-add}
use Rattle.pixels.specs.Pixel.{pixel, number_in}
use Rattle.rules.specs.Visits.{down}
use Rattle.blocks.specs.Rows.{rows_down}

module _ (w ix : ℕ) where
  pub rows_none : (y0 y1 : ℕ) → y1 ≤ y0 → rows_down w ix y0 y1 ≡ []
  unfolding rows_down down tabulate
  rows_none y0 y1 h = let e : y1 - y0 ≡ 0 = omega arith in rw e

  pub rows-one : (iy : ℕ) → rows_down w ix iy (iy + 1) ≡ (iy * w + ix) ∷ []
  unfolding rows_down down tabulate
  rows-one iy = let e : iy + 1 - iy ≡ 1 = omega arith in rw e

  -- some, and then more
  pub rows_append : (y0 y1 y2 : ℕ) → y0 ≤ y1 → y1 ≤ y2 → rows_down w ix y0 y1 ++ rows_down w ix y1 y2 ≡ rows_down w ix y0 y2
  unfolding rows_down down
  rows_append y0 y1 y2 h k =
      let e : y1 ≡ y0 + (y1 - y0) = omega arith in
      let f : y1 - y0 + (y2 - y1) ≡ y2 - y0 = omega arith in
      ap (λ (y : ℕ). rows_down w ix y0 y1 ++ down w ix y (y2 - y1)) e
      ∙ sym (tabulate-add (λ y. number_in w (pixel ix y)) y0 (y1 - y0) (y2 - y1))
      ∙ ap (down w ix y0) f

  -- the first n of rows and a rest: m rows, as many as there are or as n asks for, and of the rest what n leaves
  pub take-column : (y0 y1 n : ℕ) (rest : List ℕ) (m : ℕ) → m ≤ n → m ≤ y1 - y0 → (m ≡ n) ⊎ (m ≡ y1 - y0)
      → take n (rows_down w ix y0 y1 ++ rest) ≡ rows_down w ix y0 (y0 + m) ++ take (n - m) rest
  unfolding rows_down down tabulate
  take-column y0 y1 n rest m h k e =
      let i : n ≡ length first + (n - m) = omega (arith, length-tabulate (λ y. number_in w (pixel ix y)) y0 m) in
      let j : y1 - y0 ≡ m + (y1 - y0 - m) = omega arith in
      let all : y0 + m - y0 ≡ m = omega arith in
      ap₂ (λ (a : ℕ) (ps : List ℕ). take a (ps ++ rest)) i (ap (down w ix y0) j ∙ tabulate-add (λ y. number_in w (pixel ix y)) y0 m (y1 - y0 - m))
      ∙ ap (take (length first + (n - m))) (append_assoc first later rest)
      ∙ take-append-add first (later ++ rest) (n - m)
      ∙ ap₂ (λ (a : ℕ) (ps : List ℕ). down w ix y0 a ++ ps) (sym all) (go e)
    where
      first : List ℕ
      first = down w ix y0 m

      later : List ℕ
      later = down w ix (y0 + m) (y1 - y0 - m)

      go : (m ≡ n) ⊎ (m ≡ y1 - y0) → take (n - m) (later ++ rest) ≡ take (n - m) rest
      go (inl e) = let z : n - m ≡ 0 = omega arith in rw z
      go (inr e) = let z : y1 - y0 - m ≡ 0 = omega arith in rw z
