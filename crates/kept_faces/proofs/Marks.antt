-- The marks at the front of a list that are 0: how they are counted, and what their count says.
use Prim.Native.Nat.{ℕ, zero, suc, ◌+◌, ◌≤◌, ◌<◌}
use mathlib.Core.Path.{◌≡◌, refl}
use mathlib.Core.Bool.{Bool, true, false, not, cond}
use mathlib.Core.List.{List, [], ◌∷◌}
use native.Mathlib.Nat.{not-suc-le-zero}
use native.Mathlib.Numerals.{add-one}
use native.Mathlib.Omega.{arith}
use borrow.Author.Tests.{eq-eqb, ne_eqb}
use lib.Dec.{T, eqb}
use lib.ListN.{length, get_or, drop, drop_of_length-le}
use lib.Seq.{drop-cons}
use Rattle.kept_faces.specs.Run.{kept_run}

-- ---- counting, mark by mark

module _ (xs : List ℕ) (i : ℕ) where
  pub run_more : i < length xs → get_or xs i 0 ≡ 0 → kept_run (drop i xs) ≡ suc (kept_run (drop (i + 1) xs))
  unfolding kept_run
  run_more h e = rw (add-one, drop-cons xs i 0 h, eq-eqb (get_or xs i 0) 0 e)

  pub run_stops : i < length xs → (get_or xs i 0 ≡ 0 → ⊥) → kept_run (drop i xs) ≡ 0
  unfolding kept_run
  run_stops h e = rw (drop-cons xs i 0 h, ne_eqb (get_or xs i 0) 0 e)

  pub run-over : length xs ≤ i → kept_run (drop i xs) ≡ 0
  unfolding kept_run
  run-over h = rw (drop_of_length-le xs h)

-- ---- what the count says

-- the marks before the n-th are 0, and the n-th, if there is one, is not
pub record Counted (xs : List ℕ) (n : ℕ) : Type 0 where
  pub within : n ≤ length xs
  pub zeros : (j : ℕ) → j < n → T (eqb (get_or xs j 0) 0)
  pub other : n < length xs → T (not (eqb (get_or xs n 0) 0))

pub counted : (xs : List ℕ) → Counted xs (kept_run xs)
unfolding kept_run
counted [] = record { within = omega arith; zeros = λ j h. absurd (not-suc-le-zero h); other = λ h. absurd (not-suc-le-zero h) }
counted (x ∷ xs) = go (eqb x 0) refl (counted xs)
  where
    go : (b : Bool) → eqb x 0 ≡ b → Counted xs (kept_run xs) → Counted (x ∷ xs) (cond b (suc (kept_run xs)) 0)
    go true e c = record { within = omega (arith, c.within); zeros = zeros; other = λ h. c.other (omega arith) }
      where
        zeros : (j : ℕ) → j < suc (kept_run xs) → T (eqb (get_or (x ∷ xs) j 0) 0)
        zeros zero h = rw e tt
        zeros (suc j) h = c.zeros j (omega arith)
    go false e c = record { within = omega arith; zeros = λ j h. absurd (not-suc-le-zero h); other = λ h. rw e tt }
