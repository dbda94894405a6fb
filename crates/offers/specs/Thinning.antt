-- Faces taken out of a list, and the new numbers of those kept.
use Rattle.std.specs.Prelude.{ℕ, zero, suc, Bool, cond, List, [], ◌∷◌, eqb}

-- the faces whose numbers pass, the first face numbered k
unfoldable pub kept_from : {F : Type 0} → (ℕ → Bool) → ℕ → List F → List F
kept_from keep k [] = []
kept_from keep k (f ∷ fs) = cond (keep k) (f ∷ kept_from keep (suc k) fs) (kept_from keep (suc k) fs)

-- the count of kept faces before face k
unfoldable pub kept_before : (ℕ → Bool) → ℕ → ℕ
kept_before keep zero = 0
kept_before keep (suc k) = cond (keep k) (suc (kept_before keep k)) (kept_before keep k)

-- "A kept face's new number is the count of kept faces before it; empty stays empty."
unfoldable pub renumber : ℕ → (ℕ → Bool) → ℕ → ℕ
renumber empty keep k = cond (eqb k empty) empty (kept_before keep k)
