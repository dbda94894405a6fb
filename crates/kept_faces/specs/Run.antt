-- A run of faces that are kept.
use Rattle.std.specs.Prelude.{ℕ, suc, cond, List, [], ◌∷◌, eqb}

-- how many marks at the front of a list are 0
unfoldable pub kept_run : List ℕ → ℕ
kept_run [] = 0
kept_run (x ∷ xs) = cond (eqb x 0) (suc (kept_run xs)) 0
