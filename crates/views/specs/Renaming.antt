-- A map whose entries are renamed, together with the list they name. A thinned list is one instance, a shuffled one another.
use Rattle.std.specs.Prelude.{ℕ, ◌/◌, ◌<◌, ◌≡◌, List, length}
use Rattle.questions.specs.Questions.{empty}
use Rattle.meshes.specs.Mesh.{face_at}
use Rattle.meshes.specs.View.{entry_at}

-- r renumbers the entries of a map of n faces for a list of n': empty stays empty, no two entries that occur become one, and each names a face before and after.
pub record Renumbers (r : ℕ → ℕ) (names : List ℕ) (n n' : ℕ) : Type 0 where
  pub empty_stays : r empty ≡ empty
  pub apart : (p q : ℕ) → r (entry_at names p) ≡ r (entry_at names q) → entry_at names p ≡ entry_at names q
  pub was_there : (p : ℕ) → (entry_at names p ≡ empty → ⊥) → entry_at names p < n
  pub is_there : (p : ℕ) → (entry_at names p ≡ empty → ⊥) → r (entry_at names p) < n'

-- r renames the entries of the map `names` of the list `tri` for the list `tri'`: it renumbers them for the two face counts, and the new list's face at the new number is the old list's at the old.
pub record Renames (r : ℕ → ℕ) (tri names tri' : List ℕ) : Type 0 where
  pub numbers : Renumbers r names (length tri / 3) (length tri' / 3)
  pub same_face : (p : ℕ) → (entry_at names p ≡ empty → ⊥) → face_at tri' (r (entry_at names p)) ≡ face_at tri (entry_at names p)
