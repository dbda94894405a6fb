-- A list with faces taken out that hold no pixel.
use Rattle.std.specs.Prelude.{ℕ, ◌<◌, Bool, not, List, T, length}
use Rattle.meshes.specs.Mesh.{Face}
use Rattle.rules.specs.Offers.{Scene, Holds}
use Rattle.sequences.specs.Whole.{pixel_count}

-- of the faces that hold no pixel, some are not kept; the others all are
abbrev pub Idle : Scene → List Face → (ℕ → Bool) → Type 0
Idle sc fs keep = (i : ℕ) → i < length fs → T (not (keep i)) → (p : ℕ) → p < pixel_count sc → Holds sc fs i p → ⊥
