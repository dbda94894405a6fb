-- A pixel that removed faces alone cover.
use Rattle.std.specs.Prelude.{ℕ, ◌≡◌, Bool, not, T}
use mathlib.Core.List.{List, [], Memᴰ}
use Rattle.cells.specs.Cell.{Cell}
use Rattle.meshes.specs.Mesh.{Face}
use Rattle.rules.specs.Offers.{Scene, offers}

-- "covered by removed faces alone": there is an offer, and each is of a face that is not kept
pub record Alone (sc : Scene) (fs : List Face) (keep : ℕ → Bool) (p : ℕ) : Type 0 where
  pub is_covered : offers sc fs 0 p ≡ [] → ⊥
  pub removed : (c : Cell) → Memᴰ c (offers sc fs 0 p) → T (not (keep c.payload.number))
