-- What an accepted call was asked.
use Rattle.std.specs.Prelude.{ℕ, ◌*◌, ◌/◌, ◌≡◌, length, Float}
use mathlib.Core.List.{List}
use Rattle.cells.specs.Layer.{Layer}
use Rattle.cells.specs.Steps.{Spans}
use Rattle.rules.specs.declared.Facing.TheVariants.{All}
use Rattle.rules.specs.Offers.{scene}
use Rattle.sequences.specs.Mesh.{Answered}

-- what an accepted call answers yes
pub record Asked (tri : List ℕ) (xyz : List Float) (w h : ℕ) (removed : List ℕ) (full short : Layer) : Type 0 where
  pub mesh : (m : List Float) → Answered (scene m xyz w h All) tri
  pub marks : length removed ≡ length tri / 3
  pub full_spans : Spans full (w * h)
  pub short_spans : Spans short (w * h)
