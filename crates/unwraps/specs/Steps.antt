-- What the steps promise.
use Rattle.std.specs.Prelude.{ℕ, Bool, ◌&&◌, ◌||◌, Float}
use Rattle.std.proofs.Math.Option.{some}
use Rattle.geometry.specs.Vector.{Vec2, Projected, Triangle}
use Rattle.inside.specs.Inside.{present}
use Rattle.tris.specs.Weights.{world_in}
use Rattle.tris.specs.Tri.{unormal}
use Rattle.crossings.specs.Crossing.{skipped}

-- question 9 of an intersection
unfoldable pub crossing_answered : ℕ → Triangle (Projected Float) → Triangle (Projected Float) → Vec2 Float → Vec2 Float → Bool
crossing_answered axis t0 t1 q0 q1 = skipped axis (unormal t0) (unormal t1) || (present (world_in q0 (some t0)) && present (world_in q1 (some t1)))
