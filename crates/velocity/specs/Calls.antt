-- The whole outcome of `interpolate_from_edges`.
use Rattle.std.specs.Prelude.{ℕ, ◌&&◌, List, [], ◌∷◌, length, Float}
use Rattle.questions.specs.Questions.{ask, first_no, Outcome, answer, sizes, groups, exact, most_count}
use Rattle.lists.specs.Lists.{tabulate}
use Rattle.pixels.specs.Edge.{hedge, vedge, edge_count}
use Rattle.velocity.specs.Velocity.{velocity_at}

unfoldable pub velocity_code : ℕ → ℕ → List Float → List Float → List Float → List Float → ℕ
velocity_code w h hedge2vy vedge2vx xy velo =
    first_no (ask 1 (sizes 2 w h)
    ∷ ask 3 (groups 2 most_count (length xy))
    ∷ ask 4 (exact (edge_count hedge w h) (length hedge2vy) && (exact (edge_count vedge w h) (length vedge2vx) && exact (length xy) (length velo)))
    ∷ [])

-- the code, and `vtx2velo` afterwards
unfoldable pub velocities : ℕ → ℕ → List Float → List Float → List Float → List Float → Outcome (List Float)
velocities w h hedge2vy vedge2vx xy velo =
    answer (velocity_code w h hedge2vy vedge2vx xy velo) velo (tabulate (velocity_at w h hedge2vy vedge2vx xy) 0 (length xy))
