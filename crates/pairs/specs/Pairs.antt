-- A pair of neighbouring pixels as an edge pass sees it, and question 8 of it.
use Rattle.std.specs.Prelude.{ℕ, Bool, ◌&&◌, ◌||◌, List, Float}
use Rattle.lists.specs.Lists.{span, every}
use Rattle.meshes.specs.View.{View}
use Rattle.pixels.specs.Pixel.{number_in}
use Rattle.pixels.specs.Edge.{Axis, hedge, vedge, Edge, edge_count, edge_at}
use Rattle.inside.specs.Inside.{projects}

-- what an edge pass sees: the map's view, the matrix `transform_world2pix`, the vertices, and the image's width
pub record EdgeView : Type 0 where
  pub view : View
  pub matrix : List Float
  pub vertices : List Float
  pub width : ℕ

abbrev pub edge_view : View → List Float → List Float → ℕ → EdgeView
edge_view v m xyz w = record { view = v; matrix = m; vertices = xyz; width = w }

-- the numbers of a pair's two pixels
abbrev pub first_of : ℕ → Edge → ℕ
first_of w e = number_in w e.first

abbrev pub second_of : ℕ → Edge → ℕ
second_of w e = number_in w e.second

abbrev pub equal_entries : EdgeView → Edge → Bool
equal_entries s e = s.view.alike (first_of s.width e) (second_of s.width e)

-- 8. ".. in edges, the corners of both faces of each unequal pair?"
unfoldable pub answered : EdgeView → Edge → Bool
answered s e =
    equal_entries s e
    || (projects s.matrix s.vertices (s.view.at (first_of s.width e))
    && projects s.matrix s.vertices (s.view.at (second_of s.width e)))

-- of every pair of an axis, in an image h high
unfoldable pub all_answered : Axis → ℕ → EdgeView → Bool
all_answered a h s = every (λ i. answered s (edge_at a s.width i)) (span 0 (edge_count a s.width h))

-- of both axes
abbrev pub both_answered : ℕ → EdgeView → Bool
both_answered h s = all_answered hedge h s && all_answered vedge h s
