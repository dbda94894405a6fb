-- What both outline passes see of their arguments, the crossings of each edge, in order, and the questions.
use Rattle.std.specs.Prelude.{ℕ, ◌+◌, ◌*◌, ◌/◌, ◌%◌, Bool, not, ◌&&◌, cond, List, [], ◌∷◌, eqb, length, get_or, Float}
use Rattle.std.proofs.Math.Option.{Option, none, some}
use mathlib.Core.List.{flat_map}
use Rattle.lists.specs.Lists.{span, every}
use Rattle.questions.specs.Questions.{ask, first_no, sizes, edge_slices, exact, all_below, empty}
use Rattle.geometry.specs.Vector.{Projected, flat}
use Rattle.geometry.specs.Leaf.{project}
use Rattle.meshes.specs.Mesh.{vertex_at}
use Rattle.meshes.specs.View.{entry_at}
use Rattle.pixels.specs.Pixel.{Pixel, pixel, number_in, centre_of}
use Rattle.pixels.specs.Edge.{Edge}
use Rattle.inside.specs.Inside.{present}
use Rattle.outlines.specs.Formula.{Ends, ends, Crossing}
use Rattle.outlines.specs.Leaf.{crossing_between}
use Rattle.outlines.specs.Covered.{covers}
use Rattle.outlines.specs.Neighbours.{pair_axis, neighbour_pair, off_border}

-- Of the map a pass sees which pixels are empty, and nothing else: `shows` says which show a face. Beside it the edges, the matrix `transform_world2pix`, the vertices, and the
-- image's width and height.
pub record OutlineView : Type 0 where
  pub shows : ℕ → Bool
  pub edges : List ℕ
  pub matrix : List Float
  pub vertices : List Float
  pub width : ℕ
  pub height : ℕ

abbrev pub shown_in : List ℕ → ℕ → Bool
shown_in map p = not (eqb (entry_at map p) empty)

abbrev pub outline_view : (ℕ → Bool) → List ℕ → List Float → List Float → ℕ → ℕ → OutlineView
outline_view shows edges m xyz w h = record { shows = shows; edges = edges; matrix = m; vertices = xyz; width = w; height = h }

-- an edge by its two vertex numbers; edge number k of a slice
pub record OutlineEdge : Type 0 where
  pub v0 : ℕ
  pub v1 : ℕ

unfoldable pub outline_edge_at : List ℕ → ℕ → OutlineEdge
outline_edge_at edges k = record { v0 = get_or edges (2 * k) 0; v1 = get_or edges (2 * k + 1) 0 }

-- how many edges there are
abbrev pub edge_total : OutlineView → ℕ
edge_total s = length s.edges / 2

-- both ends in the picture, or none where one has no projection
unfoldable pub both_ends : Option (Projected Float) → Option (Projected Float) → Option (Ends Float)
both_ends none b = none
both_ends (some a) none = none
both_ends (some a) (some b) = some (ends (flat a.p) (flat b.p))

unfoldable pub project_edge : List Float → List Float → OutlineEdge → Option (Ends Float)
project_edge m xyz f = both_ends (project m (vertex_at xyz f.v0)) (project m (vertex_at xyz f.v1))

-- ---- crossings

-- a crossing that a pass meets: of its pair's two pixels, by their numbers, the first shows a face and the second is empty
pub record Met : Type 0 where
  pub first : ℕ
  pub second : ℕ
  pub crossing : Crossing Float

unfoldable pub met_at : ℕ → ℕ → Option (Crossing Float) → List Met
met_at p q none = []
met_at p q (some k) = record { first = p; second = q; crossing = k } ∷ []

-- of a pair
unfoldable pub pair_met : OutlineView → Ends Float → Edge → List Met
pair_met s e r =
    cond (s.shows (number_in s.width r.first) && not (s.shows (number_in s.width r.second)))
    (met_at (number_in s.width r.first) (number_in s.width r.second) (crossing_between (centre_of r.first) (centre_of r.second) e))
    []

-- of a pixel's four pairs
unfoldable pub pixel_met : OutlineView → Ends Float → Pixel → List Met
pixel_met s e p = flat_map (λ k. pair_met s e (neighbour_pair (pair_axis e) p k)) (span 0 4)

-- where the edge covers the pixel, off the border
unfoldable pub covered_met : OutlineView → Ends Float → Pixel → List Met
covered_met s e p = cond (off_border s.width s.height p && covers e p) (pixel_met s e p) []

-- of an edge: "pixels run in rising number"
unfoldable pub edge_met : OutlineView → Ends Float → List Met
edge_met s e = flat_map (λ n. covered_met s e (pixel (n % s.width) (n / s.width))) (span 0 (s.width * s.height))

-- ---- what a pass makes of them

-- what the crossings of an edge bring, where f says what one does
unfoldable pub edge_items : {B : Type 0} → (OutlineEdge → Ends Float → Met → List B) → OutlineView → OutlineEdge → Option (Ends Float) → List B
edge_items f s v none = []
edge_items f s v (some e) = flat_map (f v e) (edge_met s e)

-- those of edge number k
abbrev pub edge_turn : {B : Type 0} → (OutlineEdge → Ends Float → Met → List B) → OutlineView → ℕ → List B
edge_turn f s k = edge_items f s (outline_edge_at s.edges k) (project_edge s.matrix s.vertices (outline_edge_at s.edges k))

-- and those of all edges, in order
unfoldable pub outline_items : {B : Type 0} → (OutlineEdge → Ends Float → Met → List B) → OutlineView → List B
outline_items f s = flat_map (edge_turn f s) (span 0 (edge_total s))

-- ---- questions

-- 8. "question 8 covers both ends of each edge"
unfoldable pub edge_projects : OutlineView → ℕ → Bool
edge_projects s k = present (project_edge s.matrix s.vertices (outline_edge_at s.edges k))

abbrev pub edges_project : OutlineView → Bool
edges_project s = every (edge_projects s) (span 0 (edge_total s))

-- 4. of the map and two more images, by their lengths
unfoldable pub exact_images : ℕ → ℕ → ℕ → ℕ → ℕ → Bool
exact_images w h map a b = exact (w * h) map && (exact (w * h) a && exact (w * h) b)

-- the questions, where a pass says what 4 asks of it; 10: does no edge name a vertex that is not there?
unfoldable pub outline_code : OutlineView → Bool → ℕ
outline_code s lengths =
    first_no
    (ask 1 (sizes 1 s.width s.height)
    ∷ ask 3 (edge_slices (length s.edges) (length s.vertices))
    ∷ ask 4 lengths
    ∷ ask 10 (all_below (length s.vertices / 3) s.edges)
    ∷ ask 8 (edges_project s)
    ∷ [])
