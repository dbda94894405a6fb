-- A vertex that is a corner of no face in the map, and one that is an end of no outline edge.
use Rattle.std.specs.Prelude.{ℕ, ◌/◌, ◌<◌, ◌≡◌, length}
use mathlib.Core.List.{List}
use Rattle.meshes.specs.Mesh.{Face, face_at}
use Rattle.meshes.specs.View.{entry_at}
use Rattle.outline_views.specs.Outline.{OutlineEdge, outline_edge_at}

-- v is no corner of f
abbrev pub Free : Face → ℕ → Type 0
Free f v = (v ≡ f.v0 → ⊥) × (v ≡ f.v1 → ⊥) × (v ≡ f.v2 → ⊥)

-- "A vertex of no face in the map is a corner of no face that an entry names": an entry past the end of the face list names none.
abbrev pub Unnamed : List ℕ → List ℕ → ℕ → Type 0
Unnamed tri names v = (p : ℕ) → entry_at names p < length tri / 3 → Free (face_at tri (entry_at names p)) v

-- v is neither end of e
abbrev pub NoEnd : OutlineEdge → ℕ → Type 0
NoEnd e v = (v ≡ e.v0 → ⊥) × (v ≡ e.v1 → ⊥)

-- "a vertex of no outline edge", of a slice of edges
abbrev pub OffOutline : List ℕ → ℕ → Type 0
OffOutline edges v = (k : ℕ) → k < length edges / 2 → NoEnd (outline_edge_at edges k) v
