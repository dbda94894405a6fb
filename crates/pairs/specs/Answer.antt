-- What the code's structs stand for.
use Rattle.std.specs.Prelude.{ℕ, ◌≡◌}
use Rattle.meshes.specs.View.{view_of}
use Rattle.meshes.specs.declared.View.{View}
use Rattle.pixels.specs.Edge as Edge
use Rattle.pixels.specs.Edge.{edge_from}
pub use Rattle.pixels.specs.Answer.{axis_of}
use Rattle.pixels.specs.declared.Axis.{Axis}
use Rattle.pixels.specs.declared.Pixel.{Pixel}
use Rattle.pairs.specs.Pairs.{EdgeView, edge_view}

-- the pair whose first pixel is p
abbrev pub edge_of : Axis → Pixel → Edge.Edge
edge_of a p = edge_from (axis_of a) p.x p.y

-- what an edge pass sees
abbrev pub seen_of : View → EdgeView
seen_of v = edge_view (view_of v.mesh.tri2vtx.now v.pix2tri.now) v.m.now v.mesh.vtx2xyz.now v.size.w

-- what an accepted call's view is of: an image h high, and what a pass sees of it
pub record Lent (v : View) (h : ℕ) (s : EdgeView) : Type 0 where
  pub height : v.size.h ≡ h
  pub seen : seen_of v ≡ s
