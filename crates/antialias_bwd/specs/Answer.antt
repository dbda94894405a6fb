-- What the code's structs stand for.
use Rattle.std.specs.Prelude.{◌*◌, ◌/◌, ◌<◌, ◌≡◌, List, length, Float}
use Rattle.jacobians.specs.Answer.{matrix_of}
use Rattle.meshes.specs.Sums.{Addition}
use Rattle.outlines.specs.Answer.{ends_of}
use Rattle.outline_views.specs.Outline.{Met}
use Rattle.outline_views.specs.Answer.{outline_edge_of}
use Rattle.outline_views.specs.declared.Outline.{Outline}
use Rattle.antialias_bwd.specs.declared.incoming.Incoming.{Incoming}
use Rattle.antialias_bwd.specs.declared.MovedEdge.{MovedEdge}
use Rattle.antialias_bwd.specs.Additions.{met_additions}

-- what a crossing of an edge adds, of the values lent
abbrev pub brought : Incoming → MovedEdge → Met → List Addition
brought v a = met_additions v.pix2val.now v.dldw_pix2val.now (outline_edge_of a.f) (matrix_of a.j0) (matrix_of a.j1) (ends_of a.t.reach.e)

-- what the loops over an edge's pixels know
pub record Ready (o : Outline) (v : Incoming) (a : MovedEdge) (sums : List Float) : Type 0 where
  pub width : a.t.reach.size.w ≡ o.size.w
  pub height : a.t.reach.size.h ≡ o.size.h
  pub pixels : length v.pix2val.now ≡ o.size.w * o.size.h
  pub first : a.f.v0 < length sums / 3
  pub second : a.f.v1 < length sums / 3

-- .. whatever was added, to as many sums
pub ready_still : {o : Outline} {v : Incoming} {a : MovedEdge} {sums new : List Float} → Ready o v a sums → length new ≡ length sums → Ready o v a new
ready_still r e = record { width = r.width; height = r.height; pixels = r.pixels; first = rw e r.first; second = rw e r.second }
