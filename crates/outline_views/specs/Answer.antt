-- What the code's structs stand for.
use Rattle.std.specs.Prelude as std
use Rattle.std.specs.Prelude.{◌≡◌, Float, List, [], ◌∷◌, None, Some}
use Rattle.std.proofs.Math.Option.{Option, none, some}
use Rattle.outlines.specs.Formula as Formula
use Rattle.outlines.specs.Answer.{ends_of, crossing_in}
use Rattle.outlines.specs.declared.Ends as codeE
use Rattle.outline_views.specs.Outline as Outline
use Rattle.outline_views.specs.Outline.{OutlineView, outline_view, shown_in}
use Rattle.outline_views.specs.declared.Outline as codeO
use Rattle.outline_views.specs.declared.OutlineEdge as codeV
use Rattle.outline_views.specs.declared.Met as codeM

-- what a pass sees
abbrev pub seen_of : codeO.Outline → OutlineView
seen_of o = outline_view (shown_in o.pix2tri.now) o.cedge2vtx.now o.m.now o.vtx2xyz.now o.size.w o.size.h

abbrev pub outline_edge_of : codeV.OutlineEdge → Outline.OutlineEdge
outline_edge_of f = record { v0 = f.v0; v1 = f.v1 }

abbrev pub maybe_ends : std.Option codeE.Ends → Option (Formula.Ends Float)
maybe_ends None = none
maybe_ends (Some e) = some (ends_of e)

abbrev pub met_of : codeM.Met → Outline.Met
met_of k = record { first = k.first; second = k.second; crossing = crossing_in k.crossing }

-- one crossing, or none
abbrev pub mets_of : std.Option codeM.Met → List Outline.Met
mets_of None = []
mets_of (Some k) = met_of k ∷ []

-- the outline of an accepted call shows what the call was lent
pub record Lent (o : codeO.Outline) (s : OutlineView) : Type 0 where
  pub seen : seen_of o ≡ s
