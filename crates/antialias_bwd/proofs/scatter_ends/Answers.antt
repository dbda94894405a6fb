use mathlib.Core.Path.{ap, ap₂, ◌∙◌}
use mathlib.Core.List.{List, flat_map}
use Rattle.std.specs.Float.{Float}
use Rattle.geometry.specs.Arith.{floats}
use Rattle.geometry.specs.Leaf.{entries}
use Rattle.jacobians.specs.Formula.{Mat3, jacobian}
use Rattle.meshes.specs.Sums.{summed}
use Rattle.outlines.specs.Formula.{Ends}
use Rattle.outlines.specs.Answer.{ends_of}
use Rattle.outline_views.specs.Outline.{edge_items, edge_met}
use Rattle.outline_views.specs.Answer.{seen_of, outline_edge_of}
use Rattle.antialias_bwd.specs.Additions.{met_additions, crossing_additions}
use Rattle.antialias_bwd.proofs.scatter_ends.Goals as goal

pub returns : goal.returns
unfolding edge_items crossing_additions
returns c =
    let a = c.args in
    let v = a.values.now in
    let left : Mat3 Float → Mat3 Float → Ends Float → List Float =
    λ j0 j1 e. summed a.sums.now (flat_map (met_additions v.pix2val.now v.dldw_pix2val.now (outline_edge_of a.f) j0 j1 e) (edge_met (seen_of a.o.now) e)) in
    let turn = jacobian floats (entries a.o.now.m.now) in
    rw (← c.in-Some.ensures)
    (c.scatter_edge.ensures
    ∙ ap (left _ _) (ap ends_of c.trace.ensures.ends)
    ∙ ap₂ (λ j0 j1. left j0 j1 (ends_of c.in-Some.e)) (c.jacobian_transform.ensures ∙ ap turn c.vertex.ensures) (c.jacobian_transform-2.ensures ∙ ap turn c.vertex-2.ensures))

pub returns-in_default : goal.returns-in_default
unfolding edge_items summed
returns-in_default c = rw (← c.in_default.ensures) (λ i. c.args.sums.now)
