-- The pairs before row y are added.
use mathlib.Core.Path.{◌≡◌}
use mathlib.Core.List.{flat_map}
use Rattle.lists.specs.Lists.{span}
use Rattle.meshes.specs.Sums.{summed}
use Rattle.pixels.specs.Edge.{edge_from}
use Rattle.pairs.specs.Answer.{axis_of, seen_of}
use Rattle.pairs.specs.Values.{values_of}
use Rattle.share_rules.specs.Additions.{pair_additions}
use Rattle.axis_bwd.proofs.scatter_column.Given as goal

abbrev pub invariant-loop-y : goal.invariant-loop-y
invariant-loop-y l = l.sums
    ≡ summed l.initial.sums (flat_map (λ y. pair_additions (axis_of l.pairs.axis) (seen_of l.pairs.view) (values_of l.values) (edge_from (axis_of l.pairs.axis) l.x y)) (span 0 l.y))
