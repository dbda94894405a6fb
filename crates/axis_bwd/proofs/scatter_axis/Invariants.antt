-- The columns before x are added.
use mathlib.Core.Path.{◌≡◌}
use mathlib.Core.List.{flat_map}
use Rattle.lists.specs.Lists.{span}
use Rattle.meshes.specs.Sums.{summed}
use Rattle.pairs.specs.Answer.{axis_of, seen_of}
use Rattle.pairs.specs.Values.{values_of}
use Rattle.axis_bwd.specs.Additions.{column_additions}
use Rattle.axis_bwd.proofs.scatter_axis.Given as goal

abbrev pub invariant-loop-x : goal.invariant-loop-x
invariant-loop-x l = l.sums
    ≡ summed l.initial.sums (flat_map (column_additions (axis_of l.pairs.axis) l.pairs.view.size.h (seen_of l.pairs.view) (values_of l.values)) (span 0 l.x))
