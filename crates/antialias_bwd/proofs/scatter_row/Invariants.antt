-- The columns before x are added.
use Prim.Native.Nat.{◌-◌, ◌≤◌}
use mathlib.Core.Path.{◌≡◌}
use mathlib.Core.List.{flat_map}
use lib.ListN.{length}
use Rattle.lists.specs.Lists.{span}
use Rattle.meshes.specs.Sums.{summed}
use Rattle.outlines.specs.Answer.{ends_of}
use Rattle.outline_views.specs.Laws.{column_items}
use Rattle.outline_views.specs.Answer.{seen_of}
use Rattle.antialias_bwd.specs.Answer.{brought}
use Rattle.antialias_bwd.proofs.scatter_row.Given as goal

abbrev pub invariant-loop-x : goal.invariant-loop-x
invariant-loop-x l = (length l.sums ≡ length l.initial.sums)
    × (l.initial.x ≤ l.x)
    × (l.x - l.initial.x ≤ l.x-end - l.initial.x)
    × (l.sums ≡ summed l.initial.sums (flat_map (column_items (brought l.values l.a) (seen_of l.o) (ends_of l.a.t.reach.e) l.y) (span l.initial.x (l.x - l.initial.x))))
