-- The rows before y are added.
use Prim.Native.Nat.{◌-◌, ◌≤◌}
use mathlib.Core.Path.{◌≡◌}
use mathlib.Core.List.{flat_map}
use lib.ListN.{length}
use Rattle.lists.specs.Lists.{span}
use Rattle.meshes.specs.Sums.{summed}
use Rattle.outlines.specs.Answer.{ends_of}
use Rattle.outline_views.specs.Laws.{row_items}
use Rattle.outline_views.specs.Answer.{seen_of}
use Rattle.antialias_bwd.specs.Answer.{brought}
use Rattle.antialias_bwd.proofs.scatter_edge.Given as goal

abbrev pub invariant-loop-y : goal.invariant-loop-y
invariant-loop-y l = (length l.sums ≡ length l.initial.sums)
    × (l.initial.y ≤ l.y)
    × (l.y - l.initial.y ≤ l.y-end - l.initial.y)
    × (l.sums ≡ summed l.initial.sums (flat_map (row_items (brought l.values l.a) (seen_of l.o) (ends_of l.a.t.reach.e)) (span l.initial.y (l.y - l.initial.y))))
