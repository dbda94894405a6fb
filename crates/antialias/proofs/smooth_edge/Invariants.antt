-- The rows before y are written.
use Prim.Native.Nat.{◌-◌, ◌≤◌}
use mathlib.Core.Path.{◌≡◌}
use mathlib.Core.List.{flat_map}
use lib.ListN.{length}
use Rattle.lists.specs.Lists.{span}
use Rattle.outlines.specs.Answer.{ends_of}
use Rattle.outline_views.specs.Laws.{row_items}
use Rattle.outline_views.specs.Answer.{seen_of}
use Rattle.antialias.specs.Smoothing.{written, writes}
use Rattle.antialias.proofs.smooth_edge.Given as goal

abbrev pub invariant-loop-y : goal.invariant-loop-y
invariant-loop-y l = (length l.vout ≡ length l.vin)
    × (l.initial.y ≤ l.y)
    × (l.y - l.initial.y ≤ l.y-end - l.initial.y)
    × (l.vout ≡ written l.initial.vout (flat_map (row_items (writes l.vin) (seen_of l.o) (ends_of l.t.reach.e)) (span l.initial.y (l.y - l.initial.y))))
