-- The columns before x are written.
use Prim.Native.Nat.{◌-◌, ◌≤◌}
use mathlib.Core.Path.{◌≡◌}
use mathlib.Core.List.{flat_map}
use lib.ListN.{length}
use Rattle.lists.specs.Lists.{span}
use Rattle.outlines.specs.Answer.{ends_of}
use Rattle.outline_views.specs.Laws.{column_items}
use Rattle.outline_views.specs.Answer.{seen_of}
use Rattle.antialias.specs.Smoothing.{written, writes}
use Rattle.antialias.proofs.smooth_row.Given as goal

abbrev pub invariant-loop-x : goal.invariant-loop-x
invariant-loop-x l = (length l.vout ≡ length l.vin)
    × (l.initial.x ≤ l.x)
    × (l.x - l.initial.x ≤ l.x-end - l.initial.x)
    × (l.vout ≡ written l.initial.vout (flat_map (column_items (writes l.vin) (seen_of l.o) (ends_of l.t.reach.e) l.y) (span l.initial.x (l.x - l.initial.x))))
