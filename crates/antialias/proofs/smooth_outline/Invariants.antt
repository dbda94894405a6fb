-- The edges before number k are written.
use mathlib.Core.Path.{◌≡◌}
use mathlib.Core.List.{flat_map}
use lib.ListN.{length}
use Rattle.lists.specs.Lists.{span}
use Rattle.outline_views.specs.Outline.{edge_turn}
use Rattle.outline_views.specs.Answer.{seen_of}
use Rattle.antialias.specs.Smoothing.{written, writes}
use Rattle.antialias.proofs.smooth_outline.Given as goal

abbrev pub invariant-loop-k : goal.invariant-loop-k
invariant-loop-k l = (length l.vout ≡ length l.vin) × (l.vout ≡ written l.initial.vout (flat_map (edge_turn (λ v e. writes l.vin) (seen_of l.o)) (span 0 l.k)))
