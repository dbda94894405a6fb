-- The edges before number k are added.
use mathlib.Core.Path.{◌≡◌}
use mathlib.Core.List.{flat_map}
use lib.ListN.{length}
use Rattle.lists.specs.Lists.{span}
use Rattle.meshes.specs.Sums.{summed}
use Rattle.outline_views.specs.Outline.{edge_turn}
use Rattle.outline_views.specs.Answer.{seen_of}
use Rattle.antialias_bwd.specs.Additions.{crossing_additions}
use Rattle.antialias_bwd.proofs.scatter_outline.Given as goal

abbrev pub invariant-loop-k : goal.invariant-loop-k
invariant-loop-k l = (length l.sums ≡ length l.initial.sums)
    × (l.sums
    ≡ summed l.initial.sums (flat_map (edge_turn (crossing_additions l.o.m.now l.o.vtx2xyz.now l.values.pix2val.now l.values.dldw_pix2val.now) (seen_of l.o)) (span 0 l.k)))
