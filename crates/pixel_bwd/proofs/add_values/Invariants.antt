use Rattle.std.proofs.Common.{◌≡◌}
use mathlib.Core.List.{flat_map}
use Rattle.lists.specs.Lists.{span}
use Rattle.geometry.specs.Answer.{weights_of}
use Rattle.meshes.specs.Answer.{face_of}
use Rattle.meshes.specs.Sums.{summed}
use Rattle.pixel_gradients.specs.Gradients.{incoming_at}
use Rattle.pixel_bwd.proofs.Laws.{turn}
use Rattle.pixel_bwd.proofs.add_values.Given as goal

abbrev pub invariant-loop-j : goal.invariant-loop-j
invariant-loop-j l = l.dval ≡ summed l.initial.dval (flat_map (turn l.c (face_of l.f) (incoming_at l.dldw l.at) (weights_of l.bc)) (span 0 l.j))
