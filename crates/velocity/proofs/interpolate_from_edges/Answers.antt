use Rattle.velocity.proofs.Calls.{velocity_accepted, wide}
use Rattle.velocity.proofs.interpolate_from_edges.Goals as goal

pub invariant_of-size : goal.invariant_of-size
invariant_of-size c = record { sized = wide (velocity_accepted _ _ _ _ _ _ c.in_ok-ask_velocity.ensures).size }

pub invariant_of-edges : goal.invariant_of-edges
invariant_of-edges c = let known = velocity_accepted _ _ _ _ _ _ c.in_ok-ask_velocity.ensures in record { sized = known.size; hedges = known.hedges; vedges = known.vedges }

pub fill_velocities-requires : goal.fill_velocities-requires
fill_velocities-requires c = let known = velocity_accepted _ _ _ _ _ _ c.in_ok-ask_velocity.ensures in record { pairs = known.pairs; lent = known.lent }
