-- `load::drawing_load`: refused with no load, or the faces counted.
use Rattle.std.proofs.Common.{rules, sym}
use Rattle.load.proofs.Accepted.{load_accepted, load_refused, load_done}
use Rattle.load.proofs.drawing_load.Goals as goal

pub returns-in_err-ask_load : goal.returns-in_err-ask_load
returns-in_err-ask_load c = search (rules, load_refused)

pub invariant_of-mesh : goal.invariant_of-mesh
invariant_of-mesh c = record { sound = (load_accepted _ _ _ _ (sym c.in_ok-ask_load.ensures)).1 }

pub invariant_of-size : goal.invariant_of-size
invariant_of-size c = record { sized = (load_accepted _ _ _ _ (sym c.in_ok-ask_load.ensures)).0 }

pub mesh_load-requires : goal.mesh_load-requires
mesh_load-requires c = (load_accepted _ _ _ _ (sym c.in_ok-ask_load.ensures)).2

pub returns : goal.returns
returns c = load_done _ _ _ _ _ _ c.in_ok-ask_load.ensures c.mesh_load.ensures
