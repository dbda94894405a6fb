use mathlib.Core.List.{flat_map}
use Rattle.meshes.specs.Sums.{summed}
use Rattle.pairs.specs.Values.{values_of}
use Rattle.shares.proofs.Cases.{unequal_adds}
use Rattle.shares.proofs.scatter_pair.Goals as goal

pub returns-in-Both : goal.returns-in-Both
returns-in-Both c = rw (unequal_adds _ _ (values_of c.args.values.now) _ c.in-Some.ensures, c.in-Both.is, ← c.dldr-d.ensures) c.scatter_between.ensures

pub returns-in-Beside : goal.returns-in-Beside
returns-in-Beside c = rw (unequal_adds _ _ (values_of c.args.values.now) _ c.in-Some.ensures, c.in-Beside.is, ← c.dldr-d-in-Beside.ensures) c.scatter_beside_empty.ensures

pub returns-in-Neither : goal.returns-in-Neither
unfolding summed flat_map
returns-in-Neither c = rw (unequal_adds _ _ (values_of c.args.values.now) _ c.in-Some.ensures, c.in-Neither.is)
