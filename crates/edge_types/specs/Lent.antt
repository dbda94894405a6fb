-- What the code's buffers stand for.
use Rattle.std.specs.Prelude.{◌≡◌}
use Rattle.edge_types.specs.Axis as Axis
use Rattle.edge_types.specs.Axis.{axis_buffers}
use Rattle.edge_types.specs.declared.buffers.AxisBuffers.{AxisBuffers}

abbrev pub held : AxisBuffers → Axis.AxisBuffers
held b = axis_buffers b.types.now b.dldrs.now

-- b is a afterwards: the same buffers, whatever they hold
pub record SameBuffers (a b : AxisBuffers) : Type 0 where
  pub types : a.types.ghost_name ≡ b.types.ghost_name
  pub dldrs : a.dldrs.ghost_name ≡ b.dldrs.ghost_name
