-- The same buffers, step by step.
use Rattle.std.specs.Prelude.{refl}
use Rattle.std.proofs.Common.{◌∙◌}
use Rattle.edge_types.specs.declared.buffers.AxisBuffers.{AxisBuffers}
use Rattle.edge_types.specs.Lent.{SameBuffers}

pub same_none : (b : AxisBuffers) → SameBuffers b b
same_none b = record { types = refl; dldrs = refl }

pub same_then : {a b c : AxisBuffers} → SameBuffers a b → SameBuffers b c → SameBuffers a c
same_then s t = record { types = s.types ∙ t.types; dldrs = s.dldrs ∙ t.dldrs }
