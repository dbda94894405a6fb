-- The same buffers, step by step.
use Rattle.std.specs.Prelude.{refl}
use Rattle.std.proofs.Common.{◌∙◌}
use Rattle.cells.specs.declared.buffers.LayerMut.{LayerMut}
use Rattle.cells.specs.Lent.{SameBuffers}

pub same_none : (a : LayerMut) → SameBuffers a a
same_none a = record { numbers = refl; depths = refl; weights = refl; width = refl; height = refl }

pub same_then : {a b c : LayerMut} → SameBuffers a b → SameBuffers b c → SameBuffers a c
same_then s t =
    record {
      numbers = s.numbers ∙ t.numbers;
      depths = s.depths ∙ t.depths;
      weights = s.weights ∙ t.weights;
      width = s.width ∙ t.width;
      height = s.height ∙ t.height;
    }
