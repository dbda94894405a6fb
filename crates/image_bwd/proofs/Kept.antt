-- The same accumulators, step by step.
use Rattle.std.specs.Prelude.{refl}
use Rattle.std.proofs.Common.{◌∙◌}
use Rattle.pixel_bwd.specs.declared.Backward.{Backward}
use Rattle.pixel_bwd.specs.Answer.{SameSums}

pub same_none : (a : Backward) → SameSums a a
same_none a = record { xyz = refl; val = refl; vertices = refl; incoming = refl }

pub same_then : {a b c : Backward} → SameSums a b → SameSums b c → SameSums a c
same_then s t = record { xyz = s.xyz ∙ t.xyz; val = s.val ∙ t.val; vertices = s.vertices ∙ t.vertices; incoming = s.incoming ∙ t.incoming }
