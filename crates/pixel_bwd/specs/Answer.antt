-- What the code's accumulators stand for.
use Rattle.std.specs.Prelude.{◌≡◌}
use Rattle.pixel_bwd.specs.Additions.{Sums, sums}
use Rattle.pixel_bwd.specs.declared.Backward as code

-- what both hold
abbrev pub held : code.Backward → Sums
held b = sums b.dxyz.now b.dval.now

-- b is a afterwards: the same accumulators beside the same vertices and gradients, whatever they hold
pub record SameSums (a b : code.Backward) : Type 0 where
  pub xyz : a.dxyz.ghost_name ≡ b.dxyz.ghost_name
  pub val : a.dval.ghost_name ≡ b.dval.ghost_name
  pub vertices : a.vertices ≡ b.vertices
  pub incoming : a.dldw ≡ b.dldw
