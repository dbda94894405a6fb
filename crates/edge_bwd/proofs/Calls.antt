-- From what the steps of `bwd` promise to the call's whole outcome.
use Rattle.std.specs.Prelude.{ℕ, ◌≡◌, refl, List, Float}
use Rattle.questions.specs.declared.Refusal.{Refusal}
use Rattle.questions.specs.Answer.{number_of}
use Rattle.questions.specs.Questions.{outcome}
use Rattle.questions.specs.Laws.{call_done}
use Rattle.questions.proofs.Laws.Refusals.{refused}
use Rattle.meshes.specs.Sums.{summed}
use Rattle.meshes.specs.Laws.{summed_then}
use Rattle.pixels.specs.Edge.{hedge, vedge}
use Rattle.pairs.specs.Pairs.{EdgeView}
use Rattle.pairs.specs.Gradient.{PixelValues}
use Rattle.axis_bwd.specs.Additions.{axis_additions}
use Rattle.edge_bwd.specs.Calls.{bwd_code, pass_additions, edge_bwd}

module _ (tri map : List ℕ) (h : ℕ) (s : EdgeView) (v : PixelValues) (dxyz : List Float) where
  pub bwd_refused : (r : Refusal) → number_of r ≡ bwd_code tri map h s v dxyz → outcome (number_of r) dxyz ≡ edge_bwd tri map h s v dxyz
  unfolding edge_bwd
  bwd_refused r e = refused r _ e

  pub bwd_done : (mid after : List Float) → 0 ≡ bwd_code tri map h s v dxyz → mid ≡ summed dxyz (axis_additions hedge h s v)
      → after ≡ summed mid (axis_additions vedge h s v) → outcome 0 after ≡ edge_bwd tri map h s v dxyz
  unfolding edge_bwd pass_additions
  bwd_done mid after e p q = call_done dxyz e refl (summed_then dxyz (axis_additions hedge h s v) (axis_additions vedge h s v) p q)
