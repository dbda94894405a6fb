-- From what the steps of `edge_gradient_and_type` promise to the call's whole outcome.
use Rattle.std.specs.Prelude.{ℕ, ◌≡◌, refl, List}
use Rattle.std.proofs.Common.{ap₂}
use Rattle.questions.specs.declared.Refusal.{Refusal}
use Rattle.questions.specs.Answer.{number_of}
use Rattle.questions.specs.Questions.{outcome}
use Rattle.questions.specs.Laws.{call_done}
use Rattle.questions.proofs.Laws.Refusals.{refused}
use Rattle.pixels.specs.Edge.{hedge, vedge}
use Rattle.pairs.specs.Pairs.{EdgeView}
use Rattle.pairs.specs.Gradient.{PixelValues}
use Rattle.edge_types.specs.Axis.{AxisBuffers, edges_of}
use Rattle.edges.specs.Calls.{EdgeBuffers, edge_buffers, edge_code, edge_typing}

module _ (tri map : List ℕ) (h : ℕ) (s : EdgeView) (v : PixelValues) (b : EdgeBuffers) where
  pub edge_refused : (r : Refusal) → number_of r ≡ edge_code tri map h s v b → outcome (number_of r) b ≡ edge_typing tri map h s v b
  unfolding edge_typing
  edge_refused r e = refused r _ e

  pub edge_done : (hs vs : AxisBuffers) → 0 ≡ edge_code tri map h s v b → hs ≡ edges_of hedge h s v → vs ≡ edges_of vedge h s v
      → outcome 0 (edge_buffers hs vs) ≡ edge_typing tri map h s v b
  unfolding edge_typing
  edge_done hs vs e eh ev = call_done b e refl (ap₂ edge_buffers eh ev)
