-- From what the steps of `clear` and `join` promise to the calls' whole outcomes.
use Rattle.std.specs.Prelude.{ℕ, ◌*◌, ◌≡◌, refl}
use Rattle.questions.specs.declared.Refusal.{Refusal}
use Rattle.questions.specs.Answer.{number_of}
use Rattle.questions.specs.Questions.{outcome}
use Rattle.questions.specs.Laws.{call_done}
use Rattle.questions.proofs.Laws.Refusals.{refused}
use Rattle.offers.specs.Offer.{pick}
use Rattle.cells.specs.Cell.{clear}
use Rattle.cells.specs.Layer.{Layer, at, pixelwise}
use Rattle.layers.specs.Calls.{clear_code, clearing, join_code, joining}

module _ (l : Layer) (w h : ℕ) where
  pub clear_refused : (r : Refusal) → number_of r ≡ clear_code l w h → outcome (number_of r) l ≡ clearing l w h
  unfolding clearing
  clear_refused r e = refused r _ e

  pub clear_done : (new : Layer) → 0 ≡ clear_code l w h → new ≡ pixelwise (w * h) (λ p. clear) → outcome 0 new ≡ clearing l w h
  unfolding clearing
  clear_done new e made = call_done l e refl made

module _ (l r : Layer) (w h : ℕ) where
  pub join_refused : (x : Refusal) → number_of x ≡ join_code l r w h → outcome (number_of x) l ≡ joining l r w h
  unfolding joining
  join_refused x e = refused x _ e

  pub join_done : (new : Layer) → 0 ≡ join_code l r w h → new ≡ pixelwise (w * h) (λ p. pick (at l p) (at r p)) → outcome 0 new ≡ joining l r w h
  unfolding joining
  join_done new e made = call_done l e refl made
