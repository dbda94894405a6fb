-- What an accepted call of `clear` or `join` knows.
use Rattle.std.specs.Prelude.{ℕ, ◌*◌, ◌≡◌, true, ◌&&◌, length}
use mathlib.Core.List.{[]}
use Rattle.questions.specs.Questions.{sizes, exact}
use Rattle.lists.specs.Laws.Tests.{both}
use Rattle.questions.specs.Laws.{Sized, sized, accepted, exactly}
use Rattle.cells.specs.Layer.{Layer}
use Rattle.cells.specs.Steps.{Spans}
use Rattle.layers.specs.Calls.{exact_layer, clear_code, join_code}

pub exact-spans : (w h : ℕ) (l : Layer) → exact_layer w h l ≡ true → Spans l (w * h)
exact-spans w h l e =
    let parts = both (exact (w * h) (length l.pix2tri)) _ e in
    let others = both (exact (w * h) (length l.pix2depth)) _ parts.1 in
    record { numbers = exactly _ _ parts.0; depths = exactly _ _ others.0; weights = exactly _ _ others.1 }

module _ (l : Layer) (w h : ℕ) where
  pub clear_accepted : clear_code l w h ≡ 0 → Sized 1 w h × Spans l (w * h)
  unfolding clear_code
  clear_accepted e =
      let first = accepted 0 (sizes 1 w h) _ e in
      let second = accepted 3 (exact_layer w h l) [] first.1 in
      (sized 1 w h first.0, exact-spans w h l second.0)

module _ (l r : Layer) (w h : ℕ) where
  pub join_accepted : join_code l r w h ≡ 0 → Sized 1 w h × Spans l (w * h) × Spans r (w * h)
  unfolding join_code
  join_accepted e =
      let first = accepted 0 (sizes 1 w h) _ e in
      let second = accepted 3 (exact_layer w h l && exact_layer w h r) [] first.1 in
      let parts = both (exact_layer w h l) _ second.0 in
      (sized 1 w h first.0, exact-spans w h l parts.0, exact-spans w h r parts.1)
