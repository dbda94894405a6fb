-- The whole outcomes of `clear` and `join`.
use Rattle.std.specs.Prelude.{ℕ, ◌*◌, Bool, ◌&&◌, [], ◌∷◌, length}
use Rattle.questions.specs.Questions.{ask, first_no, Outcome, answer, sizes, exact}
use Rattle.offers.specs.Offer.{pick}
use Rattle.cells.specs.Cell.{clear}
use Rattle.cells.specs.Layer.{Layer, at, pixelwise}

-- question 4 of a layer of w * h pixels, with three weights each
abbrev pub exact_layer : ℕ → ℕ → Layer → Bool
exact_layer w h l = exact (w * h) (length l.pix2tri) && (exact (w * h) (length l.pix2depth) && exact (3 * (w * h)) (length l.pix2weights))

unfoldable pub clear_code : Layer → ℕ → ℕ → ℕ
clear_code l w h = first_no (ask 1 (sizes 1 w h) ∷ ask 4 (exact_layer w h l) ∷ [])

-- `clear` makes every pixel clear.
unfoldable pub clearing : Layer → ℕ → ℕ → Outcome Layer
clearing l w h = answer (clear_code l w h) l (pixelwise (w * h) (λ p. clear))

unfoldable pub join_code : Layer → Layer → ℕ → ℕ → ℕ
join_code l r w h = first_no (ask 1 (sizes 1 w h) ∷ ask 4 (exact_layer w h l && exact_layer w h r) ∷ [])

-- `join` picks, pixel by pixel, and writes into the left layer.
unfoldable pub joining : Layer → Layer → ℕ → ℕ → Outcome Layer
joining l r w h = answer (join_code l r w h) l (pixelwise (w * h) (λ p. pick (at l p) (at r p)))
