-- Painting a layer: nothing changes nothing, one after the other is both in a row, and only what is brought counts.
use Rattle.std.specs.Prelude.{ℕ, ◌+◌, ◌*◌, ◌<◌, ◌≡◌, refl}
use Rattle.std.proofs.Math.Path.{sym, ap}
use Rattle.std.proofs.Common.{◌∙◌}
use mathlib.Core.List.{List, [], ◌++◌}
use Rattle.std.proofs.Math.ListN.{length}
use Rattle.offers.specs.Offer.{offered}
use Rattle.offers.specs.Offers as any
use Rattle.cells.specs.Cell.{Cell, numbered}
use Rattle.cells.specs.Layer.{Layer, at}
use Rattle.cells.specs.Steps.{Spans}
use Rattle.cells.proofs.Laws.Pixels.{at-pixelwise, spans-pixelwise}
use Rattle.offers.proofs.Laws.Greatest.{offered-append}
use Rattle.offers.proofs.Laws.Faces.{brought-append}
use Rattle.cells.proofs.Laws.Cells.{same_layer}
use Rattle.meshes.specs.Mesh.{Face}
use Rattle.rules.specs.Offers.{Scene, brings, brought}
use Rattle.rules.specs.Draw.{painted, drawn}

pub at-painted : (os : ℕ → List Cell) (n : ℕ) (l : Layer) (p : ℕ) → p < n → at (painted os n l) p ≡ offered (at l p) (os p)
unfolding painted
at-painted os n l p h = at-pixelwise n (λ q. offered (at l q) (os q)) p h

pub spans-painted : (os : ℕ → List Cell) (n : ℕ) (l : Layer) → Spans (painted os n l) n
unfolding painted
spans-painted os n l = spans-pixelwise n (λ q. offered (at l q) (os q))

module _ (n : ℕ) (l : Layer) where
  -- only what is brought to the image's pixels counts
  pub painted_same : (a b : ℕ → List Cell) → ((p : ℕ) → p < n → a p ≡ b p) → painted a n l ≡ painted b n l
  painted_same a b e =
      same_layer n (spans-painted a n l) (spans-painted b n l)
      (λ p h. at-painted a n l p h ∙ ap (offered (at l p)) (e p h) ∙ sym (at-painted b n l p h))

  -- nothing is brought
  pub painted_none : (os : ℕ → List Cell) → Spans l n → ((p : ℕ) → p < n → os p ≡ []) → painted os n l ≡ l
  unfolding offered
  painted_none os s e = same_layer n (spans-painted os n l) s (λ p h. at-painted os n l p h ∙ ap (offered (at l p)) (e p h))

  -- first a, then b
  pub painted-append : (a b : ℕ → List Cell) → painted b n (painted a n l) ≡ painted (λ p. a p ++ b p) n l
  painted-append a b =
      same_layer n (spans-painted b n (painted a n l)) (spans-painted (λ p. a p ++ b p) n l)
      (λ p h.
      at-painted b n (painted a n l) p h
      ∙ ap (λ (c : Cell). offered c (b p)) (at-painted a n l p h)
      ∙ sym (offered-append (at l p) (a p) (b p))
      ∙ sym (at-painted (λ q. a q ++ b q) n l p h))

-- ---- lists of faces

module _ (sc : Scene) where
  pub spans-drawn : (fs : List Face) (k : ℕ) (l : Layer) → Spans (drawn sc fs k l) (sc.width * sc.height)
  unfolding drawn
  spans-drawn fs k l = spans-painted (brought sc fs k) (sc.width * sc.height) l

  -- no face changes nothing
  pub drawn_none : (k : ℕ) (l : Layer) → Spans l (sc.width * sc.height) → drawn sc [] k l ≡ l
  unfolding drawn brought any.brought
  drawn_none k l s = painted_none (sc.width * sc.height) l (brought sc [] k) s (λ p h. refl)

  -- one list after the other, the second numbered on
  pub drawn-append : (xs ys : List Face) (k : ℕ) (l : Layer) → drawn sc (xs ++ ys) k l ≡ drawn sc ys (k + length xs) (drawn sc xs k l)
  unfolding drawn brought
  drawn-append xs ys k l =
      painted_same (sc.width * sc.height) l (brought sc (xs ++ ys) k) (λ p. brought sc xs k p ++ brought sc ys (k + length xs) p) (λ p h. brought-append (λ j f. numbered j (brings sc f p)) k xs ys)
      ∙ sym (painted-append (sc.width * sc.height) l (brought sc xs k) (brought sc ys (k + length xs)))
