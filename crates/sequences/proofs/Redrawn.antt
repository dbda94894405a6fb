-- A face list drawn, and what its map names; and another list that shows the same faces under other numbers.
use Rattle.std.specs.Prelude.{ℕ, zero, suc, ◌<◌, ◌≡◌, refl, ◌⊎◌, not, T, ltb, length, get_or}
use Rattle.std.proofs.Math.Path.{ap, sym}
use Rattle.std.proofs.Common.{◌∙◌, zero-add, arith, ltb→lt, nltb→le}
use Rattle.std.proofs.Math.Logic.{inl, inr}
use mathlib.Core.List.{List, ◌∷◌, map, Memᴰ}
use Rattle.std.proofs.Math.ListN.{get_or-eq_default}
use Rattle.lists.specs.Lists.{tabulate}
use Rattle.lists.specs.Laws.Tables.{get_or-tabulate}
use Rattle.questions.specs.Questions.{empty}
use Rattle.offers.specs.Offer.{renamed}
use Rattle.offers.specs.Offers.{offers_of, Shows, uncovered, covered}
use Rattle.offers.proofs.Laws.Order.{test}
use Rattle.offers.proofs.Laws.Greatest.{first-of-greatest}
use Rattle.offers.proofs.Laws.Joins.{won}
use Rattle.offers.proofs.Laws.Removal.{is_there, was_brought}
use Rattle.offers.proofs.Laws.Faces.{brought_number}
use Rattle.cells.specs.Cell.{Hit, Cell, no_hit, numbered}
use Rattle.cells.specs.Layer.{Layer}
use Rattle.cells.proofs.Laws.Numbers.{numbered_number, with_number}
use Rattle.cells.proofs.Laws.Cells.{same_buffers}
use Rattle.cells.proofs.Laws.Pixels.{pixelwise_same}
use Rattle.meshes.specs.Mesh.{Face}
use Rattle.meshes.specs.View.{entry_at}
use Rattle.rules.specs.Offers.{Scene, brings, brought, offers, Holds}
use Rattle.sequences.specs.Whole.{pixel_count, fresh}
use Rattle.sequences.proofs.Whole.{fresh_pixels, fresh-spans}
use Rattle.sequences.specs.Redrawn.{drawn_map, renumbered}

module _ (sc : Scene) (fs : List Face) where
  -- an offer is of a face of the list, and so is the one that holds a pixel
  pub offer-face : (p : ℕ) (c : Cell) → Memᴰ c (offers sc fs 0 p) → c.payload.number < length fs
  unfolding offers brought
  offer-face p c m =
      omega (arith, (brought_number (λ (h : Hit). h.number) (λ j f. numbered j (brings sc f p)) (λ k f o. numbered_number k (brings sc f p) o) 0 fs c (was_brought c (brought sc fs 0 p) m).0).1)

  pub holds_face : (i p : ℕ) → Holds sc fs i p → i < length fs
  unfolding Holds
  holds_face i p held = omega (arith, offer-face p held.0 (is_there held.1), held.2)

  pub entry_is : (p : ℕ) → p < pixel_count sc → entry_at (drawn_map sc fs) p ≡ (won no_hit (brought sc fs 0 p)).payload.number
  entry_is p h =
      ap (λ (l : Layer). get_or l.pix2tri p empty) (fresh_pixels sc fs 0)
      ∙ get_or-tabulate (λ q. (won no_hit (brought sc fs 0 q)).payload.number) 0 (pixel_count sc) p empty h
      ∙ ap (λ (q : ℕ). (won no_hit (brought sc fs 0 q)).payload.number) (zero-add p)

  -- an entry is empty, or the number of the face that holds the pixel
  pub entry_holds : (p : ℕ) → (entry_at (drawn_map sc fs) p ≡ empty) ⊎ ((p < pixel_count sc) × Holds sc fs (entry_at (drawn_map sc fs) p) p)
  unfolding Holds offers
  entry_holds p = go (test (ltb p (pixel_count sc)))
    where
      inside : p < pixel_count sc → Shows no_hit (offers_of (brought sc fs 0 p)) (won no_hit (brought sc fs 0 p))
          → (entry_at (drawn_map sc fs) p ≡ empty) ⊎ ((p < pixel_count sc) × Holds sc fs (entry_at (drawn_map sc fs) p) p)
      inside h (uncovered e k) = inl (entry_is p h ∙ ap (λ (c : Cell). c.payload.number) k)
      inside h (covered g) = inr (h, (won no_hit (brought sc fs 0 p), g, sym (entry_is p h)))

      go : T (ltb p (pixel_count sc)) ⊎ T (not (ltb p (pixel_count sc))) → (entry_at (drawn_map sc fs) p ≡ empty) ⊎ ((p < pixel_count sc) × Holds sc fs (entry_at (drawn_map sc fs) p) p)
      go (inl t) = inside (ltb→lt p (pixel_count sc) t) (first-of-greatest no_hit (brought sc fs 0 p))
      go (inr t) = inl (get_or-eq_default (drawn_map sc fs) empty (omega (arith, (fresh-spans sc fs 0).numbers, nltb→le p (pixel_count sc) t)))

map-tabulate : (g : ℕ → ℕ) (f : ℕ → ℕ) (p n : ℕ) → tabulate (λ q. g (f q)) p n ≡ map g (tabulate f p n)
unfolding tabulate
map-tabulate g f p zero = refl
map-tabulate g f p (suc n) = ap (λ (l : List ℕ). g (f p) ∷ l) (map-tabulate g f (suc p) n)

-- where every pixel is the old one renamed, so is the layer
pub redrawn : (sc : Scene) (r : ℕ → ℕ) (fs fs' : List Face) → ((p : ℕ) → p < pixel_count sc → won no_hit (brought sc fs' 0 p) ≡ renamed (with_number r) (won no_hit (brought sc fs 0 p)))
    → fresh sc fs' 0 ≡ renumbered r (fresh sc fs 0)
unfolding renamed with_number
redrawn sc r fs fs' same =
    fresh_pixels sc fs' 0
    ∙ pixelwise_same (pixel_count sc) _ _ same
    ∙ same_buffers (map-tabulate r (λ p. (won no_hit (brought sc fs 0 p)).payload.number) 0 (pixel_count sc)) refl refl
    ∙ ap (renumbered r) (sym (fresh_pixels sc fs 0))
