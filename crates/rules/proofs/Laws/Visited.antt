-- What visits leave in a layer: pixel by pixel, whatever their order, and what a whole scan leaves is its piece painted.
use Prim.Native.Nat.{ℕ, zero, suc, ◌+◌, ◌*◌, ◌/◌, ◌%◌, ◌<◌, ◌≤◌}
use Rattle.std.specs.Prelude.{◌≡◌, Bool, ◌&&◌, cond, ◌⊎◌, ltb, length, get_or, take, drop}
use Rattle.std.proofs.Math.Path.{refl, sym, ap}
use Rattle.std.proofs.Common.{◌∙◌, inl, inr, add-one, take-append-drop, take_all, take-suc}
use Rattle.std.proofs.Math.Bool.{true, false}
use mathlib.Core.List.{List, [], ◌∷◌, ◌++◌}
use Rattle.std.proofs.Math.Nat.{zero-add}
use native.Mathlib.Omega.{arith}
use borrow.Author.Tests.{lt-ltb, ltb-true, eqb-true, eqb-false, eq-eqb}
use Rattle.std.proofs.Math.Dec.{eqb}
use Rattle.lists.specs.Lists.{span, filter, count}
use Rattle.lists.specs.Laws.Sums.{count_none, count-more, count-both}
use Rattle.lists.specs.Laws.Filters.{count_number, count-filter}
use Rattle.lists.specs.Laws.Tests.{both}
use Rattle.offers.specs.Offer.{offered}
use Rattle.cells.specs.Cell.{Cell, numbered}
use Rattle.cells.specs.Layer.{Layer, at}
use Rattle.cells.specs.Steps.{Spans, written}
use Rattle.cells.proofs.Laws.Cells.{same_layer, at-written, at_other, spans-written}
use Rattle.cells.proofs.Laws.Pixels.{spans_reaches}
use Rattle.rules.specs.declared.Facing.{Facing}
use Rattle.rules.specs.Piece.{Piece}
use Rattle.rules.specs.Scan.{screened, scans, candidate}
use Rattle.rules.specs.Offers.{piece_brings}
use Rattle.rules.specs.Draw.{painted}
use Rattle.rules.specs.Load.{piece_pixels}
use Rattle.rules.specs.Visits.{visits, visited, piece_cells, stopped_after}
use Rattle.rules.proofs.Laws.Paint.{at-painted, spans-painted}
use Rattle.rules.proofs.Laws.Visits.{cond_both, visits_once, visits_many}

-- `cs` is brought to a cell n times
unfoldable pub again : ℕ → List Cell → Cell → Cell
again zero cs c = c
again (suc n) cs c = again n cs (offered c cs)

module _ (os : ℕ → List Cell) where
  -- one list after the other
  pub visited-append : (ps qs : List ℕ) (l : Layer) → visited os (ps ++ qs) l ≡ visited os qs (visited os ps l)
  unfolding visited
  visited-append [] qs l = refl
  visited-append (p ∷ ps) qs l = visited-append ps qs (written l p (offered (at l p) (os p)))

  pub spans-visited : (ps : List ℕ) (l : Layer) (n : ℕ) → Spans l n → Spans (visited os ps l) n
  unfolding visited
  spans-visited [] l n s = s
  spans-visited (p ∷ ps) l n s = spans-visited ps _ n (spans-written l p (offered (at l p) (os p)) n s)

  -- pixel by pixel: what is brought to it, as often as it is visited
  pub at-visited : (ps : List ℕ) (l : Layer) (n : ℕ) → Spans l n → (p : ℕ) → p < n → at (visited os ps l) p ≡ again (count (eqb p) ps) (os p) (at l p)
  unfolding visited again
  at-visited [] l n s p h = rw (count_none (eqb p))
  at-visited (q ∷ ps) l n s p h =
      at-visited ps (written l q (offered (at l q) (os q))) n (spans-written l q (offered (at l q) (os q)) n s) p h
      ∙ go (eqb p q) refl
      ∙ ap (λ (k : ℕ). again k (os p) (at l p)) (sym (count-more (eqb p) q ps))
    where
      go : (b : Bool) → eqb p q ≡ b → again (count (eqb p) ps) (os p) (at (written l q (offered (at l q) (os q))) p) ≡ again (cond (eqb p q) 1 0 + count (eqb p) ps) (os p) (at l p)
      go true e =
          let i : 1 + count (eqb p) ps ≡ suc (count (eqb p) ps) = omega arith in
          rw (e, i, ← eqb-true p q e, at-written l p (offered (at l p) (os p)) (spans_reaches s p h))
      go false e = rw (e, zero-add (count (eqb p) ps), at_other l q p (offered (at l q) (os q)) (eqb-false p q e))

  -- visits of the same pixels in any order leave the same layer
  pub any_order : (ps qs : List ℕ) (l : Layer) (n : ℕ) → Spans l n → ((p : ℕ) → count (eqb p) ps ≡ count (eqb p) qs) → visited os ps l ≡ visited os qs l
  any_order ps qs l n s e =
      same_layer n (spans-visited ps l n s) (spans-visited qs l n s)
      (λ p h. at-visited ps l n s p h ∙ ap (λ (k : ℕ). again k (os p) (at l p)) (e p) ∙ sym (at-visited qs l n s p h))

  -- each pixel is visited once, or never and is brought nothing: the layer is painted
  pub visited-painted : (ps : List ℕ) (l : Layer) (n : ℕ) → Spans l n → ((p : ℕ) → p < n → (count (eqb p) ps ≡ 1) ⊎ ((count (eqb p) ps ≡ 0) × (os p ≡ []))) → visited os ps l ≡ painted os n l
  unfolding again offered
  visited-painted ps l n s e =
      same_layer n (spans-visited ps l n s) (spans-painted os n l)
      (λ p h. at-visited ps l n s p h ∙ go p (e p h) ∙ sym (at-painted os n l p h))
    where
      go : (p : ℕ) → (count (eqb p) ps ≡ 1) ⊎ ((count (eqb p) ps ≡ 0) × (os p ≡ [])) → again (count (eqb p) ps) (os p) (at l p) ≡ offered (at l p) (os p)
      go p (inl i) = rw i
      go p (inr (i, j)) = rw (i, j)

-- only what is brought to the visited pixels counts
pub visited_same : (os os' : ℕ → List Cell) (ps : List ℕ) (l : Layer) → ((p : ℕ) → 0 < count (eqb p) ps → os p ≡ os' p) → visited os ps l ≡ visited os' ps l
unfolding visited
visited_same os os' [] l e = refl
visited_same os os' (p ∷ ps) l e =
    ap (λ (cs : List Cell). visited os ps (written l p (offered (at l p) cs))) (e p (rw (count-more (eqb p) p ps, eq-eqb p p refl) (omega arith)))
    ∙ visited_same os os' ps _ (λ q h. e q (rw (count-more (eqb q) p ps) (omega arith)))

-- ---- a scan that is stopped

-- after no visit the layer is as it was
pub stopped_none : (facing : Facing) (w h : ℕ) (t : Piece) (k : ℕ) (l : Layer) → stopped_after 0 facing w h t k l ≡ l
unfolding stopped_after visited
stopped_none facing w h t k l = refl

-- one visit more: the next pixel of `visits`, and no other
pub stopped_more : (n : ℕ) (facing : Facing) (w h : ℕ) (t : Piece) (k : ℕ) (l : Layer) → n < length (visits w h (screened w h t.corners))
    → stopped_after (n + 1) facing w h t k l ≡ visited (piece_cells facing w h t k) (get_or (visits w h (screened w h t.corners)) n 0 ∷ []) (stopped_after n facing w h t k l)
unfolding stopped_after
stopped_more n facing w h t k l m =
    rw (add-one n, take-suc (visits w h (screened w h t.corners)) n 0 m)
    (visited-append (piece_cells facing w h t k) (take n (visits w h (screened w h t.corners))) (get_or (visits w h (screened w h t.corners)) n 0 ∷ []) l)

-- not stopped: after as many visits as the piece has pixels, or more, the piece is painted
pub stopped_all : (n : ℕ) (facing : Facing) (w h : ℕ) (t : Piece) (k : ℕ) (l : Layer) → Spans l (w * h) → piece_pixels w h t ≤ n → stopped_after n facing w h t k l ≡ painted (piece_cells facing w h t k) (w * h) l
unfolding stopped_after piece_cells piece_brings candidate numbered
stopped_all n facing w h t k l s m =
    rw (take_all n (visits w h (screened w h t.corners)) (omega (arith, visits_many w h t)))
    (visited-painted (piece_cells facing w h t k) (visits w h (screened w h t.corners)) l (w * h) s (λ p b. go p b (scans (screened w h t.corners) (p % w) (p / w)) refl))
  where
    -- a pixel that the scan does not hold is brought nothing
    go : (p : ℕ) → p < w * h → (b : Bool) → scans (screened w h t.corners) (p % w) (p / w) ≡ b
        → (count (eqb p) (visits w h (screened w h t.corners)) ≡ 1) ⊎ ((count (eqb p) (visits w h (screened w h t.corners)) ≡ 0) × (piece_cells facing w h t k p ≡ []))
    go p i true e = inl (visits_once w h (screened w h t.corners) p ∙ rw (lt-ltb p (w * h) i, e))
    go p i false e = inr (visits_once w h (screened w h t.corners) p ∙ rw (lt-ltb p (w * h) i, e), rw e)

-- the pixels that the scan holds, each visited once in whatever order, leave the layer that its own order leaves
pub order_free : (facing : Facing) (w h : ℕ) (t : Piece) (k : ℕ) (l : Layer) → Spans l (w * h) → (ps : List ℕ) → ((p : ℕ) → count (eqb p) ps ≡ cond (ltb p (w * h) && scans (screened w h t.corners) (p % w) (p / w)) 1 0)
    → visited (piece_cells facing w h t k) ps l ≡ visited (piece_cells facing w h t k) (visits w h (screened w h t.corners)) l
order_free facing w h t k l s ps e = any_order (piece_cells facing w h t k) ps (visits w h (screened w h t.corners)) l (w * h) s (λ p. e p ∙ sym (visits_once w h (screened w h t.corners) p))

-- row by row among them
pub rows_leave_the_same : (facing : Facing) (w h : ℕ) (t : Piece) (k : ℕ) (l : Layer) → Spans l (w * h)
    → visited (piece_cells facing w h t k) (filter (λ p. scans (screened w h t.corners) (p % w) (p / w)) (span 0 (w * h))) l ≡ visited (piece_cells facing w h t k) (visits w h (screened w h t.corners)) l
rows_leave_the_same facing w h t k l s =
    order_free facing w h t k l s (filter held (span 0 (w * h))) (λ p. count-filter held p (span 0 (w * h)) ∙ ap (λ (n : ℕ). cond (held p) n 0) (count_number p (w * h)) ∙ cond_both (ltb p (w * h)) (held p))
  where
    held : ℕ → Bool
    held p = scans (screened w h t.corners) (p % w) (p / w)

-- stopped or not: only what is brought to the pixels that the scan holds counts
pub stopped_same : (n : ℕ) (facing : Facing) (w h : ℕ) (t : Piece) (k : ℕ) (l : Layer) (os : ℕ → List Cell) → ((p : ℕ) → p < w * h → scans (screened w h t.corners) (p % w) (p / w) ≡ true → os p ≡ piece_cells facing w h t k p)
    → visited os (take n (visits w h (screened w h t.corners))) l ≡ stopped_after n facing w h t k l
unfolding stopped_after
stopped_same n facing w h t k l os e =
    visited_same os (piece_cells facing w h t k) (take n (visits w h (screened w h t.corners))) l
    (λ p m. go p m (ltb p (w * h) && scans (screened w h t.corners) (p % w) (p / w)) refl)
  where
    go : (p : ℕ) → 0 < count (eqb p) (take n (visits w h (screened w h t.corners))) → (b : Bool) → ltb p (w * h) && scans (screened w h t.corners) (p % w) (p / w) ≡ b → os p ≡ piece_cells facing w h t k p
    go p m true i = let j = both (ltb p (w * h)) _ i in e p (ltb-true p (w * h) j.0) j.1
    go p m false i =
        let parts = count-both (eqb p) (take n (visits w h (screened w h t.corners))) (drop n (visits w h (screened w h t.corners))) in
        let whole = ap (count (eqb p)) (take-append-drop n (visits w h (screened w h t.corners))) in
        let none : count (eqb p) (visits w h (screened w h t.corners)) ≡ 0 = visits_once w h (screened w h t.corners) p ∙ rw i in
        absurd (omega arith)
