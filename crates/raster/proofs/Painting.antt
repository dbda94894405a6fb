-- One piece and the pieces of a face, painted.
use Prim.Native.Nat.{ℕ, zero, suc, ◌*◌, ◌/◌, ◌%◌, ◌<◌}
use mathlib.Core.Path.{◌≡◌, refl, sym, ap, ◌∙◌}
use mathlib.Core.Bool.{Bool, false}
use mathlib.Core.List.{List, [], ◌∷◌, ◌++◌, flat_map, append-nil}
use lib.ListN.{take}
use lib.Ieee.{Float}
use Rattle.lists.specs.Lists.{tabulate}
use Rattle.geometry.specs.Vector.{Vec3, Triangle}
use Rattle.cells.specs.Cell.{Cell, numbered}
use Rattle.cells.specs.Layer.{Layer}
use Rattle.cells.specs.Steps.{Spans}
use Rattle.cells.proofs.Laws.Numbers.{numbered-append}
use Rattle.rules.specs.declared.Facing.{Facing}
use Rattle.rules.specs.Piece.{Piece}
use Rattle.rules.specs.Scan.{scans, counts, candidate, screened, centre_at}
use Rattle.rules.specs.Offers.{piece_brings, pieces_bring}
use Rattle.rules.specs.Draw.{painted}
use Rattle.rules.specs.Visits.{visits, visited, piece_cells, stopped_after}
use Rattle.rules.proofs.Laws.Paint.{painted_none, painted_same, painted-append}
use Rattle.rules.proofs.Laws.Visited.{stopped_same}
use Rattle.rules.specs.Weighs.{Weighs}
use Rattle.rules.proofs.Laws.Facing.{counted_same}
use Rattle.boxes.specs.declared.Box.{Box}
use Rattle.boxes.specs.Box.{Scanned}
use Rattle.boxes.proofs.Scans.{none_scanned}
use Rattle.blocks.specs.Rows.{depth_cells}
use Rattle.scan.specs.Columns.{box_visits}
use Rattle.scan.proofs.Order.{box-visits}
use Rattle.raster.specs.Face.{pieces_cells}

-- ---- one piece

module _ (n : ℕ) (facing : Facing) (w h k : ℕ) (t : Piece) (l : Layer) where
  -- the visits of its box, where the sums that count are those of the facing
  pub box-visited : {s : Triangle (Vec3 Float)} {b : Box} {new : Layer} {counted : Float → Bool} → s ≡ screened w h t.corners → Scanned s w h b → ((x : Float) → Weighs x → counted x ≡ counts facing t.turned x)
      → new ≡ visited (depth_cells counted s k w) (take n (box_visits w b)) l → new ≡ stopped_after n facing w h t k l
  unfolding depth_cells piece_cells piece_brings candidate
  box-visited {s} {b} {new} {counted} e sc f v =
      v
      ∙ ap (λ (ps : List ℕ). visited (depth_cells counted s k w) (take n ps) l) (sym (box-visits s w h sc))
      ∙ ap (λ (r : Triangle (Vec3 Float)). visited (depth_cells counted r k w) (take n (visits w h r)) l) e
      ∙ stopped_same n facing w h t k l (depth_cells counted (screened w h t.corners) k w)
      (λ p m held. rw held (ap (numbered k) (counted_same counted (counts facing t.turned) (screened w h t.corners) (centre_at (p % w) (p / w)) f)))

  -- a piece whose scan holds no pixel of the image
  pub untouched : ((ix iy : ℕ) → ix < w → iy < h → scans (screened w h t.corners) ix iy ≡ false) → l ≡ stopped_after n facing w h t k l
  unfolding box_visits tabulate flat_map visited
  untouched e = box-visited {counted = counts facing t.turned} refl (none_scanned (screened w h t.corners) w h e) (λ x m. refl) (none n)
    where
      none : (m : ℕ) → l ≡ visited (depth_cells (counts facing t.turned) (screened w h t.corners) k w) (take m []) l
      none zero = refl
      none (suc m) = refl

-- ---- the pieces of a face

module _ (facing : Facing) (w h k : ℕ) where
  pub no_pieces : (p : ℕ) → pieces_cells facing w h [] k p ≡ []
  unfolding pieces_cells pieces_bring numbered
  no_pieces p = refl

  one_more : (t : Piece) (ts : List Piece) (p : ℕ) → piece_cells facing w h t k p ++ pieces_cells facing w h ts k p ≡ pieces_cells facing w h (t ∷ ts) k p
  unfolding pieces_cells pieces_bring piece_cells
  one_more t ts p = sym (numbered-append k (piece_brings facing w h t p) (pieces_bring facing w h ts p))

  last_one : (t : Piece) (p : ℕ) → piece_cells facing w h t k p ≡ pieces_cells facing w h (t ∷ []) k p
  last_one t p = sym (append-nil _) ∙ ap (λ (r : List Cell). piece_cells facing w h t k p ++ r) (sym (no_pieces p)) ∙ one_more t [] p

  pub none_done : (l : Layer) → Spans l (w * h) → l ≡ painted (pieces_cells facing w h [] k) (w * h) l
  none_done l whole = sym (painted_none (w * h) l (pieces_cells facing w h [] k) whole (λ p m. no_pieces p))

  pub one_done : (l new : Layer) (t : Piece) → new ≡ painted (piece_cells facing w h t k) (w * h) l → new ≡ painted (pieces_cells facing w h (t ∷ []) k) (w * h) l
  one_done l new t e = e ∙ painted_same (w * h) l (piece_cells facing w h t k) (pieces_cells facing w h (t ∷ []) k) (λ p m. last_one t p)

  pub two_done :
      (l mid new : Layer) (t u : Piece)
      → mid ≡ painted (piece_cells facing w h t k) (w * h) l
      → new ≡ painted (piece_cells facing w h u k) (w * h) mid
      → new ≡ painted (pieces_cells facing w h (t ∷ u ∷ []) k) (w * h) l
  two_done l mid new t u e f =
      one_done mid new u f
      ∙ ap (painted (pieces_cells facing w h (u ∷ []) k) (w * h)) e
      ∙ painted-append (w * h) l (piece_cells facing w h t k) (pieces_cells facing w h (u ∷ []) k)
      ∙ painted_same (w * h) l (λ p. piece_cells facing w h t k p ++ pieces_cells facing w h (u ∷ []) k p) (pieces_cells facing w h (t ∷ u ∷ []) k) (λ p m. one_more t (u ∷ []) p)

-- ---- a face

module _ (facing : Facing) (w h number : ℕ) (l : Layer) where
  -- one that is passed over
  pub passed_over : {ps : List Piece} → Spans l (w * h) → [] ≡ ps → l ≡ painted (pieces_cells facing w h ps number) (w * h) l
  passed_over whole e = none_done facing w h number l whole ∙ ap (λ (qs : List Piece). painted (pieces_cells facing w h qs number) (w * h) l) e

  -- one whose pieces are drawn
  pub pieces-drawn : {ps qs : List Piece} {new : Layer} → new ≡ painted (pieces_cells facing w h ps number) (w * h) l → ps ≡ qs → new ≡ painted (pieces_cells facing w h qs number) (w * h) l
  pieces-drawn drawn e = drawn ∙ ap (λ (qs : List Piece). painted (pieces_cells facing w h qs number) (w * h) l) e
