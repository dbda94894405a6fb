-- Since 02's Point 6 a piece with a corner not finite in pixels is offered no pixel. No layer changes by that: what the faces bring a pixel is the same list
-- under the scan as it was, which asked for the closed box alone.
use Rattle.std.specs.Prelude.{ℕ, ◌*◌, ◌/◌, ◌%◌, ◌≡◌, refl, Bool, true, false, cond, List, [], Float}
use Rattle.std.proofs.Common.{sym}
use Rattle.geometry.specs.Vector.{Vec3, Triangle}
use Rattle.cells.specs.Cell.{Candidate}
use Rattle.cells.specs.Layer.{Layer}
use Rattle.meshes.specs.Mesh.{Face}
use Rattle.rules.specs.Piece.{Piece}
use Rattle.rules.specs.Scan.{screened, centre_at, in_closed_box, finite_in_pixels, scans, counts, depth_at, candidate}
use Rattle.rules.specs.Offers.{Scene, piece_brings, brought}
use Rattle.rules.specs.Draw.{painted, drawn}
use Rattle.rules.proofs.Laws.Finite.{nowhere}
use Rattle.rules.proofs.Laws.Instead.{brought_by, brought-by, drawn-by}

-- under the scan as it was
unfoldable pub candidate_before : (Float → Bool) → Triangle (Vec3 Float) → ℕ → ℕ → List Candidate
candidate_before counted s ix iy = cond (in_closed_box s ix iy) (depth_at counted s (centre_at ix iy)) []

unfoldable pub piece_before : Scene → Piece → ℕ → List Candidate
piece_before sc t p = candidate_before (counts sc.facing t.turned) (screened sc.width sc.height t.corners) (p % sc.width) (p / sc.width)

-- a piece brings each pixel what it brought
candidate_same : (counted : Float → Bool) (s : Triangle (Vec3 Float)) (ix iy : ℕ) → candidate counted s ix iy ≡ candidate_before counted s ix iy
unfolding candidate candidate_before scans
candidate_same counted s ix iy = go (finite_in_pixels s) refl
  where
    none : (b : Bool) → cond {A = List Candidate} b [] [] ≡ []
    none true = refl
    none false = refl

    go : (b : Bool) → finite_in_pixels s ≡ b → candidate counted s ix iy ≡ candidate_before counted s ix iy
    go true e = rw e
    go false e = rw (e, nowhere counted s (centre_at ix iy) e) (sym (none (in_closed_box s ix iy)))

module _ (sc : Scene) where
  piece_same : (t : Piece) (p : ℕ) → piece_brings sc.facing sc.width sc.height t p ≡ piece_before sc t p
  unfolding piece_brings piece_before
  piece_same t p = candidate_same (counts sc.facing t.turned) (screened sc.width sc.height t.corners) (p % sc.width) (p / sc.width)

  -- what the faces bring a pixel
  pub brought_same : (fs : List Face) (k p : ℕ) → brought sc fs k p ≡ brought_by (piece_before sc) sc fs k p
  brought_same = brought-by (piece_before sc) sc piece_same

  -- and every layer that they are drawn on
  pub drawn_same : (fs : List Face) (k : ℕ) (l : Layer) → drawn sc fs k l ≡ painted (brought_by (piece_before sc) sc fs k) (sc.width * sc.height) l
  drawn_same = drawn-by (piece_before sc) sc piece_same
