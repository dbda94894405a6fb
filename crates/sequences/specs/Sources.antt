-- 02, Point 9: what a covered pixel holds comes from one piece of the face that it names: the weights are those of the pixel's centre in that piece, and the depth
-- is their blend with the depths of its corners.
use Prim.Native.Nat.{ℕ, ◌/◌, ◌%◌, ◌<◌}
use Rattle.std.specs.Prelude.{◌≡◌, ◌⊎◌, Float, length, get_or}
use Rattle.std.proofs.Math.Option.{some}
use mathlib.Core.List.{List, Memᴰ}
use Rattle.geometry.specs.Arith.{floats}
use Rattle.geometry.specs.Vector.{flat, weighed_by}
use Rattle.geometry.specs.Formula.{blend}
use Rattle.geometry.specs.Leaf.{corner_weights}
use Rattle.cells.specs.Cell.{Cell, clear}
use Rattle.cells.specs.Layer.{at}
use Rattle.meshes.specs.Mesh.{Face, face}
use Rattle.rules.specs.Piece.{Piece}
use Rattle.rules.specs.Scan.{screened, centre_at}
use Rattle.rules.specs.Offers.{Scene, face_pieces}
use Rattle.sequences.specs.Whole.{pixel_count}
use Rattle.sequences.specs.Case.{Case, faces, kept_faces, full, final}

-- the cell c is what a piece of the face that it names brings pixel p
pub record FromPiece (sc : Scene) (fs : List Face) (p : ℕ) (c : Cell) : Type 0 where
  pub face_there : c.payload.number < length fs
  pub piece : Piece
  pub piece_there : Memᴰ piece (face_pieces sc (get_or fs c.payload.number (face 0 0 0)))
  -- its weights are those of the pixel's centre in the piece on the screen, in the order of the piece's corners, over a sum
  pub sum : Float
  pub weights :
      let s = screened sc.width sc.height piece.corners in
      corner_weights (centre_at (p % sc.width) (p / sc.width)) (flat s.p0) (flat s.p1) (flat s.p2) ≡ some (weighed_by c.payload.weights sum)
  -- its depth is their blend with the depths of the corners
  pub depth : c.depth ≡ blend floats c.payload.weights piece.corners.p0.z piece.corners.p1.z piece.corners.p2.z

-- so every pixel of the whole drawing, and of the layer that remains
pub record Sources (c : Case) : Type 0 where
  pub full_from : (p : ℕ) → p < pixel_count c.mesh.sc → (at (full c.mesh) p ≡ clear) ⊎ FromPiece c.mesh.sc (faces c.mesh) p (at (full c.mesh) p)
  pub final_from : (p : ℕ) → p < pixel_count c.mesh.sc → (at (final c) p ≡ clear) ⊎ FromPiece c.mesh.sc (kept_faces c.mesh) p (at (final c) p)
