-- The pieces of a face, by what its corners project to.
use Prim.Native.Nat.{ℕ}
use mathlib.Core.Path.{◌≡◌, refl, ◌∙◌}
use mathlib.Core.Option.{Option, none, some}
use mathlib.Core.List.{List, []}
use lib.Ieee.{Float}
use Rattle.geometry.specs.Arith.{floats}
use Rattle.geometry.specs.Vector.{Projected, Triangle}
use Rattle.geometry.specs.Leaf.{entries}
use Rattle.meshes.specs.Mesh.{Face, all_three, project_face}
use Rattle.rules.specs.declared.Facing.{Facing}
use Rattle.rules.specs.Piece.{Corner, Piece, scored, corners_pieces, pieces, projected_pieces}
use Rattle.rules.specs.Offers.{scene, face_pieces}

-- a corner has no projection
missing : (t11 : Float) (a b c : Option (Projected Float)) → none ≡ all_three a b c → [] ≡ projected_pieces t11 a b c
unfolding all_three projected_pieces
missing t11 none b c e = refl
missing t11 (some a) none c e = refl
missing t11 (some a) (some b) none e = refl
missing t11 (some a) (some b) (some c) e = cc

-- each has one
there : (t11 : Float) (a b c : Option (Projected Float)) (t : Triangle (Projected Float)) → some t ≡ all_three a b c
    → corners_pieces t11 (scored floats t11 t.p0) (scored floats t11 t.p1) (scored floats t11 t.p2) ≡ projected_pieces t11 a b c
unfolding all_three projected_pieces
there t11 none b c t e = cc
there t11 (some a) none c t e = cc
there t11 (some a) (some b) none t e = cc
there t11 (some a) (some b) (some c) t e = cc

module _ (m xyz : List Float) (f : Face) (w h : ℕ) (facing : Facing) where
  pub none_projected : none ≡ project_face m xyz f → [] ≡ face_pieces (scene m xyz w h facing) f
  unfolding face_pieces pieces project_face
  none_projected e = missing (entries m 11) _ _ _ e

  -- the corners projected and scored
  pub all_projected : {v0 v1 v2 : Corner Float} {ps : List Piece} (t : Triangle (Projected Float)) → some t ≡ project_face m xyz f
      → v0 ≡ scored floats (entries m 11) t.p0 → v1 ≡ scored floats (entries m 11) t.p1 → v2 ≡ scored floats (entries m 11) t.p2
      → ps ≡ corners_pieces (entries m 11) v0 v1 v2
      → ps ≡ face_pieces (scene m xyz w h facing) f
  unfolding face_pieces pieces project_face
  all_projected t e f0 f1 f2 g = g ∙ rw (f0, f1, f2) (there (entries m 11) _ _ _ t e)
