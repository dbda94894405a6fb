-- The pieces of a face: none, one or two, chosen as the Rust's branches choose, NaN included.
use Rattle.std.specs.Prelude.{ℕ, ◌+◌, Bool, true, false, ◌&&◌, ◌||◌, cond, List, [], ◌∷◌, eqb, Float}
use Rattle.std.proofs.Math.Option.{Option, none, some}
use Rattle.std.specs.Float.Ieee.{lt, le, eq}
use Rattle.geometry.specs.Arith.{Arith, floats}
use Rattle.geometry.specs.Vector.{Vec3, vec3, Projected, Triangle, triangle}
use Rattle.geometry.specs.Leaf.{entries, project}

-- a projected corner p with its divisor hw and its near-clip score c
pub record Corner (A : Type 0) : Type 0 where
  pub p : Vec3 A
  pub hw : A
  pub c : A

module _ {A : Type 0} (R : Arith A) where
  open R use {add as ◌⊕◌, sub as ◌⊖◌, mul as ◌⊗◌, div as ◌⊘◌, one}

  infixl 6 ◌⊕◌
  infixl 6 ◌⊖◌
  infixl 7 ◌⊗◌
  infixl 7 ◌⊘◌
  -- c = hw(z − t11)
  unfoldable pub scored : A → Projected A → Corner A
  scored t11 a = record { p = a.p; hw = a.w; c = a.w ⊗ (a.p.z ⊖ t11) }

  -- the parameter where c = 0 on the edge from a to b
  unfoldable pub clip_t : Corner A → Corner A → A
  clip_t a b = a.c ⊘ (a.c ⊖ b.c)

  -- one coordinate between xa and xb in homogeneous clip space, at the parameter t; inv is one over the divisor there
  unfoldable pub hom_at : Corner A → Corner A → A → A → A → A → A
  hom_at a b t inv xa xb = (xa ⊗ a.hw ⊕ t ⊗ (xb ⊗ b.hw ⊖ xa ⊗ a.hw)) ⊗ inv

  unfoldable pub hom_point : Corner A → Corner A → A → A → Vec3 A
  hom_point a b t inv =
      vec3
      (hom_at a b t inv a.p.x b.p.x)
      (hom_at a b t inv a.p.y b.p.y)
      (hom_at a b t inv a.p.z b.p.z)

  -- the Rust's interp_hom
  unfoldable pub interp_hom : Corner A → Corner A → A → Vec3 A
  interp_hom a b t = hom_point a b t (one ⊘ (a.hw ⊕ t ⊗ (b.hw ⊖ a.hw)))

  -- where the edge from a to b meets the near plane
  unfoldable pub cut : Corner A → Corner A → Vec3 A
  cut a b = interp_hom a b (clip_t a b)

-- a piece: three corners in normalised device coordinates, and whether they are listed turned round (02, Point 8)
pub record Piece : Type 0 where
  pub corners : Triangle (Vec3 Float)
  pub turned : Bool

abbrev pub piece : Bool → Triangle (Vec3 Float) → Piece
piece turned corners = record { corners = corners; turned = turned }

-- the face whole
unfoldable pub whole : Corner Float → Corner Float → Corner Float → List Piece
whole a b c = piece false (triangle a.p b.p c.p) ∷ []

-- a alone is beyond the near plane: one piece
unfoldable pub one_piece : Bool → Corner Float → Corner Float → Corner Float → List Piece
one_piece turned a b c = piece turned (triangle a.p (cut floats a b) (cut floats a c)) ∷ []

-- c alone is before the near plane: two pieces
unfoldable pub first_piece : Bool → Corner Float → Corner Float → Corner Float → Piece
first_piece turned c a b = piece turned (triangle a.p b.p (cut floats a c))

unfoldable pub second_piece : Bool → Corner Float → Corner Float → Corner Float → Piece
second_piece turned c a b = piece turned (triangle b.p (cut floats b c) (cut floats a c))

unfoldable pub two_pieces : Bool → Corner Float → Corner Float → Corner Float → List Piece
two_pieces turned c a b = first_piece turned c a b ∷ second_piece turned c a b ∷ []

-- at or beyond the near plane, and between the camera and it; neither where the score is NaN
unfoldable pub beyond_near : Corner Float → Bool
beyond_near v = le floats.zero v.c

unfoldable pub before_near : Corner Float → Bool
before_near v = lt v.c floats.zero

unfoldable pub all_beyond_near : Corner Float → Corner Float → Corner Float → Bool
all_beyond_near v0 v1 v2 = beyond_near v0 && (beyond_near v1 && beyond_near v2)

unfoldable pub all_before_near : Corner Float → Corner Float → Corner Float → Bool
all_before_near v0 v1 v2 = before_near v0 && (before_near v1 && before_near v2)

unfoldable pub beyond_bit : Corner Float → ℕ
beyond_bit v = cond (beyond_near v) 1 0

-- the lone corner first, in the Rust's order: v0 where l0, else v1 where l1, else v2; the branch (1, 0, 2) lists the corners turned round
unfoldable pub lone_first : Bool → Bool → (Bool → Corner Float → Corner Float → Corner Float → List Piece) → Corner Float → Corner Float → Corner Float → List Piece
lone_first l0 l1 make v0 v1 v2 = cond l0 (make false v0 v1 v2) (cond l1 (make true v1 v0 v2) (make false v2 v0 v1))

-- by how many corners are beyond: the lone one beyond gives one piece; else the one before gives two
unfoldable pub mixed : Corner Float → Corner Float → Corner Float → List Piece
mixed v0 v1 v2 =
    cond (eqb (beyond_bit v0 + beyond_bit v1 + beyond_bit v2) 1)
    (lone_first (beyond_near v0) (beyond_near v1) one_piece v0 v1 v2)
    (lone_first (before_near v0) (before_near v1) two_pieces v0 v1 v2)

-- all c ≥ 0 draws, all < 0 does not, else one or two pieces
unfoldable pub clipped : Corner Float → Corner Float → Corner Float → List Piece
clipped v0 v1 v2 = cond (all_beyond_near v0 v1 v2) (whole v0 v1 v2) (cond (all_before_near v0 v1 v2) [] (mixed v0 v1 v2))

-- hw·t11 ≥ 0
unfoldable pub behind : Float → Corner Float → Bool
behind t11 v = le floats.zero (floats.mul v.hw t11)

unfoldable pub any_behind : Float → Corner Float → Corner Float → Corner Float → Bool
any_behind t11 v0 v1 v2 = behind t11 v0 || (behind t11 v1 || behind t11 v2)

-- Where t11 is 0 there is no clipping. Where it is not 0, a face with any hw·t11 ≥ 0 is passed over.
unfoldable pub corners_pieces : Float → Corner Float → Corner Float → Corner Float → List Piece
corners_pieces t11 v0 v1 v2 =
    cond (eq t11 floats.zero) (whole v0 v1 v2) (cond (any_behind t11 v0 v1 v2) [] (clipped v0 v1 v2))

-- a face with an unprojectable corner is passed over
unfoldable pub projected_pieces : Float → Option (Projected Float) → Option (Projected Float) → Option (Projected Float) → List Piece
projected_pieces t11 none b c = []
projected_pieces t11 (some a) none c = []
projected_pieces t11 (some a) (some b) none = []
projected_pieces t11 (some a) (some b) (some c) = corners_pieces t11 (scored floats t11 a) (scored floats t11 b) (scored floats t11 c)

-- the pieces of the face whose corners are x0, x1, x2, in the Rust's order; t11 is m[11]
unfoldable pub pieces : List Float → Vec3 Float → Vec3 Float → Vec3 Float → List Piece
pieces m x0 x1 x2 = projected_pieces (entries m 11) (project m x0) (project m x1) (project m x2)
