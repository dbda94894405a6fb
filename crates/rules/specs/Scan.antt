-- The scan of a piece, and what the piece brings a pixel.
use Rattle.std.specs.Prelude.{ℕ, Bool, true, false, ◌&&◌, ◌||◌, cond, List, [], ◌∷◌, Float}
use Rattle.std.proofs.Math.Option.{Option, none, some}
use Rattle.std.specs.Float.{binary32}
use Rattle.std.specs.Float.Ieee.{of_bits, lt, le}
use Rattle.std.specs.Float.Ieee.Scale.{finite}
use Rattle.geometry.specs.Arith.{floats}
use Rattle.geometry.specs.Vector.{Vec2, Vec3, vec3, flat, Weights, Weighed, Triangle, triangle}
use Rattle.geometry.specs.Formula.{blend}
use Rattle.geometry.specs.Leaf.{corner_weights}
use Rattle.offers.specs.Offer.{offer}
use Rattle.cells.specs.Cell.{Candidate}
use Rattle.pixels.specs.Pixel.{half, as_float, pixel, centre, centre_of}
use Rattle.rules.specs.declared.Facing.{Facing}
use Rattle.rules.specs.declared.Facing.TheVariants.{All, Front}
open floats use {add as ◌⊕◌, sub as ◌⊖◌, mul as ◌⊗◌, one}

infixl 6 ◌⊕◌
infixl 6 ◌⊖◌
infixl 7 ◌⊗◌
-- columns run right and rows run down
abbrev pub column : ℕ → Float → Float
column w x = (x ⊕ one) ⊗ half ⊗ as_float w

abbrev pub row : ℕ → Float → Float
row h y = (one ⊖ y) ⊗ half ⊗ as_float h

-- a corner in pixels, with its depth
unfoldable pub on_screen : ℕ → ℕ → Vec3 Float → Vec3 Float
on_screen w h p = vec3 (column w p.x) (row h p.y) p.z

-- three corners in pixels
unfoldable pub screened : ℕ → ℕ → Triangle (Vec3 Float) → Triangle (Vec3 Float)
screened w h t = triangle (on_screen w h t.p0) (on_screen w h t.p1) (on_screen w h t.p2)

-- the centre (ix+0.5, iy+0.5)
abbrev pub centre_at : ℕ → ℕ → Vec2 Float
centre_at ix iy = centre_of (pixel ix iy)

-- The least and the greatest of three coordinates. What they are where one is NaN does not matter: the scan asks for finite ones.
unfoldable pub lower : Float → Float → Float
lower a b = cond (lt b a) b a

unfoldable pub upper : Float → Float → Float
upper a b = cond (lt a b) b a

unfoldable pub least : Float → Float → Float → Float
least a b c = lower (lower a b) c

unfoldable pub greatest : Float → Float → Float → Float
greatest a b c = upper (upper a b) c

unfoldable pub between : Float → Float → Float → Bool
between low high q = le low q && le q high

-- q lies in the closed box of a, b and c, along one axis
unfoldable pub spans : Float → Float → Float → Float → Bool
spans a b c q = between (least a b c) (greatest a b c) q

-- the centre (ix+0.5, iy+0.5) lies in the closed box of the three corners
unfoldable pub in_closed_box : Triangle (Vec3 Float) → ℕ → ℕ → Bool
in_closed_box s ix iy =
    spans s.p0.x s.p1.x s.p2.x (centre ix) && spans s.p0.y s.p1.y s.p2.y (centre iy)

abbrev pub all_finite : Float → Float → Float → Bool
all_finite a b c = finite a && (finite b && finite c)

-- every corner is finite in pixels: the three columns and the three rows are
unfoldable pub finite_in_pixels : Triangle (Vec3 Float) → Bool
finite_in_pixels s = all_finite s.p0.x s.p1.x s.p2.x && all_finite s.p0.y s.p1.y s.p2.y

-- Scan: the pixels of the image whose centre lies in the closed box of the three corners; a piece with a corner not finite in pixels is offered none.
-- The image is no part of the test: wherever it is used, ix and iy are the column and the row of a pixel number below width times height.
unfoldable pub scans : Triangle (Vec3 Float) → ℕ → ℕ → Bool
scans s ix iy = finite_in_pixels s && in_closed_box s ix iy

-- −1e-5
abbrev pub drop_below : Float
drop_below = floats.neg (of_bits binary32 0x3727_c5ac)

-- A weight below −1e-5 drops the pixel; NaN is not below.
unfoldable pub dropped : Weights Float → Bool
dropped b = lt b.b0 drop_below || (lt b.b1 drop_below || lt b.b2 drop_below)

-- the depth of a point with weights b, and these weights: none where the pixel is dropped
unfoldable pub kept : Triangle (Vec3 Float) → Weights Float → List Candidate
kept s b = cond (dropped b) [] (offer (blend floats b s.p0.z s.p1.z s.p2.z) b ∷ [])

-- 02, Point 8: whether the facing counts a candidate whose sum is s, of a piece whose corners are listed turned round or not. With all faces it does; with
-- front pieces only where s is above 0 or, turned round, below 0.
unfoldable pub counts : Facing → Bool → Float → Bool
counts All turned s = true
counts Front false s = lt floats.zero s
counts Front true s = lt s floats.zero

-- A point without weights has no depth, and a candidate whose sum is not counted offers none.
unfoldable pub weighed_depth : (Float → Bool) → Triangle (Vec3 Float) → Option (Weighed Float) → List Candidate
weighed_depth counted s none = []
weighed_depth counted s (some a) = cond (counted a.s) (kept s a.b) []

-- the depth that a piece on the screen has at the point q, with the weights there, or none
unfoldable pub depth_at : (Float → Bool) → Triangle (Vec3 Float) → Vec2 Float → List Candidate
depth_at counted s q = weighed_depth counted s (corner_weights q (flat s.p0) (flat s.p1) (flat s.p2))

-- what the piece brings the pixel (ix, iy): at most one candidate
unfoldable pub candidate : (Float → Bool) → Triangle (Vec3 Float) → ℕ → ℕ → List Candidate
candidate counted s ix iy = cond (scans s ix iy) (depth_at counted s (centre_at ix iy)) []
