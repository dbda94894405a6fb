-- Two faces that cross between two pixels, of their unit normals in the image: how the crossing moves along the axis.
use Rattle.std.specs.Prelude.{Bool, not, ◌||◌, cond, ℕ, eqb, Float}
use Rattle.std.specs.Float.{binary32}
use Rattle.std.specs.Float.Ieee.{of_bits, lt, le, eq}
use Rattle.std.specs.Float.Ieee.Scale.{finite}
use Rattle.floats.specs.Narrow.{hypot_of}
use Rattle.geometry.specs.Arith.{floats}
use Rattle.geometry.specs.Vector.{Vec3, vec3}
use Rattle.rays.specs.Space.{scaled3}
open floats use {sub as ◌⊖◌, mul as ◌⊗◌, div as ◌⊘◌, neg, zero}

infixl 6 ◌⊖◌
infixl 7 ◌⊗◌
infixl 7 ◌⊘◌
-- n[axis]; the Rust's axis is 0 for pairs side by side, 1 for pairs one above the other
unfoldable pub component : ℕ → Vec3 Float → Float
component axis n = cond (eqb axis 0) n.x n.y

-- d along that axis
unfoldable pub along : ℕ → Float → Vec3 Float
along axis d = cond (eqb axis 0) (vec3 d zero zero) (vec3 zero d zero)

unfoldable pub denominator : ℕ → Vec3 Float → Vec3 Float → Float
denominator axis n0 n1 = component axis n0 ⊗ n1.z ⊖ n0.z ⊗ component axis n1

unfoldable pub scale : ℕ → Vec3 Float → Vec3 Float → Float
scale axis n0 n1 = hypot_of (component axis n0) n0.z ⊗ hypot_of (component axis n1) n1.z

-- |x| as a comparison sees it: of either zero, that zero
unfoldable pub magnitude : Float → Float
magnitude x = cond (lt x zero) (neg x) x

-- 1e-6
abbrev pub millionth : Float
millionth = of_bits binary32 0x3586_37bd

-- skipped, of the denominator and the scale: not finite, scale 0, or at most 1e-6 of the scale
unfoldable pub skips : Float → Float → Bool
skips denom scale = not (finite denom) || (eq scale zero || le (magnitude denom) (millionth ⊗ scale))

unfoldable pub skipped : ℕ → Vec3 Float → Vec3 Float → Bool
skipped axis n0 n1 = skips (denominator axis n0 n1) (scale axis n0 n1)

-- the coefficients of the two shares
unfoldable pub coefficient0 : ℕ → Vec3 Float → Vec3 Float → Float
coefficient0 axis n0 n1 = n1.z ⊘ denominator axis n0 n1

unfoldable pub coefficient1 : ℕ → Vec3 Float → Vec3 Float → Float
coefficient1 axis n0 n1 = neg n0.z ⊘ denominator axis n0 n1

-- a share's gradient in the image: `dldr` * coefficient * n
unfoldable pub g_pix : Float → Vec3 Float → Float → Vec3 Float
g_pix coefficient n d = scaled3 floats (d ⊗ coefficient) n
