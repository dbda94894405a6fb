-- The values on the edges of an axis as a grid, and the value between four of its places.
use Rattle.std.specs.Prelude.{ℕ, zero, suc, ◌+◌, ◌*◌, List, slice_index_or, Float}
use Rattle.std.specs.Float.{nan}
use Rattle.geometry.specs.Arith.{Arith, floats}
use Rattle.geometry.specs.Vector.{Vec2}
use Rattle.pixels.specs.Pixel.{half}
use Rattle.pixels.specs.Edge.{Axis, per_row, rows}
use Rattle.grids.specs.Cell.{Stand, stand_at}

module _ {A : Type 0} (R : Arith A) where
  open R use {add as ◌⊕◌, sub as ◌⊖◌, mul as ◌⊗◌}

  infixl 6 ◌⊕◌
  infixl 6 ◌⊖◌
  infixl 7 ◌⊗◌
  -- the bilinear sum, in the Rust's order
  unfoldable pub bilinear : A → A → A → A → A → A → A
  bilinear tx ty f00 f10 f01 f11 =
      (R.one ⊖ tx) ⊗ (R.one ⊖ ty) ⊗ f00 ⊕ tx ⊗ (R.one ⊖ ty) ⊗ f10 ⊕ (R.one ⊖ tx) ⊗ ty ⊗ f01 ⊕ tx ⊗ ty ⊗ f11

-- an edge lies between its two pixels: at 1 along its axis, at 0.5 across
unfoldable pub offset : ℕ → Float
offset zero = half
offset (suc n) = floats.one

-- the value at column ix and row iy, in rows of n
abbrev pub value_at : List Float → ℕ → ℕ → ℕ → Float
value_at values n ix iy = slice_index_or values (iy * n + ix) nan

unfoldable pub between : List Float → ℕ → Stand → Stand → Float
between values n a b =
    bilinear floats a.t b.t (value_at values n a.low b.low) (value_at values n a.high b.low) (value_at values n a.low b.high) (value_at values n a.high b.high)

-- at the point p of an image w wide and h high, from the values on the edges of an axis
unfoldable pub sample : Axis → ℕ → ℕ → List Float → Vec2 Float → Float
sample a w h values p =
    between values (per_row a w) (stand_at w (per_row a w) (floats.sub p.x (offset a.right))) (stand_at h (rows a h) (floats.sub p.y (offset a.down)))
