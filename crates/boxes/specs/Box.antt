-- The pixels of a box of columns and rows, and the box that a scan visits.
use Rattle.std.specs.Prelude.{ℕ, ◌≤◌, ◌<◌, ◌≡◌, Bool, true, false, ◌&&◌, leb, ltb, Float}
use Rattle.geometry.specs.Vector.{Vec3, Triangle}
use Rattle.pixels.specs.Pixel.{centre}
use Rattle.rules.specs.Scan.{finite_in_pixels, scans, spans}
use Rattle.boxes.specs.declared.lines.Span.{Span}
use Rattle.boxes.specs.declared.Box.{Box}

-- from `low` up to, and without, `high`
unfoldable pub in_range : ℕ → ℕ → ℕ → Bool
in_range low high i = leb low i && ltb i high

-- the pixel in column ix and row iy is one of the box
unfoldable pub in_box : Box → ℕ → ℕ → Bool
in_box b ix iy = in_range b.columns.start b.columns.end ix && in_range b.rows.start b.rows.end iy

-- a scan holds no pixel of an image w wide and h high
abbrev pub Unscanned : Triangle (Vec3 Float) → ℕ → ℕ → Type 0
Unscanned s w h = (ix iy : ℕ) → ix < w → iy < h → scans s ix iy ≡ false

-- what the answer r tells of a piece on the screen: its scan holds no pixel of the image, or it is finite
pub record Meets (s : Triangle (Vec3 Float)) (w h : ℕ) (r : Bool) : Type 0 where
  pub misses : r ≡ false → Unscanned s w h
  pub all_are_finite : r ≡ true → finite_in_pixels s ≡ true

-- from a up to, and without, b, of n columns or rows
pub record Within (a b n : ℕ) : Type 0 where
  pub order : a ≤ b
  pub most : b ≤ n

-- of n centres, three coordinates span none
abbrev pub Unspanned : Float → Float → Float → ℕ → Type 0
Unspanned a b c n = (i : ℕ) → i < n → spans a b c (centre i) ≡ false

-- of n centres, three coordinates span those from the one to the other
pub record Spanned (a b c : Float) (n : ℕ) (r : Span) : Type 0 where
  pub within : Within r.start r.end n
  pub centres : (i : ℕ) → i < n → in_range r.start r.end i ≡ spans a b c (centre i)

-- a box of the image whose pixels are those that the scan of s visits
pub record Scanned (s : Triangle (Vec3 Float)) (w h : ℕ) (b : Box) : Type 0 where
  pub columns : Within b.columns.start b.columns.end w
  pub rows : Within b.rows.start b.rows.end h
  pub visits : (ix iy : ℕ) → ix < w → iy < h → in_box b ix iy ≡ scans s ix iy
