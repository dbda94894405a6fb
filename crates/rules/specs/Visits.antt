-- 02, Point 7: the order in which the scan of a piece visits its pixels, and what it has left in a layer when it is stopped.
use Rattle.std.specs.Prelude.{ℕ, ◌/◌, ◌%◌, take, Float}
use mathlib.Core.List.{List, [], ◌∷◌, flat_map}
use Rattle.lists.specs.Lists.{tabulate, span, filter}
use Rattle.geometry.specs.Vector.{Vec3, Triangle}
use Rattle.offers.specs.Offer.{offered}
use Rattle.cells.specs.Cell.{Cell, numbered}
use Rattle.cells.specs.Layer.{Layer, at}
use Rattle.cells.specs.Steps.{written}
use Rattle.pixels.specs.Pixel.{pixel, number_in}
use Rattle.rules.specs.declared.Facing.{Facing}
use Rattle.rules.specs.Piece.{Piece}
use Rattle.rules.specs.Scan.{screened, scans}
use Rattle.rules.specs.Offers.{piece_brings}

-- n pixels of column ix of an image w wide, from row iy on downwards
unfoldable pub down : ℕ → ℕ → ℕ → ℕ → List ℕ
down w ix iy n = tabulate (λ y. number_in w (pixel ix y)) iy n

-- the pixels of an image, column by column, leftmost first and each from the top
unfoldable pub columnwise : ℕ → ℕ → List ℕ
columnwise w h = flat_map (λ ix. down w ix 0 h) (span 0 w)

-- the pixels of the image that the scan of a piece holds, in the order in which it visits them
unfoldable pub visits : ℕ → ℕ → Triangle (Vec3 Float) → List ℕ
visits w h s = filter (λ p. scans s (p % w) (p / w)) (columnwise w h)

-- a layer after visits of the pixels of a list, one after the other: a visit of pixel p brings it `os p`, and nothing to any other
unfoldable pub visited : (ℕ → List Cell) → List ℕ → Layer → Layer
visited os [] l = l
visited os (p ∷ ps) l = visited os ps (written l p (offered (at l p) (os p)))

-- what a piece, numbered k, brings pixel p
unfoldable pub piece_cells : Facing → ℕ → ℕ → Piece → ℕ → ℕ → List Cell
piece_cells facing w h t k p = numbered k (piece_brings facing w h t p)

-- what the scan of a piece, numbered k, has left in the layer when it is stopped after n visits: what the first n pixels bring.
-- A visit that brings nothing is a visit.
unfoldable pub stopped_after : ℕ → Facing → ℕ → ℕ → Piece → ℕ → Layer → Layer
stopped_after n facing w h t k l = visited (piece_cells facing w h t k) (take n (visits w h (screened w h t.corners))) l
