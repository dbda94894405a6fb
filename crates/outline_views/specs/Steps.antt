-- What an accepted call knows.
use Rattle.std.specs.Prelude.{ℕ, ◌+◌, ◌*◌, ◌/◌, ◌≤◌, ◌<◌, ◌≡◌, true, List, ◌++◌, length, Float}
use Rattle.questions.specs.Questions.{all_below}
use Rattle.pixels.specs.Pixel.{Pixel}
use Rattle.pixels.specs.Edge.{Axis}
use Rattle.outlines.specs.Formula.{Ends}
use Rattle.outlines.specs.Neighbours.{pair}
use Rattle.outline_views.specs.Outline.{OutlineView, Met, pair_met}

-- each edge names vertices that are there, and the map has an entry for each pixel
pub record SoundOutline (cedge : List ℕ) (xyz : List Float) (map : List ℕ) (w h : ℕ) : Type 0 where
  pub named : all_below (length xyz / 3) cedge ≡ true
  pub whole : length map ≡ w * h

-- a pixel of an image of at most 4,096 × 4,096 with a neighbour on each side along an axis
pub record Amid (a : Axis) (w h : ℕ) (p : Pixel) : Type 0 where
  pub left : a.right ≤ p.column
  pub right : p.column + a.right < w
  pub upper : a.down ≤ p.row
  pub lower : p.row + a.down < h
  pub width : w ≤ 4096
  pub height : h ≤ 4096

-- a pixel of an image that is not on its border
pub record OffBorder (w h : ℕ) (p : Pixel) : Type 0 where
  pub left : 1 ≤ p.column
  pub right : p.column + 1 < w
  pub upper : 1 ≤ p.row
  pub lower : p.row + 1 < h

-- the crossings between a pixel and a neighbour, there and back: one at most
unfoldable pub both_met : OutlineView → Ends Float → Pixel → Pixel → List Met
both_met s e p q = pair_met s e (pair p q) ++ pair_met s e (pair q p)
