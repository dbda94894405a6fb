-- What a face's pieces bring a pixel, numbered.
use Rattle.std.specs.Prelude.{ℕ, List}
use Rattle.cells.specs.Cell.{Cell, numbered}
use Rattle.rules.specs.declared.Facing.{Facing}
use Rattle.rules.specs.Piece.{Piece}
use Rattle.rules.specs.Offers.{pieces_bring}

unfoldable pub pieces_cells : Facing → ℕ → ℕ → List Piece → ℕ → ℕ → List Cell
pieces_cells facing w h ts k p = numbered k (pieces_bring facing w h ts p)
