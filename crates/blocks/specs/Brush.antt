-- What the code's brush stands for.
use Rattle.std.specs.Prelude.{ℕ, List}
use Rattle.geometry.specs.Answer.{corners_of}
use Rattle.cells.specs.Cell.{Cell}
use Rattle.lanes.specs.Answer.{within}
use Rattle.blocks.specs.Rows.{depth_cells}
use Rattle.blocks.specs.declared.Brush as code

-- what it brings pixel p of an image w wide
abbrev pub brush_cells : code.Brush → ℕ → ℕ → List Cell
brush_cells b w = depth_cells (within b.side) (corners_of b.screen) b.number w
