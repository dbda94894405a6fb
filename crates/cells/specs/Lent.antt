-- What the code's buffers stand for.
use Rattle.std.specs.Prelude.{◌≡◌}
use Rattle.geometry.specs.Answer.{weights_of}
use Rattle.cells.specs.Cell as Cell
use Rattle.cells.specs.Layer as Layer
use Rattle.cells.specs.declared.buffers.Cell as codeC
use Rattle.cells.specs.declared.buffers.Layer as codeL
use Rattle.cells.specs.declared.buffers.LayerMut.{LayerMut}

abbrev pub cell_of : codeC.Cell → Cell.Cell
cell_of c = Cell.cell c.depth c.number (weights_of c.weights)

-- what a layer that is read holds
abbrev pub lent : codeL.Layer → Layer.Layer
lent l = Layer.layer l.pix2tri.now l.pix2depth.now l.pix2weights.now

-- what one that is written holds
abbrev pub held : LayerMut → Layer.Layer
held l = Layer.layer l.pix2tri.now l.pix2depth.now l.pix2weights.now

-- b is a afterwards: the same buffers of the same image, whatever they hold
pub record SameBuffers (a b : LayerMut) : Type 0 where
  pub numbers : a.pix2tri.ghost_name ≡ b.pix2tri.ghost_name
  pub depths : a.pix2depth.ghost_name ≡ b.pix2depth.ghost_name
  pub weights : a.pix2weights.ghost_name ≡ b.pix2weights.ghost_name
  pub width : a.size.w ≡ b.size.w
  pub height : a.size.h ≡ b.size.h
