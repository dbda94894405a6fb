-- What the code's axis stands for.
use Rattle.pixels.specs.Edge as Edge
use Rattle.pixels.specs.Edge.{axis}
use Rattle.pixels.specs.declared.Axis.{Axis}

abbrev pub axis_of : Axis → Edge.Axis
axis_of a = axis a.right a.down
