-- What the code's struct of a corner stands for: 01's value.
use Rattle.std.specs.Prelude.{Float}
use Rattle.geometry.specs.Answer.{point3}
use Rattle.rules.specs.Piece
use Rattle.corners.specs.declared.Corner as code

abbrev pub corner_of : code.Corner → Piece.Corner Float
corner_of a = record { p = point3 a.p; hw = a.hw; c = a.c }
