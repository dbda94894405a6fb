-- What the code's struct stands for.
use Rattle.std.specs.Prelude.{Float}
use Rattle.geometry.specs.Answer.{point3}
use Rattle.jacobians.specs.Formula as Formula
use Rattle.jacobians.specs.Formula.{mat3}
use Rattle.jacobians.specs.declared.Mat3 as code

abbrev pub matrix_of : code.Mat3 → Formula.Mat3 Float
matrix_of j = mat3 (point3 j.c0) (point3 j.c1) (point3 j.c2)
