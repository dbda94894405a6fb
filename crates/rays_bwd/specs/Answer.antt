-- What the code's structs stand for.
use Rattle.std.specs.Prelude.{Float}
use Rattle.geometry.specs.Answer.{point3, corners_of, weights_of}
use Rattle.rays_bwd.specs.Backward as Backward
use Rattle.rays_bwd.specs.Backward.{frame, gradients}
use Rattle.rays_bwd.specs.declared.Frame as code_f
use Rattle.rays_bwd.specs.declared.Gradients as codeG

abbrev pub frame_from : code_f.Frame → Backward.Frame Float
frame_from f = frame (point3 f.e1e2) (point3 f.e2d) (point3 f.de1) f.det

abbrev pub gradients_of : codeG.Gradients → Backward.Gradients Float
gradients_of g = gradients (weights_of g.bc) (corners_of g.to)
