-- What the code's structs stand for.
use Rattle.std.specs.Prelude as std
use Rattle.std.specs.Prelude.{Float, None, Some}
use Rattle.std.proofs.Math.Option.{Option, none, some}
use Rattle.geometry.specs.Answer.{point2}
use Rattle.pixels.specs.Pixel as Pixel
use Rattle.pixels.specs.Pixel.{pixel}
use Rattle.pixels.specs.declared.Pixel as codeP
use Rattle.outlines.specs.Formula as Formula
use Rattle.outlines.specs.Formula.{ends}
use Rattle.outlines.specs.declared.Ends as codeE
use Rattle.outlines.specs.declared.Crossing as codeC

abbrev pub ends_of : codeE.Ends → Formula.Ends Float
ends_of e = ends (point2 e.q0) (point2 e.q1)

abbrev pub crossing_in : codeC.Crossing → Formula.Crossing Float
crossing_in k = record { d = k.d; rc = k.rc; re = k.re }

abbrev pub maybe_crossing : std.Option codeC.Crossing → Option (Formula.Crossing Float)
maybe_crossing None = none
maybe_crossing (Some k) = some (crossing_in k)

abbrev pub pixel_of : codeP.Pixel → Pixel.Pixel
pixel_of p = pixel p.x p.y
