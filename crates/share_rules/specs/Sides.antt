-- What the two pixels of a pair show.
use Rattle.std.specs.Prelude.{ℕ, List, [], Float}
use Rattle.std.proofs.Math.Option.{some}
use Rattle.geometry.specs.Answer.{point2}
use Rattle.meshes.specs.Answer.{face_of}
use Rattle.tris.specs.Tri.{Projects}
use Rattle.share_rules.specs.Shares.{Share, between}
use Rattle.share_rules.specs.Steps.{beside_empty}
use Rattle.share_rules.specs.declared.Sides.{Sides}
use Rattle.share_rules.specs.declared.Sides.TheVariants.{Both, Beside, Neither}

-- the shares of two entries that are not equal
abbrev pub shares_of : ℕ → List Float → List Float → Sides → List Share
shares_of axis m xyz (Both s t) = between axis m xyz (some (face_of s.face)) (some (face_of t.face)) (point2 s.centre) (point2 t.centre)
shares_of axis m xyz (Beside own other) = beside_empty axis m xyz (face_of own.face) (point2 own.centre) (point2 other)
shares_of axis m xyz Neither = []

-- each face has its projections
abbrev pub SidesProject : List Float → List Float → Sides → Type 0
SidesProject m xyz (Both s t) = Projects m xyz (face_of s.face) × Projects m xyz (face_of t.face)
SidesProject m xyz (Beside own other) = Projects m xyz (face_of own.face)
SidesProject m xyz Neither = Unit
