-- What the code's faces stand for.
use Rattle.std.proofs.Math.Option.{Option, none, some}
use Rattle.std.specs.Prelude as std
use Rattle.std.specs.Prelude.{None, Some}
use Rattle.meshes.specs.Mesh as Mesh
use Rattle.meshes.specs.Mesh.{face}
use Rattle.meshes.specs.declared.Face as code

abbrev pub face_of : code.Face → Mesh.Face
face_of f = face f.v0 f.v1 f.v2

-- a face, or none
abbrev pub maybe_face : std.Option code.Face → Option Mesh.Face
maybe_face None = none
maybe_face (Some f) = some (face_of f)
