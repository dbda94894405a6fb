-- What a pixel shows, and what a face's corners and projections say of it.
use Rattle.std.specs.Prelude.{◌/◌, ◌≡◌, true, Option, None, Some, IfSome, List, length, Float}
use Rattle.std.proofs.Math.Option.{some}
use Rattle.geometry.specs.Vector.{Vec2, Vec3, Projected, Triangle}
use Rattle.meshes.specs.Mesh.{Face, Among, project_face}
use Rattle.meshes.specs.Answer.{face_of, maybe_face}
use Rattle.meshes.specs.declared.Face as code
use Rattle.inside.specs.Inside.{all_inside, contains, weights_in, projects}
use Rattle.tris.specs.Weights.{world_in}
use Rattle.tris.specs.Tri.{Projects, TriOf}

-- question 8 answered yes of what a pixel shows
pub shown-projects : (m xyz : List Float) (shown : Option code.Face) → IfSome shown (λ f. Among (length xyz / 3) (face_of f)) → projects m xyz (maybe_face shown) ≡ true
    → IfSome shown (λ f. Projects m xyz (face_of f))
shown-projects m xyz None a e = tt
shown-projects m xyz (Some f) a e = record { there = a; answered = e }

module _ {m xyz : List Float} {f : Face} {x : Triangle (Vec3 Float)} {t : Triangle (Projected Float)} (o : TriOf m xyz f x t) where
  pub inside_is : (q : Vec2 Float) → contains all_inside m xyz (some f) q ≡ all_inside (weights_in q (some t))
  unfolding contains
  inside_is q = rw o.projections

  pub world_is : (q : Vec2 Float) → world_in q (project_face m xyz f) ≡ world_in q (some t)
  world_is q = rw o.projections
