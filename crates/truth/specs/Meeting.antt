-- What divides where a ray meets a plane, and where it meets it.
use Rattle.geometry.specs.Arith.{Arith}
use Rattle.geometry.specs.Vector.{Vec3, Triangle}
use Rattle.rays.specs.Space.{Ray, minus3, dot3}
use Rattle.rays.specs.Plane.{normal}
use Rattle.rays_bwd.specs.Backward.{frame_of, meets_t, meets_u, meets_v}

-- the backward formula's D, t, u and v, and the forward one's n·n

abbrev pub n_dot_n : {A : Type 0} → Arith A → Triangle (Vec3 A) → A
n_dot_n R p = dot3 R (normal R p) (normal R p)

module _ {A : Type 0} (R : Arith A) (p : Triangle (Vec3 A)) (r : Ray A) where
  abbrev pub D : A
  D = (frame_of R p r).det

  abbrev pub t_of : A
  t_of = meets_t R (frame_of R p r) (minus3 R p.p0 r.org)

  abbrev pub u_of : A
  u_of = meets_u R (frame_of R p r) (minus3 R p.p0 r.org)

  abbrev pub v_of : A
  v_of = meets_v R (frame_of R p r) (minus3 R p.p0 r.org)
