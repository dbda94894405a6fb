-- A point by way of a plane's frame.
use Rattle.geometry.specs.Arith.{Arith}
use Rattle.geometry.specs.Vector.{Vec3}
use Rattle.rays.specs.Space.{minus3, scaled3}

-- t d − u e1 − v e2
unfoldable pub within : {A : Type 0} → Arith A → A → A → A → Vec3 A → Vec3 A → Vec3 A → Vec3 A
within R t u v d e1 e2 = minus3 R (minus3 R (scaled3 R t d) (scaled3 R u e1)) (scaled3 R v e2)
