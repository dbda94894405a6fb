-- A piece with a corner not finite in pixels has weights nowhere: what is computed from an infinity or a NaN by sums and products is not finite.
use Rattle.std.specs.Prelude.{◌≡◌, refl, Bool, true, false, [], Float}
use Rattle.std.proofs.Common.{sym, ◌∙◌}
use Rattle.std.proofs.lemmas.Bool.{false≢true}
use Rattle.std.specs.Float.Ieee.Scale.{finite}
use Rattle.lists.specs.Laws.Tests.{after_yes}
use Rattle.rounding.specs.Finite.{Both, finite_add, finite_sub, finite_mul}
use Rattle.geometry.specs.Arith.{floats}
use Rattle.geometry.specs.Vector.{Vec2, Vec3, flat, Triangle}
use Rattle.geometry.specs.Formula.{cross2, areas, total}
use Rattle.geometry.specs.Leaf.{weighed, weighed_all, with_sum, weighed_with_sum, corner_weights}
use Rattle.rules.specs.Scan.{all_finite, finite_in_pixels, depth_at, weighed_depth}

finite_cross : (a b c : Vec2 Float) → finite (cross2 floats a b c) ≡ true → Both b.x b.y × Both c.x c.y
unfolding cross2
finite_cross a b c e =
    let k = finite_sub _ _ e in
    let u = finite_mul _ _ k.0 in
    let v = finite_mul _ _ k.1 in
    (((finite_sub _ _ u.0).0, (finite_sub _ _ v.0).0), ((finite_sub _ _ v.1).0, (finite_sub _ _ u.1).0))

-- the sum of the areas is finite only where all corners are
finite_corners : (q p0 p1 p2 : Vec2 Float) → finite (total floats (areas floats q p0 p1 p2)) ≡ true → Both p0.x p0.y × (Both p1.x p1.y × Both p2.x p2.y)
unfolding total areas
finite_corners q p0 p1 p2 e =
    let k = finite_add _ _ e in
    let m = finite_add _ _ k.0 in
    let a0 = finite_cross q p1 p2 m.0 in
    let a2 = finite_cross q p0 p1 k.1 in
    (a2.0, (a0.0, a0.1))

weightless : (counted : Float → Bool) (s : Triangle (Vec3 Float)) (q : Vec2 Float) (b : Bool) → finite (total floats (areas floats q (flat s.p0) (flat s.p1) (flat s.p2))) ≡ b → (b ≡ true → ⊥) → depth_at counted s q ≡ []
unfolding depth_at corner_weights weighed_with_sum with_sum weighed_all weighed weighed_depth
weightless counted s q true e h = absurd (h refl)
weightless counted s q false e h = rw e

three : (a b c : Float) → finite a ≡ true → finite b ≡ true → finite c ≡ true → all_finite a b c ≡ true
three a b c d e f = rw (d, e, f)

-- no depth anywhere
pub nowhere : (counted : Float → Bool) (s : Triangle (Vec3 Float)) (q : Vec2 Float) → finite_in_pixels s ≡ false → depth_at counted s q ≡ []
unfolding finite_in_pixels
nowhere counted s q n =
    weightless counted s q _ refl
    (λ e.
    let k = finite_corners q (flat s.p0) (flat s.p1) (flat s.p2) e in
    let columns = three s.p0.x s.p1.x s.p2.x k.0.0 k.1.0.0 k.1.1.0 in
    let rows = three s.p0.y s.p1.y s.p2.y k.0.1 k.1.0.1 k.1.1.1 in
    false≢true (sym n ∙ after_yes columns rows))
