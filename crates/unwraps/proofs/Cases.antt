-- Question 9 of shares, from the steps of the faces that have them.
use Prim.Native.Nat.{ℕ}
use mathlib.Core.Path.{◌≡◌, refl, sym, ◌∙◌, ap, ap₂}
use mathlib.Core.Bool.{Bool, true, false, ◌&&◌, ◌||◌, and-true, cond}
use mathlib.Core.Option.{some}
use mathlib.Core.List.{List, [], ◌∷◌}
use lib.Ieee.{Float}
use Rattle.geometry.specs.Vector.{Vec2, Vec3, Projected, Triangle}
use Rattle.meshes.specs.Mesh.{Face}
use Rattle.lists.specs.Lists.{span, every}
use Rattle.share_rules.specs.Unequal.{UnequalAt}
use Rattle.share_rules.specs.declared.Unequal.{Unequal}
use Rattle.pixels.specs.Edge.{Axis, Edge, rows}
use Rattle.inside.specs.Inside.{all_inside, contains, present, weights_in}
use Rattle.pairs.specs.Pairs.{EdgeView}
use Rattle.pairs.specs.Steps.{row_passes}
use Rattle.pairs.specs.Laws.{by_rows}
use Rattle.meshes.specs.Mesh.{project_face}
use Rattle.tris.specs.Weights.{world_in}
use Rattle.tris.specs.Tri.{unormal, TriOf}
use Rattle.tris.specs.Laws.{inside_is, world_is}
use Rattle.crossings.specs.Crossing.{along, skipped, coefficient0, coefficient1, g_pix}
use Rattle.share_rules.specs.Shares.{Share, share, crossing, between, shares_at}
use Rattle.share_rules.specs.Laws.{both_contain, second-contains, first-contains, neither_contains}
use Rattle.share_rules.specs.Steps.{beside_empty}
use Rattle.share_rules.specs.Sides.{shares_of}
use Rattle.unwraps.specs.Unwraps.{weighable, weighable_all, unwraps, all_unwraps}
use Rattle.unwraps.specs.Steps.{crossing_answered}

-- the code's order of the two answers, and the definition's
pub either : (a b : Bool) → a || b ≡ b || a
either true true = refl
either true false = refl
either false true = refl
either false false = refl

module _ {m xyz : List Float} {f : Face} {x : Triangle (Vec3 Float)} {t : Triangle (Projected Float)} (o : TriOf m xyz f x t) (q : Vec2 Float) (g : Float → Vec3 Float) where
  weighs : present (world_in q (some t)) ≡ weighable m xyz (share f q g)
  unfolding weighable
  weighs = ap present (sym (world_is o q))

  pub one_weighs : present (world_in q (some t)) ≡ weighable_all m xyz (share f q g ∷ [])
  unfolding weighable_all
  one_weighs = weighs ∙ sym (and-true (weighable m xyz (share f q g)))

pub crossing_weighs : {m xyz : List Float} {f0 f1 : Face} {x0 x1 : Triangle (Vec3 Float)} {t0 t1 : Triangle (Projected Float)} → TriOf m xyz f0 x0 t0 → TriOf m xyz f1 x1 t1
    → (axis : ℕ) (q0 q1 : Vec2 Float) → crossing_answered axis t0 t1 q0 q1 ≡ weighable_all m xyz (crossing axis f0 f1 q0 q1 (unormal t0) (unormal t1))
unfolding crossing_answered crossing weighable_all
crossing_weighs {m} {xyz} {f0} {f1} {x0} {x1} {t0} {t1} o0 o1 axis q0 q1 =
    let g0 = g_pix (coefficient0 axis (unormal t0) (unormal t1)) (unormal t0) in
    let g1 = g_pix (coefficient1 axis (unormal t0) (unormal t1)) (unormal t1) in
    go (skipped axis (unormal t0) (unormal t1)) (share f0 q0 g0) (share f1 q1 g1) (weighs o0 q0 g0) (one_weighs o1 q1 g1)
  where
    go : (b : Bool) {w0 w1 : Bool} (h0 h1 : Share) → w0 ≡ weighable m xyz h0 → w1 ≡ weighable_all m xyz (h1 ∷ []) → b || (w0 && w1) ≡ weighable_all m xyz (cond b [] (h0 ∷ h1 ∷ []))
    go true h0 h1 e0 e1 = refl
    go false h0 h1 e0 e1 = ap₂ ◌&&◌ e0 e1

pub beside_weighs : (axis : ℕ) (m xyz : List Float) (f : Face) (own other : Vec2 Float)
    → contains all_inside m xyz (some f) other || present (world_in own (project_face m xyz f)) ≡ weighable_all m xyz (beside_empty axis m xyz f own other)
unfolding beside_empty weighable_all weighable
beside_weighs axis m xyz f own other = go (contains all_inside m xyz (some f) other)
  where
    go : (b : Bool) → b || present (world_in own (project_face m xyz f)) ≡ weighable_all m xyz (cond b [] (share f own (along axis) ∷ []))
    go true = refl
    go false = sym (and-true (present (world_in own (project_face m xyz f))))

-- ---- two faces, by the two tests

module _ {m xyz : List Float} {f0 f1 : Face} {x0 x1 : Triangle (Vec3 Float)} {t0 t1 : Triangle (Projected Float)} (o0 : TriOf m xyz f0 x0 t0) (o1 : TriOf m xyz f1 x1 t1) (axis : ℕ)
    (q0 q1 : Vec2 Float) where
  abbrev pub Weighed : Bool → Type 0
  Weighed b = b ≡ weighable_all m xyz (between axis m xyz (some f0) (some f1) q0 q1)

  pub both_inside : all_inside (weights_in q0 (some t1)) ≡ true → all_inside (weights_in q1 (some t0)) ≡ true → Weighed (crossing_answered axis t0 t1 q0 q1)
  both_inside p q = rw (both_contain axis m xyz f0 f1 q0 q1 o0 o1 (inside_is o1 q0 ∙ p) (inside_is o0 q1 ∙ q)) (crossing_weighs o0 o1 axis q0 q1)

  pub first_inside : all_inside (weights_in q0 (some t1)) ≡ true → all_inside (weights_in q1 (some t0)) ≡ false → Weighed (present (world_in q0 (some t0)))
  first_inside p q = rw (second-contains axis m xyz f0 f1 q0 q1 (inside_is o1 q0 ∙ p) (inside_is o0 q1 ∙ q)) (one_weighs o0 q0 (along axis))

  pub second_inside : all_inside (weights_in q0 (some t1)) ≡ false → all_inside (weights_in q1 (some t0)) ≡ true → Weighed (present (world_in q1 (some t1)))
  second_inside p q = rw (first-contains axis m xyz f0 f1 q0 q1 (inside_is o1 q0 ∙ p) (inside_is o0 q1 ∙ q)) (one_weighs o1 q1 (along axis))

  pub none_inside : all_inside (weights_in q0 (some t1)) ≡ false → all_inside (weights_in q1 (some t0)) ≡ false → Weighed true
  unfolding weighable_all
  none_inside p q = rw (neither_contains axis m xyz f0 f1 q0 q1 (inside_is o1 q0 ∙ p) (inside_is o0 q1 ∙ q))

-- ---- a pair of the map

module _ (a : Axis) (s : EdgeView) (e : Edge) where
  pub equal_unwraps : shares_at a s e ≡ [] → unwraps a s e ≡ true
  unfolding unwraps weighable_all
  equal_unwraps k = rw k

  pub unequal_unwraps : {h : ℕ} {r : Unequal} → UnequalAt a s h e r
      → unwraps a s e ≡ weighable_all s.matrix s.vertices (shares_of a.down s.matrix s.vertices r.sides)
  unfolding unwraps
  unequal_unwraps k = rw k.shares

-- ---- every pair of an axis, row by row

pub unwraps_by_rows : (a : Axis) (h : ℕ) (s : EdgeView) → all_unwraps a h s ≡ every (row_passes (unwraps a s) a s.width) (span 0 (rows a h))
unfolding all_unwraps
unwraps_by_rows a h s = by_rows (unwraps a s) a s.width (rows a h)
