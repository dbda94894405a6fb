-- What shares add, from the steps of the faces that have them.
use Prim.Native.Nat.{ℕ}
use mathlib.Core.Path.{◌≡◌, refl, sym, ◌∙◌, ap₂}
use mathlib.Core.Bool.{Bool, true, false, cond}
use mathlib.Core.Option.{some}
use mathlib.Core.List.{List, [], ◌∷◌, ◌++◌, flat_map, append-nil}
use lib.Ieee.{Float}
use Rattle.geometry.specs.Vector.{Vec2, Vec3, Projected, Triangle}
use Rattle.meshes.specs.Mesh.{Face}
use Rattle.meshes.specs.Sums.{Addition, summed}
use Rattle.pixels.specs.Edge.{Axis, Edge}
use Rattle.pairs.specs.Pairs.{EdgeView}
use Rattle.pairs.specs.Gradient.{PixelValues, dldr}
use Rattle.share_rules.specs.Unequal.{UnequalAt}
use Rattle.share_rules.specs.declared.Unequal.{Unequal}
use Rattle.inside.specs.Inside.{all_inside, contains, weights_in}
use Rattle.tris.specs.Tri.{unormal, TriOf}
use Rattle.tris.specs.Laws.{inside_is}
use Rattle.crossings.specs.Crossing.{along, skipped, coefficient0, coefficient1, g_pix}
use Rattle.scattering.specs.Scattering.{given}
use Rattle.share_rules.specs.Shares.{Share, share, crossing, between, shares_at}
use Rattle.share_rules.specs.Steps.{beside_empty}
use Rattle.share_rules.specs.Sides.{shares_of}
use Rattle.share_rules.specs.Laws.{both_contain, second-contains, first-contains, neither_contains}
use Rattle.share_rules.specs.Additions.{additions_of, pair_additions}
use Rattle.shares.specs.Steps.{given_both, given_crossing}

module _ {m xyz : List Float} {f : Face} {x : Triangle (Vec3 Float)} {t : Triangle (Projected Float)} (o : TriOf m xyz f x t) where
  given_is : (d : Float) (q : Vec2 Float) (g : Float → Vec3 Float) → given m f x t q (g d) ≡ additions_of m xyz d (share f q g)
  unfolding given additions_of
  given_is d q g = rw (o.corners, o.projections)

  pub one_adds : (d : Float) (q : Vec2 Float) (g : Float → Vec3 Float) → given m f x t q (g d) ≡ flat_map (additions_of m xyz d) (share f q g ∷ [])
  unfolding flat_map
  one_adds d q g = given_is d q g ∙ sym (append-nil (additions_of m xyz d (share f q g)))

pub crossing_adds : {m xyz : List Float} {f0 f1 : Face} {x0 x1 : Triangle (Vec3 Float)} {t0 t1 : Triangle (Projected Float)} → TriOf m xyz f0 x0 t0 → TriOf m xyz f1 x1 t1
    → (axis : ℕ) (q0 q1 : Vec2 Float) (d : Float)
    → given_crossing m axis d f0 f1 x0 x1 t0 t1 q0 q1 ≡ flat_map (additions_of m xyz d) (crossing axis f0 f1 q0 q1 (unormal t0) (unormal t1))
unfolding given_crossing given_both crossing flat_map
crossing_adds {m} {xyz} {f0} {f1} {x0} {x1} {t0} {t1} o0 o1 axis q0 q1 d =
    let g0 = g_pix (coefficient0 axis (unormal t0) (unormal t1)) (unormal t0) in
    let g1 = g_pix (coefficient1 axis (unormal t0) (unormal t1)) (unormal t1) in
    go (skipped axis (unormal t0) (unormal t1)) (share f0 q0 g0) (share f1 q1 g1) (given_is o0 d q0 g0) (one_adds o1 d q1 g1)
  where
    go : (b : Bool) {a0 a1 : List Addition} (h0 h1 : Share) → a0 ≡ additions_of m xyz d h0 → a1 ≡ flat_map (additions_of m xyz d) (h1 ∷ [])
        → cond b [] (a0 ++ a1) ≡ flat_map (additions_of m xyz d) (cond b [] (h0 ∷ h1 ∷ []))
    go true h0 h1 e0 e1 = refl
    go false h0 h1 e0 e1 = ap₂ ◌++◌ e0 e1

-- ---- a face beside an empty pixel

module _ {m xyz : List Float} {f : Face} {x : Triangle (Vec3 Float)} {t : Triangle (Projected Float)} (o : TriOf m xyz f x t) (axis : ℕ) (own other : Vec2 Float) (d : Float) where
  pub beside_none : all_inside (weights_in other (some t)) ≡ true → flat_map (additions_of m xyz d) (beside_empty axis m xyz f own other) ≡ []
  unfolding beside_empty flat_map
  beside_none e = rw (inside_is o other, e)

  pub beside_one : all_inside (weights_in other (some t)) ≡ false → given m f x t own (along axis d) ≡ flat_map (additions_of m xyz d) (beside_empty axis m xyz f own other)
  unfolding beside_empty
  beside_one e = rw (inside_is o other, e) (one_adds o d own (along axis))

-- ---- two faces, by the two tests

module _ (axis : ℕ) (m xyz : List Float) (f0 f1 : Face) (q0 q1 : Vec2 Float) (d : Float) where
  abbrev pub Added : List Addition → Type 0
  Added l = l ≡ flat_map (additions_of m xyz d) (between axis m xyz (some f0) (some f1) q0 q1)

  module _ {x0 : Triangle (Vec3 Float)} {t0 : Triangle (Projected Float)} (o0 : TriOf m xyz f0 x0 t0) (p : contains all_inside m xyz (some f1) q0 ≡ true) where
    pub both_added : {x1 : Triangle (Vec3 Float)} {t1 : Triangle (Projected Float)} → TriOf m xyz f1 x1 t1 → all_inside (weights_in q1 (some t0)) ≡ true
        → Added (given_crossing m axis d f0 f1 x0 x1 t0 t1 q0 q1)
    both_added o1 q = rw (both_contain axis m xyz f0 f1 q0 q1 o0 o1 p (inside_is o0 q1 ∙ q)) (crossing_adds o0 o1 axis q0 q1 d)

    pub first_added : all_inside (weights_in q1 (some t0)) ≡ false → Added (given m f0 x0 t0 q0 (along axis d))
    first_added q = rw (second-contains axis m xyz f0 f1 q0 q1 p (inside_is o0 q1 ∙ q)) (one_adds o0 d q0 (along axis))

  module _ (p : contains all_inside m xyz (some f1) q0 ≡ false) where
    pub second_added : {x1 : Triangle (Vec3 Float)} {t1 : Triangle (Projected Float)} → TriOf m xyz f1 x1 t1 → contains all_inside m xyz (some f0) q1 ≡ true
        → Added (given m f1 x1 t1 q1 (along axis d))
    second_added o1 q = rw (first-contains axis m xyz f0 f1 q0 q1 p q) (one_adds o1 d q1 (along axis))

    pub none_added : contains all_inside m xyz (some f0) q1 ≡ false → Added []
    unfolding flat_map
    none_added q = rw (neither_contains axis m xyz f0 f1 q0 q1 p q)

-- ---- a pair of the map

module _ (a : Axis) (s : EdgeView) (v : PixelValues) (e : Edge) where
  pub equal_adds : (sums : List Float) → shares_at a s e ≡ [] → sums ≡ summed sums (pair_additions a s v e)
  unfolding pair_additions flat_map summed
  equal_adds sums k = rw k

  pub unequal_adds : {h : ℕ} {r : Unequal} → UnequalAt a s h e r
      → pair_additions a s v e
      ≡ flat_map (additions_of s.matrix s.vertices (dldr v r.p r.q)) (shares_of a.down s.matrix s.vertices r.sides)
  unfolding pair_additions
  unequal_adds k = rw (k.p_number, k.q_number, k.shares)
