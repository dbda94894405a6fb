-- The shares of a pair, once the tests are answered.
use Rattle.std.specs.Prelude.{ℕ, ◌+◌, ◌*◌, ◌/◌, ◌<◌, ◌≡◌, Bool, Option, IfSome, length, Float}
use Rattle.std.proofs.Math.Path.{refl}
use Rattle.std.proofs.Common.{sym, ◌∙◌, ap, mul_comm, arith}
use Rattle.std.proofs.Math.Bool.{true, false, cond}
use Rattle.std.proofs.Math.Option.{none, some}
use mathlib.Core.List.{List, [], ◌∷◌}
use borrow.Author.Tests.{eq-eqb, ne_eqb}
use Rattle.lists.specs.Laws.Every.{in_span}
use Rattle.geometry.specs.Vector.{Vec2, Vec3, Projected, Triangle}
use Rattle.meshes.specs.Mesh.{Face, Among}
use Rattle.meshes.specs.View.{named, view_of}
use Rattle.meshes.specs.Answer.{face_of, maybe_face}
use Rattle.meshes.specs.declared.Face as code
use Rattle.pixels.specs.Pixel.{centre_of}
use Rattle.pixels.specs.Edge.{Axis, Edge, edge_from, edge_at, per_row, rows, edge_count}
use Rattle.pixels.specs.Laws.{number_below}
use Rattle.inside.specs.Inside.{all_inside, contains}
use Rattle.pairs.specs.Pairs.{EdgeView, edge_view, answered, all_answered}
use Rattle.pairs.specs.Steps.{Within, PairAt}
use Rattle.pairs.specs.Laws.{edge_in_row, both-project}
use Rattle.pairs.specs.declared.Pair.{Pair}
use Rattle.tris.specs.Tri.{unormal, Projects, TriOf}
use Rattle.tris.specs.Laws.{shown-projects}
use Rattle.crossings.specs.Crossing.{along}
use Rattle.share_rules.specs.Shares.{Share, share, alone, crossing, crossing_of, intersection, received, between, shares_at}
use Rattle.share_rules.specs.Steps.{beside_empty}

module _ (axis : ℕ) (m xyz : List Float) where
  pub both_empty : (q0 q1 : Vec2 Float) → between axis m xyz none none q0 q1 ≡ []
  unfolding between contains intersection received
  both_empty q0 q1 = refl

  -- the first is empty
  pub after_empty : (f : Face) (q0 q1 : Vec2 Float) → between axis m xyz none (some f) q0 q1 ≡ beside_empty axis m xyz f q1 q0
  unfolding between contains intersection alone received beside_empty
  after_empty f q0 q1 = go (contains all_inside m xyz (some f) q0) (share f q1 (along axis) ∷ [])
    where
      go : (b : Bool) (l : List Share) → received b true [] [] l ≡ cond b [] l
      go true l = refl
      go false l = refl

  -- the second is
  pub before_empty : (f : Face) (q0 q1 : Vec2 Float) → between axis m xyz (some f) none q0 q1 ≡ beside_empty axis m xyz f q0 q1
  unfolding between contains intersection alone received beside_empty
  before_empty f q0 q1 = go (contains all_inside m xyz (some f) q1) (share f q0 (along axis) ∷ [])
    where
      go : (b : Bool) (l : List Share) → received true b [] l [] ≡ cond b [] l
      go true l = refl
      go false l = refl

  -- neither is: by the two tests
  module _ (f0 f1 : Face) (q0 q1 : Vec2 Float) where
    tested : (b c : Bool) → contains all_inside m xyz (some f1) q0 ≡ b → contains all_inside m xyz (some f0) q1 ≡ c
        → between axis m xyz (some f0) (some f1) q0 q1
        ≡ received b c (intersection axis m xyz (some f0) (some f1) q0 q1) (share f0 q0 (along axis) ∷ []) (share f1 q1 (along axis) ∷ [])
    unfolding between alone
    tested b c eb ec = rw (eb, ec)

    pub both_contain : {x0 x1 : Triangle (Vec3 Float)} {t0 t1 : Triangle (Projected Float)} → TriOf m xyz f0 x0 t0 → TriOf m xyz f1 x1 t1
        → contains all_inside m xyz (some f1) q0 ≡ true → contains all_inside m xyz (some f0) q1 ≡ true
        → between axis m xyz (some f0) (some f1) q0 q1 ≡ crossing axis f0 f1 q0 q1 (unormal t0) (unormal t1)
    unfolding received intersection crossing_of
    both_contain o0 o1 p q = rw (o0.projections, o1.projections) at (tested true true p q)

    pub second-contains : contains all_inside m xyz (some f1) q0 ≡ true → contains all_inside m xyz (some f0) q1 ≡ false
        → between axis m xyz (some f0) (some f1) q0 q1 ≡ share f0 q0 (along axis) ∷ []
    unfolding received
    second-contains p q = tested true false p q

    pub first-contains : contains all_inside m xyz (some f1) q0 ≡ false → contains all_inside m xyz (some f0) q1 ≡ true
        → between axis m xyz (some f0) (some f1) q0 q1 ≡ share f1 q1 (along axis) ∷ []
    unfolding received
    first-contains p q = tested false true p q

    pub neither_contains : contains all_inside m xyz (some f1) q0 ≡ false → contains all_inside m xyz (some f0) q1 ≡ false
        → between axis m xyz (some f0) (some f1) q0 q1 ≡ []
    unfolding received
    neither_contains p q = tested false false p q

-- ---- a pair as the code reads it

module _ (tri : List ℕ) {map : List ℕ} (m xyz : List Float) {w h : ℕ} (a : Axis) {e : Edge} {r : Pair} (k : PairAt map w h e r) where
  pub shares_equal : r.first ≡ r.second → shares_at a (edge_view (view_of tri map) m xyz w) e ≡ []
  unfolding shares_at
  shares_equal p = rw (← k.first_entry, ← k.second_entry, eq-eqb _ _ p)

  pub shares_unequal : (r.first ≡ r.second → ⊥) → shares_at a (edge_view (view_of tri map) m xyz w) e
      ≡ between a.down m xyz (named tri r.first) (named tri r.second) (centre_of e.first) (centre_of e.second)
  unfolding shares_at
  shares_unequal ne = rw (← k.first_entry, ← k.second_entry, ne_eqb _ _ ne)

-- what its entries name has its projections
module _ (tri : List ℕ) {map : List ℕ} (m xyz : List Float) {w h : ℕ} {e : Edge} {r : Pair} (k : PairAt map w h e r) (ne : r.first ≡ r.second → ⊥)
    (ok : answered (edge_view (view_of tri map) m xyz w) e ≡ true) where
  pub first-projects : (shown : Option code.Face) → IfSome shown (λ f. Among (length xyz / 3) (face_of f)) → maybe_face shown ≡ named tri r.first
      → IfSome shown (λ f. Projects m xyz (face_of f))
  first-projects shown a n = shown-projects m xyz shown a (rw n (both-project tri m xyz k ne ok).0)

  pub second-projects : (shown : Option code.Face) → IfSome shown (λ f. Among (length xyz / 3) (face_of f)) → maybe_face shown ≡ named tri r.second
      → IfSome shown (λ f. Projects m xyz (face_of f))
  second-projects shown a n = shown-projects m xyz shown a (rw n (both-project tri m xyz k ne ok).1)

-- question 8 of an axis, at one of its pairs
pub answered-at : (s : EdgeView) (h : ℕ) (a : Axis) {x y : ℕ} → Within s.width h a.right a.down x y → all_answered a h s ≡ true → answered s (edge_from a x y) ≡ true
unfolding all_answered
answered-at s h a {x} {y} k e =
    let c : x < per_row a s.width = omega (arith, k.column) in
    let r : y < rows a h = omega (arith, k.row) in
    let l : y * per_row a s.width + x < edge_count a s.width h = omega (arith, number_below c r, mul_comm (rows a h) (per_row a s.width)) in
    sym (ap (answered s) (edge_in_row a s.width x y c)) ∙ in_span (λ i. answered s (edge_at a s.width i)) (edge_count a s.width h) e (y * per_row a s.width + x) l
