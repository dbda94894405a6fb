-- Where each pixel has its weights, or is like all its neighbours, every pair of both axes is answered yes.
use Prim.Native.Nat.{ℕ, ◌+◌, ◌<◌}
use mathlib.Core.Path.{◌≡◌, refl, ◌∙◌, ap}
use mathlib.Core.Logic.{⊎_elim}
use mathlib.Core.Bool.{Bool, true, false, cond}
use mathlib.Core.Option.{Option, none, some}
use mathlib.Core.List.{List, [], ◌∷◌}
use native.Mathlib.Nat.{zero-add}
use native.Mathlib.Omega.{arith}
use lib.Ieee.{Float}
use Rattle.lists.specs.Lists.{span, every}
use Rattle.lists.specs.Laws.Tests.{after_yes}
use Rattle.lists.specs.Laws.Tables.{length-tabulate, get_or-tabulate}
use Rattle.lists.specs.Laws.Every.{every_of}
use Rattle.geometry.specs.Vector.{Vec2, Projected, Triangle}
use Rattle.meshes.specs.Mesh.{Face}
use Rattle.meshes.specs.View.{view_of}
use Rattle.meshes.specs.Sound.{SoundMap}
use Rattle.pixels.specs.Pixel.{centre_of}
use Rattle.pixels.specs.Edge.{Axis, axis, hedge, vedge, Edge, edge_from, per_row, rows}
use Rattle.inside.specs.Inside.{all_inside, contains}
use Rattle.meshes.specs.Mesh.{project_face}
use Rattle.inside.specs.Steps.{all_project}
use Rattle.pairs.specs.Pairs.{EdgeView, edge_view, first_of, second_of, equal_entries, both_answered}
use Rattle.pairs.specs.Steps.{Within, row_passes}
use Rattle.pairs.specs.Laws.{by_rows, all_projected}
use Rattle.tris.specs.Tri.{unormal}
use Rattle.crossings.specs.Crossing.{skipped, coefficient0, coefficient1, g_pix}
use Rattle.share_rules.specs.Shares.{Share, share, alone, crossing, crossing_of, intersection, received, between, shares_at}
use Rattle.unwraps.specs.Unwraps.{weighable, weighable_all, unwraps, all_unwraps, both_unwrap}
use Rattle.pixel_unwraps.specs.Steps.{LikeNext, LikePrevious, LikeAllNeighbours, weighs_of, WeighsOrInner}

-- ---- what two pixels with their weights give

module _ (axis : ℕ) (m xyz : List Float) where
  alone_weighs : (g : Option Face) (q : Vec2 Float) → weighs_of m xyz g q ≡ true → weighable_all m xyz (alone axis g q) ≡ true
  unfolding alone weighable_all weighable weighs_of
  alone_weighs none q e = refl
  alone_weighs (some f) q e = rw e

  module _ (f0 f1 : Face) (q0 q1 : Vec2 Float) (e0 : weighs_of m xyz (some f0) q0 ≡ true) (e1 : weighs_of m xyz (some f1) q1 ≡ true) where
    two_weigh : (b : Bool) (h0 h1 : Share) → weighable m xyz h0 ≡ true → weighable m xyz h1 ≡ true → weighable_all m xyz (cond b [] (h0 ∷ h1 ∷ [])) ≡ true
    unfolding weighable_all
    two_weigh true h0 h1 p q = refl
    two_weigh false h0 h1 p q = rw (p, q)

    crossing_weighs : (t0 t1 : Option (Triangle (Projected Float))) → weighable_all m xyz (crossing_of axis f0 f1 q0 q1 t0 t1) ≡ true
    unfolding crossing_of crossing weighable_all weighable weighs_of
    crossing_weighs none t1 = refl
    crossing_weighs (some t0) none = refl
    crossing_weighs (some t0) (some t1) =
        let n0 = unormal t0 in
        let n1 = unormal t1 in
        two_weigh (skipped axis n0 n1) (share f0 q0 (g_pix (coefficient0 axis n0 n1) n0)) (share f1 q1 (g_pix (coefficient1 axis n0 n1) n1)) e0 e1

  intersection_weighs : (g0 g1 : Option Face) (q0 q1 : Vec2 Float) → weighs_of m xyz g0 q0 ≡ true → weighs_of m xyz g1 q1 ≡ true → weighable_all m xyz (intersection axis m xyz g0 g1 q0 q1) ≡ true
  unfolding intersection weighable_all
  intersection_weighs none g1 q0 q1 e0 e1 = refl
  intersection_weighs (some f0) none q0 q1 e0 e1 = refl
  intersection_weighs (some f0) (some f1) q0 q1 e0 e1 = crossing_weighs f0 f1 q0 q1 e0 e1 (project_face m xyz f0) (project_face m xyz f1)

  received_weighs : (b c : Bool) (both first second : List Share) → weighable_all m xyz both ≡ true → weighable_all m xyz first ≡ true → weighable_all m xyz second ≡ true
      → weighable_all m xyz (received b c both first second) ≡ true
  unfolding received weighable_all
  received_weighs true true both first second p q r = p
  received_weighs true false both first second p q r = q
  received_weighs false true both first second p q r = r
  received_weighs false false both first second p q r = refl

  between_weighs : (g0 g1 : Option Face) (q0 q1 : Vec2 Float) → weighs_of m xyz g0 q0 ≡ true → weighs_of m xyz g1 q1 ≡ true → weighable_all m xyz (between axis m xyz g0 g1 q0 q1) ≡ true
  unfolding between
  between_weighs g0 g1 q0 q1 e0 e1 =
      received_weighs (contains all_inside m xyz g1 q0) (contains all_inside m xyz g0 q1) (intersection axis m xyz g0 g1 q0 q1) (alone axis g0 q0) (alone axis g1 q1)
      (intersection_weighs g0 g1 q0 q1 e0 e1) (alone_weighs g0 q0 e0) (alone_weighs g1 q1 e1)

-- a pair with equal entries, and one both of whose pixels have their weights
equal_unwraps : (a : Axis) (s : EdgeView) (e : Edge) → equal_entries s e ≡ true → unwraps a s e ≡ true
unfolding unwraps shares_at weighable_all
equal_unwraps a s e h = rw h

cond_weighs : (m xyz : List Float) (b : Bool) (l : List Share) → weighable_all m xyz l ≡ true → weighable_all m xyz (cond b [] l) ≡ true
unfolding weighable_all
cond_weighs m xyz true l h = refl
cond_weighs m xyz false l h = h

both_unwrap_lem : (a : Axis) (s : EdgeView) (e : Edge) → weighs_of s.matrix s.vertices (s.view.at (first_of s.width e)) (centre_of e.first) ≡ true
    → weighs_of s.matrix s.vertices (s.view.at (second_of s.width e)) (centre_of e.second) ≡ true → unwraps a s e ≡ true
unfolding unwraps shares_at
both_unwrap_lem a s e h0 h1 =
    cond_weighs s.matrix s.vertices (equal_entries s e) _
    (between_weighs a.down s.matrix s.vertices (s.view.at (first_of s.width e)) (s.view.at (second_of s.width e)) (centre_of e.first) (centre_of e.second) h0 h1)

-- ---- every pair

every_below : (t : ℕ → Bool) (n : ℕ) → ((i : ℕ) → i < n → t i ≡ true) → every t (span 0 n) ≡ true
every_below t n h =
    every_of t 0 (span 0 n)
    (λ i l. let l' : i < n = rw (length-tabulate (λ k. k) 0 n) at l in ap t (get_or-tabulate (λ k. k) 0 n i 0 l' ∙ zero-add i) ∙ h i l')

module _ (tri map : List ℕ) (m xyz : List Float) (w h : ℕ) (passed : (x y : ℕ) → x < w → y < h → WeighsOrInner tri map m xyz w h x y) where
  pair_unwraps : (right down x y : ℕ) → Within w h right down x y → (LikeAllNeighbours map w h x y → LikeNext map w h x y right down)
      → (LikeAllNeighbours map w h (x + right) (y + down) → LikePrevious map w (x + right) (y + down) right down)
      → unwraps (axis right down) (edge_view (view_of tri map) m xyz w) (edge_from (axis right down) x y) ≡ true
  pair_unwraps right down x y k next previous =
      let a = axis right down in
      let s = edge_view (view_of tri map) m xyz w in
      let e = edge_from a x y in
      ⊎_elim
      (λ p. ⊎_elim (λ q. both_unwrap_lem a s e p q) (λ q. equal_unwraps a s e (previous q x y refl refl)) (passed (x + right) (y + down) k.column k.row))
      (λ p. equal_unwraps a s e (next p k.column k.row)) (passed x y (omega (arith, k.column)) (omega (arith, k.row)))

  axis-unwraps : (right down : ℕ) → ((x y : ℕ) → LikeAllNeighbours map w h x y → LikeNext map w h x y right down)
      → ((x y : ℕ) → LikeAllNeighbours map w h x y → LikePrevious map w x y right down) → all_unwraps (axis right down) h (edge_view (view_of tri map) m xyz w) ≡ true
  unfolding all_unwraps row_passes
  axis-unwraps right down next previous =
      let a = axis right down in
      let seen = edge_view (view_of tri map) m xyz w in
      by_rows (unwraps a seen) a w (rows a h)
      ∙ every_below _ (rows a h)
      (λ y k.
      every_below _ (per_row a w)
      (λ x l.
      pair_unwraps right down x y (record { column = omega arith; row = omega arith }) (next x y) (previous (x + right) (y + down))))

  pub all_unwrap : SoundMap tri xyz map w h → all_project m xyz ≡ true
      → (both_answered h (edge_view (view_of tri map) m xyz w) ≡ true) × (both_unwrap h (edge_view (view_of tri map) m xyz w) ≡ true)
  all_unwrap s ok = (
    after_yes (all_projected s m ok hedge) (all_projected s m ok vedge),
    after_yes (axis-unwraps 0 1 (λ x y p. p.below) (λ x y p. p.above)) (axis-unwraps 1 0 (λ x y p. p.right) (λ x y p. p.left)),
  )
