-- Laws of the pairs.
use Rattle.std.specs.Prelude.{ℕ, ◌+◌, ◌-◌, ◌*◌, ◌/◌, ◌<◌, ◌≡◌, Bool, true, List, ltb, Float, length}
use Rattle.std.proofs.Math.Bool.{or-true}
use Rattle.std.proofs.Common.{sym, ◌∙◌, ap, ap₂, zero-add, arith, ne_eqb}
use Rattle.lists.specs.Lists.{span, every}
use Rattle.questions.specs.Questions.{exact, names_face, empty}
use Rattle.questions.specs.Laws.{Channels, exactly}
use Rattle.lists.specs.Laws.Tests.{both}
use Rattle.lists.specs.Laws.Every.{every_any, every_same, all_pass, every_rows}
use Rattle.meshes.specs.View.{entry_at, named, view_of}
use Rattle.meshes.specs.Sound.{SoundMap}
use Rattle.pixels.specs.Edge.{Axis, Edge, edge_count, edge_from, edge_at, per_row, rows}
use Rattle.pixels.specs.Laws.{row-at, column-at, Walked, in_row, in_column}
use Rattle.inside.specs.Inside.{projects}
use Rattle.inside.specs.Laws.{entry-projects}
use Rattle.inside.specs.Steps.{all_project}
use Rattle.pairs.specs.declared.Pair.{Pair}
use Rattle.pairs.specs.Pairs.{EdgeView, edge_view, first_of, second_of, equal_entries, answered, all_answered}
use Rattle.pairs.specs.Gradient.{PixelValues, exact_pixels}
use Rattle.pairs.specs.Steps.{SoundValues, Within, PairAt, row_passes}

-- question 4 of the map, the values and the gradients, answered yes
pub pixels_exact : (w h : ℕ) (map : List ℕ) (v : PixelValues) → Channels v.channels → exact_pixels w h map v ≡ true → (length map ≡ w * h) × SoundValues v (w * h)
unfolding exact_pixels
pixels_exact w h map v few e =
    let a = both (exact (w * h) (length map)) _ e in
    let b = both (exact (w * h * v.channels) (length v.values)) _ a.1 in
    (exactly _ _ a.0, record { few = few; values = exactly _ _ b.0; gradients = exactly _ _ b.1 })

-- ---- a test of every pair of an axis, row by row

-- pair number x of row y
pub edge_in_row : (a : Axis) (w x y : ℕ) → x < per_row a w → edge_at a w (y * per_row a w + x) ≡ edge_from a x y
unfolding edge_at
edge_in_row a w x y h = ap₂ (edge_from a) (column-at (per_row a w) y x h) (row-at (per_row a w) y x h)

module _ (test : Edge → Bool) (a : Axis) (w : ℕ) where
  row-passes : (y : ℕ) → every (λ i. test (edge_at a w i)) (span (y * per_row a w) (per_row a w)) ≡ row_passes test a w y
  unfolding row_passes
  row-passes y =
      every_same (λ i. test (edge_at a w i)) (λ x. test (edge_from a x y)) (y * per_row a w) 0 (per_row a w)
      (λ x h. ap test (edge_in_row a w x y h) ∙ ap (λ (i : ℕ). test (edge_from a i y)) (sym (zero-add x)))

  pub by_rows : (m : ℕ) → every (λ i. test (edge_at a w i)) (span 0 (m * per_row a w)) ≡ every (row_passes test a w) (span 0 m)
  by_rows m = sym (every_rows (λ i. test (edge_at a w i)) (per_row a w) m) ∙ every_same _ (row_passes test a w) 0 0 m (λ y h. row-passes (0 + y))

pub answered_by_rows : (a : Axis) (h : ℕ) (s : EdgeView) → all_answered a h s ≡ every (row_passes (answered s) a s.width) (span 0 (rows a h))
unfolding all_answered
answered_by_rows a h s = by_rows (answered s) a s.width (rows a h)

empty-named : (n : ℕ) → names_face n empty ≡ true
unfolding names_face
empty-named n = or-true (ltb empty n)

module _ {tri map : List ℕ} {xyz : List Float} {w h : ℕ} (s : SoundMap tri xyz map w h) where
  pixel-named : (p : ℕ) → names_face (length tri / 3) (entry_at map p) ≡ true
  pixel-named p = every_any (names_face (length tri / 3)) empty (empty-named (length tri / 3)) map s.named p

  -- so do both entries of a pair
  module _ {e : Edge} {r : Pair} (k : PairAt map w h e r) where
    pub first_named : names_face (length tri / 3) r.first ≡ true
    first_named = rw k.first_entry (pixel-named (first_of w e))

    pub second_named : names_face (length tri / 3) r.second ≡ true
    second_named = rw k.second_entry (pixel-named (second_of w e))

  -- where every vertex has a projection, question 8 is answered yes at every pair
  module _ (m : List Float) (yes : all_project m xyz ≡ true) where
    pixel-projects : (p : ℕ) → projects m xyz ((view_of tri map).at p) ≡ true
    pixel-projects p = entry-projects m s.mesh yes (entry_at map p) (pixel-named p)

    pub all_projected : (a : Axis) → all_answered a h (edge_view (view_of tri map) m xyz w) ≡ true
    unfolding all_answered answered
    all_projected a =
        all_pass _ (edge_count a w h)
        (λ i. rw (pixel-projects (first_of w (edge_at a w i)), pixel-projects (second_of w (edge_at a w i))) (or-true (equal_entries (edge_view (view_of tri map) m xyz w) (edge_at a w i))))

-- question 8 of an unequal pair, answered yes
pub both-project : (tri : List ℕ) (m xyz : List Float) {map : List ℕ} {w h : ℕ} {e : Edge} {r : Pair} → PairAt map w h e r → (r.first ≡ r.second → ⊥)
    → answered (edge_view (view_of tri map) m xyz w) e ≡ true → (projects m xyz (named tri r.first) ≡ true) × (projects m xyz (named tri r.second) ≡ true)
unfolding answered
both-project tri m xyz {map} {w} {h} {e} {r} k ne a =
    both (projects m xyz (named tri r.first)) _ (rw (← k.first_entry, ← k.second_entry, ne_eqb _ _ ne) at a)

-- the pair at place i of an axis's walk lies in the image
pub within-at : {i x y : ℕ} (w h right down : ℕ) → Walked (w - right) i x y → i < (h - down) * (w - right) → Within w h right down x y
within-at w h right down k l = record { column = omega (arith, in_row (h - down) k l); row = omega (arith, in_column (h - down) k l) }
