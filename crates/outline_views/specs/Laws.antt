-- Where no crossing is, and an edge's crossings row by row.
use Rattle.std.specs.Prelude.{ℕ, ◌+◌, ◌-◌, ◌*◌, ◌/◌, ◌%◌, ◌<◌, ◌≡◌, refl, Bool, true, false, not, ◌&&◌, cond, ltb, List, [], Float, length}
use Rattle.std.specs.List.{fold}
use Rattle.std.proofs.Common.{sym, ◌∙◌, ap, ap₂, arith, ltb-true, lt-ltb, mul_comm}
use Rattle.std.proofs.Math.Bool.{and-false}
use mathlib.Core.List.{◌++◌, flat_map, append_assoc, append-nil}
use Rattle.lists.specs.Lists.{tabulate, span}
use Rattle.lists.specs.Laws.Turns.{flat_map-append, flat_map-flat, turns_same, turns_nothing, turns_by_rows}
use Rattle.lists.specs.Laws.Folds.{folded_then, folds_narrowed}
use Rattle.lists.specs.Laws.Tests.{both}
use Rattle.questions.specs.Questions.{sizes, edge_slices, exact}
use Rattle.questions.specs.Laws.{accepted, exactly}
use Rattle.pixels.specs.Pixel.{Pixel, pixel, number_in, centre_of}
use Rattle.pixels.specs.Edge.{Axis}
use Rattle.pixels.specs.Laws.{row-at, column-at}
use Rattle.boxes.specs.declared.lines.Span.{Span}
use Rattle.outlines.specs.Formula.{Ends}
use Rattle.outlines.specs.Leaf.{crossing_between}
use Rattle.outlines.specs.Covered.{has_nan, covers, meets_side, meets_square}
use Rattle.outlines.specs.Neighbours.{pair_axis, neighbour_pair, pair, before, after, off_border}
use Rattle.outline_spans.specs.Narrowed.{Narrowed}
use Rattle.outline_views.specs.Outline.{OutlineView, Met, met_at, pair_met, pixel_met, covered_met, edge_met, exact_images, outline_code}
use Rattle.outline_views.specs.Steps.{OffBorder, both_met}

-- a pixel and its neighbours alike: no pair has one that shows a face and one that is empty
pub nothing_met : (s : OutlineView) (a : Axis) (p : Pixel) (b : Bool) → s.shows (number_in s.width p) ≡ b → s.shows (number_in s.width (before a p)) ≡ b → s.shows (number_in s.width (after a p)) ≡ b
    → (e : Ends Float) → pair_axis e ≡ a → pixel_met s e p ≡ []
unfolding pixel_met pair_met neighbour_pair flat_map tabulate
nothing_met s a p true here one two e same = rw (same, here, one, two) refl
nothing_met s a p false here one two e same = rw (same, here, one, two) refl

-- of a pixel and a neighbour: the first alone shows a face, or the second alone, or both or neither
module _ (s : OutlineView) (e : Ends Float) (p q : Pixel) where
  pub met_there : s.shows (number_in s.width p) ≡ true → s.shows (number_in s.width q) ≡ false
      → met_at (number_in s.width p) (number_in s.width q) (crossing_between (centre_of p) (centre_of q) e) ≡ both_met s e p q
  unfolding both_met pair_met
  met_there a b = rw (a, b) (sym (append-nil _))

  pub met_back : s.shows (number_in s.width p) ≡ false → s.shows (number_in s.width q) ≡ true
      → met_at (number_in s.width q) (number_in s.width p) (crossing_between (centre_of q) (centre_of p) e) ≡ both_met s e p q
  unfolding both_met pair_met
  met_back a b = rw (a, b) refl

  pub met_nowhere : (b : Bool) → s.shows (number_in s.width p) ≡ b → s.shows (number_in s.width q) ≡ b → [] ≡ both_met s e p q
  unfolding both_met pair_met
  met_nowhere true a b = rw (a, b) refl
  met_nowhere false a b = rw (a, b) refl

off_border_yes : (w h : ℕ) (p : Pixel) → OffBorder w h p → off_border w h p ≡ true
unfolding off_border
off_border_yes w h p k = rw (lt-ltb 0 p.column k.left, lt-ltb (p.column + 1) w k.right, lt-ltb 0 p.row k.upper, lt-ltb (p.row + 1) h k.lower) refl

-- off the border, an edge's crossings at a pixel are the pixel's where it covers it
pub covered_off_border : (s : OutlineView) (e : Ends Float) (p : Pixel) → OffBorder s.width s.height p → covered_met s e p ≡ cond (covers e p) (pixel_met s e p) []
unfolding covered_met
covered_off_border s e p k = rw (off_border_yes s.width s.height p k) refl

-- and none where the pixel has none
pub covered_nothing : (s : OutlineView) (e : Ends Float) (p : Pixel) → pixel_met s e p ≡ [] → covered_met s e p ≡ []
unfolding covered_met
covered_nothing s e p h = rw h (go (off_border s.width s.height p && covers e p))
  where
    go : (b : Bool) → ◌≡◌ {A = List Met} (cond b [] []) []
    go true = refl
    go false = refl

-- ---- an accepted call

pub lengths_passed : (s : OutlineView) (lengths : Bool) → 0 ≡ outline_code s lengths → lengths ≡ true
unfolding outline_code
lengths_passed s lengths e =
    let one = accepted 0 (sizes 1 s.width s.height) _ (sym e) in
    let three = accepted 2 (edge_slices (length s.edges) (length s.vertices)) _ one.1 in
    (accepted 3 lengths _ three.1).0

-- the two images beside the map
pub images_passed : (w h map a b : ℕ) → exact_images w h map a b ≡ true → (a ≡ w * h) × (b ≡ w * h)
unfolding exact_images
images_passed w h map a b e =
    let two = both (exact (w * h) map) _ e in
    let three = both (exact (w * h) a) _ two.1 in
    (exactly (w * h) a three.0, exactly (w * h) b three.1)

-- a pixel's four pairs, neighbour by neighbour
four_pairs : (s : OutlineView) (e : Ends Float) (a : Axis) (p : Pixel)
    → flat_map (λ k. pair_met s e (neighbour_pair a p k)) (span 0 4) ≡ both_met s e p (before a p) ++ both_met s e p (after a p)
unfolding both_met neighbour_pair flat_map tabulate
four_pairs s e a p =
    let there = pair_met s e (pair p (before a p)) in
    let back = pair_met s e (pair (before a p) p) in
    let on = pair_met s e (pair p (after a p)) in
    let home = pair_met s e (pair (after a p) p) in
    ap (λ (ms : List Met). there ++ (back ++ (on ++ ms))) (append-nil home) ∙ sym (append_assoc there back (on ++ home))

-- ---- an edge's crossings, row by row

module _ {B : Type 0} (g : Met → List B) (s : OutlineView) (e : Ends Float) where
  -- what a column brings in row y, and a row
  abbrev pub column_items : ℕ → ℕ → List B
  column_items y x = flat_map g (covered_met s e (pixel x y))

  abbrev pub row_items : ℕ → List B
  row_items y = flat_map (column_items y) (span 0 s.width)

  by_number : ℕ → List B
  by_number n = flat_map g (covered_met s e (pixel (n % s.width) (n / s.width)))

  one_row : (y : ℕ) → flat_map by_number (span (y * s.width) s.width) ≡ row_items y
  unfolding by_number
  one_row y =
      turns_same by_number (column_items y) (y * s.width) 0 s.width
      (λ x l.
      let j : x ≡ 0 + x = omega arith in
      ap₂ (λ (c r : ℕ). flat_map g (covered_met s e (pixel c r))) (column-at s.width y x l ∙ j) (row-at s.width y x l))

  pub met_by_rows : flat_map g (edge_met s e) ≡ flat_map row_items (span 0 s.height)
  unfolding edge_met by_number
  met_by_rows =
      flat_map-flat g (λ n. covered_met s e (pixel (n % s.width) (n / s.width))) (span 0 (s.width * s.height))
      ∙ ap (λ (n : ℕ). flat_map by_number (span 0 n)) (mul_comm s.width s.height)
      ∙ turns_by_rows by_number row_items s.width s.height one_row

  -- what a pixel brings, with its neighbour before and with the one after
  pixel_by_neighbours : (a : Axis) (p : Pixel) → a ≡ pair_axis e
      → flat_map g (pixel_met s e p) ≡ flat_map g (both_met s e p (before a p)) ++ flat_map g (both_met s e p (after a p))
  unfolding pixel_met
  pixel_by_neighbours a p same =
      rw same (ap (flat_map g) (four_pairs s e (pair_axis e) p) ∙ flat_map-append g (both_met s e p (before (pair_axis e) p)) (both_met s e p (after (pair_axis e) p)))

  -- where the edge does not cover a pixel it brings nothing, nor on the border
  uncovered : (p : Pixel) → off_border s.width s.height p && covers e p ≡ false → flat_map g (covered_met s e p) ≡ []
  unfolding covered_met flat_map
  uncovered p h = rw h refl

  on_border : (x y : ℕ) → (0 < x → x + 1 < s.width → covers e (pixel x y) ≡ false) → flat_map g (covered_met s e (pixel x y)) ≡ []
  unfolding off_border
  on_border x y h = uncovered (pixel x y) (go (ltb 0 x) refl (ltb (x + 1) s.width) refl)
    where
      go : (a : Bool) → ltb 0 x ≡ a → (b : Bool) → ltb (x + 1) s.width ≡ b → off_border s.width s.height (pixel x y) && covers e (pixel x y) ≡ false
      go true p true q = rw (h (ltb-true 0 x p) (ltb-true (x + 1) s.width q)) (and-false _)
      go true p false q = rw (p, q) refl
      go false p b q = rw p refl

  unmet : (x y : ℕ) → (0 < y → y + 1 < s.height → meets_side e.q0.y e.q1.y y ≡ false) → flat_map g (covered_met s e (pixel x y)) ≡ []
  unfolding off_border covers meets_square
  unmet x y h = uncovered (pixel x y) (go (ltb 0 y) refl (ltb (y + 1) s.height) refl)
    where
      go : (a : Bool) → ltb 0 y ≡ a → (b : Bool) → ltb (y + 1) s.height ≡ b → off_border s.width s.height (pixel x y) && covers e (pixel x y) ≡ false
      go true p true q = rw (h (ltb-true 0 y p) (ltb-true (y + 1) s.height q), and-false (meets_side e.q0.x e.q1.x x), and-false (not (has_nan e))) (and-false _)
      go true p false q = rw (p, q, and-false (ltb 0 x && ltb (x + 1) s.width)) refl
      go false p b q = rw (p, and-false (ltb 0 x && ltb (x + 1) s.width)) refl

  row_missed : (y : ℕ) → (0 < y → y + 1 < s.height → meets_side e.q0.y e.q1.y y ≡ false) → row_items y ≡ []
  row_missed y h = turns_nothing (column_items y) 0 s.width (λ x m. unmet (0 + x) y h)

  -- ---- a pass's loops, each step one item

  module _ {S : Type 0} (step : S → B → S) (z : S) where
    pub pixel_ended : {mid cur : S} (a : Axis) (p : Pixel) → a ≡ pair_axis e → covered_met s e p ≡ pixel_met s e p → mid ≡ fold step z (flat_map g (both_met s e p (before a p)))
        → cur ≡ fold step mid (flat_map g (both_met s e p (after a p))) → cur ≡ fold step z (flat_map g (covered_met s e p))
    pixel_ended a p same covered one two =
        folded_then step z (flat_map g (both_met s e p (before a p))) (flat_map g (both_met s e p (after a p))) one two
        ∙ sym (ap (λ (ms : List Met). fold step z (flat_map g ms)) covered ∙ ap (fold step z) (pixel_by_neighbours a p same))

    pub row_ended : {cur : S} (y : ℕ) (r : Span) (x : ℕ) → Narrowed (λ x. covers e (pixel x y)) s.width r → x - r.start ≡ r.end - r.start
        → cur ≡ fold step z (flat_map (column_items y) (span r.start (x - r.start))) → cur ≡ fold step z (row_items y)
    row_ended y r x k same inv =
        let l = k.last in
        folds_narrowed step (column_items y) z s.width r.start r.end x (omega arith)
        (λ i m b. on_border i y (λ p q. k.before.missed i p q b)) (λ i m b. on_border i y (λ p q. k.from.missed i p q b)) same inv

    pub edge_ended : {cur : S} (r : Span) (y : ℕ) → Narrowed (λ y. meets_side e.q0.y e.q1.y y) s.height r → y - r.start ≡ r.end - r.start
        → cur ≡ fold step z (flat_map row_items (span r.start (y - r.start))) → cur ≡ fold step z (flat_map g (edge_met s e))
    edge_ended r y k same inv =
        let l = k.last in
        folds_narrowed step row_items z s.height r.start r.end y (omega arith)
        (λ i m b. row_missed i (λ p q. k.before.missed i p q b)) (λ i m b. row_missed i (λ p q. k.from.missed i p q b)) same inv
        ∙ sym (ap (fold step z) met_by_rows)
