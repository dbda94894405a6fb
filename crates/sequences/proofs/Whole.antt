-- A sequence of calls that keeps to the plan: what each layer holds, call by call.
use Rattle.std.specs.Prelude.{ℕ, ◌+◌, ◌*◌, ◌/◌, ◌%◌, ◌<◌, ◌≤◌, ◌≡◌, Bool, cond, take, drop}
use Rattle.std.proofs.Math.Path.{refl, ap, ap₂, sym, subst}
use Rattle.std.proofs.Common.{◌∙◌, true≢false, arith, length-append, take-add, drop-drop, drop-cons}
use Rattle.std.proofs.Math.Bool.{true, false}
use mathlib.Core.List.{List, [], ◌∷◌, ◌++◌, append-nil, append_assoc}
use borrow.Author.Tests.{eq-eqb, ne_eqb, eqb-true, le-leb}
use Rattle.std.proofs.Math.Dec.{eqb}
use Rattle.std.proofs.Math.ListN.{length}
use Rattle.std.proofs.Math.Seq.{take-length}
use Rattle.questions.specs.Questions.{first_no, answer, groups, exact, numbers, most_count}
use Rattle.cells.specs.Cell as cell
use Rattle.offers.specs.Offer.{pick, offered}
use Rattle.cells.specs.Cell.{Cell, no_hit, numbered}
use Rattle.cells.specs.Layer.{Layer, at, pixelwise}
use Rattle.cells.specs.Steps.{Spans}
use Rattle.layers.specs.Calls.{exact_layer, clear_code, clearing, join_code, joining}
use Rattle.cells.proofs.Laws.Cells.{same_buffers}
use Rattle.cells.proofs.Laws.Pixels.{pixelwise_same, at-pixelwise, spans-pixelwise}
use Rattle.meshes.specs.Mesh.{Face, faces_of, flat}
use Rattle.meshes.specs.Laws.{length-flat, faces-flat}
use Rattle.rules.specs.declared.Facing.{Facing}
use Rattle.rules.specs.Offers.{Scene, scene, brings, brought}
use Rattle.rules.specs.Draw.{painted, drawn}
use Rattle.rules.specs.Calls.{draw_code, facing_of, draws}
use Rattle.offers.proofs.Laws.Joins.{won}
use Rattle.offers.proofs.Laws.Faces.{won_runs}
use Rattle.sequences.specs.Calls.{Store, layer_of, Lent, held, other, contents, returned, lent_layer, whole, Call, clear, draw, join, written, outcome_of, after, after_all}
use Rattle.sequences.specs.Plan as plan
use Rattle.sequences.specs.Plan.{joined, Stands, nothing, blank, runs, changed_at, run, first_of, clear_of, draw_of, join_of, Keeps, over, clears, joins, refused, Accepted}
use Rattle.sequences.specs.Whole.{pixel_count, cleared, fresh, Fit}

-- ---- one call

-- a refused call leaves the layer it was lent to write
refused_left : (code : ℕ) (before work : Layer) → (code ≡ 0 → ⊥) → (answer code before work).left ≡ before
refused_left code before work h = rw (ne_eqb code 0 h)

accepted_left : (code : ℕ) (before work : Layer) → code ≡ 0 → (answer code before work).left ≡ work
accepted_left code before work h = rw h

left_as_lent : (s : Store) (c : Call) → ((outcome_of s c).code ≡ 0 → ⊥) → (outcome_of s c).left ≡ lent_layer s (written c)
unfolding clearing draws joining
left_as_lent s (clear l w h) no0 = refused_left _ _ _ no0
left_as_lent s (draw l tri xyz w h m first facing) no0 = refused_left _ _ _ no0
left_as_lent s (join l r w h) no0 = refused_left _ _ _ no0

returned_same : {A : Type 0} (s : ℕ → List A) (l : Lent A) (j : ℕ) → returned s l (contents s l) j ≡ s j
returned_same s (other xs) j = refl
returned_same s (held i) j = go (eqb i j) refl
  where
    go : (b : Bool) → eqb i j ≡ b → cond b (s i) (s j) ≡ s j
    go true e = ap s (eqb-true i j e)
    go false e = refl

-- so every layer stays
refused_layers : (s : Store) (c : Call) → ((outcome_of s c).code ≡ 0 → ⊥) → (j : ℕ) → layer_of (after s c) j ≡ layer_of s j
unfolding after
refused_layers s c no0 j =
    rw (left_as_lent s c no0)
    (same_buffers (returned_same s.maps (written c).map j) (returned_same s.depths (written c).depth j) (returned_same s.weights (written c).weights j))

-- a call that is lent layer i whole writes it, and no other
module _ (s : Store) (c : Call) (i : ℕ) (e : written c ≡ whole i) where
  pub this_layer : layer_of (after s c) i ≡ (outcome_of s c).left
  unfolding after
  this_layer = rw (e, eq-eqb i i refl)

  pub other_layers : (j : ℕ) → (i ≡ j → ⊥) → layer_of (after s c) j ≡ layer_of s j
  unfolding after
  other_layers j h = rw (e, ne_eqb i j h)

-- ---- runs

joined-append : {A : Type 0} (xs ys : List (List A)) → joined (xs ++ ys) ≡ joined xs ++ joined ys
unfolding joined
joined-append [] ys = refl
joined-append (x ∷ xs) ys = ap (λ l. x ++ l) (joined-append xs ys) ∙ sym (append_assoc x (joined xs) (joined ys))

-- ---- drawings into a cleared layer

pub cleared-spans : (n : ℕ) {l : Layer} → l ≡ cleared n → Spans l n
cleared-spans n e = rw e (spans-pixelwise n (λ p. cell.clear))

pub drawn-fresh : (sc : Scene) (fs : List Face) (k : ℕ) {mid new : Layer} → mid ≡ cleared (pixel_count sc) → new ≡ drawn sc fs k mid → new ≡ fresh sc fs k
unfolding fresh
drawn-fresh sc fs k e f = f ∙ ap (drawn sc fs k) e

module _ (sc : Scene) where
  -- pixel by pixel
  pub fresh_pixels : (fs : List Face) (k : ℕ) → fresh sc fs k ≡ pixelwise (pixel_count sc) (λ p. won no_hit (brought sc fs k p))
  unfolding fresh drawn painted
  fresh_pixels fs k =
      pixelwise_same (pixel_count sc) _ _
      (λ p h. ap (λ (c : Cell). offered c (brought sc fs k p)) (at-pixelwise (pixel_count sc) (λ q. cell.clear) p h))

  pub fresh_at : (fs : List Face) (k p : ℕ) → p < pixel_count sc → at (fresh sc fs k) p ≡ won no_hit (brought sc fs k p)
  fresh_at fs k p h = ap (λ (l : Layer). at l p) (fresh_pixels fs k) ∙ at-pixelwise (pixel_count sc) (λ q. won no_hit (brought sc fs k q)) p h

  pub fresh-spans : (fs : List Face) (k : ℕ) → Spans (fresh sc fs k) (pixel_count sc)
  fresh-spans fs k = rw (fresh_pixels fs k) (spans-pixelwise (pixel_count sc) (λ p. won no_hit (brought sc fs k p)))

  -- two lists one after the other are the two drawings joined
  fresh_join : (xs ys : List Face) (k : ℕ)
      → pixelwise (pixel_count sc) (λ p. pick (at (fresh sc xs k) p) (at (fresh sc ys (k + length xs)) p)) ≡ fresh sc (xs ++ ys) k
  unfolding brought
  fresh_join xs ys k =
      pixelwise_same (pixel_count sc) _ _
      (λ p h. ap₂ pick (fresh_at xs k p h) (fresh_at ys (k + length xs) p h) ∙ sym (won_runs (λ j f. numbered j (brings sc f p)) no_hit k xs ys))
      ∙ sym (fresh_pixels (xs ++ ys) k)

-- ---- acceptance

spans-exact : (w h : ℕ) (l : Layer) → Spans l (w * h) → exact_layer w h l ≡ true
unfolding exact
spans-exact w h l s = rw (eq-eqb _ _ s.numbers, eq-eqb _ _ s.depths, eq-eqb _ _ s.weights)

pub groups-flat : (fs : List Face) → length fs ≤ most_count → groups 3 most_count (length (flat fs)) ≡ true
unfolding groups
groups-flat fs h = rw (length-flat fs, eq-eqb (3 * length fs % 3) 0 (omega arith), le-leb (3 * length fs / 3) most_count (omega arith))

module _ {sc : Scene} {rs : List (List Face)} (fit : Fit sc rs) where
  clear-code : (l : Layer) → Spans l (pixel_count sc) → clear_code l sc.width sc.height ≡ 0
  unfolding clear_code first_no
  clear-code l s = rw (fit.sized, spans-exact sc.width sc.height l s)

  join_code_lem : (l r : Layer) → Spans l (pixel_count sc) → Spans r (pixel_count sc) → join_code l r sc.width sc.height ≡ 0
  unfolding join_code first_no
  join_code_lem l r s t = rw (fit.sized, spans-exact sc.width sc.height l s, spans-exact sc.width sc.height r t)

  draw_code_lem : (l : Layer) (r : ℕ) → r < length rs → Spans l (pixel_count sc)
      → draw_code l (flat (run sc rs r)) sc.vertices sc.width sc.height (first_of sc rs r) ≡ 0
  unfolding draw_code first_no numbers
  draw_code_lem l r h s =
      let few = fit.numbered r h in
      let count : length (flat (run sc rs r)) / 3 ≡ length (run sc rs r) = omega (arith, length-flat (run sc rs r)) in
      rw (
        fit.sized,
        groups-flat (run sc rs r) (omega arith),
        fit.vertices,
        spans-exact sc.width sc.height l s,
        count,
        le-leb (first_of sc rs r + length (run sc rs r)) most_count few,
        fit.corners r h,
      )

-- ---- the invariant

module _ (sc : Scene) (rs : List (List Face)) where
  -- the faces of `count` runs from run `from` on
  abbrev pub span : ℕ → ℕ → List Face
  span from count = joined (take count (drop from rs))

  Has : Stands → Layer → Type 0
  Has nothing l = Unit {0}
  Has blank l = l ≡ cleared (pixel_count sc)
  Has (runs from count) l = l ≡ fresh sc (span from count) (first_of sc rs from)

  Inv : (ℕ → Stands) → Store → Type 0
  Inv g s = (i : ℕ) → Has (g i) (layer_of s i)

  span-one : (r : ℕ) → r < length rs → span r 1 ≡ run sc rs r
  unfolding joined
  span-one r h = rw (drop-cons rs r [] h) (append-nil (run sc rs r))

  span_more : (from m n : ℕ) → span from (m + n) ≡ span from m ++ span (from + m) n
  span_more from m n =
      ap joined (take-add m n (drop from rs))
      ∙ joined-append (take m (drop from rs)) (take n (drop m (drop from rs)))
      ∙ ap (λ (l : List (List Face)). span from m ++ joined (take n l)) (drop-drop m from rs)

  first_more : (from m : ℕ) → first_of sc rs (from + m) ≡ first_of sc rs from + length (span from m)
  first_more from m =
      let e : length (joined (take (from + m) rs)) ≡ length (joined (take from rs)) + length (span from m)
      = ap (λ (l : List (List Face)). length (joined l)) (take-add from m rs)
      ∙ ap length (joined-append (take from rs) (take m (drop from rs)))
      ∙ length-append (joined (take from rs)) (span from m) in
      omega arith

  -- one layer changes, the others stay
  put : (g : ℕ → Stands) (s s' : Store) (i : ℕ) (x : Stands) → Inv g s → ((j : ℕ) → (i ≡ j → ⊥) → layer_of s' j ≡ layer_of s j) → Has x (layer_of s' i) → Inv (changed_at g i x) s'
  unfolding Inv
  put g s s' i x inv stay has j = go (eqb i j) refl
    where
      go : (b : Bool) → eqb i j ≡ b → Has (cond b x (g j)) (layer_of s' j)
      go true e = subst (λ (k : ℕ). Has x (layer_of s' k)) (eqb-true i j e) has
      go false e = subst (Has (g j)) (sym (stay j (λ p. absurd (true≢false (sym (eq-eqb i j p) ∙ e))))) (inv j)

  module _ (fit : Fit sc rs) where
    -- a layer of the image's lengths, cleared
    pub clear_left : (l : Layer) → Spans l (pixel_count sc) → (clearing l sc.width sc.height).left ≡ cleared (pixel_count sc)
    unfolding clearing
    clear_left l h = accepted_left _ _ _ (clear-code fit l h)

    clear-layer : (s : Store) (i : ℕ) → Spans (layer_of s i) (pixel_count sc) → layer_of (after s (clear_of sc rs i)) i ≡ cleared (pixel_count sc)
    clear-layer s i h = this_layer s (clear_of sc rs i) i refl ∙ clear_left (layer_of s i) h

    runs_spans : (l : Layer) (from m : ℕ) → Has (runs from m) l → Spans l (pixel_count sc)
    unfolding Has
    runs_spans l from m e = rw e (fresh-spans sc (span from m) (first_of sc rs from))

    -- a run drawn on a cleared layer
    pub drawn_left : (l : Layer) (facing r : ℕ) → facing_of facing ≡ sc.facing → r < length rs → l ≡ cleared (pixel_count sc)
        → (draws l (flat (run sc rs r)) sc.vertices sc.width sc.height sc.matrix (first_of sc rs r) facing).left ≡ fresh sc (span r 1) (first_of sc rs r)
    unfolding draws fresh
    drawn_left l facing r f h e =
        accepted_left _ _ _ (draw_code_lem fit l r h (cleared-spans (pixel_count sc) e))
        ∙ ap (λ (n : Facing). drawn (scene sc.matrix sc.vertices sc.width sc.height n) (faces_of (flat (run sc rs r))) (first_of sc rs r) l) f
        ∙ ap₂ (λ (fs : List Face) (l : Layer). drawn sc fs (first_of sc rs r) l) (faces-flat (run sc rs r) ∙ sym (span-one r h)) e

    drawn-layer : (s : Store) (facing i r : ℕ) → facing_of facing ≡ sc.facing → r < length rs → layer_of s i ≡ cleared (pixel_count sc)
        → layer_of (after s (draw_of sc rs facing r i)) i ≡ fresh sc (span r 1) (first_of sc rs r)
    drawn-layer s facing i r f h e = this_layer s (draw_of sc rs facing r i) i refl ∙ drawn_left (layer_of s i) facing r f h e

    joined-layer : (s : Store) (i j from m n : ℕ) → Has (runs from m) (layer_of s i) → Has (runs (from + m) n) (layer_of s j)
        → layer_of (after s (join_of sc rs i j)) i ≡ fresh sc (span from (m + n)) (first_of sc rs from)
    unfolding joining Has
    joined-layer s i j from m n hi hj =
        this_layer s (join_of sc rs i j) i refl
        ∙ accepted_left _ _ _ (join_code_lem fit (layer_of s i) (layer_of s j) (runs_spans (layer_of s i) from m hi) (runs_spans (layer_of s j) (from + m) n hj))
        ∙ ap₂ (λ (l r : Layer). pixelwise (pixel_count sc) (λ p. pick (at l p) (at r p))) hi (hj ∙ ap (fresh sc (span (from + m) n)) (first_more from m))
        ∙ fresh_join sc (span from m) (span (from + m) n) (first_of sc rs from)
        ∙ ap (λ (fs : List Face). fresh sc fs (first_of sc rs from)) (sym (span_more from m n))

    kept_through : {g : ℕ → Stands} {s : Store} {cs : List Call} {g' : ℕ → Stands} (k : Keeps sc rs g s cs g') → Inv g s → Accepted sc rs k × Inv g' (after_all s cs)
    unfolding after_all Accepted Inv Has clearing draws joining
    kept_through over inv = (tt, inv)
    kept_through (clears {g = g} {s = s} i h k) inv =
        let rest = kept_through k (put g s (after s (clear_of sc rs i)) i blank inv (other_layers s (clear_of sc rs i) i refl) (clear-layer s i h)) in
        ((clear-code fit (layer_of s i) h, rest.0), rest.1)
    kept_through (plan.draws {g = g} {s = s} facing i r f h e k) inv =
        let has : layer_of s i ≡ cleared (pixel_count sc) = subst (λ (x : Stands). Has x (layer_of s i)) e (inv i) in
        let rest = kept_through k (put g s (after s (draw_of sc rs facing r i)) i (runs r 1) inv (other_layers s (draw_of sc rs facing r i) i refl) (drawn-layer s facing i r f h has)) in
        ((draw_code_lem fit (layer_of s i) r h (cleared-spans (pixel_count sc) has), rest.0), rest.1)
    kept_through (joins {g = g} {s = s} i j from m n d ei ej k) inv =
        let hi = subst (λ (x : Stands). Has x (layer_of s i)) ei (inv i) in
        let hj = subst (λ (x : Stands). Has x (layer_of s j)) ej (inv j) in
        let rest = kept_through k (put g s (after s (join_of sc rs i j)) i (runs from (m + n)) inv (other_layers s (join_of sc rs i j) i refl) (joined-layer s i j from m n hi hj)) in
        ((join_code_lem fit (layer_of s i) (layer_of s j) (runs_spans (layer_of s i) from m hi) (runs_spans (layer_of s j) (from + m) n hj), rest.0), rest.1)
    kept_through (refused {g = g} {s = s} c h k) inv = kept_through k (λ j. subst (Has (g j)) (sym (refused_layers s c h j)) (inv j))

    -- The one layer that remains is the drawing of all runs.
    pub remains : {g : ℕ → Stands} {s : Store} {cs : List Call} {g' : ℕ → Stands} (k : Keeps sc rs g s cs g') (i : ℕ) → ((j : ℕ) → g j ≡ nothing)
        → g' i ≡ runs 0 (length rs) → Accepted sc rs k × (layer_of (after_all s cs) i ≡ fresh sc (joined rs) 0)
    unfolding Has Inv joined
    remains {g} {s} {cs} {g'} k i none e =
        let done = kept_through k (λ j. subst (λ (x : Stands). Has x (layer_of s j)) (sym (none j)) tt) in (
          done.0,
          subst (λ (x : Stands). Has x (layer_of (after_all s cs) i)) e (done.1 i) ∙ ap (λ (l : List (List Face)). fresh sc (joined l) 0) (take-length rs),
        )
