-- Every bracketing has a plan: for each mesh, removal and cut, and each binary tree over its runs, there are calls that keep to it.
use Rattle.std.specs.Prelude.{ℕ, ◌+◌, ◌<◌, ◌≤◌, ◌≡◌, Bool, cond, List, [], ◌∷◌}
use Rattle.std.proofs.Math.Path.{refl, subst}
use Rattle.std.proofs.Common.{ap, sym, ◌∙◌, eq-eqb, ne_eqb, eqb-true}
use Rattle.std.proofs.Math.Bool.{true, false}
use native.Mathlib.Omega.{arith}
use Rattle.std.proofs.lemmas.Bool.{eqb-false}
use Rattle.std.proofs.Math.Dec.{eqb}
use Rattle.std.proofs.Math.ListN.{length}
use Rattle.questions.specs.Questions.{answer}
use Rattle.offers.specs.Offer.{pick}
use Rattle.cells.specs.Cell as cell
use Rattle.cells.specs.Layer.{Layer, at}
use Rattle.cells.specs.Steps.{Spans}
use Rattle.layers.specs.Calls.{clear_code, clearing, join_code, joining}
use Rattle.cells.proofs.Laws.Pixels.{spans-pixelwise}
use Rattle.meshes.specs.Mesh.{Face, faces_of, flat}
use Rattle.rules.specs.Offers.{Scene, scene, brought}
use Rattle.rules.specs.Draw.{drawn}
use Rattle.rules.specs.Calls.{draw_code, facing_of, draws}
use Rattle.rules.proofs.Laws.Paint.{spans-painted}
use Rattle.sequences.specs.Calls.{Store, layer_of, Call, written, whole, outcome_of, after}
use Rattle.sequences.specs.Plan as plan
use Rattle.sequences.specs.Plan.{Stands, nothing, blank, runs, changed_at, run, first_of, clear_of, draw_of, join_of, Keeps, over, clears, joins}
use Rattle.sequences.specs.Whole.{pixel_count}
use Rattle.sequences.proofs.Whole.{this_layer, other_layers}
use Rattle.sequences.specs.Case.{Cut, Planned}
use Rattle.sequences.specs.Bracketing.{Bracketing, one, pair, run_count, calls_from, bracketed}

run_count_pos : (t : Bracketing) → 0 < run_count t
unfolding run_count
run_count_pos one = omega arith
run_count_pos (pair a b) = omega (arith, run_count_pos a)

module _ (sc : Scene) (facing : ℕ) (named : facing_of facing ≡ sc.facing) (rs : List (List Face)) where
  -- ---- lengths stay

  Sized : Store → Type 0
  Sized s = (i : ℕ) → i < length rs → Spans (layer_of s i) (pixel_count sc)

  answer-spans : (n code : ℕ) (before work : Layer) → Spans before n → Spans work n → Spans (answer code before work).left n
  answer-spans n code before work b w = go (eqb code 0)
    where
      go : (t : Bool) → Spans (cond t work before) n
      go true = w
      go false = b

  stay_sized : (s : Store) (c : Call) (i : ℕ) → written c ≡ whole i → Spans (outcome_of s c).left (pixel_count sc) → Sized s → Sized (after s c)
  unfolding Sized
  stay_sized s c i e h sized j l = go (eqb i j) refl
    where
      go : (b : Bool) → eqb i j ≡ b → Spans (layer_of (after s c) j) (pixel_count sc)
      go true p = subst (λ (k : ℕ). Spans (layer_of (after s c) k) (pixel_count sc)) (eqb-true i j p) (subst (λ (k : Layer). Spans k (pixel_count sc)) (sym (this_layer s c i e)) h)
      go false p = subst (λ (k : Layer). Spans k (pixel_count sc)) (sym (other_layers s c i e j (eqb-false i j p))) (sized j l)

  module _ (s : Store) (sized : Sized s) (i : ℕ) (l : i < length rs) where
    clear_sized : Sized (after s (clear_of sc rs i))
    unfolding Sized clearing
    clear_sized = stay_sized s (clear_of sc rs i) i refl (answer-spans _ (clear_code (layer_of s i) sc.width sc.height) _ _ (sized i l) (spans-pixelwise (pixel_count sc) (λ p. cell.clear))) sized

    draw_sized : (r : ℕ) → Sized (after s (draw_of sc rs facing r i))
    unfolding Sized draws drawn
    draw_sized r =
        stay_sized s (draw_of sc rs facing r i) i refl
        (answer-spans _ (draw_code (layer_of s i) (flat (run sc rs r)) sc.vertices sc.width sc.height (first_of sc rs r)) _ _ (sized i l) (spans-painted (brought (scene sc.matrix sc.vertices sc.width sc.height (facing_of facing)) (faces_of (flat (run sc rs r))) (first_of sc rs r)) (pixel_count sc) (layer_of s i)))
        sized

    join_sized : (j : ℕ) → Sized (after s (join_of sc rs i j))
    unfolding Sized joining
    join_sized j =
        stay_sized s (join_of sc rs i j) i refl
        (answer-spans _ (join_code (layer_of s i) (layer_of s j) sc.width sc.height) _ _ (sized i l) (spans-pixelwise (pixel_count sc) (λ p. pick (at (layer_of s i) p) (at (layer_of s j) p))))
        sized

  -- ---- the plan

  this_changed : (g : ℕ → Stands) (i : ℕ) (x : Stands) → changed_at g i x i ≡ x
  this_changed g i x = rw (eq-eqb i i refl)

  other_changed : (g : ℕ → Stands) (i : ℕ) (x : Stands) (j : ℕ) → (i ≡ j → ⊥) → changed_at g i x j ≡ g j
  other_changed g i x j h = rw (ne_eqb i j h)

  -- calls that keep to the plan, until layer 0 stands for all runs
  Finishes : (ℕ → Stands) → Store → List Call → Type 0
  Finishes g s cs = (g' : ℕ → Stands) × Keeps sc rs g s cs g' × (g' 0 ≡ runs 0 (length rs))

  -- the calls of a bracketing of the runs from r on finish where `rest` does, once layer r stands for them and the layers below r are as they were
  planned : (t : Bracketing) (r : ℕ) (g : ℕ → Stands) (s : Store) (rest : List Call) → r + run_count t ≤ length rs → Sized s
      → ((g' : ℕ → Stands) (s' : Store) → Sized s' → g' r ≡ runs r (run_count t) → ((j : ℕ) → j < r → g' j ≡ g j) → Finishes g' s' rest)
      → Finishes g s (calls_from sc facing rs t r rest)
  unfolding calls_from run_count Finishes Sized
  planned one r g s rest l sized continue =
      let l' : r < length rs = omega arith in
      let s1 = after s (clear_of sc rs r) in
      let sized1 = clear_sized s sized r l' in
      let done = continue (changed_at (changed_at g r blank) r (runs r 1)) (after s1 (draw_of sc rs facing r r)) (draw_sized s1 sized1 r l' r) (this_changed (changed_at g r blank) r (runs r 1))
      (λ j h. other_changed (changed_at g r blank) r (runs r 1) j (λ e. omega arith) ∙ other_changed g r blank j (λ e. omega arith)) in
      (done.0, clears r (sized r l') (plan.draws facing r r named l' (this_changed g r blank) done.1), done.2)
  planned (pair a b) r g s rest l sized continue =
      planned a r g s (calls_from sc facing rs b (r + run_count a) (join_of sc rs r (r + run_count a) ∷ rest)) (omega arith) sized
      (λ g1 s1 sized1 is1 below1.
      planned b (r + run_count a) g1 s1 (join_of sc rs r (r + run_count a) ∷ rest) (omega arith) sized1
      (λ g2 s2 sized2 is2 below2.
      let l' : r < length rs = omega (arith, run_count_pos a) in
      let done = continue (changed_at g2 r (runs r (run_count a + run_count b))) (after s2 (join_of sc rs r (r + run_count a))) (join_sized s2 sized2 r l' (r + run_count a))
      (this_changed g2 r (runs r (run_count a + run_count b)))
      (λ j h. other_changed g2 r (runs r (run_count a + run_count b)) j (λ e. omega arith) ∙ below2 j (omega arith) ∙ below1 j h) in (
        done.0,
        joins r (r + run_count a) r (run_count a) (run_count b) (λ e. omega (arith, run_count_pos a)) (below2 r (omega (arith, run_count_pos a)) ∙ is1) is2 done.1,
        done.2,
      )))

-- Every bracketing has a plan: of all runs of any cut, from layers that hold anything of the image's lengths.
pub every_bracketing : (m : Cut) (t : Bracketing) → run_count t ≡ length m.rs → (start : Store) → ((i : ℕ) → i < length m.rs → Spans (layer_of start i) (pixel_count m.sc))
    → Planned m start (bracketed m t)
unfolding Finishes Sized
every_bracketing m t e start sized =
    let done = planned m.sc m.facing m.named m.rs t 0 (λ i. nothing) start [] (omega arith) sized
    (λ g s h is below. (g, over, is ∙ ap (runs 0) e)) in
    record { stands = done.0; keeps = done.1; last = 0; remaining = done.2 }
