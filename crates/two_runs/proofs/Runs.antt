-- From what the calls promise to the theorem.
use Prim.Native.Nat.{ℕ, ◌-◌, ◌*◌, ◌/◌, ◌≤◌}
use mathlib.Core.Path.{◌≡◌, refl, sym, ap, ap₂, ◌∙◌}
use mathlib.Core.List.{List}
use lib.Ieee.{Float}
use lib.ListN.{length, length-drop, take, drop}
use lib.Seq.{take-length}
use Rattle.questions.specs.Questions.{Outcome, outcome, most_count}
use Rattle.questions.specs.Laws.{grouped}
use Rattle.cells.specs.Layer.{Layer}
use Rattle.cells.specs.Steps.{Spans}
use Rattle.layers.specs.Calls.{clearing, joining}
use Rattle.rules.specs.Offers.{scene}
use Rattle.rules.specs.Calls.{draw_code, facing_of, draws}
use Rattle.sequences.specs.Whole.{cleared}
use Rattle.sequences.proofs.Mesh.{answered}
use Rattle.sequences.proofs.TwoRuns.{two_runs}

-- the part of a list from n on, as the code lends it
rest : (n : ℕ) (xs : List ℕ) → take (length xs - n) (drop n xs) ≡ drop n xs
rest n xs = ap (λ (k : ℕ). take k (drop n xs)) (sym (length-drop n xs)) ∙ take-length (drop n xs)

module _ (tri : List ℕ) (xyz : List Float) (w h : ℕ) (m : List Float) (facing : ℕ) where
  -- a run's layer
  abbrev run : Layer → List ℕ → ℕ → Layer
  run l t first = (draws (clearing l w h).left t xyz w h m first facing).left

  module _ (accepted : draw_code (cleared (w * h)) tri xyz w h 0 ≡ 0) where
    -- the faces can be counted in 32 bits
    pub few_faces : length tri / 3 ≤ most_count
    few_faces = (grouped 3 most_count (length tri) (answered (cleared (w * h)) (scene m xyz w h (facing_of facing)) tri 0 accepted).faces).most

    pub runs_joined : (left right : Layer) (count : ℕ) {code : ℕ} {left' right' new : Layer} → count ≤ length tri / 3 → Spans left (w * h) → Spans right (w * h)
        → left' ≡ (draws (clearing left w h).left (take (3 * count) tri) xyz w h m 0 facing).left
        → right' ≡ (draws (clearing right w h).left (take (length tri - 3 * count) (drop (3 * count) tri)) xyz w h m count facing).left
        → outcome code new ≡ joining left' right' w h
        → outcome code new ≡ draws (cleared (w * h)) tri xyz w h m 0 facing
    runs_joined left right count few sl sr el er ej =
        ej
        ∙ ap₂ (λ (a b : Layer). joining a b w h) el (er ∙ ap (λ (t : List ℕ). run right t count) (rest (3 * count) tri))
        ∙ two_runs (scene m xyz w h (facing_of facing)) facing refl tri count left right accepted few sl sr
