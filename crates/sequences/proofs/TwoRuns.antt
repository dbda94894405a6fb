-- The theorem for a list cut in two, as the crate `two_runs` meets it by the calls themselves.
use Rattle.std.specs.Prelude.{ℕ, zero, suc, ◌*◌, ◌/◌, ◌≤◌, ◌≡◌, Bool, true, false, cond, eqb, length, take, drop}
use Rattle.std.proofs.Math.Path.{refl, ap₂, sym}
use Rattle.std.proofs.Common.{ap, ◌∙◌, arith, eqb-true, lit<, take-append-drop}
use mathlib.Core.List.{List, [], ◌∷◌, ◌++◌, map, append-nil}
use Rattle.questions.specs.Questions.{Outcome, outcome, empty}
use Rattle.offers.specs.Thinning.{kept_from, kept_before, renumber}
use Rattle.offers.proofs.Laws.Thinning.{kept_all}
use Rattle.cells.specs.Layer.{Layer}
use Rattle.cells.specs.Steps.{Spans}
use Rattle.cells.proofs.Laws.Cells.{same_buffers}
use Rattle.layers.specs.Calls.{clearing, joining}
use Rattle.meshes.specs.Mesh.{Face, faces_of, flat}
use Rattle.meshes.specs.Laws.{length-flat, flat-take, flat-drop}
use Rattle.rules.specs.Offers.{Scene}
use Rattle.rules.specs.Calls.{draw_code, facing_of, draws}
use Rattle.sequences.specs.Calls.{Store, after, after_all}
use Rattle.sequences.specs.Plan as plan
use Rattle.sequences.specs.Plan.{joined, nothing, runs, changed_at, over, clears, joins, clear_of, draw_of, join_of, Accepted}
use Rattle.sequences.specs.Whole.{pixel_count, cleared}
use Rattle.sequences.proofs.Mesh.{answered, threes_of}
use Rattle.sequences.specs.Case.{Case, full, final}
use Rattle.sequences.proofs.Case.{pictures}

-- ---- lists

taken : (c : ℕ) (fs : List Face) → c ≤ length fs → length (take c fs) ≡ c
taken zero fs h = refl
taken (suc c) [] h = absurd (omega arith)
taken (suc c) (f ∷ fs) h = ap suc (taken c fs (omega arith))

-- no face is taken out
abbrev pub every : ℕ → Bool
every k = true

pub kept-every : (k : ℕ) (fs : List Face) → kept_from every k fs ≡ fs
kept-every k fs = kept_all every k fs (λ i l. tt)

before-every : (k : ℕ) → kept_before every k ≡ k
unfolding kept_before
before-every zero = refl
before-every (suc k) = ap suc (before-every k)

renumber-every : (k : ℕ) → renumber empty every k ≡ k
unfolding renumber
renumber-every k = go (eqb k empty) refl
  where
    go : (b : Bool) → eqb k empty ≡ b → cond b empty (kept_before every k) ≡ k
    go true e = sym (eqb-true k empty e)
    go false e = before-every k

map-every : (ns : List ℕ) → map (renumber empty every) ns ≡ ns
map-every [] = refl
map-every (n ∷ ns) = ap₂ ◌∷◌ (renumber-every n) (map-every ns)

-- ---- the case

module _ (sc : Scene) (facing : ℕ) (named : facing_of facing ≡ sc.facing) (tri : List ℕ) (count : ℕ) (left right : Layer) (accepted : draw_code (cleared (pixel_count sc)) tri sc.vertices sc.width sc.height 0 ≡ 0) where
  abbrev fs : List Face
  fs = faces_of tri

  abbrev rs : List (List Face)
  rs = take count fs ∷ drop count fs ∷ []

  threes : flat fs ≡ tri
  threes = threes_of tri (answered (cleared (pixel_count sc)) sc tri 0 accepted).faces

  cut : joined rs ≡ kept_from every 0 fs
  unfolding joined
  cut = rw append-nil (take-append-drop count fs ∙ sym (kept-every 0 fs))

  abbrev start : Store
  start =
      record {
        maps = λ i. cond (eqb i 0) left.pix2tri right.pix2tri;
        depths = λ i. cond (eqb i 0) left.pix2depth right.pix2depth;
        weights = λ i. cond (eqb i 0) left.pix2weights right.pix2weights;
      }

  -- clear, draw, clear, draw, join
  two_runs_case : Spans left (pixel_count sc) → Spans right (pixel_count sc) → Case
  unfolding after
  two_runs_case sl sr =
      record {
        mesh = record { tri2vtx = tri; sc = sc; accepted = accepted; facing = facing; named = named; keep = every; idle = λ i h t. absurd t; rs = rs; cut = cut };
        start = start;
        calls = clear_of sc rs 0 ∷ draw_of sc rs facing 0 0 ∷ clear_of sc rs 1 ∷ draw_of sc rs facing 1 1 ∷ join_of sc rs 0 1 ∷ [];
        plan =
            record {
              stands = changed_at (changed_at (changed_at (changed_at (changed_at (λ i. nothing) 0 plan.blank) 0 (runs 0 1)) 1 plan.blank) 1 (runs 1 1)) 0 (runs 0 2);
              keeps = clears 0 sl (plan.draws facing 0 0 named (lit< tt) refl (clears 1 sr (plan.draws facing 1 1 named (lit< tt) refl (joins 0 1 0 1 1 (λ e. omega arith) refl refl over))));
              last = 0;
              remaining = refl;
            };
      }

  -- what the calls leave, for the runs' slices a and b, the second numbered from k
  abbrev joined_runs : List ℕ → List ℕ → ℕ → Outcome Layer
  joined_runs a b k =
      joining (draws (clearing left sc.width sc.height).left a sc.vertices sc.width sc.height sc.matrix 0 facing).left
      (draws (clearing right sc.width sc.height).left b sc.vertices sc.width sc.height sc.matrix k facing).left sc.width sc.height

  module _ (few : count ≤ length tri / 3) (sl : Spans left (pixel_count sc)) (sr : Spans right (pixel_count sc)) where
    same_layer : final (two_runs_case sl sr) ≡ full (two_runs_case sl sr).mesh
    unfolding two_runs_case
    same_layer =
        let p = pictures (two_runs_case sl sr) in
        same_buffers (p.maps ∙ map-every (full (two_runs_case sl sr).mesh).pix2tri) p.depths p.weights

    planned : joined_runs (flat (take count fs)) (flat (drop count fs)) (length (take count fs ++ [])) ≡ outcome 0 (final (two_runs_case sl sr))
    unfolding two_runs_case after after_all joined Accepted
    planned = ap₂ outcome (pictures (two_runs_case sl sr)).answered.1.1.1.1.0 refl

    whole_list : outcome 0 (full (two_runs_case sl sr).mesh) ≡ draws (cleared (pixel_count sc)) tri sc.vertices sc.width sc.height sc.matrix 0 facing
    unfolding two_runs_case draws
    whole_list = ap₂ outcome (sym accepted) refl

    count_is : length (take count fs ++ []) ≡ count
    count_is = rw append-nil (taken count fs (omega (arith, length-flat fs, ap length threes)))

    -- The joined layer is what drawing the whole list gives.
    pub two_runs : joined_runs (take (3 * count) tri) (drop (3 * count) tri) count ≡ draws (cleared (pixel_count sc)) tri sc.vertices sc.width sc.height sc.matrix 0 facing
    two_runs =
        let a : take (3 * count) tri ≡ flat (take count fs) = ap (take (3 * count)) (sym threes) ∙ flat-take count fs in
        let b : drop (3 * count) tri ≡ flat (drop count fs) = ap (drop (3 * count)) (sym threes) ∙ flat-drop count fs in
        ap₂ (λ (x y : List ℕ). joined_runs x y count) a b
        ∙ ap (joined_runs (flat (take count fs)) (flat (drop count fs))) (sym count_is)
        ∙ planned
        ∙ ap (outcome 0) same_layer
        ∙ whole_list
