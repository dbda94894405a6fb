-- The plan of 01, "Demand 3's words": a cut of a face list into runs, a layer for each, cleared, drawn, and joined until one remains.
use Rattle.std.specs.Prelude.{ℕ, ◌+◌, ◌*◌, ◌<◌, ◌≡◌, cond, List, [], ◌∷◌, ◌++◌, eqb, length, take, get_or}
use Rattle.cells.specs.Steps.{Spans}
use Rattle.meshes.specs.Mesh.{Face, flat}
use Rattle.rules.specs.Offers.{Scene}
use Rattle.rules.specs.Calls.{facing_of}
use Rattle.sequences.specs.Calls.{Store, layer_of, whole, Call, clear, draw, join, outcome_of, after}

-- the runs one after the other
unfoldable pub joined : {A : Type 0} → List (List A) → List A
joined [] = []
joined (r ∷ rs) = r ++ joined rs

-- what a layer stands for while the plan is kept: nothing that counts, a cleared layer, or `count` runs from run `from` on
pub data Stands : Type 0 where
  nothing : Stands
  blank : Stands
  runs : (from count : ℕ) → Stands

-- the same, but for layer i
abbrev pub changed_at : (ℕ → Stands) → ℕ → Stands → ℕ → Stands
changed_at g i x j = cond (eqb i j) x (g j)

module _ (sc : Scene) (rs : List (List Face)) where
  abbrev pub run : ℕ → List Face
  run r = get_or rs r []

  -- "as first number the count of faces in earlier runs"
  abbrev pub first_of : ℕ → ℕ
  first_of r = length (joined (take r rs))

  abbrev pub clear_of : ℕ → Call
  clear_of i = clear (whole i) sc.width sc.height

  abbrev pub draw_of : ℕ → ℕ → ℕ → Call
  draw_of facing r i = draw (whole i) (flat (run r)) sc.vertices sc.width sc.height sc.matrix (first_of r) facing

  abbrev pub join_of : ℕ → ℕ → Call
  join_of i j = join (whole i) (whole j) sc.width sc.height

  -- A sequence of calls, from the layers as they stand, that keeps to the plan. Every draw names the scene's facing, by 0 or by any other number. A layer has the image's lengths when it is cleared. A refused call may have any arguments.
  pub data Keeps : (ℕ → Stands) → Store → List Call → (ℕ → Stands) → Type 0 where
    over : {g : ℕ → Stands} {s : Store} → Keeps g s [] g
    clears : {g : ℕ → Stands} {s : Store} {cs : List Call} {g' : ℕ → Stands} (i : ℕ)
        → Spans (layer_of s i) (sc.width * sc.height)
        → Keeps (changed_at g i blank) (after s (clear_of i)) cs g'
        → Keeps g s (clear_of i ∷ cs) g'
    draws : {g : ℕ → Stands} {s : Store} {cs : List Call} {g' : ℕ → Stands} (facing i r : ℕ)
        → facing_of facing ≡ sc.facing
        → r < length rs
        → g i ≡ blank
        → Keeps (changed_at g i (runs r 1)) (after s (draw_of facing r i)) cs g'
        → Keeps g s (draw_of facing r i ∷ cs) g'
    joins : {g : ℕ → Stands} {s : Store} {cs : List Call} {g' : ℕ → Stands} (i j from m n : ℕ)
        → (i ≡ j → ⊥)
        → g i ≡ runs from m
        → g j ≡ runs (from + m) n
        → Keeps (changed_at g i (runs from (m + n))) (after s (join_of i j)) cs g'
        → Keeps g s (join_of i j ∷ cs) g'
    refused : {g : ℕ → Stands} {s : Store} {cs : List Call} {g' : ℕ → Stands} (c : Call)
        → ((outcome_of s c).code ≡ 0 → ⊥)
        → Keeps g (after s c) cs g'
        → Keeps g s (c ∷ cs) g'

  -- the plan's own calls are accepted
  unfoldable pub Accepted : {g : ℕ → Stands} {s : Store} {cs : List Call} {g' : ℕ → Stands} → Keeps g s cs g' → Type 0
  Accepted over = Unit {0}
  Accepted (clears {s = s} i h k) = ((outcome_of s (clear_of i)).code ≡ 0) × Accepted k
  Accepted (draws {s = s} facing i r f h e k) = ((outcome_of s (draw_of facing r i)).code ≡ 0) × Accepted k
  Accepted (joins {s = s} i j from m n d hi hj k) = ((outcome_of s (join_of i j)).code ≡ 0) × Accepted k
  Accepted (refused c h k) = Accepted k
