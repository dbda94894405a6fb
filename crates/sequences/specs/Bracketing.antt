-- The calls of a bracketing: of a binary tree over the runs of a cut.
use Rattle.std.specs.Prelude.{ℕ, ◌+◌, List, [], ◌∷◌}
use Rattle.meshes.specs.Mesh.{Face}
use Rattle.rules.specs.Offers.{Scene}
use Rattle.sequences.specs.Calls.{Call}
use Rattle.sequences.specs.Plan.{clear_of, draw_of, join_of}
use Rattle.sequences.specs.Case.{Cut}

-- a bracketing: one run, or what the left one stands for joined with what the right one does
pub data Bracketing : Type 0 where
  one : Bracketing
  pair : Bracketing → Bracketing → Bracketing

unfoldable pub run_count : Bracketing → ℕ
run_count one = 1
run_count (pair a b) = run_count a + run_count b

module _ (sc : Scene) (facing : ℕ) (rs : List (List Face)) where
  -- the calls of a bracketing of the runs from r on, run i in layer i, and then `rest`
  unfoldable pub calls_from : Bracketing → ℕ → List Call → List Call
  calls_from one r rest = clear_of sc rs r ∷ draw_of sc rs facing r r ∷ rest
  calls_from (pair a b) r rest = calls_from a r (calls_from b (r + run_count a) (join_of sc rs r (r + run_count a) ∷ rest))

-- all of them
abbrev pub bracketed : Cut → Bracketing → List Call
bracketed m t = calls_from m.sc m.facing m.rs t 0 []
