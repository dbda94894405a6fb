-- The theorem with front pieces: of the faces at a pixel a back piece is the nearest, and it holds none. It is taken out; the rest is cut in two runs, whose
-- draws name the facing by two numbers.
use Rattle.std.specs.Prelude.{ℕ, zero, suc, ◌<◌, ◌≡◌, refl, List, [], ◌∷◌, ◌++◌}
use Rattle.std.proofs.Common.{ap, arith, lit<}
use Rattle.std.specs.Float.{nan}
use Rattle.offers.specs.Thinning.{kept_from}
use Rattle.offers.proofs.Laws.Joins.{won}
use Rattle.cells.specs.Cell.{Cell, cell, no_hit}
use Rattle.cells.specs.Layer.{layer, weights_at}
use Rattle.layers.specs.Calls.{clearing, clear_code, joining, join_code}
use Rattle.meshes.specs.Mesh.{Face, face, faces_of, flat}
use Rattle.rules.specs.declared.Facing.{Facing}
use Rattle.rules.specs.declared.Facing.TheVariants.{All, Front}
use Rattle.rules.specs.Offers.{Scene, scene, brought}
use Rattle.sequences.specs.Calls.{Store, after}
use Rattle.sequences.specs.Plan as plan
use Rattle.sequences.specs.Plan.{joined, nothing, runs, changed_at, over, clears, joins, clear_of, draw_of, join_of}
use Rattle.sequences.specs.Case.{Cut, Case, full}
use Rattle.sequences.proofs.Instance.{keep, not-held}
use Rattle.sequences.specs.Example as example
use Rattle.sequences.specs.Example.{matrix, corners, quarter, half, four, twelve, in_t, in_exchanged_t, faced}

-- T(0.25), and T(0.5), which is nearer
abbrev seen : Facing → Scene
seen facing = scene (matrix example.zero example.one) (corners quarter ++ corners half) 2 2 facing

abbrev sc : Scene
sc = seen Front

-- T(0.5) is a back piece; T(0.25) with two corners exchanged is a front piece
abbrev nearer : Face
nearer = face 3 4 5

abbrev front : Face
front = face 0 2 1

abbrev tri2vtx : List ℕ
tri2vtx = 3 ∷ 4 ∷ 5 ∷ 0 ∷ 2 ∷ 1 ∷ 3 ∷ 4 ∷ 5 ∷ 0 ∷ 2 ∷ 1 ∷ []

unfoldable pub fs : List Face
fs = nearer ∷ front ∷ nearer ∷ front ∷ []

shown : (p : ℕ) → p < 4 → won no_hit (brought sc fs 0 p) ≡ cell quarter 1 (weights_at in_exchanged_t p)
unfolding faced fs
shown zero h = refl
shown (suc zero) h = refl
shown (suc (suc zero)) h = refl
shown (suc (suc (suc zero))) h = refl
shown (suc (suc (suc (suc p)))) h = absurd (omega arith)

-- with all faces the nearer one would be shown
pub shown_of_all : (p : ℕ) → p < 4 → won no_hit (brought (seen All) fs 0 p) ≡ cell half 0 (weights_at in_t p)
unfolding faced fs
shown_of_all zero h = refl
shown_of_all (suc zero) h = refl
shown_of_all (suc (suc zero)) h = refl
shown_of_all (suc (suc (suc zero))) h = refl
shown_of_all (suc (suc (suc (suc p)))) h = absurd (omega arith)

abbrev rs : List (List Face)
rs = (front ∷ []) ∷ (nearer ∷ front ∷ []) ∷ []

-- face 0 is taken out
pub mesh : Cut
unfolding faced fs joined kept_from faces_of
mesh = record { tri2vtx = tri2vtx; sc = sc; accepted = refl; facing = 2; named = refl; keep = keep; idle = λ i l. not-held sc fs 4 (λ p h. ap (λ (c : Cell). c.payload.number) (shown p h)) i; rs = rs; cut = refl }

-- the whole drawing shows the front piece behind the nearer one
pub pictured : full mesh ≡ layer (four 1) (four quarter) in_exchanged_t
unfolding faced mesh
pictured = refl

abbrev start : Store
start = record { maps = λ i. four 9; depths = λ i. four nan; weights = λ i. twelve nan }

pub front-pieces : Case
unfolding faced mesh flat joined after clearing clear_code joining join_code
front-pieces =
    record {
      mesh = mesh;
      start = start;
      calls = clear_of sc rs 0 ∷ draw_of sc rs 1 0 0 ∷ clear_of sc rs 1 ∷ draw_of sc rs 4294967295 1 1 ∷ join_of sc rs 0 1 ∷ [];
      plan =
          record {
            stands = changed_at (changed_at (changed_at (changed_at (changed_at (λ i. nothing) 0 plan.blank) 0 (runs 0 1)) 1 plan.blank) 1 (runs 1 1)) 0 (runs 0 2);
            keeps =
                clears 0 (record { numbers = refl; depths = refl; weights = refl })
                (plan.draws 1 0 0 refl (lit< tt) refl
                (clears 1 (record { numbers = refl; depths = refl; weights = refl })
                (plan.draws 4294967295 1 1 refl (lit< tt) refl
                (joins 0 1 0 1 1 (λ e. omega arith) refl refl over))));
            last = 0;
            remaining = refl;
          };
    }
