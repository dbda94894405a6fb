-- The theorem is not empty: a mesh of four faces, one of which holds no pixel and is taken out; the rest cut into five runs, three of them empty.
-- The calls come out of order: runs 3 and 4 are joined before 1 and 2 are drawn, with refused calls among them.
use Rattle.std.specs.Prelude.{ℕ, zero, suc, ◌<◌, ◌≡◌, refl, Bool, true, false, not, cond, List, [], ◌∷◌, ◌++◌, T, eqb, length, take}
use Rattle.std.proofs.Common.{sym, ◌∙◌, ap, arith, eqb→eq, lit<}
use Rattle.std.specs.Float.{nan}
use Rattle.offers.specs.Thinning.{kept_from}
use Rattle.offers.proofs.Laws.Greatest.{first-of-greatest}
use Rattle.offers.proofs.Laws.Joins.{won}
use Rattle.offers.proofs.Laws.Removal.{with_greatest}
use Rattle.cells.specs.Cell.{Cell, no_hit}
use Rattle.cells.specs.Steps.{Spans}
use Rattle.layers.specs.Calls.{clearing, clear_code, joining, join_code}
use Rattle.meshes.specs.Mesh.{Face, face, faces_of, flat}
use Rattle.rules.specs.declared.Facing.TheVariants.{All}
use Rattle.rules.specs.Offers.{Scene, scene, brought, offers, Holds}
use Rattle.rules.specs.Calls.{facing_of}
use Rattle.sequences.specs.Calls.{Store, layer_of, Call, clear, draw, join, held, other, whole, outcome_of, after, after_all}
use Rattle.sequences.specs.Plan as plan
use Rattle.sequences.specs.Plan.{joined, Stands, nothing, runs, changed_at, Keeps, over, clears, joins, refused, clear_of, draw_of, join_of}
use Rattle.sequences.specs.Case.{Cut, Case, faces}
use Rattle.sequences.specs.Example as example
use Rattle.sequences.specs.Example.{matrix, corners, quarter, half, four, twelve, faced}

-- T(0.25), T(0.5), T(0.25), T(0.5): face 1 holds every pixel, face 3 ties with it
abbrev sc : Scene
sc = scene (matrix example.zero example.one) (corners quarter ++ corners half) 2 2 All

abbrev back : Face
back = face 0 1 2

abbrev front : Face
front = face 3 4 5

abbrev tri2vtx : List ℕ
tri2vtx = 0 ∷ 1 ∷ 2 ∷ 3 ∷ 4 ∷ 5 ∷ 0 ∷ 1 ∷ 2 ∷ 3 ∷ 4 ∷ 5 ∷ []

fs : List Face
fs = back ∷ front ∷ back ∷ front ∷ []

-- face 0 is taken out
abbrev pub keep : ℕ → Bool
keep k = not (eqb k 0)

-- the first run, one in the middle and the last are empty
abbrev rs : List (List Face)
rs = [] ∷ (front ∷ []) ∷ [] ∷ (back ∷ front ∷ []) ∷ [] ∷ []

shown : (p : ℕ) → p < 4 → (won no_hit (brought sc fs 0 p)).payload.number ≡ 1
unfolding faced fs
shown zero h = refl
shown (suc zero) h = refl
shown (suc (suc zero)) h = refl
shown (suc (suc (suc zero))) h = refl
shown (suc (suc (suc (suc p)))) h = absurd (omega arith)

-- where face 1 is shown, face 0 holds no pixel
pub not-held : (sc : Scene) (fs : List Face) (n : ℕ) → ((p : ℕ) → p < n → (won no_hit (brought sc fs 0 p)).payload.number ≡ 1) → (i : ℕ) → T (not (keep i)) → (p : ℕ) → p < n → Holds sc fs i p → ⊥
unfolding Holds offers
not-held sc fs n shown i t p h holds =
    let e : i ≡ 0 = eqb→eq i 0 (twice (eqb i 0) t) in
    let w = with_greatest (first-of-greatest no_hit (brought sc fs 0 p)) holds.1 in
    let one : holds.0.payload.number ≡ 1 = ap (λ (c : Cell). c.payload.number) (sym w) ∙ shown p h in
    omega (arith, one, holds.2, e)
  where
    twice : (b : Bool) → T (not (not b)) → T b
    twice true t = t
    twice false t = t

pub mesh : Cut
unfolding faced fs joined kept_from faces_of
mesh = record { tri2vtx = tri2vtx; sc = sc; accepted = refl; facing = 0; named = refl; keep = keep; idle = λ i l. not-held sc fs 4 shown i; rs = rs; cut = refl }

-- layers of anything; layer 5 has depths of another length, and layer 6 one weight a pixel
abbrev start : Store
start = record { maps = λ i. four 9; depths = λ i. cond (eqb i 5) (nan ∷ []) (four nan); weights = λ i. cond (eqb i 6) (four nan) (twelve nan) }

-- refused: a layer joined with itself, at no width; the map of one layer with another's weights and the depths of a third, of a wrong length; a layer with the
-- weights of another, of a wrong length; buffers of nobody
abbrev of_itself : Call
of_itself = join (whole 3) (whole 3) 0 2

abbrev mixed : Call
mixed = clear (record { map = held 0; depth = held 5; weights = held 1 }) 2 2

abbrev misweighed : Call
misweighed = join (whole 0) (record { map = held 4; depth = held 4; weights = held 6 }) 2 2

abbrev foreign : Call
foreign = draw (record { map = other (1 ∷ []); depth = other []; weights = other (nan ∷ []) }) tri2vtx sc.vertices 2 2 sc.matrix 0 0

-- runs 3, 0 and 4 drawn, 3 joined with 4, then 1 and 2 drawn
abbrev made : List Call
made =
    clear_of sc rs 3
    ∷ draw_of sc rs 0 3 3
    ∷ clear_of sc rs 0
    ∷ of_itself
    ∷ draw_of sc rs 0 0 0
    ∷ clear_of sc rs 4
    ∷ mixed
    ∷ draw_of sc rs 0 4 4
    ∷ misweighed
    ∷ join_of sc rs 3 4
    ∷ clear_of sc rs 1
    ∷ draw_of sc rs 0 1 1
    ∷ foreign
    ∷ clear_of sc rs 2
    ∷ draw_of sc rs 0 2 2
    ∷ []

-- the layers' stands then
ready : ℕ → Stands
ready =
    changed_at (changed_at (changed_at (changed_at (changed_at (changed_at (changed_at (changed_at (changed_at (changed_at (changed_at (λ i. nothing) 3 plan.blank) 3 (runs 3 1)) 0 plan.blank) 0 (runs 0 1)) 4 plan.blank) 4 (runs 4 1)) 3 (runs 3 2)) 1 plan.blank) 1 (runs 1 1)) 2 plan.blank) 2 (runs 2 1)

apart : {i j : ℕ} → (i < j) → i ≡ j → ⊥
apart l e = omega arith

not_0 : {m n : ℕ} → m ≡ suc n → m ≡ 0 → ⊥
not_0 e f = omega arith

-- the layers after the first n calls
abbrev stage : ℕ → Store
stage n = after_all start (take n made)

-- what is computed of them: the lengths of a layer before its clear, and the code of each refused call
record Computed : Type 0 where
  clear_3 : Spans (layer_of (stage 0) 3) 4
  clear_0 : Spans (layer_of (stage 2) 0) 4
  of_itself_lem : (outcome_of (stage 3) of_itself).code ≡ 1
  clear_4 : Spans (layer_of (stage 5) 4) 4
  is_mixed : (outcome_of (stage 6) mixed).code ≡ 4
  is_misweighed : (outcome_of (stage 8) misweighed).code ≡ 4
  -- by the weights alone
  well_weighed : (outcome_of (stage 8) (join (whole 0) (whole 4) 2 2)).code ≡ 0
  clear_1 : Spans (layer_of (stage 10) 1) 4
  is_foreign : (outcome_of (stage 12) foreign).code ≡ 4
  clear_2 : Spans (layer_of (stage 13) 2) 4

computed : Computed
unfolding faced flat joined after after_all clearing clear_code joining join_code
computed =
    record {
      clear_3 = record { numbers = refl; depths = refl; weights = refl };
      clear_0 = record { numbers = refl; depths = refl; weights = refl };
      of_itself_lem = refl;
      clear_4 = record { numbers = refl; depths = refl; weights = refl };
      is_mixed = refl;
      is_misweighed = refl;
      well_weighed = refl;
      clear_1 = record { numbers = refl; depths = refl; weights = refl };
      is_foreign = refl;
      clear_2 = record { numbers = refl; depths = refl; weights = refl };
    }

making : (cs : List Call) (g : ℕ → Stands) → Keeps sc rs ready (after_all start made) cs g → Keeps sc rs (λ i. nothing) start (made ++ cs) g
unfolding ready after_all facing_of
making cs g k =
    clears 3 computed.clear_3
    (plan.draws 0 3 3 refl (lit< tt) refl
    (clears 0 computed.clear_0
    (refused of_itself (not_0 computed.of_itself_lem)
    (plan.draws 0 0 0 refl (lit< tt) refl
    (clears 4 computed.clear_4
    (refused mixed (not_0 computed.is_mixed)
    (plan.draws 0 4 4 refl (lit< tt) refl
    (refused misweighed (not_0 computed.is_misweighed)
    (joins 3 4 3 1 1 (apart (lit< tt)) refl refl
    (clears 1 computed.clear_1
    (plan.draws 0 1 1 refl (lit< tt) refl
    (refused foreign (not_0 computed.is_foreign)
    (clears 2 computed.clear_2
    (plan.draws 0 2 2 refl (lit< tt) refl k))))))))))))))

-- ((0 1) 2) (3 4)
pub left_first : Case
unfolding ready mesh
left_first =
    record {
      mesh = mesh;
      start = start;
      calls = made ++ join_of sc rs 0 1 ∷ join_of sc rs 0 2 ∷ join_of sc rs 0 3 ∷ [];
      plan =
          record {
            stands = changed_at (changed_at (changed_at ready 0 (runs 0 2)) 0 (runs 0 3)) 0 (runs 0 5);
            keeps = making _ _ (joins 0 1 0 1 1 (apart (lit< tt)) refl refl (joins 0 2 0 2 1 (apart (lit< tt)) refl refl (joins 0 3 0 3 2 (apart (lit< tt)) refl refl over)));
            last = 0;
            remaining = refl;
          };
    }

pub four-faces : length (faces left_first.mesh) ≡ 4
unfolding faces_of left_first
four-faces = refl

-- 0 (1 (2 (3 4)))
pub right_first : Case
unfolding ready mesh
right_first =
    record {
      mesh = mesh;
      start = start;
      calls = made ++ join_of sc rs 2 3 ∷ join_of sc rs 1 2 ∷ join_of sc rs 0 1 ∷ [];
      plan =
          record {
            stands = changed_at (changed_at (changed_at ready 2 (runs 2 3)) 1 (runs 1 4)) 0 (runs 0 5);
            keeps = making _ _ (joins 2 3 2 1 2 (apart (lit< tt)) refl refl (joins 1 2 1 1 3 (apart (lit< tt)) refl refl (joins 0 1 0 1 4 (apart (lit< tt)) refl refl over)));
            last = 0;
            remaining = refl;
          };
    }
