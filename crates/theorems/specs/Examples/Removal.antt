-- Examples beside 01's: at 2 × 2, T(0.5) before T(0.25) in the list, so that face 0 is shown everywhere and face 1 is hidden.
use Rattle.std.specs.Prelude.{ℕ, zero, suc, ◌<◌, ◌≡◌, refl, Float}
use Rattle.std.proofs.Common.{ap, sym, ◌∙◌, arith, lit<}
use mathlib.Core.List.{List, [], ◌∷◌, ◌++◌, sum}
use Rattle.lists.specs.Lists.{sum_of, count}
use Rattle.questions.specs.Questions.{Outcome, outcome}
use Rattle.offers.proofs.Laws.Greatest.{first-of-greatest}
use Rattle.offers.proofs.Laws.Joins.{won}
use Rattle.offers.proofs.Laws.Removal.{with_greatest}
use Rattle.offers.specs.Thinning.{kept_from, kept_before, renumber}
use Rattle.cells.specs.Cell.{Cell, no_hit}
use Rattle.cells.specs.Layer.{Layer, layer}
use Rattle.layers.specs.Calls.{clear_code, clearing}
use Rattle.meshes.specs.Mesh.{faces_of, flat}
use Rattle.rules.specs.declared.Facing.TheVariants.{All}
use Rattle.rules.specs.Offers.{Scene, scene, brought, offers, Holds}
use Rattle.removal_rules.specs.Removal.{kept_by, shortened, drawn_anew, goes_empty, keeps_face, names_another, preview, counted, Previewed, previewed, compared, removal_code, previewing}
use Rattle.removal_rules.specs.Alone.{Alone}
use Rattle.removal_rules.proofs.Laws.Preview.{idle_removed, emptied_alone}
use Rattle.sequences.specs.Thinned.{Idle}
use Rattle.sequences.specs.Example as example
use Rattle.sequences.specs.Example.{one, three, quarter, half, matrix, corners, four, twelve, blank, in_t, faced}

-- what the scratch layers hold before
abbrev scratch : Layer
scratch = layer (four 9) (four three) (twelve one)

-- T(z) drawn as face 0
abbrev showing : Float → Layer
showing z = layer (four 0) (four z) in_t

abbrev tri2vtx : List ℕ
tri2vtx = 0 ∷ 1 ∷ 2 ∷ 3 ∷ 4 ∷ 5 ∷ []

abbrev vtx2xyz : List Float
vtx2xyz = corners half ++ corners quarter

-- the removal of the faces that these marks name
unfoldable pub removing : List ℕ → Outcome Previewed
unfolding faced sum_of sum count kept_from kept_before renumber clear_code clearing flat kept_by shortened drawn_anew goes_empty keeps_face names_another counted compared removal_code previewing
removing marks = previewing tri2vtx vtx2xyz 2 2 (matrix example.zero one) marks scratch scratch

-- the hidden face, by any mark but 0: all pixels keep theirs
pub hidden_removed : removing (0 ∷ 255 ∷ []) ≡ outcome 0 (previewed (preview 0 0 4) (showing half) (showing half))
unfolding removing
hidden_removed = refl

-- the shown one: all name the other, though its new number is the old one's
pub shown_removed : removing (2 ∷ 0 ∷ []) ≡ outcome 0 (previewed (preview 0 4 0) (showing half) (showing quarter))
unfolding removing
shown_removed = refl

pub both_removed : removing (1 ∷ 1 ∷ []) ≡ outcome 0 (previewed (preview 4 0 0) (showing half) blank)
unfolding removing
both_removed = refl

-- a mark too few
pub refused : removing (0 ∷ []) ≡ outcome 4 (previewed (preview 0 0 0) scratch scratch)
unfolding removing
refused = refl

-- ---- the theorems of Laws Preview at these: their premises can be met

abbrev sc : Scene
sc = scene (matrix example.zero one) vtx2xyz 2 2 All

shown : (p : ℕ) → p < 4 → (won no_hit (brought sc (faces_of tri2vtx) 0 p)).payload.number ≡ 0
unfolding faced
shown zero h = refl
shown (suc zero) h = refl
shown (suc (suc zero)) h = refl
shown (suc (suc (suc zero))) h = refl
shown (suc (suc (suc (suc p)))) h = absurd (omega arith)

-- the hidden face holds no pixel
pub hidden_idle : Idle sc (faces_of tri2vtx) (kept_by (0 ∷ 255 ∷ []))
unfolding Holds offers kept_by
hidden_idle i l t p h holds =
    let w = with_greatest (first-of-greatest no_hit (brought sc (faces_of tri2vtx) 0 p)) holds.1 in
    let first : i ≡ 0 = sym holds.2 ∙ ap (λ (c : Cell). c.payload.number) (sym w) ∙ shown p h in
    absurd (rw first at t)

pub hidden_told : (removing (0 ∷ 255 ∷ [])).left.preview ≡ preview 0 0 4
unfolding removing
hidden_told = idle_removed tri2vtx vtx2xyz 2 2 (matrix example.zero one) (0 ∷ 255 ∷ []) scratch scratch refl hidden_idle

-- and with both removed pixel 0 was covered by removed faces alone
pub pixel-alone : Alone sc (faces_of tri2vtx) (kept_by (1 ∷ 1 ∷ [])) 0
unfolding removing
pixel-alone = emptied_alone tri2vtx vtx2xyz 2 2 (matrix example.zero one) (1 ∷ 1 ∷ []) scratch scratch refl 0 (lit< tt) refl
