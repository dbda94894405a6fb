-- The two drawings of an accepted call: each is its list drawn from number 0 into a cleared layer.
use Rattle.std.specs.Prelude.{ℕ, ◌/◌, ◌≡◌, Bool, ◌&&◌, length, Float}
use Rattle.std.proofs.Math.Path.{refl, ap}
use Rattle.std.proofs.Common.{sym, ◌∙◌, lit<}
use mathlib.Core.List.{List, [], ◌∷◌, append-nil}
use Rattle.lists.specs.Laws.Tests.{both}
use Rattle.questions.specs.Questions.{sizes, slices, groups, exact, all_below, most_count}
use Rattle.questions.specs.Laws.{accepted, exactly}
use Rattle.offers.specs.Thinning.{kept_from}
use Rattle.cells.specs.Layer.{Layer}
use Rattle.cells.specs.Steps.{Spans}
use Rattle.layers.specs.Calls.{exact_layer, clearing}
use Rattle.layers.proofs.Laws.Answers.{exact-spans}
use Rattle.meshes.specs.Mesh.{Face, faces_of, flat}
use Rattle.rules.specs.declared.Facing.TheVariants.{All}
use Rattle.rules.specs.Offers.{Scene, scene}
use Rattle.rules.specs.Calls.{facing_of, draws}
use Rattle.sequences.specs.Plan.{joined}
use Rattle.sequences.specs.Whole.{pixel_count, fresh}
use Rattle.sequences.proofs.Whole.{clear_left, drawn_left}
use Rattle.sequences.specs.Mesh.{Answered}
use Rattle.sequences.proofs.Mesh.{threes_of, fit}
use Rattle.sequences.proofs.TwoRuns.{every, kept-every}
use Rattle.removal_rules.specs.Removal.{kept_by, shortened, drawn_anew, removal_code}
use Rattle.removal_rules.specs.Asked.{Asked}

pub asked : (tri : List ℕ) (xyz : List Float) (w h : ℕ) (removed : List ℕ) (full short : Layer) → removal_code tri xyz w h removed full short ≡ 0 → Asked tri xyz w h removed full short
unfolding removal_code
asked tri xyz w h removed full short e =
    let one = accepted 0 (sizes 1 w h) _ e in
    let three = accepted 2 (slices (length tri) (length xyz)) _ one.1 in
    let four = accepted 3 (exact (length tri / 3) (length removed) && (exact_layer w h full && exact_layer w h short)) _ three.1 in
    let six = accepted 5 (all_below (length xyz / 3) tri) [] four.1 in
    let groups3 = both (groups 3 most_count (length tri)) _ three.0 in
    let lengths = both (exact (length tri / 3) (length removed)) _ four.0 in
    let layers = both (exact_layer w h full) _ lengths.1 in
    record {
      mesh = λ m. record { sized = one.0; faces = groups3.0; vertices = groups3.1; corners = six.0 };
      marks = exactly _ _ lengths.0;
      full_spans = exact-spans w h full layers.0;
      short_spans = exact-spans w h short layers.1;
    }

-- what is kept of a mesh, drawn alone: a plan of one run
alone : {sc : Scene} {tri : List ℕ} (keep : ℕ → Bool) → facing_of 0 ≡ sc.facing → Answered sc tri → (l : Layer) → Spans l (pixel_count sc)
    → (draws (clearing l sc.width sc.height).left (flat (kept_from keep 0 (faces_of tri))) sc.vertices sc.width sc.height sc.matrix 0 0).left
    ≡ fresh sc (kept_from keep 0 (faces_of tri)) 0
unfolding joined
alone {sc} {tri} keep named mesh l s =
    let kept : List Face = kept_from keep 0 (faces_of tri) in
    let fits = fit keep (kept ∷ []) mesh (append-nil kept) in
    drawn_left sc (kept ∷ []) fits (clearing l sc.width sc.height).left 0 0 named (lit< tt) (clear_left sc (kept ∷ []) fits l s)
    ∙ ap (λ (fs : List Face). fresh sc fs 0) (append-nil kept)

module _ {tri : List ℕ} {xyz : List Float} {w h : ℕ} {removed : List ℕ} {full short : Layer} (a : Asked tri xyz w h removed full short) (m : List Float) where
  all_faces : facing_of 0 ≡ All
  unfolding facing_of
  all_faces = refl

  pub short_drawn : drawn_anew short (shortened removed tri) xyz w h m ≡ fresh (scene m xyz w h All) (kept_from (kept_by removed) 0 (faces_of tri)) 0
  unfolding drawn_anew shortened
  short_drawn = alone (kept_by removed) all_faces (a.mesh m) short a.short_spans

  pub full-drawn : drawn_anew full tri xyz w h m ≡ fresh (scene m xyz w h All) (faces_of tri) 0
  unfolding drawn_anew
  full-drawn =
      let kept : flat (kept_from every 0 (faces_of tri)) ≡ tri = ap flat (kept-every 0 (faces_of tri)) ∙ threes_of tri (a.mesh m).faces in
      ap (λ (t : List ℕ). (draws (clearing full w h).left t xyz w h m 0 0).left) (sym kept)
      ∙ alone every all_faces (a.mesh m) full a.full_spans
      ∙ ap (λ (fs : List Face). fresh (scene m xyz w h All) fs 0) (kept-every 0 (faces_of tri))
