-- Where every vertex has a projection, so has every face.
use Rattle.std.specs.Prelude.{ℕ, ◌+◌, ◌*◌, ◌/◌, ◌<◌, ◌≡◌, Bool, ◌&&◌, cond, List, Float, length, get_or}
use Rattle.std.proofs.Math.Path.{refl}
use Rattle.std.proofs.Math.Bool.{true, false}
use Rattle.std.proofs.Math.Option.{Option, none, some}
use Rattle.std.proofs.Common.{arith}
use Rattle.std.proofs.lemmas.Bool.{eqb-false}
use Rattle.std.proofs.Math.Dec.{eqb}
use Rattle.lists.specs.Laws.Every.{in_span}
use Rattle.questions.specs.Questions.{names_face, empty}
use Rattle.questions.specs.Laws.{below_at, face_below}
use Rattle.geometry.specs.Leaf.{project}
use Rattle.meshes.specs.Mesh.{vertex_at, face_at}
use Rattle.meshes.specs.View.{named}
use Rattle.meshes.specs.Sound.{SoundMesh}
use Rattle.inside.specs.Inside.{present, projects}
use Rattle.meshes.specs.Mesh.{all_three, project_face}
use Rattle.inside.specs.Steps.{all_project}

pub all_three_lem : {A : Type 0} (a b c : Option A) → present (all_three a b c) ≡ (present a && (present b && present c))
unfolding all_three present
all_three_lem none b c = refl
all_three_lem (some a) none c = refl
all_three_lem (some a) (some b) none = refl
all_three_lem (some a) (some b) (some c) = refl

module _ {tri : List ℕ} (m : List Float) {xyz : List Float} (s : SoundMesh tri xyz) (yes : all_project m xyz ≡ true) where
  corner_projects : (j : ℕ) → j < length tri → present (project m (vertex_at xyz (get_or tri j 0))) ≡ true
  unfolding all_project
  corner_projects j l =
      in_span (λ v. present (project m (vertex_at xyz v))) (length xyz / 3) yes (get_or tri j 0) (below_at (length xyz / 3) tri s.named j l)

  pub entry-projects : (x : ℕ) → names_face (length tri / 3) x ≡ true → projects m xyz (named tri x) ≡ true
  unfolding projects named project_face face_at
  entry-projects x e = go (eqb x empty) refl
    where
      go : (b : Bool) → eqb x empty ≡ b → projects m xyz (cond b none (some (face_at tri x))) ≡ true
      go true k = refl
      go false k =
          let there = face_below (length tri / 3) x e (eqb-false x empty k) in
          let long = s.faces in
          rw (
            all_three_lem _ _ _,
            corner_projects (3 * x) (omega arith),
            corner_projects (3 * x + 1) (omega arith),
            corner_projects (3 * x + 2) (omega arith),
          )
