-- What an accepted call of `drawing_load` knows, and from what its steps promise to its whole outcome.
use Prim.Native.Nat.{ℕ, ◌/◌, ◌≤◌}
use mathlib.Core.Path.{◌≡◌, refl}
use mathlib.Core.List.{List, []}
use lib.ListN.{length}
use lib.Ieee.{Float}
use Rattle.questions.specs.declared.Refusal.{Refusal}
use Rattle.questions.specs.Answer.{number_of}
use Rattle.questions.specs.Questions.{sizes, slices, all_below, most_count, outcome}
use Rattle.questions.specs.Laws.{Sized, sized, sliced, accepted, call_done}
use Rattle.questions.proofs.Laws.Refusals.{refused}
use Rattle.meshes.specs.Mesh.{faces_of}
use Rattle.meshes.specs.Sound.{SoundMesh}
use Rattle.meshes.specs.Laws.{sound_mesh}
use Rattle.rules.specs.declared.Facing.TheVariants.{All}
use Rattle.rules.specs.Offers.{scene}
use Rattle.rules.specs.Load.{Load, load, load_of, load_code, loading}

module _ (tri : List ℕ) (xyz : List Float) (w h : ℕ) where
  pub load_accepted : load_code tri xyz w h ≡ 0 → Sized 1 w h × SoundMesh tri xyz × (length tri / 3 ≤ most_count)
  unfolding load_code
  load_accepted e =
      let q1 = accepted 0 (sizes 1 w h) _ e in
      let q3 = accepted 2 (slices (length tri) (length xyz)) _ q1.1 in
      let q6 = accepted 5 (all_below (length xyz / 3) tri) [] q3.1 in
      let q3' = sliced (length tri) (length xyz) q3.0 in
      (sized 1 w h q1.0, sound_mesh q3'.0 q3'.1 q6.0, q3'.0.most)

  module _ (m : List Float) where
    pub load_refused : (r : Refusal) → number_of r ≡ load_code tri xyz w h → outcome (number_of r) (load 0 0) ≡ loading tri xyz w h m
    unfolding loading
    load_refused r e = refused r _ e

    pub load_done : (l : Load) → 0 ≡ load_code tri xyz w h → l ≡ load_of (scene m xyz w h All) (faces_of tri) → outcome 0 l ≡ loading tri xyz w h m
    unfolding loading
    load_done l e counted = call_done (load 0 0) e refl counted
