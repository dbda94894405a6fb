-- What an accepted call of `pix2tri_by_rasterization` knows, and the outcome of a refused and of an accepted one.
use Prim.Native.Nat.{ℕ, ◌+◌, ◌*◌, ◌/◌, ◌≤◌}
use mathlib.Core.Path.{◌≡◌, refl, ap, ◌∙◌}
use mathlib.Core.Bool.{true}
use mathlib.Core.List.{List, []}
use borrow.Author.Tests.{leb-true}
use lib.ListN.{length}
use lib.Ieee.{Float}
use Rattle.questions.specs.Questions.{outcome, sizes, slices, numbers, all_below, most_count}
use Rattle.questions.specs.declared.Refusal.{Refusal}
use Rattle.questions.specs.Answer.{number_of}
use Rattle.questions.proofs.Laws.Refusals.{refused}
use Rattle.questions.specs.Laws.{call_done, Sized, sized, sliced, accepted}
use Rattle.cells.specs.Layer.{Layer}
use Rattle.cells.specs.Steps.{Spans}
use Rattle.layers.specs.Calls.{exact_layer}
use Rattle.layers.proofs.Laws.Answers.{exact-spans}
use Rattle.meshes.specs.Mesh.{faces_of}
use Rattle.meshes.specs.Sound.{SoundMesh}
use Rattle.meshes.specs.Laws.{sound_mesh}
use Rattle.rules.specs.declared.Facing.{Facing}
use Rattle.rules.specs.Offers.{scene}
use Rattle.rules.specs.Draw.{drawn}
use Rattle.rules.specs.Calls.{draw_code, facing_of, draws}

fits : (first faces : ℕ) → numbers first faces ≡ true → first + faces ≤ most_count
unfolding numbers
fits first faces e = leb-true (first + faces) most_count e

module _ (l : Layer) (tri : List ℕ) (xyz : List Float) (w h first : ℕ) where
  pub draw_accepted : draw_code l tri xyz w h first ≡ 0 → Sized 1 w h × (Spans l (w * h) × (SoundMesh tri xyz × (first + length tri / 3 ≤ most_count)))
  unfolding draw_code
  draw_accepted e =
      let q1 = accepted 0 (sizes 1 w h) _ e in
      let q3 = accepted 2 (slices (length tri) (length xyz)) _ q1.1 in
      let q4 = accepted 3 (exact_layer w h l) _ q3.1 in
      let q5 = accepted 4 (numbers first (length tri / 3)) _ q4.1 in
      let q6 = accepted 5 (all_below (length xyz / 3) tri) [] q5.1 in
      let q3' = sliced (length tri) (length xyz) q3.0 in
      (sized 1 w h q1.0, (exact-spans w h l q4.0, (sound_mesh q3'.0 q3'.1 q6.0, fits first (length tri / 3) q5.0)))

  pub draw_refused : (m : List Float) (facing : ℕ) (r : Refusal) → number_of r ≡ draw_code l tri xyz w h first → outcome (number_of r) l ≡ draws l tri xyz w h m first facing
  unfolding draws
  draw_refused m facing r e = refused r _ e

  pub draw_done : (m : List Float) (facing : ℕ) {named : Facing} (new : Layer) → 0 ≡ draw_code l tri xyz w h first → named ≡ facing_of facing → new ≡ drawn (scene m xyz w h named) (faces_of tri) first l
      → outcome 0 new ≡ draws l tri xyz w h m first facing
  unfolding draws
  draw_done m facing new e f made = call_done l e refl (made ∙ ap (λ (n : Facing). drawn (scene m xyz w h n) (faces_of tri) first l) f)
