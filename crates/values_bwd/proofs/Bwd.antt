-- From what the steps of `interpolate_bwd` promise to its outcome.
use Rattle.std.specs.Prelude.{ℕ, ◌*◌, ◌≡◌, refl, Bool, true, ◌&&◌, List, Float, length}
use Rattle.std.proofs.Common.{sym, ◌∙◌, ap, ap₂}
use Rattle.lists.specs.Laws.Tests.{both}
use Rattle.questions.specs.declared.Refusal.{Refusal}
use Rattle.questions.specs.Answer.{number_of}
use Rattle.questions.specs.Questions.{exact, outcome}
use Rattle.questions.specs.Laws.{exactly, call_done}
use Rattle.questions.proofs.Laws.Refusals.{refused}
use Rattle.meshes.specs.View.{View, view_of}
use Rattle.pixel_rays.specs.Rays.{Image}
use Rattle.pixel_rays.specs.Answer.{image_of, shown}
use Rattle.vertex_values.specs.Pass.{Vertices}
use Rattle.vertex_values.specs.Questions.{pass_code}
use Rattle.vertex_values.specs.declared.Pass.{Pass}
use Rattle.vertex_values.specs.Answer.{vertices_of, Lent}
use Rattle.pixel_bwd.specs.Additions.{Sums}
use Rattle.image_bwd.specs.Summed.{summed_over}
use Rattle.values_bwd.specs.Bwd.{interpolating_bwd}
use Rattle.values_bwd.specs.Laws.{bwd_code_lem}

module _ (g : Image) (s : Vertices) (tri map : List ℕ) (dldw : List Float) (old : Sums) {four : Bool} (f : four ≡ exact (length s.xyz) (length old.xyz) && exact (length s.val) (length old.val)) where
  pub not_done : (r : Refusal) → number_of r ≡ pass_code g s tri map (length dldw) four → outcome (number_of r) old ≡ interpolating_bwd g s tri map dldw old
  unfolding interpolating_bwd
  not_done r e = refused r _ (bwd_code_lem g s tri map dldw old f e)

  pub done : (p : Pass) {n : ℕ} (new : Sums) → 0 ≡ pass_code g s tri map (length dldw) four → Lent p g s (view_of tri map) n
      → new ≡ summed_over (image_of p.view) (vertices_of p.vertices) (shown p.view) dldw 0 (p.view.size.w * p.view.size.h) old → outcome 0 new ≡ interpolating_bwd g s tri map dldw old
  unfolding interpolating_bwd
  done p new e l made =
      call_done old (bwd_code_lem g s tri map dldw old f e) refl
      (made
      ∙ ap (λ (i : Image). summed_over i (vertices_of p.vertices) (shown p.view) dldw 0 (i.w * i.h) old) l.of_image
      ∙ ap₂ (λ (t : Vertices) (v : View). summed_over g t v dldw 0 (g.w * g.h) old) l.of_vertices l.of_view)

-- what is known of the lengths then
module _ (p : Pass) {g : Image} {s : Vertices} {v : View} {n : ℕ} (l : Lent p g s v n) where
  pub sums_whole : {four : Bool} (xyz val : ℕ) → four ≡ exact (length s.xyz) xyz && exact (length s.val) val → four ≡ true
      → (xyz ≡ length p.vertices.vtx2xyz.now) × (val ≡ length p.vertices.vtx2val.now)
  sums_whole xyz val f e =
      let yes = both (exact (length s.xyz) xyz) _ (sym f ∙ e) in
      (exactly _ _ yes.0 ∙ ap (λ (t : Vertices). length t.xyz) (sym l.of_vertices), exactly _ _ yes.1 ∙ ap (λ (t : Vertices). length t.val) (sym l.of_vertices))
