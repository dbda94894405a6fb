-- Question 4 of the accumulators, and what an accepted call knows.
use Rattle.std.specs.Prelude.{ℕ, ◌≡◌, Bool, ◌&&◌, List, ◌∷◌, ◌++◌, Float, length}
use Rattle.std.proofs.Math.Path.{refl, sym, ap}
use Rattle.std.proofs.Common.{◌∙◌}
use Rattle.std.proofs.Math.Bool.{true, false}
use Rattle.lists.specs.Laws.Tests.{both}
use Rattle.questions.specs.Questions.{ask, first_no, exact, opening}
use Rattle.questions.specs.Laws.{exactly}
use Rattle.pixel_rays.specs.Rays.{Image}
use Rattle.vertex_values.specs.Pass.{Vertices, count}
use Rattle.vertex_values.specs.Questions.{exact_pass, closing, pass_code}
use Rattle.vertex_values.specs.Laws.{Ready, exact_parts, ready}
use Rattle.pixel_bwd.specs.Additions.{Sums}
use Rattle.values_bwd.specs.Bwd.{exact_sums, bwd_code}

module _ (g : Image) (s : Vertices) (tri map : List ℕ) (dldw : List Float) (old : Sums) where
  -- where `vtx2val` has the exact length, so has a buffer that is as long
  same_four : (b : Bool) → exact_pass g s map (length dldw) ≡ b
      → b && (exact (length s.xyz) (length old.xyz) && exact (length s.val) (length old.val)) ≡ b && exact_sums s old
  unfolding exact_sums
  same_four true e = ap (λ (n : ℕ). exact (length s.xyz) (length old.xyz) && exact n (length old.val)) (exact_parts _ _ _ _ _ _ _ e).1
  same_four false e = refl

  -- so the code is the call's
  pub bwd_code_lem : {code : ℕ} {four : Bool} → four ≡ exact (length s.xyz) (length old.xyz) && exact (length s.val) (length old.val)
      → code ≡ pass_code g s tri map (length dldw) four → code ≡ bwd_code g s tri map dldw old
  unfolding pass_code bwd_code
  bwd_code_lem f e =
      e
      ∙ ap (λ (a : Bool). first_no (opening g.w g.h s.channels (length tri) (length s.xyz) ++ ask 4 a ∷ closing g (count s) tri map))
      (ap (λ (a : Bool). exact_pass g s map (length dldw) && a) f ∙ same_four (exact_pass g s map (length dldw)) refl)

  pub bwd_accepted : bwd_code g s tri map dldw old ≡ 0 → Ready g s tri map (length dldw) × (length old.xyz ≡ length s.xyz) × (length old.val ≡ length s.val)
  unfolding bwd_code exact_sums
  bwd_accepted e =
      let k = ready g s tri map (length dldw) _ e in
      let p = both (exact (length s.xyz) (length old.xyz)) _ k.1 in
      (k.0, exactly _ _ p.0, exactly _ _ p.1 ∙ sym k.0.values)
