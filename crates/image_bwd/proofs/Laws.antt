-- Both accumulators, pixel by pixel.
use Rattle.std.specs.Prelude.{ℕ, ◌+◌, ◌≡◌, List, Float}
use Rattle.std.proofs.Math.Path.{sym, ap₂}
use Rattle.std.proofs.Common.{◌∙◌, ap}
use Rattle.meshes.specs.Sums.{summed}
use Rattle.meshes.specs.View.{View}
use Rattle.meshes.specs.Laws.{turns_none, turns_add, turns_one}
use Rattle.pixel_rays.specs.Rays.{Image}
use Rattle.vertex_values.specs.Pass.{Vertices}
use Rattle.pixel_bwd.specs.Additions.{Sums, sums}
use Rattle.image_bwd.specs.Summed.{xyz_at, val_at, summed_over}

module _ (g : Image) (s : Vertices) (v : View) (dldw : List Float) where
  pub over_none : (a : ℕ) (old : Sums) → old ≡ summed_over g s v dldw a 0 old
  unfolding summed_over
  over_none a old = ap₂ sums (turns_none _ old.xyz a) (turns_none _ old.val a)

  pub over_add : (a n m : ℕ) (old : Sums) → summed_over g s v dldw (a + n) m (summed_over g s v dldw a n old) ≡ summed_over g s v dldw a (n + m) old
  unfolding summed_over
  over_add a n m old = sym (ap₂ sums (turns_add (xyz_at g s v dldw) old.xyz a n m) (turns_add (val_at g s v dldw) old.val a n m))

  pub over-one : (p : ℕ) (old : Sums) → summed_over g s v dldw p 1 old ≡ sums (summed old.xyz (xyz_at g s v dldw p)) (summed old.val (val_at g s v dldw p))
  unfolding summed_over
  over-one p old = ap₂ sums (turns_one (xyz_at g s v dldw) old.xyz p) (turns_one (val_at g s v dldw) old.val p)

  -- n more of what has been summed so far
  pub over-more : (a k n : ℕ) (old : Sums) {cur new : Sums} → cur ≡ summed_over g s v dldw a k old → new ≡ summed_over g s v dldw (a + k) n cur
      → new ≡ summed_over g s v dldw a (k + n) old
  over-more a k n old e step = step ∙ ap (summed_over g s v dldw (a + k) n) e ∙ over_add a k n old

  pub over_ended : (a k n : ℕ) (old : Sums) {cur : Sums} → k ≡ n → cur ≡ summed_over g s v dldw a k old → cur ≡ summed_over g s v dldw a n old
  over_ended a k n old same e = e ∙ ap (λ (i : ℕ). summed_over g s v dldw a i old) same
