-- From one pixel's sums to a row's, and to the image's.
use Rattle.std.specs.Prelude.{ℕ, ◌+◌, ◌*◌, ◌≡◌, List, Float}
use Rattle.std.proofs.Common.{sym, ◌∙◌, ap, zero-add, arith}
use Rattle.std.proofs.Math.Option.{Option}
use Rattle.meshes.specs.Mesh.{Face}
use Rattle.meshes.specs.View.{View}
use Rattle.rays.specs.Space.{Ray}
use Rattle.pixel_rays.specs.Rays.{Image, ray_of}
use Rattle.vertex_values.specs.Pass.{Vertices}
use Rattle.pixel_gradients.specs.Gradients.{incoming_at}
use Rattle.pixel_bwd.specs.Additions.{Sums, pixel_sums}
use Rattle.image_bwd.specs.Summed.{xyz_at, val_at, summed_over}
use Rattle.image_bwd.proofs.Laws.{over-one, over-more, over_ended}

module _ (g : Image) (s : Vertices) (v : View) (dldw : List Float) where
  -- pixel p, after the k before it from a on
  pub pixel_turn : (a k : ℕ) (old : Sums) {cur new : Sums} {o : Option Face} {r : Option (Ray Float)} {at : ℕ} → cur ≡ summed_over g s v dldw a k old
      → o ≡ v.at (a + k) → r ≡ ray_of g (a + k) → at ≡ (a + k) * s.channels → new ≡ pixel_sums s o r (incoming_at dldw at) cur → new ≡ summed_over g s v dldw a (k + 1) old
  unfolding xyz_at val_at
  pixel_turn a k old {cur} e eo er ea step = over-more g s v dldw a k 1 old e (rw (eo, er, ea) at step ∙ sym (over-one g s v dldw (a + k) cur))

  -- row iy, after those above it
  pub row_turn : (w iy : ℕ) (old : Sums) {cur new : Sums} → cur ≡ summed_over g s v dldw 0 (iy * w) old → new ≡ summed_over g s v dldw (iy * w) w cur
      → new ≡ summed_over g s v dldw 0 ((iy + 1) * w) old
  row_turn w iy old {cur} e step =
      let next : iy * w + w ≡ (iy + 1) * w = omega arith in
      over_ended g s v dldw 0 (iy * w + w) ((iy + 1) * w) old next
      (over-more g s v dldw 0 (iy * w) w old e (step ∙ ap (λ (a : ℕ). summed_over g s v dldw a w cur) (sym (zero-add (iy * w)))))
