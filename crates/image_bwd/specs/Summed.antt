-- What the pixels of an image add to both accumulators.
use Rattle.std.specs.Prelude.{ℕ, ◌*◌, Float}
use mathlib.Core.List.{List, flat_map}
use Rattle.lists.specs.Lists.{span}
use Rattle.meshes.specs.View.{View}
use Rattle.meshes.specs.Sums.{Addition, summed}
use Rattle.pixel_rays.specs.Rays.{Image, ray_of}
use Rattle.vertex_values.specs.Pass.{Vertices}
use Rattle.pixel_gradients.specs.Gradients.{incoming_at}
use Rattle.pixel_bwd.specs.Additions.{pixel_xyz, pixel_val, Sums, sums}

-- what pixel p adds to `dldw_vtx2xyz` and to `dldw_vtx2val`
unfoldable pub xyz_at : Image → Vertices → View → List Float → ℕ → List Addition
xyz_at g s v dldw p = pixel_xyz s (v.at p) (ray_of g p) (incoming_at dldw (p * s.channels))

unfoldable pub val_at : Image → Vertices → View → List Float → ℕ → List Addition
val_at g s v dldw p = pixel_val s (v.at p) (ray_of g p) (incoming_at dldw (p * s.channels))

-- "Pixels run in rising number, so sums in the accumulators have one order": after n pixels from a on
unfoldable pub summed_over : Image → Vertices → View → List Float → ℕ → ℕ → Sums → Sums
summed_over g s v dldw a n old =
    sums (summed old.xyz (flat_map (xyz_at g s v dldw) (span a n))) (summed old.val (flat_map (val_at g s v dldw) (span a n)))
