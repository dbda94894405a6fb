-- Face lists and maps that are alike: every pass gives the same code and the same numbers.
use Rattle.std.specs.Prelude.{ℕ, ◌/◌, ◌≡◌, refl, Bool, true, false, not, cond, eqb, List, Float, length}
use Rattle.std.proofs.Common.{ap, sym, ◌∙◌}
use Rattle.std.proofs.Math.Option.{none, some}
use Rattle.questions.specs.Questions.{empty}
use Rattle.meshes.specs.Mesh.{face_at}
use Rattle.meshes.specs.View.{View, view_of, named, entry_at}
use Rattle.views.specs.Alike.{Alike}
use Rattle.pixel_rays.specs.Rays.{Image}
use Rattle.vertex_values.specs.Pass.{vertices}
use Rattle.vertex_values.specs.Questions.{exact_counts, pass_code}
use Rattle.values.specs.Interpolate.{interpolating, interpolate_code}
use Rattle.pixel_bwd.specs.Additions.{Sums}
use Rattle.values_bwd.specs.Bwd as values
use Rattle.values_bwd.specs.Bwd.{interpolating_bwd}
use Rattle.pairs.specs.Pairs.{edge_view}
use Rattle.pairs.specs.Gradient.{PixelValues, exact_pixels}
use Rattle.edges.specs.Calls.{EdgeBuffers, edge_code, edge_typing}
use Rattle.edge_bwd.specs.Calls as edges
use Rattle.edge_bwd.specs.Calls.{edge_bwd}
use Rattle.inside.specs.Inside.{present}
use Rattle.outline_views.specs.Outline.{exact_images, outline_view, shown_in}
use Rattle.antialias.specs.Calls.{antialiasing, antialias_code}
use Rattle.antialias_bwd.specs.Calls.{antialiasing_bwd, bwd_antialias_code}

-- a pixel shows a face where its entry names one
shown_named : (tri map : List ℕ) (p : ℕ) → shown_in map p ≡ present (named tri (entry_at map p))
unfolding named present
shown_named tri map p = go (eqb (entry_at map p) empty)
  where
    go : (b : Bool) → not b ≡ present (cond b none (some (face_at tri (entry_at map p))))
    go true = refl
    go false = refl

module _ {tri names tri' names' : List ℕ} (xyz : List Float) (alike : Alike (length xyz / 3) tri names tri' names') where
  pub values_same : (g : Image) (channels : ℕ) (val pix2val : List Float)
      → interpolating g (vertices xyz channels val) tri names pix2val ≡ interpolating g (vertices xyz channels val) tri' names' pix2val
  unfolding interpolating interpolate_code pass_code exact_counts
  values_same g channels val pix2val = rw (alike.views, alike.slices, alike.pixels, alike.corners, alike.entries)

  pub values_bwd_same : (g : Image) (channels : ℕ) (val dldw : List Float) (old : Sums)
      → interpolating_bwd g (vertices xyz channels val) tri names dldw old ≡ interpolating_bwd g (vertices xyz channels val) tri' names' dldw old
  unfolding interpolating_bwd values.bwd_code pass_code exact_counts
  values_bwd_same g channels val dldw old = rw (alike.views, alike.slices, alike.pixels, alike.corners, alike.entries)

  pub edge_types_same : (m : List Float) (w h : ℕ) (v : PixelValues) (b : EdgeBuffers)
      → edge_typing tri names h (edge_view (view_of tri names) m xyz w) v b ≡ edge_typing tri' names' h (edge_view (view_of tri' names') m xyz w) v b
  unfolding edge_typing edge_code exact_pixels
  edge_types_same m w h v b = rw (alike.views, alike.slices, alike.pixels, alike.corners, alike.entries)

  pub edge_bwd_same : (m : List Float) (w h : ℕ) (v : PixelValues) (dxyz : List Float)
      → edge_bwd tri names h (edge_view (view_of tri names) m xyz w) v dxyz ≡ edge_bwd tri' names' h (edge_view (view_of tri' names') m xyz w) v dxyz
  unfolding edge_bwd edges.bwd_code exact_pixels
  edge_bwd_same m w h v dxyz = rw (alike.views, alike.slices, alike.pixels, alike.corners, alike.entries)

  -- outline smoothing sees the same pixels empty
  shown_same : shown_in names ≡ shown_in names'
  shown_same = λ i p. (shown_named tri names p ∙ ap (λ (v : View). present (v.at p)) alike.views ∙ sym (shown_named tri' names' p)) i

  pub smoothing_same : (edges : List ℕ) (m : List Float) (w h : ℕ) (vin vout : List Float)
      → antialiasing (outline_view (shown_in names) edges m xyz w h) names vin vout ≡ antialiasing (outline_view (shown_in names') edges m xyz w h) names' vin vout
  unfolding antialiasing antialias_code exact_images
  smoothing_same edges m w h vin vout = rw (shown_same, alike.pixels)

  pub smoothing_bwd_same : (edges : List ℕ) (m : List Float) (w h : ℕ) (val dldw dxyz : List Float)
      → antialiasing_bwd (outline_view (shown_in names) edges m xyz w h) names val dldw dxyz ≡ antialiasing_bwd (outline_view (shown_in names') edges m xyz w h) names' val dldw dxyz
  unfolding antialiasing_bwd bwd_antialias_code exact_images
  smoothing_bwd_same edges m w h val dldw dxyz = rw (shown_same, alike.pixels)
