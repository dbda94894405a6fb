-- At f32 the formulas of this crate are those of the product's definitions: what `interpolate` and `antialias` write, what
-- `interpolate_bwd`, `bwd` and `bwd_antialias` add, and the weights of drawing.
use Rattle.std.specs.Prelude.{ℕ, ◌≡◌, Bool, true, false, not, ◌&&◌, cond, Float}
use Rattle.std.proofs.Math.Path.{refl, ap₂}
use Rattle.std.proofs.Common.{sym, ◌∙◌, ap}
use Rattle.std.proofs.Math.Option.{Option, none, some}
use mathlib.Core.List.{List, [], ◌∷◌, ◌++◌, map, map-append, flat_map}
use Rattle.std.specs.Float.{nan}
use Rattle.std.specs.Float.Ieee.{lt, eq}
use Rattle.std.specs.Float.Ieee.Scale.{finite}
use Rattle.geometry.specs.Arith.{floats}
use Rattle.geometry.specs.Vector.{Vec2, Vec3, Weights, weighed_by, Triangle}
use Rattle.geometry.specs.Leaf.{entries, weighed, weighed_all, with_sum, weighed_with_sum, corner_weights}
use Rattle.rays.specs.Space.{Ray, scaled3}
use Rattle.rays_bwd.specs.Backward.{shares}
use Rattle.meshes.specs.Mesh as Mesh
use Rattle.meshes.specs.Mesh.{Face, vertex_at}
use Rattle.meshes.specs.View.{View}
use Rattle.meshes.specs.Sums as Sums
use Rattle.meshes.specs.Sums.{at_vertex}
use Rattle.lists.specs.Lists.{span}
use Rattle.pixel_rays.specs.Rays.{Image, ray_of}
use Rattle.vertex_values.specs.Pass.{Vertices}
use Rattle.pixel_values.specs.Pixel as PixelValues
use Rattle.pixel_gradients.specs.Gradients as Gradients
use Rattle.pixel_bwd.specs.Additions as Additions
use Rattle.pixel_bwd.specs.Additions.{sums}
use Rattle.image_bwd.specs.Summed as Summed
use Rattle.image_bwd.specs.Summed.{summed_over}
use Rattle.tris.specs.Tri.{point_on}
use Rattle.scattering.specs.Scattering.{to_face, to_point, spread}
use Rattle.jacobians.specs.Formula.{Mat3, jacobian}
use Rattle.pixels.specs.Pixel.{half}
use Rattle.outlines.specs.Formula.{Ends, crossing_backward, mixed}
use Rattle.outline_views.specs.Outline.{OutlineEdge, Met}
use Rattle.antialias.specs.Smoothing.{pixel_value, write, smoothed}
use Rattle.antialias_bwd.specs.Formula.{pulled_back}
use Rattle.antialias_bwd.specs.Additions.{crossing_dldr, to_ends, met_additions, crossing_additions}
use Rattle.truth.specs.Pixel.{value_at, incoming, backward, gradients_at, to_value}
use Rattle.truth.specs.Projection.{pulled}
use Rattle.truth.specs.Crossing.{part}
use Rattle.truth.specs.Weights.{area_sum, weights_in}
use Rattle.truth.specs.Image.{Scene, Addition, corners_at, values_at, to_xyz, to_val, pixel_xyz, pixel_val, xyz_at, val_at, image_xyz, image_val, added, summed}
use Rattle.truth.specs.Ties.{scene_of}

-- ---- `interpolate`

-- what it writes at channel j of a pixel that shows f
pub value_at_floats : (g : Image) (s : Vertices) (v : View) (dldw : List Float) (f : Face) (r : Ray Float) (j : ℕ) (old : Float)
    → (let c = scene_of g s v dldw in
    PixelValues.value_at s (some f) (some r) j old ≡ value_at floats (corners_at c.xyz f) r (values_at c.val c.channels f) j)
unfolding PixelValues.value_at PixelValues.blend_of Mesh.corners_at Mesh.vertex_at value_at
value_at_floats g s v dldw f r j old = refl

-- ---- `interpolate_bwd`

abbrev given : Addition Float → Sums.Addition
given a = Sums.addition a.place a.amount

summed-given : (xs : List Float) (l : List (Addition Float)) → Sums.summed xs (map given l) ≡ summed floats nan xs l
unfolding Sums.summed Sums.added summed added
summed-given xs [] = refl
summed-given xs (a ∷ l) = summed-given (added floats nan xs a) l

turns_given : (f : ℕ → List Sums.Addition) (h : ℕ → List (Addition Float)) → ((j : ℕ) → f j ≡ map given (h j)) → (js : List ℕ) → flat_map f js ≡ map given (flat_map h js)
unfolding flat_map
turns_given f h e [] = refl
turns_given f h e (j ∷ js) = ap₂ ◌++◌ (e j) (turns_given f h e js) ∙ sym (map-append given (h j) (flat_map h js))

module _ (g : Image) (s : Vertices) (v : View) (dldw : List Float) where
  abbrev scene : Scene Float
  scene = scene_of g s v dldw

  xyz_given : (o : Option Face) (q : Option (Ray Float)) (d : ℕ → Float) → Additions.pixel_xyz s o q d ≡ map given (pixel_xyz floats scene o q d)
  unfolding Additions.pixel_xyz Additions.to_xyz Gradients.gradients_at Gradients.backward Gradients.incoming Mesh.corners_at Mesh.vertex_at pixel_xyz to_xyz gradients_at backward incoming
  xyz_given (some f) (some r) d = refl
  xyz_given (some f) none d = refl
  xyz_given none q d = refl

  val_given : (o : Option Face) (q : Option (Ray Float)) (d : ℕ → Float) → Additions.pixel_val s o q d ≡ map given (pixel_val floats scene o q d)
  unfolding Additions.pixel_val Additions.to_val Gradients.gradients_at Gradients.backward Gradients.incoming Mesh.corners_at Mesh.vertex_at pixel_val to_val to_value gradients_at backward incoming
  val_given (some f) (some r) d = turns_given _ _ (λ j. refl) (span 0 s.channels)
  val_given (some f) none d = refl
  val_given none q d = refl

  -- what it leaves in the two accumulators after n pixels
  pub sums-at-floats : (n : ℕ) (old : Additions.Sums)
      → summed_over g s v dldw 0 n old ≡ sums (summed floats nan old.xyz (image_xyz floats scene n)) (summed floats nan old.val (image_val floats scene n))
  unfolding summed_over Summed.xyz_at Summed.val_at
  sums-at-floats n old =
      ap₂ sums
      (ap (Sums.summed old.xyz) (turns_given (Summed.xyz_at g s v dldw) (xyz_at floats scene) (λ p. xyz_given (v.at p) (ray_of g p) _) (span 0 n)) ∙ summed-given old.xyz _)
      (ap (Sums.summed old.val) (turns_given (Summed.val_at g s v dldw) (val_at floats scene) (λ p. val_given (v.at p) (ray_of g p) _) (span 0 n)) ∙ summed-given old.val _)

-- ---- `bwd`

-- what it adds for a share: of the face f with the corners x, the weights b of the point, and the gradient g in the image
pub edge_at_floats : (m : List Float) (x : Triangle (Vec3 Float)) (f : Face) (g : Vec3 Float) (b : Weights Float)
    → (let to = pulled floats (entries m) b g x in
    spread m x f g (some b) ≡ at_vertex f.v0 to.p0 ++ (at_vertex f.v1 to.p1 ++ at_vertex f.v2 to.p2))
unfolding spread to_face to_point point_on pulled shares scaled3
edge_at_floats m x f g b = refl

-- ---- `bwd_antialias`

-- what it adds for a crossing: to both vertices of its edge, what the crossing gives the ends in the picture, taken back
pub outline_at_floats : (m xyz val dldw : List Float) (v : OutlineEdge) (e : Ends Float) (k : Met)
    → (let g = crossing_backward floats e k.crossing (crossing_dldr val dldw k) in
    let j : ℕ → Mat3 Float = λ i. jacobian floats (entries m) (vertex_at xyz i) in
    crossing_additions m xyz val dldw v e k ≡ at_vertex v.v0 (pulled_back floats (j v.v0) g.q0) ++ at_vertex v.v1 (pulled_back floats (j v.v1) g.q1))
unfolding crossing_additions met_additions to_ends
outline_at_floats m xyz val dldw v e k = refl

-- what `antialias` writes for a crossing, by its place on the way
pub smoothed_at_floats : (vin : List Float) (k : Met)
    → (let to : Bool → Float = λ below. mixed floats (part floats below half k.crossing.rc) (pixel_value vin k.first) (pixel_value vin k.second) in
    smoothed vin k ≡ cond (lt k.crossing.rc half) (write k.first (to true)) (write k.second (to false)))
unfolding smoothed part
smoothed_at_floats vin k = refl

-- ---- drawing

with_sum_lem : (there : Bool) (b : Weights Float) (s : Float) → with_sum s (cond there (some b) none) ≡ cond there (some (weighed_by b s)) none
unfolding with_sum
with_sum_lem true b s = refl
with_sum_lem false b s = refl

-- the weights at q, where s is finite and not 0: `kept` of `rules` offers `blend` of these and the corners' depths, and these
pub weights-at-floats : (q p0 p1 p2 : Vec2 Float)
    → (let s = area_sum floats q p0 p1 p2 in
    corner_weights q p0 p1 p2 ≡ cond (finite s && not (eq s floats.zero)) (some (weighed_by (weights_in floats q p0 p1 p2) s)) none)
unfolding corner_weights weighed_with_sum weighed_all weighed
weights-at-floats q p0 p1 p2 =
    let s = area_sum floats q p0 p1 p2 in
    with_sum_lem (finite s && not (eq s floats.zero)) (weights_in floats q p0 p1 p2) s
