-- The theorems at the rational numbers: the example of 01 whose pixel 0 is 7, exactly, and its gradients; and the same pixel's weights and depth as drawn.
-- And an outline edge that smooths a pixel.
use Rattle.std.specs.Prelude.{ℕ, zero, suc, ◌<◌, ◌≡◌, refl, true, List, [], ◌∷◌, get_or, replicate, pos, negsuc}
use Rattle.std.proofs.Common.{sym, ◌∙◌, ap, subst, lit≤}
use Rattle.std.proofs.Math.Option.{Option, none, some, some-injective, some-ne-none}
use Rattle.geometry.specs.Vector.{Vec2, vec2, Vec3, vec3, Weights, weights, Triangle, triangle}
use Rattle.geometry.specs.Formula.{sum_of, cross2, areas, total, over_total, blend, row, over as over_w}
use Rattle.rays.specs.Space.{Ray, ray, minus3, dot3, cross3, scaled3}
use Rattle.rays.specs.Plane.{normal}
use Rattle.rays_bwd.specs.Backward.{framed, frame_of, meets_u, meets_v, weighted, gradient_on, gradient, shares, shared, backward_on, plane_backward}
use Rattle.meshes.specs.Mesh.{Face, face}
use Rattle.pixel_gradients.specs.Gather.{gathered}
use Rattle.jacobians.specs.Formula.{project_untested, jacobian_entry, jacobian_column, jacobian_at, jacobian}
use Rattle.outlines.specs.Formula.{Ends, Crossing, minus2, perp_dot, scaled2, crossing_from, crossing_of, crossing_gradient, end_shares, crossing_backward, mixed}
use Rattle.antialias_bwd.specs.Formula.{pulled_back}
use Rattle.truth.specs.Laws.{Invertible}
use Rattle.truth.specs.Solve.{same3, ◌∷₃◌}
use Rattle.truth.specs.Rationals.{ℚ, over, alike, rationals, rational_laws, divides_by}
use Rattle.truth.specs.Pixel.{value_at, loss, incoming, backward, gradients_at, inner_values}
use Rattle.truth.specs.Dual.{duals, still}
use Rattle.truth.specs.Moving.{moving, moving_values, still_ray, inner}
use Rattle.truth.proofs.Loss.{loss_true}
use Rattle.truth.specs.Image.{Scene, summed, image_xyz, image_val, image_loss}
use Rattle.truth.specs.Buffers.{against}
use Rattle.truth.specs.Pass.{moving_scene, Good, Ready}
use Rattle.truth.proofs.Pass.{pass_true}
use Rattle.truth.specs.Meeting.{D, n_dot_n}
use Rattle.truth.proofs.Meeting.{weights_agree}
use Rattle.truth.specs.Weights.{area_sum, weights_in}
use Rattle.truth.proofs.Weights.{weights_depth_lem}
use Rattle.truth.specs.Crossing.{part, seen, edge_seen, outline_inner, outline_moves}
use Rattle.truth.proofs.Crossing.{smoothed_true}

-- n and -(n + 1)
abbrev whole : ℕ → ℚ
whole n = over (pos n) (pos 1) tt

abbrev less : ℕ → ℚ
less n = over (negsuc n) (pos 1) tt

abbrev quarter : ℚ
quarter = over (pos 1) (pos 4) tt

-- T(0.25)
abbrev T : Triangle (Vec3 ℚ)
T = triangle (vec3 (less 0) (less 0) quarter) (vec3 (whole 3) (less 0) quarter) (vec3 (less 0) (whole 3) quarter)

-- the ray of pixel 0 of 2 × 2, the matrix being the identity
abbrev line : Ray ℚ
line = ray (vec3 (over (negsuc 0) (pos 2) tt) (over (pos 1) (pos 2) tt) (whole 1)) (vec3 (whole 0) (whole 0) (less 1))

D_is : D rationals T line ≡ less 31
unfolding frame_of framed minus3 dot3 cross3
D_is = alike _ _ refl

n_dot_n_is : n_dot_n rationals T ≡ whole 256
unfolding normal minus3 dot3 cross3
n_dot_n_is = alike _ _ refl

crosses : Invertible rationals (D rationals T line)
crosses = divides_by (negsuc 31) (pos 1) tt D_is tt

spans : Invertible rationals (n_dot_n rationals T)
spans = divides_by (pos 256) (pos 1) tt n_dot_n_is tt

-- the vertex values 0, 8 and 16 in one channel, and an incoming gradient of 1
abbrev values : Triangle (ℕ → ℚ)
values = triangle (λ j. whole 0) (λ j. whole 8) (λ j. whole 16)

abbrev incoming1 : ℕ → ℚ
incoming1 j = whole 1

-- the forward weights by way of the backward ones, which are the same
pub pixel_is_7 : value_at rationals T line values 0 ≡ whole 7
unfolding value_at blend plane_backward backward_on shared weighted meets_u meets_v frame_of framed minus3 dot3 cross3
pixel_is_7 =
    ap (λ b. blend rationals b (whole 0) (whole 8) (whole 16)) (weights_agree rationals rational_laws T line (whole 0) (whole 0) (whole 0) crosses spans)
    ∙ alike _ _ refl

same_t : {a b : Triangle (Vec3 ℚ)} → a.p0 ≡ b.p0 → a.p1 ≡ b.p1 → a.p2 ≡ b.p2 → a ≡ b
same_t p q r = λ i. triangle (p i) (q i) (r i)

-- g = (-2, -4, 0), shared out by 1/2, 1/8 and 3/8
pub shares_are : (gradients_at rationals T line values incoming1 1).to
    ≡ triangle (vec3 (less 0) (less 1) (whole 0))
    (vec3 (over (negsuc 0) (pos 4) tt) (over (negsuc 0) (pos 2) tt) (whole 0))
    (vec3 (over (negsuc 2) (pos 4) tt) (over (negsuc 2) (pos 2) tt) (whole 0))
unfolding gradients_at backward incoming gathered sum_of plane_backward backward_on shared shares scaled3 gradient gradient_on weighted meets_u meets_v frame_of framed minus3 dot3 cross3
shares_are =
    same_t (same3 (alike _ _ refl) (alike _ _ refl) (alike _ _ refl)) (same3 (alike _ _ refl) (alike _ _ refl) (alike _ _ refl))
    (same3 (alike _ _ refl) (alike _ _ refl) (alike _ _ refl))

-- so these are the derivatives, along any movement of the corners and the values
pub shares_are_true : (m : Triangle (Vec3 ℚ)) (y : Triangle (ℕ → ℚ))
    → (loss (duals rationals) (moving T m) (still_ray rationals line) (moving_values values y) (λ j. still rationals (incoming1 j)) 1).eps
    ≡ rationals.add (inner rationals (gradients_at rationals T line values incoming1 1).to m) (inner_values rationals incoming1 (gradients_at rationals T line values incoming1 1).bc y 1)
shares_are_true m y = loss_true rationals rational_laws T m line crosses spans values y incoming1 1

-- ---- the whole pass: 2 × 1, the face and an empty pixel

abbrev shows : ℕ → Option Face
shows zero = some (face 0 1 2)
shows (suc p) = none

abbrev scene : Scene ℚ
scene =
    record {
      shown = shows;
      rays = λ p. some line;
      channels = 1;
      xyz = λ k. get_or (T.p0 ∷₃ T.p1 ∷₃ T.p2 ∷₃ []) k (whole 0);
      val = λ k. get_or (whole 0 ∷ whole 8 ∷ whole 16 ∷ []) k (whole 0);
      dldw = λ k. whole 1;
    }

good : Good rationals scene 9 3 (face 0 1 2) line
good =
    record {
      crosses = crosses;
      spans = spans;
      corner0 = record { xyz = lit≤ tt; val = lit≤ tt };
      corner1 = record { xyz = lit≤ tt; val = lit≤ tt };
      corner2 = record { xyz = lit≤ tt; val = lit≤ tt };
    }

ready : (p : ℕ) → p < 2 → Ready rationals scene 9 3 p
ready zero h f r a b =
    subst (λ g. Good rationals scene 9 3 g r) (some-injective (face 0 1 2) f a)
    (subst (λ l. Good rationals scene 9 3 (face 0 1 2) l) (some-injective line r b) good)
ready (suc p) h f r a b = absurd (some-ne-none f (sym a))

abbrev zeros : ℕ → List ℚ
zeros n = replicate n (whole 0)

-- from buffers of nothing, what they hold is the derivative
pub pass_is_true : (mx mv : ℕ → ℚ)
    → rationals.add (against rationals (summed rationals (whole 0) (zeros 9) (image_xyz rationals scene 2)) mx)
    (against rationals (summed rationals (whole 0) (zeros 3) (image_val rationals scene 2)) mv)
    ≡ rationals.add (rationals.add (against rationals (zeros 9) mx) (against rationals (zeros 3) mv)) (image_loss (duals rationals) (moving_scene rationals scene mx mv) 2).eps
pass_is_true mx mv = pass_true rationals rational_laws scene mx mv (whole 0) (zeros 9) (zeros 3) 2 ready

-- ---- drawing: T in the pixels of 2 × 2, its corners at the depths 0, 8 and 16, and the centre of pixel 0

abbrev corner0 : Vec2 ℚ
corner0 = vec2 (whole 0) (whole 2)

abbrev corner1 : Vec2 ℚ
corner1 = vec2 (whole 4) (whole 2)

abbrev corner2 : Vec2 ℚ
corner2 = vec2 (whole 0) (less 1)

abbrev centre : Vec2 ℚ
centre = vec2 (over (pos 1) (pos 2) tt) (over (pos 1) (pos 2) tt)

s_is : area_sum rationals centre corner0 corner1 corner2 ≡ less 15
unfolding total areas cross2
s_is = alike _ _ refl

weighs : Invertible rationals (area_sum rationals centre corner0 corner1 corner2)
weighs = divides_by (negsuc 15) (pos 1) tt s_is tt

same_w : {a b : Weights ℚ} → a.b0 ≡ b.b0 → a.b1 ≡ b.b1 → a.b2 ≡ b.b2 → a ≡ b
same_w p q r = λ i. weights (p i) (q i) (r i)

pub weights_are : weights_in rationals centre corner0 corner1 corner2 ≡ weights (over (pos 1) (pos 2) tt) (over (pos 1) (pos 8) tt) (over (pos 3) (pos 8) tt)
unfolding over_total total areas cross2
weights_are = same_w (alike _ _ refl) (alike _ _ refl) (alike _ _ refl)

-- the corners lie in the plane z = 2x − 4y + 8, so the depth is its height at the centre
pub depth_is_7 : blend rationals (weights_in rationals centre corner0 corner1 corner2) (whole 0) (whole 8) (whole 16) ≡ whole 7
depth_is_7 =
    weights_depth_lem rationals rational_laws centre corner0 corner1 corner2 weighs (whole 2) (less 3) (whole 8) (whole 0) (whole 8) (whole 16)
    (alike _ _ refl) (alike _ _ refl) (alike _ _ refl)
    ∙ alike _ _ refl

-- ---- smoothing: an outline edge crosses the way from the centre of pixel 0 of 2 × 1 to that of pixel 1, a quarter along it and a third along the edge

abbrev half : ℚ
half = over (pos 1) (pos 2) tt

abbrev next : Vec2 ℚ
next = vec2 (over (pos 3) (pos 2) tt) half

-- (x, y, z) is seen at (x/z, y/z)
abbrev lens : ℕ → ℚ
lens k =
    let o = whole 0 in
    let l = whole 1 in
    get_or (l ∷ o ∷ o ∷ o ∷ o ∷ l ∷ o ∷ o ∷ o ∷ o ∷ l ∷ l ∷ []) k o

-- they are seen at (7/4, 3/2) and (1/4, 0)

abbrev vertex0 : Vec3 ℚ
vertex0 = vec3 (over (pos 7) (pos 2) tt) (whole 3) (whole 2)

abbrev vertex1 : Vec3 ℚ
vertex1 = vec3 quarter (whole 0) (whole 1)

abbrev outline : Ends ℚ
outline = edge_seen rationals lens vertex0 vertex1

abbrev meeting : Crossing ℚ
meeting = crossing_of rationals centre next outline

pub crossing_is : (meeting.rc ≡ quarter) × (meeting.re ≡ over (pos 1) (pos 3) tt)
unfolding edge_seen seen project_untested over_w row crossing_of crossing_from minus2 perp_dot
crossing_is = (alike _ _ refl, alike _ _ refl)

d_is : meeting.d ≡ over (pos 3) (pos 2) tt
unfolding edge_seen seen project_untested over_w row crossing_of crossing_from minus2 perp_dot
d_is = alike _ _ refl

meeting_divides : Invertible rationals meeting.d
meeting_divides = divides_by (pos 3) (pos 2) tt d_is tt

-- pixel 0 shows 6 and pixel 1, which is empty, 0: pixel 0 becomes (1/2 + 1/4) 6
pub smoothed_is : mixed rationals (part rationals true half meeting.rc) (whole 6) (whole 0) ≡ over (pos 9) (pos 2) tt
unfolding edge_seen seen project_untested over_w row crossing_of crossing_from minus2 perp_dot mixed part
smoothed_is = alike _ _ refl

-- of a crossing's pixel with an incoming gradient of 1
abbrev dldr : ℚ
dldr = rationals.mul (whole 1) (rationals.sub (whole 6) (whole 0))

-- the shares (2, −2) and (4, −4) in the picture
pub vertices_gain : (let g = crossing_backward rationals outline meeting dldr in
    (pulled_back rationals (jacobian rationals lens vertex0) g.q0 ≡ vec3 (whole 1) (less 0) (over (negsuc 0) (pos 4) tt))
    × (pulled_back rationals (jacobian rationals lens vertex1) g.q1 ≡ vec3 (whole 4) (less 3) (less 0)))
unfolding edge_seen seen project_untested over_w row crossing_of crossing_from minus2 perp_dot crossing_backward crossing_gradient end_shares scaled2 pulled_back jacobian jacobian_at jacobian_column jacobian_entry
vertices_gain = (same3 (alike _ _ refl) (alike _ _ refl) (alike _ _ refl), same3 (alike _ _ refl) (alike _ _ refl) (alike _ _ refl))

-- so these are the derivatives, along any movement of the two vertices
pub smoothing_is_true : (m0 m1 : Vec3 ℚ)
    → rationals.mul (whole 1)
    (mixed (duals rationals) (part (duals rationals) true (still rationals half) (outline_moves rationals lens centre next vertex0 vertex1 m0 m1).rc)
    (still rationals (whole 6)) (still rationals (whole 0))).eps
    ≡ outline_inner rationals lens centre next vertex0 vertex1 dldr m0 m1
smoothing_is_true m0 m1 =
    smoothed_true rationals rational_laws lens centre next vertex0 vertex1 meeting_divides m0 m1 true half (whole 6) (whole 0) (whole 1)
