-- The whole values pass: what its two buffers say of the movement afterwards is what they said before, and the derivative of the image's loss.
use Prim.Native.Nat.{ℕ, zero, suc, ◌+◌, ◌*◌, ◌≤◌, ◌<◌}
use Rattle.std.specs.Prelude.{◌≡◌, List, [], ◌∷◌, length}
use Rattle.std.proofs.Math.Path.{refl, sym, ap, ap₂}
use Rattle.std.proofs.Common.{◌∙◌, arith}
use Rattle.std.proofs.Math.Option.{Option, none, some}
use Rattle.geometry.specs.Arith.{Arith}
use Rattle.geometry.specs.Vector.{Vec3, vec3, Weights, Triangle, triangle}
use Rattle.geometry.specs.Formula.{sum_of}
use Rattle.rays.specs.Space.{Ray, dot3}
use Rattle.meshes.specs.Mesh.{Face}
use Rattle.pixel_gradients.specs.Gather.{gathered}
use Rattle.truth.specs.Laws.{Laws}
use Rattle.truth.specs.Ring.{add-add}
use Rattle.truth.specs.Solve.{same3, var, :0, ◌:+◌, ◌:*◌, ◌∷₃◌, var3, exprs, from, eval, Equal, by_ring}
use Rattle.truth.specs.Dual.{duals, still}
use Rattle.truth.specs.Moving.{still_ray, inner}
use Rattle.truth.specs.Pixel.{to_value, inner_values}
use Rattle.truth.proofs.Loss.{loss_true}
use Rattle.truth.specs.Buffers.{against, paired, Within, within-append, turns_within, against-summed, paired_turns}
use Rattle.truth.specs.Image.{Scene, Addition, vertex_at, corners_at, values_at, to_corners, to_xyz, to_val, incoming_at, pixel_loss, pixel_xyz, pixel_val, xyz_at, val_at, image_loss, image_xyz, image_val, summed}
use Rattle.truth.specs.Pass.{still_rays, moving_scene, Good, Ready}

-- ---- what one pixel adds, against a movement

module _ {A : Type 0} (R : Arith A) (L : Laws R) where
  open R use {add as ◌⊕◌}

  infixl 6 ◌⊕◌
  module _ (m : ℕ → A) (f : Face) where
    placed : (v : ℕ) → vec3 (m (v * 3 + 0)) (m (v * 3 + 1)) (m (v * 3 + 2)) ≡ vertex_at m v
    placed v = same3 (ap m (omega arith)) (ap m (omega arith)) (ap m (omega arith))

    paired_xyz : (g : Triangle (Vec3 A)) → paired R m (to_xyz f g) ≡ inner R g (corners_at m f)
    unfolding Equal eval paired to_xyz inner dot3
    paired_xyz g =
        by_ring R L
        (from R (g.p0 ∷₃ g.p1 ∷₃ g.p2
        ∷₃ m (f.v0 * 3 + 0) ∷ m (f.v0 * 3 + 1) ∷ m (f.v0 * 3 + 2)
        ∷ m (f.v1 * 3 + 0) ∷ m (f.v1 * 3 + 1) ∷ m (f.v1 * 3 + 2)
        ∷ m (f.v2 * 3 + 0) ∷ m (f.v2 * 3 + 1) ∷ m (f.v2 * 3 + 2) ∷ []))
        (var 0 :* var 9 :+ (var 3 :* var 12 :+ (var 6 :* var 15
        :+ (var 1 :* var 10 :+ (var 4 :* var 13 :+ (var 7 :* var 16
        :+ (var 2 :* var 11 :+ (var 5 :* var 14 :+ (var 8 :* var 17 :+ :0)))))))))
        (inner (exprs :0) (triangle (var3 0) (var3 3) (var3 6)) (triangle (var3 9) (var3 12) (var3 15))) refl
        ∙ ap (inner R g) (λ i. triangle (placed f.v0 i) (placed f.v1 i) (placed f.v2 i))

    module _ (c : ℕ) (d : ℕ → A) (b : Weights A) where
      abbrev turn : ℕ → List (Addition A)
      turn j = to_corners c f j (to_value R d b.b0 j) (to_value R d b.b1 j) (to_value R d b.b2 j)

      turns : (n : ℕ) → sum_of R (λ j. paired R m (turn j)) n ≡ inner_values R d b (values_at m c f) n
      unfolding Equal eval paired inner_values gathered sum_of
      turns zero = by_ring R L (from R []) :0 (:0 :+ :0 :+ :0) refl
      turns (suc n) =
          ap (λ t. t ⊕ paired R m (turn n)) (turns n)
          ∙ by_ring R L
          (from R (gathered R (to_value R d b.b0) (values_at m c f).p0 n ∷ gathered R (to_value R d b.b1) (values_at m c f).p1 n ∷ gathered R (to_value R d b.b2) (values_at m c f).p2 n
          ∷ to_value R d b.b0 n ∷ to_value R d b.b1 n ∷ to_value R d b.b2 n
          ∷ m (f.v0 * c + n) ∷ m (f.v1 * c + n) ∷ m (f.v2 * c + n) ∷ []))
          (var 0 :+ var 1 :+ var 2 :+ (var 3 :* var 6 :+ (var 4 :* var 7 :+ (var 5 :* var 8 :+ :0))))
          (var 0 :+ var 3 :* var 6 :+ (var 1 :+ var 4 :* var 7) :+ (var 2 :+ var 5 :* var 8)) refl

      paired_val : paired R m (to_val R c f d b) ≡ inner_values R d b (values_at m c f) c
      unfolding to_val
      paired_val = paired_turns R L m turn c ∙ turns c

-- ---- a pixel, and all

corners-within : {A : Type 0} (n c : ℕ) (f : Face) (j : ℕ) (x0 x1 x2 : A) → f.v0 * c + c ≤ n → f.v1 * c + c ≤ n → f.v2 * c + c ≤ n → j < c → Within n (to_corners c f j x0 x1 x2)
unfolding Within
corners-within n c f j x0 x1 x2 a b e l = (omega arith, (omega arith, (omega arith, tt)))

module _ {A : Type 0} (R : Arith A) (L : Laws R) (s : Scene A) (mx mv : ℕ → A) (nx nv : ℕ) where
  open R use {add as ◌⊕◌}

  infixl 6 ◌⊕◌
  module _ (f : Face) (r : Ray A) (d : ℕ → A) (good : Good R s nx nv f r) where
    xyz_within : Within nx (pixel_xyz R s (some f) (some r) d)
    unfolding pixel_xyz to_xyz
    xyz_within =
        within-append nx _ _ (one 0 _ _ _ (omega arith)) (within-append nx _ _ (one 1 _ _ _ (omega arith)) (one 2 _ _ _ (omega arith)))
      where
        one : (j : ℕ) (x0 x1 x2 : A) → j < 3 → Within nx (to_corners 3 f j x0 x1 x2)
        one j x0 x1 x2 = corners-within nx 3 f j x0 x1 x2 good.corner0.xyz good.corner1.xyz good.corner2.xyz

    val_within : Within nv (pixel_val R s (some f) (some r) d)
    unfolding pixel_val to_val
    val_within =
        turns_within nv _ 0 s.channels
        (λ j a l. corners-within nv s.channels f j _ _ _ good.corner0.val good.corner1.val good.corner2.val (omega arith))

    pixel_true : paired R mx (pixel_xyz R s (some f) (some r) d) ⊕ paired R mv (pixel_val R s (some f) (some r) d)
        ≡ (pixel_loss (duals R) (moving_scene R s mx mv) (some f) (some (still_ray R r)) (λ j. still R (d j))).eps
    unfolding pixel_xyz pixel_val pixel_loss
    pixel_true =
        ap₂ ◌⊕◌ (paired_xyz R L mx f _) (paired_val R L mv f s.channels d _)
        ∙ sym (loss_true R L (corners_at s.xyz f) (corners_at mx f) r good.crosses good.spans (values_at s.val s.channels f) (values_at mv s.channels f) d s.channels)

  pixel : (o : Option Face) (q : Option (Ray A)) (d : ℕ → A) → ((f : Face) (r : Ray A) → o ≡ some f → q ≡ some r → Good R s nx nv f r)
      → Within nx (pixel_xyz R s o q d)
      × Within nv (pixel_val R s o q d)
      × (paired R mx (pixel_xyz R s o q d) ⊕ paired R mv (pixel_val R s o q d) ≡ (pixel_loss (duals R) (moving_scene R s mx mv) o (still_rays R q) (λ j. still R (d j))).eps)
  unfolding Within paired pixel_xyz pixel_val pixel_loss
  pixel (some f) (some r) d h = let g = h f r refl refl in (xyz_within f r d g, val_within f r d g, pixel_true f r d g)
  pixel (some f) none d h = (tt, tt, L.add-zero R.zero)
  pixel none q d h = (tt, tt, L.add-zero R.zero)

  pixels : (n : ℕ) → ((p : ℕ) → p < n → Ready R s nx nv p)
      → sum_of R (λ p. paired R mx (xyz_at R s p)) n ⊕ sum_of R (λ p. paired R mv (val_at R s p)) n ≡ (image_loss (duals R) (moving_scene R s mx mv) n).eps
  unfolding sum_of
  pixels zero h = L.add-zero R.zero
  pixels (suc n) h =
      add-add R L _ _ _ _
      ∙ ap₂ ◌⊕◌ (pixels n (λ p l. h p (omega arith))) (pixel (s.shown n) (s.rays n) (incoming_at R s n) (h n (omega arith))).2

-- Every pixel's additions, into lent buffers: afterwards the buffers say of the movement what they said before, and the derivative of the image's loss.
pub pass_true : {A : Type 0} (R : Arith A) (L : Laws R) (s : Scene A) (mx mv : ℕ → A) (past : A) (xs vs : List A) (n : ℕ)
    → ((p : ℕ) → p < n → Ready R s (length xs) (length vs) p)
    → R.add (against R (summed R past xs (image_xyz R s n)) mx) (against R (summed R past vs (image_val R s n)) mv)
    ≡ R.add (R.add (against R xs mx) (against R vs mv)) (image_loss (duals R) (moving_scene R s mx mv) n).eps
pass_true R L s mx mv past xs vs n h =
    ap₂ R.add (against-summed R L past xs (image_xyz R s n) mx xyz_inside ∙ ap (R.add (against R xs mx)) (paired_turns R L mx (xyz_at R s) n))
    (against-summed R L past vs (image_val R s n) mv val_inside ∙ ap (R.add (against R vs mv)) (paired_turns R L mv (val_at R s) n))
    ∙ add-add R L _ _ _ _
    ∙ ap (R.add (R.add (against R xs mx) (against R vs mv))) (pixels R L s mx mv (length xs) (length vs) n h)
  where
    xyz_inside : Within (length xs) (image_xyz R s n)
    xyz_inside = turns_within (length xs) (xyz_at R s) 0 n (λ p a l. (pixel R L s mx mv (length xs) (length vs) (s.shown p) (s.rays p) (incoming_at R s p) (h p (omega arith))).0)

    val_inside : Within (length vs) (image_val R s n)
    val_inside = turns_within (length vs) (val_at R s) 0 n (λ p a l. (pixel R L s mx mv (length xs) (length vs) (s.shown p) (s.rays p) (incoming_at R s p) (h p (omega arith))).1)
