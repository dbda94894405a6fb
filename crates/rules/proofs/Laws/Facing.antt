-- Facing: what the front counts and what it leaves out are all candidates, and with all faces every layer is what it is without a facing.
use Rattle.std.specs.Prelude.{ℕ, ◌+◌, ◌*◌, ◌/◌, ◌%◌, ◌<◌, ◌≡◌, refl, Bool, true, false, not, ◌&&◌, cond, List, [], ◌++◌, eqb, Float}
use Rattle.std.proofs.Common.{sym, ap, ◌∙◌, append-nil, zero-mul, arith, lt-ltb, le-ltb}
use Rattle.std.proofs.lemmas.Bool.{false≢true, eqb-false}
use Rattle.std.proofs.Math.Option.{Option, none, some}
use Rattle.std.specs.Float.{nan, inf, fin}
use Rattle.std.specs.Float.Ieee.{up, down, below, level, lt, eq, of_bits}
use Rattle.std.specs.Float.Ieee.Scale.{finite}
use Rattle.lists.specs.Laws.Tests.{both}
use Rattle.geometry.specs.Arith.{floats}
use Rattle.geometry.specs.Vector.{Vec2, Vec3, flat, Weights, Weighed, Triangle}
use Rattle.geometry.specs.Formula.{areas, total, over_total}
use Rattle.geometry.specs.Leaf.{weighed, weighed_all, with_sum, weighed_with_sum, corner_weights}
use Rattle.cells.specs.Cell.{Candidate}
use Rattle.cells.specs.Layer.{Layer}
use Rattle.meshes.specs.Mesh.{Face}
use Rattle.rules.specs.declared.Facing.TheVariants.{All, Front}
use Rattle.rules.specs.Piece.{Piece}
use Rattle.rules.specs.Weighs.{Weighs}
use Rattle.rules.specs.Scan.{screened, centre_at, scans, counts, kept, weighed_depth, depth_at, candidate}
use Rattle.rules.specs.Offers.{Scene, piece_brings, brought}
use Rattle.rules.specs.Draw.{painted, drawn}
use Rattle.rules.proofs.Laws.Instead.{brought_by, brought-by, drawn-by}

-- ---- the sum of a point that has weights

weighs : (s : Float) → finite s && not (eq s floats.zero) ≡ true → Weighs s
weighs s e = record { is_finite = (both (finite s) _ e).0; not-zero = no (eq s floats.zero) (both (finite s) _ e).1 }
  where
    no : (b : Bool) → not b ≡ true → b ≡ false
    no true f = sym f
    no false f = refl

-- only what is counted of such sums matters
pub counted_same : (f g : Float → Bool) (s : Triangle (Vec3 Float)) (q : Vec2 Float) → ((x : Float) → Weighs x → f x ≡ g x) → depth_at f s q ≡ depth_at g s q
unfolding depth_at corner_weights weighed_with_sum weighed_all weighed with_sum weighed_depth
counted_same f g s q h = go (finite t && not (eq t floats.zero)) refl
  where
    a : Weights Float
    a = areas floats q (flat s.p0) (flat s.p1) (flat s.p2)

    t : Float
    t = total floats a

    go : (b : Bool) → finite t && not (eq t floats.zero) ≡ b → depth_at f s q ≡ depth_at g s q
    go true e = rw e (ap (λ (b : Bool). cond b (kept s (over_total floats a t)) []) (h t (weighs t e)))
    go false e = rw e

-- ---- front or left out

some_digits : (s : Bool) (a : ℕ) → level s a false 0 ≡ false → 0 < a
some_digits s a n = go s (eqb a 0) refl n
  where
    go : (s b : Bool) → eqb a 0 ≡ b → level s a false 0 ≡ false → 0 < a
    go true true e n = absurd (false≢true (sym n ∙ rw e))
    go false true e n = absurd (false≢true (sym n ∙ rw e))
    go s false e n = omega (arith, eqb-false a 0 e)

sign_of : (s : Bool) (a : ℕ) → level s a false 0 ≡ false → below s a false 0 ≡ not (below false 0 s a)
sign_of true a n = rw (lt-ltb 0 (a + 0) (omega (arith, some_digits true a n)))
sign_of false a n = rw (le-ltb a 0 (omega arith), lt-ltb 0 a (some_digits false a n))

-- a sum is below 0 where it is not above
below_or_above : (x : Float) → Weighs x → lt x floats.zero ≡ not (lt floats.zero x)
unfolding lt eq of_bits
below_or_above nan w = absurd (false≢true w.is_finite)
below_or_above (inf s) w = absurd (false≢true w.is_finite)
below_or_above (fin s m e) w = at_zero (0 * down e) (zero-mul (down e)) w.not-zero
  where
    at_zero : (z : ℕ) → z ≡ 0 → level s (m * up e * 1) false z ≡ false → below s (m * up e * 1) false z ≡ not (below false z s (m * up e * 1))
    at_zero z h n = rw h (sign_of s (m * up e * 1) (rw h at n))

-- what the front leaves out is what it counts of the piece turned round
pub left_out : (turned : Bool) (x : Float) → Weighs x → counts Front (not turned) x ≡ not (counts Front turned x)
unfolding counts
left_out true x w = sym (ap not (below_or_above x w) ∙ twice (lt floats.zero x))
  where
    twice : (b : Bool) → not (not b) ≡ b
    twice true = refl
    twice false = refl
left_out false x w = below_or_above x w

either : (f : Float → Bool) (s : Triangle (Vec3 Float)) (o : Option (Weighed Float)) → weighed_depth (λ x. true) s o ≡ weighed_depth f s o ++ weighed_depth (λ x. not (f x)) s o
unfolding weighed_depth
either f s none = refl
either f s (some a) = go (f a.s)
  where
    go : (b : Bool) → kept s a.b ≡ cond b (kept s a.b) [] ++ cond (not b) (kept s a.b) []
    go true = sym (append-nil (kept s a.b))
    go false = refl

-- at each pixel: the front candidate of a piece, or that of the piece turned round, is its candidate of all faces
pub front_and_left_out : (turned : Bool) (s : Triangle (Vec3 Float)) (ix iy : ℕ)
    → candidate (counts All turned) s ix iy ≡ candidate (counts Front turned) s ix iy ++ candidate (counts Front (not turned)) s ix iy
unfolding candidate depth_at counts
front_and_left_out turned s ix iy = go (scans s ix iy)
  where
    depths : (q : Vec2 Float) → depth_at (counts All turned) s q ≡ depth_at (counts Front turned) s q ++ depth_at (counts Front (not turned)) s q
    depths q =
        either (counts Front turned) s (corner_weights q (flat s.p0) (flat s.p1) (flat s.p2))
        ∙ ap (λ (ds : List Candidate). depth_at (counts Front turned) s q ++ ds) (counted_same (λ x. not (counts Front turned x)) (counts Front (not turned)) s q (λ x w. sym (left_out turned x w)))

    go : (b : Bool) → cond b (depth_at (counts All turned) s (centre_at ix iy)) [] ≡ cond b (depth_at (counts Front turned) s (centre_at ix iy)) [] ++ cond b (depth_at (counts Front (not turned)) s (centre_at ix iy)) []
    go true = depths (centre_at ix iy)
    go false = refl

-- ---- all faces

-- what a piece brings a pixel without a facing: its depth, by the weights alone
unfoldable pub weights_depth : Triangle (Vec3 Float) → Option (Weights Float) → List Candidate
weights_depth s none = []
weights_depth s (some b) = kept s b

unfoldable pub unfaced : Triangle (Vec3 Float) → ℕ → ℕ → List Candidate
unfaced s ix iy = cond (scans s ix iy) (weights_depth s (weighed_all (areas floats (centre_at ix iy) (flat s.p0) (flat s.p1) (flat s.p2)))) []

unfoldable pub piece_unfaced : Scene → Piece → ℕ → List Candidate
piece_unfaced sc t p = unfaced (screened sc.width sc.height t.corners) (p % sc.width) (p / sc.width)

all_counted : (turned : Bool) (s : Triangle (Vec3 Float)) (ix iy : ℕ) → candidate (counts All turned) s ix iy ≡ unfaced s ix iy
unfolding candidate unfaced depth_at corner_weights weighed_with_sum with_sum weighed_depth weights_depth counts
all_counted turned s ix iy = ap (λ (ds : List Candidate). cond (scans s ix iy) ds []) (go _ (weighed_all _))
  where
    go : (t : Float) (o : Option (Weights Float)) → weighed_depth (counts All turned) s (with_sum t o) ≡ weights_depth s o
    go t none = refl
    go t (some b) = refl

module _ (sc : Scene) (all : sc.facing ≡ All) where
  piece_all : (t : Piece) (p : ℕ) → piece_brings sc.facing sc.width sc.height t p ≡ piece_unfaced sc t p
  unfolding piece_brings piece_unfaced
  piece_all t p = rw all (all_counted t.turned (screened sc.width sc.height t.corners) (p % sc.width) (p / sc.width))

  -- what the faces bring a pixel
  pub all_brought : (fs : List Face) (k p : ℕ) → brought sc fs k p ≡ brought_by (piece_unfaced sc) sc fs k p
  all_brought = brought-by (piece_unfaced sc) sc piece_all

  -- and every layer that they are drawn on
  pub all_drawn : (fs : List Face) (k : ℕ) (l : Layer) → drawn sc fs k l ≡ painted (brought_by (piece_unfaced sc) sc fs k) (sc.width * sc.height) l
  all_drawn = drawn-by (piece_unfaced sc) sc piece_all
