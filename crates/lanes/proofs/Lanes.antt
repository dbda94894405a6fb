-- The straight way to a pixel's depth gives what the way with its early ends gives.
use mathlib.Core.Path.{◌≡◌, refl, sym, ◌∙◌}
use mathlib.Core.Bool.{Bool, true, false, not, ◌&&◌, cond}
use mathlib.Core.Option.{none, some}
use lib.Ieee.{Float, nan, inf, fin, lt, eq}
use lib.Ieee.Scale.{finite}
use Rattle.lists.specs.Laws.Tests.{both, after_no}
use Rattle.geometry.specs.Arith.{floats}
use Rattle.geometry.specs.Vector.{Vec3, Weights, Triangle}
use Rattle.geometry.specs.Formula.{over_total, blend}
use Rattle.geometry.specs.Leaf.{weighed, with_sum}
use Rattle.offers.specs.Offer.{lowest}
use Rattle.cells.proofs.Laws.Put.{never_greater}
use Rattle.rules.specs.Scan.{weighed_depth, kept, dropped}
use Rattle.lanes.specs.declared.Side.{Side}
use Rattle.lanes.specs.Answer.{within, or_lowest}

-- ---- what lies between any two ends is finite

not_above_greatest : (x : Float) → lt (inf false) x ≡ false
unfolding lt
not_above_greatest nan = refl
not_above_greatest (inf s) = refl
not_above_greatest (fin s m e) = refl

within_finite : (a : Side) (t : Float) → within a t ≡ true → finite t ≡ true
unfolding within lt
within_finite a nan e = sym (after_no _ (never_greater nan refl a.above)) ∙ e
within_finite a (inf true) e = sym (after_no _ (never_greater lowest refl a.above)) ∙ e
within_finite a (inf false) e = sym (not_above_greatest a.below) ∙ (both (lt a.above (inf false)) _ e).1
within_finite a (fin s m x) e = refl

-- ---- the depth, or −infinity

module _ (side : Side) (s : Triangle (Vec3 Float)) (a : Weights Float) (t : Float) where
  abbrev straight : Float
  straight = cond (eq t floats.zero) lowest (cond (dropped (over_total floats a t)) lowest (blend floats (over_total floats a t) s.p0.z s.p1.z s.p2.z))

  pub lane_is : cond (not (within side t)) lowest straight ≡ or_lowest (weighed_depth (within side) s (with_sum t (weighed a t)))
  unfolding weighed with_sum weighed_depth kept or_lowest
  lane_is = go (within side t) refl
    where
      counted : (e d : Bool) → eq t floats.zero ≡ e → dropped (over_total floats a t) ≡ d → finite t ≡ true → within side t ≡ true → straight ≡ or_lowest (weighed_depth (within side) s (with_sum t (weighed a t)))
      counted true d f g h k = rw (f, h)
      counted false true f g h k = rw (f, h, k, g)
      counted false false f g h k = rw (f, h, k, g)

      left_out : (b : Bool) → within side t ≡ false → lowest ≡ or_lowest (weighed_depth (within side) s (with_sum t (cond b (some (over_total floats a t)) none)))
      left_out true k = rw k
      left_out false k = refl

      go : (w : Bool) → within side t ≡ w → cond (not (within side t)) lowest straight ≡ or_lowest (weighed_depth (within side) s (with_sum t (weighed a t)))
      go true k = rw k (counted (eq t floats.zero) (dropped (over_total floats a t)) refl refl (within_finite side t k) k)
      go false k = rw k (left_out (finite t && not (eq t floats.zero)) k)
