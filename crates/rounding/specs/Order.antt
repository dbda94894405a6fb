-- The order of floats. What is said of all floats holds for infinities too, and a NaN is in no order.
use Rattle.std.specs.Prelude.{◌≡◌, refl, true, false, Float}
use Rattle.std.specs.Bool.{passes}
use Rattle.std.specs.Float.{nan, inf, fin}
use Rattle.std.specs.Float.Ieee.{le, lt, eq, neg, is_nan}
use Rattle.std.specs.Float.Ieee.Bits.{is_true}
use Rattle.std.specs.Float.Ieee.Scale.{finite}
use Rattle.std.specs.Float.Order as Std
use Rattle.std.proofs.lemmas.Bool.{false≢true}
use Rattle.std.proofs.lemmas.Grind.{common_steps}
use Rattle.std.proofs.Common.{arith}

pub le_refl : (x : Float) → finite x ≡ true → le x x ≡ true
unfolding is_nan
le_refl nan a = absurd (false≢true a)
le_refl (inf s) a = absurd (false≢true a)
le_refl (fin s m e) a = is_true _ (Std.le_refl (fin s m e) tt)

pub le_trans : (x y z : Float) → le x y ≡ true → le y z ≡ true → le x z ≡ true
le_trans x y z h k = is_true _ (Std.le_trans x y z (passes _ h) (passes _ k))

pub le_lt : (x y z : Float) → le x y ≡ true → lt y z ≡ true → lt x z ≡ true
le_lt x y z h k = is_true _ (Std.lt_of_le_of_lt x y z (passes _ h) (passes _ k))

pub lt_le : (x y z : Float) → lt x y ≡ true → le y z ≡ true → lt x z ≡ true
lt_le x y z h k = is_true _ (Std.lt_of_lt_of_le x y z (passes _ h) (passes _ k))

pub le_of_lt : (x y : Float) → lt x y ≡ true → le x y ≡ true
le_of_lt x y h = is_true _ (Std.le_of_lt x y (passes _ h))

-- what lies between two finite values is finite
pub between_finite : (a x b : Float) → finite a ≡ true → finite b ≡ true → le a x ≡ true → le x b ≡ true → finite x ≡ true
unfolding le lt eq
between_finite nan x b p q h k = absurd (false≢true p)
between_finite (inf s) x b p q h k = absurd (false≢true p)
between_finite (fin s m e) nan b p q h k = h
between_finite (fin s m e) (inf true) b p q h k = h
between_finite (fin s m e) (inf false) nan p q h k = q
between_finite (fin s m e) (inf false) (inf t) p q h k = absurd (false≢true q)
between_finite (fin s m e) (inf false) (fin t n d) p q h k = k
between_finite (fin s m e) (fin t n d) b p q h k = refl

-- a change of sign turns the order round
pub le_neg : (x y : Float) → le x y ≡ true → le (neg y) (neg x) ≡ true
unfolding le lt eq neg
le_neg nan y h = absurd (false≢true h)
le_neg (inf s) nan h = absurd (false≢true h)
le_neg (inf true) (inf true) h = refl
le_neg (inf true) (inf false) h = refl
le_neg (inf false) (inf true) h = h
le_neg (inf false) (inf false) h = refl
le_neg (inf true) (fin t n d) h = refl
le_neg (inf false) (fin t n d) h = h
le_neg (fin s m e) nan h = absurd (false≢true h)
le_neg (fin s m e) (inf t) h = h
le_neg (fin s m e) (fin t n d) h = grind (arith, common_steps)
