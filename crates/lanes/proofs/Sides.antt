-- The interval of a facing holds the sums that the facing counts: of a finite sum an infinite end asks nothing.
use mathlib.Core.Path.{◌≡◌, refl}
use mathlib.Core.Bool.{Bool, true, false, ◌&&◌, false≢true}
use lib.Ieee.{Float, nan, inf, fin, lt, of_bits, binary32}
use lib.Ieee.Scale.{finite}
use Rattle.offers.specs.Offer.{lowest}

pub above_lowest : (x : Float) → finite x ≡ true → lt (inf true) x ≡ true
unfolding lt
above_lowest nan e = e
above_lowest (inf s) e = absurd (false≢true e)
above_lowest (fin s m x) e = refl

pub below_greatest : (x : Float) → finite x ≡ true → lt x (inf false) ≡ true
unfolding lt
below_greatest nan e = e
below_greatest (inf s) e = absurd (false≢true e)
below_greatest (fin s m x) e = refl

pub and-true : (b c : Bool) → c ≡ true → b && c ≡ b
and-true true c e = e
and-true false c e = refl

-- −infinity as the code writes it
pub minus_infinity : of_bits binary32 0xff80_0000 ≡ lowest
unfolding of_bits
minus_infinity = refl
