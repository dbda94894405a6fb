-- NaNs as code meets them. Assumes nothing.
use Rattle.std.specs.Prelude.{◌≡◌, refl, Bool, true, false, not, ◌+◌, ◌*◌, ◌/◌, T, Float}
use Rattle.std.proofs.Common.{subst}
use Rattle.std.specs.Float.{nan, inf, fin, Format, binary32, binary64}
use Rattle.std.specs.Float.Ieee.{div, ne, is_nan, of_bits, hid, ones}

-- the library's NaN
pub quiet : (f : Format) → of_bits f (ones f * hid f + hid f / 2) ≡ nan
unfolding of_bits
quiet binary32 = refl
quiet binary64 = refl

pub is : (x : Float) → true ≡ is_nan x → x ≡ nan
unfolding is_nan
is nan e = refl
is (inf s) e = cc
is (fin s m d) e = cc

pub not_nan : (x : Float) → false ≡ is_nan x → T (not (is_nan x))
not_nan x e = subst (λ (b : Bool). T (not b)) e tt

-- a NaN by its two signs: 0 over 0 is one, and no other number differs from itself
pub zero-over-zero : (f : Format) → div f (of_bits f 0) (of_bits f 0) ≡ nan
unfolding div of_bits
zero-over-zero binary32 = refl
zero-over-zero binary64 = refl

pub number : (x : Float) → ne x x ≡ false → T (not (is_nan x))
unfolding ne is_nan
number nan e = subst T e tt
number (inf s) e = tt
number (fin s m e) g = tt
