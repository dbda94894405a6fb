-- What is computed from an infinity or a NaN by sums and products is not finite.
use Rattle.std.specs.Prelude.{◌≡◌, refl, Bool, true, false, cond, eqb, Float}
use Rattle.std.proofs.lemmas.Bool.{false≢true}
use Rattle.std.specs.Float.{nan, inf, fin, binary32}
use Rattle.std.specs.Float.Ieee.{add, sub, mul, neg}
use Rattle.std.specs.Float.Ieee.Scale.{finite}

abbrev pub Both : Float → Float → Type 0
Both x y = (finite x ≡ true) × (finite y ≡ true)

cond-not : (b s : Bool) → finite (cond b nan (inf s)) ≡ true → ⊥
cond-not true s e = false≢true e
cond-not false s e = false≢true e

pub finite_add : (x y : Float) → finite (add binary32 x y) ≡ true → Both x y
unfolding add
finite_add nan y e = absurd (false≢true e)
finite_add (inf s) nan e = absurd (false≢true e)
finite_add (inf true) (inf true) e = absurd (false≢true e)
finite_add (inf true) (inf false) e = absurd (false≢true e)
finite_add (inf false) (inf true) e = absurd (false≢true e)
finite_add (inf false) (inf false) e = absurd (false≢true e)
finite_add (inf s) (fin t n d) e = absurd (false≢true e)
finite_add (fin s m d) nan e = absurd (false≢true e)
finite_add (fin s m d) (inf t) e = absurd (false≢true e)
finite_add (fin s m d) (fin t n c) e = (refl, refl)

pub finite_neg : (x : Float) → finite (neg x) ≡ finite x
unfolding neg
finite_neg nan = refl
finite_neg (inf s) = refl
finite_neg (fin s m e) = refl

pub finite_sub : (x y : Float) → finite (sub binary32 x y) ≡ true → Both x y
unfolding sub
finite_sub x y e = let k = finite_add x (neg y) e in (k.0, rw finite_neg at k.1)

pub finite_mul : (x y : Float) → finite (mul binary32 x y) ≡ true → Both x y
unfolding mul
finite_mul nan y e = absurd (false≢true e)
finite_mul (inf s) nan e = absurd (false≢true e)
finite_mul (inf s) (inf t) e = absurd (false≢true e)
finite_mul (inf s) (fin t n d) e = absurd (cond-not (eqb n 0) _ e)
finite_mul (fin s m d) nan e = absurd (false≢true e)
finite_mul (fin s m d) (inf t) e = absurd (cond-not (eqb m 0) _ e)
finite_mul (fin s m d) (fin t n c) e = (refl, refl)
