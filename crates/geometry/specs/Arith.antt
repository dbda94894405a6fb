-- Arithmetic as the formulas of 01 need it. A formula is written once, over any `Arith`; at `floats` it is what the code computes, and at an exact ring it
-- is what the truth of the gradients is proved of. Tests and branches stay outside the formulas.
use Rattle.std.specs.Float.Ieee as Ieee
use Rattle.std.specs.Prelude.{Float}
use Rattle.std.specs.Float.{binary32}

pub record Arith (A : Type 0) : Type 0 where
  pub add : A → A → A
  pub sub : A → A → A
  pub mul : A → A → A
  pub div : A → A → A
  pub neg : A → A
  pub zero : A
  pub one : A

-- f32: each operation rounds once, to nearest even
abbrev pub floats : Arith Float
floats =
    record {
      add = Ieee.add binary32;
      sub = Ieee.sub binary32;
      mul = Ieee.mul binary32;
      div = Ieee.div binary32;
      neg = Ieee.neg;
      zero = Ieee.of_bits binary32 0;
      one = Ieee.of_bits binary32 0x3f80_0000;
    }
