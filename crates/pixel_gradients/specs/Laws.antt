-- Sums of one pixel, channel by channel.
use Rattle.std.specs.Prelude.{ℕ, ◌+◌, ◌≡◌, refl}
use Rattle.std.proofs.Common.{add-one}
use Rattle.geometry.specs.Arith.{Arith}
use Rattle.geometry.specs.Vector.{weights}
use Rattle.geometry.specs.Formula.{sum_of}
use Rattle.pixel_gradients.specs.Gather.{gathered}

-- no channel
pub gathered_none : {A : Type 0} (R : Arith A) (v d : ℕ → A) → gathered R v d 0 ≡ R.zero
unfolding gathered sum_of
gathered_none R v d = refl

-- one more
pub gathered_more : {A : Type 0} (R : Arith A) (v d : ℕ → A) (n : ℕ) → gathered R v d (n + 1) ≡ R.add (gathered R v d n) (R.mul (v n) (d n))
unfolding gathered sum_of
gathered_more R v d n = rw (add-one n)

-- the last
pub three_ended : {A : Type 0} (R : Arith A) (v0 v1 v2 d : ℕ → A) (j n : ℕ) {b0 b1 b2 : A} → j ≡ n → b0 ≡ gathered R v0 d j → b1 ≡ gathered R v1 d j → b2 ≡ gathered R v2 d j
    → weights b0 b1 b2 ≡ weights (gathered R v0 d n) (gathered R v1 d n) (gathered R v2 d n)
three_ended R v0 v1 v2 d j n same e0 e1 e2 = rw (e0, e1, e2, same)
