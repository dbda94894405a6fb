-- What a chain over a range gives.
use Rattle.std.specs.Prelude.{ℕ, zero, suc, ◌+◌, ◌≡◌}
use Rattle.std.specs.List.{range_with_len}
use Rattle.std.specs.declared.ops.Range.{Range}
use Rattle.std.proofs.Common.{arith, refl, subst, ap, ◌∙◌}
use Rattle.std.proofs.iter.Yields.{nat_range_steps}
use Rattle.std.proofs.lemmas.Iterator.{YieldsList, YieldsList-from_range}
use mathlib.Core.List.{List, ◌∷◌}
use Rattle.lists.specs.Lists.{tabulate, span}

-- the library's numbers in a row
numbers : (a n : ℕ) → range_with_len a n ≡ span a n
unfolding tabulate
numbers a zero = refl
numbers a (suc n) = let e : a + 1 ≡ suc a = omega arith in ap (λ (t : List ℕ). a ∷ t) (ap (λ (k : ℕ). range_with_len k n) e ∙ numbers (suc a) n)

-- a range from 0 gives the numbers below its end
pub span_given : {s : Range ℕ} (n : ℕ) → s ≡ record { start = 0; end = n } → YieldsList nat_range_steps (λ x. x) s (span 0 n)
span_given {s} n e = subst (YieldsList nat_range_steps (λ x. x) s) (numbers 0 n) (YieldsList-from_range 0 n n e (omega arith))
