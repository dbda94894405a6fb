-- What the steps of the root ask and promise. A positive value is q * 2 ^ k of its format's smallest values (`units f false q k`). Definitions only.
use Rattle.std.specs.Prelude.{◌≡◌, ℕ, ◌+◌, ◌-◌, ◌*◌, ◌/◌, ◌^◌, ◌≤◌, ◌<◌}
use Rattle.std.specs.Float.{Format}
use Rattle.std.specs.Float.Ieee.{prec, emax, low, hid, ones, of_bits, to_bits}
use Rattle.roots.specs.Root.{root, root_units}

-- q has the format's digits, or fewer where k is 0. A carry may have made it 2 ^ prec.
pub record Packable (f : Format) (q k : ℕ) : Type 0 where
  pub small : q ≤ 2 ^ prec f
  pub full : 0 < k → 2 ^ (prec f - 1) ≤ q

-- ---- the root: p is the number of a significand's digits, and the smallest value is 2 ^ -l

-- the pattern b of a number above 0
pub record Positive (b p l : ℕ) : Type 0 where
  pub some : 0 < b
  pub field : b / 2 ^ (p - 1) < 2048
  pub digits : p < 54
  pub hidden : 0 < p
  pub least : l < 2048
  pub apart : 2 * p < l

-- r is the pattern of its root, at the format of p and l
abbrev pub RootOfPattern : (b p l r : ℕ) → Type 0
RootOfPattern b p l r = (f : Format) → p ≡ prec f → l ≡ low f → b < ones f * hid f → r ≡ to_bits f (root f (of_bits f b))

-- q units times 2 ^ k, above 0
pub record Rootable (q k p l : ℕ) : Type 0 where
  pub some : 0 < q
  pub small : q < 2 ^ p
  pub exponent : k < 2048
  pub digits : p < 54
  pub least : l < 2048
  pub apart : 2 * p < l

abbrev pub RootOfUnits : (q k p l r : ℕ) → Type 0
RootOfUnits q k p l r = (f : Format) → p ≡ prec f → l ≡ low f → k < 2 * emax f → r ≡ to_bits f (root_units f (q * 2 ^ k))

-- With e the exponent k - l - z, whatever its sign: odd is 1 where e is odd, and dropped is (e + odd) / 2 + l + 32 - p.
pub record Halved (k z p l odd dropped : ℕ) : Type 0 where
  pub bit : odd < 2
  pub half : 2 * dropped + 2 * p + l + z ≡ k + odd + 2 * l + 64
