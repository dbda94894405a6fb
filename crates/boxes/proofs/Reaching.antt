-- The first column or row that has reached an end, and the range between two ends.
use Prim.Native.Nat.{ℕ, ◌+◌, ◌-◌, ◌≤◌, ◌<◌}
use mathlib.Core.Path.{◌≡◌, refl, sym, ap, ◌∙◌}
use mathlib.Core.Bool.{Bool, true, false, not, ◌&&◌, false≢true}
use mathlib.Core.Logic.{◌⊎◌, inl, inr}
use native.Mathlib.Omega.{arith}
use borrow.Author.Tests.{lt-ltb, le-ltb, le-leb, lt-leb, not-true, not-false}
use lib.Dec.{leb, ltb}
use lib.Ieee.{Float, le}
use Rattle.lists.specs.Laws.Tests.{below_or}
use Rattle.pixels.specs.Pixel.{centre}
use Rattle.rules.specs.Scan.{between}
use Rattle.rules.proofs.Laws.Centre.{low_centre, high_centre}
use Rattle.boxes.specs.declared.reach.End.{End}
use Rattle.boxes.specs.declared.reach.End.TheVariants.{Lower, Upper}
use Rattle.boxes.specs.Reach.{reached, Settled, FirstReached}
use Rattle.boxes.specs.Box.{in_range}

-- ---- what has been reached stays so

reached_on : (end : End) (i j : ℕ) → i ≤ j → j < 4096 → reached end i ≡ true → reached end j ≡ true
unfolding reached
reached_on (Lower x) i j h l e = low_centre x i j h l e
reached_on (Upper x) i j h l e = go (le (centre j) x) refl
  where
    go : (b : Bool) → le (centre j) x ≡ b → not (le (centre j) x) ≡ true
    go false d = rw d
    go true d = absurd (false≢true (rw (high_centre x i j h l d) at e))

pub unreached_back : (end : End) (i j : ℕ) → i ≤ j → j < 4096 → reached end j ≡ false → reached end i ≡ false
unreached_back end i j h l e = go (reached end i) refl
  where
    go : (b : Bool) → reached end i ≡ b → reached end i ≡ false
    go false d = d
    go true d = absurd (false≢true (sym e ∙ reached_on end i j h l d))

-- none before the one after i, which has not reached the end
pub settled_next : (end : End) (n i : ℕ) → i < n → n ≤ 4096 → reached end i ≡ false → Settled end n (i + 1)
settled_next end n i h l e = record { within = omega arith; before = λ j k. unreached_back end j i (omega arith) (omega arith) e }

-- none before r, where the one before r has not reached the end
pub settled_at : (end : End) (n r : ℕ) → r ≤ n → n ≤ 4096 → 0 < r → reached end (r - 1) ≡ false → Settled end n r
settled_at end n r h l p e =
    record { within = h; before = λ i k. unreached_back end i (r - 1) (omega arith) (omega arith) e }

pub settled_none : (end : End) (n : ℕ) → Settled end n 0
settled_none end n = record { within = omega arith; before = λ i k. absurd (omega arith) }

-- none before r, and r has reached the end
pub first_at : (end : End) (n r : ℕ) → n ≤ 4096 → Settled end n r → reached end r ≡ true → FirstReached end n r
first_at end n r l s e =
    record { within = s.within; before = s.before; after = λ i h k. reached_on end r i h (omega arith) e }

-- one more has not reached the end
pub settled_more : (end : End) (n r : ℕ) → r < n → n ≤ 4096 → Settled end n r → reached end r ≡ false → Settled end n (r + 1)
settled_more end n r h l s e = settled_next end n r h l e

-- ---- the range between two ends

pub range_none : (a b i : ℕ) → b ≤ a → in_range a b i ≡ false
unfolding in_range
range_none a b i h = go (below_or i a)
  where
    go : (i < a) ⊎ (a ≤ i) → leb a i && ltb i b ≡ false
    go (inl k) = rw (lt-leb a i k)
    go (inr k) = rw (le-leb a i k, le-ltb i b (omega arith))

module _ (low high : Float) (n a b : ℕ) (first : FirstReached (Lower low) n a) (past : FirstReached (Upper high) n b) where
  early : (i : ℕ) → i < a → between low high (centre i) ≡ in_range a b i
  unfolding between in_range reached
  early i h = rw (first.before i h, lt-leb a i h)

  late : (i : ℕ) → a ≤ i → b ≤ i → i < n → between low high (centre i) ≡ in_range a b i
  unfolding between in_range reached
  late i h k l = rw (first.after i h l, not-true (le (centre i) high) (past.after i k l), le-leb a i h, le-ltb i b k)

  amid : (i : ℕ) → a ≤ i → i < b → i < n → between low high (centre i) ≡ in_range a b i
  unfolding between in_range reached
  amid i h k l = rw (first.after i h l, not-false (le (centre i) high) (past.before i k), le-leb a i h, lt-ltb i b k)

  -- the centres between the ends are those of a range
  pub range_is : (i : ℕ) → i < n → between low high (centre i) ≡ in_range a b i
  range_is i l = go (below_or i a) (below_or i b)
    where
      go : (i < a) ⊎ (a ≤ i) → (i < b) ⊎ (b ≤ i) → between low high (centre i) ≡ in_range a b i
      go (inl h) k = early i h
      go (inr h) (inl k) = amid i h k l
      go (inr h) (inr k) = late i h k l

-- ---- an interval that no centre of the image lies in

pub misses_low : (low high : Float) (n : ℕ) → 1 ≤ n → n ≤ 4096 → le low (centre (n - 1)) ≡ false → (i : ℕ) → i < n → between low high (centre i) ≡ false
unfolding between reached
misses_low low high n h l e i k = rw (unreached_back (Lower low) i (n - 1) (omega arith) (omega arith) e)

pub misses_high : (low high : Float) (n : ℕ) → n ≤ 4096 → le (centre 0) high ≡ false → (i : ℕ) → i < n → between low high (centre i) ≡ false
unfolding between reached
misses_high low high n l e i k =
    rw (not-true (le (centre i) high) (reached_on (Upper high) 0 i (omega arith) (omega arith) (ap not e))) (go (le low (centre i)))
  where
    go : (t : Bool) → t && false ≡ false
    go true = refl
    go false = refl

-- ---- as the code finds it

-- r, of at most n, has reached the end and none before it
pub first_here : (end : End) (m n r : ℕ) → n ≤ 4096 → r ≤ n → Settled end m r → reached end r ≡ true → FirstReached end n r
first_here end m n r l h s e = first_at end n r l (record { within = h; before = s.before }) e

-- all n are before r
pub first_end : (end : End) (m n r : ℕ) → r ≤ n → n ≤ r → Settled end m r → FirstReached end n r
first_end end m n r h k s = record { within = h; before = s.before; after = λ i a b. absurd (omega arith) }

pub first_last : (end : End) (n r : ℕ) → n ≤ r → Settled end n r → FirstReached end n n
first_last end n r h s =
    record { within = omega arith; before = λ i k. s.before i (omega arith); after = λ i a b. absurd (omega arith) }

pub settled_most : (end : End) (m n r : ℕ) → m ≤ n → Settled end m r → Settled end n r
settled_most end m n r h s = record { within = omega (arith, s.within); before = s.before }
