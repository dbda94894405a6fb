-- The entries of a list that pass a test, counted and in order; and loops of which only some turns bring something.
use Prim.Native.Nat.{ℕ, zero, suc, ◌+◌, ◌-◌, ◌≤◌}
use Rattle.std.specs.Prelude.{◌≡◌, Bool, ◌&&◌, leb, ltb, eqb}
use Rattle.std.proofs.Math.Path.{refl, sym, ap}
use Rattle.std.proofs.Common.{◌∙◌, zero-add, ltb-true, ltb-false, lt-ltb, le-ltb, le-leb, eqb-true, eq-eqb, ne_eqb}
use Rattle.std.proofs.Math.Bool.{true, false, cond}
use mathlib.Core.List.{List, [], ◌∷◌, ◌++◌, flat_map}
use native.Mathlib.Omega.{arith}
use Rattle.std.proofs.lemmas.Bool.{lt-leb}
use Rattle.std.proofs.lemmas.List.Elements.{filter-append}
use Rattle.std.proofs.Math.ListN.{length}
use Rattle.lists.specs.Lists.{tabulate, span, filter, sum_of, count}
use Rattle.lists.specs.Laws.Sums.{sum_none, sum_more, count_none, count-more, count-both, count_alike, count-from}
use Rattle.lists.specs.Laws.Turns.{turns_same, turns_amid}

-- ---- sums and counts

-- two sums in one
pub sum-plus : {A : Type 0} (f g : A → ℕ) (xs : List A) → sum_of (λ x. f x + g x) xs ≡ sum_of f xs + sum_of g xs
sum-plus f g [] = rw (sum_none (λ x. f x + g x), sum_none f, sum_none g)
sum-plus f g (x ∷ xs) = rw (sum_more (λ x. f x + g x) x xs, sum_more f x xs, sum_more g x xs) (omega (arith, sum-plus f g xs))

-- what the turns bring, counted turn by turn
pub count-flat_map : {A B : Type 0} (test : B → Bool) (f : A → List B) (xs : List A) → count test (flat_map f xs) ≡ sum_of (λ x. count test (f x)) xs
unfolding flat_map
count-flat_map test f [] = count_none test ∙ sym (sum_none (λ x. count test (f x)))
count-flat_map test f (x ∷ xs) =
    count-both test (f x) (flat_map f xs) ∙ ap (λ (k : ℕ). count test (f x) + k) (count-flat_map test f xs) ∙ sym (sum_more (λ x. count test (f x)) x xs)

-- a number below n stands once in the row of those below n, any other never
pub count_number : (p n : ℕ) → count (eqb p) (span 0 n) ≡ cond (ltb p n) 1 0
count_number p n = go (ltb p n) refl
  where
    go : (b : Bool) → ltb p n ≡ b → count (eqb p) (span 0 n) ≡ cond b 1 0
    go true e =
        let h = ltb-true p n e in
        let one : suc p - p ≡ 1 = omega arith in
        count-from (eqb p) p (suc p) n (omega arith) h
        (λ i j. ne_eqb p i (λ q. omega arith))
        (λ i j k. eq-eqb p i (omega arith))
        (λ i j k. ne_eqb p i (λ q. omega arith))
        ∙ one
    go false e = let h = ltb-false p n e in count_alike (eqb p) false 0 n (λ i j. ne_eqb p (0 + i) (λ q. omega arith))

-- ---- filters

module _ {A : Type 0} (test : A → Bool) where
  -- as many as pass
  pub length-filter : (xs : List A) → length (filter test xs) ≡ count test xs
  length-filter [] = sym (count_none test)
  length-filter (x ∷ xs) = go (test x) (length-filter xs) ∙ sym (count-more test x xs)
    where
      go : (b : Bool) → length (filter test xs) ≡ count test xs → length (cond b (x ∷ filter test xs) (filter test xs)) ≡ cond b 1 0 + count test xs
      go true e = omega arith
      go false e = omega arith

  -- what the turns bring, filtered turn by turn
  pub filter-flat_map : {B : Type 0} (f : B → List A) (xs : List B) → filter test (flat_map f xs) ≡ flat_map (λ x. filter test (f x)) xs
  unfolding flat_map
  filter-flat_map f [] = refl
  filter-flat_map f (x ∷ xs) = filter-append test (f x) (flat_map f xs) ∙ ap (λ (t : List A). filter test (f x) ++ t) (filter-flat_map f xs)

  -- a table's entries that pass, one a turn
  pub filter-tabulate : (f : ℕ → A) (a n : ℕ) → filter test (tabulate f a n) ≡ flat_map (λ i. cond (test (f i)) (f i ∷ []) []) (span a n)
  unfolding flat_map tabulate
  filter-tabulate f a zero = refl
  filter-tabulate f a (suc n) = go (test (f a)) (filter-tabulate f (suc a) n)
    where
      go : (b : Bool) {xs ys : List A} → xs ≡ ys → cond b (f a ∷ xs) xs ≡ cond b (f a ∷ []) [] ++ ys
      go true e = ap (λ (t : List A). f a ∷ t) e
      go false e = e

-- a number that passes stands in the filtered list as often as before, any other never
pub count-filter : (test : ℕ → Bool) (p : ℕ) (xs : List ℕ) → count (eqb p) (filter test xs) ≡ cond (test p) (count (eqb p) xs) 0
count-filter test p [] = rw (count_none (eqb p)) (sym (same (test p)))
  where
    same : (b : Bool) → ◌≡◌ {A = ℕ} (cond b 0 0) 0
    same true = refl
    same false = refl
count-filter test p (x ∷ xs) = go (test x) (eqb p x) refl refl (count-filter test p xs) ∙ ap (λ (k : ℕ). cond (test p) k 0) (sym (count-more (eqb p) x xs))
  where
    go : (a b : Bool) → test x ≡ a → eqb p x ≡ b → count (eqb p) (filter test xs) ≡ cond (test p) (count (eqb p) xs) 0
        → count (eqb p) (cond a (x ∷ filter test xs) (filter test xs)) ≡ cond (test p) (cond b 1 0 + count (eqb p) xs) 0
    go true true e q i = let t : test p ≡ true = ap test (eqb-true p x q) ∙ e in count-more (eqb p) x (filter test xs) ∙ rw (q, i, t)
    go true false e q i = count-more (eqb p) x (filter test xs) ∙ rw (q, zero-add (count (eqb p) (filter test xs)), zero-add (count (eqb p) xs)) i
    go false true e q i = let t : test p ≡ false = ap test (eqb-true p x q) ∙ e in i ∙ rw t
    go false false e q i = rw (zero-add (count (eqb p) xs)) i

-- ---- turns over numbers in a row

module _ {B : Type 0} where
  -- one entry in each
  pub flat_map_single : (f : ℕ → B) (a n : ℕ) → flat_map (λ i. f i ∷ []) (span a n) ≡ tabulate f a n
  unfolding flat_map tabulate
  flat_map_single f a zero = refl
  flat_map_single f a (suc n) = ap (λ (t : List B). f a ∷ t) (flat_map_single f (suc a) n)

  -- something only in those from a up to, and without, b, of n
  pub flat_map_range : (f : ℕ → List B) (a b n : ℕ) → a ≤ b → b ≤ n → flat_map (λ i. cond (leb a i && ltb i b) (f i) []) (span 0 n) ≡ flat_map f (span a (b - a))
  flat_map_range f a b n h l =
      turns_amid g n a b h l (λ i j. rw (lt-leb a i j)) (λ i j k. rw (le-leb a i (omega arith), le-ltb i b k))
      ∙ turns_same g f a a (b - a) (λ i j. rw (le-leb a (a + i) (omega arith), lt-ltb (a + i) b (omega arith)))
    where
      g : ℕ → List B
      g i = cond (leb a i && ltb i b) (f i) []
