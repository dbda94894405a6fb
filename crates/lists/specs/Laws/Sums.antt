-- Sums over a list, and how many of its entries pass a test.
use Prim.Native.Nat.{ℕ, zero, suc, ◌+◌, ◌-◌, ◌*◌, ◌≤◌, ◌<◌}
use Rattle.std.specs.Prelude.{◌≡◌, Bool, true, false, ◌||◌, length}
use Rattle.std.proofs.Math.Path.{refl, ap}
use Rattle.std.proofs.Common.{sym, ap₂, ◌∙◌, add-zero, arith}
use Rattle.std.proofs.Math.Bool.{cond}
use Rattle.std.proofs.lemmas.Bool.{false≢true}
use mathlib.Core.List.{List, [], ◌∷◌, ◌++◌, map, map-append, sum, sum-append}
use Rattle.std.proofs.Math.Nat.{zero-add, add_assoc}
use Rattle.lists.specs.Lists.{tabulate, span, sum_of, count}
use Rattle.lists.specs.Laws.Tables.{tabulate-add}

module _ {A : Type 0} (f : A → ℕ) where
  pub sum_none : sum_of f [] ≡ 0
  unfolding sum_of sum
  sum_none = refl

  pub sum_more : (x : A) (xs : List A) → sum_of f (x ∷ xs) ≡ f x + sum_of f xs
  unfolding sum_of sum
  sum_more x xs = refl

  -- one list after the other
  pub sum_both : (xs ys : List A) → sum_of f (xs ++ ys) ≡ sum_of f xs + sum_of f ys
  unfolding sum_of
  sum_both xs ys = ap (sum ◌+◌ 0) (map-append f xs ys) ∙ sum-append ◌+◌ 0 zero-add add_assoc (map f xs) (map f ys)

  -- none is above a bound
  pub sum_most : (most : ℕ) → ((x : A) → f x ≤ most) → (xs : List A) → sum_of f xs ≤ length xs * most
  sum_most most h [] = rw sum_none (omega arith)
  sum_most most h (x ∷ xs) = rw (sum_more x xs) (omega (arith, h x, sum_most most h xs))

-- ---- counts

module _ {A : Type 0} (test : A → Bool) where
  pub count_none : count test [] ≡ 0
  unfolding count
  count_none = sum_none (λ x. cond (test x) 1 0)

  pub count-more : (x : A) (xs : List A) → count test (x ∷ xs) ≡ cond (test x) 1 0 + count test xs
  unfolding count
  count-more = sum_more (λ x. cond (test x) 1 0)

  pub count-both : (xs ys : List A) → count test (xs ++ ys) ≡ count test xs + count test ys
  unfolding count
  count-both = sum_both (λ x. cond (test x) 1 0)

  -- at most all
  pub count_most : (xs : List A) → count test xs ≤ length xs
  count_most [] = rw count_none (omega arith)
  count_most (x ∷ xs) = rw (count-more x xs) (go (test x) (count_most xs))
    where
      go : (b : Bool) → count test xs ≤ length xs → cond b 1 0 + count test xs ≤ suc (length xs)
      go true h = omega arith
      go false h = omega arith

-- what passes the one test passes one of the others
pub count_either : {A : Type 0} (f g h : A → Bool) → ((x : A) → f x ≡ true → g x || h x ≡ true) → (xs : List A) → count f xs ≤ count g xs + count h xs
count_either f g h e [] = rw (count_none f) (omega arith)
count_either f g h e (x ∷ xs) = rw (count-more f x xs, count-more g x xs, count-more h x xs) (go (f x) (g x) (h x) (e x) (count_either f g h e xs))
  where
    go : (a b c : Bool) → (a ≡ true → b || c ≡ true) → count f xs ≤ count g xs + count h xs → cond a 1 0 + count f xs ≤ cond b 1 0 + count g xs + (cond c 1 0 + count h xs)
    go false b c i l = omega arith
    go true true c i l = omega arith
    go true false true i l = omega arith
    go true false false i l = absurd (false≢true (i refl))

-- ---- counts of numbers in a row

-- two tests that agree, from a on and from b on
pub count_same : (f g : ℕ → Bool) (a b n : ℕ) → ((i : ℕ) → i < n → f (a + i) ≡ g (b + i)) → count f (span a n) ≡ count g (span b n)
unfolding tabulate
count_same f g a b zero e = count_none f ∙ sym (count_none g)
count_same f g a b (suc n) e =
    count-more f a (span (suc a) n)
    ∙ ap₂ (λ (t : Bool) (k : ℕ). cond t 1 0 + k) (ap f (sym (add-zero a)) ∙ e 0 (omega arith) ∙ ap g (add-zero b))
    (count_same f g (suc a) (suc b) n
    (λ i h.
    let k : suc a + i ≡ a + suc i = omega arith in
    let l : b + suc i ≡ suc b + i = omega arith in
    ap f k ∙ e (suc i) (omega arith) ∙ ap g l))
    ∙ sym (count-more g b (span (suc b) n))

pub count_add : (f : ℕ → Bool) (a n m : ℕ) → count f (span a (n + m)) ≡ count f (span a n) + count f (span (a + n) m)
count_add f a n m = ap (count f) (tabulate-add (λ i. i) a n m) ∙ count-both f (span a n) (span (a + n) m)

-- as a loop counts: one number more
pub count_next : (f : ℕ → Bool) (i : ℕ) → count f (span 0 (i + 1)) ≡ count f (span 0 i) + cond (f i) 1 0
unfolding tabulate
count_next f i = count_add f 0 i 1 ∙ ap (λ (k : ℕ). count f (span 0 i) + k) (rw zero-add (count-more f i [] ∙ rw (count_none f) (add-zero (cond (f i) 1 0))))

-- all pass, or none does
pub count_alike : (f : ℕ → Bool) (b : Bool) (a n : ℕ) → ((i : ℕ) → i < n → f (a + i) ≡ b) → count f (span a n) ≡ cond b n 0
unfolding tabulate
count_alike f true a zero e = count_none f
count_alike f false a zero e = count_none f
count_alike f b a (suc n) e =
    count-more f a (span (suc a) n)
    ∙ ap₂ (λ (t : Bool) (k : ℕ). cond t 1 0 + k) (ap f (sym (add-zero a)) ∙ e 0 (omega arith))
    (count_alike f b (suc a) n (λ i h. let k : suc a + i ≡ a + suc i = omega arith in ap f k ∙ e (suc i) (omega arith)))
    ∙ one_more b
  where
    one_more : (b : Bool) → cond b 1 0 + cond b n 0 ≡ cond b (suc n) 0
    one_more true = omega arith
    one_more false = omega arith

-- those from a up to, and without, b, of n
pub count-from : (f : ℕ → Bool) (a b n : ℕ) → a ≤ b → b ≤ n → ((i : ℕ) → i < a → f i ≡ false) → ((i : ℕ) → a ≤ i → i < b → f i ≡ true) → ((i : ℕ) → b ≤ i → i < n → f i ≡ false)
    → count f (span 0 n) ≡ b - a
count-from f a b n h l before among after =
    ap (λ (k : ℕ). count f (span 0 k)) parts
    ∙ count_add f 0 a (b - a + (n - b))
    ∙ ap₂ ◌+◌ (count_alike f false 0 a (λ i k. before (0 + i) (omega arith))) (count_add f (0 + a) (b - a) (n - b)
    ∙ ap₂ ◌+◌ (count_alike f true (0 + a) (b - a) (λ i k. among (0 + a + i) (omega arith) (omega arith))) (count_alike f false (0 + a + (b - a)) (n - b) (λ i k. after (0 + a + (b - a) + i) (omega arith) (omega arith))))
    ∙ sum
  where
    parts : n ≡ a + (b - a + (n - b))
    parts = omega arith

    sum : 0 + (b - a + 0) ≡ b - a
    sum = omega arith
