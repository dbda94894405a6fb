-- Places filled in turn.
use Prim.Native.Nat.{ℕ, zero, suc, ◌+◌, ◌<◌, ◌≤◌}
use mathlib.Core.Path.{◌≡◌, refl, sym, ◌∙◌, ap, ap₂}
use mathlib.Core.List.{List}
use native.Mathlib.Omega.{arith}
use Rattle.std.proofs.Common.{zero-add, add-one}
use lib.ListN.{length, set, length-set}
use Rattle.lists.specs.Lists.{tabulate, filled}
use Rattle.lists.specs.Laws.Tables.{stored, stored_none, stored_more, stored_all}

module _ {A : Type 0} (f : ℕ → A) (p : ℕ) (xs : List A) where
  pub filled_none : xs ≡ filled f p 0 xs
  unfolding filled
  filled_none = refl

  -- one place more
  pub filled_next : (i : ℕ) (x : A) (ys : List A) → ys ≡ filled f p i xs → x ≡ f (p + i) → set ys (p + i) x ≡ filled f p (i + 1) xs
  unfolding filled
  filled_next i x ys so_far e = rw add-one (ap₂ (λ (l : List A) (v : A). set l (p + i) v) so_far e)

  -- no place is left
  pub filled_ended : (i n : ℕ) (ys : List A) → i ≤ n → n ≤ i → ys ≡ filled f p i xs → ys ≡ filled f p n xs
  filled_ended i n ys l g e = let same : i ≡ n = omega arith in e ∙ ap (λ (k : ℕ). filled f p k xs) same

  -- m places more
  filled_more : (n m : ℕ) → filled f (p + n) m (filled f p n xs) ≡ filled f p (n + m) xs
  unfolding filled
  filled_more n zero = let e : n ≡ n + zero = omega arith in ap (λ (k : ℕ). filled f p k xs) e
  filled_more n (suc m) =
      let e : p + n + m ≡ p + (n + m) = omega arith in
      let k : suc (n + m) ≡ n + suc m = omega arith in
      ap₂ (λ (l : List A) (q : ℕ). set l q (f q)) (filled_more n m) e ∙ ap (λ (i : ℕ). filled f p i xs) k

  pub length-filled : (n : ℕ) → length (filled f p n xs) ≡ length xs
  unfolding filled
  length-filled zero = refl
  length-filled (suc n) = length-set (filled f p n xs) (p + n) (f (p + n)) ∙ length-filled n

  -- two functions that agree there
  pub filled_same : (g : ℕ → A) (n : ℕ) → ((i : ℕ) → i < n → f (p + i) ≡ g (p + i)) → filled f p n xs ≡ filled g p n xs
  unfolding filled
  filled_same g zero h = refl
  filled_same g (suc n) h = ap₂ (λ (l : List A) (v : A). set l (p + n) v) (filled_same g n (λ i l. h i (omega arith))) (h n (omega arith))

module _ {A : Type 0} (f : ℕ → A) (xs : List A) where
  -- some places from 0 on, and m more
  pub filled_on : (ys zs : List A) (n m k : ℕ) → ys ≡ filled f 0 n xs → zs ≡ filled f n m ys → n + m ≡ k → zs ≡ filled f 0 k xs
  filled_on ys zs n m k before more e =
      more
      ∙ ap₂ (λ (q : ℕ) (l : List A). filled f q m l) (sym (zero-add n)) before
      ∙ filled_more f 0 xs n m
      ∙ ap (λ (i : ℕ). filled f 0 i xs) e

  so_far : (n : ℕ) → n ≤ length xs → filled f 0 n xs ≡ stored f xs n
  unfolding filled
  so_far zero h = stored_none f xs
  so_far (suc n) h =
      ap₂ (λ (l : List A) (q : ℕ). set l q (f q)) (so_far n (omega arith)) (zero-add n) ∙ stored_more f xs n (omega arith) ∙ ap (stored f xs) (add-one n)

  -- all of them
  pub filled_all : (n : ℕ) → length xs ≡ n → filled f 0 n xs ≡ tabulate f 0 n
  filled_all n e = so_far n (omega arith) ∙ stored_all f xs n e
