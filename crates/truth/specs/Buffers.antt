-- What a buffer says of a movement, by place, before and after additions.
use Prim.Native.Nat.{ℕ, zero, suc, ◌+◌, ◌≤◌, ◌<◌}
use Rattle.std.specs.Prelude.{◌≡◌, length, get_or, set}
use Rattle.std.proofs.Math.Path.{refl, sym, ap}
use Rattle.std.proofs.Common.{◌∙◌, not-suc-le-zero, le_of_suc-le-suc, add-zero, zero-add, arith, length-set}
use mathlib.Core.List.{List, [], ◌∷◌, ◌++◌, flat_map, append-nil, append_assoc}
use Rattle.geometry.specs.Arith.{Arith}
use Rattle.geometry.specs.Formula.{sum_of}
use Rattle.lists.specs.Lists.{tabulate}
use Rattle.lists.specs.Lists.{span}
use Rattle.truth.specs.Laws.{Laws}
use Rattle.truth.specs.Ring.{zero-add as zero-plus}
use Rattle.truth.specs.Solve.{var, ◌:+◌, ◌:*◌, from, eval, Equal, by_ring}
use Rattle.truth.specs.Image.{Addition, added, summed}

module _ {A : Type 0} (R : Arith A) where
  open R use {add as ◌⊕◌, mul as ◌⊗◌}

  infixl 6 ◌⊕◌
  infixl 7 ◌⊗◌
  -- ⟨xs, m⟩, m by place
  unfoldable pub against : List A → (ℕ → A) → A
  against [] m = R.zero
  against (x ∷ xs) m = x ⊗ m 0 ⊕ against xs (λ k. m (suc k))

  -- the same of additions
  unfoldable pub paired : (ℕ → A) → List (Addition A) → A
  paired m [] = R.zero
  paired m (a ∷ as') = a.amount ⊗ m a.place ⊕ paired m as'

-- every addition is to a place of the buffer
unfoldable pub Within : {A : Type 0} → ℕ → List (Addition A) → Type 0
Within n [] = Unit {0}
Within n (a ∷ as') = (a.place < n) × Within n as'

pub within-append : {A : Type 0} (n : ℕ) (xs ys : List (Addition A)) → Within n xs → Within n ys → Within n (xs ++ ys)
unfolding Within
within-append n [] ys a b = b
within-append n (x ∷ xs) ys a b = (a.0, within-append n xs ys a.1 b)

pub turns_within : {A : Type 0} (n : ℕ) (f : ℕ → List (Addition A)) (a k : ℕ) → ((j : ℕ) → a ≤ j → j < a + k → Within n (f j)) → Within n (flat_map f (span a k))
unfolding Within flat_map tabulate
turns_within n f a zero h = tt
turns_within n f a (suc k) h =
    within-append n (f a) (flat_map f (span (suc a) k)) (h a (omega arith) (omega arith)) (turns_within n f (suc a) k (λ j l g. h j (omega arith) (omega arith)))

-- one turn more
turns_last : {A : Type 0} (f : ℕ → List (Addition A)) (a n : ℕ) → flat_map f (span a (suc n)) ≡ flat_map f (span a n) ++ f (a + n)
unfolding flat_map tabulate
turns_last f a zero = append-nil (f a) ∙ ap f (sym (add-zero a))
turns_last f a (suc n) =
    let e : suc a + n ≡ a + suc n = omega arith in
    ap (λ t. f a ++ t) (turns_last f (suc a) n ∙ ap (λ k. flat_map f (span (suc a) n) ++ f k) e) ∙ sym (append_assoc (f a) (flat_map f (span (suc a) n)) (f (a + suc n)))

module _ {A : Type 0} (R : Arith A) (L : Laws R) where
  open R use {add as ◌⊕◌, mul as ◌⊗◌}

  infixl 6 ◌⊕◌
  infixl 7 ◌⊗◌
  paired-append : (m : ℕ → A) (xs ys : List (Addition A)) → paired R m (xs ++ ys) ≡ paired R m xs ⊕ paired R m ys
  unfolding paired
  paired-append m [] ys = sym (zero-plus R L _)
  paired-append m (x ∷ xs) ys = ap (λ t. x.amount ⊗ m x.place ⊕ t) (paired-append m xs ys) ∙ sym (L.add_assoc _ _ _)

  module _ (past : A) where
    against-set : (xs : List A) (i : ℕ) (a : A) (m : ℕ → A) → i < length xs → against R (set xs i (get_or xs i past ⊕ a)) m ≡ against R xs m ⊕ a ⊗ m i
    unfolding Equal eval against
    against-set [] i a m h = absurd (not-suc-le-zero h)
    against-set (x ∷ xs) zero a m h =
        by_ring R L (from R (x ∷ a ∷ m 0 ∷ against R xs (λ k. m (suc k)) ∷ [])) ((var 0 :+ var 1) :* var 2 :+ var 3) (var 0 :* var 2 :+ var 3 :+ var 1 :* var 2) refl
    against-set (x ∷ xs) (suc i) a m h =
        ap (λ t. x ⊗ m 0 ⊕ t) (against-set xs i a (λ k. m (suc k)) (le_of_suc-le-suc h)) ∙ sym (L.add_assoc _ _ _)

    pub against-summed : (xs : List A) (as' : List (Addition A)) (m : ℕ → A) → Within (length xs) as' → against R (summed R past xs as') m ≡ against R xs m ⊕ paired R m as'
    unfolding summed added paired Within
    against-summed xs [] m h = sym (L.add-zero _)
    against-summed xs (a ∷ as') m h =
        against-summed (added R past xs a) as' m (rw (length-set xs a.place (get_or xs a.place past ⊕ a.amount)) h.1)
        ∙ ap (λ t. t ⊕ paired R m as') (against-set xs a.place a.amount m h.0)
        ∙ L.add_assoc _ _ _

  -- additions in turn
  pub paired_turns : (m : ℕ → A) (f : ℕ → List (Addition A)) (n : ℕ) → paired R m (flat_map f (span 0 n)) ≡ sum_of R (λ k. paired R m (f k)) n
  unfolding paired flat_map tabulate sum_of
  paired_turns m f zero = refl
  paired_turns m f (suc n) =
      ap (paired R m) (turns_last f 0 n ∙ ap (λ k. flat_map f (span 0 n) ++ f k) (zero-add n))
      ∙ paired-append m (flat_map f (span 0 n)) (f n)
      ∙ ap (λ t. t ⊕ paired R m (f n)) (paired_turns m f n)
