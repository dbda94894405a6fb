-- What the turns of a loop do to a value, one step for each item that they bring.
use Rattle.std.specs.Prelude.{ℕ, ◌+◌, ◌-◌, ◌≤◌, ◌<◌, ◌≡◌, length}
use Rattle.std.proofs.Math.Path.{refl, sym, ap}
use Rattle.std.proofs.Common.{◌∙◌, arith}
use Rattle.std.specs.List.{fold}
use Rattle.std.proofs.lemmas.List.Sums.{fold-append}
use mathlib.Core.List.{List, [], ◌∷◌, ◌++◌, flat_map}
use Rattle.lists.specs.Lists.{span}
use Rattle.lists.specs.Laws.Turns.{flat_map_none, flat_map-one, flat_map-add, turns_narrowed}

module _ {S A : Type 0} (step : S → A → S) where
  -- one list of items after the other
  pub folded_then : (s : S) {s1 s2 : S} (x y : List A) → s1 ≡ fold step s x → s2 ≡ fold step s1 y → s2 ≡ fold step s (x ++ y)
  folded_then s {s1} {s2} x y p q = q ∙ ap (λ (t : S). fold step t y) p ∙ sym (fold-append step s x y)

  module _ (f : ℕ → List A) (s : S) where
    pub folds_none : (a : ℕ) → s ≡ fold step s (flat_map f (span a 0))
    folds_none a = rw (flat_map_none f a)

    -- n turns from a on, and m more
    pub folds_add : (a n m : ℕ) → fold step s (flat_map f (span a (n + m))) ≡ fold step (fold step s (flat_map f (span a n))) (flat_map f (span (a + n) m))
    folds_add a n m = ap (fold step s) (flat_map-add f a n m) ∙ fold-append step s (flat_map f (span a n)) (flat_map f (span (a + n) m))

    pub folds_one : (p : ℕ) → fold step s (flat_map f (span p 1)) ≡ fold step s (f p)
    folds_one p = ap (fold step s) (flat_map-one f p)

  -- a loop from a on: before its first turn, and after turn x
  pub folds_first : (f : ℕ → List A) (s : S) (a : ℕ) → s ≡ fold step s (flat_map f (span a (a - a)))
  folds_first f s a = let e : 0 ≡ a - a = omega arith in folds_none f s a ∙ ap (λ (n : ℕ). fold step s (flat_map f (span a n))) e

  pub folds_next : (f : ℕ → List A) (s : S) (a x : ℕ) {cur new : S} → a ≤ x → cur ≡ fold step s (flat_map f (span a (x - a))) → new ≡ fold step cur (f x)
      → new ≡ fold step s (flat_map f (span a (x + 1 - a)))
  folds_next f s a x {cur} h e next =
      let k : a + (x - a) ≡ x = omega arith in
      let l : x - a + 1 ≡ x + 1 - a = omega arith in
      next
      ∙ ap (λ (t : S). fold step t (f x)) e
      ∙ sym (folds_add f s a (x - a) 1 ∙ folds_one f (fold step s (flat_map f (span a (x - a)))) (a + (x - a)) ∙ ap (λ (i : ℕ). fold step (fold step s (flat_map f (span a (x - a)))) (f i)) k)
      ∙ ap (λ (i : ℕ). fold step s (flat_map f (span a i))) l

  -- turn j of a loop from 0 on
  pub folds_more : (f : ℕ → List A) (s : S) (j : ℕ) {cur new : S} → cur ≡ fold step s (flat_map f (span 0 j)) → new ≡ fold step cur (f j)
      → new ≡ fold step s (flat_map f (span 0 (j + 1)))
  folds_more f s j {cur} e next =
      let k : j ≡ j - 0 = omega arith in
      let l : j + 1 - 0 ≡ j + 1 = omega arith in
      folds_next f s 0 j (omega arith) (e ∙ ap (λ (i : ℕ). fold step s (flat_map f (span 0 i))) k) next ∙ ap (λ (i : ℕ). fold step s (flat_map f (span 0 i))) l

  pub folds_ended : (f : ℕ → List A) (s : S) (j n : ℕ) {cur : S} → j ≤ n → n ≤ j → cur ≡ fold step s (flat_map f (span 0 j))
      → cur ≡ fold step s (flat_map f (span 0 n))
  folds_ended f s j n l g e = let same : j ≡ n = omega arith in e ∙ ap (λ (k : ℕ). fold step s (flat_map f (span 0 k))) same

  -- the end of a loop from a on, where the turns of n out of its range bring nothing
  pub folds_narrowed : (f : ℕ → List A) (s : S) (n a b x : ℕ) {cur : S} → b ≤ n → ((i : ℕ) → i < n → i < a → f i ≡ []) → ((i : ℕ) → i < n → b ≤ i → f i ≡ []) → x - a ≡ b - a
      → cur ≡ fold step s (flat_map f (span a (x - a))) → cur ≡ fold step s (flat_map f (span 0 n))
  folds_narrowed f s n a b x h early late k e =
      e ∙ ap (λ (i : ℕ). fold step s (flat_map f (span a i))) k ∙ sym (ap (fold step s) (turns_narrowed f n a b h early late))

-- steps that keep a list's length
pub fold-long : {A B : Type 0} (step : List B → A → List B) → ((s : List B) (x : A) → length (step s x) ≡ length s) → (s : List B) (xs : List A) → length (fold step s xs) ≡ length s
fold-long step keeps s [] = refl
fold-long step keeps s (x ∷ xs) = fold-long step keeps (step s x) xs ∙ keeps s x
