-- What the turns of a loop bring, one list after the other.
use Rattle.std.specs.Prelude.{ℕ, zero, suc, ◌+◌, ◌-◌, ◌*◌, ◌≤◌, ◌<◌, ◌≡◌, ◌⊎◌}
use Rattle.std.proofs.Math.Path.{refl, sym, ap, ap₂}
use Rattle.std.proofs.Common.{◌∙◌, add-zero, zero-add, zero-mul, arith, inl, inr}
use mathlib.Core.List.{List, [], ◌∷◌, ◌++◌, flat_map, append_assoc, append-nil}
use Rattle.lists.specs.Lists.{tabulate, span}
use Rattle.lists.specs.Laws.Tests.{below_or}
use Rattle.lists.specs.Laws.Tables.{tabulate-add}

module _ {A B : Type 0} (f : A → List B) where
  pub flat_map-append : (xs ys : List A) → flat_map f (xs ++ ys) ≡ flat_map f xs ++ flat_map f ys
  unfolding flat_map
  flat_map-append [] ys = refl
  flat_map-append (x ∷ xs) ys = ap (λ (t : List B). f x ++ t) (flat_map-append xs ys) ∙ sym (append_assoc (f x) (flat_map f xs) (flat_map f ys))

  -- f of all that g's turns bring is, turn by turn, f of what g brings
  pub flat_map-flat : (g : ℕ → List A) (xs : List ℕ) → flat_map f (flat_map g xs) ≡ flat_map (λ i. flat_map f (g i)) xs
  unfolding flat_map
  flat_map-flat g [] = refl
  flat_map-flat g (x ∷ xs) = flat_map-append (g x) (flat_map g xs) ∙ ap (λ (t : List B). flat_map f (g x) ++ t) (flat_map-flat g xs)

module _ {B : Type 0} (f : ℕ → List B) where
  pub flat_map_none : (a : ℕ) → flat_map f (span a 0) ≡ []
  unfolding flat_map tabulate
  flat_map_none a = refl

  pub flat_map-one : (p : ℕ) → flat_map f (span p 1) ≡ f p
  unfolding flat_map tabulate
  flat_map-one p = append-nil (f p)

  -- n turns from a on, and m more
  pub flat_map-add : (a n m : ℕ) → flat_map f (span a (n + m)) ≡ flat_map f (span a n) ++ flat_map f (span (a + n) m)
  flat_map-add a n m = ap (flat_map f) (tabulate-add (λ i. i) a n m) ∙ flat_map-append f (span a n) (span (a + n) m)

-- turns that bring the same, from a on and from b on
pub turns_same : {B : Type 0} (f g : ℕ → List B) (a b n : ℕ) → ((i : ℕ) → i < n → f (a + i) ≡ g (b + i)) → flat_map f (span a n) ≡ flat_map g (span b n)
unfolding flat_map tabulate
turns_same f g a b zero e = refl
turns_same f g a b (suc n) e =
    ap₂ ◌++◌ (ap f (sym (add-zero a)) ∙ e 0 (omega arith) ∙ ap g (add-zero b))
    (turns_same f g (suc a) (suc b) n
    (λ i h.
    let k : suc a + i ≡ a + suc i = omega arith in
    let l : b + suc i ≡ suc b + i = omega arith in
    ap f k ∙ e (suc i) (omega arith) ∙ ap g l))

module _ {B : Type 0} (f : ℕ → List B) where
  -- turns that bring nothing
  pub turns_nothing : (a n : ℕ) → ((i : ℕ) → i < n → f (a + i) ≡ []) → flat_map f (span a n) ≡ []
  unfolding flat_map tabulate
  turns_nothing a zero e = refl
  turns_nothing a (suc n) e =
      ap₂ ◌++◌ (ap f (sym (add-zero a)) ∙ e 0 (omega arith))
      (turns_nothing (suc a) n (λ i h. let k : suc a + i ≡ a + suc i = omega arith in ap f k ∙ e (suc i) (omega arith)))

  -- those from a up to, and without, b, of n, where the others bring nothing
  pub turns_amid : (n a b : ℕ) → a ≤ b → b ≤ n → ((i : ℕ) → i < a → f i ≡ []) → ((i : ℕ) → i < n → b ≤ i → f i ≡ []) → flat_map f (span 0 n) ≡ flat_map f (span a (b - a))
  turns_amid n a b h k early late =
      let e : n ≡ a + ((b - a) + (n - b)) = omega arith in
      let m : 0 + a + (b - a) ≡ b = omega arith in
      ap (λ (i : ℕ). flat_map f (span 0 i)) e
      ∙ flat_map-add f 0 a ((b - a) + (n - b))
      ∙ ap₂ ◌++◌ (turns_nothing 0 a (λ i l. early (0 + i) (omega arith))) (flat_map-add f (0 + a) (b - a) (n - b))
      ∙ ap (λ (t : List B). flat_map f (span (0 + a) (b - a)) ++ t) (turns_nothing (0 + a + (b - a)) (n - b) (λ i l. late (0 + a + (b - a) + i) (omega arith) (omega arith)))
      ∙ append-nil (flat_map f (span (0 + a) (b - a)))
      ∙ ap (λ (i : ℕ). flat_map f (span i (b - a))) (zero-add a)

  -- the same where b may come before a, and no turn brings anything then
  pub turns_narrowed : (n a b : ℕ) → b ≤ n → ((i : ℕ) → i < n → i < a → f i ≡ []) → ((i : ℕ) → i < n → b ≤ i → f i ≡ []) → flat_map f (span 0 n) ≡ flat_map f (span a (b - a))
  turns_narrowed n a b h early late = go (below_or a b)
    where
      none : b ≤ a → (i : ℕ) → i < n → f i ≡ []
      none k i l = pick (below_or i a)
        where
          pick : (i < a) ⊎ (a ≤ i) → f i ≡ []
          pick (inl m) = early i l m
          pick (inr m) = late i l (omega arith)

      out : b ≤ a → flat_map f (span 0 n) ≡ flat_map f (span a (b - a))
      out k =
          let e : 0 ≡ b - a = omega arith in
          turns_nothing 0 n (λ i l. none k (0 + i) (omega arith)) ∙ sym (flat_map_none f a) ∙ ap (λ (m : ℕ). flat_map f (span a m)) e

      go : (a < b) ⊎ (b ≤ a) → flat_map f (span 0 n) ≡ flat_map f (span a (b - a))
      go (inl k) = turns_amid n a b (omega arith) h (λ i l. early i (omega arith) l) late
      go (inr k) = out k

  -- row by row of n, where row y brings what g says of it
  pub turns_by_rows : (g : ℕ → List B) (n m : ℕ) → ((y : ℕ) → flat_map f (span (y * n) n) ≡ g y) → flat_map f (span 0 (m * n)) ≡ flat_map g (span 0 m)
  unfolding flat_map tabulate
  turns_by_rows g n zero e = ap (λ (k : ℕ). flat_map f (span 0 k)) (zero-mul n)
  turns_by_rows g n (suc m) e =
      let k : suc m * n ≡ m * n + n = omega arith in
      let l : suc m ≡ m + 1 = omega arith in
      ap (λ (i : ℕ). flat_map f (span 0 i)) k
      ∙ flat_map-add f 0 (m * n) n
      ∙ ap₂ ◌++◌ (turns_by_rows g n m e)
      (ap (λ (i : ℕ). flat_map f (span i n)) (zero-add (m * n)) ∙ e m ∙ sym (flat_map-one g m) ∙ ap (λ (i : ℕ). flat_map g (span i 1)) (sym (zero-add m)))
      ∙ sym (flat_map-add g 0 m 1)
      ∙ ap (λ (i : ℕ). flat_map g (span 0 i)) (sym l)
