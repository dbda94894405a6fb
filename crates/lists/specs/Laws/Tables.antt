-- A table's entries, tables cut in two, and a loop that stores f i at place i, in rising number: it makes `tabulate f`.
use Prim.Native.Nat.{ℕ, zero, suc, ◌+◌, ◌<◌}
use Rattle.std.specs.Prelude.{◌≡◌, length, get_or}
use Rattle.std.proofs.Math.Path.{refl, ap, ap₂}
use Rattle.std.proofs.Common.{sym, ◌∙◌, le_of_eq, not-suc-le-zero, le_of_suc-le-suc, add-zero, zero-add, drop_of_length-le, ext_get_or}
use mathlib.Core.List.{List, [], ◌∷◌, ◌++◌, append-nil, map}
use Rattle.std.proofs.Math.Numerals.{add-one}
use native.Mathlib.Omega.{arith}
use Rattle.std.proofs.lemmas.List.{length-map}
use Rattle.std.proofs.Math.ListN.{set, drop, get_or-eq_default, get_or-map}
use Rattle.lists.specs.Lists.{tabulate}

module _ {A : Type 0} (f : ℕ → A) where
  pub length-tabulate : (p n : ℕ) → length (tabulate f p n) ≡ n
  unfolding tabulate
  length-tabulate p zero = refl
  length-tabulate p (suc n) = ap suc (length-tabulate (suc p) n)

  pub get_or-tabulate : (p n i : ℕ) (z : A) → i < n → get_or (tabulate f p n) i z ≡ f (p + i)
  unfolding tabulate
  get_or-tabulate p zero i z h = absurd (not-suc-le-zero h)
  get_or-tabulate p (suc n) zero z h = ap f (sym (add-zero p))
  get_or-tabulate p (suc n) (suc i) z h = get_or-tabulate (suc p) n i z (le_of_suc-le-suc h) ∙ ap f (omega arith)

  unfoldable pub stored : List A → ℕ → List A
  stored old i = tabulate f 0 i ++ drop i old

  stored-from : (p i : ℕ) (old : List A) → i < length old → set (tabulate f p i ++ drop i old) i (f (p + i)) ≡ tabulate f p (suc i) ++ drop (suc i) old
  unfolding tabulate
  stored-from p i [] h = absurd (not-suc-le-zero h)
  stored-from p zero (x ∷ old) h = ap (λ (k : ℕ). f k ∷ old) (add-zero p)
  stored-from p (suc i) (x ∷ old) h =
      ap (λ (t : List A). f p ∷ t)
      (ap (λ (k : ℕ). set (tabulate f (suc p) i ++ drop i old) i (f k)) (omega arith) ∙ stored-from (suc p) i old (le_of_suc-le-suc h))

  pub stored_rest : (p i : ℕ) (l : List A) (z : A) → get_or (tabulate f p i ++ drop i l) i z ≡ get_or l i z
  unfolding tabulate
  stored_rest p zero l z = refl
  stored_rest p (suc i) [] z = rw append-nil (get_or-eq_default (tabulate f (suc p) i) z (le_of_eq (length-tabulate (suc p) i)))
  stored_rest p (suc i) (x ∷ l) z = stored_rest (suc p) i l z

module _ {A : Type 0} (f : ℕ → A) (old : List A) where
  pub stored_none : old ≡ stored f old 0
  unfolding stored tabulate
  stored_none = refl

  -- one turn
  pub stored_more : (i : ℕ) → i < length old → set (stored f old i) i (f i) ≡ stored f old (i + 1)
  unfolding stored
  stored_more i h = ap (λ (k : ℕ). set (stored f old i) i (f k)) (sym (zero-add i)) ∙ stored-from f 0 i old h ∙ rw add-one

  -- after the last
  pub stored_all : (n : ℕ) → length old ≡ n → stored f old n ≡ tabulate f 0 n
  unfolding stored
  stored_all n e = rw (drop_of_length-le old {i = n} (le_of_eq e)) (append-nil _)

-- a list's entries, read one after the other
pub tabulate-map : {A B : Type 0} (g : A → B) (z : A) (l : List A) → tabulate (λ i. g (get_or l i z)) 0 (length l) ≡ map g l
tabulate-map g z l =
    ext_get_or (g z) (tabulate (λ i. g (get_or l i z)) 0 (length l)) (map g l)
    (length-tabulate (λ i. g (get_or l i z)) 0 (length l) ∙ sym (length-map l g))
    (λ i h.
    get_or-tabulate (λ i. g (get_or l i z)) 0 (length l) i (g z) (rw (length-tabulate (λ i. g (get_or l i z)) 0 (length l)) at h)
    ∙ ap (λ (k : ℕ). g (get_or l k z)) (zero-add i)
    ∙ sym (get_or-map g l i z))

-- two rows with the same entries
pub tabulate_same : {A : Type 0} (f g : ℕ → A) (a b n : ℕ) → ((k : ℕ) → k < n → f (a + k) ≡ g (b + k)) → tabulate f a n ≡ tabulate g b n
unfolding tabulate
tabulate_same f g a b zero h = refl
tabulate_same f g a b (suc n) h =
    ap₂ ◌∷◌ (ap f (sym (add-zero a)) ∙ h 0 (omega arith) ∙ ap g (add-zero b))
    (tabulate_same f g (suc a) (suc b) n
    (λ k l.
    let i : suc a + k ≡ a + suc k = omega arith in
    let j : b + suc k ≡ suc b + k = omega arith in
    ap f i ∙ h (suc k) (omega arith) ∙ ap g j))

module _ {A : Type 0} (f : ℕ → A) where
  pub tabulate-add : (a n m : ℕ) → tabulate f a (n + m) ≡ tabulate f a n ++ tabulate f (a + n) m
  unfolding tabulate
  tabulate-add a zero m = ap₂ (tabulate f) (sym (add-zero a)) (zero-add m)
  tabulate-add a (suc n) m =
      let e : suc n + m ≡ suc (n + m) = omega arith in
      let i : suc a + n ≡ a + suc n = omega arith in
      ap (tabulate f a) e ∙ ap (λ (t : List A). f a ∷ t) (tabulate-add (suc a) n m ∙ ap (λ (k : ℕ). tabulate f (suc a) n ++ tabulate f k m) i)
