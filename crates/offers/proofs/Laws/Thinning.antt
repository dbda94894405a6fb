-- Where a kept face stands in the thinned list: at the count of kept faces before it, a number that no other kept face has.
use Prim.Native.Nat.{ℕ, zero, suc, ◌+◌, ◌-◌, ◌<◌, ◌≤◌}
use Rattle.std.specs.Prelude.{◌≡◌, ◌⊎◌, Bool, not, ltb, get_or, take, drop}
use Rattle.std.proofs.Math.Path.{refl, ap}
use Rattle.std.proofs.Common.{sym, ◌∙◌, inl, inr, not-suc-le-zero, le_of_suc-le-suc, add-suc, ne_eqb, eq-eqb, ltb→lt, nltb→le, take-append-drop, length-take-le}
use Rattle.std.proofs.Math.Bool.{true, false, cond}
use mathlib.Core.List.{List, [], ◌∷◌, ◌++◌}
use Rattle.std.proofs.Math.Nat.{add-zero, zero-add}
use native.Mathlib.Omega.{arith}
use Rattle.std.proofs.Math.Dec.{T}
use Rattle.std.proofs.Math.ListN.{length}
use Rattle.offers.specs.Thinning.{kept_from, kept_before, renumber}
use Rattle.offers.proofs.Laws.Order.{test}

module _ (empty : ℕ) (keep : ℕ → Bool) where
  pub renumber-empty : renumber empty keep empty ≡ empty
  unfolding renumber
  renumber-empty = rw (eq-eqb empty empty refl)

  pub renumber-face : (k : ℕ) → (k ≡ empty → ⊥) → renumber empty keep k ≡ kept_before keep k
  unfolding renumber
  renumber-face k h = rw (ne_eqb k empty h)

module _ (keep : ℕ → Bool) where
  -- ---- counting kept faces

  before-suc : (k : ℕ) → T (keep k) → kept_before keep (suc k) ≡ suc (kept_before keep k)
  unfolding kept_before
  before-suc k h = go (keep k) h
    where
      go : (b : Bool) → T b → cond b (suc (kept_before keep k)) (kept_before keep k) ≡ suc (kept_before keep k)
      go true h = refl
      go false h = absurd h

  before_same : (k : ℕ) → T (not (keep k)) → kept_before keep (suc k) ≡ kept_before keep k
  unfolding kept_before
  before_same k h = go (keep k) h
    where
      go : (b : Bool) → T (not b) → cond b (suc (kept_before keep k)) (kept_before keep k) ≡ kept_before keep k
      go true h = absurd h
      go false h = refl

  before_step : (k : ℕ) → kept_before keep k ≤ kept_before keep (suc k)
  before_step k = go (test (keep k))
    where
      go : T (keep k) ⊎ T (not (keep k)) → kept_before keep k ≤ kept_before keep (suc k)
      go (inl h) = omega (arith, before-suc k h)
      go (inr h) = omega (arith, before_same k h)

  -- there are no more of them than faces
  pub before_most : (k : ℕ) → kept_before keep k ≤ k
  unfolding kept_before
  before_most zero = omega arith
  before_most (suc k) = go (test (keep k)) (before_most k)
    where
      go : T (keep k) ⊎ T (not (keep k)) → kept_before keep k ≤ k → kept_before keep (suc k) ≤ suc k
      go (inl h) l = omega (arith, before-suc k h)
      go (inr h) l = omega (arith, before_same k h)

  before_mono : (k i : ℕ) → kept_before keep k ≤ kept_before keep (k + i)
  before_mono k zero = rw add-zero (omega arith)
  before_mono k (suc i) = rw add-suc (omega (arith, before_mono k i, before_step (k + i)))

  less-kept : (a b : ℕ) → T (keep a) → a < b → kept_before keep a < kept_before keep b
  less-kept a b t h =
      let e : suc a + (b - suc a) ≡ b = omega arith in
      omega (arith, before-suc a t, before_mono (suc a) (b - suc a), ap (kept_before keep) e)

  -- kept faces have different new numbers
  pub kept_apart : (a b : ℕ) → T (keep a) → T (keep b) → kept_before keep a ≡ kept_before keep b → a ≡ b
  kept_apart a b ta tb e = go (test (ltb a b)) (test (ltb b a))
    where
      go : T (ltb a b) ⊎ T (not (ltb a b)) → T (ltb b a) ⊎ T (not (ltb b a)) → a ≡ b
      go (inl l) t = absurd (omega (arith, less-kept a b ta (ltb→lt a b l)))
      go (inr l) (inl g) = absurd (omega (arith, less-kept b a tb (ltb→lt b a g)))
      go (inr l) (inr g) = omega (arith, nltb→le a b l, nltb→le b a g)

  -- ---- the list

  module _ {F : Type 0} where
    pub kept-length : (k : ℕ) (fs : List F) → length (kept_from keep k fs) ≤ length fs
    unfolding kept_from
    kept-length k [] = omega arith
    kept-length k (f ∷ fs) = go (keep k) (kept-length (suc k) fs)
      where
        go : (b : Bool) → length (kept_from keep (suc k) fs) ≤ length fs → length (cond b (f ∷ kept_from keep (suc k) fs) (kept_from keep (suc k) fs)) ≤ length (f ∷ fs)
        go true h = omega arith
        go false h = omega arith

    -- what is kept of two lists of one length
    pub kept_alike : {G : Type 0} (k : ℕ) (fs : List F) (gs : List G) → length fs ≡ length gs → length (kept_from keep k fs) ≡ length (kept_from keep k gs)
    unfolding kept_from
    kept_alike k [] [] e = refl
    kept_alike k [] (g ∷ gs) e = absurd (omega arith)
    kept_alike k (f ∷ fs) [] e = absurd (omega arith)
    kept_alike k (f ∷ fs) (g ∷ gs) e = go (keep k) (kept_alike (suc k) fs gs (omega arith))
      where
        go : (b : Bool) → length (kept_from keep (suc k) fs) ≡ length (kept_from keep (suc k) gs)
            → length (cond b (f ∷ kept_from keep (suc k) fs) (kept_from keep (suc k) fs)) ≡ length (cond b (g ∷ kept_from keep (suc k) gs) (kept_from keep (suc k) gs))
        go true h = ap suc h
        go false h = h

    kept_cons : (k : ℕ) (f : F) (fs : List F) → T (keep k) → kept_from keep k (f ∷ fs) ≡ f ∷ kept_from keep (suc k) fs
    unfolding kept_from
    kept_cons k f fs h = go (keep k) h
      where
        go : (b : Bool) → T b → cond b (f ∷ kept_from keep (suc k) fs) (kept_from keep (suc k) fs) ≡ f ∷ kept_from keep (suc k) fs
        go true h = refl
        go false h = absurd h

    pub kept_skip : (k : ℕ) (f : F) (fs : List F) → T (not (keep k)) → kept_from keep k (f ∷ fs) ≡ kept_from keep (suc k) fs
    unfolding kept_from
    kept_skip k f fs h = go (keep k) h
      where
        go : (b : Bool) → T (not b) → cond b (f ∷ kept_from keep (suc k) fs) (kept_from keep (suc k) fs) ≡ kept_from keep (suc k) fs
        go true h = absurd h
        go false h = refl

    -- one list after the other
    pub kept_append : (k : ℕ) (xs ys : List F) → kept_from keep k (xs ++ ys) ≡ kept_from keep k xs ++ kept_from keep (k + length xs) ys
    unfolding kept_from
    kept_append k [] ys = rw add-zero
    kept_append k (x ∷ xs) ys = go (keep k) (kept_append (suc k) xs ys ∙ ap (λ (j : ℕ). kept_from keep (suc k) xs ++ kept_from keep j ys) (omega arith))
      where
        go : (b : Bool) → kept_from keep (suc k) (xs ++ ys) ≡ kept_from keep (suc k) xs ++ kept_from keep (k + length (x ∷ xs)) ys
            → cond b (x ∷ kept_from keep (suc k) (xs ++ ys)) (kept_from keep (suc k) (xs ++ ys)) ≡ cond b (x ∷ kept_from keep (suc k) xs) (kept_from keep (suc k) xs) ++ kept_from keep (k + length (x ∷ xs)) ys
        go true e = ap (λ (l : List F). x ∷ l) e
        go false e = e

    -- all are kept
    pub kept_all : (k : ℕ) (fs : List F) → ((i : ℕ) → i < length fs → T (keep (k + i))) → kept_from keep k fs ≡ fs
    unfolding kept_from
    kept_all k [] h = refl
    kept_all k (f ∷ fs) h =
        kept_cons k f fs (rw add-zero at (h 0 (omega arith)))
        ∙ ap (λ (l : List F). f ∷ l) (kept_all (suc k) fs (λ i l. let e : k + suc i ≡ suc k + i = omega arith in rw e at (h (suc i) (omega arith))))

    -- the first n are kept
    pub kept-first : (k n : ℕ) (fs : List F) → n ≤ length fs → ((i : ℕ) → i < n → T (keep (k + i))) → kept_from keep k fs ≡ take n fs ++ kept_from keep (k + n) (drop n fs)
    kept-first k n fs l h =
        ap (kept_from keep k) (sym (take-append-drop n fs))
        ∙ kept_append k (take n fs) (drop n fs)
        ∙ rw (length-take-le n fs l, kept_all k (take n fs) (λ i m. h i (omega (arith, length-take-le n fs l))))

    -- face k + i of the full list stands at the count of kept faces before it
    kept_from_lem : (d : F) (fs : List F) (k i j : ℕ) → i < length fs → T (keep (k + i)) → kept_before keep k + j ≡ kept_before keep (k + i)
        → (get_or (kept_from keep k fs) j d ≡ get_or fs i d) × (j < length (kept_from keep k fs))
    kept_from_lem d [] k i j h t e = absurd (not-suc-le-zero h)
    kept_from_lem d (f ∷ fs) k zero j h t e =
        let t' : T (keep k) = rw add-zero at t in
        let z : j ≡ 0 = omega (arith, ap (kept_before keep) (add-zero k)) in
        rw (kept_cons k f fs t', z) (refl, omega arith)
    kept_from_lem d (f ∷ fs) k (suc i) j h t e = go (test (keep k)) j e (kept_from_lem d fs (suc k) i)
      where
        same : k + suc i ≡ suc k + i
        same = omega arith

        go : T (keep k) ⊎ T (not (keep k)) → (j : ℕ) → kept_before keep k + j ≡ kept_before keep (k + suc i)
            → ((j : ℕ) → i < length fs → T (keep (suc k + i)) → kept_before keep (suc k) + j ≡ kept_before keep (suc k + i) → (get_or (kept_from keep (suc k) fs) j d ≡ get_or fs i d) × (j < length (kept_from keep (suc k) fs)))
            → (get_or (kept_from keep k (f ∷ fs)) j d ≡ get_or fs i d) × (j < length (kept_from keep k (f ∷ fs)))
        go (inl b) zero e ih = absurd (omega (arith, before-suc k b, before_mono (suc k) i, ap (kept_before keep) same))
        go (inl b) (suc j) e ih =
            let r = ih j (le_of_suc-le-suc h) (rw same at t) (omega (arith, before-suc k b, ap (kept_before keep) same)) in
            rw (kept_cons k f fs b) (r.0, omega (arith, r.1))
        go (inr b) j e ih =
            let r = ih j (le_of_suc-le-suc h) (rw same at t) (omega (arith, before_same k b, ap (kept_before keep) same)) in
            rw (kept_skip k f fs b) r

    pub kept_at : (d : F) (fs : List F) (k : ℕ) → k < length fs → T (keep k)
        → (get_or (kept_from keep 0 fs) (kept_before keep k) d ≡ get_or fs k d) × (kept_before keep k < length (kept_from keep 0 fs))
    unfolding kept_before
    kept_at d fs k h t = kept_from_lem d fs 0 k (kept_before keep k) h (rw zero-add t) (zero-add (kept_before keep k) ∙ ap (kept_before keep) (sym (zero-add k)))
