-- Three weights a pixel in one buffer: what stands at each pixel after one is written, and after those below one are.
use Rattle.std.specs.Prelude.{ℕ, zero, suc, ◌+◌, ◌*◌, ◌/◌, ◌%◌, ◌<◌, ◌≡◌, Float, length}
use Rattle.std.proofs.Math.Path.{refl, ap}
use Rattle.std.proofs.Common.{sym, ◌∙◌, ext_get_or}
use mathlib.Core.List.{List}
use native.Mathlib.Omega.{arith}
use Rattle.std.specs.Float.Ieee.{nan}
use Rattle.std.proofs.Math.ListN.{length-set, get_or, set}
use Rattle.std.proofs.lemmas.List.{set-get_or}
use Rattle.std.proofs.Math.Seq.{get_or-set_same, get_or-set_other, get_or-append-add, get_or-drop}
use Rattle.lists.specs.Lists.{tabulate}
use Rattle.lists.specs.Laws.Tables.{length-tabulate, get_or-tabulate, stored, stored_more, stored_all}
use Rattle.geometry.specs.Vector.{Weights, weights}
use Rattle.cells.specs.Layer.{weights_at, weight_of, all_weights}
use Rattle.cells.specs.Steps.{with_weights}

three : {a b c a' b' c' : Float} → a ≡ a' → b ≡ b' → c ≡ c' → weights a b c ≡ weights a' b' c'
three e f g = λ i. weights (e i) (f i) (g i)

-- ---- one pixel's weights are written

module _ (bs : List Float) (p : ℕ) (b : Weights Float) where
  -- after the first, and after the second
  abbrev first : List Float
  first = set bs (3 * p) b.b0

  abbrev second : List Float
  second = set first (3 * p + 1) b.b1

  pub length_with : length (with_weights bs p b) ≡ length bs
  unfolding with_weights
  length_with = length-set second (3 * p + 2) b.b2 ∙ length-set first (3 * p + 1) b.b1 ∙ length-set bs (3 * p) b.b0

  -- a place of another pixel
  elsewhere : (j : ℕ) → (j ≡ 3 * p → ⊥) → (j ≡ 3 * p + 1 → ⊥) → (j ≡ 3 * p + 2 → ⊥) → get_or (with_weights bs p b) j nan ≡ get_or bs j nan
  unfolding with_weights
  elsewhere j h0 h1 h2 =
      get_or-set_other second (3 * p + 2) j b.b2 nan h2 ∙ get_or-set_other first (3 * p + 1) j b.b1 nan h1 ∙ get_or-set_other bs (3 * p) j b.b0 nan h0

  pub weights_other : (q : ℕ) → (q ≡ p → ⊥) → weights_at (with_weights bs p b) q ≡ weights_at bs q
  unfolding weights_at
  weights_other q n =
      three
      (elsewhere (3 * q) (λ e. n (omega (arith, e))) (λ e. n (omega (arith, e))) (λ e. n (omega (arith, e))))
      (elsewhere (3 * q + 1) (λ e. n (omega (arith, e))) (λ e. n (omega (arith, e))) (λ e. n (omega (arith, e))))
      (elsewhere (3 * q + 2) (λ e. n (omega (arith, e))) (λ e. n (omega (arith, e))) (λ e. n (omega (arith, e))))

  pub weights_there : 3 * p + 2 < length bs → weights_at (with_weights bs p b) p ≡ b
  unfolding weights_at with_weights
  weights_there h =
      let one = length-set bs (3 * p) b.b0 in
      let two = length-set first (3 * p + 1) b.b1 in
      three
      (get_or-set_other second (3 * p + 2) (3 * p) b.b2 nan (λ e. omega (arith, e)) ∙ get_or-set_other first (3 * p + 1) (3 * p) b.b1 nan (λ e. omega (arith, e)) ∙ get_or-set_same bs (3 * p) b.b0 nan (omega arith))
      (get_or-set_other second (3 * p + 2) (3 * p + 1) b.b2 nan (λ e. omega (arith, e)) ∙ get_or-set_same first (3 * p + 1) b.b1 nan (omega (arith, one)))
      (get_or-set_same second (3 * p + 2) b.b2 nan (omega (arith, one, two)))

-- those that stand there
pub weights-kept : (bs : List Float) (p : ℕ) → with_weights bs p (weights_at bs p) ≡ bs
unfolding with_weights weights_at
weights-kept bs p = rw (set-get_or bs (3 * p) nan, set-get_or bs (3 * p + 1) nan, set-get_or bs (3 * p + 2) nan)

-- ---- pixel by pixel

-- two buffers of n pixels are equal when their weights are
pub same_weights : (n : ℕ) (xs ys : List Float) → length xs ≡ 3 * n → length ys ≡ 3 * n → ((p : ℕ) → p < n → weights_at xs p ≡ weights_at ys p) → xs ≡ ys
unfolding weights_at
same_weights n xs ys ex ey same = ext_get_or nan xs ys (ex ∙ sym ey) (λ i h. place i (i % 3) refl (same (i / 3) (omega (arith, ex))))
  where
    place : (i k : ℕ) → i % 3 ≡ k → weights_at xs (i / 3) ≡ weights_at ys (i / 3) → get_or xs i nan ≡ get_or ys i nan
    place i zero m e = let at : 3 * (i / 3) ≡ i = omega arith in rw at at (ap (λ (b : Weights Float). b.b0) e)
    place i (suc zero) m e = let at : 3 * (i / 3) + 1 ≡ i = omega arith in rw at at (ap (λ (b : Weights Float). b.b1) e)
    place i (suc (suc zero)) m e = let at : 3 * (i / 3) + 2 ≡ i = omega arith in rw at at (ap (λ (b : Weights Float). b.b2) e)
    place i (suc (suc (suc k))) m e = absurd (omega arith)

module _ (b : ℕ → Weights Float) where
  -- place k of all
  abbrev entry : ℕ → Float
  entry k = weight_of (b (k / 3)) (k % 3)

  entry_is : (p : ℕ) → weights (entry (3 * p)) (entry (3 * p + 1)) (entry (3 * p + 2)) ≡ b p
  unfolding weight_of
  entry_is p =
      let d0 : 3 * p / 3 ≡ p = omega arith in
      let d1 : (3 * p + 1) / 3 ≡ p = omega arith in
      let d2 : (3 * p + 2) / 3 ≡ p = omega arith in
      let m0 : 3 * p % 3 ≡ 0 = omega arith in
      let m1 : (3 * p + 1) % 3 ≡ 1 = omega arith in
      let m2 : (3 * p + 2) % 3 ≡ 2 = omega arith in
      rw (d0, d1, d2, m0, m1, m2)

  pub length_all : (n : ℕ) → length (all_weights n b) ≡ 3 * n
  unfolding all_weights
  length_all n = length-tabulate entry 0 (3 * n)

  pub weights_all : (n p : ℕ) → p < n → weights_at (all_weights n b) p ≡ b p
  unfolding all_weights weights_at
  weights_all n p h =
      three (is (3 * p) (omega arith)) (is (3 * p + 1) (omega arith)) (is (3 * p + 2) (omega arith)) ∙ entry_is p
    where
      is : (j : ℕ) → j < 3 * n → get_or (tabulate entry 0 (3 * n)) j nan ≡ entry j
      is j l = let e : 0 + j ≡ j = omega arith in get_or-tabulate entry 0 (3 * n) j nan l ∙ ap entry e

  -- ---- a loop over the pixels, in rising number

  -- the buffer after the pixels below i have their weights
  unfoldable pub weights_so_far : List Float → ℕ → List Float
  weights_so_far bs i = stored entry bs (3 * i)

  module _ (bs : List Float) where
    pub weights_none : bs ≡ weights_so_far bs 0
    unfolding weights_so_far stored tabulate
    weights_none = refl

    pub weights-more : (i : ℕ) → 3 * i + 2 < length bs → with_weights (weights_so_far bs i) i (b i) ≡ weights_so_far bs (i + 1)
    unfolding weights_so_far with_weights
    weights-more i h =
        let two : 3 * i + 1 + 1 ≡ 3 * i + 2 = omega arith in
        let three : 3 * i + 2 + 1 ≡ 3 * (i + 1) = omega arith in
        let second : set (stored entry bs (3 * i + 1)) (3 * i + 1) (entry (3 * i + 1)) ≡ stored entry bs (3 * i + 2) = stored_more entry bs (3 * i + 1) (omega arith) ∙ ap (stored entry bs) two in
        let third : set (stored entry bs (3 * i + 2)) (3 * i + 2) (entry (3 * i + 2)) ≡ stored entry bs (3 * (i + 1)) = stored_more entry bs (3 * i + 2) h ∙ ap (stored entry bs) three in
        ap (λ (w : Weights Float). set (set (set (stored entry bs (3 * i)) (3 * i) w.b0) (3 * i + 1) w.b1) (3 * i + 2) w.b2) (sym (entry_is i))
        ∙ ap (λ (xs : List Float). set (set xs (3 * i + 1) (entry (3 * i + 1))) (3 * i + 2) (entry (3 * i + 2))) (stored_more entry bs (3 * i) (omega arith))
        ∙ ap (λ (xs : List Float). set xs (3 * i + 2) (entry (3 * i + 2))) second
        ∙ third

    pub weights_done : (n : ℕ) → length bs ≡ 3 * n → weights_so_far bs n ≡ all_weights n b
    unfolding weights_so_far all_weights
    weights_done n e = stored_all entry bs (3 * n) e

    -- a pixel that no turn has come to
    pub weights_rest : (i : ℕ) → weights_at (weights_so_far bs i) i ≡ weights_at bs i
    unfolding weights_so_far weights_at stored
    weights_rest i = let z : 3 * i + 0 ≡ 3 * i = omega arith in three (ap (λ (j : ℕ). get_or (stored entry bs (3 * i)) j nan) (sym z) ∙ later 0 ∙ ap (λ (j : ℕ). get_or bs j nan) z) (later 1) (later 2)
      where
        later : (k : ℕ) → get_or (stored entry bs (3 * i)) (3 * i + k) nan ≡ get_or bs (3 * i + k) nan
        later k =
            ap (λ (j : ℕ). get_or (stored entry bs (3 * i)) (j + k) nan) (sym (length-tabulate entry 0 (3 * i)))
            ∙ get_or-append-add (tabulate entry 0 (3 * i)) _ k nan
            ∙ get_or-drop (3 * i) bs k nan

pub all_same : (n : ℕ) (b c : ℕ → Weights Float) → ((p : ℕ) → p < n → b p ≡ c p) → all_weights n b ≡ all_weights n c
all_same n b c e = same_weights n (all_weights n b) (all_weights n c) (length_all b n) (length_all c n) (λ p h. weights_all b n p h ∙ e p h ∙ sym (weights_all c n p h))
