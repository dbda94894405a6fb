-- A test of every number of a list, or of numbers in a row, as a loop asks it.
use Rattle.std.specs.Prelude.{ℕ, zero, suc, ◌+◌, ◌-◌, ◌*◌, ◌≤◌, ◌<◌, ◌≡◌, Bool, true, false, ◌&&◌, length, drop, get_or}
use Rattle.std.proofs.Math.Path.{refl, sym, ap, ap₂}
use Rattle.std.proofs.Common.{◌∙◌, add-zero, zero-add, zero-mul, mul_comm, mul-le-mul_right, not-suc-le-zero, le_of_suc-le-suc, add-one, arith, drop_of_length-le, drop-cons}
use Rattle.std.proofs.Math.Bool.{and-true, and-false, and_assoc}
use mathlib.Core.List.{List, [], ◌∷◌}
use Rattle.std.proofs.lemmas.List.Folds.{list_all-append}
use Rattle.lists.specs.Lists.{tabulate, span, every}
use Rattle.lists.specs.Laws.Tests.{both}
use Rattle.lists.specs.Laws.Tables.{length-tabulate, get_or-tabulate, tabulate-add}

-- what every number of a list passes, the number at i passes
pub every-at : (test : ℕ → Bool) (xs : List ℕ) → every test xs ≡ true → (i : ℕ) → i < length xs → test (get_or xs i 0) ≡ true
every-at test [] e i h = absurd (not-suc-le-zero h)
every-at test (x ∷ xs) e zero h = (both (test x) _ e).0
every-at test (x ∷ xs) e (suc i) h = every-at test xs (both (test x) _ e).1 i (le_of_suc-le-suc h)

-- and so does what a read past the end gives, if its default passes
pub every_any : (test : ℕ → Bool) (d : ℕ) → test d ≡ true → (xs : List ℕ) → every test xs ≡ true → (i : ℕ) → test (get_or xs i d) ≡ true
every_any test d z [] e i = z
every_any test d z (x ∷ xs) e zero = (both (test x) _ e).0
every_any test d z (x ∷ xs) e (suc i) = every_any test d z xs (both (test x) _ e).1 i

-- what each number of a list passes, all do
pub every_of : (test : ℕ → Bool) (d : ℕ) (xs : List ℕ) → ((i : ℕ) → i < length xs → test (get_or xs i d) ≡ true) → every test xs ≡ true
every_of test d [] h = refl
every_of test d (x ∷ xs) h = rw (h 0 (omega arith)) (every_of test d xs (λ i l. h (suc i) (omega arith)))

-- ---- a loop over a list

module _ (test : ℕ → Bool) (xs : List ℕ) (i : ℕ) where
  every-from : i < length xs → every test (drop i xs) ≡ test (get_or xs i 0) && every test (drop (suc i) xs)
  every-from h = rw (drop-cons xs i 0 h)

  pub more : (i ≤ length xs) × (every test xs ≡ every test (drop i xs)) → i < length xs → test (get_or xs i 0) ≡ true
      → (i + 1 ≤ length xs) × (every test xs ≡ every test (drop (i + 1) xs))
  more p h t = (omega arith, p.1 ∙ every-from h ∙ rw (t, add-one))

  pub stopped : every test xs ≡ every test (drop i xs) → i < length xs → test (get_or xs i 0) ≡ false → false ≡ every test xs
  stopped p h t = sym (p ∙ every-from h ∙ rw t)

  pub ended : every test xs ≡ every test (drop i xs) → length xs ≤ i → true ≡ every test xs
  ended p h = sym (p ∙ rw (drop_of_length-le xs h))

  -- the same, of a loop that gathers the answers and goes on after a no, at its end
  pub gathered_all : (all : Bool) → every test xs ≡ all && every test (drop i xs) → length xs ≤ i → all ≡ every test xs
  gathered_all all p h = sym (p ∙ rw (drop_of_length-le xs h) (and-true all))

-- and at each turn
pub gathered : (test : ℕ → Bool) (xs : List ℕ) (i : ℕ) (all : Bool) → every test xs ≡ all && every test (drop i xs) → i < length xs
    → every test xs ≡ (all && test (get_or xs i 0)) && every test (drop (i + 1) xs)
gathered test xs i all p h = p ∙ rw (every-from test xs i h, add-one) (sym (and_assoc all (test (get_or xs i 0)) (every test (drop (suc i) xs))))

-- ---- a loop over numbers in a row

-- a row of the image lies in it
pub row_below : (w h iy : ℕ) → iy < h → iy * w + w ≤ w * h
row_below w h iy l = let m : (iy + 1) * w ≤ h * w = mul-le-mul_right w (omega arith) in rw (mul_comm w h) (omega arith)

-- two tests that agree, from a on and from b on
pub every_same : (t u : ℕ → Bool) (a b n : ℕ) → ((i : ℕ) → i < n → t (a + i) ≡ u (b + i)) → every t (span a n) ≡ every u (span b n)
unfolding tabulate
every_same t u a b zero e = refl
every_same t u a b (suc n) e =
    ap₂ ◌&&◌ (ap t (sym (add-zero a)) ∙ e 0 (omega arith) ∙ ap u (add-zero b))
    (every_same t u (suc a) (suc b) n
    (λ i h.
    let k : suc a + i ≡ a + suc i = omega arith in
    let l : b + suc i ≡ suc b + i = omega arith in
    ap t k ∙ e (suc i) (omega arith) ∙ ap u l))

module _ (t : ℕ → Bool) where
  pub every_one : (p : ℕ) → every t (span p 1) ≡ t p
  unfolding tabulate
  every_one p = and-true (t p)

  pub every_none : (a : ℕ) → every t (span a 0) ≡ true
  unfolding tabulate
  every_none a = refl

  -- n in a row, and m more
  pub every-add : (a n m : ℕ) → every t (span a (n + m)) ≡ every t (span a n) && every t (span (a + n) m)
  every-add a n m = ap (every t) (tabulate-add (λ i. i) a n m) ∙ list_all-append t (span a n) (span (a + n) m)

  -- so far, and the next m
  pub every_more : (a n m : ℕ) → every t (span a n) ≡ true → every t (span (a + n) m) ≡ true → every t (span a (n + m)) ≡ true
  every_more a n m p q = every-add a n m ∙ rw (p, q)

  -- one no is a no
  pub every_stopped : (a n m whole : ℕ) → n + m ≤ whole → every t (span (a + n) m) ≡ false → false ≡ every t (span a whole)
  every_stopped a n m whole h q =
      let e : n + (m + (whole - (n + m))) ≡ whole = omega arith in
      sym (ap (λ (k : ℕ). every t (span a k)) (sym e) ∙ every-add a n (m + (whole - (n + m))) ∙ rw (every-add (a + n) m (whole - (n + m)), q) (and-false (every t (span a n))))

  -- nothing is left
  pub every_ended : (a n whole : ℕ) → n ≤ whole → whole ≤ n → every t (span a n) ≡ true → true ≡ every t (span a whole)
  every_ended a n whole l g p = let e : n ≡ whole = omega arith in sym (ap (λ (k : ℕ). every t (span a k)) (sym e) ∙ p)

  -- the same from 0 on, one by one
  pub every_next : (i : ℕ) → every t (span 0 i) ≡ true → t i ≡ true → every t (span 0 (i + 1)) ≡ true
  every_next i p q = every_more 0 i 1 p (every_one (0 + i) ∙ ap t (zero-add i) ∙ q)

  -- the answers gathered, and gone on after a no
  pub gathered_none : true ≡ every t (span 0 0)
  gathered_none = sym (every_none 0)

  pub gathered_next : (i : ℕ) (all : Bool) → all ≡ every t (span 0 i) → all && t i ≡ every t (span 0 (i + 1))
  gathered_next i all e = ap₂ ◌&&◌ e (sym (every_one (0 + i) ∙ ap t (zero-add i))) ∙ sym (every-add 0 i 1)

  pub gathered_ended : (i n : ℕ) (all : Bool) → i ≤ n → n ≤ i → all ≡ every t (span 0 i) → all ≡ every t (span 0 n)
  gathered_ended i n all l g e = let same : i ≡ n = omega arith in e ∙ ap (λ (k : ℕ). every t (span 0 k)) same

  pub every-not : (n i : ℕ) → i < n → t i ≡ false → every t (span 0 n) ≡ false
  every-not n i h e = sym (every_stopped 0 i 1 n (omega arith) (every_one (0 + i) ∙ ap t (zero-add i) ∙ e))

  pub in_span : (n : ℕ) → every t (span 0 n) ≡ true → (i : ℕ) → i < n → t i ≡ true
  in_span n e i h = ap t (sym (get_or-tabulate (λ k. k) 0 n i 0 h ∙ zero-add i)) ∙ every-at t (span 0 n) e i (rw (length-tabulate (λ k. k) 0 n) h)

  pub all_pass : (n : ℕ) → ((i : ℕ) → t i ≡ true) → every t (span 0 n) ≡ true
  all_pass n h = every_of t 0 (span 0 n) (λ i l. h (get_or (span 0 n) i 0))

  -- the same, row by row of w
  module _ (w h iy : ℕ) where
    pub rows_more : every t (span 0 (iy * w)) ≡ true → every t (span (iy * w) w) ≡ true → every t (span 0 ((iy + 1) * w)) ≡ true
    rows_more p q =
        let e : iy * w + w ≡ (iy + 1) * w = omega arith in
        ap (λ (k : ℕ). every t (span 0 k)) (sym e) ∙ every_more 0 (iy * w) w p (ap (λ (k : ℕ). every t (span k w)) (zero-add (iy * w)) ∙ q)

    pub rows_stopped : iy < h → every t (span (iy * w) w) ≡ false → false ≡ every t (span 0 (w * h))
    rows_stopped l q =
        every_stopped 0 (iy * w) w (w * h) (row_below w h iy l) (ap (λ (k : ℕ). every t (span k w)) (zero-add (iy * w)) ∙ q)

    pub rows_ended : iy ≤ h → h ≤ iy → every t (span 0 (iy * w)) ≡ true → true ≡ every t (span 0 (w * h))
    rows_ended l g p =
        let e : iy ≡ h = omega arith in
        sym (ap (λ (k : ℕ). every t (span 0 k)) (mul_comm w h ∙ ap (λ (k : ℕ). k * w) (sym e)) ∙ p)

module _ (t : ℕ → Bool) where
  -- numbers from a on, each by its distance from there
  pub every_row : (a n : ℕ) → every (λ i. t (a + i)) (span 0 n) ≡ every t (span a n)
  every_row a n = every_same (λ i. t (a + i)) t 0 a n (λ i h. ap (λ (k : ℕ). t (a + k)) (zero-add i))

  -- row by row of w
  pub every_rows : (w h : ℕ) → every (λ y. every t (span (y * w) w)) (span 0 h) ≡ every t (span 0 (h * w))
  unfolding tabulate
  every_rows w zero = ap (λ (k : ℕ). every t (span 0 k)) (sym (zero-mul w))
  every_rows w (suc h) =
      let e : suc h ≡ h + 1 = omega arith in
      let f : suc h * w ≡ h * w + w = omega arith in
      ap (λ (k : ℕ). every (λ y. every t (span (y * w) w)) (span 0 k)) e
      ∙ every-add (λ y. every t (span (y * w) w)) 0 h 1
      ∙ ap₂ ◌&&◌ (every_rows w h) (every_one (λ y. every t (span (y * w) w)) (0 + h) ∙ ap (λ (k : ℕ). every t (span k w)) (ap (λ (k : ℕ). k * w) (zero-add h) ∙ sym (zero-add (h * w))))
      ∙ sym (every-add t 0 (h * w) w)
      ∙ ap (λ (k : ℕ). every t (span 0 k)) (sym f)
