-- Places filled in turn.
use Prim.Native.Nat.{ℕ, ◌+◌, ◌-◌, ◌*◌, ◌≤◌}
use Rattle.std.specs.Prelude.{◌≡◌, Float, length}
use Rattle.std.proofs.Math.Path.{sym, ap, ap₂}
use Rattle.std.proofs.Common.{◌∙◌, add-zero, zero-add, le_of_eq, length-drop, length-take-le, take_at, get_or-append-add}
use mathlib.Core.List.{List, ◌++◌, append_assoc, append-nil}
use native.Mathlib.Omega.{arith}
use Rattle.std.specs.Float.Ieee.{nan}
use Rattle.std.proofs.Math.ListN.{get_or, take, drop, length-append, take-append-drop, drop_of_length-le}
use Rattle.std.proofs.Math.Seq.{drop-append-add, drop-drop, get_or-drop, get_or-take}
use Rattle.lists.specs.Lists.{tabulate}
use Rattle.lists.specs.Laws.Tables.{length-tabulate, tabulate_same, tabulate-add}
use Rattle.values.specs.Filled.{filled}

module _ (F : ℕ → Float → Float) where
  pub filled_none : (a : ℕ) (xs : List Float) → xs ≡ filled F a 0 xs
  unfolding filled tabulate
  filled_none a xs = sym (ap (λ (k : ℕ). take a xs ++ drop k xs) (add-zero a) ∙ take-append-drop a xs)

  pub filled_all : (n : ℕ) (xs : List Float) → length xs ≡ n → filled F 0 n xs ≡ tabulate (λ k. F k (get_or xs k nan)) 0 n
  unfolding filled
  filled_all n xs e = rw (zero-add n, drop_of_length-le xs {i = n} (le_of_eq e)) (append-nil _)

  -- nothing is left of a row of w runs of c
  pub filled_ended : (a ix w c : ℕ) (xs cur : List Float) → ix ≤ w → w ≤ ix → cur ≡ filled F a (ix * c) xs → cur ≡ filled F a (w * c) xs
  filled_ended a ix w c xs cur l g e = let same : ix ≡ w = omega arith in e ∙ ap (λ (k : ℕ). filled F a (k * c) xs) same

  -- the lent part from `at` on, which came back as ys
  pub filled_lent : (at c : ℕ) (xs ys : List Float) → ys ≡ tabulate (λ j. F (at + j) (get_or (take c (drop at xs)) j nan)) 0 c
      → take at xs ++ (ys ++ drop c (drop at xs)) ≡ filled F at c xs
  unfolding filled
  filled_lent at c xs ys e =
      ap₂ (λ (y z : List Float). take at xs ++ (y ++ z))
      (e ∙ tabulate_same (λ j. F (at + j) (get_or (take c (drop at xs)) j nan)) (λ k. F k (get_or xs k nan)) 0 at c
      (λ k h. ap₂ F (ap (λ (i : ℕ). at + i) (zero-add k))
      (ap (λ (i : ℕ). get_or (take c (drop at xs)) i nan) (zero-add k) ∙ get_or-take c (drop at xs) k nan h ∙ get_or-drop at xs k nan)))
      (drop-drop c at xs)

  module _ (a n : ℕ) (xs : List Float) (fits : a + n ≤ length xs) where
    head : List Float
    head = take a xs ++ tabulate (λ k. F k (get_or xs k nan)) a n

    length_head : length head ≡ a + n
    unfolding head
    length_head = length-append (take a xs) _ ∙ ap₂ ◌+◌ (length-take-le a xs (omega arith)) (length-tabulate _ a n)

    filled_is : filled F a n xs ≡ head ++ drop (a + n) xs
    unfolding filled head
    filled_is = sym (append_assoc (take a xs) _ _)

    rest : (k : ℕ) → get_or (head ++ drop (a + n) xs) (a + n + k) nan ≡ get_or xs (a + n + k) nan
    rest k =
        ap (λ (i : ℕ). get_or (head ++ drop (a + n) xs) (i + k) nan) (sym length_head)
        ∙ get_or-append-add head (drop (a + n) xs) k nan
        ∙ get_or-drop (a + n) xs k nan

    next : (m : ℕ) → filled F (a + n) m (head ++ drop (a + n) xs) ≡ filled F a (n + m) xs
    unfolding filled head
    next m =
        let e : a + n + m ≡ a + (n + m) = omega arith in
        ap₂ ◌++◌ (take_at head (drop (a + n) xs) (a + n) length_head)
        (ap₂ ◌++◌
        (tabulate_same (λ k. F k (get_or (head ++ drop (a + n) xs) k nan)) (λ k. F k (get_or xs k nan)) (a + n) (a + n) m (λ k h. ap (F (a + n + k)) (rest k)))
        (ap (λ (i : ℕ). drop (i + m) (head ++ drop (a + n) xs)) (sym length_head)
        ∙ drop-append-add head (drop (a + n) xs) m
        ∙ drop-drop m (a + n) xs
        ∙ ap (λ (i : ℕ). drop i xs) e))
        ∙ append_assoc (take a xs) _ _
        ∙ ap (λ (t : List Float). take a xs ++ t)
        (sym (append_assoc (tabulate (λ k. F k (get_or xs k nan)) a n) _ _)
        ∙ ap (λ (t : List Float). t ++ drop (a + (n + m)) xs) (sym (tabulate-add (λ k. F k (get_or xs k nan)) a n m)))

    -- the next m places
    pub filled_more : (m : ℕ) → filled F (a + n) m (filled F a n xs) ≡ filled F a (n + m) xs
    filled_more m = ap (filled F (a + n) m) filled_is ∙ next m

    pub length-filled : length (filled F a n xs) ≡ length xs
    length-filled = ap length filled_is ∙ length-append head (drop (a + n) xs) ∙ ap₂ ◌+◌ length_head (length-drop (a + n) xs) ∙ omega arith

-- the length of a lent part
pub length_lent : (at c : ℕ) (xs : List Float) → at + c ≤ length xs → length (take (at + c - at) (drop at xs)) ≡ c
length_lent at c xs h =
    let e : at + c - at ≡ c = omega arith in
    ap (λ (k : ℕ). length (take k (drop at xs))) e ∙ length-take-le c (drop at xs) (rw (length-drop at xs) (omega arith))
