-- The three counts: they add up, and what each is where every pixel has one fate.
use Rattle.std.specs.Prelude.{ℕ, zero, suc, ◌+◌, ◌<◌, ◌≡◌, refl, Bool, false, not, ◌&&◌, cond, List, eqb}
use Rattle.std.proofs.Math.Bool.{true}
use Rattle.std.proofs.Common.{zero-add, add-zero, arith}
use Rattle.lists.specs.Lists.{tabulate, span, count}
use Rattle.lists.specs.Laws.Sums.{count_none, count-more, count_alike}
use Rattle.questions.specs.Questions.{empty}
use Rattle.meshes.specs.View.{entry_at}
use Rattle.removal_rules.specs.Removal.{goes_empty, keeps_face, names_another, Preview, preview, counted}
use Rattle.removal_rules.specs.Matched.{Matched}
use Rattle.removal_rules.proofs.Laws.Pixels.{empties, keeps, renames}

-- three tests of which each number passes exactly one
count-three : (f g h : ℕ → Bool) (a n : ℕ) → ((i : ℕ) → i < n → cond (f (a + i)) 1 0 + cond (g (a + i)) 1 0 + cond (h (a + i)) 1 0 ≡ 1)
    → count f (span a n) + count g (span a n) + count h (span a n) ≡ n
unfolding tabulate
count-three f g h a zero e = rw (count_none f, count_none g, count_none h)
count-three f g h a (suc n) e =
    let first = rw add-zero at (e 0 (omega arith)) in
    let rest = count-three f g h (suc a) n (λ i l. let k : suc a + i ≡ a + suc i = omega arith in rw k (e (suc i) (omega arith))) in
    rw (count-more f a (span (suc a) n), count-more g a (span (suc a) n), count-more h a (span (suc a) n)) (omega (arith, first, rest))

pub same_preview : {c : Preview} {x y z : ℕ} → c.emptied ≡ x → c.renamed ≡ y → c.kept ≡ z → c ≡ preview x y z
same_preview a b d = λ i. preview (a i) (b i) (d i)

module _ {keep : ℕ → Bool} {full short : List ℕ} {n : ℕ} (t : Matched keep full short n) where
  -- every pixel has one fate
  one_fate : (p : ℕ) → p < n → cond (goes_empty (entry_at full p) (entry_at short p)) 1 0 + cond (names_another keep (entry_at full p) (entry_at short p)) 1 0 + cond (keeps_face keep (entry_at full p) (entry_at short p)) 1 0 ≡ 1
  one_fate p h = rw (empties t p h, renames t p h, keeps t p h) (go (keep (entry_at full p)) (eqb (entry_at short p) empty))
    where
      go : (k e : Bool) → cond (not k && e) 1 0 + cond (not k && not e) 1 0 + cond k 1 0 ≡ 1
      go true e = refl
      go false true = refl
      go false false = refl

  pub adds_up : (counted keep full short n).emptied + (counted keep full short n).renamed + (counted keep full short n).kept ≡ n
  unfolding counted
  adds_up = count-three _ _ _ 0 n (λ i h. rw (zero-add i) (one_fate i h))

  -- no pixel's face is removed
  pub all_keep : ((p : ℕ) → p < n → keeps_face keep (entry_at full p) (entry_at short p) ≡ true) → counted keep full short n ≡ preview 0 0 n
  unfolding counted
  all_keep e =
      let whole : (counted keep full short n).kept ≡ n = count_alike _ true 0 n (λ i h. rw (zero-add i) (e i h)) in
      same_preview (omega (arith, adds_up, whole)) (omega (arith, adds_up, whole)) whole
