-- Visits down a column: so far, and as far as an end.
use Prim.Native.Nat.{ℕ, ◌+◌, ◌*◌, ◌≤◌, ◌<◌}
use mathlib.Core.Path.{◌≡◌, sym, ap, ◌∙◌}
use mathlib.Core.Bool.{cond}
use mathlib.Core.Logic.{◌⊎◌, inl, inr}
use mathlib.Core.List.{List, [], ◌∷◌}
use native.Mathlib.Omega.{arith}
use borrow.Author.Tests.{lt-ltb, le-ltb}
use lib.Dec.{ltb}
use Rattle.cells.specs.Cell.{Cell}
use Rattle.cells.specs.Layer.{Layer}
use Rattle.cells.specs.Steps.{Spans}
use Rattle.rules.specs.Visits.{visited}
use Rattle.rules.proofs.Laws.Visited.{visited-append, spans-visited}
use Rattle.lists.specs.Laws.Tests.{below_or}
use Rattle.blocks.specs.Rows.{rows_down, up_to}
use Rattle.blocks.proofs.Down.{rows_none, rows-one, rows_append}

-- ---- rows as far as the end

pub up_to_is : (n i : ℕ) → i ≤ n → up_to n i ≡ i
unfolding up_to
up_to_is n i h = go (below_or i n)
  where
    go : (i < n) ⊎ (n ≤ i) → cond (ltb i n) i n ≡ i
    go (inl k) = rw (lt-ltb i n k)
    go (inr k) = rw (le-ltb i n k) (omega arith)

pub up_to_end : (n i : ℕ) → n ≤ i → up_to n i ≡ n
unfolding up_to
up_to_end n i h = rw (le-ltb i n h)

up_to_least : (n a i : ℕ) → a ≤ n → a ≤ i → a ≤ up_to n i
up_to_least n a i h k = go (below_or i n)
  where
    go : (i < n) ⊎ (n ≤ i) → a ≤ up_to n i
    go (inl m) = rw (up_to_is n i (omega arith)) k
    go (inr m) = rw (up_to_end n i m) h

up_to_rises : (n i j : ℕ) → i ≤ j → up_to n i ≤ up_to n j
up_to_rises n i j h = go (below_or i n)
  where
    go : (i < n) ⊎ (n ≤ i) → up_to n i ≤ up_to n j
    go (inl m) = rw (up_to_is n i (omega arith)) (up_to_least n i j (omega arith) h)
    go (inr m) = rw (up_to_end n i m, up_to_end n j (omega arith)) (omega arith)

-- ---- visits so far

-- before row i, of rows from a on: those before b were visited
pub record Going (os : ℕ → List Cell) (w n ix a b : ℕ) (l cur : Layer) (i : ℕ) : Type 0 where
  pub from : a ≤ i
  pub spans : Spans cur n
  pub is : cur ≡ visited os (rows_down w ix a (up_to b i)) l

module _ (os : ℕ → List Cell) (w n ix a b : ℕ) (l : Layer) (order : a ≤ b) where
  pub going_first : Spans l n → Going os w n ix a b l l a
  unfolding visited
  going_first s = record { from = omega arith; spans = s; is = rw (up_to_is b a order, rows_none w ix a a (omega arith)) }

  pub going_next : (cur new : Layer) (i j : ℕ) → i ≤ j → Going os w n ix a b l cur i → new ≡ visited os (rows_down w ix (up_to b i) (up_to b j)) cur → Going os w n ix a b l new j
  going_next cur new i j h g e =
      record {
        from = omega (arith, g.from);
        spans = rw e (spans-visited os (rows_down w ix (up_to b i) (up_to b j)) cur n g.spans);
        is =
            e
            ∙ ap (visited os (rows_down w ix (up_to b i) (up_to b j))) g.is
            ∙ sym (visited-append os (rows_down w ix a (up_to b i)) (rows_down w ix (up_to b i) (up_to b j)) l)
            ∙ ap (λ (ps : List ℕ). visited os ps l) (rows_append w ix a (up_to b i) (up_to b j) (up_to_least b a i order g.from) (up_to_rises b i j h));
      }

  -- what rows up to i have left
  pub going_of : {cur : Layer} {i : ℕ} → Spans l n → a ≤ i → cur ≡ visited os (rows_down w ix a (up_to b i)) l → Going os w n ix a b l cur i
  going_of {cur} {i} s h e = record { from = h; spans = rw e (spans-visited os (rows_down w ix a (up_to b i)) l n s); is = e }

  -- one row more, before the end
  pub going_on : (cur new : Layer) (i : ℕ) → i < b → Going os w n ix a b l cur i → new ≡ visited os ((i * w + ix) ∷ []) cur → Going os w n ix a b l new (i + 1)
  going_on cur new i h g e =
      going_next cur new i (i + 1) (omega arith) g
      (e ∙ sym (rw (up_to_is b i (omega arith), up_to_is b (i + 1) (omega arith)) (ap (λ (ps : List ℕ). visited os ps cur) (rows-one w ix i))))

  -- rows up to j, some of them past the end
  pub going_by : (cur new : Layer) (i j : ℕ) → i ≤ b → i ≤ j → Going os w n ix a b l cur i → new ≡ visited os (rows_down w ix i (up_to b j)) cur → Going os w n ix a b l new j
  going_by cur new i j h k g e = going_next cur new i j k g (e ∙ sym (rw (up_to_is b i h)))

  -- the rest, up to the end
  pub going_rest : (cur new : Layer) (i : ℕ) → i ≤ b → Going os w n ix a b l cur i → new ≡ visited os (rows_down w ix i b) cur → Going os w n ix a b l new b
  going_rest cur new i h g e = going_by cur new i b h h g (e ∙ sym (rw (up_to_end b b (omega arith))))

  pub going_last : (cur : Layer) (i : ℕ) → b ≤ i → Going os w n ix a b l cur i → cur ≡ visited os (rows_down w ix a b) l
  going_last cur i h g = rw (up_to_end b i h) at g.is
