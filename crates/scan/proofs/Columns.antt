-- Columns of a box, one after the other as long as visits are left.
use Rattle.std.specs.Prelude.{ℕ, zero, suc, ◌+◌, ◌-◌, ◌≤◌, ◌<◌, min, ◌⊎◌}
use mathlib.Core.Logic.{inl, inr}
use mathlib.Core.Path.{◌≡◌, refl, sym, ap, ◌∙◌}
use mathlib.Core.List.{List, [], ◌++◌, flat_map}
use native.Mathlib.Omega.{arith}
use lib.ListN.{take}
use Rattle.lists.specs.Lists.{span}
use Rattle.lists.specs.Laws.Turns.{flat_map_none, flat_map-one, flat_map-add}
use Rattle.cells.specs.Cell.{Cell}
use Rattle.cells.specs.Layer.{Layer}
use Rattle.cells.specs.Steps.{Spans}
use Rattle.rules.specs.Visits.{down, visited}
use Rattle.rules.proofs.Laws.Visited.{visited-append, spans-visited}
use Rattle.boxes.specs.declared.Box.{Box}
use Rattle.lists.specs.Laws.Tests.{below_or}
use Rattle.blocks.specs.Rows.{rows_down}
use Rattle.blocks.proofs.Down.{take-column}
use Rattle.scan.specs.Columns.{box_visits}

-- the lesser of two numbers is one of them
lesser : (a b m : ℕ) → m ≡ min a b → (m ≡ a) ⊎ (m ≡ b)
lesser a b m e = go (below_or a b)
  where
    go : (a < b) ⊎ (b ≤ a) → (m ≡ a) ⊎ (m ≡ b)
    go (inl h) = inl (omega (arith, e, h))
    go (inr h) = inr (omega (arith, e, h))

module _ (os : ℕ → List Cell) (w size : ℕ) (b : Box) (n : ℕ) (l : Layer) where
  -- those from column ix on
  abbrev from : ℕ → List ℕ
  from ix = box_visits w (record { columns = record { start = ix; end = b.columns.end }; rows = b.rows })

  -- before column ix: so many visits are left, and with these what is asked is done
  pub record Stopping (cur : Layer) (ix left : ℕ) : Type 0 where
    pub to : ix ≤ b.columns.end
    pub spans : Spans cur size
    pub rest : visited os (take left (from ix)) cur ≡ visited os (take n (box_visits w b)) l

  pub stopping_first : Spans l size → b.columns.start ≤ b.columns.end → Stopping l b.columns.start n
  unfolding box_visits
  stopping_first s h = record { to = h; spans = s; rest = refl }

  -- the column, and those after it
  next_column : (ix : ℕ) → ix < b.columns.end → from ix ≡ rows_down w ix b.rows.start b.rows.end ++ from (ix + 1)
  unfolding box_visits rows_down
  next_column ix h =
      let e : b.columns.end - ix ≡ 1 + (b.columns.end - (ix + 1)) = omega arith in
      ap (λ (m : ℕ). flat_map column (span ix m)) e
      ∙ flat_map-add column ix 1 (b.columns.end - (ix + 1))
      ∙ ap (λ (ps : List ℕ). ps ++ flat_map column (span (ix + 1) (b.columns.end - (ix + 1)))) (flat_map-one column ix)
    where
      column : ℕ → List ℕ
      column i = down w i b.rows.start (b.rows.end - b.rows.start)

  pub stopping_next : (cur new : Layer) (ix left some : ℕ) → ix < b.columns.end → Stopping cur ix left → some ≡ min left (b.rows.end - b.rows.start) → new ≡ visited os (rows_down w ix b.rows.start (b.rows.start + some)) cur → Stopping new (ix + 1) (left - some)
  stopping_next cur new ix left some h t a e =
      record {
        to = omega arith;
        spans = rw e (spans-visited os (rows_down w ix b.rows.start (b.rows.start + some)) cur size t.spans);
        rest =
            ap (visited os (take (left - some) (from (ix + 1)))) e
            ∙ sym (visited-append os (rows_down w ix b.rows.start (b.rows.start + some)) (take (left - some) (from (ix + 1))) cur)
            ∙ ap (λ (ps : List ℕ). visited os ps cur) (sym (ap (take left) (next_column ix h) ∙ take-column w ix b.rows.start b.rows.end left (from (ix + 1)) some (omega (arith, a)) (omega (arith, a)) (lesser left (b.rows.end - b.rows.start) some a)))
            ∙ t.rest;
      }

  -- no column is left
  pub all_columns : (cur : Layer) (ix left : ℕ) → b.columns.end ≤ ix → Stopping cur ix left → cur ≡ visited os (take n (box_visits w b)) l
  unfolding visited box_visits
  all_columns cur ix left h t =
      let e : b.columns.end - ix ≡ 0 = omega arith in
      sym (ap (λ (ps : List ℕ). visited os (take left ps) cur) (ap (λ (m : ℕ). flat_map column (span ix m)) e ∙ flat_map_none column ix) ∙ none left) ∙ t.rest
    where
      column : ℕ → List ℕ
      column i = down w i b.rows.start (b.rows.end - b.rows.start)

      none : (m : ℕ) → visited os (take m []) cur ≡ cur
      none zero = refl
      none (suc m) = refl
