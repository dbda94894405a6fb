-- An axis's pairs, column by column.
use Rattle.std.specs.Prelude.{ℕ, ◌+◌, ◌*◌, ◌≡◌}
use Rattle.std.proofs.Common.{◌∙◌, ap, ap₂, mul_comm, arith}
use mathlib.Core.List.{List, flat_map}
use Rattle.lists.specs.Lists.{span}
use Rattle.lists.specs.Laws.Turns.{turns_same, turns_by_rows}
use Rattle.meshes.specs.Sums.{Addition}
use Rattle.pixels.specs.Edge.{Axis, edge_from, per_row, rows}
use Rattle.pixels.specs.Laws.{row-at, column-at}
use Rattle.pairs.specs.Pairs.{EdgeView}
use Rattle.pairs.specs.Gradient.{PixelValues}
use Rattle.share_rules.specs.Additions.{pair_additions}
use Rattle.axis_bwd.specs.Additions.{edge_down, column_additions, axis_additions}

module _ (a : Axis) (h : ℕ) (s : EdgeView) (v : PixelValues) where
  abbrev turn : ℕ → List Addition
  turn i = pair_additions a s v (edge_down a h i)

  column : (x : ℕ) → flat_map turn (span (x * rows a h) (rows a h)) ≡ column_additions a h s v x
  unfolding column_additions edge_down
  column x =
      turns_same turn (λ y. pair_additions a s v (edge_from a x y)) (x * rows a h) 0 (rows a h)
      (λ y l.
      let j : y ≡ 0 + y = omega arith in
      ap₂ (λ (c r : ℕ). pair_additions a s v (edge_from a c r)) (row-at (rows a h) x y l) (column-at (rows a h) x y l ∙ j))

  pub by_columns : axis_additions a h s v ≡ flat_map (column_additions a h s v) (span 0 (per_row a s.width))
  unfolding axis_additions
  by_columns = ap (λ (n : ℕ). flat_map turn (span 0 n)) (mul_comm (rows a h) (per_row a s.width)) ∙ turns_by_rows turn (column_additions a h s v) (rows a h) (per_row a s.width) column
