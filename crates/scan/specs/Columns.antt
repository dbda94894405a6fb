-- The pixels of a box, column by column.
use Rattle.std.specs.Prelude.{ℕ, ◌-◌}
use mathlib.Core.List.{List, flat_map}
use Rattle.lists.specs.Lists.{span}
use Rattle.rules.specs.Visits.{down}
use Rattle.boxes.specs.declared.Box.{Box}

-- the pixels of a box of an image w wide, leftmost column first and each from the top
unfoldable pub box_visits : ℕ → Box → List ℕ
box_visits w b = flat_map (λ ix. down w ix b.rows.start (b.rows.end - b.rows.start)) (span b.columns.start (b.columns.end - b.columns.start))
