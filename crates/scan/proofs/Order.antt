-- A scan whose box is known visits the pixels of the box, column by column.
use Prim.Native.Nat.{ℕ, ◌+◌, ◌-◌, ◌/◌, ◌%◌, ◌<◌}
use mathlib.Core.Path.{◌≡◌, sym, ap, ap₂, ◌∙◌}
use mathlib.Core.Bool.{Bool, true, false, ◌&&◌, cond}
use mathlib.Core.List.{List, [], ◌∷◌, flat_map}
use native.Mathlib.Omega.{arith}
use lib.Ieee.{Float}
use Rattle.lists.specs.Lists.{span, filter}
use Rattle.lists.specs.Laws.Filters.{filter-flat_map, filter-tabulate, flat_map_single, flat_map_range}
use Rattle.lists.specs.Laws.Turns.{turns_same, turns_nothing}
use Rattle.geometry.specs.Vector.{Vec3, Triangle}
use Rattle.pixels.specs.Pixel.{pixel, number_in}
use Rattle.pixels.specs.Laws.{row-at, column-at}
use Rattle.rules.specs.Scan.{scans}
use Rattle.rules.specs.Visits.{down, columnwise, visits}
use Rattle.boxes.specs.declared.Box.{Box}
use Rattle.boxes.specs.Box.{in_range, in_box, Scanned}
use Rattle.scan.specs.Columns.{box_visits}

module _ (s : Triangle (Vec3 Float)) (w h : ℕ) {b : Box} (k : Scanned s w h b) where
  -- the scan holds the pixel numbered p
  abbrev held : ℕ → Bool
  held p = scans s (p % w) (p / w)

  -- the rows of the box, of column ix
  abbrev box_column : ℕ → List ℕ
  box_column ix = down w ix b.rows.start (b.rows.end - b.rows.start)

  -- of a column of the box these are held, of another none
  column-held : (ix : ℕ) → ix < w → filter held (down w ix 0 h) ≡ cond (in_range b.columns.start b.columns.end ix) (box_column ix) []
  unfolding down in_box in_range
  column-held ix l =
      filter-tabulate held number 0 h
      ∙ turns_same (λ iy. cond (held (number iy)) (number iy ∷ []) []) (λ iy. cond (in_box b ix iy) (number iy ∷ []) []) 0 0 h
      (λ i j. ap (λ (t : Bool). cond t (number (0 + i) ∷ []) []) (ap₂ (scans s) (column-at w (0 + i) ix l) (row-at w (0 + i) ix l) ∙ sym (k.visits ix (0 + i) l (omega arith))))
      ∙ go (in_range b.columns.start b.columns.end ix)
    where
      number : ℕ → ℕ
      number iy = number_in w (pixel ix iy)

      go : (t : Bool) → flat_map (λ iy. cond (t && in_range b.rows.start b.rows.end iy) (number iy ∷ []) []) (span 0 h) ≡ cond t (box_column ix) []
      go true = flat_map_range (λ iy. number iy ∷ []) b.rows.start b.rows.end h k.rows.order k.rows.most ∙ flat_map_single number b.rows.start (b.rows.end - b.rows.start)
      go false = turns_nothing (λ iy. []) 0 h (λ i l j. [])

  pub box-visits : visits w h s ≡ box_visits w b
  unfolding visits columnwise box_visits in_range
  box-visits =
      filter-flat_map held (λ ix. down w ix 0 h) (span 0 w)
      ∙ turns_same (λ ix. filter held (down w ix 0 h)) (λ ix. cond (in_range b.columns.start b.columns.end ix) (box_column ix) []) 0 0 w (λ i j. column-held (0 + i) (omega arith))
      ∙ flat_map_range box_column b.columns.start b.columns.end w k.columns.order k.columns.most
