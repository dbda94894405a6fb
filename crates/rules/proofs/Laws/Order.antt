-- The order of the visits: the pixel at place k of an image's pixels lies in column k / h and row k % h.
use Rattle.std.specs.Prelude.{ℕ, zero, suc, ◌+◌, ◌*◌, ◌/◌, ◌%◌, ◌≡◌}
use Rattle.std.proofs.Common.{sym, ap, ap₂, ◌∙◌, zero-add, zero-mul, arith}
use mathlib.Core.List.{◌++◌, flat_map}
use Rattle.lists.specs.Lists.{tabulate, span}
use Rattle.lists.specs.Laws.Tables.{tabulate-add, tabulate_same}
use Rattle.lists.specs.Laws.Turns.{flat_map_none, flat_map-one, flat_map-add}
use Rattle.pixels.specs.Pixel.{pixel, number_in}
use Rattle.pixels.specs.Laws.{row-at, column-at}
use Rattle.rules.specs.Visits.{down, columnwise}

-- column by column, leftmost first and each from the top
pub columnwise_places : (w h : ℕ) → columnwise w h ≡ tabulate (λ k. number_in w (pixel (k / h) (k % h))) 0 (w * h)
unfolding columnwise down tabulate
columnwise_places w h = columns w
  where
    place : ℕ → ℕ
    place k = number_in w (pixel (k / h) (k % h))

    -- one column
    column : (ix : ℕ) → down w ix 0 h ≡ tabulate place (0 + ix * h) h
    column ix =
        tabulate_same (λ y. number_in w (pixel ix y)) place 0 (0 + ix * h) h
        (λ k l.
        let e : ix * h + k ≡ 0 + ix * h + k = omega arith in
        sym (ap place (sym e) ∙ ap₂ (λ (x y : ℕ). number_in w (pixel x y)) (row-at h ix k l) (column-at h ix k l ∙ sym (zero-add k))))

    -- the first m columns
    columns : (m : ℕ) → flat_map (λ ix. down w ix 0 h) (span 0 m) ≡ tabulate place 0 (m * h)
    columns zero = flat_map_none (λ ix. down w ix 0 h) 0 ∙ sym (ap (tabulate place 0) (zero-mul h))
    columns (suc m) =
        let e : suc m ≡ m + 1 = omega arith in
        let i : m * h + h ≡ suc m * h = omega arith in
        ap (λ (n : ℕ). flat_map (λ ix. down w ix 0 h) (span 0 n)) e
        ∙ flat_map-add (λ ix. down w ix 0 h) 0 m 1
        ∙ ap₂ ◌++◌ (columns m) (ap (λ (n : ℕ). flat_map (λ ix. down w ix 0 h) (span n 1)) (zero-add m) ∙ flat_map-one (λ ix. down w ix 0 h) m ∙ column m)
        ∙ sym (tabulate-add place 0 (m * h) h)
        ∙ ap (tabulate place 0) i
