-- The buffers of an axis, filled pair by pair and row by row.
use Rattle.std.specs.Prelude.{ℕ, ◌+◌, ◌*◌, ◌<◌, ◌≤◌, ◌≡◌, refl, length, Float}
use Rattle.std.proofs.Common.{sym, ◌∙◌, ap, ap₂, mul_comm, arith}
use Rattle.lists.specs.Laws.Filled.{filled_none, filled_next, filled_on, filled_all, length-filled}
use Rattle.pixels.specs.Edge.{Axis, edge_at, edge_from, edge_count, per_row, rows}
use Rattle.pixels.specs.Laws.{number_below}
use Rattle.pairs.specs.Laws.{edge_in_row}
use Rattle.pairs.specs.Pairs.{EdgeView}
use Rattle.pairs.specs.Gradient.{PixelValues}
use Rattle.edge_types.specs.Types.{type_of, dldr_of}
use Rattle.edge_types.specs.Axis.{AxisBuffers, axis_buffers, edges_of}
use Rattle.edge_types.specs.Steps.{put_at, pairs_filled, row_filled}

module _ (a : Axis) (s : EdgeView) (v : PixelValues) where
  abbrev f : ℕ → ℕ
  f i = type_of s (edge_at a s.width i)

  abbrev g : ℕ → Float
  g i = dldr_of s v (edge_at a s.width i)

  abbrev n : ℕ
  n = per_row a s.width

  pub pairs_none : (i : ℕ) (b : AxisBuffers) → b ≡ pairs_filled a s v i 0 b
  pairs_none i b = ap₂ axis_buffers (filled_none f i b.types) (filled_none g i b.dldrs)

  -- one pair more of row y
  pub pair_filled : (y x : ℕ) (b : AxisBuffers) {now : AxisBuffers} {t : ℕ} {d : Float} → x < n → now ≡ pairs_filled a s v (y * n) x b
      → t ≡ type_of s (edge_from a x y) → d ≡ dldr_of s v (edge_from a x y) → put_at now (y * n + x) t d ≡ pairs_filled a s v (y * n) (x + 1) b
  pair_filled y x b {now} {t} {d} h e et ed =
      let k = sym (edge_in_row a s.width x y h) in
      ap₂ axis_buffers
      (filled_next f (y * n) b.types x t now.types (ap (λ (b : AxisBuffers). b.types) e) (et ∙ ap (type_of s) k))
      (filled_next g (y * n) b.dldrs x d now.dldrs (ap (λ (b : AxisBuffers). b.dldrs) e) (ed ∙ ap (dldr_of s v) k))

  -- the buffers keep their lengths
  length-types : (i k : ℕ) (b : AxisBuffers) {now : AxisBuffers} → now ≡ pairs_filled a s v i k b → length now.types ≡ length b.types
  length-types i k b p = ap (λ (b : AxisBuffers). length b.types) p ∙ length-filled f i b.types k

  -- its place is there
  pub place_there : (h y x : ℕ) (b : AxisBuffers) {now : AxisBuffers} → x < n → y < rows a h → length b.types ≡ edge_count a s.width h
      → now ≡ pairs_filled a s v (y * n) x b → y * n + x < length now.types
  place_there h y x b l k e p = rw (length-types (y * n) x b p ∙ e ∙ mul_comm (rows a h) n) (number_below l k)

  -- one row more
  pub row_more : (y : ℕ) (b : AxisBuffers) {now new : AxisBuffers} → now ≡ pairs_filled a s v 0 (y * n) b → new ≡ row_filled a y s v now
      → new ≡ pairs_filled a s v 0 ((y + 1) * n) b
  row_more y b {now} e p =
      let j : y * n + n ≡ (y + 1) * n = omega arith in
      p
      ∙ ap₂ axis_buffers
      (filled_on f b.types now.types _ (y * n) n ((y + 1) * n) (ap (λ (b : AxisBuffers). b.types) e) refl j)
      (filled_on g b.dldrs now.dldrs _ (y * n) n ((y + 1) * n) (ap (λ (b : AxisBuffers). b.dldrs) e) refl j)

  pub types_length : (h y : ℕ) (b : AxisBuffers) {now : AxisBuffers} → now ≡ pairs_filled a s v 0 (y * n) b → length b.types ≡ edge_count a s.width h
      → length now.types ≡ edge_count a s.width h
  types_length h y b p e = length-types 0 (y * n) b p ∙ e

  -- all rows
  pub axis_filled : (h y : ℕ) (b : AxisBuffers) {now : AxisBuffers} → y ≤ rows a h → rows a h ≤ y → length b.types ≡ edge_count a s.width h
      → length b.dldrs ≡ length b.types → now ≡ pairs_filled a s v 0 (y * n) b → now ≡ edges_of a h s v
  unfolding edges_of
  axis_filled h y b l k e d p =
      let same : y ≡ rows a h = omega arith in
      p
      ∙ ap (λ (y : ℕ). pairs_filled a s v 0 (y * n) b) same
      ∙ ap₂ axis_buffers (filled_all f b.types (rows a h * n) e) (filled_all g b.dldrs (rows a h * n) (d ∙ e))
