-- The cell of a coordinate is its truncation, held below.
use Rattle.std.proofs.Common.{◌≡◌, ℕ, ◌≤◌, min, true, false, sym, arith}
use native.Mathlib.Nat.{min-eq_right, zero-min}
use lib.Ieee.{Float, nan, inf, fin, to_unsigned}
use Rattle.grids.specs.Cell.{cell}

pub cell_cut : (most : ℕ) (x : Float) → most ≤ 4096 → cell most x ≡ min (to_unsigned 64 x) most
unfolding cell to_unsigned
cell_cut most nan l = sym (zero-min most)
cell_cut most (inf true) l = sym (zero-min most)
cell_cut most (inf false) l = sym (min-eq_right (omega arith))
cell_cut most (fin true m e) l = sym (zero-min most)
cell_cut most (fin false m e) l = omega arith
