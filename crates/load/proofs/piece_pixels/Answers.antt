-- `load::piece_pixels`: no column, or the columns times the rows.
use native.Mathlib.Omega.{arith}
use Rattle.rules.specs.Scan.{screened, on_screen}
use Rattle.load.proofs.Pixels.{counted, no_columns, product_fits}
use Rattle.load.proofs.piece_pixels.Goals as goal

pub returns-then-columns-eq0 : goal.returns-then-columns-eq0
unfolding screened on_screen
returns-then-columns-eq0 c = λ turned. rw (← c.corners-t.ensures) (no_columns _ _ _ (rw (c.columns.ensures.along, c.columns.ensures.n) at c.count_centres-columns.ensures) c.if-columns-eq0.true)

pub overflow_mul-result : goal.overflow_mul-result
overflow_mul-result c = record {
  fits = omega (
    arith,
    product_fits _ _ c.args.size.sized
        (rw c.columns.ensures.n at c.count_centres-columns.ensures)
        (rw c.rows.ensures.n at c.count_centres-rows.ensures),
  );
}

pub returns : goal.returns
unfolding screened on_screen
returns c = λ turned. rw (← c.corners-t.ensures) (counted _ _ _
    (rw (c.columns.ensures.along, c.columns.ensures.n) at c.count_centres-columns.ensures)
    (rw (c.rows.ensures.along, c.rows.ensures.n) at c.count_centres-rows.ensures))
