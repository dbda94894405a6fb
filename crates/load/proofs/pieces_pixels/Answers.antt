-- `load::pieces_pixels`: none, one or two.
use mathlib.Core.Bool.{false}
use native.Mathlib.Omega.{arith}
use Rattle.rules.specs.Piece.{two_pieces}
use Rattle.load.proofs.Pixels.{sum_of_none, sum-of-one, sum_of_two, two_fit}
use Rattle.load.proofs.pieces_pixels.Goals as goal

pub returns-in-Nothing : goal.returns-in-Nothing
returns-in-Nothing c = rw c.in-Nothing.is (sum_of_none _ _)

pub returns-in-Whole : goal.returns-in-Whole
returns-in-Whole c = rw (c.in-Whole.is, ← c.whole.ensures) (sum-of-one _ _ _ (c.piece_pixels.ensures _))

pub returns-in-One : goal.returns-in-One
returns-in-One c = rw (c.in-One.is, ← c.one_piece.ensures) (sum-of-one _ _ _ (c.piece_pixels-in-One.ensures _))

pub overflow_add-result : goal.overflow_add-result
overflow_add-result c = record { fits = omega (arith, two_fit _ _ c.args.size.sized _ _ (c.piece_pixels-in-Two.ensures false) (c.piece_pixels-in-Two-2.ensures false)) }

pub returns-in-Two : goal.returns-in-Two
unfolding two_pieces
returns-in-Two c = rw (c.in-Two.is, ← c.first_piece-first.ensures, ← c.second_piece-second.ensures)
    (sum_of_two _ _ _ _ (c.piece_pixels-in-Two.ensures _) (c.piece_pixels-in-Two-2.ensures _))
