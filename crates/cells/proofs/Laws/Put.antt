-- One pixel of a layer to which a cell is brought: what is stored is what a step leaves.
use Rattle.std.specs.Prelude.{ℕ, ◌≡◌, refl, true, false, Float}
use Rattle.std.proofs.Common.{sym}
use Rattle.std.proofs.lemmas.Bool.{false≢true}
use Rattle.std.specs.Float.{nan, inf, fin}
use Rattle.std.specs.Float.Ieee.{lt}
use Rattle.std.proofs.lemmas.List.{set-get_or}
use Rattle.offers.specs.Offer.{lowest, exceeds, pick}
use Rattle.cells.specs.Cell.{Cell}
use Rattle.cells.specs.Layer.{Layer, at}
use Rattle.cells.specs.Steps.{written, stepped}
use Rattle.cells.proofs.Laws.Weights.{weights-kept}
use Rattle.cells.proofs.Laws.Cells.{same_buffers}

-- ---- what a test leaves written

-- the cell that stands there
pub same_written : (l : Layer) (p : ℕ) → l ≡ written l p (at l p)
same_written l p = sym (same_buffers (set-get_or l.pix2tri p 0) (set-get_or l.pix2depth p nan) (weights-kept l.pix2weights p))

pub kept_step : (l : Layer) (p : ℕ) (c : Cell) → lt (at l p).depth c.depth ≡ false → l ≡ stepped l p c
unfolding stepped pick exceeds
kept_step l p c e = rw e (same_written l p)

pub taken_step : (l : Layer) (p : ℕ) (c : Cell) → lt (at l p).depth c.depth ≡ true → written l p c ≡ stepped l p c
unfolding stepped pick exceeds
taken_step l p c e = rw e

-- ---- −infinity and NaN are never greater

pub never_greater : (z : Float) → lt lowest z ≡ false → (d : Float) → lt d z ≡ false
unfolding lt
never_greater nan e nan = refl
never_greater nan e (inf s) = refl
never_greater nan e (fin s m x) = refl
never_greater (inf true) e nan = refl
never_greater (inf true) e (inf true) = refl
never_greater (inf true) e (inf false) = refl
never_greater (inf true) e (fin s m x) = refl
never_greater (inf false) e d = absurd (false≢true (sym e))
never_greater (fin t n y) e d = absurd (false≢true (sym e))
