-- `places::join_pixel`: number, depth and weights, each chosen by the same test.
use Rattle.std.specs.Prelude.{ℕ, ◌≡◌, refl, Bool, true, false, cond, Float}
use Rattle.std.proofs.Common.{◌∙◌, ap}
use Rattle.std.specs.Float.Ieee.{lt}
use Rattle.geometry.specs.Vector.{Weights, weights}
use Rattle.offers.specs.Offer.{pick, exceeds}
use Rattle.cells.specs.Cell.{cell}
use Rattle.cells.specs.Layer.{layer, weights_at}
use Rattle.cells.specs.Steps.{written}
use Rattle.cells.proofs.places.join_pixel.Goals as goal

chosen : (t : Bool) (a b : Float) (m n : ℕ) (x y : Weights Float)
    → cell (cond t b a) (cond t n m) (weights (cond t y.b0 x.b0) (cond t y.b1 x.b1) (cond t y.b2 x.b2)) ≡ cond t (cell b n y) (cell a m x)
chosen true a b m n x y = refl
chosen false a b m n x y = refl

picked : (a b : Float) (m n : ℕ) (x y : Weights Float)
    → cell (cond (lt a b) b a) (cond (lt a b) n m) (weights (cond (lt a b) y.b0 x.b0) (cond (lt a b) y.b1 x.b1) (cond (lt a b) y.b2 x.b2)) ≡ pick (cell a m x) (cell b n y)
unfolding pick exceeds
picked a b m n x y = chosen (lt a b) a b m n x y

pub returns : goal.returns
unfolding weights_at
returns c = let a = c.args in
    c.write.ensures
    ∙ ap (written (layer a.pix2tri.now a.pix2depth.now a.pix2weights.now) a.p)
    (rw (c.pick-depth.ensures, c.pick-number.ensures, c.pick.ensures, c.pick-2.ensures, c.pick-3.ensures) (picked _ _ _ _ _ _))
