-- Drawing, pixel by pixel.
use Rattle.std.specs.Prelude.{ℕ, ◌*◌, List}
use Rattle.offers.specs.Offer.{offered}
use Rattle.cells.specs.Cell.{Cell}
use Rattle.cells.specs.Layer.{Layer, at, pixelwise}
use Rattle.meshes.specs.Mesh.{Face}
use Rattle.rules.specs.Offers.{Scene, brought}

-- a layer of n pixels after `os p` is brought to each pixel p
unfoldable pub painted : (ℕ → List Cell) → ℕ → Layer → Layer
painted os n l = pixelwise n (λ p. offered (at l p) (os p))

-- the faces drawn on a layer, the first of them numbered k
unfoldable pub drawn : Scene → List Face → ℕ → Layer → Layer
drawn sc fs k l = painted (brought sc fs k) (sc.width * sc.height) l
