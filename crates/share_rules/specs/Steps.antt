-- What the steps promise of a face beside an empty pixel.
use Rattle.std.specs.Prelude.{ℕ, cond, List, [], ◌∷◌, Float}
use Rattle.std.proofs.Math.Option.{some}
use Rattle.geometry.specs.Vector.{Vec2}
use Rattle.meshes.specs.Mesh.{Face}
use Rattle.inside.specs.Inside.{all_inside, contains}
use Rattle.crossings.specs.Crossing.{along}
use Rattle.share_rules.specs.Shares.{Share, share}

-- the share of a face beside an empty pixel, of its own pixel's centre and the empty one's: none where the face contains that too
unfoldable pub beside_empty : ℕ → List Float → List Float → Face → Vec2 Float → Vec2 Float → List Share
beside_empty axis m xyz f own other = cond (contains all_inside m xyz (some f) other) [] (share f own (along axis) ∷ [])
