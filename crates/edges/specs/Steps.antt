-- What an accepted call knows.
use Rattle.std.specs.Prelude.{ℕ, ◌*◌, List, Float}
use Rattle.meshes.specs.Sound.{SoundMap}
use Rattle.pixels.specs.Edge.{hedge, vedge}
use Rattle.pairs.specs.Gradient.{PixelValues}
use Rattle.pairs.specs.Steps.{SoundValues}
use Rattle.edge_types.specs.Axis.{SoundAxis}
use Rattle.edges.specs.Calls.{EdgeBuffers}

pub record Ready (tri map : List ℕ) (xyz : List Float) (w h : ℕ) (v : PixelValues) (b : EdgeBuffers) : Type 0 where
  pub image : SoundMap tri xyz map w h
  pub values : SoundValues v (w * h)
  pub hedges : SoundAxis hedge w h b.hedges
  pub vedges : SoundAxis vedge w h b.vedges
