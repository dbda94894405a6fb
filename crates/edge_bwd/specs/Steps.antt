-- What an accepted call knows.
use Rattle.std.specs.Prelude.{ℕ, ◌*◌, ◌≡◌, true, List, length, Float}
use Rattle.meshes.specs.Sound.{SoundMap}
use Rattle.pixels.specs.Edge.{hedge, vedge}
use Rattle.pairs.specs.Pairs.{EdgeView, all_answered}
use Rattle.pairs.specs.Gradient.{PixelValues}
use Rattle.pairs.specs.Steps.{SoundValues}

pub record Ready (tri map : List ℕ) (h : ℕ) (s : EdgeView) (v : PixelValues) (dxyz : List Float) : Type 0 where
  pub image : SoundMap tri s.vertices map s.width h
  pub values : SoundValues v (s.width * h)
  pub sums : length dxyz ≡ length s.vertices
  pub hedges : all_answered hedge h s ≡ true
  pub vedges : all_answered vedge h s ≡ true
