-- What the steps ask and promise.
use Rattle.std.specs.Prelude.{ℕ, ◌+◌, ◌*◌, ◌<◌, ◌≡◌, Bool, List, length}
use Rattle.lists.specs.Lists.{span, every}
use Rattle.questions.specs.Laws.{Channels}
use Rattle.meshes.specs.View.{entry_at}
use Rattle.pixels.specs.Edge.{Axis, Edge, edge_from, per_row}
use Rattle.pairs.specs.declared.Pair.{Pair}
use Rattle.pairs.specs.Pairs.{first_of, second_of}
use Rattle.pairs.specs.Gradient.{PixelValues}

-- values and gradients of n pixels
pub record SoundValues (v : PixelValues) (n : ℕ) : Type 0 where
  pub few : Channels v.channels
  pub values : length v.values ≡ n * v.channels
  pub gradients : length v.gradients ≡ n * v.channels

-- both pixels of the pair from (x, y) lie in the image
pub record Within (w h right down x y : ℕ) : Type 0 where
  pub column : x + right < w
  pub row : y + down < h

-- the code's pair r is the pair e of the map
pub record PairAt (map : List ℕ) (w h : ℕ) (e : Edge) (r : Pair) : Type 0 where
  pub p_number : r.p ≡ first_of w e
  pub p_below : r.p < w * h
  pub q_number : r.q ≡ second_of w e
  pub q_below : r.q < w * h
  pub first_entry : r.first ≡ entry_at map (first_of w e)
  pub second_entry : r.second ≡ entry_at map (second_of w e)

-- whether each pair whose first pixel lies in row y of an image w wide passes a test
unfoldable pub row_passes : (Edge → Bool) → Axis → ℕ → ℕ → Bool
row_passes test a w y = every (λ x. test (edge_from a x y)) (span 0 (per_row a w))
