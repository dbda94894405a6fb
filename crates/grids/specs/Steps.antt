-- What the steps of the call ask and promise.
use Rattle.std.specs.Prelude.{ℕ, ◌<◌}
use Rattle.grids.specs.Cell.{Stand, stand}
use Rattle.grids.specs.declared.Stand as code

abbrev pub stand_of : code.Stand → Stand
stand_of a = stand a.low a.high a.t

-- both places are below n
pub record Below (n low high : ℕ) : Type 0 where
  pub lower : low < n
  pub upper : high < n
