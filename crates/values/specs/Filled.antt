-- What the loops of `interpolate` promise of a part of the buffer.
use Rattle.std.specs.Prelude.{ℕ, ◌+◌, List, ◌++◌, Float, get_or, take, drop}
use Rattle.std.specs.Float.{nan}
use Rattle.lists.specs.Lists.{tabulate}

-- the places k from `from` on, n of them, hold F k of what they held
unfoldable pub filled : (ℕ → Float → Float) → ℕ → ℕ → List Float → List Float
filled F from n xs = take from xs ++ (tabulate (λ k. F k (get_or xs k nan)) from n ++ drop (from + n) xs)
