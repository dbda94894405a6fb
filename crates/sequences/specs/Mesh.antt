-- An accepted mesh.
use Rattle.std.specs.Prelude.{ℕ, ◌/◌, ◌≡◌, true, List, length}
use Rattle.questions.specs.Questions.{sizes, groups, all_below, most_count}
use Rattle.rules.specs.Offers.{Scene}

-- what an accepted draw answers yes: questions 1, 3 and 6
pub record Answered (sc : Scene) (tri : List ℕ) : Type 0 where
  pub sized : sizes 1 sc.width sc.height ≡ true
  pub faces : groups 3 most_count (length tri) ≡ true
  pub vertices : groups 3 most_count (length sc.vertices) ≡ true
  pub corners : all_below (length sc.vertices / 3) tri ≡ true
