-- A table in which no body has the number that an empty pixel shows.
use Rattle.std.specs.Prelude.{ℕ, ◌<◌, ◌≡◌, List, length}
use Rattle.questions.specs.Questions.{empty}
use Rattle.labels.specs.Labels.{body_of}

abbrev pub NoneAsEmpty : List ℕ → Type 0
NoneAsEmpty tri2body = (face : ℕ) → face < length tri2body → body_of tri2body face ≡ empty → ⊥
