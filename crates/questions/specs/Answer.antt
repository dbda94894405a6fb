-- What the code's refusals stand for: 01's numbers of the questions.
use Rattle.std.specs.Prelude.{ℕ, Result, Ok, Err}
use Rattle.questions.specs.declared.Refusal.{Refusal}
use Rattle.questions.specs.declared.Refusal.TheVariants.{Size, Channels, Slices, Lengths, Numbers, Vertices, Faces, Projections, Weights, Edges}

-- the number of the question that was answered no
abbrev pub number_of : Refusal → ℕ
number_of Size = 1
number_of Channels = 2
number_of Slices = 3
number_of Lengths = 4
number_of Numbers = 5
number_of Vertices = 6
number_of Faces = 7
number_of Projections = 8
number_of Weights = 9
number_of Edges = 10

-- "Accepted is 0. The first no gives its number."
abbrev pub code_of : {A : Type 0} → Result A Refusal → ℕ
code_of (Ok _) = 0
code_of (Err r) = number_of r
