-- 01, "The questions, in order". A call lists its questions, each by its number and its answer, in the order in which they are asked; one that it has no matter for is left out.
use Rattle.std.specs.Prelude.{ℕ, ◌+◌, ◌/◌, ◌%◌, Bool, ◌&&◌, ◌||◌, cond, List, [], ◌∷◌, leb, ltb, eqb, length}
use Rattle.lists.specs.Lists.{every}

-- a question: its number, and its answer for the arguments at hand
pub record Question : Type 0 where
  pub number : ℕ
  pub answer : Bool

abbrev pub ask : ℕ → Bool → Question
ask n a = record { number = n; answer = a }

-- "Accepted is 0. The first no gives its number."
unfoldable pub first_no : List Question → ℕ
first_no [] = 0
first_no (q ∷ qs) = cond q.answer (first_no qs) q.number

-- what a call gives: its code, and what it was lent to write, as it is afterwards
pub record Outcome (A : Type 0) : Type 0 where
  pub code : ℕ
  pub left : A

abbrev pub outcome : {A : Type 0} → ℕ → A → Outcome A
outcome code left = record { code = code; left = left }

-- ".. before any write": a refused call leaves what it was lent as it was
abbrev pub answer : {A : Type 0} → ℕ → A → A → Outcome A
answer code before after = outcome code (cond (eqb code 0) after before)

-- the bounds of 01
abbrev pub most_size : ℕ
most_size = 4096

abbrev pub most_channels : ℕ
most_channels = 16

abbrev pub most_count : ℕ
most_count = 1048576

-- 02, Point 1: "at most 3,145,728 edges"
abbrev pub most_edges : ℕ
most_edges = 3145728

-- the map's entry of a pixel that shows no face, "called empty"
abbrev pub empty : ℕ
empty = 4294967295

-- 1. Are width and height from 1 to 4,096 (from 2 in `interpolate_from_edges`)?
unfoldable pub sizes : ℕ → ℕ → ℕ → Bool
sizes least w h = leb least w && (leb w most_size && (leb least h && leb h most_size))

-- 2. Are channels per pixel from 1 to 16?
unfoldable pub channels : ℕ → Bool
channels n = leb 1 n && leb n most_channels

-- 3. Is a vertex or face slice a multiple of 3 (or 2), for at most `most` of them?
unfoldable pub groups : ℕ → ℕ → ℕ → Bool
groups of most n = eqb (n % of) 0 && leb (n / of) most

-- of a mesh: its face slice and its vertex slice, so many numbers long
abbrev pub slices : ℕ → ℕ → Bool
slices tri xyz = groups 3 most_count tri && groups 3 most_count xyz

-- 02, Point 1: of an outline, "edge slices, by twos", and of the mesh's vertex slice
abbrev pub edge_slices : ℕ → ℕ → Bool
edge_slices edges xyz = groups 2 most_edges edges && groups 3 most_count xyz

-- of a face count by itself
unfoldable pub bounded : ℕ → Bool
bounded faces = leb faces most_count

-- 4. Has a buffer the exact length?
unfoldable pub exact : ℕ → ℕ → Bool
exact n len = eqb len n

-- 5. Is first number plus face count at most 1,048,576?
unfoldable pub numbers : ℕ → ℕ → Bool
numbers first faces = leb (first + faces) most_count

-- 6. Is every vertex number in every face below the vertex count?  10 asks it of outline edges (02, Point 1).
abbrev pub all_below : ℕ → List ℕ → Bool
all_below n = every (λ x. ltb x n)

-- 7. Is every map entry below the face count, or empty?
unfoldable pub names_face : ℕ → ℕ → Bool
names_face n x = ltb x n || eqb x empty

abbrev pub names_faces : ℕ → List ℕ → Bool
names_faces n = every (names_face n)

-- 6 and 7, of a pass over a map of a mesh with so many vertices
abbrev pub naming : ℕ → List ℕ → List ℕ → List Question
naming vertices tri map = ask 6 (all_below vertices tri) ∷ ask 7 (names_faces (length tri / 3) map) ∷ []

-- 1 to 3, of a pass over an image of a mesh with so many numbers in its face slice and its vertex slice
abbrev pub opening : ℕ → ℕ → ℕ → ℕ → ℕ → List Question
opening w h c tri xyz = ask 1 (sizes 1 w h) ∷ ask 2 (channels c) ∷ ask 3 (slices tri xyz) ∷ []
