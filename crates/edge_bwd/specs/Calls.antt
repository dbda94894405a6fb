-- The whole outcome of `bwd`.
use Rattle.std.specs.Prelude.{ℕ, ◌/◌, Bool, ◌&&◌, List, [], ◌∷◌, ◌++◌, length, Float}
use Rattle.questions.specs.Questions.{Question, ask, first_no, Outcome, answer, exact, opening, naming}
use Rattle.meshes.specs.Sums.{Addition, summed}
use Rattle.pixels.specs.Edge.{hedge, vedge}
use Rattle.pairs.specs.Pairs.{EdgeView, both_answered}
use Rattle.pairs.specs.Gradient.{PixelValues, exact_pixels}
use Rattle.unwraps.specs.Unwraps.{both_unwrap}
use Rattle.axis_bwd.specs.Additions.{axis_additions}

-- 4: the map, values and gradients, and as many coordinates in the accumulator as in the vertices
abbrev pub exact_bwd : ℕ → ℕ → List ℕ → PixelValues → List Float → List Float → Bool
exact_bwd w h map v xyz dxyz = exact_pixels w h map v && exact (length xyz) (length dxyz)

-- 8, and 9 after it, of both axes
abbrev pub of_pairs : ℕ → EdgeView → List Question
of_pairs h s = ask 8 (both_answered h s) ∷ ask 9 (both_unwrap h s) ∷ []

-- the questions, of the face list `tri2vtx`, the map `pix2tri`, what the pass sees, and the accumulator
unfoldable pub bwd_code : List ℕ → List ℕ → ℕ → EdgeView → PixelValues → List Float → ℕ
bwd_code tri map h s v dxyz =
    first_no
    (opening s.width h v.channels (length tri) (length s.vertices)
    ++ ask 4 (exact_bwd s.width h map v s.vertices dxyz) ∷ (naming (length s.vertices / 3) tri map ++ of_pairs h s))

-- what the pass adds, in order: horizontal edges first, then vertical ones
unfoldable pub pass_additions : ℕ → EdgeView → PixelValues → List Addition
pass_additions h s v = axis_additions hedge h s v ++ axis_additions vedge h s v

-- the code, and `dldw_vtx2xyz` afterwards
unfoldable pub edge_bwd : List ℕ → List ℕ → ℕ → EdgeView → PixelValues → List Float → Outcome (List Float)
edge_bwd tri map h s v dxyz = answer (bwd_code tri map h s v dxyz) dxyz (summed dxyz (pass_additions h s v))
