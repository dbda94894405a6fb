-- The whole outcome of `edge_gradient_and_type`.
use Rattle.std.specs.Prelude.{ℕ, ◌/◌, Bool, ◌&&◌, List, [], ◌∷◌, ◌++◌, length}
use Rattle.questions.specs.Questions.{Question, ask, first_no, Outcome, answer, exact, opening, naming}
use Rattle.pixels.specs.Edge.{Axis, hedge, vedge, edge_count}
use Rattle.pairs.specs.Pairs.{EdgeView, both_answered}
use Rattle.pairs.specs.Gradient.{PixelValues, exact_pixels}
use Rattle.edge_types.specs.Axis.{AxisBuffers, edges_of}

-- the buffers of both axes
pub record EdgeBuffers : Type 0 where
  pub hedges : AxisBuffers
  pub vedges : AxisBuffers

abbrev pub edge_buffers : AxisBuffers → AxisBuffers → EdgeBuffers
edge_buffers hs vs = record { hedges = hs; vedges = vs }

-- 4, of one axis's buffers and of both
abbrev pub exact_axis : Axis → ℕ → ℕ → AxisBuffers → Bool
exact_axis a w h b = exact (edge_count a w h) (length b.types) && exact (edge_count a w h) (length b.dldrs)

abbrev pub exact_edges : ℕ → ℕ → EdgeBuffers → Bool
exact_edges w h b = exact_axis hedge w h b.hedges && exact_axis vedge w h b.vedges

-- 4: the map, values and gradients, and both axes' buffers
abbrev pub exact_all : ℕ → ℕ → List ℕ → PixelValues → EdgeBuffers → Bool
exact_all w h map v b = exact_pixels w h map v && exact_edges w h b

-- 6 to 8
abbrev pub closing : List ℕ → List ℕ → ℕ → EdgeView → List Question
closing tri map h s = naming (length s.vertices / 3) tri map ++ ask 8 (both_answered h s) ∷ []

-- the questions, of the face list `tri2vtx`, the map `pix2tri`, what the pass sees, and the buffers lent
unfoldable pub edge_code : List ℕ → List ℕ → ℕ → EdgeView → PixelValues → EdgeBuffers → ℕ
edge_code tri map h s v b =
    first_no
    (opening s.width h v.channels (length tri) (length s.vertices)
    ++ ask 4 (exact_all s.width h map v b) ∷ closing tri map h s)

-- the code, and both axes' buffers afterwards
unfoldable pub edge_typing : List ℕ → List ℕ → ℕ → EdgeView → PixelValues → EdgeBuffers → Outcome EdgeBuffers
edge_typing tri map h s v b = answer (edge_code tri map h s v b) b (edge_buffers (edges_of hedge h s v) (edges_of vedge h s v))
