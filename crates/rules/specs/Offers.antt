-- What the faces bring a pixel, and the offers: defined without drawing, whatever the layer holds.
use Rattle.std.specs.Prelude.{ℕ, ◌/◌, ◌%◌, ◌≡◌, List, [], ◌∷◌, ◌++◌, Float}
use Rattle.cells.specs.Cell.{Candidate, Cell, numbered}
use Rattle.offers.specs.Offers as any
use Rattle.offers.specs.Offers.{offers_of, Greatest}
use Rattle.meshes.specs.Mesh.{Face, vertex_at}
use Rattle.rules.specs.declared.Facing.{Facing}
use Rattle.rules.specs.Piece.{Piece, pieces}
use Rattle.rules.specs.Scan.{screened, counts, candidate}

-- what a drawing is made from beside the faces: matrix, vertices, size, facing
pub record Scene : Type 0 where
  pub matrix : List Float
  pub vertices : List Float
  pub width : ℕ
  pub height : ℕ
  pub facing : Facing

abbrev pub scene : List Float → List Float → ℕ → ℕ → Facing → Scene
scene m xyz w h facing = record { matrix = m; vertices = xyz; width = w; height = h; facing = facing }

unfoldable pub face_pieces : Scene → Face → List Piece
face_pieces sc f =
    pieces sc.matrix (vertex_at sc.vertices f.v0) (vertex_at sc.vertices f.v1) (vertex_at sc.vertices f.v2)

-- what a piece brings pixel number p; pixels are numbered row by row
unfoldable pub piece_brings : Facing → ℕ → ℕ → Piece → ℕ → List Candidate
piece_brings facing w h t p = candidate (counts facing t.turned) (screened w h t.corners) (p % w) (p / w)

unfoldable pub pieces_bring : Facing → ℕ → ℕ → List Piece → ℕ → List Candidate
pieces_bring facing w h [] p = []
pieces_bring facing w h (t ∷ ts) p = piece_brings facing w h t p ++ pieces_bring facing w h ts p

-- what a face brings pixel p, its pieces in the Rust's order
unfoldable pub brings : Scene → Face → ℕ → List Candidate
brings sc f p = pieces_bring sc.facing sc.width sc.height (face_pieces sc f) p

-- what the faces of the list bring pixel p, in list order, the first of them numbered k
unfoldable pub brought : Scene → List Face → ℕ → ℕ → List Cell
brought sc fs k p = any.brought (λ j f. numbered j (brings sc f p)) k fs

-- the offers at pixel p
unfoldable pub offers : Scene → List Face → ℕ → ℕ → List Cell
offers sc fs k p = offers_of (brought sc fs k p)

-- face number i, the first of greatest depth at pixel p, holds it
unfoldable pub Holds : Scene → List Face → ℕ → ℕ → Type 0
Holds sc fs i p = (c : Cell) × Greatest (offers sc fs 0 p) c × (c.payload.number ≡ i)
