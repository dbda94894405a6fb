-- What the code's enum and arrays of corners stand for: 01's values for each of their cases.
use Rattle.std.specs.Prelude.{Bool, List, [], get_or, ℕ, Float}
use Rattle.std.specs.Float.{nan}
use Rattle.geometry.specs.Vector.{Vec3, vec3, Triangle, triangle}
use Rattle.rules.specs.Piece
use Rattle.rules.specs.Piece.{piece, whole, one_piece, two_pieces}
use Rattle.corners.specs.Answer.{corner_of}
use Rattle.pieces.specs.declared.Pieces.{Pieces}
use Rattle.pieces.specs.declared.Pieces.TheVariants.{Nothing, Whole, One, Two}

-- none, the face whole, one piece or two
abbrev pub pieces_of : Pieces → List Piece.Piece
pieces_of Nothing = []
pieces_of (Whole t) = whole (corner_of t.p0) (corner_of t.p1) (corner_of t.p2)
pieces_of (One l) = one_piece l.turned (corner_of l.lone) (corner_of l.a) (corner_of l.b)
pieces_of (Two l) = two_pieces l.turned (corner_of l.lone) (corner_of l.a) (corner_of l.b)

-- row i of an array of three corners
abbrev pub row_of : List (List Float) → ℕ → Vec3 Float
row_of t i = vec3 (get_or (get_or t i []) 0 nan) (get_or (get_or t i []) 1 nan) (get_or (get_or t i []) 2 nan)

abbrev pub corners_in : List (List Float) → Triangle (Vec3 Float)
corners_in t = triangle (row_of t 0) (row_of t 1) (row_of t 2)

-- the flag stands beside the array
abbrev pub piece_of : Bool → List (List Float) → Piece.Piece
piece_of turned t = piece turned (corners_in t)
