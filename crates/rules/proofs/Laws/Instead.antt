-- What a piece brings a pixel, said in another way: then what the faces bring it, and the layers that they are drawn on, can be said so, too.
use Rattle.std.specs.Prelude.{ℕ, suc, ◌*◌, ◌≡◌}
use Rattle.std.proofs.Math.Path.{refl, ap₂}
use mathlib.Core.List.{List, [], ◌∷◌, ◌++◌, flat_map}
use Rattle.offers.specs.Offers as any
use Rattle.cells.specs.Cell.{Candidate, Cell, numbered}
use Rattle.cells.specs.Layer.{Layer}
use Rattle.meshes.specs.Mesh.{Face}
use Rattle.rules.specs.Piece.{Piece}
use Rattle.rules.specs.Offers.{Scene, face_pieces, piece_brings, pieces_bring, brings, brought}
use Rattle.rules.specs.Draw.{painted, drawn}
use Rattle.rules.proofs.Laws.Paint.{painted_same}

module _ (one : Piece → ℕ → List Candidate) (sc : Scene) where
  -- what the faces of a list bring pixel p, where a piece brings `one`
  unfoldable pub brought_by : List Face → ℕ → ℕ → List Cell
  brought_by fs k p = any.brought (λ j f. numbered j (flat_map (λ t. one t p) (face_pieces sc f))) k fs

  module _ (same : (t : Piece) (p : ℕ) → piece_brings sc.facing sc.width sc.height t p ≡ one t p) where
    pieces-by : (ts : List Piece) (p : ℕ) → pieces_bring sc.facing sc.width sc.height ts p ≡ flat_map (λ t. one t p) ts
    unfolding pieces_bring flat_map
    pieces-by [] p = refl
    pieces-by (t ∷ ts) p = ap₂ ◌++◌ (same t p) (pieces-by ts p)

    face-by : (f : Face) (p : ℕ) → brings sc f p ≡ flat_map (λ t. one t p) (face_pieces sc f)
    unfolding brings
    face-by f p = pieces-by (face_pieces sc f) p

    pub brought-by : (fs : List Face) (k p : ℕ) → brought sc fs k p ≡ brought_by fs k p
    unfolding brought brought_by any.brought
    brought-by [] k p = refl
    brought-by (f ∷ fs) k p = ap₂ (λ (os : List Candidate) (cs : List Cell). numbered k os ++ cs) (face-by f p) (brought-by fs (suc k) p)

    pub drawn-by : (fs : List Face) (k : ℕ) (l : Layer) → drawn sc fs k l ≡ painted (brought_by fs k) (sc.width * sc.height) l
    unfolding drawn
    drawn-by fs k l = painted_same (sc.width * sc.height) l (brought sc fs k) (brought_by fs k) (λ p m. brought-by fs k p)
