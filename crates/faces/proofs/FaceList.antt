-- The faces of a list, drawn one after the other.
use Prim.Native.Nat.{ℕ, ◌+◌, ◌*◌, ◌/◌, ◌≤◌, ◌<◌}
use mathlib.Core.Path.{◌≡◌, sym, ap, ◌∙◌}
use mathlib.Core.List.{List, ◌∷◌, ◌++◌}
use native.Mathlib.Numerals.{add-one}
use native.Mathlib.Omega.{arith}
use lib.ListN.{length, drop, drop_of_length-le}
use Rattle.offers.specs.Offers as any
use Rattle.cells.specs.Layer.{Layer}
use Rattle.cells.specs.Steps.{Spans}
use Rattle.meshes.specs.Mesh.{Face, face_at, faces_of}
use Rattle.meshes.specs.Laws.{length-faces, faces-from}
use Rattle.rules.specs.Offers.{Scene, face_pieces, brings, brought}
use Rattle.rules.specs.Draw.{painted, drawn}
use Rattle.rules.proofs.Laws.Paint.{spans-painted, painted_same, painted-append, drawn_none}
use Rattle.raster.specs.Face.{pieces_cells}

module _ (sc : Scene) where
  -- what is still to be brought, with the face at hand
  rest_is : (f : Face) (fs : List Face) (k p : ℕ) → pieces_cells sc.facing sc.width sc.height (face_pieces sc f) k p ++ brought sc fs (k + 1) p ≡ brought sc (f ∷ fs) k p
  unfolding brought any.brought pieces_cells brings
  rest_is f fs k p = rw add-one

  -- a face drawn: the others are left
  pub face_done :
      (f : Face) (fs : List Face) (k : ℕ) (cur new : Layer)
      → new ≡ painted (pieces_cells sc.facing sc.width sc.height (face_pieces sc f) k) (sc.width * sc.height) cur
      → drawn sc fs (k + 1) new ≡ drawn sc (f ∷ fs) k cur
  unfolding drawn
  face_done f fs k cur new e =
      ap (painted (brought sc fs (k + 1)) (sc.width * sc.height)) e
      ∙ painted-append (sc.width * sc.height) cur (pieces_cells sc.facing sc.width sc.height (face_pieces sc f) k) (brought sc fs (k + 1))
      ∙ painted_same (sc.width * sc.height) cur (λ p. pieces_cells sc.facing sc.width sc.height (face_pieces sc f) k p ++ brought sc fs (k + 1) p) (brought sc (f ∷ fs) k) (λ p m. rest_is f fs k p)

-- Before face i: it and the faces after it are all that is left to draw.
pub record Left (sc : Scene) (fs : List Face) (first : ℕ) (l cur : Layer) (i : ℕ) : Type 0 where
  pub spans : Spans cur (sc.width * sc.height)
  pub is : drawn sc (drop i fs) (first + i) cur ≡ drawn sc fs first l

pub left_all : (sc : Scene) (fs : List Face) (first : ℕ) (l : Layer) → Spans l (sc.width * sc.height) → Left sc fs first l l 0
left_all sc fs first l s = let e : first + 0 ≡ first = omega arith in record { spans = s; is = ap (λ (k : ℕ). drawn sc fs k l) e }

pub left_less :
    (sc : Scene) (tri : List ℕ) (first : ℕ) (l cur new : Layer) (i : ℕ)
    → i < length tri / 3
    → Left sc (faces_of tri) first l cur i
    → new ≡ painted (pieces_cells sc.facing sc.width sc.height (face_pieces sc (face_at tri i)) (first + i)) (sc.width * sc.height) cur
    → Left sc (faces_of tri) first l new (i + 1)
left_less sc tri first l cur new i h t e =
    let next : first + (i + 1) ≡ first + i + 1 = omega arith in
    record {
      spans = rw e (spans-painted (pieces_cells sc.facing sc.width sc.height (face_pieces sc (face_at tri i)) (first + i)) (sc.width * sc.height) cur);
      is =
          ap (λ (k : ℕ). drawn sc (drop (i + 1) (faces_of tri)) k new) next
          ∙ face_done sc (face_at tri i) (drop (i + 1) (faces_of tri)) (first + i) cur new e
          ∙ ap (λ (fs : List Face). drawn sc fs (first + i) cur) (sym (faces-from tri i h))
          ∙ t.is;
    }

pub left_none : (sc : Scene) (tri : List ℕ) (first : ℕ) (l cur : Layer) (i : ℕ) → length tri / 3 ≤ i → Left sc (faces_of tri) first l cur i → cur ≡ drawn sc (faces_of tri) first l
left_none sc tri first l cur i h t =
    sym (drawn_none sc (first + i) cur t.spans)
    ∙ ap (λ (fs : List Face). drawn sc fs (first + i) cur) (sym (drop_of_length-le (faces_of tri) {i = i} (omega (arith, length-faces tri))))
    ∙ t.is
