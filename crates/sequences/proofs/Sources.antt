-- 02, Point 9: what a covered pixel holds comes from one piece of the face that it names: the weights are those of the pixel's centre in that piece, and the depth
-- is their blend with the depths of its corners.
use Prim.Native.Nat.{ℕ, suc, ◌+◌, ◌/◌, ◌%◌, ◌<◌}
use Rattle.std.specs.Prelude.{◌≡◌, ◌⊎◌, Bool, true, false, cond, Float, length, get_or}
use Rattle.std.proofs.Math.Path.{refl, subst}
use Rattle.std.proofs.Math.Logic.{inl, inr}
use Rattle.std.proofs.Math.Option.{Option, none, some}
use mathlib.Core.List.Memᴰ
use mathlib.Core.List.{List, [], ◌∷◌, Memᴰ}
use Rattle.std.proofs.Common.{zero-add}
use native.Mathlib.Omega.{arith}
use Rattle.geometry.specs.Arith.{floats}
use Rattle.geometry.specs.Vector.{Vec3, flat, Weighed, weighed_by, Triangle}
use Rattle.geometry.specs.Formula.{blend}
use Rattle.geometry.specs.Leaf.{corner_weights}
use Rattle.offers.specs.Offer.{offer, renamed}
use Rattle.offers.specs.Offers as any
use Rattle.offers.specs.Offers.{Shows, uncovered, covered}
use Rattle.offers.proofs.Laws.Removal.{is_there, was_brought}
use Rattle.cells.specs.Cell.{Candidate, hit, Cell, numbered, no_hit, clear}
use Rattle.cells.specs.Layer.{at}
use Rattle.meshes.specs.Mesh.{Face, face}
use Rattle.rules.specs.Piece.{Piece}
use Rattle.rules.specs.Scan.{on_screen, screened, centre_at, scans, dropped, kept, counts, weighed_depth, depth_at, candidate}
use Rattle.rules.specs.Offers.{Scene, face_pieces, piece_brings, pieces_bring, brings, brought, offers}
use Rattle.sequences.specs.Case.{Case, faces, kept_faces, full, final}
use Rattle.sequences.proofs.Case.{pictures}
use Rattle.sequences.specs.Sources.{FromPiece, Sources}

-- ---- a piece

-- the candidate of a piece on the screen: the weights of the pixel's centre, and their blend
record Blends (s : Triangle (Vec3 Float)) (ix iy : ℕ) (c : Candidate) : Type 0 where
  sum : Float
  weights : corner_weights (centre_at ix iy) (flat s.p0) (flat s.p1) (flat s.p2) ≡ some (weighed_by c.payload sum)
  depth : c.depth ≡ blend floats c.payload s.p0.z s.p1.z s.p2.z

candidate_blends : (counted : Float → Bool) (s : Triangle (Vec3 Float)) (ix iy : ℕ) (c : Candidate) → Memᴰ c (candidate counted s ix iy) → Blends s ix iy c
unfolding candidate depth_at weighed_depth kept
candidate_blends counted s ix iy c = scanned (scans s ix iy)
  where
    is : Option (Weighed Float)
    is = corner_weights (centre_at ix iy) (flat s.p0) (flat s.p1) (flat s.p2)

    blends : (a : Weighed Float) → is ≡ some a → c ≡ offer (blend floats a.b s.p0.z s.p1.z s.p2.z) a.b → Blends s ix iy c
    blends a e f = rw f (record { sum = a.s; weights = e; depth = refl })

    left : (a : Weighed Float) → is ≡ some a → (t : Bool) → Memᴰ c (cond t [] (offer (blend floats a.b s.p0.z s.p1.z s.p2.z) a.b ∷ [])) → Blends s ix iy c
    left a e true m = absurd (Memᴰ.not-nil m)
    left a e false m = blends a e (Memᴰ.eq_of_singleton m)

    faced : (a : Weighed Float) → is ≡ some a → (t : Bool) → Memᴰ c (cond t (kept s a.b) []) → Blends s ix iy c
    faced a e true m = left a e (dropped a.b) m
    faced a e false m = absurd (Memᴰ.not-nil m)

    weighed : (o : Option (Weighed Float)) → is ≡ o → Memᴰ c (weighed_depth counted s o) → Blends s ix iy c
    weighed none e m = absurd (Memᴰ.not-nil m)
    weighed (some a) e m = faced a e (counted a.s) m

    scanned : (t : Bool) → Memᴰ c (cond t (weighed_depth counted s is) []) → Blends s ix iy c
    scanned true m = weighed is refl m
    scanned false m = absurd (Memᴰ.not-nil m)

-- ---- a face

module _ (sc : Scene) (p : ℕ) where
  -- the candidate c is a piece's of the list
  abbrev OfPiece : List Piece → Candidate → Type 0
  OfPiece ts c = (t : Piece) × Memᴰ t ts × Memᴰ c (piece_brings sc.facing sc.width sc.height t p)

  pieces_of : (ts : List Piece) (c : Candidate) → Memᴰ c (pieces_bring sc.facing sc.width sc.height ts p) → OfPiece ts c
  unfolding pieces_bring
  pieces_of [] c m = absurd (Memᴰ.not-nil m)
  pieces_of (t ∷ ts) c m = go (Memᴰ.append_cases (piece_brings sc.facing sc.width sc.height t p) m) (pieces_of ts c)
    where
      go : Memᴰ c (piece_brings sc.facing sc.width sc.height t p) ⊎ Memᴰ c (pieces_bring sc.facing sc.width sc.height ts p)
          → (Memᴰ c (pieces_bring sc.facing sc.width sc.height ts p) → OfPiece ts c) → OfPiece (t ∷ ts) c
      go (inl m) ih = (t, Memᴰ.head refl, m)
      go (inr m) ih = let r = ih m in (r.0, Memᴰ.tail r.1, r.2)

  -- the cell c is that of face number k + i
  abbrev OfFace : ℕ → List Face → Cell → Type 0
  OfFace k fs c = (i : ℕ) × (i < length fs) × Memᴰ c (numbered (k + i) (brings sc (get_or fs i (face 0 0 0)) p))

  faces-of : (k : ℕ) (fs : List Face) (c : Cell) → Memᴰ c (brought sc fs k p) → OfFace k fs c
  unfolding brought any.brought
  faces-of k [] c m = absurd (Memᴰ.not-nil m)
  faces-of k (f ∷ fs) c m = go (Memᴰ.append_cases (numbered k (brings sc f p)) m) (faces-of (suc k) fs c)
    where
      go : Memᴰ c (numbered k (brings sc f p)) ⊎ Memᴰ c (brought sc fs (suc k) p) → (Memᴰ c (brought sc fs (suc k) p) → OfFace (suc k) fs c) → OfFace k (f ∷ fs) c
      go (inl m) ih = let e : k + 0 ≡ k = omega arith in (0, omega arith, rw e m)
      go (inr m) ih = let r = ih m in let e : k + suc r.0 ≡ suc k + r.0 = omega arith in (suc r.0, omega (arith, r.1), rw e r.2)

-- ---- a pixel

module _ (sc : Scene) (fs : List Face) (p : ℕ) where
  face-from : (i : ℕ) → i < length fs → (c : Cell) → Memᴰ c (numbered i (brings sc (get_or fs i (face 0 0 0)) p)) → FromPiece sc fs p c
  unfolding numbered renamed brings piece_brings on_screen screened
  face-from i l c m =
      let o = Memᴰ.of_map (renamed (hit i)) (brings sc (get_or fs i (face 0 0 0)) p) m in
      let t = pieces_of sc p (face_pieces sc (get_or fs i (face 0 0 0))) o.0 o.1 in
      let w = candidate_blends (counts sc.facing t.0.turned) (screened sc.width sc.height t.0.corners) (p % sc.width) (p / sc.width) o.0 t.2 in
      subst (FromPiece sc fs p) o.2 (record { face_there = l; piece = t.0; piece_there = t.1; sum = w.sum; weights = w.weights; depth = w.depth })

  pub brought-from : (c : Cell) → Memᴰ c (brought sc fs 0 p) → FromPiece sc fs p c
  brought-from c m = let f = faces-of sc p 0 fs c m in face-from f.0 f.1 c (subst (λ (i : ℕ). Memᴰ c (numbered i (brings sc (get_or fs f.0 (face 0 0 0)) p))) (zero-add f.0) f.2)

  -- a pixel is clear, or holds such a cell
  pub shown-from : (c : Cell) → Shows no_hit (offers sc fs 0 p) c → (c ≡ clear) ⊎ FromPiece sc fs p c
  unfolding offers
  shown-from c (uncovered e k) = inl k
  shown-from c (covered g) = inr (brought-from c (was_brought c (brought sc fs 0 p) (is_there g)).0)

pub sources : (c : Case) → Sources c
sources c =
    record {
      full_from = λ p h. shown-from c.mesh.sc (faces c.mesh) p (at (full c.mesh) p) ((pictures c).full_shows p h);
      final_from = λ p h. shown-from c.mesh.sc (kept_faces c.mesh) p (at (final c) p) ((pictures c).final_shows p h);
    }
