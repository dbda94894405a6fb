-- Of the load: lists one after the other, bounds, and that a face brings depths to no more pixels than its pieces are offered.
use Rattle.std.specs.Prelude.{ℕ, ◌+◌, ◌*◌, ◌/◌, ◌%◌, ◌≤◌, ◌≡◌, refl, Bool, ◌||◌, cond, eqb, length, Float}
use Rattle.std.proofs.Common.{ap₂, mul-le-mul_right, arith}
use Rattle.std.proofs.Math.Bool.{true, false}
use Rattle.std.proofs.Math.Option.{Option, none, some}
use mathlib.Core.List.{List, [], ◌∷◌, ◌++◌}
use Rattle.std.specs.Float.Ieee.{eq}
use Rattle.lists.specs.Lists.{span, sum_of, count}
use Rattle.lists.specs.Laws.Tables.{length-tabulate}
use Rattle.lists.specs.Laws.Sums.{sum_none, sum_more, sum_both, sum_most, count_alike, count_most, count_either}
use Rattle.geometry.specs.Arith.{floats}
use Rattle.geometry.specs.Vector.{Vec3, Projected, Triangle}
use Rattle.geometry.specs.Leaf.{entries}
use Rattle.cells.specs.Cell.{Candidate}
use Rattle.meshes.specs.Mesh.{Face}
use Rattle.rules.specs.Piece.{Piece, Corner, whole, one_piece, two_pieces, beyond_near, before_near, all_beyond_near, all_before_near, beyond_bit, lone_first, mixed, clipped, any_behind, corners_pieces, projected_pieces, pieces, scored}
use Rattle.rules.specs.declared.Facing.{Facing}
use Rattle.rules.specs.Scan.{screened, centre_at, scans, counts, depth_at, candidate}
use Rattle.rules.specs.Offers.{Scene, scene, face_pieces, piece_brings, pieces_bring, brings}
use Rattle.rules.specs.Load.{charge, piece_pixels, face_pixels, Load, load, load_of}

-- ---- one list after the other

-- two loads together
unfoldable pub together : Load → Load → Load
together a b = load (a.pieces + b.pieces) (a.pixels + b.pixels)

pub load_none : (sc : Scene) → load_of sc [] ≡ load 0 0
unfolding load_of
load_none sc = ap₂ load (sum_none (charge sc)) (sum_none (face_pixels sc))

pub load-more : (sc : Scene) (f : Face) (fs : List Face) → load_of sc (f ∷ fs) ≡ together (load (charge sc f) (face_pixels sc f)) (load_of sc fs)
unfolding load_of together
load-more sc f fs = ap₂ load (sum_more (charge sc) f fs) (sum_more (face_pixels sc) f fs)

pub load-append : (sc : Scene) (xs ys : List Face) → load_of sc (xs ++ ys) ≡ together (load_of sc xs) (load_of sc ys)
unfolding load_of together
load-append sc xs ys = ap₂ load (sum_both (charge sc) xs ys) (sum_both (face_pixels sc) xs ys)

-- ---- whatever the facing

-- pieces and pixels are those of every facing: what is left out has been scanned
pub load_facing : (m xyz : List Float) (w h : ℕ) (facing other : Facing) (fs : List Face) → load_of (scene m xyz w h facing) fs ≡ load_of (scene m xyz w h other) fs
unfolding load_of charge face_pixels face_pieces
load_facing m xyz w h facing other fs = refl

-- ---- pixels that depths are brought to

-- whether anything is brought
unfoldable pub brought? : List Candidate → Bool
brought? [] = false
brought? (d ∷ ds) = true

brought_either : (xs ys : List Candidate) → brought? (xs ++ ys) ≡ true → brought? xs || brought? ys ≡ true
unfolding brought?
brought_either [] ys e = e
brought_either (x ∷ xs) ys e = refl

-- a piece brings nothing to a pixel that its scan does not hold
brought-scanned : (counted : Float → Bool) (s : Triangle (Vec3 Float)) (ix iy : ℕ) → brought? (candidate counted s ix iy) ≡ true → scans s ix iy ≡ true
unfolding candidate brought?
brought-scanned counted s ix iy e = go (scans s ix iy) e
  where
    go : (b : Bool) → brought? (cond b (depth_at counted s (centre_at ix iy)) []) ≡ true → b ≡ true
    go true e = refl
    go false e = e

first-or : (a c b : Bool) → (a ≡ true → c ≡ true) → a || b ≡ true → c || b ≡ true
first-or true c b i e = rw (i refl)
first-or false true b i e = refl
first-or false false b i e = e

module _ (facing : Facing) (w h : ℕ) where
  -- the pixels of the image to which some of the pieces bring a depth
  abbrev reached : List Piece → ℕ
  reached ts = count (λ p. brought? (pieces_bring facing w h ts p)) (span 0 (w * h))

  pieces-within : (ts : List Piece) → reached ts ≤ sum_of (piece_pixels w h) ts
  unfolding pieces_bring piece_brings piece_pixels brought?
  pieces-within [] = omega (arith, count_alike (λ p. false) false 0 (w * h) (λ i l. refl))
  pieces-within (t ∷ ts) =
      rw (sum_more (piece_pixels w h) t ts)
      (omega (arith, pieces-within ts, count_either (λ p. brought? (pieces_bring facing w h (t ∷ ts) p)) (λ p. scans (screened w h t.corners) (p % w) (p / w)) (λ p. brought? (pieces_bring facing w h ts p)) each (span 0 (w * h))))
    where
      each : (p : ℕ) → brought? (pieces_bring facing w h (t ∷ ts) p) ≡ true → scans (screened w h t.corners) (p % w) (p / w) || brought? (pieces_bring facing w h ts p) ≡ true
      each p e = first-or _ _ _ (brought-scanned (counts facing t.turned) (screened w h t.corners) (p % w) (p / w)) (brought_either (candidate (counts facing t.turned) (screened w h t.corners) (p % w) (p / w)) (pieces_bring facing w h ts p) e)

-- a face brings depths to at most as many pixels of the image as the scans of its pieces offer
pub brings-within : (sc : Scene) (f : Face) → count (λ p. brought? (brings sc f p)) (span 0 (sc.width * sc.height)) ≤ face_pixels sc f
unfolding brings face_pixels
brings-within sc f = pieces-within sc.facing sc.width sc.height (face_pieces sc f)

-- ---- at most two pieces

-- a record, so that the list is found from it
record Few (ts : List Piece) : Type 0 where
  most : length ts ≤ 2

few_if : (b : Bool) {x y : List Piece} → Few x → Few y → Few (cond b x y)
few_if true h k = h
few_if false h k = k

few_lone : (l0 l1 : Bool) (make : Bool → Corner Float → Corner Float → Corner Float → List Piece) → ((turned : Bool) (a b c : Corner Float) → Few (make turned a b c)) → (a b c : Corner Float) → Few (lone_first l0 l1 make a b c)
unfolding lone_first
few_lone l0 l1 make h a b c = few_if l0 (h false a b c) (few_if l1 (h true b a c) (h false c a b))

few_none : Few []
few_none = record { most = omega arith }

few_whole : (a b c : Corner Float) → Few (whole a b c)
unfolding whole
few_whole a b c = record { most = omega arith }

few_one : (turned : Bool) (a b c : Corner Float) → Few (one_piece turned a b c)
unfolding one_piece
few_one turned a b c = record { most = omega arith }

few_two : (turned : Bool) (a b c : Corner Float) → Few (two_pieces turned a b c)
unfolding two_pieces
few_two turned a b c = record { most = omega arith }

few_mixed : (a b c : Corner Float) → Few (mixed a b c)
unfolding mixed
few_mixed a b c = few_if (eqb (beyond_bit a + beyond_bit b + beyond_bit c) 1) (few_lone (beyond_near a) (beyond_near b) one_piece few_one a b c) (few_lone (before_near a) (before_near b) two_pieces few_two a b c)

few_clipped : (a b c : Corner Float) → Few (clipped a b c)
unfolding clipped
few_clipped a b c = few_if (all_beyond_near a b c) (few_whole a b c) (few_if (all_before_near a b c) few_none (few_mixed a b c))

few_corners : (t11 : Float) (a b c : Corner Float) → Few (corners_pieces t11 a b c)
unfolding corners_pieces
few_corners t11 a b c = few_if (eq t11 floats.zero) (few_whole a b c) (few_if (any_behind t11 a b c) few_none (few_clipped a b c))

few_projected : (t11 : Float) (a b c : Option (Projected Float)) → Few (projected_pieces t11 a b c)
unfolding projected_pieces
few_projected t11 none b c = few_none
few_projected t11 (some a) none c = few_none
few_projected t11 (some a) (some b) none = few_none
few_projected t11 (some a) (some b) (some c) = few_corners t11 (scored floats t11 a) (scored floats t11 b) (scored floats t11 c)

few_pieces : (sc : Scene) (f : Face) → length (face_pieces sc f) ≤ 2
unfolding face_pieces pieces
few_pieces sc f = (few_projected (entries sc.matrix 11) _ _ _).most

pub charge_most : (sc : Scene) (f : Face) → charge sc f ≤ 2
unfolding charge
charge_most sc f = few_pieces sc f

-- ---- and at most the whole image for each

pub piece_most : (w h : ℕ) (t : Piece) → piece_pixels w h t ≤ w * h
unfolding piece_pixels
piece_most w h t = omega (arith, count_most (λ p. scans (screened w h t.corners) (p % w) (p / w)) (span 0 (w * h)), length-tabulate (λ i. i) 0 (w * h))

pub face_most : (sc : Scene) (f : Face) → face_pixels sc f ≤ 2 * (sc.width * sc.height)
unfolding face_pixels
face_most sc f =
    let all = sum_most (piece_pixels sc.width sc.height) (sc.width * sc.height) (piece_most sc.width sc.height) (face_pieces sc f) in
    let two = mul-le-mul_right (sc.width * sc.height) (few_pieces sc f) in
    omega arith
