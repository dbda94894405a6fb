-- The load as a loop over the faces counts it.
use Prim.Native.Nat.{ℕ, ◌+◌, ◌*◌, ◌/◌, ◌≤◌, ◌<◌}
use mathlib.Core.Path.{◌≡◌, sym, ap, ap₂, ◌∙◌}
use mathlib.Core.List.{List}
use native.Mathlib.Nat.{zero-add, add-zero, add_assoc}
use native.Mathlib.Omega.{arith}
use lib.ListN.{length, drop, drop_of_length-le}
use Rattle.lists.specs.Lists.{sum_of}
use Rattle.questions.specs.Laws.{Sized, area}
use Rattle.meshes.specs.Mesh.{Face, face_at, faces_of}
use Rattle.meshes.specs.Laws.{length-faces, faces-from}
use Rattle.rules.specs.Piece.{Piece}
use Rattle.rules.specs.Offers.{Scene, face_pieces}
use Rattle.rules.specs.Load.{charge, piece_pixels, face_pixels, load, load_of}
use Rattle.rules.proofs.Laws.Load.{together, load_none, load-more, charge_most, face_most}

-- Before face i: what is counted and the load of the faces left make the whole, and nothing can wrap.
pub record Counted (sc : Scene) (fs : List Face) (i pieces pixels : ℕ) : Type 0 where
  pub is : together (load pieces pixels) (load_of sc (drop i fs)) ≡ load_of sc fs
  pub few : pieces ≤ 2 * i
  pub fits : pixels ≤ 33554432 * i

module _ (sc : Scene) where
  pub none_yet : (fs : List Face) → Counted sc fs 0 0 0
  unfolding together
  none_yet fs = record { is = ap₂ load (zero-add (load_of sc fs).pieces) (zero-add (load_of sc fs).pixels); few = omega arith; fits = omega arith }

  -- face i by its pieces
  pub one_more :
      (tri : List ℕ) {i pieces pixels c n : ℕ} {ps : List Piece}
      → Sized 1 sc.width sc.height
      → i < length tri / 3
      → Counted sc (faces_of tri) i pieces pixels
      → ps ≡ face_pieces sc (face_at tri i)
      → c ≡ length ps
      → n ≡ sum_of (piece_pixels sc.width sc.height) ps
      → Counted sc (faces_of tri) (i + 1) (pieces + c) (pixels + n)
  unfolding together charge face_pixels
  one_more tri {i} {pieces} {pixels} {c} {n} size h t own e f =
      let charged : c ≡ charge sc (face_at tri i) = e ∙ ap length own in
      let offered : n ≡ face_pixels sc (face_at tri i) = f ∙ ap (sum_of (piece_pixels sc.width sc.height)) own in
      record {
        is =
            ap₂ load (add_assoc pieces c _) (add_assoc pixels n _)
            ∙ ap (together (load pieces pixels)) (ap₂ (λ (a b : ℕ). together (load a b) (load_of sc (drop (i + 1) (faces_of tri)))) charged offered ∙ sym (load-more sc (face_at tri i) (drop (i + 1) (faces_of tri))))
            ∙ ap (λ (fs : List Face). together (load pieces pixels) (load_of sc fs)) (sym (faces-from tri i h))
            ∙ t.is;
        few = omega (arith, t.few, charged, charge_most sc (face_at tri i));
        fits = omega (arith, t.fits, offered, face_most sc (face_at tri i), area 1 sc.width sc.height size);
      }

  pub all_counted : (tri : List ℕ) {i pieces pixels : ℕ} → length tri / 3 ≤ i → Counted sc (faces_of tri) i pieces pixels → load pieces pixels ≡ load_of sc (faces_of tri)
  unfolding together
  all_counted tri {i} {pieces} {pixels} h t =
      sym (ap₂ load (add-zero pieces) (add-zero pixels))
      ∙ ap (together (load pieces pixels)) (sym (ap (load_of sc) (drop_of_length-le (faces_of tri) {i = i} (omega (arith, length-faces tri))) ∙ load_none sc))
      ∙ t.is
