-- Proved of the definitions, for the crates that use them.
use Rattle.std.specs.Prelude as code
use Rattle.std.specs.Prelude.{ℕ, zero, suc, ◌+◌, ◌-◌, ◌*◌, ◌/◌, ◌≤◌, ◌<◌, ◌≡◌, refl, true, ltb, Float, length, get_or, take, drop}
use Rattle.std.proofs.Common.{sym, ap, ◌∙◌, not-suc-le-zero, le_of_suc-le-suc, add-one, arith, eq-eqb, ne_eqb, length-set, length-drop, drop-cons, length-take-le, get_or-take, get_or-drop}
use Rattle.std.proofs.Math.Option.{Option, none, some}
use mathlib.Core.List.{List, [], ◌∷◌, ◌++◌, flat_map}
use Rattle.std.proofs.lemmas.List.Sums.{fold-append}
use Rattle.lists.specs.Lists.{span}
use Rattle.lists.specs.Laws.Folds.{fold-long, folded_then, folds_none, folds_add, folds_one, folds_more, folds_ended}
use Rattle.lists.specs.Laws.Every.{every-at, every_of}
use Rattle.geometry.specs.Vector.{Projected}
use Rattle.geometry.specs.Answer.{projection_of}
use Rattle.geometry.specs.declared.Projected as codeP
use Rattle.questions.specs.Questions.{all_below, names_face, names_faces, empty, most_count}
use Rattle.questions.specs.Laws.{Sized, Grouped, whole, below_at}
use Rattle.meshes.specs.Mesh.{Face, face, face_at, faces_of, flat, Among}
use Rattle.meshes.specs.View.{named, entry_at}
use Rattle.meshes.specs.Sums.{Addition, added, summed}
use Rattle.meshes.specs.Sound.{SoundMesh, SoundMap}

get_or_any : (l : List ℕ) (i a b : ℕ) → i < length l → get_or l i a ≡ get_or l i b
get_or_any [] i a b h = absurd (not-suc-le-zero h)
get_or_any (x ∷ l) zero a b h = refl
get_or_any (x ∷ l) (suc i) a b h = get_or_any l i a b (le_of_suc-le-suc h)

-- the entry that the code reads
pub entry_read : (map : List ℕ) (p : ℕ) → p < length map → get_or map p 0 ≡ entry_at map p
entry_read map p h = get_or_any map p 0 _ h

-- what an entry names
pub named_none : (tri : List ℕ) (x : ℕ) → x ≡ empty → named tri x ≡ none
unfolding named
named_none tri x e = rw (eq-eqb x empty e)

pub named_some : (tri : List ℕ) (x : ℕ) → (x ≡ empty → ⊥) → named tri x ≡ some (face_at tri x)
unfolding named
named_some tri x e = rw (ne_eqb x empty e)

-- a projection as a `match` on it found it
pub found : {e f : code.Option codeP.Projected} {t : Option (Projected Float)} → projection_of e ≡ t → e ≡ f → t ≡ projection_of f
found k same = sym k ∙ ap projection_of same

-- ---- the faces of a list

pub length-faces : (tri : List ℕ) → length (faces_of tri) ≡ length tri / 3
unfolding faces_of
length-faces [] = refl
length-faces (a ∷ []) = refl
length-faces (a ∷ b ∷ []) = refl
length-faces (a ∷ b ∷ c ∷ tri) = omega (arith, length-faces tri)

shift : (a b c : ℕ) (tri : List ℕ) (j k : ℕ) → suc (suc (suc j)) ≡ k → get_or tri j 0 ≡ get_or (a ∷ b ∷ c ∷ tri) k 0
shift a b c tri j k e = ap (λ (i : ℕ). get_or (a ∷ b ∷ c ∷ tri) i 0) e

pub face_get : (tri : List ℕ) (i : ℕ) (z : Face) → i < length tri / 3 → get_or (faces_of tri) i z ≡ face_at tri i
unfolding faces_of face_at
face_get [] i z h = absurd (not-suc-le-zero h)
face_get (a ∷ []) i z h = absurd (not-suc-le-zero h)
face_get (a ∷ b ∷ []) i z h = absurd (not-suc-le-zero h)
face_get (a ∷ b ∷ c ∷ tri) zero z h = refl
face_get (a ∷ b ∷ c ∷ tri) (suc i) z h =
    rw (
      ← (shift a b c tri (3 * i) (3 * suc i) (omega arith)),
      ← (shift a b c tri (3 * i + 1) (3 * suc i + 1) (omega arith)),
      ← (shift a b c tri (3 * i + 2) (3 * suc i + 2) (omega arith)),
    )
    (face_get tri i z (omega arith))

-- the face at i and those after it
pub faces-from : (tri : List ℕ) (i : ℕ) → i < length tri / 3 → drop i (faces_of tri) ≡ face_at tri i ∷ drop (i + 1) (faces_of tri)
faces-from tri i h =
    rw add-one
    (drop-cons (faces_of tri) i (face 0 0 0) (omega (arith, length-faces tri))
    ∙ ap (λ (f : Face). f ∷ drop (suc i) (faces_of tri)) (face_get tri i (face 0 0 0) h))

-- ---- a list of faces as a slice

pub length-flat : (fs : List Face) → length (flat fs) ≡ 3 * length fs
unfolding flat
length-flat [] = refl
length-flat (f ∷ fs) = let e = length-flat fs in omega arith

pub faces-flat : (fs : List Face) → faces_of (flat fs) ≡ fs
unfolding flat faces_of
faces-flat [] = refl
faces-flat (f ∷ fs) = ap (λ (l : List Face). f ∷ l) (faces-flat fs)

-- whole threes come back
pub flat-faces : (n : ℕ) (tri : List ℕ) → length tri ≡ 3 * n → flat (faces_of tri) ≡ tri
unfolding flat faces_of
flat-faces n [] e = refl
flat-faces n (a ∷ []) e = absurd (omega arith)
flat-faces n (a ∷ b ∷ []) e = absurd (omega arith)
flat-faces zero (a ∷ b ∷ c ∷ tri) e = absurd (omega arith)
flat-faces (suc n) (a ∷ b ∷ c ∷ tri) e = ap (λ (l : List ℕ). a ∷ b ∷ c ∷ l) (flat-faces n tri (omega arith))

three : (n : ℕ) → 3 * suc n ≡ suc (suc (suc (3 * n)))
three n = omega arith

pub flat-take : (c : ℕ) (fs : List Face) → take (3 * c) (flat fs) ≡ flat (take c fs)
unfolding flat
flat-take zero fs = refl
flat-take (suc c) [] = rw (three c)
flat-take (suc c) (f ∷ fs) =
    rw (three c) (ap (λ (l : List ℕ). f.v0 ∷ f.v1 ∷ f.v2 ∷ l) (flat-take c fs))

pub flat-drop : (c : ℕ) (fs : List Face) → drop (3 * c) (flat fs) ≡ flat (drop c fs)
unfolding flat
flat-drop zero fs = refl
flat-drop (suc c) [] = rw (three c)
flat-drop (suc c) (f ∷ fs) = rw (three c) (flat-drop c fs)

-- ---- a part of the list, as the code lends it: the faces from number `from` up to `to`

module _ (from to : ℕ) where
  abbrev pub part : List ℕ → List ℕ
  part tri = take (3 * to - 3 * from) (drop (3 * from) tri)

  pub faces-part : (tri : List ℕ) → 3 * (length tri / 3) ≡ length tri → faces_of (part tri) ≡ take (to - from) (drop from (faces_of tri))
  faces-part tri whole-threes =
      let threes : 3 * to - 3 * from ≡ 3 * (to - from) = omega arith in
      ap (λ (t : List ℕ). faces_of (part t)) (sym (flat-faces (length tri / 3) tri (sym whole-threes)))
      ∙ rw (threes, flat-drop from (faces_of tri), flat-take (to - from) (drop from (faces_of tri))) (faces-flat (take (to - from) (drop from (faces_of tri))))

  pub length_part : (tri : List ℕ) → to ≤ length tri / 3 → length (part tri) ≡ 3 * to - 3 * from
  length_part tri h = length-take-le (3 * to - 3 * from) (drop (3 * from) tri) (omega (arith, length-drop (3 * from) tri))

  -- a part of a sound mesh's faces, with all its vertices
  pub sound_part : {tri : List ℕ} {xyz : List Float} → SoundMesh tri xyz → to ≤ length tri / 3 → SoundMesh (part tri) xyz
  sound_part {tri} {xyz} s h =
      record {
        faces = omega (arith, length_part tri h);
        vertices = s.vertices;
        named =
            every_of (λ x. ltb x (length xyz / 3)) 0 (part tri)
            (λ i l.
            let here : i < 3 * to - 3 * from = omega (arith, length_part tri h) in
            rw (get_or-take (3 * to - 3 * from) (drop (3 * from) tri) i 0 here, get_or-drop (3 * from) tri i 0)
            (every-at (λ x. ltb x (length xyz / 3)) tri s.named (3 * from + i) (omega arith)));
      }

-- ---- additions

-- one list of additions after the other
pub summed-append : (s : List Float) (xs ys : List Addition) → summed s (xs ++ ys) ≡ summed (summed s xs) ys
unfolding summed
summed-append s xs ys = fold-append added s xs ys

pub summed_then : (s : List Float) {s1 s2 : List Float} (x y : List Addition) → s1 ≡ summed s x → s2 ≡ summed s1 y → s2 ≡ summed s (x ++ y)
unfolding summed
summed_then s x y p q = folded_then added s x y p q

pub length-summed : (s : List Float) (xs : List Addition) → length (summed s xs) ≡ length s
unfolding summed added
length-summed s xs = fold-long added (λ s x. length-set s x.place _) s xs

-- ---- sums in turn: what is added first and what is added then. They are the laws of a fold (lists Folds), so said that `summed` stays closed to callers.

module _ (f : ℕ → List Addition) (s : List Float) where
  pub turns_none : (a : ℕ) → s ≡ summed s (flat_map f (span a 0))
  unfolding summed
  turns_none a = folds_none added f s a

  -- n turns from a on, and m more
  pub turns_add : (a n m : ℕ) → summed s (flat_map f (span a (n + m))) ≡ summed (summed s (flat_map f (span a n))) (flat_map f (span (a + n) m))
  unfolding summed
  turns_add a n m = folds_add added f s a n m

  pub turns_one : (p : ℕ) → summed s (flat_map f (span p 1)) ≡ summed s (f p)
  unfolding summed
  turns_one p = folds_one added f s p

-- turn j of a loop from 0 on
pub turns_more : (f : ℕ → List Addition) (s : List Float) (j : ℕ) {cur new : List Float} → cur ≡ summed s (flat_map f (span 0 j)) → new ≡ summed cur (f j)
    → new ≡ summed s (flat_map f (span 0 (j + 1)))
unfolding summed
turns_more f s j e step = folds_more added f s j e step

pub turns_ended : (f : ℕ → List Addition) (s : List Float) (j n : ℕ) {cur : List Float} → j ≤ n → n ≤ j → cur ≡ summed s (flat_map f (span 0 j))
    → cur ≡ summed s (flat_map f (span 0 n))
unfolding summed
turns_ended f s j n l g e = folds_ended added f s j n l g e

-- ---- an accepted mesh and its map

-- a vertex that a face names is there
pub corner_there : {tri : List ℕ} {xyz : List Float} → SoundMesh tri xyz → (j : ℕ) → j < length tri → 3 * get_or tri j 0 + 2 < length xyz
corner_there {tri} {xyz} s j h =
    let e = s.vertices in
    let l = below_at (length xyz / 3) tri s.named j h in
    omega arith

-- the corners of face number i are among the vertices
pub corners_there : {tri : List ℕ} {xyz : List Float} (f : Face) (i : ℕ) → SoundMesh tri xyz → f ≡ face_at tri i → i < length tri / 3 → Among (length xyz / 3) f
unfolding face_at
corners_there {tri} {xyz} f i s e h =
    let whole-threes = s.faces in
    let corner : (i : ℕ) → i < length tri → get_or tri i 0 < length xyz / 3 = below_at (length xyz / 3) tri s.named in
    rw e (record { c0 = corner (3 * i) (omega arith); c1 = corner (3 * i + 1) (omega arith); c2 = corner (3 * i + 2) (omega arith) })

-- each entry of the map names a face or none
pub entry_named : {tri map : List ℕ} {xyz : List Float} {w h : ℕ} → SoundMap tri xyz map w h → (p : ℕ) → p < w * h → names_face (length tri / 3) (get_or map p 0) ≡ true
entry_named {tri} {map} {xyz} {w} {h} s p l = every-at (names_face (length tri / 3)) map s.named p (omega (arith, s.whole))

-- the entry that the code reads at pixel p, found in the view under p's number n
pub entry-shown : {tri map : List ℕ} {xyz : List Float} {w h p n : ℕ} → SoundMap tri xyz map w h → (p ≡ n) × (p < w * h) → entry_at map n ≡ get_or map p 0
entry-shown {tri} {map} {xyz} {w} {h} {p} {n} s k = ap (entry_at map) (sym k.0) ∙ sym (entry_read map p (omega (arith, s.whole, k.1)))

-- questions 3 and 6 of the mesh, answered yes
pub sound_mesh : {tri : List ℕ} {xyz : List Float} → Grouped 3 most_count (length tri) → Grouped 3 most_count (length xyz) → all_below (length xyz / 3) tri ≡ true → SoundMesh tri xyz
sound_mesh {tri} {xyz} q3 q3' q6 =
    record { faces = whole 3 most_count (length tri) q3; vertices = whole 3 most_count (length xyz) q3'; named = q6 }

-- questions 1, 3, 4, 6 and 7 of the mesh and its map, answered yes
pub sound : {tri map : List ℕ} {xyz : List Float} {w h : ℕ} → Sized 1 w h → Grouped 3 most_count (length tri) → Grouped 3 most_count (length xyz) → length map ≡ w * h
    → all_below (length xyz / 3) tri ≡ true → names_faces (length tri / 3) map ≡ true → SoundMap tri xyz map w h
sound {tri} {map} {xyz} q1 q3 q3' q4 q6 q7 =
    record {
      mesh = sound_mesh q3 q3' q6;
      size = q1;
      whole = q4;
      named = q7;
    }
