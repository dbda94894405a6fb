-- An accepted mesh, thinned and cut: every run of it is accepted.
use Rattle.std.specs.Prelude.{ℕ, zero, suc, ◌+◌, ◌/◌, ◌<◌, ◌≤◌, ◌≡◌, refl, Bool, true, false, cond, ◌&&◌, List, [], ◌∷◌, ◌++◌, ltb, length, take, get_or}
use Rattle.std.proofs.Common.{ap, sym, ◌∙◌, not-suc-le-zero, le_of_suc-le-suc, arith, length-append}
use Rattle.lists.specs.Laws.Tests.{both}
use Rattle.questions.specs.Questions.{sizes, groups, slices, numbers, all_below, most_count}
use Rattle.questions.specs.Laws.{accepted, grouped, whole}
use Rattle.offers.specs.Thinning.{kept_from}
use Rattle.offers.proofs.Laws.Thinning.{kept-length}
use Rattle.cells.specs.Layer.{Layer}
use Rattle.layers.specs.Calls.{exact_layer}
use Rattle.meshes.specs.Mesh.{Face, faces_of, face_at, flat}
use Rattle.meshes.specs.Laws.{face_get, length-flat, faces-flat, flat-faces}
use Rattle.rules.specs.Offers.{Scene}
use Rattle.rules.specs.Calls.{draw_code}
use Rattle.sequences.specs.Plan.{joined, run, first_of}
use Rattle.sequences.specs.Whole.{Fit}
use Rattle.sequences.specs.Mesh.{Answered}

-- ---- corners below the vertex count

below : ℕ → Face → Bool
below n f = ltb f.v0 n && (ltb f.v1 n && ltb f.v2 n)

flat_cons : (n : ℕ) (f : Face) (fs : List Face) → all_below n (flat (f ∷ fs)) ≡ below n f && all_below n (flat fs)
unfolding flat below
flat_cons n f fs = go (ltb f.v0 n) (ltb f.v1 n) (ltb f.v2 n) (all_below n (flat fs))
  where
    go : (a b c d : Bool) → a && (b && (c && d)) ≡ (a && (b && c)) && d
    go true true c d = refl
    go true false c d = refl
    go false b c d = refl

-- a part of a list passes where the whole does
pub kept_below : (n : ℕ) (keep : ℕ → Bool) (k : ℕ) (fs : List Face) → all_below n (flat fs) ≡ true → all_below n (flat (kept_from keep k fs)) ≡ true
unfolding kept_from
kept_below n keep k [] e = e
kept_below n keep k (f ∷ fs) e = go (keep k) (kept_below n keep (suc k) fs)
  where
    parts : (below n f ≡ true) × (all_below n (flat fs) ≡ true)
    parts = both (below n f) (all_below n (flat fs)) (sym (flat_cons n f fs) ∙ e)

    go : (b : Bool) → (all_below n (flat fs) ≡ true → all_below n (flat (kept_from keep (suc k) fs)) ≡ true) → all_below n (flat (cond b (f ∷ kept_from keep (suc k) fs) (kept_from keep (suc k) fs))) ≡ true
    go true ih = rw (flat_cons n f (kept_from keep (suc k) fs), parts.0) (ih parts.1)
    go false ih = ih parts.1

append_below : (n : ℕ) (xs ys : List Face) → all_below n (flat (xs ++ ys)) ≡ true → (all_below n (flat xs) ≡ true) × (all_below n (flat ys) ≡ true)
unfolding flat
append_below n [] ys e = (refl, e)
append_below n (x ∷ xs) ys e =
    let parts = both (below n x) (all_below n (flat (xs ++ ys))) (sym (flat_cons n x (xs ++ ys)) ∙ e) in
    let rest = append_below n xs ys parts.1 in
    (rw (flat_cons n x xs, parts.0) rest.0, rest.1)

run_below : (n : ℕ) (sc : Scene) (rs : List (List Face)) (r : ℕ) → r < length rs → all_below n (flat (joined rs)) ≡ true → all_below n (flat (run sc rs r)) ≡ true
unfolding joined
run_below n sc [] r h e = absurd (not-suc-le-zero h)
run_below n sc (x ∷ rs) zero h e = (append_below n x (joined rs) e).0
run_below n sc (x ∷ rs) (suc r) h e = run_below n sc rs r (le_of_suc-le-suc h) (append_below n x (joined rs) e).1

run-within : (sc : Scene) (rs : List (List Face)) (r : ℕ) → r < length rs → first_of sc rs r + length (run sc rs r) ≤ length (joined rs)
unfolding joined
run-within sc [] r h = absurd (not-suc-le-zero h)
run-within sc (x ∷ rs) zero h = omega (arith, length-append x (joined rs))
run-within sc (x ∷ rs) (suc r) h =
    omega (arith, run-within sc rs r (le_of_suc-le-suc h), length-append x (joined rs), length-append x (joined (take r rs)))

-- ---- face slices

-- whole threes come back
pub threes_of : (tri : List ℕ) → groups 3 most_count (length tri) ≡ true → flat (faces_of tri) ≡ tri
threes_of tri e = flat-faces (length tri / 3) tri (sym (whole 3 most_count (length tri) (grouped 3 most_count (length tri) e)))

pub few_of : (tri : List ℕ) → groups 3 most_count (length tri) ≡ true → length (faces_of tri) ≤ most_count
few_of tri e = omega (arith, (grouped 3 most_count (length tri) e).most, length-flat (faces_of tri), ap length (threes_of tri e))

-- face i of a slice is face i of the list
pub face-flat : (d : Face) (fs : List Face) (i : ℕ) → i < length fs → face_at (flat fs) i ≡ get_or fs i d
face-flat d fs i h = sym (face_get (flat fs) i d (omega (arith, length-flat fs))) ∙ ap (λ (l : List Face). get_or l i d) (faces-flat fs)

-- ---- an accepted mesh

pub answered : (l : Layer) (sc : Scene) (tri : List ℕ) (first : ℕ) → draw_code l tri sc.vertices sc.width sc.height first ≡ 0 → Answered sc tri
unfolding draw_code
answered l sc tri first e =
    let one = accepted 0 (sizes 1 sc.width sc.height) _ e in
    let three = accepted 2 (slices (length tri) (length sc.vertices)) _ one.1 in
    let four = accepted 3 (exact_layer sc.width sc.height l) _ three.1 in
    let five = accepted 4 (numbers first (length tri / 3)) _ four.1 in
    let six = accepted 5 (all_below (length sc.vertices / 3) tri) _ five.1 in
    let both3 = both (groups 3 most_count (length tri)) _ three.0 in
    record { sized = one.0; faces = both3.0; vertices = both3.1; corners = six.0 }

-- every run of it, thinned and cut, is accepted
pub fit : {sc : Scene} {tri : List ℕ} (keep : ℕ → Bool) (rs : List (List Face)) → Answered sc tri → joined rs ≡ kept_from keep 0 (faces_of tri) → Fit sc rs
fit {sc} {tri} keep rs mesh cut =
    record {
      sized = mesh.sized;
      vertices = mesh.vertices;
      numbered = λ r h. omega (arith, run-within sc rs r h, ap length cut, kept-length keep 0 (faces_of tri), few_of tri mesh.faces);
      corners = λ r h. run_below (length sc.vertices / 3) sc rs r h (rw cut (kept_below (length sc.vertices / 3) keep 0 (faces_of tri) (rw (threes_of tri mesh.faces) mesh.corners)));
    }
