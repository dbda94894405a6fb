-- The kept faces of a list, run by run.
use Prim.Native.Nat.{ℕ, suc, ◌+◌, ◌-◌, ◌*◌, ◌/◌, ◌≤◌, ◌<◌}
use mathlib.Core.Path.{◌≡◌, refl, sym, ap, ◌∙◌}
use mathlib.Core.Logic.{◌⊎◌, inl, inr}
use mathlib.Core.Bool.{Bool, not}
use mathlib.Core.List.{List, ◌++◌}
use native.Mathlib.Numerals.{add-one}
use native.Mathlib.Omega.{arith}
use lib.Dec.{T, ltb, ltb→lt, nltb→le}
use lib.ListN.{length, get_or, take, drop, length-drop, drop_of_length-le}
use lib.Seq.{length-take-le, drop-drop, drop-cons, get_or-drop}
use Rattle.offers.specs.Thinning.{kept_from}
use Rattle.offers.proofs.Laws.Order.{test}
use Rattle.offers.proofs.Laws.Thinning.{kept_skip, kept-first}
use Rattle.cells.specs.Layer.{Layer}
use Rattle.cells.specs.Steps.{Spans}
use Rattle.meshes.specs.Mesh.{Face, face, faces_of}
use Rattle.meshes.specs.Laws.{length-faces, part, faces-part}
use Rattle.rules.specs.Offers.{Scene}
use Rattle.rules.specs.Draw.{drawn}
use Rattle.rules.proofs.Laws.Paint.{spans-drawn, drawn_none, drawn-append}
use Rattle.removal_rules.specs.Removal.{kept_by}
use Rattle.kept_faces.specs.Run.{kept_run}
use Rattle.kept_faces.proofs.Marks.{counted}

-- Of n faces those from i up to `end` are kept, and face `end`, if there is one, is not.
pub record Run (keep : ℕ → Bool) (n i end : ℕ) : Type 0 where
  pub forward : i ≤ end
  pub within : end ≤ n
  pub kept : (j : ℕ) → j < end - i → T (keep (i + j))
  pub stops : end < n → T (not (keep end))

-- what `run_end` finds
pub run_found : (removed : List ℕ) (i : ℕ) {end : ℕ} → i ≤ length removed → end ≡ i + kept_run (drop i removed) → Run (kept_by removed) (length removed) i end
unfolding kept_by
run_found removed i {end} h e =
    let c = counted (drop i removed) in
    let l = length-drop i removed in
    record {
      forward = omega arith;
      within = omega arith;
      kept = λ j m. rw get_or-drop at (c.zeros j (omega arith));
      stops = λ m. rw (e, ← (get_or-drop i removed (kept_run (drop i removed)) 0)) (c.other (omega arith));
    }

module _ (keep : ℕ → Bool) (fs : List Face) where
  -- past a face that is removed, or past the last
  kept_past : (i : ℕ) → (i < length fs → T (not (keep i))) → kept_from keep i (drop i fs) ≡ kept_from keep (i + 1) (drop (i + 1) fs)
  unfolding kept_from
  kept_past i h = go (test (ltb i (length fs)))
    where
      go : T (ltb i (length fs)) ⊎ T (not (ltb i (length fs))) → kept_from keep i (drop i fs) ≡ kept_from keep (i + 1) (drop (i + 1) fs)
      go (inl l) =
          let m = ltb→lt i (length fs) l in
          rw (drop-cons fs i (face 0 0 0) m, add-one) (kept_skip keep i (get_or fs i (face 0 0 0)) (drop (suc i) fs) (h m))
      go (inr l) =
          let m = nltb→le i (length fs) l in
          rw (drop_of_length-le fs {i = i} m, drop_of_length-le fs {i = i + 1} (omega arith))

  -- the kept faces from i on: a run, and those after the face that ends it
  kept_run_lem : {i end : ℕ} → Run keep (length fs) i end → kept_from keep i (drop i fs) ≡ take (end - i) (drop i fs) ++ kept_from keep (end + 1) (drop (end + 1) fs)
  kept_run_lem {i} {end} r =
      let a = r.forward in
      let b = r.within in
      let e : i + (end - i) ≡ end = omega arith in
      kept-first keep i (end - i) (drop i fs) (omega (arith, length-drop i fs)) r.kept
      ∙ ap (λ (gs : List Face). take (end - i) (drop i fs) ++ gs) (rw (drop-drop (end - i) i fs, e) (kept_past end r.stops))

-- Before a run from face i on: its first kept face has number k, and the kept faces from i on are all that is left to draw.
pub record Left (sc : Scene) (keep : ℕ → Bool) (fs : List Face) (l cur : Layer) (i k : ℕ) : Type 0 where
  pub number : k ≤ i
  pub spans : Spans cur (sc.width * sc.height)
  pub is : drawn sc (kept_from keep i (drop i fs)) k cur ≡ drawn sc (kept_from keep 0 fs) 0 l

module _ (sc : Scene) (keep : ℕ → Bool) where
  pub left_all : (fs : List Face) (l : Layer) → Spans l (sc.width * sc.height) → Left sc keep fs l l 0 0
  left_all fs l s = record { number = omega arith; spans = s; is = refl }

  -- a run drawn
  pub left_less : (tri : List ℕ) (l cur new : Layer) (i end k : ℕ) → 3 * (length tri / 3) ≡ length tri → Run keep (length tri / 3) i end → Left sc keep (faces_of tri) l cur i k → new ≡ drawn sc (faces_of (part i end tri)) k cur
      → Left sc keep (faces_of tri) l new (end + 1) (k + (end - i))
  left_less tri l cur new i end k whole-threes r t e =
      let a = r.forward in
      let run : Run keep (length (faces_of tri)) i end = rw (length-faces tri) r in
      let rest = kept_from keep (end + 1) (drop (end + 1) (faces_of tri)) in
      let length_run : length (take (end - i) (drop i (faces_of tri))) ≡ end - i = length-take-le (end - i) (drop i (faces_of tri)) (omega (arith, length-drop i (faces_of tri), run.within)) in
      record {
        number = omega (arith, t.number);
        spans = rw e (spans-drawn sc (faces_of (part i end tri)) k cur);
        is =
            ap (drawn sc rest (k + (end - i))) (e ∙ ap (λ (fs : List Face). drawn sc fs k cur) (faces-part i end tri whole-threes))
            ∙ ap (λ (n : ℕ). drawn sc rest (k + n) (drawn sc (take (end - i) (drop i (faces_of tri))) k cur)) (sym length_run)
            ∙ sym (drawn-append sc (take (end - i) (drop i (faces_of tri))) rest k cur)
            ∙ ap (λ (fs : List Face). drawn sc fs k cur) (sym (kept_run_lem keep (faces_of tri) run))
            ∙ t.is;
      }

  pub left_none : (tri : List ℕ) (l cur : Layer) (i k : ℕ) → length tri / 3 ≤ i → Left sc keep (faces_of tri) l cur i k → cur ≡ drawn sc (kept_from keep 0 (faces_of tri)) 0 l
  unfolding kept_from
  left_none tri l cur i k h t =
      sym (drawn_none sc k cur t.spans)
      ∙ ap (λ (fs : List Face). drawn sc (kept_from keep i fs) k cur) (sym (drop_of_length-le (faces_of tri) {i = i} (omega (arith, length-faces tri))))
      ∙ t.is
