-- Proved of the definitions.
pub mod Renumbered
use Rattle.std.specs.Prelude.{ℕ, ◌≤◌, ◌<◌, ◌≡◌, refl, Bool, true, false, cond, List, map, eqb, length, get_or}
use Rattle.std.proofs.Common.{sym, ap, ◌∙◌, arith, leb-true, eq-eqb, ne_eqb, ext_get_or}
use Rattle.std.proofs.lemmas.List.{length-map}
use Rattle.std.proofs.Math.ListN.{get_or-map, get_or-eq_default}
use Rattle.lists.specs.Laws.Tests.{both}
use Rattle.questions.specs.Questions.{bounded, empty, most_count}
use Rattle.questions.specs.Laws.{sized, exactly, accepted}
use Rattle.meshes.specs.View.{entry_at}
use Rattle.meshes.specs.Laws.{entry_read}
use Rattle.labels.specs.Labels.{body_of, label, labelled, label_code}
use Rattle.labels.specs.Ready.{Ready}

-- what is shown of an entry
pub label-empty : (tri2body : List ℕ) (entry : ℕ) → entry ≡ empty → label tri2body entry ≡ empty
unfolding label
label-empty t entry e = rw (eq-eqb entry empty e)

pub label-face : (tri2body : List ℕ) (entry : ℕ) → (entry ≡ empty → ⊥) → label tri2body entry ≡ body_of tri2body entry
unfolding label
label-face t entry h = rw (ne_eqb entry empty h)

-- what the code reads of a table that question 3 lets pass: empty lies past its end
pub label_read : (tri2body : List ℕ) (entry : ℕ) → length tri2body ≤ most_count → entry < length tri2body → get_or tri2body entry 0 ≡ label tri2body entry
unfolding body_of
label_read t entry few h = entry_read t entry h ∙ sym (label-face t entry (λ e. omega arith))

pub label_past : (tri2body : List ℕ) (entry : ℕ) → length tri2body ≤ entry → empty ≡ label tri2body entry
unfolding label body_of
label_past t entry h = rw (get_or-eq_default t empty h) (go (eqb entry empty))
  where
    go : (b : Bool) → empty ≡ cond b empty empty
    go true = refl
    go false = refl

-- the picture at p, also past its end
pub label_at : (tri2body pix2tri : List ℕ) (p : ℕ) → get_or (labelled tri2body pix2tri) p empty ≡ label tri2body (entry_at pix2tri p)
unfolding labelled
label_at t names p = ap (get_or (map (label t) names) p) (sym (label-empty t empty refl)) ∙ get_or-map (label t) names p empty

pub length-labelled : (tri2body pix2tri : List ℕ) → length (labelled tri2body pix2tri) ≡ length pix2tri
unfolding labelled
length-labelled t names = length-map names (label t)

-- two pictures that show the same at every pixel
pub same_labelled : (t t' names names' : List ℕ) → length names ≡ length names'
    → ((p : ℕ) → p < length names → label t (entry_at names p) ≡ label t' (entry_at names' p)) → labelled t names ≡ labelled t' names'
same_labelled t t' names names' e k =
    ext_get_or empty (labelled t names) (labelled t' names')
    (length-labelled t names ∙ e ∙ sym (length-labelled t' names'))
    (λ p h. label_at t names p ∙ k p (rw (length-labelled t names) at h) ∙ sym (label_at t' names' p))

pub ready : (pix2tri tri2body : List ℕ) (w h : ℕ) (pix2body : List ℕ) → label_code pix2tri tri2body w h pix2body ≡ 0 → Ready pix2tri tri2body w h pix2body
unfolding label_code bounded
ready names t w h picture e =
    let one = accepted 0 _ _ e in
    let three = accepted 2 _ _ one.1 in
    let four = accepted 3 _ _ three.1 in
    let lengths = both _ _ four.0 in
    let seven = accepted 6 _ _ four.1 in
    record {
      size = sized 1 w h one.0;
      few = leb-true _ _ three.0;
      whole = exactly _ _ lengths.0;
      lent = exactly _ _ lengths.1;
      named = seven.0;
    }
