-- And the label screen does tell these two, where no body has the number that an empty pixel shows: so the theorem's premise asks no more than it must.
use Rattle.std.specs.Prelude.{ℕ, ◌*◌, ◌<◌, ◌≡◌, refl, Bool, true, false, List, length, get_or}
use Rattle.std.proofs.Common.{sym, ap, ◌∙◌, arith, eqb-true}
use Rattle.std.proofs.lemmas.Bool.{false≢true, eqb-false}
use Rattle.lists.specs.Laws.Every.{every-at}
use Rattle.questions.specs.Questions.{names_face, empty}
use Rattle.questions.specs.Laws.{face_below}
use Rattle.cells.specs.Layer.{Layer}
use Rattle.meshes.specs.View.{entry_at}
use Rattle.meshes.specs.Laws.{entry_read}
use Rattle.labels.specs.Labels.{label, labelled, labelling}
use Rattle.labels.specs.Ready.{Ready}
use Rattle.labels.proofs.Laws.{ready, label-empty, label-face, label_at}
use Rattle.labels.specs.Screen.{empty_at, body_at, SameBodies}
use Rattle.labels.specs.Told.{NoneAsEmpty}

-- a covered pixel is not shown as empty
covered : {w h : ℕ} (l : Layer) (t : List ℕ) {lent : List ℕ} → Ready l.pix2tri t w h lent → NoneAsEmpty t → (p : ℕ) → p < w * h → empty_at l p ≡ false
    → body_at t l p ≡ empty → ⊥
covered l t a none p i e =
    let within : p < length l.pix2tri = omega (arith, a.whole) in
    let named = every-at (names_face (length t)) l.pix2tri a.named p within in
    none (entry_at l.pix2tri p) (face_below (length t) (entry_at l.pix2tri p) (rw (entry_read l.pix2tri p within) at named) (eqb-false _ _ e))

module _ (w h : ℕ) (l l' : Layer) (t t' lent lent' : List ℕ) (none : NoneAsEmpty t) (none' : NoneAsEmpty t') where
  -- what is shown of one pixel, by whether it is empty in each
  pixel-told : Ready l.pix2tri t w h lent → Ready l'.pix2tri t' w h lent' → (p : ℕ) → p < w * h → label t (entry_at l.pix2tri p) ≡ label t' (entry_at l'.pix2tri p)
      → (empty_at l p ≡ empty_at l' p) × (empty_at l p ≡ false → body_at t l p ≡ body_at t' l' p)
  pixel-told a a' p i same = go (empty_at l p) (empty_at l' p) refl refl
    where
      go : (x y : Bool) → empty_at l p ≡ x → empty_at l' p ≡ y → (empty_at l p ≡ empty_at l' p) × (empty_at l p ≡ false → body_at t l p ≡ body_at t' l' p)
      go true true e e' = (e ∙ sym e', λ f. absurd (false≢true (sym f ∙ e)))
      go true false e e' =
          absurd (covered l' t' a' none' p i e' (sym (label-face t' _ (eqb-false _ _ e')) ∙ sym same ∙ label-empty t _ (eqb-true _ _ e)))
      go false true e e' =
          absurd (covered l t a none p i e (sym (label-face t _ (eqb-false _ _ e)) ∙ same ∙ label-empty t' _ (eqb-true _ _ e')))
      go false false e e' =
          (e ∙ sym e', λ f. sym (label-face t _ (eqb-false _ _ e)) ∙ same ∙ label-face t' _ (eqb-false _ _ e'))

  pub bodies_told : (labelling l.pix2tri t w h lent).code ≡ 0 → (labelling l'.pix2tri t' w h lent').code ≡ 0
      → (labelling l.pix2tri t w h lent).left ≡ (labelling l'.pix2tri t' w h lent').left → SameBodies w h l t l' t'
  unfolding labelling
  bodies_told e e' same = record { empties = λ p i. (told p i).0; bodies = λ p i. (told p i).1 }
    where
      pictures : labelled t l.pix2tri ≡ labelled t' l'.pix2tri
      pictures = rw (e, e') at same

      told : (p : ℕ) → p < w * h → (empty_at l p ≡ empty_at l' p) × (empty_at l p ≡ false → body_at t l p ≡ body_at t' l' p)
      told p i =
          pixel-told (ready l.pix2tri t w h lent e) (ready l'.pix2tri t' w h lent' e') p i
          (sym (label_at t l.pix2tri p) ∙ ap (λ (x : List ℕ). get_or x p empty) pictures ∙ label_at t' l'.pix2tri p)
