-- The label screen can tell no more of a layer than which pixels are empty, and which body each of the others belongs to.
use Rattle.std.specs.Prelude.{ℕ, ◌*◌, ◌<◌, ◌≡◌, refl, Bool, true, false, cond, List, length}
use Rattle.std.proofs.Math.Path.{sym}
use Rattle.std.proofs.Common.{ap, ◌∙◌, arith}
use Rattle.questions.specs.Questions.{outcome, empty}
use Rattle.cells.specs.Layer.{Layer}
use Rattle.meshes.specs.View.{entry_at}
use Rattle.labels.specs.Labels.{label, label_code, labelling}
use Rattle.labels.proofs.Laws.{ready, same_labelled}
use Rattle.labels.specs.Screen.{empty_at, body_at, SameBodies, LabelScreen}

-- what is shown of a pixel follows from the two
shown : (l l' : Layer) (t t' : List ℕ) (p : ℕ) → empty_at l p ≡ empty_at l' p → (empty_at l p ≡ false → body_at t l p ≡ body_at t' l' p)
    → label t (entry_at l.pix2tri p) ≡ label t' (entry_at l'.pix2tri p)
unfolding label
shown l l' t t' p e k = go (empty_at l p) k ∙ ap (λ (b : Bool). cond b empty (body_at t' l' p)) e
  where
    go : (b : Bool) → (b ≡ false → body_at t l p ≡ body_at t' l' p) → cond b empty (body_at t l p) ≡ cond b empty (body_at t' l' p)
    go true k = refl
    go false k = k refl

module _ (w h : ℕ) (l l' : Layer) (t t' lent lent' : List ℕ) where
  picture_same : (labelling l.pix2tri t w h lent).code ≡ 0 → (labelling l'.pix2tri t' w h lent').code ≡ 0 → SameBodies w h l t l' t'
      → labelling l.pix2tri t w h lent ≡ labelling l'.pix2tri t' w h lent'
  unfolding labelling
  picture_same e e' same =
      let a = ready l.pix2tri t w h lent e in
      let a' = ready l'.pix2tri t' w h lent' e' in
      rw (e, e')
      (ap (outcome 0)
      (same_labelled t t' l.pix2tri l'.pix2tri (a.whole ∙ sym a'.whole)
      (λ p i. let within : p < w * h = omega (arith, a.whole) in shown l l' t t' p (same.empties p within) (same.bodies p within))))

  code_same : l.pix2tri ≡ l'.pix2tri → length t ≡ length t' → length lent ≡ length lent'
      → (labelling l.pix2tri t w h lent).code ≡ (labelling l'.pix2tri t' w h lent').code
  unfolding labelling label_code
  code_same names table picture = rw (names, table, picture)

pub screen : LabelScreen
screen = record { same_picture = picture_same; same_code = code_same }
