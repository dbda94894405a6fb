-- A map renumbered together with its table: the screen shows what it showed. A thinned list is one instance, a shuffled one another.
use Rattle.std.specs.Prelude.{ℕ, ◌≡◌, refl, Bool, true, false, eqb, length}
use Rattle.std.proofs.Common.{sym, ap, ◌∙◌, eqb-true}
use Rattle.std.proofs.Math.Path.{ap₂}
use mathlib.Core.List.{List, map}
use Rattle.std.proofs.lemmas.Bool.{eqb-false}
use Rattle.std.proofs.Math.ListN.{length-map}
use Rattle.questions.specs.Questions.{answer, bounded, empty}
use Rattle.meshes.specs.View.{entry_at}
use Rattle.views.specs.Renaming.{Renumbers}
use Rattle.views.proofs.Renaming.{entry-renamed, not_emptied, names_same}
use Rattle.labels.specs.Labels.{body_of, label, label_code, labelling}
use Rattle.labels.proofs.Laws.{label-empty, label-face, same_labelled}

module _ {r : ℕ → ℕ} {names : List ℕ} (t t' : List ℕ) (s : Renumbers r names (length t) (length t')) where
  -- the new table has the old one's body for each face that an entry names
  abbrev pub Moved : Type 0
  Moved = (p : ℕ) → (entry_at names p ≡ empty → ⊥) → body_of t' (r (entry_at names p)) ≡ body_of t (entry_at names p)

  label_same : Moved → (p : ℕ) → label t (entry_at names p) ≡ label t' (entry_at (map r names) p)
  label_same moved p = go (eqb (entry_at names p) empty) refl ∙ sym (ap (label t') (entry-renamed s p))
    where
      go : (b : Bool) → eqb (entry_at names p) empty ≡ b → label t (entry_at names p) ≡ label t' (r (entry_at names p))
      go true e =
          let k = eqb-true _ _ e in
          label-empty t (entry_at names p) k ∙ sym (label-empty t' (r (entry_at names p)) (ap r k ∙ s.empty_stays))
      go false e =
          let k = eqb-false _ _ e in
          label-face t (entry_at names p) k ∙ sym (moved p k) ∙ sym (label-face t' (r (entry_at names p)) (not_emptied s p k))

  code_same : bounded (length t) ≡ bounded (length t') → (w h : ℕ) (picture : List ℕ) → label_code names t w h picture ≡ label_code (map r names) t' w h picture
  unfolding label_code
  code_same few w h picture = rw (few, length-map names r, names_same s)

  pub relabelled : Moved → bounded (length t) ≡ bounded (length t') → (w h : ℕ) (picture : List ℕ) → labelling names t w h picture ≡ labelling (map r names) t' w h picture
  unfolding labelling
  relabelled moved few w h picture =
      ap₂ (λ (code : ℕ) (made : List ℕ). answer code picture made) (code_same few w h picture)
      (same_labelled t t' names (map r names) (sym (length-map names r)) (λ p i. label_same moved p))
