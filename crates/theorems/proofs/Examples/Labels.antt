-- Examples beside 01's: two layers of 2 × 2, empty at the second pixel, whose others belong to bodies 7, 7 and 8. Faces, their count, table, depths and weights differ.
use Rattle.std.specs.Prelude.{ℕ, zero, suc, ◌<◌, ◌≡◌, refl, false, List, [], ◌∷◌}
use Rattle.std.proofs.Common.{sym, arith}
use Rattle.questions.specs.Questions.{empty, outcome, sizes, bounded, exact, names_face, first_no}
use Rattle.cells.specs.Layer.{Layer, layer}
use Rattle.labels.specs.Labels.{body_of, label, labelled, label_code, labelling}
use Rattle.labels.specs.Screen.{empty_at, body_at, SameBodies}
use Rattle.labels.proofs.Screen.{screen}
use Rattle.sequences.proofs.Instance.{left_first, four-faces}
use Rattle.sequences.specs.Example as example
use Rattle.sequences.specs.Example.{quarter, half, four, twelve, in_t}
use Rattle.theorems.specs.Demand3.{Labels}
use Rattle.theorems.proofs.Demand3.{demand3}

abbrev one_layer : Layer
one_layer = layer (0 ∷ empty ∷ 2 ∷ 1 ∷ []) (four quarter) in_t

abbrev one_table : List ℕ
one_table = 7 ∷ 8 ∷ 7 ∷ []

abbrev another_layer : Layer
another_layer = layer (1 ∷ empty ∷ 1 ∷ 0 ∷ []) (four half) (twelve example.one)

abbrev another_table : List ℕ
another_table = 8 ∷ 7 ∷ []

same_bodies : SameBodies 2 2 one_layer one_table another_layer another_table
unfolding body_of
same_bodies = record { empties = empties; bodies = bodies }
  where
    empties : (p : ℕ) → p < 4 → empty_at one_layer p ≡ empty_at another_layer p
    empties zero h = refl
    empties (suc zero) h = refl
    empties (suc (suc zero)) h = refl
    empties (suc (suc (suc zero))) h = refl
    empties (suc (suc (suc (suc p)))) h = absurd (omega arith)

    bodies : (p : ℕ) → p < 4 → empty_at one_layer p ≡ false → body_at one_table one_layer p ≡ body_at another_table another_layer p
    bodies zero h e = refl
    bodies (suc zero) h e = refl
    bodies (suc (suc zero)) h e = refl
    bodies (suc (suc (suc zero))) h e = refl
    bodies (suc (suc (suc (suc p)))) h e = absurd (omega arith)

-- the theorem at these, whatever the two pictures held
pub told_alike : labelling one_layer.pix2tri one_table 2 2 (four 5) ≡ labelling another_layer.pix2tri another_table 2 2 (four 9)
unfolding first_no sizes bounded exact names_face label body_of labelled label_code labelling
told_alike = screen.same_picture 2 2 one_layer another_layer one_table another_table (four 5) (four 9) refl refl same_bodies

pub told : labelling one_layer.pix2tri one_table 2 2 (four 5) ≡ outcome 0 (7 ∷ empty ∷ 7 ∷ 8 ∷ [])
unfolding first_no sizes bounded exact names_face label body_of labelled label_code labelling
told = refl

-- a body may have the number that an empty pixel shows
pub body_shown_as_empty : labelling (four 0) (empty ∷ []) 2 2 (four 5) ≡ outcome 0 (four empty)
unfolding first_no sizes bounded exact names_face label body_of labelled label_code labelling
body_shown_as_empty = refl

-- no faces at all; and a face that the table has no body for
pub no_bodies : labelling (four empty) [] 2 2 (four 5) ≡ outcome 0 (four empty)
unfolding first_no sizes bounded exact names_face label body_of labelled label_code labelling
no_bodies = refl

pub refused : labelling (four 1) (7 ∷ []) 2 2 (four 5) ≡ outcome 7 (four 5)
unfolding first_no sizes bounded exact names_face label body_of labelled label_code labelling
refused = refl

-- refused with any other table of its length, and whatever the picture holds
pub refused_alike : (labelling (four 1) (9 ∷ []) 2 2 (four 6)).code ≡ 7
unfolding first_no sizes bounded exact names_face label body_of labelled label_code labelling
refused_alike = screen.same_code 2 2 (layer (four 1) (four half) in_t) (layer (four 1) (four quarter) in_t) (9 ∷ []) (7 ∷ []) (four 6) (four 5) refl refl refl

-- demand 3's mesh of four faces, one of them taken out, drawn whole and in runs: the same picture of body numbers
pub thinned_alike : Labels left_first (7 ∷ 8 ∷ 9 ∷ 8 ∷ [])
thinned_alike = demand3.labels_same left_first (7 ∷ 8 ∷ 9 ∷ 8 ∷ []) (sym four-faces)
