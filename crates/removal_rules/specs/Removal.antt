-- 02, Point 5: a removal seen beforehand. Both drawings are what the calls `clear` and `pix2tri_by_rasterization` leave; the counts compare their maps.
use Rattle.std.specs.Prelude.{ℕ, ◌*◌, ◌/◌, Bool, not, ◌&&◌, cond, List, [], ◌∷◌, eqb, length, get_or, Float}
use Rattle.lists.specs.Lists.{span, count}
use Rattle.questions.specs.Questions.{ask, first_no, Outcome, answer, sizes, slices, exact, all_below, empty}
use Rattle.offers.specs.Thinning.{kept_from, renumber}
use Rattle.cells.specs.Layer.{Layer}
use Rattle.layers.specs.Calls.{exact_layer, clearing}
use Rattle.meshes.specs.Mesh.{faces_of, flat}
use Rattle.meshes.specs.View.{entry_at}
use Rattle.rules.specs.Calls.{draws}

-- whether face k is kept: "one byte a face, 0 for kept and any other for removed"
unfoldable pub kept_by : List ℕ → ℕ → Bool
kept_by removed k = eqb (get_or removed k 0) 0

-- the face slice of "the shortened list": the faces that are kept, in order
unfoldable pub shortened : List ℕ → List ℕ → List ℕ
shortened removed tri = flat (kept_from (kept_by removed) 0 (faces_of tri))

-- a list drawn "from number 0 into a cleared copy of its own", the scratch layer l; all faces
unfoldable pub drawn_anew : Layer → List ℕ → List Float → ℕ → ℕ → List Float → Layer
drawn_anew l tri xyz w h m = (draws (clearing l w h).left tri xyz w h m 0 0).left

-- What becomes of a pixel whose entry in the full drawing's map is `old` and in the shortened one's `new`.

-- it goes empty
unfoldable pub goes_empty : ℕ → ℕ → Bool
goes_empty old new = not (eqb old empty) && eqb new empty

-- it keeps its face, which is not removed and has its new number there: "old numbers matched to new"; "A pixel empty in both counts as kept."
unfoldable pub keeps_face : (ℕ → Bool) → ℕ → ℕ → Bool
keeps_face keep old new = cond (eqb old empty) (eqb new empty) (keep old && eqb new (renumber empty keep old))

-- it names another face
unfoldable pub names_another : (ℕ → Bool) → ℕ → ℕ → Bool
names_another keep old new = not (eqb new empty) && not (keeps_face keep old new)

-- how many pixels go empty, how many name another face, and how many keep theirs
pub record Preview : Type 0 where
  pub emptied : ℕ
  pub renamed : ℕ
  pub kept : ℕ

abbrev pub preview : ℕ → ℕ → ℕ → Preview
preview emptied renamed kept = record { emptied = emptied; renamed = renamed; kept = kept }

-- the counts of n pixels, by the two maps
unfoldable pub counted : (ℕ → Bool) → List ℕ → List ℕ → ℕ → Preview
counted keep full short n =
    preview
    (count (λ p. goes_empty (entry_at full p) (entry_at short p)) (span 0 n))
    (count (λ p. names_another keep (entry_at full p) (entry_at short p)) (span 0 n))
    (count (λ p. keeps_face keep (entry_at full p) (entry_at short p)) (span 0 n))

-- what the call answers beside its code, and the two scratch layers that it is lent
pub record Previewed : Type 0 where
  pub preview : Preview
  pub full : Layer
  pub short : Layer

abbrev pub previewed : Preview → Layer → Layer → Previewed
previewed counts full short = record { preview = counts; full = full; short = short }

unfoldable pub removal_code : List ℕ → List Float → ℕ → ℕ → List ℕ → Layer → Layer → ℕ
removal_code tri xyz w h removed full short =
    first_no
    (ask 1 (sizes 1 w h)
    ∷ ask 3 (slices (length tri) (length xyz))
    ∷ ask 4 (exact (length tri / 3) (length removed) && (exact_layer w h full && exact_layer w h short))
    ∷ ask 6 (all_below (length xyz / 3) tri)
    ∷ [])

-- the two drawings, and the counts by their maps
unfoldable pub compared : ℕ → (ℕ → Bool) → Layer → Layer → Previewed
compared n keep full short = previewed (counted keep full.pix2tri short.pix2tri n) full short

-- `preview_removal` leaves the two drawings in the scratch layers and answers the counts; refused, it answers 0 for each.
unfoldable pub previewing : List ℕ → List Float → ℕ → ℕ → List Float → List ℕ → Layer → Layer → Outcome Previewed
previewing tri xyz w h m removed full short =
    answer (removal_code tri xyz w h removed full short) (previewed (preview 0 0 0) full short)
    (compared (w * h) (kept_by removed) (drawn_anew full tri xyz w h m) (drawn_anew short (shortened removed tri) xyz w h m))
