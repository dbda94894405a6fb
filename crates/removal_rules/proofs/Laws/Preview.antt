-- What an accepted call tells: 02's words on Point 5, proved of the outcome that its contract cites.
use Rattle.std.specs.Prelude.{ℕ, ◌+◌, ◌*◌, ◌<◌, ◌≤◌, ◌≡◌, refl, ◌⊎◌, Bool, true, false, List, [], map, length, get_or, Float}
use Rattle.std.proofs.Math.Path.{ap}
use Rattle.std.proofs.Common.{sym, ◌∙◌, inl, inr, arith, ne_eqb}
use Rattle.std.proofs.Math.ListN.{get_or-map}
use Rattle.questions.specs.Questions.{empty, most_count}
use Rattle.offers.specs.Thinning.{kept_from, renumber}
use Rattle.offers.proofs.Laws.Thinning.{renumber-empty}
use Rattle.cells.specs.Layer.{Layer}
use Rattle.meshes.specs.Mesh.{Face, faces_of}
use Rattle.meshes.specs.Laws.{length-faces}
use Rattle.meshes.specs.View.{entry_at}
use Rattle.rules.specs.declared.Facing.TheVariants.{All}
use Rattle.rules.specs.Offers.{Scene, scene, offers, Holds}
use Rattle.sequences.specs.Whole.{fresh}
use Rattle.sequences.proofs.Mesh.{few_of}
use Rattle.sequences.specs.Redrawn.{drawn_map}
use Rattle.sequences.proofs.Redrawn.{offer-face, holds_face, entry_holds}
use Rattle.sequences.specs.Thinned.{Idle}
use Rattle.sequences.proofs.Thinned.{thinned}
use Rattle.removal_rules.specs.Removal.{kept_by, shortened, drawn_anew, goes_empty, preview, counted, Previewed, compared, removal_code, previewing}
use Rattle.removal_rules.specs.Asked.{Asked}
use Rattle.removal_rules.proofs.Laws.Drawings.{asked, full-drawn, short_drawn}
use Rattle.removal_rules.specs.Matched.{Matched}
use Rattle.removal_rules.proofs.Laws.Pixels.{stays_kept, keep-empty, drawings_match}
use Rattle.removal_rules.proofs.Laws.Counts.{all_keep}
use Rattle.removal_rules.proofs.Laws.Counts as counts
use Rattle.removal_rules.specs.Alone.{Alone}
use Rattle.removal_rules.proofs.Laws.Emptied.{gone-alone, alone-gone}

module _ (tri : List ℕ) (xyz : List Float) (w h : ℕ) (m : List Float) (removed : List ℕ) (full short : Layer) (accepted : removal_code tri xyz w h removed full short ≡ 0) where
  -- what the drawings are made from
  abbrev sc : Scene
  sc = scene m xyz w h All

  abbrev fs : List Face
  fs = faces_of tri

  abbrev keep : ℕ → Bool
  keep = kept_by removed

  -- what the call answers and leaves
  abbrev told : Previewed
  told = (previewing tri xyz w h m removed full short).left

  -- the entries of pixel p in the two drawings that it leaves
  abbrev old : ℕ → ℕ
  old p = entry_at told.full.pix2tri p

  abbrev new : ℕ → ℕ
  new p = entry_at told.short.pix2tri p

  -- ---- what it leaves

  yes : Asked tri xyz w h removed full short
  yes = asked tri xyz w h removed full short accepted

  told_is : told ≡ compared (w * h) keep (drawn_anew full tri xyz w h m) (drawn_anew short (shortened removed tri) xyz w h m)
  unfolding previewing
  told_is = rw accepted

  pub full_is : told.full ≡ fresh sc fs 0
  unfolding compared
  full_is = ap (λ (t : Previewed). t.full) told_is ∙ full-drawn yes m

  pub short_is : told.short ≡ fresh sc (kept_from keep 0 fs) 0
  unfolding compared
  short_is = ap (λ (t : Previewed). t.short) told_is ∙ short_drawn yes m

  few : length fs ≤ most_count
  few = few_of tri (yes.mesh m).faces

  marks : length removed ≡ length fs
  marks = yes.marks ∙ sym (length-faces tri)

  empty_kept : keep empty ≡ true
  empty_kept = keep-empty removed (omega (arith, marks, few))

  matched : Matched keep told.full.pix2tri told.short.pix2tri (w * h)
  matched = rw (full_is, short_is) (drawings_match sc fs keep few empty_kept)

  told-counts : told.preview ≡ counted keep told.full.pix2tri told.short.pix2tri (w * h)
  unfolding compared
  told-counts = rw told_is

  -- ---- the counts

  -- the three counts add up to width times height
  pub adds_up : told.preview.emptied + told.preview.renamed + told.preview.kept ≡ w * h
  adds_up = rw told-counts (counts.adds_up matched)

  -- "For a set of faces that hold no pixel, the first two counts are zero": by demand 3's own law of a thinned list, `thinned`
  module _ (idle : Idle sc fs keep) where
    entry_kept : (p : ℕ) → keep (entry_at (drawn_map sc fs) p) ≡ true
    entry_kept p = go (entry_holds sc fs p) (keep (entry_at (drawn_map sc fs) p)) refl
      where
        go : (entry_at (drawn_map sc fs) p ≡ empty) ⊎ ((p < w * h) × Holds sc fs (entry_at (drawn_map sc fs) p) p) → (k : Bool) → keep (entry_at (drawn_map sc fs) p) ≡ k → k ≡ true
        go t true k = refl
        go (inl e) false k = sym k ∙ ap keep e ∙ empty_kept
        go (inr (l, held)) false k = absurd (idle (entry_at (drawn_map sc fs) p) (holds_face sc fs (entry_at (drawn_map sc fs) p) p held) (rw k tt) p l held)

    entry-renumbered : (p : ℕ) → entry_at (drawn_map sc (kept_from keep 0 fs)) p ≡ renumber empty keep (entry_at (drawn_map sc fs) p)
    entry-renumbered p =
        ap (λ (l : Layer). entry_at l.pix2tri p) (thinned sc fs keep few idle)
        ∙ ap (get_or (map (renumber empty keep) (drawn_map sc fs)) p) (sym (renumber-empty empty keep))
        ∙ get_or-map (renumber empty keep) (drawn_map sc fs) p empty

    pub idle_removed : told.preview ≡ preview 0 0 (w * h)
    idle_removed = told-counts ∙ all_keep matched (λ p l. rw (full_is, short_is) (stays_kept keep _ _ (entry_kept p) (entry-renumbered p)))

  -- removing nothing keeps all
  pub nothing_removed : ((k : ℕ) → k < length fs → get_or removed k 0 ≡ 0) → told.preview ≡ preview 0 0 (w * h)
  unfolding kept_by
  nothing_removed none = idle_removed (λ i l t. absurd (rw (none i l) at t))

  -- ---- pixels that go empty

  -- a pixel goes empty exactly where it was covered by removed faces alone
  pub emptied_alone : (p : ℕ) → p < w * h → goes_empty (old p) (new p) ≡ true → Alone sc fs keep p
  emptied_alone p l e = gone-alone sc fs keep few p l (rw (full_is, short_is) at e)

  pub alone_emptied : (p : ℕ) → p < w * h → Alone sc fs keep p → goes_empty (old p) (new p) ≡ true
  alone_emptied p l a = rw (full_is, short_is) (alone-gone sc fs keep few p l a)

  -- removing all leaves every covered pixel empty
  pub all_removed : ((k : ℕ) → k < length fs → get_or removed k 0 ≡ 0 → ⊥) → (p : ℕ) → p < w * h → (offers sc fs 0 p ≡ [] → ⊥) → goes_empty (old p) (new p) ≡ true
  unfolding kept_by
  all_removed all p l c =
      alone_emptied p l (record { is_covered = c; removed = λ o i. rw (ne_eqb (get_or removed o.payload.number 0) 0 (all o.payload.number (offer-face sc fs p o i))) tt })
