-- A list with faces taken out: a pixel whose face is kept shows it still. Where those taken out hold no pixel, the drawing is the full one's, renumbered, and no pass
-- can tell them apart.
use Rattle.std.specs.Prelude.{ℕ, ◌/◌, ◌<◌, ◌≤◌, ◌≡◌, refl, ◌⊎◌, Bool, true, not, List, map, T, length, get_or}
use Rattle.std.proofs.Common.{ap, sym, ◌∙◌, inl, inr, arith}
use Rattle.questions.specs.Questions.{all_below, empty, most_count}
use Rattle.offers.specs.Offer.{renamed}
use Rattle.offers.specs.Offers.{Greatest}
use Rattle.offers.specs.Thinning.{kept_from, kept_before, renumber}
use Rattle.offers.proofs.Laws.Order.{test}
use Rattle.offers.proofs.Laws.Joins.{won}
use Rattle.offers.proofs.Laws.Removal.{kept_offers}
use Rattle.offers.proofs.Laws.Faces.{offers-kept, won_thinned}
use Rattle.offers.proofs.Laws.Thinning.{renumber-empty, renumber-face, kept_apart, kept-length, kept_at}
use Rattle.cells.specs.Cell.{Hit, hit, Cell, no_hit, numbered}
use Rattle.cells.proofs.Laws.Numbers.{numbered_number, with_number, numbered-renamed}
use Rattle.meshes.specs.Mesh.{Face, face, face_at, flat}
use Rattle.meshes.specs.Laws.{length-flat}
use Rattle.meshes.specs.View.{entry_at}
use Rattle.views.specs.Alike.{Alike}
use Rattle.views.specs.Renaming.{Renumbers, Renames}
use Rattle.views.proofs.Renaming.{renamed_alike}
use Rattle.rules.specs.Offers.{Scene, brings, brought, offers, Holds}
use Rattle.sequences.specs.Whole.{pixel_count, fresh}
use Rattle.sequences.proofs.Whole.{groups-flat}
use Rattle.sequences.proofs.Mesh.{kept_below, face-flat}
use Rattle.sequences.specs.Redrawn.{drawn_map, renumbered}
use Rattle.sequences.proofs.Redrawn.{holds_face, entry_holds, redrawn}
use Rattle.sequences.specs.Thinned.{Idle}

module _ (sc : Scene) (fs : List Face) (keep : ℕ → Bool) (few : length fs ≤ most_count) where
  abbrev kept : List Face
  kept = kept_from keep 0 fs

  abbrev new_number : ℕ → ℕ
  new_number = renumber empty keep

  brings_moved : (p k : ℕ) (f : Face) → k < most_count → map (renamed (with_number new_number)) (numbered k (brings sc f p)) ≡ numbered (kept_before keep k) (brings sc f p)
  brings_moved p k f h =
      numbered-renamed new_number k (brings sc f p) ∙ ap (λ (n : ℕ). numbered n (brings sc f p)) (renumber-face empty keep k (λ e. omega arith))

  -- a pixel whose face is kept shows the same under its new number
  pub pixel-kept : (p : ℕ) → ((c : Cell) → Greatest (offers sc fs 0 p) c → T (keep c.payload.number))
      → won no_hit (brought sc kept 0 p) ≡ renamed (with_number new_number) (won no_hit (brought sc fs 0 p))
  unfolding brought offers with_number
  pixel-kept p held =
      won_thinned (λ (h : Hit). h.number) (λ j f. numbered j (brings sc f p)) (λ k f o. numbered_number k (brings sc f p) o) keep (with_number new_number) (λ j f. numbered j (brings sc f p)) most_count (brings_moved p) no_hit no_hit
      (ap (λ (n : ℕ). hit n no_hit.weights) (renumber-empty empty keep)) fs few held

  -- the offers at a pixel are those of the kept faces
  pub offers_left : (p : ℕ) → offers sc kept 0 p ≡ map (renamed (with_number new_number)) (kept_offers (λ h. keep h.number) (offers sc fs 0 p))
  unfolding brought offers
  offers_left p =
      offers-kept (λ (h : Hit). h.number) (λ j f. numbered j (brings sc f p)) (λ k f o. numbered_number k (brings sc f p) o) keep (with_number new_number) (λ j f. numbered j (brings sc f p)) most_count (brings_moved p) fs few

  module _ (idle : Idle sc fs keep) where
    -- a face that holds a pixel is kept
    holder_kept : (i p : ℕ) → p < pixel_count sc → Holds sc fs i p → T (keep i)
    holder_kept i p h held = go (test (keep i))
      where
        go : T (keep i) ⊎ T (not (keep i)) → T (keep i)
        go (inl t) = t
        go (inr t) = absurd (idle i (holds_face sc fs i p held) t p h held)

    -- the drawing
    pub thinned : fresh sc kept 0 ≡ renumbered new_number (fresh sc fs 0)
    unfolding Holds
    thinned = redrawn sc new_number fs kept (λ p h. pixel-kept p (λ c g. holder_kept c.payload.number p h (c, g, refl)))

    -- ---- the map

    -- an entry of the full drawing's map that is not empty: its face is there, and kept, and stands at its new number
    record Stays (k : ℕ) : Type 0 where
      there : k < length fs
      is_kept : T (keep k)
      number : new_number k ≡ kept_before keep k
      within : kept_before keep k < length kept

    abbrev entry : ℕ → ℕ
    entry p = entry_at (drawn_map sc fs) p

    entry_stays : (p : ℕ) → (entry p ≡ empty) ⊎ Stays (entry p)
    entry_stays p = go (entry_holds sc fs p)
      where
        go : (entry p ≡ empty) ⊎ ((p < pixel_count sc) × Holds sc fs (entry p) p) → (entry p ≡ empty) ⊎ Stays (entry p)
        go (inl e) = inl e
        go (inr (l, held)) =
            let there = holds_face sc fs (entry p) p held in
            let t = holder_kept (entry p) p l held in
            inr (record { there = there; is_kept = t; number = renumber-face empty keep (entry p) (λ e. omega arith); within = (kept_at keep (face 0 0 0) fs (entry p) there t).1 })

    stays : (p : ℕ) → (entry p ≡ empty → ⊥) → Stays (entry p)
    stays p h = go (entry_stays p)
      where
        go : (entry p ≡ empty) ⊎ Stays (entry p) → Stays (entry p)
        go (inl e) = absurd (h e)
        go (inr s) = s

    count : (l : List Face) → length (flat l) / 3 ≡ length l
    count l = omega (arith, length-flat l)

    -- entries that occur stay apart, empty among them
    entries_apart : (p q : ℕ) → new_number (entry p) ≡ new_number (entry q) → entry p ≡ entry q
    entries_apart p q e = go (entry_stays p) (entry_stays q)
      where
        go : (entry p ≡ empty) ⊎ Stays (entry p) → (entry q ≡ empty) ⊎ Stays (entry q) → entry p ≡ entry q
        go (inl a) (inl b) = a ∙ sym b
        go (inl a) (inr b) = absurd (omega (arith, ap new_number a, renumber-empty empty keep, e, b.number, b.within, kept-length keep 0 fs))
        go (inr a) (inl b) = absurd (omega (arith, ap new_number b, renumber-empty empty keep, e, a.number, a.within, kept-length keep 0 fs))
        go (inr a) (inr b) = kept_apart keep _ _ a.is_kept b.is_kept (sym a.number ∙ e ∙ b.number)

    pub renumbers : Renumbers new_number (drawn_map sc fs) (length fs) (length kept)
    renumbers =
        record {
          empty_stays = renumber-empty empty keep;
          apart = entries_apart;
          was_there = λ p h. (stays p h).there;
          is_there = λ p h. rw (stays p h).number (stays p h).within;
        }

    -- of a list with an entry for each face: what stands there for an entry's face stands in the thinned list at its new number
    pub beside_kept : {A : Type 0} (z : A) (xs : List A) → length xs ≡ length fs → (p : ℕ) → (entry p ≡ empty → ⊥)
        → get_or (kept_from keep 0 xs) (new_number (entry p)) z ≡ get_or xs (entry p) z
    beside_kept z xs e p h =
        let s = stays p h in
        rw s.number (kept_at keep z xs (entry p) (omega (arith, s.there)) s.is_kept).0

    pub renames : Renames new_number (flat fs) (drawn_map sc fs) (flat kept)
    renames = record { numbers = rw (count fs, count kept) renumbers; same_face = same }
      where
        same : (p : ℕ) → (entry p ≡ empty → ⊥) → face_at (flat kept) (new_number (entry p)) ≡ face_at (flat fs) (entry p)
        same p h =
            face-flat (face 0 0 0) kept (new_number (entry p)) (renumbers.is_there p h)
            ∙ beside_kept (face 0 0 0) fs refl p h
            ∙ sym (face-flat (face 0 0 0) fs (entry p) (renumbers.was_there p h))

    pub alike : (n : ℕ) → all_below n (flat fs) ≡ true → Alike n (flat fs) (drawn_map sc fs) (flat kept) (map new_number (drawn_map sc fs))
    alike n below =
        renamed_alike renames n (groups-flat fs few ∙ sym (groups-flat kept (omega (arith, kept-length keep 0 fs)))) (below ∙ sym (kept_below n keep 0 fs below))
