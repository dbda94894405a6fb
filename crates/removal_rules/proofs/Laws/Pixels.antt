-- What becomes of a pixel follows from its old entry: it keeps its face exactly where that is not removed.
use Rattle.std.specs.Prelude.{ℕ, ◌<◌, ◌≤◌, ◌≡◌, ◌⊎◌, Bool, ◌&&◌, ◌||◌, List, T, eqb, length}
use Rattle.std.proofs.Math.Path.{refl, ap, sym}
use Rattle.std.proofs.Common.{◌∙◌, inl, inr, true≢false, arith, eq-eqb, ne_eqb, eqb-true}
use Rattle.std.proofs.Math.Bool.{true, false, not, and_comm, and-true, or-true}
use Rattle.std.proofs.Math.ListN.{get_or-eq_default}
use Rattle.questions.specs.Questions.{empty, most_count}
use Rattle.offers.specs.Offer.{renamed}
use Rattle.offers.specs.Offers.{Greatest}
use Rattle.offers.specs.Thinning.{kept_from, kept_before, renumber}
use Rattle.offers.proofs.Laws.Greatest.{first-of-greatest}
use Rattle.offers.proofs.Laws.Removal.{with_greatest}
use Rattle.offers.proofs.Laws.Thinning.{renumber-empty, renumber-face, before_most}
use Rattle.cells.specs.Cell.{Cell, no_hit}
use Rattle.cells.proofs.Laws.Numbers.{with_number}
use Rattle.meshes.specs.Mesh.{Face}
use Rattle.meshes.specs.View.{entry_at}
use Rattle.rules.specs.Offers.{Scene, brought, offers, Holds}
use Rattle.sequences.specs.Whole.{pixel_count}
use Rattle.sequences.specs.Redrawn.{drawn_map}
use Rattle.sequences.proofs.Redrawn.{holds_face, entry_is, entry_holds}
use Rattle.sequences.proofs.Thinned.{pixel-kept}
use Rattle.removal_rules.specs.Removal.{kept_by, goes_empty, keeps_face, names_another}
use Rattle.removal_rules.specs.Matched.{Matched}

-- ---- two maps of which the second shows the kept faces of the first

-- an entry whose new number stands there is kept unless its face is removed
by_number : (keep : ℕ → Bool) (old : ℕ) → keeps_face keep old (renumber empty keep old) ≡ eqb old empty || keep old
unfolding keeps_face
by_number keep old = go (eqb old empty) refl
  where
    go : (b : Bool) → eqb old empty ≡ b → keeps_face keep old (renumber empty keep old) ≡ b || keep old
    go true q = rw q (eq-eqb (renumber empty keep old) empty (ap (renumber empty keep) (eqb-true old empty q) ∙ renumber-empty empty keep))
    go false q = rw q (ap (λ (b : Bool). keep old && b) (eq-eqb (renumber empty keep old) (renumber empty keep old) refl) ∙ and-true (keep old))

pub stays_kept : (keep : ℕ → Bool) (old new : ℕ) → keep old ≡ true → new ≡ renumber empty keep old → keeps_face keep old new ≡ true
stays_kept keep old new k e = ap (keeps_face keep old) e ∙ by_number keep old ∙ rw k (or-true (eqb old empty))

module _ {keep : ℕ → Bool} {full short : List ℕ} {n : ℕ} (t : Matched keep full short n) (p : ℕ) (h : p < n) where
  abbrev old : ℕ
  old = entry_at full p

  abbrev new : ℕ
  new = entry_at short p

  -- where the old face is kept the two are empty alike
  empty_alike : keep old ≡ true → eqb old empty ≡ eqb new empty
  empty_alike k = go (t.named p h)
    where
      go : (old ≡ empty) ⊎ (old < most_count) → eqb old empty ≡ eqb new empty
      go (inl e) = eq-eqb old empty e ∙ sym (eq-eqb new empty (t.stays p h k ∙ ap (renumber empty keep) e ∙ renumber-empty empty keep))
      go (inr l) =
          let moved : new ≡ kept_before keep old = t.stays p h k ∙ renumber-face empty keep old (λ e. omega arith) in
          ne_eqb old empty (λ e. omega arith) ∙ sym (ne_eqb new empty (λ e. omega (arith, moved, before_most keep old)))

  -- where it is removed the pixel was not empty
  not-empty : keep old ≡ false → eqb old empty ≡ false
  not-empty k = ne_eqb old empty (λ e. true≢false (sym t.empty_kept ∙ ap keep (sym e) ∙ k))

  pub empties : goes_empty old new ≡ not (keep old) && eqb new empty
  unfolding goes_empty
  empties = go (keep old) refl
    where
      alike : (a b : Bool) → a ≡ b → not a && b ≡ false
      alike true b e = refl
      alike false b e = sym e

      go : (k : Bool) → keep old ≡ k → not (eqb old empty) && eqb new empty ≡ not k && eqb new empty
      go true k = alike (eqb old empty) (eqb new empty) (empty_alike k)
      go false k = rw (not-empty k)

  pub keeps : keeps_face keep old new ≡ keep old
  unfolding keeps_face
  keeps = go (keep old) refl
    where
      go : (k : Bool) → keep old ≡ k → keeps_face keep old new ≡ k
      go true k = stays_kept keep old new k (t.stays p h k)
      go false k = rw (not-empty k, k)

  pub renames : names_another keep old new ≡ not (keep old) && not (eqb new empty)
  unfolding names_another
  renames = rw keeps (and_comm (not (eqb new empty)) (not (keep old)))

-- ---- the maps of the two drawings

pub keep-empty : (removed : List ℕ) → length removed ≤ most_count → kept_by removed empty ≡ true
unfolding kept_by
keep-empty removed few = ap (λ (x : ℕ). eqb x 0) (get_or-eq_default removed 0 (omega arith))

module _ (sc : Scene) (fs : List Face) (keep : ℕ → Bool) (few : length fs ≤ most_count) where
  abbrev kept : List Face
  kept = kept_from keep 0 fs

  -- the face of greatest depth is that of the entry
  holder : (p : ℕ) → p < pixel_count sc → keep (entry_at (drawn_map sc fs) p) ≡ true → (c : Cell) → Greatest (offers sc fs 0 p) c → T (keep c.payload.number)
  unfolding offers
  holder p h k c g =
      let shown = with_greatest (first-of-greatest no_hit (brought sc fs 0 p)) g in
      let same : c.payload.number ≡ entry_at (drawn_map sc fs) p = ap (λ (o : Cell). o.payload.number) (sym shown) ∙ sym (entry_is sc fs p h) in
      rw (same, k) tt

  entry_stays : (p : ℕ) → p < pixel_count sc → keep (entry_at (drawn_map sc fs) p) ≡ true → entry_at (drawn_map sc kept) p ≡ renumber empty keep (entry_at (drawn_map sc fs) p)
  unfolding renamed with_number
  entry_stays p h k =
      entry_is sc kept p h
      ∙ ap (λ (c : Cell). c.payload.number) (pixel-kept sc fs keep few p (holder p h k))
      ∙ ap (renumber empty keep) (sym (entry_is sc fs p h))

  entry_named : (p : ℕ) → (entry_at (drawn_map sc fs) p ≡ empty) ⊎ (entry_at (drawn_map sc fs) p < most_count)
  entry_named p = go (entry_holds sc fs p)
    where
      go : (entry_at (drawn_map sc fs) p ≡ empty) ⊎ ((p < pixel_count sc) × Holds sc fs (entry_at (drawn_map sc fs) p) p) → (entry_at (drawn_map sc fs) p ≡ empty) ⊎ (entry_at (drawn_map sc fs) p < most_count)
      go (inl e) = inl e
      go (inr (l, held)) = inr (omega (arith, holds_face sc fs (entry_at (drawn_map sc fs) p) p held))

  pub drawings_match : keep empty ≡ true → Matched keep (drawn_map sc fs) (drawn_map sc kept) (pixel_count sc)
  drawings_match e = record { empty_kept = e; named = λ p h. entry_named p; stays = entry_stays }
