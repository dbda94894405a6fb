-- A pixel goes empty exactly where it is covered, and by removed faces alone.
use Rattle.std.specs.Prelude.{ℕ, ◌<◌, ◌≤◌, ◌≡◌, refl, Bool, true, false, not, eqb, length}
use Rattle.std.proofs.Math.Path.{ap, sym}
use Rattle.std.proofs.Common.{◌∙◌, true≢false, arith}
use mathlib.Core.List.{List, [], ◌∷◌, map}
use borrow.Author.Tests.{eq-eqb, ne_eqb, eqb-true, eqb-false, not-true}
use Rattle.lists.specs.Laws.Tests.{both}
use Rattle.questions.specs.Questions.{empty, most_count}
use Rattle.offers.specs.Offers.{offers_of, Shows, uncovered, covered}
use Rattle.offers.specs.Thinning.{kept_from}
use Rattle.offers.proofs.Laws.Greatest.{first-of-greatest}
use Rattle.offers.proofs.Laws.Joins.{won}
use Rattle.offers.proofs.Laws.Removal.{nothing-kept, none_kept, not-empty}
use Rattle.offers.proofs.Laws.Thinning.{kept-length}
use Rattle.cells.specs.Cell.{Cell, no_hit}
use Rattle.meshes.specs.Mesh.{Face}
use Rattle.meshes.specs.View.{entry_at}
use Rattle.rules.specs.Offers.{Scene, brought, offers, Holds}
use Rattle.sequences.specs.Whole.{pixel_count}
use Rattle.sequences.specs.Redrawn.{drawn_map}
use Rattle.sequences.proofs.Redrawn.{holds_face, entry_is}
use Rattle.sequences.proofs.Thinned.{offers_left}
use Rattle.removal_rules.specs.Removal.{goes_empty}
use Rattle.removal_rules.specs.Alone.{Alone}

-- ---- an entry is empty exactly where the pixel has no offer

module _ (sc : Scene) (fs : List Face) (few : length fs ≤ most_count) (p : ℕ) (h : p < pixel_count sc) where
  no_offer : entry_at (drawn_map sc fs) p ≡ empty → offers sc fs 0 p ≡ []
  unfolding offers Holds
  no_offer e = go (first-of-greatest no_hit (brought sc fs 0 p))
    where
      go : Shows no_hit (offers_of (brought sc fs 0 p)) (won no_hit (brought sc fs 0 p)) → offers_of (brought sc fs 0 p) ≡ []
      go (uncovered o k) = o
      go (covered g) = absurd (omega (arith, holds_face sc fs (won no_hit (brought sc fs 0 p)).payload.number p (won no_hit (brought sc fs 0 p), g, refl), sym (entry_is sc fs p h) ∙ e))

  no_entry : offers sc fs 0 p ≡ [] → entry_at (drawn_map sc fs) p ≡ empty
  unfolding offers
  no_entry none = entry_is sc fs p h ∙ go (first-of-greatest no_hit (brought sc fs 0 p))
    where
      go : Shows no_hit (offers_of (brought sc fs 0 p)) (won no_hit (brought sc fs 0 p)) → (won no_hit (brought sc fs 0 p)).payload.number ≡ empty
      go (uncovered o k) = ap (λ (c : Cell). c.payload.number) k
      go (covered g) = absurd (not-empty g none)

-- ---- with faces removed

map-nothing : {A B : Type 0} (f : A → B) (xs : List A) → map f xs ≡ [] → xs ≡ []
map-nothing f [] e = refl
map-nothing f (x ∷ xs) e = let z : ◌≡◌ {A = Bool} true false = cc in absurd (true≢false z)

module _ (sc : Scene) (fs : List Face) (keep : ℕ → Bool) (few : length fs ≤ most_count) (p : ℕ) (h : p < pixel_count sc) where
  abbrev kept : List Face
  kept = kept_from keep 0 fs

  kept_few : length kept ≤ most_count
  kept_few = omega (arith, kept-length keep 0 fs)

  abbrev Gone : Type 0
  Gone = goes_empty (entry_at (drawn_map sc fs) p) (entry_at (drawn_map sc kept) p) ≡ true

  pub gone-alone : Gone → Alone sc fs keep p
  unfolding goes_empty
  gone-alone e =
      let tests = both (not (eqb (entry_at (drawn_map sc fs) p) empty)) _ e in
      let none = no_offer sc kept kept_few p h (eqb-true _ _ tests.1) in
      record {
        is_covered = λ o. eqb-false _ _ (not-true _ tests.0) (no_entry sc fs few p h o);
        removed = nothing-kept (λ x. keep x.number) (offers sc fs 0 p) (map-nothing _ _ (sym (offers_left sc fs keep few p) ∙ none));
      }

  pub alone-gone : Alone sc fs keep p → Gone
  unfolding goes_empty
  alone-gone a =
      let none : offers sc kept 0 p ≡ [] = offers_left sc fs keep few p ∙ ap (map _) (none_kept (λ x. keep x.number) (offers sc fs 0 p) a.removed) in
      rw (ne_eqb (entry_at (drawn_map sc fs) p) empty (λ e. a.is_covered (no_offer sc fs few p h e)), eq-eqb (entry_at (drawn_map sc kept) p) empty (no_entry sc kept kept_few p h none))
