-- Taking out offers that a pixel does not show leaves the pixel as it was.
use Rattle.std.proofs.Math.Path.{◌≡◌, refl, ap}
use Rattle.std.proofs.Common.{sym, ◌∙◌, subst, true≢false}
use Rattle.std.specs.Prelude.{Bool, not}
use Rattle.std.proofs.Math.Bool.{true, false, cond}
use mathlib.Core.List.Memᴰ
use mathlib.Core.List.{List, [], ◌∷◌, ◌++◌, Memᴰ}
use Rattle.std.proofs.Math.Dec.{T}
use Rattle.offers.specs.Offer.{Offer, exceeds}
use Rattle.offers.specs.Offers.{proper, offers_of, Exceeded, Greatest, Shows, uncovered, covered}
use Rattle.offers.proofs.Laws.Greatest.{first-of-greatest, greatest_unique, overtaken}
use Rattle.offers.proofs.Laws.Joins.{won}

-- the offers whose payload passes
unfoldable pub kept_offers : {P : Type 0} → (P → Bool) → List (Offer P) → List (Offer P)
kept_offers keep [] = []
kept_offers keep (c ∷ cs) = cond (keep c.payload) (c ∷ kept_offers keep cs) (kept_offers keep cs)

-- ---- the greatest offer is one

module _ {P : Type 0} where
  pub not-empty : {os : List (Offer P)} {c : Offer P} → Greatest os c → os ≡ [] → ⊥
  not-empty {os} {c} g e = go g.before (sym g.split ∙ e)
    where
      go : (b : List (Offer P)) → b ++ c ∷ g.after ≡ [] → ⊥
      go [] p = let z : ◌≡◌ {A = Bool} true false = cc in absurd (true≢false z)
      go (x ∷ b) p = let z : ◌≡◌ {A = Bool} true false = cc in absurd (true≢false z)

  pub is_there : {os : List (Offer P)} {c : Offer P} → Greatest os c → Memᴰ c os
  is_there {os} {c} g = subst (λ (l : List (Offer P)). Memᴰ c l) (sym g.split) (Memᴰ.append_right g.before (Memᴰ.head refl))

  -- an offer was brought, and is proper
  pub was_brought : (o : Offer P) (cs : List (Offer P)) → Memᴰ o (offers_of cs) → Memᴰ o cs × T (proper o)
  unfolding offers_of
  was_brought o [] m = absurd (Memᴰ.not-nil m)
  was_brought o (c ∷ cs) m = go (proper c) refl m (was_brought o cs)
    where
      go : (t : Bool) → proper c ≡ t → Memᴰ o (cond t (c ∷ offers_of cs) (offers_of cs)) → (Memᴰ o (offers_of cs) → Memᴰ o cs × T (proper o)) → Memᴰ o (c ∷ cs) × T (proper o)
      go true e (Memᴰ.head p) ih = (Memᴰ.head p, rw (p, e) tt)
      go true e (Memᴰ.tail m) ih = (Memᴰ.tail (ih m).0, (ih m).1)
      go false e m ih = (Memᴰ.tail (ih m).0, (ih m).1)

  -- a pixel shows no other than the greatest offer
  pub with_greatest : {none : P} {os : List (Offer P)} {c w : Offer P} → Shows none os c → Greatest os w → c ≡ w
  with_greatest (uncovered e k) g = absurd (not-empty g e)
  with_greatest {none} {os} {c} {w} (covered g') g = greatest_unique os c w g' g

-- ---- keeping

module _ {P : Type 0} (keep : P → Bool) where
  keeps : (c : Offer P) (cs : List (Offer P)) → T (keep c.payload) → kept_offers keep (c ∷ cs) ≡ c ∷ kept_offers keep cs
  unfolding kept_offers
  keeps c cs h = go (keep c.payload) h
    where
      go : (b : Bool) → T b → cond b (c ∷ kept_offers keep cs) (kept_offers keep cs) ≡ c ∷ kept_offers keep cs
      go true h = refl
      go false h = absurd h

  drops : (c : Offer P) (cs : List (Offer P)) → T (not (keep c.payload)) → kept_offers keep (c ∷ cs) ≡ kept_offers keep cs
  unfolding kept_offers
  drops c cs h = go (keep c.payload) h
    where
      go : (b : Bool) → T (not b) → cond b (c ∷ kept_offers keep cs) (kept_offers keep cs) ≡ kept_offers keep cs
      go true h = absurd h
      go false h = refl

  -- where all pass, or none does
  pub all_kept : (cs : List (Offer P)) → ((c : Offer P) → Memᴰ c cs → T (keep c.payload)) → kept_offers keep cs ≡ cs
  unfolding kept_offers
  all_kept [] h = refl
  all_kept (c ∷ cs) h = keeps c cs (h c (Memᴰ.head refl)) ∙ ap (λ (l : List (Offer P)). c ∷ l) (all_kept cs (λ o m. h o (Memᴰ.tail m)))

  pub none_kept : (cs : List (Offer P)) → ((c : Offer P) → Memᴰ c cs → T (not (keep c.payload))) → kept_offers keep cs ≡ []
  unfolding kept_offers
  none_kept [] h = refl
  none_kept (c ∷ cs) h = drops c cs (h c (Memᴰ.head refl)) ∙ none_kept cs (λ o m. h o (Memᴰ.tail m))

  -- where nothing is left, none passed
  pub nothing-kept : (cs : List (Offer P)) → kept_offers keep cs ≡ [] → (c : Offer P) → Memᴰ c cs → T (not (keep c.payload))
  unfolding kept_offers
  nothing-kept [] e c m = absurd (Memᴰ.not-nil m)
  nothing-kept (x ∷ cs) e c m = go (keep x.payload) refl e m (nothing-kept cs)
    where
      go : (b : Bool) → keep x.payload ≡ b → cond b (x ∷ kept_offers keep cs) (kept_offers keep cs) ≡ [] → Memᴰ c (x ∷ cs)
          → (kept_offers keep cs ≡ [] → (c : Offer P) → Memᴰ c cs → T (not (keep c.payload))) → T (not (keep c.payload))
      go true k e m ih = let z : ◌≡◌ {A = Bool} true false = cc in absurd (true≢false z)
      go false k e (Memᴰ.head q) ih = rw (q, k) tt
      go false k e (Memᴰ.tail m) ih = ih e c m

  pub kept_append : (xs ys : List (Offer P)) → kept_offers keep (xs ++ ys) ≡ kept_offers keep xs ++ kept_offers keep ys
  unfolding kept_offers
  kept_append [] ys = refl
  kept_append (x ∷ xs) ys = go (keep x.payload) (kept_append xs ys)
    where
      go : (b : Bool) → kept_offers keep (xs ++ ys) ≡ kept_offers keep xs ++ kept_offers keep ys
          → cond b (x ∷ kept_offers keep (xs ++ ys)) (kept_offers keep (xs ++ ys)) ≡ cond b (x ∷ kept_offers keep xs) (kept_offers keep xs) ++ kept_offers keep ys
      go true e = ap (λ (l : List (Offer P)). x ∷ l) e
      go false e = e

  -- keeping some, then the offers among them, is the other way round too
  pub kept-offers : (cs : List (Offer P)) → offers_of (kept_offers keep cs) ≡ kept_offers keep (offers_of cs)
  unfolding kept_offers offers_of
  kept-offers [] = refl
  kept-offers (c ∷ cs) = go (keep c.payload) refl (proper c) refl (kept-offers cs)
    where
      go : (b : Bool) → keep c.payload ≡ b → (t : Bool) → proper c ≡ t → offers_of (kept_offers keep cs) ≡ kept_offers keep (offers_of cs)
          → offers_of (cond b (c ∷ kept_offers keep cs) (kept_offers keep cs)) ≡ kept_offers keep (cond t (c ∷ offers_of cs) (offers_of cs))
      go true e true f ih = rw (f, e) (ap (λ (l : List (Offer P)). c ∷ l) ih)
      go true e false f ih = rw f ih
      go false e true f ih = rw e ih
      go false e false f ih = ih

  was_there : (o : Offer P) (cs : List (Offer P)) → Memᴰ o (kept_offers keep cs) → Memᴰ o cs
  unfolding kept_offers
  was_there o [] m = m
  was_there o (c ∷ cs) m = go (keep c.payload) m (was_there o cs)
    where
      go : (b : Bool) → Memᴰ o (cond b (c ∷ kept_offers keep cs) (kept_offers keep cs)) → (Memᴰ o (kept_offers keep cs) → Memᴰ o cs) → Memᴰ o (c ∷ cs)
      go true (Memᴰ.head e) ih = Memᴰ.head e
      go true (Memᴰ.tail m) ih = Memᴰ.tail (ih m)
      go false m ih = Memᴰ.tail (ih m)

  -- the greatest offer, if it is kept, is the greatest of those kept: it exceeds each before it by itself
  greatest-kept : (os : List (Offer P)) (w : Offer P) → T (proper w) → Greatest os w → T (keep w.payload) → Greatest (kept_offers keep os) w
  greatest-kept os w fine g k =
      record {
        before = kept_offers keep g.before;
        after = kept_offers keep g.after;
        split = split;
        unexceeded = λ o m. g.unexceeded o (was_there o os m);
        earliest = λ o m. (w, subst (λ (l : List (Offer P)). Memᴰ w l) (sym split) (Memᴰ.append_right (kept_offers keep g.before) (Memᴰ.head refl)), by-w o (g.earliest o (was_there o g.before m)));
      }
    where
      split : kept_offers keep os ≡ kept_offers keep g.before ++ w ∷ kept_offers keep g.after
      split = ap (kept_offers keep) g.split ∙ kept_append g.before (w ∷ g.after) ∙ ap (λ (l : List (Offer P)). kept_offers keep g.before ++ l) (keeps w g.after k)

      by-w : (o : Offer P) → Exceeded os o → T (exceeds o w)
      by-w o e = overtaken o e.0 w fine e.2 (g.unexceeded e.0 e.1)

  kept_none : kept_offers keep [] ≡ []
  unfolding kept_offers
  kept_none = refl

  -- taking out offers none of which the pixel shows
  pub won-kept : (none : P) (cs : List (Offer P)) → ((c : Offer P) → Greatest (offers_of cs) c → T (keep c.payload)) → won none (kept_offers keep cs) ≡ won none cs
  won-kept none cs held = go (first-of-greatest none cs) (first-of-greatest none (kept_offers keep cs))
    where
      go : Shows none (offers_of cs) (won none cs) → Shows none (offers_of (kept_offers keep cs)) (won none (kept_offers keep cs)) → won none (kept_offers keep cs) ≡ won none cs
      go (uncovered e k) (uncovered e' k') = k' ∙ sym k
      go (uncovered e k) (covered g) = absurd (not-empty g (kept-offers cs ∙ ap (kept_offers keep) e ∙ kept_none))
      go (covered g) t =
          with_greatest t
          (subst (λ (l : List (Offer P)). Greatest l (won none cs)) (sym (kept-offers cs)) (greatest-kept (offers_of cs) (won none cs) (was_brought (won none cs) cs (is_there g)).1 g (held (won none cs) g)))
