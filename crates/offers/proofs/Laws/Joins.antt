-- Joining what two lists bring is bringing one after the other, in any bracketing.
use Rattle.std.specs.Prelude.{◌≡◌, refl, ◌⊎◌, not}
use Rattle.std.proofs.Math.Path.{ap, sym}
use Rattle.std.proofs.Common.{◌∙◌, inl, inr}
use mathlib.Core.List.{List, [], ◌∷◌, ◌++◌}
use Rattle.std.proofs.Math.Dec.{T}
use Rattle.std.specs.Float.Ieee.{is_nan}
use Rattle.offers.specs.Offer.{Offer, offer, lowest, exceeds, pick, offered}
use Rattle.offers.specs.Offers.{proper}
use Rattle.offers.proofs.Laws.Order.{test, lt_trans, not_lt_trans, above_number, lt_irrefl}
use Rattle.offers.proofs.Laws.Greatest.{offered-append, pick_right, pick_left, pick_no_offer, above}

-- A depth that is no NaN. A join is not associative past a NaN in the middle; no layer that was cleared and drawn holds one.
abbrev pub NotNan : {P : Type 0} → Offer P → Type 0
NotNan c = T (not (is_nan c.depth))

proper_not_nan : {P : Type 0} (c : Offer P) → T (proper c) → NotNan c
unfolding proper
proper_not_nan c h = above_number c.depth h

pub pick_assoc : {P : Type 0} (a b c : Offer P) → NotNan b → pick (pick a b) c ≡ pick a (pick b c)
unfolding exceeds
pick_assoc a b c s = go (test (exceeds a b)) (test (exceeds b c))
  where
    go : T (exceeds a b) ⊎ T (not (exceeds a b)) → T (exceeds b c) ⊎ T (not (exceeds b c)) → pick (pick a b) c ≡ pick a (pick b c)
    go (inl h) (inl k) = rw (pick_right a b h, pick_right b c k, pick_right a c (lt_trans a.depth b.depth c.depth h k))
    go (inl h) (inr k) = rw (pick_right a b h, pick_left b c k, pick_right a b h)
    go (inr h) (inl k) = rw (pick_left a b h, pick_right b c k)
    go (inr h) (inr k) = rw (pick_left a b h, pick_left b c k, pick_left a b h, pick_left a c (not_lt_trans a.depth b.depth c.depth s h k))

module _ {P : Type 0} (none : P) where
  -- what a clear pixel holds after all that is brought to it
  abbrev pub won : List (Offer P) → Offer P
  won cs = offered (offer lowest none) cs

  -- what a clear pixel can come to hold: nothing, or an offer
  abbrev ClearOrOffer : Offer P → Type 0
  ClearOrOffer c = (c ≡ offer lowest none) ⊎ T (proper c)

  clear_no_offer : T (not (proper (offer lowest none)))
  unfolding proper
  clear_no_offer = lt_irrefl lowest

  pick-clear : (a : Offer P) → pick a (offer lowest none) ≡ a
  pick-clear a = pick_no_offer a (offer lowest none) clear_no_offer

  clear-pick : (c : Offer P) → ClearOrOffer c → pick (offer lowest none) c ≡ c
  clear-pick c (inl e) = rw e (pick-clear (offer lowest none))
  clear-pick c (inr h) = pick_right (offer lowest none) c (above none c h)

  pick_holds : (a b : Offer P) → ClearOrOffer a → ClearOrOffer (pick a b)
  pick_holds a b s = go (test (proper b)) (test (exceeds a b))
    where
      go : T (proper b) ⊎ T (not (proper b)) → T (exceeds a b) ⊎ T (not (exceeds a b)) → ClearOrOffer (pick a b)
      go (inr k) t = rw (pick_no_offer a b k) s
      go (inl k) (inl h) = rw (pick_right a b h) (inr k)
      go (inl k) (inr h) = rw (pick_left a b h) s

  offered_holds : (c : Offer P) (cs : List (Offer P)) → ClearOrOffer c → ClearOrOffer (offered c cs)
  unfolding offered
  offered_holds c [] s = s
  offered_holds c (x ∷ cs) s = offered_holds (pick c x) cs (pick_holds c x s)

  -- drawing on a pixel is drawing on a clear one, joined to it
  pub offered-won : (a : Offer P) (cs : List (Offer P)) → offered a cs ≡ pick a (won cs)
  unfolding offered
  offered-won a [] = sym (pick-clear a)
  offered-won a (x ∷ cs) = offered-won (pick a x) cs ∙ first (test (proper x)) ∙ ap (pick a) (sym (offered-won (pick (offer lowest none) x) cs))
    where
      first : T (proper x) ⊎ T (not (proper x)) → pick (pick a x) (won cs) ≡ pick a (pick (pick (offer lowest none) x) (won cs))
      first (inl h) = rw (pick_right (offer lowest none) x (above none x h)) (pick_assoc a x (won cs) (proper_not_nan x h))
      first (inr h) = rw (pick_no_offer a x h, pick_no_offer (offer lowest none) x h, clear-pick (won cs) (offered_holds (offer lowest none) cs (inl refl)))

  pub won-append : (xs ys : List (Offer P)) → won (xs ++ ys) ≡ pick (won xs) (won ys)
  won-append xs ys = offered-append (offer lowest none) xs ys ∙ offered-won (won xs) ys
