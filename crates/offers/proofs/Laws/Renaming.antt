-- Renaming the payloads of what is brought renames the pixel's.
use Rattle.std.specs.Prelude.{◌≡◌, Bool}
use Rattle.std.proofs.Math.Path.{refl, ap}
use Rattle.std.proofs.Common.{ap₂, sym, ◌∙◌}
use Rattle.std.proofs.Math.Bool.{true, false, cond}
use mathlib.Core.List.Memᴰ
use mathlib.Core.List.{List, [], ◌∷◌, map, Memᴰ}
use Rattle.offers.specs.Offer.{Offer, offer, renamed, lowest, exceeds, pick, offered}
use Rattle.offers.specs.Offers.{proper, offers_of}
use Rattle.offers.proofs.Laws.Joins.{won}

module _ {P Q : Type 0} (r : P → Q) where
  pick-renamed : (a b : Offer P) → pick (renamed r a) (renamed r b) ≡ renamed r (pick a b)
  unfolding pick exceeds renamed
  pick-renamed a b = go (exceeds a b)
    where
      go : (t : Bool) → cond t (offer b.depth (r b.payload)) (offer a.depth (r a.payload)) ≡ renamed r (cond t b a)
      go true = refl
      go false = refl

  offered-renamed : (c : Offer P) (cs : List (Offer P)) → offered (renamed r c) (map (renamed r) cs) ≡ renamed r (offered c cs)
  unfolding offered
  offered-renamed c [] = refl
  offered-renamed c (x ∷ cs) = ap (λ (k : Offer Q). offered k (map (renamed r) cs)) (pick-renamed c x) ∙ offered-renamed (pick c x) cs

  clear-renamed : (none : P) (none' : Q) → r none ≡ none' → offer lowest none' ≡ renamed r (offer lowest none)
  unfolding renamed
  clear-renamed none none' e = ap (offer lowest) (sym e)

  -- which of them are offers depends on their depths alone
  pub offers-renamed : (cs : List (Offer P)) → offers_of (map (renamed r) cs) ≡ map (renamed r) (offers_of cs)
  unfolding offers_of proper renamed
  offers-renamed [] = refl
  offers-renamed (c ∷ cs) = go (proper c) (offers-renamed cs)
    where
      go : (t : Bool) → offers_of (map (renamed r) cs) ≡ map (renamed r) (offers_of cs)
          → cond t (renamed r c ∷ offers_of (map (renamed r) cs)) (offers_of (map (renamed r) cs)) ≡ map (renamed r) (cond t (c ∷ offers_of cs) (offers_of cs))
      go true e = ap (λ (l : List (Offer Q)). renamed r c ∷ l) e
      go false e = e

  -- of a clear pixel whose payload becomes the new clear one
  pub won-renamed : (none : P) (none' : Q) → r none ≡ none' → (cs : List (Offer P)) → won none' (map (renamed r) cs) ≡ renamed r (won none cs)
  won-renamed none none' e cs = ap (λ (k : Offer Q). offered k (map (renamed r) cs)) (clear-renamed none none' e) ∙ offered-renamed (offer lowest none) cs

-- ---- what a list of renamed offers holds

-- what r makes of every payload, each renamed one has
pub renamed_has : {P Q X : Type 0} (r : P → Q) (f : Q → X) (x : X) → ((a : P) → f (r a) ≡ x) → (cs : List (Offer P)) (c : Offer Q) → Memᴰ c (map (renamed r) cs) → f c.payload ≡ x
unfolding renamed
renamed_has r f x h [] c m = absurd (Memᴰ.not-nil m)
renamed_has {P} {Q} r f x h (o ∷ cs) c (Memᴰ.head e) = ap (λ (k : Offer Q). f k.payload) e ∙ h o.payload
renamed_has r f x h (o ∷ cs) c (Memᴰ.tail m) = renamed_has r f x h cs c m

-- renamed twice
pub renamed_twice : {P Q X : Type 0} (r : P → Q) (s : Q → X) (t : P → X) → ((a : P) → s (r a) ≡ t a) → (cs : List (Offer P)) → map (renamed s) (map (renamed r) cs) ≡ map (renamed t) cs
unfolding renamed
renamed_twice r s t h [] = refl
renamed_twice {P} {Q} {X} r s t h (o ∷ cs) = ap₂ (λ (x : X) (l : List (Offer X)). offer o.depth x ∷ l) (h o.payload) (renamed_twice r s t h cs)
