-- The offers at a pixel and the greatest depth among them, defined without drawing.
use Rattle.std.specs.Prelude.{ℕ, suc, Bool, not, cond, ◌≡◌, T}
use mathlib.Core.List.{List, [], ◌∷◌, ◌++◌, Memᴰ}
use Rattle.std.specs.Float.Ieee.{lt}
use Rattle.offers.specs.Offer.{Offer, offer, lowest, exceeds}

-- what the faces of a list bring a pixel, in list order, the first of them numbered k; `bring` gives what a face of a number brings it
unfoldable pub brought : {F P : Type 0} → (ℕ → F → List (Offer P)) → ℕ → List F → List (Offer P)
brought bring k [] = []
brought bring k (f ∷ fs) = bring k f ++ brought bring (suc k) fs

-- a depth "above −infinity, NaN left out"
unfoldable pub proper : {P : Type 0} → Offer P → Bool
proper c = lt lowest c.depth

-- "The offers at a pixel are the depths above −infinity, NaN left out": those of what the faces bring it, in order.
unfoldable pub offers_of : {P : Type 0} → List (Offer P) → List (Offer P)
offers_of [] = []
offers_of (c ∷ cs) = cond (proper c) (c ∷ offers_of cs) (offers_of cs)

-- some offer exceeds this one
abbrev pub Exceeded : {P : Type 0} → List (Offer P) → Offer P → Type 0
Exceeded {P} offers o = (x : Offer P) × Memᴰ x offers × T (exceeds o x)

-- "The earliest offer that no other exceeds": its depth is the pixel's greatest depth, bits included, and its payload names the first face of greatest depth.
pub record Greatest {P : Type 0} (offers : List (Offer P)) (c : Offer P) : Type 0 where
  pub before : List (Offer P)
  pub after : List (Offer P)
  pub split : offers ≡ before ++ c ∷ after
  pub unexceeded : (o : Offer P) → Memᴰ o offers → T (not (exceeds c o))
  pub earliest : (o : Offer P) → Memᴰ o before → Exceeded offers o

-- "A pixel with an offer is covered", and shows the first face of greatest depth; every other pixel has the depth −infinity and the payload `none`.
pub data Shows {P : Type 0} (none : P) (offers : List (Offer P)) (c : Offer P) : Type 0 where
  uncovered : offers ≡ [] → c ≡ offer lowest none → Shows none offers c
  covered : Greatest offers c → Shows none offers c
