-- An offer is a depth with a payload of any type; and the one step that drawing and joining share.
use Rattle.std.specs.Prelude.{Bool, true, cond, List, [], ◌∷◌, Float}
use Rattle.std.specs.Float.{inf}
use Rattle.std.specs.Float.Ieee.{lt}

pub record Offer (P : Type 0) : Type 0 where
  pub depth : Float
  pub payload : P

abbrev pub offer : {P : Type 0} → Float → P → Offer P
offer d x = record { depth = d; payload = x }

-- the same depth with another payload
unfoldable pub renamed : {P Q : Type 0} → (P → Q) → Offer P → Offer Q
renamed r c = offer c.depth (r c.payload)

-- −infinity
abbrev pub lowest : Float
lowest = inf true

-- whether b's depth is greater than a's: never where one is NaN, and not where they are equal
unfoldable pub exceeds : {P : Type 0} → Offer P → Offer P → Bool
exceeds a b = lt a.depth b.depth

-- "A depth is written only when greater than the stored one"; a join "takes the right layer's depth and number when its depth is greater, else keeps the left"
unfoldable pub pick : {P : Type 0} → Offer P → Offer P → Offer P
pick a b = cond (exceeds a b) b a

-- what is held after all that is brought, in order
unfoldable pub offered : {P : Type 0} → Offer P → List (Offer P) → Offer P
offered stored [] = stored
offered stored (c ∷ cs) = offered (pick stored c) cs
