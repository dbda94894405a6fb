-- Sequences of calls on a store of layers. A call's outcome is the definition that the call's contract cites.
use Rattle.std.specs.Prelude.{ℕ, cond, List, [], ◌∷◌, eqb, Float}
use Rattle.questions.specs.Questions.{Outcome}
use Rattle.cells.specs.Layer.{Layer, layer}
use Rattle.layers.specs.Calls.{clearing, joining}
use Rattle.rules.specs.Calls.{draws}

-- the layers' buffers: map i, depths i and weights i are layer i
pub record Store : Type 0 where
  pub maps : ℕ → List ℕ
  pub depths : ℕ → List Float
  pub weights : ℕ → List Float

abbrev pub layer_of : Store → ℕ → Layer
layer_of s i = layer (s.maps i) (s.depths i) (s.weights i)

-- A buffer that a call is lent: one of the store's of its kind, or any other. So a call may mix one layer's map with another's depths and a third's weights.
pub data Lent (A : Type 0) : Type 0 where
  held : ℕ → Lent A
  other : List A → Lent A

abbrev pub contents : {A : Type 0} → (ℕ → List A) → Lent A → List A
contents s (held i) = s i
contents s (other xs) = xs

-- the buffers after the call left xs in the one it was lent
abbrev pub returned : {A : Type 0} → (ℕ → List A) → Lent A → List A → ℕ → List A
returned s (held i) xs j = cond (eqb i j) xs (s j)
returned s (other ys) xs j = s j

pub record LentLayer : Type 0 where
  pub map : Lent ℕ
  pub depth : Lent Float
  pub weights : Lent Float

abbrev pub lent_layer : Store → LentLayer → Layer
lent_layer s l = layer (contents s.maps l.map) (contents s.depths l.depth) (contents s.weights l.weights)

-- layer i, whole
abbrev pub whole : ℕ → LentLayer
whole i = record { map = held i; depth = held i; weights = held i }

pub data Call : Type 0 where
  clear : LentLayer → ℕ → ℕ → Call
  draw : LentLayer → List ℕ → List Float → ℕ → ℕ → List Float → ℕ → ℕ → Call
  join : LentLayer → LentLayer → ℕ → ℕ → Call

-- the layer that a call may write
abbrev pub written : Call → LentLayer
written (clear l w h) = l
written (draw l tri xyz w h m first facing) = l
written (join l r w h) = l

-- what a call does, as the contracts of `clear`, `pix2tri_by_rasterization` and `join` have it
abbrev pub outcome_of : Store → Call → Outcome Layer
outcome_of s (clear l w h) = clearing (lent_layer s l) w h
outcome_of s (draw l tri xyz w h m first facing) = draws (lent_layer s l) tri xyz w h m first facing
outcome_of s (join l r w h) = joining (lent_layer s l) (lent_layer s r) w h

-- "Each finds the layers as the calls before left them"
unfoldable pub after : Store → Call → Store
after s c =
    record {
      maps = returned s.maps (written c).map (outcome_of s c).left.pix2tri;
      depths = returned s.depths (written c).depth (outcome_of s c).left.pix2depth;
      weights = returned s.weights (written c).weights (outcome_of s c).left.pix2weights;
    }

unfoldable pub after_all : Store → List Call → Store
after_all s [] = s
after_all s (c ∷ cs) = after_all (after s c) cs
