-- The type of a pair says so of `bwd`.
use Rattle.std.specs.Prelude.{ℕ, ◌≡◌, Bool, true, false, ◌||◌, cond}
use Rattle.std.proofs.Math.Path.{refl}
use Rattle.std.proofs.Common.{◌∙◌, arith}
use mathlib.Core.List.{List, [], flat_map}
use Rattle.pixels.specs.Edge.{Axis, Edge}
use Rattle.pairs.specs.Pairs.{EdgeView, equal_entries}
use Rattle.pairs.specs.Gradient.{PixelValues}
use Rattle.edge_types.specs.Types.{first_in_second, second_in_first, type_of}
use Rattle.share_rules.specs.Shares.{Share, received, between, shares_at}
use Rattle.share_rules.specs.Additions.{pair_additions}
use Rattle.theorems.specs.Types.{picked, OneYes, TypeSays}

-- the type, by the same three
abbrev type : Bool → Bool → Bool → ℕ
type equal first second = cond equal 0 (cond (first || second) 1 0)

one_only : (equal first second : Bool) → type equal first second ≡ 1 → OneYes equal first second
one_only true first second e = absurd (omega (arith, e))
one_only false true second e = (refl, refl)
one_only false false true e = (refl, refl)
one_only false false false e = absurd (omega (arith, e))

one_there : (equal first second : Bool) → OneYes equal first second → type equal first second ≡ 1
one_there equal first second p = rw (p.0, p.1)

else_zero : (equal first second : Bool) → (OneYes equal first second → ⊥) → type equal first second ≡ 0
else_zero true first second never = refl
else_zero false true second never = absurd (never (refl, refl))
else_zero false false true never = absurd (never (refl, refl))
else_zero false false false never = refl

none_received : (equal first second : Bool) (both one other : List Share) → type equal first second ≡ 0
    → cond equal [] (received first second both one other) ≡ []
unfolding received
none_received true first second both one other e = refl
none_received false true second both one other e = absurd (omega (arith, e))
none_received false false true both one other e = absurd (omega (arith, e))
none_received false false false both one other e = refl

module _ (a : Axis) (s : EdgeView) (e : Edge) where
  tested : shares_at a s e ≡ picked a s e
  unfolding shares_at between first_in_second second_in_first
  tested = refl

  no_shares : type_of s e ≡ 0 → shares_at a s e ≡ []
  unfolding type_of
  no_shares zero = tested ∙ none_received (equal_entries s e) (first_in_second s e) (second_in_first s e) _ _ _ zero

pub type_says : (a : Axis) (s : EdgeView) (v : PixelValues) (e : Edge) → TypeSays a s v e
unfolding type_of pair_additions flat_map
type_says a s v e =
    record {
      tested = tested a s e;
      one = (one_only _ (first_in_second s e) (second_in_first s e), one_there _ (first_in_second s e) (second_in_first s e));
      zero = else_zero _ (first_in_second s e) (second_in_first s e);
      nothing = λ zero. rw (no_shares a s e zero);
    }
