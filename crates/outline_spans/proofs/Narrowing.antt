-- What an edge's box leaves out.
use Rattle.std.specs.Prelude.{ℕ, ◌≤◌, ◌≡◌, refl, true, Float}
use Rattle.std.proofs.Common.{arith}
use Rattle.std.proofs.Math.Bool.{and-false}
use Rattle.outlines.specs.Formula.{Ends}
use Rattle.outlines.specs.Covered.{has_nan, meets_side, meets_square, covers}
use Rattle.boxes.specs.declared.lines.Span.{Span}
use Rattle.outline_spans.specs.Narrowed.{Narrowed, Boxed}

-- an edge covers no pixel that its box does not meet
pub boxed : (e : Ends Float) (n : ℕ) (r : Span) → Narrowed (meets_side e.q0.x e.q1.x) n r → Boxed e n r
unfolding covers meets_square
boxed e n r t =
    record {
      first = t.first;
      last = t.last;
      before = λ y. record { missed = λ i h k l. rw (t.before.missed i h k l, and-false) refl };
      from = λ y. record { missed = λ i h k l. rw (t.from.missed i h k l, and-false) refl };
    }

-- and none at all where a coordinate is NaN
pub nan_boxed : (e : Ends Float) (n : ℕ) → 1 ≤ n → has_nan e ≡ true → Boxed e n (record { start = 1; end = 0 })
unfolding covers
nan_boxed e n h t =
    record {
      first = omega arith;
      last = h;
      before = λ y. record { missed = λ i a b m. rw t refl };
      from = λ y. record { missed = λ i a b m. rw t refl };
    }
