-- What question 4, asked by `ask` and answered yes, says of the lengths.
use Rattle.std.specs.Prelude.{ℕ, ◌*◌, ◌≡◌, Bool, true, ◌&&◌, cond, Ok, Err}
use Rattle.std.proofs.Common.{sym, ◌∙◌}
use Rattle.lists.specs.Laws.Tests.{both}
use Rattle.questions.specs.declared.Refusal.{Refusal}
use Rattle.questions.proofs.Laws.Refusals.{yes}
use Rattle.vertex_values.specs.Questions.{exact_counts}
use Rattle.vertex_values.specs.Laws.{exact_parts}

pub record Counted (w h c n m v p : ℕ) (o : Bool) : Type 0 where
  pub map : m ≡ w * h
  pub values : v ≡ n * c
  pub pixels : p ≡ w * h * c
  pub others : o ≡ true

pub lengths_asked : {w h c n m v p : ℕ} {o a : Bool} (r : Refusal) {u : Unit {0}} → Ok u ≡ cond a (Ok tt) (Err r) → a ≡ exact_counts w h c n m v p && o → Counted w h c n m v p o
lengths_asked {w} {h} {c} {n} {m} {v} {p} {o} {a} r passed e =
    let four = both (exact_counts w h c n m v p) o (sym e ∙ yes a r passed) in
    let k = exact_parts w h c n m v p four.0 in
    record { map = k.0; values = k.1; pixels = k.2; others = four.1 }
