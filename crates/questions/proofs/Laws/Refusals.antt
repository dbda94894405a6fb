-- How a call's outcome comes of an answer that a `?` took apart.
use Rattle.std.specs.Prelude.{ℕ, ◌≡◌, refl, Bool, true, false, cond, Ok, Err}
use Rattle.std.proofs.Common.{arith}
use Rattle.questions.specs.declared.Refusal.{Refusal}
use Rattle.questions.specs.declared.Refusal.TheVariants.{Size, Channels, Slices, Lengths, Numbers, Vertices, Faces, Projections, Weights, Edges}
use Rattle.questions.specs.Answer.{number_of}
use Rattle.questions.specs.Questions.{outcome, answer}
use Rattle.questions.specs.Laws.{call_refused}

-- a question that is passed was answered yes
pub yes : (a : Bool) (r : Refusal) {u : Unit {0}} → Ok u ≡ cond a (Ok tt) (Err r) → a ≡ true
yes true r e = refl
yes false r e = cc

-- no question has the number 0
pub never_accepted : (r : Refusal) → number_of r ≡ 0 → ⊥
never_accepted Size e = omega (arith, e)
never_accepted Channels e = omega (arith, e)
never_accepted Slices e = omega (arith, e)
never_accepted Lengths e = omega (arith, e)
never_accepted Numbers e = omega (arith, e)
never_accepted Vertices e = omega (arith, e)
never_accepted Faces e = omega (arith, e)
never_accepted Projections e = omega (arith, e)
never_accepted Weights e = omega (arith, e)
never_accepted Edges e = omega (arith, e)

-- a refused call leaves what it was lent
pub refused : {A : Type 0} {k : ℕ} {before : A} (r : Refusal) (after : A) → number_of r ≡ k → outcome (number_of r) before ≡ answer k before after
refused r after e = call_refused after e (never_accepted r)
