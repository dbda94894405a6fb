-- What a test in the code leaves known: of the answer r of a call, which is the definition's t, and of a branch.
use Rattle.std.specs.Prelude.{ℕ, ◌≤◌, ◌<◌, ◌≡◌, refl, ◌⊎◌, Bool, true, false, not, ◌&&◌, cond, ltb}
use Rattle.std.proofs.Common.{sym, ◌∙◌, inl, inr, ltb-true, ltb-false}
use Rattle.std.proofs.lemmas.Bool.{false≢true, not-true, not-false}

-- `if answer(..)` found v
pub so : {r t v : Bool} → r ≡ t → r ≡ v → t ≡ v
so e f = sym e ∙ f

-- `if !answer(..)` was taken
pub said_no : {r t : Bool} → r ≡ t → not r ≡ true → t ≡ false
said_no {r} e n = sym e ∙ not-true r n

-- `if !answer(..)` was passed
pub said_yes : {r t : Bool} → r ≡ t → not r ≡ false → t ≡ true
said_yes {r} e n = sym e ∙ not-false r n

-- a branch, by its test
pub then_is : {A : Type 0} {b : Bool} {x : A} (y : A) → b ≡ true → x ≡ cond b x y
then_is y e = rw e

pub else_is : {A : Type 0} {b : Bool} (x : A) {y : A} → b ≡ false → y ≡ cond b x y
else_is x e = rw e

-- both halves of a conjunction that is true
pub both : (a b : Bool) → a && b ≡ true → (a ≡ true) × (b ≡ true)
both true b e = (refl, e)
both false b e = absurd (false≢true e)

-- a conjunction whose first part is known
pub after_yes : {a b v : Bool} → a ≡ true → b ≡ v → a && b ≡ v
after_yes p q = rw (p, q)

pub after_no : {a : Bool} (b : Bool) → a ≡ false → a && b ≡ false
after_no b p = rw p

-- i is below j or not
pub below_or : (i j : ℕ) → (i < j) ⊎ (j ≤ i)
below_or i j = go (ltb i j) refl
  where
    go : (b : Bool) → ltb i j ≡ b → (i < j) ⊎ (j ≤ i)
    go true e = inl (ltb-true i j e)
    go false e = inr (ltb-false i j e)
