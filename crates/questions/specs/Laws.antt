-- Proved of the questions, for the crates that ask them.
use Rattle.std.specs.Prelude.{ℕ, suc, ◌*◌, ◌/◌, ◌%◌, ◌≤◌, ◌<◌, ◌≡◌, refl, Bool, true, false, List, [], ◌∷◌, leb, ltb, eqb, length, get_or}
use Rattle.std.proofs.Common.{sym, ap, ◌∙◌, mul-le-mul, arith, leb-true, ltb-true, eqb-true, eq-eqb, ne_eqb}
use Rattle.std.proofs.Math.Bool.{or-false}
use Rattle.std.proofs.Math.Nat.{div-add-mod}
use Rattle.lists.specs.Laws.Tests.{both, else_is}
use Rattle.lists.specs.Laws.Every.{every-at}
use Rattle.questions.specs.Questions.{Question, ask, first_no, outcome, answer, sizes, channels, groups, slices, exact, all_below, names_face, empty, most_size, most_channels, most_count}

-- how a call's code comes of its answers: a no gives the question's number ..
pub refuses : (n : ℕ) {a : Bool} (qs : List Question) → a ≡ false → n ≡ first_no (ask n a ∷ qs)
unfolding first_no
refuses n qs e = rw e

-- .. past a yes the questions after it decide ..
pub passes : (n : ℕ) {a : Bool} (qs : List Question) {r : ℕ} → a ≡ true → r ≡ first_no qs → r ≡ first_no (ask n a ∷ qs)
unfolding first_no
passes n qs e rest = rw e rest

-- .. and past the last the code is 0
pub ends : 0 ≡ first_no []
unfolding first_no
ends = refl

-- a call whose code is k: the outcome of a refused one, and of an accepted one that made what its definition says
pub call_refused : {A : Type 0} {code k : ℕ} {before : A} (after : A) → code ≡ k → (code ≡ 0 → ⊥) → outcome code before ≡ answer k before after
call_refused {A} {code} {k} {before} after e no0 = rw (← e) (ap (outcome code) (else_is after (ne_eqb code 0 no0)))

pub call_done : {A : Type 0} {code k : ℕ} (before : A) {after new : A} → code ≡ k → code ≡ 0 → new ≡ after → outcome 0 new ≡ answer k before after
call_done before e zero0 made = rw (← e, zero0) (ap (outcome 0) made)

-- an accepted call: the first question is answered yes, and the others accept
pub accepted : (n : ℕ) (a : Bool) (qs : List Question) → first_no (ask (suc n) a ∷ qs) ≡ 0 → (a ≡ true) × (first_no qs ≡ 0)
unfolding first_no
accepted n true qs e = (refl, e)
accepted n false qs e = let h : suc n ≡ 0 = e in absurd (omega arith)

-- what question 1 answered yes says
pub record Sized (least w h : ℕ) : Type 0 where
  pub w_least : least ≤ w
  pub w_most : w ≤ most_size
  pub h_least : least ≤ h
  pub h_most : h ≤ most_size

pub sized : (least w h : ℕ) → sizes least w h ≡ true → Sized least w h
unfolding sizes
sized least w h e =
    let a = both (leb least w) _ e in
    let b = both (leb w most_size) _ a.1 in
    let c = both (leb least h) _ b.1 in
    record {
      w_least = leb-true _ _ a.0;
      w_most = leb-true _ _ b.0;
      h_least = leb-true _ _ c.0;
      h_most = leb-true _ _ c.1;
    }

-- so the number of pixels fits
pub area : (least w h : ℕ) → Sized least w h → w * h ≤ 16777216
area least w h s = mul-le-mul s.w_most s.h_most

-- what question 2 answered yes says
pub record Channels (c : ℕ) : Type 0 where
  pub least : 1 ≤ c
  pub most : c ≤ most_channels

pub channelled : (c : ℕ) → channels c ≡ true → Channels c
unfolding channels
channelled c e = let p = both (leb 1 c) _ e in record { least = leb-true _ _ p.0; most = leb-true _ _ p.1 }

-- and the number of pixels times their channels
pub area_fits : (w h c : ℕ) → Sized 1 w h → Channels c → w * h * c ≤ 268435456
area_fits w h c s k = mul-le-mul (area 1 w h s) k.most

-- what question 3 answered yes says of n numbers in groups
pub record Grouped (of bound n : ℕ) : Type 0 where
  pub rest : n % of ≡ 0
  pub most : n / of ≤ bound

pub grouped : (of bound n : ℕ) → groups of bound n ≡ true → Grouped of bound n
unfolding groups
grouped of bound n e = let p = both (eqb (n % of) 0) _ e in record { rest = eqb-true _ _ p.0; most = leb-true _ _ p.1 }

pub sliced : (tri xyz : ℕ) → slices tri xyz ≡ true → Grouped 3 most_count tri × Grouped 3 most_count xyz
sliced tri xyz e = let p = both (groups 3 most_count tri) _ e in (grouped 3 most_count tri p.0, grouped 3 most_count xyz p.1)

-- the groups are all of them
pub whole : (of bound n : ℕ) → Grouped of bound n → of * (n / of) ≡ n
whole of bound n g = omega (arith, g.rest, div-add-mod n of)

-- question 4 answered by a length, and what a yes says
pub exact_yes : (n len : ℕ) → len ≡ n → exact n len ≡ true
unfolding exact
exact_yes n len e = eq-eqb len n e

pub exact_no : (n len : ℕ) → (len ≡ n → ⊥) → exact n len ≡ false
unfolding exact
exact_no n len e = ne_eqb len n e

pub exactly : (n len : ℕ) → exact n len ≡ true → len ≡ n
unfolding exact
exactly n len e = eqb-true len n e

-- what question 6 answered yes says of the number at i
pub below_at : (n : ℕ) (xs : List ℕ) → all_below n xs ≡ true → (i : ℕ) → i < length xs → get_or xs i 0 < n
below_at n xs e i h = ltb-true _ n (every-at (λ x. ltb x n) xs e i h)

-- what question 7 answered yes says of an entry that is not empty
pub face_below : (n x : ℕ) → names_face n x ≡ true → (x ≡ empty → ⊥) → x < n
unfolding names_face
face_below n x e h = ltb-true x n (sym (or-false (ltb x n)) ∙ (rw (ne_eqb x empty h) at e))
