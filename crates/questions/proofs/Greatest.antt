-- Question 7 of a whole map: the greatest of one more than each entry, in 32 bits, answers for all.
use Rattle.std.specs.Prelude.{ℕ, ◌+◌, ◌%◌, ◌^◌, ◌≤◌, ◌<◌, ◌≡◌, Bool, ◌&&◌, leb, length, drop, get_or}
use Rattle.std.specs.Ordering.{ord_max, nat_cmp}
use Rattle.std.proofs.Common.{arith, ◌∙◌, ap, sym}
use mathlib.Core.List.{List}
use Rattle.lists.specs.Laws.Every.{gathered}
use Rattle.questions.specs.Questions.{names_face, names_faces, empty}

-- both are at most n where the greater is
no_more : (a b n : ℕ) → leb (ord_max nat_cmp a b) n ≡ leb a n && leb b n
no_more a b n = grind arith

-- one more than empty is 0, which is at most every count
next_named : (n x : ℕ) → x ≤ empty → leb ((x + 1) % 2 ^ 32) n ≡ names_face n x
unfolding names_face
next_named n x h = grind arith

-- one entry more
pub greatest_more : (n : ℕ) (xs : List ℕ) (i most next : ℕ) → get_or xs i 0 < 4294967296 → next ≡ ord_max nat_cmp most ((get_or xs i 0 + 1) % 2 ^ 32)
    → i < length xs → names_faces n xs ≡ leb most n && names_faces n (drop i xs) → names_faces n xs ≡ leb next n && names_faces n (drop (i + 1) xs)
greatest_more n xs i most next small e h so_far =
    gathered (names_face n) xs i (leb most n) so_far h
    ∙ ap (λ (b : Bool). b && names_faces n (drop (i + 1) xs))
    (ap (λ (b : Bool). leb most n && b) (sym (next_named n (get_or xs i 0) (omega arith))) ∙ sym (ap (λ (m : ℕ). leb m n) e ∙ no_more most _ n))
