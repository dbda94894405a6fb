-- Tables of a function, numbers in a row, places filled, a test of each, those that pass one, and sums.
use Rattle.std.specs.Prelude.{ℕ, zero, suc, ◌+◌, Bool, cond, set}
use Rattle.std.specs.List as list
use mathlib.Core.List.{List, [], ◌∷◌, map, sum}

-- (`tabulate`, `span`, `sum_of` and `count` are not the recursions of the library's words, which go by `+ 1` and from the left.)

-- f at n numbers in a row, from p on
unfoldable pub tabulate {ℓ} : {A : Type ℓ} → (ℕ → A) → ℕ → ℕ → List A
tabulate f p zero = []
tabulate f p (suc n) = f p ∷ tabulate f (suc p) n

-- n numbers in a row, from a on
abbrev pub span : ℕ → ℕ → List ℕ
span a n = tabulate (λ i. i) a n

-- f at n places in a row, from p on, the others as they were
unfoldable pub filled : {A : Type 0} → (ℕ → A) → ℕ → ℕ → List A → List A
filled f p zero xs = xs
filled f p (suc n) xs = set (filled f p n xs) (p + n) (f (p + n))

-- whether every number of a list passes a test
abbrev pub every : (ℕ → Bool) → List ℕ → Bool
every = list.list_all

-- the entries of a list that pass a test, in order
abbrev pub filter : {A : Type 0} → (A → Bool) → List A → List A
filter = list.filter

-- f of each entry of a list, added up
unfoldable pub sum_of : {A : Type 0} → (A → ℕ) → List A → ℕ
sum_of f xs = sum ◌+◌ 0 (map f xs)

-- how many entries of a list pass a test
unfoldable pub count : {A : Type 0} → (A → Bool) → List A → ℕ
count test xs = sum_of (λ x. cond (test x) 1 0) xs
