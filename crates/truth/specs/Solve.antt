-- A proof of an equation in a commutative ring, by computation: both sides are multiplied out, what is opposite is struck out, and nothing may be left.
-- The formulas are written over any arithmetic, so a formula at `exprs` is its own syntax tree, and `eval` of that tree is the formula at R.
use Prim.Native.Nat.{ℕ, ◌+◌, compare, Ordering}
use Rattle.std.specs.Prelude.{◌≡◌, Bool, not, cond, T, leb, get_or}
use Rattle.std.proofs.Math.Path.{refl, sym, ap, ap₂}
use Rattle.std.proofs.Common.{◌∙◌, subst, eqb→eq}
use Rattle.std.proofs.Math.Bool.{true, false}
use Rattle.std.proofs.lemmas.Bool.{false≢true}
use mathlib.Core.List.{List, [], ◌∷◌, map}
use Rattle.std.proofs.Math.Dec.{compare_is_eq}
use Rattle.geometry.specs.Arith.{Arith}
use Rattle.geometry.specs.Vector.{Vec2, vec2, Vec3, vec3}
use Rattle.truth.specs.Laws.{Laws}
use Rattle.truth.specs.Ring.{zero-add, add_left_comm, neg-neg, neg-zero, neg-add, mul-zero, zero-mul, add-mul, mul-neg, neg-mul, sub_self, same_of_sub}

-- ---- formulas as trees

pub data Expr : Type 0 where
  var : ℕ → Expr
  :0 :1 : Expr
  ◌:+◌ ◌:-◌ ◌:*◌ : Expr → Expr → Expr
  :-◌ : Expr → Expr

infixl 6 ◌:+◌
infixl 6 ◌:-◌
infixl 7 ◌:*◌
infixr 8 :-◌
-- Division is a product with i, whatever the divisor: a formula with one divisor b is proved with i for 1 / b.
abbrev pub fixed : {A : Type 0} → Arith A → A → Arith A
fixed R i = record { add = R.add; sub = R.sub; mul = R.mul; div = λ a b. R.mul a i; neg = R.neg; zero = R.zero; one = R.one }

abbrev pub exprs : Expr → Arith Expr
exprs i = record { add = ◌:+◌; sub = ◌:-◌; mul = ◌:*◌; div = λ a b. a :* i; neg = :-◌; zero = :0; one = :1 }

-- the formula that a tree is, at R, where ρ gives the variables' values
unfoldable pub eval : {A : Type 0} → Arith A → (ℕ → A) → Expr → A
eval R ρ (var n) = ρ n
eval R ρ :0 = R.zero
eval R ρ :1 = R.one
eval R ρ (a :+ b) = R.add (eval R ρ a) (eval R ρ b)
eval R ρ (a :- b) = R.sub (eval R ρ a) (eval R ρ b)
eval R ρ (a :* b) = R.mul (eval R ρ a) (eval R ρ b)
eval R ρ (:- a) = R.neg (eval R ρ a)

-- the variables' values, in order
abbrev pub from : {A : Type 0} → Arith A → List A → ℕ → A
from R xs n = get_or xs n R.zero

pub same3 : {A : Type 0} {a b : Vec3 A} → a.x ≡ b.x → a.y ≡ b.y → a.z ≡ b.z → a ≡ b
same3 p q r = λ i. vec3 (p i) (q i) (r i)

infixr 67 ◌∷₂◌
infixr 67 ◌∷₃◌
abbrev pub ◌∷₂◌ : {A : Type 0} → Vec2 A → List A → List A
a ∷₂ xs = a.x ∷ a.y ∷ xs

abbrev pub ◌∷₃◌ : {A : Type 0} → Vec3 A → List A → List A
a ∷₃ xs = a.x ∷ a.y ∷ a.z ∷ xs

-- variables n and n + 1
abbrev pub var2 : ℕ → Vec2 Expr
var2 n = vec2 (var n) (var (n + 1))

-- variables n, n + 1 and n + 2
abbrev pub var3 : ℕ → Vec3 Expr
var3 n = vec3 (var n) (var (n + 1)) (var (n + 2))

-- ---- sums of signed products

-- a product of variables in rising order, to be taken away where `negative`
pub record Term : Type 0 where
  pub negative : Bool
  pub vars : List ℕ

abbrev term : Bool → List ℕ → Term
term s xs = record { negative = s; vars = xs }

abbrev Poly : Type 0
Poly = List Term

differ : Bool → Bool → Bool
differ false b = b
differ true b = not b

-- A product that goes on stands before one that ends there: so what is in order stays in order when multiplied.
next : Ordering → (Unit {0} → Ordering) → Ordering
next Ordering.lt later = Ordering.lt
next Ordering.eq later = later tt
next Ordering.gt later = Ordering.gt

comparing : List ℕ → List ℕ → Ordering
comparing [] [] = Ordering.eq
comparing [] (y ∷ ys) = Ordering.gt
comparing (x ∷ xs) [] = Ordering.lt
comparing (x ∷ xs) (y ∷ ys) = next (compare x y) (λ _. comparing xs ys)

pub data Order : Type 0 where
  before after struck : Order

ordered : Ordering → Bool → Order
ordered Ordering.lt d = before
ordered Ordering.gt d = after
ordered Ordering.eq false = before
ordered Ordering.eq true = struck

order : Term → Term → Order
order t u = ordered (comparing t.vars u.vars) (differ t.negative u.negative)

-- t goes before u and what follows, or u first, or both go. What is not asked for is not computed.
placed : Order → Term → (Poly → Poly) → Term → Poly → (Unit {0} → Poly) → Poly
placed before t rest u q later = t ∷ rest (u ∷ q)
placed after t rest u q later = u ∷ later tt
placed struck t rest u q later = rest q

into : Term → (Poly → Poly) → Poly → Poly
into t rest [] = t ∷ rest []
into t rest (u ∷ q) = placed (order t u) t rest u q (λ _. into t rest q)

sum : Poly → Poly → Poly
sum [] q = q
sum (t ∷ p) q = into t (λ r. sum p r) q

inserted : ℕ → List ℕ → List ℕ
inserted x [] = x ∷ []
inserted x (y ∷ ys) = cond (leb x y) (x ∷ y ∷ ys) (y ∷ inserted x ys)

joined : List ℕ → List ℕ → List ℕ
joined [] ys = ys
joined (x ∷ xs) ys = inserted x (joined xs ys)

multiplied : Term → Term → Term
multiplied t u = term (differ t.negative u.negative) (joined t.vars u.vars)

product : Poly → Poly → Poly
product [] q = []
product (t ∷ p) q = sum (map (multiplied t) q) (product p q)

negated : Poly → Poly
negated p = map (λ (t : Term). term (not t.negative) t.vars) p

norm : Expr → Poly
norm (var n) = term false (n ∷ []) ∷ []
norm :0 = []
norm :1 = term false [] ∷ []
norm (a :+ b) = sum (norm a) (norm b)
norm (a :- b) = sum (norm a) (negated (norm b))
norm (a :* b) = product (norm a) (norm b)
norm (:- a) = negated (norm a)

-- nothing is left of a - b
unfoldable pub Equal : Expr → Expr → Type 0
unfolding norm sum into placed order ordered comparing next differ product multiplied joined inserted negated
Equal a b = norm (a :- b) ≡ []

-- ---- the multiplying out is sound

compared : (xs ys : List ℕ) → comparing xs ys ≡ Ordering.eq → xs ≡ ys
unfolding comparing next
compared [] [] e = refl
compared [] (y ∷ ys) e = absurd (false≢true (ap compare_is_eq e))
compared (x ∷ xs) [] e = absurd (false≢true (ap compare_is_eq e))
compared (x ∷ xs) (y ∷ ys) e = go (compared xs ys) (compare x y) refl e
  where
    go : (comparing xs ys ≡ Ordering.eq → xs ≡ ys) → (o : Ordering) → compare x y ≡ o → next o (λ _. comparing xs ys) ≡ Ordering.eq → x ∷ xs ≡ y ∷ ys
    go h Ordering.lt c e = absurd (false≢true (ap compare_is_eq e))
    go h Ordering.eq c e = ap₂ ◌∷◌ (eqb→eq x y (subst (λ o. T (compare_is_eq o)) (sym c) tt)) (h e)
    go h Ordering.gt c e = absurd (false≢true (ap compare_is_eq e))

-- struck out: equal products, opposite signs
Cancels : Order → List ℕ → List ℕ → Bool → Bool → Type 0
Cancels before xs ys s r = Unit {0}
Cancels after xs ys s r = Unit {0}
Cancels struck xs ys s r = (xs ≡ ys) × (differ s r ≡ true)

cancels : (xs ys : List ℕ) (s r : Bool) → Cancels (ordered (comparing xs ys) (differ s r)) xs ys s r
unfolding Cancels ordered
cancels xs ys s r = go (comparing xs ys) refl (differ s r) refl
  where
    go : (o : Ordering) → comparing xs ys ≡ o → (d : Bool) → differ s r ≡ d → Cancels (ordered o d) xs ys s r
    go Ordering.lt c d e = tt
    go Ordering.gt c d e = tt
    go Ordering.eq c false e = tt
    go Ordering.eq c true e = (compared xs ys c, e)

module _ {A : Type 0} (R : Arith A) (L : Laws R) (ρ : ℕ → A) where
  open R use {add as ◌⊕◌, mul as ◌⊗◌, neg, zero, one}

  infixl 6 ◌⊕◌
  infixl 7 ◌⊗◌
  prod : List ℕ → A
  prod [] = one
  prod (x ∷ xs) = ρ x ⊗ prod xs

  signed : Bool → A → A
  signed false a = a
  signed true a = neg a

  worth : Term → A
  worth t = signed t.negative (prod t.vars)

  value : Poly → A
  value [] = zero
  value (t ∷ p) = worth t ⊕ value p

  signed_neg : (s : Bool) (a : A) → signed (not s) a ≡ neg (signed s a)
  unfolding signed
  signed_neg false a = refl
  signed_neg true a = sym (neg-neg R L a)

  signed_mul : (s r : Bool) (a b : A) → signed (differ s r) (a ⊗ b) ≡ signed s a ⊗ signed r b
  unfolding signed differ
  signed_mul false false a b = refl
  signed_mul false true a b = sym (mul-neg R L a b)
  signed_mul true false a b = sym (neg-mul R L a b)
  signed_mul true true a b = sym (neg-mul R L a (neg b) ∙ ap neg (mul-neg R L a b) ∙ neg-neg R L (a ⊗ b))

  signed_cancel : (s r : Bool) (a : A) → differ s r ≡ true → signed s a ⊕ signed r a ≡ zero
  unfolding signed differ
  signed_cancel false false a e = absurd (false≢true e)
  signed_cancel false true a e = L.add-neg a
  signed_cancel true false a e = L.add_comm (neg a) a ∙ L.add-neg a
  signed_cancel true true a e = absurd (false≢true e)

  mul_left_comm : (a b c : A) → a ⊗ (b ⊗ c) ≡ b ⊗ (a ⊗ c)
  mul_left_comm a b c = sym (L.mul_assoc a b c) ∙ ap (λ x. x ⊗ c) (L.mul_comm a b) ∙ L.mul_assoc b a c

  prod_inserted : (x : ℕ) (ys : List ℕ) → prod (inserted x ys) ≡ ρ x ⊗ prod ys
  unfolding prod inserted
  prod_inserted x [] = refl
  prod_inserted x (y ∷ ys) = go (leb x y) (prod_inserted x ys)
    where
      go : (b : Bool) → prod (inserted x ys) ≡ ρ x ⊗ prod ys → prod (cond b (x ∷ y ∷ ys) (y ∷ inserted x ys)) ≡ ρ x ⊗ (ρ y ⊗ prod ys)
      go true h = refl
      go false h = ap (λ a. ρ y ⊗ a) h ∙ mul_left_comm (ρ y) (ρ x) (prod ys)

  one-mul : (a : A) → one ⊗ a ≡ a
  one-mul a = L.mul_comm one a ∙ L.mul-one a

  prod_joined : (xs ys : List ℕ) → prod (joined xs ys) ≡ prod xs ⊗ prod ys
  unfolding prod joined
  prod_joined [] ys = sym (one-mul (prod ys))
  prod_joined (x ∷ xs) ys =
      prod_inserted x (joined xs ys) ∙ ap (λ a. ρ x ⊗ a) (prod_joined xs ys) ∙ sym (L.mul_assoc (ρ x) (prod xs) (prod ys))

  worth_multiplied : (t u : Term) → worth (multiplied t u) ≡ worth t ⊗ worth u
  unfolding worth multiplied
  worth_multiplied t u = ap (signed (differ t.negative u.negative)) (prod_joined t.vars u.vars) ∙ signed_mul t.negative u.negative _ _

  worth_struck : (t u : Term) → Cancels struck t.vars u.vars t.negative u.negative → worth t ⊕ worth u ≡ zero
  unfolding worth Cancels
  worth_struck t u h = ap (λ xs. signed t.negative (prod xs) ⊕ worth u) h.0 ∙ signed_cancel t.negative u.negative (prod u.vars) h.1

  module _ (t : Term) (rest : Poly → Poly) (c : A) (adds : (q : Poly) → value (rest q) ≡ c ⊕ value q) where
    value_placed : (o : Order) (u : Term) (q : Poly) (later : Unit {0} → Poly) → Cancels o t.vars u.vars t.negative u.negative
        → value (later tt) ≡ worth t ⊕ c ⊕ value q
        → value (placed o t rest u q later) ≡ worth t ⊕ c ⊕ (worth u ⊕ value q)
    unfolding value placed
    value_placed before u q later h e = ap (λ a. worth t ⊕ a) (adds (u ∷ q)) ∙ sym (L.add_assoc (worth t) c (worth u ⊕ value q))
    value_placed after u q later h e = ap (λ a. worth u ⊕ a) e ∙ add_left_comm R L (worth u) (worth t ⊕ c) (value q)
    value_placed struck u q later h e =
        adds q
        ∙ sym (zero-add R L (c ⊕ value q))
        ∙ ap (λ a. a ⊕ (c ⊕ value q)) (sym (worth_struck t u h))
        ∙ L.add_assoc (worth t) (worth u) (c ⊕ value q)
        ∙ ap (λ a. worth t ⊕ a) (add_left_comm R L (worth u) c (value q))
        ∙ sym (L.add_assoc (worth t) c (worth u ⊕ value q))

    value_into : (q : Poly) → value (into t rest q) ≡ worth t ⊕ c ⊕ value q
    unfolding value into order
    value_into [] = ap (λ a. worth t ⊕ a) (adds []) ∙ sym (L.add_assoc (worth t) c zero)
    value_into (u ∷ q) =
        value_placed (order t u) u q (λ _. into t rest q) (cancels t.vars u.vars t.negative u.negative) (value_into q)

  value_sum : (p q : Poly) → value (sum p q) ≡ value p ⊕ value q
  unfolding value sum
  value_sum [] q = sym (zero-add R L (value q))
  value_sum (t ∷ p) q = value_into t (λ r. sum p r) (value p) (value_sum p) q

  value_map : (t : Term) (q : Poly) → value (map (multiplied t) q) ≡ worth t ⊗ value q
  unfolding value
  value_map t [] = sym (mul-zero R L (worth t))
  value_map t (u ∷ q) = ap₂ ◌⊕◌ (worth_multiplied t u) (value_map t q) ∙ sym (L.mul-add (worth t) (worth u) (value q))

  value_product : (p q : Poly) → value (product p q) ≡ value p ⊗ value q
  unfolding value product
  value_product [] q = sym (zero-mul R L (value q))
  value_product (t ∷ p) q =
      value_sum (map (multiplied t) q) (product p q) ∙ ap₂ ◌⊕◌ (value_map t q) (value_product p q) ∙ sym (add-mul R L (worth t) (value p) (value q))

  value_negated : (p : Poly) → value (negated p) ≡ neg (value p)
  unfolding value negated worth
  value_negated [] = sym (neg-zero R L)
  value_negated (t ∷ p) = ap₂ ◌⊕◌ (signed_neg t.negative (prod t.vars)) (value_negated p) ∙ sym (neg-add R L (worth t) (value p))

  sound : (e : Expr) → value (norm e) ≡ eval R ρ e
  unfolding value norm eval worth signed prod
  sound (var n) = L.add-zero _ ∙ L.mul-one (ρ n)
  sound :0 = refl
  sound :1 = L.add-zero one
  sound (a :+ b) = value_sum (norm a) (norm b) ∙ ap₂ ◌⊕◌ (sound a) (sound b)
  sound (a :- b) =
      value_sum (norm a) (negated (norm b))
      ∙ ap₂ ◌⊕◌ (sound a) (value_negated (norm b) ∙ ap neg (sound b))
      ∙ sym (L.sub_is (eval R ρ a) (eval R ρ b))
  sound (a :* b) = value_product (norm a) (norm b) ∙ ap₂ ◌⊗◌ (sound a) (sound b)
  sound (:- a) = value_negated (norm a) ∙ ap neg (sound a)

  pub by_ring : (a b : Expr) → Equal a b → eval R ρ a ≡ eval R ρ b
  unfolding Equal eval value
  by_ring a b e = same_of_sub R L (eval R ρ a) (eval R ρ b) (sym (sound (a :- b)) ∙ ap value e)

  -- from an equation x = y that holds: a - b is a multiple of x - y
  pub by_premise : (a b c x y : Expr) → eval R ρ x ≡ eval R ρ y → Equal (a :- b) (c :* (x :- y)) → eval R ρ a ≡ eval R ρ b
  unfolding eval
  by_premise a b c x y h e =
      same_of_sub R L (eval R ρ a) (eval R ρ b)
      (by_ring (a :- b) (c :* (x :- y)) e ∙ ap (λ z. eval R ρ c ⊗ z) (sub_self R L (eval R ρ x) (eval R ρ y) h) ∙ mul-zero R L (eval R ρ c))
