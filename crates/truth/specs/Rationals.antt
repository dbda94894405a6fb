-- The rational numbers: fractions of integers, two being the same where their cross products are. The laws hold of them, and every number but 0 can be
-- divided by: so the theorems of this crate speak of an exact arithmetic with division.
use Rattle.std.specs.Prelude.{ℕ, ◌≡◌, [], ◌∷◌, ◌⊎◌, ℤ, pos, ◌*ℤ◌}
use Rattle.std.proofs.Math.Path.{refl}
use Rattle.std.proofs.Common.{sym, ◌∙◌, ap, subst, inl, inr, arith}
use Rattle.std.proofs.Math.Nat.{ℕ_set}
use mathlib.Core.Quot.{Quot, mk, sound, Quot-set, lift, ind}
use Rattle.std.proofs.Math.IntN.{zero-*ℤ, *ℤ_comm}
use Rattle.geometry.specs.Arith.{Arith}
use Rattle.truth.specs.Laws.{Laws, Invertible}
use Rattle.truth.specs.Solve.{Expr, var, :0, :1, ◌:-◌, ◌:*◌, :-◌, exprs, from, eval, Equal, by_ring, by_premise}
use Rattle.truth.specs.Integers.{integers, integer_laws, NonZero, zero_or_not, nonzero_mul}

-- ---- fractions, over any arithmetic

pub record Ratio (A : Type 0) : Type 0 where
  pub num : A
  pub den : A

abbrev pub ratio : {A : Type 0} → A → A → Ratio A
ratio n d = record { num = n; den = d }

module _ {A : Type 0} (R : Arith A) where
  open R use {add as ◌⊕◌, mul as ◌⊗◌, neg}

  infixl 6 ◌⊕◌
  infixl 7 ◌⊗◌
  abbrev plus : Ratio A → Ratio A → Ratio A
  plus x y = ratio (x.num ⊗ y.den ⊕ y.num ⊗ x.den) (x.den ⊗ y.den)

  abbrev times : Ratio A → Ratio A → Ratio A
  times x y = ratio (x.num ⊗ y.num) (x.den ⊗ y.den)

  abbrev opposite : Ratio A → Ratio A
  opposite x = ratio (neg x.num) x.den

  -- a cross product
  abbrev across : Ratio A → Ratio A → A
  across x y = x.num ⊗ y.den

-- ---- of integers, the lower of which is not 0

pub record Fraction : Type 0 where
  pub ratio : Ratio ℤ
  pub whole : NonZero ratio.den

abbrev pub Alike : Fraction → Fraction → Type 0
Alike x y = across integers x.ratio y.ratio ≡ across integers y.ratio x.ratio

abbrev pub ℚ : Type 0
ℚ = Quot Alike

abbrev pub frac : Fraction → ℚ
frac x = mk x

pub alike : (x y : Fraction) → Alike x y → frac x ≡ frac y
alike x y h = sound {a = x} {b = y} h

-- two functions that are the same of all fractions
pub same_for : (f g : ℚ → ℚ) → ((x : Fraction) → f (frac x) ≡ g (frac x)) → (a : ℚ) → f a ≡ g a
same_for f g h a = ind {β = λ q. f q ≡ g q} (λ q. Quot-set (f q) (g q)) h a

same_for2 : (f g : ℚ → ℚ → ℚ) → ((x y : Fraction) → f (frac x) (frac y) ≡ g (frac x) (frac y)) → (a b : ℚ) → f a b ≡ g a b
same_for2 f g h a b = same_for (λ q. f q b) (λ q. g q b) (λ x. same_for (f (frac x)) (g (frac x)) (h x) b) a

same_for3 : (f g : ℚ → ℚ → ℚ → ℚ) → ((x y z : Fraction) → f (frac x) (frac y) (frac z) ≡ g (frac x) (frac y) (frac z)) → (a b c : ℚ) → f a b c ≡ g a b c
same_for3 f g h a b c = same_for2 (λ p q. f p q c) (λ p q. g p q c) (λ x y. same_for (f (frac x) (frac y)) (g (frac x) (frac y)) (h x y) c) a b

-- a function of fractions that does not tell like ones apart
module _ (f : Fraction → Fraction) (h : (x y : Fraction) → Alike x y → Alike (f x) (f y)) where
  abbrev lift1 : ℚ → ℚ
  lift1 a = lift Quot-set (λ x. frac (f x)) (λ x y e. alike (f x) (f y) (h x y e)) a

module _ (f : Fraction → Fraction → Fraction) (h : (x x' y : Fraction) → Alike x x' → Alike (f x y) (f x' y)) (k : (x y y' : Fraction) → Alike y y' → Alike (f x y) (f x y')) where
  abbrev lift2 : ℚ → ℚ → ℚ
  lift2 a b = lift Quot-set (λ x. lift1 (f x) (k x) b) (λ x x' e. same_for (lift1 (f x) (k x)) (lift1 (f x') (k x')) (λ y. alike (f x y) (f x' y) (h x x' y e)) b) a

-- ---- sums, products, opposites and reciprocals

abbrev pub of : (r : Ratio ℤ) → NonZero r.den → Fraction
of r h = record { ratio = r; whole = h }

-- an integer
abbrev pub entire : ℤ → Fraction
entire n = of (ratio n (pos 1)) tt

abbrev added : Fraction → Fraction → Fraction
added x y = of (plus integers x.ratio y.ratio) (nonzero_mul x.ratio.den y.ratio.den x.whole y.whole)

abbrev multiplied : Fraction → Fraction → Fraction
multiplied x y = of (times integers x.ratio y.ratio) (nonzero_mul x.ratio.den y.ratio.den x.whole y.whole)

abbrev negated : Fraction → Fraction
negated x = of (opposite integers x.ratio) x.whole

-- d / n, or 0 where n is 0
abbrev turned : (d n : ℤ) → (n ≡ pos 0) ⊎ NonZero n → Fraction
turned d n (inl z) = entire (pos 0)
turned d n (inr h) = of (ratio d n) h

abbrev inverted : Fraction → Fraction
inverted x = turned x.ratio.den x.ratio.num (zero_or_not x.ratio.num)

-- ---- like fractions have like sums, products, opposites and reciprocals

abbrev E : Arith Expr
E = exprs :0

-- x, y, z and x' as variables 0 to 7
abbrev X : Ratio Expr
X = ratio (var 0) (var 1)

abbrev Y : Ratio Expr
Y = ratio (var 2) (var 3)

abbrev Z : Ratio Expr
Z = ratio (var 4) (var 5)

abbrev X' : Ratio Expr
X' = ratio (var 6) (var 7)

abbrev values : Fraction → Fraction → Fraction → Fraction → ℕ → ℤ
values x y z x' = from integers (x.ratio.num ∷ x.ratio.den ∷ y.ratio.num ∷ y.ratio.den ∷ z.ratio.num ∷ z.ratio.den ∷ x'.ratio.num ∷ x'.ratio.den ∷ [])

-- a multiple c of what is known of x and x'
abbrev Follows : Ratio Expr → Ratio Expr → Expr → Type 0
Follows a b c = Equal (across E a b :- across E b a) (c :* (across E X X' :- across E X' X))

module _ (x x' y : Fraction) (h : Alike x x') where
  by_alike : (a b : Ratio Expr) (c : Expr) → Follows a b c → (let ρ = values x y y x' in eval integers ρ (across E a b) ≡ eval integers ρ (across E b a))
  unfolding eval
  by_alike a b c e = by_premise integers integer_laws (values x y y x') (across E a b) (across E b a) c (across E X X') (across E X' X) h e

  pub added_left : Alike (added x y) (added x' y)
  unfolding Equal eval
  added_left = by_alike (plus E X Y) (plus E X' Y) (var 3 :* var 3) refl

  pub added_right : Alike (added y x) (added y x')
  unfolding Equal eval
  added_right = by_alike (plus E Y X) (plus E Y X') (var 3 :* var 3) refl

  pub multiplied_left : Alike (multiplied x y) (multiplied x' y)
  unfolding Equal eval
  multiplied_left = by_alike (times E X Y) (times E X' Y) (var 2 :* var 3) refl

  pub multiplied_right : Alike (multiplied y x) (multiplied y x')
  unfolding Equal eval
  multiplied_right = by_alike (times E Y X) (times E Y X') (var 2 :* var 3) refl

pub negated_alike : (x x' : Fraction) → Alike x x' → Alike (negated x) (negated x')
unfolding Equal eval
negated_alike x x' h = by_alike x x' x h (opposite E X) (opposite E X') (:- :1) refl

-- n is 0 and n' is not
apart : (n d n' d' : ℤ) → n *ℤ d' ≡ n' *ℤ d → n ≡ pos 0 → NonZero n' → NonZero d → ⊥
apart n d n' d' h z k' w = subst NonZero (sym h ∙ ap (λ m. m *ℤ d') z ∙ zero-*ℤ d') (nonzero_mul n' d k' w)

pub inverted_alike : (x x' : Fraction) → Alike x x' → Alike (inverted x) (inverted x')
inverted_alike x x' h = go (zero_or_not x.ratio.num) (zero_or_not x'.ratio.num)
  where
    go : (z : (x.ratio.num ≡ pos 0) ⊎ NonZero x.ratio.num) (z' : (x'.ratio.num ≡ pos 0) ⊎ NonZero x'.ratio.num)
        → Alike (turned x.ratio.den x.ratio.num z) (turned x'.ratio.den x'.ratio.num z')
    go (inl z) (inl z') = refl
    go (inl z) (inr k') = absurd (apart x.ratio.num x.ratio.den x'.ratio.num x'.ratio.den h z k' x.whole)
    go (inr k) (inl z') = absurd (apart x'.ratio.num x'.ratio.den x.ratio.num x.ratio.den (sym h) z' k x'.whole)
    go (inr k) (inr k') = *ℤ_comm x.ratio.den x'.ratio.num ∙ sym h ∙ *ℤ_comm x.ratio.num x'.ratio.den

-- ---- the rational numbers

abbrev sum : ℚ → ℚ → ℚ
sum = lift2 added (λ x x' y h. added_left x x' y h) (λ x y y' h. added_right y y' x h)

abbrev product : ℚ → ℚ → ℚ
product = lift2 multiplied (λ x x' y h. multiplied_left x x' y h) (λ x y y' h. multiplied_right y y' x h)

abbrev negative : ℚ → ℚ
negative = lift1 negated negated_alike

abbrev inverse : ℚ → ℚ
inverse = lift1 inverted inverted_alike

abbrev pub rationals : Arith ℚ
rationals =
    record {
      add = sum;
      sub = λ a b. sum a (negative b);
      mul = product;
      div = λ a b. product a (inverse b);
      neg = negative;
      zero = frac (entire (pos 0));
      one = frac (entire (pos 1));
    }

-- the solver, for fractions
by_fractions : (x y z : Fraction) (a b : Ratio Expr) → Equal (across E a b) (across E b a)
    → (let ρ = values x y z x in eval integers ρ (across E a b) ≡ eval integers ρ (across E b a))
by_fractions x y z a b e = by_ring integers integer_laws (values x y z x) (across E a b) (across E b a) e

abbrev nothing : Ratio Expr
nothing = ratio :0 :1

abbrev unit : Ratio Expr
unit = ratio :1 :1

pub rational_laws : Laws rationals
unfolding Equal eval
rational_laws =
    record {
      add_assoc =
          same_for3 (λ a b c. sum (sum a b) c) (λ a b c. sum a (sum b c))
          (λ x y z. alike (added (added x y) z) (added x (added y z)) (by_fractions x y z (plus E (plus E X Y) Z) (plus E X (plus E Y Z)) refl));
      add_comm = same_for2 sum (λ a b. sum b a) (λ x y. alike (added x y) (added y x) (by_fractions x y y (plus E X Y) (plus E Y X) refl));
      add-zero =
          same_for (λ a. sum a rationals.zero) (λ a. a)
          (λ x. alike (added x (entire (pos 0))) x (by_fractions x x x (plus E X nothing) X refl));
      add-neg =
          same_for (λ a. sum a (negative a)) (λ a. rationals.zero)
          (λ x. alike (added x (negated x)) (entire (pos 0)) (by_fractions x x x (plus E X (opposite E X)) nothing refl));
      sub_is = λ a b. refl;
      mul_assoc =
          same_for3 (λ a b c. product (product a b) c) (λ a b c. product a (product b c))
          (λ x y z.
          alike (multiplied (multiplied x y) z) (multiplied x (multiplied y z)) (by_fractions x y z (times E (times E X Y) Z) (times E X (times E Y Z)) refl));
      mul_comm =
          same_for2 product (λ a b. product b a) (λ x y. alike (multiplied x y) (multiplied y x) (by_fractions x y y (times E X Y) (times E Y X) refl));
      mul-one = mul-one;
      mul-add =
          same_for3 (λ a b c. product a (sum b c)) (λ a b c. sum (product a b) (product a c))
          (λ x y z.
          alike (multiplied x (added y z)) (added (multiplied x y) (multiplied x z))
          (by_fractions x y z (times E X (plus E Y Z)) (plus E (times E X Y) (times E X Z)) refl));
      div_is = λ a b. ap (product a) (sym (one-mul (inverse b)));
    }
  where
    mul-one : (a : ℚ) → product a rationals.one ≡ a
    mul-one =
        same_for (λ a. product a rationals.one) (λ a. a) (λ x. alike (multiplied x (entire (pos 1))) x (by_fractions x x x (times E X unit) X refl))

    one-mul : (a : ℚ) → product rationals.one a ≡ a
    one-mul =
        same_for (λ a. product rationals.one a) (λ a. a) (λ x. alike (multiplied (entire (pos 1)) x) x (by_fractions x x x (times E unit X) X refl))

-- every number but 0 can be divided by
pub can_divide : (x : Fraction) → NonZero x.ratio.num → Invertible rationals (frac x)
unfolding Equal eval
can_divide x h = alike (multiplied x (multiplied (entire (pos 1)) (inverted x))) (entire (pos 1)) (go (zero_or_not x.ratio.num))
  where
    go : (z : (x.ratio.num ≡ pos 0) ⊎ NonZero x.ratio.num)
        → Alike (multiplied x (multiplied (entire (pos 1)) (turned x.ratio.den x.ratio.num z))) (entire (pos 1))
    go (inl z) = absurd (subst NonZero z h)
    go (inr k) = by_fractions x x x (times E X (times E unit (ratio (var 1) (var 0)))) unit refl

-- 1 is not 0: 0 has the numerator 0, and no fraction like 1 has
abbrev weight : (n : ℤ) → (n ≡ pos 0) ⊎ NonZero n → ℕ
weight n (inl z) = 0
weight n (inr h) = 1

abbrev weight_of : Fraction → ℕ
weight_of x = weight x.ratio.num (zero_or_not x.ratio.num)

weight_alike : (x x' : Fraction) → Alike x x' → weight_of x ≡ weight_of x'
weight_alike x x' h = go (zero_or_not x.ratio.num) (zero_or_not x'.ratio.num)
  where
    go : (z : (x.ratio.num ≡ pos 0) ⊎ NonZero x.ratio.num) (z' : (x'.ratio.num ≡ pos 0) ⊎ NonZero x'.ratio.num)
        → weight x.ratio.num z ≡ weight x'.ratio.num z'
    go (inl z) (inl z') = refl
    go (inl z) (inr k') = absurd (apart x.ratio.num x.ratio.den x'.ratio.num x'.ratio.den h z k' x.whole)
    go (inr k) (inl z') = absurd (apart x'.ratio.num x'.ratio.den x.ratio.num x.ratio.den (sym h) z' k x'.whole)
    go (inr k) (inr k') = refl

pub one_is_not_zero : rationals.one ≡ rationals.zero → ⊥
one_is_not_zero e = let h : ◌≡◌ {A = ℕ} 1 0 = ap (λ (a : ℚ). lift ℕ_set weight_of weight_alike a) e in omega arith

-- n / d
abbrev pub over : (n d : ℤ) → NonZero d → ℚ
over n d h = frac (of (ratio n d) h)

pub divides_by : {a : ℚ} (n d : ℤ) (h : NonZero d) → a ≡ over n d h → NonZero n → Invertible rationals a
divides_by n d h e k = subst (λ q. Invertible rationals q) (sym e) (can_divide (of (ratio n d) h) k)
