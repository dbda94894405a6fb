-- Bringing offers to a clear pixel shows the first face of greatest depth: the fold of `pick` ends at the earliest offer that no other exceeds.
use Rattle.std.specs.Prelude.{◌≡◌, refl, ◌⊎◌, Bool, true, false, not, cond, T}
use Rattle.std.proofs.Common.{ap, sym, ◌∙◌, inl, inr, T_not}
use mathlib.Core.List.Memᴰ
use mathlib.Core.List.{List, [], ◌∷◌, ◌++◌, append_assoc, append-nil, Memᴰ}
use Rattle.std.proofs.Math.Dec.{not_T}
use Rattle.offers.specs.Offer.{Offer, offer, lowest, exceeds, pick, offered}
use Rattle.offers.specs.Offers.{proper, offers_of, Greatest, Shows, uncovered, covered}
use Rattle.offers.proofs.Laws.Order.{test, lt_irrefl, lt_trans, not_lt_trans, above_number, not_above}

-- ---- in order, and one step

-- one list after the other
pub offered-append : {P : Type 0} (c : Offer P) (a b : List (Offer P)) → offered c (a ++ b) ≡ offered (offered c a) b
unfolding offered
offered-append c [] b = refl
offered-append c (o ∷ a) b = offered-append (pick c o) a b

pub pick_left : {P : Type 0} (a b : Offer P) → T (not (exceeds a b)) → pick a b ≡ a
unfolding pick
pick_left a b h = go (exceeds a b) h
  where
    go : (t : Bool) → T (not t) → cond t b a ≡ a
    go true h = absurd h
    go false h = refl

pub pick_right : {P : Type 0} (a b : Offer P) → T (exceeds a b) → pick a b ≡ b
unfolding pick
pick_right a b h = go (exceeds a b) h
  where
    go : (t : Bool) → T t → cond t b a ≡ b
    go true h = refl
    go false h = absurd h

pub not_above_clear : {P : Type 0} (none : P) (c : Offer P) → T (not (proper c)) → T (not (exceeds (offer lowest none) c))
unfolding proper exceeds
not_above_clear none c h = h

-- an offer exceeds what a clear pixel holds
pub above : {P : Type 0} (none : P) (c : Offer P) → T (proper c) → T (exceeds (offer lowest none) c)
unfolding proper exceeds
above none c h = h

-- what is no offer changes nothing
pub pick_no_offer : {P : Type 0} (a b : Offer P) → T (not (proper b)) → pick a b ≡ a
unfolding exceeds proper
pick_no_offer a b h = pick_left a b (not_above a.depth b.depth h)

is_offer : {P : Type 0} (c : Offer P) (cs : List (Offer P)) → T (proper c) → offers_of (c ∷ cs) ≡ c ∷ offers_of cs
unfolding offers_of
is_offer c cs h = go (proper c) h
  where
    go : (t : Bool) → T t → cond t (c ∷ offers_of cs) (offers_of cs) ≡ c ∷ offers_of cs
    go true h = refl
    go false h = absurd h

no_offer : {P : Type 0} (c : Offer P) (cs : List (Offer P)) → T (not (proper c)) → offers_of (c ∷ cs) ≡ offers_of cs
unfolding offers_of
no_offer c cs h = go (proper c) h
  where
    go : (t : Bool) → T (not t) → cond t (c ∷ offers_of cs) (offers_of cs) ≡ offers_of cs
    go true h = absurd h
    go false h = refl

-- ---- one offer more

-- every offer is above −infinity
abbrev Proper : {P : Type 0} → List (Offer P) → Type 0
Proper {P} os = (o : Offer P) → Memᴰ o os → T (proper o)

irrefl : {P : Type 0} (c : Offer P) → T (not (exceeds c c))
unfolding exceeds
irrefl c = lt_irrefl c.depth

chain : {P : Type 0} (a b c : Offer P) → T (exceeds a b) → T (exceeds b c) → T (exceeds a c)
unfolding exceeds
chain a b c = lt_trans a.depth b.depth c.depth

-- o is no greater than c and x is, so x is greater than o
overtakes : {P : Type 0} (c o x : Offer P) → T (proper o) → T (not (exceeds c o)) → T (exceeds c x) → T (exceeds o x)
unfolding exceeds proper
overtakes c o x p h k = go (test (exceeds o x))
  where
    go : T (exceeds o x) ⊎ T (not (exceeds o x)) → T (exceeds o x)
    go (inl t) = t
    go (inr t) = absurd (T_not (exceeds c x) (not_lt_trans c.depth o.depth x.depth (above_number o.depth p) h t) k)

-- x is greater than o and no greater than c, so c is greater than o
pub overtaken : {P : Type 0} (o x c : Offer P) → T (proper c) → T (exceeds o x) → T (not (exceeds c x)) → T (exceeds o c)
unfolding exceeds proper
overtaken o x c p h k = go (test (exceeds o c))
  where
    go : T (exceeds o c) ⊎ T (not (exceeds o c)) → T (exceeds o c)
    go (inl t) = t
    go (inr t) = absurd (T_not (exceeds o x) (not_lt_trans o.depth c.depth x.depth (above_number c.depth p) t k) h)

module _ {P : Type 0} (none : P) (os : List (Offer P)) (c x : Offer P) where
  -- the new offer is not greater
  kept : Greatest os c → T (not (exceeds c x)) → Greatest (os ++ x ∷ []) c
  kept g k =
      record {
        before = g.before;
        after = g.after ++ x ∷ [];
        split = ap (λ (l : List (Offer P)). l ++ x ∷ []) g.split ∙ append_assoc g.before (c ∷ g.after) (x ∷ []);
        unexceeded = λ o m. no_more o (Memᴰ.append_cases os m);
        earliest = λ o m. let e = g.earliest o m in (e.0, Memᴰ.append_left (x ∷ []) e.1, e.2);
      }
    where
      no_more : (o : Offer P) → Memᴰ o os ⊎ Memᴰ o (x ∷ []) → T (not (exceeds c o))
      no_more o (inl m) = g.unexceeded o m
      no_more o (inr m) = rw (Memᴰ.eq_of_singleton m) k

  -- it is
  raised : Proper os → Greatest os c → T (exceeds c x) → Greatest (os ++ x ∷ []) x
  raised fine g k =
      record {
        before = os;
        after = [];
        split = refl;
        unexceeded = λ o m. no_more o (Memᴰ.append_cases os m);
        earliest = λ o m. (x, Memᴰ.append_right os (Memᴰ.head refl), overtakes c o x (fine o m) (g.unexceeded o m) k);
      }
    where
      no_more : (o : Offer P) → Memᴰ o os ⊎ Memᴰ o (x ∷ []) → T (not (exceeds x o))
      no_more o (inl m) = not_T (exceeds x o) (λ t. T_not (exceeds c o) (g.unexceeded o m) (chain c x o k t))
      no_more o (inr m) = rw (Memᴰ.eq_of_singleton m) (irrefl x)

  shows_more : Proper os → T (proper x) → Shows none os c → Shows none (os ++ x ∷ []) (pick c x)
  shows_more fine p (uncovered e k) = rw (e, k, pick_right (offer lowest none) x (above none x p)) (covered alone)
    where
      alone : Greatest (x ∷ []) x
      alone =
          record {
            before = [];
            after = [];
            split = refl;
            unexceeded = λ o m. rw (Memᴰ.eq_of_singleton m) (irrefl x);
            earliest = λ o m. absurd (Memᴰ.not-nil m);
          }
  shows_more fine p (covered g) = go (test (exceeds c x))
    where
      go : T (exceeds c x) ⊎ T (not (exceeds c x)) → Shows none (os ++ x ∷ []) (pick c x)
      go (inl k) = rw (pick_right c x k) (covered (raised fine g k))
      go (inr k) = rw (pick_left c x k) (covered (kept g k))

  fine_more : Proper os → T (proper x) → Proper (os ++ x ∷ [])
  fine_more fine p o m = go (Memᴰ.append_cases os m)
    where
      go : Memᴰ o os ⊎ Memᴰ o (x ∷ []) → T (proper o)
      go (inl m) = fine o m
      go (inr m) = rw (Memᴰ.eq_of_singleton m) p

-- ---- all of them

shows_all : {P : Type 0} (none : P) (os : List (Offer P)) (c : Offer P) (cs : List (Offer P)) → Proper os → Shows none os c → Shows none (os ++ offers_of cs) (offered c cs)
unfolding offered offers_of
shows_all none os c [] fine s = rw append-nil s
shows_all none os c (x ∷ cs) fine s = go (test (proper x)) (λ p. shows_all none (os ++ x ∷ []) (pick c x) cs (fine_more none os c x fine p) (shows_more none os c x fine p s)) (shows_all none os (pick c x) cs fine)
  where
    go : T (proper x) ⊎ T (not (proper x))
        → (T (proper x) → Shows none ((os ++ x ∷ []) ++ offers_of cs) (offered (pick c x) cs))
        → (Shows none os (pick c x) → Shows none (os ++ offers_of cs) (offered (pick c x) cs))
        → Shows none (os ++ offers_of (x ∷ cs)) (offered (pick c x) cs)
    go (inl p) more same = rw (is_offer x cs p) (rw append_assoc at (more p))
    go (inr p) more same = rw (no_offer x cs p) (same (rw (pick_no_offer c x p) s))

-- What is brought to a clear pixel leaves it showing the first face of greatest depth, or clear where there is no offer.
pub first-of-greatest : {P : Type 0} (none : P) (cs : List (Offer P)) → Shows none (offers_of cs) (offered (offer lowest none) cs)
first-of-greatest none cs = shows_all none [] (offer lowest none) cs (λ o m. absurd (Memᴰ.not-nil m)) (uncovered refl refl)

-- ---- there is one

-- of two splits of a list, the earlier one's cell lies before the other's, or they are one
places : {P : Type 0} (b : List (Offer P)) (c : Offer P) (a b' : List (Offer P)) (c' : Offer P) (a' : List (Offer P)) → b ++ c ∷ a ≡ b' ++ c' ∷ a' → Memᴰ c b' ⊎ Memᴰ c' b ⊎ (c ≡ c')
places [] c a [] c' a' e = inr (inr (cc))
places [] c a (x ∷ b') c' a' e = let p : c ≡ x = cc in inl (Memᴰ.head p)
places (x ∷ b) c a [] c' a' e = let p : c' ≡ x = cc in inr (inl (Memᴰ.head p))
places (x ∷ b) c a (y ∷ b') c' a' e = go (places b c a b' c' a' (cc))
  where
    go : Memᴰ c b' ⊎ Memᴰ c' b ⊎ (c ≡ c') → Memᴰ c (y ∷ b') ⊎ Memᴰ c' (x ∷ b) ⊎ (c ≡ c')
    go (inl m) = inl (Memᴰ.tail m)
    go (inr (inl m)) = inr (inl (Memᴰ.tail m))
    go (inr (inr p)) = inr (inr p)

pub greatest_unique : {P : Type 0} (os : List (Offer P)) (c c' : Offer P) → Greatest os c → Greatest os c' → c ≡ c'
greatest_unique os c c' g g' = go (places g.before c g.after g'.before c' g'.after (sym g.split ∙ g'.split))
  where
    go : Memᴰ c g'.before ⊎ Memᴰ c' g.before ⊎ (c ≡ c') → c ≡ c'
    go (inl m) = let e = g'.earliest c m in absurd (T_not (exceeds c e.0) (g.unexceeded e.0 e.1) e.2)
    go (inr (inl m)) = let e = g.earliest c' m in absurd (T_not (exceeds c' e.0) (g'.unexceeded e.0 e.1) e.2)
    go (inr (inr p)) = p
