-- What lists of faces bring a pixel: one list after another, and a list with faces taken out.
use Prim.Native.Nat.{ℕ, suc, ◌+◌, ◌≤◌, ◌<◌}
use Rattle.std.specs.Prelude.{◌≡◌, ◌⊎◌, Bool, cond, T}
use Rattle.std.proofs.Math.Path.{refl, ap, sym}
use Rattle.std.proofs.Common.{◌∙◌, inl, inr}
use Rattle.std.proofs.Math.Bool.{true, false}
use mathlib.Core.List.Memᴰ
use mathlib.Core.List.{List, [], ◌∷◌, ◌++◌, append_assoc, map, map-append, Memᴰ}
use Rattle.std.proofs.Math.Nat.{add-zero}
use native.Mathlib.Omega.{arith}
use Rattle.std.proofs.Math.ListN.{length}
use Rattle.offers.specs.Offer.{Offer, renamed, pick}
use Rattle.offers.specs.Offers.{brought, offers_of, Greatest}
use Rattle.offers.specs.Thinning.{kept_from, kept_before}
use Rattle.offers.proofs.Laws.Joins.{won, won-append}
use Rattle.offers.proofs.Laws.Removal.{kept_offers, all_kept, none_kept, kept_append, kept-offers, won-kept}
use Rattle.offers.proofs.Laws.Renaming.{offers-renamed, won-renamed}

module _ {F P : Type 0} (bring : ℕ → F → List (Offer P)) where
  pub brought-append : (k : ℕ) (xs ys : List F) → brought bring k (xs ++ ys) ≡ brought bring k xs ++ brought bring (k + length xs) ys
  unfolding brought
  brought-append k [] ys = rw add-zero
  brought-append k (x ∷ xs) ys =
      ap (λ (l : List (Offer P)). bring k x ++ l) (brought-append (suc k) xs ys ∙ ap (λ (j : ℕ). brought bring (suc k) xs ++ brought bring j ys) (omega arith))
      ∙ sym (append_assoc (bring k x) (brought bring (suc k) xs) (brought bring (k + length (x ∷ xs)) ys))

  -- a pixel drawn with two lists one after the other is the two drawings joined
  pub won_runs : (none : P) (k : ℕ) (xs ys : List F) → won none (brought bring k (xs ++ ys)) ≡ pick (won none (brought bring k xs)) (won none (brought bring (k + length xs) ys))
  won_runs none k xs ys = ap (won none) (brought-append k xs ys) ∙ won-append none (brought bring k xs) (brought bring (k + length xs) ys)

-- What face k brings carries the number k.
abbrev pub Carries : {F P : Type 0} → (P → ℕ) → (ℕ → F → List (Offer P)) → Type 0
Carries {F} {P} number bring = (k : ℕ) (f : F) (o : Offer P) → Memᴰ o (bring k f) → number o.payload ≡ k

module _ {F P : Type 0} (number : P → ℕ) (bring : ℕ → F → List (Offer P)) (carries : Carries number bring) where
  -- every number brought is a face's
  pub brought_number : (k : ℕ) (fs : List F) (c : Offer P) → Memᴰ c (brought bring k fs) → (k ≤ number c.payload) × (number c.payload < k + length fs)
  unfolding brought
  brought_number k [] c m = absurd (Memᴰ.not-nil m)
  brought_number k (f ∷ fs) c m = go (Memᴰ.append_cases (bring k f) m) (brought_number (suc k) fs c)
    where
      go : Memᴰ c (bring k f) ⊎ Memᴰ c (brought bring (suc k) fs)
          → (Memᴰ c (brought bring (suc k) fs) → (suc k ≤ number c.payload) × (number c.payload < suc k + length fs))
          → (k ≤ number c.payload) × (number c.payload < k + length (f ∷ fs))
      go (inl m) ih = let e = carries k f c m in (omega arith, omega arith)
      go (inr m) ih = let h = ih m in (omega arith, omega arith)

  module _ (keep : ℕ → Bool) where
    -- the offers of kept faces
    abbrev of_kept : List (Offer P) → List (Offer P)
    of_kept = kept_offers (λ x. keep (number x))

    face-kept : (k : ℕ) (f : F) → keep k ≡ true → of_kept (bring k f) ≡ bring k f
    face-kept k f e = all_kept (λ x. keep (number x)) (bring k f) (λ o m. rw (carries k f o m, e) tt)

    face-dropped : (k : ℕ) (f : F) → keep k ≡ false → of_kept (bring k f) ≡ []
    face-dropped k f e = none_kept (λ x. keep (number x)) (bring k f) (λ o m. rw (carries k f o m, e) tt)

    -- Under r, what a face brings becomes what it brings under its new number.
    module _ {Q : Type 0} (r : P → Q) (bring' : ℕ → F → List (Offer Q)) (most : ℕ) (moves : (k : ℕ) (f : F) → k < most → map (renamed r) (bring k f) ≡ bring' (kept_before keep k) f) where
      brought-kept : (k : ℕ) (fs : List F) → k + length fs ≤ most → brought bring' (kept_before keep k) (kept_from keep k fs) ≡ map (renamed r) (of_kept (brought bring k fs))
      unfolding brought kept_from kept_offers kept_before
      brought-kept k [] h = refl
      brought-kept k (f ∷ fs) h = go (keep k) refl (brought-kept (suc k) fs (omega arith))
        where
          go : (b : Bool) → keep k ≡ b
              → brought bring' (cond b (suc (kept_before keep k)) (kept_before keep k)) (kept_from keep (suc k) fs) ≡ map (renamed r) (of_kept (brought bring (suc k) fs))
              → brought bring' (kept_before keep k) (cond b (f ∷ kept_from keep (suc k) fs) (kept_from keep (suc k) fs)) ≡ map (renamed r) (of_kept (bring k f ++ brought bring (suc k) fs))
          go true e ih =
              rw (
                kept_append (λ x. keep (number x)) (bring k f) (brought bring (suc k) fs),
                face-kept k f e,
                map-append (renamed r) (bring k f) (of_kept (brought bring (suc k) fs)),
                moves k f (omega arith),
                ih,
              )
          go false e ih = rw (kept_append (λ x. keep (number x)) (bring k f) (brought bring (suc k) fs), face-dropped k f e) ih

      -- the offers of the thinned list are those of the kept faces
      pub offers-kept : (fs : List F) → length fs ≤ most → offers_of (brought bring' 0 (kept_from keep 0 fs)) ≡ map (renamed r) (kept_offers (λ x. keep (number x)) (offers_of (brought bring 0 fs)))
      unfolding kept_before
      offers-kept fs h =
          ap offers_of (brought-kept 0 fs (omega arith))
          ∙ offers-renamed r (of_kept (brought bring 0 fs))
          ∙ ap (map (renamed r)) (kept-offers (λ x. keep (number x)) (brought bring 0 fs))

      -- the pixel of the thinned list, drawn from 0, where no face taken out holds the pixel
      pub won_thinned : (none : P) (none' : Q) → r none ≡ none' → (fs : List F) → length fs ≤ most
          → ((c : Offer P) → Greatest (offers_of (brought bring 0 fs)) c → T (keep (number c.payload)))
          → won none' (brought bring' 0 (kept_from keep 0 fs)) ≡ renamed r (won none (brought bring 0 fs))
      unfolding kept_before
      won_thinned none none' e fs h held =
          ap (won none') (brought-kept 0 fs (omega arith))
          ∙ won-renamed r none none' e (of_kept (brought bring 0 fs))
          ∙ ap (renamed r) (won-kept (λ x. keep (number x)) none (brought bring 0 fs) held)
