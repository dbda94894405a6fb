-- A map whose entries are renamed: a pass sees what it saw.
use Rattle.std.specs.Prelude.{ℕ, ◌<◌, ◌≡◌, Bool, List, map, ltb, length, get_or}
use Rattle.std.proofs.Math.Path.{refl}
use Rattle.std.proofs.Common.{ap, ap₂, sym, ◌∙◌, le_of_eq, eq-eqb, ne_eqb, eqb-true, lt-ltb}
use Rattle.std.proofs.Math.Bool.{true, false, or-true}
use Rattle.std.proofs.Math.Option.{some}
use Rattle.std.proofs.lemmas.Bool.{eqb-false}
use Rattle.std.proofs.Math.Dec.{eqb}
use Rattle.std.proofs.lemmas.List.{length-map}
use Rattle.std.proofs.Math.ListN.{get_or-map, get_or-eq_default}
use Rattle.lists.specs.Laws.Every.{every_of}
use Rattle.questions.specs.Questions.{groups, all_below, names_face, names_faces, empty, most_count}
use Rattle.meshes.specs.View.{named, entry_at, view_of}
use Rattle.meshes.specs.Laws.{named_none, named_some}
use Rattle.views.specs.Alike.{Alike}
use Rattle.views.specs.Renaming.{Renumbers, Renames}

module _ {r : ℕ → ℕ} {names : List ℕ} {n n' : ℕ} (s : Renumbers r names n n') where
  pub entry-renamed : (p : ℕ) → entry_at (map r names) p ≡ r (entry_at names p)
  entry-renamed p = ap (λ (d : ℕ). get_or (map r names) p d) (sym s.empty_stays) ∙ get_or-map r names p empty

  -- the entry past the map's end is empty: so no other entry becomes empty
  pub not_emptied : (p : ℕ) → (entry_at names p ≡ empty → ⊥) → r (entry_at names p) ≡ empty → ⊥
  not_emptied p h e =
      let past : entry_at names (length names) ≡ empty = get_or-eq_default names empty (le_of_eq refl) in
      h (s.apart p (length names) (e ∙ sym s.empty_stays ∙ ap r (sym past)) ∙ past)

  -- equal entries stay equal, unequal ones unequal
  equal_same : (p q : ℕ) → eqb (r (entry_at names p)) (r (entry_at names q)) ≡ eqb (entry_at names p) (entry_at names q)
  equal_same p q = go (eqb (entry_at names p) (entry_at names q)) refl
    where
      go : (b : Bool) → eqb (entry_at names p) (entry_at names q) ≡ b → eqb (r (entry_at names p)) (r (entry_at names q)) ≡ b
      go true e = eq-eqb _ _ (ap r (eqb-true _ _ e))
      go false e = ne_eqb _ _ (λ k. eqb-false _ _ e (s.apart p q k))

  -- question 7 is answered yes on both sides
  entry_names : (n e : ℕ) → ((e ≡ empty → ⊥) → e < n) → names_face n e ≡ true
  unfolding names_face
  entry_names n e h = go (eqb e empty) refl
    where
      go : (b : Bool) → eqb e empty ≡ b → names_face n e ≡ true
      go true k = rw k (or-true (ltb e n))
      go false k = rw (lt-ltb e n (h (eqb-false _ _ k)))

  names_before : names_faces n names ≡ true
  names_before = every_of (names_face n) empty names (λ p h. entry_names n (entry_at names p) (s.was_there p))

  names_after : names_faces n' (map r names) ≡ true
  names_after =
      every_of (names_face n') empty (map r names)
      (λ p h.
      rw (entry-renamed p)
      (entry_names n' (r (entry_at names p)) (λ k. s.is_there p (λ e. k (ap r e ∙ s.empty_stays)))))

  pub names_same : names_faces n names ≡ names_faces n' (map r names)
  names_same = names_before ∙ sym names_after

module _ {r : ℕ → ℕ} {tri names tri' : List ℕ} (s : Renames r tri names tri') where
  -- each entry names what it named
  named_same : (p : ℕ) → named tri' (r (entry_at names p)) ≡ named tri (entry_at names p)
  named_same p = go (eqb (entry_at names p) empty) refl
    where
      go : (b : Bool) → eqb (entry_at names p) empty ≡ b → named tri' (r (entry_at names p)) ≡ named tri (entry_at names p)
      go true e =
          let k = eqb-true _ _ e in
          named_none tri' (r (entry_at names p)) (ap r k ∙ s.numbers.empty_stays) ∙ sym (named_none tri (entry_at names p) k)
      go false e =
          let k = eqb-false _ _ e in
          named_some tri' (r (entry_at names p)) (not_emptied s.numbers p k) ∙ ap some (s.same_face p k) ∙ sym (named_some tri (entry_at names p) k)

  -- a pass sees what it saw
  pub view_same : view_of tri' (map r names) ≡ view_of tri names
  view_same = λ i. record { at = λ p. at_same p i; alike = λ p q. both_same p q i }
    where
      at_same : (p : ℕ) → named tri' (entry_at (map r names) p) ≡ named tri (entry_at names p)
      at_same p = ap (named tri') (entry-renamed s.numbers p) ∙ named_same p

      both_same : (p q : ℕ) → eqb (entry_at (map r names) p) (entry_at (map r names) q) ≡ eqb (entry_at names p) (entry_at names q)
      both_same p q = ap₂ eqb (entry-renamed s.numbers p) (entry-renamed s.numbers q) ∙ equal_same s.numbers p q

  -- No pass can tell the renamed map with its list from the old ones.
  pub renamed_alike : (n : ℕ) → groups 3 most_count (length tri) ≡ groups 3 most_count (length tri') → all_below n tri ≡ all_below n tri' → Alike n tri names tri' (map r names)
  renamed_alike n slices corners =
      record {
        slices = slices;
        pixels = sym (length-map names r);
        corners = corners;
        entries = names_same s.numbers;
        views = sym view_same;
      }
