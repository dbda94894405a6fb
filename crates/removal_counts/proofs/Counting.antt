-- The pixels compared, as a loop over them counts.
use Prim.Native.Nat.{ℕ, ◌+◌, ◌-◌, ◌≤◌, ◌<◌}
use mathlib.Core.Path.{◌≡◌, refl, ap, ap₂, sym, ◌∙◌}
use mathlib.Core.Bool.{Bool, true, false, not, not-not, ◌&&◌, cond}
use mathlib.Core.List.{List}
use native.Mathlib.Omega.{arith}
use lib.Dec.{eqb}
use Rattle.std.specs.Int.{from_bool}
use lib.ListN.{length, get_or}
use Rattle.lists.specs.Lists.{tabulate, span, count}
use Rattle.lists.specs.Laws.Tables.{length-tabulate}
use Rattle.lists.specs.Laws.Sums.{count_none, count_most, count_next}
use Rattle.questions.specs.Questions.{empty}
use Rattle.meshes.specs.View.{entry_at}
use Rattle.meshes.specs.Laws.{entry_read}
use Rattle.removal_rules.specs.Removal.{kept_by, goes_empty, names_another, preview, counted}
use Rattle.removal_rules.specs.Matched.{Matched}
use Rattle.removal_rules.proofs.Laws.Pixels.{empties, renames}
use Rattle.removal_rules.proofs.Laws.Counts.{adds_up, same_preview}

-- what one pixel adds
pub at_most_one : (a : Bool) {x : ℕ} → x ≡ from_bool a → x ≤ 1
at_most_one true e = omega arith
at_most_one false e = omega arith

one : (a : Bool) → from_bool a ≡ cond a 1 0
one true = refl
one false = refl

module _ (removed full short : List ℕ) where
  abbrev keep : ℕ → Bool
  keep = kept_by removed

  abbrev gone : ℕ → Bool
  gone p = goes_empty (entry_at full p) (entry_at short p)

  abbrev another : ℕ → Bool
  another p = names_another keep (entry_at full p) (entry_at short p)

  -- Before pixel p: those before it that went empty, and those that name another face.
  pub record Compared (p emptied renamed : ℕ) : Type 0 where
    pub emptied_is : emptied ≡ count gone (span 0 p)
    pub renamed_is : renamed ≡ count another (span 0 p)

  pub none_yet : Compared 0 0 0
  unfolding tabulate
  none_yet = record { emptied_is = sym (count_none gone); renamed_is = sym (count_none another) }

  most : (f : ℕ → Bool) (p : ℕ) → count f (span 0 p) ≤ p
  most f p = omega (arith, count_most f (span 0 p), length-tabulate (λ i. i) 0 p)

  pub few : {p emptied renamed : ℕ} → Compared p emptied renamed → (emptied ≤ p) × (renamed ≤ p)
  few {p} t = (omega (arith, t.emptied_is, most gone p), omega (arith, t.renamed_is, most another p))

  module _ (same : length short ≡ length full) (matched : Matched keep full short (length full)) where
    -- the pixel at hand, by what the code asks of its two entries
    pub one_more :
        {p emptied renamed x y : ℕ} {lost : Bool}
        → p < length full
        → Compared p emptied renamed
        → lost ≡ not (keep (get_or full p 0))
        → x ≡ from_bool (lost && not (not (eqb (get_or short p 0) empty)))
        → y ≡ from_bool (lost && not (eqb (get_or short p 0) empty))
        → Compared (p + 1) (emptied + x) (renamed + y)
    one_more {p} h t e f g =
        let old : get_or full p 0 ≡ entry_at full p = entry_read full p h in
        let new : get_or short p 0 ≡ entry_at short p = entry_read short p (omega (arith, same)) in
        record {
          emptied_is = ap₂ ◌+◌ t.emptied_is (f ∙ one _ ∙ rw (e, old, new, not-not (eqb (entry_at short p) empty), empties matched p h)) ∙ sym (count_next gone p);
          renamed_is = ap₂ ◌+◌ t.renamed_is (g ∙ one _ ∙ rw (e, old, new, renames matched p h)) ∙ sym (count_next another p);
        }

    -- all of them: what is left keeps its face
    module _ {p emptied renamed : ℕ} (all : length full ≤ p) (none-past : p ≤ length full) (t : Compared p emptied renamed) where
      ended : p ≡ length full
      ended = omega arith

      emptied_all : emptied ≡ (counted keep full short (length full)).emptied
      unfolding counted
      emptied_all = t.emptied_is ∙ ap (λ (n : ℕ). count gone (span 0 n)) ended

      renamed_all : renamed ≡ (counted keep full short (length full)).renamed
      unfolding counted
      renamed_all = t.renamed_is ∙ ap (λ (n : ℕ). count another (span 0 n)) ended

      pub within : emptied + renamed ≤ length full
      within = omega (arith, adds_up matched, emptied_all, renamed_all)

      pub all_compared : preview emptied renamed (length full - emptied - renamed) ≡ counted keep full short (length full)
      all_compared = sym (same_preview (sym emptied_all) (sym renamed_all) (omega (arith, adds_up matched, emptied_all, renamed_all)))
