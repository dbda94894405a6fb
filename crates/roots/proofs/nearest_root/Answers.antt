-- `roots::nearest_root` meets its contract. Assumes nothing.
use mathlib.Core.Path.{sym, ap₂, ◌∙◌, subst}
use Prim.Native.Nat.{ℕ, ◌+◌, ◌/◌, ◌<◌, ◌^◌}
use native.Mathlib.Omega.{arith}
use Rattle.roots.proofs.Algorithm.{root_small, pattern_shifted, pattern_fits, root_of_units}
use Rattle.roots.proofs.nearest_root.Goals as goal

pub overflow_add-result : goal.overflow_add-result
overflow_add-result c =
    record { fits = omega (arith, c.root_digits-r.ensures, root_small _ _ _ _ _ _ c.requires c.halve_exponent-half.ensures) }

pub overflow_add-result-2 : goal.overflow_add-result-2
overflow_add-result-2 c = record { fits = subst (λ (x : ℕ). x < 2 ^ 64) (sym (ap₂ (λ (x r : ℕ). x + (r + 1) / 2) (pattern_shifted _ _ _ _ _ _ c.requires c.halve_exponent-half.ensures) c.root_digits-r.ensures)) (pattern_fits _ _ _ _ _ _ c.requires c.halve_exponent-half.ensures) }

pub returns : goal.returns
returns c f ep el h =
    ap₂ (λ (x r : ℕ). x + (r + 1) / 2) (pattern_shifted _ _ _ _ _ _ c.requires c.halve_exponent-half.ensures) c.root_digits-r.ensures
    ∙ root_of_units _ _ _ _ _ _ c.requires c.halve_exponent-half.ensures f ep el h
