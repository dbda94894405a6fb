-- `roots::root_pattern` meets its contract: the pattern is taken apart, and the root of its number is found. Assumes nothing.
use mathlib.Core.Path.{◌≡◌, sym, ap, ◌∙◌, subst}
use Prim.Native.Nat.{ℕ, ◌-◌, ◌*◌, ◌/◌, ◌%◌, ◌^◌, ◌<◌}
use native.Mathlib.Omega.{arith}
use lib.Pow.{pow_pos}
use lib.Ieee.{prec, emax, to_bits}
use Rattle.roots.specs.Root.{root_units}
use Rattle.roots.specs.Steps.{Rootable}
use Rattle.roots.proofs.Fields.{low_rootable, high_rootable, shifted, first, low_root, high_root, field_below}
use Rattle.roots.proofs.root_pattern.Goals as goal

-- the digits that are shifted out are none
back : (b p : ℕ) → (b / 2 ^ (p - 1) ≡ 0 → ⊥) → b < 2 ^ 64 → (b / 2 ^ (p - 1) - 1) * 2 ^ (p - 1) % 2 ^ 64 ≡ (b / 2 ^ (p - 1) - 1) * 2 ^ (p - 1)
back b p some fits = shifted _ _ (pow_pos (p - 1)) some fits

pub nearest_root-requires : goal.nearest_root-requires
nearest_root-requires c = low_rootable _ _ _ c.requires c.if-field-eq0.true

pub returns-then-field-eq0 : goal.returns-then-field-eq0
returns-then-field-eq0 c f ep el h =
    c.nearest_root.ensures f ep el (omega arith)
    ∙ ap (to_bits f) (low_root f c.args.b c.requires.some (ap (λ (p : ℕ). c.args.b / 2 ^ (p - 1)) (sym ep) ∙ c.if-field-eq0.true))

pub overflow_sub-b : goal.overflow_sub-b
overflow_sub-b c =
    omega (arith, back c.args.b c.args.f.digits c.if-field-eq0.false c.ranges.b.fits, first _ _ (pow_pos (c.args.f.digits - 1)) c.if-field-eq0.false)

pub nearest_root-requires-2 : goal.nearest_root-requires-2
nearest_root-requires-2 c =
    let b = c.args.b in
    let j = 2 ^ (c.args.f.digits - 1) in
    subst (λ (x : ℕ). Rootable (b - x) (b / j - 1) c.args.f.digits c.args.f.least) (sym (back b c.args.f.digits c.if-field-eq0.false c.ranges.b.fits)) (high_rootable _ _ _ c.requires c.if-field-eq0.false)

pub returns : goal.returns
returns c f ep el h =
    let b = c.args.b in
    let some : b / 2 ^ (prec f - 1) ≡ 0 → ⊥ = λ e. c.if-field-eq0.false (ap (λ (p : ℕ). b / 2 ^ (p - 1)) ep ∙ e) in
    c.nearest_root-2.ensures f ep el (subst (λ (p : ℕ). b / 2 ^ (p - 1) - 1 < 2 * emax f) (sym ep) (field_below f b some h))
    ∙ ap (λ (x : ℕ). to_bits f (root_units f ((b - x) * 2 ^ (b / 2 ^ (c.args.f.digits - 1) - 1)))) (back b c.args.f.digits c.if-field-eq0.false c.ranges.b.fits)
    ∙ ap (λ (p : ℕ). to_bits f (root_units f ((b - (b / 2 ^ (p - 1) - 1) * 2 ^ (p - 1)) * 2 ^ (b / 2 ^ (p - 1) - 1)))) ep
    ∙ ap (to_bits f) (high_root f b some h)
