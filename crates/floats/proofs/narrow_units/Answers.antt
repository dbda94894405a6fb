-- `floats::narrow_units` meets its contract: the law on rounding by a shift is cited at the digits that are dropped.
use Rattle.std.proofs.Common.{◌≡◌, ℕ, ◌+◌, ◌-◌, sym, ap, ◌∙◌, subst, arith}
use lib.Ieee.{binary32, units}
use Rattle.roots.specs.Steps.{Packable}
use Rattle.floats.proofs.Narrow.{narrow_units, narrow_packable}
use Rattle.floats.proofs.narrow_units.Goals as goal

pub pack_f32-requires : goal.pack_f32-requires
pack_f32-requires c =
    let q = c.args.q in
    let k = c.args.k in
    let d = c.saturating_sub-dropped.result in
    let e : d ≡ k - 896 = c.saturating_sub-dropped.ensures in
    subst (λ (n : ℕ). Packable binary32 n d) (sym c.shift_nearest.ensures) (narrow_packable q k (925 + d - k) d c.requires.0 e (omega arith))

pub returns : goal.returns
returns c =
    let q = c.args.q in
    let k = c.args.k in
    let d = c.saturating_sub-dropped.result in
    let e : d ≡ k - 896 = c.saturating_sub-dropped.ensures in
    c.pack_f32.ensures
    ∙ ap (λ (n : ℕ). units binary32 c.args.minus n d) c.shift_nearest.ensures
    ∙ sym (narrow_units q k (925 + d - k) d c.requires.0 e (omega arith) c.args.minus)
