-- `floats::narrow_f64_to_f32` meets its contract: the fields of x's pattern give x's value, of which `narrow` is a rounding.
use Rattle.std.proofs.Common.{◌≡◌, ◌^◌, Bool, true, T, leb, sym, refl, ap, ◌∙◌, subst, pow_pos}
use lib.Ieee.{Float, nan, inf, binary32, binary64, units, fits, to_bits}
use Rattle.floats.specs.Narrow.{narrow}
use Rattle.roots.specs.Laws.Nan as law
use Rattle.floats.proofs.Values.{low_value, mid_value, top_value}
use Rattle.floats.proofs.Narrow.{narrow_value}
use Rattle.floats.proofs.narrow_f64_to_f32.Goals as goal

narrow_nan : nan ≡ narrow nan
unfolding narrow
narrow_nan = refl

held : (x : Float) → fits binary64 x ≡ true → T (fits binary64 x)
held x e = subst T (sym e) tt

infinite : (s : Bool) → units binary32 s (2 ^ 23) 254 ≡ narrow (inf s)
unfolding units narrow
infinite s = refl

pub returns-then-is_nan : goal.returns-then-is_nan
returns-then-is_nan c = law.quiet binary32 ∙ narrow_nan ∙ ap narrow (sym (law.is c.args.x (sym c.if-is_nan.true ∙ c.is_nan.ensures.value)))

pub returns-then-field-eq2047 : goal.returns-then-field-eq2047
returns-then-field-eq2047 c =
    let x = c.args.x in
    c.pack_f32.ensures
    ∙ infinite (leb (2 ^ 63) (to_bits binary64 x))
    ∙ ap narrow (sym (top_value x (held x c.well_formed.0.1) (law.not_nan x (sym c.if-is_nan.false ∙ c.is_nan.ensures.value)) c.if-field-eq2047.true))

pub returns-then-field-eq0 : goal.returns-then-field-eq0
returns-then-field-eq0 c =
    let x = c.args.x in
    c.narrow_units.ensures ∙ sym (narrow_value x _ _ (2 ^ 1074) (pow_pos 1074) (low_value x (held x c.well_formed.0.1) c.if-field-eq0.true))

pub returns-else-field-eq0 : goal.returns-else-field-eq0
returns-else-field-eq0 c =
    let x = c.args.x in
    c.narrow_units-else-field-eq0.ensures
    ∙ sym (narrow_value x _ _ (2 ^ 1074) (pow_pos 1074) (mid_value x (held x c.well_formed.0.1) c.if-field-eq0.false c.if-field-eq2047.false))
