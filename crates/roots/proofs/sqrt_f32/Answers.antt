-- `roots::sqrt_f32` meets its contract: a law over the format for each way out. Assumes nothing.
use mathlib.Core.Path.{refl, sym, ap, ◌∙◌, subst}
use native.Mathlib.Omega.{arith}
use lib.Dec.{T}
use lib.Ieee.{binary32, fits}
use Rattle.roots.specs.Root.{root}
use Rattle.roots.specs.Laws.Nan as law
use Rattle.roots.proofs.Fields.{root_nan, root-zero, root-minus, root_infinite}
use Rattle.roots.proofs.Standard.{answer, square_root}
use Rattle.roots.proofs.sqrt_f32.Goals.{then-b-eq0-via-then-b-eq0, then-b-eq0-via-else-b-eq0+then-b-eq2139095040}
use Rattle.roots.proofs.sqrt_f32.Goals as goal

pub returns-then-is_nan : goal.returns-then-is_nan
returns-then-is_nan c =
    let held : T (fits binary32 c.args.x) = subst T (sym c.well_formed.0.1) tt in
    square_root binary32 c.args.x _ held (law.quiet binary32 ∙ sym (ap (root binary32) (law.is c.args.x (sym c.if-is_nan.true ∙ c.is_nan.ensures.value)) ∙ root_nan binary32))

pub returns-then-b-eq0 : goal.returns-then-b-eq0
returns-then-b-eq0 c =
    let held : T (fits binary32 c.args.x) = subst T (sym c.well_formed.0.1) tt in
    square_root binary32 c.args.x _ held
    (elim c.then-b-eq0.branch [ then-b-eq0-via-then-b-eq0 w ↦ root-zero binary32 _ held w.if-b-eq0.true | then-b-eq0-via-else-b-eq0+then-b-eq2139095040 w ↦ root_infinite binary32 _ held w.if-b-eq2139095040.true ])

pub returns-then-b-gt2139095040 : goal.returns-then-b-gt2139095040
returns-then-b-gt2139095040 c =
    let held : T (fits binary32 c.args.x) = subst T (sym c.well_formed.0.1) tt in
    square_root binary32 c.args.x _ held (law.quiet binary32 ∙ root-minus binary32 _ held (law.not_nan c.args.x (sym c.if-is_nan.false ∙ c.is_nan.ensures.value)) c.if-b-eq0.false c.if-b-gt2139095040.true)

pub overflow_cast-result : goal.overflow_cast-result
overflow_cast-result c =
    let held : T (fits binary32 c.args.x) = subst T (sym c.well_formed.0.1) tt in
    record { fits = (answer binary32 _ held (omega arith) (omega arith) _ (c.root_pattern.ensures binary32 refl refl (omega arith))).below }

pub float_from_bits-result : goal.float_from_bits-result
float_from_bits-result c =
    let held : T (fits binary32 c.args.x) = subst T (sym c.well_formed.0.1) tt in
    (answer binary32 _ held (omega arith) (omega arith) _ (c.root_pattern.ensures binary32 refl refl (omega arith))).number

pub returns : goal.returns
returns c =
    let held : T (fits binary32 c.args.x) = subst T (sym c.well_formed.0.1) tt in
    square_root binary32 c.args.x _ held (answer binary32 _ held (omega arith) (omega arith) _ (c.root_pattern.ensures binary32 refl refl (omega arith))).is
