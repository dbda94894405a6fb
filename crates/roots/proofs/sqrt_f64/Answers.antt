-- `roots::sqrt_f64` meets its contract: a law over the format for each way out. Assumes nothing.
use mathlib.Core.Path.{refl, sym, ap, ◌∙◌, subst}
use native.Mathlib.Omega.{arith}
use lib.Dec.{T}
use lib.Ieee.{binary64, fits}
use Rattle.roots.specs.Root.{root}
use Rattle.roots.specs.Laws.Nan as law
use Rattle.roots.proofs.Fields.{root_nan, root-zero, root-minus, root_infinite}
use Rattle.roots.proofs.Standard.{answer, square_root}
use Rattle.roots.proofs.sqrt_f64.Goals.{then-b-eq0-via-then-b-eq0, then-b-eq0-via-else-b-eq0+then-b-eq9218868437227405312}
use Rattle.roots.proofs.sqrt_f64.Goals as goal

pub returns-then-is_nan : goal.returns-then-is_nan
returns-then-is_nan c =
    let held : T (fits binary64 c.args.x) = subst T (sym c.well_formed.0.1) tt in
    square_root binary64 c.args.x _ held (law.quiet binary64 ∙ sym (ap (root binary64) (law.is c.args.x (sym c.if-is_nan.true ∙ c.is_nan.ensures.value)) ∙ root_nan binary64))

pub returns-then-b-eq0 : goal.returns-then-b-eq0
returns-then-b-eq0 c =
    let held : T (fits binary64 c.args.x) = subst T (sym c.well_formed.0.1) tt in
    square_root binary64 c.args.x _ held
    (elim c.then-b-eq0.branch [ then-b-eq0-via-then-b-eq0 w ↦ root-zero binary64 _ held w.if-b-eq0.true | then-b-eq0-via-else-b-eq0+then-b-eq9218868437227405312 w ↦ root_infinite binary64 _ held w.if-b-eq9218868437227405312.true ])

pub returns-then-b-gt9218868437227405312 : goal.returns-then-b-gt9218868437227405312
returns-then-b-gt9218868437227405312 c =
    let held : T (fits binary64 c.args.x) = subst T (sym c.well_formed.0.1) tt in
    square_root binary64 c.args.x _ held (law.quiet binary64 ∙ root-minus binary64 _ held (law.not_nan c.args.x (sym c.if-is_nan.false ∙ c.is_nan.ensures.value)) c.if-b-eq0.false c.if-b-gt9218868437227405312.true)

pub float_from_bits-result : goal.float_from_bits-result
float_from_bits-result c =
    let held : T (fits binary64 c.args.x) = subst T (sym c.well_formed.0.1) tt in
    (answer binary64 _ held (omega arith) (omega arith) _ (c.root_pattern.ensures binary64 refl refl (omega arith))).number

pub returns : goal.returns
returns c =
    let held : T (fits binary64 c.args.x) = subst T (sym c.well_formed.0.1) tt in
    square_root binary64 c.args.x _ held (answer binary64 _ held (omega arith) (omega arith) _ (c.root_pattern.ensures binary64 refl refl (omega arith))).is
