-- `floats::shift_nearest` meets its contract: nothing wraps, and each return is the case of `closest` that the remainder says.
use Rattle.std.proofs.Common.{◌*◌, ◌^◌, ◌≤◌, sym, ◌∙◌, le_trans, add-one, arith, pow_pos, pow_mono}
use lib.Pow.{shr_le}
use Rattle.floats.proofs.Closest.{closest_none, closest_down, closest_up, closest_tie, back_le, shifted}
use Rattle.floats.proofs.shift_nearest.Goals as goal

pub returns-then-by-gt62 : goal.returns-then-by-gt62
returns-then-by-gt62 c = let q = c.args.q in
    let by = c.args.by in
    let half : q * 2 ≤ 2 ^ 63 = omega arith in
    let far : 63 ≤ by = omega arith in
    sym (closest_none q (2 ^ by) (pow_pos by) (le_trans half (pow_mono far)))

pub overflow_sub-rest : goal.overflow_sub-rest
overflow_sub-rest c = back_le c.args.q c.args.by c.requires (omega arith)

pub returns-then-rest-unit : goal.returns-then-rest-unit
returns-then-rest-unit c = let q = c.args.q in
    let by = c.args.by in
    sym (closest_down q (2 ^ by) (omega (arith, shifted q by c.requires (omega arith))))

pub overflow_add-result : goal.overflow_add-result
overflow_add-result c = omega (arith, shr_le c.args.q c.args.by)

pub returns-then-unit-rest : goal.returns-then-unit-rest
returns-then-unit-rest c = let q = c.args.q in
    let by = c.args.by in
    add-one _ ∙ sym (closest_up q (2 ^ by) (omega (arith, shifted q by c.requires (omega arith))))

pub overflow_add-result-2 : goal.overflow_add-result-2
overflow_add-result-2 c = omega (arith, shr_le c.args.q c.args.by)

pub returns : goal.returns
returns c = let q = c.args.q in
    let by = c.args.by in
    sym (closest_tie q (2 ^ by) (omega (arith, shifted q by c.requires (omega arith))))
