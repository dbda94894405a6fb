use mathlib.Core.Path.{sym, ◌∙◌}
use Rattle.geometry.specs.Answer.{point2}
use Rattle.unwraps.proofs.Cases.{both_inside, first_inside, second_inside, none_inside}
use Rattle.unwraps.proofs.between_ok.Goals as goal

pub returns-in-true-true : goal.returns-in-true-true
returns-in-true-true c =
    let k = c.in-true-true in
    c.crossing_ok.ensures ∙ both_inside c.new-t0.ensures c.new-t1.ensures c.args.axis.down (point2 c.args.first.centre) (point2 c.args.second.centre) (sym k.ensures) (sym k.ensures')

pub returns-in-true-false : goal.returns-in-true-false
returns-in-true-false c =
    let k = c.in-true-false in
    c.has_world.ensures ∙ first_inside c.new-t0.ensures c.new-t1.ensures c.args.axis.down (point2 c.args.first.centre) (point2 c.args.second.centre) (sym k.ensures) (sym k.ensures')

pub returns-in-false-true : goal.returns-in-false-true
returns-in-false-true c =
    let k = c.in-false-true in
    c.has_world-in-false-true.ensures ∙ second_inside c.new-t0.ensures c.new-t1.ensures c.args.axis.down (point2 c.args.first.centre) (point2 c.args.second.centre) (sym k.ensures) (sym k.ensures')

pub returns-in-false-false : goal.returns-in-false-false
returns-in-false-false c =
    let k = c.in-false-false in
    none_inside c.new-t0.ensures c.new-t1.ensures c.args.axis.down (point2 c.args.first.centre) (point2 c.args.second.centre) (sym k.ensures) (sym k.ensures')
