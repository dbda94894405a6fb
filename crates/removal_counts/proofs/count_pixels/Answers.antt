-- `removal_counts::count_pixels`: one pixel more is compared at each turn.
use Rattle.std.proofs.Common.{arith}
use Rattle.removal_counts.proofs.Counting.{at_most_one, none_yet, few, one_more, within, all_compared}
use Rattle.removal_counts.proofs.count_pixels.Goals as goal

pub loop-p-init : goal.loop-p-init
loop-p-init c = none_yet _ _ _

pub overflow_add-emptied : goal.overflow_add-emptied
overflow_add-emptied c = record { fits = omega (arith, c.loop-p-test.true, (few _ _ _ c.loop-p.invariant).0, at_most_one _ c.from-emptied.ensures) }

pub overflow_add-renamed : goal.overflow_add-renamed
overflow_add-renamed c = record { fits = omega (arith, c.loop-p-test.true, (few _ _ _ c.loop-p.invariant).1, at_most_one _ c.from-renamed.ensures) }

pub loop-p-preserved : goal.loop-p-preserved
loop-p-preserved c =
    one_more _ _ _ c.requires.same_length c.requires.matched c.loop-p-test.true c.loop-p.invariant c.is_removed-lost.ensures c.from-emptied.ensures c.from-renamed.ensures

pub overflow_sub-result : goal.overflow_sub-result
overflow_sub-result c = omega (arith, within _ _ _ c.requires.same_length c.requires.matched c.loop-p-test.false c.loop-p.auto.p-end c.loop-p.invariant)

pub overflow_sub-result-2 : goal.overflow_sub-result-2
overflow_sub-result-2 c = omega (arith, within _ _ _ c.requires.same_length c.requires.matched c.loop-p-test.false c.loop-p.auto.p-end c.loop-p.invariant)

pub returns : goal.returns
returns c = all_compared _ _ _ c.requires.same_length c.requires.matched c.loop-p-test.false c.loop-p.auto.p-end c.loop-p.invariant
