-- `roots::root_digits` meets its contract: each turn takes two digits of m and finds one of the root. Assumes nothing.
use Rattle.roots.proofs.Whole.{Turned}
use Rattle.roots.proofs.root_digits.Given as goal

abbrev pub invariant-loop-i : goal.invariant-loop-i
invariant-loop-i l = Turned l.m l.i l.left l.rest l.r
