use Rattle.std.proofs.Common.{rules}
use Rattle.values_bwd.proofs.Bwd.{not_done, done, sums_whole}
use Rattle.values_bwd.proofs.interpolate_bwd.Goals as goal

pub returns-in_err-pass : goal.returns-in_err-pass
returns-in_err-pass c = search (rules, not_done)

pub invariant_of-sums : goal.invariant_of-sums
invariant_of-sums c =
    let lent = c.in_ok-pass.ensures.lent in
    let whole = sums_whole _ lent _ _ c.sums_ok-exact.ensures c.in_ok-pass.ensures.exact in
    record { xyz = whole.0; val = whole.1 }

pub returns : goal.returns
returns c = done _ _ _ _ _ _ c.sums_ok-exact.ensures c.in_ok-pass.pass _ c.in_ok-pass.ensures.code c.in_ok-pass.ensures.lent (search rules)
