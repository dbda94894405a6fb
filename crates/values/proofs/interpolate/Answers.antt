use Rattle.std.proofs.Common.{rules}
use Rattle.values.specs.Interpolate.{interpolate_code}
use Rattle.values.proofs.Values.{not_done, done}
use Rattle.values.proofs.interpolate.Goals as goal

pub returns-in_err-pass : goal.returns-in_err-pass
unfolding interpolate_code
returns-in_err-pass c = search (rules, not_done)

pub returns : goal.returns
unfolding interpolate_code
returns c = done _ _ _ _ _ _ c.in_ok-pass.ensures.code c.in_ok-pass.ensures.lent c.image_values.ensures
