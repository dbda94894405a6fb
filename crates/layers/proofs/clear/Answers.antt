-- `layers::clear`: refused, nothing is written; accepted, all is.
use Rattle.std.proofs.Common.{rules, sym}
use Rattle.layers.proofs.Laws.Answers.{clear_accepted}
use Rattle.layers.proofs.Calls.{clear_refused, clear_done}
use Rattle.layers.proofs.clear.Goals as goal

pub returns-in_err-ask_clear : goal.returns-in_err-ask_clear
returns-in_err-ask_clear c = search (rules, clear_refused)

pub invariant_of-size : goal.invariant_of-size
invariant_of-size c = record { sized = (clear_accepted _ _ _ (sym c.in_ok-ask_clear.ensures)).0 }

pub invariant_of-layer : goal.invariant_of-layer
invariant_of-layer c = record { spans = (clear_accepted _ _ _ (sym c.in_ok-ask_clear.ensures)).1 }

pub returns : goal.returns
returns c = clear_done _ _ _ _ c.in_ok-ask_clear.ensures (search rules)
