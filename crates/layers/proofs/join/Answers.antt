-- `layers::join`: refused, nothing is written; accepted, every pixel is picked.
use Rattle.std.proofs.Common.{rules, sym}
use Rattle.layers.proofs.Laws.Answers.{join_accepted}
use Rattle.layers.proofs.Calls.{join_refused, join_done}
use Rattle.layers.proofs.join.Goals as goal

pub returns-in_err-ask_join : goal.returns-in_err-ask_join
returns-in_err-ask_join c = search (rules, join_refused)

pub invariant_of-size : goal.invariant_of-size
invariant_of-size c = record { sized = (join_accepted _ _ _ _ (sym c.in_ok-ask_join.ensures)).0 }

pub invariant_of-left : goal.invariant_of-left
invariant_of-left c = record { spans = (join_accepted _ _ _ _ (sym c.in_ok-ask_join.ensures)).1 }

pub join-requires : goal.join-requires
join-requires c = record { spans = (join_accepted _ _ _ _ (sym c.in_ok-ask_join.ensures)).2 }

pub returns : goal.returns
returns c = join_done _ _ _ _ _ c.in_ok-ask_join.ensures (search rules)
