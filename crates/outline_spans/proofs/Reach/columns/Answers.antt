use Rattle.outline_spans.proofs.Reach.columns.Goals as goal

pub returns-in_default : goal.returns-in_default
returns-in_default c = let b = c.args.self.now.boxed in record { first = b.first; last = b.last; before = b.before _; from = b.from _ }

pub returns : goal.returns
returns c =
    record { first = c.first_column.ensures.least; last = c.past_column.ensures.most; before = c.first_column.ensures.missed; from = c.past_column.ensures.missed }
