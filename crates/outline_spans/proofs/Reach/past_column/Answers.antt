use Rattle.outline_spans.proofs.Reach.past_column.Goals as goal

pub returns-clause-missed : goal.returns-clause-missed
returns-clause-missed c = c.args.self.now.boxed.from _
