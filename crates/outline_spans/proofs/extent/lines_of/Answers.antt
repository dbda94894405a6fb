use Rattle.outline_spans.proofs.extent.lines_of.Goals as goal

pub returns : goal.returns
returns c =
    record { first = c.first_line.ensures.least; last = c.past_line.ensures.most; before = c.first_line.ensures.missed; from = c.past_line.ensures.missed }
