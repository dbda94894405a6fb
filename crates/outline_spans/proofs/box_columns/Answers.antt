use Rattle.std.proofs.Common.{sym}
use Rattle.outlines.specs.Answer.{ends_of}
use Rattle.outline_spans.proofs.Narrowing.{nan_boxed, boxed}
use Rattle.outline_spans.proofs.box_columns.Goals as goal

pub returns-then-has_nan : goal.returns-then-has_nan
returns-then-has_nan c = nan_boxed (ends_of c.args.e) _ c.args.size.sized.w_least (sym c.if-has_nan.ensures)

pub returns : goal.returns
returns c = boxed (ends_of c.args.e) _ _ c.lines_of.ensures
