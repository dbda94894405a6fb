-- `boxes::box_of`: its columns and its rows.
use Rattle.geometry.specs.Answer.{corners_of}
use Rattle.boxes.proofs.Scans.{spans_scanned}
use Rattle.boxes.proofs.box_of.Goals as goal

pub returns : goal.returns
returns c = let a = c.args in
    spans_scanned (corners_of a.s) a.w a.h _ c.requires.finite (rw c.columns.ensures.n at c.in_ok-columns.ensures) (rw c.rows.ensures.n at c.in_ok-rows.ensures)
