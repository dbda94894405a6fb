use Rattle.std.proofs.Common.{ap, sym, ◌∙◌, Bool, [], cond}
use Rattle.outlines.specs.Answer.{ends_of, pixel_of}
use Rattle.outline_views.specs.Outline.{pixel_met}
use Rattle.outline_views.specs.Laws.{covered_off_border, covered_nothing}
use Rattle.outline_views.specs.Answer.{seen_of}
use Rattle.outline_views.proofs.Outline.touches.Goals as goal

pub returns-then-parted : goal.returns-then-parted
returns-then-parted c =
    let a = c.args in
    covered_off_border (seen_of a.self.now) (ends_of a.t.now.reach.e) (pixel_of a.p) c.requires
    ∙ ap (λ (b : Bool). cond b (pixel_met (seen_of a.self.now) (ends_of a.t.now.reach.e) (pixel_of a.p)) []) (sym c.covers.ensures)

pub returns-else-parted : goal.returns-else-parted
returns-else-parted c =
    let a = c.args in
    rw c.if-parted.false
    (covered_nothing (seen_of a.self.now) (ends_of a.t.now.reach.e) (pixel_of a.p) (c.parted.ensures c.if-parted.false (ends_of a.t.now.reach.e) (sym a.t.now.pairs)))
