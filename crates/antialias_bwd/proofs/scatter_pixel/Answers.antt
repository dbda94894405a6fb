use mathlib.Core.Bool.{Bool, cond}
use mathlib.Core.Path.{ap, ◌∙◌}
use mathlib.Core.List.{List, [], flat_map}
use Rattle.std.specs.Float.{Float}
use Rattle.std.specs.List.{fold}
use Rattle.pixels.specs.Pixel.{Pixel}
use Rattle.outline_views.specs.Outline.{pixel_met}
use Rattle.outline_views.specs.Steps.{both_met}
use Rattle.meshes.specs.Sums.{added, summed}
use Rattle.pixels.specs.Answer.{axis_of}
use Rattle.outlines.specs.Answer.{ends_of, pixel_of}
use Rattle.outline_views.specs.Laws.{pixel_ended}
use Rattle.outline_views.specs.Answer.{seen_of}
use Rattle.antialias_bwd.specs.Answer.{brought}
use Rattle.antialias_bwd.proofs.scatter_pixel.Goals as goal

pub returns-then-not-touches : goal.returns-then-not-touches
unfolding summed flat_map
returns-then-not-touches c = rw (c.touches.ensures, c.if-not-touches.true) (λ i. c.args.sums.now)

pub returns : goal.returns
unfolding summed
returns c =
    let a = c.args in
    let s = seen_of a.o.now in
    let e = ends_of a.a.now.t.reach.e in
    let brings : List Float → Pixel → List Float = λ before q. fold added before (flat_map (brought a.values.now a.a.now) (both_met s e (pixel_of a.p) q)) in
    pixel_ended (brought a.values.now a.a.now) s e added a.sums.now (axis_of a.a.now.t.axis) (pixel_of a.p) a.a.now.t.pairs
    (c.touches.ensures ∙ ap (λ (b : Bool). cond b (pixel_met s e (pixel_of a.p)) []) c.if-not-touches.false)
    (c.scatter_pair.ensures ∙ ap (brings a.sums.now) c.before-2.ensures.pixel)
    (c.scatter_pair-2.ensures ∙ ap (brings c.scatter_pair.new.sums) c.after.ensures.pixel)
