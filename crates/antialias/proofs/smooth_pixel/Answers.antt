use mathlib.Core.Bool.{Bool, cond}
use mathlib.Core.Path.{ap, ◌∙◌}
use mathlib.Core.List.{List, [], flat_map}
use Rattle.std.specs.Float.{Float}
use Rattle.std.specs.List.{fold}
use Rattle.pixels.specs.Pixel.{Pixel}
use Rattle.outline_views.specs.Outline.{pixel_met}
use Rattle.outline_views.specs.Steps.{both_met}
use Rattle.pixels.specs.Answer.{axis_of}
use Rattle.outlines.specs.Answer.{ends_of, pixel_of}
use Rattle.outline_views.specs.Laws.{pixel_ended}
use Rattle.outline_views.specs.Answer.{seen_of}
use Rattle.antialias.specs.Smoothing.{wrote, written, writes}
use Rattle.antialias.proofs.smooth_pixel.Goals as goal

pub returns-then-not-touches : goal.returns-then-not-touches
unfolding written flat_map
returns-then-not-touches c = rw (c.touches.ensures, c.if-not-touches.true) (λ i. c.args.vout.now)

pub returns : goal.returns
unfolding written
returns c =
    let a = c.args in
    let s = seen_of a.o.now in
    let e = ends_of a.t.now.reach.e in
    let brings : List Float → Pixel → List Float = λ before q. fold wrote before (flat_map (writes a.vin.now) (both_met s e (pixel_of a.p) q)) in
    pixel_ended (writes a.vin.now) s e wrote a.vout.now (axis_of a.t.now.axis) (pixel_of a.p) a.t.now.pairs
    (c.touches.ensures ∙ ap (λ (b : Bool). cond b (pixel_met s e (pixel_of a.p)) []) c.if-not-touches.false)
    (c.smooth_pair.ensures ∙ ap (brings a.vout.now) c.before-2.ensures.pixel)
    (c.smooth_pair-2.ensures ∙ ap (brings c.smooth_pair.new.vout) c.after.ensures.pixel)
