-- `drawing::pix2tri_by_rasterization`: refused, nothing is drawn; accepted, all faces are.
use Rattle.std.proofs.Common.{rules, sym}
use Rattle.drawing.proofs.Accepted.{draw_accepted, draw_refused, draw_done}
use Rattle.drawing.proofs.pix2tri_by_rasterization.Goals as goal

pub returns-in_err-ask_draw : goal.returns-in_err-ask_draw
returns-in_err-ask_draw c = search (rules, draw_refused)

pub invariant_of-size : goal.invariant_of-size
invariant_of-size c = record { sized = (draw_accepted _ _ _ _ _ _ (sym c.in_ok-ask_draw.ensures)).0 }

pub invariant_of-layer : goal.invariant_of-layer
invariant_of-layer c = record { spans = (draw_accepted _ _ _ _ _ _ (sym c.in_ok-ask_draw.ensures)).1.0 }

pub invariant_of-mesh : goal.invariant_of-mesh
invariant_of-mesh c = record { sound = (draw_accepted _ _ _ _ _ _ (sym c.in_ok-ask_draw.ensures)).1.1.0 }

pub draw_faces-requires : goal.draw_faces-requires
draw_faces-requires c = record { numbers = (draw_accepted _ _ _ _ _ _ (sym c.in_ok-ask_draw.ensures)).1.1.1 }

pub returns : goal.returns
returns c = draw_done _ _ _ _ _ _ _ _ {named = c.from-facing.result} _ c.in_ok-ask_draw.ensures c.from-facing.ensures (search rules)
