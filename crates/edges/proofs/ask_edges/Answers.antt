use Rattle.std.proofs.Common.{rules, sym, ◌∙◌, ◌≡◌, ◌/◌, true, arith, length}
use Rattle.std.proofs.lemmas.Grind.{common_steps}
use Rattle.questions.specs.Questions.{first_no, naming}
use Rattle.questions.specs.Laws.{passes}
use Rattle.questions.proofs.Laws.Opening.{past_opening, first_refused}
use Rattle.questions.proofs.Laws.Refusals.{never_accepted}
use Rattle.questions.proofs.Laws.Refusals.{yes}
use Rattle.pairs.specs.Gradient.{pixel_values}
use Rattle.questions.specs.Answer.{code_of}
use Rattle.edge_types.specs.Axis.{axis_buffers}
use Rattle.edges.specs.Calls.{edge_buffers, exact_all, edge_code}
use Rattle.edges.proofs.ask_edges.Goals as goal

pub returns-in_err-ask_naming-clause-code : goal.returns-in_err-ask_naming-clause-code
unfolding edge_code
returns-in_err-ask_naming-clause-code c =
    let a = c.args in
    let all : c.if-axis_ok.ask ≡ true = yes _ _ c.in_ok-ask.ensures in
    let four : exact_all a.img_w a.img_h a.pix2tri.now (pixel_values a.pix2val.now a.dldw_pix2val.now a.num_vdim)
    (edge_buffers (axis_buffers a.hedge2type.now a.hedge2dldr.now) (axis_buffers a.vedge2type.now a.vedge2dldr.now)) ≡ true = grind (arith, common_steps) in
    let no : code_of c.from_residual-in_err-ask_naming.result ≡ first_no (naming (length a.vtx2xyz.now / 3) a.tri2vtx.now a.pix2tri.now) = search rules in
    past_opening _ _ _ _ _ _ (sym c.in_ok-ask_opening.ensures) (passes 4 _ four (no ∙ first_refused _ _ (λ z. grind (arith, common_steps, never_accepted))))
