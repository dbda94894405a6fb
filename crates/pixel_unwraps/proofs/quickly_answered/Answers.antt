use Rattle.lists.specs.Laws.Tests.{so}
use Rattle.pixel_unwraps.proofs.Pixels.{all_unwrap}
use Rattle.pixel_unwraps.proofs.quickly_answered.Goals as goal

pub returns-then-all_project : goal.returns-then-all_project
returns-then-all_project c = λ e. all_unwrap _ _ _ _ _ _ (λ x y a b. c.all_weigh_or_inner.ensures e y b x a) c.args.view.now.sound (so c.all_project.ensures c.if-all_project.true)
