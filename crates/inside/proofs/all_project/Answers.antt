use Rattle.std.proofs.Common.{sym}
use Rattle.lists.specs.Laws.Every.{every-not}
use Rattle.inside.specs.Steps.{all_project}
use Rattle.inside.proofs.all_project.Goals as goal

pub returns-then-not-vertex_projects : goal.returns-then-not-vertex_projects
unfolding all_project
returns-then-not-vertex_projects c = sym (every-not _ _ c.loop-v.v c.loop-v-test.true (cc))
