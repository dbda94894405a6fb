-- What the code's answer stands for.
use Rattle.std.specs.Prelude.{Result, Ok, Err}
use Rattle.questions.specs.declared.Refusal.{Refusal}
use Rattle.questions.specs.Answer.{number_of}
use Rattle.questions.specs.Questions.{Outcome, outcome}
use Rattle.rules.specs.Load as rule
use Rattle.load.specs.declared.Load.{Load}
use Rattle.load.specs.declared.DrawingLoad.{DrawingLoad}

abbrev pub load_of : Load → rule.Load
load_of l = rule.load l.pieces l.pixels

abbrev pub answered : Result Load Refusal → Outcome rule.Load
answered (Ok l) = outcome 0 (load_of l)
answered (Err r) = outcome (number_of r) (rule.load 0 0)

-- as C takes it
abbrev pub answered_in_c : DrawingLoad → Outcome rule.Load
answered_in_c r = outcome r.code (rule.load r.pieces r.pixels)
