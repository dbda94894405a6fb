-- 01, "Demand 3's words", of the pictures: a mesh thinned and cut, a sequence of calls that keeps to the plan, and what it leaves.
use Rattle.std.specs.Prelude.{ℕ, ◌<◌, ◌≡◌, Bool, List, map, length}
use Rattle.questions.specs.Questions.{empty}
use Rattle.offers.specs.Offers.{Shows}
use Rattle.offers.specs.Thinning.{kept_from, renumber}
use Rattle.cells.specs.Cell.{no_hit}
use Rattle.cells.specs.Layer.{Layer, at}
use Rattle.cells.specs.Steps.{Spans}
use Rattle.meshes.specs.Mesh.{Face, faces_of}
use Rattle.rules.specs.Offers.{Scene, offers}
use Rattle.rules.specs.Calls.{draw_code, facing_of, draws}
use Rattle.sequences.specs.Calls.{Store, layer_of, Call, after_all}
use Rattle.sequences.specs.Plan.{joined, Stands, nothing, runs, Keeps, Accepted}
use Rattle.sequences.specs.Whole.{pixel_count, cleared}
use Rattle.sequences.specs.Thinned.{Idle}

pub record Cut : Type 0 where
  -- a mesh that the draw call accepts from number 0
  pub tri2vtx : List ℕ
  pub sc : Scene
  pub accepted : draw_code (cleared (pixel_count sc)) tri2vtx sc.vertices sc.width sc.height 0 ≡ 0
  -- 02, Point 8: the number by which the whole drawing names the scene's facing
  pub facing : ℕ
  pub named : facing_of facing ≡ sc.facing
  -- "of the faces that hold no pixel, none, some or all are taken out"
  pub keep : ℕ → Bool
  pub idle : Idle sc (faces_of tri2vtx) keep
  -- the rest, cut into runs; "A run may be empty"
  pub rs : List (List Face)
  pub cut : joined rs ≡ kept_from keep 0 (faces_of tri2vtx)

-- calls that keep to the plan, on layers that hold anything at first, until one layer remains
pub record Planned (m : Cut) (start : Store) (calls : List Call) : Type 0 where
  pub stands : ℕ → Stands
  pub keeps : Keeps m.sc m.rs (λ i. nothing) start calls stands
  pub last : ℕ
  pub remaining : stands last ≡ runs 0 (length m.rs)

pub record Case : Type 0 where
  pub mesh : Cut
  pub start : Store
  pub calls : List Call
  pub plan : Planned mesh start calls

abbrev pub faces : Cut → List Face
faces m = faces_of m.tri2vtx

abbrev pub kept_faces : Cut → List Face
kept_faces m = kept_from m.keep 0 (faces m)

-- the full drawing
abbrev pub full : Cut → Layer
full m = (draws (cleared (pixel_count m.sc)) m.tri2vtx m.sc.vertices m.sc.width m.sc.height m.sc.matrix 0 m.facing).left

-- the layer that remains
abbrev pub final : Case → Layer
final c = layer_of (after_all c.start c.calls) c.plan.last

pub record Pictures (c : Case) : Type 0 where
  -- every call of the plan is accepted
  pub answered : Accepted c.mesh.sc c.mesh.rs c.plan.keeps
  -- both layers have the image's lengths
  pub full_spans : Spans (full c.mesh) (pixel_count c.mesh.sc)
  pub final_spans : Spans (final c) (pixel_count c.mesh.sc)
  -- the last layer has the full drawing's depth and weight bits and, renumbered, its map
  pub depths : (final c).pix2depth ≡ (full c.mesh).pix2depth
  pub weights : (final c).pix2weights ≡ (full c.mesh).pix2weights
  pub maps : (final c).pix2tri ≡ map (renumber empty c.mesh.keep) (full c.mesh).pix2tri
  -- each covered pixel has number, depth and weights of the first offer of greatest depth; every other pixel is clear, weights too
  pub full_shows : (p : ℕ) → p < pixel_count c.mesh.sc → Shows no_hit (offers c.mesh.sc (faces c.mesh) 0 p) (at (full c.mesh) p)
  pub final_shows : (p : ℕ) → p < pixel_count c.mesh.sc → Shows no_hit (offers c.mesh.sc (kept_faces c.mesh) 0 p) (at (final c) p)
