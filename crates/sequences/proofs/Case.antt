-- 01, "Demand 3's words", of the pictures: a mesh thinned and cut, a sequence of calls that keeps to the plan, and what it leaves.
use Rattle.std.specs.Prelude.{ℕ, ◌<◌, ◌≡◌, refl, List}
use Rattle.std.proofs.Common.{ap, sym, ◌∙◌}
use Rattle.questions.specs.Questions.{empty}
use Rattle.offers.specs.Offers.{Shows}
use Rattle.offers.specs.Thinning.{renumber}
use Rattle.offers.proofs.Laws.Greatest.{first-of-greatest}
use Rattle.cells.specs.Cell.{no_hit}
use Rattle.cells.specs.Layer.{Layer, at}
use Rattle.cells.specs.Steps.{Spans}
use Rattle.meshes.specs.Mesh.{Face}
use Rattle.rules.specs.Offers.{brought, offers}
use Rattle.rules.specs.Calls.{draws}
use Rattle.sequences.specs.Plan.{Accepted}
use Rattle.sequences.specs.Whole.{pixel_count, cleared, fresh}
use Rattle.sequences.proofs.Whole.{fresh_at, fresh-spans, remains}
use Rattle.sequences.specs.Mesh.{Answered}
use Rattle.sequences.proofs.Mesh.{answered, few_of, fit}
use Rattle.sequences.specs.Redrawn.{renumbered}
use Rattle.sequences.proofs.Thinned.{thinned}
use Rattle.sequences.specs.Case.{Cut, Case, faces, kept_faces, full, final, Pictures}

module _ (m : Cut) where
  pub mesh_answered : Answered m.sc m.tri2vtx
  mesh_answered = answered (cleared (pixel_count m.sc)) m.sc m.tri2vtx 0 m.accepted

  pub full_is : full m ≡ fresh m.sc (faces m) 0
  unfolding draws fresh
  full_is = rw (m.accepted, m.named)

  shows-of : (fs : List Face) (l : Layer) → l ≡ fresh m.sc fs 0 → (p : ℕ) → p < pixel_count m.sc → Shows no_hit (offers m.sc fs 0 p) (at l p)
  unfolding offers
  shows-of fs l e p h = rw (e, fresh_at m.sc fs 0 p h) (first-of-greatest no_hit (brought m.sc fs 0 p))

  spans-of : (fs : List Face) (l : Layer) → l ≡ fresh m.sc fs 0 → Spans l (pixel_count m.sc)
  spans-of fs l e = rw e (fresh-spans m.sc fs 0)

module _ (c : Case) where
  final_is : Accepted c.mesh.sc c.mesh.rs c.plan.keeps × (final c ≡ fresh c.mesh.sc (kept_faces c.mesh) 0)
  final_is =
      let m = c.mesh in
      let done = remains m.sc m.rs (fit m.keep m.rs (mesh_answered m) m.cut) c.plan.keeps c.plan.last (λ j. refl) c.plan.remaining in
      (done.0, done.1 ∙ ap (λ (fs : List Face). fresh m.sc fs 0) m.cut)

  pub final-renumbered : final c ≡ renumbered (renumber empty c.mesh.keep) (full c.mesh)
  final-renumbered =
      let m = c.mesh in
      final_is.1
      ∙ thinned m.sc (faces m) m.keep (few_of m.tri2vtx (mesh_answered m).faces) m.idle
      ∙ ap (renumbered (renumber empty m.keep)) (sym (full_is m))

  pub pictures : Pictures c
  pictures =
      let m = c.mesh in
      record {
        answered = final_is.0;
        full_spans = spans-of m (faces m) (full m) (full_is m);
        final_spans = spans-of m (kept_faces m) (final c) final_is.1;
        depths = ap (λ (l : Layer). l.pix2depth) final-renumbered;
        weights = ap (λ (l : Layer). l.pix2weights) final-renumbered;
        maps = ap (λ (l : Layer). l.pix2tri) final-renumbered;
        full_shows = shows-of m (faces m) (full m) (full_is m);
        final_shows = shows-of m (kept_faces m) (final c) final_is.1;
      }
