-- `kept_faces::draw_kept_faces`: one run of kept faces less is left at each turn.
use Rattle.std.specs.Prelude.{ℕ, List, ◌≡◌, ◌<◌, ◌+◌, ◌/◌, drop, length}
use Rattle.std.proofs.Common.{arith}
use Rattle.cells.proofs.Laws.Kept.{same_none, same_then}
use Rattle.meshes.specs.Laws.{length_part, sound_part}
use Rattle.removal_rules.specs.Removal.{kept_by}
use Rattle.kept_faces.specs.Run.{kept_run}
use Rattle.kept_faces.proofs.Runs.{Run, run_found, left_all, left_less, left_none}
use Rattle.kept_faces.proofs.draw_kept_faces.Goals as goal

-- the run that `run_end` found, of as many marks as there are faces
found_run : (removed tri : List ℕ) (i : ℕ) {end : ℕ} → length removed ≡ length tri / 3 → i < length removed → end ≡ i + kept_run (drop i removed) → Run (kept_by removed) (length tri / 3) i end
found_run removed tri i same h e = rw (← same) (run_found removed i (omega arith) e)

pub loop-i-init : goal.loop-i-init
loop-i-init c = (same_none _, left_all _ _ _ _ c.args.layer.now.spans)

pub overflow_mul-run-in-loop-i : goal.overflow_mul-run-in-loop-i
overflow_mul-run-in-loop-i c = let r = found_run c.args.removed.now c.args.mesh.now.tri2vtx.now c.loop-i.i c.requires.marks c.loop-i-test.true c.run_end-end.ensures in record { fits = omega (arith, r.within, c.requires.count) }

pub slice_bounds-run-end : goal.slice_bounds-run-end
slice_bounds-run-end c = let r = found_run c.args.removed.now c.args.mesh.now.tri2vtx.now c.loop-i.i c.requires.marks c.loop-i-test.true c.run_end-end.ensures in omega (arith, r.within)

pub invariant_of-run : goal.invariant_of-run
invariant_of-run c = let r = found_run c.args.removed.now c.args.mesh.now.tri2vtx.now c.loop-i.i c.requires.marks c.loop-i-test.true c.run_end-end.ensures in record { sound = sound_part c.loop-i.i c.run_end-end.result c.args.mesh.now.sound r.within }

pub draw_faces-requires : goal.draw_faces-requires
draw_faces-requires c = let r = found_run c.args.removed.now c.args.mesh.now.tri2vtx.now c.loop-i.i c.requires.marks c.loop-i-test.true c.run_end-end.ensures in record { numbers = omega (arith, c.loop-i.invariant.1.number, length_part c.loop-i.i c.run_end-end.result c.args.mesh.now.tri2vtx.now r.within, r.within, r.forward, c.requires.count) }

pub loop-i-preserved : goal.loop-i-preserved
loop-i-preserved c = let s = c.loop-i.invariant.0 in (
  same_then s c.draw_faces.ensures.same,
  left_less _ _ c.args.mesh.now.tri2vtx.now _ _ _ c.loop-i.i c.run_end-end.result c.loop-i.number c.args.mesh.now.sound.faces (found_run c.args.removed.now c.args.mesh.now.tri2vtx.now c.loop-i.i c.requires.marks c.loop-i-test.true c.run_end-end.ensures) c.loop-i.invariant.1 (rw (← s.width, ← s.height) at c.draw_faces.ensures.drawn),
)

pub returns-clause-drawn : goal.returns-clause-drawn
returns-clause-drawn c = left_none _ _ c.args.mesh.now.tri2vtx.now _ _ c.loop-i.i c.loop-i.number (omega (arith, c.requires.marks, c.loop-i-test.false)) c.loop-i.invariant.1
