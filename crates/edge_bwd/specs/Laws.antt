-- What an accepted call knows.
use Rattle.std.specs.Prelude.{ℕ, ◌/◌, ◌≡◌, List, Float, length}
use Rattle.std.proofs.Common.{sym}
use Rattle.lists.specs.Laws.Tests.{both}
use Rattle.questions.specs.Laws.{accepted, exactly}
use Rattle.questions.proofs.Laws.Opening.{opened, named_well}
use Rattle.meshes.specs.Laws.{sound}
use Rattle.pixels.specs.Edge.{hedge}
use Rattle.pairs.specs.Pairs.{EdgeView, all_answered, both_answered}
use Rattle.pairs.specs.Gradient.{PixelValues, exact_pixels}
use Rattle.pairs.specs.Laws.{pixels_exact}
use Rattle.edge_bwd.specs.Calls.{exact_bwd, bwd_code}
use Rattle.edge_bwd.specs.Steps.{Ready}

pub bwd_accepted : (tri map : List ℕ) (h : ℕ) (s : EdgeView) (v : PixelValues) (dxyz : List Float) → 0 ≡ bwd_code tri map h s v dxyz → Ready tri map h s v dxyz
unfolding bwd_code
bwd_accepted tri map h s v dxyz e =
    let w = s.width in
    let o = opened w h v.channels (length tri) (length s.vertices) _ (sym e) in
    let four = accepted 3 (exact_bwd w h map v s.vertices dxyz) _ o.1 in
    let lengths = both (exact_pixels w h map v) _ four.0 in
    let pixels = pixels_exact w h map v o.0.few lengths.0 in
    let names = named_well (length s.vertices / 3) tri map _ four.1 in
    let eight = accepted 7 (both_answered h s) _ names.2 in
    let axes = both (all_answered hedge h s) _ eight.0 in
    record {
      image = sound o.0.size o.0.faces o.0.vertices pixels.0 names.0 names.1;
      values = pixels.1;
      sums = exactly _ _ lengths.1;
      hedges = axes.0;
      vedges = axes.1;
    }
