-- Laws of the call's questions.
use Rattle.std.specs.Prelude.{ℕ, ◌/◌, ◌≡◌, true, List, length}
use Rattle.std.proofs.Common.{sym}
use Rattle.lists.specs.Laws.Tests.{both}
use Rattle.questions.specs.Questions.{exact}
use Rattle.questions.specs.Laws.{exactly, accepted}
use Rattle.questions.proofs.Laws.Opening.{opened, named_well}
use Rattle.meshes.specs.Laws.{sound}
use Rattle.pixels.specs.Edge.{Axis, hedge, edge_count}
use Rattle.pairs.specs.Pairs.{EdgeView}
use Rattle.pairs.specs.Gradient.{PixelValues, exact_pixels}
use Rattle.pairs.specs.Laws.{pixels_exact}
use Rattle.edge_types.specs.Axis.{AxisBuffers, SoundAxis}
use Rattle.edges.specs.Calls.{EdgeBuffers, exact_axis, exact_all, edge_code}
use Rattle.edges.specs.Steps.{Ready}

axis-exact : (a : Axis) (w h : ℕ) (b : AxisBuffers) → exact_axis a w h b ≡ true → SoundAxis a w h b
axis-exact a w h b e =
    let p = both (exact (edge_count a w h) (length b.types)) _ e in record { types = exactly _ _ p.0; dldrs = exactly _ _ p.1 }

pub edge_accepted : (tri map : List ℕ) (h : ℕ) (s : EdgeView) (v : PixelValues) (b : EdgeBuffers) → 0 ≡ edge_code tri map h s v b
    → Ready tri map s.vertices s.width h v b
unfolding edge_code
edge_accepted tri map h s v b e =
    let w = s.width in
    let o = opened w h v.channels (length tri) (length s.vertices) _ (sym e) in
    let four = accepted 3 (exact_all w h map v b) _ o.1 in
    let lengths = both (exact_pixels w h map v) _ four.0 in
    let pixels = pixels_exact w h map v o.0.few lengths.0 in
    let axes = both (exact_axis hedge w h b.hedges) _ lengths.1 in
    let names = named_well (length s.vertices / 3) tri map _ four.1 in
    record {
      image = sound o.0.size o.0.faces o.0.vertices pixels.0 names.0 names.1;
      values = pixels.1;
      hedges = axis-exact _ w h b.hedges axes.0;
      vedges = axis-exact _ w h b.vedges axes.1;
    }
