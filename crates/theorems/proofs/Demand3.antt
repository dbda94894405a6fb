-- Demand 3 holds.
use Rattle.std.specs.Prelude.{ℕ, ◌/◌, ◌≡◌, true, List, map, Float, length}
use Rattle.std.proofs.Common.{ap, sym, subst, ◌∙◌}
use Rattle.questions.specs.Questions.{all_below, empty}
use Rattle.offers.specs.Thinning.{kept_from, renumber}
use Rattle.cells.specs.Layer.{Layer}
use Rattle.meshes.specs.Mesh.{flat}
use Rattle.views.specs.Alike.{Alike}
use Rattle.sequences.specs.Whole.{fresh}
use Rattle.sequences.proofs.Mesh.{threes_of, few_of}
use Rattle.sequences.specs.Redrawn.{renumbered}
use Rattle.sequences.proofs.Thinned.{alike}
use Rattle.sequences.specs.Case.{Case, faces}
use Rattle.sequences.proofs.Case.{pictures, mesh_answered, full_is, final-renumbered}
use Rattle.labels.specs.Labels.{labelling}
use Rattle.theorems.proofs.Passes.{values_same, values_bwd_same, edge_types_same, edge_bwd_same, smoothing_same, smoothing_bwd_same}
use Rattle.theorems.proofs.Labels.{labels_thinned}
use Rattle.theorems.specs.Gradients.{Unnamed}
use Rattle.theorems.proofs.Gradients.{values_bwd_keeps_xyz, values_bwd_keeps_val, edge_bwd_keeps, outline_keeps}
use Rattle.theorems.specs.Demand3.{whole_slice, whole_map, kept_slice, kept_map, Passes, Untouched, Labels, Demand3}

-- no pass over as many vertices can tell the two apart
alike_lists : (c : Case) (xyz : List Float) → length xyz ≡ length c.mesh.sc.vertices → Alike (length xyz / 3) (whole_slice c) (whole_map c) (kept_slice c) (kept_map c)
alike_lists c xyz e =
    let m = c.mesh in
    let n = length xyz / 3 in
    let ok = mesh_answered m in
    let threes = threes_of m.tri2vtx ok.faces in
    let below : all_below n (flat (faces m)) ≡ true = rw (threes, e) ok.corners in
    let r = renumber empty m.keep in
    let drawn = alike m.sc (faces m) m.keep (few_of m.tri2vtx ok.faces) m.idle n below in
    let sliced = subst (λ (t : List ℕ). Alike n t (fresh m.sc (faces m) 0).pix2tri (kept_slice c) (map r (fresh m.sc (faces m) 0).pix2tri)) threes drawn in
    let mapped = subst (λ (l : Layer). Alike n m.tri2vtx l.pix2tri (kept_slice c) (map r l.pix2tri)) (sym (full_is m)) sliced in
    subst (λ (names : List ℕ). Alike n m.tri2vtx (whole_map c) (kept_slice c) names) (sym (ap (λ (l : Layer). l.pix2tri) (final-renumbered c))) mapped

passes : (c : Case) (xyz : List Float) → length xyz ≡ length c.mesh.sc.vertices → Passes c xyz
passes c xyz e =
    let a = alike_lists c xyz e in
    record {
      values = values_same xyz a;
      values_bwd = values_bwd_same xyz a;
      edge_types = edge_types_same xyz a;
      edges_bwd = edge_bwd_same xyz a;
      smoothing = smoothing_same xyz a;
      smoothing_bwd = smoothing_bwd_same xyz a;
    }

untouched : (tri names : List ℕ) (v : ℕ) → Unnamed tri names v → Untouched tri names v
untouched tri names v free =
    record {
      values_bwd_xyz = λ g s dldw old k h. values_bwd_keeps_xyz tri names v free g s dldw old k h;
      values_bwd_val = λ g s dldw old k h. values_bwd_keeps_val tri names v free g s dldw old k h;
      edges_bwd = λ m xyz w h vals dxyz k l. edge_bwd_keeps tri names v k l m xyz w vals free h dxyz;
    }

labels : (c : Case) (tri2body : List ℕ) → length tri2body ≡ length (faces c.mesh) → Labels c tri2body
labels c t e w h picture =
    let m = c.mesh in
    let kept = kept_from m.keep 0 t in
    ap (λ (l : Layer). labelling l.pix2tri t w h picture) (full_is m)
    ∙ labels_thinned m.sc (faces m) m.keep (few_of m.tri2vtx (mesh_answered m).faces) m.idle t e w h picture
    ∙ sym (ap (λ (l : Layer). labelling l.pix2tri kept w h picture) (final-renumbered c ∙ ap (renumbered (renumber empty m.keep)) (full_is m)))

pub demand3 : Demand3
demand3 = record { pictures_same = pictures; passes_same = passes; labels_same = labels; gradients_kept = untouched; outline_gradients_kept = outline_keeps }
