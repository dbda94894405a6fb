-- Demand 3 as one statement: `Demand3`, at the end, which `demand3` of proofs/ proves. This is all that it leans on, beside numbers, lists and IEEE floats:
--   Cut, Planned, Case          an accepted mesh, thinned and cut into runs, and a sequence of calls that keeps to the plan (sequences Case)
--   Store, Call, after_all      layers of three buffers that share no memory, calls on them, and what is left in the end (sequences Calls)
--   Keeps, Accepted             the plan, and that its own calls are accepted (sequences Plan)
--   Idle                        the faces taken out hold no pixel (sequences Thinned)
--   full, final, Pictures       the whole drawing, the layer that remains, and what is said of the two (sequences Case)
--   Layer, at, Spans, no_hit    a layer's map, depths and weights, its cells, its lengths, and what a clear cell has beside its depth (cells Layer, Steps, Cell)
--   flat, joined, cleared       a list of faces as a slice, runs one after the other, a cleared layer (meshes Mesh, sequences Plan, Whole)
--   kept_from, renumber         the faces kept, and their new numbers (offers Thinning)
--   offers, Holds, Shows        the offers at a pixel and what it shows, defined without drawing (rules Offers, offers Offers)
--   clearing, joining, draws, draw_code                        the outcomes of the three calls, cited by their contracts (layers Calls, rules Calls)
--   interpolating, interpolating_bwd, edge_typing, edge_bwd    those of the four passes (values Interpolate, values_bwd Bwd, edges Calls, edge_bwd Calls)
--   OutlineView, outline_view, shown_in                        what the two passes of outline smoothing see: of a map, which pixels show a face (outline_views Outline)
--   antialiasing, antialiasing_bwd                             their outcomes (antialias Calls, antialias_bwd Calls)
--   labelling                   that of the picture of body numbers (labels Labels)
--   Free, Unnamed               a vertex that is a corner of no face that an entry names (Gradients)
--   NoEnd, OffOutline           a vertex that is an end of no outline edge (Gradients)
use Rattle.std.specs.Prelude.{ℕ, ◌+◌, ◌*◌, ◌<◌, ◌≡◌, List, Float, length, get_or}
use Rattle.std.specs.Float.{nan}
use Rattle.offers.specs.Thinning.{kept_from}
use Rattle.meshes.specs.Mesh.{flat}
use Rattle.meshes.specs.View.{view_of}
use Rattle.sequences.specs.Case.{Case, faces, kept_faces, full, final, Pictures}
use Rattle.labels.specs.Labels.{labelling}
use Rattle.pixel_rays.specs.Rays.{Image}
use Rattle.vertex_values.specs.Pass.{Vertices, vertices}
use Rattle.values.specs.Interpolate.{interpolating}
use Rattle.pixel_bwd.specs.Additions.{Sums}
use Rattle.values_bwd.specs.Bwd.{interpolating_bwd}
use Rattle.pairs.specs.Pairs.{edge_view}
use Rattle.pairs.specs.Gradient.{PixelValues}
use Rattle.edges.specs.Calls.{EdgeBuffers, edge_typing}
use Rattle.edge_bwd.specs.Calls.{edge_bwd}
use Rattle.outline_views.specs.Outline.{OutlineView, outline_view, shown_in}
use Rattle.antialias.specs.Calls.{antialiasing}
use Rattle.antialias_bwd.specs.Calls.{antialiasing_bwd}
use Rattle.theorems.specs.Gradients.{Unnamed, OffOutline}

-- the face slice and the map of the whole mesh, and of what is kept of it
abbrev pub whole_slice : Case → List ℕ
whole_slice c = c.mesh.tri2vtx

abbrev pub whole_map : Case → List ℕ
whole_map c = (full c.mesh).pix2tri

abbrev pub kept_slice : Case → List ℕ
kept_slice c = flat (kept_faces c.mesh)

abbrev pub kept_map : Case → List ℕ
kept_map c = (final c).pix2tri

-- "All else alike: beside faces and map, a pass gets the same arguments on both sides, with the mesh's vertices or as many others, and the buffers it writes start alike.
-- Compared are its code and every number in those buffers afterwards."
pub record Passes (c : Case) (xyz : List Float) : Type 0 where
  pub values : (g : Image) (channels : ℕ) (val pix2val : List Float)
      → interpolating g (vertices xyz channels val) (whole_slice c) (whole_map c) pix2val ≡ interpolating g (vertices xyz channels val) (kept_slice c) (kept_map c) pix2val
  pub values_bwd : (g : Image) (channels : ℕ) (val dldw : List Float) (old : Sums)
      → interpolating_bwd g (vertices xyz channels val) (whole_slice c) (whole_map c) dldw old ≡ interpolating_bwd g (vertices xyz channels val) (kept_slice c) (kept_map c) dldw old
  pub edge_types : (m : List Float) (w h : ℕ) (v : PixelValues) (b : EdgeBuffers)
      → edge_typing (whole_slice c) (whole_map c) h (edge_view (view_of (whole_slice c) (whole_map c)) m xyz w) v b
      ≡ edge_typing (kept_slice c) (kept_map c) h (edge_view (view_of (kept_slice c) (kept_map c)) m xyz w) v b
  pub edges_bwd : (m : List Float) (w h : ℕ) (v : PixelValues) (dxyz : List Float)
      → edge_bwd (whole_slice c) (whole_map c) h (edge_view (view_of (whole_slice c) (whole_map c)) m xyz w) v dxyz
      ≡ edge_bwd (kept_slice c) (kept_map c) h (edge_view (view_of (kept_slice c) (kept_map c)) m xyz w) v dxyz
  -- 02, Point 1: outline smoothing takes no faces; the outline edges are the same on both sides
  pub smoothing : (edges : List ℕ) (m : List Float) (w h : ℕ) (vin vout : List Float)
      → antialiasing (outline_view (shown_in (whole_map c)) edges m xyz w h) (whole_map c) vin vout
      ≡ antialiasing (outline_view (shown_in (kept_map c)) edges m xyz w h) (kept_map c) vin vout
  pub smoothing_bwd : (edges : List ℕ) (m : List Float) (w h : ℕ) (val dldw dxyz : List Float)
      → antialiasing_bwd (outline_view (shown_in (whole_map c)) edges m xyz w h) (whole_map c) val dldw dxyz
      ≡ antialiasing_bwd (outline_view (shown_in (kept_map c)) edges m xyz w h) (kept_map c) val dldw dxyz

-- Whatever the map, a vertex of no face in it keeps its gradients in 01's two backward passes, in a refused call too.
pub record Untouched (tri names : List ℕ) (v : ℕ) : Type 0 where
  pub values_bwd_xyz : (g : Image) (s : Vertices) (dldw : List Float) (old : Sums) (k : ℕ) → k < 3
      → get_or (interpolating_bwd g s tri names dldw old).left.xyz (v * 3 + k) nan ≡ get_or old.xyz (v * 3 + k) nan
  pub values_bwd_val : (g : Image) (s : Vertices) (dldw : List Float) (old : Sums) (k : ℕ) → k < s.channels
      → get_or (interpolating_bwd g s tri names dldw old).left.val (v * s.channels + k) nan ≡ get_or old.val (v * s.channels + k) nan
  pub edges_bwd : (m xyz : List Float) (w h : ℕ) (vals : PixelValues) (dxyz : List Float) (k : ℕ) → k < 3
      → get_or (edge_bwd tri names h (edge_view (view_of tri names) m xyz w) vals dxyz).left (v * 3 + k) nan ≡ get_or dxyz (v * 3 + k) nan

-- 02, Point 1: outline smoothing backward keeps those of a vertex of no outline edge, whatever the map and whichever pixels show a face, in a refused call too. "Here, unlike in 01's
-- two backward passes, the ends of an outline edge may gain gradient though no face in the map has them": `not_in_map` and `ends_gain` of Examples Outlines are an instance.
abbrev pub OutlineKept : OutlineView → ℕ → Type 0
OutlineKept s v = (map : List ℕ) (val dldw dxyz : List Float) (k : ℕ) → k < 3
    → get_or (antialiasing_bwd s map val dldw dxyz).left (v * 3 + k) nan ≡ get_or dxyz (v * 3 + k) nan

-- 02, Point 10: the picture of body numbers, with the table thinned as the list is, whatever size is asked for and whatever the picture held
abbrev pub Labels : Case → List ℕ → Type 0
Labels c tri2body = (w h : ℕ) (pix2body : List ℕ)
    → labelling (whole_map c) tri2body w h pix2body ≡ labelling (kept_map c) (kept_from c.mesh.keep 0 tri2body) w h pix2body

-- The whole claim.
pub record Demand3 : Type 0 where
  pub pictures_same : (c : Case) → Pictures c
  pub passes_same : (c : Case) (xyz : List Float) → length xyz ≡ length c.mesh.sc.vertices → Passes c xyz
  pub labels_same : (c : Case) (tri2body : List ℕ) → length tri2body ≡ length (faces c.mesh) → Labels c tri2body
  pub gradients_kept : (tri names : List ℕ) (v : ℕ) → Unnamed tri names v → Untouched tri names v
  pub outline_gradients_kept : (s : OutlineView) (v : ℕ) → OffOutline s.edges v → OutlineKept s v
