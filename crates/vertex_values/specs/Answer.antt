-- What the code's structs stand for.
use Rattle.std.specs.Prelude.{ℕ, ◌*◌, ◌≡◌}
use Rattle.meshes.specs.View.{View}
use Rattle.pixel_rays.specs.Rays.{Image}
use Rattle.pixel_rays.specs.Answer.{image_of, shown}
use Rattle.vertex_values.specs.declared.Vertices as codeV
use Rattle.vertex_values.specs.declared.Pass as code
use Rattle.vertex_values.specs.Pass.{Vertices, vertices}

abbrev pub vertices_of : codeV.Vertices → Vertices
vertices_of s = vertices s.vtx2xyz.now s.num_vdim s.vtx2val.now

-- what an accepted pass is of: an image, vertices and a view, and a buffer of n numbers for its pixels
pub record Lent (p : code.Pass) (g : Image) (s : Vertices) (v : View) (n : ℕ) : Type 0 where
  pub of_image : image_of p.view ≡ g
  pub of_vertices : vertices_of p.vertices ≡ s
  pub of_view : shown p.view ≡ v
  pub channels : n ≡ g.w * g.h * s.channels
