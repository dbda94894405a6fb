-- What the passes read and add, in the words of this crate.
use Rattle.std.specs.Prelude.{Float, get_or}
use mathlib.Core.List.{List}
use Rattle.std.specs.Float.{nan}
use Rattle.meshes.specs.View.{View}
use Rattle.pixel_rays.specs.Rays.{Image, ray_of}
use Rattle.vertex_values.specs.Pass.{Vertices}
use Rattle.truth.specs.Image.{Scene}

-- what both passes read
abbrev pub scene_of : Image → Vertices → View → List Float → Scene Float
scene_of g s v dldw =
    record {
      shown = v.at;
      rays = ray_of g;
      channels = s.channels;
      xyz = λ k. get_or s.xyz k nan;
      val = λ k. get_or s.val k nan;
      dldw = λ k. get_or dldw k nan;
    }
