-- What the code's views stand for.
use Rattle.std.specs.Prelude.{ℕ, ◌+◌, ◌*◌}
use Rattle.meshes.specs.View.{View, view_of}
use Rattle.meshes.specs.declared.View as code
use Rattle.pixels.specs.declared.Pixel as codeP
use Rattle.pixel_rays.specs.Rays.{Image, image}

-- the image, with the matrix that its rays come of
abbrev pub image_of : code.View → Image
image_of v = image v.size.w v.size.h v.m.now

-- and what its map shows
abbrev pub shown : code.View → View
shown v = view_of v.mesh.tri2vtx.now v.pix2tri.now

-- the number of a pixel
abbrev pub number : code.View → codeP.Pixel → ℕ
number v p = p.y * v.size.w + p.x
