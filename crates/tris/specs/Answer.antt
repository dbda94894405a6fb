-- What the code's `Tri` stands for.
use Rattle.std.specs.Prelude.{Float, get_or}
use Rattle.std.specs.Float.{nan}
use Rattle.geometry.specs.Vector.{Vec3, vec3, Projected, projected, Triangle, triangle}
use Rattle.tris.specs.declared.Tri.{Tri}

-- its corners ..
unfoldable pub corners_in : Tri → Triangle (Vec3 Float)
corners_in t =
    triangle (vec3 (get_or t.node2xyz 0 nan) (get_or t.node2xyz 1 nan) (get_or t.node2xyz 2 nan))
    (vec3 (get_or t.node2xyz 3 nan) (get_or t.node2xyz 4 nan) (get_or t.node2xyz 5 nan))
    (vec3 (get_or t.node2xyz 6 nan) (get_or t.node2xyz 7 nan) (get_or t.node2xyz 8 nan))

-- .. and their projections
unfoldable pub projected_in : Tri → Triangle (Projected Float)
projected_in t =
    triangle (projected (vec3 (get_or t.node2pixxy 0 nan) (get_or t.node2pixxy 1 nan) (get_or t.node2pixz 0 nan)) (get_or t.node2w 0 nan))
    (projected (vec3 (get_or t.node2pixxy 2 nan) (get_or t.node2pixxy 3 nan) (get_or t.node2pixz 1 nan)) (get_or t.node2w 1 nan))
    (projected (vec3 (get_or t.node2pixxy 4 nan) (get_or t.node2pixxy 5 nan) (get_or t.node2pixz 2 nan)) (get_or t.node2w 2 nan))
