-- A pixel as the loops meet it: its entry, and its ray.
use Rattle.std.specs.Prelude.{ℕ, ◌+◌, ◌*◌, ◌<◌, ◌≡◌, refl, Bool, true, false, cond, eqb, List, [], ◌∷◌, Float, get_or, length}
use Rattle.std.proofs.Math.Option.{Option, none, some}
use Rattle.lists.specs.Lists.{every, span}
use Rattle.lists.specs.Laws.Every.{every_rows}
use Rattle.questions.specs.Questions.{empty}
use Rattle.rays.specs.Space.{Ray}
use Rattle.meshes.specs.Mesh.{Face, face_at}
use Rattle.std.proofs.Common.{sym, ap, ◌∙◌, mul_comm, ap₂, arith}
use Rattle.pixels.specs.Laws.{row-at, column-at, number_below}
use Rattle.rays.specs.Pixel.{pixel_ray, ray_at, column_at, row_at}
use Rattle.meshes.specs.View.{entry_at, named, view_of}
use Rattle.meshes.specs.Sound.{SoundMap}
use Rattle.meshes.specs.Laws.{entry_read}
use Rattle.pixel_rays.specs.Rays.{Image, image, ray_of, answered, rays_answer}

-- the entry that is read is the one that the view sees
pub entry_seen : {tri map : List ℕ} {xyz : List Float} {w h x y : ℕ} → SoundMap tri xyz map w h → x < w → y < h → get_or map (y * w + x) 0 ≡ entry_at map (y * w + x)
entry_seen {tri} {map} {xyz} {w} {h} {x} {y} s inside below =
    entry_read map (y * w + x) (omega (arith, s.whole, number_below {w = w} {h = h} inside below))

-- pixel iy * w + ix is column ix of row iy
pub ray_seen : (w h : ℕ) (m : List Float) (iy ix : ℕ) → ix < w → ray_of (image w h m) (iy * w + ix) ≡ ray_at m (column_at w ix) (row_at h iy)
unfolding ray_of pixel_ray
ray_seen w h m iy ix l = rw (row-at w iy ix l, column-at w iy ix l)

-- the same, through a point that is its centre
pub ray_through : (w h : ℕ) (m : List Float) (iy ix : ℕ) {x y : Float} → ix < w → x ≡ column_at w ix → y ≡ row_at h iy → ray_at m x y ≡ ray_of (image w h m) (iy * w + ix)
ray_through w h m iy ix l ex ey = rw (ex, ey) (sym (ray_seen w h m iy ix l))

-- what F says of the entry and the ray that a loop finds there, it says of the face and the ray of that pixel
pub pixel-seen : (w h : ℕ) (m : List Float) (tri map : List ℕ) (iy ix : ℕ) {x y : Float} {A : Type 0} (F : Option Face → Option (Ray Float) → A) → ix < w
    → iy * w + ix < length map → x ≡ column_at w ix → y ≡ row_at h iy
    → F (named tri (get_or map (iy * w + ix) 0)) (ray_at m x y) ≡ F ((view_of tri map).at (iy * w + ix)) (ray_of (image w h m) (iy * w + ix))
pixel-seen w h m tri map iy ix F inside below ex ey =
    ap₂ (λ (entry : ℕ). F (named tri entry)) (entry_read map (iy * w + ix) below) (ray_through w h m iy ix inside ex ey)

-- of a map question 8 asks which pixels are empty, and nothing of its faces
module _ (g : Image) (tri tri' map : List ℕ) where
  one_pixel : (p : ℕ) → answered ((view_of tri map).at p) (ray_of g p) ≡ answered ((view_of tri' map).at p) (ray_of g p)
  unfolding named answered
  one_pixel p = go (eqb (entry_at map p) empty) (ray_of g p)
    where
      go : (b : Bool) (r : Option (Ray Float)) → answered (cond b none (some (face_at tri (entry_at map p)))) r ≡ answered (cond b none (some (face_at tri' (entry_at map p)))) r
      go true r = refl
      go false none = refl
      go false (some r) = refl

  pub any_faces : rays_answer g (view_of tri map) ≡ rays_answer g (view_of tri' map)
  unfolding rays_answer
  any_faces = go (span 0 (g.w * g.h))
    where
      go : (ps : List ℕ) → every (λ p. answered ((view_of tri map).at p) (ray_of g p)) ps ≡ every (λ p. answered ((view_of tri' map).at p) (ray_of g p)) ps
      go [] = refl
      go (p ∷ ps) = rw (one_pixel p, go ps)

-- question 8 row by row
pub rays_by_rows : (g : Image) (tri map : List ℕ) → rays_answer g (view_of tri map) ≡ every (λ iy. every (λ p. answered ((view_of [] map).at p) (ray_of g p)) (span (iy * g.w) g.w)) (span 0 g.h)
unfolding rays_answer
rays_by_rows g tri map =
    any_faces g tri [] map
    ∙ ap (λ (k : ℕ). every (λ p. answered ((view_of [] map).at p) (ray_of g p)) (span 0 k)) (mul_comm g.w g.h)
    ∙ sym (every_rows (λ p. answered ((view_of [] map).at p) (ray_of g p)) g.w g.h)
