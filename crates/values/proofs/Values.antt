-- From what the steps of `interpolate` promise to its outcome.
use Rattle.std.specs.Prelude.{ℕ, ◌+◌, ◌*◌, ◌<◌, ◌≤◌, ◌≡◌, refl, List, ◌++◌, Float, length, get_or, take, drop}
use Rattle.std.specs.Float.{nan}
use Rattle.std.proofs.Math.Option.{Option}
use Rattle.std.proofs.Common.{sym, ◌∙◌, ap, ap₂, zero-add, mul_comm, add-mul, mul-le-mul_right, arith}
use Rattle.questions.specs.declared.Refusal.{Refusal}
use Rattle.questions.specs.Answer.{number_of}
use Rattle.questions.specs.Questions.{outcome}
use Rattle.questions.specs.Laws.{call_done}
use Rattle.questions.proofs.Laws.Refusals.{refused}
use Rattle.pixels.specs.Laws.{row-at, column-at}
use Rattle.meshes.specs.Mesh.{Face}
use Rattle.meshes.specs.View.{View, view_of}
use Rattle.lists.specs.Lists.{tabulate}
use Rattle.lists.specs.Laws.Tables.{tabulate_same}
use Rattle.lists.specs.Laws.Every.{row_below}
use Rattle.rays.specs.Space.{Ray}
use Rattle.pixel_rays.specs.Rays.{Image, ray_of}
use Rattle.pixel_rays.specs.Answer.{image_of, shown}
use Rattle.vertex_values.specs.Pass.{Vertices}
use Rattle.vertex_values.specs.declared.Pass.{Pass}
use Rattle.vertex_values.specs.Answer.{vertices_of, Lent}
use Rattle.pixel_values.specs.Pixel.{value_at}
use Rattle.values.specs.Interpolate.{value_in, interpolated, interpolate_code, interpolating}
use Rattle.values.specs.Filled.{filled}
use Rattle.values.specs.Laws.{filled_lent, filled_more, filled_all}

-- place p * channels + j is channel j of pixel p
value_of_pixel : (g : Image) (s : Vertices) (v : View) (p j : ℕ) (old : Float) → j < s.channels
    → value_in g s v (p * s.channels + j) old ≡ value_at s (v.at p) (ray_of g p) j old
unfolding value_in
value_of_pixel g s v p j old l = rw (row-at s.channels p j l, column-at s.channels p j l)

-- pixel n's run, of k places, lent and written: what the pixel shows, and its ray
module _ (g : Image) (s : Vertices) (v : View) (iy ix n k : ℕ) (en : n ≡ iy * g.w + ix) (ek : k ≡ s.channels) {o : Option Face} {r : Option (Ray Float)}
    (eo : o ≡ v.at (iy * g.w + ix)) (er : r ≡ ray_of g (iy * g.w + ix)) (cur new : List Float)
    (e : new ≡ tabulate (λ j. value_at s o r j (get_or (take k (drop (n * s.channels) cur)) j nan)) 0 s.channels) where
  written : List Float
  written = take (n * s.channels) cur ++ (new ++ drop k (drop (n * s.channels) cur))

  run_filled : written ≡ filled (value_in g s v) (n * s.channels) s.channels cur
  unfolding written
  run_filled =
      rw ek
      (filled_lent (value_in g s v) (n * s.channels) s.channels cur new
      (e ∙ rw (eo, er, ek, ← en) (tabulate_same _ _ 0 0 s.channels (λ j l. sym (value_of_pixel g s v n (0 + j) _ (omega arith))))))

  -- one more pixel of row iy
  pub row_more : (old : List Float) → n * s.channels + s.channels ≤ length old
      → cur ≡ filled (value_in g s v) (iy * g.w * s.channels) (ix * s.channels) old
      → take (n * s.channels) cur ++ (new ++ drop k (drop (n * s.channels) cur)) ≡ filled (value_in g s v) (iy * g.w * s.channels) ((ix + 1) * s.channels) old
  unfolding written
  row_more old fits so_far =
      let value = value_in g s v in
      let a = iy * g.w * s.channels in
      let at : n * s.channels ≡ a + ix * s.channels = ap (λ (i : ℕ). i * s.channels) en ∙ add-mul (iy * g.w) ix s.channels in
      let next : ix * s.channels + s.channels ≡ (ix + 1) * s.channels = omega arith in
      run_filled
      ∙ ap₂ (λ (i : ℕ) (t : List Float). filled value i s.channels t) at so_far
      ∙ filled_more value a (ix * s.channels) old (omega arith) s.channels
      ∙ ap (λ (m : ℕ). filled value a m old) next

-- one more row
module _ (value : ℕ → Float → Float) (w h c iy : ℕ) (old cur : List Float) (whole : length old ≡ w * h * c) where
  pub rows_more : (new : List Float) → iy < h → cur ≡ filled value 0 (iy * w * c) old → new ≡ filled value (iy * w * c) (w * c) cur → new ≡ filled value 0 ((iy + 1) * w * c) old
  rows_more new below so_far e =
      let row : (iy * w + w) * c ≡ iy * w * c + w * c = add-mul (iy * w) w c in
      let next : iy * w * c + w * c ≡ (iy + 1) * w * c = sym row ∙ ap (λ (n : ℕ). n * c) (omega arith) in
      let most : (iy * w + w) * c ≤ w * h * c = mul-le-mul_right c (row_below w h iy below) in
      let fits : 0 + iy * w * c ≤ length old = omega arith in
      e
      ∙ ap₂ (λ (a : ℕ) (t : List Float). filled value a (w * c) t) (sym (zero-add (iy * w * c))) so_far
      ∙ filled_more value 0 (iy * w * c) old fits (w * c)
      ∙ ap (λ (n : ℕ). filled value 0 n old) next

  pub rows_all : iy ≤ h → h ≤ iy → cur ≡ filled value 0 (iy * w * c) old → cur ≡ tabulate (λ k. value k (get_or old k nan)) 0 (w * h * c)
  rows_all l g so_far =
      let e : iy ≡ h = omega arith in
      so_far
      ∙ ap (λ (n : ℕ). filled value 0 n old) (ap (λ (i : ℕ). i * w * c) e ∙ ap (λ (n : ℕ). n * c) (mul_comm h w))
      ∙ filled_all value (w * h * c) old whole

module _ (g : Image) (s : Vertices) (tri map : List ℕ) (old : List Float) where
  pub not_done : (r : Refusal) → number_of r ≡ interpolate_code g s tri map old → outcome (number_of r) old ≡ interpolating g s tri map old
  unfolding interpolating
  not_done r e = refused r _ e

  pub done : {p : Pass} {n : ℕ} (new : List Float) → 0 ≡ interpolate_code g s tri map old → Lent p g s (view_of tri map) n
      → new ≡ interpolated (image_of p.view) (vertices_of p.vertices) (shown p.view) old → outcome 0 new ≡ interpolating g s tri map old
  unfolding interpolating
  done {p} new e l made =
      call_done old e refl
      (made
      ∙ ap (λ (i : Image). interpolated i (vertices_of p.vertices) (shown p.view) old) l.of_image
      ∙ ap₂ (λ (t : Vertices) (v : View). interpolated g t v old) l.of_vertices l.of_view)
