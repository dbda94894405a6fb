-- One pixel's channels where nothing is written.
use Rattle.std.specs.Prelude.{◌≡◌, List, Float, length, get_or}
use Rattle.std.specs.Float.{nan}
use Rattle.std.proofs.Common.{ℕ, sym, ◌∙◌, ap, zero-add, ext_get_or}
use Rattle.std.proofs.Math.Option.{Option, none, some}
use Rattle.lists.specs.Lists.{tabulate}
use Rattle.lists.specs.Laws.Tables.{length-tabulate, get_or-tabulate}
use Rattle.meshes.specs.Mesh.{Face}
use Rattle.rays.specs.Space.{Ray}
use Rattle.vertex_values.specs.Pass.{Vertices}
use Rattle.pixel_values.specs.Pixel.{value_at}

as_it_was : (xs : List Float) → xs ≡ tabulate (λ j. get_or xs j nan) 0 (length xs)
as_it_was xs =
    ext_get_or nan xs _ (sym (length-tabulate (λ j. get_or xs j nan) 0 (length xs)))
    (λ i h. sym (get_or-tabulate (λ j. get_or xs j nan) 0 (length xs) i nan h ∙ ap (λ (k : ℕ). get_or xs k nan) (zero-add i)))

module _ (s : Vertices) (o : Option Face) (r : Option (Ray Float)) (old : List Float) (n : ℕ) where
  pub kept_empty : length old ≡ n → none ≡ o → old ≡ tabulate (λ j. value_at s o r j (get_or old j nan)) 0 n
  unfolding value_at
  kept_empty l e = rw (← l, ← e) (as_it_was old)

  kept : (o : Option Face) → old ≡ tabulate (λ j. value_at s o none j (get_or old j nan)) 0 (length old)
  unfolding value_at
  kept none = as_it_was old
  kept (some f) = as_it_was old

  pub kept_nowhere : length old ≡ n → none ≡ r → old ≡ tabulate (λ j. value_at s o r j (get_or old j nan)) 0 n
  kept_nowhere l e = rw (← l, ← e) (kept o)
