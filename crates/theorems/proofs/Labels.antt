-- The picture of body numbers of a thinned list, with its table thinned alike.
use Rattle.std.specs.Prelude.{ℕ, ◌≤◌, ◌≡◌, Bool, List, map, length}
use Rattle.std.proofs.Math.Path.{sym}
use Rattle.std.proofs.Common.{◌∙◌, arith}
use borrow.Author.Tests.{le-leb}
use Rattle.questions.specs.Questions.{bounded, empty, most_count}
use Rattle.offers.specs.Thinning.{kept_from, renumber}
use Rattle.offers.proofs.Laws.Thinning.{kept-length, kept_alike}
use Rattle.meshes.specs.Mesh.{Face}
use Rattle.views.specs.Renaming.{Renumbers}
use Rattle.labels.specs.Labels.{body_of, labelling}
use Rattle.labels.proofs.Laws.Renumbered.{relabelled}
use Rattle.rules.specs.Offers.{Scene}
use Rattle.sequences.specs.Redrawn.{drawn_map}
use Rattle.sequences.specs.Thinned.{Idle}
use Rattle.sequences.proofs.Thinned.{renumbers, beside_kept}

module _ (sc : Scene) (fs : List Face) (keep : ℕ → Bool) (few : length fs ≤ most_count) (idle : Idle sc fs keep) (t : List ℕ) (one_each : length t ≡ length fs) where
  abbrev kept : List ℕ
  kept = kept_from keep 0 t

  numbers : Renumbers (renumber empty keep) (drawn_map sc fs) (length t) (length kept)
  numbers = rw (one_each, kept_alike keep 0 t fs one_each) (renumbers sc fs keep few idle)

  both-bounded : bounded (length t) ≡ bounded (length kept)
  unfolding bounded
  both-bounded = le-leb (length t) most_count (omega (arith, one_each)) ∙ sym (le-leb (length kept) most_count (omega (arith, kept-length keep 0 t, one_each)))

  pub labels_thinned : (w h : ℕ) (picture : List ℕ) → labelling (drawn_map sc fs) t w h picture ≡ labelling (map (renumber empty keep) (drawn_map sc fs)) kept w h picture
  unfolding body_of
  labels_thinned = relabelled t kept numbers (beside_kept sc fs keep few idle empty t one_each) both-bounded
