-- What an accepted call of `preview_removal` knows, and the outcome of a refused and of an accepted one.
use Prim.Native.Nat.{ℕ, ◌*◌, ◌/◌, ◌≤◌}
use mathlib.Core.Path.{◌≡◌, refl, ap, ap₂, sym, ◌∙◌}
use mathlib.Core.List.{List, []}
use native.Mathlib.Omega.{arith}
use lib.ListN.{length}
use lib.Ieee.{Float}
use Rattle.std.specs.Prelude.{Err}
use Rattle.questions.specs.declared.Refusal.{Refusal}
use Rattle.questions.specs.Answer.{number_of}
use Rattle.questions.proofs.Laws.Refusals.{never_accepted}
use Rattle.questions.specs.Questions.{outcome, most_count}
use Rattle.questions.specs.Laws.{Sized, sized, grouped, call_refused, call_done}
use Rattle.offers.specs.Thinning.{kept_from}
use Rattle.cells.specs.Layer.{Layer}
use Rattle.cells.specs.Steps.{Spans}
use Rattle.meshes.specs.Mesh.{faces_of}
use Rattle.meshes.specs.Sound.{SoundMesh}
use Rattle.meshes.specs.Laws.{sound_mesh, length-faces}
use Rattle.rules.specs.declared.Facing.TheVariants.{All}
use Rattle.rules.specs.Offers.{Scene, scene}
use Rattle.sequences.specs.Whole.{fresh}
use Rattle.sequences.proofs.Whole.{fresh-spans}
use Rattle.removal_counts.specs.Answer.{answered}
use Rattle.removal_rules.specs.Removal as rule
use Rattle.removal_rules.specs.Removal.{kept_by, preview, counted, previewed, compared, removal_code, previewing}
use Rattle.removal_rules.proofs.Laws.Drawings.{asked, full-drawn, short_drawn}
use Rattle.removal_rules.specs.Matched.{Matched}
use Rattle.removal_rules.proofs.Laws.Pixels.{keep-empty, drawings_match}

module _ (tri : List ℕ) (xyz : List Float) (w h : ℕ) (removed : List ℕ) (full short : Layer) where
  pub refused : (m : List Float) (r : Refusal) → number_of r ≡ removal_code tri xyz w h removed full short → answered (Err r) full short ≡ previewing tri xyz w h m removed full short
  unfolding previewing
  refused m r e = call_refused _ e (never_accepted r)

  module _ (accepted : removal_code tri xyz w h removed full short ≡ 0) where
    mesh : SoundMesh tri xyz × (length tri / 3 ≤ most_count)
    mesh =
        let a = (asked tri xyz w h removed full short accepted).mesh [] in
        let faces = grouped 3 most_count (length tri) a.faces in
        (sound_mesh faces (grouped 3 most_count (length xyz) a.vertices) a.corners, faces.most)

    size : Sized 1 w h
    size = sized 1 w h ((asked tri xyz w h removed full short accepted).mesh []).sized

    pub full_ready : Sized 1 w h × (Spans full (w * h) × (SoundMesh tri xyz × (length tri / 3 ≤ most_count)))
    full_ready = (size, ((asked tri xyz w h removed full short accepted).full_spans, mesh))

    pub short_ready : Sized 1 w h × (Spans short (w * h) × (SoundMesh tri xyz × ((length tri / 3 ≤ most_count) × (length removed ≡ length tri / 3))))
    short_ready = let a = asked tri xyz w h removed full short accepted in (size, (a.short_spans, (mesh.0, (mesh.1, a.marks))))

    module _ (m : List Float) where
      abbrev sc : Scene
      sc = scene m xyz w h All

      module _ {full' short' : Layer} (drew : full' ≡ fresh sc (faces_of tri) 0) (drew-short : short' ≡ fresh sc (kept_from (kept_by removed) 0 (faces_of tri)) 0) where
        pixels : length full'.pix2tri ≡ w * h
        pixels = rw drew (fresh-spans sc (faces_of tri) 0).numbers

        -- the two maps may be compared by the marks
        ready : (length short'.pix2tri ≡ length full'.pix2tri) × Matched (kept_by removed) full'.pix2tri short'.pix2tri (length full'.pix2tri)
        ready =
            let few = mesh.1 in
            let marks = (asked tri xyz w h removed full short accepted).marks in
            rw (pixels, drew, drew-short) (
              (fresh-spans sc (kept_from (kept_by removed) 0 (faces_of tri)) 0).numbers,
              drawings_match sc (faces_of tri) (kept_by removed) (omega (arith, length-faces tri)) (keep-empty removed (omega arith)),
            )

        pub matched : Matched (kept_by removed) full'.pix2tri short'.pix2tri (length full'.pix2tri)
        matched = ready.1

        pub done : {counts : rule.Preview} → 0 ≡ removal_code tri xyz w h removed full short
            → counts ≡ counted (kept_by removed) full'.pix2tri short'.pix2tri (length full'.pix2tri)
            → outcome 0 (previewed counts full' short') ≡ previewing tri xyz w h m removed full short
        unfolding previewing compared
        done e same =
            let a = asked tri xyz w h removed full short accepted in
            ap (λ (p : rule.Preview). outcome 0 (previewed p full' short')) same
            ∙ ap (λ (n : ℕ). outcome 0 (previewed (counted (kept_by removed) full'.pix2tri short'.pix2tri n) full' short')) pixels
            ∙ call_done (previewed (preview 0 0 0) full short) e refl
            (ap₂ (compared (w * h) (kept_by removed)) (drew ∙ sym (full-drawn a m)) (drew-short ∙ sym (short_drawn a m)))
