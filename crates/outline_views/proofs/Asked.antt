-- What the outline knows past its questions.
use Rattle.std.specs.Prelude.{ℕ, ◌*◌, ◌/◌, ◌≡◌, true, ◌&&◌, Bool, List, length, Float}
use Rattle.lists.specs.Laws.Tests.{both}
use Rattle.questions.specs.Questions.{sizes, exact, all_below}
use Rattle.questions.specs.Laws.{Sized, sized, exactly}
use Rattle.questions.proofs.Laws.Refusals.{yes}
use Rattle.outline_views.specs.Outline.{exact_images}
use Rattle.outline_views.specs.Steps.{SoundOutline}

pub size_passed : (w h : ℕ) → sizes 1 w h ≡ true → Sized 1 w h
size_passed w h e = sized 1 w h e

pub outline_passed : (cedge map : List ℕ) (xyz : List Float) (w h first second : ℕ) (others : Bool) → exact_images w h (length map) first second && others ≡ true
    → all_below (length xyz / 3) cedge ≡ true → SoundOutline cedge xyz map w h
unfolding exact_images
outline_passed cedge map xyz w h first second others q4 q10 =
    let lengths = both (exact_images w h (length map) first second) others q4 in
    let images = both (exact (w * h) (length map)) _ lengths.0 in
    record { named = q10; whole = exactly (w * h) (length map) images.0 }

pub ruleset asked = (yes, size_passed, outline_passed)
