-- Proved of the definitions.
use Rattle.std.specs.Prelude.{ℕ, ◌*◌, ◌≡◌, List, length, Float}
use Rattle.std.proofs.Common.{◌∙◌, length-set}
use Rattle.lists.specs.Laws.Folds.{fold-long}
use Rattle.outline_views.specs.Outline.{OutlineView}
use Rattle.outline_views.specs.Laws.{lengths_passed, images_passed}
use Rattle.antialias.specs.Smoothing.{Write, wrote, written}
use Rattle.antialias.specs.Calls.{antialias_code}

length-written : (out : List Float) (ws : List Write) → length (written out ws) ≡ length out
unfolding written wrote
length-written out ws = fold-long wrote (λ s w. length-set s w.place w.value) out ws

pub as_long : (out : List Float) {new : List Float} {n : ℕ} (ws : List Write) → length out ≡ n → new ≡ written out ws → length new ≡ n
as_long out ws e made = rw made (length-written out ws ∙ e)

-- what an accepted call knows of its images
pub antialias_accepted : (s : OutlineView) (map : List ℕ) (vin vout : List Float) → 0 ≡ antialias_code s map vin vout → (length vin ≡ s.width * s.height) × (length vout ≡ s.width * s.height)
unfolding antialias_code
antialias_accepted s map vin vout e = images_passed s.width s.height (length map) (length vin) (length vout) (lengths_passed s _ e)
