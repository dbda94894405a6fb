-- The whole outcome of `antialias`.
use Rattle.std.specs.Prelude.{ℕ, List, length, Float}
use Rattle.questions.specs.Questions.{Outcome, answer}
use Rattle.outline_views.specs.Outline.{OutlineView, exact_images, outline_code, outline_items}
use Rattle.antialias.specs.Smoothing.{Write, written, writes}

-- the questions, of the map, `pix2vin` and `pix2vout`
unfoldable pub antialias_code : OutlineView → List ℕ → List Float → List Float → ℕ
antialias_code s map vin vout = outline_code s (exact_images s.width s.height (length map) (length vin) (length vout))

-- what the pass writes, in order: edge after edge, each crossing of it
unfoldable pub antialias_writes : OutlineView → List Float → List Write
antialias_writes s vin = outline_items (λ v e. writes vin) s

-- the code, and `pix2vout` afterwards
unfoldable pub antialiasing : OutlineView → List ℕ → List Float → List Float → Outcome (List Float)
antialiasing s map vin vout = answer (antialias_code s map vin vout) vout (written vout (antialias_writes s vin))
