-- What an edge pass knows past its questions, each asked by `ask` or together with others.
use Rattle.std.specs.Prelude.{ℕ, ◌/◌, ◌≡◌, true, List, [], length, Float}
use Rattle.std.proofs.Common.{sym}
use Rattle.questions.proofs.Laws.Refusals.{yes}
use Rattle.questions.specs.Questions.{first_no, opening, naming}
use Rattle.questions.proofs.Laws.Opening.{Opened, opened, named_well}
use Rattle.meshes.specs.Sound.{SoundMesh, SoundMap}
use Rattle.meshes.specs.Laws.{sound_mesh, sound}
use Rattle.pairs.specs.Gradient.{PixelValues, exact_pixels}
use Rattle.pairs.specs.Laws.{pixels_exact}

-- what the questions say, answered yes
pub opening_passed : (w h c tri xyz : ℕ) → 0 ≡ first_no (opening w h c tri xyz) → Opened w h c tri xyz
opening_passed w h c tri xyz e = (opened w h c tri xyz [] (sym e)).0

pub naming_passed : (tri map : List ℕ) (xyz : List Float) {w h c : ℕ} → Opened w h c (length tri) (length xyz) → 0 ≡ first_no (naming (length xyz / 3) tri map) → SoundMesh tri xyz
naming_passed tri map xyz o e = sound_mesh o.faces o.vertices (named_well (length xyz / 3) tri map [] (sym e)).0

pub lengths_passed : (tri map : List ℕ) (xyz : List Float) (w h : ℕ) (v : PixelValues) → Opened w h v.channels (length tri) (length xyz) → exact_pixels w h map v ≡ true
    → 0 ≡ first_no (naming (length xyz / 3) tri map) → SoundMap tri xyz map w h
lengths_passed tri map xyz w h v o four e =
    let names = named_well (length xyz / 3) tri map [] (sym e) in sound o.size o.faces o.vertices (pixels_exact w h map v o.few four).0 names.0 names.1

pub ruleset asked = (yes, opening_passed, naming_passed, lengths_passed)
