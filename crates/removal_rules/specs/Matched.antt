-- Two maps of which the second shows the kept faces of the first.
use Rattle.std.specs.Prelude.{ℕ, ◌<◌, ◌≡◌, ◌⊎◌, Bool, List}
use Rattle.std.proofs.Math.Bool.{true}
use Rattle.questions.specs.Questions.{empty, most_count}
use Rattle.offers.specs.Thinning.{renumber}
use Rattle.meshes.specs.View.{entry_at}

pub record Matched (keep : ℕ → Bool) (full short : List ℕ) (n : ℕ) : Type 0 where
  -- empty names no removed face
  pub empty_kept : keep empty ≡ true
  -- an entry is empty, or a face's number
  pub named : (p : ℕ) → p < n → (entry_at full p ≡ empty) ⊎ (entry_at full p < most_count)
  -- one that is kept stands there under its new number
  pub stays : (p : ℕ) → p < n → keep (entry_at full p) ≡ true → entry_at short p ≡ renumber empty keep (entry_at full p)
