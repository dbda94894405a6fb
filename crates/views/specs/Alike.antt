-- Two face slices with their maps that no pass can tell apart.
use Rattle.std.specs.Prelude.{ℕ, ◌/◌, ◌≡◌, List, length}
use Rattle.questions.specs.Questions.{groups, all_below, names_faces, most_count}
use Rattle.meshes.specs.View.{view_of}

-- all that the questions and the work of a pass with n vertices take of a face slice and a map
pub record Alike (n : ℕ) (tri names tri' names' : List ℕ) : Type 0 where
  pub slices : groups 3 most_count (length tri) ≡ groups 3 most_count (length tri')
  pub pixels : length names ≡ length names'
  pub corners : all_below n tri ≡ all_below n tri'
  pub entries : names_faces (length tri / 3) names ≡ names_faces (length tri' / 3) names'
  pub views : view_of tri names ≡ view_of tri' names'
