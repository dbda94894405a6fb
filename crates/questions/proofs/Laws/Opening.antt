-- Questions 1 to 3, asked together, and 6 and 7, and what follows them.
use Rattle.std.specs.Prelude.{ℕ, ◌/◌, ◌≡◌, refl, Bool, true, false, cond, List, [], ◌∷◌, ◌++◌, length}
use Rattle.questions.specs.Questions.{Question, first_no, sizes, channels, slices, all_below, names_faces, opening, naming, most_count}
use Rattle.questions.specs.Laws.{Sized, sized, Channels, channelled, Grouped, sliced, accepted, passes}

-- the first questions refuse, and so does the call
pub first_refused : (qs rest : List Question) → (first_no qs ≡ 0 → ⊥) → first_no qs ≡ first_no (qs ++ rest)
unfolding first_no
first_refused [] rest no0 = absurd (no0 refl)
first_refused (q ∷ qs) rest no0 = go q.answer (first_refused qs rest) no0
  where
    go : (a : Bool) → ((first_no qs ≡ 0 → ⊥) → first_no qs ≡ first_no (qs ++ rest)) → (cond a (first_no qs) q.number ≡ 0 → ⊥)
        → cond a (first_no qs) q.number ≡ cond a (first_no (qs ++ rest)) q.number
    go true more no0 = more no0
    go false more no0 = refl

-- what they say, answered yes
pub record Opened (w h c tri xyz : ℕ) : Type 0 where
  pub size : Sized 1 w h
  pub few : Channels c
  pub faces : Grouped 3 most_count tri
  pub vertices : Grouped 3 most_count xyz

module _ (w h c tri xyz : ℕ) (rest : List Question) where
  answers : first_no (opening w h c tri xyz ++ rest) ≡ 0
      → (sizes 1 w h ≡ true) × (channels c ≡ true) × (slices tri xyz ≡ true) × (first_no rest ≡ 0)
  answers e =
      let one = accepted 0 (sizes 1 w h) _ e in
      let two = accepted 1 (channels c) _ one.1 in
      let three = accepted 2 (slices tri xyz) _ two.1 in
      (one.0, two.0, three.0, three.1)

  pub opened : first_no (opening w h c tri xyz ++ rest) ≡ 0 → Opened w h c tri xyz × (first_no rest ≡ 0)
  opened e =
      let a = answers e in
      let threes = sliced tri xyz a.2 in
      (record { size = sized 1 w h a.0; few = channelled c a.1; faces = threes.0; vertices = threes.1 }, a.3)

-- past them, the questions that follow decide
pub past_opening : (w h c tri xyz : ℕ) (rest : List Question) {r : ℕ} → first_no (opening w h c tri xyz) ≡ 0 → r ≡ first_no rest → r ≡ first_no (opening w h c tri xyz ++ rest)
past_opening w h c tri xyz rest e k = let a = answers w h c tri xyz [] e in passes 1 _ a.0 (passes 2 _ a.1 (passes 3 _ a.2 k))

-- ---- questions 6 and 7

-- what they say, answered yes, and that the questions after them accept
pub named_well : (n : ℕ) (tri map : List ℕ) (rest : List Question) → first_no (naming n tri map ++ rest) ≡ 0
    → (all_below n tri ≡ true) × (names_faces (length tri / 3) map ≡ true) × (first_no rest ≡ 0)
named_well n tri map rest e =
    let six = accepted 5 (all_below n tri) _ e in
    let seven = accepted 6 (names_faces (length tri / 3) map) _ six.1 in
    (six.0, seven.0, seven.1)
