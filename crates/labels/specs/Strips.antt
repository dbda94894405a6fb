-- What the loops over the picture and its strips promise.
use Rattle.std.specs.Prelude.{ℕ, ◌+◌, Bool, List, eqb, get_or}
use Rattle.lists.specs.Lists.{span, every}
use Rattle.labels.specs.Labels.{label}

-- pixels in a strip
abbrev pub strip : ℕ
strip = 32

-- what the screen shows of pixel p
abbrev pub shown_at : List ℕ → List ℕ → ℕ → ℕ
shown_at tri2body pix2tri p = label tri2body (get_or pix2tri p 0)

-- whether n pixels from p on have that entry
abbrev pub all_show : List ℕ → ℕ → ℕ → ℕ → Bool
all_show pix2tri p n entry = every (λ i. eqb (get_or pix2tri (p + i) 0) entry) (span 0 n)
