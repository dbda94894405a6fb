-- What a call knows once it is accepted.
use Prim.Native.Nat.{ℕ, ◌*◌, ◌/◌}
use mathlib.Core.Path.{◌≡◌, sym}
use mathlib.Core.Bool.{true, ◌&&◌}
use mathlib.Core.List.{List, []}
use native.Mathlib.Omega.{arith}
use lib.Ieee.{Float}
use lib.ListN.{length}
use Rattle.questions.specs.Questions.{sizes, groups, exact, most_count}
use Rattle.lists.specs.Laws.Tests.{both}
use Rattle.questions.specs.Laws.{Sized, sized, grouped, whole, exactly, accepted}
use Rattle.pixels.specs.Edge.{hedge, vedge, edge_count}
use Rattle.velocity.specs.Calls.{velocity_code}

-- sides of at least 2 pixels are an image's
pub wide : {w h : ℕ} → Sized 2 w h → Sized 1 w h
wide s = let l = s.w_least in let k = s.h_least in record { w_least = omega arith; w_most = s.w_most; h_least = omega arith; h_most = s.h_most }

pub sized_wide : (w h : ℕ) → sizes 2 w h ≡ true → Sized 1 w h
sized_wide w h e = wide (sized 2 w h e)

pub record Ready (w h : ℕ) (hs vs xy velo : List Float) : Type 0 where
  pub size : Sized 2 w h
  pub pairs : 2 * (length xy / 2) ≡ length xy
  pub lent : length velo ≡ length xy
  pub hedges : length hs ≡ edge_count hedge w h
  pub vedges : length vs ≡ edge_count vedge w h

pub velocity_accepted : (w h : ℕ) (hs vs xy velo : List Float) → 0 ≡ velocity_code w h hs vs xy velo → Ready w h hs vs xy velo
unfolding velocity_code
velocity_accepted w h hs vs xy velo e =
    let a = accepted 0 (sizes 2 w h) _ (sym e) in
    let b = accepted 2 (groups 2 most_count (length xy)) _ a.1 in
    let c = accepted 3 (exact (edge_count hedge w h) (length hs) && (exact (edge_count vedge w h) (length vs) && exact (length xy) (length velo))) [] b.1 in
    let d = both (exact (edge_count hedge w h) (length hs)) _ c.0 in
    let f = both (exact (edge_count vedge w h) (length vs)) _ d.1 in
    record {
      size = sized 2 w h a.0;
      pairs = whole 2 most_count (length xy) (grouped 2 most_count (length xy) b.0);
      lent = exactly _ _ f.1;
      hedges = exactly _ _ d.0;
      vedges = exactly _ _ f.0;
    }
