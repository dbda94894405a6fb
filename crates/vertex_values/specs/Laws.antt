-- What the questions say, answered yes.
use Rattle.std.specs.Prelude.{ℕ, ◌+◌, ◌*◌, ◌≤◌, ◌<◌, ◌≡◌, Bool, true, ◌&&◌, List, length}
use Rattle.std.proofs.Common.{mul-le-mul, mul-le-mul_right, arith}
use Rattle.lists.specs.Laws.Tests.{both}
use Rattle.questions.specs.Questions.{exact, most_count}
use Rattle.questions.specs.Laws.{Channels, accepted, exactly}
use Rattle.questions.proofs.Laws.Opening.{opened, named_well}
use Rattle.pixels.specs.Laws.{number_below}
use Rattle.meshes.specs.Sound.{SoundMap}
use Rattle.meshes.specs.Laws.{sound}
use Rattle.pixel_rays.specs.Rays.{Image}
use Rattle.vertex_values.specs.Pass.{Vertices, count}
use Rattle.vertex_values.specs.Questions.{exact_counts, exact_pass, closing, pass_code}

-- the channels of every vertex are few enough to be counted
pub few_fits : (n c : ℕ) → n ≤ most_count → Channels c → n * c ≤ 16777216
few_fits n c l k = mul-le-mul l k.most

pub exact_parts : (w h c n map val pixels : ℕ) → exact_counts w h c n map val pixels ≡ true → (map ≡ w * h) × (val ≡ n * c) × (pixels ≡ w * h * c)
unfolding exact_counts
exact_parts w h c n map val pixels e =
    let a = both (exact (w * h) map) _ e in
    let b = both (exact (n * c) val) _ a.1 in
    (exactly _ _ a.0, exactly _ _ b.0, exactly _ _ b.1)

-- what an accepted call knows, beside its own buffers
pub record Ready (g : Image) (s : Vertices) (tri map : List ℕ) (pixels : ℕ) : Type 0 where
  pub shown : SoundMap tri s.xyz map g.w g.h
  pub values : length s.val ≡ count s * s.channels
  pub channels : pixels ≡ g.w * g.h * s.channels

pub ready : (g : Image) (s : Vertices) (tri map : List ℕ) (pixels : ℕ) (others : Bool) → pass_code g s tri map pixels others ≡ 0 → Ready g s tri map pixels × (others ≡ true)
unfolding pass_code
ready g s tri map pixels others e =
    let o = opened g.w g.h s.channels (length tri) (length s.xyz) _ e in
    let four = accepted 3 (exact_pass g s map pixels && others) (closing g (count s) tri map) o.1 in
    let parts = both (exact_pass g s map pixels) _ four.0 in
    let k = exact_parts _ _ _ _ _ _ _ parts.0 in
    let q = named_well (count s) tri map _ four.1 in
    (record { shown = sound o.0.size o.0.faces o.0.vertices k.0 q.0 q.1; values = k.1; channels = k.2 }, parts.1)

-- ---- runs of c numbers

-- the run of the p-th of n
run_below : (p n c : ℕ) → p < n → p * c + c ≤ n * c
run_below p n c h = let m : (p + 1) * c ≤ n * c = mul-le-mul_right c (omega arith) in omega arith

-- number j of run v in a buffer of n runs of c
pub value_there : {len n c : ℕ} (v j : ℕ) → len ≡ n * c → v < n → j < c → v * c + j < len
value_there {len} {n} {c} v j e l k = rw e (omega (arith, run_below v n c l))

-- the same in a buffer of n runs of c
pub run_there : {v n c k len : ℕ} → k ≡ c → len ≡ n * c → v < n → v * k + k ≤ len
run_there {v} {n} {c} ek e l = rw (ek, e) (run_below v n c l)

-- pixel p: its entry is in the map, and its run of channels in a buffer
pub record Run (entries channels c p : ℕ) : Type 0 where
  pub entry : p < entries
  pub run : p * c + c ≤ channels

pub run_at : {w h entries channels ix iy : ℕ} (c : ℕ) → entries ≡ w * h → channels ≡ w * h * c → ix < w → iy < h → Run entries channels c (iy * w + ix)
run_at {w} {h} {entries} {channels} {ix} {iy} c e f a b =
    let below = number_below a b in
    record { entry = omega arith; run = omega (arith, run_below (iy * w + ix) (w * h) c below) }
