-- The picture, filled pixel by pixel and strip by strip.
use Rattle.std.specs.Prelude.{ℕ, ◌+◌, ◌*◌, ◌/◌, ◌%◌, ◌≤◌, ◌≡◌, true, List, eqb, length, get_or}
use Rattle.std.proofs.Common.{sym, ap, ◌∙◌, arith, eqb-true}
use Rattle.lists.specs.Lists.{filled}
use Rattle.lists.specs.Laws.Every.{in_span}
use Rattle.lists.specs.Laws.Tables.{tabulate-map}
use Rattle.lists.specs.Laws.Filled.{filled_same, filled_on, filled_all}
use Rattle.labels.specs.Labels.{label, labelled}
use Rattle.labels.specs.Strips.{strip, shown_at, all_show}

-- a strip whose pixels have one entry
pub one_body : (t names : List ℕ) (p entry body : ℕ) (xs ys : List ℕ) → true ≡ all_show names p strip entry → body ≡ label t entry
    → ys ≡ filled (λ q. body) p strip xs → ys ≡ filled (shown_at t names) p strip xs
one_body t names p entry body xs ys same e one =
    one
    ∙ filled_same (λ q. body) p xs (shown_at t names) strip
    (λ i h. e ∙ ap (label t) (sym (eqb-true _ _ (in_span (λ k. eqb (get_or names (p + k) 0) entry) strip (sym same) i h))))

-- every strip, and the pixels that are left
pub labelled_all : (t names xs ys zs : List ℕ) (s : ℕ) → length xs ≡ length names → s ≤ length names / strip → length names / strip ≤ s
    → ys ≡ filled (shown_at t names) 0 (s * strip) xs → zs ≡ filled (shown_at t names) (length names / strip * strip) (length names % strip) ys → zs ≡ labelled t names
unfolding labelled
labelled_all t names xs ys zs s same l g strips rest =
    let n = length names in
    let f = shown_at t names in
    let e : s ≡ n / strip = omega arith in
    filled_on f xs ys zs (n / strip * strip) (n % strip) n (strips ∙ ap (λ (k : ℕ). filled f 0 (k * strip) xs) e) rest (omega arith)
    ∙ filled_all f xs n same
    ∙ tabulate-map (label t) 0 names
