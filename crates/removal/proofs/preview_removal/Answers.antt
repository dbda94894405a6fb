-- `removal::preview_removal`: refused with both layers as they were, or both drawn and compared.
use Rattle.std.specs.Prelude.{◌≡◌}
use Rattle.std.proofs.Common.{rules, sym}
use Rattle.cells.specs.Layer.{layer}
use Rattle.cells.specs.Lent.{held}
use Rattle.removal.proofs.Accepted.{refused, full_ready, short_ready, matched, done}
use Rattle.removal.proofs.preview_removal.Goals as goal

pub returns-in_err-ask_removal : goal.returns-in_err-ask_removal
returns-in_err-ask_removal c = search (rules, refused)

pub invariant_of-size : goal.invariant_of-size
invariant_of-size c = record { sized = (full_ready _ _ _ _ _ (layer _ _ _) (layer _ _ _) (sym c.in_ok-ask_removal.ensures)).0 }

pub invariant_of-full : goal.invariant_of-full
invariant_of-full c = record { spans = (full_ready _ _ _ _ _ (layer _ _ _) (layer _ _ _) (sym c.in_ok-ask_removal.ensures)).1.0 }

pub invariant_of-mesh : goal.invariant_of-mesh
invariant_of-mesh c = record { sound = (full_ready _ _ _ _ _ (layer _ _ _) (layer _ _ _) (sym c.in_ok-ask_removal.ensures)).1.1.0 }

pub draw_full-requires : goal.draw_full-requires
draw_full-requires c = record { count = (full_ready _ _ _ _ _ (layer _ _ _) (layer _ _ _) (sym c.in_ok-ask_removal.ensures)).1.1.1 }

pub invariant_of-short : goal.invariant_of-short
invariant_of-short c = record { spans = (short_ready _ _ _ _ _ (layer _ _ _) (layer _ _ _) (sym c.in_ok-ask_removal.ensures)).1.0 }

pub draw_short-requires-clause-count : goal.draw_short-requires-clause-count
draw_short-requires-clause-count c = (short_ready _ _ _ _ _ (layer _ _ _) (layer _ _ _) (sym c.in_ok-ask_removal.ensures)).1.1.1.0

pub draw_short-requires-clause-marks : goal.draw_short-requires-clause-marks
draw_short-requires-clause-marks c = (short_ready _ _ _ _ _ (layer _ _ _) (layer _ _ _) (sym c.in_ok-ask_removal.ensures)).1.1.1.1

pub count_pixels-requires-clause-matched : goal.count_pixels-requires-clause-matched
count_pixels-requires-clause-matched c =
    let drew : held c.draw_full.new.full ≡ _ = c.draw_full.ensures.drawn in
    search (rules, matched _ _ _ _ _ (layer _ _ _) (layer _ _ _) (sym c.in_ok-ask_removal.ensures) c.args.transform_world2ndc.now {full' = held c.draw_full.new.full} {short' = held c.draw_short.new.short} drew c.draw_short.ensures.drawn)

pub returns : goal.returns
returns c =
    done _ _ _ _ _ (layer _ _ _) (layer _ _ _) (sym c.in_ok-ask_removal.ensures) _ {full' = layer _ _ _} {short' = layer _ _ _} (search rules) (search rules)
    c.in_ok-ask_removal.ensures c.count_pixels.ensures
