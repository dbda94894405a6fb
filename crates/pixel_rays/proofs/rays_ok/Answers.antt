use Rattle.std.proofs.Common.{rules, refl, sym, ◌∙◌}
use Rattle.std.proofs.lemmas.Iterator.Search.{all_from_yields_List}
use Rattle.lists.proofs.Ranges.{span_given}
use Rattle.pixel_rays.specs.Rays.{image}
use Rattle.pixel_rays.specs.Laws.{rays_by_rows}
use Rattle.pixel_rays.proofs.rays_ok.Goals as goal

pub returns : goal.returns
returns c =
    λ tri. all_from_yields_List _ _ _ _ c.all.ensures.ran (span_given _ refl) (λ iy b q k. search rules) ∙ sym (rays_by_rows (image c.args.size.w c.args.size.h c.args.m.now) tri c.args.pix2tri.now)
