use Rattle.std.proofs.Common.{◌∙◌, sym, refl}
use Rattle.osd_objects.proofs.PageLaws.{with_no_page, page_is_added, without_none}
use Rattle.osd_objects.proofs.pages.fill.Goals as goal

pub loop-number-init : goal.loop-number-init
loop-number-init c = record { forth = refl; back = without_none _ _ c.new-added.ensures.items }

pub loop-number-preserved : goal.loop-number-preserved
loop-number-preserved c = record {
  forth = page_is_added c.loop-number.pages.entries c.add_page.new.pages.entries c.loop-number.number c.args.end
      c.loop-number-test.true c.in-Ok.ensures.ok ∙ c.loop-number.invariant.forth;
  back = c.add_page.ensures.back ∙ c.loop-number.invariant.back;
}

pub returns-clause-ok : goal.returns-clause-ok
returns-clause-ok c =
    sym (with_no_page c.loop-number.pages.entries c.loop-number.number c.args.end c.loop-number-test.false)
    ∙ c.loop-number.invariant.forth
