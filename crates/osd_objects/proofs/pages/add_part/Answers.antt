use Rattle.std.proofs.Common.{rules, ◌≡◌, ◌+◌, ◌-◌, length, sym, arith}
use Rattle.osd_objects.proofs.PageLaws.{span_of_page, span_of_none}
use Rattle.osd_objects.proofs.pages.add_part.Goals as goal

pub returns-in-Some : goal.returns-in-Some
returns-in-Some c =
    rw (← span_of_page c.args.pages.now.entries c.in-Some.page.now c.args.at c.args.count (sym c.in-Some.ensures.value)
    (c.requires.full _ _ (sym c.in-Some.ensures.value)) c.requires.inside)
    (search rules)

pub returns-in-None : goal.returns-in-None
returns-in-None c =
    rw (← span_of_none c.args.pages.now.entries c.args.at c.args.count (sym c.in-None.ensures.value) c.requires.inside)
    (let n : c.len.result + c.args.count - length c.args.into.now ≡ c.args.count = omega (arith, c.len.ensures) in
    rw n at c.grow.ensures.ok)
