use Rattle.std.proofs.Common.{◌≡◌, ◌∙◌, ◌-◌, ◌++◌, ℕ, List, [], take, sym, ap}
use Rattle.osd_objects.specs.Pages.{Pages, without_pages}
use Rattle.osd_objects.proofs.PageLaws.{without_last, without_none}
use Rattle.osd_objects.proofs.pages.take_out.Goals as goal

pub loop-number-preserved-in-Some : goal.loop-number-preserved-in-Some
loop-number-preserved-in-Some c =
    ap (λ (x : Pages). without_pages x c.pop.new.self.items) c.remove.ensures.entries
    ∙ sym (without_last c.loop-number.pages.entries c.pop.new.self.items c.in-Some.number)
    ∙ ap (without_pages c.loop-number.pages.entries) (sym c.in-Some.ensures.items) ∙ c.loop-number.invariant

pub loop-number-preserved : goal.loop-number-preserved
loop-number-preserved c =
    ap (λ (x : Pages). without_pages x c.pop.new.self.items) c.remove.ensures.entries
    ∙ sym (without_last c.loop-number.pages.entries c.pop.new.self.items c.in-Some.number)
    ∙ ap (without_pages c.loop-number.pages.entries) (sym c.in-Some.ensures.items) ∙ c.loop-number.invariant

pub returns : goal.returns
returns c =
    let items = c.loop-number.numbers.items in
    let none : items ≡ [] =
    c.in_default.ensures.items
    ∙ ap (λ (x : List ℕ). x ++ []) (c.in_default.ensures.rest ∙ ap (λ n. take (n - 1) items) c.in_default.ensures.cases.0) in
    sym (without_none c.loop-number.pages.entries items none) ∙ c.loop-number.invariant
