use Rattle.std.proofs.Common.{◌≡◌, ◌∙◌, sym, ap, false, is_some}
use Rattle.std.specs.Ordering.{nat_cmp}
use Rattle.std.specs.BTreeMap.{is_at, insert_entry}
use Rattle.std.specs.Map.{remove_entry}
use Rattle.osd_lists.proofs.Options.{none_there}
use Rattle.osd_objects.specs.Pages.{Pages, page_at, without_pages}
use Rattle.osd_objects.proofs.Entries.{removed_again}
use Rattle.osd_objects.proofs.PageLaws.{without_added}
use Rattle.osd_objects.proofs.pages.add_page.Goals as goal

pub returns-in-Ok-clause-ok : goal.returns-in-Ok-clause-ok
returns-in-Ok-clause-ok c =
    let none : is_some (page_at c.args.pages.now.entries c.args.number) ≡ false =
    sym c.contains_key.ensures ∙ c.if-contains_key.false in
    rw none (c.in_ok-insert.ensures.entries
    ∙ ap (insert_entry nat_cmp c.args.pages.now.entries c.args.number) c.in_ok-zeros.ensures)

pub returns-in-Ok-clause-back : goal.returns-in-Ok-clause-back
returns-in-Ok-clause-back c =
    ap (without_pages c.insert.new.self.entries) c.in-Ok.ensures.items
    ∙ without_added c.args.pages.now.entries c.insert.new.self.entries c.args.added.now.items c.args.number
    (sym c.contains_key.ensures ∙ c.if-contains_key.false)
    (c.in_ok-insert.ensures.entries ∙ ap (insert_entry nat_cmp c.args.pages.now.entries c.args.number) c.in_ok-zeros.ensures)

pub returns-in-Err-clause-err : goal.returns-in-Err-clause-err
returns-in-Err-clause-err c =
    c.remove.ensures.entries ∙ ap (remove_entry (is_at (nat_cmp c.args.number))) c.in_ok-insert.ensures.entries
    ∙ removed_again c.args.pages.now.entries c.args.number _ (none_there _ (sym c.contains_key.ensures ∙ c.if-contains_key.false))

pub returns-in-Err-clause-back : goal.returns-in-Err-clause-back
returns-in-Err-clause-back c =
    ap (without_pages c.remove.new.self.entries) c.in-Err.ensures.items
    ∙ ap (λ (x : Pages). without_pages x c.args.added.now.items)
    (c.remove.ensures.entries ∙ ap (remove_entry (is_at (nat_cmp c.args.number))) c.in_ok-insert.ensures.entries
    ∙ removed_again c.args.pages.now.entries c.args.number _
    (none_there _ (sym c.contains_key.ensures ∙ c.if-contains_key.false)))
