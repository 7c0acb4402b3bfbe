use Rattle.std.proofs.Common.{rules, ◌≡◌, ◌<◌, ◌∙◌, length, [], take, Some, inr, sym, ap, arith}
use Rattle.osd_bytes.specs.Inboxes.{Coming}
use Rattle.osd_bytes.proofs.InboxLaws.{piece-reads, taken-nil, taken-piece, taken-end, unbroken}
use Rattle.osd_bytes.proofs.inbox.Inbox.more.Goals as goal

pub returns-in_err-grow-clause-taken : goal.returns-in_err-grow-clause-taken
returns-in_err-grow-clause-taken g c = (
  [],
  taken-nil (g.L.Links.told c.args.links.now),
  omega (arith, ap (λ (i : Coming). i.room) c.self.view_is),
  search rules,
)

pub returns-in-Ok-eq0-clause-taken : goal.returns-in-Ok-eq0-clause-taken
returns-in-Ok-eq0-clause-taken g c = (
  [],
  taken-piece (g.L.Links.told c.args.links.now) (g.L.Links.told c.take.new.self) c.take.new.buf 0
      (rw c.in-Ok-eq0.field-0-test at c.in-Ok-eq0.ensures.told),
  omega (arith, ap (λ (i : Coming). i.room) c.self.view_is),
  search rules,
)

pub returns-in-Ok-eq0-clause-over : goal.returns-in-Ok-eq0-clause-over
returns-in-Ok-eq0-clause-over g c =
    let room : 0 < length c.take.new.buf = search rules in (
      c.self.view_is,
      inr (inr (inr
          (taken-end (g.L.Links.told c.args.links.now) (g.L.Links.told c.take.new.self) c.take.new.buf room
          (rw c.in-Ok-eq0.field-0-test at c.in-Ok-eq0.ensures.told)))),
    )

pub returns-in_err-self-inside-in-Ok-clause-taken : goal.returns-in_err-self-inside-in-Ok-clause-taken
returns-in_err-self-inside-in-Ok-clause-taken g c = (
  take c.in-Ok.count c.take.new.buf,
  taken-piece (g.L.Links.told c.args.links.now)
      (g.L.Links.told c.take.new.self) c.take.new.buf c.in-Ok.count c.in-Ok.ensures.told,
  rw (sym (ap (λ (i : Coming). i.room) c.self.view_is)) (search rules),
  search rules,
)

pub returns-in_ok-self-inside-in-Ok-clause-taken : goal.returns-in_ok-self-inside-in-Ok-clause-taken
returns-in_ok-self-inside-in-Ok-clause-taken g c =
    let whole : c.args.self.now.begun ≡ Some c.self.inside.stream =
    sym (ap (λ (i : Coming). i.begun) c.self.view_is)
    ∙ unbroken c.self.inside.is_broken c.self.inside.stream (search rules) in (
      take c.in-Ok.count c.take.new.buf,
      taken-piece (g.L.Links.told c.args.links.now)
          (g.L.Links.told c.take.new.self) c.take.new.buf c.in-Ok.count c.in-Ok.ensures.told,
      rw (sym (ap (λ (i : Coming). i.room) c.self.view_is)) (search rules),
      λ before given h. piece-reads before _ given c.read_piece.new.records c.self.inside.stream _ (rw whole at h)
          (rw c.split_at.ensures.front at c.in_ok-self-inside-in-Ok.ensures),
    )
