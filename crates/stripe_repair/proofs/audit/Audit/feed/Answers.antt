use Rattle.std.proofs.Common.{sym, ◌∙◌, drop}
use Rattle.osd_lists.proofs.Options.{none_but}
use Rattle.server_rules.specs.Jobs.{audited_on}
use Rattle.server_rules.specs.Audit.{audits}
use Rattle.server_rules.specs.declared.jobs.Tally.{Tally}
use Rattle.stripe_repair.specs.Auditing.{state_of, bad_by}
use Rattle.stripe_repair.proofs.AuditLaws.{audited_past, audited_ends, same_audit}
use Rattle.stripe_repair.proofs.audit.Audit.feed.Goals as goal
use Rattle.stripe_repair.proofs.audit.Audit.feed.Goals.{in-Some+in_ok-mark_bad, in_default}

pub returns : goal.returns
returns c =
    let s = c.self.inside in
    let f = c.args.kept.now in
    let t : Tally = record { lengths = s.lengths; short = s.short; bad = s.bad } in
    rw (← c.self.view_is) (elim c.match-first.branch [
      | in-Some+in_ok-mark_bad w ↦
          same_audit c.next.result f c.args.nonce (λ g. audited_on g s.todo t c.args.heard.now)
          (λ g. audits g (drop 1 s.todo)
          (record t { bad = bad_by (state_of f w.in-Some.piece c.args.heard.now) w.in-Some.piece.stripe s.bad }))
          c.next.new.self
          (λ g at. audited_past f c.args.nonce g s.todo t c.args.heard.now w.in-Some.piece at
          (sym c.first.ensures ∙ w.in-Some.is))
          (rw (w.self-is, w.advance.ensures, w.in_ok-mark_bad.ensures) at c.next.ensures)
      | in_default w ↦
          same_audit c.next.result f c.args.nonce (λ g. audited_on g s.todo t c.args.heard.now)
          (λ g. audits g s.todo t) c.next.new.self
          (λ g at. audited_ends g s.todo t c.args.heard.now (sym c.first.ensures ∙ none_but c.first.result w.in_default.not-Some))
          (rw (w.self-is, ← c.self.view_is) at c.next.ensures)
    ])
