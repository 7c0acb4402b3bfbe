use Rattle.std.proofs.Common.{rules, ◌≡◌, ◌∙◌, true, false, ap, sym}
use Rattle.reply_matching.specs.Answers.{is_answer_to}
use Rattle.client_command.specs.Exchanges.{dealing, on_links}
use Rattle.client_command.proofs.DealingLaws.{loses_answer}
use Rattle.client_command.proofs.server.exchange_with_server.Goals as goal

pub returns-then-branch-clause-loses : goal.returns-then-branch-clause-loses
returns-then-branch-clause-loses g c = λ is.
    let answers : is_answer_to c.args.message.now c.in-Some.record ≡ true = search rules in
    let still : c.in_ok-awaits_still-in-Some.field-0 ≡ true = search rules in
    loses_answer c.args.message.now c.in-Some.record
    (dealing c.args.core.now c.args.waiting.now c.args.notices.now (g.L.Links.told c.args.links.now)
    (g.L.Links.faults c.args.links.now))
    (dealing c.hear_reply.new.core c.hear_reply.new.waiting c.hear_reply.new.notices (g.L.Links.told c.asked.new.links)
    (g.L.Links.faults c.asked.new.links))
    answers (rw c.in-Some.is at c.in_ok-record.ensures.came)
    (ap (on_links (g.L.Links.told c.asked.new.links) (g.L.Links.faults c.asked.new.links))
    (c.in_ok-hear_reply-in-Some.ensures (g.L.Links.told c.args.links.now) (g.L.Links.faults c.args.links.now)))
    (c.in_ok-awaits_still-in-Some.ensures.0 still)

pub returns-else-branch-clause-asks : goal.returns-else-branch-clause-asks
returns-else-branch-clause-asks g c =
    let answers : is_answer_to c.args.message.now c.in-Some.record ≡ true = search rules in
    let over : c.in_ok-awaits_still-in-Some.field-0 ≡ false = search rules in
    record {
      came = c.in-Some.record;
      told = rw c.in-Some.is at c.in_ok-record.ensures.came;
      answers = answers;
      dealt = ap (on_links (g.L.Links.told c.asked.new.links) (g.L.Links.faults c.asked.new.links))
          (c.in_ok-hear_reply-in-Some.ensures (g.L.Links.told c.args.links.now) (g.L.Links.faults c.args.links.now));
      taken = λ a. absurd (cc (sym over ∙ c.in_ok-awaits_still-in-Some.ensures.1 a));
    }
