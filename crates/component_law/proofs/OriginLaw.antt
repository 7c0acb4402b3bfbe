-- Where the tags of objects come from, in the words of the lines.
use Rattle.std.proofs.Common.{ℕ, [], List, sym, ap, ◌∙◌}
use Rattle.osd_commands.specs.Commands.{reading}
use Rattle.scenario_text.specs.declared.line.Line.{Line}
use Rattle.world_history.specs.declared.messages.Sent.{Sent}
use Rattle.world_history.specs.Reading.{sent_in}
use Rattle.history_law.proofs.Each.{EachBehind, HoldsAt, each_front}
use Rattle.history_law.proofs.Histories.{lawful}
use Rattle.history_law.specs.Issued.{CommandsAreIssued}
use Rattle.history_law.specs.Unforged.{UnforgedAreIssued}
use Rattle.history_law.proofs.IssueLines.{IsKnown, all_known}
use Rattle.exchange_law.proofs.LanesLaw.{marked}
use Rattle.component_law.specs.Origin.{WasGivenTag, EachTagWasSent}
use Rattle.component_law.proofs.TagLines.{TagBy, tags_are_given}

was_given : (h : List Line) (drive object tag : ℕ) → TagBy h drive object tag → WasGivenTag h drive object tag
was_given h drive object tag b =
    let m = marked (sent_in h) b.sent.message b.sent.sent in
    record {
      number = m.number;
      message = m.message;
      there = m.there;
      sender = ap (λ (x : Sent). x.from) (sym m.is) ∙ b.sent.sender;
      receiver = ap (λ (x : Sent). x.to) (sym m.is) ∙ b.sent.receiver;
      command = b.command;
      read = ap (λ (x : Sent). reading x.bytes) (sym m.is) ∙ ap reading b.sent.bytes_are ∙ b.read;
      object_is = b.object_is;
      gives = b.gives;
    }

pub each_tag_was_sent : CommandsAreIssued → UnforgedAreIssued → EachTagWasSent
each_tag_was_sent issued injected h l fair drive a stands object x there =
    let more = lawful IsKnown all_known h l in
    let holds : EachBehind HoldsAt [] h = each_front HoldsAt [] h more.1 more.2.read.lines in
    was_given h drive object x.tag (tags_are_given h fair (issued h l) (injected h l) holds drive a stands object x there)
