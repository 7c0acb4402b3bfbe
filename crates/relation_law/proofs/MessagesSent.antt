-- What clients sent stays sent in the machine.
-- Towards `SentGoesOn` (`specs/Steps.antt`).
use Rattle.std.proofs.Common.{◌≡◌, ℕ}
use Rattle.osd_commands.specs.declared.commands.Command.{Command}
use Rattle.fence_law.specs.State.{State}
use Rattle.fence_law.proofs.Open.{Known}
use Rattle.file_simulation.specs.Messages.{WasSent}
use Rattle.relation_law.specs.Frames.{LogGrows}

-- ---- what was sent stays sent

pub sent_stays : (s t : State) (c k : ℕ) (x : Command) → Known s → LogGrows s t → WasSent s c k x → WasSent t c k x
sent_stays s t c k x known grows was =
    let entry = (known was.write was.sent).entry in
    let same : t.start was.write.entry ≡ s.start was.write.entry = grows.start was.write.entry entry in
    record {
      write = was.write;
      sent = grows.writes was.write was.sent;
      holder = was.holder;
      grant = was.grant;
      tag = was.tag;
      nonce = was.nonce;
      at_ = was.at_;
      carries = record {
        content = rw same was.carries.content;
        part = rw same was.carries.part;
        just = rw same was.carries.just;
      };
    }
