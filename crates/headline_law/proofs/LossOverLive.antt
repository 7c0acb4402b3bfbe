-- What a loss on another file returns is live there; and what is returned where a kept answer takes a loss is over behind a step
-- of the server, by what is known of losses.
-- Towards `CutsKeepEntries` (`specs/EntriesTied.antt`).
use Rattle.std.proofs.Common.{◌≡◌, sym, ◌∙◌}
use Rattle.server_rules.proofs.FileLaws.{number_at}
use Rattle.world_history.specs.ServerNames.{ClientRequest}
use Rattle.world_history.specs.Sending.{move}
use Rattle.exchange_law.specs.Requests.{OneRequest}
use Rattle.server_rules.proofs.FileLaws.{file_in}
use Rattle.component_law.proofs.Server.{grant_in}
use Rattle.headline_law.proofs.EntriesServerTied.{ServersKeepOver}
use Rattle.headline_law.proofs.LossOthers.{IsLive, ReturnsAreLive, loss_live, elsewhere}
use Rattle.headline_law.proofs.LossOver.{servers_keep_over}
use Rattle.headline_law.proofs.LossOverNew.{OthersAreLive, NewLossLaws, new_losses_are_over}

pub others_are_live : ReturnsAreLive → OthersAreLive
others_are_live live w h m count f g s pairs k i is loss d new away number at_ =
    let q : ClientRequest = loss.request in
    let l : IsLive w.server q = loss_live w.server m.chosen i loss new in
    let same : g.kept.number ≡ f.kept.number =
    number_at (move w m).world.server.files f.kept.number g k.shown.follows.goes in
    let its : l.file.kept.number ≡ q.file = number_at w.server.files q.file l.file l.there in (
      l.file,
      l.granted.grant,
      file_in w.server.files q.file l.file l.there,
      λ here. elsewhere w.server m.chosen i g loss new away (sym its ∙ here ∙ sym same),
      (grant_in l.file.kept.grants q.client l.granted.grant l.granted.has).0,
      live w h m count f g s pairs k i is loss d new l.file l.there l.granted.grant l.granted.has number at_,
    )

-- What is returned where a kept answer takes a loss is over behind each step of the server.
pub returns_stay_over : OneRequest → NewLossLaws → ServersKeepOver
returns_stay_over one laws = servers_keep_over one laws.ahead (new_losses_are_over laws)
