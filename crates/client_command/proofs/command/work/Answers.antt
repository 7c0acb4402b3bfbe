use Rattle.cluster_text.specs.Outside.{streams}
use Rattle.client_command.specs.OnLinks.{on_links}
use Rattle.client_command.proofs.Stopping.{acting}
use Rattle.client_command.proofs.command.work.Goals as goal

pub returns-clause-stops : goal.returns-clause-stops
returns-clause-stops g c =
    acting c.args.words
    (streams (g.S.Source.left c.args.source.now) (g.S.Source.faults c.args.source.now)
    (g.K.Sink.taken c.args.sink.now) (g.K.Sink.faults c.args.sink.now))
    (streams (g.S.Source.left c.ask_from.new.source) (g.S.Source.faults c.ask_from.new.source)
    (g.K.Sink.taken c.work_in.new.sink) (g.K.Sink.faults c.work_in.new.sink))
    (on_links (g.L.Links.told c.args.links.now) (g.L.Links.faults c.args.links.now))
    (on_links (g.L.Links.told c.work_in.new.links) (g.L.Links.faults c.work_in.new.links))
    (g.L.Links.standing c.work_in.new.links) c.in-Err-work_in.stop c.in-Ok.parts.0 c.in-Ok.parts.1 c.in-Ok.ensures.asks c.in-Err-work_in.ensures.stops
