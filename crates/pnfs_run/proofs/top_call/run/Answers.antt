use Rattle.std.proofs.Common.{◌∙◌, Some, ap, sym, map, string_bytes}
use Rattle.pnfs_run.specs.declared.party.Party.TheVariants.{Drive, StoredDrive, Server, StoredServer, Client}
use Rattle.pnfs_run.specs.Ends.{ends_at, ports_at}
use Rattle.pnfs_run.specs.Party.{party_of}
use Rattle.pnfs_run.proofs.Judging.{as_party}
use Rattle.pnfs_run.proofs.top_call.run.Goals as goal

pub returns-in-Some-Drive-clause-promise : goal.returns-in-Some-Drive-clause-promise
returns-in-Some-Drive-clause-promise g c =
    let words = map string_bytes c.args.words.now in
    let ports = ports_at g.P.Ports g.N.Notes c.args.ports.now c.args.lent.notes in
    as_party g.D.Disk c.args.lent.disk c.args.lent.disk (party_of words) Drive words
    (ends_at g.S.Source g.K.Sink g.L.Links g.C.Clock c.args.source.now c.args.sink.now c.args.links.now c.args.clock.now ports)
    (ends_at g.S.Source g.K.Sink g.L.Links g.C.Clock c.run_drive-status.new.source c.run_drive-status.new.sink c.args.links.now
    c.run_drive-status.new.clock (ports_at g.P.Ports g.N.Notes c.run_drive-status.new.ports c.run_drive-status.result.1))
    c.run_drive-status.result.0 (sym c.party_named.ensures ∙ c.in-Some-Drive.is ∙ ap Some c.in-Some-Drive.field-0-is)
    (c.run_drive-status.ensures.promise (g.L.Links.told c.args.links.now) (g.L.Links.faults c.args.links.now)
    (g.L.Links.standing c.args.links.now))

pub returns-in-Some-StoredDrive-clause-promise : goal.returns-in-Some-StoredDrive-clause-promise
returns-in-Some-StoredDrive-clause-promise g c =
    let words = map string_bytes c.args.words.now in
    let ports = ports_at g.P.Ports g.N.Notes c.args.ports.now c.args.lent.notes in
    as_party g.D.Disk c.args.lent.disk c.run_stored_drive.result.1.disk (party_of words) StoredDrive words
    (ends_at g.S.Source g.K.Sink g.L.Links g.C.Clock c.args.source.now c.args.sink.now c.args.links.now c.args.clock.now ports)
    (ends_at g.S.Source g.K.Sink g.L.Links g.C.Clock c.run_stored_drive.new.source c.run_stored_drive.new.sink c.args.links.now
    c.run_stored_drive.new.clock (ports_at g.P.Ports g.N.Notes c.run_stored_drive.new.ports c.run_stored_drive.result.1.notes))
    c.run_stored_drive.result.0
    (sym c.party_named.ensures ∙ c.in-Some-StoredDrive.is ∙ ap Some c.in-Some-StoredDrive.field-0-is)
    (c.run_stored_drive.ensures.promise (g.L.Links.told c.args.links.now) (g.L.Links.faults c.args.links.now)
    (g.L.Links.standing c.args.links.now))

pub returns-in-Some-Server-clause-promise : goal.returns-in-Some-Server-clause-promise
returns-in-Some-Server-clause-promise g c =
    let words = map string_bytes c.args.words.now in
    let ports = ports_at g.P.Ports g.N.Notes c.args.ports.now c.args.lent.notes in
    as_party g.D.Disk c.args.lent.disk c.args.lent.disk (party_of words) Server words
    (ends_at g.S.Source g.K.Sink g.L.Links g.C.Clock c.args.source.now c.args.sink.now c.args.links.now c.args.clock.now ports)
    (ends_at g.S.Source g.K.Sink g.L.Links g.C.Clock c.run_server.new.source c.run_server.new.sink c.run_server.new.links
    c.run_server.new.clock ports)
    c.run_server.result (sym c.party_named.ensures ∙ c.in-Some-Server.is ∙ ap Some c.in-Some-Server.field-0-is)
    (c.run_server.ensures.promise ports)

pub returns-in-Some-StoredServer-clause-promise : goal.returns-in-Some-StoredServer-clause-promise
returns-in-Some-StoredServer-clause-promise g c =
    let words = map string_bytes c.args.words.now in
    let ports = ports_at g.P.Ports g.N.Notes c.args.ports.now c.args.lent.notes in
    as_party g.D.Disk c.args.lent.disk c.run_stored_server-status.result.1 (party_of words) StoredServer words
    (ends_at g.S.Source g.K.Sink g.L.Links g.C.Clock c.args.source.now c.args.sink.now c.args.links.now c.args.clock.now ports)
    (ends_at g.S.Source g.K.Sink g.L.Links g.C.Clock c.run_stored_server-status.new.source
    c.run_stored_server-status.new.sink c.run_stored_server-status.new.links c.run_stored_server-status.new.clock ports)
    c.run_stored_server-status.result.0
    (sym c.party_named.ensures ∙ c.in-Some-StoredServer.is ∙ ap Some c.in-Some-StoredServer.field-0-is)
    (c.run_stored_server-status.ensures.promise ports)

pub returns-in-Some-Client-clause-promise : goal.returns-in-Some-Client-clause-promise
returns-in-Some-Client-clause-promise g c =
    let words = map string_bytes c.args.words.now in
    let ports = ports_at g.P.Ports g.N.Notes c.args.ports.now c.args.lent.notes in
    as_party g.D.Disk c.args.lent.disk c.args.lent.disk (party_of words) Client words
    (ends_at g.S.Source g.K.Sink g.L.Links g.C.Clock c.args.source.now c.args.sink.now c.args.links.now c.args.clock.now ports)
    (ends_at g.S.Source g.K.Sink g.L.Links g.C.Clock c.run_client.new.source c.run_client.new.sink c.run_client.new.links
    c.args.clock.now ports)
    c.run_client.result (sym c.party_named.ensures ∙ c.in-Some-Client.is ∙ ap Some c.in-Some-Client.field-0-is)
    (c.run_client.ensures.promise (g.C.Clock.times c.args.clock.now) ports)
