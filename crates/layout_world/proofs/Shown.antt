-- Parties of which one thing changed show the world of which it changed.
use Rattle.std.proofs.Common.{◌≡◌, ℕ, Bool, List, refl}
use Rattle.world_history.specs.ServerNames.{Mended}
use Rattle.world_history.specs.State.{DriveAt, ClientAt, World, with_server, with_down}
use Rattle.layout_world.specs.ServerState.{WorldServerState}
use Rattle.layout_world.specs.declared.parties.Parties.{Parties}
use Rattle.layout_world.specs.State.{ShowsWith, Shows}

pub shows_drives : (ended : List Mended) (p : Parties) (t u : List (ℕ × DriveAt)) (w : World) → t ≡ u
    → ShowsWith ended p w → ShowsWith ended (record p { drives = t }) (record w { drives = u })
shows_drives ended p t u w e s = record {
  drives = e;
  clients = s.clients;
  server = s.server;
  clock = s.clock;
  down = s.down;
  network = s.network;
  settled = s.settled;
  mended = s.mended;
}

pub shows_clients : (ended : List Mended) (p : Parties) (t u : List (ℕ × ClientAt)) (w : World) → t ≡ u
    → ShowsWith ended p w → ShowsWith ended (record p { clients = t }) (record w { clients = u })
shows_clients ended p t u w e s = record {
  drives = s.drives;
  clients = e;
  server = s.server;
  clock = s.clock;
  down = s.down;
  network = s.network;
  settled = s.settled;
  mended = s.mended;
}

pub shows_server : (p : Parties) (x : WorldServerState) (w : World) → Shows p w
    → ShowsWith x.mended (record p { server = x }) (with_server w x.state)
shows_server p x w s = record {
  drives = s.drives;
  clients = s.clients;
  server = refl;
  clock = s.clock;
  down = s.down;
  network = s.network;
  settled = s.settled;
  mended = refl;
}

pub shows_down : (p : Parties) (b : Bool) (w : World) → Shows p w → Shows (record p { down = b }) (with_down w b)
shows_down p b w s = record {
  drives = s.drives;
  clients = s.clients;
  server = s.server;
  clock = s.clock;
  down = refl;
  network = s.network;
  settled = s.settled;
  mended = s.mended;
}
