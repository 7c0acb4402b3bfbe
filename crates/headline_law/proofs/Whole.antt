-- The headline, by the laws of histories and of the machine.
use Rattle.file_simulation.specs.Claim.{AuditsFindNone, HeadlineHolds}
use Rattle.file_simulation.specs.Conclusion.{FilesAreShaped, RunsGiveTheHeadline, SimulationGivesRuns}
use Rattle.file_simulation.specs.Simulation.{EachFileIsCreated, EachMoveGoesOn}
use Rattle.headline_law.specs.Ending.{NotesAreKnown}
use Rattle.headline_law.specs.EntriesTied.{CutsKeepEntries, ServersKeepEntries}
use Rattle.headline_law.specs.Histories.{HistoriesAreLawful, MachineIsLawful}
use Rattle.headline_law.specs.MarksTied.{WritesStayTied}
use Rattle.headline_law.proofs.AuditGo.{audits_find_none}
use Rattle.headline_law.proofs.BirthWorld.{each_file_is_created}
use Rattle.headline_law.proofs.CalmAnswers.{followed_answers_fit}
use Rattle.headline_law.proofs.CalmCuts.{cuts_are_seen}
use Rattle.headline_law.proofs.CalmTaken.{told_are_taken}
use Rattle.headline_law.proofs.CalmWorlds.{CalmLaws, cuts_calm, cuts_marked, cuts_run, drives_go, servers_go}
use Rattle.headline_law.proofs.ClientLawful.{clients_are_lawful}
use Rattle.headline_law.proofs.CreationShown.{CreationLaws, creations_are_shown, none_is_logged_at_cuts}
use Rattle.headline_law.proofs.CutsJoined.{CutParts, each_cut_is_shown}
use Rattle.headline_law.proofs.DriveLawful.{drives_are_lawful}
use Rattle.headline_law.proofs.EntriesAll.{entries_are_kept}
use Rattle.headline_law.proofs.EntriesClients as entries
use Rattle.headline_law.proofs.EntriesCommands.{facts_of}
use Rattle.headline_law.proofs.EntriesServerAgain.{OthersAreApart, ReturnsAreAsked, losses_elsewhere}
use Rattle.headline_law.proofs.EntriesServerLosses.{LossReading}
use Rattle.headline_law.proofs.EntriesServerOver.{losses_are_over}
use Rattle.headline_law.proofs.EntriesServerReported.{LossesAreSole, losses_are_reported}
use Rattle.headline_law.proofs.EntriesServerTied.{servers_keep}
use Rattle.headline_law.proofs.EntriesShown.{ReadingLaws}
use Rattle.headline_law.proofs.Histories as known
use Rattle.headline_law.proofs.Joining.{InductionParts, RelationParts, RunParts, ShownParts, WorldParts, each_move_goes_on}
use Rattle.headline_law.proofs.LinesWhole.{events_have_lines, notes_are_told}
use Rattle.headline_law.proofs.LossApart.{servers_keep_apart}
use Rattle.headline_law.proofs.LossAsked.{AskedLaws, returns_are_asked, was_asked}
use Rattle.headline_law.proofs.LossOthersLive.{LiveLaws, returns_are_live}
use Rattle.headline_law.proofs.LossOthersReports.{losses_are_reports, others_hold}
use Rattle.headline_law.proofs.LossOverAhead.{grants_are_ahead}
use Rattle.headline_law.proofs.LossOverLive.{others_are_live, returns_stay_over}
use Rattle.headline_law.proofs.LossOverNew.{NewLossLaws}
use Rattle.headline_law.proofs.LossOverTold.{returns_are_told}
use Rattle.headline_law.proofs.LossSoleReturned.{losses_are_sole_by}
use Rattle.headline_law.proofs.MarksNewJoined.{writes_stay}
use Rattle.headline_law.proofs.MarksNewPending.{sent_are_logged}
use Rattle.headline_law.proofs.MarksPending.{sent_in_writes}
use Rattle.headline_law.proofs.MarksWritesJoined.{TiedLaws}
use Rattle.headline_law.proofs.OtherCuts.{others_show_components}
use Rattle.headline_law.proofs.OtherCutsServer.{others_show_files}
use Rattle.headline_law.proofs.Relation as relation
use Rattle.headline_law.proofs.RoomCuts.{cuts_have_room}
use Rattle.headline_law.proofs.ServerAhead.{ahead_is_lawful}
use Rattle.headline_law.proofs.ServerClients as server
use Rattle.headline_law.proofs.ServerCuts.{servers_show_components, servers_show_files}
use Rattle.headline_law.proofs.ServerJoined.{servers_are_lawful}

module _ (l : HistoriesAreLawful) (machine : MachineIsLawful) where
  notes : NotesAreKnown
  notes w h k named chosen i is n told =
      (l.each_server_step_is_named w.server chosen i (l.server_is_named w h k named) is).1.notes n told

  calm : CalmLaws
  calm = record {
    book = l.book_is_read;
    moment = l.moment_goes_on;
    more = l.one_event_more;
    sound = l.seen_is_sound;
    known = notes;
  }

  servers : server.ClientLaws
  servers = record {
    given = record {
      fenced = known.fenced l;
      unforged = l.unguessed_are_unforged;
      fits = l.all_files_fit;
      safe = l.grants_are_safe;
      sound = l.each_step_is_sound;
      others = l.server_writes_to_others;
      well = relation.well l;
      asked = relation.asked l;
    };
    may = known.may l;
    right = known.right l;
  }

  runs : RunParts
  runs = record {
    clients_lawful = clients_are_lawful (known.clients l);
    drives_lawful = drives_are_lawful (relation.drives l);
    servers_lawful = servers_are_lawful servers;
    ahead_lawful = ahead_is_lawful servers;
    clients_run = machine.clients_keep_runs;
    servers_run = servers_go calm;
    drives_run = drives_go calm;
    cuts_run = cuts_run calm;
  }

  reading : ReadingLaws
  reading = record {
    moments = l.moment_goes_on;
    lines = l.all_lines_go_on;
    pending = l.pending_is_read;
    more = l.one_event_more;
  }

  losses_read : LossReading
  losses_read = record { reading = reading; known = notes; told = l.losses_are_told }

  asked_laws : AskedLaws
  asked_laws = record {
    more = l.one_event_more;
    book = l.book_is_read;
    readable = l.files_and_answers_are_readable;
  }

  asked : ReturnsAreAsked
  asked = returns_are_asked asked_laws

  live_laws : LiveLaws
  live_laws = record {
    world = (known.right l).world;
    readable = l.files_and_answers_are_readable;
    fits = l.all_files_fit;
  }

  sole : LossesAreSole
  sole = losses_are_sole_by servers l.book_is_read

  others : OthersAreApart
  others = others_hold live_laws asked

  new_losses : NewLossLaws
  new_losses = record {
    reading = losses_read;
    low = relation.low l;
    ahead = grants_are_ahead l.grants_are_safe;
    told =
        returns_are_told l.clients_are_in_step l.files_and_answers_are_readable
        (λ w h m count f g s follows i loss d. was_asked asked_laws w h m count f g s follows i loss d);
    live = others_are_live (returns_are_live live_laws asked (losses_are_reports live_laws));
    others = others;
    reported = losses_are_reported l.book_is_read sole;
    over = losses_are_over (losses_are_reported l.book_is_read sole) (losses_elsewhere asked others);
  }

  server_keeps : ServersKeepEntries
  server_keeps =
      servers_keep losses_read (told_are_taken followed_answers_fit) l.book_is_read
      (record {
        sole = sole;
        asked = asked;
        others = others;
        apart = servers_keep_apart;
        over = returns_stay_over l.one_request new_losses;
      })

  entry_clients : entries.ClientLaws
  entry_clients = record {
    reading = reading;
    calls = l.calls_of_text_are_pending;
    told = l.outcomes_are_told;
    named = l.clients_send_to_named;
  }

  cuts_keep : CutsKeepEntries
  cuts_keep =
      entries_are_kept
      (facts_of (record {
        turns = record { client = entry_clients; held = known.held l };
        answers = l.answers_are_fit;
      }))
      (record {
        one = l.one_request;
        in_step = l.clients_are_in_step;
        lines = events_have_lines (known.lines l);
        calls = machine.calls_go_on;
      }) server_keeps

  parts_of : RelationParts
  parts_of = relation.relation l machine

  tied : TiedLaws
  tied = record {
    book = l.book_is_read;
    senders = known.senders l;
    sent = known.sent l;
    components = parts_of.components;
    lines = events_have_lines (known.lines l);
    notes = notes_are_told (known.lines l);
    runs = cuts_run calm;
  }

  writes : WritesStayTied
  writes = writes_stay (record {
    tied = tied;
    goes = parts_of.sent;
    logged = sent_are_logged (sent_in_writes (known.pending l));
    calls = parts_of.calls;
  })

  shown : ShownParts
  shown = record {
    entries = cuts_keep;
    marks = cuts_marked calm reading;
    writes = writes;
    calm = cuts_calm calm;
  }

  world : WorldParts
  world = record {
    sound = l.seen_is_sound;
    raises = l.each_step_raises_tags;
    lines = events_have_lines (known.lines l);
    notes = notes_are_told (known.lines l);
    shown = known.shown l;
  }

  parts : InductionParts
  parts = record {
    runs = runs;
    shown = shown;
    relation = parts_of;
    world = world;
    more = l.one_event_more;
    moments = l.moment_goes_on;
    lines = l.all_lines_go_on;
    pending = l.pending_is_read;
  }

  pub moves_go_on : EachMoveGoesOn
  moves_go_on = each_move_goes_on parts

  pub files_are_created : EachFileIsCreated
  files_are_created = each_file_is_created (known.births l (relation.low l))

  -- ---- cuts inside a move

  cut_parts : CutParts
  cut_parts = record {
    induction = parts;
    room = cuts_have_room;
    servers_files = servers_show_files (record {
      server = l.server_goes_on;
      lines = l.all_lines_go_on;
      seen = cuts_are_seen l.book_is_read l.moment_goes_on notes (told_are_taken followed_answers_fit);
    });
    servers_components = servers_show_components (record { rebuilt = relation.rebuilt_laws l; grow = l.drives_grow });
    others_files = others_show_files (record {
      book = l.book_is_read;
      reads = l.step_is_read;
      moments = l.moment_goes_on;
      pending = l.pending_is_read;
    });
    others_components = others_show_components (record { shown = known.shown l; drives = relation.drives l });
  }

  creation : CreationLaws
  creation = known.creations l cuts_have_room

  -- the headline, by the laws of the simulation and of the shape of files
  pub headline : SimulationGivesRuns → RunsGiveTheHeadline → FilesAreShaped → HeadlineHolds
  headline runs gives shaped =
      gives (runs moves_go_on files_are_created (each_cut_is_shown cut_parts) (creations_are_shown creation)) shaped
      (none_is_logged_at_cuts creation)

  pub audits_find : AuditsFindNone
  audits_find =
      audits_find_none (record {
        world = known.owned l;
        fits = l.all_files_fit;
        safe = l.each_step_is_safe;
        audited = machine.audited;
      }) l.moment_goes_on l.all_lines_go_on l.pending_is_read moves_go_on files_are_created
