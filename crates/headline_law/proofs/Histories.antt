-- The laws of all histories, as each part of the proof of the headline takes them.
use Rattle.exchange_law.proofs.RefusalClients.{Known}
use Rattle.relation_law.specs.RequestsGoing.{MayLaws}
use Rattle.relation_law.proofs.ComponentsMade.{MadeLaws}
use Rattle.relation_law.proofs.ComponentsMoved.{MovedLaws}
use Rattle.relation_law.proofs.ComponentsSenders.{SenderLaws}
use Rattle.relation_law.proofs.OwnedBefore.{OwnedLaws}
use Rattle.relation_law.proofs.OwnedJoined.{JoinLaws}
use Rattle.relation_law.proofs.RequestsReturns.{HeldLaws}
use Rattle.relation_law.proofs.ReturnsRight.{RightLaws}
use Rattle.headline_law.specs.Histories.{HistoriesAreLawful}
use Rattle.headline_law.specs.Parts.{CutsHaveRoom}
use Rattle.headline_law.specs.Returned.{ReturnsAreLow}
use Rattle.headline_law.proofs.BirthWorld.{BirthLaws}
use Rattle.headline_law.proofs.ClientLawful as client
use Rattle.headline_law.proofs.CreationShown.{CreationLaws}
use Rattle.headline_law.proofs.LinesWhole.{LineLaws}
use Rattle.headline_law.proofs.MarksPending.{PendingLaws}
use Rattle.headline_law.proofs.MendedCuts.{RepairLaws}
use Rattle.headline_law.proofs.NotLogged.{LoggedLaws, none_is_logged_behind}
use Rattle.headline_law.proofs.PlacesWrites.{PlaceLaws}
use Rattle.headline_law.proofs.RowsGo.{RowLaws}
use Rattle.headline_law.proofs.SentMove.{SentLaws}
use Rattle.headline_law.proofs.ServerFenced.{FencedLaws}
use Rattle.headline_law.proofs.ShownWhole.{ShownLaws}

module _ (l : HistoriesAreLawful) where
  pub made : MadeLaws
  made = record {
    more = l.one_event_more;
    run = l.server_sent_its_run;
    given = l.each_tag_was_sent;
    ahead = l.no_command_is_ahead;
    fits = l.all_files_fit;
    counted = l.server_is_counted;
    holder = l.holder_is_server;
    stands = l.each_step_stands;
    first = l.creates_are_first;
  }

  pub known : Known
  known = record {
    further = l.one_event_more;
    counted = l.grants_are_counted;
    one = l.one_request;
    in_step = l.clients_are_in_step;
  }

  pub right : RightLaws
  right = record {
    world = record {
      more = l.one_event_more;
      safe = l.grants_are_safe;
      in_step = l.clients_are_in_step;
      agree = l.clients_agree;
      listed = l.components_agree;
    };
    readable = l.files_and_answers_are_readable;
  }

  pub repairs : RepairLaws
  repairs = record {
    one_event_more = l.one_event_more;
    grants_are_safe = l.grants_are_safe;
    steps_go_on = l.steps_go_on;
    all_lines_go_on = l.all_lines_go_on;
  }

  pub held : HeldLaws
  held = record { right = right; own = l.answers_are_own }

  pub senders : SenderLaws
  senders = record {
    ahead = l.no_command_is_ahead;
    counted = l.server_is_counted;
    fits = l.all_files_fit;
    answers = l.answers_are_fit;
    places = l.places_are_enough;
  }

  pub moved : MovedLaws
  moved = record {
    made = made;
    known = known;
    held = held;
    room = l.counters_stay_low;
    others = l.server_writes_to_others;
    unforged = l.unguessed_are_unforged;
    raises = l.each_step_raises_tags;
    fresh = l.grants_are_fresh;
    senders = senders;
    answers = l.answers_are_fit;
    sound = l.each_step_is_sound;
  }

  pub owned : OwnedLaws
  owned = record { more = l.one_event_more; counters = l.counters_stay_low; ahead = l.no_command_is_ahead }

  pub joined : JoinLaws
  joined = record {
    world = owned;
    fits = l.all_files_fit;
    unforged = l.unguessed_are_unforged;
    holder = l.holder_is_server;
    raises = l.each_step_raises_tags;
  }

  pub fenced : FencedLaws
  fenced = record { owned = owned; counted = l.server_is_counted; holder = l.holder_is_server }

  pub may : MayLaws
  may = record {
    in_step = l.clients_are_in_step;
    readable = l.files_and_answers_are_readable;
    own = l.answers_are_own;
  }

  pub places : PlaceLaws
  places = record {
    more = l.one_event_more;
    fits = l.all_files_fit;
    asks = l.jobs_ask_their_own;
    sends = l.each_send_is_awaited;
    texts = l.texts_are_named;
  }

  pub rows : RowLaws
  rows = record { world = owned; senders = senders; safe = l.each_step_is_safe }

  pub lines : LineLaws
  lines = record {
    clients = record { told = l.outcomes_are_told; named = l.clients_send_to_named };
    server = l.server_leaves_nothing_out;
    texts = l.texts_are_named;
  }

  pub shown : ShownLaws
  shown = record {
    book = l.book_is_read;
    more = l.one_event_more;
    grow = l.drives_grow;
    safe = l.grants_are_safe;
  }

  pub sent : SentLaws
  sent = record { moved = moved; clients = l.clients_are_counted }

  pub clients : client.ClientLaws
  clients = record {
    right = right;
    own = l.answers_are_own;
    counted = l.grants_are_counted;
    one = l.one_request;
  }

  pub logged : LoggedLaws
  logged = record {
    more = l.one_event_more;
    own = l.answers_are_own;
    agree = l.clients_agree;
    readable = l.files_and_answers_are_readable;
    calls = l.calls_of_text_are_pending;
  }

  pub pending : PendingLaws
  pending = record {
    calls = l.calls_of_text_are_pending;
    agree = l.clients_agree;
    readable = l.files_and_answers_are_readable;
    senders = senders;
  }

  pub births : ReturnsAreLow → BirthLaws
  births low = record {
    moved = moved;
    shown = shown;
    tells = l.each_step_tells;
    none = none_is_logged_behind logged;
    moments = l.moment_goes_on;
    lines = l.all_lines_go_on;
    pending = l.pending_is_read;
    calls = l.calls_of_text_are_pending;
    low = low;
  }

  pub creations : CutsHaveRoom → CreationLaws
  creations room = record {
    moved = moved;
    shown = shown;
    lines = l.all_lines_go_on;
    reading = record {
      book = l.book_is_read;
      moments = l.moment_goes_on;
      pending = l.pending_is_read;
      tells = l.each_step_tells;
      sound = l.each_step_is_sound;
    };
    logged = logged;
    room = room;
  }
