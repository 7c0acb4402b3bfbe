-- The stages of a ready call put together, over the laws of histories.
use Rattle.std.proofs.Common.{◌≡◌, ℕ, List, [], sym, subst, Ok}
use Rattle.std.proofs.lemmas.List.{append-nil}
use Rattle.osd_commands.specs.Commands.{spelling, reading}
use Rattle.scenario_text.specs.declared.line.Line.{Line}
use Rattle.world_history.specs.ClientNames.{Awaited}
use Rattle.world_history.specs.State.{World}
use Rattle.world_history.specs.Laws.{MessagesAreRead}
use Rattle.history_law.specs.Read.{BookIsRead}
use Rattle.component_law.specs.OnDrives.{StandApart, ComponentsStandApart}
use Rattle.component_law.specs.Objects.{EachObjectIsOwned}
use Rattle.component_law.specs.Sent.{ServerSentItsRun}
use Rattle.cause_law.specs.Readable.{FilesAndAnswersAreReadable}
use Rattle.load_law.proofs.Runs.{each_call_sends_few}
use Rattle.ready_law.specs.Answered.{ReadyIsAnswered}
use Rattle.ready_law.specs.Carried.{WorksUnder, IsServedBy, AwaitedAreServed, RepliesAreRead}
use Rattle.ready_law.specs.Clear.{ClearCommandsAreCarriedOut, RoomStays}
use Rattle.ready_law.specs.Enough.{LostAreListed}
use Rattle.ready_law.specs.Events.{EventsStandApart}
use Rattle.ready_law.specs.Fair.{IsFair}
use Rattle.ready_law.specs.Worlds.{ScenesAreRead}
use Rattle.ready_law.proofs.Going.{StagesGoOn}
use Rattle.ready_law.specs.Rested.{ReadyCallsLeaveRest}
use Rattle.ready_law.proofs.Answering.{ready_is_answered, ready_leaves_rest}
use Rattle.ready_law.proofs.AskingForms.{AskingLaws, BeginsToWork}
use Rattle.ready_law.proofs.AskingFirst.{asking_goes_on}
use Rattle.ready_law.proofs.AskingGiven.{getting_goes_on}
use Rattle.ready_law.proofs.AskingOpens.{opens_call}
use Rattle.ready_law.proofs.AskingRecalls.{recalling_goes_on}
use Rattle.ready_law.proofs.AskingReturns.{returning_goes_on, returned_goes_on}
use Rattle.ready_law.proofs.AskingSecond.{asking_again_goes_on}
use Rattle.ready_law.proofs.ClearAwaited.{ClearLaws, awaited_are_clear}
use Rattle.ready_law.proofs.ReadCommands.{awaited_are_read}
use Rattle.ready_law.proofs.ReadReplies.{replies_are_read}
use Rattle.ready_law.proofs.Reporting.{reporting_goes_on}
use Rattle.ready_law.proofs.ReportingAnswers.{committed_goes_on, reported_goes_on}
use Rattle.ready_law.proofs.ReportingCommits.{committing_goes_on}
use Rattle.ready_law.proofs.ReportingForms.{ReportingLaws}
use Rattle.ready_law.proofs.Working.{working_goes_on, working_times_out, working_awaits}
use Rattle.ready_law.proofs.WorkingApart.{BooksStandApart, files_stand_apart}
use Rattle.ready_law.proofs.WorkingBegins.{begins_to_work}
use Rattle.ready_law.proofs.WorkingForms.{WorkingLaws}

-- the laws on which a ready call stands
pub record ReadyLaws : Type 0 where
  pub asking : AskingLaws
  pub clear : ClearLaws
  pub read : BookIsRead
  pub messages : MessagesAreRead
  pub apart : ComponentsStandApart
  pub readable : FilesAndAnswersAreReadable
  pub owned : EachObjectIsOwned
  pub sent : ServerSentItsRun
  pub lost : LostAreListed
  pub room : RoomStays
  pub carried : ClearCommandsAreCarriedOut
  pub events : EventsStandApart
  pub scenes : ScenesAreRead

module _ (laws : ReadyLaws) where
  -- ---- what is awaited of drives

  read_there : (w : World) (h : List Line) → IsFair w h → (client : ℕ) (x : Awaited) (u : WorksUnder w client x)
      → reading (spelling x.command) ≡ Ok x.command
  read_there w h fair client x u =
      awaited_are_read laws.clear.answers laws.clear.places laws.clear.files laws.clear.components w h fair client x u

  served : AwaitedAreServed
  served w h fair up client x u d =
      let read = read_there w h fair client x u in
      let clear = awaited_are_clear laws.clear w h fair up client x u d read in
      record { drive_is = clear.0; read = read; clear = clear.1 }

  replies : RepliesAreRead
  replies w h fair up client x u d =
      let s : IsServedBy d = served w h fair up client x u d in
      replies_are_read laws.clear.places laws.carried w h fair client x u d s.drive_is s.read s.clear

  -- ---- where components stand

  books : BooksStandApart
  books h lawful named file f found =
      let here = laws.apart h lawful named h [] (sym (append-nil h)) file in
      (subst StandApart found here).0

  -- ---- the stages

  working : WorkingLaws
  working = record {
    asking = laws.asking;
    served = served;
    read = replies;
    few = each_call_sends_few;
    lost = laws.lost;
    offline = laws.clear.offline;
    room = laws.room;
    apart = files_stand_apart laws.read books;
  }

  reporting : ReportingLaws
  reporting = record { asking = laws.asking; owned = laws.owned; sent = laws.sent }

  begins : BeginsToWork
  begins = begins_to_work laws.asking

  pub stages : StagesGoOn
  stages = record {
    opens = opens_call laws.asking begins;
    returning = returning_goes_on laws.asking;
    returned = returned_goes_on laws.asking;
    asking = asking_goes_on laws.asking;
    recalling = recalling_goes_on laws.asking;
    asking_again = asking_again_goes_on laws.asking;
    getting = getting_goes_on laws.asking begins;
    working = working_goes_on working;
    waits = working_awaits;
    times_out = working_times_out working;
    committing = committing_goes_on reporting;
    committed = committed_goes_on reporting;
    reporting = reporting_goes_on reporting;
    reported = reported_goes_on reporting;
  }

  -- ---- all calls

  pub ready_calls_leave_rest : ReadyCallsLeaveRest
  ready_calls_leave_rest =
      ready_leaves_rest laws.asking.more laws.events laws.scenes laws.messages laws.asking.counts laws.readable stages
      laws.asking

  pub ready_calls_end_in_ok : ReadyIsAnswered
  ready_calls_end_in_ok =
      ready_is_answered laws.asking.more laws.events laws.scenes laws.messages laws.asking.counts laws.readable stages
