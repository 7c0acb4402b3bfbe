-- What is known of every history, and the headline is proved from: laws of the server, of clients, of drives and of messages.
use Rattle.world_history.specs.History.{OneEventMore}
use Rattle.world_history.specs.Laws.{MomentGoesOn, AllLinesGoOn, ServerGoesOn, StepsGoOn}
use Rattle.server_rules.specs.Laws.{EachStepIsSafe}
use Rattle.history_law.specs.Counters.{GrantsAreCounted}
use Rattle.history_law.specs.Grants.{GrantsAreSafe}
use Rattle.history_law.specs.Holder.{UnforgedHolderIsServer}
use Rattle.history_law.specs.Read.{BookIsRead, StepIsRead}
use Rattle.history_law.specs.Unforged.{UnguessedAreUnforged}
use Rattle.exchange_law.specs.Counters.{ClientsAreCounted, CountersStayLow, ServerIsCounted}
use Rattle.exchange_law.specs.Files.{AllFilesFit}
use Rattle.exchange_law.specs.InStep.{ClientsAreInStep}
use Rattle.exchange_law.specs.Lanes.{LanesAreOwn}
use Rattle.exchange_law.specs.Meeting.{ClientsAgree}
use Rattle.exchange_law.specs.Requests.{OneRequest}
use Rattle.exchange_law.specs.Taking.{AnswersAreOwn}
use Rattle.component_law.specs.FenceTags.{EachStepTellsTags}
use Rattle.component_law.specs.First.{CreatesAreFirst}
use Rattle.component_law.specs.LeftPending.{PendingIsRead}
use Rattle.component_law.specs.Going.{EachStepTells}
use Rattle.component_law.specs.Listed.{ComponentsAgree}
use Rattle.component_law.specs.Moments.{ServerWritesToOthers}
use Rattle.component_law.specs.Origin.{EachTagWasSent}
use Rattle.component_law.specs.Seeing.{SeenIsSound}
use Rattle.component_law.specs.Sent.{ServerSentItsRun}
use Rattle.component_law.specs.Sound.{EachStepIsSound}
use Rattle.component_law.specs.Standing.{EachStepStands}
use Rattle.component_law.specs.Tagged.{NoCommandIsAhead}
use Rattle.component_law.specs.Tags.{EachStepRaisesTags}
use Rattle.component_law.specs.Told.{LossesAreTold}
use Rattle.cause_law.specs.Fresh.{GrantsAreFresh}
use Rattle.cause_law.specs.Readable.{AnswersAreFit, FilesAndAnswersAreReadable, PlacesAreEnough}
use Rattle.component_law.specs.Offline.{OfflineHaveFailed}
use Rattle.name_law.specs.ClientSends.{ClientsSendToNamed}
use Rattle.name_law.specs.ClientTells.{CallsOfTextArePending, OutcomesOfTextAreTold}
use Rattle.name_law.specs.ServerNamed.{EachServerStepIsNamed}
use Rattle.name_law.specs.ServerTells.{ServerIsNamed, ServerLeavesNothingOut, TextsAreNamed}
use Rattle.fence_law.specs.Law.{IsAudited, IsJudged, IsWhole}
use Rattle.plan_law.specs.Layouts.{ColumnsHaveStripes, LayoutsAreCodes}
use Rattle.relation_law.specs.Awaiting.{JobsAskTheirOwn}
use Rattle.relation_law.specs.ComponentsFollow.{ComponentsFollow}
use Rattle.relation_law.specs.Growing.{DrivesGrow}
use Rattle.relation_law.specs.Joined.{OwnedFollows}
use Rattle.relation_law.specs.KeptFollows.{KeptParts}
use Rattle.relation_law.specs.Owning.{EachSendIsAwaited}
use Rattle.relation_law.specs.Quiet.{QuietFollows}
use Rattle.relation_law.specs.RequestsGoing.{RequestsFollow}
use Rattle.relation_law.specs.Runs.{ClientsKeepRuns}
use Rattle.relation_law.specs.Steps.{CallsGoOn}

-- laws of all histories, one by one
pub record HistoriesAreLawful : Type 0 where
  -- what is read off the lines
  pub one_event_more : OneEventMore
  pub moment_goes_on : MomentGoesOn
  pub all_lines_go_on : AllLinesGoOn
  pub server_goes_on : ServerGoesOn
  pub steps_go_on : StepsGoOn
  pub step_is_read : StepIsRead
  pub book_is_read : BookIsRead
  pub seen_is_sound : SeenIsSound
  pub pending_is_read : PendingIsRead
  pub losses_are_told : LossesAreTold
  pub texts_are_named : TextsAreNamed
  pub calls_of_text_are_pending : CallsOfTextArePending
  pub outcomes_are_told : OutcomesOfTextAreTold
  pub clients_send_to_named : ClientsSendToNamed
  pub server_leaves_nothing_out : ServerLeavesNothingOut
  -- the server
  pub each_step_is_safe : EachStepIsSafe
  pub each_step_is_sound : EachStepIsSound
  pub each_step_raises_tags : EachStepRaisesTags
  pub each_step_tells : EachStepTells
  pub each_step_tells_tags : EachStepTellsTags
  pub each_step_stands : EachStepStands
  pub grants_are_counted : GrantsAreCounted
  pub grants_are_safe : GrantsAreSafe
  pub grants_are_fresh : GrantsAreFresh
  pub server_is_counted : ServerIsCounted
  pub counters_stay_low : CountersStayLow
  pub all_files_fit : AllFilesFit
  pub server_writes_to_others : ServerWritesToOthers
  pub server_sent_its_run : ServerSentItsRun
  pub no_command_is_ahead : NoCommandIsAhead
  pub creates_are_first : CreatesAreFirst
  pub offline_have_failed : OfflineHaveFailed
  pub jobs_ask_their_own : JobsAskTheirOwn
  pub each_send_is_awaited : EachSendIsAwaited
  -- clients
  pub one_request : OneRequest
  pub clients_are_counted : ClientsAreCounted
  pub clients_are_in_step : ClientsAreInStep
  pub clients_agree : ClientsAgree
  pub components_agree : ComponentsAgree
  pub answers_are_own : AnswersAreOwn
  pub answers_are_fit : AnswersAreFit
  pub files_and_answers_are_readable : FilesAndAnswersAreReadable
  pub places_are_enough : PlacesAreEnough
  -- drives
  pub drives_grow : DrivesGrow
  pub each_tag_was_sent : EachTagWasSent
  pub holder_is_server : UnforgedHolderIsServer
  pub lanes_are_own : LanesAreOwn
  pub unguessed_are_unforged : UnguessedAreUnforged
  -- the names that lines tell
  pub server_is_named : ServerIsNamed
  pub each_server_step_is_named : EachServerStepIsNamed

-- laws of the machine of a file, and of what goes on with it and the world
pub record MachineIsLawful : Type 0 where
  pub layouts_are_codes : LayoutsAreCodes
  pub columns_have_stripes : ColumnsHaveStripes
  pub judged : IsJudged
  pub whole : IsWhole
  pub audited : IsAudited
  pub components_go_on : ComponentsFollow
  pub kept_goes_on : KeptParts
  pub requests_go_on : RequestsFollow
  pub calls_go_on : CallsGoOn
  pub clients_keep_runs : ClientsKeepRuns
  pub owned_follows : OwnedFollows
  pub quiet_follows : QuietFollows
