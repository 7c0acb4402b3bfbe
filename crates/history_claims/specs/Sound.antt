-- What holds of every lawful history, as one record of eight. A sentence of a field that begins with *and* or *so* goes on from
-- that of the field before it.
use Rattle.std.specs.Prelude.{◌≡◌, true, List}
use Rattle.scenario_text.specs.declared.line.Line.{Line}
use Rattle.world_history.specs.State.{World}
use Rattle.world_history.specs.Guesses.{unguessed}
use Rattle.world_history.specs.History.{StandsFor, Lawful}
use Rattle.history_law.specs.Answered.{AreAnswered}
use Rattle.history_law.specs.Safe.{AtEachMoment, AtEachLine, IsSafe}
use Rattle.history_law.specs.Issued.{IssuedAt}
use Rattle.history_law.specs.Unforged.{AreUnforged, InjectedAt}
use Rattle.history_law.specs.Ranges.{AreRangesApart}
use Rattle.history_law.specs.Read.{AreWritten}
use Rattle.history_law.specs.Fenced.{FencesLast}
use Rattle.history_law.specs.Holder.{OwnUnlessForged}
use Rattle.component_law.specs.OnDrives.{AreComponentsApart}
use Rattle.history_claims.specs.Spread.{AreComponentsSpread}
use Rattle.history_claims.specs.Created.{FilesAreCreated}
use Rattle.history_claims.specs.Lanes.{HaveFairLanes, HaveOwnLanes}
use Rattle.history_claims.specs.LeftShort.{LeftShortAt}
use Rattle.history_claims.specs.Logged.{IsLoggedAt}
use Rattle.history_claims.specs.Numbered.{NumberedAt}
use Rattle.history_claims.specs.Stored.{StoredAt}
use Rattle.history_claims.specs.Received.{ReceivedAt}
use Rattle.history_claims.specs.Delivered.{EventsDeliver}
use Rattle.history_claims.specs.TimedOut.{AreTimedOut}
use Rattle.history_claims.specs.Refused.{AreRefused}
use Rattle.history_claims.specs.Recalled.{RecallsAreCaused}
use Rattle.history_claims.specs.Carried.{AreCarried, MetBytesAt}
use Rattle.component_law.specs.Given.{GivenBefore}
use Rattle.component_law.specs.Live.{AnswersAreLive}
use Rattle.component_law.specs.Barred.{FencesBar}
use Rattle.component_law.specs.Handed.{GivenWasLive}
use Rattle.exchange_law.specs.Judged.{JudgedAt}
use Rattle.exchange_law.specs.Awaited.{AwaitedAt}
use Rattle.exchange_law.specs.Counters.{HaveRoomAt}
use Rattle.exchange_law.specs.Text.{AreOfText, AreFew, WithinTheLimitAreFew}
use Rattle.exchange_law.specs.Exact.{IssuedExactlyAt, InjectedExactlyAt}
use Rattle.cause_law.specs.Calls.{EndsAt}
use Rattle.cause_law.specs.Answers.{RequestsAreAnswered}
use Rattle.cause_law.specs.Awaiting.{AwaitedHaveCauses, WereSentAt}
use Rattle.cause_law.specs.AwaitedEnds.{AwaitedHaveEnds}
use Rattle.cause_law.specs.Changes.{GrantsHaveCauses}
use Rattle.cause_law.specs.Components.{ComponentsHaveCauses}
use Rattle.cause_law.specs.EndedGrants.{EndedHaveCauses}
use Rattle.cause_law.specs.Ends.{CallsEndAsSaid}
use Rattle.cause_law.specs.FenceTags.{TagsHaveCauses}
use Rattle.cause_law.specs.Losses.{LossesHaveCauses}
use Rattle.cause_law.specs.Told.{MessagesAreCaused}
use Rattle.cause_law.specs.Ended.{CausedAt}
use Rattle.cause_law.specs.Pending.{CallsAreLeft}
use Rattle.cause_law.specs.Read.{AnswersAt}
use Rattle.cause_law.specs.ReadBytes.{BytesAt}
use Rattle.cause_law.specs.Unanswered.{UnansweredAt}
use Rattle.ready_law.specs.Answered.{EachReadyIsAnswered, EachReadyReadIsPlain}
use Rattle.ready_law.specs.Rested.{EachReadyLeavesRest}
use Rattle.ready_law.specs.Losses.{FilesBearLosses}
use Rattle.cause_law.specs.Numbers.{GrantsAreNamedOnce, ObjectsAreOwnAt}
use Rattle.cause_law.specs.Reopened.{CrashesBarAt}
use Rattle.component_law.specs.TagTags.{HaveTagsAt}
use Rattle.headline_law.specs.Claim.{HasNoBadAudit, IsRightIfCalm, RepairedAt}
use Rattle.history_claims.specs.Audits.{FoundsHaveCauses}
use Rattle.history_claims.specs.Formats.{FormatsHaveCauses}
use Rattle.history_claims.specs.Heard.{HeardHaveCauses}
use Rattle.history_claims.specs.Notes.{NotesHaveCauses}
use Rattle.history_claims.specs.Reach.{ReachesHaveCauses}
use Rattle.history_claims.specs.Refusals.{RefusalsAreTold}
use Rattle.history_claims.specs.Stages.{StagesHaveEnds}
use Rattle.history_claims.specs.Waiting.{JobsWait}
use Rattle.history_claims.specs.Texts.{EventsMakeText, CutsGoOn}

-- Safety of grants.
pub record AreGrantsSound (h : List Line) : Type 0 where
  -- grants of one file never conflict, none is live while a job runs on the file, and what is performed touches its own object
  -- and range alone
  pub safe : IsSafe h
  -- of two live grants of a file of which one is for writing, no byte of a component is inside the capabilities of both
  pub ranges : AtEachMoment AreRangesApart h
  -- each layout that the server sends a client is of a grant of this client that is live in the file's book at the end of the
  -- message's step, with the file's tag, map and components as they are there, or the client was sent the same before
  pub live : (w : World) → StandsFor w h → AreWritten h → AnswersAreLive h
  -- so in a whole history of a scenario's text with few messages whatever credential was given to a client leads back to the
  -- line at which its answer was first sent: the book at the end of that line's step has the grant live, and the capability is
  -- for a present component of the file as it is there, with the file's tag
  pub given : (w : World) → StandsFor w h → AreOfText h → AreFew h → GivenWasLive h
  -- in a whole history `high` of a file stays, or rises to the end of a grant for writing that is live after the step, and it
  -- reaches the end of each such grant that wasn't live before
  pub reached : (w : World) → StandsFor w h → AreWritten h → ReachesHaveCauses h

-- Drives and commands.
pub record AreDrivesSound (h : List Line) : Type 0 where
  -- in a whole history the line after each verdict on a delivered message is the drive's reply, as its rules give it, to who
  -- sent the message; no other message is in the step, and none in that of a verdict on injected bytes
  pub answered : (w : World) → StandsFor w h → AreAnswered h
  -- what a drive performs of a delivered message the server sent, or a client under a credential that an answer of the server
  -- gave this client before; injected bytes are, as far as nothing was guessed, the server's or such a client's
  pub issued : AtEachLine IssuedAt h
  -- in a history of a scenario's text with few messages, what is performed of a client is for a present component under a
  -- grant of this client
  pub exact : AreOfText h → AreFew h → AtEachLine IssuedExactlyAt h
  -- and so is what is performed of injected bytes, unless the server sent it, as far as nothing is forged
  pub allowed : AreOfText h → AreFew h → AtEachLine InjectedExactlyAt h
  -- what a drive performs of injected bytes is the server's, or was issued to a client, or carries a capability that the
  -- server gave a client, as far as nothing is forged
  pub listed : AtEachLine InjectedAt h
  -- nothing is forged where nothing was guessed
  pub fair : unguessed h ≡ true → AreUnforged h
  -- what is performed under the server's holder the server sent, as far as nothing is forged
  pub holders : AtEachLine OwnUnlessForged h
  -- at each moment each lane of an object is of a command of the lane's holder, the server or a client, or of one that carries
  -- what the server gave that client, as far as nothing is forged; where nothing was guessed it is of one that the holder
  -- sent; and no two lanes of an object have one holder
  pub lanes : AtEachMoment HaveFairLanes h
  pub own : AtEachMoment HaveOwnLanes h

-- Fences.
pub record AreFencesSound (h : List Line) : Type 0 where
  -- in a whole history, if nothing is forged up to the end of the step of a note that a fence is over, the objects of the
  -- file's components have the new tag there, and from there on no command of an earlier one is performed on them
  pub fenced : (w : World) → StandsFor w h → AreWritten h → FencesLast h
  -- and whatever grants of the file the server gave before that note are of an earlier tag
  pub older : (w : World) → StandsFor w h → AreWritten h → GivenBefore h
  -- so in a whole history of a scenario's text with few messages, if nothing is forged up to there, after that step no command
  -- is performed on the file's components that aren't missing whose capability was given for the file before the note
  pub barred : (w : World) → StandsFor w h → AreOfText h → AreFew h → FencesBar h
  -- between two moves of such a history, as far as nothing is forged, each component that isn't missing has an object with its
  -- file's tag, or with the next one while a fence of the file is open, unless its CREATE is awaited, its drive has failed, or
  -- the file isn't ready and no job of it runs
  pub tags : AtEachMoment HaveTagsAt h
  -- in a whole history the format of each file stays, but with the begin of a fence it becomes the server's, if that is greater,
  -- and it is 2 where a command of its job has too old a one and goes again; what its job awaits anew has it. A file that is
  -- made begins with the server's, which rises only by an event that asks for more
  pub formats : (w : World) → StandsFor w h → AreWritten h → FormatsHaveCauses h

-- Placement.
pub record IsPlacementSound (h : List Line) : Type 0 where
  -- where the events are such as a text has them, the components of each file are on different drives, and one that is made
  -- anew comes onto a further drive
  pub apart : AreWritten h → AtEachMoment AreComponentsApart h
  -- so those of a zoned file are spread over the zones into which events put drives: no zone has more of a group than its code
  -- brings back. If all lost ones were of one zone, each stripe can be read and written
  pub spread : AreWritten h → AtEachMoment AreComponentsSpread h
  -- in a whole history the CREATEs of the step in which a file is made go to the drives of its components, in order and one
  -- each, as the book has the file after the step
  pub created : (w : World) → StandsFor w h → AreWritten h → FilesAreCreated h
  -- at each moment, where the events are such as a text has them: if the missing components of a file are on drives that have
  -- failed, and fewer of its drives failed than one position more than its code brings back has replicas, no stripe of it has
  -- more positions lost than that
  pub losses : AreWritten h → AtEachMoment FilesBearLosses h

-- Causes: why the server does what it does.
pub record AreCausesSound (h : List Line) : Type 0 where
  -- in a whole history each request that is new to the server is answered in its step, and the answer tells the first row that
  -- applies to what the book has of the file then; the row says which grants are live after the step
  pub requests : (w : World) → StandsFor w h → AreWritten h → RequestsAreAnswered h
  -- and each message of the server to a client tells a recall, or an answer to a request that the same move hands the server:
  -- a new one, so that the answer is caused as before; the last one again, with the answer that was sent; or a misordered one
  pub answers : MessagesAreCaused h
  -- a recall is of a grant of its client, with a count that none had before; an order `recall` comes for a file of which the
  -- grant is live, or the grant is opposed to what a new request asks that is told to try later
  pub recalls : RecallsAreCaused h
  -- nothing else makes a grant of a file live or ends one, or changes the file's size, but a fence that an order to revoke,
  -- rebuild or audit the file begins, or an opening, and that ends all; and each of these does, while no job runs
  pub changes : (w : World) → StandsFor w h → AreWritten h → GrantsHaveCauses h
  -- the book has the grants that fences ended until a line tells that a repair of the file is over, which takes them all: a
  -- fence adds those that were live, and nothing else changes them
  pub ended : (w : World) → StandsFor w h → AreWritten h → EndedHaveCauses h
  -- and each file goes on with its map, and with its components as the notes of the step tell, after those on a drive that is
  -- declared, and that the server knows, became missing
  pub components : (w : World) → StandsFor w h → AreWritten h → ComponentsHaveCauses h
  -- so a component becomes missing only by its own note among them, or by such a declaration of its drive
  pub lost : (w : World) → StandsFor w h → AreWritten h → LossesHaveCauses h
  -- each file goes on with its tag too, unless just one note of the step tells that a fence of it is over: with the next tag,
  -- which is the file's then
  pub raised : (w : World) → StandsFor w h → AreWritten h → TagsHaveCauses h
  -- what the job of a file awaits after a step it awaited before, and what comes doesn't answer it, or the step sends it
  pub waits : (w : World) → StandsFor w h → AreWritten h → AwaitedHaveCauses h
  -- and what it awaits no more was answered, or its drive was taken out, or the server crashed or was opened; or another
  -- component was lost, and the job begins a piece that it reads again, or gives the target of a rebuild up
  pub until : (w : World) → StandsFor w h → AreWritten h → AwaitedHaveEnds h
  -- at each moment a job that runs awaits some command: so one that has its last answer goes on in the same step, or is over
  pub waiting : AtEachMoment JobsWait h
  -- so at each moment each command that a job awaits was sent to its drive, as far as a line can name the drive
  pub sent : AtEachMoment WereSentAt h
  -- in a whole history each note of the server has its cause in what the books have of the file before and after its step, and
  -- in what comes
  pub noted : (w : World) → StandsFor w h → AreWritten h → NotesHaveCauses h
  -- and what the job of a file is at, its CREATEs, its fence, its repair, a component or its audit, ends with its note alone,
  -- unless the server crashes or is opened
  pub stages : (w : World) → StandsFor w h → AreWritten h → StagesHaveEnds h
  -- that a job is refused on a file since one waits, or that a fence is needed and there is no further tag, is told
  pub refusals : (w : World) → StandsFor w h → AreWritten h → RefusalsAreTold h
  -- what an audit has left to read, and has found, it had before; or it goes on from what it has heard, or begins its piece
  -- again
  pub found : (w : World) → StandsFor w h → AreWritten h → FoundsHaveCauses h
  -- and what a job has heard it had heard before, or it is what a reply carries to a command that it awaited
  pub heard : (w : World) → StandsFor w h → AreWritten h → HeardHaveCauses h
  -- at each moment of a history of a scenario's text with few messages the server's counters have room: it lets no message and
  -- no opening be since a number has come to its end
  pub room : AtEachMoment HaveRoomAt h

-- Calls, and what the network does.
pub record AreCallsSound (h : List Line) : Type 0 where
  -- a call ends as what it met says, read off the lines before: the answers and replies that its client took in it, and the
  -- timeouts of what it awaited
  pub caused : AtEachLine CausedAt h
  -- a call that ends as refused by a drive was refused so: a message of its client was delivered to that drive before, which
  -- judged it so and didn't perform it
  pub judged : AtEachLine JudgedAt h
  -- and with few messages it was a command that the client's call awaited at that moment
  pub awaited : AtEachLine AwaitedAt h
  -- in a history of a scenario's text with few messages each call ends in one of the ways that are left to it
  pub ends : AreOfText h → AreFew h → AtEachLine EndsAt h
  -- in each move a call ends as only an answer says exactly if its client takes an answer that says so
  pub said : CallsEndAsSaid h
  -- and in each move a call is left pending exactly if the event came with it, ends there, and the call doesn't
  pub left : CallsAreLeft h
  -- so it is only if the request that its client waits for was outstanding already when the event began, or the server was
  -- down then: a server that is up answers in the event what is sent to it in the event
  pub unanswered : AtEachLine UnansweredAt h
  -- in a history of a scenario's text with few messages each call that is ready where its event begins, and whose event is
  -- over, ended in ok, which one line of the event tells, and within its bound of messages
  pub ready : AreWritten h → AreOfText h → AreFew h → EachReadyIsAnswered h
  -- and where no component of its file is lost, it left its client idle, which holds on the file what the server has of it
  -- there, and so it left each other client that was so before
  pub rests : AreWritten h → AreOfText h → AreFew h → EachReadyLeavesRest h
  -- the line of each message has the number of messages before it
  pub numbered : AtEachLine NumberedAt h
  -- what is delivered was sent. Its receiver is deaf to it exactly if it has failed, is down, was stopped, or isn't there;
  -- else a client or the server takes it, and a drive judges it
  pub received : AtEachLine ReceivedAt h
  -- an event that is over delivers just what it has to: a `do`, or one that makes a file, what is sent in it; `settle` what
  -- was open, or is sent in it; each once, in order; and `deliver` what it names
  pub delivers : EventsDeliver h
  -- a component times out exactly if an event `timeout` says so, or in a `do` in which no message is left and of those that
  -- the call awaits it is the lowest
  pub silent : AreTimedOut h
  -- a client refuses exactly a call while another is pending, or whose range passes a limit, or for which it has no number
  -- left, and to leave while a call is pending. An event that it refuses has just the line that tells it
  pub refuses : AreRefused h
  -- in a history of a scenario's text with few messages, where a line tells that a read was answered, or that some bytes were
  -- written, the log has the entry of this call, with its range, or its bytes; and so the judge sees it
  pub logged : AreWritten h → AreOfText h → AreFew h → AtEachLine IsLoggedAt h

-- What reads give.
pub record AreReadsSound (h : List Line) : Type 0 where
  -- an answered read took a reply to a READ that was performed, and for any file that agrees with what was read so in its call
  -- the answer is the file's bytes
  pub read : AtEachLine AnswersAt h
  -- each byte of the answer is one that such a reply of its own position gave; or, if the position is out by the layout and
  -- the timeouts, the data byte of the one codeword that has what such replies gave of its column
  pub bytes : AtEachLine BytesAt h
  -- what the replies carry that such a call met are bytes, as `bytes` asks, if the messages of the history are of bytes
  pub carried : AreCarried h → AtEachLine MetBytesAt h
  -- where a line tells that some bytes were written, each was carried by a WRITE that was performed, as a reply to the call
  -- says, to each replica of its position that isn't out by the layout and the timeouts, and no other byte was; so was one of
  -- each unit of parity in its column, that of each file that agrees with what the call read; and what timed out in the call
  -- was reported, and taken as a loss
  pub stored : AtEachLine StoredAt h
  -- the headline: up to each place up to which the history is of a scenario's text, with few messages, calm and unguessed, the
  -- judge accepts the log of each file. So every answered read gave, in order of start, the acknowledged writes before it, an
  -- unfinished write's bytes being old or new, once for all. And each stripe that isn't disturbed there is whole
  pub right : AtEachMoment IsRightIfCalm h
  -- and no audit found a bad stripe
  pub audits : AtEachMoment HasNoBadAudit h
  -- right after each note that a repair is over: the note stands for a repair that counted the stripes of the grants that
  -- fences ended by the book, so many, and left so many short; and if it left none short, no stripe that it counted is
  -- disturbed there
  pub mended : AtEachLine RepairedAt h
  -- and each stripe that it left short it counted, and a position of it has no present replica by the book there
  pub left_short : AtEachLine LeftShortAt h
  -- in a history of a scenario's text with few messages a ready read whose event is over and calm gave the bytes that the writes
  -- before it leave in order, if each of these was acknowledged
  pub plain : AreWritten h → AreOfText h → AreFew h → EachReadyReadIsPlain h

-- Crashes.
pub record AreCrashesSound (h : List Line) : Type 0 where
  -- at each moment of a history of a scenario's text with few messages, each file that had a live grant or a fence when the
  -- server crashed is barred, until a fence of it is over: clients are told no layout of it but such as they were sent before
  -- the crash, and none of its grants is live once the server was opened; one with the greatest tag is refused
  pub reopened : AtEachMoment CrashesBarAt h
  -- in a whole history no two layouts that are given to new requests name one grant, whatever crashes come between
  pub named : (w : World) → StandsFor w h → AreWritten h → GrantsAreNamedOnce h
  -- and at each moment each component has an object of its own: no other of any file has its number, or had it before
  pub objects : AtEachMoment ObjectsAreOwnAt h

-- What the lines of a sound history say, by what a reader looks for.
pub record IsSound (h : List Line) : Type 0 where
  pub grants : AreGrantsSound h
  pub drives : AreDrivesSound h
  pub fences : AreFencesSound h
  pub placement : IsPlacementSound h
  pub causes : AreCausesSound h
  pub calls : AreCallsSound h
  pub reads : AreReadsSound h
  pub crashes : AreCrashesSound h

-- it holds of each lawful history, whatever its events name
abbrev pub HoldsIfLawful : (List Line → Type 0) → Type 0
HoldsIfLawful P = (h : List Line) → Lawful h → P h

-- Each lawful history is sound, whatever its events name. Where a text may have the events, it is one of a scenario's text;
-- and where a world that stands for it is within the limit of kept bytes, it has few messages. A history that is cut at that
-- limit goes on being of a text.
pub record HistoriesAreSound : Type 0 where
  pub sound : (h : List Line) → Lawful h → IsSound h
  pub text : EventsMakeText
  pub few : WithinTheLimitAreFew
  pub cuts : CutsGoOn
