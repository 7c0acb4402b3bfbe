-- Calls that ended in ok are logged, and ready reads are plain, from laws of histories.
use Rattle.std.proofs.Common.{ℕ, List}
use Rattle.scenario_text.specs.declared.line.Line.{Line}
use Rattle.file_log.specs.OneList.{IsPlain, IsRangeFound}
use Rattle.world_history.specs.ReadLog.{log_in}
use Rattle.world_history.specs.State.{World}
use Rattle.world_history.specs.History.{FrontsAreLawful}
use Rattle.history_law.specs.Moments.{IsMoment}
use Rattle.exchange_law.specs.Pending.{IsPendingAt}
use Rattle.exchange_law.specs.Text.{AreOfText}
use Rattle.exchange_law.proofs.RefusalClients.{Known}
use Rattle.cause_law.specs.Readable.{FilesAndAnswersAreReadable}
use Rattle.ready_law.specs.Answered.{ReadyIsAnswered}
use Rattle.ready_law.specs.Events.{EventsStandApart}
use Rattle.ready_law.specs.Worlds.{ScenesAreRead}
use Rattle.ready_law.proofs.Going.{StagesGoOn}
use Rattle.headline_law.specs.Claim.{HeadlineHolds}
use Rattle.headline_law.specs.Reads.{ReadsAwaitReads}
use Rattle.history_claims.specs.Logged.{EndedAreLogged}
use Rattle.history_claims.specs.Plain.{ReadyReadsArePlain}
use Rattle.history_claims.proofs.Plain.{ready_reads_are_plain}
use Rattle.history_claims.proofs.PlainAlone.{ready_calls_are_alone}
use Rattle.history_claims.proofs.PlainAnswers.{ended_are_logged}
use Rattle.history_claims.proofs.PlainSent.{SentLaws, read_is_sent, scatter_is_sent}
use Rattle.history_claims.proofs.PlainWrites.{ScattersAwaitWrites}

-- ---- the log

pub record EndedLaws : Type 0 where
  pub known : Known
  pub pending : (w : World) (h : List Line) → IsMoment w h → AreOfText h → (c : ℕ) → IsPendingAt w (log_in h) c
  pub reads : ReadsAwaitReads
  pub writes : ScattersAwaitWrites

module _ (laws : EndedLaws) where
  sent : SentLaws
  sent = record {
    known = laws.known;
    pending = λ w h k t. laws.pending w h k t.text;
    reads = laws.reads;
    writes = laws.writes;
  }

  -- Each call that ended in ok, and did something, is logged.
  pub logged : EndedAreLogged
  logged =
      ended_are_logged (record {
        more = laws.known.further;
        pending = λ w h k t. laws.pending w h k t.text;
        sent = λ w h k m next t c call is read a i. read_is_sent sent w h k m next t c call is read a i;
        wrote = λ w h k m next t c call is scatters a i. scatter_is_sent sent w h k m next t c call is scatters a i;
      })

-- ---- ready reads

pub record ReadyReadLaws : Type 0 where
  pub fronts : FrontsAreLawful
  pub plain : IsPlain
  pub range : IsRangeFound
  pub answered : ReadyIsAnswered
  pub right : HeadlineHolds
  pub apart : EventsStandApart
  pub scenes : ScenesAreRead
  pub readable : FilesAndAnswersAreReadable
  pub stages : StagesGoOn
  pub logged : EndedAreLogged
  pub pending : (w : World) (h : List Line) → IsMoment w h → AreOfText h → (c : ℕ) → IsPendingAt w (log_in h) c

module _ (laws : ReadyReadLaws) where
  -- Each ready read of a calm event is plain.
  pub ready_reads : ReadyReadsArePlain
  ready_reads =
      ready_reads_are_plain (record {
        fronts = laws.fronts;
        plain = laws.plain;
        range = laws.range;
        answered = laws.answered;
        right = laws.right;
        alone = ready_calls_are_alone laws.apart laws.scenes laws.readable laws.stages;
        logged = laws.logged;
        apart = laws.apart;
        scenes = laws.scenes;
        pending = laws.pending;
      })
