-- What a client's call has behind the first line of its turn, in each case of the turn.
-- Towards `SentGoesOn` and `ReadsFollow` (`relation_law/specs/Steps.antt`, `headline_law/specs/Parts.antt`).
use Rattle.std.proofs.Common.{◌≡◌, ◌==◌, ℕ, List, [], Some, refl, ap}
use Rattle.osd_commands.specs.declared.replies.Reply.{Reply}
use Rattle.layout_ops.specs.declared.messages.Answer.{Answer}
use Rattle.client_rules.specs.declared.limits.TheConstants.{PERFORMED}
use Rattle.client_rules.specs.Calls.{file_of}
use Rattle.client_rules.specs.Going.{quiet}
use Rattle.client_rules.specs.History.{Input}
use Rattle.client_rules.specs.Messages.{awaited_of}
use Rattle.world_history.specs.ClientNames.{Awaited, Call, Client, Done, Phase, Starts, Turn, Goes}
use Rattle.history_law.specs.Turns.{AnswerComes, with_start}
use Rattle.fence_law.specs.State.{State, Event}
use Rattle.file_simulation.specs.EventLists.{where_so}
use Rattle.file_simulation.specs.ClientEvents as table
use Rattle.relation_law.specs.CallsCases.{IsTurn, Begins, Answered, Replied, Timed, Stays}
use Rattle.headline_law.proofs.SentMoved.{ReadsNow}
use Rattle.headline_law.proofs.SentSince.{DoneSince, at_phase, replied_since, timed_since, stays_since, answered_since}

module _ (file : ℕ) (s : State) (c : ℕ) (x : Client) (i : Input) (es : List Event) (d : Done) (Quiet : Call → Type 0) where
  -- `Quiet` holds of a call that reads, and reads on, where the events of the first line are these
  pub record IsSilent : Type 0 where
    pub answered : (a : Answer) → es ≡ table.answered s file c x a x.outstanding → AnswerComes x i a → (call : Call) →
        x.call ≡ Some call → ReadsNow call.phase → Quiet call
    pub replied : (q : Reply) (call : Call) (a : Awaited) →
        es ≡ where_so (file_of call.op == file) (table.replied s c a q call.phase) → q.verdict ≡ PERFORMED →
        ReadsNow call.phase → Quiet call
    pub timed : (call : Call) (t : Turn) (z : Phase) → es ≡ where_so (file_of call.op == file) (table.turned s c t) →
        t ≡ Goes z → ReadsNow z → Quiet call
    pub stays : es ≡ [] → (call : Call) → Quiet call

  pub turn_since : IsSilent → IsTurn file s c x i es d → DoneSince x i Quiet d
  turn_since q (Begins op is none some none_es e) =
      rw e (at_phase x i Quiet (quiet (with_start x op)) op Starts refl (ap awaited_of none))
  turn_since q (Answered a n es_is e) = rw e (answered_since x i Quiet a (q.answered a es_is n) x.call refl)
  turn_since q (Replied drive r call h a n es_is e) =
      rw e (replied_since x i Quiet call.op drive r h a call.phase n (λ done now. q.replied r call a es_is done now))
  turn_since q (Timed k call h a xs t es_is e) =
      rw e (timed_since x i Quiet call.op h k a xs call.phase t.call_is (λ z at now. q.timed call _ z es_is at now))
  turn_since q (Stays es_is call held out next sent none) =
      stays_since x i Quiet d call sent (λ y is now. q.stays es_is y)
