-- The events of the first line of a client's turn leave each entry, and begin none.
-- Towards `CutsShowEntries` (`specs/Parts.antt`).
use Rattle.std.proofs.Common.{◌==◌, ℕ, List, [], ◌∷◌, Option, Some, None, refl, ◌∙◌}
use Rattle.layout_ops.specs.declared.args.Args.{Args}
use Rattle.layout_ops.specs.declared.args.Args.TheVariants as args
use Rattle.layout_ops.specs.declared.statuses.TheConstants.{NFS4_OK}
use Rattle.layout_ops.specs.declared.messages.Answer.{Answer}
use Rattle.osd_commands.specs.declared.replies.Reply.{Reply}
use Rattle.client_rules.specs.declared.limits.TheConstants.{PERFORMED, OTHER_TAG}
use Rattle.client_rules.specs.Answers.{is_loss_taken}
use Rattle.client_rules.specs.Calls.{file_of}
use Rattle.client_rules.specs.Commands.{of_component}
use Rattle.client_rules.specs.Grants.{held_of}
use Rattle.client_rules.specs.Io.{awaited_in}
use Rattle.client_rules.specs.History.{Input, Calls, Hears, TimesOut, Leaves, Resends}
use Rattle.client_rules.specs.Messages.{Taken, TakesAnswer, TakesReply, TakesRecall, takes}
use Rattle.client_rules.specs.Replies.{timed_out}
use Rattle.client_rules.specs.Results.{status_of}
use Rattle.world_history.specs.ClientNames.{Client, Call, Held, Awaited, Request, Phase, Scatters, Turn, Goes, Ends, Needs, Close, Silent, Lost}
use Rattle.fence_law.specs.Machine.{after, after_all}
use Rattle.fence_law.specs.State.{State, Event}
use Rattle.fence_law.specs.State.{Event as event}
use Rattle.file_simulation.specs.ClientEvents as table
use Rattle.file_simulation.specs.Requests.{RequestClass, Own, Other, phase_of, return_class}
use Rattle.relation_law.specs.Frames.{AreAll}
use Rattle.relation_law.proofs.FramesClient.{either_all, where_all}
use Rattle.relation_law.proofs.FramesStay.{all_more, all_as, related_by_all}
use Rattle.headline_law.proofs.EntriesPairs.{IsSilent}
use Rattle.headline_law.proofs.EntriesTurns.{SameEntries}

-- something is taken, or a call breaks off or ends without an answer
abbrev pub IsTaking : Event → Type 0
IsTaking (event.Takes c o size) = Unit {0}
IsTaking (event.TakesOther c) = Unit {0}
IsTaking (event.TakesCommit c j) = Unit {0}
IsTaking (event.TakesRefusal c j) = Unit {0}
IsTaking (event.Breaks c j) = Unit {0}
IsTaking (event.Forgets c) = Unit {0}
IsTaking (event.Learns c k j v i) = Unit {0}
IsTaking (event.EndsRead c j) = Unit {0}
IsTaking e = ⊥

taking_silent : (e : Event) → IsTaking e → IsSilent e
taking_silent (event.Takes c o size) k = tt
taking_silent (event.TakesOther c) k = tt
taking_silent (event.TakesCommit c j) k = tt
taking_silent (event.TakesRefusal c j) k = tt
taking_silent (event.Breaks c j) k = tt
taking_silent (event.Forgets c) k = tt
taking_silent (event.Learns c n j v i) k = tt
taking_silent (event.EndsRead c j) k = tt
taking_silent e k = absurd k

pub all_silent : (es : List Event) → AreAll IsTaking es → AreAll IsSilent es
all_silent es a = all_as IsTaking IsSilent taking_silent es a

entries_one : (s : State) (e : Event) → IsTaking e → SameEntries s (after s e)
entries_one s (event.Takes c o size) k = (refl, refl)
entries_one s (event.TakesOther c) k = (refl, refl)
entries_one s (event.TakesCommit c j) k = (refl, refl)
entries_one s (event.TakesRefusal c j) k = (refl, refl)
entries_one s (event.Breaks c j) k = (refl, refl)
entries_one s (event.Forgets c) k = (refl, refl)
entries_one s (event.Learns c n j v i) k = (refl, refl)
entries_one s (event.EndsRead c j) k = (refl, refl)
entries_one s e k = absurd k

pub taking_same : (s : State) (es : List Event) → AreAll IsTaking es → SameEntries s (after_all s es)
taking_same s es a =
    related_by_all IsTaking SameEntries (λ s. (refl, refl)) (λ s t u p q. (q.0 ∙ p.0, q.1 ∙ p.1)) entries_one s es a

-- ---- what a client takes

module _ (file c : ℕ) where
  abbrev All : List Event → Type 0
  All = AreAll IsTaking

  taken_return : (s : State) (a : Answer) (k : RequestClass) → All (table.return_answered s c a k)
  taken_return s a (Own kind) = (tt, tt)
  taken_return s a Other = either_all IsTaking (is_loss_taken a) _ _ (tt, tt) (tt, (tt, (tt, tt)))

  taken_here : (s : State) (a : Answer) (phase : Option Phase) (r : Args) → All (table.answered_here s c a phase r)
  taken_here s a phase (args.LayoutGet x) = (tt, tt)
  taken_here s a phase (args.LayoutCommit x) =
      either_all IsTaking (status_of a.results == NFS4_OK) _ _ (tt, (tt, tt)) (tt, (tt, tt))
  taken_here s a phase (args.LayoutReturn x) = taken_return s a (return_class phase)

  pub taken_answer : (s : State) (x : Client) (a : Answer) (o : Option Request) → All (table.answered s file c x a o)
  taken_answer s x a None = tt
  taken_answer s x a (Some r) =
      either_all IsTaking (r.file == file) _ _ (taken_here s a (phase_of x.call) r.args) (tt, tt)

  was_performed : (s : State) (a : Awaited) (phase : Phase) → All (table.performed s c a phase)
  was_performed s a (Scatters io queue) = (tt, tt)
  was_performed s a phase = tt

  was_refused : (s : State) (phase : Phase) → All (table.refused s c phase)
  was_refused s (Scatters io queue) = (tt, tt)
  was_refused s phase = (tt, tt)

  pub taken_replied : (s : State) (a : Awaited) (r : Reply) (phase : Phase) → All (table.replied s c a r phase)
  taken_replied s a r phase =
      either_all IsTaking (r.verdict == PERFORMED) _ _ (was_performed s a phase)
      (all_more IsTaking (table.refused s c phase) _ (was_refused s phase)
      (where_all IsTaking (r.verdict == OTHER_TAG) _ (tt, tt)))

  taken_reply : (s : State) (a : Awaited) (r : Reply) (o : Option Call) → All (table.replied_in s file c a r o)
  taken_reply s a r None = tt
  taken_reply s a r (Some call) = where_all IsTaking (file_of call.op == file) _ (taken_replied s a r call.phase)

  is_taken : (s : State) (x : Client) (o : Option Taken) → All (table.taken s file c x o)
  is_taken s x None = tt
  is_taken s x (Some (TakesAnswer a)) = taken_answer s x a x.outstanding
  is_taken s x (Some (TakesReply a r)) = taken_reply s a r x.call
  is_taken s x (Some (TakesRecall r)) = tt

  pub turned : (s : State) (t : Turn) → All (table.turned s c t)
  turned s (Ends (Silent k)) = (tt, tt)
  turned s (Ends (Lost positions)) = (tt, tt)
  turned s (Goes (Needs (Close outcome (e ∷ es)))) = (tt, tt)
  turned s t = tt

  timed_under : (s : State) (call : Call) (k : ℕ) (o : Option Held) (xs : List Awaited) →
      All (table.timed_under s c call k o xs)
  timed_under s call k (Some h) (a ∷ xs) = turned s (timed_out h call.op call.phase k a xs).turn
  timed_under s call k (Some h) [] = tt
  timed_under s call k None xs = tt

  timed : (s : State) (k : ℕ) (x : Client) (o : Option Call) → All (table.timed s file c k x o)
  timed s k x None = tt
  timed s k x (Some call) =
      where_all IsTaking (file_of call.op == file) _
      (timed_under s call k (held_of x.held file) (of_component k (awaited_in call.phase)))

  pub first_taking : (s : State) (x : Client) (i : Input) → All (table.at_first s file c x i)
  first_taking s x (Hears from m) = is_taken s x (takes x from m)
  first_taking s x (TimesOut k) = timed s k x x.call
  first_taking s x (Calls op) = tt
  first_taking s x Leaves = tt
  first_taking s x Resends = tt
