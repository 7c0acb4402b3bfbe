-- A ready call that works on drives goes on at each move of its event.
use Rattle.std.proofs.Common.{◌≡◌, ◌≢◌, ◌⊎◌, ◌++◌, ℕ, nat_lt, List, [], ◌∷◌, Option, refl, sym, ap, subst, ◌∙◌, inl, inr, eq-eqb}
use Rattle.std.proofs.lemmas.Bool.{cases_Bool}
use Rattle.server_rules.specs.Laws.{In}
use Rattle.server_rules.proofs.Members.{in_filter}
use Rattle.client_rules.specs.Commands.{is_of, of_component}
use Rattle.client_rules.specs.Io.{awaited_in}
use Rattle.client_rules.specs.Messages.{awaited_of}
use Rattle.client_rules.specs.Steps.{lowest_with, awaits_by, awaits}
use Rattle.scenario_text.specs.declared.line.Line.{Line}
use Rattle.world_history.specs.ClientNames.{Call, Awaited, Awaits, ADrive}
use Rattle.world_history.specs.State.{World}
use Rattle.world_history.specs.Plans.{when_quiet, quiet_at}
use Rattle.world_history.specs.Sending.{Move, move}
use Rattle.history_law.specs.BookMoments.{lines_in}
use Rattle.ready_law.proofs.Calls.{ReadyCall, queue_at, IsIn, TellsTimeout}
use Rattle.ready_law.proofs.Stages.{AreOf, Working, GoesOn}
use Rattle.ready_law.proofs.Going.{GoesOnBy, AwaitsDrive}
use Rattle.ready_law.proofs.WorkingForms.{WorkingLaws}
use Rattle.ready_law.proofs.WorkingMessages.{first_of}
use Rattle.ready_law.proofs.WorkingReplies.{reply_goes_on, timeout_goes_on}
use Rattle.ready_law.proofs.WorkingCommands.{command_goes_on}

-- a message of the queue is delivered: a command to its drive, or a reply to the client
pub working_goes_on : WorkingLaws → GoesOnBy Working
working_goes_on laws s w h i m after a x rest full d =
    let f = first_of s.client a.waiting x rest (subst (AreOf s.client a.waiting) full a.queue) in
    elim f.is [
      | inl command ↦ command_goes_on laws s w h i m a x rest full d f.first f.others f.are command f.rest
      | inr reply ↦ reply_goes_on laws s w h i m after a x rest full d f.first f.others f.are reply f.rest
    ]

-- where the queue is empty, a component times out
pub working_times_out : WorkingLaws → (s : ReadyCall) (w : World) (h : List Line) → IsIn s w h → (m : Move)
    → IsIn s (move w m).world (h ++ lines_in w m) → (a : Working s w) → queue_at s w ≡ [] → (k : ℕ)
    → of_component k (awaited_in a.phase) ≢ [] → TellsTimeout s w m k → GoesOn s (move w m).world (lines_in w m)
working_times_out laws s w h i m after a empty k some t = by_list (of_component k (awaited_in a.phase)) refl
  where
    by_list : (xs : List Awaited) → of_component k (awaited_in a.phase) ≡ xs → GoesOn s (move w m).world (lines_in w m)
    by_list [] e = absurd (some e)
    by_list (y ∷ ys) e = timeout_goes_on laws s w h i m after a empty k y ys e t

-- ---- what is due

-- the lowest component of some commands is that of one
lowest_there : (k : ℕ) (xs : List Awaited)
    → (lowest_with k xs ≡ k) ⊎ ((z : Awaited) × In z xs × (z.ask.component ≡ lowest_with k xs))
unfolding lowest_with
lowest_there k [] = inl refl
lowest_there k (x ∷ xs) = elim (cases_Bool (nat_lt x.ask.component k)) [
  | inl t ↦ elim (lowest_there x.ask.component xs) [
    | inl is ↦ inr (x, inl refl, rw t (sym is))
    | inr z ↦ inr (z.0, inr z.1, rw t z.2)
  ]
  | inr f ↦ elim (lowest_there k xs) [
    | inl is ↦ inl (rw f is)
    | inr z ↦ inr (z.0, inr z.1, rw f z.2)
  ]
]

some_of : (z : Awaited) (xs : List Awaited) (k : ℕ) → In z xs → z.ask.component ≡ k → of_component k xs ≢ []
unfolding of_component
some_of z xs k i is none = subst (In z) none (in_filter (is_of k) z xs i (eq-eqb z.ask.component k is))

module _ (s : ReadyCall) (w : World) (a : Working s w) where
  awaits_some : (xs : List Awaited) → awaited_in a.phase ≡ xs → AwaitsDrive s w a
  unfolding awaits
  awaits_some [] e = absurd (a.well.some e)
  awaits_some (y ∷ ys) e =
      let k : ℕ = lowest_with y.ask.component ys in
      let out = a.has.caller.at.state.outstanding in
      let waits : awaits a.has.caller.at.state ≡ ADrive k =
      ap (λ (o : Option Call). awaits_by (awaited_of o) out) a.has.caller.call
      ∙ ap (λ (xs : List Awaited). awaits_by xs out) e in
      record {
        component = k;
        some =
            subst (λ (xs : List Awaited). of_component k xs ≢ []) (sym e)
            (elim (lowest_there y.ask.component ys) [
              | inl is ↦ some_of y (y ∷ ys) k (inl refl) (sym is)
              | inr z ↦ some_of z.0 (y ∷ ys) k (inr z.1) z.2
            ]);
        due =
            ap (quiet_at s.client) a.has.caller.there
            ∙ ap (λ (x : Awaits). when_quiet s.client a.has.caller.at.state x) waits;
      }

-- where the queue is empty, a component that is awaited is due to time out
pub working_awaits : (s : ReadyCall) (w : World) (a : Working s w) → AwaitsDrive s w a
working_awaits s w a = awaits_some s w a (awaited_in a.phase) refl
