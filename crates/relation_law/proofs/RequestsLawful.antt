-- A LAYOUTGET that the server carries out was asked in the machine, and may be refused there.
-- Towards `EventsAreLawful` (`specs/Steps.antt`).
use Rattle.std.proofs.Common.{◌≡◌, ◌==◌, ◌+◌, ℕ, Bool, List, [], ◌∷◌, ◌++◌, Some, refl, sym, ap, ◌∙◌, if◌then◌else◌}
use Rattle.std.proofs.lemmas.Bool.{eq-eqb}
use Rattle.layout_ops.specs.declared.args.Args.{Args}
use Rattle.layout_ops.specs.declared.args.Args.TheVariants as args
use Rattle.layout_ops.specs.declared.statuses.TheConstants.{LAYOUTIOMODE4_RW}
use Rattle.layout_ops.specs.declared.messages.Answer.{Answer}
use Rattle.server_rules.specs.Envelopes.{asked_in}
use Rattle.server_rules.specs.Slots.{slot_of}
use Rattle.world_history.specs.ServerNames.{File, ClientRequest, RequestArgs, Get as Gets}
use Rattle.world_history.specs.ClientNames.{Client, Request}
use Rattle.world_history.specs.State.{World}
use Rattle.fence_law.specs.Words.{In}
use Rattle.fence_law.specs.State.{State, Event}
use Rattle.fence_law.specs.State.{Event as event}
use Rattle.fence_law.specs.State.RequestKind.{Get}
use Rattle.fence_law.specs.Machine.{Allowed, Lawful, after, after_all}
use Rattle.file_simulation.specs.Relation.{client_of}
use Rattle.file_simulation.specs.Requests.{Own, Other, phase_of, class_by, class_of}
use Rattle.relation_law.specs.Requests.{SteadyStays}
use Rattle.relation_law.specs.RequestsGoing.{CarriesOut}
use Rattle.relation_law.proofs.RequestsGuards.{refuses_may, asks_stay}
use Rattle.relation_law.proofs.RequestsServed.{commit_read, return_read}

-- one list of events behind another
pub lawful_more : (s : State) (es fs : List Event) → Lawful s es → Lawful (after_all s es) fs → Lawful s (es ++ fs)
lawful_more s [] fs l k = k
lawful_more s (e ∷ es) fs l k = (l.0, lawful_more (after s e) es fs l.1 k)

module _ (w : World) (f g : File) (s : State) (c : ℕ) (q : ClientRequest) (client : q.client ≡ c) (k : CarriesOut w s f c q)
    (ok : Bool) where
  abbrev file : ℕ
  file = f.kept.number

  abbrev x : Client
  x = client_of w c

  abbrev r : Request
  r = k.request

  -- ---- the line of the answer, behind events of no request

  module _ (u : State) (stays : SteadyStays s u) (a : Answer) (here : q.file ≡ file) where
    get_class : (iomode offset count : ℕ) → q.args ≡ Gets iomode offset count
        → class_of file x r ≡ Own (Get (iomode == LAYOUTIOMODE4_RW))
    unfolding class_of
    get_class iomode offset count is = by_args r.args refl
      where
        class_is : class_of file x r ≡ class_by (phase_of x.call) r.args
        class_is = ap (λ (b : Bool). if b then class_by (phase_of x.call) r.args else Other)
            (eq-eqb r.file file (sym k.reads.file ∙ here))

        by_args : (b : Args) → r.args ≡ b → class_of file x r ≡ Own (Get (iomode == LAYOUTIOMODE4_RW))
        by_args (args.LayoutGet y) at =
            let same : y.iomode ≡ iomode = cc (sym (ap asked_in at) ∙ k.reads.args ∙ ap (λ (z : RequestArgs). Some z) is) in
            class_is ∙ ap (class_by (phase_of x.call)) at ∙ ap (λ (n : ℕ). Own (Get (n == LAYOUTIOMODE4_RW))) same
        by_args (args.LayoutCommit y) at =
            absurd (cc (sym (commit_read y.last_write_offset _ q.args (sym (ap asked_in at) ∙ k.reads.args)) ∙ is))
        by_args (args.LayoutReturn y) at =
            absurd (cc (sym (return_read _ q.args (sym (ap asked_in at) ∙ k.reads.args)).1 ∙ is))

    -- that a LAYOUTGET was asked
    pub get_asked : (iomode offset count : ℕ) → q.args ≡ Gets iomode offset count
        → In (record { client = c; sequence = u.slot c + 1; kind = Get (iomode == LAYOUTIOMODE4_RW) }) u.requests
    get_asked iomode offset count is =
        asks_stay file f.kept.map s c x (slot_of w.server.slots c) r k.slot k.waits k.next u stays.asking
        (Get (iomode == LAYOUTIOMODE4_RW)) (get_class iomode offset count is)

    -- the refusal of a LAYOUTGET
    pub refusal_may : (iomode offset count : ℕ) → q.args ≡ Gets iomode offset count
        → Allowed u (event.Refuses c (Get (iomode == LAYOUTIOMODE4_RW)))
    refusal_may iomode offset count is =
        refuses_may file f.kept.map s c x (slot_of w.server.slots c) r k.slot k.waits k.next u stays.asking
        (Get (iomode == LAYOUTIOMODE4_RW)) (get_class iomode offset count is) tt
