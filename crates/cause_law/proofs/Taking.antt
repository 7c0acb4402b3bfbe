-- A client that isn't stopped takes the answer to its outstanding request, so that it waits for it no longer.
use Rattle.std.proofs.Common.{◌≡◌, ◌<◌, ℕ, Bool, true, false, nat_lt, List, Option, Some, None, slice_get, refl, sym, ap, subst, ◌∙◌, eq-eqb, ne_eqb, inl, inr, arith, if◌then◌else◌}
use Rattle.std.proofs.lemmas.Bool.{cases_eq}
use Rattle.std.proofs.lemmas.Bool.Decides.{nat_tests}
use Rattle.osd_lists.specs.declared.node.Node.TheVariants as node
use Rattle.osd_lists.proofs.Options.{same_some}
use Rattle.layout_ops.specs.declared.envelope.Envelope.TheVariants as envelope
use Rattle.layout_ops.specs.declared.messages.Answer.{Answer}
use Rattle.layout_ops.specs.declared.statuses.TheConstants.{NFS4ERR_LAYOUTTRYLATER}
use Rattle.layout_ops.specs.Spelling.{EnvelopeFits}
use Rattle.layout_ops.proofs.Whole.{all_again}
use Rattle.scenario_text.specs.declared.names.TheConstants.{CLIENTS}
use Rattle.scenario_text.specs.declared.line.Delivery.TheVariants as delivery
use Rattle.scenario_text.specs.declared.line.Line.{Line}
use Rattle.server_rules.specs.Laws.{In, last_of}
use Rattle.server_rules.specs.Slots.{slot_of}
use Rattle.client_rules.specs.declared.limits.TheConstants.{MAX_CLIENT}
use Rattle.client_rules.specs.Envelopes.{message_in, by_envelope}
use Rattle.client_rules.specs.History.{Hears, step}
use Rattle.client_rules.specs.Messages.{Answers, Taken, TakesAnswer, names_nobody, is_awaited, answer_taken, takes}
use Rattle.client_rules.specs.Results.{status_of}
use Rattle.world_history.specs.ClientNames.{Client, Request}
use Rattle.world_history.specs.ServerNames.{Slot}
use Rattle.world_history.specs.declared.messages.Posted.{Posted}
use Rattle.world_history.specs.State.{World, ClientAt, at_number}
use Rattle.world_history.specs.Handed.{Handed, quiet, client_goes, client_takes, client_hears, for_client, handed_to}
use Rattle.world_history.specs.Moves.{marked}
use Rattle.world_history.specs.History.{OneEventMore}
use Rattle.history_law.specs.Grants.{GrantsAreSafe}
use Rattle.history_law.specs.Said.{posted}
use Rattle.exchange_law.specs.InStep.{IsAwaiting, StandsAt, IsInStep, state_of}
use Rattle.exchange_law.specs.Meeting.{IsReadable}
use Rattle.exchange_law.specs.Messages.{last_before, WasAnswered, AnswersOf}
use Rattle.exchange_law.specs.Requests.{outstanding_at, left_by, OneRequest}
use Rattle.exchange_law.proofs.Each.{put_same}
use Rattle.exchange_law.proofs.SlotLists.{each_at}
use Rattle.cause_law.proofs.Holders.{AnswerNames, grants_named, answer_names}
use Rattle.cause_law.proofs.Sends.{request_message, answer_message, request_sent, step_asks, outstanding_of}

-- an answer that names a holder that there may be
names_somebody : (a : Answer) → AnswerNames a → names_nobody a ≡ false
names_somebody a k = elim (cases_eq (status_of a.results) NFS4ERR_LAYOUTTRYLATER) [
  | inl later ↦
      let low : a.detail < CLIENTS = k.holder later in
      let none : nat_lt MAX_CLIENT a.detail ≡ false = grind (arith, nat_tests, low) in
      rw (eq-eqb (status_of a.results) NFS4ERR_LAYOUTTRYLATER later, none) refl
  | inr other ↦ rw (ne_eqb (status_of a.results) NFS4ERR_LAYOUTTRYLATER other) refl
]

-- ---- the answer is the one that the server keeps

module _ (safe : GrantsAreSafe) (more : OneEventMore) (w : World) (h : List Line) (c : ℕ)
    (met : IsInStep w h c (state_of c (at_number w.clients c))) (r : Request) (out : outstanding_of w c ≡ Some r) where
  abbrev x : Client
  x = state_of c (at_number w.clients c)

  pub awaiting : IsAwaiting h c (slot_of w.server.slots c) (last_before x.next) r
  awaiting = subst (StandsAt h c (slot_of w.server.slots c) (last_before x.next)) out met.stands

  pub record IsKept (a : Answer) : Type 0 where
    pub slot : Slot
    pub there : slot_of w.server.slots c ≡ Some slot
    pub same : a ≡ slot.kept
    pub names : AnswerNames a

  is_kept : (a : Answer) → WasAnswered c (slot_of w.server.slots c) a → a.sequence ≡ r.sequence → IsKept a
  is_kept a was sequence = elim awaiting.served [
    | inl v ↦ absurd (omega (arith, v, sequence, was.last, ap last_of was.kept))
    | inr v ↦
        let it : was.slot ≡ v.slot = same_some was.slot v.slot (slot_of w.server.slots c) was.kept v.kept in
        let is : a ≡ v.slot.kept =
        was.same (sequence ∙ sym v.last ∙ ap (λ (s : Slot). s.last) (sym it)) ∙ ap (λ (s : Slot). s.kept) it in
        let m = v.made in
        record {
          slot = v.slot;
          there = v.kept;
          same = is;
          names =
              subst AnswerNames (sym (is ∙ m.answer))
              (answer_names m.world.server m.world.clock m.next.chosen m.request
              (grants_named safe more m.world m.before m.moment));
        }
  ]

  module _ (a : Answer) (n : ℕ) (p : Posted) (found : slice_get w.network.messages n ≡ Some p)
      (is : p.message ≡ answer_message c a) (to : a.client ≡ c) (sequence : a.sequence ≡ r.sequence) where
    was_answered : WasAnswered c (slot_of w.server.slots c) a
    was_answered =
        subst (AnswersOf c (slot_of w.server.slots c)) is
        (each_at (AnswersOf c (slot_of w.server.slots c)) w.network.messages n p found met.answers) refl refl

    kept : IsKept a
    kept = is_kept a was_answered sequence

    is_its : is_awaited x a r ≡ true
    is_its =
        rw (
          eq-eqb a.client x.number (to ∙ sym met.number),
          eq-eqb a.sequence r.sequence sequence,
          names_somebody a kept.names,
        ) refl

    takes_it : takes x node.Server (Answers a) ≡ Some (TakesAnswer a)
    unfolding takes
    takes_it = ap (answer_taken x a) out ∙ ap (λ (b : Bool). if b then Some (TakesAnswer a) else None) is_its

    -- ---- so it is taken

    module _ (one : OneRequest) (readable : IsReadable w) (chosen : List ℕ) (caller : ClientAt)
        (there : at_number w.clients c ≡ Some caller) (alive : caller.stopped ≡ false) where
      fits : EnvelopeFits (envelope.Answer a)
      fits =
          subst (λ (z : Answer). EnvelopeFits (envelope.Answer z)) (sym kept.same)
          (readable.answers c kept.slot kept.there)

      is_read : for_client (answer_message c a) ≡ Some (Answers a)
      unfolding message_in
      is_read = ap by_envelope (all_again (envelope.Answer a) fits)

      abbrev behind : Handed
      behind = client_goes (marked w n p) c caller (Hears node.Server (Answers a))

      pub is_taken : handed_to (marked w n p) chosen (answer_message c a) (node.Client c) ≡ behind
      is_taken =
          ap (client_hears (marked w n p) c (answer_message c a)) there
          ∙ ap (λ (b : Bool). if b then quiet (marked w n p) delivery.Deaf
          else client_takes (marked w n p) c caller node.Server (for_client (answer_message c a))) alive
          ∙ ap (client_takes (marked w n p) c caller node.Server) is_read

      its_state : caller.state ≡ x
      its_state = ap (state_of c) (sym there)

      -- what is outstanding behind it is asked with it
      pub asks_behind : (q : Request) → outstanding_of behind.world c ≡ Some q → In (request_message c q) (posted behind.posts)
      asks_behind q e =
          let after : (step caller.state (Hears node.Server (Answers a))).client.outstanding ≡ Some q =
          ap (λ (o : Option ClientAt). (state_of c o).outstanding) (sym (put_same w.clients c caller _ there)) ∙ e in
          elim (step_asks one caller.state (Hears node.Server (Answers a)) q after) [
            | inl i ↦ request_sent c q _ _ (step caller.state (Hears node.Server (Answers a))).sends i
            | inr o ↦
                let none : outstanding_at caller.state (Hears node.Server (Answers a)) ≡ None =
                ap (λ (y : Client). left_by (takes y node.Server (Answers a)) y.outstanding) its_state
                ∙ ap (λ (t : Option Taken). left_by t x.outstanding) takes_it in
                absurd (cc (sym none ∙ o))
          ]
