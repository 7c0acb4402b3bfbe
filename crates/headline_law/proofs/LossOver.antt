-- What is returned where a kept answer takes a loss is over behind a step of the server, if so it is where the step takes one.
-- Towards `CutsKeepEntries` (`specs/EntriesTied.antt`).
use Rattle.std.proofs.Common.{◌≡◌, ◌<◌, ◌≤◌, ◌++◌, ◌||◌, ℕ, Bool, true, false, List, [], ◌∷◌, length, take, Some, None, refl, sym, ap, subst, ◌∙◌, inl, inr, arith}
use Rattle.std.specs.List.{list_any}
use Rattle.std.proofs.lemmas.Bool.{cases_eq}
use Rattle.layout_ops.specs.declared.messages.Answer.{Answer}
use Rattle.layout_ops.specs.declared.messages.Request.{Request}
use Rattle.client_rules.specs.Answers.{is_loss_taken}
use Rattle.scenario_text.specs.declared.line.Line.{Line}
use Rattle.server_rules.specs.Files.{Step}
use Rattle.server_rules.specs.History.{Input, step}
use Rattle.server_rules.specs.Requests.{on_request}
use Rattle.server_rules.specs.Slots.{Admit, New, Again, Misordered, admit, slot_of}
use Rattle.server_rules.proofs.SlotLaws.{carried_out, not_carried}
use Rattle.world_history.specs.Calm.{is_taken_out, takes_loss, returned_in}
use Rattle.world_history.specs.ClientNames.{Client}
use Rattle.world_history.specs.Sending.{Move, move}
use Rattle.world_history.specs.ServerNames.{Server, File, Slot, Note, Outgoing, Answers, ClientRequest}
use Rattle.world_history.specs.State.{World}
use Rattle.history_law.specs.Answers.{ServerDid, Quiet, Asked}
use Rattle.history_law.specs.Doing.{input_in, did_in}
use Rattle.history_law.specs.Moments.{lines_in}
use Rattle.history_law.specs.Steps.{IsAsked}
use Rattle.history_law.proofs.Answers.{step_did}
use Rattle.exchange_law.specs.Requests.{OneRequest}
use Rattle.exchange_law.proofs.CountMoments.{reached}
use Rattle.cause_law.proofs.Giving.{grants_rise}
use Rattle.fence_law.specs.Machine.{after_all}
use Rattle.fence_law.specs.State.{State, Event}
use Rattle.file_simulation.specs.Cuts.{rebuilt_ahead, notes_behind}
use Rattle.file_simulation.specs.Events.{joined, events_of}
use Rattle.file_simulation.specs.ServerEvents.{asker, is_new}
use Rattle.file_simulation.specs.Showing.{Pairs}
use Rattle.file_simulation.specs.Tied.{AreTied, HasAsked, IsOver}
use Rattle.relation_law.specs.Frames.{AreAll, IsOfServer}
use Rattle.relation_law.specs.Steps.{behind, owed}
use Rattle.relation_law.proofs.FramesParties.{by_server_lines, clients_rest, server_alone, server_steps}
use Rattle.relation_law.proofs.FramesStay.{all_joined, lines_taken}
use Rattle.relation_law.proofs.RequestsOthers.{slot_other}
use Rattle.headline_law.specs.Parts.{CutShown, cut_at}
use Rattle.headline_law.proofs.EntriesBehindAsked.{asked_or_sent, outstanding_is_asked}
use Rattle.headline_law.proofs.EntriesBehindOver.{IsOverIn}
use Rattle.headline_law.proofs.EntriesServerCalls.{ahead_own}
use Rattle.headline_law.proofs.EntriesServerLoss.{TakesLoss, loss_taken}
use Rattle.headline_law.proofs.EntriesServerTied.{ServersKeepOver}
use Rattle.headline_law.proofs.LossOverMachine.{IsApartFrom, over_server, over_unasked}

-- A step of the server gives no grant of a number that is below the next one.
abbrev pub GrantsAreAhead : Type 0
GrantsAreAhead =
    (w : World) (h : List Line) (m : Move) (count : ℕ) (f g : File) (s : State) (pairs : Pairs) →
    (k : CutShown w h m count f g s pairs) → (i : Input) → input_in w m.action ≡ Some i → (number : ℕ) →
    number < w.server.next_grant →
    AreAll (IsApartFrom number) (joined (take count (events_of s w (owed k.shown.follows.related) f m)))

-- Where the step itself answers a new request, and takes a loss, what the request returns is over behind it.
abbrev pub NewLossesAreOver : Type 0
NewLossesAreOver =
    (w : World) (h : List Line) (m : Move) (count : ℕ) (f g : File) (s : State) (pairs : Pairs) →
    (k : CutShown w h m count f g s pairs) → AreTied w h s f.kept.number pairs → (i : Input) → input_in w m.action ≡ Some i →
    count ≡ length (lines_in w m) → (loss : TakesLoss w.server m.chosen i) →
    is_new (admit (slot_of w.server.slots loss.request.client) loss.request.sequence) ≡ true → (q : Request) → (number : ℕ) →
    HasAsked w loss.request.client q → q.sequence ≡ loss.request.sequence → returned_in q.args ≡ Some number →
    IsOver (move w m).world (cut_at k.shown.follows) number

-- ---- the slot of a client

or_right : (a b : Bool) → b ≡ true → (a || b) ≡ true
or_right true b e = refl
or_right false b e = e

any_last : (os : List Outgoing) (a : Answer) → is_loss_taken a ≡ true → list_any is_taken_out (os ++ (Answers a ∷ [])) ≡ true
any_last [] a e = rw e refl
any_last (o ∷ os) a e = or_right (is_taken_out o) (list_any is_taken_out (os ++ (Answers a ∷ []))) (any_last os a e)

-- what a kept answer that takes a loss is behind a step: it was kept before, or the step takes one for a new request
data KeptBehind (s : Server) (chosen : List ℕ) (i : Input) (c : ℕ) (t : Slot) : Type 0 where
  Old : slot_of s.slots c ≡ Some t → KeptBehind s chosen i c t
  Now : (loss : TakesLoss s chosen i) → is_new (admit (slot_of s.slots loss.request.client) loss.request.sequence) ≡ true →
      loss.request.client ≡ c → loss.request.sequence ≡ t.last → KeptBehind s chosen i c t

module _ (s : Server) (chosen : List ℕ) (i : Input) (c : ℕ) (t : Slot) (there : slot_of (step s chosen i).state.slots c ≡ Some t)
    (taken : is_loss_taken t.kept ≡ true) where
  by_admitted : (now : ℕ) (q : ClientRequest) → IsAsked s i now q → step s chosen i ≡ on_request s now chosen q →
      q.client ≡ c → (a : Admit) → admit (slot_of s.slots q.client) q.sequence ≡ a → KeptBehind s chosen i c t
  by_admitted now q k is mine New new =
      let z = carried_out s now chosen q new in
      let its : record { client = q.client; last = q.sequence; kept = z.0 } ≡ t =
      cc (sym z.3 ∙ ap (λ (x : Step). slot_of x.state.slots q.client) (sym is)
      ∙ ap (slot_of (step s chosen i).state.slots) mine ∙ there) in
      let takes : takes_loss (Some (step s chosen i)) ≡ true =
      ap (λ (x : Step). list_any is_taken_out x.sends) is ∙ ap (list_any is_taken_out) z.2
      ∙ any_last z.1 z.0 (ap (λ (x : Slot). is_loss_taken x.kept) its ∙ taken) in
      let loss : TakesLoss s chosen i = loss_taken s chosen i takes in
      let same : loss.request ≡ q = cc (sym loss.asked.is ∙ k.is) in
      Now loss
      (ap (λ (x : ClientRequest). is_new (admit (slot_of s.slots x.client) x.sequence)) same ∙ ap is_new new)
      (ap (λ (x : ClientRequest). x.client) same ∙ mine)
      (ap (λ (x : ClientRequest). x.sequence) same ∙ ap (λ (x : Slot). x.last) its)
  by_admitted now q k is mine (Again kept) old =
      Old (ap (λ (x : Server). slot_of x.slots c)
      (sym (ap (λ (x : Step). x.state) is ∙ not_carried s now chosen q (rw old refl))) ∙ there)
  by_admitted now q k is mine (Misordered expected) old =
      Old (ap (λ (x : Server). slot_of x.slots c)
      (sym (ap (λ (x : Step). x.state) is ∙ not_carried s now chosen q (rw old refl))) ∙ there)

  by_did : ServerDid s chosen i (step s chosen i) → KeptBehind s chosen i c t
  by_did (Quiet k) = Old (ap (λ (ss : List Slot). slot_of ss c) (sym k.slots) ∙ there)
  by_did (Asked now q k is) = elim (cases_eq q.client c) [
    | inl mine ↦ by_admitted now q k is mine (admit (slot_of s.slots q.client) q.sequence) refl
    | inr other ↦
        Old (sym (slot_other s chosen c i (λ e. other (cc (sym (ap asker k.is) ∙ e)))) ∙ there)
  ]

  kept_behind : KeptBehind s chosen i c t
  kept_behind = by_did (step_did s chosen i)

-- ---- behind a step

module _ (ahead : GrantsAreAhead) where
  -- what was over before is over
  module _ (w : World) (h : List Line) (m : Move) (count : ℕ) (f g : File) (s : State) (pairs : Pairs)
      (k : CutShown w h m count f g s pairs) (i : Input) (is : input_in w m.action ≡ Some i) where
    abbrev u : State
    u = behind k.shown.follows.related m count

    abbrev es : List Event
    es = joined (take count (events_of s w (owed k.shown.follows.related) f m))

    abbrev notes : List Note
    notes = notes_behind count m.action (did_in w m)

    pub stays_over : (number : ℕ) → IsOver w s number → IsOver (move w m).world (cut_at k.shown.follows) number
    stays_over number over =
        let own : AreAll (IsOfServer (asker i)) es =
        all_joined (IsOfServer (asker i)) _
        (lines_taken (IsOfServer (asker i)) count (events_of s w (owed k.shown.follows.related) f m)
        (by_server_lines s w (owed k.shown.follows.related) f m i is)) in
        let first : IsOverIn u number =
        over_server number (asker i) s es own (ahead w h m count f g s pairs k i is number over.low) (record {
          acknowledged = over.acknowledged;
          unheld = over.unheld;
          untaken = over.untaken;
        }) in
        let z : IsOverIn (after_all u (rebuilt_ahead u w f notes)) number =
        over_unasked number u (rebuilt_ahead u w f notes) (ahead_own None u w f notes) first in
        let low : number < w.server.next_grant = over.low in
        let rises : w.server.next_grant ≤ (step w.server m.chosen i).state.next_grant = grants_rise w.server m.chosen i in
        let less : number < (step w.server m.chosen i).state.next_grant = omega (arith, low, rises) in
        record {
          low = subst (λ (x : Server). number < x.next_grant) (sym (server_steps w m i is)) less;
          acknowledged = z.acknowledged;
          unheld = z.unheld;
          untaken = z.untaken;
        }

module _ (one : OneRequest) (w : World) (h : List Line) (m : Move) (count : ℕ) (f g : File) (s : State) (pairs : Pairs)
    (k : CutShown w h m count f g s pairs) (i : Input) (is : input_in w m.action ≡ Some i) where
  -- a client asked before what it asked
  asked_before : (c : ℕ) (q : Request) → HasAsked (move w m).world c q → HasAsked w c q
  asked_before c q asked = elim (asked_or_sent one w m c q asked) [
    | inl old ↦ old
    | inr sent ↦
        outstanding_is_asked one w (reached w h k.shown.follows.moment) c q
        (ap (λ (x : Client). x.outstanding)
        (sym (clients_rest w h k.shown.follows.moment m k.shown.follows.is_due (server_alone w m.action i is) c))
        ∙ sent.outstanding)
  ]

module _ (one : OneRequest) (ahead : GrantsAreAhead) (new : NewLossesAreOver) where
  pub servers_keep_over : ServersKeepOver
  servers_keep_over w h m count f g s pairs k tied i is full c number t q there taken asked last returned =
      by (kept_behind w.server m.chosen i c t
      (ap (λ (x : Server). slot_of x.slots c) (sym (server_steps w m i is)) ∙ there) taken)
    where
      before : HasAsked w c q
      before = asked_before one w h m count f g s pairs k i is c q asked

      by : KeptBehind w.server m.chosen i c t → IsOver (move w m).world (cut_at k.shown.follows) number
      by (Old old) =
          stays_over ahead w h m count f g s pairs k i is number (tied.over c number t q old taken before last returned)
      by (Now loss is_new_ mine its) =
          new w h m count f g s pairs k tied i is full loss is_new_ q number
          (subst (λ (n : ℕ). HasAsked w n q) (sym mine) before) (last ∙ sym its) returned
