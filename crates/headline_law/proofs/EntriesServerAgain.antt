-- A report that is taken again was taken before, and the grant that it returned is over.
-- Towards `CutsShowEntries` (`specs/Parts.antt`).
use Rattle.std.proofs.Common.{◌≡◌, ◌<◌, ℕ, true, false, List, [], ◌∷◌, Some, refl, sym, ap, ◌∙◌, inl, inr}
use Rattle.std.proofs.lemmas.Bool.{true≢false, cases_Bool}
use Rattle.layout_ops.specs.declared.messages.Answer.{Answer}
use Rattle.layout_ops.specs.declared.messages.Request.{Request}
use Rattle.layout_ops.specs.declared.statuses.TheConstants.{NFS4ERR_SEQ_MISORDERED}
use Rattle.client_rules.specs.Answers.{is_loss_taken}
use Rattle.scenario_text.specs.declared.line.Line.{Line}
use Rattle.server_rules.specs.Answers.{plain_answer}
use Rattle.server_rules.specs.Files.{Step, file_at}
use Rattle.server_rules.specs.History.{Input}
use Rattle.server_rules.specs.Requests.{by_admit, on_request, size_in}
use Rattle.server_rules.specs.Served.{tells}
use Rattle.server_rules.specs.Slots.{Admit, New, Again, Misordered, admit, slot_of}
use Rattle.world_history.specs.Calm.{returned_in}
use Rattle.world_history.specs.Sending.{Move}
use Rattle.world_history.specs.ServerNames.{Server, File, Slot, Answers, ClientRequest, RequestArgs, Get, Commit, Return}
use Rattle.world_history.specs.State.{World}
use Rattle.history_law.specs.Doing.{input_in}
use Rattle.exchange_law.proofs.Admitting.{IsLast, is_last}
use Rattle.fence_law.specs.State.{State}
use Rattle.file_simulation.specs.ServerEvents.{is_new}
use Rattle.file_simulation.specs.Showing.{Pairs}
use Rattle.file_simulation.specs.Tied.{AreTied, HasAsked, IsOver}
use Rattle.headline_law.specs.Parts.{CutShown}
use Rattle.headline_law.proofs.CalmLosses.{asked_step}
use Rattle.headline_law.proofs.EntriesServerLoss.{TakesLoss}
use Rattle.headline_law.proofs.EntriesServerOver.{LossesElsewhere, is_here, returned_by}
use Rattle.headline_law.proofs.EntriesServerTold.{IsDelivered}

-- ---- what is admitted

-- an answer that a request is misordered takes no loss
misordered : (q : ClientRequest) (expected size : ℕ) (args : RequestArgs) → q.args ≡ args →
    is_loss_taken (plain_answer q (tells NFS4ERR_SEQ_MISORDERED expected) size) ≡ false
misordered q expected size (Get iomode offset count) is = rw is refl
misordered q expected size (Commit last) is = rw is refl
misordered q expected size (Return report) is = rw is refl

pub repeated : (s : Server) (chosen : List ℕ) (i : Input) (loss : TakesLoss s chosen i) →
    is_new (admit (slot_of s.slots loss.request.client) loss.request.sequence) ≡ false →
    (t : Slot) × (slot_of s.slots loss.request.client ≡ Some t) × (t.kept ≡ loss.answer) × (loss.request.sequence ≡ t.last)
unfolding on_request
repeated s chosen i loss old =
    by (admit (slot_of s.slots loss.request.client) loss.request.sequence) refl old
    (ap (λ (t : Step). t.sends) (sym (asked_step s chosen i loss.now loss.request loss.asked)) ∙ loss.sends)
  where
    same : (a : Answer) → Answers a ∷ [] ≡ Answers loss.answer ∷ [] → a ≡ loss.answer
    same a e = cc e

    by : (a : Admit) → admit (slot_of s.slots loss.request.client) loss.request.sequence ≡ a → is_new a ≡ false →
        (by_admit s loss.now chosen loss.request a).sends ≡ Answers loss.answer ∷ [] →
        (t : Slot) × (slot_of s.slots loss.request.client ≡ Some t) × (t.kept ≡ loss.answer)
        × (loss.request.sequence ≡ t.last)
    by New is none e = absurd (true≢false none)
    by (Again kept) is none e =
        let z : IsLast (slot_of s.slots loss.request.client) loss.request.sequence kept =
        is_last (slot_of s.slots loss.request.client) loss.request.sequence kept is in
        (z.slot, z.there, z.answer ∙ same kept e, z.last)
    by (Misordered expected) is none e =
        let size : ℕ = size_in (file_at s.files loss.request.file) in
        let a : Answer = plain_answer loss.request (tells NFS4ERR_SEQ_MISORDERED expected) size in
        absurd (true≢false (sym loss.taken ∙ ap is_loss_taken (sym (same a e))
        ∙ misordered loss.request expected size loss.request.args refl))

-- ---- what was returned

-- The message that comes is a request of the client, and what it returns is what is read off its line.
abbrev pub ReturnsAreAsked : Type 0
ReturnsAreAsked =
    (w : World) (h : List Line) (m : Move) (count : ℕ) (f g : File) (s : State) (pairs : Pairs) →
    CutShown w h m count f g s pairs → (i : Input) → input_in w m.action ≡ Some i → (loss : TakesLoss w.server m.chosen i) →
    (d : IsDelivered w m i) → (number : ℕ) → returned_by h d ≡ Some number →
    (r : Request) × HasAsked w loss.request.client r × (r.sequence ≡ loss.request.sequence)
    × (returned_in r.args ≡ Some number)

-- Where the request is new, and on another file, each of this file's writes under the grant is acknowledged already.
abbrev pub OthersAreApart : Type 0
OthersAreApart =
    (w : World) (h : List Line) (m : Move) (count : ℕ) (f g : File) (s : State) (pairs : Pairs) →
    (k : CutShown w h m count f g s pairs) → AreTied w h s f.kept.number pairs → (i : Input) → input_in w m.action ≡ Some i →
    (loss : TakesLoss w.server m.chosen i) → (d : IsDelivered w m i) →
    is_new (admit (slot_of w.server.slots loss.request.client) loss.request.sequence) ≡ true → is_here g loss ≡ false →
    (number : ℕ) → returned_by h d ≡ Some number → (j : ℕ) → j < s.count → (s.start j).is_write ≡ true →
    (s.start j).grant ≡ number → s.acknowledged j ≡ true

pub losses_elsewhere : ReturnsAreAsked → OthersAreApart → LossesElsewhere
losses_elsewhere asked apart w h m count f g s pairs k tied i is loss d no_ number at_ j low write grant =
    elim (cases_Bool (is_new (admit (slot_of w.server.slots loss.request.client) loss.request.sequence))) [
      | inl new ↦ apart w h m count f g s pairs k tied i is loss d new no_ number at_ j low write grant
      | inr old ↦
          let z = repeated w.server m.chosen i loss old in
          let r = asked w h m count f g s pairs k i is loss d number at_ in
          let over : IsOver w s number =
          tied.over loss.request.client number z.0 r.0 z.1 (ap is_loss_taken z.2 ∙ loss.taken) r.1 (r.2 ∙ z.3) r.3 in
          over.acknowledged j low write grant
    ]
