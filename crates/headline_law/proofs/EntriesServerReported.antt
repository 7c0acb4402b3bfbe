-- What is known of the machine where the answer that takes a loss has its events, by the events that can happen there.
-- Towards `CutsShowEntries` (`specs/Parts.antt`).
use Rattle.std.proofs.Common.{◌≡◌, ◌==◌, ◌<◌, ◌++◌, ℕ, true, false, List, [], ◌∷◌, take, Option, Some, None, sym, ap, subst, ◌∙◌, inl, inr}
use Rattle.std.proofs.lemmas.Bool.{true≢false, cases_lt, and_parts, eqb-true}
use Rattle.layout_types.specs.declared.ioerrs.IoErr.{IoErr}
use Rattle.scenario_text.specs.declared.line.Line.{Line}
use Rattle.server_rules.specs.Files.{file_at}
use Rattle.server_rules.specs.History.{Input}
use Rattle.server_rules.specs.Laws.{is_taken_of}
use Rattle.server_rules.specs.Slots.{admit, slot_of}
use Rattle.world_history.specs.Sending.{Move, move}
use Rattle.world_history.specs.ServerNames.{File, ClientRequest, RequestArgs, Return as Returns, Answers}
use Rattle.world_history.specs.State.{World}
use Rattle.history_law.specs.Doing.{input_in}
use Rattle.history_law.specs.Read.{BookIsRead}
use Rattle.fence_law.specs.Machine.{Lawful, after_all}
use Rattle.fence_law.specs.State.{State, Event, Grant}
use Rattle.fence_law.specs.State.Call.{Writes}
use Rattle.fence_law.specs.State.Event.{Acknowledges, Leaves}
use Rattle.fence_law.proofs.Safe.{Safe, safe_all}
use Rattle.file_simulation.specs.EventLists.{where_so, of_grant, entry_of}
use Rattle.file_simulation.specs.Events.{joined, events_of}
use Rattle.file_simulation.specs.ServerEvents as table
use Rattle.file_simulation.specs.Showing.{Pairs}
use Rattle.file_simulation.specs.Tied.{AreTied}
use Rattle.server_rules.proofs.FileLaws.{number_at}
use Rattle.relation_law.specs.Steps.{owed}
use Rattle.relation_law.proofs.KeptGoing.{safe_of}
use Rattle.relation_law.proofs.KeptNotes.{lawful_front, lawful_back}
use Rattle.headline_law.specs.Parts.{CutShown}
use Rattle.headline_law.proofs.CalmCodes.{code_of}
use Rattle.headline_law.proofs.EntriesPairs.{EntriesStay, silent_stay}
use Rattle.headline_law.proofs.EntriesServerEvents.{EndsWith}
use Rattle.headline_law.proofs.EntriesServerLoss.{TakesLoss}
use Rattle.headline_law.proofs.EntriesServerOver.{LossesAreReported, is_here, returned_by}
use Rattle.headline_law.proofs.EntriesServerTold.{IsDelivered}

-- A request that the server carries out on the file, and takes as a loss, is a return.
pub loss_returns : (w : World) (m : Move) (f g : File) (i : Input) (loss : TakesLoss w.server m.chosen i) →
    file_at w.server.files f.kept.number ≡ Some f → g.kept.number ≡ f.kept.number → is_here g loss ≡ true →
    (report : List IoErr) × (loss.request.args ≡ Returns report)
loss_returns w m f g i loss there number yes_ =
    let q : ClientRequest = loss.request in
    let parts = and_parts (table.is_served w.server q.client q) (q.file == g.kept.number) yes_ in
    let new : table.is_new (admit (slot_of w.server.slots q.client) q.sequence) ≡ true =
    (and_parts (is_taken_of w.server q.client q.client q) _ parts.0).1 in
    loss.returns new f (ap (file_at w.server.files) (eqb-true q.file g.kept.number parts.1 ∙ number) ∙ there)

-- The grant that a client holds there is the only outstanding one, each unfinished write under it has the machine's tag, and it
-- is the one that is returned.
pub record IsSole (s u : State) (c : ℕ) (returned : Option ℕ) (x : Grant) : Type 0 where
  pub outstanding : u.outstanding c ≡ None → ⊥
  pub sole : (d : ℕ) (y : Grant) → u.outstanding d ≡ Some y → d ≡ c
  pub tags : (i : ℕ) → i < s.count → (s.start i).is_write ≡ true → (s.start i).grant ≡ x.number →
      s.acknowledged i ≡ false → (s.start i).tag ≡ u.tag
  pub returned_is : returned ≡ Some x.number

abbrev pub LossesAreSole : Type 0
LossesAreSole =
    (w : World) (h : List Line) (m : Move) (count : ℕ) (f g : File) (s : State) (pairs : Pairs) →
    (k : CutShown w h m count f g s pairs) → AreTied w h s f.kept.number pairs → (i : Input) → input_in w m.action ≡ Some i →
    (loss : TakesLoss w.server m.chosen i) → (d : IsDelivered w m i) →
    (e : EndsWith w f g i s (λ t. table.sent t w.server g i (Answers loss.answer))
    (joined (take count (events_of s w (owed k.shown.follows.related) f m)))) → is_here g loss ≡ true → (x : Grant) →
    Safe (after_all s e.before) → (after_all s e.before).held loss.request.client ≡ Some x → (j : ℕ) →
    (after_all s e.before).call loss.request.client ≡ Writes j →
    IsSole s (after_all s e.before) loss.request.client (returned_by h d) x

pub losses_are_reported : BookIsRead → LossesAreSole → LossesAreReported
losses_are_reported book sole w h m count f g s pairs k tied i is loss d e yes_ =
    let z =
    loss_returns w m f g i loss k.shown.follows.there
    (number_at (move w m).world.server.files f.kept.number g k.shown.follows.goes) yes_ in
    let c : ℕ = loss.request.client in
    let u : State = after_all s e.before in
    let rest : List Event = of_grant (u.held c) (λ x. Leaves c x ∷ []) in
    let acts : table.sent u w.server g i (Answers loss.answer) ≡ Acknowledges c (entry_of u c) ∷ rest =
    ap (λ (j : Input). table.sent u w.server g j (Answers loss.answer)) loss.asked.is
    ∙ ap (λ b. where_so b (table.answered_here u c loss.request.args loss.answer g)) yes_
    ∙ ap (λ (a : RequestArgs). table.answered_here u c a loss.answer g) z.1
    ∙ ap (λ b. where_so b (table.loss_answered u c)) loss.taken in
    let l : Lawful s (e.before ++ (Acknowledges c (entry_of u c) ∷ rest)) =
    subst (Lawful s) (e.are ∙ ap (λ (es : List Event). e.before ++ es) acts) k.lawful in
    let safe : Safe u =
    safe_all s e.before (lawful_front s e.before (Acknowledges c (entry_of u c) ∷ rest) l)
    (safe_of s k.shown.follows.run (code_of book w h m count f g s k.shown.follows)) in
    let j : ℕ = entry_of u c in
    let runs : u.call c ≡ Writes j = (lawful_back s e.before (Acknowledges c (entry_of u c) ∷ rest) l).0.runs in
    let r = safe.calls.writes c j runs in
    let x : Grant = r.under.0 in
    let y : IsSole s u c (returned_by h d) x =
    sole w h m count f g s pairs k tied i is loss d e yes_ x safe r.under.1 j runs in
    let first : EntriesStay s u = silent_stay s e.before e.silent in (
      z,
      record {
        safe = safe;
        entry = j;
        below = elim (cases_lt j s.count) [
          | inl low ↦ low
          | inr high ↦
              absurd (true≢false (sym (safe.running.writes c j runs).0 ∙ (first.passed j high r.below).write))
        ];
        runs = runs;
        grant = x;
        held = r.under.1;
        outstanding = y.outstanding;
        sole = y.sole;
        tags = y.tags;
        returned_is = y.returned_is;
      },
    )
