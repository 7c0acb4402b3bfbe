-- Behind an answer that takes a loss the machine has acknowledged what the log takes, if these laws hold: the client reports the
-- file's write, or each write under the grant that it returns is acknowledged already.
-- Towards `CutsShowEntries` (`specs/Parts.antt`).
use Rattle.std.proofs.Common.{◌≡◌, ◌==◌, ◌&&◌, ◌<◌, ◌≤◌, ◌++◌, ℕ, Bool, true, false, List, [], ◌∷◌, take, Option, Some, None, sym, ap, subst, ◌∙◌, inl, inr, arith, append-nil}
use Rattle.std.proofs.lemmas.Bool.{cases_Bool}
use Rattle.layout_types.specs.declared.ioerrs.IoErr.{IoErr}
use Rattle.scenario_text.specs.declared.line.Delivery.TheVariants as delivery
use Rattle.scenario_text.specs.declared.line.Line.{Line}
use Rattle.scenario_text.specs.declared.line.Line.TheVariants as line
use Rattle.server_rules.specs.History.{Input}
use Rattle.world_history.specs.Calm.{seen, returned_at}
use Rattle.world_history.specs.Sending.{Move}
use Rattle.world_history.specs.ServerNames.{File, Server, RequestArgs, Return as Returns, Answers}
use Rattle.world_history.specs.State.{World}
use Rattle.history_law.specs.Doing.{input_in}
use Rattle.fence_law.specs.Machine.{after, after_all}
use Rattle.fence_law.specs.State.{State, Event, Grant}
use Rattle.fence_law.specs.State.Call.{Writes}
use Rattle.fence_law.specs.State.Event.{Acknowledges, Leaves}
use Rattle.fence_law.proofs.Safe.{Safe}
use Rattle.file_simulation.specs.EventLists.{where_so, of_grant, entry_in}
use Rattle.file_simulation.specs.Events.{joined, events_of}
use Rattle.file_simulation.specs.ServerEvents as table
use Rattle.file_simulation.specs.Showing.{Pairs}
use Rattle.file_simulation.specs.Tied.{AreTied}
use Rattle.relation_law.specs.Frames.{AreAll}
use Rattle.relation_law.specs.Steps.{owed}
use Rattle.relation_law.proofs.FramesClient.{grant_all}
use Rattle.relation_law.proofs.KeptNotes.{after_both}
use Rattle.headline_law.specs.Parts.{CutShown}
use Rattle.headline_law.proofs.EntriesPairs.{IsSilent, EntriesStay, silent_stay}
use Rattle.headline_law.proofs.EntriesServerEvents.{EndsWith}
use Rattle.headline_law.proofs.EntriesServerLoss.{TakesLoss}
use Rattle.headline_law.proofs.EntriesServerLosses.{LossIsOver, LossesAreOver}
use Rattle.headline_law.proofs.EntriesServerMachine.{at_grant, only_write, acknowledged_takes, silent_takes}
use Rattle.headline_law.proofs.EntriesServerTaken.{TakesUnder}
use Rattle.headline_law.proofs.EntriesServerTold.{IsDelivered}

-- Before the answer the machine's client is at the write, and holds the grant that it returns; no other client's is outstanding,
-- and each unfinished write under it has the machine's tag.
pub record IsReported (s : State) (before : List Event) (c : ℕ) (returned : Option ℕ) : Type 0 where
  pub safe : Safe (after_all s before)
  pub entry : ℕ
  pub below : entry < s.count
  pub runs : (after_all s before).call c ≡ Writes entry
  pub grant : Grant
  pub held : (after_all s before).held c ≡ Some grant
  pub outstanding : (after_all s before).outstanding c ≡ None → ⊥
  pub sole : (d : ℕ) (y : Grant) → (after_all s before).outstanding d ≡ Some y → d ≡ c
  pub tags : (i : ℕ) → i < s.count → (s.start i).is_write ≡ true → (s.start i).grant ≡ grant.number →
      s.acknowledged i ≡ false → (s.start i).tag ≡ (after_all s before).tag
  pub returned_is : returned ≡ Some grant.number

-- what was returned in the message that a move delivers
abbrev pub returned_by : {w : World} → {m : Move} → {i : Input} → List Line → IsDelivered w m i → Option ℕ
returned_by h d = returned_at (seen h).server.sent (line.Delivered d.number delivery.Taken)

-- the request is carried out on the file
abbrev pub is_here : {server : Server} → {chosen : List ℕ} → {i : Input} → File → TakesLoss server chosen i → Bool
is_here {server} {chosen} {i} g loss =
    table.is_served server loss.request.client loss.request && (loss.request.file == g.kept.number)

-- There it is a return, by which the client reports its write.
abbrev pub LossesAreReported : Type 0
LossesAreReported =
    (w : World) (h : List Line) (m : Move) (count : ℕ) (f g : File) (s : State) (pairs : Pairs) →
    (k : CutShown w h m count f g s pairs) → AreTied w h s f.kept.number pairs → (i : Input) → input_in w m.action ≡ Some i →
    (loss : TakesLoss w.server m.chosen i) → (d : IsDelivered w m i) →
    (e : EndsWith w f g i s (λ t. table.sent t w.server g i (Answers loss.answer))
    (joined (take count (events_of s w (owed k.shown.follows.related) f m)))) → is_here g loss ≡ true →
    ((report : List IoErr) × (loss.request.args ≡ Returns report))
    × IsReported s e.before loss.request.client (returned_by h d)

-- Elsewhere each of the file's writes under the grant that is returned is acknowledged already.
abbrev pub LossesElsewhere : Type 0
LossesElsewhere =
    (w : World) (h : List Line) (m : Move) (count : ℕ) (f g : File) (s : State) (pairs : Pairs) →
    (k : CutShown w h m count f g s pairs) → AreTied w h s f.kept.number pairs → (i : Input) → input_in w m.action ≡ Some i →
    (loss : TakesLoss w.server m.chosen i) → (d : IsDelivered w m i) → is_here g loss ≡ false → (number : ℕ) →
    returned_by h d ≡ Some number → (j : ℕ) → j < s.count → (s.start j).is_write ≡ true → (s.start j).grant ≡ number →
    s.acknowledged j ≡ true

-- ---- joined

module _ (here : LossesAreReported) (elsewhere : LossesElsewhere) (w : World) (h : List Line) (m : Move) (count : ℕ) (f g : File)
    (s : State) (pairs : Pairs) (k : CutShown w h m count f g s pairs) (tied : AreTied w h s f.kept.number pairs) (i : Input)
    (is : input_in w m.action ≡ Some i) (loss : TakesLoss w.server m.chosen i) (d : IsDelivered w m i)
    (e : EndsWith w f g i s (λ t. table.sent t w.server g i (Answers loss.answer))
    (joined (take count (events_of s w (owed k.shown.follows.related) f m)))) where
  abbrev events : List Event
  events = joined (take count (events_of s w (owed k.shown.follows.related) f m))

  abbrev u : State
  u = after_all s e.before

  abbrev c : ℕ
  c = loss.request.client

  last_is : table.sent u w.server g i (Answers loss.answer)
      ≡ where_so (is_here g loss) (table.answered_here u c loss.request.args loss.answer g)
  last_is = ap (λ (j : Input). table.sent u w.server g j (Answers loss.answer)) loss.asked.is

  not_here : is_here g loss ≡ false → LossIsOver s (after_all s events) events (returned_by h d)
  not_here no_ =
      let are : events ≡ e.before =
      e.are
      ∙ ap (λ (es : List Event). e.before ++ es)
      (last_is ∙ ap (λ (b : Bool). where_so b (table.answered_here u c loss.request.args loss.answer g)) no_)
      ∙ append-nil e.before in
      let quiet : AreAll IsSilent events = subst (AreAll IsSilent) (sym are) e.silent in
      record {
        none = λ q. quiet;
        under = λ n q. silent_takes s events quiet n (elsewhere w h m count f g s pairs k tied i is loss d no_ n q);
      }

  is_there : is_here g loss ≡ true → LossIsOver s (after_all s events) events (returned_by h d)
  is_there yes_ =
      let z = here w h m count f g s pairs k tied i is loss d e yes_ in
      let r : IsReported s e.before c (returned_by h d) = z.1 in
      let rest : List Event = of_grant (u.held c) (λ x. Leaves c x ∷ []) in
      let later : AreAll IsSilent rest = grant_all IsSilent (u.held c) _ (λ x. (tt, tt)) in
      let acts : table.sent u w.server g i (Answers loss.answer) ≡ Acknowledges c r.entry ∷ rest =
      last_is
      ∙ ap (λ (b : Bool). where_so b (table.answered_here u c loss.request.args loss.answer g)) yes_
      ∙ ap (λ (a : RequestArgs). table.answered_here u c a loss.answer g) z.0.1
      ∙ ap (λ (b : Bool). where_so b (table.loss_answered u c)) loss.taken
      ∙ ap (λ (n : ℕ). Acknowledges c n ∷ rest) (ap entry_in r.runs) in
      let are : events ≡ e.before ++ (Acknowledges c r.entry ∷ rest) =
      e.are ∙ ap (λ (es : List Event). e.before ++ es) acts in
      let reach : after_all s events ≡ after_all (after u (Acknowledges c r.entry)) rest =
      ap (after_all s) are ∙ after_both s e.before (Acknowledges c r.entry ∷ rest) in
      let first : EntriesStay s u = silent_stay s e.before e.silent in
      let mine : (s.start r.entry).grant ≡ r.grant.number =
      ap (λ x. x.grant) (sym (first.start r.entry r.below))
      ∙ at_grant u r.safe c r.entry r.grant r.held r.runs r.outstanding in
      let takes : TakesUnder s (after_all s events) r.grant.number =
      subst (λ (t : State). TakesUnder s t r.grant.number) (sym reach)
      (acknowledged_takes s e.before rest e.silent later c r.entry r.grant.number r.below mine
      (λ j low write grant none.
      only_write u r.safe c r.entry r.grant r.held r.runs r.outstanding r.sole j (in_u first j low)
      (ap (λ x. x.is_write) (first.start j low) ∙ write) (first.acknowledged j low ∙ none)
      (ap (λ x. x.tag) (first.start j low) ∙ r.tags j low write grant none))) in
      record {
        none = λ q. absurd (cc (sym r.returned_is ∙ q));
        under = λ n q.
            let same : r.grant.number ≡ n = cc (sym r.returned_is ∙ q) in
            subst (TakesUnder s (after_all s events)) same takes;
      }
    where
      in_u : EntriesStay s u → (j : ℕ) → j < s.count → j < u.count
      in_u first j low = let l : s.count ≤ u.count = first.count in omega (arith, low, l)

pub losses_are_over : LossesAreReported → LossesElsewhere → LossesAreOver
losses_are_over here elsewhere w h m count f g s pairs k tied i is loss d e = elim (cases_Bool (is_here g loss)) [
  | inl yes_ ↦ is_there here elsewhere w h m count f g s pairs k tied i is loss d e yes_
  | inr no_ ↦ not_here here elsewhere w h m count f g s pairs k tied i is loss d e no_
]
