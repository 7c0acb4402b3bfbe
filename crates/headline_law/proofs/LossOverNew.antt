-- Where a step of the server takes a loss for a new request, what the request returns is over behind the step.
-- Towards `CutsKeepEntries` (`specs/EntriesTied.antt`).
use Rattle.std.proofs.Common.{◌≡◌, ◌<◌, ◌≤◌, ◌+◌, ◌++◌, ◌⊎◌, ℕ, Bool, true, false, List, [], ◌∷◌, take, map, length, Option, Some, None, refl, sym, ap, subst, ◌∙◌, inl, inr, arith}
use Rattle.std.specs.Prelude.{suc}
use Rattle.std.specs.List.{list_any}
use Rattle.std.proofs.lemmas.Bool.{cases_Bool, cases_eq, cases_lt, true≢false}
use Rattle.layout_ops.specs.declared.messages.Answer.{Answer}
use Rattle.layout_ops.specs.declared.messages.Request.{Request}
use Rattle.scenario_text.specs.declared.line.Delivery.TheVariants as delivery
use Rattle.scenario_text.specs.declared.event.Event.TheVariants as event
use Rattle.scenario_text.specs.declared.line.Line.{Line}
use Rattle.scenario_text.specs.declared.line.Line.TheVariants as line
use Rattle.server_rules.specs.History.{Input, step}
use Rattle.server_rules.specs.Laws.{In}
use Rattle.server_rules.specs.Slots.{admit, slot_of}
use Rattle.world_history.specs.Calm.{is_taken_out, takes_loss, returned_in}
use Rattle.world_history.specs.Moves.{Action, Delivers, Opens, acts, begins}
use Rattle.world_history.specs.Names.{note_line}
use Rattle.world_history.specs.Sending.{Move, move, sends_all}
use Rattle.world_history.specs.ServerNames.{Server, File, Grant as Layout, Note, Answers, RequestArgs}
use Rattle.world_history.specs.State.{World}
use Rattle.history_law.specs.Doing.{input_in, did_in}
use Rattle.history_law.specs.Moments.{with_event, lines_in}
use Rattle.cause_law.proofs.Giving.{grants_rise}
use Rattle.fence_law.specs.Machine.{Lawful, after, after_all}
use Rattle.fence_law.specs.State.{State, Event, Grant, Start}
use Rattle.fence_law.specs.State.Event.{Acknowledges, Leaves}
use Rattle.fence_law.proofs.Words.{updated_at, updated_other}
use Rattle.file_simulation.specs.Claim.{IsOfScenario}
use Rattle.file_simulation.specs.Cuts.{lines_before, rebuilt_ahead, notes_behind}
use Rattle.file_simulation.specs.EventLists.{where_so, of_grant, entry_in}
use Rattle.file_simulation.specs.Events.{joined, events_of}
use Rattle.file_simulation.specs.ServerEvents as table
use Rattle.file_simulation.specs.ServerEvents.{is_new}
use Rattle.file_simulation.specs.Showing.{Pairs}
use Rattle.file_simulation.specs.Tied.{AreTied, HasAsked, IsOver}
use Rattle.file_simulation.proofs.Fronts.{scenario_before}
use Rattle.relation_law.specs.Steps.{behind, owed}
use Rattle.relation_law.proofs.FramesParties.{server_steps}
use Rattle.relation_law.proofs.KeptNotes.{lawful_front, after_both}
use Rattle.headline_law.specs.Parts.{CutShown, cut_at}
use Rattle.headline_law.specs.Returned.{ReturnsAreLow}
use Rattle.headline_law.proofs.EntriesBehindOver.{IsOverIn}
use Rattle.headline_law.proofs.EntriesServerAgain.{OthersAreApart}
use Rattle.headline_law.proofs.EntriesServerCalls.{ahead_own}
use Rattle.headline_law.proofs.EntriesServerEvents.{EndsWith}
use Rattle.headline_law.proofs.EntriesServerLoss.{TakesLoss}
use Rattle.headline_law.proofs.EntriesServerLosses as losses
use Rattle.headline_law.proofs.EntriesServerLosses.{LossReading, LossesAreOver}
use Rattle.headline_law.proofs.EntriesServerOver.{LossesAreReported, IsReported, is_here, returned_by}
use Rattle.headline_law.proofs.EntriesServerTaken.{TakesUnder}
use Rattle.headline_law.proofs.EntriesServerTold.{IsDelivered}
use Rattle.headline_law.proofs.LossOver.{GrantsAreAhead, NewLossesAreOver, stays_over}
use Rattle.headline_law.proofs.LossOverMachine.{over_unasked}
use Rattle.headline_law.proofs.LossOverNumbers.{AreNumbered, WasTaken, numbered_all, numbered_run, held_alone, held_untaken}

-- Where a new request comes, what its client's request of that number returns is read off its line.
abbrev pub ReturnsAreTold : Type 0
ReturnsAreTold =
    (w : World) (h : List Line) (m : Move) (count : ℕ) (f g : File) (s : State) (pairs : Pairs) →
    CutShown w h m count f g s pairs → (i : Input) → input_in w m.action ≡ Some i → (loss : TakesLoss w.server m.chosen i) →
    (d : IsDelivered w m i) → is_new (admit (slot_of w.server.slots loss.request.client) loss.request.sequence) ≡ true →
    (q : Request) → HasAsked w loss.request.client q → q.sequence ≡ loss.request.sequence → (number : ℕ) →
    returned_in q.args ≡ Some number → returned_by h d ≡ Some number

-- Where a new request that takes a loss is on another file, what it returns is live there.
abbrev pub OthersAreLive : Type 0
OthersAreLive =
    (w : World) (h : List Line) (m : Move) (count : ℕ) (f g : File) (s : State) (pairs : Pairs) →
    CutShown w h m count f g s pairs → (i : Input) → input_in w m.action ≡ Some i → (loss : TakesLoss w.server m.chosen i) →
    (d : IsDelivered w m i) → is_new (admit (slot_of w.server.slots loss.request.client) loss.request.sequence) ≡ true →
    is_here g loss ≡ false → (number : ℕ) → returned_by h d ≡ Some number →
    (x : File) × (y : Layout) × In x w.server.files × (x.kept.number ≡ f.kept.number → ⊥) × In y x.kept.grants
    × (y.number ≡ number)

-- what is known of losses
pub record NewLossLaws : Type 0 where
  pub reading : LossReading
  pub low : ReturnsAreLow
  pub ahead : GrantsAreAhead
  pub told : ReturnsAreTold
  pub live : OthersAreLive
  pub others : OthersAreApart
  pub reported : LossesAreReported
  pub over : LossesAreOver

-- ---- the lines of a whole step

rest_length : (ns : List Note) (x : Line) → length (map note_line ns ++ (x ∷ [])) ≡ suc (length ns)
rest_length [] x = refl
rest_length (n ∷ ns) x = ap suc (rest_length ns x)

module _ (laws : NewLossLaws) (w : World) (h : List Line) (m : Move) (count : ℕ) (f g : File) (s : State) (pairs : Pairs)
    (k : CutShown w h m count f g s pairs) (tied : AreTied w h s f.kept.number pairs) (i : Input)
    (is : input_in w m.action ≡ Some i) (full : count ≡ length (lines_in w m)) (loss : TakesLoss w.server m.chosen i)
    (new : is_new (admit (slot_of w.server.slots loss.request.client) loss.request.sequence) ≡ true) (q : Request) (number : ℕ)
    (asked : HasAsked w loss.request.client q) (same : q.sequence ≡ loss.request.sequence)
    (returned : returned_in q.args ≡ Some number) where
  takes : takes_loss (Some (step w.server m.chosen i)) ≡ true
  takes = ap (list_any is_taken_out) loss.sends ∙ rw loss.taken refl

  abbrev d : IsDelivered w m i
  d = losses.its laws.reading w h m count f g s k.shown.follows i is takes

  abbrev its : TakesLoss w.server m.chosen i
  its = losses.loss laws.reading w h m count f g s k.shown.follows i is takes

  abbrev last : Line
  last = (losses.last laws.reading w h m count f g s k.shown.follows i is takes).0

  abbrev notes : List Note
  notes = (step w.server m.chosen i).notes

  lines : (m.action ≡ Delivers d.number) ⊎ (m.action ≡ Opens (event.Deliver d.number)) →
      length (lines_in w m) ≡ lines_before m.action + suc (length notes)
  unfolding begins
  lines (inl act) =
      let own : lines_in w m ≡ line.Delivered d.number delivery.Taken ∷ (map note_line notes ++ (last ∷ [])) =
      ap (λ (a : Action). with_event a (sends_all (acts w m.chosen a)).lines) act
      ∙ losses.lines laws.reading w h m count f g s k.shown.follows i is takes in
      let n : length (lines_in w m) ≡ suc (suc (length notes)) = ap length own ∙ ap suc (rest_length notes last) in
      let one : lines_before m.action ≡ 1 = ap lines_before act in omega (arith, n, one)
  lines (inr act) =
      let own : lines_in w m
      ≡ line.Event (event.Deliver d.number) ∷ line.Delivered d.number delivery.Taken ∷ (map note_line notes ++ (last ∷ [])) =
      ap (λ (a : Action). with_event a (sends_all (acts w m.chosen a)).lines) act
      ∙ ap (λ (ls : List Line). line.Event (event.Deliver d.number) ∷ ls)
      (losses.lines laws.reading w h m count f g s k.shown.follows i is takes) in
      let n : length (lines_in w m) ≡ suc (suc (suc (length notes))) =
      ap length own ∙ ap (λ (x : ℕ). suc (suc x)) (rest_length notes last) in
      let two : lines_before m.action ≡ 2 = ap lines_before act in omega (arith, n, two)

  abbrev es : List Event
  es = joined (take count (events_of s w (owed k.shown.follows.related) f m))

  abbrev u : State
  u = behind k.shown.follows.related m count

  ends : EndsWith w f g i s (λ t. table.sent t w.server g i (Answers loss.answer)) es
  ends =
      let one : its.answer ≡ loss.answer =
      let e : Answers its.answer ∷ [] ≡ Answers loss.answer ∷ [] = sym its.sends ∙ loss.sends in cc e in
      subst (λ (a : Answer). EndsWith w f g i s (λ t. table.sent t w.server g i (Answers a)) es) one
      (losses.late laws.reading w h m count f g s k.shown.follows i is takes (suc (length notes))
      (full ∙ lines d.action) (omega arith))

  told : returned_by h d ≡ Some number
  told = laws.told w h m count f g s pairs k i is loss d new q asked same number returned

  scenario : IsOfScenario h
  scenario = scenario_before h (take count (lines_in w m)) k.shown.follows.calm.scenario

  low : number < w.server.next_grant
  low = laws.low w h k.shown.follows.moment scenario loss.request.client number q asked returned

  -- ---- on another file

  elsewhere : is_here g loss ≡ false → IsOver (move w m).world (cut_at k.shown.follows) number
  elsewhere no_ =
      let z = laws.live w h m count f g s pairs k i is loss d new no_ number told in
      let run : AreNumbered s = numbered_run s k.shown.follows.run in
      stays_over laws.ahead w h m count f g s pairs k i is number (record {
        low = low;
        acknowledged = λ j below write grant.
            laws.others w h m count f g s pairs k tied i is loss d new no_ number told j below write grant;
        unheld = λ c x has one.
            let t : WasTaken s c x = run.taken c x has in
            tied.apart _ x t.2 refl z.0 z.1 z.2 z.3 z.4 (z.5 ∙ sym one);
        untaken = λ c size x waits there one. tied.apart _ x there refl z.0 z.1 z.2 z.3 z.4 (z.5 ∙ sym one);
      })

  -- ---- on the file

  here : is_here g loss ≡ true → IsOver (move w m).world (cut_at k.shown.follows) number
  here yes_ =
      let z = laws.reported w h m count f g s pairs k tied i is loss d ends yes_ in
      let c : ℕ = loss.request.client in
      let t : State = after_all s ends.before in
      let r : IsReported s ends.before c (returned_by h d) = z.1 in
      let mine : r.grant.number ≡ number = cc (sym r.returned_is ∙ told) in
      let acts_ : table.sent t w.server g i (Answers loss.answer)
      ≡ Acknowledges c (entry_in (t.call c)) ∷ of_grant (t.held c) (λ x. Leaves c x ∷ []) =
      ap (λ (j : Input). table.sent t w.server g j (Answers loss.answer)) loss.asked.is
      ∙ ap (λ (b : Bool). where_so b (table.answered_here t c loss.request.args loss.answer g)) yes_
      ∙ ap (λ (a : RequestArgs). table.answered_here t c a loss.answer g) z.0.1
      ∙ ap (λ (b : Bool). where_so b (table.loss_answered t c)) loss.taken in
      let two : List Event = Acknowledges c (entry_in (t.call c)) ∷ (Leaves c r.grant ∷ []) in
      let are : es ≡ ends.before ++ two =
      ends.are
      ∙ ap (λ (fs : List Event). ends.before ++ fs) (acts_
      ∙ ap (λ (o : Option Grant). Acknowledges c (entry_in (t.call c)) ∷ of_grant o (λ x. Leaves c x ∷ [])) r.held) in
      let v : State = after (after t (Acknowledges c (entry_in (t.call c)))) (Leaves c r.grant) in
      let reach : u ≡ v = ap (after_all s) are ∙ after_both s ends.before two in
      let run : AreNumbered t =
      numbered_all s ends.before
      (lawful_front s ends.before two (subst (Lawful s) are k.lawful))
      (numbered_run s k.shown.follows.run) in
      let over : TakesUnder s u number = (laws.over w h m count f g s pairs k tied i is loss d ends).under number told in
      let in_v : IsOverIn v number = record {
        acknowledged = subst (λ (x : State). (j : ℕ) → j < x.count → (x.start j).is_write ≡ true →
            (x.start j).grant ≡ number → x.acknowledged j ≡ true) reach (λ j below write grant. elim (cases_lt j s.count) [
              | inl old ↦
                  over.under j old (ap (λ (y : Start). y.is_write) (sym (over.start j old)) ∙ write)
                  (ap (λ (y : Start). y.grant) (sym (over.start j old)) ∙ grant)
              | inr later ↦ absurd (true≢false (sym write ∙ (over.passed j later below).write))
            ]);
        unheld = λ b x has one. elim (cases_eq b c) [
          | inl e ↦ absurd (cc (sym (updated_at t.held c None b e) ∙ has))
          | inr other ↦
              other (held_alone t run c r.grant r.held b x (sym (updated_other t.held c None b other) ∙ has) (one ∙ sym mine))
        ];
        untaken = λ b size x waits there one. held_untaken t run c r.grant r.held b size x waits there (one ∙ sym mine);
      } in
      let fs : List Event = rebuilt_ahead u w f (notes_behind count m.action (did_in w m)) in
      let behind_all : IsOverIn (after_all u fs) number =
      over_unasked number u fs (ahead_own None u w f (notes_behind count m.action (did_in w m)))
      (subst (λ (x : State). IsOverIn x number) (sym reach) in_v) in
      let below : number < w.server.next_grant = low in
      let rises : w.server.next_grant ≤ (step w.server m.chosen i).state.next_grant = grants_rise w.server m.chosen i in
      let less : number < (step w.server m.chosen i).state.next_grant = omega (arith, below, rises) in
      record {
        low = subst (λ (x : Server). number < x.next_grant) (sym (server_steps w m i is)) less;
        acknowledged = behind_all.acknowledged;
        unheld = behind_all.unheld;
        untaken = behind_all.untaken;
      }

  over_new : IsOver (move w m).world (cut_at k.shown.follows) number
  over_new = elim (cases_Bool (is_here g loss)) [
    | inl yes_ ↦ here yes_
    | inr no_ ↦ elsewhere no_
  ]

pub new_losses_are_over : NewLossLaws → NewLossesAreOver
new_losses_are_over laws w h m count f g s pairs k tied i is full loss new q number asked same returned =
    over_new laws w h m count f g s pairs k tied i is full loss new q number asked same returned
