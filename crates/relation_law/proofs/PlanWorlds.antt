-- In a calm history the plan of each write that a client begins is that of its entry.
-- Towards `CallsGoOn` (`relation_law/specs/Steps.antt`).
use Rattle.std.proofs.Common.{◌≡◌, ◌++◌, Bool, true, List, [], ◌∷◌, find, Some, sym, ap, subst, ◌∙◌, inl, inr}
use Rattle.std.proofs.lemmas.Bool.{cases_Bool}
use Rattle.data_map.specs.Check.{IsChecked}
use Rattle.scenario_text.specs.declared.line.Line.{Line}
use Rattle.server_rules.specs.Slots.{slot_of}
use Rattle.client_rules.specs.History.{Input, Resends}
use Rattle.client_rules.specs.Io.{awaited_in}
use Rattle.client_rules.specs.Replies.{answers}
use Rattle.history_law.specs.Moves.{IsForClient}
use Rattle.world_history.specs.ClientNames.{Awaited, Client}
use Rattle.world_history.specs.Handed.{op_in}
use Rattle.world_history.specs.Moves.{acts}
use Rattle.world_history.specs.ServerNames.{File}
use Rattle.world_history.specs.Sending.{Move}
use Rattle.world_history.specs.State.{World}
use Rattle.history_law.specs.BookMoments.{lines_in}
use Rattle.history_law.specs.Counters.{GrantsAreCounted}
use Rattle.exchange_law.specs.Requests.{OneRequest}
use Rattle.exchange_law.specs.Text.{AreFew, AreOfText}
use Rattle.exchange_law.proofs.CountGrowing.{fewer}
use Rattle.exchange_law.proofs.HeldWorlds.{readable_there}
use Rattle.exchange_law.proofs.RefusalClients.{Known}
use Rattle.fence_law.specs.Law.{IsCode}
use Rattle.fence_law.specs.State.{State}
use Rattle.plan_law.proofs.Codes.{layouts_are_codes}
use Rattle.file_simulation.specs.Calls.{IsClient}
use Rattle.file_simulation.specs.ClientEvents.{Going, going_in}
use Rattle.file_simulation.specs.Requests.{kept_for}
use Rattle.relation_law.specs.Frames.{ByClient, IsSameFile}
use Rattle.relation_law.specs.Steps.{FollowsWhole}
use Rattle.relation_law.proofs.FramesFiles.{file_stays}
use Rattle.relation_law.proofs.RequestsKept.{taken_all}
use Rattle.relation_law.proofs.RequestsReturns.{by, low, then_, through}
use Rattle.relation_law.proofs.CallsGo.{WritesHavePlans}
use Rattle.relation_law.proofs.Heard.{heard}
use Rattle.relation_law.proofs.OwnFacts.{OwnWorld, fine, first_lawful, first_owned}
use Rattle.relation_law.proofs.Plans.{PlanFacts, plans_fit}
use Rattle.relation_law.proofs.SmallBytes.{about_small}

pub found_true : (p : Awaited → Bool) (xs : List Awaited) (a : Awaited) → find p xs ≡ Some a → p a ≡ true
found_true p [] a e = absurd (cc e)
found_true p (b ∷ xs) a e = elim (cases_Bool (p b)) [
  | inl t ↦ let same : b ≡ a = cc (rw t at e) in subst (λ (z : Awaited). p z ≡ true) same t
  | inr f ↦ found_true p xs a (rw f at e)
]

-- what is known of the world
pub record PlanLaws : Type 0 where
  pub own : OwnWorld
  pub counted : GrantsAreCounted
  pub one : OneRequest

module _ (laws : PlanLaws) (w : World) (h : List Line) (m : Move) (f g : File) (s : State) (k : FollowsWhole w h m f g s)
    (j : Going) (goes : going_in w m.action ≡ Some j) (fresh : j.input ≡ Resends → ⊥) where
  known : Known
  known = record {
    further = laws.own.held.right.world.more;
    counted = laws.counted;
    one = laws.one;
    in_step = laws.own.held.right.world.in_step;
  }

  same : IsSameFile f g
  same = (file_stays w h k.follows.moment m k.follows.is_due f.kept.number f g k.follows.there k.follows.goes).same

  its : ByClient w m.action j (acts w m.chosen m.action)
  its = by laws.own.held w h m f g s k j goes

  checked : IsChecked f.kept.map
  checked =
      ((readable_there w h k.follows.moment (through laws.own.held w h m f g s k j goes)).files f.kept.number f
      k.follows.there).map

  code : IsCode s.layout
  code =
      subst IsCode (sym k.follows.related.layout) (layouts_are_codes f.kept.map f.kept.first_tag checked)

  few : AreFew h
  few = fewer h _ k.follows.calm.scenario.few

  text : AreOfText (h ++ lines_in w m)
  text = subst (λ (z : List Line). AreOfText (h ++ z)) (taken_all (lines_in w m)) k.follows.calm.scenario.text

  pub facts : (x : IsClient f.kept.number f.kept.map s j.client j.state
      (kept_for (slot_of w.server.slots j.client) j.state.outstanding)) →
      PlanFacts f.kept.number f.kept.map j.client s j.state (slot_of w.server.slots j.client) x j.input w
  facts x = record {
    tag = f.kept.first_tag;
    layout = k.follows.related.layout;
    checked = checked;
    run = k.follows.run;
    code = code;
    fine = fine laws.own w h m f g s k same.number same.map j goes fresh;
    owned = first_owned laws.own w h m f g s k same.number same.map j goes fresh;
    lawful = first_lawful laws.own w h m f g s k same.number same.map j goes fresh;
    small = λ op about. about_small laws.own.held.right.world.more w h k.follows.moment m text j.client its.before its.found
        j.input its.input_is op (ap (λ (y : Client). op_in y j.input) (sym its.state_is) ∙ about);
    shown = λ call n is here reads. (k.follows.related.clients j.client (low laws.own.held w h m f g s k j goes)).shown call n
        (ap (λ (y : Client). y.call) (then_ laws.own.held w h m f g s k j goes) ∙ is) here reads;
    heard = λ drive q call hh a r done. heard known w h k.follows.moment few m.action j.client its.before drive q
        (subst (λ (i : Input). IsForClient w m.action j.client its.before i) r.is its.input_is) a
        (found_true (answers drive q) (awaited_in call.phase) a r.awaits) done;
  }

-- The plans of the writes that clients begin are those of their entries.
pub writes_have_plans : PlanLaws → WritesHavePlans
writes_have_plans laws w h m f g s k j goes fresh x =
    plans_fit f.kept.number f.kept.map j.client s j.state (slot_of w.server.slots j.client) x j.input w
    (facts laws w h m f g s k j goes fresh x)
