-- For a file that a move makes stands the machine of a file that was just made: `EachFileIsCreated` holds.
use Rattle.std.proofs.Common.{◌≡◌, ◌++◌, ◌<◌, ◌+◌, ℕ, Bool, true, List, [], Option, Some, None, slice_get, refl, sym, ap, subst, ◌∙◌, arith, inl, inr}
use Rattle.std.proofs.lemmas.Bool.{cases_eq, eq-eqb, ne_eqb}
use Rattle.std.proofs.lemmas.Option.{same_Some}
use Rattle.osd_commands.specs.declared.actions.Action.TheVariants as action
use Rattle.osd_commands.specs.declared.commands.Command.{Command}
use Rattle.osd_objects.specs.declared.object.StoredObject.{StoredObject}
use Rattle.osd_objects.specs.Store.{lane_or_none}
use Rattle.layout_ops.specs.declared.messages.Answer.{Answer}
use Rattle.scenario_text.specs.declared.line.Line.{Line}
use Rattle.scenario_text.specs.declared.names.TheConstants.{CLIENTS}
use Rattle.server_rules.specs.Files.{file_at}
use Rattle.server_rules.specs.Grants.{grant_of}
use Rattle.server_rules.specs.Laws.{last_of}
use Rattle.server_rules.specs.Slots.{slot_of}
use Rattle.client_rules.specs.Grants.{held_of}
use Rattle.world_history.specs.Calm.{moment_of}
use Rattle.world_history.specs.ClientNames.{Client, Held, Request}
use Rattle.world_history.specs.Plans.{due}
use Rattle.world_history.specs.ReadLog.{Log, log_of}
use Rattle.world_history.specs.Sending.{Move, move}
use Rattle.world_history.specs.ServerNames.{Server, File, Component, Grant, Job, Slot}
use Rattle.world_history.specs.State.{World}
use Rattle.history_law.specs.BookMoments.{IsMoment, plan_at, lines_in}
use Rattle.history_law.specs.Unforged.{AreUnforged}
use Rattle.history_law.proofs.Ending.{next_moment}
use Rattle.component_law.specs.Going.{EachStepTells}
use Rattle.component_law.specs.Naming.{AreNamed}
use Rattle.component_law.specs.Sent.{IsSentByRun}
use Rattle.component_law.specs.Sound.{IsSound}
use Rattle.component_law.proofs.NamedLines.{are_named}
use Rattle.exchange_law.specs.Calls.{CallFine}
use Rattle.exchange_law.specs.InStep.{IsAwaiting, IsInStep, IsServed, StandsAt as InStep}
use Rattle.exchange_law.specs.Messages.{last_before}
use Rattle.exchange_law.specs.Meeting.{IsReadableThrough, KeptGood}
use Rattle.exchange_law.specs.Sent.{HasSent}
use Rattle.exchange_law.proofs.CountMoments.{reached}
use Rattle.exchange_law.proofs.HeldWorlds.{readable_there}
use Rattle.exchange_law.proofs.Knowing.{lawful_at}
use Rattle.exchange_law.proofs.HeldHearing.{made_file}
use Rattle.fence_law.specs.Log.{IsLog}
use Rattle.fence_law.specs.State.{State}
use Rattle.fence_law.specs.State as machine
use Rattle.fence_law.specs.State.Call.{Idle}
use Rattle.fence_law.specs.Words.{In as InRun}
use Rattle.plan_law.specs.FileLayout.{layout_of}
use Rattle.file_simulation.specs.Claim.{IsCalmHistory}
use Rattle.file_simulation.specs.Components.{AreComponents, is_lost_in, object_of}
use Rattle.file_simulation.specs.Creation.{created}
use Rattle.file_simulation.specs.Jobs.{AreJobs, DueOf, IsFresh, JobIs}
use Rattle.file_simulation.specs.Messages.{AreSent, HasCommanded}
use Rattle.file_simulation.specs.Phases.{AreBelowHigh, IsInUse, Outstanding, Held as IsHeld, Answered, IsKept, IsStill, OutstandingIs, PhaseIs}
use Rattle.file_simulation.specs.Relation.{IsClientOf, IsRelated, client_of}
use Rattle.file_simulation.specs.Requests.{kept_by, kept_for}
use Rattle.file_simulation.specs.Showing.{ArePaired, ShowsFile, ShowsLines}
use Rattle.file_simulation.specs.Tied.{AreTied}
use Rattle.file_simulation.specs.Simulation.{EachFileIsCreated, StandsAt}
use Rattle.file_simulation.proofs.Fronts.{before_all}
use Rattle.world_history.specs.Laws.{MomentGoesOn, AllLinesGoOn}
use Rattle.component_law.specs.LeftPending.{PendingIsRead}
use Rattle.relation_law.specs.ComponentsBehind.{AreUnready}
use Rattle.relation_law.specs.Requests.{IsReturning}
use Rattle.relation_law.specs.RequestsClients.{AsksFor}
use Rattle.relation_law.specs.Steps.{AreCalls}
use Rattle.relation_law.specs.DriveHearing.{AwaitedAreSent}
use Rattle.relation_law.proofs.BirthsClients.{IsOfNew}
use Rattle.relation_law.proofs.BirthsMachine.{IsYoung, young_calm}
use Rattle.relation_law.proofs.ComponentsMade.{unready_at}
use Rattle.relation_law.proofs.ComponentsMoved.{MovedLaws, sound_there}
use Rattle.relation_law.proofs.ComponentsWorld.{awaited_are_sent, ran}
use Rattle.relation_law.proofs.RequestsClients.{clients_ask_for}
use Rattle.name_law.specs.ClientTells.{CallsOfTextArePending}
use Rattle.headline_law.specs.NotLogged.{NoneIsLoggedBehind}
use Rattle.headline_law.specs.Returned.{ReturnsAreLow}
use Rattle.headline_law.specs.Used.{ObjectsAreUsed}
use Rattle.headline_law.proofs.BirthAnswers.{GivesNothing, absent_give_nothing}
use Rattle.headline_law.proofs.BirthClients.{client, is_new, requests}
use Rattle.headline_law.proofs.BirthMachine.{class_for, client_stands, is_lost, is_run, is_young}
use Rattle.headline_law.proofs.BirthPending.{none_said, calls_tied}
use Rattle.headline_law.proofs.BirthReturns.{returns_are_there}
use Rattle.headline_law.proofs.BirthSent as sent
use Rattle.headline_law.proofs.BornFiles.{IsBorn}
use Rattle.headline_law.proofs.ClientIdle.{told_idle}
use Rattle.headline_law.proofs.EntriesLog.{said_of}
use Rattle.headline_law.proofs.EntriesRead.{moment_plain, said_plain}
use Rattle.headline_law.proofs.LoggedFiles.{held_file}
use Rattle.headline_law.proofs.ShownWhole.{ShownLaws, moment_server, shows}
use Rattle.headline_law.proofs.UsedObjects.{each_object_is_used}

-- what is known of the world
pub record BirthLaws : Type 0 where
  pub moved : MovedLaws
  pub shown : ShownLaws
  pub tells : EachStepTells
  pub none : NoneIsLoggedBehind
  pub moments : MomentGoesOn
  pub lines : AllLinesGoOn
  pub pending : PendingIsRead
  pub calls : CallsOfTextArePending
  pub low : ReturnsAreLow

module _ (laws : BirthLaws) (w : World) (h : List Line) (m : Move) (k : IsMoment w h)
    (is_due : due (plan_at k) w ≡ Some m.action) (calm : IsCalmHistory (h ++ lines_in w m)) (f : File)
    (absent : file_at w.server.files f.kept.number ≡ None)
    (there : file_at (move w m).world.server.files f.kept.number ≡ Some f) where
  abbrev v : World
  v = (move w m).world

  abbrev all : List Line
  all = h ++ lines_in w m

  abbrev n : ℕ
  n = f.kept.number

  behind : IsMoment v all
  behind = next_moment w h k m is_due

  before : IsCalmHistory h
  before = before_all laws.moments laws.lines laws.pending w h m calm

  through : IsReadableThrough h
  through = laws.moved.held.right.readable h (lawful_at w h k) before.scenario.text before.scenario.few

  fair : AreUnforged all
  fair = laws.moved.unforged all (lawful_at v all behind) calm.is_unguessed

  run : IsSentByRun w
  run = laws.moved.made.run w h k (are_named h before.scenario.written)

  none_there : (i : ℕ) → i ≡ n → (g : File) × (file_at w.server.files i ≡ Some g) → ⊥
  none_there i is it = cc (sym absent ∙ subst (λ (j : ℕ). file_at w.server.files j ≡ Some it.0) is it.1)

  -- ---- the move

  abbrev sent_ : AwaitedAreSent w
  sent_ = awaited_are_sent laws.moved.known w h k before.scenario.few

  abbrev used : ObjectsAreUsed w
  used = each_object_is_used laws.moved w h k before

  abbrev sound : IsSound w.server
  sound = sound_there laws.moved.sound w run

  abbrev named : AreNamed all
  named = are_named all calm.scenario.written

  is_born : IsBorn w.server f
  is_born = sent.is_born laws.tells w h m k is_due named sound sent_ used f absent there

  same_slots : v.server.slots ≡ w.server.slots
  same_slots = sent.same_slots laws.tells w h m k is_due named sound sent_ used f absent there

  same_clients : (c : ℕ) → client_of v c ≡ client_of w c
  same_clients = sent.same_clients laws.tells w h m k is_due named sound sent_ used f absent there

  none_stored : (i : ℕ) (at : Component) → slice_get f.kept.components i ≡ Some at → object_of v at ≡ None
  none_stored = sent.none_stored laws.tells w h m k is_due named sound sent_ used f absent there

  none_sent : (c d i : ℕ) (x : Command) (at : Component) → HasSent v c d x → slice_get f.kept.components i ≡ Some at →
      x.object ≡ at.object → ⊥
  none_sent = sent.none_sent laws.tells w h m k is_due named sound sent_ used f absent there

  all_creates : (d i : ℕ) (x : Command) (at : Component) → HasCommanded v d x → slice_get f.kept.components i ≡ Some at →
      x.object ≡ at.object → x.action ≡ action.Create
  all_creates = sent.all_creates laws.tells w h m k is_due named sound sent_ used f absent there

  -- ---- clients

  none_returns : (c : ℕ) (r : Request) → (client_of w c).outstanding ≡ Some r → IsReturning r.args → r.file ≡ n → ⊥
  none_returns c r out back same =
      none_there r.file same
      (returns_are_there laws.moved.made.more laws.moved.held.own laws.moved.held.right.world.agree w h k through c r out back)

  gone : (c : ℕ) (r : Request) → (client_of v c).outstanding ≡ Some r → IsReturning r.args → r.file ≡ n → ⊥
  gone c r out back same =
      none_returns c r (ap (λ (x : Client). x.outstanding) (sym (same_clients c)) ∙ out) back same

  new : (c : ℕ) → IsOfNew (class_for n (client_of v c) (client_of v c).outstanding)
  new c = is_new n (client_of v c) (client_of v c).outstanding (gone c)

  abbrev s : State
  s = created v f

  young : IsYoung (layout_of f.kept.map f.kept.first_tag) s
  young = is_young v f new

  none_held : (c : ℕ) → held_of (client_of v c).held n ≡ None
  none_held c = by (held_of (client_of w c).held n) refl
    where
      by : (o : Option Held) → held_of (client_of w c).held n ≡ o → held_of (client_of v c).held n ≡ None
      by None none = ap (λ (x : Client). held_of x.held n) (same_clients c) ∙ none
      by (Some x) is =
          absurd (none_there n refl
          (held_file laws.moved.made.more laws.moved.held.own laws.moved.held.right.world.agree w h k through c n x is))

  -- the answer to a client's request on the file gives nothing
  nothing : (c : ℕ) (r : Request) → (client_of v c).outstanding ≡ Some r → r.file ≡ n → (a : Answer) →
      kept_by (slot_of v.server.slots c) r ≡ Some a → GivesNothing a
  nothing c r out same a kept =
      by_slot (slot_of w.server.slots c) refl (ap (λ (ss : List Slot). kept_by (slot_of ss c) r) (sym same_slots) ∙ kept)
    where
      then_ : (client_of w c).outstanding ≡ Some r
      then_ = ap (λ (x : Client). x.outstanding) (sym (same_clients c)) ∙ out

      awaits : IsAwaiting h c (slot_of w.server.slots c) (last_before (client_of w c).next) r
      awaits =
          subst (InStep h c (slot_of w.server.slots c) (last_before (client_of w c).next)) then_
          (laws.moved.known.in_step w h k c).stands

      made_nothing : IsServed h c (slot_of w.server.slots c) r → (t : Slot) →
          slot_of w.server.slots c ≡ Some t → GivesNothing t.kept
      made_nothing it t is =
          let one : it.slot ≡ t = same_Some it.slot t (sym it.kept ∙ is) in
          let file : it.slot.kept.file ≡ n =
          made_file h c r it.slot.kept ((readable_there w h k through).requests c r then_) it.made ∙ same in
          subst (λ (z : Slot). GivesNothing z.kept) one
          (absent_give_nothing w (reached w h k) c it.slot it.kept
          (ap (file_at w.server.files) file ∙ absent))

      by_last : (t : Slot) → slot_of w.server.slots c ≡ Some t → t.last ≡ r.sequence → GivesNothing t.kept
      by_last t is last = elim (awaits.served) [
        | inl next ↦
            let now : t.last + 1 ≡ r.sequence = ap (λ (o : Option Slot). last_of o + 1) (sym is) ∙ next in
            absurd (omega (arith, now, last))
        | inr it ↦ made_nothing it t is
      ]

      by_slot : (o : Option Slot) → slot_of w.server.slots c ≡ o → kept_by (slot_of w.server.slots c) r ≡ Some a → GivesNothing a
      by_slot None is has = absurd (cc (sym (ap (λ (o : Option Slot). kept_by o r) is) ∙ has))
      by_slot (Some t) is has =
          let here : kept_by (Some t) r ≡ Some a = sym (ap (λ (o : Option Slot). kept_by o r) is) ∙ has in
          elim (cases_eq t.last r.sequence) [
            | inl last ↦
                let one : t.kept ≡ a = cc (rw (eq-eqb t.last r.sequence last) at here) in
                subst GivesNothing one (by_last t is last)
            | inr other ↦ absurd (cc (rw (ne_eqb t.last r.sequence other) at here))
          ]

  asks : (c : ℕ) → AsksFor (client_of v c)
  asks c = clients_ask_for v (reached v all behind) c

  fine : (c : ℕ) → CallFine (KeptGood w.server c) (client_of v c).held (client_of v c).outstanding (client_of v c).call
  fine c =
      subst (λ (x : Client). CallFine (KeptGood w.server c) x.held x.outstanding x.call) (sym (same_clients c))
      (laws.moved.held.right.world.agree w h k through c).call

  in_step : (c : ℕ) → IsInStep v all c (client_of v c)
  in_step c = laws.moved.known.in_step v all behind c

  calls : AreCalls s v f
  calls c low =
      client (layout_of f.kept.map f.kept.first_tag) n f.kept.map s c (client_of v c) young (asks c) (none_held c)
      (KeptGood w.server c) (fine c) (gone c) (kept_for (slot_of v.server.slots c) (client_of v c).outstanding)

  idle : (c : ℕ) → s.call c ≡ Idle
  idle c = ap (λ (g : ℕ → machine.Call). g c) young.call

  clients : (c : ℕ) → c < CLIENTS → IsClientOf s v f c
  clients c low = record {
    slot =
        requests n f.kept.map s v.server c (client_of v c) all (client_of v c).outstanding refl (in_step c).stands (nothing c)
        (client_stands v f new c low);
    client = calls c low;
    shown = λ call j is here at_read. absurd (cc (sym (idle c) ∙ at_read));
    told = told_idle s v f calls (λ d j at_write. cc (sym (idle d) ∙ at_write)) c low;
  }

  -- ---- components

  lost_is : (i : ℕ) (at : Component) → slice_get f.kept.components i ≡ Some at → s.lost i ≡ is_lost_in v at
  lost_is i at e = rw (is_born.present i at e) (is_lost v f new i at e)

  unready : AreUnready v f
  unready = unready_at laws.moved.made v all behind calm.scenario fair f there

  components : AreComponents s v f
  components i at e = record {
    missing = ap (λ (g : ℕ → Bool). g i) young.missing ∙ sym (is_born.present i at e);
    lost = lost_is i at e;
    stands = λ lost.
        let un = unready i at e (sym (lost_is i at e) ∙ lost) (none_stored i at e) in
        record {
          object =
              rw (none_stored i at e) (record {
                tag = ap (λ (g : ℕ → ℕ). g i) young.object_tag;
                cells = λ z. ap (λ (g : ℕ → ℕ → ℕ). g i z) young.cell;
                unready = un.unready;
                unused = young.unused;
                ungranted = un.ungranted;
                due = un.due;
              });
          lane = λ c low. rw (none_stored i at e) (λ d x has write object. absurd (none_sent c d i x at has e object));
          raised = λ up.
              let same = ap (λ (g : ℕ → ℕ). g i) young.object_tag in
              absurd (omega (arith, up, same, is_born.tag));
        };
    nonces = λ c low.
        let a = ap (λ (g : ℕ → ℕ → ℕ). g i c) young.last_nonce in
        let b = ap (λ (g : ℕ → ℕ). g c) young.nonce in
        omega (arith, a, b);
  }

  -- ---- what the server keeps

  still : IsStill s f
  still = record {
    fencing = young.fencing;
    repairing = young.repairing;
    outstanding = λ c.
        subst (λ (o : Option machine.Grant). OutstandingIs f.kept.map f.kept.tag (grant_of f.kept.grants c) o)
        (sym (ap (λ (g : ℕ → Option machine.Grant). g c) young.outstanding))
        (subst (λ (gs : List Grant). OutstandingIs f.kept.map f.kept.tag (grant_of gs c) None) (sym is_born.grants) tt);
    ended = is_born.ended;
    unused = λ busy. young.unused;
  }

  kept : IsKept s v.server f
  kept = record {
    tag = young.tag ∙ sym is_born.tag;
    size = young.size ∙ sym is_born.size;
    phase = subst (PhaseIs s f) (sym is_born.phase) still;
    next =
        let first = (ran laws.moved.known v all behind calm.scenario.few).ordered.first in
        let next = young.next in
        omega (arith, first, next);
    unready = λ e. young.unused;
  }

  in_use : (x : machine.Grant) → IsInUse s x → ⊥
  in_use x (Outstanding c e) = cc (sym (ap (λ (g : ℕ → Option machine.Grant). g c) young.outstanding) ∙ e)
  in_use x (IsHeld c e) = cc (sym (ap (λ (g : ℕ → Option machine.Grant). g c) young.held) ∙ e)
  in_use x (Answered c size waits i) = cc (sym (young.answers _ i))

  none_writes : (j : ℕ) → (s.start j).is_write ≡ true → ⊥
  none_writes j e = cc (sym (ap (λ (g : ℕ → machine.Start). (g j).is_write) young.start) ∙ e)

  low : AreBelowHigh s f
  low = record {
    grants = λ x uses. absurd (in_use x uses);
    writes = λ j x write touch. absurd (none_writes j write);
    worked = λ repairs j x unsettled touch. absurd (cc (sym young.repairing ∙ repairs));
  }

  -- ---- what was sent, and the job

  are_sent : AreSent s v f
  are_sent = record {
    writes = λ c d i x at has write e object stands. absurd (none_sent c d i x at has e object);
    replied = λ c i at l low e stands lane.
        absurd (cc (sym (ap (λ (o : Option StoredObject). lane_or_none o c) (none_stored i at e)) ∙ lane));
    raised = λ d i x at has tag e object. absurd (cc (sym tag ∙ all_creates d i x at has e object));
  }

  none_fresh : (i : ℕ) (x : Command) → IsFresh s v f i x → ⊥
  none_fresh i x fresh =
      cc (sym fresh.write ∙ all_creates fresh.component.drive i x fresh.component fresh.sent fresh.there fresh.object)

  jobs : AreJobs s v f
  jobs = record {
    owned = λ i x fresh. absurd (none_fresh i x fresh);
    owe = record {
      bytes = λ p. 0;
      piece = record { stripe = 0; column = 0; count = 0 };
      inside = λ i x fresh. absurd (none_fresh i x fresh);
      words = λ i x fresh. absurd (none_fresh i x fresh);
      sources = λ i x fresh. absurd (none_fresh i x fresh);
      due = due_of f.job refl;
    };
    job = job_is f.job refl;
    quiet = λ quiet c i x at e stands has write object. absurd (none_sent c at.drive i x at has e object);
  }
    where
      due_of : (o : Option Job) → f.job ≡ o → DueOf s v f (λ p. 0) o
      due_of None is = tt
      due_of (Some j) is = rw ((is_born.job j is).1) tt

      job_is : (o : Option Job) → f.job ≡ o → JobIs s v f o
      job_is None is = tt
      job_is (Some j) is = record {
        rows = rw ((is_born.job j is).1) tt;
        done = λ repairs. rw ((is_born.job j is).1) tt;
        target = rw ((is_born.job j is).1) tt;
      }

  related : IsRelated s v f
  related = record {
    layout = young.layout;
    components = components;
    kept = kept;
    low = low;
    clients = clients;
    sent = are_sent;
    jobs = jobs;
  }

  -- ---- what the lines show

  none_logged : log_of all n ≡ []
  none_logged = laws.none w h k m is_due calm.scenario n absent

  none_in_log : said_of n (moment_of all).log.entries ≡ []
  none_in_log =
      sym (ap (λ (l : Log). said_of n l.entries)
      (sym (moment_plain laws.moments laws.pending laws.lines laws.moved.made.more v all behind))
      ∙ said_plain n (moment_of all).log.entries)
      ∙ none_logged

  none_below : (j : ℕ) → j < s.count → ⊥
  none_below j low =
      let none = young.count in
      omega (arith, low, none)

  paired : ArePaired s n (moment_of all).log.entries []
  paired = record {
    same = λ i j pair. absurd pair;
    each = λ i e entry here. absurd (none_said n (moment_of all).log.entries none_in_log i e entry here);
    rising = λ i j g k pair. absurd pair;
    others = λ j low none. absurd (none_below j low);
  }

  file_is : (x : File) → file_at (moment_of all).server.files n ≡ Some x → x ≡ f
  file_is x e =
      same_Some x f (sym e ∙ ap (λ (y : Server). file_at y.files n)
      (moment_server laws.shown.book laws.shown.more laws.shown.grow v all behind calm.scenario) ∙ there)

  shows_file : ShowsFile all s [] f
  shows_file = record {
    layout = young.layout;
    components = λ i at e.
        shows laws.shown.more laws.shown.grow v all behind s f i at components e;
    marks = λ x d. absurd (none_below d.0 d.5);
  }

  shows_lines : ShowsLines all s n []
  shows_lines = record {
    paired = paired;
    log = subst (λ (i : ℕ). IsLog s i (log_of all n)) (sym young.count) none_logged;
    shown = λ x e. subst (ShowsFile all s []) (sym (file_is x e)) shows_file;
    calm = λ last is calm_. young_calm (layout_of f.kept.map f.kept.first_tag) s young;
  }

  -- ---- the lines and the machine

  none_given : (a : machine.Answer) (x : machine.Grant) → InRun a s.answers → a.grant ≡ Some x → ⊥
  none_given a x i e = cc (sym (young.answers a i) ∙ e)

  tied : AreTied v all s n []
  tied = record {
    single = λ i j k a. absurd a;
    calls = λ c low.
        calls_tied all n none_logged w.server s (client_of v) (laws.calls v all behind calm.scenario.text) asks none_held gone c
        low (client_of v c).call refl (fine c);
    apart = λ a x i e. absurd (none_given a x i e);
    over = λ c number t q there taken asked last back. record {
      low = laws.low v all behind calm.scenario c number q asked back;
      acknowledged = λ j low. absurd (none_below j low);
      unheld = λ d x has. absurd (cc (sym (ap (λ (g : ℕ → Option machine.Grant). g d) young.held) ∙ has));
      untaken = λ d size x waits i. absurd (none_given _ x i refl);
    };
  }

  stands : StandsAt v all f s []
  stands = record {
    there = there;
    run = is_run v f new;
    related = record { kept_file = f; there = there; related = related };
    shown = shows_lines;
    over = λ j g low. absurd (none_below j low);
    tied = tied;
    writes = λ j c d i x at posted write e object lost y sent holder nonce here.
        absurd (subst (InRun y) young.writes sent);
  }

pub each_file_is_created : BirthLaws → EachFileIsCreated
each_file_is_created laws w h more m next calm f absent there =
    let its = stands laws w h m next.moment next.is_due (subst (λ (l : List Line). IsCalmHistory (h ++ l)) next.lines calm) f
    absent there in
    ([], subst (λ (l : List Line). StandsAt (move w m).world (h ++ l) f (created (move w m).world f) []) (sym next.lines) its)
