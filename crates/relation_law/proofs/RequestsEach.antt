-- Each new request of a client, by its file and by what it asks.
use Rattle.std.proofs.Common.{◌≡◌, ◌==◌, ◌<◌, ℕ, Bool, true, false, List, [], ◌∷◌, Option, Some, None, refl, sym, ap, subst, ◌∙◌, inl, inr, if◌then◌else◌}
use Rattle.std.specs.Prelude.{option_map}
use Rattle.std.proofs.lemmas.Bool.{cases_eq, eqb-true, eq-eqb, ne_eqb, true≢false}
use Rattle.data_map.specs.declared.check.RawMap.{RawMap}
use Rattle.layout_types.specs.declared.ioerrs.IoErr.{IoErr}
use Rattle.osd_lists.specs.declared.node.Node.TheVariants as node
use Rattle.scenario_text.specs.declared.line.Line.{Line}
use Rattle.scenario_text.specs.declared.names.TheConstants.{CLIENTS}
use Rattle.layout_ops.specs.declared.args.Args.{Args}
use Rattle.layout_ops.specs.declared.args.Args.TheVariants as args
use Rattle.layout_ops.specs.declared.statuses.TheConstants.{NFS4_OK, LAYOUTIOMODE4_RW, LAYOUTIOMODE4_READ}
use Rattle.layout_ops.specs.declared.messages.Answer.{Answer}
use Rattle.layout_ops.specs.declared.results.LayoutGetOk.{LayoutGetOk}
use Rattle.server_rules.specs.Answers.{result_of, result_with}
use Rattle.server_rules.specs.Envelopes.{asked_in}
use Rattle.server_rules.specs.Files.{file_at, at_file}
use Rattle.server_rules.specs.History.{Hears}
use Rattle.server_rules.specs.Messages.{Asks}
use Rattle.server_rules.specs.Slots.{slot_of}
use Rattle.server_rules.specs.Requests.{serves, answer_with}
use Rattle.server_rules.specs.Served.{Served}
use Rattle.client_rules.specs.Calls.{file_of, is_write}
use Rattle.client_rules.specs.Grants.{held_of}
use Rattle.client_rules.specs.Requests.{get_args}
use Rattle.client_rules.specs.Results.{status_of, layouts_in}
use Rattle.world_history.specs.ServerNames as server_rules
use Rattle.world_history.specs.ServerNames.{Server, File, Drive, ClientRequest, RequestArgs, Get as Gets, Commit as Commits, Return as Returns}
use Rattle.world_history.specs.ClientNames.{Client, Call, CallOp, Held, Request, Phase, Starts, Needs, Waits, Reads as ReadsOn, Probes, Gathers, Scatters, First, Get as GetsLayout, Commit, Report, Close}
use Rattle.world_history.specs.State.{World}
use Rattle.world_history.specs.Handed.{pending_op}
use Rattle.world_history.specs.Sending.{Move, move}
use Rattle.history_law.specs.Doing.{input_in}
use Rattle.exchange_law.specs.Calls.{IsNoGet, IsCall, Knows, CallFine, PhaseFine, IsAsking}
use Rattle.history_law.specs.Granted.{NumbersFit}
use Rattle.exchange_law.specs.HeldTaken.{IsGetOf}
use Rattle.exchange_law.specs.Meeting.{IsSoundFile, KeptGood}
use Rattle.exchange_law.specs.Shapes.{HasShape}
use Rattle.exchange_law.proofs.CountMoments.{reached}
use Rattle.exchange_law.proofs.Covered.{rw_again}
use Rattle.exchange_law.proofs.HeldAsking.{none_told, NoGetAsked}
use Rattle.exchange_law.proofs.HeldWorlds.{next_moment}
use Rattle.exchange_law.proofs.Shapes.{files_have_shape}
use Rattle.history_law.proofs.Running.{parties_run}
use Rattle.fence_law.specs.Starts.{granted}
use Rattle.fence_law.specs.State.{State, Event, RequestKind, Grant as MachineGrant}
use Rattle.fence_law.specs.State.{Event as event}
use Rattle.fence_law.specs.State.RequestKind.{Get, Return}
use Rattle.fence_law.specs.Machine.{after, after_all}
use Rattle.file_simulation.specs.EventLists.{where_so}
use Rattle.file_simulation.specs.Grants.{covers_column}
use Rattle.file_simulation.specs.Relation.{client_of}
use Rattle.file_simulation.specs.Requests.{RequestClass, Own, Other, phase_of, return_class, class_by, class_of, Gives, GivesIn, IsWaiting, IsAway, ClassIs, kept_by}
use Rattle.file_simulation.specs.ServerEvents as table
use Rattle.relation_law.specs.Frames.{AreAll}
use Rattle.relation_law.specs.Requests.{IsPlain, IsSteady}
use Rattle.relation_law.specs.RequestsGoing.{GivesGrant, OwnLaws}
use Rattle.relation_law.specs.Steps.{FollowsWhole, whole_behind}
use Rattle.relation_law.proofs.FramesFiles.{file_stays}
use Rattle.relation_law.proofs.FramesStay.{all_as}
use Rattle.relation_law.proofs.RequestsAsked.{return_no_get}
use Rattle.relation_law.proofs.RequestsGiven.{ok_gives}
use Rattle.relation_law.proofs.RequestsGuards.{layouts_ok}
use Rattle.relation_law.proofs.RequestsOwn.{server_is}
use Rattle.relation_law.proofs.RequestsKept as own
use Rattle.relation_law.proofs.RequestsLayout.{gives_it}
use Rattle.relation_law.proofs.RequestsLines.{fences_plain, loss_plain, committed_plain, steady_plain}
use Rattle.relation_law.proofs.RequestsOn.{IsServed}
use Rattle.relation_law.proofs.RequestsServed.{commit_read, return_read, refuses_tells, frees_tells, grants_tells}

-- ---- the LAYOUTGET of a call

-- the pending call waits for the answer to it
pub record IsGetting (x : Client) (r : Request) : Type 0 where
  pub op : CallOp
  pub tries : ℕ
  pub call_is : x.call ≡ Some (record { op = op; phase = Waits (GetsLayout tries) })
  pub fine : IsCall op
  pub file_is : r.file ≡ file_of op
  pub args_are : r.args ≡ get_args op

getting : (K : Knows) (x : Client) (hs : List Held) (r : Request) → x.outstanding ≡ Some r → (IsNoGet r.args → ⊥)
    → (o : Option Call) → x.call ≡ o → CallFine K hs (Some r) o → IsGetting x r
getting K x hs r out gets None is fine = absurd (gets fine)
getting K x hs r out gets (Some call) is fine = by_phase call.phase refl fine.1
  where
    of_asking : (tries : ℕ) → call.phase ≡ Waits (GetsLayout tries)
        → IsAsking (K call.op (GetsLayout tries)) (Some r) (file_of call.op) (get_args call.op) → IsGetting x r
    of_asking tries at asks =
        let same : r ≡ asks.request = cc asks.outstanding in
        record {
          op = call.op;
          tries = tries;
          call_is = is ∙ ap (λ (z : Phase). Some (record { op = call.op; phase = z })) at;
          fine = fine.0;
          file_is = ap (λ (z : Request). z.file) same ∙ asks.file_is;
          args_are = ap (λ (z : Request). z.args) same ∙ asks.args_are;
        }

    by_phase : (ph : Phase) → call.phase ≡ ph → PhaseFine K (held_of hs (file_of call.op)) (Some r) call.op ph
        → IsGetting x r
    by_phase Starts at f = absurd (gets f)
    by_phase (Needs n) at f = absurd (gets f.1)
    by_phase (Waits First) at f = absurd (gets f)
    by_phase (Waits (GetsLayout tries)) at f = of_asking tries at f.1
    by_phase (Waits (Commit timed)) at f =
        let same : r ≡ f.asks.request = cc f.asks.outstanding in
        absurd (gets (subst IsNoGet (sym (ap (λ (z : Request). z.args) same ∙ f.asks.args_are)) tt))
    by_phase (Waits (Report timed)) at f = absurd (gets f)
    by_phase (Waits (Close u report)) at f = absurd (gets f.1)
    by_phase (ReadsOn io) at f = absurd (gets f.1)
    by_phase (Probes io) at f = absurd (gets f.1)
    by_phase (Gathers io) at f = absurd (gets f.1)
    by_phase (Scatters io queue) at f = absurd (gets f.1)

-- ---- what an answer gives where there is no grant

-- none to a return
return_layouts : (ds : List Drive) (f : server_rules.Kept) (a : RequestArgs) (status : ℕ) (o : Option server_rules.Grant)
    → (report : List IoErr) → a ≡ Returns report → ((gr : server_rules.Grant) → o ≡ Some gr → ⊥)
    → layouts_in (result_with ds f a status o) ≡ None
return_layouts ds f a status None report is none =
    ap (λ (z : RequestArgs). layouts_in (result_of z status)) is
return_layouts ds f a status (Some gr) report is none = absurd (none gr refl)

gives_none : (m : RawMap) (a : Answer) (op : Option CallOp) (l : Option LayoutGetOk) → l ≡ None → GivesIn m a op l None
gives_none m a op None is = refl
gives_none m a op (Some ok) is = absurd (cc is)

-- none where the status isn't of success
no_success : (m : RawMap) (a : Answer) (op : Option CallOp) (l : Option LayoutGetOk) → layouts_in a.results ≡ l
    → (status_of a.results == NFS4_OK) ≡ false → GivesIn m a op l None
no_success m a op None is no_ = refl
no_success m a op (Some ok) is no_ =
    absurd (true≢false (sym (eq-eqb (status_of a.results) NFS4_OK (layouts_ok a.results ok is)) ∙ no_))

mode_of : (op : CallOp) (iomode offset count : ℕ) → asked_in (get_args op) ≡ Some (Gets iomode offset count)
    → (iomode == LAYOUTIOMODE4_RW) ≡ is_write op
mode_of op iomode offset count e =
    let same : (if is_write op then LAYOUTIOMODE4_RW else LAYOUTIOMODE4_READ) ≡ iomode = cc e in
    ap (λ (n : ℕ). n == LAYOUTIOMODE4_RW) (sym same) ∙ rw_again (is_write op)

module _ (laws : OwnLaws) (w : World) (h : List Line) (m : Move) (f g : File) (s : State) (k : FollowsWhole w h m f g s)
    (now c : ℕ) (q : ClientRequest) (comes : input_in w m.action ≡ Some (Hears now (node.Client c) (Asks q)))
    (low : c < CLIENTS) (is : IsServed w.server c q) (served : table.is_served w.server c q ≡ true) where
  abbrev file : ℕ
  file = f.kept.number

  abbrev x : Client
  x = client_of w c

  abbrev r : Request
  r = own.r laws w h m f g s k now c q comes low is served

  abbrev Agrees : Type 0
  Agrees = own.Agrees laws w h m f g s k now c q comes low is served

  abbrev firsts : List Event
  firsts = own.firsts laws w h m f g s k now c q comes low is served

  abbrev lasts : State → List Event
  lasts = own.lasts laws w h m f g s k now c q comes low is served

  abbrev a : Answer
  a = (own.answered laws w h m f g s k now c q comes low is served).answer

  reads_file : q.file ≡ r.file
  reads_file = (own.its laws w h m f g s k now c q comes low is served).reads.file

  reads_args : asked_in r.args ≡ Some q.args
  reads_args = (own.its laws w h m f g s k now c q comes low is served).reads.args

  number_same : g.kept.number ≡ file
  number_same =
      (file_stays w h k.follows.moment m k.follows.is_due file f g k.follows.there k.follows.goes).same.number

  -- ---- a request on another file

  another : (q.file ≡ file → ⊥) → Agrees
  unfolding class_of
  another other =
      own.counts laws w h m f g s k now c q comes low is served
      (ap (λ (b : Bool). if b then class_by (phase_of x.call) r.args else Other)
      (ne_eqb r.file file (λ e. other (reads_file ∙ e)))) []
      (ap (λ (b : Bool). if b then table.served_here s q.client q.args
      (table.is_ok (table.answer_of (own.did laws w h m f g s k now c q comes low is served).sends)) f g
      else event.ServesOther q.client ∷ [])
      (ne_eqb q.file file other) ∙ ap (λ (n : ℕ). event.ServesOther n ∷ []) is.client) tt
      (λ u. subst (λ (b : Bool). AreAll IsPlain (where_so b (table.answered_here u c q.args a g)))
      (sym (ne_eqb q.file g.kept.number (λ e. other (e ∙ number_same)))) tt)

  -- ---- one on this file

  module _ (here : q.file ≡ file) where
    class_is : class_of file x r ≡ class_by (phase_of x.call) r.args
    unfolding class_of
    class_is = ap (λ (b : Bool). if b then class_by (phase_of x.call) r.args else Other)
        (eq-eqb r.file file (sym reads_file ∙ here))

    firsts_are : firsts ≡ table.served_here s q.client q.args
        (table.is_ok (table.answer_of (own.did laws w h m f g s k now c q comes low is served).sends)) f g
    firsts_are = ap (λ (b : Bool). if b then table.served_here s q.client q.args
        (table.is_ok (table.answer_of (own.did laws w h m f g s k now c q comes low is served).sends)) f g
        else event.ServesOther q.client ∷ []) (eq-eqb q.file file here)

    lasts_are : (u : State) → lasts u ≡ table.answered_here u c q.args a g
    lasts_are u = ap (λ (b : Bool). where_so b (table.answered_here u c q.args a g))
        (eq-eqb q.file g.kept.number (here ∙ sym number_same))

    there : file_at w.server.files q.file ≡ Some f
    there = ap (file_at w.server.files) here ∙ k.follows.there

    abbrev served_at : Served
    served_at = serves (at_file w.server m.chosen f) w.server.next_grant w.server.format now q.client q.args

    on_file : (a ≡ answer_with w.server q served_at)
        × (file_at (own.did laws w h m f g s k now c q comes low is served).state.files q.file ≡ Some served_at.going.file)
    on_file = (own.answered laws w h m f g s k now c q comes low is served).on_file f there

    file_is : served_at.going.file ≡ g
    file_is =
        cc (sym on_file.1 ∙ ap (file_at (own.did laws w h m f g s k now c q comes low is served).state.files) here
        ∙ ap (λ (z : Server). file_at z.files file) (sym (server_is w h m f g s k (Hears now (node.Client c) (Asks q)) comes))
        ∙ k.follows.goes)

    size_is : (whole_behind k).size ≡ a.size
    size_is =
        (laws.kept w h m f g s k).size ∙ ap (λ (z : File). z.kept.size) (sym file_is)
        ∙ ap (λ (z : Answer). z.size) (sym on_file.0)

    -- ---- a return

    no_layouts : (report : List IoErr) → q.args ≡ Returns report → layouts_in a.results ≡ None
    no_layouts report args_are =
        ap (λ (z : Answer). layouts_in z.results) on_file.0
        ∙ return_layouts w.server.drives served_at.going.file.kept q.args served_at.told.status served_at.told.grant report
        args_are (λ gr told. none_told (at_file w.server m.chosen f) w.server.next_grant w.server.format now q.client q.args gr
        (subst NoGetAsked (sym args_are) tt) told)

    nothing : (report : List IoErr) → q.args ≡ Returns report → Gives f.kept.map a (pending_op x) None
    nothing report args_are = gives_none f.kept.map a (pending_op x) (layouts_in a.results) (no_layouts report args_are)

    -- what stands behind its answer is of no request
    losses : (report : List IoErr) → q.args ≡ Returns report → (u : State) → AreAll IsSteady (lasts u)
    losses report args_are u =
        subst (AreAll IsSteady) (sym (lasts_are u ∙ ap (λ (b : RequestArgs). table.answered_here u c b a g) args_are))
        (loss_plain u c a)

    return_first : (report : List IoErr) → q.args ≡ Returns report → (b : Bool) → s.waiting c ≡ b
        → firsts ≡ table.returned s c b f g
    return_first report args_are b waits =
        firsts_are ∙ ap (λ (z : RequestArgs). table.served_here s q.client z
        (table.is_ok (table.answer_of (own.did laws w h m f g s k now c q comes low is served).sends)) f g) args_are
        ∙ ap (λ (n : ℕ). table.returned s n (s.waiting n) f g) is.client
        ∙ ap (λ (z : Bool). table.returned s c z f g) waits

    its_waits : ClassIs f.kept.map s c x (kept_by (slot_of w.server.slots c) r) (class_of file x r)
    its_waits = (own.its_waits laws w h m f g s k now c q comes low is served).waits

    returns : (report : List IoErr) → q.args ≡ Returns report → (o : RequestClass) → class_of file x r ≡ o
        → ((b : Bool) → o ≡ Own (Get b) → ⊥) → Agrees
    returns report args_are Other class none =
        let away : IsAway s c = subst (ClassIs f.kept.map s c x (kept_by (slot_of w.server.slots c) r)) class its_waits in
        own.counts laws w h m f g s k now c q comes low is served class (table.fences f g)
        (return_first report args_are false away.waiting)
        (all_as IsSteady IsPlain steady_plain (table.fences f g) (fences_plain f g))
        (λ u. all_as IsSteady IsPlain steady_plain (lasts u) (losses report args_are u))
    returns report args_are (Own (Return true)) class none =
        let waits : IsWaiting f.kept.map s c x (Return true) (kept_by (slot_of w.server.slots c) r) =
        subst (ClassIs f.kept.map s c x (kept_by (slot_of w.server.slots c) r)) class its_waits in
        own.answers_first laws w h m f g s k now c q comes low is served (Return true) class size_is None
        (nothing report args_are) [] (event.Frees c)
        (return_first report args_are true waits.waiting ∙ ap (λ (z : RequestKind). table.return_served s c z f g) waits.asked)
        tt (frees_tells s c) (losses report args_are)
    returns report args_are (Own (Return false)) class none =
        let waits : IsWaiting f.kept.map s c x (Return false) (kept_by (slot_of w.server.slots c) r) =
        subst (ClassIs f.kept.map s c x (kept_by (slot_of w.server.slots c) r)) class its_waits in
        own.answers_first laws w h m f g s k now c q comes low is served (Return false) class size_is None
        (nothing report args_are) (table.fences f g) (event.Refuses c (Return false))
        (return_first report args_are true waits.waiting ∙ ap (λ (z : RequestKind). table.return_served s c z f g) waits.asked)
        (fences_plain f g) (refuses_tells (after_all s (table.fences f g)) c (Return false)) (losses report args_are)
    returns report args_are (Own (Get b)) class none = absurd (none b refl)

    -- ---- a commit

    commits : (last : Option ℕ) → q.args ≡ Commits last → class_of file x r ≡ Other → Agrees
    commits last args_are class =
        let ok : Bool = table.is_ok (table.answer_of (own.did laws w h m f g s k now c q comes low is served).sends) in
        own.counts laws w h m f g s k now c q comes low is served class (table.committed s c ok)
        (firsts_are ∙ ap (λ (z : RequestArgs). table.served_here s q.client z ok f g) args_are
        ∙ ap (λ (n : ℕ). event.ServesOther n ∷ table.committed s n ok) is.client)
        (committed_plain s c ok)
        (λ u. subst (AreAll IsPlain) (sym (lasts_are u ∙ ap (λ (b : RequestArgs). table.answered_here u c b a g) args_are)) tt)

    -- ---- a LAYOUTGET

    sound : IsSoundFile w.server g
    sound =
        let fits = (own.readable_behind laws w h m f g s k now c q comes low is served).files file g k.follows.goes in
        let shape : HasShape g.kept =
        files_have_shape parties_run (move w m).world
        (reached (move w m).world _ (next_moment w h k.follows.moment m k.follows.is_due)) file g k.follows.goes in
        let drives : (move w m).world.server.drives ≡ w.server.drives =
        ap (λ (z : Server). z.drives) (server_is w h m f g s k (Hears now (node.Client c) (Asks q)) comes)
        ∙ (own.answered laws w h m f g s k now c q comes low is served).drives in
        record {
          shaped = record { map = fits.map; few = shape.few; components = shape.components };
          drives = fits.drives;
          fits = λ n gr has. subst (λ (ds : List Drive). NumbersFit ds g.kept gr) drives (fits.fits n gr has);
        }

    module _ (iomode offset count : ℕ) (args_are : q.args ≡ Gets iomode offset count)
        (class : class_of file x r ≡ Own (Get (iomode == LAYOUTIOMODE4_RW))) (call : IsGetting x r) where
      abbrev rw_ : Bool
      rw_ = iomode == LAYOUTIOMODE4_RW

      abbrev u : State
      u = (own.goes laws w h m f g s k now c q comes low is served).0

      fences_first : AreAll IsSteady firsts
      fences_first = subst (AreAll IsSteady)
          (sym (firsts_are ∙ ap (λ (z : RequestArgs). table.served_here s q.client z
          (table.is_ok (table.answer_of (own.did laws w h m f g s k now c q comes low is served).sends)) f g) args_are))
          (fences_plain f g)

      last_is : (b : Bool) → (status_of a.results == NFS4_OK) ≡ b → lasts u ≡ table.get_answered c rw_ b g
      last_is b e =
          lasts_are u ∙ ap (λ (z : RequestArgs). table.answered_here u c z a g) args_are
          ∙ ap (λ (z : Bool). table.get_answered c rw_ z g) e

      is_get : IsGetOf call.op q
      is_get = record {
        file = reads_file ∙ call.file_is;
        args = ap asked_in (sym call.args_are) ∙ reads_args;
      }

      pending : pending_op x ≡ Some call.op
      pending = ap (λ (o : Option Call). option_map (λ (z : Call). z.op) o) call.call_is

      -- it asks to write exactly where the call does
      mode_is : is_write call.op ≡ rw_
      mode_is = sym (mode_of call.op iomode offset count (is_get.args ∙ ap (λ (z : RequestArgs). Some z) args_are))

      map_same : g.kept.map ≡ f.kept.map
      map_same = (file_stays w h k.follows.moment m k.follows.is_due file f g k.follows.there k.follows.goes).same.map

      refused : (b : Bool) → (status_of a.results == NFS4_OK) ≡ b → b ≡ false → Agrees
      refused b e no_ =
          own.answers_last laws w h m f g s k now c q comes low is served (Get rw_) class size_is None
          (no_success f.kept.map a (pending_op x) (layouts_in a.results) refl (e ∙ no_))
          (event.Refuses c (Get rw_)) fences_first
          (last_is b e ∙ ap (λ (z : Bool). table.get_answered c rw_ z g) no_) (refuses_tells u c (Get rw_))

      -- the machine's grant
      module _ (gave : GivesGrant w.server g a call.op c) (ok : status_of a.results ≡ NFS4_OK) where
        abbrev range : ℕ → Bool
        range = covers_column g.kept.map gave.grant.first gave.grant.end

        abbrev e : Event
        e = event.Grants c gave.grant.number rw_ range gave.grant.extending

        abbrev its : MachineGrant
        its = granted u c gave.grant.number rw_ range gave.grant.extending

        grants_last : lasts u ≡ e ∷ []
        grants_last =
            last_is true (eq-eqb (status_of a.results) NFS4_OK ok)
            ∙ ap (λ (o : Option server_rules.Grant). table.granted c rw_ g.kept.map o) gave.has

        behind_is : whole_behind k ≡ after u e
        behind_is =
            (own.goes laws w h m f g s k now c q comes low is served).2
            ∙ ap (λ (l : List Event). after_all u l) grants_last

        gives_its : GivesIn g.kept.map a (Some call.op) (layouts_in a.results) (Some its)
        gives_its =
            gives_it w.server g a call.op c gave u rw_ (gave.writes ∙ mode_is)
            (ap (λ (z : State). z.tag) (sym behind_is) ∙ (laws.kept w h m f g s k).tag)
            (λ i at found. ap (λ (z : State). z.missing i) (sym behind_is) ∙ (laws.components w h m f g s k i at found).missing)

        gives_here : Gives f.kept.map a (pending_op x) (Some its)
        gives_here =
            subst (λ (z : RawMap). Gives z a (pending_op x) (Some its)) map_same
            (subst (λ (o : Option CallOp). Gives g.kept.map a o (Some its)) (sym pending) gives_its)

        granted_by : Agrees
        granted_by =
            own.answers_last laws w h m f g s k now c q comes low is served (Get rw_) class size_is (Some its) gives_here e
            fences_first grants_last (grants_tells u c gave.grant.number rw_ range gave.grant.extending)

      gave_it : status_of a.results ≡ NFS4_OK → GivesGrant w.server g a call.op c
      gave_it ok =
          let gave : GivesGrant w.server served_at.going.file (answer_with w.server q served_at) call.op q.client =
          ok_gives w.server now m.chosen q f there call.op is_get call.fine.range
          (subst (IsSoundFile w.server) (sym file_is) sound)
          (ap (λ (z : Answer). status_of z.results) (sym on_file.0) ∙ ok) in
          subst (GivesGrant w.server g a call.op) is.client
          (subst (λ (z : File). GivesGrant w.server z a call.op q.client) file_is
          (subst (λ (z : Answer). GivesGrant w.server served_at.going.file z call.op q.client) (sym on_file.0) gave))

      granted_it : status_of a.results ≡ NFS4_OK → Agrees
      granted_it ok = granted_by (gave_it ok) ok

      gets : Agrees
      gets = either (status_of a.results == NFS4_OK) refl
        where
          either : (b : Bool) → (status_of a.results == NFS4_OK) ≡ b → Agrees
          either true e = granted_it (eqb-true (status_of a.results) NFS4_OK e)
          either false e = refused false e refl

    -- ---- by what is asked

    by_args : (b : Args) → r.args ≡ b → Agrees
    by_args (args.LayoutGet y) at =
        gets y.iomode y.offset y.length (cc (sym reads_args ∙ ap asked_in at))
        (class_is ∙ ap (class_by (phase_of x.call)) at)
        (getting (KeptGood w.server c) x x.held r (own.its laws w h m f g s k now c q comes low is served).outstanding
        (λ none. subst IsNoGet at none) x.call refl
        (subst (λ (o : Option Request). CallFine (KeptGood w.server c) x.held o x.call)
        (own.its laws w h m f g s k now c q comes low is served).outstanding
        (own.met laws w h m f g s k now c q comes low is served).call))
    by_args (args.LayoutCommit y) at =
        commits y.last_write_offset (commit_read y.last_write_offset _ q.args (sym (ap asked_in at) ∙ reads_args))
        (class_is ∙ ap (class_by (phase_of x.call)) at)
    by_args (args.LayoutReturn y) at =
        let read = return_read _ q.args (sym (ap asked_in at) ∙ reads_args) in
        returns read.0 read.1 (return_class (phase_of x.call)) (class_is ∙ ap (class_by (phase_of x.call)) at)
        (return_no_get (phase_of x.call))

  -- a new request keeps what the machine has of its client's requests
  pub each_request : Agrees
  each_request = elim (cases_eq q.file file) [
    | inl here ↦ by_args here r.args refl
    | inr other ↦ another other
  ]
