-- All that was sent to a rebuild's target is spent when it becomes a component.
-- Towards `JobsGoOn` (`relation_law`).
use Rattle.std.proofs.Common.{◌≡◌, ◌⊎◌, ℕ, ◌≤◌, true, List, [], ◌∷◌, map, slice_get, Option, Some, None, refl, sym, ap, subst, ◌∙◌, arith, inl, inr}
use Rattle.std.proofs.lemmas.Bool.{cases_Bool, cases_lt, true≢false}
use Rattle.std.proofs.lemmas.Option.{same_Some}
use Rattle.osd_lists.specs.declared.node.Node.TheVariants as node
use Rattle.osd_commands.specs.declared.actions.Action.TheVariants as action
use Rattle.osd_commands.specs.declared.commands.Command.{Command}
use Rattle.osd_commands.specs.declared.replies.Reply.{Reply}
use Rattle.osd_drive.specs.Table.{is_mutating}
use Rattle.osd_objects.specs.declared.lanes.LaneEntry.{LaneEntry}
use Rattle.osd_objects.specs.declared.object.StoredObject.{StoredObject}
use Rattle.osd_objects.specs.Lanes.{lane_of}
use Rattle.osd_objects.specs.Store.{object_at, lane_or_none}
use Rattle.scenario_text.specs.declared.line.Line.{Line}
use Rattle.server_rules.specs.declared.limits.TheConstants.{SERVER_HOLDER, PERFORMED}
use Rattle.server_rules.specs.Files.{file_at}
use Rattle.server_rules.specs.History.{Input, Hears, Act as ServerAct, step, state_after}
use Rattle.server_rules.specs.Laws.{In}
use Rattle.server_rules.specs.Making.{new_server}
use Rattle.server_rules.specs.Messages.{Replies, awaited_by}
use Rattle.server_rules.specs.Replies.{Done, answers, hearing}
use Rattle.history_law.specs.Names.{Server, File, Still, Awaited, Piece, Target, Job, Work, Creates, Fences, Fetches, Stores, Targets, Gathers, Fills, Lengths, Checks, ToDrive}
use Rattle.history_law.specs.Owned.{AreOwned as AreServers}
use Rattle.history_law.proofs.Hearing.{done_is_done}
use Rattle.history_law.proofs.JobSteps.{step_owns}
use Rattle.component_law.specs.Naming.{AreNamed}
use Rattle.component_law.proofs.NamedLines.{are_named}
use Rattle.exchange_law.proofs.CountMoments.{reached}
use Rattle.history_law.proofs.FencingMoves.{IsSent, Acts, Others, Serves, each_acts}
use Rattle.history_law.proofs.Numbers.{to_drive, sent_anew}
use Rattle.history_law.specs.Spent.{HasPassed, IsSpentOn, IsSpent}
use Rattle.history_law.specs.BookMoments.{IsMoment}
use Rattle.component_law.specs.Objects.{target_in, target_of}
use Rattle.component_law.specs.Sent.{IsSentByRun}
use Rattle.world_history.specs.declared.messages.Body.TheVariants.{Command as OfCommand}
use Rattle.world_history.specs.Handed.{Post}
use Rattle.world_history.specs.Moves.{Act, acts}
use Rattle.world_history.specs.Sending.{Move, move}
use Rattle.world_history.specs.State.{World, DriveAt, at_number}
use Rattle.fence_law.specs.State as machine
use Rattle.file_simulation.specs.Jobs.{IsFill, IsInHead, IsTarget, JobIs, TargetIn}
use Rattle.component_law.specs.KeptWalk.{WorkFits}
use Rattle.relation_law.specs.Steps.{FollowsWhole}
use Rattle.relation_law.proofs.FramesFiles.{files_distinct}
use Rattle.relation_law.specs.Awaiting.{IsAskedIn, FitsIn}
use Rattle.relation_law.specs.Hearing.{TellsOfWrite}
use Rattle.relation_law.specs.Joined.{NewAreSpent, RebuiltFollow, OwnedFollows}
use Rattle.relation_law.specs.TargetWrites.{IsLatest, ZerosAreSpent}
use Rattle.relation_law.proofs.Followed as followed
use Rattle.relation_law.proofs.Hearing.{owned_over, tells_at}
use Rattle.relation_law.proofs.OwnedBefore.{coming, done_verdict, run, work_fits, fits_in}
use Rattle.relation_law.proofs.OwnedJoined.{JoinLaws, owned_joined, IsSentNow, sent_either, sent_now, unspent_before}
use Rattle.relation_law.proofs.TargetMoments.{in_one, each_fill_is_latest}
use Rattle.relation_law.proofs.TargetSteps.{EndsClear, LastClear, IsPrepared, targets_go}

-- ---- spent or not

on_either : (o : Option StoredObject) (c : Command) → c.action ≡ action.Write → IsSpentOn o c ⊎ (IsSpentOn o c → ⊥)
on_either None c write = inr (λ none. none)
on_either (Some x) c write = elim (cases_lt c.capability.tag x.tag) [
  | inl old ↦ inl (inr (inl old))
  | inr from ↦ by_lane from (lane_of x.lanes c.capability.holder) refl
]
  where
    by_lane : x.tag ≤ c.capability.tag → (l : Option LaneEntry) → lane_of x.lanes c.capability.holder ≡ l →
        IsSpentOn (Some x) c ⊎ (IsSpentOn (Some x) c → ⊥)
    by_lane from None is = inr (λ spent. elim spent [
      | inl made ↦ cc (sym made ∙ write)
      | inr (inl old) ↦ omega (arith, old, from)
      | inr (inr passed) ↦ subst (λ (o : Option LaneEntry). HasPassed o c.nonce) is passed.1
    ])
    by_lane from (Some l) is = elim (cases_lt l.nonce c.nonce) [
      | inl ahead ↦ inr (λ spent. elim spent [
        | inl made ↦ cc (sym made ∙ write)
        | inr (inl old) ↦ omega (arith, old, from)
        | inr (inr passed) ↦
            let p : c.nonce ≤ l.nonce = subst (λ (o : Option LaneEntry). HasPassed o c.nonce) is passed.1 in
            omega (arith, p, ahead)
      ])
      | inr behind ↦
          inl (inr (inr (ap is_mutating write, subst (λ (o : Option LaneEntry). HasPassed o c.nonce) (sym is) behind)))
    ]

-- a WRITE is spent at a drive, or it isn't
pub spent_either : (o : Option DriveAt) (c : Command) → c.action ≡ action.Write → IsSpent o c ⊎ (IsSpent o c → ⊥)
spent_either None c write = inr (λ none. none)
spent_either (Some a) c write = elim (cases_Bool a.failed) [
  | inl failed ↦ inl (inl failed)
  | inr lives ↦ elim (cases_lt c.capability.format a.state.least) [
    | inl old ↦ inl (inr (inl old))
    | inr from ↦ elim (on_either (object_at a.state.store c.object) c write) [
      | inl on ↦ inl (inr (inr on))
      | inr off ↦ inr (λ spent. elim spent [
        | inl failed ↦ true≢false (sym failed ∙ lives)
        | inr (inl old) ↦ omega (arith, old, from)
        | inr (inr on) ↦ off on
      ])
    ]
  ]
]

-- ---- an earlier WRITE

-- where a WRITE was performed, an earlier one to its object is spent
pub earlier_spent : (o : Option DriveAt) (x y : Command) (r : Reply) → TellsOfWrite o y r → r.verdict ≡ PERFORMED →
    x.action ≡ action.Write → x.object ≡ y.object → x.capability.holder ≡ y.capability.holder → x.nonce ≤ y.nonce →
    IsSpent o x
earlier_spent None x y r tells performed write object holder le = absurd (tells.done performed)
earlier_spent (Some a) x y r tells performed write object holder le = elim (cases_Bool a.failed) [
  | inl failed ↦ inl failed
  | inr lives ↦
      let passed : HasPassed (lane_or_none (object_at a.state.store x.object) x.capability.holder) y.nonce =
      subst (λ (n : ℕ). HasPassed (lane_or_none (object_at a.state.store n) x.capability.holder) y.nonce) (sym object)
      (subst (λ (n : ℕ). HasPassed (lane_or_none (object_at a.state.store y.object) n) y.nonce) (sym holder)
      (tells.passed performed a refl lives)) in
      inr (inr (on (object_at a.state.store x.object) passed))
]
  where
    lower : (l : Option LaneEntry) → HasPassed l y.nonce → HasPassed l x.nonce
    lower None none = none
    lower (Some l) passed = omega (arith, passed, le)

    on : (p : Option StoredObject) → HasPassed (lane_or_none p x.capability.holder) y.nonce → IsSpentOn p x
    on None none = none
    on (Some p) passed = inr (inr (ap is_mutating write, lower (lane_of p.lanes x.capability.holder) passed))

-- what jobs await is under the server's holder
pub servers_over : (s : Server) (acts : List ServerAct) → AreServers s.files → AreServers (state_after s acts).files
servers_over s [] own = own
servers_over s (a ∷ acts) own = servers_over (step s a.chosen a.input).state acts ((step_owns s a.chosen a.input).waits own)

module _ (laws : JoinLaws) (zeros : ZerosAreSpent) (w : World) (h : List Line) (m : Move) (f g : File)
    (s : machine.State) (k : FollowsWhole w h m f g s) where
  abbrev v : World
  v = (move w m).world

  abbrev a : Act
  a = acts w m.chosen m.action

  abbrev before : IsMoment w h
  before = k.follows.moment

  in_before : In f w.server.files
  in_before = followed.in_before w h m f g s k

  ran : IsSentByRun w
  ran = run laws.world w h before (followed.scenario w h m f g s k)

  named_before : AreNamed h
  named_before = are_named h (followed.scenario w h m f g s k).written

  fit : FitsIn f.kept f.job
  fit = fits_in laws.world w h before (followed.scenario w h m f g s k) f in_before

  awaited_holder : (b : Awaited) → In b (awaited_by f.job) → b.command.capability.holder ≡ SERVER_HOLDER
  awaited_holder b i =
      subst (λ (x : Server). AreServers x.files) (sym ran.server)
      (servers_over (new_server []) ran.acts (λ c j. absurd j.1)) b (f, in_before, i)

  -- ---- the file before the step

  target_is : (j : Job) → f.job ≡ Some j → TargetIn s w f j.work
  target_is j runs = (subst (JobIs s w f) runs k.follows.related.jobs.job).target

  open_ : (t : Target) (x : Command) → coming w t.drive x → x.object ≡ t.object → IsFill w t x
  open_ t x comes object = record { sent = comes.0; write = comes.1; object = object }

  none_left : (t : Target) (todo : List Piece) → IsTarget s w f t todo → todo ≡ [] → (x : Command) →
      coming w t.drive x → x.object ≡ t.object → ⊥
  none_left t todo target none x comes object =
      subst (λ (ps : List Piece). IsInHead f.kept.map ps t.component x) none
      (target.head x (open_ t x comes object) comes.2)

  ends_clear : (work : Work) → TargetIn s w f work → EndsClear (coming w) f work
  ends_clear Creates target = tt
  ends_clear Fences target = tt
  ends_clear (Fetches todo short) target = tt
  ends_clear (Stores todo short b) target = tt
  ends_clear (Targets t) target = none_left t _ target
  ends_clear (Gathers t todo) target = none_left t todo target
  ends_clear (Fills t todo) target = none_left t todo target.target
  ends_clear Lengths target = tt
  ends_clear (Checks todo tally) target = tt

  module _ (i : Input) (sent : IsSent w i) (now drive : ℕ) (r : Reply)
      (it : i ≡ Hears now (node.Drive drive) (Replies r)) (j : Job) (runs : f.job ≡ Some j) (b : Awaited)
      (here : In b j.awaited) (answer : answers drive r b ≡ true) (is_done : hearing f.kept b r ≡ Done) where
    message : IsSent w (Hears now (node.Drive drive) (Replies r))
    message = subst (IsSent w) it sent

    waits : In b (awaited_by f.job)
    waits = subst (λ (o : Option Job). In b (awaited_by o)) (sym runs) here

    -- the last WRITE was performed
    filled_clear : (t : Target) (p : Piece) (ps : List Piece) → j.work ≡ Fills t (p ∷ ps) → (x : Command) →
        coming w t.drive x → x.object ≡ t.object → ⊥
    filled_clear t p ps is x comes object =
        let asked : IsAskedIn f.kept (Fills t (p ∷ ps)) b =
        subst (λ (y : Work). IsAskedIn f.kept y b) is ((subst (FitsIn f.kept) runs fit).asked b here) in
        let l : IsLatest w t j.awaited =
        each_fill_is_latest laws.world.more w h before named_before f in_before j t (p ∷ ps) runs is in
        let own : b ≡ l.command = in_one b l.command j.awaited l.only here in
        let le : x.nonce ≤ b.command.nonce =
        subst (λ (y : Awaited). x.nonce ≤ y.command.nonce) (sym own) (l.latest x (open_ t x comes object)) in
        let tells : TellsOfWrite (at_number w.drives b.drive) b.command r =
        tells_at laws.world.more laws.world.counters laws.world.ahead w h before (followed.scenario w h m f g s k) drive
        message.0 message.1 message.2 message.3 message.4 r message.5 f in_before b waits answer asked.action_is in
        let holder : x.capability.holder ≡ b.command.capability.holder =
        owned_over (new_server []) ran.acts (λ c q. absurd q.1) t.drive x (ran.sends t.drive x comes.0)
        ∙ sym (awaited_holder b waits) in
        comes.2 (subst (λ (d : ℕ). IsSpent (at_number w.drives d) x) asked.of.drive
        (earlier_spent (at_number w.drives b.drive) x b.command r tells
        (done_verdict f.kept b r asked.action_is (done_is_done f.kept b r is_done)) comes.1 (object ∙ sym asked.of.object)
        holder le))

    last_clear : (work : Work) → j.work ≡ work → LastClear (coming w) f j b r work
    last_clear Creates is = tt
    last_clear Fences is = tt
    last_clear (Fetches todo short) is = tt
    last_clear (Stores todo short q) is = tt
    last_clear (Targets t) is = tt
    last_clear (Gathers t []) is = tt
    last_clear (Gathers t (p ∷ ps)) is = λ rest none last x comes object.
        comes.2 (zeros w h m f g s k t (record {
          drive = drive;
          reply = r;
          job = j;
          awaited = b;
          piece = p;
          delivered = record { number = message.0; posted = message.1; there = message.2; receiver = message.3 };
          from = message.4;
          read = message.5;
          runs = runs;
          work = is ∙ ap (λ (qs : List Piece). Gathers t (p ∷ qs)) last;
          awaits = here;
          answer = answer;
          is_done = is_done;
          last = rest;
          zeros = none;
        }) x (open_ t x comes object))
    last_clear (Fills t []) is = tt
    last_clear (Fills t (p ∷ ps)) is = λ last. filled_clear t p ps is
    last_clear Lengths is = tt
    last_clear (Checks todo tally) is = tt

  prepared : (i : Input) → IsSent w i → IsPrepared (coming w) i f
  prepared i sent = record {
    one = λ j t todo runs is.
        let l = each_fill_is_latest laws.world.more w h before named_before f in_before j t todo runs is in
        (l.command, l.only);
    ends = λ j runs. ends_clear j.work (target_is j runs);
    last = λ now drive r j b it runs here answer is_done.
        last_clear i sent now drive r it j runs b here answer is_done j.work refl;
  }

  -- ---- the move

  -- a rebuild runs while the file is still
  still_by : (t : Target) → target_of f.job ≡ Some t → f.kept.phase ≡ Still
  still_by t aim = by_job f.job refl aim
    where
      by_work : (work : Work) → WorkFits f.kept.phase work → target_in work ≡ Some t → f.kept.phase ≡ Still
      by_work Creates fits to = absurd (cc to)
      by_work Fences fits to = absurd (cc to)
      by_work (Fetches todo short) fits to = absurd (cc to)
      by_work (Stores todo short b) fits to = absurd (cc to)
      by_work (Targets u) fits to = fits
      by_work (Gathers u todo) fits to = fits
      by_work (Fills u todo) fits to = fits
      by_work Lengths fits to = absurd (cc to)
      by_work (Checks todo tally) fits to = absurd (cc to)

      by_job : (o : Option Job) → f.job ≡ o → target_of o ≡ Some t → f.kept.phase ≡ Still
      by_job None none to = absurd (cc to)
      by_job (Some j) runs to =
          by_work j.work (work_fits laws.world w h before (followed.scenario w h m f g s k) f in_before j runs) to

  by_act : Acts w a.world a.told a.posts → NewAreSpent v f g
  by_act (Others server messages told others) n at x there stands new sent write object =
      let same : f ≡ g =
      same_Some f g (sym k.follows.there ∙ ap (λ (y : Server). file_at y.files f.kept.number) (sym server)
      ∙ k.follows.goes) in
      absurd (new (at, subst (λ (y : File). slice_get y.kept.components n ≡ Some at) (sym same) there, refl))
  by_act (Serves chosen i comes server messages told posts) n at x there stands new sent write object =
      elim (spent_either (at_number v.drives at.drive) x write) [
        | inl spent ↦ spent
        | inr unspent ↦ elim ((targets_go (coming w) w.server chosen i (files_distinct w (reached w h before))
            f.kept.number f g k.follows.there
            (ap (λ (y : Server). file_at y.files f.kept.number) (sym server) ∙ k.follows.goes) (prepared i comes)).0 n at there
            stands) [
              | inl old ↦ absurd (new old)
              | inr rebuilt ↦ elim (sent_either laws w h m f g s k at.drive x sent messages) [
                | inl earlier ↦
                    absurd (rebuilt.none x (earlier, write, unspent_before laws w h m f g s k at.drive x unspent) object)
                | inr anew ↦
                    let r = sent_anew (step w.server chosen i).sends at.drive (OfCommand x)
                    (subst (λ (ps : List Post). In (to_drive at.drive (OfCommand x)) (map (λ (p : Post). p.message) ps)) posts
                    anew) in
                    let same : x ≡ r.0 = cc r.2 in
                    let stores : IsSentNow laws w h m f g s k n x =
                    sent_now laws w h m f g s k chosen i comes server n at x there write object
                    (subst (λ (c : Command). In (ToDrive at.drive c) (step w.server chosen i).sends) (sym same) r.1) in
                    absurd (cc (sym stores.repairs ∙ rebuilt.aimed.1 ∙ still_by rebuilt.target rebuilt.aimed.0))
              ]
            ]
      ]

pub rebuilt_follow : JoinLaws → RebuiltFollow
rebuilt_follow laws zeros w h m f g s k = by_act laws zeros w h m f g s k (each_acts w m.chosen m.action)

pub owned_follows : JoinLaws → OwnedFollows
owned_follows laws go_on zeros = owned_joined laws go_on (rebuilt_follow laws zeros)
