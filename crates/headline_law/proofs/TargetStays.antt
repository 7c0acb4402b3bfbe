-- Behind a whole move in which a rebuild's job waits on, or aims at a new target, it is with its target as before it.
-- Towards `TargetsFollow` (`specs/Parts.antt`).
use Rattle.std.proofs.Common.{◌≡◌, ◌⊎◌, ◌++◌, ℕ, ◌+◌, ◌<◌, ◌≤◌, false, List, [], ◌∷◌, length, take, map, slice_get, Option, Some, refl, sym, ap, subst, ◌∙◌, arith, inl, inr}
use Rattle.std.proofs.lemmas.List.{append-nil}
use Rattle.std.proofs.lemmas.Option.{same_Some}
use Rattle.data_map.specs.declared.check.RawMap.{RawMap}
use Rattle.osd_commands.specs.declared.actions.Action.TheVariants as action
use Rattle.osd_commands.specs.declared.commands.Command.{Command}
use Rattle.osd_objects.specs.declared.object.StoredObject.{StoredObject}
use Rattle.scenario_text.specs.declared.line.Line.{Line}
use Rattle.server_rules.specs.History.{Input, step}
use Rattle.server_rules.specs.Laws.{In}
use Rattle.server_rules.specs.Maps.{group_with, pieces_in}
use Rattle.server_rules.specs.Messages.{awaited_by}
use Rattle.world_history.specs.ServerNames.{Server, File, Component, Awaited, Piece, Target, Job, Work, Creates, Fences, Fetches, Stores, Targets, Gathers, Fills, Lengths, Checks, ToDrive}
use Rattle.world_history.specs.declared.messages.Body.TheVariants.{Command as OfCommand}
use Rattle.world_history.specs.Handed.{Post}
use Rattle.world_history.specs.Moves.{Act, acts}
use Rattle.world_history.specs.Sending.{Move, move}
use Rattle.world_history.specs.State.{World, at_number}
use Rattle.history_law.specs.BookMoments.{IsMoment, lines_in}
use Rattle.history_law.proofs.Coming.{clean_front}
use Rattle.history_law.specs.Doing.{input_in}
use Rattle.history_law.specs.Numbered.{Awaits}
use Rattle.history_law.proofs.FencingMoves.{Acts, Others, Serves, each_acts}
use Rattle.history_law.proofs.Numbers.{to_drive, sent_anew, none_anew}
use Rattle.component_law.proofs.NamedLines.{are_named}
use Rattle.component_law.specs.Objects.{target_in, target_of}
use Rattle.fence_law.specs.State.{State}
use Rattle.fence_law.specs.Law.{byte_before}
use Rattle.plan_law.specs.FileLayout.{column_of_cell}
use Rattle.plan_law.specs.Known.{HasSource}
use Rattle.file_simulation.specs.Claim.{IsOfScenario}
use Rattle.file_simulation.specs.Components.{object_on, has_failed}
use Rattle.file_simulation.specs.Events.{joined, events_of}
use Rattle.file_simulation.specs.Jobs.{HasColumn, HasAllOf, IsInPiece, IsInHead, IsFill, IsFilled, IsTarget, IsFilling, HasSources, AwaitedHaveAll, AreWords, TargetIn}
use Rattle.file_simulation.specs.Messages.{HasCommanded}
use Rattle.file_simulation.specs.Phases.{IsStill, PhaseIs}
use Rattle.relation_law.specs.Awaiting.{IsAskedIn, FitsIn}
use Rattle.relation_law.specs.Steps.{FollowsWhole, owed, whole_behind}
use Rattle.exchange_law.proofs.Knowing.{lawful_at}
use Rattle.relation_law.proofs.ComponentsGoOn.{alike}
use Rattle.relation_law.proofs.ComponentsMoved.{MovedLaws}
use Rattle.relation_law.proofs.ComponentsWorld.{awaited_are_sent}
use Rattle.relation_law.proofs.DriveStays.{IsAlike}
use Rattle.relation_law.proofs.Followed as followed
use Rattle.relation_law.proofs.OwnedBefore.{none_at, run, owns, work_fits, fits_in}
use Rattle.relation_law.proofs.OwnedJoined.{sent_either, unspent_before}
use Rattle.relation_law.proofs.Sending.{each_send_is_awaited}
use Rattle.relation_law.proofs.TargetMoments.{is_targets}
use Rattle.headline_law.specs.TargetLaws.{EachTargetIsWellMade}
use Rattle.headline_law.specs.Parts.{PartsBehind}
use Rattle.headline_law.specs.TargetDrives.{HasToDo, TargetObjectsStay}
use Rattle.headline_law.specs.TargetGoes.{IsSameStill, AsksAgain, WaitsOn, TargetsGo}
use Rattle.headline_law.proofs.TargetBefore.{TargetLaws, scenario, code, right, still_in, is_still, none, fit_job, job_is}
use Rattle.headline_law.proofs.TargetBytes.{same_machine}
use Rattle.headline_law.proofs.UsedDrives.{stored_used}
use Rattle.headline_law.proofs.TargetKeeps.{IsSameMachine, same_words, source_stays, LeavesTarget, target_as}

-- what is known of the world, and of steps
pub record FollowLaws : Type 0 where
  pub target : TargetLaws
  pub well : EachTargetIsWellMade
  pub moved : MovedLaws
  pub goes : TargetsGo
  pub objects : TargetObjectsStay

-- a command that was sent is one that is awaited now, but for its check value
pub record IsOfAwaited (l : Job) (x : Command) : Type 0 where
  pub command : Awaited
  pub awaits : In command l.awaited
  pub is : x ≡ record command.command { check = x.check }

module _ (laws : FollowLaws) (w : World) (h : List Line) (m : Move) (f g : File) (s : State)
    (k : FollowsWhole w h m f g s) (parts : PartsBehind k) (l : Job) (runs : g.job ≡ Some l) (t : Target)
    (aims : target_in l.work ≡ Some t) where
  abbrev v : World
  v = (move w m).world

  abbrev a : Act
  a = acts w m.chosen m.action

  abbrev lines : List Line
  lines = lines_in w m

  pub behind : IsMoment v (h ++ lines)
  behind = followed.behind w h m f g s k

  pub later : IsOfScenario (h ++ lines)
  later = followed.later w h m f g s k

  pub in_behind : In g v.server.files
  in_behind = followed.in_behind w h m f g s k

  pub fits_behind : (b : Awaited) → In b l.awaited → IsAskedIn g.kept l.work b
  fits_behind =
      (subst (FitsIn g.kept) runs (fits_in laws.target.join.world v (h ++ lines) behind later g in_behind)).asked

  still_behind : IsStill (whole_behind k) g
  still_behind =
      subst (PhaseIs (whole_behind k) g)
      (still_in g.kept.phase l.work t (work_fits laws.target.join.world v (h ++ lines) behind later g in_behind l runs) aims)
      parts.kept.phase

  -- its object is no component's
  apart : (n : ℕ) (at : Component) → slice_get g.kept.components n ≡ Some at → at.object ≡ t.object → ⊥
  apart n at there object =
      none_at t.object g.kept.components n at
      (((owns laws.target.join.world v (h ++ lines) behind later).1 g in_behind).apart t (ap target_of runs ∙ aims)) there
      object

  -- ---- what was sent

  abbrev WasSent : Command → Type 0
  WasSent x = IsFill w t x ⊎ IsOfAwaited l x

  was_sent : (x : Command) → IsFill v t x → WasSent x
  was_sent x fill = by_act (each_acts w m.chosen m.action)
    where
      by_act : Acts w a.world a.told a.posts → WasSent x
      by_act (Others server messages told others) =
          elim (sent_either laws.target.join w h m f g s k t.drive x fill.sent messages) [
            | inl old ↦ inl (record { sent = old; write = fill.write; object = fill.object })
            | inr now ↦ absurd (none_anew a.posts t.drive (OfCommand x) others now)
          ]
      by_act (Serves chosen i sent server messages told posts) =
          elim (sent_either laws.target.join w h m f g s k t.drive x fill.sent messages) [
            | inl old ↦ inl (record { sent = old; write = fill.write; object = fill.object })
            | inr now ↦
                let r = sent_anew (step w.server chosen i).sends t.drive (OfCommand x)
                (subst (λ (ps : List Post). In (to_drive t.drive (OfCommand x)) (map (λ (p : Post). p.message) ps)) posts
                now) in
                let own : x ≡ r.0 = cc r.2 in
                let z = each_send_is_awaited w.server chosen i t.drive x
                (subst (λ (c : Command). In (ToDrive t.drive c) (step w.server chosen i).sends) (sym own) r.1) in
                let y : Awaits v.server.files z.0 = subst (λ (q : Server). Awaits q.files z.0) (sym server) z.2 in
                let same : y.0 ≡ g =
                is_targets laws.target.join.world.more v (h ++ lines) behind (are_named (h ++ lines) later.written) g y.0 t
                z.0 in_behind (ap target_of runs ∙ aims) y.1 y.2
                (ap (λ (c : Command). c.object) (sym z.1.1) ∙ fill.object) in
                inr (record {
                  command = z.0;
                  awaits = subst (λ (o : Option Job). In z.0 (awaited_by o)) (ap (λ (q : File). q.job) same ∙ runs) y.2;
                  is = z.1.1;
                })
          ]

  -- ---- the machine

  module _ (j : Job) (had : f.job ≡ Some j) (aimed : target_in j.work ≡ Some t) (still : IsSameStill f.kept g.kept) where
    same : IsSameMachine s (whole_behind k)
    same =
        let st = is_still laws.target w h m f g s k.follows j had t aimed in
        let r = right laws.target w h m f g s k.follows in
        same_machine s (joined (events_of s w (owed k.follows.related) f m)) k.lawful r.sure.safe r.sure.late
        (record {
          fencing = st.fencing;
          repairing = st.repairing;
          outstanding = none laws.target w h m f g s k.follows j had t aimed;
          unused = st.unused (λ no_job. cc (sym had ∙ no_job));
        })
        (record {
          tag = omega (arith, parts.kept.tag, still.tag, k.follows.related.kept.tag);
          fencing = still_behind.fencing;
          unused = still_behind.unused (λ no_job. cc (sym runs ∙ no_job));
        })

    -- what the move leaves of the target
    pub leaves : (todo : List Piece) →
        ((b : Awaited) → In b l.awaited → b.command.action ≡ action.Write →
        AreWords s (byte_before s s.count) t.component b.command.offset b.command.payload
        × IsInHead f.kept.map todo t.component b.command) →
        (has_failed (at_number v.drives t.drive) ≡ false → (o : StoredObject) →
        object_on (at_number v.drives t.drive) t.object ≡ Some o → IsFilled s f t todo o) →
        LeavesTarget s (whole_behind k) w v f g t todo
    leaves todo new objects = record {
      same = same;
      still = still;
      apart = apart;
      fills = λ x fill. elim (was_sent x fill) [
        | inl old ↦ inl old
        | inr now ↦
            let r = new now.command now.awaits (ap (λ (c : Command). c.action) (sym now.is) ∙ fill.write) in inr (
              subst (λ (c : Command). AreWords s (byte_before s s.count) t.component c.offset c.payload) (sym now.is) r.0,
              subst (λ (c : Command). IsInHead f.kept.map todo t.component c) (sym now.is) (in_head todo now.command.command
                  x.check r.1),
            )
      ];
      unspent = λ x. unspent_before laws.target.join w h m f g s k t.drive x;
      objects = objects;
    }
      where
        in_head : (ps : List Piece) (c : Command) (check : List ℕ) → IsInHead f.kept.map ps t.component c →
            IsInHead f.kept.map ps t.component (record c { check = check })
        in_head [] c check none_there = none_there
        in_head (p ∷ ps) c check here = record { group = here.group; low = here.low; high = here.high }

    -- a WRITE that is awaited as before has the words, and all of its piece
    pub has_all_as : (p : Piece) (x y : Command) → y.offset ≡ x.offset → y.payload ≡ x.payload →
        HasAllOf s f.kept.map p t.component x → HasAllOf (whole_behind k) g.kept.map p t.component y
    has_all_as p x y offset payload all z has =
        elim (all z (subst (λ (q : RawMap). HasColumn q p (column_of_cell q t.component z)) still.map has)) [
          | inl inside ↦ inl (
            omega (arith, inside.0, offset),
            let long : length y.payload ≡ length x.payload = ap length payload in omega (arith, inside.1, offset, long),
          )
          | inr zero ↦
              inr (same_words s (whole_behind k) (code laws.target w h m f g s k.follows) same t.component z ∙ zero)
        ]

    words_as : (x y : Command) → y.offset ≡ x.offset → y.payload ≡ x.payload →
        AreWords s (byte_before s s.count) t.component x.offset x.payload →
        AreWords s (byte_before s s.count) t.component y.offset y.payload
    words_as x y offset payload words =
        subst (λ (n : ℕ). AreWords s (byte_before s s.count) t.component n y.payload) (sym offset)
        (subst (λ (bs : List ℕ). AreWords s (byte_before s s.count) t.component x.offset bs) (sym payload) words)

    pub words_now : (offset : ℕ) (bytes : List ℕ) → AreWords s (byte_before s s.count) t.component offset bytes →
        AreWords (whole_behind k) (byte_before (whole_behind k) (whole_behind k).count) t.component offset bytes
    words_now offset bytes words i low =
        words i low ∙ sym (same_words s (whole_behind k) (code laws.target w h m f g s k.follows) same t.component (offset + i))

    pub sources_now : HasSources s f t → HasSources (whole_behind k) g t
    sources_now x = record {
      out = x.out;
      each = λ z.
          subst (λ (q : RawMap). HasSource q (whole_behind k).gone x.out t.component z) (sym still.map)
          (source_stays f.kept.map s (whole_behind k) same.gone x.out t.component z (x.each z));
    }

    pub target_in_ : (work : Work) → j.work ≡ work → TargetIn s w f work
    target_in_ work is = subst (TargetIn s w f) is (job_is laws.target w h m f g s k.follows j had).target

    asked_before : (work : Work) → j.work ≡ work → (b : Awaited) → In b j.awaited → IsAskedIn f.kept work b
    asked_before work is b i =
        subst (λ (y : Work). IsAskedIn f.kept y b) is ((fit_job laws.target w h m f g s k.follows j had).asked b i)

    objects_stay : (todo : List Piece) → HasToDo f.kept t todo j.work → IsTarget s w f t todo →
        has_failed (at_number v.drives t.drive) ≡ false → (o : StoredObject) →
        object_on (at_number v.drives t.drive) t.object ≡ Some o → IsFilled s f t todo o
    objects_stay todo has target = laws.objects w h m f g s k j t todo had has target

    -- ---- the job waits on

    -- all pieces of a target
    abbrev all_pieces : File → Target → List Piece
    all_pieces x y = pieces_in x.kept.map (group_with x.kept.map y.component) x.kept.high

    all_same : all_pieces g t ≡ all_pieces f t
    all_same =
        ap (λ (n : ℕ). pieces_in g.kept.map (group_with g.kept.map t.component) n) still.high
        ∙ ap (λ (q : RawMap). pieces_in q (group_with q t.component) f.kept.high) still.map

    has_todo : (todo : List Piece) (work : Work) → j.work ≡ work → HasToDo f.kept t todo work → HasToDo f.kept t todo j.work
    has_todo todo work is x = subst (HasToDo f.kept t todo) (sym is) x

    no_write : (u : Target) (todo : List Piece) (b : Awaited) → IsAskedIn f.kept (Gathers u todo) b →
        b.command.action ≡ action.Write → ⊥
    no_write u [] b asked write = asked
    no_write u (p ∷ ps) b asked write = cc (sym asked.action_is ∙ write)

    lie_as : (p : Piece) (x y : Command) → y.offset ≡ x.offset → y.payload ≡ x.payload →
        IsInPiece f.kept.map p t.component x → IsInPiece f.kept.map p t.component y
    lie_as p x y offset payload here =
        let long : length y.payload ≡ length x.payload = ap length payload in
        let low = here.low in
        let high = here.high in record {
          group = here.group;
          low = omega (arith, low, offset);
          high = omega (arith, high, offset, long);
        }

    again_new : (todo : List Piece) (b c : Awaited) → In c j.awaited → AsksAgain c b → IsAskedIn f.kept (Fills t todo) c →
        AwaitedHaveAll s f t todo → AreWords s (byte_before s s.count) t.component b.command.offset b.command.payload
        × IsInHead f.kept.map todo t.component b.command
    again_new [] b c i again asked all = absurd asked
    again_new (p ∷ ps) b c i again asked all = (
      words_as c.command b.command again.offset again.payload
          (all c (subst (λ (o : Option Job). In c (awaited_by o)) (sym had) i)).0,
      lie_as p c.command b.command again.offset again.payload asked.inside,
    )

    again_all : (todo : List Piece) → AwaitedHaveAll s f t todo →
        ((b : Awaited) → In b l.awaited → (c : Awaited) × In c j.awaited × AsksAgain c b) →
        ((b : Awaited) → In b j.awaited → IsAskedIn f.kept (Fills t todo) b) →
        AwaitedHaveAll (whole_behind k) g t todo
    again_all [] all again asked = tt
    again_all (p ∷ ps) all again asked = λ b i.
        let r = again b (subst (λ (o : Option Job). In b (awaited_by o)) runs i) in
        let x = all r.0 (subst (λ (o : Option Job). In r.0 (awaited_by o)) (sym had) r.1) in (
          words_now b.command.offset b.command.payload
              (words_as r.0.command b.command r.2.offset r.2.payload x.0),
          has_all_as p r.0.command b.command r.2.offset r.2.payload x.1,
        )

    module _ (wo : WaitsOn f g j l) where
      waits_at : (work : Work) → j.work ≡ work → target_in work ≡ Some t → TargetIn (whole_behind k) v g work
      waits_at Creates is to = tt
      waits_at Fences is to = tt
      waits_at (Fetches todo short) is to = tt
      waits_at (Stores todo short b) is to = tt
      waits_at (Targets u) is to =
          let one : u ≡ t = same_Some u t to in
          let target : IsTarget s w f t (all_pieces f t) =
          subst (λ (y : Target). IsTarget s w f y (all_pieces f y)) one (target_in_ (Targets u) is) in
          subst (λ (y : Target). IsTarget (whole_behind k) v g y (all_pieces g y)) (sym one)
          (subst (λ (ps : List Piece). IsTarget (whole_behind k) v g t ps) (sym all_same)
          (target_as s (whole_behind k) w v f g t (all_pieces f t) (code laws.target w h m f g s k.follows)
          (leaves (all_pieces f t)
          (λ b i write. absurd (cc (sym (asked_before (Targets u) is (wo.awaited b i).0 (wo.awaited b i).1).action_is
          ∙ sym (wo.awaited b i).2.action ∙ write)))
          (objects_stay (all_pieces f t) (has_todo (all_pieces f t) (Targets u) is (one, refl)) target)) target))
      waits_at (Gathers u todo) is to =
          let one : u ≡ t = same_Some u t to in
          let target : IsTarget s w f t todo =
          subst (λ (y : Target). IsTarget s w f y todo) one (target_in_ (Gathers u todo) is) in
          subst (λ (y : Target). IsTarget (whole_behind k) v g y todo) (sym one)
          (target_as s (whole_behind k) w v f g t todo (code laws.target w h m f g s k.follows)
          (leaves todo (λ b i write. absurd (no_write u todo (wo.awaited b i).0 (asked_before (Gathers u todo) is (wo.awaited
          b i).0
          (wo.awaited b i).1) (sym (wo.awaited b i).2.action ∙ write)))
          (objects_stay todo (has_todo todo (Gathers u todo) is (one, refl)) target)) target)
      waits_at (Fills u todo) is to =
          let one : u ≡ t = same_Some u t to in
          let filling : IsFilling s w f t todo =
          subst (λ (y : Target). IsFilling s w f y todo) one (target_in_ (Fills u todo) is) in
          let asked : (b : Awaited) → In b j.awaited → IsAskedIn f.kept (Fills t todo) b = λ b i.
          subst (λ (y : Target). IsAskedIn f.kept (Fills y todo) b) one (asked_before (Fills u todo) is b i) in
          subst (λ (y : Target). IsFilling (whole_behind k) v g y todo) (sym one) (record {
            target = target_as s (whole_behind k) w v f g t todo (code laws.target w h m f g s k.follows)
                (leaves todo (λ b i write. again_new todo b (wo.awaited b i).0 (wo.awaited b i).1 (wo.awaited b i).2
                (asked (wo.awaited b i).0 (wo.awaited b i).1) filling.awaited)
                (objects_stay todo (has_todo todo (Fills u todo) is (one, refl)) filling.target)) filling.target;
            awaited = again_all todo filling.awaited (λ b i. wo.awaited b i) asked;
            sources = sources_now filling.sources;
          })
      waits_at Lengths is to = tt
      waits_at (Checks todo tally) is to = tt

      pub waits_in : TargetIn (whole_behind k) v g l.work
      waits_in = subst (TargetIn (whole_behind k) v g) (sym wo.work) (waits_at j.work refl aimed)

  -- ---- a new target

  pub new_in : (i : Input) → input_in w m.action ≡ Some i → l.work ≡ Targets t → w.server.next_object ≤ t.object →
      TargetIn (whole_behind k) v g l.work
  new_in i comes is fresh =
      subst (TargetIn (whole_behind k) v g) (sym is) (record {
        apart = apart;
        words = λ x fill. absurd (never x fill);
        head = λ x fill. absurd (never x fill);
        object = λ lives o there.
            let alike_now : IsAlike w v =
            alike w h m f g s k.follows.moment k.follows.is_due k.follows.there k.follows.run k.follows.related i comes
            k.follows.goes
            (awaited_are_sent laws.moved.known w h k.follows.moment (scenario laws.target w h m f g s k.follows).few) in
            let low = stored t.drive t.object o (sym (alike_now.objects t.drive t.object) ∙ there) in
            absurd (omega (arith, low, fresh));
        source = λ begun. absurd (begun.done begun.planned);
      })
    where
      used : (x : Command) (d : ℕ) → HasCommanded w d x → x.object < w.server.next_object
      used x d has =
          let sent = run laws.target.join.world w h k.follows.moment (scenario laws.target w h m f g s k.follows) in
          let all = (laws.target.join.world.ahead sent.acts sent.named).1 sent.acts [] (sym (append-nil sent.acts)) in
          subst (λ (q : Server). x.object < q.next_object) (sym sent.server) (all.1 d x (sent.sends d x has)).used

      stored : (d n : ℕ) (o : StoredObject) → object_on (at_number w.drives d) n ≡ Some o → n < w.server.next_object
      stored =
          stored_used laws.moved.made.ahead laws.moved.made.given laws.moved.made.counted w h k.follows.moment
          (scenario laws.target w h m f g s k.follows)
          (laws.moved.unforged h (lawful_at w h k.follows.moment)
          (clean_front h (take (length lines) lines) k.follows.calm.is_unguessed))
          (run laws.target.join.world w h k.follows.moment (scenario laws.target w h m f g s k.follows))

      never : (x : Command) → IsFill v t x → ⊥
      never x fill = elim (was_sent x fill) [
        | inl old ↦ let low = used x t.drive old.sent in let same = old.object in omega (arith, low, fresh, same)
        | inr now ↦
            let asked : IsAskedIn g.kept (Targets t) now.command =
            subst (λ (y : Work). IsAskedIn g.kept y now.command) is (fits_behind now.command now.awaits) in
            cc (sym asked.action_is ∙ ap (λ (c : Command). c.action) (sym now.is) ∙ fill.write)
      ]
