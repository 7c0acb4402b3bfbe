-- At each moment a job that makes a component anew has asked each of its sources, its pieces are planned, and each WRITE to its
-- target ends in a byte that isn't 0.
use Rattle.std.proofs.Common.{◌≡◌, ◌⊎◌, ◌++◌, ℕ, ◌<◌, ◌≤◌, List, [], ◌∷◌, map, slice_get, Option, Some, None, refl, sym, ap, subst, ◌∙◌, arith, inl, inr}
use Rattle.std.proofs.lemmas.List.{append-nil}
use Rattle.std.proofs.lemmas.Option.{same_Some}
use Rattle.data_map.specs.declared.check.RawMap.{RawMap}
use Rattle.osd_commands.specs.declared.actions.Action.TheVariants as action
use Rattle.osd_commands.specs.declared.commands.Command.{Command}
use Rattle.scenario_text.specs.declared.line.Line.{Line}
use Rattle.server_rules.specs.Files.{file_at}
use Rattle.server_rules.specs.History.{Input, step}
use Rattle.server_rules.specs.Laws.{In}
use Rattle.server_rules.specs.Maps.{group_with, pieces_in}
use Rattle.server_rules.specs.Messages.{awaited_by}
use Rattle.server_rules.proofs.FileLaws.{number_at}
use Rattle.world_history.specs.ServerNames.{Server, File, Kept, Component, Awaited, Piece, Target, Job, Work, Creates, Fences, Fetches, Stores, Targets, Gathers, Fills, Lengths, Checks, ToDrive}
use Rattle.world_history.specs.declared.messages.Body.TheVariants.{Command as OfCommand}
use Rattle.world_history.specs.Handed.{Post}
use Rattle.world_history.specs.Moves.{Act, acts}
use Rattle.world_history.specs.Plans.{due}
use Rattle.world_history.specs.Sending.{Move, move}
use Rattle.world_history.specs.State.{World}
use Rattle.history_law.specs.BookMoments.{IsMoment, plan_at, lines_in}
use Rattle.history_law.specs.Grants.{GrantsAreSafe}
use Rattle.history_law.specs.Numbered.{Awaits}
use Rattle.history_law.proofs.Ending.{next_moment}
use Rattle.history_law.proofs.FencingMoves.{messages_in, Acts, Others, Serves, each_acts}
use Rattle.history_law.proofs.Files.{in_at}
use Rattle.history_law.proofs.Numbers.{to_drive, sent_anew, none_anew}
use Rattle.exchange_law.proofs.CountMoments.{reached}
use Rattle.exchange_law.proofs.SlotMoments.{always}
use Rattle.cause_law.proofs.Answering.{safe_at}
use Rattle.component_law.proofs.NamedLines.{are_named}
use Rattle.component_law.specs.Objects.{target_in, target_of}
use Rattle.file_simulation.specs.Claim.{IsOfScenario}
use Rattle.file_simulation.specs.Jobs.{IsFill}
use Rattle.file_simulation.specs.Messages.{HasCommanded}
use Rattle.file_simulation.proofs.Fronts.{scenario_before}
use Rattle.relation_law.specs.Awaiting.{IsAskedIn, FitsIn}
use Rattle.relation_law.proofs.FramesFiles.{files_distinct}
use Rattle.relation_law.proofs.KeptServer.{at_place}
use Rattle.relation_law.proofs.OwnedBefore.{OwnedLaws, none_at, held, run, owns, work_fits, fits_in}
use Rattle.relation_law.proofs.Sending.{each_send_is_awaited}
use Rattle.relation_law.proofs.TargetMoments.{is_targets}
use Rattle.relation_law.proofs.WaysSteps.{files_go}
use Rattle.headline_law.proofs.Commanded.{commanded_either}
use Rattle.headline_law.specs.TargetGoes.{IsSameStill, WaitsOn, AreNext, Begun, Again, PastZeros, PastWritten, JobGoes, Waits, Reads, Writes, TargetGoes, New, Old, MayGo, made_of}
use Rattle.headline_law.specs.TargetLaws.{IsAskedOrHeard, OfEachSource, SourcesAreAsked, todo_in, IsAtPiece, EndsInSome, AwaitedEndInSome, FillsEndInSome, OnlyMakesAndFills, IsWellAsked, EachTargetIsWellAsked}
use Rattle.headline_law.proofs.TargetAsking.{asked_all, sources_as, making_aims, free_asked}
use Rattle.headline_law.proofs.TargetBefore.{job_with, still_in, of_sources}
use Rattle.headline_law.proofs.TargetFills.{cut_ends}
use Rattle.headline_law.proofs.TargetStays.{IsOfAwaited}
use Rattle.headline_law.proofs.TargetSteps.{targets_go}

-- ---- a move

abbrev Stand : World → List Line → Type 0
Stand w h = IsOfScenario h → (f : File) → In f w.server.files → IsWellAsked w f

module _ (laws : OwnedLaws) (safe : GrantsAreSafe) (w : World) (h : List Line) (k : IsMoment w h) (m : Move)
    (d : due (plan_at k) w ≡ Some m.action) (before : Stand w h) (later : IsOfScenario (h ++ lines_in w m)) where
  abbrev v : World
  v = (move w m).world

  abbrev a : Act
  a = acts w m.chosen m.action

  behind : IsMoment v (h ++ lines_in w m)
  behind = next_moment w h k m d

  scenario : IsOfScenario h
  scenario = scenario_before h (lines_in w m) later

  used : (x : Command) (e : ℕ) → HasCommanded w e x → x.object < w.server.next_object
  used x e has =
      let sent = run laws w h k scenario in
      let all = (laws.ahead sent.acts sent.named).1 sent.acts [] (sym (append-nil sent.acts)) in
      subst (λ (q : Server). x.object < q.next_object) (sym sent.server) (all.1 e x (sent.sends e x has)).used

  -- nothing is sent, and the server is as it was
  stays : (messages_in a.world ≡ messages_in w) → ((e : ℕ) (x : Command) →
      In (to_drive e (OfCommand x)) (map (λ (p : Post). p.message) a.posts) → ⊥) → (g : File) → In g w.server.files →
      IsWellAsked v g
  stays messages none g i =
      let x : IsWellAsked w g = before scenario g i in
      let old : (e : ℕ) (c : Command) → HasCommanded v e c → HasCommanded w e c = λ e c sent.
      elim (commanded_either w m e c sent messages) [ inl was ↦ was | inr new ↦ absurd (none e c new) ] in
      record {
        asked = x.asked;
        planned = x.planned;
        at_piece = x.at_piece;
        written = x.written;
        ends = λ t c aim fill.
            x.ends t c aim (record { sent = old t.drive c fill.sent; write = fill.write; object = fill.object });
        only = λ t c aim sent object. x.only t c aim (old t.drive c sent) object;
      }

  -- ---- a step of the server

  module _ (chosen : List ℕ) (i : Input) (server : v.server ≡ (step w.server chosen i).state)
      (messages : messages_in a.world ≡ messages_in w)
      (posts : (e : ℕ) (x : Command) → In (to_drive e (OfCommand x)) (map (λ (p : Post). p.message) a.posts) →
      In (ToDrive e x) (step w.server chosen i).sends) (g : File) (here : In g v.server.files) where
    module _ (l : Job) (runs : g.job ≡ Some l) (t : Target) (aims : target_in l.work ≡ Some t) where
      asks : (b : Awaited) → In b l.awaited → IsAskedIn g.kept l.work b
      asks = (subst (FitsIn g.kept) runs (fits_in laws v (h ++ lines_in w m) behind later g here)).asked

      aimed : target_of g.job ≡ Some t
      aimed = ap target_of runs ∙ aims

      apart : (n : ℕ) (at : Component) → slice_get g.kept.components n ≡ Some at → at.object ≡ t.object → ⊥
      apart n at there object =
          none_at t.object g.kept.components n at
          (((owns laws v (h ++ lines_in w m) behind later).1 g here).apart t aimed) there object

      -- a command to the target was sent before, or is awaited
      either : (x : Command) → HasCommanded v t.drive x → x.object ≡ t.object → HasCommanded w t.drive x ⊎ IsOfAwaited l x
      either x sent object = elim (commanded_either w m t.drive x sent messages) [
        | inl old ↦ inl old
        | inr now ↦
            let z = each_send_is_awaited w.server chosen i t.drive x (posts t.drive x now) in
            let y : Awaits v.server.files z.0 = subst (λ (q : Server). Awaits q.files z.0) (sym server) z.2 in
            let same : y.0 ≡ g =
            is_targets laws.more v (h ++ lines_in w m) behind (are_named (h ++ lines_in w m) later.written) g y.0 t z.0
            here aimed y.1 y.2 (ap (λ (c : Command). c.object) (sym z.1.1) ∙ object) in
            inr (record {
              command = z.0;
              awaits = subst (λ (o : Option Job). In z.0 (awaited_by o)) (ap (λ (q : File). q.job) same ∙ runs) y.2;
              is = z.1.1;
            })
      ]

      -- what is awaited for the target's object makes or writes it
      only_so : (b : Awaited) → In b l.awaited → b.command.object ≡ t.object →
          (b.command.action ≡ action.Create) ⊎ (b.command.action ≡ action.Write)
      only_so b i_ object = by_work l.work aims (asks b i_)
        where
          by_work : (work : Work) → target_in work ≡ Some t → IsAskedIn g.kept work b →
              (b.command.action ≡ action.Create) ⊎ (b.command.action ≡ action.Write)
          by_work Creates to asked = absurd (cc to)
          by_work Fences to asked = absurd (cc to)
          by_work (Fetches todo short) to asked = absurd (cc to)
          by_work (Stores todo short q) to asked = absurd (cc to)
          by_work (Targets u) to asked = inl asked.action_is
          by_work (Gathers u []) to asked = absurd asked
          by_work (Gathers u (p ∷ ps)) to asked =
              absurd (apart b.component asked.of.component asked.of.there (sym asked.of.object ∙ object))
          by_work (Fills u []) to asked = absurd asked
          by_work (Fills u (p ∷ ps)) to asked = inr asked.action_is
          by_work Lengths to asked = absurd (cc to)
          by_work (Checks todo tally) to asked = absurd (cc to)

      same_target : (u : Target) → target_of g.job ≡ Some u → t ≡ u
      same_target u aim = same_Some t u (sym aimed ∙ aim)

      same_job : (j : Job) → g.job ≡ Some j → l ≡ j
      same_job j had = same_Some l j (sym runs ∙ had)

      -- an awaited command is what is sent
      action_of : (x : Command) (now : IsOfAwaited l x) → now.command.command.action ≡ x.action
      action_of x now = ap (λ (c : Command). c.action) (sym now.is)

      object_of : (x : Command) (now : IsOfAwaited l x) → x.object ≡ t.object → now.command.command.object ≡ t.object
      object_of x now object = ap (λ (c : Command). c.object) (sym now.is) ∙ object

      only_now : (x : Command) → IsOfAwaited l x → x.object ≡ t.object →
          (x.action ≡ action.Create) ⊎ (x.action ≡ action.Write)
      only_now x now object = elim (only_so now.command now.awaits (object_of x now object)) [
        | inl create ↦ inl (sym (action_of x now) ∙ create)
        | inr write ↦ inr (sym (action_of x now) ∙ write)
      ]

      -- a WRITE that is awaited ends so, where all awaited ones do
      ends_now : (x : Command) → AwaitedEndInSome g → IsOfAwaited l x → x.object ≡ t.object → x.action ≡ action.Write →
          EndsInSome x.payload
      ends_now x written now object write =
          by_work l.work refl aims (asks now.command now.awaits)
        where
          wrong : (action.Create ≡ action.Write) → ⊥
          wrong e = cc e

          by_work : (work : Work) → l.work ≡ work → target_in work ≡ Some t → IsAskedIn g.kept work now.command →
              EndsInSome x.payload
          by_work Creates is to asked = absurd (cc to)
          by_work Fences is to asked = absurd (cc to)
          by_work (Fetches todo short) is to asked = absurd (cc to)
          by_work (Stores todo short q) is to asked = absurd (cc to)
          by_work (Targets u) is to asked =
              absurd (wrong (sym asked.action_is ∙ action_of x now ∙ write))
          by_work (Gathers u []) is to asked = absurd asked
          by_work (Gathers u (p ∷ ps)) is to asked =
              absurd (apart now.command.component asked.of.component asked.of.there
              (sym asked.of.object ∙ object_of x now object))
          by_work (Fills u todo) is to asked =
              subst EndsInSome (ap (λ (c : Command). c.payload) (sym now.is))
              (written l u todo now.command runs is now.awaits)
          by_work Lengths is to asked = absurd (cc to)
          by_work (Checks todo tally) is to asked = absurd (cc to)

      -- what is sent to the target, and what was
      module _ (was_none : (x : Command) → HasCommanded w t.drive x → x.object ≡ t.object →
          (x.action ≡ action.Create) ⊎ (x.action ≡ action.Write)) (was_ends : (x : Command) → IsFill w t x →
          EndsInSome x.payload) where
        ends_on : AwaitedEndInSome g → FillsEndInSome v g
        ends_on written u x aim fill =
            let one = same_target u aim in
            let object : x.object ≡ t.object = fill.object ∙ ap (λ (y : Target). y.object) (sym one) in
            elim (either x (subst (λ (y : Target). HasCommanded v y.drive x) (sym one) fill.sent) object) [
              | inl old ↦ was_ends x (record { sent = old; write = fill.write; object = object })
              | inr now ↦ ends_now x written now object fill.write
            ]

        only_on : OnlyMakesAndFills v g
        only_on u x aim sent object_ =
            let one = same_target u aim in
            let object : x.object ≡ t.object = object_ ∙ ap (λ (y : Target). y.object) (sym one) in
            elim (either x (subst (λ (y : Target). HasCommanded v y.drive x) (sym one) sent) object) [
              | inl old ↦ was_none x old object
              | inr now ↦ only_now x now object
            ]

      -- ---- a new target

      new_asked : l.work ≡ Targets t → w.server.next_object ≤ t.object → IsWellAsked v g
      new_asked is fresh = record {
        asked = λ j u p ps had works.
            absurd (cc (sym is ∙ ap (λ (y : Job). y.work) (same_job j had) ∙ works));
        planned = λ j u p had aim todo.
            absurd (subst (λ (y : Work). In p (todo_in y)) (ap (λ (y : Job). y.work) (sym (same_job j had)) ∙ is) todo);
        at_piece = λ j had. subst IsAtPiece (sym is ∙ ap (λ (y : Job). y.work) (same_job j had)) tt;
        written = new_written;
        ends = ends_on (λ x old object. absurd (past x old object))
            (λ x old. absurd (past x old.sent old.object)) new_written;
        only = only_on (λ x old object. absurd (past x old object)) (λ x old. absurd (past x old.sent old.object));
      }
        where
          new_written : AwaitedEndInSome g
          new_written j u todo b had works =
              absurd (cc (sym is ∙ ap (λ (y : Job). y.work) (same_job j had) ∙ works))

          past : (x : Command) → HasCommanded w t.drive x → x.object ≡ t.object → ⊥
          past x old object = let low = used x t.drive old in omega (arith, low, object, fresh)

      -- ---- a target that goes on

      module _ (f : File) (there : In f w.server.files) (j : Job) (had : f.job ≡ Some j) (aim : target_in j.work ≡ Some t)
          (still : IsSameStill f.kept g.kept) where
        was : IsWellAsked w f
        was = before scenario f there

        aimed_before : target_of f.job ≡ Some t
        aimed_before = ap target_of had ∙ aim

        abbrev Plan : Kept → Piece → Type 0
        Plan y p = In p (pieces_in y.map (group_with y.map t.component) y.high)

        plan_on : (p : Piece) → Plan f.kept p → Plan g.kept p
        plan_on p x =
            subst (λ (q : RawMap). In p (pieces_in q (group_with q t.component) g.kept.high)) (sym still.map)
            (subst (λ (q : ℕ). In p (pieces_in f.kept.map (group_with f.kept.map t.component) q)) (sym still.high) x)

        -- all but what is written follows from these
        all_of : AwaitedEndInSome g → SourcesAreAsked g → ((p : Piece) → In p (todo_in l.work) → Plan f.kept p) →
            IsAtPiece l.work → IsWellAsked v g
        all_of written asked plan at = record {
          asked = asked;
          planned = λ q u p has aim_ todo.
              let one : t ≡ u = same_target u (ap target_of has ∙ aim_) in
              subst (λ (y : Target). In p (pieces_in g.kept.map (group_with g.kept.map y.component) g.kept.high)) one
              (plan_on p (plan p (subst (λ (y : Job). In p (todo_in y.work)) (sym (same_job q has)) todo)));
          at_piece = λ q has. subst (λ (y : Job). IsAtPiece y.work) (same_job q has) at;
          written = written;
          ends = ends_on (λ x. was.only t x aimed_before) (λ x. was.ends t x aimed_before) written;
          only = only_on (λ x. was.only t x aimed_before) (λ x. was.ends t x aimed_before);
        }

        plan_before : (p : Piece) → In p (todo_in j.work) → Plan f.kept p
        plan_before p x = was.planned j t p had aim x

        works_in : (work : Work) → j.work ≡ work → (p : Piece) → In p (todo_in work) → Plan f.kept p
        works_in work is p x = plan_before p (subst (λ (y : Work). In p (todo_in y)) (sym is) x)

        waits_asked : WaitsOn f g j l → IsWellAsked v g
        waits_asked wo =
            all_of
            (λ q u todo b has works here_.
            let x = wo.awaited b (subst (λ (y : Job). In b y.awaited) (sym (same_job q has)) here_) in
            subst EndsInSome (sym x.2.payload) (was.written j u todo x.0 had
            (sym wo.work ∙ ap (λ (y : Job). y.work) (same_job q has) ∙ works) x.1))
            (λ q u p ps has works.
            let is : j.work ≡ Gathers u (p ∷ ps) = sym wo.work ∙ ap (λ (y : Job). y.work) (same_job q has) ∙ works in
            sources_as (IsAskedOrHeard q) f.kept g.kept u still.map (wo.present u (p ∷ ps) is)
            (of_sources (IsAskedOrHeard j) (IsAskedOrHeard q) f.kept u
            (λ n x. subst (λ (y : Job). IsAskedOrHeard y n) (same_job q has) (wo.asked n x)) _
            (was.asked j u p ps had is)))
            (λ p x. plan_before p (subst (λ (y : Work). In p (todo_in y)) wo.work x))
            (subst IsAtPiece (sym wo.work) (was.at_piece j had))

        -- what is next was planned
        next_planned : (todo : List Piece) → AreNext i f j t todo → (p : Piece) → In p todo → Plan f.kept p
        next_planned todo (Begun is all last) p x = subst (In p) all x
        next_planned todo (Again (inl is)) p x = works_in (Gathers t todo) is p x
        next_planned todo (Again (inr is)) p x = works_in (Fills t todo) is p x
        next_planned todo (PastZeros o is last zeros) p x = works_in (Gathers t (o ∷ todo)) is p (inr x)
        next_planned todo (PastWritten o is last) p x = works_in (Fills t (o ∷ todo)) is p (inr x)

        old_asked : JobGoes i f g j l t → IsWellAsked v g
        old_asked (Waits wo) = waits_asked wo
        old_asked (Reads p ps nonce is heard its some next) =
            all_of
            (λ q u todo b has works here_.
            absurd (cc (sym is ∙ ap (λ (y : Job). y.work) (same_job q has) ∙ works)))
            (λ q u o os has works.
            let same : Gathers t (p ∷ ps) ≡ Gathers u (o ∷ os) =
            sym is ∙ ap (λ (y : Job). y.work) (same_job q has) ∙ works in
            let one : t ≡ u = cc same in
            subst (λ (y : Target). OfEachSource (IsAskedOrHeard q) g.kept y) one
            (subst (λ (y : Job). OfEachSource (IsAskedOrHeard y) g.kept t) (same_job q has)
            (asked_all g.kept t p nonce l its some)))
            (λ o x. next_planned (p ∷ ps) next o (subst (λ (y : Work). In o (todo_in y)) is x))
            (subst IsAtPiece (sym is) tt)
        old_asked (Writes p ps nonce was_work is r some its) =
            all_of
            (λ q u todo b has works here_.
            let x = subst (In b) its (subst (λ (y : Job). In b y.awaited) (sym (same_job q has)) here_) in
            one_of b x (cut_ends (made_of r t p) p.count some))
            (λ q u o os has works.
            absurd (cc (sym is ∙ ap (λ (y : Job). y.work) (same_job q has) ∙ works)))
            (λ o x. works_in (Gathers t (p ∷ ps)) was_work o (subst (λ (y : Work). In o (todo_in y)) is x))
            (subst IsAtPiece (sym is) tt)
          where
            one_of : {c : Awaited} → (b : Awaited) → In b (c ∷ []) → EndsInSome c.command.payload →
                EndsInSome b.command.payload
            one_of b (inl equal) x = subst (λ (y : Awaited). EndsInSome y.command.payload) (sym equal) x
            one_of b (inr none_there) x = absurd none_there

    -- ---- a file

    moved_file : (f : File) → file_at w.server.files f.kept.number ≡ Some f →
        file_at (step w.server chosen i).state.files f.kept.number ≡ Some g → (l : Job) (t : Target) → g.job ≡ Some l →
        target_in l.work ≡ Some t → IsWellAsked v g
    moved_file f there goes l t runs aims =
        by_goes (targets_go w.server chosen i (files_distinct w (reached w h k)) (safe_at safe w h k) f g there goes may l t
        runs aims)
      where
        f_in : In f w.server.files
        f_in = in_at w.server.files f.kept.number f there

        may : MayGo f g
        may = record {
          still = λ u aim.
              let x = job_with f.job u aim in
              still_in f.kept.phase x.0.work u (work_fits laws w h k scenario f f_in x.0 x.1) x.2;
          alone = λ j had b c x y.
              let its : (d : Awaited) → In d j.awaited → In d (awaited_by f.job) = λ d here_.
              subst (λ (o : Option Job). In d (awaited_by o)) (sym had) here_ in
              (held laws w h k scenario).numbers.alone b c (f, f_in, its b x) (f, f_in, its c y);
          apart = λ u aim. ((owns laws v (h ++ lines_in w m) behind later).1 g here).apart u aim;
        }

        by_goes : TargetGoes w.server.next_object i f g l t → IsWellAsked v g
        by_goes (New is fresh) = new_asked l runs t aims is fresh
        by_goes (Old j had aim still goes_) = old_asked l runs t aims f f_in j had aim still goes_

    new_file : file_at w.server.files g.kept.number ≡ None →
        file_at (step w.server chosen i).state.files g.kept.number ≡ Some g → IsWellAsked v g
    new_file none goes =
        elim (files_go w.server chosen i (λ x y. Unit {0}) (λ y. target_of y.job ≡ None) (record {
          stays = λ x y j same. tt;
          alike = λ x y z a_ p. tt;
          heard = λ x is. tt;
          fenced = λ x y kind format j same. tt;
          declared = λ x y drive j same. tt;
          crashed = λ x y j same. tt;
          opened = λ x y format j same. tt;
          made = λ x there none_. making_aims w.server chosen x;
        }) (files_distinct w (reached w h k)) g.kept.number g goes) [
          | inl old ↦ absurd (cc (sym none ∙ old.there))
          | inr new ↦ free_asked v g new
        ]

    by_job : (o : Option Job) → g.job ≡ o → (f : File) → file_at w.server.files f.kept.number ≡ Some f →
        file_at (step w.server chosen i).state.files f.kept.number ≡ Some g → IsWellAsked v g
    by_job None none f there goes = free_asked v g (ap target_of none)
    by_job (Some l) runs f there goes = by_target (target_in l.work) refl
      where
        by_target : (o : Option Target) → target_in l.work ≡ o → IsWellAsked v g
        by_target None none = free_asked v g (ap target_of runs ∙ none)
        by_target (Some t) aims = moved_file f there goes l t runs aims

    by_before : (o : Option File) → file_at w.server.files g.kept.number ≡ o →
        file_at (step w.server chosen i).state.files g.kept.number ≡ Some g → IsWellAsked v g
    by_before None none goes = new_file none goes
    by_before (Some f) there goes =
        let number : f.kept.number ≡ g.kept.number = number_at w.server.files g.kept.number f there in
        by_job g.job refl f (ap (file_at w.server.files) number ∙ there)
        (ap (file_at (step w.server chosen i).state.files) number ∙ goes)

    served : IsWellAsked v g
    served =
        by_before (file_at w.server.files g.kept.number) refl
        (subst (λ (q : Server). file_at q.files g.kept.number ≡ Some g) server
        (at_place v.server.files g (files_distinct v (reached v (h ++ lines_in w m) behind)) here))

  own_command : (x y : Command) → OfCommand x ≡ OfCommand y → x ≡ y
  own_command x y e = cc e

  by_act : Acts w a.world a.told a.posts → (g : File) → In g v.server.files → IsWellAsked v g
  by_act (Others server messages told others) g here =
      stays messages (λ e x new. none_anew a.posts e (OfCommand x) others new) g
      (subst (λ (q : Server). In g q.files) server here)
  by_act (Serves chosen i sent server messages told posts) g here =
      served chosen i server messages
      (λ e x new.
      let r = sent_anew (step w.server chosen i).sends e (OfCommand x)
      (subst (λ (ps : List Post). In (to_drive e (OfCommand x)) (map (λ (p : Post). p.message) ps)) posts new) in
      subst (λ (c : Command). In (ToDrive e c) (step w.server chosen i).sends) (sym (own_command x r.0 r.2)) r.1)
      g here

-- ---- at each moment

pub each_target_is_well_asked : OwnedLaws → GrantsAreSafe → EachTargetIsWellAsked
each_target_is_well_asked laws safe w h k later =
    always Stand (record {
      starts = λ later_ f i. absurd i;
      moves = λ u g j m d p later_ f i. by_act laws safe u g j m d p later_ (each_acts u m.chosen m.action) f i;
    }) laws.more w h k later
