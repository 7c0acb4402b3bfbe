-- At each moment, where a rebuild writes to its target, it awaits one WRITE, the last that was sent there.
use Rattle.std.proofs.Common.{◌≡◌, ◌⊎◌, ◌++◌, ℕ, ◌≤◌, List, [], ◌∷◌, map, Option, Some, None, refl, sym, ap, subst, ◌∙◌, arith, inl, inr}
use Rattle.std.proofs.lemmas.List.{append-nil}
use Rattle.std.proofs.lemmas.Option.{same_Some}
use Rattle.osd_commands.specs.declared.actions.Action.TheVariants as action
use Rattle.osd_commands.specs.declared.commands.Command.{Command}
use Rattle.scenario_text.specs.declared.line.Line.{Line}
use Rattle.server_rules.specs.Files.{file_at}
use Rattle.server_rules.specs.History.{step}
use Rattle.server_rules.specs.Laws.{In}
use Rattle.server_rules.specs.Messages.{awaited_by}
use Rattle.server_rules.proofs.Members.{in_either, in_map}
use Rattle.history_law.specs.Names.{Server, File, Component, Awaited, Piece, Target, Job, Work, Creates, Fences, Fetches, Stores, Targets, Gathers, Fills, Lengths, Checks, ToDrive}
use Rattle.history_law.specs.Numbered.{Awaits, NumbersOn}
use Rattle.history_law.proofs.Lists.{numbered_from}
use Rattle.history_law.proofs.JobSteps.{step_numbers}
use Rattle.world_history.specs.declared.messages.Body.TheVariants.{Command as OfCommand}
use Rattle.world_history.specs.Handed.{Post}
use Rattle.world_history.specs.History.{OneEventMore}
use Rattle.world_history.specs.Moves.{Act, acts}
use Rattle.world_history.specs.Plans.{due}
use Rattle.world_history.specs.Sending.{Move, move}
use Rattle.world_history.specs.State.{World}
use Rattle.history_law.specs.BookMoments.{IsMoment, plan_at, lines_in}
use Rattle.component_law.specs.Naming.{IsNamed, AreNamed}
use Rattle.component_law.specs.Distinct.{AreDistinct}
use Rattle.exchange_law.proofs.CountMoments.{reached}
use Rattle.exchange_law.proofs.SlotMoments.{always}
use Rattle.history_law.proofs.Ending.{next_moment, at_moment}
use Rattle.history_law.proofs.FencingMoves.{messages_in, Acts, Others, Serves, each_acts}
use Rattle.history_law.proofs.Numbers.{Numbers, to_drive, sent_anew, none_anew, messages_sent}
use Rattle.history_law.proofs.Files.{in_at}
use Rattle.component_law.specs.Objects.{target_in, target_of, AreOwned}
use Rattle.component_law.specs.Sent.{IsSentByRun}
use Rattle.component_law.proofs.Moments.{each_first, server_sent_its_run}
use Rattle.component_law.proofs.ObjectRuns.{each_object_is_owned}
use Rattle.file_simulation.specs.Jobs.{IsFill}
use Rattle.file_simulation.specs.Messages.{HasCommanded}
use Rattle.relation_law.proofs.DriveMoves.{got_in}
use Rattle.relation_law.proofs.FramesFiles.{files_distinct}
use Rattle.relation_law.proofs.KeptServer.{at_place}
use Rattle.relation_law.specs.Awaiting.{IsOfComponent, IsOfTarget, IsAskedIn, FitsIn}
use Rattle.relation_law.specs.TargetWrites.{IsLatest, FillsAreLatest, EachFillIsLatest}
use Rattle.relation_law.proofs.FittingSteps.{AllFit, jobs_ask}
use Rattle.relation_law.proofs.Sending.{each_send_is_awaited}
use Rattle.relation_law.proofs.TargetSteps.{fills_go}

-- ---- whose an awaited command is

module _ (s : Server) (owner : ℕ → ℕ) (own : AreOwned owner s) (fits : AllFit s.files) where
  -- the file of the job that awaits it owns its object
  pub awaited_owner : (f : File) (a : Awaited) → In f s.files → In a (awaited_by f.job) →
      owner a.command.object ≡ f.kept.number
  awaited_owner f a i waits = by_job f.job refl waits
    where
      of_component : IsOfComponent f.kept.components a → owner a.command.object ≡ f.kept.number
      of_component c =
          ap owner c.object
          ∙ ((own f i).components c.component.object (in_map (λ (z : Component). z.object) c.component f.kept.components
          (got_in f.kept.components a.component c.component c.there))).1

      of_target : (t : Target) → target_of f.job ≡ Some t → IsOfTarget t a → owner a.command.object ≡ f.kept.number
      of_target t aim c = ap owner c.object ∙ ((own f i).target t aim).1

      by_work : (work : Work) → target_of f.job ≡ target_in work → IsAskedIn f.kept work a →
          owner a.command.object ≡ f.kept.number
      by_work Creates is asked = of_component asked.of
      by_work Fences is asked = of_component asked.of
      by_work (Fetches [] short) is asked = absurd asked
      by_work (Fetches (p ∷ ps) short) is asked = of_component asked.of
      by_work (Stores [] short q) is asked = absurd asked
      by_work (Stores (p ∷ ps) short q) is asked = of_component asked.of
      by_work (Targets t) is asked = of_target t is asked.of
      by_work (Gathers t []) is asked = absurd asked
      by_work (Gathers t (p ∷ ps)) is asked = of_component asked.of
      by_work (Fills t []) is asked = absurd asked
      by_work (Fills t (p ∷ ps)) is asked = of_target t is asked.of
      by_work Lengths is asked = of_component asked.of
      by_work (Checks [] t) is asked = absurd asked
      by_work (Checks (p ∷ ps) t) is asked = of_component asked.of

      by_job : (o : Option Job) → f.job ≡ o → In a (awaited_by o) → owner a.command.object ≡ f.kept.number
      by_job None none here = absurd here
      by_job (Some j) runs here =
          by_work j.work (ap target_of runs) ((subst (FitsIn f.kept) runs (fits f i)).asked a here)

-- ---- at a moment

module _ (more : OneEventMore) (w : World) (h : List Line) (k : IsMoment w h) (named : AreNamed h) where
  run_of : IsSentByRun w
  run_of = server_sent_its_run more w h k named

  owners : (owner : ℕ → ℕ) × AreOwned owner w.server
  owners =
      let all = each_object_is_owned run_of.acts in
      (all.0, subst (AreOwned all.0) (sym run_of.server) (all.1 run_of.acts [] (sym (append-nil run_of.acts))))

  fits : AllFit w.server.files
  fits = jobs_ask more w h k named

  owner_of : (f : File) (a : Awaited) → In f w.server.files → In a (awaited_by f.job) →
      owners.0 a.command.object ≡ f.kept.number
  owner_of = awaited_owner w.server owners.0 owners.1 fits

  -- a file with that number is this one
  is_file : (f g : File) → In f w.server.files → In g w.server.files → f.kept.number ≡ g.kept.number → f ≡ g
  is_file f g i j number =
      let apart : AreDistinct w.server.files = files_distinct w (reached w h k) in
      same_Some f g (sym (at_place w.server.files f apart i) ∙ ap (file_at w.server.files) number
      ∙ at_place w.server.files g apart j)

  -- what is awaited for a target's object its file's job awaits
  pub is_targets : (f y : File) (t : Target) (a : Awaited) → In f w.server.files → target_of f.job ≡ Some t →
      In y w.server.files → In a (awaited_by y.job) → a.command.object ≡ t.object → y ≡ f
  is_targets f y t a i aim iy waits object =
      is_file y f iy i (sym (owner_of y a iy waits) ∙ ap owners.0 object ∙ ((owners.1 f i).target t aim).1)

-- ---- a move

pub in_one : (a b : Awaited) (ws : List Awaited) → ws ≡ b ∷ [] → In a ws → a ≡ b
in_one a b ws is i = elim (subst (In a) is i) [ inl same ↦ same | inr none ↦ absurd none ]

-- what the job of a file awaits for its target before a step isn't later than what its job awaits behind it
later_by : (w : World) (f : File) (t : Target) (a : Awaited) (x : Command) → FitsIn f.kept f.job → FillsAreLatest w f →
    target_of f.job ≡ Some t → In a (awaited_by f.job) → a.command.action ≡ action.Write → IsFill w t x →
    x.nonce ≤ a.command.nonce
later_by w f t a x fit before aim waits write fill = by_job f.job refl fit aim waits
  where
    by_work : (j : Job) → f.job ≡ Some j → In a j.awaited → (work : Work) → j.work ≡ work → target_in work ≡ Some t →
        IsAskedIn f.kept work a → x.nonce ≤ a.command.nonce
    by_work j runs here Creates is to asked = absurd (cc to)
    by_work j runs here Fences is to asked = absurd (cc to)
    by_work j runs here (Fetches ps short) is to asked = absurd (cc to)
    by_work j runs here (Stores ps short b) is to asked = absurd (cc to)
    by_work j runs here (Targets u) is to asked = absurd (cc (sym asked.action_is ∙ write))
    by_work j runs here (Gathers u []) is to asked = absurd asked
    by_work j runs here (Gathers u (p ∷ ps)) is to asked = absurd (cc (sym asked.action_is ∙ write))
    by_work j runs here (Fills u ps) is to asked =
        let same : u ≡ t = same_Some u t to in
        let l : IsLatest w t j.awaited = before j t ps runs (is ∙ ap (λ (y : Target). Fills y ps) same) in
        let own : a ≡ l.command = in_one a l.command j.awaited l.only here in
        subst (λ (y : Awaited). x.nonce ≤ y.command.nonce) (sym own) (l.latest x fill)
    by_work j runs here Lengths is to asked = absurd (cc to)
    by_work j runs here (Checks ps tally) is to asked = absurd (cc to)

    by_job : (o : Option Job) → f.job ≡ o → FitsIn f.kept o → target_of o ≡ Some t → In a (awaited_by o) →
        x.nonce ≤ a.command.nonce
    by_job None none nothing to here = absurd here
    by_job (Some j) runs fit_ to here = by_work j runs here j.work refl to (fit_.asked a here)

abbrev Stand : World → List Line → Type 0
Stand w h = AreNamed h → (f : File) → In f w.server.files → FillsAreLatest w f

module _ (more : OneEventMore) (w : World) (h : List Line) (k : IsMoment w h) (m : Move)
    (d : due (plan_at k) w ≡ Some m.action) (before : Stand w h) (named : AreNamed (h ++ lines_in w m)) where
  abbrev v : World
  v = (move w m).world

  abbrev a : Act
  a = acts w m.chosen m.action

  behind : IsMoment v (h ++ lines_in w m)
  behind = next_moment w h k m d

  named_before : AreNamed h
  named_before = each_first IsNamed h (lines_in w m) named

  numbers : Numbers w
  numbers = (at_moment w h k).numbers

  pub sent_either : (e : ℕ) (x : Command) → HasCommanded v e x → messages_in a.world ≡ messages_in w →
      HasCommanded w e x ⊎ In (to_drive e (OfCommand x)) (map (λ (p : Post). p.message) a.posts)
  sent_either e x sent same =
      elim (in_either (to_drive e (OfCommand x)) (messages_in a.world) (map (λ (p : Post). p.message) a.posts)
      (subst (In (to_drive e (OfCommand x))) (messages_sent a.world.network.messages a.posts) sent)) [
        | inl old ↦ inl (subst (In (to_drive e (OfCommand x))) same old)
        | inr new ↦ inr new
      ]

  -- what the job awaits is a WRITE to its target
  pub is_write : (g : File) → In g v.server.files → (j : Job) (t : Target) (todo : List Piece) → g.job ≡ Some j →
      j.work ≡ Fills t todo → (b : Awaited) → In b j.awaited →
      (b.command.action ≡ action.Write) × (b.command.object ≡ t.object)
  is_write g i j t todo runs is b here =
      by_todo todo (subst (λ (y : Work). IsAskedIn g.kept y b) is
      ((subst (FitsIn g.kept) runs (fits more v (h ++ lines_in w m) behind named g i)).asked b here))
    where
      by_todo : (ps : List Piece) → IsAskedIn g.kept (Fills t ps) b →
          (b.command.action ≡ action.Write) × (b.command.object ≡ t.object)
      by_todo [] asked = absurd asked
      by_todo (p ∷ ps) asked = (asked.action_is, asked.of.object)

  by_act : Acts w a.world a.told a.posts → (g : File) → In g v.server.files → FillsAreLatest v g
  by_act (Others server messages told others) g i j t todo runs is =
      let l : IsLatest w t j.awaited =
      before named_before g (subst (λ (y : Server). In g y.files) server i) j t todo runs is in
      record {
        command = l.command;
        only = l.only;
        latest = λ x fill. elim (sent_either t.drive x fill.sent messages) [
          | inl old ↦ l.latest x (record { sent = old; write = fill.write; object = fill.object })
          | inr now ↦ absurd (none_anew a.posts t.drive (OfCommand x) others now)
        ];
      }
  by_act (Serves chosen input sent server messages told posts) g i j t todo runs is =
      let went =
      fills_go w.server chosen input (files_distinct w (reached w h k))
      (λ f q u x r e s. let l = before named_before f q u x r e s in (l.command, l.only)) g.kept.number g
      (ap (λ (y : Server). file_at y.files g.kept.number) (sym server)
      ∙ at_place v.server.files g (files_distinct v (reached v (h ++ lines_in w m) behind)) i) j t todo runs is in
      let f : File = went.0 in
      let b : Awaited = went.3.0 in
      let f_in : In f w.server.files = in_at w.server.files g.kept.number f went.1 in
      let here : In b j.awaited = subst (In b) (sym went.3.1) (inl refl) in
      let waits : In b (awaited_by g.job) = subst (λ (o : Option Job). In b (awaited_by o)) (sym runs) here in
      let asked = is_write g i j t todo runs is b here in
      let n : NumbersOn w.server (step w.server chosen input) = step_numbers w.server chosen input in
      record {
        command = b;
        only = went.3.1;
        latest = λ x fill. elim (sent_either t.drive x fill.sent messages) [
          | inl old ↦
              let fill_before : IsFill w t x = record { sent = old; write = fill.write; object = fill.object } in
              elim (n.waits b (g, subst (λ (y : Server). In g y.files) server i, waits)) [
                | inl earlier ↦
                    let own : earlier.0 ≡ f =
                    is_targets more w h k named_before f earlier.0 t b f_in went.2 earlier.1 earlier.2 asked.1 in
                    later_by w f t b x (fits more w h k named_before f f_in) (before named_before f f_in) went.2
                    (subst (λ (y : File). In b (awaited_by y.job)) own earlier.2) asked.0 fill_before
                | inr new ↦
                    let low = numbers.sent t.drive (OfCommand x) old in
                    let from = numbered_from w.server.next_nonce n.fresh b n.numbered new in
                    let same : x.nonce ≡ low.0.nonce = ap (λ (c : Command). c.nonce) (own_command x low.0 low.1) in
                    omega (arith, low.2, from.0, same)
              ]
          | inr now ↦
              let r = sent_anew (step w.server chosen input).sends t.drive (OfCommand x)
              (subst (λ (ps : List Post). In (to_drive t.drive (OfCommand x)) (map (λ (p : Post). p.message) ps)) posts
              now) in
              let among : In (ToDrive t.drive x) (step w.server chosen input).sends =
              subst (λ (c : Command). In (ToDrive t.drive c) (step w.server chosen input).sends)
              (sym (own_command x r.0 r.2)) r.1 in
              let z = each_send_is_awaited w.server chosen input t.drive x among in
              let y : Awaits v.server.files z.0 = subst (λ (s : Server). Awaits s.files z.0) (sym server) z.2 in
              let own : y.0 ≡ g =
              is_targets more v (h ++ lines_in w m) behind named g y.0 t z.0 i (ap target_of runs ∙ ap target_in is)
              y.1 y.2 (ap (λ (c : Command). c.object) (sym z.1.1) ∙ fill.object) in
              let mine : In z.0 j.awaited =
              subst (λ (o : Option Job). In z.0 (awaited_by o)) (ap (λ (q : File). q.job) own ∙ runs) y.2 in
              let it : z.0 ≡ b = in_one z.0 b j.awaited went.3.1 mine in
              let nonce : x.nonce ≡ b.command.nonce =
              ap (λ (c : Command). c.nonce) z.1.1 ∙ ap (λ (q : Awaited). q.command.nonce) it in
              omega (arith, nonce)
        ];
      }
    where
      own_command : (x y : Command) → OfCommand x ≡ OfCommand y → x ≡ y
      own_command x y e = cc e

pub each_fill_is_latest : OneEventMore → EachFillIsLatest
each_fill_is_latest more w h k =
    always Stand (record {
      starts = λ named f i. absurd i;
      moves = λ u g j m d p named. by_act more u g j m d p named (each_acts u m.chosen m.action);
    }) more w h k
