-- At each moment the CREATE of a rebuild's target has an earlier nonce than the WRITE that its job awaits.
use Rattle.std.proofs.Common.{◌≡◌, ◌++◌, ◌<◌, List, [], ◌∷◌, map, Option, Some, None, refl, sym, ap, subst, ◌∙◌, arith, inl, inr}
use Rattle.std.proofs.lemmas.Option.{same_Some}
use Rattle.osd_commands.specs.declared.actions.Action.TheVariants as action
use Rattle.osd_commands.specs.declared.commands.Command.{Command}
use Rattle.scenario_text.specs.declared.line.Line.{Line}
use Rattle.server_rules.specs.Files.{file_at}
use Rattle.server_rules.specs.History.{step}
use Rattle.server_rules.specs.Laws.{In}
use Rattle.server_rules.specs.Messages.{awaited_by}
use Rattle.world_history.specs.ServerNames.{Server, File, Awaited, Piece, Target, Job, Work, Creates, Fences, Fetches, Stores, Targets, Gathers, Fills, Lengths, Checks, ToDrive}
use Rattle.world_history.specs.declared.messages.Body.TheVariants.{Command as OfCommand}
use Rattle.world_history.specs.Handed.{Post}
use Rattle.world_history.specs.History.{OneEventMore}
use Rattle.world_history.specs.Moves.{Act, acts}
use Rattle.world_history.specs.Plans.{due}
use Rattle.world_history.specs.Sending.{Move, move}
use Rattle.world_history.specs.State.{World}
use Rattle.history_law.specs.BookMoments.{IsMoment, plan_at, lines_in}
use Rattle.history_law.specs.Numbered.{Awaits, NumbersOn}
use Rattle.history_law.proofs.Ending.{next_moment, at_moment}
use Rattle.history_law.proofs.Files.{in_at}
use Rattle.history_law.proofs.FencingMoves.{Acts, Others, Serves, each_acts}
use Rattle.history_law.proofs.JobSteps.{step_numbers}
use Rattle.history_law.proofs.Lists.{numbered_from}
use Rattle.history_law.proofs.Numbers.{Numbers, to_drive, sent_anew, none_anew}
use Rattle.component_law.proofs.Moments.{each_first}
use Rattle.component_law.specs.Naming.{IsNamed, AreNamed}
use Rattle.component_law.specs.Objects.{target_in, target_of}
use Rattle.exchange_law.proofs.CountMoments.{reached}
use Rattle.exchange_law.proofs.SlotMoments.{always}
use Rattle.file_simulation.specs.Messages.{HasCommanded}
use Rattle.relation_law.specs.Awaiting.{IsAskedIn, FitsIn}
use Rattle.relation_law.specs.TargetWrites.{FillsAreLatest}
use Rattle.relation_law.proofs.FittingSteps.{jobs_ask}
use Rattle.relation_law.proofs.FramesFiles.{files_distinct}
use Rattle.relation_law.proofs.KeptServer.{at_place}
use Rattle.relation_law.proofs.Sending.{each_send_is_awaited}
use Rattle.relation_law.proofs.TargetMoments.{is_targets, sent_either, is_write, each_fill_is_latest}
use Rattle.relation_law.proofs.TargetSteps.{fills_go}

-- each CREATE that was sent to the target has an earlier nonce than each WRITE that the job awaits
abbrev pub CreatesAreEarlier : World → File → Type 0
CreatesAreEarlier w f =
    (t : Target) (a : Awaited) (x : Command) → target_of f.job ≡ Some t → In a (awaited_by f.job) →
    a.command.action ≡ action.Write → HasCommanded w t.drive x → x.object ≡ t.object → x.action ≡ action.Create →
    x.nonce < a.command.nonce

-- the job that awaits a WRITE for its target
record IsFilling (f : File) (t : Target) (a : Awaited) : Type 0 where
  job : Job
  todo : List Piece
  runs : f.job ≡ Some job
  works : job.work ≡ Fills t todo
  awaits : In a job.awaited

filling : (f : File) (t : Target) (a : Awaited) → FitsIn f.kept f.job → target_of f.job ≡ Some t →
    In a (awaited_by f.job) → a.command.action ≡ action.Write → IsFilling f t a
filling f t a fit aim waits write = by_job f.job refl fit aim waits
  where
    by_work : (j : Job) → f.job ≡ Some j → In a j.awaited → (work : Work) → j.work ≡ work → target_in work ≡ Some t →
        IsAskedIn f.kept work a → IsFilling f t a
    by_work j runs here Creates is to asked = absurd (cc to)
    by_work j runs here Fences is to asked = absurd (cc to)
    by_work j runs here (Fetches ps short) is to asked = absurd (cc to)
    by_work j runs here (Stores ps short b) is to asked = absurd (cc to)
    by_work j runs here (Targets u) is to asked = absurd (cc (sym asked.action_is ∙ write))
    by_work j runs here (Gathers u []) is to asked = absurd asked
    by_work j runs here (Gathers u (p ∷ ps)) is to asked = absurd (cc (sym asked.action_is ∙ write))
    by_work j runs here (Fills u ps) is to asked = record {
      job = j;
      todo = ps;
      runs = runs;
      works = is ∙ ap (λ (y : Target). Fills y ps) (same_Some u t to);
      awaits = here;
    }
    by_work j runs here Lengths is to asked = absurd (cc to)
    by_work j runs here (Checks ps tally) is to asked = absurd (cc to)

    by_job : (o : Option Job) → f.job ≡ o → FitsIn f.kept o → target_of o ≡ Some t → In a (awaited_by o) → IsFilling f t a
    by_job None none nothing to here = absurd here
    by_job (Some j) runs fit_ to here = by_work j runs here j.work refl to (fit_.asked a here)

abbrev Stand : World → List Line → Type 0
Stand w h = AreNamed h → (f : File) → In f w.server.files → CreatesAreEarlier w f

module _ (more : OneEventMore) (w : World) (h : List Line) (k : IsMoment w h) (m : Move)
    (d : due (plan_at k) w ≡ Some m.action) (before : Stand w h) (named : AreNamed (h ++ lines_in w m)) where
  abbrev v : World
  v = (move w m).world

  abbrev a : Act
  a = acts w m.chosen m.action

  behind : IsMoment v (h ++ lines_in w m)
  behind = next_moment w h k m d

  named_before : AreNamed h
  named_before = each_first IsNamed h (lines_in w m) named

  numbers : Numbers w
  numbers = (at_moment w h k).numbers

  latest : AreNamed h → (f : File) → In f w.server.files → FillsAreLatest w f
  latest = each_fill_is_latest more w h k

  own_command : (x y : Command) → OfCommand x ≡ OfCommand y → x ≡ y
  own_command x y e = cc e

  by_act : Acts w a.world a.told a.posts → (g : File) → In g v.server.files → CreatesAreEarlier v g
  by_act (Others server messages told others) g i t b x aim waits write sent object create =
      elim (sent_either more w h k m d latest named t.drive x sent messages) [
        | inl old ↦
            before named_before g (subst (λ (y : Server). In g y.files) server i) t b x aim waits write old object create
        | inr now ↦ absurd (none_anew a.posts t.drive (OfCommand x) others now)
      ]
  by_act (Serves chosen input is_sent server messages told posts) g i t b x aim waits write sent object create =
      elim (sent_either more w h k m d latest named t.drive x sent messages) [
        | inl old ↦ earlier old
        | inr now ↦ absurd (anew now)
      ]
    where
      fill : IsFilling g t b
      fill = filling g t b (jobs_ask more v (h ++ lines_in w m) behind named g i) aim waits write

      asks : (c : Awaited) → In c fill.job.awaited → (c.command.action ≡ action.Write) × (c.command.object ≡ t.object)
      asks = is_write more w h k m d latest named g i fill.job t fill.todo fill.runs fill.works

      earlier : HasCommanded w t.drive x → x.nonce < b.command.nonce
      earlier old =
          let went =
          fills_go w.server chosen input (files_distinct w (reached w h k))
          (λ f q u y r e s. let l = latest named_before f q u y r e s in (l.command, l.only)) g.kept.number g
          (ap (λ (y : Server). file_at y.files g.kept.number) (sym server)
          ∙ at_place v.server.files g (files_distinct v (reached v (h ++ lines_in w m) behind)) i) fill.job t fill.todo
          fill.runs fill.works in
          let f : File = went.0 in
          let f_in : In f w.server.files = in_at w.server.files g.kept.number f went.1 in
          let n : NumbersOn w.server (step w.server chosen input) = step_numbers w.server chosen input in
          elim (n.waits b (g, subst (λ (y : Server). In g y.files) server i, waits)) [
            | inl was ↦
                let own : was.0 ≡ f =
                is_targets more w h k named_before f was.0 t b f_in went.2 was.1 was.2 (asks b fill.awaits).1 in
                before named_before f f_in t b x went.2 (subst (λ (y : File). In b (awaited_by y.job)) own was.2) write old
                object create
            | inr new ↦
                let low = numbers.sent t.drive (OfCommand x) old in
                let from = numbered_from w.server.next_nonce n.fresh b n.numbered new in
                let same : x.nonce ≡ low.0.nonce = ap (λ (c : Command). c.nonce) (own_command x low.0 low.1) in
                omega (arith, low.2, from.0, same)
          ]

      -- what is sent now is awaited now, so that it is a WRITE
      anew : In (to_drive t.drive (OfCommand x)) (map (λ (p : Post). p.message) a.posts) → ⊥
      anew now =
          let r = sent_anew (step w.server chosen input).sends t.drive (OfCommand x)
          (subst (λ (ps : List Post). In (to_drive t.drive (OfCommand x)) (map (λ (p : Post). p.message) ps)) posts
          now) in
          let among : In (ToDrive t.drive x) (step w.server chosen input).sends =
          subst (λ (c : Command). In (ToDrive t.drive c) (step w.server chosen input).sends)
          (sym (own_command x r.0 r.2)) r.1 in
          let z = each_send_is_awaited w.server chosen input t.drive x among in
          let y : Awaits v.server.files z.0 = subst (λ (s : Server). Awaits s.files z.0) (sym server) z.2 in
          let own : y.0 ≡ g =
          is_targets more v (h ++ lines_in w m) behind named g y.0 t z.0 i aim
          y.1 y.2 (ap (λ (c : Command). c.object) (sym z.1.1) ∙ object) in
          let mine : In z.0 fill.job.awaited =
          subst (λ (o : Option Job). In z.0 (awaited_by o)) (ap (λ (q : File). q.job) own ∙ fill.runs) y.2 in
          cc (sym create ∙ ap (λ (c : Command). c.action) z.1.1 ∙ (asks z.0 mine).0)

pub creates_are_earlier : OneEventMore → (w : World) (h : List Line) → IsMoment w h → AreNamed h → (f : File) →
    In f w.server.files → CreatesAreEarlier w f
creates_are_earlier more w h k =
    always Stand (record {
      starts = λ named f i. absurd i;
      moves = λ u g j m d p named. by_act more u g j m d p named (each_acts u m.chosen m.action);
    }) more w h k
