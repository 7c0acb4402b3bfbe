-- What the relation and the laws of the world give of a file before a step of the server, so that what may still come stays
-- of its phase.
-- Towards `JobsGoOn` (`relation_law`).
use Rattle.std.proofs.Common.{◌≡◌, ◌==◌, ◌||◌, ◌&&◌, ℕ, zero, suc, ◌+◌, Bool, true, false, List, [], ◌∷◌, slice_get, Option, Some, None, refl, sym, ap, subst, ◌∙◌, inl, inr, if◌then◌else◌}
use Rattle.std.proofs.lemmas.Bool.{cases_Bool, eqb-true}
use Rattle.std.proofs.lemmas.List.{append-nil}
use Rattle.osd_lists.specs.declared.node.Node.TheVariants as node
use Rattle.osd_commands.specs.declared.actions.Action.{Action}
use Rattle.osd_commands.specs.declared.actions.Action.TheVariants.{Write}
use Rattle.osd_commands.specs.declared.commands.Command.{Command}
use Rattle.osd_commands.specs.declared.replies.Reply.{Reply}
use Rattle.osd_objects.specs.declared.object.StoredObject.{StoredObject}
use Rattle.osd_objects.specs.Store.{object_at}
use Rattle.scenario_text.specs.declared.line.Line.{Line}
use Rattle.server_rules.specs.Files.{file_at}
use Rattle.server_rules.specs.History.{Input, Hears}
use Rattle.server_rules.specs.Laws.{In}
use Rattle.server_rules.specs.Messages.{Replies, awaited_by, counters_have_room}
use Rattle.server_rules.specs.Replies.{Older, Full, Done, Nothing, hearing, is_done, is_create, is_write, is_set_tag}
use Rattle.server_rules.specs.declared.limits.TheConstants.{PERFORMED, OLD_FORMAT}
use Rattle.history_law.specs.Names.{Server, File, Kept, Component, Awaited, Job}
use Rattle.history_law.proofs.Hearing.{done_is_done}
use Rattle.world_history.specs.History.{OneEventMore}
use Rattle.world_history.specs.State.{World, DriveAt, at_number}
use Rattle.history_law.specs.BookMoments.{IsMoment}
use Rattle.history_law.specs.Spent.{IsSpent, IsSpentOn}
use Rattle.component_law.proofs.NamedLines.{are_named}
use Rattle.exchange_law.specs.Counters.{CountersStayLow}
use Rattle.history_law.proofs.Holding.{Holds}
use Rattle.history_law.proofs.FencingMoves.{IsSent}
use Rattle.history_law.proofs.Files.{in_at}
use Rattle.history_law.proofs.Ending.{at_moment}
use Rattle.component_law.specs.Objects.{NoneIs, objects_of, IsOwned}
use Rattle.component_law.specs.Sent.{IsSentByRun}
use Rattle.component_law.specs.Tagged.{NoCommandIsAhead}
use Rattle.component_law.proofs.Moments.{server_sent_its_run}
use Rattle.component_law.proofs.ObjectRuns.{each_object_is_owned}
use Rattle.fence_law.specs.State as machine
use Rattle.file_simulation.specs.Claim.{IsOfScenario}
use Rattle.file_simulation.specs.Components.{has_failed, is_lost_in, AreComponents}
use Rattle.file_simulation.specs.Jobs.{AreOwned}
use Rattle.file_simulation.specs.Messages.{HasCommanded}
use Rattle.component_law.specs.KeptWalk.{WorkFits, JobFits}
use Rattle.component_law.proofs.KeptFits.{FitsBy}
use Rattle.relation_law.proofs.KeptReady.{IsFit, fit_at}
use Rattle.relation_law.specs.Awaiting.{FitsIn}
use Rattle.relation_law.specs.Hearing.{TellsOfWrite}
use Rattle.relation_law.specs.Owning.{Coming, AreOfPhase, AreTold, IsReady}
use Rattle.relation_law.proofs.FittingSteps.{jobs_ask}
use Rattle.relation_law.proofs.Hearing.{tells_at}

-- ---- what may still come

-- the server sent this WRITE to the drive, which may still perform it
abbrev pub coming : World → Coming
coming w d x = HasCommanded w d x × (x.action ≡ Write) × (IsSpent (at_number w.drives d) x → ⊥)

spent_on_check : (o : Option StoredObject) (c : Command) (check : List ℕ) → IsSpentOn o c →
    IsSpentOn o (record c { check = check })
spent_on_check None c check spent = spent
spent_on_check (Some x) c check spent = spent

-- the check value doesn't matter
spent_check : (o : Option DriveAt) (c : Command) (check : List ℕ) → IsSpent o c → IsSpent o (record c { check = check })
spent_check None c check spent = spent
spent_check (Some a) c check (inl failed) = inl failed
spent_check (Some a) c check (inr (inl old)) = inr (inl old)
spent_check (Some a) c check (inr (inr on)) = inr (inr (spent_on_check (object_at a.state.store c.object) c check on))

-- all is spent at a drive that has failed
pub failed_spent : (o : Option DriveAt) (x : Command) → has_failed o ≡ true → IsSpent o x
failed_spent None x failed = absurd (cc failed)
failed_spent (Some a) x failed = inl failed

-- a present component to which something may come isn't lost
pub not_lost : (w : World) (at : Component) (x : Command) → at.missing ≡ false →
    (IsSpent (at_number w.drives at.drive) x → ⊥) → is_lost_in w at ≡ false
not_lost w at x stands unspent =
    ap (λ (b : Bool). b || has_failed (at_number w.drives at.drive)) stands
    ∙ (elim (cases_Bool (has_failed (at_number w.drives at.drive))) [
      | inl failed ↦ absurd (unspent (failed_spent (at_number w.drives at.drive) x failed))
      | inr lives ↦ lives
    ])

-- ---- what a reply says

-- by its verdict, whether it is done or of an old format
older_verdict : (f : Kept) (a : Awaited) (r : Reply) → hearing f a r ≡ Older → r.verdict ≡ OLD_FORMAT
unfolding hearing
older_verdict f a r e = by_old (r.verdict == OLD_FORMAT) refl e
  where
    rest : (b d : Bool) → (if b then Full else if d then Done else Nothing) ≡ Older → r.verdict ≡ OLD_FORMAT
    rest true d x = absurd (cc x)
    rest false true x = absurd (cc x)
    rest false false x = absurd (cc x)

    by_old : (b : Bool) → (r.verdict == OLD_FORMAT) ≡ b →
        (if b then Older else if is_write a.command.action && (r.verdict == 11) then Full
        else if is_done f a r then Done else Nothing) ≡ Older → r.verdict ≡ OLD_FORMAT
    by_old true is x = eqb-true r.verdict OLD_FORMAT is
    by_old false is x = rest (is_write a.command.action && (r.verdict == 11)) (is_done f a r) x

pub done_verdict : (f : Kept) (a : Awaited) (r : Reply) → a.command.action ≡ Write → is_done f a r ≡ true → r.verdict ≡ PERFORMED
unfolding is_done
done_verdict f a r write e =
    eqb-true r.verdict PERFORMED
    (by_test (r.verdict == PERFORMED) (r.verdict == 8) ((r.verdict == 9) && (r.detail == f.tag + 1))
    (subst (λ (x : Action). ((r.verdict == PERFORMED) || ((is_create x && (r.verdict == 8))
    || (is_set_tag x && ((r.verdict == 9) && (r.detail == f.tag + 1))))) ≡ true) write e))
  where
    by_test : (p q t : Bool) → (p || ((false && q) || (false && t))) ≡ true → p ≡ true
    by_test true q t x = refl
    by_test false q t x = absurd (cc x)

-- ---- at a moment

pub none_at : (o : ℕ) (cs : List Component) (k : ℕ) (b : Component) → NoneIs o (objects_of cs) → slice_get cs k ≡ Some b →
    b.object ≡ o → ⊥
none_at o [] k b none there is = cc there
none_at o (c ∷ cs) zero b none there is =
    let same : c ≡ b = cc there in none.0 (ap (λ (x : Component). x.object) same ∙ is)
none_at o (c ∷ cs) (suc k) b none there is = none_at o cs k b none.1 there is

-- what is known of the world
pub record OwnedLaws : Type 0 where
  pub more : OneEventMore
  pub counters : CountersStayLow
  pub ahead : NoCommandIsAhead

module _ (laws : OwnedLaws) (w : World) (h : List Line) (k : IsMoment w h) (scenario : IsOfScenario h) where
  pub run : IsSentByRun w
  run = server_sent_its_run laws.more w h k (are_named h scenario.written)

  pub room : counters_have_room w.server ≡ true
  room = laws.counters w h k scenario.text scenario.few

  pub held : Holds w h
  held = at_moment w h k

  pub fit : IsFit w
  fit = fit_at laws.more laws.counters w h k (are_named h scenario.written) scenario.text scenario.few

  -- a job's work fits the phase
  pub work_fits : (f : File) → In f w.server.files → (j : Job) → f.job ≡ Some j → WorkFits f.kept.phase j.work
  work_fits f i j runs = by_down w.down fit.fits
    where
      by_down : (down : Bool) → FitsBy down w.server.files → WorkFits f.kept.phase j.work
      by_down true idle = absurd (cc (sym runs ∙ idle f i))
      by_down false all =
          subst (λ (o : Option Job). JobFits f.spent f.kept.phase o) runs (all f i)

  -- whose the objects are
  pub owns : (owner : ℕ → ℕ) × ((f : File) → In f w.server.files → IsOwned owner w.server.next_object f)
  owns =
      let all = each_object_is_owned run.acts in (
        all.0,
        λ f i.
            subst (λ (s : Server). In f s.files → IsOwned all.0 s.next_object f) (sym run.server)
            (all.1 run.acts [] (sym (append-nil run.acts)) f) i,
      )

  pub fits_in : (f : File) → In f w.server.files → FitsIn f.kept f.job
  fits_in f i = jobs_ask laws.more w h k (are_named h scenario.written) f i

  module _ (s : machine.State) (f : File) (there : file_at w.server.files f.kept.number ≡ Some f)
      (owned : AreOwned s w f) (components : AreComponents s w f) where
    in_files : In f w.server.files
    in_files = in_at w.server.files f.kept.number f there

    phase_before : AreOfPhase (coming w) f f
    phase_before n at x place stands old comes object =
        owned n x (record {
          component = at;
          there = place;
          sent = comes.0;
          write = comes.1;
          object = object;
          unspent = comes.2;
          stands = (components n at place).lost ∙ not_lost w at x stands comes.2;
        })

    told_before : (i : Input) → IsSent w i → AreTold (coming w) i f
    told_before i sent now d r j a is runs here answer what x x_is comes =
        let m : IsSent w (Hears now (node.Drive d) (Replies r)) = subst (IsSent w) is sent in
        let waits : In a (awaited_by f.job) = subst (λ (o : Option Job). In a (awaited_by o)) (sym runs) here in
        let write : a.command.action ≡ Write = ap (λ (c : Command). c.action) (sym x_is) ∙ comes.1 in
        let tells : TellsOfWrite (at_number w.drives a.drive) a.command r =
        tells_at laws.more laws.counters laws.ahead w h k scenario d m.0 m.1 m.2 m.3 m.4 r m.5 f in_files a waits answer
        write in
        comes.2 (subst (IsSpent (at_number w.drives a.drive)) (sym x_is)
        (spent_check (at_number w.drives a.drive) a.command x.check (elim what [
          | inl old ↦ tells.old (older_verdict f.kept a r old)
          | inr done ↦ tells.done (done_verdict f.kept a r write (done_is_done f.kept a r done))
        ])))

    -- all that a step asks is there
    pub ready_before : (i : Input) → IsSent w i → IsReady (coming w) i f
    ready_before i sent = record {
      owned = phase_before;
      fits = fits_in f in_files;
      phase = work_fits f in_files;
      alone = λ j runs a b x y nonce.
          held.numbers.alone a b (f, in_files, subst (λ (o : Option Job). In a (awaited_by o)) (sym runs) x)
          (f, in_files, subst (λ (o : Option Job). In b (awaited_by o)) (sym runs) y) nonce;
      apart = λ t aim n b place object.
          none_at t.object f.kept.components n b ((owns.1 f in_files).apart t aim) place object;
      told = told_before i sent;
    }
