-- Each audit of a calm and unguessed history finds no bad stripe.
use Rattle.std.proofs.Common.{◌≡◌, ◌++◌, ℕ, List, [], ◌∷◌, take, Option, Some, refl, sym, ap, subst, ◌∙◌, inl, inr}
use Rattle.std.proofs.lemmas.Option.{same_Some}
use Rattle.scenario_text.specs.declared.line.Line.{Line}
use Rattle.server_rules.specs.History.{Input, step}
use Rattle.server_rules.specs.Laws.{In, IsSafe}
use Rattle.server_rules.specs.Messages.{awaited_by}
use Rattle.server_rules.specs.Replies.{heard_with}
use Rattle.server_rules.proofs.Members.{in_either}
use Rattle.world_history.specs.ServerNames.{Server, File, Job, Work, Creates, Fences, Fetches, Stores, Targets, Gathers, Fills, Lengths, Checks}
use Rattle.world_history.specs.Laws.{MomentGoesOn, AllLinesGoOn}
use Rattle.world_history.specs.Sending.{Move, move}
use Rattle.world_history.specs.State.{World}
use Rattle.history_law.specs.Moments.{IsMoment, lines_in}
use Rattle.history_law.specs.Said.{IsHeardByServer}
use Rattle.history_law.proofs.Goes.{for_server}
use Rattle.component_law.specs.LeftPending.{PendingIsRead}
use Rattle.component_law.specs.Distinct.{AreDistinct}
use Rattle.component_law.specs.Sent.{IsSentByRun}
use Rattle.exchange_law.proofs.CountMoments.{reached}
use Rattle.exchange_law.proofs.SlotMoments.{always}
use Rattle.file_simulation.specs.Claim.{IsOfScenario, IsCalmHistory, AuditsFindNone}
use Rattle.file_simulation.specs.Relation.{IsRelated}
use Rattle.file_simulation.specs.Simulation.{IsNext, EachMoveGoesOn, EachFileIsCreated}
use Rattle.file_simulation.proofs.Cutting.{IsCut, each_is_cut}
use Rattle.file_simulation.proofs.Fronts.{before_move, before_all}
use Rattle.file_simulation.proofs.Induction.{Stands, AllStand, all_stand}
use Rattle.relation_law.proofs.FramesFiles.{files_distinct}
use Rattle.relation_law.proofs.KeptServer.{at_place}
use Rattle.relation_law.proofs.OwnedBefore.{run, held}
use Rattle.headline_law.proofs.AuditJobs.{FindsNone, FindsNoneOf, Clears}
use Rattle.headline_law.proofs.AuditLines.{Audit, audit_line, audit_noted}
use Rattle.headline_law.proofs.AuditReads.{AuditLaws, piece_clears}
use Rattle.headline_law.proofs.AuditSteps.{AllFindNone, FoundBy, EachPieceClears, found_step}
use Rattle.headline_law.proofs.NotesTold.{Tells, Others, Serves, none_in, move_tells}
use Rattle.headline_law.proofs.OweAsked.{AreAlone}
use Rattle.headline_law.proofs.RowsPresent.{safe_server, safe_file}
use Rattle.headline_law.proofs.SmallLemmas.{in_take}

-- each audit of which these lines tell found no bad stripe
abbrev NoneTold : List Line → Type 0
NoneTold ls = (a : Audit) → In (audit_line a) ls → a.bad ≡ 0

-- ---- a move

module _ (laws : AuditLaws) (w : World) (h : List Line) (k : IsMoment w h) (scenario : IsOfScenario h) (stand : AllStand w h)
    (all : AllFindNone w.server.files) where
  sent : IsSentByRun w
  sent = run laws.world w h k scenario

  apart : AreDistinct w.server.files
  apart = files_distinct w (reached w h k)

  safe : (f : File) → In f w.server.files → IsSafe f
  safe f i = safe_file w.server.files f (safe_server laws.safe w (run laws.world w h k scenario)) i

  alone : (f : File) (j : Job) → In f w.server.files → f.job ≡ Some j → AreAlone j.awaited
  alone f j i runs a b x y nonce =
      (held laws.world w h k scenario).numbers.alone a b
      (f, i, subst (λ (o : Option Job). In a (awaited_by o)) (sym runs) x)
      (f, i, subst (λ (o : Option Job). In b (awaited_by o)) (sym runs) y) nonce

  -- a machine stands for the file
  related_to : (f : File) → (st : Stands w h f) → IsRelated st.0 w f
  related_to f st =
      subst (IsRelated st.0 w) (same_Some st.2.related.kept_file f (sym st.2.related.there ∙ st.2.there)) st.2.related.related

  clears : (i : Input) → IsHeardByServer w i → EachPieceClears w.server i
  clears i heard x is awaits answer done last =
      by_work x.job.work refl (subst (FindsNoneOf x.file.kept) is.runs (all x.file is.there))
    where
      by_work : (work : Work) → x.job.work ≡ work → FindsNone x.file.kept x.job work →
          Clears x.file.kept work (heard_with x.job x.awaited x.reply)
      by_work Creates e found = tt
      by_work Fences e found = tt
      by_work (Fetches todo short) e found = tt
      by_work (Stores todo short b) e found = tt
      by_work (Targets t) e found = tt
      by_work (Gathers t todo) e found = tt
      by_work (Fills t todo) e found = tt
      by_work Lengths e found = tt
      by_work (Checks [] t) e found = found.bad
      by_work (Checks (p ∷ ps) t) e found =
          let place = at_place w.server.files x.file apart is.there in
          let st : Stands w h x.file = stand x.file.kept.number x.file place in (
            piece_clears laws w h k scenario x.file is.there place (safe x.file is.there) st.0 st.2.run (related_to x.file st) x
                is.runs p ps t e found (alone x.file x.job is.there is.runs) (subst (IsHeardByServer w) is.is heard) awaits answer
                done last,
            λ q y. found.cut q (inr y),
          )

  -- So no audit finds a bad stripe in a move.
  move_finds : (m : Move) → AllFindNone (move w m).world.server.files × NoneTold (lines_in w m)
  move_finds m = by_tells (move_tells w m)
    where
      by_tells : Tells w (move w m).world m.chosen m.action (lines_in w m) →
          AllFindNone (move w m).world.server.files × NoneTold (lines_in w m)
      by_tells (Others files none) = (
        subst AllFindNone (sym files) all,
        λ a i. absurd (none_in (lines_in w m) none (audit_line a) refl i),
      )
      by_tells (Serves i is server told) =
          let found : FoundBy (step w.server m.chosen i) =
          found_step w.server m.chosen i all safe alone (clears i (for_server w m.action i is)) in (
            subst (λ (s : Server). AllFindNone s.files) (sym server) found.0,
            λ a j. found.1 a.file a.high a.short a.bad a.bytes
                (audit_noted (step w.server m.chosen i).notes (lines_in w m) told a j),
          )

-- ---- each moment, and each history

module _ (laws : AuditLaws) (moments : MomentGoesOn) (lines : AllLinesGoOn) (pending : PendingIsRead) (goes : EachMoveGoesOn)
    (creates : EachFileIsCreated) where
  -- what audits found so far at a moment, in files and lines
  abbrev Found : World → List Line → Type 0
  Found w h = IsCalmHistory h → AllFindNone w.server.files × NoneTold h

  stand_at : (w : World) (h : List Line) (m : Move) → IsNext w h m (lines_in w m) → IsCalmHistory h → AllStand w h
  stand_at w h m next calm = all_stand laws.world.more moments lines pending goes creates w h m (lines_in w m) next calm

  told_more : (h more : List Line) → NoneTold h → NoneTold more → NoneTold (h ++ more)
  told_more h more old new a i = elim (in_either (audit_line a) h more i) [ inl x ↦ old a x | inr y ↦ new a y ]

  found_on : (w : World) (h : List Line) (m : Move) → IsNext w h m (lines_in w m) → Found w h →
      Found (move w m).world (h ++ lines_in w m)
  found_on w h m next found calm =
      let before : IsCalmHistory h = before_all moments lines pending w h m calm in
      let so_far = found before in
      let now = move_finds laws w h next.moment before.scenario (stand_at w h m next before) so_far.0 m in
      (now.0, told_more h (lines_in w m) so_far.1 now.1)

  found_at : (w : World) (h : List Line) → IsMoment w h → Found w h
  found_at =
      always Found (record {
        starts = λ calm. (λ f i. absurd i, λ a i. absurd i);
        moves = λ u g k n d found. found_on u g n (record { moment = k; is_due = d; lines = refl }) found;
      }) laws.world.more

  none_cut : (w : World) (h : List Line) (m : Move) (count : ℕ) → IsNext w h m (lines_in w m) →
      IsCalmHistory (h ++ take count (lines_in w m)) → NoneTold (h ++ take count (lines_in w m))
  none_cut w h m count next calm =
      let before : IsCalmHistory h = before_move moments lines pending w h m count calm in
      let so_far = found_at w h next.moment before in
      let now = move_finds laws w h next.moment before.scenario (stand_at w h m next before) so_far.0 m in
      told_more h (take count (lines_in w m)) so_far.1 (λ a i. now.1 a (in_take (audit_line a) count (lines_in w m) i))

  pub audits_find_none : AuditsFindNone
  audits_find_none h lawful calm file stripes short bad bytes i =
      let c : IsCut h = each_is_cut h lawful in
      let next : IsNext c.world c.before c.move (lines_in c.world c.move) =
      record { moment = c.next.moment; is_due = c.next.is_due; lines = refl } in
      let whole : h ≡ c.before ++ take c.count (lines_in c.world c.move) =
      c.lines ∙ ap (λ (ls : List Line). c.before ++ take c.count ls) c.next.lines in
      none_cut c.world c.before c.move c.count next (subst IsCalmHistory whole calm)
      (record { file = file; high = stripes; short = short; bad = bad; bytes = bytes }) (subst (In _) whole i)
