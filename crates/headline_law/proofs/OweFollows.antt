-- What a repair owes goes on behind each whole move, and so does what it has done.
use Rattle.std.proofs.Common.{◌≡◌, ◌⊎◌, ℕ, List, [], ◌∷◌, Bool, false, Option, Some, None, refl, sym, ap, subst, ◌∙◌, inl, inr}
use Rattle.data_map.specs.declared.check.RawMap.{RawMap}
use Rattle.osd_commands.specs.declared.commands.Command.{Command}
use Rattle.scenario_text.specs.declared.line.Line.{Line}
use Rattle.server_rules.specs.History.{Input}
use Rattle.world_history.specs.ServerNames.{File, Job, Piece, Phase, Still, Fencing, Repairing, FencingAgain, Work, Creates, Fences, Fetches, Stores, Targets, Gathers, Fills, Lengths, Checks}
use Rattle.world_history.specs.State.{World}
use Rattle.world_history.specs.Sending.{Move, move}
use Rattle.history_law.specs.Doing.{input_in}
use Rattle.component_law.specs.KeptWalk.{WorkFits}
use Rattle.fence_law.specs.State.{State}
use Rattle.file_simulation.specs.Phases.{PhaseIs, IsRepairing}
use Rattle.file_simulation.specs.Jobs.{IsFresh, IsAwaitedFor, AreDue, IsOfPhase, IsOfJob, IsOfWork, AreWords, AreSourced, IsInPiece, DueIn, DueOf, DoneIn, IsJob, JobIs, AreWritten}
use Rattle.relation_law.specs.Steps.{FollowsWhole, whole_behind, owed}
use Rattle.fence_law.specs.Law.{IsCode}
use Rattle.plan_law.proofs.Codes.{layouts_are_codes}
use Rattle.relation_law.specs.DriveHearing.{IsLaidOut}
use Rattle.relation_law.proofs.FramesFiles.{file_stays}
use Rattle.relation_law.proofs.Followed as followed
use Rattle.std.proofs.lemmas.Option.{same_Some}
use Rattle.relation_law.proofs.OwnedBefore.{work_fits}
use Rattle.headline_law.proofs.OweWritten.{WrittenIn, WrittenOf, OwesWritten, written_of}
use Rattle.headline_law.specs.Parts.{PartsBehind, OweFollows, DoneFollows}
use Rattle.headline_law.proofs.OweLaws.{OweLaws}
use Rattle.headline_law.proofs.OweWords.{KeepsWords, words_last, sources_last, written_lasts}
use Rattle.headline_law.proofs.OweOthers.{same_file, words_stay, due_stays, done_stays}
use Rattle.headline_law.proofs.OweServer.{stores_owe, step_done}
use Rattle.headline_law.proofs.OweWalk.{OwesStores}
use Rattle.headline_law.proofs.OweLasting.{WasFresh, was_fresh}

module _ (laws : OweLaws) (w : World) (h : List Line) (m : Move) (f g : File) (s : State) (k : FollowsWhole w h m f g s)
    (b : PartsBehind k) where
  abbrev v : World
  v = (move w m).world

  abbrev t : State
  t = whole_behind k

  fits_behind : (j : Job) → g.job ≡ Some j → WorkFits g.kept.phase j.work
  fits_behind j runs =
      work_fits laws.join.world v _ (followed.behind w h m f g s k) (followed.later w h m f g s k) g
      (followed.in_behind w h m f g s k) j runs

  -- no repair writes
  abbrev IsIdle : Option Job → Type 0
  IsIdle o = (j : Job) → o ≡ Some j → (p : Piece) (ps : List Piece) (short : List ℕ) (q : Bool) →
      j.work ≡ Stores (p ∷ ps) short q → ⊥

  due_idle : (e : ℕ → ℕ) (o : Option Job) → IsIdle o → DueOf t v g e o
  due_idle e None idle = tt
  due_idle e (Some j) idle = by_work j.work refl
    where
      by_work : (work : Work) → j.work ≡ work → DueIn t v g e j.awaited work
      by_work Creates is = tt
      by_work Fences is = tt
      by_work (Fetches todo short) is = tt
      by_work (Stores [] short q) is = tt
      by_work (Stores (p ∷ ps) short q) is = absurd (idle j refl p ps short q is)
      by_work (Targets y) is = tt
      by_work (Gathers y todo) is = tt
      by_work (Fills y todo) is = tt
      by_work Lengths is = tt
      by_work (Checks todo y) is = tt

  written_idle : (e : ℕ → ℕ) (o : Option Job) → IsIdle o → WrittenOf t e o
  written_idle e None idle = tt
  written_idle e (Some j) idle = by_work j.work refl
    where
      by_work : (work : Work) → j.work ≡ work → WrittenIn t e j.awaited work
      by_work Creates is = tt
      by_work Fences is = tt
      by_work (Fetches todo short) is = tt
      by_work (Stores [] short q) is = tt
      by_work (Stores (p ∷ ps) short q) is = absurd (idle j refl p ps short q is)
      by_work (Targets y) is = tt
      by_work (Gathers y todo) is = tt
      by_work (Fills y todo) is = tt
      by_work Lengths is = tt
      by_work (Checks todo y) is = tt

  -- ---- nothing may come any more

  none_comes : ((n : ℕ) (x : Command) → IsFresh t v g n x → ⊥) → IsIdle g.job → OwesWritten t v g
  none_comes none idle = record {
    owe = record {
      bytes = owed k.follows.related;
      piece = k.follows.related.jobs.owe.piece;
      inside = λ n x fresh. absurd (none n x fresh);
      words = λ n x fresh. absurd (none n x fresh);
      sources = λ n x fresh. absurd (none n x fresh);
      due = due_idle (owed k.follows.related) g.job idle;
    };
    written = written_idle (owed k.follows.related) g.job idle;
  }

  -- ---- what came before still comes

  laid : IsLaidOut f
  laid = (laws.moves w h m f g s k).laid

  code : IsCode s.layout
  code =
      subst IsCode (sym k.follows.related.layout) (layouts_are_codes f.kept.map f.kept.first_tag laid.checked)

  same_map : g.kept.map ≡ f.kept.map
  same_map =
      (file_stays w h k.follows.moment m k.follows.is_due f.kept.number f g k.follows.there k.follows.goes).same.map

  lasts : ((n : ℕ) (x : Command) → IsFresh t v g n x → WasFresh k n x) → IsIdle g.job → OwesWritten t v g
  lasts was idle =
      let owe = k.follows.related.jobs.owe in
      record {
        owe = record {
          bytes = owed k.follows.related;
          piece = owe.piece;
          inside = λ n x fresh.
              subst (λ (y : RawMap). IsInPiece y owe.piece n x) (sym same_map) (owe.inside n x (was n x fresh).fresh);
          words = λ n x fresh.
              let r = was n x fresh in
              words_last owe.bytes s t n x.offset x.payload r.words.layout (owe.words n x r.fresh);
          sources = λ n x fresh.
              let r = was n x fresh in
              sources_last owe.bytes s t code r.words n x.offset x.payload (owe.sources n x r.fresh);
          due = due_idle (owed k.follows.related) g.job idle;
        };
        written = written_idle (owed k.follows.related) g.job idle;
      }

  -- ---- a repair writes

  own_of : (j : Job) (p : Piece) (ps : List Piece) (short : List ℕ) (q : Bool) → g.kept.phase ≡ Repairing →
      g.job ≡ Some j → j.work ≡ Stores (p ∷ ps) short q → (n : ℕ) (x : Command) → IsFresh t v g n x →
      IsAwaitedFor j.awaited n x × IsInPiece g.kept.map p n x
  own_of j p ps short q repairs runs work n x fresh =
      subst (λ (y : Work). IsOfWork g.kept.map j.awaited n x y) work
      (subst (λ (o : Option Job). IsOfJob g.kept.map n x o) runs
      (subst (IsOfPhase g n x) repairs (b.owned n x fresh)))

  carried : (j : Job) (p : Piece) → OwesStores t v g j p → (n : ℕ) (x : Command) → (e : ℕ → ℕ) → AreWritten t e j.awaited →
      IsAwaitedFor j.awaited n x → AreWords t e n x.offset x.payload × AreSourced t e n x.offset x.payload
  carried j p o n x e written a =
      let r = written a.0 a.1 in
      let offset : a.0.command.offset ≡ x.offset = ap (λ (y : Command). y.offset) (sym a.3) in
      let payload : a.0.command.payload ≡ x.payload = ap (λ (y : Command). y.payload) (sym a.3) in
      subst (λ (c : ℕ). AreWords t e c x.offset x.payload × AreSourced t e c x.offset x.payload) a.2
      (subst (λ (c : ℕ). AreWords t e a.0.component c x.payload × AreSourced t e a.0.component c x.payload) offset
      (subst (λ (c : List ℕ). AreWords t e a.0.component a.0.command.offset c ×
      AreSourced t e a.0.component a.0.command.offset c) payload r))

  stores : (j : Job) (p : Piece) (ps : List Piece) (short : List ℕ) (q : Bool) → g.kept.phase ≡ Repairing →
      g.job ≡ Some j → j.work ≡ Stores (p ∷ ps) short q → OwesStores t v g j p → OwesWritten t v g
  stores j p ps short q repairs runs work o = record {
    owe = record {
      bytes = o.bytes;
      piece = p;
      inside = λ n x fresh. (own_of j p ps short q repairs runs work n x fresh).1;
      words = λ n x fresh.
          (carried j p o n x o.bytes o.written (own_of j p ps short q repairs runs work n x fresh).0).0;
      sources = λ n x fresh.
          (carried j p o n x o.bytes o.written (own_of j p ps short q repairs runs work n x fresh).0).1;
      due = subst (λ (y : Option Job). DueOf t v g o.bytes y) (sym runs)
          (subst (λ (y : Work). DueIn t v g o.bytes j.awaited y) (sym work) (o.due, o.written));
    };
    written = subst (λ (y : Option Job). WrittenOf t o.bytes y) (sym runs)
        (subst (λ (y : Work). WrittenIn t o.bytes j.awaited y) (sym work) o.written);
  }

  -- a move that isn't of the server
  by_others : WrittenOf s (owed k.follows.related) f.job → (j : Job) (p : Piece) (ps : List Piece) (short : List ℕ)
      (q : Bool) → g.kept.phase ≡ Repairing → g.job ≡ Some j → j.work ≡ Stores (p ∷ ps) short q →
      input_in w m.action ≡ None → OwesStores t v g j p
  by_others written j p ps short q repairs runs work none =
      let same : f ≡ g = same_file laws w h m f g s k b none in
      let repairs_ : f.kept.phase ≡ Repairing = ap (λ (y : File). y.kept.phase) same ∙ repairs in
      let runs_ : f.job ≡ Some j = ap (λ (y : File). y.job) same ∙ runs in
      let phase : IsRepairing false s f = subst (PhaseIs s f) repairs_ k.follows.related.kept.phase in
      let words : KeepsWords (owed k.follows.related) s t = words_stay laws w h m f g s k b none phase.unused in
      let due : AreDue s w f (owed k.follows.related) j.awaited p =
      (subst (λ (y : Work). DueIn s w f (owed k.follows.related) j.awaited y) work
      (subst (λ (y : Option Job). DueOf s w f (owed k.follows.related) y) runs_ k.follows.related.jobs.owe.due)).0 in
      record {
        bytes = owed k.follows.related;
        due = subst (λ (y : File). AreDue t v y (owed k.follows.related) j.awaited p) same
            (due_stays laws w h m f g s k b none j p ps short q repairs_ runs_ work due);
        written = written_lasts (owed k.follows.related) s t code words j.awaited
            (subst (λ (y : Work). WrittenIn s (owed k.follows.related) j.awaited y) work
            (subst (λ (y : Option Job). WrittenOf s (owed k.follows.related) y) runs_ written));
      }

  parties : WrittenOf s (owed k.follows.related) f.job → (j : Job) (p : Piece) (ps : List Piece) (short : List ℕ) (q : Bool) →
      g.kept.phase ≡ Repairing → g.job ≡ Some j → j.work ≡ Stores (p ∷ ps) short q → (i : Option Input) →
      input_in w m.action ≡ i → OwesStores t v g j p
  parties written j p ps short q repairs runs work (Some i) is =
      stores_owe laws w h m f g s k b i is repairs j runs written p ps short q work
  parties written j p ps short q repairs runs work None is = by_others written j p ps short q repairs runs work is

  -- ---- by the phase

  of_none : (p : Phase) → g.kept.phase ≡ p → (p ≡ Still) ⊎ (p ≡ Fencing) → (n : ℕ) (x : Command) → IsFresh t v g n x → ⊥
  of_none Still is quiet n x fresh = subst (IsOfPhase g n x) is (b.owned n x fresh)
  of_none Fencing is quiet n x fresh = subst (IsOfPhase g n x) is (b.owned n x fresh)
  of_none Repairing is quiet n x fresh = elim quiet [ inl e ↦ cc e | inr e ↦ cc e ]
  of_none FencingAgain is quiet n x fresh = elim quiet [ inl e ↦ cc e | inr e ↦ cc e ]

  -- a repair writes in phase Repairing alone
  idle_in : (g.kept.phase ≡ Repairing → ⊥) → IsIdle g.job
  idle_in other j runs p ps short q work = other (subst (WorkFits g.kept.phase) work (fits_behind j runs))

  none_of : (j : Job) → g.kept.phase ≡ Repairing → g.job ≡ Some j → (work : Work) → j.work ≡ work →
      ((p : Piece) (ps : List Piece) (short : List ℕ) (q : Bool) → work ≡ Stores (p ∷ ps) short q → ⊥) →
      (n : ℕ) (x : Command) → IsFresh t v g n x → ⊥
  none_of j repairs runs work is other n x fresh =
      by_work work other
      (subst (λ (y : Work). IsOfWork g.kept.map j.awaited n x y) is
      (subst (λ (o : Option Job). IsOfJob g.kept.map n x o) runs
      (subst (IsOfPhase g n x) repairs (b.owned n x fresh))))
    where
      by_work : (y : Work) → ((p : Piece) (ps : List Piece) (short : List ℕ) (q : Bool) → y ≡ Stores (p ∷ ps) short q → ⊥) →
          IsOfWork g.kept.map j.awaited n x y → ⊥
      by_work Creates o own = own
      by_work Fences o own = own
      by_work (Fetches todo short) o own = own
      by_work (Stores [] short q) o own = own
      by_work (Stores (p ∷ ps) short q) o own = o p ps short q refl
      by_work (Targets y) o own = own
      by_work (Gathers y todo) o own = own
      by_work (Fills y todo) o own = own
      by_work Lengths o own = own
      by_work (Checks todo y) o own = own

  no_store : (j : Job) → g.job ≡ Some j → (work : Work) → j.work ≡ work → g.kept.phase ≡ Repairing →
      ((p : Piece) (ps : List Piece) (short : List ℕ) (q : Bool) → work ≡ Stores (p ∷ ps) short q → ⊥) → OwesWritten t v g
  no_store j runs work is repairs other =
      none_comes (none_of j repairs runs work is other)
      (λ i same p ps sh r work_is. other p ps sh r (sym is ∙ ap (λ (y : Job). y.work) (same_Some j i (sym runs ∙ same))
      ∙ work_is))

  by_work : WrittenOf s (owed k.follows.related) f.job → g.kept.phase ≡ Repairing → (j : Job) → g.job ≡ Some j →
      (work : Work) → j.work ≡ work → OwesWritten t v g
  by_work written repairs j runs (Stores (p ∷ ps) short q) is =
      stores j p ps short q repairs runs is
      (parties written j p ps short q repairs runs is (input_in w m.action) refl)
  by_work written repairs j runs work is = no_store j runs work is repairs (λ p ps sh r e. cc e)

  by_job : WrittenOf s (owed k.follows.related) f.job → g.kept.phase ≡ Repairing → (o : Option Job) → g.job ≡ o →
      OwesWritten t v g
  by_job written repairs None none =
      lasts (λ n x fresh. was_fresh laws w h m f g s k b (inr (repairs, none)) n x fresh)
      (λ j runs p ps short q work. cc (sym none ∙ runs))
  by_job written repairs (Some j) runs = by_work written repairs j runs j.work refl

  by_phase : WrittenOf s (owed k.follows.related) f.job → (p : Phase) → g.kept.phase ≡ p → OwesWritten t v g
  by_phase written Still is = none_comes (of_none Still is (inl refl)) (idle_in (λ e. cc (sym is ∙ e)))
  by_phase written Fencing is = none_comes (of_none Fencing is (inr refl)) (idle_in (λ e. cc (sym is ∙ e)))
  by_phase written FencingAgain is =
      lasts (λ n x fresh. was_fresh laws w h m f g s k b (inl is) n x fresh) (idle_in (λ e. cc (sym is ∙ e)))
  by_phase written Repairing is = by_job written is g.job refl

  pub owes_written : WrittenOf s (owed k.follows.related) f.job → OwesWritten t v g
  owes_written written = by_phase written g.kept.phase refl

  pub done_behind : (j : Job) → g.job ≡ Some j → g.kept.phase ≡ Repairing → DoneIn t g j.work
  done_behind j runs repairs = by_party (input_in w m.action) refl
    where
      by_others_ : input_in w m.action ≡ None → f.kept.phase ≡ Repairing → f.job ≡ Some j → (work : Work) → j.work ≡ work →
          DoneIn s f work → DoneIn t f work
      by_others_ none now runs_ (Fetches todo short) is done =
          done_stays laws w h m f g s k b none j todo now runs_ (λ p ps sh q e. absurd (cc (sym is ∙ e))) done
      by_others_ none now runs_ (Stores todo short broken) is done =
          done_stays laws w h m f g s k b none j todo now runs_
          (λ p ps sh q e. (ps, todo_of todo short broken p ps sh q (sym is ∙ e))) done
        where
          todo_of : (todo : List Piece) (short : List ℕ) (broken : Bool) (p : Piece) (ps : List Piece) (sh : List ℕ) (q : Bool) →
              Stores todo short broken ≡ Stores (p ∷ ps) sh q → todo ≡ p ∷ ps
          todo_of todo short broken p ps sh q e = cc e
      by_others_ none now runs_ Creates is done = tt
      by_others_ none now runs_ Fences is done = tt
      by_others_ none now runs_ (Targets y) is done = tt
      by_others_ none now runs_ (Gathers y todo) is done = tt
      by_others_ none now runs_ (Fills y todo) is done = tt
      by_others_ none now runs_ Lengths is done = tt
      by_others_ none now runs_ (Checks todo y) is done = tt

      by_party : (i : Option Input) → input_in w m.action ≡ i → DoneIn t g j.work
      by_party (Some i) is = step_done laws w h m f g s k b i is repairs j runs
      by_party None is =
          let same : f ≡ g = same_file laws w h m f g s k b is in
          let now : f.kept.phase ≡ Repairing = ap (λ (y : File). y.kept.phase) same ∙ repairs in
          let runs_ : f.job ≡ Some j = ap (λ (y : File). y.job) same ∙ runs in
          let job : IsJob s w f j = subst (JobIs s w f) runs_ k.follows.related.jobs.job in
          subst (λ (y : File). DoneIn t y j.work) same (by_others_ is now runs_ j.work refl (job.done now))

pub owe_follows : OweLaws → OweFollows
owe_follows laws w h m f g s k b =
    (owes_written laws w h m f g s k b
    (written_of s w f (owed k.follows.related) f.job k.follows.related.jobs.owe.due)).owe

pub done_follows : OweLaws → DoneFollows
done_follows laws w h m f g s k b j runs repairs = done_behind laws w h m f g s k b j runs repairs
