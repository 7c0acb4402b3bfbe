-- What a job read of its first piece are rows of the machine's cells behind each whole move.
use Rattle.std.proofs.Common.{◌≡◌, ◌⊎◌, ◌==◌, ◌++◌, ℕ, ◌+◌, ◌≤◌, ◌<◌, Bool, true, false, List, [], ◌∷◌, Option, Some, None, refl, sym, ap, subst, ◌∙◌, arith, inl, inr}
use Rattle.std.proofs.lemmas.Bool.{and_parts, eqb-true}
use Rattle.std.proofs.lemmas.Option.{same_Some}
use Rattle.data_map.specs.Striping.{offset_of}
use Rattle.osd_commands.specs.declared.commands.Command.{Command}
use Rattle.osd_commands.specs.declared.replies.Reply.{Reply}
use Rattle.scenario_text.specs.declared.line.Line.{Line}
use Rattle.server_rules.specs.declared.limits.TheConstants.{PERFORMED}
use Rattle.server_rules.specs.Files.{Step, file_at}
use Rattle.server_rules.specs.History.{Input, step}
use Rattle.server_rules.specs.Laws.{In, EachStepIsSafe}
use Rattle.server_rules.specs.Messages.{awaited_by}
use Rattle.server_rules.specs.Replies.{answers}
use Rattle.world_history.specs.ServerNames.{Server, File, Kept, Piece, Awaited, Heard, Job, Work, Creates, Fences, Fetches, Stores, Targets, Gathers, Fills, Lengths, Checks}
use Rattle.world_history.specs.Sending.{Move, move}
use Rattle.world_history.specs.State.{World}
use Rattle.history_law.specs.Moments.{IsMoment, lines_in}
use Rattle.history_law.specs.Doing.{input_in, did_in}
use Rattle.history_law.specs.Numbered.{Awaits}
use Rattle.history_law.specs.Said.{IsHeardByServer}
use Rattle.history_law.proofs.Hearing.{done_is_done}
use Rattle.history_law.proofs.Holding.{Holds}
use Rattle.history_law.proofs.Ending.{at_moment}
use Rattle.component_law.specs.KeptWalk.{WorkFits}
use Rattle.component_law.specs.Sent.{IsSentByRun}
use Rattle.fence_law.specs.Law.{IsCode}
use Rattle.fence_law.specs.Machine.{Lawful, after_all}
use Rattle.fence_law.specs.State.{State, Event}
use Rattle.fence_law.proofs.Safe.{Safe}
use Rattle.plan_law.proofs.Codes.{layouts_are_codes}
use Rattle.file_simulation.specs.Claim.{IsOfScenario}
use Rattle.file_simulation.specs.ClientEvents.{Going, going_in}
use Rattle.file_simulation.specs.Events.{joined, events_of}
use Rattle.file_simulation.specs.Jobs.{IsRow, AreRows, RowsIn, JobIs, IsOfPhase, IsOfJob, HasToldServer}
use Rattle.file_simulation.specs.Phases.{IsKept, PhaseIs}
use Rattle.file_simulation.specs.Relation.{IsRelated}
use Rattle.file_simulation.specs.ServerEvents as table
use Rattle.relation_law.specs.Awaiting as awaiting
use Rattle.relation_law.specs.ComponentsFollow.{EachWriteHasItsPlace}
use Rattle.relation_law.specs.DriveHearing.{IsLaidOut}
use Rattle.relation_law.specs.Frames.{LinesAre, IsOfClient, ServerStays}
use Rattle.relation_law.specs.KeptSteps.{notes_events}
use Rattle.relation_law.specs.Steps.{FollowsWhole, whole_behind, owed}
use Rattle.relation_law.proofs.ComponentsSenders.{SenderLaws}
use Rattle.relation_law.proofs.ComponentsWorld.{laid_out}
use Rattle.relation_law.proofs.Followed as followed
use Rattle.relation_law.proofs.FramesClient.{led_all}
use Rattle.relation_law.proofs.FramesFiles.{file_stays}
use Rattle.relation_law.proofs.FramesParties.{by_client_lines, client_goes, server_rests, server_steps}
use Rattle.relation_law.proofs.FramesStay.{all_joined, lines_more, server_stays_all}
use Rattle.relation_law.proofs.KeptGoing.{safe_of}
use Rattle.relation_law.proofs.KeptMoves.{server_joined}
use Rattle.relation_law.proofs.OwnedBefore.{OwnedLaws, run, work_fits, fits_in}
use Rattle.relation_law.proofs.RequestsHeard.{heard_in}
use Rattle.headline_law.specs.Parts.{RowsFollow}
use Rattle.headline_law.specs.RowsPlaces.{EachReadHasItsPlace}
use Rattle.headline_law.proofs.PlacesWrites.{PlaceLaws, each_write_has_its_place}
use Rattle.headline_law.proofs.RowsPlaced.{each_read_has_its_place}
use Rattle.headline_law.proofs.RowsBegin.{is_reading, IsNewJob, BeginsAnew}
use Rattle.headline_law.proofs.RowsDrive.{drives_idle}
use Rattle.headline_law.proofs.RowsMachine.{RowsStay, server_rows, IsIdleEvent, drive_rows}
use Rattle.headline_law.proofs.RowsNow.{heard_now}
use Rattle.headline_law.proofs.RowsPresent.{reads_are_present, sound_server, safe_server, are_aimed, safe_file}
use Rattle.headline_law.proofs.RowsRead.{row_read}
use Rattle.headline_law.proofs.RowsSteps.{turned_step}
use Rattle.headline_law.proofs.RowsTold.{told_before_or_now, told_below, replied_below}
use Rattle.headline_law.proofs.RowsTurn.{GoesOn, GoesOnAs, IsHeardNow}

-- ---- the first piece

-- of a work that reads
abbrev head_of : Work → Option Piece
head_of (Fetches (p ∷ ps) short) = Some p
head_of (Gathers t (p ∷ ps)) = Some p
head_of (Checks (p ∷ ps) tally) = Some p
head_of work = None

head_reads : (work : Work) (p : Piece) → head_of work ≡ Some p → is_reading work ≡ true
head_reads (Fetches ps short) p e = refl
head_reads (Gathers t ps) p e = refl
head_reads (Checks ps tally) p e = refl
head_reads Creates p e = absurd (cc e)
head_reads Fences p e = absurd (cc e)
head_reads (Stores ps short b) p e = absurd (cc e)
head_reads (Targets t) p e = absurd (cc e)
head_reads (Fills t ps) p e = absurd (cc e)
head_reads Lengths p e = absurd (cc e)

rows_of : (s : State) (w : World) (f : File) (j : Job) (work : Work) (p : Piece) → head_of work ≡ Some p → RowsIn s w f j work →
    AreRows s w f j p
rows_of s w f j (Fetches [] short) p e h = absurd (cc e)
rows_of s w f j (Fetches (q ∷ ps) short) p e h = subst (AreRows s w f j) (same_Some q p e) h
rows_of s w f j (Gathers t []) p e h = absurd (cc e)
rows_of s w f j (Gathers t (q ∷ ps)) p e h = subst (AreRows s w f j) (same_Some q p e) h
rows_of s w f j (Checks [] tally) p e h = absurd (cc e)
rows_of s w f j (Checks (q ∷ ps) tally) p e h = subst (AreRows s w f j) (same_Some q p e) h
rows_of s w f j Creates p e h = absurd (cc e)
rows_of s w f j Fences p e h = absurd (cc e)
rows_of s w f j (Stores ps short b) p e h = absurd (cc e)
rows_of s w f j (Targets t) p e h = absurd (cc e)
rows_of s w f j (Fills t ps) p e h = absurd (cc e)
rows_of s w f j Lengths p e h = absurd (cc e)

rows_in : (s : State) (w : World) (f : File) (j : Job) (work : Work) →
    ((p : Piece) → head_of work ≡ Some p → AreRows s w f j p) → RowsIn s w f j work
rows_in s w f j (Fetches [] short) h = tt
rows_in s w f j (Fetches (q ∷ ps) short) h = h q refl
rows_in s w f j (Gathers t []) h = tt
rows_in s w f j (Gathers t (q ∷ ps)) h = h q refl
rows_in s w f j (Checks [] tally) h = tt
rows_in s w f j (Checks (q ∷ ps) tally) h = h q refl
rows_in s w f j Creates h = tt
rows_in s w f j Fences h = tt
rows_in s w f j (Stores ps short b) h = tt
rows_in s w f j (Targets t) h = tt
rows_in s w f j (Fills t ps) h = tt
rows_in s w f j Lengths h = tt

asked_row : (f : Kept) (work : Work) (p : Piece) (a : Awaited) → head_of work ≡ Some p → awaiting.IsAskedIn f work a →
    awaiting.IsRow f.map f.components p a
asked_row f (Fetches [] short) p a e h = absurd (cc e)
asked_row f (Fetches (q ∷ ps) short) p a e h = subst (λ (x : Piece). awaiting.IsRow f.map f.components x a) (same_Some q p e) h
asked_row f (Gathers t []) p a e h = absurd (cc e)
asked_row f (Gathers t (q ∷ ps)) p a e h = subst (λ (x : Piece). awaiting.IsRow f.map f.components x a) (same_Some q p e) h
asked_row f (Checks [] tally) p a e h = absurd (cc e)
asked_row f (Checks (q ∷ ps) tally) p a e h = subst (λ (x : Piece). awaiting.IsRow f.map f.components x a) (same_Some q p e) h
asked_row f Creates p a e h = absurd (cc e)
asked_row f Fences p a e h = absurd (cc e)
asked_row f (Stores ps short b) p a e h = absurd (cc e)
asked_row f (Targets t) p a e h = absurd (cc e)
asked_row f (Fills t ps) p a e h = absurd (cc e)
asked_row f Lengths p a e h = absurd (cc e)

-- ---- while a job reads

-- no grant was issued since the last fence
unused_by : (t : State) (server : Server) (f : File) (j : Job) → f.job ≡ Some j → IsKept t server f → (work : Work) →
    is_reading work ≡ true → WorkFits f.kept.phase work → t.granted_since ≡ false
unused_by t server f j runs kept (Fetches ps short) reads fits = (subst (PhaseIs t f) fits kept.phase).unused
unused_by t server f j runs kept (Gathers u ps) reads fits =
    (subst (PhaseIs t f) fits kept.phase).unused (λ none. cc (sym runs ∙ none))
unused_by t server f j runs kept (Checks ps tally) reads fits =
    (subst (PhaseIs t f) fits kept.phase).unused (λ none. cc (sym runs ∙ none))
unused_by t server f j runs kept Creates reads fits = absurd (cc reads)
unused_by t server f j runs kept Fences reads fits = absurd (cc reads)
unused_by t server f j runs kept (Stores ps short b) reads fits = absurd (cc reads)
unused_by t server f j runs kept (Targets u) reads fits = absurd (cc reads)
unused_by t server f j runs kept (Fills u ps) reads fits = absurd (cc reads)
unused_by t server f j runs kept Lengths reads fits = absurd (cc reads)

-- no WRITE of the server is of the phase
none_of_phase : (f : File) (j : Job) → f.job ≡ Some j → (work : Work) → j.work ≡ work → is_reading work ≡ true →
    WorkFits f.kept.phase work → (n : ℕ) (x : Command) → IsOfPhase f n x f.kept.phase → ⊥
none_of_phase f j runs (Fetches ps short) is reads fits n x own =
    ap_work (subst (λ (o : Option Job). IsOfJob f.kept.map n x o) runs (subst (IsOfPhase f n x) fits own))
  where
    ap_work : IsOfJob f.kept.map n x (Some j) → ⊥
    ap_work h = rw is at h
none_of_phase f j runs (Gathers u ps) is reads fits n x own = subst (IsOfPhase f n x) fits own
none_of_phase f j runs (Checks ps tally) is reads fits n x own = subst (IsOfPhase f n x) fits own
none_of_phase f j runs Creates is reads fits n x own = absurd (cc reads)
none_of_phase f j runs Fences is reads fits n x own = absurd (cc reads)
none_of_phase f j runs (Stores ps short b) is reads fits n x own = absurd (cc reads)
none_of_phase f j runs (Targets u) is reads fits n x own = absurd (cc reads)
none_of_phase f j runs (Fills u ps) is reads fits n x own = absurd (cc reads)
none_of_phase f j runs Lengths is reads fits n x own = absurd (cc reads)

-- a row stays
row_stays : (s t : State) (k offset count : ℕ) (payload : List ℕ) → RowsStay s t → IsRow s k offset count payload →
    IsRow t k offset count payload
row_stays s t k offset count payload stay is = record {
  stands = ap (λ (q : ℕ → Bool). q k) stay.gone ∙ is.stands;
  cells = λ i low. is.cells i low ∙ sym (ap (λ (q : ℕ → ℕ → ℕ). q k (offset + i)) stay.cell);
}

-- what is known of the world
pub record RowLaws : Type 0 where
  pub world : OwnedLaws
  pub senders : SenderLaws
  pub safe : EachStepIsSafe

module _ (laws : RowLaws) (writes : EachWriteHasItsPlace) (reads : EachReadHasItsPlace) (w : World) (h : List Line) (m : Move)
    (f g : File) (s : State) (k : FollowsWhole w h m f g s) (kept : IsKept (whole_behind k) (move w m).world.server g) where
  abbrev v : World
  v = (move w m).world

  abbrev t : State
  t = whole_behind k

  abbrev r : IsRelated s w f
  r = k.follows.related

  abbrev before : IsMoment w h
  before = k.follows.moment

  scenario : IsOfScenario h
  scenario = followed.scenario w h m f g s k

  in_before : In f w.server.files
  in_before = followed.in_before w h m f g s k

  sent : IsSentByRun w
  sent = run laws.world w h before scenario

  held : Holds w h
  held = at_moment w h before

  laid : IsLaidOut f
  laid = laid_out w h before (laws.senders.fits w h before scenario.text) sent f k.follows.there

  safe : Safe s
  safe =
      safe_of s k.follows.run
      (subst IsCode (sym k.follows.related.layout) (layouts_are_codes f.kept.map f.kept.first_tag laid.checked))

  same_map : g.kept.map ≡ f.kept.map
  same_map = (file_stays w h before m k.follows.is_due f.kept.number f g k.follows.there k.follows.goes).same.map

  -- ---- the job as it was

  module _ (j : Job) (runs : f.job ≡ Some j) (p : Piece) (head : head_of j.work ≡ Some p) where
    rows : AreRows s w f j p
    rows = rows_of s w f j j.work p head (subst (JobIs s w f) runs k.follows.related.jobs.job).rows

    asked : (a : Awaited) → In a j.awaited → awaiting.IsRow f.kept.map f.kept.components p a
    asked a i =
        asked_row f.kept j.work p a head
        ((subst (awaiting.FitsIn f.kept) runs (fits_in laws.world w h before scenario f in_before)).asked a i)

    waits : (a : Awaited) → In a j.awaited → Awaits w.server.files a
    waits a i = (f, in_before, subst (λ (o : Option Job). In a (awaited_by o)) (sym runs) i)

    -- each reply that it was performed, told before or in the move, has a row
    told_row : (a : Awaited) (q : Reply) → In a j.awaited → HasToldServer (move w m).world a.drive q →
        answers a.drive q a ≡ true →
        q.verdict ≡ PERFORMED → IsRow s a.component a.command.offset a.command.length q.payload
    told_row a q i told answer done = elim (told_before_or_now w m a.drive q told) [
      | inl old ↦ rows.replied a q i old answer done
      | inr now ↦
          row_read laws.senders w h before scenario sent held.numbers (writes w h before scenario) (reads w h before scenario) s f
          safe k.follows.related.components a p q (waits a i) (asked a i)
          (reads_are_present laws.safe w sent f in_before j runs (head_reads j.work p head) a i) now answer done
    ]

    -- so has what is heard now
    heard_row : (i : Input) → input_in w m.action ≡ Some i → (x : Heard) → IsHeardNow i f j x →
        IsRow s x.component (offset_of f.kept.map p.stripe p.column) p.count x.payload
    heard_row i is x y =
        subst (λ (z : Heard). IsRow s z.component (offset_of f.kept.map p.stripe p.column) p.count z.payload) (sym y.is)
        (heard_now laws.world w h before scenario f in_before s j runs p rows asked y.awaited y.now y.drive y.reply y.awaits
        (subst (IsHeardByServer w) y.comes (heard_in w m.action i is)) y.answer
        (done_is_done f.kept y.awaited y.reply y.is_done))

  -- ---- a new command isn't answered yet

  not_told : (a : Awaited) (q : Reply) → w.server.next_nonce ≤ a.command.nonce → HasToldServer (move w m).world a.drive q →
      answers a.drive q a ≡ true → q.verdict ≡ PERFORMED → ⊥
  not_told a q above told answer done =
      let nonce = eqb-true a.command.nonce q.nonce (and_parts (a.command.nonce == q.nonce) _ answer).0 in
      let low : q.nonce < w.server.next_nonce = elim (told_before_or_now w m a.drive q told) [
        | inl old ↦ told_below w h before a.drive q old done
        | inr now ↦ replied_below w held.numbers a.drive q now done
      ] in
      omega (arith, above, nonce, low)

  -- ---- behind the move

  rows_behind : (l : Job) (p : Piece) → RowsStay s (whole_behind k) →
      ((x : Heard) → In x l.heard → IsRow s x.component (offset_of f.kept.map p.stripe p.column) p.count x.payload) →
      ((a : Awaited) (q : Reply) → In a l.awaited → HasToldServer (move w m).world a.drive q → answers a.drive q a ≡ true →
      q.verdict ≡ PERFORMED → IsRow s a.component a.command.offset a.command.length q.payload) →
      AreRows (whole_behind k) (move w m).world g l p
  rows_behind l p stay heard replied = record {
    heard = λ x i.
        subst (λ (n : ℕ). IsRow (whole_behind k) x.component n p.count x.payload)
        (ap (λ y. offset_of y p.stripe p.column) (sym same_map))
        (row_stays s (whole_behind k) x.component (offset_of f.kept.map p.stripe p.column) p.count x.payload stay (heard x i));
    replied = λ a q i told answer done.
        row_stays s (whole_behind k) a.component a.command.offset a.command.length q.payload stay
        (replied a q i told answer done);
  }

  abbrev Rows : Type 0
  Rows = (l : Job) → g.job ≡ Some l → RowsIn (whole_behind k) (move w m).world g l l.work

  -- the file is the same
  same_rows : f ≡ g → ((j : Job) → f.job ≡ Some j → is_reading j.work ≡ true → RowsStay s (whole_behind k)) → Rows
  same_rows same stay l runs =
      let was : f.job ≡ Some l = ap (λ (x : File). x.job) same ∙ runs in
      rows_in (whole_behind k) (move w m).world g l l.work (λ p head.
      rows_behind l p (stay l was (head_reads l.work p head)) (rows l was p head).heard (told_row l was p head))

  same_file : (move w m).world.server ≡ w.server → f ≡ g
  same_file server =
      same_Some f g (sym k.follows.there ∙ ap (λ (x : Server). file_at x.files f.kept.number) (sym server) ∙ k.follows.goes)

  fits : (j : Job) → f.job ≡ Some j → WorkFits f.kept.phase j.work
  fits = work_fits laws.world w h before scenario f in_before

  unused : (j : Job) → f.job ≡ Some j → is_reading j.work ≡ true → s.granted_since ≡ false
  unused j runs is = unused_by s w.server f j runs k.follows.related.kept j.work is (fits j runs)

  -- a client goes on
  by_client : (x : Going) → going_in w m.action ≡ Some x → Rows
  by_client x is =
      let stay : ServerStays s (whole_behind k) =
      server_stays_all x.client s (joined (events_of s w (owed k.follows.related) f m))
      (all_joined (IsOfClient x.client) (events_of s w (owed k.follows.related) f m)
      (by_client_lines s w (owed k.follows.related) f m x is)) in
      same_rows (same_file (client_goes w h before m k.follows.is_due x is).server)
      (λ j runs reads_. record { gone = stay.gone; cell = stay.cell })

  -- a drive hears something, or nobody does anything
  by_drive : going_in w m.action ≡ None → input_in w m.action ≡ None → Rows
  by_drive none nothing = same_rows (same_file (server_rests w m nothing)) (λ j runs is.
      drive_rows s (joined (events_of s w (owed k.follows.related) f m)) safe (unused j runs is)
      (all_joined (IsIdleEvent s.repairing) (events_of s w (owed k.follows.related) f m)
      (rw none (led_all (IsIdleEvent s.repairing) m.action _
      (lines_more (IsIdleEvent s.repairing) (table.server_events s w f.kept.number (input_in w m.action) (did_in w m)) _
      (quiet (input_in w m.action) nothing)
      (drives_idle laws.senders w h before scenario sent (writes w h before scenario) s (owed k.follows.related) f
      k.follows.related.jobs.owned (none_of_phase f j runs j.work refl is (fits j runs)) m.action))))) k.lawful)
    where
      quiet : (o : Option Input) → o ≡ None →
          LinesAre (IsIdleEvent s.repairing) (table.server_events s w f.kept.number o (did_in w m))
      quiet None is = tt
      quiet (Some i) is = absurd (cc is)

  -- the server takes a step
  module _ (i : Input) (is : input_in w m.action ≡ Some i) where
    abbrev did : Step
    did = step w.server m.chosen i

    goes_there : file_at (step w.server m.chosen i).state.files f.kept.number ≡ Some g
    goes_there = ap (λ (x : Server). file_at x.files f.kept.number) (sym (server_steps w m i is)) ∙ k.follows.goes

    abbrev first : List Event
    first = table.at_first s w.server (step w.server m.chosen i) f g i

    turned : BeginsAnew w.server.next_nonce g ⊎ (GoesOn w.server.next_nonce i f g
        × (notes_events (after_all s (table.at_first s w.server (step w.server m.chosen i) f g i)) w f i
        (step w.server m.chosen i).notes ≡ []))
    turned =
        turned_step (after_all s (table.at_first s w.server (step w.server m.chosen i) f g i)) w f i m.chosen k.follows.there
        (sound_server laws.safe w sent).distinct (are_aimed w.server (sound_server laws.safe w sent))
        (safe_file w.server.files f (safe_server laws.safe w sent) in_before) g goes_there

    in_behind : In g (move w m).world.server.files
    in_behind = followed.in_behind w h m f g s k

    fits_behind : (l : Job) → g.job ≡ Some l → WorkFits g.kept.phase l.work
    fits_behind =
        work_fits laws.world (move w m).world (h ++ lines_in w m) (followed.behind w h m f g s k) (followed.later w h m f g s k) g
        in_behind

    stays : (j l : Job) → f.job ≡ Some j → g.job ≡ Some l → is_reading j.work ≡ true → is_reading l.work ≡ true →
        notes_events (after_all s (table.at_first s w.server (step w.server m.chosen i) f g i)) w f i
        (step w.server m.chosen i).notes ≡ [] → RowsStay s (whole_behind k)
    stays j l runs goes was now quiet =
        let events_are = server_joined s w (owed k.follows.related) f g m i is k.follows.there goes_there in
        subst (λ (es : List Event). RowsStay s (after_all s es)) (sym events_are)
        (server_rows s w (step w.server m.chosen i) f g i safe (unused j runs was) quiet
        (subst (Lawful s) events_are k.lawful)
        (subst (λ (es : List Event). (after_all s es).granted_since ≡ false) events_are
        (unused_by (whole_behind k) (move w m).world.server g l goes kept l.work now (fits_behind l goes))))

    by_server : Rows
    by_server l runs = rows_in (whole_behind k) (move w m).world g l l.work (λ p head. elim turned [
      | inl anew ↦
          let new : IsNewJob w.server.next_nonce g.kept l = anew l runs (head_reads l.work p head) in
          record {
            heard = λ x j. absurd (subst (In x) new.silent j);
            replied = λ a q j told answer done. absurd (not_told a q (new.above a j) told answer done);
          }
      | inr (goes, quiet) ↦
          let on : GoesOnAs w.server.next_nonce i f l = goes.job l runs (head_reads l.work p head) in
          let was : head_of on.job.work ≡ Some p = ap head_of (sym on.work) ∙ head in
          rows_behind l p
          (stays on.job l on.runs runs (head_reads on.job.work p was) (head_reads l.work p head) quiet)
          (λ x j. elim (on.heard x j) [
            | inl old ↦ (rows on.job on.runs p was).heard x old
            | inr now ↦ heard_row on.job on.runs p was i is x now
          ])
          (λ a q j told answer done. elim (on.awaited a j) [
            | inl old ↦ told_row on.job on.runs p was a q old told answer done
            | inr again ↦ absurd (not_told a q again.above told answer done)
          ])
    ])

  by_party : (x : Option Going) → going_in w m.action ≡ x → (i : Option Input) → input_in w m.action ≡ i → Rows
  by_party (Some x) is i at = by_client x is
  by_party None rests (Some i) is = by_server i is
  by_party None rests None nothing = by_drive rests nothing

  pub rows_on : (l : Job) → g.job ≡ Some l → RowsIn (whole_behind k) (move w m).world g l l.work
  rows_on = by_party (going_in w m.action) refl (input_in w m.action) refl

-- Behind each whole move the rows that a job read are rows, if all that the server sends fits its place.
pub rows_follow : RowLaws → EachWriteHasItsPlace → EachReadHasItsPlace → RowsFollow
rows_follow laws writes reads w h m f g s k b j runs = rows_on laws writes reads w h m f g s k b.kept j runs

-- the places that commands read and write follow from laws of the world
pub rows_follow_by_laws : RowLaws → PlaceLaws → RowsFollow
rows_follow_by_laws laws places = rows_follow laws (each_write_has_its_place places) (each_read_has_its_place places)
