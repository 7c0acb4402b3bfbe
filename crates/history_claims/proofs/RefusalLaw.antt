-- In each whole history a job that is refused on a file is told.
use Rattle.std.proofs.Common.{◌≡◌, ◌<◌, ℕ, List, ◌∷◌, ◌++◌, Option, Some, None, refl, sym, ap, subst, ◌∙◌, append_assoc, arith, inl}
use Rattle.std.proofs.lemmas.Bool.{eq-eqb}
use Rattle.scenario_text.specs.declared.names.TheConstants.{FILES}
use Rattle.scenario_text.specs.declared.line.Line.{Line}
use Rattle.scenario_text.specs.declared.line.Line.TheVariants as line
use Rattle.server_rules.specs.declared.limits.TheConstants.{GREATEST_TAG}
use Rattle.server_rules.specs.Files.{file_at, at_file}
use Rattle.server_rules.specs.Get.{lowest}
use Rattle.server_rules.specs.History.{Input, step}
use Rattle.server_rules.specs.Laws.{In, ConflictsAreExact, Rests, AreSafe}
use Rattle.server_rules.specs.Messages.{awaited_by, on_message}
use Rattle.server_rules.specs.Orders.{ordered}
use Rattle.server_rules.specs.Requests.{serves}
use Rattle.server_rules.proofs.FileLaws.{number_at}
use Rattle.world_history.specs.ServerNames.{Server, File, Job, Awaited, Note, NoteKind, Busy, Spent, ClientRequest, RequestArgs, OrderKind, ToRecall, ToRevoke, ToDeclare, ToRebuild, ToAudit}
use Rattle.world_history.specs.Told.{told_note}
use Rattle.world_history.specs.Sending.{move}
use Rattle.world_history.specs.Book.{placed_in, server_seen}
use Rattle.world_history.specs.History.{OneEventMore}
use Rattle.world_history.specs.Laws.{ServerGoesOn}
use Rattle.history_law.specs.BookMoments.{lines_in}
use Rattle.history_law.specs.Doing.{ServerMoves}
use Rattle.history_law.specs.Grants.{GrantsAreSafe}
use Rattle.history_law.specs.Read.{AreWritten, BookIsRead, StepIsRead}
use Rattle.history_law.specs.Steps.{IsOrder, Here, Sent}
use Rattle.history_law.proofs.Ending.{next_moment}
use Rattle.history_law.proofs.Files.{in_at, safe_in}
use Rattle.history_law.proofs.Staying.{written_front}
use Rattle.component_law.specs.Distinct.{AreDistinct}
use Rattle.component_law.specs.Seeing.{SeenIsSound}
use Rattle.component_law.specs.Sound.{IsSound}
use Rattle.component_law.proofs.FileFacts.{named_input}
use Rattle.component_law.proofs.NamedLines.{named_line}
use Rattle.component_law.proofs.Rounds.{each_at}
use Rattle.cause_law.specs.Changes.{IsFencing, TakesOrder}
use Rattle.cause_law.specs.Gets.{IsLowest}
use Rattle.cause_law.proofs.Answering.{safe_at}
use Rattle.cause_law.proofs.CauseInputs.{IsShown, at_inputs}
use Rattle.cause_law.proofs.Grants.{sound_at}
use Rattle.cause_law.proofs.Noting.{written_there}
use Rattle.cause_law.proofs.Words.{job_waits}
use Rattle.history_claims.specs.Notes.{IsBusy, NeedsOne, ByOrder, ByOpening, ByGet, ByReturn}
use Rattle.history_claims.specs.Refusals.{RefusalsGo, EachRefusalIsTold}
use Rattle.history_claims.proofs.SpentNotes.{spent_note, gets_note, returns_note, request_noted, opened_noted}
use Rattle.history_claims.proofs.StageLaw.{told_so, line_told}

-- ---- an order's step

module _ (s : Server) (chosen : List ℕ) (n : ℕ) (f : File) (found : file_at s.files n ≡ Some f) where
  abbrev noted : NoteKind → Note
  noted kind = record { file = f.kept.number; kind = kind }

  busy_noted : (kind : OrderKind) → IsFencing kind → (j : Job) → f.job ≡ Some j
      → In (noted (Busy (lowest j.awaited))) (ordered s chosen kind n).step.notes
  unfolding ordered
  busy_noted ToRecall k j runs = absurd k
  busy_noted ToDeclare k j runs = absurd k
  busy_noted ToRevoke k j runs = rw (found, runs) (inl refl)
  busy_noted ToRebuild k j runs = rw (found, runs) (inl refl)
  busy_noted ToAudit k j runs = rw (found, runs) (inl refl)

  spent_noted : (kind : OrderKind) → IsFencing kind → f.job ≡ None → f.kept.tag ≡ GREATEST_TAG
      → In (noted Spent) (ordered s chosen kind n).step.notes
  unfolding ordered
  spent_noted ToRecall k free tag = absurd k
  spent_noted ToDeclare k free tag = absurd k
  spent_noted ToRevoke k free tag = rw (found, free, eq-eqb f.kept.tag GREATEST_TAG tag) (inl refl)
  spent_noted ToRebuild k free tag = rw (found, free, eq-eqb f.kept.tag GREATEST_TAG tag) (inl refl)
  spent_noted ToAudit k free tag = rw (found, free, eq-eqb f.kept.tag GREATEST_TAG tag) (inl refl)

-- an order that is taken has its step
order_noted : (s : Server) (chosen : List ℕ) (i : Input) (kind : OrderKind) (n : ℕ) (x : Note) → IsOrder i kind n
    → TakesOrder s i → In x (ordered s chosen kind n).step.notes → In x (step s chosen i).notes
unfolding on_message
order_noted s chosen i kind n x (Here is) takes j = subst (λ (y : Input). In x (step s chosen y).notes) (sym is) j
order_noted s chosen i kind n x (Sent now o is of_ on) takes j =
    subst (λ (y : Input). In x (step s chosen y).notes) (sym is)
    (rw (subst (TakesOrder s) is takes) (subst (λ (k : OrderKind). In x (ordered s chosen k o.target).step.notes) (sym of_)
    (subst (λ (m : ℕ). In x (ordered s chosen kind m).step.notes) (sym on) j)))

-- ---- a step

same_lowest : (ws : List Awaited) (j k : ℕ) → IsLowest ws j → IsLowest ws k → j ≡ k
same_lowest ws j k x y = omega (arith, x.its, y.its, x.least y.one y.there, y.least x.one x.there)

module _ (s : Server) (chosen : List ℕ) (i : Input) (safe : AreSafe s.files) (n : ℕ) (f : File)
    (found : file_at s.files n ≡ Some f) where
  here : f.kept.number ≡ n
  here = number_at s.files n f found

  is_busy : (k : ℕ) → IsBusy s i f k → In (record { file = f.kept.number; kind = Busy k }) (step s chosen i).notes
  is_busy k b = by f.job refl
    where
      by : (o : Option Job) → f.job ≡ o → In (record { file = f.kept.number; kind = Busy k }) (step s chosen i).notes
      by None free = absurd (subst (λ (o : Option Job). IsLowest (awaited_by o) k) free b.lowest).there
      by (Some j) runs =
          let low : k ≡ lowest j.awaited =
          same_lowest (awaited_by (Some j)) k (lowest j.awaited)
          (subst (λ (o : Option Job). IsLowest (awaited_by o) k) runs b.lowest)
          (job_waits j (subst Rests runs (safe_in s.files safe f (in_at s.files n f found)).rests)) in
          order_noted s chosen i b.kind n (record { file = f.kept.number; kind = Busy k })
          (subst (IsOrder i b.kind) here b.order) b.takes
          (subst (λ (m : ℕ). In (record { file = f.kept.number; kind = Busy m }) (ordered s chosen b.kind n).step.notes)
          (sym low) (busy_noted s chosen n f found b.kind b.begins j runs))

  module _ (exact : ConflictsAreExact) (g : File) (tag : f.kept.tag ≡ GREATEST_TAG) where
    asked_file : (q : ClientRequest) → q.file ≡ f.kept.number → file_at s.files q.file ≡ Some f
    asked_file q on = ap (file_at s.files) (on ∙ here) ∙ found

    is_spent : NeedsOne s i f g → In (spent_note f) (step s chosen i).notes
    is_spent (ByOrder kind begins order takes free) =
        order_noted s chosen i kind n (spent_note f) (subst (IsOrder i kind) here order) takes
        (spent_noted s chosen n f found kind begins free tag)
    is_spent (ByOpening is low left) = opened_noted s chosen i f is low (in_at s.files n f found) left tag
    is_spent (ByGet a iomode offset count args first) =
        request_noted s chosen i a.now a.request a.new f (asked_file a.request a.on) (spent_note f)
        (subst (λ (r : RequestArgs). In (spent_note f)
        (serves (at_file s chosen f) s.next_grant s.format a.now a.request.client r).going.effects.notes) (sym args)
        (gets_note exact s chosen f g (safe_in s.files safe f (in_at s.files n f found)).rests a.now a.request iomode offset
        count first))
    is_spent (ByReturn a report args some has lost) =
        request_noted s chosen i a.now a.request a.new f (asked_file a.request a.on) (spent_note f)
        (subst (λ (r : RequestArgs). In (spent_note f)
        (serves (at_file s chosen f) s.next_grant s.format a.now a.request.client r).going.effects.notes) (sym args)
        (returns_note exact s chosen f g (safe_in s.files safe f (in_at s.files n f found)).rests a.now a.request
        (safe_in s.files safe f (in_at s.files n f found)).apart report some has lost tag))

-- ---- in the lines

module _ (exact : ConflictsAreExact) (safe : GrantsAreSafe) (moves : ServerMoves) (seen : SeenIsSound) (read : BookIsRead)
  where
    shown : IsShown RefusalsGo
    shown = record {
      shows = λ w h k m d written front l after is i moved file f g found behind_it.
          let all : AreWritten ((h ++ front) ++ l ∷ after) =
          subst AreWritten (ap (λ (ls : List Line). h ++ ls) is ∙ sym (append_assoc h front (l ∷ after))) written in
          let behind : AreDistinct (step w.server (placed_in after) i).state.files =
          subst (λ (s : Server). AreDistinct s.files) moved.state
          (sound_at seen read (move w m).world (h ++ lines_in w m) (next_moment w h k m d) written).distinct in
          let sound : IsSound w.server = sound_at seen read w h k (written_front h (lines_in w m) written) in
          let there : file_at w.server.files file ≡ Some f =
          subst (λ (s : Server). file_at s.files file ≡ Some f) moved.server found in
          let own : f.kept.number ≡ file = number_at w.server.files file f there in
          let low : f.kept.number < FILES =
          each_at (λ (y : File). y.kept.number < FILES) w.server.files file f sound.files there in
          let named = named_input (server_seen (h ++ front)) l i moved.comes
          (named_line l (written_there (h ++ front) l after all)) in
          record {
            busy = λ n b.
                subst (λ (x : ℕ). In (line.Note x (told_note (Busy n))) after) own
                (line_told moves w h m front l after is i moved (safe_at safe w h k) sound named behind
                (record { file = f.kept.number; kind = Busy n })
                (is_busy w.server (placed_in after) i (safe_at safe w h k) file f there n
                (subst (λ (s : Server). IsBusy s i f n) moved.server b)) low (told_so (Busy n)));
            spent = λ b tag.
                subst (λ (x : ℕ). In (line.Note x (told_note Spent)) after) own
                (line_told moves w h m front l after is i moved (safe_at safe w h k) sound named behind (spent_note f)
                (is_spent w.server (placed_in after) i (safe_at safe w h k) file f there exact g tag
                (subst (λ (s : Server). NeedsOne s i f g) moved.server b)) low (told_so Spent));
          };
    }

    pub each_refusal_is_told : StepIsRead → OneEventMore → ServerGoesOn → EachRefusalIsTold
    each_refusal_is_told step_read more on w h s written =
        at_inputs read step_read moves more on RefusalsGo shown w h s written
