-- The lines of a step behind its moments.
use Rattle.std.proofs.Common.{◌≡◌, ◌==◌, ℕ, ◌||◌, ◌&&◌, ◌∷◌, [], List, Bool, true, false, true≢false, Option, Some, None, is_some, map, refl, sym, ap, subst, ◌∙◌, inl, inr}
use Rattle.std.specs.Prelude.{nat_lt}
use Rattle.std.specs.List.{fold}
use Rattle.std.proofs.lemmas.Bool.{cases_Bool}
use Rattle.osd_objects.proofs.Entries.{some_there}
use Rattle.data_map.specs.declared.check.RawMap.{RawMap}
use Rattle.data_map.specs.Striping.{parities}
use Rattle.osd_commands.specs.declared.commands.Command.{Command}
use Rattle.osd_commands.specs.Commands.{reading}
use Rattle.scenario_text.specs.declared.event.Event.{Event}
use Rattle.scenario_text.specs.declared.event.Event.TheVariants as event
use Rattle.scenario_text.specs.declared.line.Party.{Party}
use Rattle.scenario_text.specs.declared.line.Party.TheVariants as party
use Rattle.scenario_text.specs.declared.line.Ending.TheVariants as ending
use Rattle.scenario_text.specs.declared.line.Outcome.{Outcome}
use Rattle.scenario_text.specs.declared.line.Outcome.TheVariants as outcome
use Rattle.scenario_text.specs.declared.line.Refusal.{Refusal}
use Rattle.scenario_text.specs.declared.line.Refusal.TheVariants as refusal
use Rattle.scenario_text.specs.declared.line.Note.TheVariants as note
use Rattle.scenario_text.specs.declared.line.Line.{Line}
use Rattle.scenario_text.specs.declared.line.Line.TheVariants as line
use Rattle.server_rules.specs.Files.{file_at}
use Rattle.world_history.specs.ServerNames.{File}
use Rattle.world_history.specs.ReadLog.{Log, log_after}
use Rattle.world_history.specs.Stripes.{Mark}
use Rattle.world_calm.specs.declared.calls.LogEntry.{LogEntry}
use Rattle.world_calm.specs.declared.files.SeenFile.{SeenFile}
use Rattle.world_calm.specs.declared.marks.Marked.{Marked}
use Rattle.world_calm.specs.Read.{command_of}
use Rattle.world_calm.specs.Log.{LogState, write_by}
use Rattle.world_calm.specs.Files.{FilesState, is_short_at}
use Rattle.world_calm.specs.Marking.{unmarked, any_short, is_harmed, any_harmed}
use Rattle.world_calm.specs.Seeing.{CalmState, KeptOf, logs_event, refused, acknowledged, ended, sent_by, sent, logs, shows, shows_all, shows_changed, follows}
use Rattle.component_law.specs.Words.{Each, is_there}
use Rattle.calm_law.specs.Logs.{KeepsLog}
use Rattle.calm_law.specs.Harms.{AreLeft}
use Rattle.calm_law.specs.Marks.{any_mark, any_marked, IsReal, has_parity, has_parity_in, KeepsMarks, HaveMaps}
use Rattle.component_law.proofs.Lists.{each_more}
use Rattle.calm_law.proofs.Logging.{lines_alike}
use Rattle.calm_law.proofs.Marking.{lines_mark, marked_there}
use Rattle.calm_law.proofs.Flagging.{quiet_unmarked}

-- ---- what a line leaves

-- the flag and the stopped clients; and where nothing was harmed, nothing is
record Leaves (c d : CalmState) : Type 0 where
  calm : d.calm ≡ c.calm
  stopped : d.stopped ≡ c.stopped
  quiet : (fs : FilesState) → any_harmed fs c.marks ≡ false → any_harmed fs d.marks ≡ false
  left : (kept : KeptOf) → AreLeft kept c.stopped c.marks → AreLeft kept d.stopped d.marks

left_unmarked : (kept : KeptOf) (stopped : List ℕ) (ms : List Marked) (w : ℕ) → AreLeft kept stopped ms
    → AreLeft kept stopped (unmarked ms w)
left_unmarked kept stopped [] w h = tt
left_unmarked kept stopped (m ∷ ms) w h = elim (cases_Bool (m.write == w)) [
  | inl t ↦ rw t (left_unmarked kept stopped ms w h.1)
  | inr z ↦ rw z (h.0, left_unmarked kept stopped ms w h.1)
]

leaves_none : (c : CalmState) → Leaves c c
leaves_none c = record { calm = refl; stopped = refl; quiet = λ fs q. q; left = λ kept h. h }

event_leaves : (c : CalmState) (e : Event) → Leaves c (logs_event c e)
event_leaves c (event.Do k x) = record { calm = refl; stopped = refl; quiet = λ fs q. q; left = λ kept h. h }
event_leaves c (event.Call k x) = record { calm = refl; stopped = refl; quiet = λ fs q. q; left = λ kept h. h }
event_leaves c e = leaves_none c

refused_leaves : (c : CalmState) (k : ℕ) (r : Refusal) → Leaves c (refused c k r)
refused_leaves c k refusal.Busy = leaves_none c
refused_leaves c k r = record { calm = refl; stopped = refl; quiet = λ fs q. q; left = λ kept h. h }

acknowledged_leaves : (c : CalmState) (o : Option ℕ) → Leaves c (acknowledged c o)
acknowledged_leaves c None = leaves_none c
acknowledged_leaves c (Some n) = record {
  calm = refl;
  stopped = refl;
  quiet = λ fs q. quiet_unmarked fs c.marks n q;
  left = λ kept h. left_unmarked kept c.stopped c.marks n h;
}

ended_leaves : (c : CalmState) (k : ℕ) (o : Outcome) → Leaves c (ended c k o)
ended_leaves c k (outcome.WriteOk n) =
    let a : Leaves c (acknowledged c (write_by c.log k)) = acknowledged_leaves c (write_by c.log k) in
    record { calm = a.calm; stopped = a.stopped; quiet = a.quiet; left = a.left }
ended_leaves c k (outcome.Failed kind ending.Pending) = leaves_none c
ended_leaves c k o = record { calm = refl; stopped = refl; quiet = λ fs q. q; left = λ kept h. h }

read_leaves : (c : CalmState) (k n : ℕ) (o : Option Command) → Leaves c (sent_by c k n o)
read_leaves c k n None = leaves_none c
read_leaves c k n (Some x) = record { calm = refl; stopped = refl; quiet = λ fs q. q; left = λ kept h. h }

sent_leaves : (c : CalmState) (n : ℕ) (from to : Party) (bytes : List ℕ) → Leaves c (sent c n from to bytes)
sent_leaves c n (party.Client k) (party.Drive d) bytes = read_leaves c k n (command_of (reading bytes))
sent_leaves c n from to bytes = leaves_none c

logs_leaves : (c : CalmState) (l : Line) → Leaves c (logs c l)
logs_leaves c (line.Event e) = event_leaves c e
logs_leaves c (line.Refused k r) = refused_leaves c k r
logs_leaves c (line.Ended k o) = ended_leaves c k o
logs_leaves c (line.Message n from to bytes) = sent_leaves c n from to bytes
logs_leaves c l = leaves_none c

-- files that are shown leave all else
record Shows (c d : CalmState) : Type 0 where
  log : d.log ≡ c.log
  marks : d.marks ≡ c.marks
  stopped : d.stopped ≡ c.stopped
  calm : d.calm ≡ c.calm

shows_none : (c : CalmState) → Shows c c
shows_none c = record { log = refl; marks = refl; stopped = refl; calm = refl }

shows_one : (kept : KeptOf) (c : CalmState) (n : ℕ) → Shows c (shows kept c n)
shows_one kept c n = record { log = refl; marks = refl; stopped = refl; calm = refl }

shows_each : (kept : KeptOf) (c : CalmState) (ns : List ℕ) → Shows c (shows_all kept c ns)
shows_each kept c [] = shows_none c
shows_each kept c (n ∷ ns) =
    let r : Shows (shows kept c n) (shows_all kept (shows kept c n) ns) = shows_each kept (shows kept c n) ns in
    record { log = r.log; marks = r.marks; stopped = r.stopped; calm = r.calm }

shows_line : (kept : KeptOf) (c : CalmState) (l : Line) → Shows c (shows_changed kept c l)
shows_line kept c (line.Event (event.File f m tag)) = shows_one kept c f
shows_line kept c (line.Event (event.ZonedFile f m tag)) = shows_one kept c f
shows_line kept c (line.Event (event.Declare d)) =
    shows_each kept c (map (λ (e : ℕ × SeenFile). e.0) c.files.files)
shows_line kept c (line.Note f (note.Rebuilt k d)) = shows_one kept c f
shows_line kept c l = shows_none c

-- ---- all lines

pub record Ends (there : List File) (l : Log) (ks : List Mark) (c d : CalmState) : Type 0 where
  pub log : KeepsLog l d.log
  pub marks : KeepsMarks there d.log.entries ks d.marks
  pub calm : d.calm ≡ c.calm
  pub stopped : d.stopped ≡ c.stopped
  pub quiet : (fs : FilesState) → any_harmed fs c.marks ≡ false → any_harmed fs d.marks ≡ false
  pub left : (kept : KeptOf) → AreLeft kept c.stopped c.marks → AreLeft kept d.stopped d.marks

pub all_end : (there : List File) (kept : KeptOf) (l : Log) (ks : List Mark) (c : CalmState) (lines : List Line)
    → KeepsLog l c.log → KeepsMarks there c.log.entries ks c.marks
    → Ends there (fold log_after l lines) ks c (fold (follows kept) c lines)
all_end there kept l ks c [] h m =
    record { log = h; marks = m; calm = refl; stopped = refl; quiet = λ fs q. q; left = λ kept h. h }
all_end there kept l ks c (x ∷ xs) h m =
    let a : Leaves c (logs c x) = logs_leaves c x in
    let s : Shows (logs c x) (follows kept c x) = shows_line kept (logs c x) x in
    let e : Ends there (fold log_after (log_after l x) xs) ks (follows kept c x) (fold (follows kept) (follows kept c x) xs) =
    all_end there kept (log_after l x) ks (follows kept c x) xs
    (subst (KeepsLog (log_after l x)) (sym s.log) (lines_alike l c x h))
    (subst (λ (g : LogState). KeepsMarks there g.entries ks (follows kept c x).marks) (sym s.log)
    (subst (KeepsMarks there (logs c x).log.entries ks) (sym s.marks) (lines_mark there ks c x m))) in
    record {
      log = e.log;
      marks = e.marks;
      calm = e.calm ∙ s.calm ∙ a.calm;
      stopped = e.stopped ∙ s.stopped ∙ a.stopped;
      quiet = λ fs q. e.quiet fs (ap (any_harmed fs) s.marks ∙ a.quiet fs q);
      left = λ k q. e.left k (subst (λ (z : List ℕ). AreLeft k z (follows kept c x).marks) (sym s.stopped)
          (subst (AreLeft k (logs c x).stopped) (sym s.marks) (a.left k q)));
    }

-- ---- the marks where files come

pub rebased : (before behind : List File) (es : List LogEntry) (ks : List Mark) (ms : List Marked) → HaveMaps before behind
    → KeepsMarks before es ks ms → KeepsMarks behind es ks ms
rebased before behind es ks ms maps h = record {
  same = λ f s n p o. elim (cases_Bool (is_there before f)) [
    | inl t ↦ h.same f s n (parity f (file_at before f) refl t p) o
    | inr z ↦ no_mark f s n z ∙ sym (no_marked f s n z)
  ];
  known = λ f s n e. (stays f (h.known f s n e).0, (h.known f s n e).1);
  real = each_more (λ m. IsReal es m × (is_there before m.file ≡ true)) (λ m. IsReal es m × (is_there behind m.file ≡ true))
      (λ m r. (r.0, stays m.file r.1)) ms h.real;
}
  where
    stays : (f : ℕ) → is_there before f ≡ true → is_there behind f ≡ true
    stays f t =
        let a : (x : File) × (file_at before f ≡ Some x) = some_there (file_at before f) t in
        let g : (y : File) × (file_at behind f ≡ Some y) × (y.kept.map ≡ a.0.kept.map) = maps f a.0 a.1 in
        ap (λ (o : Option File). is_some o) g.1

    parity : (f : ℕ) (o : Option File) → file_at before f ≡ o → is_some o ≡ true → has_parity behind f ≡ true
        → has_parity before f ≡ true
    parity f None e t p = absurd (true≢false (sym t))
    parity f (Some x) e t p =
        let g : (y : File) × (file_at behind f ≡ Some y) × (y.kept.map ≡ x.kept.map) = maps f x e in
        ap has_parity_in e ∙ ap (λ (m : RawMap). nat_lt 0 (parities m)) (sym g.2) ∙ sym (ap has_parity_in g.1) ∙ p

    no_mark : (f s n : ℕ) → is_there before f ≡ false → any_mark f s n ks ≡ false
    no_mark f s n z = elim (cases_Bool (any_mark f s n ks)) [
      | inl e ↦ absurd (true≢false (sym (h.known f s n e).0 ∙ z))
      | inr e ↦ e
    ]

    no_marked : (f s n : ℕ) → is_there before f ≡ false → any_marked f s n ms ≡ false
    no_marked f s n z = elim (cases_Bool (any_marked f s n ms)) [
      | inl e ↦ absurd (true≢false (sym (marked_there before es ms f s n h.real e) ∙ z))
      | inr e ↦ e
    ]

-- ---- the same stripes are short

pub quiet_still : (before : List File) (es : List LogEntry) (t u : FilesState) (ms : List Marked)
    → ((n s : ℕ) → is_there before n ≡ true → is_short_at u n s ≡ is_short_at t n s)
    → Each (λ m. IsReal es m × (is_there before m.file ≡ true)) ms
    → any_harmed t ms ≡ false → any_harmed u ms ≡ false
quiet_still before es t u [] h r q = q
quiet_still before es t u (m ∷ ms) h r q =
    two (is_harmed u m) (any_harmed u ms)
    (ap (λ (b : Bool). m.left && b) (shorts m.stripes) ∙ (parts (is_harmed t m) (any_harmed t ms) q).0)
    (quiet_still before es t u ms h r.1 (parts (is_harmed t m) (any_harmed t ms) q).1)
  where
    parts : (a b : Bool) → (a || b) ≡ false → (a ≡ false) × (b ≡ false)
    parts true b e = absurd (true≢false e)
    parts false b e = (refl, e)

    two : (a b : Bool) → a ≡ false → b ≡ false → (a || b) ≡ false
    two a b e f = rw e f

    shorts : (ss : List ℕ) → any_short u m.file ss ≡ any_short t m.file ss
    shorts [] = refl
    shorts (s ∷ ss) =
        ap (λ (b : Bool). b || any_short u m.file ss) (h m.file s r.0.1)
        ∙ ap (λ (b : Bool). is_short_at t m.file s || b) (shorts ss)
