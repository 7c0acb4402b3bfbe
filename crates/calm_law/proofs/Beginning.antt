-- The first moment of a step.
use Rattle.std.proofs.Common.{◌≡◌, ◌<◌, ℕ, ◌==◌, ◌||◌, ◌&&◌, ◌++◌, ◌∷◌, [], List, Bool, true, false, Option, Some, None, Result, Ok, Err, length, map, slice_get, refl, sym, ap, subst, ◌∙◌, inl, inr}
use Rattle.std.proofs.lemmas.Bool.{cases_Bool}
use Rattle.std.proofs.lemmas.List.{append-nil}
use Rattle.osd_commands.specs.declared.commands.Command.{Command}
use Rattle.osd_commands.specs.declared.commands.CommandErr.{CommandErr}
use Rattle.osd_commands.specs.Commands.{reading}
use Rattle.osd_drive.specs.Table.{is_write}
use Rattle.scenario_text.specs.declared.event.Event.{Event}
use Rattle.scenario_text.specs.declared.event.Event.TheVariants as event
use Rattle.scenario_text.specs.declared.line.Line.{Line}
use Rattle.scenario_text.specs.declared.line.Line.TheVariants as line
use Rattle.server_rules.specs.Files.{file_at}
use Rattle.server_rules.specs.Numbers.{among}
use Rattle.server_rules.proofs.FileLaws.{number_at}
use Rattle.world_history.specs.declared.messages.Sent.{Sent}
use Rattle.world_history.specs.ServerNames.{File}
use Rattle.world_history.specs.State.{at_number}
use Rattle.world_history.specs.ReadLog.{Log}
use Rattle.world_history.specs.Stripes.{Mark, Moment}
use Rattle.world_history.specs.Calm.{with_components, begun_file, failed_after, stopped_after, taken_by as taken_there, marks_read, marks_sent, marks_for as marks_for_entry, marks_by, Performed as PerformedThere}
use Rattle.world_calm.specs.declared.calls.LogEntry.{LogEntry}
use Rattle.world_calm.specs.declared.calm.Performed.{Performed}
use Rattle.world_calm.specs.declared.marks.Marked.{Marked}
use Rattle.world_calm.specs.Read.{command_of}
use Rattle.world_calm.specs.declared.files.StripeOf.{StripeOf}
use Rattle.world_calm.specs.Files.{stripes_at}
use Rattle.world_calm.specs.Marking.{left}
use Rattle.world_calm.specs.Seeing.{CalmState, KeptOf, opened, opened_by, mark_of, marks_one, marks_all, marks_for, performs_command, performs_sent, performs_for, performs}
use Rattle.component_law.specs.Words.{Each, is_there}
use Rattle.calm_law.specs.Files.{KeepsFiles}
use Rattle.calm_law.specs.Marks.{any_marked, IsReal, KeepsMarks, HaveMaps}
use Rattle.calm_law.specs.Harms.{AreLeft}
use Rattle.component_law.specs.Distinct.{AreDistinct, HaveComponents}
use Rattle.calm_law.specs.Following.{bytes_in, PerformsAs}
use Rattle.component_law.specs.Bounds.{IsWithin}
use Rattle.calm_law.proofs.Noting.{fails_alike, fails_more}
use Rattle.calm_law.proofs.Performing.{writes_mark}
use Rattle.component_law.proofs.Begun.{begun_at}

-- ---- the event

event_files : (there now : List File) (failed : List ℕ) (c : CalmState) (e : Event) → KeepsFiles there now failed c.files
    → KeepsFiles there now (failed_after failed (line.Event e)) (opened_by c e).files
event_files there now failed c (event.Fail d) h = fails_alike there now failed c d h
event_files there now failed c (event.Stop k) h = h
event_files there now failed c e h = h

pub opened_files : (there now : List File) (failed : List ℕ) (c : CalmState) (l : Line)
    → KeepsFiles there now failed c.files → KeepsFiles there now (failed_after failed l) (opened c l).files
opened_files there now failed c (line.Event e) h = event_files there now failed c e h
opened_files there now failed c l h = h

event_stopped : (c : CalmState) (cs : List ℕ) (e : Event) → ((d : ℕ) → among d c.stopped ≡ among d cs)
    → (d : ℕ) → among d (opened_by c e).stopped ≡ among d (stopped_after cs (line.Event e))
event_stopped c cs (event.Fail d) h k = h k
event_stopped c cs (event.Stop d) h k = fails_more d k c.stopped cs (h k)
event_stopped c cs e h k = h k

pub opened_stopped : (c : CalmState) (cs : List ℕ) (l : Line) → ((d : ℕ) → among d c.stopped ≡ among d cs)
    → (d : ℕ) → among d (opened c l).stopped ≡ among d (stopped_after cs l)
opened_stopped c cs (line.Event e) h k = event_stopped c cs e h k
opened_stopped c cs l h k = h k

event_rest : (c : CalmState) (e : Event) → ((opened_by c e).log ≡ c.log) × ((opened_by c e).marks ≡ c.marks)
event_rest c (event.Fail d) = (refl, refl)
event_rest c (event.Stop d) = (refl, refl)
event_rest c e = (refl, refl)

pub opened_rest : (c : CalmState) (l : Line) → ((opened c l).log ≡ c.log) × ((opened c l).marks ≡ c.marks)
opened_rest c (line.Event e) = event_rest c e
opened_rest c l = (refl, refl)

-- ---- the log of a taken report

pub taken_writes : (l : Log) (told : Bool) (o : Option ℕ) → (taken_there l told o).writes ≡ l.writes
taken_writes l true None = refl
taken_writes l false None = refl
taken_writes l true (Some g) = refl
taken_writes l false (Some g) = refl

-- ---- a WRITE is performed

-- it leaves the rest
pub record Leaves (c d : CalmState) : Type 0 where
  pub log : d.log ≡ c.log
  pub files : d.files ≡ c.files
  pub stopped : d.stopped ≡ c.stopped

leaves_none : (c : CalmState) → Leaves c c
leaves_none c = record { log = refl; files = refl; stopped = refl }

leaves_all : (kept : KeptOf) (c : CalmState) (n : ℕ) (w : LogEntry) (xs : List StripeOf)
    → Leaves c (marks_all kept c n w xs)
leaves_all kept c n w [] = leaves_none c
leaves_all kept c n w (x ∷ xs) =
    let r : Leaves (marks_one kept c (mark_of n w x)) (marks_all kept (marks_one kept c (mark_of n w x)) n w xs) =
    leaves_all kept (marks_one kept c (mark_of n w x)) n w xs in
    record { log = r.log; files = r.files; stopped = r.stopped }

leaves_for : (kept : KeptOf) (c : CalmState) (d : ℕ) (x : Command) (n : ℕ) (o : Option LogEntry)
    → Leaves c (marks_for kept c d x n o)
leaves_for kept c d x n None = leaves_none c
leaves_for kept c d x n (Some w) = elim (cases_Bool w.finished) [
  | inl t ↦ rw t (leaves_none c)
  | inr z ↦ rw z (leaves_all kept c n w (stripes_at c.files d x.object x.offset))
]

leaves_command : (kept : KeptOf) (c : CalmState) (d n : ℕ) (o : Option Command)
    → Leaves c (performs_command kept c d n o)
leaves_command kept c d n None = leaves_none c
leaves_command kept c d n (Some x) = elim (cases_Bool (is_write x.action)) [
  | inl t ↦ rw t (leaves_for kept c d x n (slice_get c.log.entries n))
  | inr z ↦ rw z (leaves_none c)
]

leaves_sent : (kept : KeptOf) (c : CalmState) (d n : ℕ) (o : Option Sent) → Leaves c (performs_sent kept c d n o)
leaves_sent kept c d n None = leaves_none c
leaves_sent kept c d n (Some s) = leaves_command kept c d n (command_of (reading s.bytes))

leaves_by : (kept : KeptOf) (c : CalmState) (ms : List Sent) (p : Performed) (o : Option ℕ)
    → Leaves c (performs_for kept c ms p o)
leaves_by kept c ms p None = leaves_none c
leaves_by kept c ms p (Some n) = leaves_sent kept c p.drive n (slice_get ms p.message)

pub performs_leaves : (kept : KeptOf) (c : CalmState) (ms : List Sent) (p : Option Performed)
    → Leaves c (performs kept c ms p)
performs_leaves kept c ms None = leaves_none c
performs_leaves kept c ms (Some p) = leaves_by kept c ms p (at_number c.log.sent_for p.message)

-- marks come here as there
module _ (kept : KeptOf) (fs : List File) (fallen : List ℕ) (ks : List Mark) (c : CalmState)
    (distinct : AreDistinct fs) (components : HaveComponents fs) (files : KeepsFiles fs fs fallen c.files)
    (h : KeepsMarks fs c.log.entries ks c.marks) where
  none_come : KeepsMarks fs c.log.entries (ks ++ []) c.marks
  none_come = subst (λ (x : List Mark). KeepsMarks fs c.log.entries x c.marks) (sym (append-nil ks)) h

  read_come : (d n : ℕ) (b : List ℕ) (r : Result Command CommandErr) → reading b ≡ r → IsWithin (Some b)
      → n < length c.log.entries
      → KeepsMarks fs c.log.entries (ks ++ marks_read fs d n r) (performs_command kept c d n (command_of r)).marks
  read_come d n b (Err e) q w l = none_come
  read_come d n b (Ok x) q w l = elim (cases_Bool (is_write x.action)) [
    | inl t ↦ rw t (writes_mark kept fs fallen ks c d x n distinct components (w b x refl q t) l files h)
    | inr z ↦ rw z none_come
  ]

  sent_come : (d n : ℕ) (o q : Option Sent) → bytes_in q ≡ bytes_in o → IsWithin (bytes_in o) → n < length c.log.entries
      → KeepsMarks fs c.log.entries (ks ++ marks_sent fs d n o) (performs_sent kept c d n q).marks
  sent_come d n None None e w l = none_come
  sent_come d n (Some x) None e w l = absurd (cc e)
  sent_come d n None (Some y) e w l = absurd (cc e)
  sent_come d n (Some x) (Some y) e w l =
      let same : y.bytes ≡ x.bytes = cc e in
      rw same (read_come d n x.bytes (reading x.bytes) refl w l)

  entry_come : (m : Moment) (ss ms : List Sent) (a : PerformedThere) (b : Performed) (o : Option ℕ) → m.server.files ≡ fs
      → b.drive ≡ a.drive → b.message ≡ a.message
      → bytes_in (slice_get ms a.message) ≡ bytes_in (slice_get ss a.message)
      → IsWithin (bytes_in (slice_get ss a.message)) → ((n : ℕ) → o ≡ Some n → n < length c.log.entries)
      → KeepsMarks fs c.log.entries (ks ++ marks_for_entry m ss a o) (performs_for kept c ms b o).marks
  entry_come m ss ms a b None f d i e w l = none_come
  entry_come m ss ms a b (Some n) f d i e w l =
      rw (f, d, i) (sent_come a.drive n (slice_get ss a.message) (slice_get ms a.message) e w (l n refl))

  pub performed_come : (m : Moment) (ss ms : List Sent) (a : Option PerformedThere) (p : Option Performed)
      → m.server.files ≡ fs → PerformsAs ss ms a p → c.log.sent_for ≡ m.log.writes
      → ((k n : ℕ) → at_number m.log.writes k ≡ Some n → n < length c.log.entries)
      → KeepsMarks fs c.log.entries (ks ++ marks_by m ss a) (performs kept c ms p).marks
  performed_come m ss ms None None f w e l = none_come
  performed_come m ss ms (Some a) None f w e l = absurd w
  performed_come m ss ms None (Some b) f w e l = absurd w
  performed_come m ss ms (Some a) (Some b) f w e l =
      let same : at_number c.log.sent_for b.message ≡ at_number m.log.writes a.message =
      ap (λ (t : List (ℕ × ℕ)). at_number t b.message) e ∙ ap (λ (k : ℕ). at_number m.log.writes k) w.message in
      subst (λ (o : Option ℕ). KeepsMarks fs c.log.entries
      (ks ++ marks_for_entry m ss a (at_number m.log.writes a.message)) (performs_for kept c ms b o).marks) (sym same)
      (entry_come m ss ms a b (at_number m.log.writes a.message) f w.drive w.message w.bytes w.within
      (λ n q. l a.message n q))

-- ---- which writes are left

left_same : (kept : KeptOf) (stopped : List ℕ) (ms : List Marked) (f s n : ℕ)
    → any_marked f s n (left stopped kept ms) ≡ any_marked f s n ms
left_same kept stopped [] f s n = refl
left_same kept stopped (m ∷ ms) f s n =
    ap (λ (b : Bool). (((m.write == n) && (m.file == f)) && among s m.stripes) || b) (left_same kept stopped ms f s n)

left_real : (there : List File) (es : List LogEntry) (kept : KeptOf) (stopped : List ℕ) (ms : List Marked)
    → Each (λ m. IsReal es m × (is_there there m.file ≡ true)) ms
    → Each (λ m. IsReal es m × (is_there there m.file ≡ true)) (left stopped kept ms)
left_real there es kept stopped [] h = tt
left_real there es kept stopped (m ∷ ms) h = (h.0, left_real there es kept stopped ms h.1)

pub left_marks : (there : List File) (es : List LogEntry) (ks : List Mark) (kept : KeptOf) (stopped : List ℕ)
    (ms : List Marked) → KeepsMarks there es ks ms → KeepsMarks there es ks (left stopped kept ms)
left_marks there es ks kept stopped ms h = record {
  same = λ f s n p o. h.same f s n p o ∙ sym (left_same kept stopped ms f s n);
  known = h.known;
  real = left_real there es kept stopped ms h.real;
}

pub are_left : (kept : KeptOf) (stopped : List ℕ) (ms : List Marked) → AreLeft kept stopped (left stopped kept ms)
are_left kept stopped [] = tt
are_left kept stopped (m ∷ ms) = (refl, are_left kept stopped ms)

-- ---- the server at the beginning of its step

-- with the grants behind the step, and the components before it
begun_told : (before : List File) (g old : File) (n : ℕ) → g.kept.number ≡ n → file_at before n ≡ Some old
    → begun_file false before g ≡ record g { kept = record g.kept { components = old.kept.components } }
begun_told before g old n e q = ap (with_components g) (ap (file_at before) e ∙ q)

pub begun_keeps : (before after : List File) (n : ℕ) (old : File) → HaveMaps before after
    → file_at before n ≡ Some old
    → (g : File) × (file_at after n ≡ Some g)
    × (file_at (map (begun_file false before) after) n
    ≡ Some (record g { kept = record g.kept { components = old.kept.components } })) × (g.kept.map ≡ old.kept.map)
begun_keeps before after n old maps e =
    let a : (g : File) × (file_at after n ≡ Some g) × (g.kept.map ≡ old.kept.map) = maps n old e in (
      a.0,
      a.1,
      begun_at false before after n a.0 a.1
          ∙ ap (λ (x : File). Some x) (begun_told before a.0 old n (number_at after n a.0 a.1) e),
      a.2,
    )
