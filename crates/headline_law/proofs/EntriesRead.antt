-- The log that stands at a moment is the one that the lines tell, but for the reports that were taken as losses.
-- Towards `CutsShowEntries` (`specs/Parts.antt`).
use Rattle.std.proofs.Common.{◌≡◌, ◌==◌, ◌||◌, ℕ, Bool, true, false, List, [], ◌∷◌, ◌++◌, map, length, take, slice_get, Option, Some, None, Result, Ok, Err, refl, sym, ap, subst, ◌∙◌, inl, inr, arith}
use Rattle.std.specs.List.{fold}
use Rattle.std.specs.Prelude.{option_map}
use Rattle.std.proofs.lemmas.Bool.{cases_Bool}
use Rattle.std.proofs.lemmas.List.{append-nil, take_all}
use Rattle.std.proofs.lemmas.List.Sums.{fold-append}
use Rattle.osd_commands.specs.declared.actions.Action.{Action}
use Rattle.osd_commands.specs.declared.actions.Action.TheVariants as action
use Rattle.osd_commands.specs.declared.commands.Command.{Command}
use Rattle.osd_commands.specs.declared.commands.CommandErr.{CommandErr}
use Rattle.osd_commands.specs.Commands as commands
use Rattle.file_log.specs.declared.entry.Entry.{Entry}
use Rattle.file_log.specs.declared.entry.Entry.TheVariants as entry
use Rattle.scenario_text.specs.declared.event.Call.{Call}
use Rattle.scenario_text.specs.declared.event.Call.TheVariants as call
use Rattle.scenario_text.specs.declared.event.Event.{Event}
use Rattle.scenario_text.specs.declared.event.Event.TheVariants as event
use Rattle.scenario_text.specs.declared.line.Party.{Party}
use Rattle.scenario_text.specs.declared.line.Party.TheVariants as party
use Rattle.scenario_text.specs.declared.line.Ending.TheVariants as ending
use Rattle.scenario_text.specs.declared.line.Outcome.{Outcome}
use Rattle.scenario_text.specs.declared.line.Outcome.TheVariants as outcome
use Rattle.scenario_text.specs.declared.line.Refusal.{Refusal}
use Rattle.scenario_text.specs.declared.line.Refusal.TheVariants as refusal
use Rattle.scenario_text.specs.declared.line.Line.{Line}
use Rattle.scenario_text.specs.declared.line.Line.TheVariants as line
use Rattle.world_history.specs.ServerNames.{Mended}
use Rattle.world_history.specs.State.{World, at_number, and_number}
use Rattle.world_history.specs.ReadLog.{Pending, Logged, Log, called_beside, log_after_event, refused, closed, closed_with, closed_at, entry_in, ended, ends, starts, number_then, begins_beside, begins, sends_write, sends_read, sends_command, sends_in, sends_as, sends, log_after, log_in, log_of}
use Rattle.world_history.specs.Reading.{Step, is_head, grouped, steps_of}
use Rattle.world_history.specs.Book.{server_step}
use Rattle.world_history.specs.Calm.{Seen, Watched, watches, watched, begins as step_begins, mended_in, sees, seen, moment_of, taken_under, taken_by, is_told_taken, sent_taken, returned_at}
use Rattle.world_history.specs.History.{OneEventMore}
use Rattle.world_history.specs.Laws.{BeginWithHead, MomentGoesOn, AllLinesGoOn}
use Rattle.world_history.specs.Sending.{Move}
use Rattle.headline_law.proofs.SmallLemmas.{begins_loose}
use Rattle.history_law.specs.BookMoments.{IsMoment, lines_in}
use Rattle.history_law.proofs.Moments.{always}
use Rattle.component_law.specs.LeftPending.{PendingIsRead}
use Rattle.component_law.proofs.Lists.{map_set, map_end, map_length, get_map}
use Rattle.file_simulation.proofs.Fronts.{Begun, NoLine, Headed, move_begun}
use Rattle.file_simulation.proofs.Fronts.Begun.{Pending as LeftPending}
use Rattle.headline_law.proofs.EntriesLog.{said_of}

-- ---- without what was taken

abbrev pub untaken : Logged → Logged
untaken e = record e { taken = false }

abbrev pub plain : Log → Log
plain l = record l { entries = map untaken l.entries }

-- what the entries of a file say
pub said_plain : (file : ℕ) (es : List Logged) → said_of file (map untaken es) ≡ said_of file es
said_plain file [] = refl
said_plain file (e ∷ es) = elim (cases_Bool (e.file == file)) [
  | inl t ↦ rw t (ap (λ (l : List Entry). e.entry ∷ l) (said_plain file es))
  | inr f ↦ rw f (said_plain file es)
]

-- ---- lines

called_plain : (l : Log) (c : ℕ) (x : Call) (o : Option Pending) →
    plain (called_beside l c x o) ≡ called_beside (plain l) c x o
called_plain l c x None = refl
called_plain l c x (Some p) = refl

event_plain : (l : Log) (e : Event) → plain (log_after_event l e) ≡ log_after_event (plain l) e
event_plain l (event.Do c x) = called_plain l c x (at_number l.pending c)
event_plain l (event.Call c x) = called_plain l c x (at_number l.pending c)
event_plain l e = refl

refused_plain : (l : Log) (c : ℕ) (r : Refusal) → plain (refused l c r) ≡ refused (plain l) c r
refused_plain l c refusal.Busy = refl
refused_plain l c r = refl

closed_plain : (es : List Logged) (n : ℕ) (o : Outcome) (x : Option Logged) →
    map untaken (closed_with es n o x) ≡ closed_with (map untaken es) n o (option_map untaken x)
closed_plain es n o None = refl
closed_plain es n o (Some e) = map_set untaken es n (closed o e)

closed_at_plain : (es : List Logged) (o : Outcome) (n : Option ℕ) →
    map untaken (closed_at es o n) ≡ closed_at (map untaken es) o n
closed_at_plain es o None = refl
closed_at_plain es o (Some n) =
    closed_plain es n o (slice_get es n)
    ∙ ap (closed_with (map untaken es) n o) (sym (get_map untaken es n))

ends_plain : (l : Log) (c : ℕ) (o : Outcome) → plain (ends l c o) ≡ ends (plain l) c o
ends_plain l c o =
    ap (λ (es : List Logged). record (ends l c o) { entries = es })
    (closed_at_plain l.entries o (entry_in (at_number l.pending c)))

ended_plain : (l : Log) (c : ℕ) (o : Outcome) → plain (ended l c o) ≡ ended (plain l) c o
ended_plain l c (outcome.Failed kind ending.Pending) = refl
ended_plain l c o = ends_plain l c o

starts_plain : (l : Log) (c : ℕ) (p : Pending) (f g : ℕ) (e : Entry) → plain (starts l c p f g e) ≡ starts (plain l) c p f g e
starts_plain l c p f g e =
    let x : Logged = record { client = c; file = f; grant = g; taken = false; entry = e } in
    ap (λ (n : ℕ). record {
      pending = and_number l.pending c (record p { entry = Some n });
      entries = map untaken (l.entries ++ x ∷ []);
      writes = l.writes;
    }) (sym (map_length untaken l.entries))
    ∙ ap (λ (es : List Logged). record {
      pending = and_number l.pending c (record p { entry = Some (length (map untaken l.entries)) });
      entries = es;
      writes = l.writes;
    }) (map_end untaken l.entries x)

begins_plain : (l : Log) (c : ℕ) (p : Pending) (f g : ℕ) (e : Entry) (o : Option ℕ) →
    plain (begins_beside l c p f g e o) ≡ begins_beside (plain l) c p f g e o
begins_plain l c p f g e None = starts_plain l c p f g e
begins_plain l c p f g e (Some n) = refl

write_plain : (l : Log) (number c : ℕ) (p : Pending) (x : Command) (y : Call) →
    plain (sends_write l number c p x y) ≡ sends_write (plain l) number c p x y
write_plain l number c p x (call.Write f offset bytes) =
    ap (λ (m : Log). record m {
      writes = and_number l.writes number (number_then (length l.entries) p.entry);
    }) (begins_plain l c p f x.capability.grant (entry.Write offset bytes false) p.entry)
    ∙ ap (λ (n : ℕ). record (begins (plain l) c p f x.capability.grant (entry.Write offset bytes false)) {
      writes = and_number l.writes number (number_then n p.entry);
    }) (sym (map_length untaken l.entries))
write_plain l number c p x (call.Read f offset count) = refl

read_plain : (l : Log) (c : ℕ) (p : Pending) (x : Command) (y : Call) →
    plain (sends_read l c p x y) ≡ sends_read (plain l) c p x y
read_plain l c p x (call.Write f offset bytes) = refl
read_plain l c p x (call.Read f offset count) =
    begins_plain l c p f x.capability.grant (entry.Read offset count None) p.entry

command_plain : (l : Log) (number c : ℕ) (p : Pending) (x : Command) (a : Action) →
    plain (sends_command l number c p x a) ≡ sends_command (plain l) number c p x a
command_plain l number c p x action.Write = write_plain l number c p x p.call
command_plain l number c p x action.Read = read_plain l c p x p.call
command_plain l number c p x a = refl

in_plain : (l : Log) (number c : ℕ) (x : Command) (o : Option Pending) →
    plain (sends_in l number c x o) ≡ sends_in (plain l) number c x o
in_plain l number c x None = refl
in_plain l number c x (Some p) = command_plain l number c p x x.action

as_plain : (l : Log) (number c : ℕ) (r : Result Command CommandErr) →
    plain (sends_as l number c r) ≡ sends_as (plain l) number c r
as_plain l number c (Ok x) = in_plain l number c x (at_number l.pending c)
as_plain l number c (Err e) = refl

message_plain : (l : Log) (number : ℕ) (from to : Party) (bytes : List ℕ) →
    plain (sends l number from to bytes) ≡ sends (plain l) number from to bytes
message_plain l number (party.Client c) (party.Drive d) bytes = as_plain l number c (commands.reading bytes)
message_plain l number from to bytes = refl

pub after_plain : (l : Log) (x : Line) → plain (log_after l x) ≡ log_after (plain l) x
after_plain l (line.Event e) = event_plain l e
after_plain l (line.Refused c why) = refused_plain l c why
after_plain l (line.Ended c o) = ended_plain l c o
after_plain l (line.Message number from to bytes) = message_plain l number from to bytes
after_plain l other = refl

pub lines_plain : (l : Log) (xs : List Line) → plain (fold log_after l xs) ≡ fold log_after (plain l) xs
lines_plain l [] = refl
lines_plain l (x ∷ xs) =
    lines_plain (log_after l x) xs ∙ ap (λ (m : Log). fold log_after m xs) (after_plain l x)

-- ---- what is taken

one_plain : (g : ℕ) (e : Logged) → untaken (taken_under g e) ≡ untaken e
one_plain g e = elim (cases_Bool (e.grant == g)) [ inl t ↦ rw t refl | inr f ↦ rw f refl ]

all_plain : (g : ℕ) (es : List Logged) → map untaken (map (taken_under g) es) ≡ map untaken es
all_plain g [] = refl
all_plain g (e ∷ es) =
    ap (λ (x : Logged). x ∷ map untaken (map (taken_under g) es)) (one_plain g e)
    ∙ ap (λ (l : List Logged). untaken e ∷ l) (all_plain g es)

pub taken_plain : (l : Log) (b : Bool) (o : Option ℕ) → plain (taken_by l b o) ≡ plain l
taken_plain l true (Some g) = ap (λ (es : List Logged). record l { entries = es }) (all_plain g l.entries)
taken_plain l true None = refl
taken_plain l false o = refl

-- ---- steps

watches_log : (rs : List Mended) (w : Watched) (l : Line) → (watches rs w l).moment.log ≡ w.moment.log
watches_log rs w (line.Note f what) = refl
watches_log rs w l = refl

all_watch : (rs : List Mended) (w : Watched) (ls : List Line) → (fold (watches rs) w ls).moment.log ≡ w.moment.log
all_watch rs w [] = refl
all_watch rs w (l ∷ ls) = all_watch rs (watches rs w l) ls ∙ watches_log rs w l

-- the log behind a step: what is taken is taken first
abbrev pub step_taken : Seen → Step → Log
step_taken s t = taken_by s.moment.log (is_told_taken t.rest) (returned_at s.server.sent t.head)

pub step_log : (s : Seen) (t : Step) → (sees s t).moment.log ≡ fold log_after (step_taken s t) (t.head ∷ t.rest)
step_log s t =
    ap (λ (l : Log). fold log_after l (t.head ∷ t.rest))
    (all_watch (mended_in (server_step s.server t))
    (watched (record { moment = s.moment; calm = s.calm }) (step_begins s t (server_step s.server t))) t.rest)

-- the lines of steps
abbrev pub lines_of_steps : List Step → List Line
lines_of_steps [] = []
lines_of_steps (t ∷ ts) = t.head ∷ (t.rest ++ lines_of_steps ts)

pub steps_plain : (s : Seen) (ts : List Step) →
    plain (fold sees s ts).moment.log ≡ fold log_after (plain s.moment.log) (lines_of_steps ts)
steps_plain s [] = refl
steps_plain s (t ∷ ts) =
    steps_plain (sees s t) ts
    ∙ ap (λ (l : Log). fold log_after (plain l) (lines_of_steps ts)) (step_log s t)
    ∙ ap (λ (l : Log). fold log_after l (lines_of_steps ts))
    (lines_plain (step_taken s t) (t.head ∷ t.rest)
    ∙ ap (λ (l : Log). fold log_after l (t.head ∷ t.rest))
    (taken_plain s.moment.log (is_told_taken t.rest) (returned_at s.server.sent t.head)))
    ∙ sym (fold-append log_after (plain s.moment.log) (t.head ∷ t.rest) (lines_of_steps ts))

-- no answer among these lines takes a loss
abbrev pub NoneTaken : List Line → Type 0
NoneTaken [] = Unit {0}
NoneTaken (l ∷ ls) = (sent_taken l ≡ false) × NoneTaken ls

none_told : (ls more : List Line) → NoneTaken (ls ++ more) → (is_told_taken ls ≡ false) × NoneTaken more
none_told [] more n = (refl, n)
none_told (l ∷ ls) more n =
    let r = none_told ls more n.1 in (ap (λ (b : Bool). b || is_told_taken ls) n.0 ∙ r.0, r.1)

pub steps_untold : (s : Seen) (ts : List Step) → NoneTaken (lines_of_steps ts) →
    (fold sees s ts).moment.log ≡ fold log_after s.moment.log (lines_of_steps ts)
steps_untold s [] n = refl
steps_untold s (t ∷ ts) n =
    let r = none_told t.rest (lines_of_steps ts) n.1 in
    steps_untold (sees s t) ts r.1
    ∙ ap (λ (l : Log). fold log_after l (lines_of_steps ts)) (step_log s t)
    ∙ ap (λ (b : Bool). fold log_after (fold log_after (taken_by s.moment.log b (returned_at s.server.sent t.head))
    (t.head ∷ t.rest)) (lines_of_steps ts)) r.0
    ∙ sym (fold-append log_after s.moment.log (t.head ∷ t.rest) (lines_of_steps ts))

-- lines are those of their steps, behind the lines before the first
grouped_lines : (ls : List Line) → (grouped ls).loose ++ lines_of_steps (grouped ls).steps ≡ ls
unfolding grouped
grouped_lines [] = refl
grouped_lines (l ∷ ls) = elim (cases_Bool (is_head l)) [
  | inl t ↦ rw t (ap (λ (xs : List Line). l ∷ xs) (grouped_lines ls))
  | inr f ↦ rw f (ap (λ (xs : List Line). l ∷ xs) (grouped_lines ls))
]

pub steps_lines : (ls : List Line) → BeginWithHead ls → lines_of_steps (steps_of ls) ≡ ls
steps_lines ls b =
    sym (ap (λ (xs : List Line). xs ++ lines_of_steps (grouped ls).steps) (begins_loose ls b)) ∙ grouped_lines ls

-- ---- moments

module _ (moments : MomentGoesOn) (pending : PendingIsRead) where
  -- lines that go on
  pub begun_plain : (h ls : List Line) → Begun ls →
      plain (moment_of (h ++ ls)).log ≡ fold log_after (plain (moment_of h).log) ls
  begun_plain h ls (NoLine e) =
      subst (λ (xs : List Line). plain (moment_of (h ++ xs)).log ≡ fold log_after (plain (moment_of h).log) xs) (sym e)
      (ap (λ (xs : List Line). plain (moment_of xs).log) (append-nil h))
  begun_plain h ls (LeftPending c k e) =
      subst (λ (xs : List Line). plain (moment_of (h ++ xs)).log ≡ fold log_after (plain (moment_of h).log) xs) (sym e)
      (ap (λ (s : Seen). plain s.moment.log) (pending h c k))
  begun_plain h ls (Headed b) =
      ap (λ (s : Seen). plain s.moment.log) (moments h ls b) ∙ steps_plain (seen h) (steps_of ls)
      ∙ ap (fold log_after (plain (moment_of h).log)) (steps_lines ls b)

  pub begun_untold : (h ls : List Line) → Begun ls → NoneTaken ls →
      (moment_of (h ++ ls)).log ≡ fold log_after (moment_of h).log ls
  begun_untold h ls (NoLine e) n =
      subst (λ (xs : List Line). (moment_of (h ++ xs)).log ≡ fold log_after (moment_of h).log xs) (sym e)
      (ap (λ (xs : List Line). (moment_of xs).log) (append-nil h))
  begun_untold h ls (LeftPending c k e) n =
      subst (λ (xs : List Line). (moment_of (h ++ xs)).log ≡ fold log_after (moment_of h).log xs) (sym e)
      (ap (λ (s : Seen). s.moment.log) (pending h c k))
  begun_untold h ls (Headed b) n =
      ap (λ (s : Seen). s.moment.log) (moments h ls b)
      ∙ steps_untold (seen h) (steps_of ls) (subst NoneTaken (sym (steps_lines ls b)) n)
      ∙ ap (fold log_after (moment_of h).log) (steps_lines ls b)

  module _ (lines : AllLinesGoOn) (more : OneEventMore) where
    moves_plain : (w : World) (h : List Line) (m : Move) → plain (moment_of h).log ≡ log_in h →
        plain (moment_of (h ++ lines_in w m)).log ≡ log_in (h ++ lines_in w m)
    moves_plain w h m k =
        let b : Begun (lines_in w m) =
        subst Begun (take_all (length (lines_in w m)) (lines_in w m) (omega arith))
        (move_begun w m (length (lines_in w m))) in
        begun_plain h (lines_in w m) b ∙ ap (λ (l : Log). fold log_after l (lines_in w m)) k
        ∙ sym (lines h (lines_in w m)).log

    -- at a moment the log is the one that the lines tell
    pub moment_plain : (w : World) (h : List Line) → IsMoment w h → plain (moment_of h).log ≡ log_in h
    unfolding grouped
    moment_plain w h k =
        always (λ w h. plain (moment_of h).log ≡ log_in h) (record {
          starts = refl;
          moves = λ v g n m d x. moves_plain v g m x;
        }) more w h k

    -- and at each cut
    pub cut_plain : (w : World) (h : List Line) → IsMoment w h → (m : Move) (n : ℕ) →
        plain (moment_of (h ++ take n (lines_in w m))).log ≡ log_in (h ++ take n (lines_in w m))
    cut_plain w h k m n =
        begun_plain h (take n (lines_in w m)) (move_begun w m n)
        ∙ ap (λ (l : Log). fold log_after l (take n (lines_in w m))) (moment_plain w h k)
        ∙ sym (lines h (take n (lines_in w m))).log

    -- so a cut's log of a file is what the entries there say
    pub cut_said : (w : World) (h : List Line) → IsMoment w h → (m : Move) (n file : ℕ) →
        log_of (h ++ take n (lines_in w m)) file ≡ said_of file (moment_of (h ++ take n (lines_in w m))).log.entries
    cut_said w h k m n file =
        ap (λ (l : Log). said_of file l.entries) (sym (cut_plain w h k m n))
        ∙ said_plain file (moment_of (h ++ take n (lines_in w m))).log.entries
