-- Facts of each line and the lines before it, and lines that tell nothing of drives.
use Rattle.std.specs.List.{cons_option, filter_map}
use Rattle.std.proofs.Common.{nat_lt, ◌&&◌, ◌≡◌, ℕ, ◌+◌, ◌++◌, ◌∷◌, [], List, Bool, true, false, Option, Some, None, map, filter, fold, refl, sym, ap, subst, ◌∙◌, append_assoc, if◌then◌else◌}
use Rattle.std.proofs.lemmas.List.{append-nil}
use Rattle.osd_lists.specs.declared.node.Node.{Node}
use Rattle.osd_lists.specs.declared.node.Node.TheVariants as node
use Rattle.scenario_text.specs.declared.event.Event.TheVariants as event
use Rattle.scenario_text.specs.declared.names.TheConstants.{FILES}
use Rattle.scenario_text.specs.declared.line.Note.{Note}
use Rattle.scenario_text.specs.declared.line.Outcome.{Outcome}
use Rattle.scenario_text.specs.declared.line.Refusal.{Refusal}
use Rattle.scenario_text.specs.declared.line.Party.{Party}
use Rattle.scenario_text.specs.declared.line.Line.{Line}
use Rattle.scenario_text.specs.declared.line.Line.TheVariants as line
use Rattle.world_history.specs.ServerNames as server_rules
use Rattle.world_history.specs.ClientNames as client_rules
use Rattle.world_history.specs.declared.messages.Sent.{Sent}
use Rattle.world_history.specs.State.{DriveAt}
use Rattle.world_history.specs.Spelled.{party_of}
use Rattle.world_history.specs.Told.{kind_of}
use Rattle.world_history.specs.Names.{where_known, note_line, is_tellable_note, known_note_line, known_outcome}
use Rattle.world_history.specs.Handed.{Post, is_addressed, server_post, client_posts, end_line, ended_by}
use Rattle.world_history.specs.Sending.{fresh, sent_line, sent_lines}
use Rattle.world_history.specs.ReadDrives.{DriveSeen, sees_drive, drive_after}
use Rattle.world_history.specs.Laws.{shown}
use Rattle.history_law.specs.Judging.{JudgesAt}
use Rattle.history_law.specs.Safe.{AtEachLine}

-- ---- a fact of each line and the lines before it

-- of these lines, behind some others
abbrev pub EachBehind : (List Line → Line → Type 0) → (before lines : List Line) → Type 0
EachBehind P before [] = Unit {0}
EachBehind P before (l ∷ ls) = P before l × EachBehind P (before ++ l ∷ []) ls

pub each_more : (P : List Line → Line → Type 0) (before xs ys : List Line) → EachBehind P before xs
    → EachBehind P (before ++ xs) ys → EachBehind P before (xs ++ ys)
each_more P before [] ys e f = subst (λ (b : List Line). EachBehind P b ys) (append-nil before) f
each_more P before (x ∷ xs) ys e f = (
  e.0,
  each_more P (before ++ x ∷ []) xs ys e.1
      (subst (λ (b : List Line). EachBehind P b ys) (sym (append_assoc before (x ∷ []) xs)) f),
)

pub each_front : (P : List Line → Line → Type 0) (before xs ys : List Line) → EachBehind P before (xs ++ ys)
    → EachBehind P before xs
each_front P before [] ys e = tt
each_front P before (x ∷ xs) ys e = (e.0, each_front P (before ++ x ∷ []) xs ys e.1)

pub each_behind : (P : List Line → Line → Type 0) (before xs ys : List Line) → EachBehind P before (xs ++ ys)
    → EachBehind P (before ++ xs) ys
each_behind P before [] ys e = subst (λ (b : List Line). EachBehind P b ys) (sym (append-nil before)) e
each_behind P before (x ∷ xs) ys e =
    subst (λ (b : List Line). EachBehind P b ys) (append_assoc before (x ∷ []) xs)
    (each_behind P (before ++ x ∷ []) xs ys e.1)

at_line : (P : List Line → Line → Type 0) (first before : List Line) (l : Line) (after : List Line)
    → EachBehind P first (before ++ l ∷ after) → P (first ++ before) l
at_line P first [] l after e = subst (λ (b : List Line). P b l) (sym (append-nil first)) e.0
at_line P first (x ∷ before) l after e =
    subst (λ (b : List Line). P b l) (append_assoc first (x ∷ []) before)
    (at_line P (first ++ x ∷ []) before l after e.1)

pub at_each_line : (P : List Line → Line → Type 0) (h : List Line) → EachBehind P [] h → AtEachLine P h
at_each_line P h e before l after is = at_line P [] before l after (subst (EachBehind P []) is e)

-- ---- what holds at each line of a history

-- a drive is made only where there is none of that number, and judges outside of a delivery only what was just injected
abbrev pub ArisesAt : List Line → Line → Type 0
ArisesAt before (line.Event (event.Drive k key capacity)) = drive_after before k ≡ None
ArisesAt before (line.Event (event.Disk k key capacity)) = drive_after before k ≡ None
ArisesAt before (line.Judged d v) =
    (lines : List Line) × (bytes : List ℕ) × (before ≡ lines ++ line.Event (event.Inject d bytes) ∷ [])
ArisesAt before l = Unit {0}

abbrev pub HoldsAt : List Line → Line → Type 0
HoldsAt before l = JudgesAt before l × ArisesAt before l

pub judges_of : (before : List Line) (l : Line) → HoldsAt before l → JudgesAt before l
judges_of before l h = h.0

pub arises_of : (before : List Line) (l : Line) → HoldsAt before l → ArisesAt before l
arises_of before l h = h.1

-- ---- lines that tell nothing of drives

-- what is read of a drive
abbrev pub seen : List Sent → List ℕ → Option DriveAt → DriveSeen
seen sent injected drive = record { sent = sent; injected = injected; drive = drive }

-- no drive changes, and no message is sent
pub record AreQuiet (ls : List Line) : Type 0 where
  pub folds : (d : ℕ) (ss : List Sent) (i : List ℕ) (a : Option DriveAt) → fold (sees_drive d) (seen ss i a) ls ≡ seen ss i a
  pub says : (before : List Line) → EachBehind HoldsAt before ls

pub none_quiet : AreQuiet []
none_quiet = record { folds = λ d ss i a. refl; says = λ before. tt }

pub timeout_quiet : (c k : ℕ) (ls : List Line) → AreQuiet ls → AreQuiet (line.TimedOut c k ∷ ls)
timeout_quiet c k ls q = record {
  folds = λ d ss i a. q.folds d ss i a;
  says = λ before. ((tt, tt), q.says (before ++ line.TimedOut c k ∷ []));
}

pub refused_quiet : (c : ℕ) (why : Refusal) → AreQuiet (line.Refused c why ∷ [])
refused_quiet c why = record { folds = λ d ss i a. refl; says = λ before. ((tt, tt), tt) }

pub ended_quiet : (c : ℕ) (o : Outcome) → AreQuiet (line.Ended c o ∷ [])
ended_quiet c o = record { folds = λ d ss i a. refl; says = λ before. ((tt, tt), tt) }

pub noted_quiet : (f : ℕ) (n : Note) → AreQuiet (line.Note f n ∷ [])
noted_quiet f n = record { folds = λ d ss i a. refl; says = λ before. ((tt, tt), tt) }

-- a note in front of quiet lines, where a line can tell it
quiet_note : (known : Bool) (n : server_rules.Note) (ls : List Line) → AreQuiet ls
    → AreQuiet (cons_option (where_known known (note_line n)) ls)
quiet_note true n ls q = record {
  folds = λ d ss i a. q.folds d ss i a;
  says = λ before. ((tt, tt), q.says (before ++ note_line n ∷ []));
}
quiet_note false n ls q = q

pub quiet_notes : (ns : List server_rules.Note) → AreQuiet (filter_map known_note_line ns)
quiet_notes [] = none_quiet
quiet_notes (n ∷ ns) =
    quiet_note (nat_lt n.file FILES && is_tellable_note n.kind) n (filter_map known_note_line ns) (quiet_notes ns)

quiet_end : (c : ℕ) (o : Option Outcome) → AreQuiet (end_line c o)
quiet_end c None = none_quiet
quiet_end c (Some o) = ended_quiet c o

pub quiet_ended : (c : ℕ) (op : Option client_rules.CallOp) (o : Option client_rules.Outcome) → AreQuiet (ended_by c op o)
quiet_ended c None o = none_quiet
quiet_ended c (Some op) None = none_quiet
quiet_ended c (Some op) (Some o) = quiet_end c (known_outcome (kind_of op) o)

-- ---- messages of the server and of clients

abbrev pub IsNoDrive : Node → Type 0
IsNoDrive (node.Drive d) = ⊥
IsNoDrive n = Unit {0}

abbrev pub FromNoDrive : List Post → Type 0
FromNoDrive [] = Unit {0}
FromNoDrive (p ∷ ps) = IsNoDrive p.message.from × FromNoDrive ps

kept_from : (b : Bool) (p : Post) (ps : List Post) → IsNoDrive p.message.from → FromNoDrive ps
    → FromNoDrive (if b then p ∷ ps else ps)
kept_from true p ps x xs = (x, xs)
kept_from false p ps x xs = xs

filtered_from : (ps : List Post) → FromNoDrive ps → FromNoDrive (filter is_addressed ps)
filtered_from [] xs = tt
filtered_from (p ∷ ps) xs =
    kept_from (is_addressed p) p (filter is_addressed ps) xs.0 (filtered_from ps xs.1)

posts_of_server : (os : List server_rules.Outgoing) → FromNoDrive (map server_post os)
posts_of_server [] = tt
posts_of_server (o ∷ os) = (tt, posts_of_server os)

pub from_server : (os : List server_rules.Outgoing) → FromNoDrive (filter is_addressed (map server_post os))
from_server os = filtered_from (map server_post os) (posts_of_server os)

posts_of_client : (c : ℕ) (wrote : Bool) (logged : ℕ) (os : List client_rules.Outgoing)
    → FromNoDrive (client_posts c wrote logged os)
posts_of_client c wrote logged [] = tt
posts_of_client c wrote logged (o ∷ os) = (tt, posts_of_client c _ logged os)

pub from_client : (c : ℕ) (wrote : Bool) (logged : ℕ) (os : List client_rules.Outgoing)
    → FromNoDrive (filter is_addressed (client_posts c wrote logged os))
from_client c wrote logged os = filtered_from (client_posts c wrote logged os) (posts_of_client c wrote logged os)

said_by : (before : List Line) (n : ℕ) (from : Node) (to : Party) (bytes : List ℕ) → IsNoDrive from
    → JudgesAt before (line.Message n (party_of from) to bytes)
said_by before n node.Server to bytes x = tt
said_by before n (node.Client c) to bytes x = tt
said_by before n (node.Drive d) to bytes x = absurd x

pub sent_say : (before : List Line) (n : ℕ) (ps : List Post) → FromNoDrive ps
    → EachBehind HoldsAt before (sent_lines n ps)
unfolding sent_lines
sent_say before n [] xs = tt
sent_say before n (p ∷ ps) xs =
    ((said_by before n p.message.from _ _ xs.0, tt), sent_say (before ++ sent_line n p.message ∷ []) (n + 1) ps xs.1)

-- messages that are sent change no drive
pub sent_fold : (d n : ℕ) (ps : List Post) (ss : List Sent) (i : List ℕ) (a : Option DriveAt)
    → fold (sees_drive d) (seen ss i a) (sent_lines n ps) ≡ seen (ss ++ map shown (map fresh ps)) i a
unfolding sent_lines
sent_fold d n [] ss i a = ap (λ (x : List Sent). seen x i a) (sym (append-nil ss))
sent_fold d n (p ∷ ps) ss i a =
    sent_fold d (n + 1) ps (ss ++ shown (fresh p) ∷ []) i a
    ∙ ap (λ (x : List Sent). seen x i a) (append_assoc ss (shown (fresh p) ∷ []) (map shown (map fresh ps)))
