-- No event of the scenario is refused: what it names is there or is new, and nothing is down.
use Rattle.std.proofs.Common.{◌≡◌, ◌<◌, ◌+◌, ◌%◌, ◌==◌, ◌||◌, not, ℕ, zero, suc, Bool, true, false, true≢false, List, [], ◌∷◌, ◌++◌, Option, Some, None, option_map, Result, Ok, Err, if◌then◌else◌, refl, sym, ap, subst, ◌∙◌, append_assoc, arith, inl, inr}
use Rattle.std.specs.List.{AllByRecursion, fold, list_any}
use Rattle.std.proofs.lemmas.Bool.{cases_Bool, or_parts}
use Rattle.std.proofs.lemmas.List.{append-nil}
use Rattle.scenario_text.specs.declared.event.Event.{Event}
use Rattle.scenario_text.specs.declared.event.Event.TheVariants as event
use Rattle.scenario_text.specs.declared.line.Line.{Line}
use Rattle.scenario_text.specs.declared.line.Line.TheVariants as line
use Rattle.client_rules.specs.Messages.{Step as ClientStep, Message}
use Rattle.client_rules.specs.Steps.{calls}
use Rattle.world_history.specs.ClientNames.{CallOp, CallErr}
use Rattle.world_history.specs.ReadDrives.{DriveSeen, sees_drive, drive_after_line, hears_sent as drive_hears}
use Rattle.world_history.specs.Refusals.{refusal, unless_stopped}
use Rattle.std.proofs.Math.Nat.{mod-lt}
use Rattle.world_history.specs.Moves.{op_of}
use Rattle.world_history.specs.State.{World, DriveAt, ClientAt, at_number}
use Rattle.world_history.specs.declared.messages.Sent.{Sent}
use Rattle.world_history.specs.declared.err.WorldErr.TheVariants.{Dead}
use Rattle.history_law.specs.Drives.{DrivesAreRead}
use Rattle.cause_law.specs.Ended.{ClientsAreRead}
use Rattle.cause_law.proofs.Unanswered.{between}
use Rattle.cause_law.specs.Down.{down_after_line, DownIsRead}
use Rattle.cause_law.specs.ReadClients.{ClientSeen, sees_client, client_after_line, called, called_as, hears, hears_read, hears_sent}
use Rattle.generate_law.specs.Plays.{Plays, NoneIsRefused}
use Rattle.generate_law.specs.Scenario.{makes_drive as makes, makes_file, first_call, each_below, opening, calls_from, call_event, next_random, scenario_of}
use Rattle.generate_law.proofs.Events.{events_in, events_are}
use Rattle.generate_law.proofs.Guessing.{uninjected_is_unguessed}
use Rattle.generate_law.specs.Quiet.{InjectsNone, ScenarioIsUnguessed}

-- ---- peaceful events

-- an event that makes a party or a file, or a prompt call
abbrev IsPeaceful : Event → Type 0
IsPeaceful (event.Drive d key capacity) = Unit {0}
IsPeaceful (event.Client c) = Unit {0}
IsPeaceful (event.File f m tag) = Unit {0}
IsPeaceful (event.Do c x) = Unit {0}
IsPeaceful e = ⊥

-- no other event begins at the line
abbrev HasPeace : Line → Type 0
HasPeace (line.Event e) = IsPeaceful e
HasPeace l = Unit {0}

lines_have_peace : (ls : List Line) → AllByRecursion IsPeaceful (events_in ls) → AllByRecursion HasPeace ls
lines_have_peace [] p = tt
lines_have_peace (line.Event e ∷ ls) p = (p.0, lines_have_peace ls p.1)
lines_have_peace (l ∷ ls) p = (tt, lines_have_peace ls p)

-- ---- the server is up

up_line : (l : Line) → HasPeace l → down_after_line false l ≡ false
up_line (line.Event (event.Crash which)) p = absurd p
up_line (line.Event (event.Reopen which)) p = absurd p
up_line l p = refl

up_lines : (ls : List Line) → AllByRecursion HasPeace ls → fold down_after_line false ls ≡ false
up_lines [] p = refl
up_lines (l ∷ ls) p = ap (λ (b : Bool). fold down_after_line b ls) (up_line l p.0) ∙ up_lines ls p.1

-- ---- clients

-- there is a client, and it wasn't stopped
abbrev is_alive : Option ClientAt → Bool
is_alive None = false
is_alive (Some a) = not a.stopped

-- the event makes client c
abbrev makes_client : (c : ℕ) → Event → Bool
makes_client c (event.Client k) = k == c
makes_client c e = false

called_alive : (a : ClientAt) (op : CallOp) (r : Result ClientStep CallErr) → not (called_as a op r).stopped ≡ not a.stopped
called_alive a op (Ok s) = refl
called_alive a op (Err e) = refl

where_alive : (b : Bool) (becomes : ClientAt → ClientAt) → ((a : ClientAt) → not (becomes a).stopped ≡ not a.stopped)
    → (o : Option ClientAt) → is_alive (if b then option_map becomes o else o) ≡ is_alive o
where_alive true becomes same None = refl
where_alive true becomes same (Some a) = same a
where_alive false becomes same o = refl

read_alive : (a : ClientAt) (from : _) (o : Option Message) → not (hears_read a from o).stopped ≡ not a.stopped
read_alive a from None = refl
read_alive a from (Some m) = refl

hears_by : (b : Bool) (a : ClientAt) (from : _) (o : Option Message)
    → not (if b then a else hears_read a from o).stopped ≡ not a.stopped
hears_by true a from o = refl
hears_by false a from o = read_alive a from o

hears_alive : (s : Sent) (a : ClientAt) → not (hears s a).stopped ≡ not a.stopped
hears_alive s a = hears_by a.stopped a s.from _

sent_alive : (c : ℕ) (o : Option ClientAt) (s : Option Sent) → is_alive (hears_sent c o s) ≡ is_alive o
sent_alive c o None = refl
sent_alive c o (Some s) = where_alive _ (hears s) (hears_alive s) o

fresh_alive : (b : Bool) (x : ClientAt) (o : Option ClientAt) → x.stopped ≡ false → is_alive o ≡ true
    → is_alive (if b then Some x else o) ≡ true
fresh_alive true x o fresh e = ap not fresh
fresh_alive false x o fresh e = e

alive_line : (c : ℕ) (s : ClientSeen) (l : Line) → HasPeace l → is_alive s.client ≡ true
    → is_alive (client_after_line c s l) ≡ true
alive_line c s (line.Event (event.Client k)) p e = fresh_alive (k == c) _ s.client refl e
alive_line c s (line.Event (event.Do k x)) p e =
    where_alive (k == c) (called (op_of x)) (λ a. called_alive a (op_of x) (calls a.state (op_of x))) s.client ∙ e
alive_line c s (line.Event (event.Drive d key capacity)) p e = e
alive_line c s (line.Event (event.File f m tag)) p e = e
alive_line c s (line.Event x) p e = absurd p
alive_line c s (line.Delivered number delivery) p e = sent_alive c s.client _ ∙ e
alive_line c s (line.TimedOut k component) p e = where_alive (k == c) _ (λ a. refl) s.client ∙ e
alive_line c s l p e = e

alive_lines : (c : ℕ) (s : ClientSeen) (ls : List Line) → AllByRecursion HasPeace ls → is_alive s.client ≡ true
    → is_alive (fold (sees_client c) s ls).client ≡ true
alive_lines c s [] p e = e
alive_lines c s (l ∷ ls) p e = alive_lines c (sees_client c s l) ls p.1 (alive_line c s l p.0 e)

-- ---- what is made

-- the event makes drive d
abbrev makes_drive : (d : ℕ) → Event → Bool
makes_drive d (event.Drive k key capacity) = k == d
makes_drive d e = false

-- an event of that kind begins at the line
abbrev at_line : (Event → Bool) → Line → Bool
at_line test (line.Event e) = test e
at_line test l = false

lines_make : (test : Event → Bool) (ls : List Line) → list_any (at_line test) ls ≡ list_any test (events_in ls)
lines_make test [] = refl
lines_make test (line.Event e ∷ ls) = ap (λ (b : Bool). test e || b) (lines_make test ls)
lines_make test (l ∷ ls) = lines_make test ls

-- ---- a client is made

made_line : (c : ℕ) (s : ClientSeen) (l : Line) → at_line (makes_client c) l ≡ true → is_alive (client_after_line c s l) ≡ true
made_line c s (line.Event (event.Client k)) m = rw m refl
made_line c s (line.Event e) m = absurd (cc m)
made_line c s l m = absurd (cc m)

made_lines : (c : ℕ) (s : ClientSeen) (ls : List Line) → AllByRecursion HasPeace ls
    → list_any (at_line (makes_client c)) ls ≡ true → is_alive (fold (sees_client c) s ls).client ≡ true
made_lines c s [] p m = absurd (true≢false (sym m))
made_lines c s (l ∷ ls) p m = elim (cases_Bool (at_line (makes_client c) l)) [
  | inl t ↦ alive_lines c (sees_client c s l) ls p.1 (made_line c s l t)
  | inr f ↦ made_lines c (sees_client c s l) ls p.1 (rw f at m)
]

-- ---- nothing is made

where_none : {A : Type 0} (b : Bool) (becomes : A → A) (o : Option A) → o ≡ None
    → (if b then option_map becomes o else o) ≡ None
where_none true becomes o e = ap (option_map becomes) e
where_none false becomes o e = e

none_sent : (c : ℕ) (o : Option ClientAt) (s : Option Sent) → o ≡ None → hears_sent c o s ≡ None
none_sent c o None e = e
none_sent c o (Some s) e = where_none _ (hears s) o e

none_line : (c : ℕ) (s : ClientSeen) (l : Line) → HasPeace l → at_line (makes_client c) l ≡ false → s.client ≡ None
    → client_after_line c s l ≡ None
none_line c s (line.Event (event.Client k)) p m e = rw m e
none_line c s (line.Event (event.Do k x)) p m e = where_none (k == c) _ s.client e
none_line c s (line.Event (event.Drive d key capacity)) p m e = e
none_line c s (line.Event (event.File f map tag)) p m e = e
none_line c s (line.Event x) p m e = absurd p
none_line c s (line.Delivered number delivery) p m e = none_sent c s.client _ e
none_line c s (line.TimedOut k component) p m e = where_none (k == c) _ s.client e
none_line c s l p m e = e

none_lines : (c : ℕ) (s : ClientSeen) (ls : List Line) → AllByRecursion HasPeace ls
    → list_any (at_line (makes_client c)) ls ≡ false → s.client ≡ None → (fold (sees_client c) s ls).client ≡ None
none_lines c s [] p m e = e
none_lines c s (l ∷ ls) p m e =
    let parts = or_parts (at_line (makes_client c) l) (list_any (at_line (makes_client c)) ls) m in
    none_lines c (sees_client c s l) ls p.1 parts.1 (none_line c s l p.0 parts.0 e)

drive_sent : (d : ℕ) (o : Option DriveAt) (s : Option Sent) → o ≡ None → drive_hears d o s ≡ None
drive_sent d o None e = e
drive_sent d o (Some s) e = where_none _ _ o e

drive_line : (d : ℕ) (s : DriveSeen) (l : Line) → HasPeace l → at_line (makes_drive d) l ≡ false → s.drive ≡ None
    → drive_after_line d s l ≡ None
drive_line d s (line.Event (event.Drive k key capacity)) p m e = rw m e
drive_line d s (line.Event (event.Client c)) p m e = e
drive_line d s (line.Event (event.Do c x)) p m e = e
drive_line d s (line.Event (event.File f map tag)) p m e = e
drive_line d s (line.Event x) p m e = absurd p
drive_line d s (line.Delivered number delivery) p m e = drive_sent d s.drive _ e
drive_line d s (line.Judged k verdict) p m e = where_none (k == d) _ s.drive e
drive_line d s l p m e = e

drive_lines : (d : ℕ) (s : DriveSeen) (ls : List Line) → AllByRecursion HasPeace ls
    → list_any (at_line (makes_drive d)) ls ≡ false → s.drive ≡ None → (fold (sees_drive d) s ls).drive ≡ None
drive_lines d s [] p m e = e
drive_lines d s (l ∷ ls) p m e =
    let parts = or_parts (at_line (makes_drive d) l) (list_any (at_line (makes_drive d)) ls) m in
    drive_lines d (sees_drive d s l) ls p.1 parts.1 (drive_line d s l p.0 parts.0 e)

-- ---- by the events alone

-- behind these events the next one names what is there, or makes what is new
abbrev admits : List Event → Event → Bool
admits front (event.Drive d key capacity) = not (list_any (makes_drive d) front)
admits front (event.Client c) = not (list_any (makes_client c) front)
admits front (event.File f m tag) = true
admits front (event.Do c x) = list_any (makes_client c) front
admits front e = false

not_true : (b : Bool) → not b ≡ true → b ≡ false
not_true true e = absurd (true≢false (sym e))
not_true false e = refl

alive_so : (o : Option ClientAt) → is_alive o ≡ true → unless_stopped o ≡ None
alive_so None e = absurd (true≢false (sym e))
alive_so (Some a) e = ap (λ (b : Bool). if b then Some Dead else None) (not_true a.stopped e)

module _ (drives : DrivesAreRead) (clients : ClientsAreRead) (down : DownIsRead) (events : List Event) (w : World)
    (h : List Line) (p : Plays events w h) (peace : AllByRecursion IsPeaceful events) where
  has_peace : AllByRecursion HasPeace h
  has_peace = lines_have_peace h (subst (AllByRecursion IsPeaceful) (sym (events_are events w h p)) peace)

  up : w.down ≡ false
  up = sym (down w h (between w h p.stands)) ∙ up_lines h has_peace

  found : (test : Event → Bool) (b : Bool) → list_any test events ≡ b → list_any (at_line test) h ≡ b
  found test b e = lines_make test h ∙ ap (list_any test) (events_are events w h p) ∙ e

  isnt_refused : (e : Event) → admits events e ≡ true → refusal w e ≡ None
  unfolding refusal
  isnt_refused (event.Drive d key capacity) a =
      let none : at_number w.drives d ≡ None =
      sym (drives w h p.stands d)
      ∙ drive_lines d _ h has_peace (found (makes_drive d) false (not_true (list_any (makes_drive d) events) a)) refl in
      rw (none, up) refl
  isnt_refused (event.Client c) a =
      let none : at_number w.clients c ≡ None =
      sym (clients w h p.stands c)
      ∙ none_lines c _ h has_peace (found (makes_client c) false (not_true (list_any (makes_client c) events) a)) refl in
      rw none refl
  isnt_refused (event.File f m tag) a = rw up refl
  isnt_refused (event.Do c x) a =
      alive_so (at_number w.clients c)
      (ap is_alive (sym (clients w h p.stands c)) ∙ made_lines c _ h has_peace (found (makes_client c) true a))
  isnt_refused e a = absurd (cc a)

-- ---- the scenario

-- each of these events is admitted, and peaceful
abbrev AreAdmitted : List Event → List Event → Type 0
AreAdmitted front [] = Unit {0}
AreAdmitted front (e ∷ es) = (admits front e ≡ true) × IsPeaceful e × AreAdmitted (front ++ e ∷ []) es

admitted_at : (front : List Event) (xs : List Event) (e : Event) (ys : List Event) → AreAdmitted front (xs ++ e ∷ ys)
    → AllByRecursion IsPeaceful front → (admits (front ++ xs) e ≡ true) × AllByRecursion IsPeaceful (front ++ xs)
admitted_at front [] e ys a p =
    subst (λ (es : List Event). (admits es e ≡ true) × AllByRecursion IsPeaceful es) (sym (append-nil front)) (a.0, p)
admitted_at front (x ∷ xs) e ys a p =
    subst (λ (es : List Event). (admits es e ≡ true) × AllByRecursion IsPeaceful es) (append_assoc front (x ∷ []) xs)
    (admitted_at (front ++ x ∷ []) xs e ys a.2 (peace_more front x p a.1))
  where
    peace_more : (es : List Event) (x : Event) → AllByRecursion IsPeaceful es → IsPeaceful x
        → AllByRecursion IsPeaceful (es ++ x ∷ [])
    peace_more [] x p q = (q, tt)
    peace_more (y ∷ es) x p q = (p.0, peace_more es x p.1 q)

-- the three clients are there
abbrev HasClients : List Event → Type 0
HasClients front = (c : ℕ) → c < 3 → list_any (makes_client c) front ≡ true

any_front : (test : Event → Bool) (es : List Event) (e : Event) → list_any test es ≡ true → list_any test (es ++ e ∷ []) ≡ true
any_front test [] e t = absurd (true≢false (sym t))
any_front test (x ∷ es) e t = elim (cases_Bool (test x)) [
  | inl y ↦ rw y refl
  | inr n ↦ rw n (any_front test es e (rw n at t))
]

calls_admitted : (n k x : ℕ) (front : List Event) → HasClients front → AreAdmitted front (calls_from n k x)
calls_admitted zero k x front has = tt
calls_admitted (suc n) k x front has = (
  has (k % 3) (mod-lt k (omega arith)),
  tt,
  calls_admitted n (k + 1) (next_random x) (front ++ call_event k x ∷ [])
      (λ c low. any_front (makes_client c) front (call_event k x) (has c low)),
)

three_clients : HasClients opening
three_clients zero low = refl
three_clients (suc zero) low = refl
three_clients (suc (suc zero)) low = refl
three_clients (suc (suc (suc c))) low = absurd (omega (arith, low))

more_admitted : (front xs ys : List Event) → AreAdmitted front xs → AreAdmitted (front ++ xs) ys → AreAdmitted front (xs ++ ys)
more_admitted front [] ys a b = subst (λ (es : List Event). AreAdmitted es ys) (append-nil front) b
more_admitted front (x ∷ xs) ys a b = (
  a.0,
  a.1,
  more_admitted (front ++ x ∷ []) xs ys a.2
      (subst (λ (es : List Event). AreAdmitted es ys) (sym (append_assoc front (x ∷ []) xs)) b),
)

opening_admitted : AreAdmitted [] opening
opening_admitted =
    let parties : AreAdmitted (each_below makes 6) (each_below (λ c. event.Client c) 3 ++ (makes_file ∷ first_call ∷ [])) =
    (refl, tt, (refl, tt, (refl, tt, (refl, tt, (refl, tt, tt))))) in
    (refl, tt, (refl, tt, (refl, tt, (refl, tt, (refl, tt, (refl, tt, parties))))))

pub none_is_refused : DrivesAreRead → ClientsAreRead → DownIsRead → NoneIsRefused
none_is_refused drives clients down seed calls front e back w h is p =
    let all : AreAdmitted [] (scenario_of seed calls) =
    more_admitted [] opening (calls_from calls 0 seed) opening_admitted (calls_admitted calls 0 seed opening three_clients) in
    let at = admitted_at [] front e back (subst (AreAdmitted []) is all) tt in
    isnt_refused drives clients down front w h p at.1 e at.0

-- ---- nothing is injected in it

peace_injects : (l : Line) → HasPeace l → InjectsNone l
peace_injects (line.Event (event.Inject d bytes)) p = absurd p
peace_injects l p = tt

lines_inject_none : (ls : List Line) → AllByRecursion HasPeace ls → AllByRecursion InjectsNone ls
lines_inject_none [] p = tt
lines_inject_none (l ∷ ls) p = (peace_injects l p.0, lines_inject_none ls p.1)

all_peace : (front es : List Event) → AreAdmitted front es → AllByRecursion IsPeaceful es
all_peace front [] a = tt
all_peace front (e ∷ es) a = (a.1, all_peace (front ++ e ∷ []) es a.2)

pub scenario_is_unguessed : ScenarioIsUnguessed
scenario_is_unguessed seed calls w h p =
    let all : AreAdmitted [] (scenario_of seed calls) =
    more_admitted [] opening (calls_from calls 0 seed) opening_admitted (calls_admitted calls 0 seed opening three_clients) in
    uninjected_is_unguessed h
    (lines_inject_none h
    (lines_have_peace h
    (subst (AllByRecursion IsPeaceful) (sym (events_are (scenario_of seed calls) w h p))
    (all_peace [] (scenario_of seed calls) all))))
