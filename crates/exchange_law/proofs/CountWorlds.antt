-- At each moment of a history of a scenario's text the server's files fit, and its numbers are counted.
use Rattle.std.proofs.Common.{◌≡◌, [], ◌∷◌, ◌&&◌, ℕ, ◌+◌, ◌≤◌, ◌<◌, Bool, true, false, List, Option, Some, None, length, nat_lt, slice_get, refl, sym, ap, subst, ◌∙◌, arith, if◌then◌else◌}
use Rattle.std.proofs.lemmas.Bool.Decides.{nat_tests}
use Rattle.osd_lists.specs.declared.node.Node.{Node}
use Rattle.osd_lists.specs.declared.node.Node.TheVariants as node
use Rattle.osd_capability.specs.Layout.{is_format}
use Rattle.scenario_text.specs.declared.names.TheConstants.{DRIVES, FILES}
use Rattle.scenario_text.specs.Spelling.{Fits}
use Rattle.scenario_text.specs.declared.event.Event.{Event}
use Rattle.scenario_text.specs.declared.event.Event.TheVariants as event
use Rattle.scenario_text.specs.declared.event.Machine.TheVariants as machine
use Rattle.scenario_text.specs.declared.line.Line.{Line}
use Rattle.scenario_text.specs.declared.line.Line.TheVariants as line
use Rattle.server_rules.specs.declared.limits.TheConstants.{FIRST_OBJECT, COUNTERS_END}
use Rattle.server_rules.specs.Messages.{Message as ServerMessage, counters_have_room}
use Rattle.server_rules.specs.History.{Input, step}
use Rattle.world_history.specs.ServerNames.{Server, File}
use Rattle.world_history.specs.declared.limits.TheConstants.{MAX_KEPT}
use Rattle.world_history.specs.declared.messages.Message.{Message}
use Rattle.world_history.specs.declared.messages.Posted.{Posted}
use Rattle.world_history.specs.State.{World, empty_world}
use Rattle.world_history.specs.Handed.{Post, for_server}
use Rattle.world_history.specs.Moves.{Action, Opens, Delivers, TimesOut, Pends, raw_of, has_algorithm, knows_drive, acts}
use Rattle.world_history.specs.Sending.{Move, move}
use Rattle.world_history.specs.Plans.{Rule, due_by}
use Rattle.world_history.specs.Book.{step_by, server_behind}
use Rattle.world_history.proofs.Always.{opening, IsKept}
use Rattle.world_history.proofs.ReadMessages.{never_opens}
use Rattle.history_law.specs.Counters.{GrantsAreCounted}
use Rattle.history_law.specs.Doing.{heard_of, brought_to, brought, input_in}
use Rattle.history_law.proofs.Doing.{acts_serve}
use Rattle.history_law.proofs.DriveEvents.{IsRead, kept}
use Rattle.history_law.specs.Read.{is_written, is_written_line, AreWritten}
use Rattle.exchange_law.specs.Text.{IsOfText, AreOfText}
use Rattle.exchange_law.specs.Counters.{ServerCounts, ServerIsCounted, CountersStayLow}
use Rattle.exchange_law.specs.Files.{KeptFits, AllFilesFit}
use Rattle.exchange_law.proofs.Parts.{each_as}
use Rattle.exchange_law.proofs.CountStepping.{FileFits, ServerFits, IsGiven, all_counted}
use Rattle.exchange_law.proofs.Making.{step_fits}
use Rattle.exchange_law.proofs.ClientMoves.{longer_by}
use Rattle.exchange_law.proofs.CountGrowing.{as_many, text_front, text_behind}
use Rattle.exchange_law.proofs.CountMoments.{at_moment, reached}

-- ---- what comes to the server

abbrev pub GivenAny : Option Input → Type 0
GivenAny None = Unit {0}
GivenAny (Some i) = IsGiven i

pub given_heard : (now : ℕ) (from : Node) (m : Option ServerMessage) → GivenAny (heard_of now from m)
given_heard now from None = tt
given_heard now from (Some m) = tt

pub either_given : (b : Bool) (i j : Option Input) → GivenAny i → GivenAny j → GivenAny (if b then i else j)
either_given true i j h k = h
either_given false i j h k = k

pub given_to : (w : World) (m : Message) (to : Node) → GivenAny (brought_to w m to)
given_to w m node.Server =
    either_given w.down None (heard_of w.clock m.from (for_server m)) tt (given_heard w.clock m.from (for_server m))
given_to w m (node.Drive d) = tt
given_to w m (node.Client c) = tt

pub given_brought : (w : World) (o : Option Posted) → GivenAny (brought w o)
given_brought w None = tt
given_brought w (Some p) = given_to w p.message p.message.to

pub one_or_two : (n : ℕ) → 1 ≤ n → n ≤ 2 → is_format n ≡ true
one_or_two n a b = grind (arith, nat_tests, a, b)

-- with an event of a text
pub given_event : (w : World) (e : Event) → Fits e → GivenAny (input_in w (Opens e))
given_event w (event.Drive d key capacity) f = either_given (knows_drive w.server d) None (Some _) tt f.1.0
given_event w (event.Disk d key capacity) f = either_given (knows_drive w.server d) None (Some _) tt f.1.0
given_event w (event.File n m tag) f =
    either_given (has_algorithm (raw_of m)) (Some _) None
    (f.1.0, f.1.1.1.1.1.1.1.1.0.1, f.1.1.1.1.1.1.1.0) tt
given_event w (event.ZonedFile n m tag) f =
    either_given (has_algorithm (raw_of m)) (Some _) None
    (f.1.0, f.1.1.1.1.1.1.1.1.0.1, f.1.1.1.1.1.1.1.0) tt
given_event w (event.Format n) f = one_or_two n f.1.1.0.0 f.1.1.0.1
given_event w (event.Deliver number) f = given_brought w (slice_get w.network.messages number)
given_event w (event.Crash (machine.Drive d)) f = tt
given_event w (event.Crash machine.Server) f = tt
given_event w (event.Reopen (machine.Drive d)) f = tt
given_event w (event.Reopen machine.Server) f = tt
given_event w e f = tt

less_than : (a b : ℕ) → a < b → nat_lt a b ≡ true
less_than a b l = grind (arith, nat_tests, l)

pub event_written : (e : Event) → Fits e → is_written e ≡ true
event_written (event.Drive d key capacity) f = less_than d DRIVES f.1.0
event_written (event.Disk d key capacity) f = less_than d DRIVES f.1.0
event_written (event.File n m tag) f = less_than n FILES f.1.0
event_written (event.ZonedFile n m tag) f = less_than n FILES f.1.0
event_written (event.Format n) f = one_or_two n f.1.1.0.0 f.1.1.0.1
event_written e f = refl

line_written : (l : Line) → IsOfText l → is_written_line l ≡ true
line_written (line.Event e) f = event_written e f
line_written l f = refl

pub text_written : (h : List Line) → AreOfText h → AreWritten h
text_written [] f = tt
text_written (l ∷ h) f = (line_written l f.0, text_written h f.1)

pub given_rule : (w : World) (r : Rule) (action : Action) → due_by w r ≡ Some action → GivenAny (input_in w action)
given_rule w r (Delivers number) due = given_brought w (slice_get w.network.messages number)
given_rule w r (TimesOut c component) due = tt
given_rule w r (Pends c) due = tt
given_rule w r (Opens e) due = absurd (never_opens w r e due)

-- ---- a move

pub record WorldFits (w : World) : Type 0 where
  pub server : ServerFits w.server
  pub nonces : w.server.next_nonce ≤ length w.network.messages + 1
  pub objects : w.server.next_object ≤ length w.network.messages + FIRST_OBJECT
  pub recalls : w.server.next_recall ≤ length w.network.messages + 1

-- the same of a server behind so many messages
record Behind (s : Server) (n : ℕ) : Type 0 where
  server : ServerFits s
  nonces : s.next_nonce ≤ n + 1
  objects : s.next_object ≤ n + FIRST_OBJECT
  recalls : s.next_recall ≤ n + 1

by_input : (w : World) (m : Move) (i : Option Input) → input_in w m.action ≡ i → WorldFits w → GivenAny i
    → Behind (server_behind w.server (step_by w.server m.chosen i))
    (length w.network.messages + length (acts w m.chosen m.action).posts)
by_input w m None is k g = record {
  server = k.server;
  nonces = omega (arith, k.nonces);
  objects = omega (arith, k.objects);
  recalls = omega (arith, k.recalls);
}
by_input w m (Some x) is k g =
    let t = step_fits w.server m.chosen x k.server g in
    let posts = (acts_serve w m.chosen m.action).posts x is in
    let sent : length (acts w m.chosen m.action).posts ≡ length (step w.server m.chosen x).sends =
    ap (λ (ps : List Post). length ps) posts ∙ all_counted (step w.server m.chosen x).sends t.named in
    record {
      server = t.fits;
      nonces = omega (arith, k.nonces, t.nonces, sent);
      objects = omega (arith, k.objects, t.objects, sent);
      recalls = omega (arith, k.recalls, t.recalls, sent);
    }

pub move_fits : (w : World) (m : Move) → WorldFits w → GivenAny (input_in w m.action) → WorldFits (move w m).world
move_fits w m k g =
    let b = by_input w m (input_in w m.action) refl k g in
    let server = (acts_serve w m.chosen m.action).server in
    let c : Behind (move w m).world.server (length (move w m).world.network.messages) =
    subst (Behind (move w m).world.server) (sym (longer_by w m))
    (subst (λ (s : Server). Behind s (length w.network.messages + length (acts w m.chosen m.action).posts))
    (sym server) b) in
    record { server = c.server; nonces = c.nonces; objects = c.objects; recalls = c.recalls }

pub first_fits : WorldFits empty_world
first_fits = record {
  server = record { drives = tt; format = refl; files = tt; slots = tt };
  nonces = omega arith;
  objects = omega arith;
  recalls = omega arith;
}

-- ---- each moment

abbrev pub FitsThere : World → List Line → Type 0
FitsThere w h = AreOfText h → WorldFits w

pub all_fit : IsKept FitsThere
all_fit = record {
  starts = λ text. first_fits;
  opens =
      λ w h e chosen k allowed text.
      let own = text_behind h (line.Event e ∷ (move w (opening e chosen)).lines) text in
      move_fits w (opening e chosen) (k (text_front h (line.Event e ∷ (move w (opening e chosen)).lines) text))
      (given_event w e own.0);
  moves =
      λ w h r m k due text.
      move_fits w m (k (text_front h (move w m).lines text)) (given_rule w r m.action due);
}

pub server_is_counted : GrantsAreCounted → ServerIsCounted
server_is_counted grants w h m text =
    let k = at_moment FitsThere all_fit w h m text in
    record {
      grants = grants w (reached w h m);
      nonces = k.nonces;
      recalls = k.recalls;
      objects = k.objects;
    }

-- few messages leave the counters room
pub few_have_room : (s : Server) (sent : ℕ) → ServerCounts s sent → sent ≤ MAX_KEPT → counters_have_room s ≡ true
unfolding counters_have_room
few_have_room s sent c few =
    all_less (nat_lt s.next_nonce COUNTERS_END) (nat_lt s.next_object COUNTERS_END) (nat_lt s.next_recall COUNTERS_END)
    (less s.next_nonce (omega (arith, c.nonces, few))) (less s.next_object (omega (arith, c.objects, few)))
    (less s.next_recall (omega (arith, c.recalls, few)))
  where
    less : (n : ℕ) → n < COUNTERS_END → nat_lt n COUNTERS_END ≡ true
    less n l = grind (arith, l, nat_tests)

    all_less : (a b c : Bool) → a ≡ true → b ≡ true → c ≡ true → (a && (b && c)) ≡ true
    all_less true true c x y z = z
    all_less true false c x y z = absurd (cc y)
    all_less false b c x y z = absurd (cc x)

pub counters_stay_low : ServerIsCounted → CountersStayLow
counters_stay_low counted w h m text few =
    few_have_room w.server (length w.network.messages) (counted w h m text)
    (omega (arith, as_many w h (at_moment IsRead kept w h m), few))

pub all_files_fit : AllFilesFit
all_files_fit w h m text =
    let k = at_moment FitsThere all_fit w h m text in
    each_as (FileFits w.server.next_object) (λ (f : File). KeptFits w.server.next_object f.kept) w.server.files
    (λ f x. x.0) k.server.files
