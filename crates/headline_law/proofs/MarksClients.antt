-- A cut of a client's move has the marks and the server that there were.
use Rattle.std.proofs.Common.{◌≡◌, ◌++◌, ℕ, zero, suc, Bool, true, false, List, [], ◌∷◌, take, length, slice_get, Option, Some, None, refl, sym, ap, subst, ◌∙◌, append-nil, if◌then◌else◌}
use Rattle.std.specs.List.{fold}
use Rattle.osd_lists.specs.declared.node.Node.{Node}
use Rattle.osd_lists.specs.declared.node.Node.TheVariants as node
use Rattle.client_rules.specs.Messages.{Message as ClientMessage}
use Rattle.client_rules.specs.History as client_input
use Rattle.scenario_text.specs.declared.event.Event.{Event}
use Rattle.scenario_text.specs.declared.event.Event.TheVariants as event
use Rattle.scenario_text.specs.declared.line.Delivery.TheVariants as delivery
use Rattle.scenario_text.specs.declared.line.Line.{Line}
use Rattle.scenario_text.specs.declared.line.Line.TheVariants as line
use Rattle.world_history.specs.declared.messages.Message.{Message}
use Rattle.world_history.specs.declared.messages.Posted.{Posted}
use Rattle.world_history.specs.State.{ClientAt, World, at_number}
use Rattle.world_history.specs.Handed.{handed, handed_to, quiet, client_hears, client_takes, client_goes, for_client}
use Rattle.world_history.specs.Moves.{Act, Action, Opens, Delivers, TimesOut, Pends, acts, behind, begins, by_client, delivers, delivers_found, marked, times_out}
use Rattle.world_history.specs.Sending.{Move, sends_all, sent_lines}
use Rattle.world_history.specs.Reading.{Step, is_head}
use Rattle.world_history.specs.Book.{ServerSeen, input_at, input_of, step_by, placed_in, server_step}
use Rattle.world_history.specs.Stripes.{Mark}
use Rattle.world_history.specs.Calm.{Seen, seen, sees, moment_of, marks_at}
use Rattle.world_history.specs.Laws.{MomentGoesOn}
use Rattle.history_law.specs.BookMoments.{with_event, lines_in}
use Rattle.history_law.specs.Doing.{brought}
use Rattle.history_law.specs.Read.{BookIsRead, server_of, leads}
use Rattle.history_law.proofs.BookLines.{two_steps, sent_no_head}
use Rattle.history_law.proofs.Leading.{Leads, Silent, Heads, delivers_lead}
use Rattle.component_law.proofs.MoveOpening.{begins_bare}
use Rattle.component_law.proofs.Shapes.{Bare, IsHeaded, bare_all, bare_goes, sent_bare, found_headed}
use Rattle.file_simulation.specs.ClientEvents.{Going, going, going_in, delivered, hearing_at}
use Rattle.headline_law.specs.MarksShown.{IsKept, ClientsKeepMarks}
use Rattle.headline_law.proofs.CalmCodes.{one_alone, server_seen_is, server_there}
use Rattle.headline_law.proofs.CalmCuts.{bare_taken, not_opening}
use Rattle.headline_law.proofs.MarksQuiet.{no_lines, step_keeps, step_leaves}

-- ---- lines with whose first the server does nothing, and that adds no mark

record IsQuiet (w : World) (ls : List Line) : Type 0 where
  pub head : Line
  pub rest : List Line
  pub begins : is_head head ≡ true
  pub bare : Bare rest
  pub are : ls ≡ head ∷ rest
  pub none : input_at (server_of w) head ≡ None
  pub marks : (b : Seen) → marks_at b head ≡ []

-- ---- they leave the marks and the server

module _ (goes : MomentGoesOn) (w : World) (h : List Line) (here : (seen h).server ≡ server_of w)
    (there : (moment_of h).server ≡ w.server) where
  -- a step in which the server does nothing
  pub does_none : (b : Seen) → b.server ≡ server_of w → (l : Line) (rest : List Line) →
      input_at (server_of w) l ≡ None → server_step b.server (record { head = l; rest = rest }) ≡ None
  does_none b at l rest none =
      ap (λ (x : ServerSeen). step_by x.server (placed_in rest) (input_at x l)) at
      ∙ ap (step_by w.server (placed_in rest)) none

  quiet_step : (b : Seen) → b.server ≡ server_of w → b.moment.marks ≡ (moment_of h).marks → (ls : List Line)
      (q : IsQuiet w ls) (n : ℕ) → IsKept w h (sees b (record { head = q.head; rest = take n q.rest })).moment
  quiet_step b at marks ls q n =
      let none = does_none b at q.head (take n q.rest) q.none in (
        step_keeps b (record { head = q.head; rest = take n q.rest }) none
            ∙ ap (λ (ks : List Mark). b.moment.marks ++ ks) (q.marks b) ∙ append-nil b.moment.marks ∙ marks,
        step_leaves b (record { head = q.head; rest = take n q.rest }) none ∙ ap (λ (x : ServerSeen). x.server) at,
      )

  kept_as : (ls : List Line) (b : Seen) → seen (h ++ ls) ≡ b → IsKept w h b.moment → IsKept w h (moment_of (h ++ ls))
  kept_as ls b is = subst (λ (x : Seen). IsKept w h x.moment) (sym is)

  first_lines : (n : ℕ) (ls : List Line) (q : IsQuiet w ls) → IsKept w h (moment_of (h ++ take n (q.head ∷ q.rest)))
  first_lines zero ls q = no_lines goes w h here there
  first_lines (suc n) ls q =
      kept_as (q.head ∷ take n q.rest) (sees (seen h) (record { head = q.head; rest = take n q.rest }))
      (goes h (q.head ∷ take n q.rest) q.begins
      ∙ ap (λ (ts : List Step). fold sees (seen h) ts)
      (one_alone q.head (take n q.rest) q.begins (bare_taken n q.rest q.bare)))
      (quiet_step (seen h) here refl ls q n)

  quiet_lines : (n : ℕ) (ls : List Line) → IsQuiet w ls → IsKept w h (moment_of (h ++ take n ls))
  quiet_lines n ls q =
      subst (λ (x : List Line). IsKept w h (moment_of (h ++ take n x))) (sym q.are) (first_lines n ls q)

  -- behind the line of an event
  module _ (e : Event) (still : (sees (seen h) (record { head = line.Event e; rest = [] })).server ≡ server_of w)
      (kept : IsKept w h (sees (seen h) (record { head = line.Event e; rest = [] })).moment) where
    led_first : (n : ℕ) (ls : List Line) (q : IsQuiet w ls) →
        IsKept w h (moment_of (h ++ take n (line.Event e ∷ q.head ∷ q.rest)))
    led_first zero ls q = no_lines goes w h here there
    led_first (suc zero) ls q =
        kept_as (line.Event e ∷ []) (sees (seen h) (record { head = line.Event e; rest = [] }))
        (goes h (line.Event e ∷ []) refl
        ∙ ap (λ (ts : List Step). fold sees (seen h) ts) (one_alone (line.Event e) [] refl tt)) kept
    led_first (suc (suc n)) ls q =
        kept_as (line.Event e ∷ q.head ∷ take n q.rest)
        (sees (sees (seen h) (record { head = line.Event e; rest = [] })) (record { head = q.head; rest = take n q.rest }))
        (goes h (line.Event e ∷ q.head ∷ take n q.rest) refl
        ∙ ap (λ (ts : List Step). fold sees (seen h) ts)
        (two_steps e q.head (take n q.rest) q.begins (bare_taken n q.rest q.bare)))
        (quiet_step (sees (seen h) (record { head = line.Event e; rest = [] })) still kept.0 ls q n)

    led_lines : (n : ℕ) (ls : List Line) → IsQuiet w ls → IsKept w h (moment_of (h ++ take n (line.Event e ∷ ls)))
    led_lines n ls q =
        subst (λ (x : List Line). IsKept w h (moment_of (h ++ take n (line.Event e ∷ x)))) (sym q.are) (led_first n ls q)

-- ---- a client hears a message

-- what a client tells of a message is no verdict
client_receipt : (w : World) (c : ℕ) (m : Message) (o : Option ClientAt) (b : Seen) (n : ℕ) →
    marks_at b (line.Delivered n (client_hears w c m o).receipt) ≡ []
client_receipt w c m None b n = refl
client_receipt w c m (Some a) b n = by a.stopped (for_client m)
  where
    by : (stopped : Bool) (x : Option ClientMessage) →
        marks_at b (line.Delivered n (if stopped then quiet w delivery.Deaf else client_takes w c a m.from x).receipt) ≡ []
    by true x = refl
    by false None = refl
    by false (Some x) = refl

module _ (w : World) (chosen : List ℕ) (n : ℕ) where
  goes_to : (v : World) (m : Message) (to : Node) (j : Going) → hearing_at w m to ≡ Some j →
      (b : Seen) → marks_at b (line.Delivered n (handed_to v chosen m to).receipt) ≡ []
  goes_to v m (node.Client c) j is b = client_receipt v c m (at_number v.clients c) b n
  goes_to v m (node.Drive d) j is b = absurd (cc is)
  goes_to v m node.Server j is b = absurd (cc is)

  brings_none : (p : Posted) (to : Node) (j : Going) → p.message.to ≡ to → hearing_at w p.message to ≡ Some j →
      brought w (Some p) ≡ None
  brings_none p (node.Client c) j at is = rw at refl
  brings_none p (node.Drive d) j at is = absurd (cc is)
  brings_none p node.Server j at is = absurd (cc is)

  found_quiet : (o : Option Posted) → slice_get w.network.messages n ≡ o → (j : Going) → delivered w o ≡ Some j →
      IsQuiet w (sends_all (delivers w chosen n)).lines
  unfolding delivers
  found_quiet None found j is = absurd (cc is)
  found_quiet (Some p) found j is =
      subst (λ (o : Option Posted). IsQuiet w (sends_all (delivers_found w chosen n o)).lines) (sym found)
      (record {
        head = line.Delivered n (handed (marked w n p) chosen p.message).receipt;
        rest = x.rest;
        begins = refl;
        bare = x.bare;
        are = x.are ∙ ap (λ (l : Line). l ∷ x.rest) same;
        none =
            brings
            (subst (λ (o : Option Posted). Leads w (brought w o) (delivers_found w chosen n o)) found
            (delivers_lead w chosen n));
        marks = goes_to (marked w n p) p.message p.message.to j is;
      })
    where
      x : IsHeaded (sends_all (delivers_found w chosen n (Some p))).lines
      x = found_headed w chosen n p

      same : x.head ≡ line.Delivered n (handed (marked w n p) chosen p.message).receipt
      same = cc (sym x.are)

      brings : Leads w (brought w (Some p)) (delivers_found w chosen n (Some p)) →
          input_at (server_of w) (line.Delivered n (handed (marked w n p) chosen p.message).receipt) ≡ None
      brings (Silent told posts none) = absurd (cc told)
      brings (Heads l rest told head clock input flat) =
          let first : line.Delivered n (handed (marked w n p) chosen p.message).receipt ≡ l = cc told in
          ap (input_at (server_of w)) first ∙ input ∙ brings_none p p.message.to j refl is

-- ---- a component times out at a client

module _ (w : World) (c k : ℕ) where
  abbrev timed : ClientAt → Act
  timed a = behind (line.TimedOut c k) (client_goes w c a (client_input.TimesOut k))

  timed_as : (a : ClientAt) → IsQuiet w (sends_all (timed a)).lines
  timed_as a = record {
    head = line.TimedOut c k;
    rest =
        (client_goes w c a (client_input.TimesOut k)).told
        ++ sent_lines (length (timed a).world.network.messages) (timed a).posts;
    begins = refl;
    bare =
        bare_all (client_goes w c a (client_input.TimesOut k)).told
        (sent_lines (length (timed a).world.network.messages) (timed a).posts) (bare_goes w c a (client_input.TimesOut k))
        (sent_no_head (length (timed a).world.network.messages) (timed a).posts);
    are = refl;
    none = refl;
    marks = λ b. refl;
  }

  timed_quiet : (o : Option ClientAt) → at_number w.clients c ≡ o → (j : Going) →
      going c (client_input.TimesOut k) o ≡ Some j → IsQuiet w (sends_all (times_out w c k)).lines
  unfolding times_out
  timed_quiet None found j is = absurd (cc is)
  timed_quiet (Some a) found j is =
      subst (λ (o : Option ClientAt). IsQuiet w (sends_all (by_client w timed o)).lines) (sym found) (timed_as a)

-- ---- an event

-- one at which the server does nothing
event_quiet : (w : World) (chosen : List ℕ) (e : Event) → leads e ≡ false → input_of e ≡ None →
    IsQuiet w (line.Event e ∷ (sends_all (begins w chosen e)).lines)
event_quiet w chosen e no_ none = record {
  head = line.Event e;
  rest = (sends_all (begins w chosen e)).lines;
  begins = refl;
  bare = sent_bare (begins w chosen e) (begins_bare w chosen e (not_opening e no_));
  are = refl;
  none = none;
  marks = λ b. refl;
}

-- ---- a client's move

module _ (goes : MomentGoesOn) (w : World) (h : List Line) (here : (seen h).server ≡ server_of w)
    (there : (moment_of h).server ≡ w.server) (m : Move) (count : ℕ) (j : Going) where
  abbrev IsKeptThere : Type 0
  IsKeptThere = IsKept w h (moment_of (h ++ take count (lines_in w m)))

  abbrev with_lines : Action → List Line
  with_lines x = with_event x (sends_all (acts w m.chosen x)).lines

  kept_by : (x : Action) → m.action ≡ x → IsKept w h (moment_of (h ++ take count (with_lines x))) → IsKeptThere
  kept_by x act = subst (λ (y : Action). IsKept w h (moment_of (h ++ take count (with_lines y)))) (sym act)

  own : (x : Action) → m.action ≡ x → IsQuiet w (with_lines x) → IsKeptThere
  own x act q = kept_by x act (quiet_lines goes w h here there count (with_lines x) q)

  delivered_there : (n : ℕ) → delivered w (slice_get w.network.messages n) ≡ Some j →
      IsQuiet w (sends_all (delivers w m.chosen n)).lines
  delivered_there n is = found_quiet w m.chosen n (slice_get w.network.messages n) refl j is

  abbrev here_kept : ((moment_of h).marks ++ [] ≡ (moment_of h).marks) × ((seen h).server.server ≡ w.server)
  here_kept = (append-nil (moment_of h).marks, ap (λ (x : ServerSeen). x.server) here)

  led_by_event : (e : Event) → m.action ≡ Opens e → going_in w (Opens e) ≡ Some j → IsKeptThere
  unfolding begins
  led_by_event (event.Deliver n) act is =
      kept_by (Opens (event.Deliver n)) act
      (led_lines goes w h here there (event.Deliver n) here here_kept count (sends_all (delivers w m.chosen n)).lines
      (delivered_there n is))
  led_by_event (event.Timeout c k) act is =
      kept_by (Opens (event.Timeout c k)) act
      (led_lines goes w h here there (event.Timeout c k) here here_kept count (sends_all (times_out w c k)).lines
      (timed_quiet w c k (at_number w.clients c) refl j is))
  led_by_event (event.Do c x) act is = own (Opens (event.Do c x)) act (event_quiet w m.chosen (event.Do c x) refl refl)
  led_by_event (event.Call c x) act is = own (Opens (event.Call c x)) act (event_quiet w m.chosen (event.Call c x) refl refl)
  led_by_event (event.Leave c) act is = own (Opens (event.Leave c)) act (event_quiet w m.chosen (event.Leave c) refl refl)
  led_by_event e act is = absurd (cc is)

  kept_in : (x : Action) → m.action ≡ x → going_in w x ≡ Some j → IsKeptThere
  kept_in (Opens e) act is = led_by_event e act is
  kept_in (Delivers n) act is = own (Delivers n) act (delivered_there n is)
  kept_in (TimesOut c k) act is = own (TimesOut c k) act (timed_quiet w c k (at_number w.clients c) refl j is)
  kept_in (Pends c) act is = absurd (cc is)

pub clients_keep_marks : BookIsRead → MomentGoesOn → ClientsKeepMarks
clients_keep_marks book goes w h m count f g s k j is =
    kept_in goes w h (server_seen_is book w h m count f g s k) (server_there book w h m count f g s k) m count j m.action refl
    is
