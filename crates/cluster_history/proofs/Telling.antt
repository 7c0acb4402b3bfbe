-- Of the lines that tell of a step: only its events are events.
use Rattle.std.proofs.Common.{◌≡◌, ℕ, zero, suc, ◌+◌, ◌<◌, Bool, true, false, cond, List, [], ◌∷◌, ◌++◌, Option, Some, None, Result, Ok, Err, length, map, refl, sym, ap, subst, ◌∙◌, inl, inr, arith}
use Rattle.std.specs.Prelude.{slice_get, filter, nat_lt, ◌&&◌, if◌then◌else◌}
use Rattle.std.specs.List.{filter_map, range_with_len, cons_option}
use Rattle.scenario_text.specs.declared.names.TheConstants.{DRIVES, FILES}
use Rattle.scenario_text.specs.declared.event.Event.{Event}
use Rattle.scenario_text.specs.declared.event.Event.TheVariants as event
use Rattle.scenario_text.specs.declared.event.Machine.TheVariants as machine
use Rattle.scenario_text.specs.declared.event.Sender.TheVariants as sender
use Rattle.scenario_text.specs.declared.line.Delivery.{Delivery}
use Rattle.scenario_text.specs.declared.line.Delivery.TheVariants as delivery
use Rattle.scenario_text.specs.declared.line.Line.{Line}
use Rattle.scenario_text.specs.declared.line.Line.TheVariants as line
use Rattle.scenario_text.specs.declared.line.CallKind.{CallKind}
use Rattle.scenario_text.specs.declared.line.Note.{Note as ToldNote}
use Rattle.scenario_text.specs.declared.line.Party.{Party}
use Rattle.scenario_text.specs.declared.line.Refusal.{Refusal as Refused}
use Rattle.scenario_text.specs.declared.line.Verdict.{Verdict}
use Rattle.server_rules.specs.Files.{Step as ServerStep, still}
use Rattle.server_rules.specs.Messages.{counters_have_room, resend}
use Rattle.server_rules.specs.Openings.{reopen}
use Rattle.server_rules.specs.Envelopes.{on_bytes}
use Rattle.server_rules.specs.Making.{create_file}
use Rattle.server_rules.specs.Orders.{ordered}
use Rattle.osd_lists.specs.declared.node.Node.{Node}
use Rattle.client_rules.specs.Messages.{Step as ClientStep, Message as ClientMessage}
use Rattle.client_rules.specs.Steps.{calls}
use Rattle.client_rules.specs.History as client_input
use Rattle.data_map.specs.declared.check.RawMap.{RawMap}
use Rattle.world_history.specs.ClientNames.{CallOp, CallErr, Outcome}
use Rattle.world_history.specs.ServerNames.{Note, Order, Refusal}
use Rattle.world_history.specs.declared.messages.Message.{Message}
use Rattle.world_history.specs.State.{at_number}
use Rattle.world_history.specs.Names.{known_note_line, note_line, is_tellable_note, is_tellable}
use Rattle.world_history.specs.Spelled.{spelled}
use Rattle.world_history.specs.Told.{kind_of, told_outcome}
use Rattle.world_history.specs.Handed.{ended_by, end_line, for_client, op_in}
use Rattle.cluster_history.specs.State.{DriveHere, ClientHere, Cluster, with_client}
use Rattle.cluster_history.specs.Steps.{Step, Knows, Raises, Makes, Hears, Obeys, Passes, Resends, Crashes, Opens, Takes, IsHit, Falls, Rises, IsLost, Begins, Calls, Learns, Misses, Leaves, SendsAgain, Ends}
use Rattle.cluster_history.specs.Deeds.{Deed, rests, changes, served, hears, has_target, obeys, makes, is_up_here, up_drives, falls, all_rise, unheard, order_event, call_of, takes_found, hit_found, turned, went, goes, called, learnt, learns_found, at_client, fallen, risen, lost}
use Rattle.cluster_history.specs.History.{deed, message_lines, lines_of, told, after, history_of}
use Rattle.cluster_history.specs.Events.{EachEvent, EachStep, FallsAndRises}

-- ---- lines

-- P of each of these lines
abbrev pub EachLine : (Line → Type 0) → List Line → Type 0
EachLine P [] = Unit {0}
EachLine P (l ∷ ls) = P l × EachLine P ls

-- P of the line, if it is an event
abbrev pub OfEvent : (Event → Type 0) → Line → Type 0
OfEvent P (line.Event e) = P e
OfEvent P l = Unit {0}

pub each_both : (P : Line → Type 0) (xs ys : List Line) → EachLine P xs → EachLine P ys → EachLine P (xs ++ ys)
each_both P [] ys p q = q
each_both P (x ∷ xs) ys p q = (p.0, each_both P xs ys p.1 q)

-- so is each line that isn't an event, and that may tell of a step
pub record Says (Q : Line → Type 0) : Type 0 where
  pub message : (number : ℕ) (from to : Party) (bytes : List ℕ) → Q (line.Message number from to bytes)
  pub delivered : (number : ℕ) (d : Delivery) → Q (line.Delivered number d)
  pub judged : (drive : ℕ) (v : Verdict) → Q (line.Judged drive v)
  pub timed : (client component : ℕ) → Q (line.TimedOut client component)
  pub ended : (client : ℕ) (k : CallKind) (o : Outcome) → Q (line.Ended client (told_outcome k o))
  pub refused : (client : ℕ) (why : Refused) → Q (line.Refused client why)
  pub noted : (file : ℕ) (what : ToldNote) → Q (line.Note file what)

module _ (Q : Line → Type 0) (says : Says Q) where
  abbrev P : Event → Type 0
  P e = Q (line.Event e)

  abbrev Each : List Line → Type 0
  Each ls = EachLine Q ls

  messages_each : (n : ℕ) (ms : List Message) → Each (message_lines n ms)
  unfolding message_lines
  messages_each n [] = tt
  messages_each n (m ∷ ms) = (says.message n _ _ _, messages_each (n + 1) ms)

  unheard_each : (n : ℕ) (ms : List Message) → Each (unheard n ms)
  unfolding unheard
  unheard_each n [] = tt
  unheard_each n (m ∷ ms) = (says.delivered n delivery.Deaf, unheard_each (n + 1) ms)

  note_each : (known : Bool) (n : Note) (ls : List Line) → Each ls
      → Each (cons_option (if known then Some (note_line n) else None) ls)
  note_each true n ls rest = (says.noted n.file _, rest)
  note_each false n ls rest = rest

  notes_each : (ns : List Note) → Each (filter_map known_note_line ns)
  notes_each [] = tt
  notes_each (n ∷ ns) = note_each (nat_lt n.file FILES && is_tellable_note n.kind) n _ (notes_each ns)

  end_each : (c : ℕ) (k : CallKind) (o : Outcome) (known : Bool)
      → Each (end_line c (if known then Some (told_outcome k o) else None))
  end_each c k o true = (says.ended c k o, tt)
  end_each c k o false = tt

  ended_each : (c : ℕ) (op : Option CallOp) (o : Option Outcome) → Each (ended_by c op o)
  ended_each c None o = tt
  ended_each c (Some op) None = tt
  ended_each c (Some op) (Some o) = end_each c (kind_of op) o (is_tellable o)

  -- ---- a deed

  -- the lines in front are so, and those behind
  deed_each : (d : Deed) → Each d.lines → Each d.behind → Each (lines_of d)
  deed_each d front behind =
      each_both Q d.lines _ front
      (each_both Q (message_lines (length d.cluster.sent) d.gives) d.behind
      (messages_each (length d.cluster.sent) d.gives) behind)

  served_each : (k : Cluster) (lines : List Line) (s : ServerStep) → Each lines → Each (lines_of (served k lines s))
  served_each k lines s front =
      deed_each (served k lines s) (each_both Q lines _ front (notes_each s.notes)) tt

  went_each : (k : Cluster) (c : ℕ) (h : ClientHere) (i : client_input.Input) (lines : List Line) (s : ClientStep)
      → Each lines → Each (lines_of (went k c h i lines s))
  went_each k c h i lines s front =
      deed_each (went k c h i lines s)
      (each_both Q lines _ front (ended_each c (op_in h.state i) s.outcome)) tt

  served_one : (k : Cluster) (e : Event) (s : ServerStep) → P e → Each (lines_of (served k (line.Event e ∷ []) s))
  served_one k e s p = served_each k (line.Event e ∷ []) s (p, tt)

  served_two : (k : Cluster) (e f : Event) (s : ServerStep) → P e → P f
      → Each (lines_of (served k (line.Event e ∷ line.Event f ∷ []) s))
  served_two k e f s p q = served_each k (line.Event e ∷ line.Event f ∷ []) s (p, (q, tt))

  served_delivered : (k : Cluster) (e f : Event) (n : ℕ) (d : Delivery) (s : ServerStep) → P e → P f
      → Each (lines_of (served k (line.Event e ∷ line.Event f ∷ line.Delivered n d ∷ []) s))
  served_delivered k e f n d s p q =
      served_each k (line.Event e ∷ line.Event f ∷ line.Delivered n d ∷ []) s (p, (q, (says.delivered n d, tt)))

  went_one : (k : Cluster) (c : ℕ) (h : ClientHere) (i : client_input.Input) (e : Event) (s : ClientStep) → P e
      → Each (lines_of (went k c h i (line.Event e ∷ []) s))
  went_one k c h i e s p = went_each k c h i (line.Event e ∷ []) s (p, tt)

  went_delivered : (k : Cluster) (c : ℕ) (h : ClientHere) (i : client_input.Input) (e : Event) (n : ℕ) (d : Delivery)
      (s : ClientStep) → P e → Each (lines_of (went k c h i (line.Event e ∷ line.Delivered n d ∷ []) s))
  went_delivered k c h i e n d s p = went_each k c h i (line.Event e ∷ line.Delivered n d ∷ []) s (p, (says.delivered n d, tt))

  went_timed : (k : Cluster) (c : ℕ) (h : ClientHere) (i : client_input.Input) (e : Event) (component : ℕ) (s : ClientStep)
      → P e → Each (lines_of (went k c h i (line.Event e ∷ line.TimedOut c component ∷ []) s))
  went_timed k c h i e component s p =
      went_each k c h i (line.Event e ∷ line.TimedOut c component ∷ []) s (p, (says.timed c component, tt))

  rests_each : (k : Cluster) → Each (lines_of (rests k))
  unfolding message_lines
  rests_each k = tt

  at_each : (k : Cluster) (does : ClientHere → Deed) (o : Option ClientHere) → ((h : ClientHere) → Each (lines_of (does h)))
      → Each (lines_of (at_client k does o))
  at_each k does None each = rests_each k
  at_each k does (Some h) each = each h

  turned_each : (k : Cluster) (d : ℕ) (becomes : DriveHere → DriveHere) (e : Event) (o : Option DriveHere) → P e
      → Each (lines_of (turned k d becomes e o))
  turned_each k d becomes e None p = rests_each k
  turned_each k d becomes e (Some h) p = deed_each (turned k d becomes e (Some h)) (p, tt) tt

  -- ---- files

  abbrev AreLines : List ℕ → Type 0
  AreLines ds = Each (map falls ds) × Each (all_rise ds)

  falls_at : (b : Bool) (d : ℕ) (ds : List ℕ) → FallsAndRises P d → AreLines ds → AreLines (cond b (d ∷ ds) ds)
  falls_at true d ds p rest =
      ((p.0, rest.0), each_both Q (all_rise ds) (line.Event (event.Reopen (machine.Drive d)) ∷ []) rest.1 (p.1, tt))
  falls_at false d ds p rest = rest

  falls_each : ((d : ℕ) → d < DRIVES → FallsAndRises P d) → (test : ℕ → Bool) → (n a : ℕ) → a + n ≡ DRIVES
      → AreLines (filter test (range_with_len a n))
  falls_each p test zero a all = (tt, tt)
  falls_each p test (suc n) a all =
      falls_at (test a) a (filter test (range_with_len (a + 1) n)) (p a (omega (arith, all)))
      (falls_each p test n (a + 1) (omega (arith, all)))

  up_each : (k : Cluster) → ((d : ℕ) → d < DRIVES → FallsAndRises P d) → AreLines (up_drives k)
  unfolding up_drives
  up_each k p = falls_each p (λ d. is_up_here (at_number k.drives d)) DRIVES 0 (omega arith)

  makes_each : (k : Cluster) (f : ℕ) (m : RawMap) (r : Result ServerStep Refusal) → EachEvent P (Makes [] f m)
      → Each (lines_of (makes k f m r))
  makes_each k f m (Err e) p = rests_each k
  makes_each k f m (Ok s) p =
      let up : AreLines (up_drives k) = up_each k p.1 in
      deed_each (makes k f m (Ok s))
      (each_both Q (map falls (up_drives k)) _ up.0 (p.0, notes_each s.notes))
      (each_both Q (unheard (length k.sent) _) (all_rise (up_drives k)) (unheard_each (length k.sent) _) up.1)

  -- ---- each step

  hears_each : (k : Cluster) (time : ℕ) (chosen : List ℕ) (n : ℕ) (o : Option Message) → EachEvent P (Hears time chosen n)
      → Each (lines_of (hears k time chosen n o))
  hears_each k time chosen n None p = rests_each k
  hears_each k time chosen n (Some m) p =
      served_delivered k (event.Clock machine.Server time) (event.Deliver n) n delivery.Taken
      (on_bytes k.server time chosen m.from (spelled m.body)) p.0 p.1

  obeys_each : (k : Cluster) (time : ℕ) (chosen : List ℕ) (o : Order) (b : Bool) → EachEvent P (Obeys time chosen o)
      → Each (lines_of (if b then served k
      (line.Event (event.Clock machine.Server time) ∷ line.Event (order_event o.order o.target) ∷ [])
      (ordered k.server chosen o.order o.target).step else rests k))
  obeys_each k time chosen o true p =
      served_two k (event.Clock machine.Server time) (order_event o.order o.target)
      (ordered k.server chosen o.order o.target).step p.0 p.1
  obeys_each k time chosen o false p = rests_each k

  takes_each : (k : Cluster) (d time n : ℕ) (h : Option DriveHere) (m : Option Message) → EachEvent P (Takes d time n)
      → Each (lines_of (takes_found k d time n h m))
  takes_each k d time n (Some h) (Some m) p =
      deed_each (takes_found k d time n (Some h) (Some m)) (p.0, (p.1, (says.delivered n _, tt))) tt
  takes_each k d time n (Some h) None p = rests_each k
  takes_each k d time n None m p = rests_each k

  hit_each : (k : Cluster) (d time : ℕ) (bytes : List ℕ) (h : Option DriveHere) → EachEvent P (IsHit d time bytes)
      → Each (lines_of (hit_found k d time bytes h))
  hit_each k d time bytes None p = rests_each k
  hit_each k d time bytes (Some h) p = deed_each (hit_found k d time bytes (Some h)) (p.0, (p.1, (says.judged d _, tt))) tt

  called_each : (k : Cluster) (c : ℕ) (h : ClientHere) (op : CallOp) (r : Result ClientStep CallErr)
      → P (event.Call c (call_of op)) → Each (lines_of (called k c h op r))
  called_each k c h op (Err e) p = deed_each (called k c h op (Err e)) (p, (says.refused c _, tt)) tt
  called_each k c h op (Ok s) p = went_one k c h (client_input.Calls op) (event.Call c (call_of op)) s p

  learnt_each : (k : Cluster) (c n : ℕ) (h : ClientHere) (from : Node) (m : Option ClientMessage)
      → P (event.Deliver n) → Each (lines_of (learnt k c n h from m))
  learnt_each k c n h from None p = deed_each (learnt k c n h from None) (p, (says.delivered n delivery.Taken, tt)) tt
  learnt_each k c n h from (Some m) p =
      went_delivered k c h (client_input.Hears from m) (event.Deliver n) n delivery.Taken
      (client_input.step h.state (client_input.Hears from m)) p

  learns_each : (k : Cluster) (c n : ℕ) (h : ClientHere) (o : Option Message) → P (event.Deliver n)
      → Each (lines_of (learns_found k c n h o))
  learns_each k c n h None p = rests_each k
  learns_each k c n h (Some m) p = learnt_each k c n h m.from (for_client m) p

  pub told_each : (k : Cluster) (s : Step) → EachEvent P s → Each (told k s)
  unfolding deed
  told_each k (Knows d key capacity) p = deed_each (deed k (Knows d key capacity)) (p, tt) tt
  told_each k (Raises format) p = deed_each (deed k (Raises format)) (p, tt) tt
  told_each k (Makes chosen f m) p = makes_each k f m (create_file k.server f m 1 false chosen) p
  told_each k (Hears time chosen n) p = hears_each k time chosen n (slice_get k.sent n) p
  told_each k (Obeys time chosen o) p =
      obeys_each k time chosen o (counters_have_room k.server && has_target k.server o.order o.target) p
  told_each k (Passes time chosen from bytes) p = rests_each k
  told_each k Resends p =
      served_one k (event.Resend sender.Server) (record (still k.server) { sends = resend k.server }) p
  told_each k Crashes p = deed_each (deed k Crashes) (p, tt) tt
  told_each k Opens p =
      served_one (record k { up = true }) (event.Reopen machine.Server) (reopen k.server) p
  told_each k (Takes d time n) p = takes_each k d time n (at_number k.drives d) (slice_get k.sent n) p
  told_each k (IsHit d time bytes) p = hit_each k d time bytes (at_number k.drives d) p
  told_each k (Falls d) p = turned_each k d fallen _ (at_number k.drives d) p
  told_each k (Rises d) p = turned_each k d risen _ (at_number k.drives d) p
  told_each k (IsLost d) p = turned_each k d lost _ (at_number k.drives d) p
  told_each k (Begins c) p = deed_each (deed k (Begins c)) (p, tt) tt
  told_each k (Calls c op) p =
      at_each k (λ h. called k c h op (calls h.state op)) (at_number k.clients c)
      (λ h. called_each k c h op (calls h.state op) p)
  told_each k (Learns c n) p =
      at_each k (λ h. learns_found k c n h (slice_get k.sent n)) (at_number k.clients c)
      (λ h. learns_each k c n h (slice_get k.sent n) p)
  told_each k (Misses c component) p =
      at_each k (λ h. goes k c h (client_input.TimesOut component)
      (line.Event (event.Timeout c component) ∷ line.TimedOut c component ∷ [])) (at_number k.clients c)
      (λ h. went_timed k c h (client_input.TimesOut component) (event.Timeout c component) component
      (client_input.step h.state (client_input.TimesOut component)) p)
  told_each k (Leaves c) p =
      at_each k (λ h. goes k c h client_input.Leaves (line.Event (event.Leave c) ∷ [])) (at_number k.clients c)
      (λ h. went_one k c h client_input.Leaves (event.Leave c) (client_input.step h.state client_input.Leaves) p)
  told_each k (SendsAgain c) p =
      at_each k (λ h. goes k c h client_input.Resends (line.Event (event.Resend (sender.Client c)) ∷ [])) (at_number k.clients c)
      (λ h. went_one k c h client_input.Resends (event.Resend (sender.Client c))
      (client_input.step h.state client_input.Resends) p)
  told_each k (Ends c) p =
      at_each k (λ h. changes (with_client k c (record h { left = true })) (event.Stop c)) (at_number k.clients c)
      (λ h. deed_each (changes (with_client k c (record h { left = true })) (event.Stop c)) (p, tt) tt)

  -- so it is of all lines of a run
  pub history_each : (k : Cluster) (steps : List Step) → EachStep (EachEvent P) steps → Each (history_of k steps)
  history_each k [] p = tt
  history_each k (s ∷ steps) p =
      each_both Q (told k s) (history_of (after k s) steps) (told_each k s p.0)
      (history_each (after k s) steps p.1)

-- where only events are asked of
pub by_events : (P : Event → Type 0) → Says (OfEvent P)
by_events P = record {
  message = λ number from to bytes. tt;
  delivered = λ number d. tt;
  judged = λ drive v. tt;
  timed = λ client component. tt;
  ended = λ client k o. tt;
  refused = λ client why. tt;
  noted = λ file what. tt;
}
