-- Each list of events of a step of the server, and of what a drive hears, has its line.
use Rattle.std.proofs.Common.{◌≡◌, ◌≤◌, ◌⊎◌, inl, inr, ℕ, ◌++◌, ◌∷◌, [], List, length, Option, Some, None, refl, sym, ap, subst, ◌∙◌, arith, map, slice_get, ◌+◌, suc, length-append, Bool, true, false, find, if◌then◌else◌}
use Rattle.std.proofs.lemmas.List.{length-map}
use Rattle.std.proofs.lemmas.Bool.{eqb-true}
use Rattle.osd_lists.proofs.Tests.{first_true}
use Rattle.scenario_text.specs.declared.event.Event.TheVariants as event
use Rattle.scenario_text.specs.declared.line.Line.{Line}
use Rattle.world_history.specs.Handed.{Post, server_post}
use Rattle.world_history.specs.Moves.{Action, Opens, Delivers, TimesOut, Pends, acts}
use Rattle.world_history.specs.ServerNames.{File, Note, Outgoing}
use Rattle.world_history.specs.Sending.{Move, move, sent_lines}
use Rattle.world_history.specs.State.{World}
use Rattle.server_rules.specs.Files.{Step, file_at}
use Rattle.server_rules.specs.History.{Input, step}
use Rattle.history_law.specs.BookMoments.{lines_in, with_event}
use Rattle.history_law.specs.Doing.{input_in, did_in}
use Rattle.fence_law.specs.State.{State, Event}
use Rattle.fence_law.specs.Machine.{after_all}
use Rattle.file_simulation.specs.ServerEvents.{server_goes, server_events, sends_all, notes_all, sent, noted, at_first}
use Rattle.file_simulation.specs.DriveEvents.{drive_events, delivered, opened, is_sent_as, is_for, heard_at, heard as drive_heard}
use Rattle.file_simulation.specs.Events.{joined, events_of, events_at, led_by}
use Rattle.world_history.specs.Names.{note_line}
use Rattle.world_history.specs.Moves as world
use Rattle.world_history.specs.declared.messages.Posted.{Posted}
use Rattle.world_history.specs.State.{DriveAt, at_number}
use Rattle.osd_lists.specs.declared.node.Node.{Node}
use Rattle.osd_lists.specs.declared.node.Node.TheVariants as node
use Rattle.world_history.specs.ServerNames.{Server}
use Rattle.scenario_text.specs.declared.line.Line.TheVariants as line
use Rattle.scenario_text.specs.declared.line.Delivery.{Delivery}
use Rattle.history_law.specs.Doing.{brought}
use Rattle.world_history.specs.Book.{step_by}
use Rattle.std.specs.Prelude.{take}
use Rattle.name_law.specs.ServerTells.{LeavesNothingOut}
use Rattle.file_simulation.specs.ClientEvents.{Going, going_in}
use Rattle.relation_law.proofs.FramesParties.{server_alone, drive_quiet}
use Rattle.headline_law.proofs.Lines.{led, led_joined}

-- ---- how many lines there are

sent_count : (n : ℕ) (ps : List Post) → length (sent_lines n ps) ≡ length ps
unfolding sent_lines
sent_count n [] = refl
sent_count n (p ∷ ps) = ap suc (sent_count (n + 1) ps)

-- ---- how many lists of events a step has

sends_count : (s : State) (server : Server) (g : File) (i : Input) (os : List Outgoing) →
    length (sends_all s server g i os) ≡ length os
unfolding sends_all
sends_count s server g i [] = refl
sends_count s server g i (o ∷ os) =
    ap suc (sends_count (after_all s (sent s server g i o)) server g i os)

notes_count : (s : State) (w : World) (f g : File) (i : Input) (os : List Outgoing) (ns : List Note) →
    length (notes_all s w f g i os ns) ≡ length ns + length os
unfolding notes_all
notes_count s w f g i os [] = sends_count s w.server g i os ∙ omega arith
notes_count s w f g i os (n ∷ ns) =
    ap suc (notes_count (after_all s (noted s w f i n)) w f g i os ns) ∙ omega arith

-- ---- the line of a delivery

-- it stands first in what is told
abbrev IsFirst : List Line → Type 0
IsFirst told = (n : ℕ) × (d : Delivery) × (rest : List Line) × (told ≡ line.Delivered n d ∷ rest)

found_first : (w : World) (chosen : List ℕ) (n : ℕ) (i : Input) (o : Option Posted) → brought w o ≡ Some i →
    IsFirst (world.delivers_found w chosen n o).told
found_first w chosen n i None e = absurd (cc e)
found_first w chosen n i (Some p) e = (n, _, _, refl)

delivers_first : (w : World) (chosen : List ℕ) (n : ℕ) (i : Input) → brought w (slice_get w.network.messages n) ≡ Some i →
    IsFirst (world.delivers w chosen n).told
unfolding world.delivers
delivers_first w chosen n i e = found_first w chosen n i (slice_get w.network.messages n) e

-- so what stands before the notes isn't nothing
some_front : (told front : List Line) (ns : List Note) → IsFirst told → told ≡ front ++ map note_line ns → 1 ≤ length front
some_front told [] [] first e = absurd (cc (sym first.3 ∙ e))
some_front told [] (n ∷ ns) first e = absurd (cc (sym first.3 ∙ e))
some_front told (l ∷ front) ns first e = omega arith

-- ---- the lines of a step of the server

told_count : (w : World) (m : Move) (front : List Line) (ns : List Note) →
    (acts w m.chosen m.action).told ≡ front ++ map note_line ns →
    length (acts w m.chosen m.action).told ≡ length front + length ns
told_count w m front ns e =
    ap (λ (ls : List Line). length ls) e ∙ length-append front (map note_line ns)
    ∙ ap (λ n. length front + n) (length-map ns note_line)

pub lines_count : (w : World) (m : Move) → length (move w m).lines
    ≡ length (acts w m.chosen m.action).told + length (acts w m.chosen m.action).posts
lines_count w m =
    length-append (acts w m.chosen m.action).told _
    ∙ ap (λ n. length (acts w m.chosen m.action).told + n) (sent_count _ (acts w m.chosen m.action).posts)

module _ (w : World) (m : Move) (i : Input) (t : Step) (comes : input_in w m.action ≡ Some i) (all : LeavesNothingOut w m t) where
  abbrev a : world.Act
  a = acts w m.chosen m.action

  sends_here : length a.posts ≡ length t.sends
  sends_here = ap (λ (ps : List Post). length ps) all.posts ∙ length-map t.sends server_post

  by_lines : length (move w m).lines ≡ (length all.told.0 + length t.notes) + length t.sends
  by_lines = omega (arith, lines_count w m, told_count w m all.told.0 t.notes all.told.1, sends_here)

-- an event has a line of its own
unfoldable pub own_line : Action → ℕ
own_line (Opens e) = 1
own_line action = 0

pub own_count : (action : Action) (ls : List Line) → length (with_event action ls) ≡ own_line action + length ls
unfolding own_line
own_count (Opens e) ls = omega arith
own_count (Delivers n) ls = omega arith
own_count (TimesOut c k) ls = omega arith
own_count (Pends c) ls = omega arith

front_long : (w : World) (chosen : List ℕ) (action : Action) (i : Input) → input_in w action ≡ Some i → (front : List Line)
    (ns : List Note) → (acts w chosen action).told ≡ front ++ map note_line ns → led action + 1 ≤ own_line action + length front
unfolding own_line led world.begins
front_long w chosen (Opens (event.Deliver n)) i comes front ns told =
    omega (arith, some_front (world.delivers w chosen n).told front ns (delivers_first w chosen n i comes) told)
front_long w chosen (Opens (event.Timeout c k)) i comes front ns told = absurd (cc comes)
front_long w chosen (Opens (event.Inject d bytes)) i comes front ns told = absurd (cc comes)
front_long w chosen (Opens e) i comes front ns told = omega arith
front_long w chosen (Delivers n) i comes front ns told =
    omega (arith, some_front (world.delivers w chosen n).told front ns (delivers_first w chosen n i comes) told)
front_long w chosen (TimesOut c k) i comes front ns told = absurd (cc comes)
front_long w chosen (Pends c) i comes front ns told = absurd (cc comes)

pub lines_long : (w : World) (m : Move) (i : Input) (t : Step) → input_in w m.action ≡ Some i → LeavesNothingOut w m t →
    led m.action + 1 + length t.notes + length t.sends ≤ length (lines_in w m)
lines_long w m i t comes all =
    omega (
      arith,
      own_count m.action (move w m).lines,
      by_lines w m i t comes all,
      front_long w m.chosen m.action i comes all.told.0 t.notes all.told.1,
    )

-- ---- the events of a step have lines

server_count : (s : State) (w : World) (did : Step) (i : Input) (f g : Option File) → length (server_goes s w did i f g)
    ≤ 1 + (length did.notes + length did.sends)
server_count s w did i None g = omega arith
server_count s w did i (Some f) None = omega arith
server_count s w did i (Some f) (Some g) =
    omega (arith, notes_count (after_all s (at_first s w.server did f g i)) w f g i did.sends did.notes)

module _ (s : State) (w : World) (e : ℕ → ℕ) (f : File) (m : Move) (i : Input) (comes : input_in w m.action ≡ Some i) where
  abbrev t : Step
  t = step w.server m.chosen i

  did : did_in w m ≡ Some t
  did = ap (λ (o : Option Input). step_by w.server m.chosen o) comes

  events_are : events_of s w e f m ≡ led_by m.action
      (server_goes s w t i (file_at w.server.files f.kept.number) (file_at t.state.files f.kept.number)
      ++ drive_events s w e f m.action)
  events_are =
      ap (λ (o : Option Going). led_by m.action (events_at s w e f m o)) (server_alone w m.action i comes)
      ∙ ap (λ (o : Option Input). led_by m.action (server_events s w f.kept.number o (step_by w.server m.chosen o)
      ++ drive_events s w e f m.action))
      comes

  pub server_joined : LeavesNothingOut w m t → joined (take (length (lines_in w m)) (events_of s w e f m))
      ≡ joined (events_of s w e f m)
  server_joined all =
      let count = server_count s w t i (file_at w.server.files f.kept.number) (file_at t.state.files f.kept.number) in
      rw events_are (led_joined m.action (length (lines_in w m)) _ (drive_events s w e f m.action)
      (omega (arith, count, lines_long w m i t comes all)) (drive_quiet s w e f m.action i comes))

-- ---- a drive's move

-- the first list has all events
one_joined : (action : Action) (n : ℕ) (es : List Event) → (led action + 1 ≤ n) ⊎ ((es ≡ []) × (led action ≤ n)) →
    joined (take n (led_by action (es ∷ []))) ≡ joined (led_by action (es ∷ []))
one_joined action n es (inl low) = led_joined action n (es ∷ []) [] (omega (arith, low)) tt
one_joined action n es (inr none) =
    subst (λ (fs : List Event). joined (take n (led_by action (fs ∷ []))) ≡ joined (led_by action (fs ∷ []))) (sym none.0)
    (led_joined action n [] ([] ∷ []) (omega (arith, none.1)) (tt, tt))

holds_of : (p : Posted → Bool) (xs : List Posted) (x : Posted) → find p xs ≡ Some x → p x ≡ true
holds_of p [] x e = absurd (cc e)
holds_of p (y ∷ xs) x e = by (p y) refl (holds_of p xs x) e
  where
    same : Some y ≡ Some x → y ≡ x
    same q = cc q

    by : (b : Bool) → p y ≡ b → (find p xs ≡ Some x → p x ≡ true) → (if b then Some y else find p xs) ≡ Some x → p x ≡ true
    by true is rest q = subst (λ (z : Posted). p z ≡ true) (same q) is
    by false is rest q = rest q

module _ (s : State) (w : World) (e : ℕ → ℕ) (f : File) where
  -- a message that is delivered has its line
  heard : (n number : ℕ) (chosen : List ℕ) (action : Action) → led action ≤ own_line action →
      (o : Option Posted) → slice_get w.network.messages number ≡ o →
      own_line action + length (world.delivers_found w chosen number o).told ≤ n →
      joined (take n (led_by action (delivered s w e f o ∷ []))) ≡ joined (led_by action (delivered s w e f o ∷ []))
  heard n number chosen action low None there long = one_joined action n [] (inr (refl, omega (arith, low, long)))
  heard n number chosen action low (Some p) there long =
      one_joined action n (delivered s w e f (Some p)) (inl (omega (arith, low, long)))

  injected : (n d : ℕ) (bytes : List ℕ) → (o : Option DriveAt) → at_number w.drives d ≡ o →
      1 + length (world.injects_at w d bytes o).told ≤ n → (p : Option Posted) →
      find (is_sent_as d bytes) w.network.messages ≡ p →
      (led (Opens (event.Inject d bytes)) + 1 ≤ n) ⊎ ((delivered s w e f p ≡ []) × (led (Opens (event.Inject d bytes)) ≤ n))
  unfolding led
  injected n d bytes (Some a) there long p found = inl (omega (arith, long))
  injected n d bytes None there long None found = inr (refl, omega (arith, long))
  injected n d bytes None there long (Some p) found =
      inr (
        to_drive p.message.to (first_true (is_for d p.message.to) _ (holds_of (is_sent_as d bytes) w.network.messages p found)),
        omega (arith, long),
      )
    where
      to_drive : (to : Node) → is_for d to ≡ true → heard_at s w e f p.message to ≡ []
      to_drive (node.Drive k) is =
          ap (λ (o : Option DriveAt). drive_heard s w e f k p.message o)
          (ap (λ (j : ℕ). at_number w.drives j) (eqb-true k d is) ∙ there)
      to_drive node.Server is = refl
      to_drive (node.Client c) is = refl

  by_action : (m : Move) (action : Action) → m.action ≡ action → (n : ℕ) →
      own_line action + length (acts w m.chosen action).told ≤ n →
      joined (take n (led_by action (drive_events s w e f action))) ≡ joined (led_by action (drive_events s w e f action))
  unfolding led own_line world.begins world.delivers world.injects world.times_out
  by_action m (Opens (event.Deliver number)) is n long =
      heard n number m.chosen (Opens (event.Deliver number)) (omega arith) (slice_get w.network.messages number) refl long
  by_action m (Opens (event.Inject d bytes)) is n long =
      one_joined (Opens (event.Inject d bytes)) n (delivered s w e f (find (is_sent_as d bytes) w.network.messages))
      (injected n d bytes (at_number w.drives d) refl long (find (is_sent_as d bytes) w.network.messages) refl)
  by_action m (Opens (event.Timeout c k)) is n long =
      one_joined (Opens (event.Timeout c k)) n [] (inr (refl, omega (arith, long)))
  by_action m (Opens x) is n long = one_joined (Opens x) n (opened s w e f x) (inl (omega (arith, long)))
  by_action m (Delivers number) is n long =
      heard n number m.chosen (Delivers number) (omega arith) (slice_get w.network.messages number) refl long
  by_action m (TimesOut c k) is n long = led_joined (TimesOut c k) n [] [] (omega arith) tt
  by_action m (Pends c) is n long = led_joined (Pends c) n [] [] (omega arith) tt

  pub drive_joined : (m : Move) → going_in w m.action ≡ None → input_in w m.action ≡ None →
      joined (take (length (lines_in w m)) (events_of s w e f m)) ≡ joined (events_of s w e f m)
  drive_joined m none nothing =
      rw none (rw nothing (by_action m m.action refl (length (lines_in w m))
      (omega (arith, own_count m.action (move w m).lines, lines_count w m))))
