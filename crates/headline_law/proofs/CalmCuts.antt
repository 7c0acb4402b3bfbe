-- A cut behind the first lines of the server's step is read as that step, behind what was seen before.
-- Towards `ServersKeepRuns` (`specs/Parts.antt`).
use Rattle.std.proofs.Common.{◌≡◌, ◌+◌, ◌++◌, ℕ, zero, suc, Bool, true, false, List, [], ◌∷◌, take, map, length, slice_get, Option, Some, None, refl, sym, ap, subst, ◌∙◌, arith, append-nil, append_assoc, if◌then◌else◌}
use Rattle.std.specs.List.{fold}
use Rattle.std.proofs.lemmas.Bool.{true≢false}
use Rattle.scenario_text.specs.declared.event.Event.{Event}
use Rattle.scenario_text.specs.declared.event.Event.TheVariants as event
use Rattle.scenario_text.specs.declared.line.Delivery.TheVariants as delivery
use Rattle.scenario_text.specs.declared.line.Line.{Line}
use Rattle.scenario_text.specs.declared.line.Line.TheVariants as line
use Rattle.server_rules.specs.History.{Input, step}
use Rattle.world_history.specs.ServerNames.{File, Server}
use Rattle.world_history.specs.State.{World}
use Rattle.world_history.specs.Names.{note_line}
use Rattle.world_history.specs.Moves.{Act, Action, Opens, Delivers, TimesOut, Pends, acts, begins, delivers, knows_drive}
use Rattle.world_history.specs.Sending.{Move, sends_all, sent_lines}
use Rattle.world_history.specs.Reading.{Step}
use Rattle.world_history.specs.Book.{ServerSeen, input_at, input_of, step_by, placed_in}
use Rattle.world_history.specs.Calm.{Seen, seen, sees, moment_of, marks_at, failed_after, is_told_taken, takes_loss}
use Rattle.world_history.specs.Laws.{MomentGoesOn}
use Rattle.history_law.specs.BookMoments.{with_event, lines_in}
use Rattle.history_law.specs.Doing.{input_in, given_by, brought}
use Rattle.history_law.specs.Read.{BookIsRead, AreWritten, server_of, leads}
use Rattle.history_law.proofs.Staying.{written_front, written_behind}
use Rattle.component_law.specs.Naming.{IsNamed, IsNamedInput}
use Rattle.component_law.proofs.FileFacts.{named_input}
use Rattle.component_law.proofs.NamedLines.{are_named, named_line}
use Rattle.history_law.proofs.Leading.{Leads, Silent, Heads, delivers_lead}
use Rattle.component_law.proofs.MoveOpening.{begins_bare}
use Rattle.history_law.proofs.BookLines.{two_steps}
use Rattle.component_law.proofs.Shapes as shapes
use Rattle.component_law.proofs.Shapes.{Bare, Shape, Nothing, Left, sent_bare, delivers_shape}
use Rattle.component_law.specs.Opening.{is_opening}
use Rattle.fence_law.specs.State.{State}
use Rattle.file_simulation.specs.Cuts.{lines_before}
use Rattle.relation_law.specs.Steps.{Follows}
use Rattle.headline_law.specs.Ending.{IsStepSeen, CutsAreSeen, NotesAreKnown, ToldAreTaken}
use Rattle.headline_law.specs.Watching.{AllLeave}
use Rattle.headline_law.proofs.CalmCodes.{one_alone, server_seen_is}
use Rattle.headline_law.proofs.CalmLines.{TellsNotes, known_all, sent_leave, leave_more, event_told, delivers_told}

-- ---- lines

pub bare_taken : (n : ℕ) (ls : List Line) → Bare ls → Bare (take n ls)
bare_taken zero ls b = tt
bare_taken (suc n) [] b = tt
bare_taken (suc n) (l ∷ ls) b = (b.0, bare_taken n ls b.1)

-- ---- the step of a head, behind what was seen before

-- What was seen is as at history h, for the server and for moments.
pub record IsAsAt (w : World) (h : List Line) (b : Seen) : Type 0 where
  pub server : b.server ≡ server_of w
  pub log : b.moment.log ≡ (moment_of h).log
  pub failed : b.moment.failed ≡ (moment_of h).failed
  pub marks : b.moment.marks ≡ (moment_of h).marks

-- a head that adds no mark, and at which no drive fails
pub record IsPlainHead (b : Seen) (l : Line) : Type 0 where
  pub marks : marks_at b l ≡ []
  pub failed : failed_after b.moment.failed l ≡ b.moment.failed

step_seen : (w : World) (h : List Line) (m : Move) (count q : ℕ) (i : Input) (b : Seen) (l : Line) (rest more : List Line) →
    seen (h ++ take count (lines_in w m)) ≡ sees b (record { head = l; rest = take q rest }) → IsAsAt w h b →
    IsPlainHead b l → IsNamed l → input_at (server_of w) l ≡ Some i →
    rest ≡ map note_line (step w.server m.chosen i).notes ++ more → AllLeave more →
    (is_told_taken (take q rest) ≡ true → takes_loss (Some (step w.server m.chosen i)) ≡ true) →
    IsStepSeen w h m count q i
step_seen w h m count q i b l rest more is there plain name input notes leave told = record {
  named = named_input (server_of w) l i input name;
  before = b;
  step_is = record { head = l; rest = take q rest };
  placed = placed_in (take q rest);
  more = more;
  seen_is = is;
  did = ap (λ (s : ServerSeen). step_by s.server (placed_in (take q rest)) (input_at s l)) there.server
      ∙ ap (step_by w.server (placed_in (take q rest))) input;
  rest = ap (take q) notes;
  leave = leave;
  server = ap (λ (s : ServerSeen). s.server) there.server;
  log = there.log;
  failed = plain.failed ∙ there.failed;
  marks = there.marks;
  no_marks = plain.marks;
  told = told;
}

-- ---- events

given_of : (w : World) (e : Event) → leads e ≡ false → input_in w (Opens e) ≡ given_by w.server e
given_of w (event.Deliver n) no_ = absurd (true≢false no_)
given_of w e no_ = refl

by_test : (b : Bool) (o : Option Input) (i : Input) → (if b then None else o) ≡ Some i → o ≡ Some i
by_test true o i e = absurd (cc e)
by_test false o i e = e

given_input : (s : Server) (e : Event) (i : Input) → given_by s e ≡ Some i → input_of e ≡ Some i
given_input s (event.Drive d key capacity) i is = by_test (knows_drive s d) _ i is
given_input s (event.Disk d key capacity) i is = by_test (knows_drive s d) _ i is
given_input s e i is = is

never_fails : (ds : List ℕ) (e : Event) (i : Input) → input_of e ≡ Some i → failed_after ds (line.Event e) ≡ ds
never_fails ds (event.Fail d) i is = absurd (cc is)
never_fails ds e i is = refl

pub not_opening : (e : Event) → leads e ≡ false → is_opening e ≡ false
not_opening (event.Deliver n) no_ = no_
not_opening (event.Timeout c k) no_ = no_
not_opening (event.Inject d bytes) no_ = no_
not_opening e no_ = refl

-- ---- the server's moves

module _ (book : BookIsRead) (goes : MomentGoesOn) (known : NotesAreKnown) (taken : ToldAreTaken) (w : World) (h : List Line)
    (m : Move) (count : ℕ) (f g : File) (s : State) (k : Follows w h m count f g s) (i : Input)
    (is : input_in w m.action ≡ Some i) (q : ℕ) (at : count ≡ lines_before m.action + q) where
  abbrev notes : List Line
  notes = map note_line (step w.server m.chosen i).notes

  abbrev here : Seen
  here = seen h

  there : IsAsAt w h here
  there = record { server = server_seen_is book w h m count f g s k; log = refl; failed = refl; marks = refl }

  -- what an act tells, and then the messages
  told_then : IsNamedInput i → (a : Act) (front : List Line) (t : TellsNotes w m.chosen i front a.told) (n : ℕ) →
      a.told ++ sent_lines n a.posts ≡ front ++ (notes ++ (t.extra ++ sent_lines n a.posts))
  told_then name a front t n =
      ap (λ (ls : List Line). ls ++ sent_lines n a.posts)
      (t.are
      ∙ ap (λ (ls : List Line). front ++ (ls ++ t.extra))
      (known_all (step w.server m.chosen i).notes
      (known w h k.moment (are_named h (written_front h (take count (lines_in w m)) k.calm.scenario.written)) m.chosen i name)))
      ∙ append_assoc front (notes ++ t.extra) (sent_lines n a.posts)
      ∙ ap (λ (ls : List Line). front ++ ls) (append_assoc notes t.extra (sent_lines n a.posts))

  -- ---- by an event

  event_seen : (e : Event) → m.action ≡ Opens e → leads e ≡ false → IsStepSeen w h m count q i
  event_seen e act no_ =
      let a : Act = begins w m.chosen e in
      let n : ℕ = length a.world.network.messages in
      let rest : List Line = a.told ++ sent_lines n a.posts in
      let lines : lines_in w m ≡ line.Event e ∷ rest =
      ap (λ (x : Action). with_event x (sends_all (acts w m.chosen x)).lines) act in
      let given : given_by w.server e ≡ Some i = sym (given_of w e no_) ∙ ap (input_in w) (sym act) ∙ is in
      let input : input_of e ≡ Some i = given_input w.server e i given in
      let t : TellsNotes w m.chosen i [] a.told = event_told w m.chosen e i no_ given in
      let one : count ≡ suc q =
      at ∙ ap (λ (x : Action). lines_before x + q) act ∙ ap (λ (b : Bool). (if b then 2 else 1) + q) no_ ∙ next q in
      let cut : take count (lines_in w m) ≡ line.Event e ∷ take q rest =
      ap (λ (c : ℕ). take c (lines_in w m)) one ∙ ap (take (suc q)) lines in
      let own_written : AreWritten (line.Event e ∷ take q rest) =
      written_behind h (line.Event e ∷ take q rest)
      (subst (λ (ls : List Line). AreWritten (h ++ ls)) cut k.calm.scenario.written) in
      let bare : Bare (take q rest) =
      bare_taken q rest (sent_bare a (begins_bare w m.chosen e (not_opening e no_))) in
      step_seen w h m count q i here (line.Event e) rest (t.extra ++ sent_lines n a.posts)
      (ap (λ (ls : List Line). seen (h ++ ls)) cut ∙ goes h (line.Event e ∷ take q rest) refl
      ∙ ap (λ (ts : List Step). fold sees here ts) (one_alone (line.Event e) (take q rest) refl bare)) there
      (record { marks = refl; failed = never_fails here.moment.failed e i input }) (named_line (line.Event e) own_written.0) input
      (told_then (named_input (server_of w) (line.Event e) i input (named_line (line.Event e) own_written.0)) a [] t n)
      (leave_more t.extra (sent_lines n a.posts) t.leave (sent_leave n a.posts))
      (taken w h m count f g s k i is (line.Event e ∷ []) rest q lines)
    where
      next : (x : ℕ) → 1 + x ≡ suc x
      next x = omega arith

  -- ---- by a message

  module _ (n : ℕ) (comes : brought w (slice_get w.network.messages n) ≡ Some i) where
    abbrev a : Act
    a = delivers w m.chosen n

    abbrev number : ℕ
    number = length a.world.network.messages

    abbrev t : TellsNotes w m.chosen i (line.Delivered n delivery.Taken ∷ []) a.told
    t = delivers_told w m.chosen n i comes

    abbrev more : List Line
    more = t.extra ++ sent_lines number a.posts

    abbrev rest : List Line
    rest = notes ++ more

    input : input_at (server_of w) (line.Delivered n delivery.Taken) ≡ Some i
    input = by (delivers_lead w m.chosen n)
      where
        by : Leads w (brought w (slice_get w.network.messages n)) a →
            input_at (server_of w) (line.Delivered n delivery.Taken) ≡ Some i
        by (Silent told posts none) = absurd (cc (sym none ∙ comes))
        by (Heads l later told head clock brings flat) =
            let same : l ≡ line.Delivered n delivery.Taken = cc (sym told ∙ t.are) in
            ap (input_at (server_of w)) (sym same) ∙ brings ∙ comes

    own_lines : (sends_all a).lines ≡ line.Delivered n delivery.Taken ∷ rest
    own_lines =
        told_then (named_input (server_of w) (line.Delivered n delivery.Taken) i input tt) a
        (line.Delivered n delivery.Taken ∷ []) t number

    bare_rest : Bare rest
    bare_rest = by (delivers_shape w m.chosen n)
      where
        by : Shape (sends_all a).lines → Bare rest
        by (Nothing e) = absurd (cc (sym e ∙ own_lines))
        by (Left c j e) = absurd (cc (sym e ∙ own_lines))
        by (shapes.Heads x) =
            let same : x.rest ≡ rest = cc (sym x.are ∙ own_lines) in
            subst Bare same x.bare

    leave : AllLeave more
    leave = leave_more t.extra (sent_lines number a.posts) t.leave (sent_leave number a.posts)

    delivered_seen : m.action ≡ Delivers n → IsStepSeen w h m count q i
    delivered_seen act =
        let lines : lines_in w m ≡ line.Delivered n delivery.Taken ∷ rest =
        ap (λ (x : Action). with_event x (sends_all (acts w m.chosen x)).lines) act ∙ own_lines in
        let one : count ≡ suc q = at ∙ ap (λ (x : Action). lines_before x + q) act ∙ next q in
        let cut : take count (lines_in w m) ≡ line.Delivered n delivery.Taken ∷ take q rest =
        ap (λ (c : ℕ). take c (lines_in w m)) one ∙ ap (take (suc q)) lines in
        step_seen w h m count q i here (line.Delivered n delivery.Taken) rest more
        (ap (λ (ls : List Line). seen (h ++ ls)) cut ∙ goes h (line.Delivered n delivery.Taken ∷ take q rest) refl
        ∙ ap (λ (ts : List Step). fold sees here ts)
        (one_alone (line.Delivered n delivery.Taken) (take q rest) refl (bare_taken q rest bare_rest))) there
        (record { marks = refl; failed = refl }) tt input refl leave
        (taken w h m count f g s k i is (line.Delivered n delivery.Taken ∷ []) rest q lines)
      where
        next : (x : ℕ) → 1 + x ≡ suc x
        next x = omega arith

    -- behind the line of the event that delivers it
    abbrev opened : Seen
    opened = sees here (record { head = line.Event (event.Deliver n); rest = [] })

    opened_there : IsAsAt w h opened
    opened_there = record {
      server = server_seen_is book w h m count f g s k;
      log = refl;
      failed = refl;
      marks = append-nil (moment_of h).marks;
    }

    led_seen : m.action ≡ Opens (event.Deliver n) → IsStepSeen w h m count q i
    unfolding begins
    led_seen act =
        let lines : lines_in w m ≡ line.Event (event.Deliver n) ∷ line.Delivered n delivery.Taken ∷ rest =
        ap (λ (x : Action). with_event x (sends_all (acts w m.chosen x)).lines) act
        ∙ ap (λ (ls : List Line). line.Event (event.Deliver n) ∷ ls) own_lines in
        let two : count ≡ suc (suc q) = at ∙ ap (λ (x : Action). lines_before x + q) act ∙ next q in
        let cut : take count (lines_in w m)
        ≡ line.Event (event.Deliver n) ∷ line.Delivered n delivery.Taken ∷ take q rest =
        ap (λ (c : ℕ). take c (lines_in w m)) two ∙ ap (take (suc (suc q))) lines in
        step_seen w h m count q i opened (line.Delivered n delivery.Taken) rest more
        (ap (λ (ls : List Line). seen (h ++ ls)) cut
        ∙ goes h (line.Event (event.Deliver n) ∷ line.Delivered n delivery.Taken ∷ take q rest) refl
        ∙ ap (λ (ts : List Step). fold sees here ts)
        (two_steps (event.Deliver n) (line.Delivered n delivery.Taken) (take q rest) refl (bare_taken q rest bare_rest)))
        opened_there (record { marks = refl; failed = refl }) tt input refl leave
        (taken w h m count f g s k i is (line.Event (event.Deliver n) ∷ line.Delivered n delivery.Taken ∷ []) rest q lines)
      where
        next : (x : ℕ) → 2 + x ≡ suc (suc x)
        next x = omega arith

  by_action : (x : Action) → m.action ≡ x → IsStepSeen w h m count q i
  by_action (Opens e) act = by_event e act
    where
      by_event : (y : Event) → m.action ≡ Opens y → IsStepSeen w h m count q i
      by_event (event.Deliver n) r = led_seen n (sym (ap (input_in w) r) ∙ is) r
      by_event (event.Timeout c j) r = absurd (cc (sym (ap (input_in w) r) ∙ is))
      by_event (event.Inject d bytes) r = absurd (cc (sym (ap (input_in w) r) ∙ is))
      by_event y r = event_seen y r refl
  by_action (Delivers n) act = delivered_seen n (sym (ap (input_in w) act) ∙ is) act
  by_action (TimesOut c j) act = absurd (cc (sym (ap (input_in w) act) ∙ is))
  by_action (Pends c) act = absurd (cc (sym (ap (input_in w) act) ∙ is))

pub cuts_are_seen : BookIsRead → MomentGoesOn → NotesAreKnown → ToldAreTaken → CutsAreSeen
cuts_are_seen book goes known taken w h m count f g s k i is q at =
    by_action book goes known taken w h m count f g s k i is q at m.action refl
