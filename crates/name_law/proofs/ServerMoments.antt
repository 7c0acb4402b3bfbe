-- At each moment lines can name all that the server has, and all that its step sends and notes.
use Rattle.std.proofs.Common.{◌≡◌, ◌<◌, ◌++◌, ◌∷◌, [], ℕ, Bool, true, false, List, map, filter, Option, Some, None, refl, sym, ap, subst, ◌∙◌, inl, inr, if◌then◌else◌}
use Rattle.std.specs.List.{filter_map}
use Rattle.osd_lists.specs.declared.node.Node.{Node}
use Rattle.osd_lists.specs.declared.node.Node.TheVariants as node
use Rattle.data_map.specs.declared.check.RawMap.{RawMap}
use Rattle.scenario_text.specs.declared.names.TheConstants.{DRIVES, FILES}
use Rattle.scenario_text.specs.declared.event.Event.TheVariants as event
use Rattle.scenario_text.specs.declared.event.Machine.TheVariants as machine
use Rattle.scenario_text.specs.declared.event.Sender.TheVariants as sender
use Rattle.scenario_text.specs.declared.line.Line.{Line}
use Rattle.scenario_text.specs.declared.line.Line.TheVariants as line
use Rattle.server_rules.specs.Files.{Step}
use Rattle.server_rules.specs.Laws.{In}
use Rattle.server_rules.specs.Making.{new_server}
use Rattle.server_rules.specs.Messages.{Message as ServerMessage}
use Rattle.server_rules.specs.History.{Input, Hears, Makes, Adds, Resends, Act, step, state_after}
use Rattle.world_history.specs.ServerNames.{Server, Drive, Note, Outgoing}
use Rattle.world_history.specs.declared.messages.Message.{Message}
use Rattle.world_history.specs.declared.messages.Posted.{Posted}
use Rattle.world_history.specs.Book.{made_of}
use Rattle.world_history.specs.State.{World}
use Rattle.world_history.specs.Names.{note_line, known_note_line}
use Rattle.world_history.specs.Handed.{Post, is_addressed, server_post, for_server}
use Rattle.world_history.specs.History.{OneEventMore}
use Rattle.world_history.specs.Moves.{Action, Opens, Delivers, begins, gives, known_drive, knows_drive, raw_of, has_algorithm, acts}
use Rattle.world_history.specs.Sending.{Move, move}
use Rattle.history_law.specs.Moves.{given_in, IsForServer}
use Rattle.history_law.proofs.Moves.{none_added}
use Rattle.history_law.specs.BookMoments.{lines_in}
use Rattle.history_law.specs.Doing.{heard_of, brought_to, brought, input_in, did_in, ServerMoves}
use Rattle.exchange_law.specs.Text.{IsOfText}
use Rattle.component_law.specs.Naming.{IsNamed, IsNamedInput}
use Rattle.component_law.specs.Tagged.{AreNamedActs}
use Rattle.component_law.proofs.Doing.{IsNamedAction}
use Rattle.component_law.proofs.Moments.{each_first, each_second, named_action, server_sent_its_run}
use Rattle.name_law.specs.ServerNamed.{IsNamedServer, SendsToNamed}
use Rattle.name_law.specs.ServerTells.{given_to_server, LeavesNothingOut, TextsAreNamed, ServerIsNamed, ServerSendsToNamed, ServerLeavesNothingOut}
use Rattle.name_law.proofs.ServerSteps.{each_server_step_is_named}

-- ---- over a run

first_named : IsNamedServer (new_server [])
first_named = record { drives = tt; files = λ f i. absurd i; slots = λ x i. absurd i }

run_named : (s : Server) (acts : List Act) → IsNamedServer s → AreNamedActs acts → IsNamedServer (state_after s acts)
run_named s [] h named = h
run_named s (a ∷ acts) h named =
    run_named (step s a.chosen a.input).state acts (each_server_step_is_named s a.chosen a.input h named.0).0 named.1

pub server_is_named : OneEventMore → ServerIsNamed
server_is_named more w h k named =
    let r = server_sent_its_run more w h k named in
    subst IsNamedServer (sym r.server) (run_named (new_server []) r.acts first_named r.named)

-- ---- what comes to the server in a move

heard_named : (now : ℕ) (from : Node) (o : Option ServerMessage) (i : Input) → heard_of now from o ≡ Some i
    → IsNamedInput i
heard_named now from None i e = absurd (cc e)
heard_named now from (Some m) i e =
    let same : Hears now from m ≡ i = cc e in subst IsNamedInput same tt

unless_asleep : (b : Bool) (o : Option Input) (i : Input) → (if b then None else o) ≡ Some i
    → (o ≡ Some i → IsNamedInput i) → IsNamedInput i
unless_asleep true o i e go = absurd (cc e)
unless_asleep false o i e go = go e

brought_named : (w : World) (m : Message) (to : Node) (i : Input) → brought_to w m to ≡ Some i → IsNamedInput i
brought_named w m node.Server i e =
    unless_asleep w.down _ i e (λ x. heard_named w.clock m.from (for_server m) i x)
brought_named w m to i e = absurd (cc e)

message_named : (w : World) (o : Option Posted) (i : Input) → brought w o ≡ Some i → IsNamedInput i
message_named w None i e = absurd (cc e)
message_named w (Some p) i e = brought_named w p.message p.message.to i e

drive_named : (b : Bool) (d : Drive) (i : Input) → d.number < DRIVES → (if b then None else Some (Adds d)) ≡ Some i
    → IsNamedInput i
drive_named true d i less e = absurd (cc e)
drive_named false d i less e = let same : Adds d ≡ i = cc e in subst IsNamedInput same less

file_named : (n : ℕ) (m : RawMap) (tag : ℕ) (zoned : Bool) (i : Input) → n < FILES → made_of n m tag zoned ≡ Some i
    → IsNamedInput i
file_named n m tag zoned i less e = either (has_algorithm m) e
  where
    either : (b : Bool) → (if b then Some (Makes n m tag zoned) else None) ≡ Some i → IsNamedInput i
    either true x = let same : Makes n m tag zoned ≡ i = cc x in subst IsNamedInput same less
    either false x = absurd (cc x)

plain : (j i : Input) → IsNamedInput j → Some j ≡ Some i → IsNamedInput i
plain j i named e = let same : j ≡ i = cc e in subst IsNamedInput same named

comes_named : (w : World) (action : Action) (i : Input) → given_to_server w action ≡ Some i → IsNamedAction action
    → IsNamedInput i
comes_named w (Opens (event.Deliver number)) i e named = message_named w _ i e
comes_named w (Delivers number) i e named = message_named w _ i e
comes_named w (Opens (event.Drive d key capacity)) i e named =
    drive_named (knows_drive w.server d) (known_drive d key capacity) i named e
comes_named w (Opens (event.Disk d key capacity)) i e named =
    drive_named (knows_drive w.server d) (known_drive d key capacity) i named e
comes_named w (Opens (event.File f m tag)) i e named = file_named f (raw_of m) tag false i named e
comes_named w (Opens (event.ZonedFile f m tag)) i e named = file_named f (raw_of m) tag true i named e
comes_named w (Opens (event.Zone d zone)) i e named = plain _ i tt e
comes_named w (Opens (event.Format format)) i e named = plain _ i tt e
comes_named w (Opens (event.Resend sender.Server)) i e named = plain _ i tt e
comes_named w (Opens (event.Recall f)) i e named = plain _ i tt e
comes_named w (Opens (event.Revoke f)) i e named = plain _ i tt e
comes_named w (Opens (event.Rebuild f)) i e named = plain _ i tt e
comes_named w (Opens (event.Audit f)) i e named = plain _ i tt e
comes_named w (Opens (event.Declare d)) i e named = plain _ i tt e
comes_named w (Opens (event.Crash machine.Server)) i e named = plain _ i tt e
comes_named w (Opens (event.Reopen machine.Server)) i e named = plain _ i tt e
comes_named w action i e named = absurd (cc e)

-- whatever a move may hand it
made_named : (w : World) (action : Action) (n : ℕ) (m : RawMap) (tag : ℕ) (zoned : Bool)
    → given_in action ≡ Some (Makes n m tag zoned) → IsNamedAction action → n < FILES
made_named w (Opens (event.File f x t)) n m tag zoned e named =
    let same : Makes f (raw_of x) t false ≡ Makes n m tag zoned = cc e in subst IsNamedInput same named
made_named w (Opens (event.ZonedFile f x t)) n m tag zoned e named =
    let same : Makes f (raw_of x) t true ≡ Makes n m tag zoned = cc e in subst IsNamedInput same named
made_named w (Opens (event.Format format)) n m tag zoned e named = absurd (cc e)
made_named w (Opens (event.Zone d zone)) n m tag zoned e named = absurd (cc e)
made_named w (Opens (event.Resend sender.Server)) n m tag zoned e named = absurd (cc e)
made_named w (Opens (event.Recall f)) n m tag zoned e named = absurd (cc e)
made_named w (Opens (event.Revoke f)) n m tag zoned e named = absurd (cc e)
made_named w (Opens (event.Rebuild f)) n m tag zoned e named = absurd (cc e)
made_named w (Opens (event.Audit f)) n m tag zoned e named = absurd (cc e)
made_named w (Opens (event.Declare d)) n m tag zoned e named = absurd (cc e)
made_named w (Opens (event.Crash machine.Server)) n m tag zoned e named = absurd (cc e)
made_named w (Opens (event.Reopen machine.Server)) n m tag zoned e named = absurd (cc e)
made_named w action n m tag zoned e named = absurd (cc e)

handed_named : (w : World) (action : Action) (i : Input) → IsForServer w action i → IsNamedAction action
    → IsNamedInput i
handed_named w action (Makes n m tag zoned) is named = made_named w action n m tag zoned is named
handed_named w action (Adds d) is named = absurd (none_added w action d is)
handed_named w action i is named = tt

pub server_sends_to_named : OneEventMore → ServerSendsToNamed
server_sends_to_named more w h k m d named i is =
    (each_server_step_is_named w.server m.chosen i
    (server_is_named more w h k (each_first IsNamed h (lines_in w m) named))
    (handed_named w m.action i is
    (named_action m.action (move w m).lines (each_second IsNamed h (lines_in w m) named)))).1

-- ---- a scenario's text

line_named : (l : Line) → IsOfText l → IsNamed l
line_named (line.Event (event.Drive d key capacity)) fits = fits.1.0
line_named (line.Event (event.Disk d key capacity)) fits = fits.1.0
line_named (line.Event (event.File f m tag)) fits = fits.1.0
line_named (line.Event (event.ZonedFile f m tag)) fits = fits.1.0
line_named l fits = tt

pub texts_are_named : TextsAreNamed
texts_are_named [] text = tt
texts_are_named (l ∷ h) text = (line_named l text.0, texts_are_named h text.1)

-- ---- nothing is left out

all_sent : (os : List Outgoing) → ((o : Outgoing) → In o os → is_addressed (server_post o) ≡ true)
    → filter is_addressed (map server_post os) ≡ map server_post os
all_sent [] all = refl
all_sent (o ∷ os) all =
    first (is_addressed (server_post o)) (all o (inl refl))
    ∙ ap (λ (ps : List Post). server_post o ∷ ps) (all_sent os (λ x i. all x (inr i)))
  where
    first : (b : Bool) → b ≡ true
        → (if b then server_post o ∷ filter is_addressed (map server_post os) else filter is_addressed (map server_post os))
        ≡ server_post o ∷ filter is_addressed (map server_post os)
    first true e = refl
    first false e = absurd (cc e)

all_told : (ns : List Note) → ((n : Note) → In n ns → known_note_line n ≡ Some (note_line n))
    → filter_map known_note_line ns ≡ map note_line ns
all_told [] all = refl
all_told (n ∷ ns) all =
    rw (all n (inl refl)) (ap (λ (ls : List Line). note_line n ∷ ls) (all_told ns (λ x i. all x (inr i))))

-- a step that the server takes as `history_law` has it
by_move : ServerMoves → (w : World) (m : Move) (t : Step) → did_in w m ≡ Some t → SendsToNamed t
    → LeavesNothingOut w m t
by_move moves w m t did s =
    let k = moves w m in
    let f = k.told t did in
    record {
      named = s;
      posts = k.posts t did ∙ all_sent t.sends s.receivers;
      told = (f.0, f.1 ∙ ap (λ (ls : List Line). f.0 ++ ls) (all_told t.notes s.notes));
    }

by_input : ServerMoves → (w : World) (m : Move) (i : Input) → input_in w m.action ≡ Some i
    → SendsToNamed (step w.server m.chosen i) → LeavesNothingOut w m (step w.server m.chosen i)
by_input moves w m i e s = by_move moves w m (step w.server m.chosen i) (rw e refl) s

-- what it sends again
sent_again : (w : World) (chosen : List ℕ) (i : Input) → Some Resends ≡ Some i → SendsToNamed (step w.server chosen i)
    → LeavesNothingOut w (record { chosen = chosen; action = Opens (event.Resend sender.Server) }) (step w.server chosen i)
unfolding begins gives
sent_again w chosen i e s =
    let same : Resends ≡ i = cc e in
    subst (λ (j : Input). LeavesNothingOut w (record { chosen = chosen; action = Opens (event.Resend sender.Server) })
    (step w.server chosen j)) same
    (again (subst (λ (j : Input). SendsToNamed (step w.server chosen j)) (sym same) s))
  where
    again : SendsToNamed (step w.server chosen Resends)
        → LeavesNothingOut w (record { chosen = chosen; action = Opens (event.Resend sender.Server) })
        (step w.server chosen Resends)
    again k = record { named = k; posts = all_sent _ k.receivers; told = ([], refl) }

leaves : ServerMoves → (w : World) (chosen : List ℕ) (action : Action) (i : Input) → given_to_server w action ≡ Some i
    → SendsToNamed (step w.server chosen i)
    → LeavesNothingOut w (record { chosen = chosen; action = action }) (step w.server chosen i)
leaves moves w chosen (Opens (event.Resend sender.Server)) i e s = sent_again w chosen i e s
leaves moves w chosen action i e s = by_input moves w (record { chosen = chosen; action = action }) i e s

pub server_leaves_nothing_out : ServerMoves → OneEventMore → ServerLeavesNothingOut
server_leaves_nothing_out moves more w h k m d named i e =
    leaves moves w m.chosen m.action i e
    (each_server_step_is_named w.server m.chosen i
    (server_is_named more w h k (each_first IsNamed h (lines_in w m) named))
    (comes_named w m.action i e
    (named_action m.action (move w m).lines (each_second IsNamed h (lines_in w m) named)))).1
