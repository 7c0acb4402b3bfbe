-- Which lines the moves of a world have: what a party tells begins no step.
use Rattle.std.proofs.Common.{◌≡◌, ℕ, ◌++◌, ◌∷◌, ◌&&◌, [], List, Bool, true, false, Option, Some, None, length, slice_get, nat_lt, refl, ap, if◌then◌else◌}
use Rattle.std.specs.List.{cons_option, filter_map}
use Rattle.osd_lists.specs.declared.node.Node.{Node}
use Rattle.osd_lists.specs.declared.node.Node.TheVariants as node
use Rattle.server_rules.specs.Messages.{Message as ServerMessage}
use Rattle.server_rules.specs.History.{Hears as ServerHears, step as server_step}
use Rattle.client_rules.specs.History as client_input
use Rattle.client_rules.specs.Messages.{Message as ClientMessage}
use Rattle.client_rules.specs.History.{step as client_step}
use Rattle.scenario_text.specs.declared.names.TheConstants.{FILES}
use Rattle.scenario_text.specs.declared.line.CallKind.{CallKind}
use Rattle.scenario_text.specs.declared.line.Outcome.{Outcome}
use Rattle.scenario_text.specs.declared.line.Line.{Line}
use Rattle.scenario_text.specs.declared.line.Line.TheVariants as line
use Rattle.world_history.specs.ServerNames as server_rules
use Rattle.world_history.specs.ClientNames as client_rules
use Rattle.world_history.specs.Told.{kind_of}
use Rattle.world_history.specs.Names.{where_known, note_line, is_tellable_note, known_note_line, known_outcome}
use Rattle.world_history.specs.declared.messages.Message.{Message}
use Rattle.world_history.specs.declared.messages.Posted.{Posted}
use Rattle.world_history.specs.State.{DriveAt, ClientAt, World, at_number}
use Rattle.world_history.specs.Drives.{is_deaf}
use Rattle.world_history.specs.Handed.{Handed, end_line, ended_by, server_takes, drive_hears, client_hears, client_takes, for_client, for_server, handed_to, handed, client_goes, op_in, pending_op}
use Rattle.world_history.specs.Moves.{Act, behind, by_client, pends_as, delivers_found, delivers, marked, times_out, pends}
use Rattle.world_history.specs.Sending.{sent_lines, sends_all}
use Rattle.world_history.specs.Reading.{is_head}
use Rattle.history_law.proofs.BookLines.{sent_no_head}
use Rattle.component_law.specs.LeftPending.{left_pending}

-- ---- lines of which none begins a step

abbrev pub Bare : List Line → Type 0
Bare [] = Unit {0}
Bare (l ∷ ls) = (is_head l ≡ false) × Bare ls

pub bare_all : (xs ys : List Line) → Bare xs → Bare ys → Bare (xs ++ ys)
bare_all [] ys a b = b
bare_all (x ∷ xs) ys a b = (a.0, bare_all xs ys a.1 b)

bare_note : (known : Bool) (n : server_rules.Note) (ls : List Line) → Bare ls
    → Bare (cons_option (where_known known (note_line n)) ls)
bare_note true n ls b = (refl, b)
bare_note false n ls b = b

pub bare_notes : (ns : List server_rules.Note) → Bare (filter_map known_note_line ns)
bare_notes [] = tt
bare_notes (n ∷ ns) =
    bare_note (nat_lt n.file FILES && is_tellable_note n.kind) n (filter_map known_note_line ns) (bare_notes ns)

bare_end : (c : ℕ) (o : Option Outcome) → Bare (end_line c o)
bare_end c None = tt
bare_end c (Some o) = (refl, tt)

pub bare_ended : (c : ℕ) (op : Option client_rules.CallOp) (o : Option client_rules.Outcome) → Bare (ended_by c op o)
bare_ended c None o = tt
bare_ended c (Some op) None = tt
bare_ended c (Some op) (Some o) = bare_end c (known_outcome (kind_of op) o)

-- ---- what a party does

pub bare_goes : (w : World) (c : ℕ) (a : ClientAt) (i : client_input.Input) → Bare (client_goes w c a i).told
bare_goes w c a i = bare_ended c (op_in a.state i) (client_step a.state i).outcome

either_hand : (b : Bool) (x y : Handed) → Bare x.told → Bare y.told → Bare (if b then x else y).told
either_hand true x y p q = p
either_hand false x y p q = q

drive_hand : (w : World) (d : ℕ) (m : Message) (a : Option DriveAt) → Bare (drive_hears w d m a).told
drive_hand w d m None = tt
drive_hand w d m (Some a) = either_hand (is_deaf a) _ _ tt tt

server_hand : (w : World) (chosen : List ℕ) (from : Node) (m : Option ServerMessage)
    → Bare (server_takes w chosen from m).told
server_hand w chosen from None = tt
server_hand w chosen from (Some m) = bare_notes (server_step w.server chosen (ServerHears w.clock from m)).notes

client_hand : (w : World) (c : ℕ) (a : ClientAt) (from : Node) (m : Option ClientMessage)
    → Bare (client_takes w c a from m).told
client_hand w c a from None = tt
client_hand w c a from (Some m) = bare_goes w c a (client_input.Hears from m)

client_heard : (w : World) (c : ℕ) (m : Message) (a : Option ClientAt) → Bare (client_hears w c m a).told
client_heard w c m None = tt
client_heard w c m (Some a) = either_hand a.stopped _ _ tt (client_hand w c a m.from (for_client m))

hand_to : (w : World) (chosen : List ℕ) (m : Message) (to : Node) → Bare (handed_to w chosen m to).told
hand_to w chosen m node.Server = either_hand w.down _ _ tt (server_hand w chosen m.from (for_server m))
hand_to w chosen m (node.Drive d) = drive_hand w d m (at_number w.drives d)
hand_to w chosen m (node.Client c) = client_heard w c m (at_number w.clients c)

-- ---- the lines of a move

abbrev pub is_event : Line → Bool
is_event (line.Event e) = true
is_event l = false

-- what is told and what is sent, where a line of its own stands first
pub record IsHeaded (ls : List Line) : Type 0 where
  pub head : Line
  pub rest : List Line
  pub begins : is_head head ≡ true
  pub inside : is_event head ≡ false
  pub bare : Bare rest
  pub are : ls ≡ head ∷ rest

-- they are none; or that a call is left pending; or one with which a step begins, and others behind it
pub data Shape (ls : List Line) : Type 0 where
  Nothing : ls ≡ [] → Shape ls
  Left : (c : ℕ) → (k : CallKind) → ls ≡ left_pending c k ∷ [] → Shape ls
  Heads : IsHeaded ls → Shape ls

pub sent_bare : (a : Act) → Bare a.told → Bare (sends_all a).lines
sent_bare a b = bare_all a.told (sent_lines (length a.world.network.messages) a.posts) b
    (sent_no_head (length a.world.network.messages) a.posts)

pub sent_headed : (a : Act) (head : Line) (told : List Line) → is_head head ≡ true → is_event head ≡ false → Bare told
    → a.told ≡ head ∷ told → IsHeaded (sends_all a).lines
sent_headed a head told h i b e = record {
  head = head;
  rest = told ++ sent_lines (length a.world.network.messages) a.posts;
  begins = h;
  inside = i;
  bare = bare_all told (sent_lines (length a.world.network.messages) a.posts) b
      (sent_no_head (length a.world.network.messages) a.posts);
  are = ap (λ (ls : List Line). ls ++ sent_lines (length a.world.network.messages) a.posts) e;
}

-- ---- a delivery, a timeout, a call that is left pending

pub found_headed : (w : World) (chosen : List ℕ) (n : ℕ) (p : Posted)
    → IsHeaded (sends_all (delivers_found w chosen n (Some p))).lines
found_headed w chosen n p =
    sent_headed (delivers_found w chosen n (Some p)) (line.Delivered n (handed (marked w n p) chosen p.message).receipt)
    (handed (marked w n p) chosen p.message).told refl refl (hand_to (marked w n p) chosen p.message p.message.to) refl

found_shape : (w : World) (chosen : List ℕ) (n : ℕ) (p : Option Posted)
    → Shape (sends_all (delivers_found w chosen n p)).lines
unfolding sent_lines
found_shape w chosen n None = Nothing refl
found_shape w chosen n (Some p) = Heads (found_headed w chosen n p)

pub delivers_shape : (w : World) (chosen : List ℕ) (n : ℕ) → Shape (sends_all (delivers w chosen n)).lines
unfolding delivers
delivers_shape w chosen n = found_shape w chosen n (slice_get w.network.messages n)

pub timed_headed : (w : World) (c k : ℕ) (a : ClientAt) → at_number w.clients c ≡ Some a
    → IsHeaded (sends_all (times_out w c k)).lines
unfolding times_out
timed_headed w c k a e =
    rw e (sent_headed (behind (line.TimedOut c k) (client_goes w c a (client_input.TimesOut k))) (line.TimedOut c k)
    (client_goes w c a (client_input.TimesOut k)).told refl refl (bare_goes w c a (client_input.TimesOut k)) refl)

pub times_shape : (w : World) (c k : ℕ) → Shape (sends_all (times_out w c k)).lines
unfolding times_out sent_lines
times_shape w c k = found (at_number w.clients c)
  where
    found : (a : Option ClientAt)
        → Shape (sends_all (by_client w (λ x. behind (line.TimedOut c k) (client_goes w c x (client_input.TimesOut k))) a)).lines
    found None = Nothing refl
    found (Some a) =
        Heads (sent_headed (behind (line.TimedOut c k) (client_goes w c a (client_input.TimesOut k))) (line.TimedOut c k)
        (client_goes w c a (client_input.TimesOut k)).told refl refl (bare_goes w c a (client_input.TimesOut k)) refl)

left_shape : (w : World) (c : ℕ) (op : Option client_rules.CallOp) → Shape (sends_all (pends_as w c op)).lines
unfolding sent_lines
left_shape w c None = Nothing refl
left_shape w c (Some op) = Left c (kind_of op) refl

pub pends_shape : (w : World) (c : ℕ) → Shape (sends_all (pends w c)).lines
unfolding pends sent_lines
pends_shape w c = found (at_number w.clients c)
  where
    found : (a : Option ClientAt) → Shape (sends_all (by_client w (λ x. pends_as w c (pending_op x.state)) a)).lines
    found None = Nothing refl
    found (Some a) = left_shape w c (pending_op a.state)
