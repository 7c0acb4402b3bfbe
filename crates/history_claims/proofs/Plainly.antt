-- Lines that tell how a call ended, a note or a message: what a party tells in a step, and what it sends.
use Rattle.std.proofs.Common.{◌≡◌, ℕ, ◌+◌, ◌++◌, ◌∷◌, ◌&&◌, [], List, Bool, true, false, true≢false, Option, Some, None, Result, Ok, Err, length, nat_lt, sym, if◌then◌else◌}
use Rattle.std.specs.List.{cons_option, filter_map}
use Rattle.osd_lists.specs.declared.node.Node.{Node}
use Rattle.osd_lists.specs.declared.node.Node.TheVariants as node
use Rattle.server_rules.specs.Files.{Step as ServerStep}
use Rattle.server_rules.specs.Making.{create_file}
use Rattle.server_rules.specs.Messages.{Message as ServerMessage}
use Rattle.server_rules.specs.History as server_input
use Rattle.server_rules.specs.History.{step as server_step}
use Rattle.client_rules.specs.History as client_input
use Rattle.client_rules.specs.History.{step as client_step}
use Rattle.client_rules.specs.Messages.{Message as ClientMessage}
use Rattle.scenario_text.specs.declared.names.TheConstants.{FILES}
use Rattle.scenario_text.specs.declared.line.Outcome.{Outcome}
use Rattle.scenario_text.specs.declared.line.Line.{Line}
use Rattle.scenario_text.specs.declared.line.Line.TheVariants as line
use Rattle.world_history.specs.ServerNames as server_rules
use Rattle.world_history.specs.ClientNames as client_rules
use Rattle.world_history.specs.declared.messages.Message.{Message}
use Rattle.world_history.specs.Told.{kind_of}
use Rattle.world_history.specs.Names.{where_known, note_line, is_tellable_note, known_note_line, known_outcome}
use Rattle.world_history.specs.State.{DriveAt, ClientAt, World, at_number, and_drive}
use Rattle.world_history.specs.Drives.{made_drive, is_deaf}
use Rattle.world_history.specs.Handed.{Post, Handed, end_line, ended_by, server_takes, drive_hears, client_hears, client_takes, for_client, for_server, handed_to, client_goes, op_in}
use Rattle.world_history.specs.Moves.{Act, gives, made_file, makes, has_algorithm, adds_drive, knows_drive, known_drive}
use Rattle.world_history.specs.Reading.{is_head}
use Rattle.world_history.specs.Sending.{sent_lines}

abbrev pub IsPlain : Line → Type 0
IsPlain (line.Ended c o) = Unit {0}
IsPlain (line.Note f n) = Unit {0}
IsPlain (line.Message n from to bytes) = Unit {0}
IsPlain l = ⊥

abbrev pub Plain : List Line → Type 0
Plain [] = Unit {0}
Plain (l ∷ ls) = IsPlain l × Plain ls

-- a step doesn't begin with a plain line
pub not_plain : (l : Line) → is_head l ≡ true → IsPlain l → ⊥
not_plain (line.Ended c o) head p = true≢false (sym head)
not_plain (line.Note f n) head p = true≢false (sym head)
not_plain (line.Message n from to bytes) head p = true≢false (sym head)
not_plain l head p = p

plain_all : (xs ys : List Line) → Plain xs → Plain ys → Plain (xs ++ ys)
plain_all [] ys a b = b
plain_all (x ∷ xs) ys a b = (a.0, plain_all xs ys a.1 b)

-- ---- what is told

note_plain : (known : Bool) (n : server_rules.Note) (ls : List Line) → Plain ls
    → Plain (cons_option (where_known known (note_line n)) ls)
note_plain true n ls b = (tt, b)
note_plain false n ls b = b

pub notes_plain : (ns : List server_rules.Note) → Plain (filter_map known_note_line ns)
notes_plain [] = tt
notes_plain (n ∷ ns) =
    note_plain (nat_lt n.file FILES && is_tellable_note n.kind) n (filter_map known_note_line ns) (notes_plain ns)

end_plain : (c : ℕ) (o : Option Outcome) → Plain (end_line c o)
end_plain c None = tt
end_plain c (Some o) = (tt, tt)

pub ended_plain : (c : ℕ) (op : Option client_rules.CallOp) (o : Option client_rules.Outcome) → Plain (ended_by c op o)
ended_plain c None o = tt
ended_plain c (Some op) None = tt
ended_plain c (Some op) (Some o) = end_plain c (known_outcome (kind_of op) o)

pub goes_plain : (w : World) (c : ℕ) (a : ClientAt) (i : client_input.Input) → Plain (client_goes w c a i).told
goes_plain w c a i = ended_plain c (op_in a.state i) (client_step a.state i).outcome

-- ---- what a party does with a message

either_hand : (b : Bool) (x y : Handed) → Plain x.told → Plain y.told → Plain (if b then x else y).told
either_hand true x y p q = p
either_hand false x y p q = q

drive_plain : (w : World) (d : ℕ) (m : Message) (a : Option DriveAt) → Plain (drive_hears w d m a).told
drive_plain w d m None = tt
drive_plain w d m (Some a) = either_hand (is_deaf a) _ _ tt tt

server_plain : (w : World) (chosen : List ℕ) (from : Node) (m : Option ServerMessage)
    → Plain (server_takes w chosen from m).told
server_plain w chosen from None = tt
server_plain w chosen from (Some m) = notes_plain (server_step w.server chosen (server_input.Hears w.clock from m)).notes

takes_plain : (w : World) (c : ℕ) (a : ClientAt) (from : Node) (m : Option ClientMessage)
    → Plain (client_takes w c a from m).told
takes_plain w c a from None = tt
takes_plain w c a from (Some m) = goes_plain w c a (client_input.Hears from m)

client_plain : (w : World) (c : ℕ) (m : Message) (a : Option ClientAt) → Plain (client_hears w c m a).told
client_plain w c m None = tt
client_plain w c m (Some a) = either_hand a.stopped _ _ tt (takes_plain w c a m.from (for_client m))

pub hand_plain : (w : World) (chosen : List ℕ) (m : Message) (to : Node) → Plain (handed_to w chosen m to).told
hand_plain w chosen m node.Server = either_hand w.down _ _ tt (server_plain w chosen m.from (for_server m))
hand_plain w chosen m (node.Drive d) = drive_plain w d m (at_number w.drives d)
hand_plain w chosen m (node.Client c) = client_plain w c m (at_number w.clients c)

-- ---- what the server is given

either_act : (b : Bool) (x y : Act) → Plain x.told → Plain y.told → Plain (if b then x else y).told
either_act true x y p q = p
either_act false x y p q = q

pub gives_plain : (w : World) (chosen : List ℕ) (i : server_input.Input) → Plain (gives w chosen i).told
unfolding gives
gives_plain w chosen i = notes_plain (server_step w.server chosen i).notes

made_plain : (w : World) (f : ℕ) (r : Result ServerStep server_rules.Refusal) → Plain (made_file w f r).told
made_plain w f (Ok s) = notes_plain s.notes
made_plain w f (Err e) = (tt, tt)

pub makes_plain : (w : World) (chosen : List ℕ) (f : ℕ) (m : server_rules.RawMap) (tag : ℕ) (zoned : Bool)
    → Plain (makes w chosen f m tag zoned).told
unfolding makes
makes_plain w chosen f m tag zoned =
    either_act (has_algorithm m) _ _ (made_plain w f (create_file w.server f m tag zoned chosen)) (tt, tt)

pub adds_plain : (w : World) (d : ℕ) (key : List ℕ) (capacity : ℕ) (stored : Bool)
    → Plain (adds_drive w d key capacity stored).told
adds_plain w d key capacity stored =
    either_act (knows_drive w.server d) _ _ tt
    (gives_plain (and_drive w d (made_drive d key capacity stored)) [] (server_input.Adds (known_drive d key capacity)))

-- ---- and what is sent

sent_plain : (n : ℕ) (ps : List Post) → Plain (sent_lines n ps)
unfolding sent_lines
sent_plain n [] = tt
sent_plain n (p ∷ ps) = (tt, sent_plain (n + 1) ps)

pub told_plain : (a : Act) (ls : List Line) → Plain ls → Plain (ls ++ sent_lines (length a.world.network.messages) a.posts)
told_plain a ls b =
    plain_all ls (sent_lines (length a.world.network.messages) a.posts) b (sent_plain (length a.world.network.messages) a.posts)
