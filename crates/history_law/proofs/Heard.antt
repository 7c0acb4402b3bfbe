-- What the server hears of a SET TAG that it awaits is true, as far as only its commands are performed under its
-- holder.
use Rattle.std.proofs.Common.{◌≡◌, ◌⊎◌, ◌==◌, ℕ, ◌+◌, ◌<◌, ◌^◌, ◌++◌, ◌∷◌, [], List, true, nat_lt, Some, Result, Ok, Err, map, slice_get, refl, sym, ap, subst, ◌∙◌, append_assoc, arith, inl, inr}
use Rattle.std.proofs.lemmas.Bool.{cases_lt, and_parts}
use Rattle.std.proofs.lemmas.Bool.Decides.{nat_tests}
use Rattle.std.proofs.lemmas.List.{append-nil}
use Rattle.osd_lists.specs.declared.node.Node.{Node}
use Rattle.osd_lists.specs.declared.node.Node.TheVariants as node
use Rattle.osd_commands.specs.declared.commands.Command.{Command}
use Rattle.osd_commands.specs.declared.commands.CommandErr.{CommandErr}
use Rattle.osd_commands.specs.declared.replies.Reply.{Reply}
use Rattle.osd_commands.specs.Commands.{reading, spelling}
use Rattle.osd_commands.specs.Replies as replies
use Rattle.osd_objects.specs.Lanes.{lane_of}
use Rattle.osd_drive.specs.declared.verdict.Verdict.{Verdict}
use Rattle.osd_drive.specs.Table.{first_fault}
use Rattle.osd_drive.specs.Effects.{format_reply, reply_by, state_by}
use Rattle.server_rules.specs.declared.limits.TheConstants.{SERVER_HOLDER}
use Rattle.server_rules.specs.Laws.{In}
use Rattle.server_rules.specs.Envelopes.{message_in, by_reply}
use Rattle.server_rules.specs.Messages.{Replies as RepliesTo, awaited_by, counters_have_room}
use Rattle.server_rules.specs.Replies.{is_done, answers}
use Rattle.server_rules.proofs.Members.{in_mapped, in_map}
use Rattle.scenario_text.specs.declared.line.Party.TheVariants as party
use Rattle.scenario_text.specs.declared.line.Line.{Line}
use Rattle.scenario_text.specs.declared.line.Line.TheVariants as line
use Rattle.world_history.specs.ServerNames.{Awaited, File}
use Rattle.world_history.specs.declared.messages.Body.{Body}
use Rattle.world_history.specs.declared.messages.Body.TheVariants.{Command as OfCommand}
use Rattle.world_history.specs.declared.messages.Message.{Message}
use Rattle.world_history.specs.declared.messages.Posted.{Posted}
use Rattle.world_history.specs.declared.messages.Sent.{Sent}
use Rattle.world_history.specs.State.{World, DriveAt}
use Rattle.world_history.specs.Spelled.{spelled, party_of}
use Rattle.world_history.specs.Drives.{judges}
use Rattle.world_history.specs.Handed.{for_server}
use Rattle.world_history.specs.Reading.{sent_in}
use Rattle.world_history.specs.ReadDrives.{drive_after}
use Rattle.world_history.specs.Laws.{shown}
use Rattle.world_history.proofs.Parties.{party_server, party_drive}
use Rattle.history_law.specs.Judging.{Replies}
use Rattle.history_law.proofs.Each.{EachBehind, HoldsAt, each_front}
use Rattle.history_law.proofs.DriveLines.{sent_read, shown_get}
use Rattle.history_law.proofs.DriveEvents.{IsRead}
use Rattle.history_law.proofs.Spending.{all_spend}
use Rattle.history_law.specs.Numbered.{Awaits, IsOf}
use Rattle.history_law.specs.Fencing.{Raises}
use Rattle.history_law.specs.Reaching.{has_reached, reached_in, OwnAt}
use Rattle.history_law.proofs.Spelled.{command_reads, RepliesAs, reply_reads}
use Rattle.history_law.proofs.LaneLines.{letter, letters, letters_stay, in_get, SentTo, lanes_are_servers}
use Rattle.history_law.proofs.Letters.{Told, letters_told}
use Rattle.history_law.proofs.FencingMoves.{messages_in}
use Rattle.history_law.proofs.Numbers.{to_drive, Numbers}
use Rattle.history_law.proofs.Reaching.{has_stays, reached_by}
use Rattle.history_law.proofs.Telling.{counts, reply_nonce_is, verdict_low, LaneShows, raised_behind}

-- ---- parties and messages

-- where a letter is read, the message stands in the world
pub letter_message : (ms : List Posted) (x : Sent) → In x (letters (map shown ms)) → (q : Posted) × In q ms
    × (x ≡ letter (shown q))
letter_message ms x i =
    let s = in_mapped letter x (map shown ms) i in
    let q = in_mapped shown s.0 ms s.1 in
    (q.0, q.1, s.2 ∙ ap letter q.2)

-- the server's message to a drive is a command
pub record IsCommand (w : World) (d : ℕ) (bytes : List ℕ) : Type 0 where
  pub command : Command
  pub sent : In (to_drive d (OfCommand command)) (messages_in w)
  pub low : command.nonce < w.server.next_nonce
  pub bytes_are : bytes ≡ spelling command

pub its_command : (w : World) (n : Numbers w) (d : ℕ) (bytes : List ℕ) (m : Message) → In m (messages_in w)
    → m ≡ to_drive d m.body → bytes ≡ spelled m.body → IsCommand w d bytes
its_command w n d bytes m i is spells =
    let there : In (to_drive d m.body) (messages_in w) = subst (λ (x : Message). In x (messages_in w)) is i in
    let c = n.sent d m.body there in
    record {
      command = c.0;
      sent = subst (λ (b : Body). In (to_drive d b) (messages_in w)) c.1 there;
      low = c.2;
      bytes_are = spells ∙ ap spelled c.1;
    }

pub world_command : (w : World) (h : List Line) → IsRead w h → Numbers w → (d : ℕ) (bytes : List ℕ) → SentTo h d bytes
    → IsCommand w d bytes
world_command w h r n d bytes s =
    let q = letter_message w.network.messages s.message
    (subst (λ (ss : List Sent). In s.message (letters ss)) (sent_read w r.injected h r.drives) s.sent) in
    let m : Message = q.0.message in
    let sender : m.from ≡ node.Server =
    party_server m.from (ap (λ (x : Sent). x.from) (sym q.2) ∙ s.sender) in
    let receiver : m.to ≡ node.Drive d = party_drive m.to d (ap (λ (x : Sent). x.to) (sym q.2) ∙ s.receiver) in
    its_command w n d bytes m (in_map (λ (p : Posted). p.message) q.0 w.network.messages q.1)
    (ap (λ (f : Node). whole f m.to m.body) sender ∙ ap (λ (t : Node). whole node.Server t m.body) receiver)
    (sym s.bytes_are ∙ ap (λ (x : Sent). x.bytes) q.2)
  where
    whole : Node → Node → Body → Message
    whole f t b = record { from = f; to = t; body = b }

-- ---- the awaited command

pub low_nonce : (w : World) → counters_have_room w.server ≡ true → w.server.next_nonce < 2 ^ 63
unfolding counters_have_room
low_nonce w e = less w.server.next_nonce (2 ^ 63) (and_parts _ _ e).0
  where
    less : (a b : ℕ) → nat_lt a b ≡ true → a < b
    less a b x = grind (arith, x, nat_tests)

-- what a drive read with the nonce of an awaited command is that command
pub record IsIt (d : ℕ) (a : Awaited) (c : Command) : Type 0 where
  pub drive : a.drive ≡ d
  pub action : c.action ≡ a.command.action
  pub object : a.command.object < 2 ^ 64 → c.object ≡ a.command.object
  pub tag : a.command.capability.tag < 2 ^ 32 → c.capability.tag ≡ a.command.capability.tag
  pub holder : a.command.capability.holder < 2 ^ 32 → c.capability.holder ≡ a.command.capability.holder

pub read_nonce : (w : World) (d : ℕ) (bytes : List ℕ) (k : IsCommand w d bytes) (c : Command) → counters_have_room w.server ≡ true
    → reading bytes ≡ Ok c → (c.nonce ≡ k.command.nonce) × (c.nonce < 2 ^ 64)
read_nonce w d bytes k c low read =
    let below : k.command.nonce < 2 ^ 64 = omega (arith, low_nonce w low, k.low) in
    let same : c.nonce ≡ k.command.nonce =
    (command_reads k.command c (ap reading (sym k.bytes_are) ∙ read)).nonce below in
    (same, omega (arith, same, below))

identify : (w : World) → Numbers w → counters_have_room w.server ≡ true → (d : ℕ) (bytes : List ℕ) (k : IsCommand w d bytes)
    (c : Command) → reading bytes ≡ Ok c → (a : Awaited) → Awaits w.server.files a → c.nonce ≡ a.command.nonce
    → IsIt d a c
identify w n low d bytes k c read a waits nonce =
    let reads = command_reads k.command c (ap reading (sym k.bytes_are) ∙ read) in
    let is : IsOf d k.command a =
    n.answers d k.command k.sent a waits (sym nonce ∙ (read_nonce w d bytes k c low read).0) in
    record {
      drive = is.0;
      action = reads.action ∙ ap (λ (x : Command). x.action) is.1;
      object =
          λ fits. reads.object (subst (λ (x : ℕ). x < 2 ^ 64) (sym (ap (λ (x : Command). x.object) is.1)) fits)
          ∙ ap (λ (x : Command). x.object) is.1;
      tag =
          λ fits. reads.tag (subst (λ (x : ℕ). x < 2 ^ 32) (sym (ap (λ (x : Command). x.capability.tag) is.1)) fits)
          ∙ ap (λ (x : Command). x.capability.tag) is.1;
      holder =
          λ fits. reads.holder (subst (λ (x : ℕ). x < 2 ^ 32) (sym (ap (λ (x : Command). x.capability.holder) is.1))
          fits)
          ∙ ap (λ (x : Command). x.capability.holder) is.1;
    }

-- ---- the reply

module _ (w : World) (h : List Line) (r : IsRead w h) (n : Numbers w) (own : EachBehind OwnAt [] h)
    (low : counters_have_room w.server ≡ true) (d : ℕ) (a : Awaited) (waits : Awaits w.server.files a) (tag : ℕ)
    (raises : Raises tag a) (object_fits : a.command.object < 2 ^ 64) (tag_fits : tag + 1 < 2 ^ 32) where
  -- the facts of a command of that nonce
  own_tag : (c : Command) → IsIt d a c → c.capability.tag ≡ tag
  own_tag c is = is.tag (omega (arith, raises.tagged, tag_fits)) ∙ raises.tagged

  own_holder : (c : Command) → IsIt d a c → c.capability.holder ≡ SERVER_HOLDER
  own_holder c is = is.holder (omega (arith, raises.holder)) ∙ raises.holder

  lane_shows : (lines more : List Line) → h ≡ lines ++ more → (there : DriveAt) → drive_after lines d ≡ Some there
      → (c : Command) → IsIt d a c → c.nonce ≡ a.command.nonce → LaneShows there c (c.capability.tag + 1)
  lane_shows lines more is there stands c it nonce x l found lane same =
      let s = lanes_are_servers lines (each_front HoldsAt [] lines more (subst (EachBehind HoldsAt []) is r.lines))
      (each_front OwnAt [] lines more (subst (EachBehind OwnAt []) is own)) d there stands c.object x l found
      (subst (λ (q : ℕ). lane_of x.lanes q ≡ Some l) (own_holder c it) lane) in
      let before : SentTo h d s.bytes = record {
        message = s.sent.message;
        sent = subst (λ (ls : List Line). In s.sent.message (letters (sent_in ls))) (sym is)
            (letters_stay lines more s.sent.message s.sent.sent);
        sender = s.sent.sender;
        receiver = s.sent.receiver;
        bytes_are = s.sent.bytes_are;
      } in
      let k = world_command w h r n d s.bytes before in
      let again = identify w n low d s.bytes k s.command s.read a waits (s.nonce_is ∙ same ∙ nonce) in
      omega (arith, s.raised (again.action ∙ raises.action), own_tag s.command again, own_tag c it)

  -- where it counts the tag was reached
  reply_reached : (lines more : List Line) → h ≡ lines ++ more → (there : DriveAt) → drive_after lines d ≡ Some there
      → (bytes : List ℕ) (k : IsCommand w d bytes) (x : Reply) (c : Command) → reading bytes ≡ Ok c
      → RepliesAs (reply_by (first_fault there.state there.clock c) there.state c) x → x.nonce ≡ a.command.nonce
      → ((x.verdict ≡ 0) ⊎ ((x.verdict ≡ 9) × (x.detail ≡ tag + 1)))
      → has_reached a.command.object (tag + 1)
      (Some (record there { state = state_by (first_fault there.state there.clock c) there.state c })) ≡ true
  reply_reached lines more is there stands bytes k x c read as_ nonce told =
      let v : Verdict = first_fault there.state there.clock c in
      let reply : Reply = reply_by v there.state c in
      let read_low = read_nonce w d bytes k c low read in
      let its : reply.nonce ≡ c.nonce = reply_nonce_is there.state there.clock c v refl in
      let same : c.nonce ≡ a.command.nonce =
      sym its ∙ sym (as_.nonce (subst (λ (m : ℕ). m < 2 ^ 64) (sym its) read_low.1)) ∙ nonce in
      let it = identify w n low d bytes k c read a waits same in
      let verdict : x.verdict ≡ reply.verdict = as_.verdict (verdict_low there.state there.clock c v refl) in
      let c_tag : c.capability.tag ≡ tag = own_tag c it in
      subst (λ (t : ℕ). has_reached a.command.object (t + 1) (Some (record there {
        state = state_by v there.state c;
      })) ≡ true) c_tag
      (subst (λ (o : ℕ). has_reached o (c.capability.tag + 1) (Some (record there {
        state = state_by v there.state c;
      })) ≡ true)
      (it.object object_fits)
      (raised_behind there c v refl (it.action ∙ raises.action) (lane_shows lines more is there stands c it same)
      (elim told [
        | inl done ↦ inl (sym verdict ∙ done)
        | inr (nine, detail) ↦ inr (
          sym verdict ∙ nine,
          elim (cases_lt reply.detail (2 ^ 64)) [
            | inl fits ↦ omega (arith, as_.detail fits, detail, c_tag)
            | inr from ↦ omega (arith, from, c_tag, tag_fits)
          ],
        )
      ])))

-- ---- what is heard

pub replied : (o : Result Reply CommandErr) (x : Reply) → by_reply o ≡ Some (RepliesTo x) → o ≡ Ok x
replied (Ok y) x e = ap (λ (z : Reply). Ok z) (same e)
  where
    same : Some (RepliesTo y) ≡ Some (RepliesTo x) → y ≡ x
    same f = cc f
replied (Err f) x e = absurd (cc e)

pub read_reply : (n : Node) (d : ℕ) (bytes : List ℕ) (x : Reply) → n ≡ node.Drive d
    → message_in n bytes ≡ Some (RepliesTo x)
    → replies.reading bytes ≡ Ok x
unfolding message_in
read_reply n d bytes x is e =
    replied (replies.reading bytes) x (ap (λ (k : Node). message_in k bytes) (sym is) ∙ e)

format_counts : (x : Reply) (tag : ℕ) → x.verdict ≡ 16 → (x.verdict ≡ 0) ⊎ ((x.verdict ≡ 9) × (x.detail ≡ tag + 1)) → ⊥
format_counts x tag is (inl e) = absurd (omega (arith, is, e))
format_counts x tag is (inr e) = absurd (omega (arith, is, e.0))

-- to bytes that spell a command or none
judged_reached : (w : World) (h : List Line) → IsRead w h → Numbers w → EachBehind OwnAt [] h
    → counters_have_room w.server ≡ true → (d : ℕ) (a : Awaited) → Awaits w.server.files a → (tag : ℕ) → Raises tag a
    → a.command.object < 2 ^ 64 → tag + 1 < 2 ^ 32 → (lines more : List Line) → h ≡ lines ++ more → (there : DriveAt)
    → drive_after lines d ≡ Some there → (bytes : List ℕ) → IsCommand w d bytes → (x : Reply)
    → (o : Result Command CommandErr) → reading bytes ≡ o → replies.reading (replies.spelling (judges there o).reply)
    ≡ Ok x
    → x.nonce ≡ a.command.nonce → (x.verdict ≡ 0) ⊎ ((x.verdict ≡ 9) × (x.detail ≡ tag + 1))
    → has_reached a.command.object (tag + 1) (Some (judges there o).drive) ≡ true
unfolding judges
judged_reached w h r n own low d a waits tag raises object_fits tag_fits lines more is there stands bytes k x (Ok c)
    read
    heard nonce told =
    reply_reached w h r n own low d a waits tag raises object_fits tag_fits lines more is there stands bytes k x c read
    (reply_reads (reply_by (first_fault there.state there.clock c) there.state c) x heard) nonce told
judged_reached w h r n own low d a waits tag raises object_fits tag_fits lines more is there stands bytes k x (Err e)
    read
    heard nonce told =
    absurd (format_counts x tag ((reply_reads format_reply x heard).verdict (omega arith)) told)

pub heard_reached : (w : World) (h : List Line) → IsRead w h → Numbers w → EachBehind OwnAt [] h
    → counters_have_room w.server ≡ true → (d k : ℕ) (p : Posted) → slice_get w.network.messages k ≡ Some p
    → p.message.to ≡ node.Server → p.message.from ≡ node.Drive d → (x : Reply)
    → for_server p.message ≡ Some (RepliesTo x)
    → (f : File) → In f w.server.files → (a : Awaited) → In a (awaited_by f.job) → Raises f.kept.tag a
    → answers d x a ≡ true → is_done f.kept a x ≡ true
    → reached_in h a.drive a.command.object (f.kept.tag + 1) ≡ true
heard_reached w h r n own low d k p there to sender x read f i a j raises answer done =
    reached_by h a.drive a.command.object (f.kept.tag + 1) (λ object_fits tag_fits.
    let first : Sent = letter (shown p) in
    let sent : slice_get (sent_in h) k ≡ Some (shown p) =
    ap (λ (ss : List Sent). slice_get ss k) (sent_read w r.injected h r.drives)
    ∙ shown_get w.network.messages k (Some p) there in
    let t : Told h d first =
    letters_told h r.lines first d (in_map letter (shown p) (sent_in h) (in_get (sent_in h) k (shown p) sent))
    (ap party_of sender) in
    let rep : Replies t.before d first.to first.bytes = t.replies in
    let m : Sent = rep.message in
    let after : List Line = line.Message t.number (party.Drive d) first.to first.bytes ∷ t.after in
    let whole : h ≡ rep.lines ++ line.Delivered rep.number rep.delivery ∷ after =
    t.lines_are ∙ ap (λ (b : List Line). b ++ after) rep.before_is
    ∙ append_assoc rep.lines (line.Delivered rep.number rep.delivery ∷ []) after in
    let asked : SentTo h d m.bytes = record {
      message = letter m;
      sent = subst (λ (ls : List Line). In (letter m) (letters (sent_in ls))) (sym whole)
          (letters_stay rep.lines (line.Delivered rep.number rep.delivery ∷ after) (letter m)
          (in_map letter m (sent_in rep.lines) (in_get (sent_in rep.lines) rep.number m rep.sent)));
      sender = rep.sender ∙ ap party_of to;
      receiver = rep.receiver;
      bytes_are = refl;
    } in
    let tests = and_parts (a.command.nonce == x.nonce) (a.drive == d) answer in
    let heard : replies.reading (replies.spelling (judges rep.there (reading m.bytes)).reply) ≡ Ok x =
    ap replies.reading (sym rep.bytes_are) ∙ read_reply p.message.from d (spelled p.message.body) x sender read in
    let reached : has_reached a.command.object (f.kept.tag + 1) (drive_after t.before d) ≡ true =
    ap (has_reached a.command.object (f.kept.tag + 1)) rep.becomes
    ∙ judged_reached w h r n own low d a (f, i, j) f.kept.tag raises object_fits tag_fits rep.lines _ whole rep.there
    rep.stands m.bytes (world_command w h r n d m.bytes asked) x (reading m.bytes) refl heard
    (sym (same_number a.command.nonce x.nonce tests.0)) (counts f.kept a x raises.action done) in
    let at_end : has_reached a.command.object (f.kept.tag + 1) (drive_after (t.before ++ after) d) ≡ true =
    has_stays h t.before after [] (all_spend h r.lines)
    (t.lines_are ∙ ap (λ (b : List Line). t.before ++ b) (sym (append-nil after))) d a.command.object f.kept.tag
    reached in
    ap (λ (n : ℕ). has_reached a.command.object (f.kept.tag + 1) (drive_after h n)) (same_number a.drive d tests.1)
    ∙ ap (λ (b : List Line). has_reached a.command.object (f.kept.tag + 1) (drive_after b d)) t.lines_are ∙ at_end)
  where
    same_number : (m n : ℕ) → (m == n) ≡ true → m ≡ n
    same_number m n e = grind (arith, e, nat_tests)
