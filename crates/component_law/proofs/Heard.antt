-- What the server hears of a CREATE that it awaits is true: the object is there.
use Rattle.std.proofs.Common.{◌≡◌, ◌⊎◌, ◌==◌, ℕ, ◌<◌, ◌^◌, ◌++◌, ◌∷◌, [], List, true, Some, Result, Ok, Err, slice_get, refl, sym, ap, subst, ◌∙◌, append_assoc, arith, inl, inr}
use Rattle.std.proofs.lemmas.Bool.Decides.{nat_tests}
use Rattle.std.proofs.lemmas.List.{append-nil}
use Rattle.std.proofs.lemmas.Bool.{and_parts}
use Rattle.osd_lists.specs.declared.node.Node.TheVariants as node
use Rattle.osd_commands.specs.declared.actions.Action.TheVariants.{Create}
use Rattle.osd_commands.specs.declared.commands.Command.{Command}
use Rattle.osd_commands.specs.declared.commands.CommandErr.{CommandErr}
use Rattle.osd_commands.specs.declared.replies.Reply.{Reply}
use Rattle.osd_commands.specs.Commands.{reading}
use Rattle.osd_commands.specs.Replies as replies
use Rattle.osd_drive.specs.declared.verdict.Verdict.{Verdict}
use Rattle.osd_drive.specs.Table.{first_fault}
use Rattle.osd_drive.specs.Effects.{format_reply, reply_by, state_by}
use Rattle.server_rules.specs.Laws.{In}
use Rattle.server_rules.specs.Messages.{Replies as RepliesTo, awaited_by, counters_have_room}
use Rattle.server_rules.specs.Replies.{is_done, answers}
use Rattle.server_rules.proofs.Members.{in_map}
use Rattle.scenario_text.specs.declared.line.Party.TheVariants as party
use Rattle.scenario_text.specs.declared.line.Line.{Line}
use Rattle.scenario_text.specs.declared.line.Line.TheVariants as line
use Rattle.world_history.specs.ServerNames.{Awaited, File}
use Rattle.world_history.specs.declared.messages.Posted.{Posted}
use Rattle.world_history.specs.declared.messages.Sent.{Sent}
use Rattle.world_history.specs.State.{World, DriveAt}
use Rattle.world_history.specs.Spelled.{spelled, party_of}
use Rattle.world_history.specs.Drives.{judges}
use Rattle.world_history.specs.Handed.{for_server}
use Rattle.world_history.specs.Reading.{sent_in}
use Rattle.world_history.specs.ReadDrives.{drive_after}
use Rattle.world_history.specs.Laws.{shown}
use Rattle.history_law.specs.Judging.{Replies}
use Rattle.history_law.proofs.DriveLines.{sent_read, shown_get}
use Rattle.history_law.proofs.DriveEvents.{IsRead}
use Rattle.history_law.proofs.Spending.{all_spend}
use Rattle.history_law.specs.Numbered.{Awaits, IsOf}
use Rattle.history_law.specs.Reaching.{has_reached}
use Rattle.history_law.proofs.Heard.{IsCommand, world_command, read_nonce, read_reply}
use Rattle.history_law.proofs.LaneLines.{letter, letters, letters_stay, in_get, SentTo}
use Rattle.history_law.proofs.Letters.{Told, letters_told}
use Rattle.history_law.proofs.Numbers.{Numbers}
use Rattle.history_law.proofs.Spelled.{command_reads, RepliesAs, reply_reads}
use Rattle.history_law.proofs.Telling.{reply_nonce_is, verdict_low}
use Rattle.component_law.proofs.There.{there_stays}
use Rattle.component_law.proofs.Creating.{counts, made_behind}

-- ---- the awaited command

format_counts : (x : Reply) → x.verdict ≡ 16 → (x.verdict ≡ 0) ⊎ (x.verdict ≡ 8) → ⊥
format_counts x is (inl e) = absurd (omega (arith, is, e))
format_counts x is (inr e) = absurd (omega (arith, is, e))

module _ (w : World) (n : Numbers w) (low : counters_have_room w.server ≡ true) (d : ℕ) (a : Awaited)
    (waits : Awaits w.server.files a) (makes : a.command.action ≡ Create) (fits : a.command.object < 2 ^ 64) where
  -- what a drive read with the nonce of an awaited CREATE is that CREATE
  identify : (bytes : List ℕ) (k : IsCommand w d bytes) (c : Command) → reading bytes ≡ Ok c
      → c.nonce ≡ a.command.nonce → (c.action ≡ Create) × (c.object ≡ a.command.object)
  identify bytes k c read nonce =
      let reads = command_reads k.command c (ap reading (sym k.bytes_are) ∙ read) in
      let is : IsOf d k.command a =
      n.answers d k.command k.sent a waits (sym nonce ∙ (read_nonce w d bytes k c low read).0) in
      let object : k.command.object ≡ a.command.object = ap (λ (x : Command). x.object) is.1 in (
        reads.action ∙ ap (λ (x : Command). x.action) is.1 ∙ makes,
        reads.object (subst (λ (x : ℕ). x < 2 ^ 64) (sym object) fits) ∙ object,
      )

  -- ---- the reply

  -- where it counts the object is there
  reply_made : (there : DriveAt) (bytes : List ℕ) (k : IsCommand w d bytes) (x : Reply) (c : Command)
      → reading bytes ≡ Ok c
      → RepliesAs (reply_by (first_fault there.state there.clock c) there.state c) x → x.nonce ≡ a.command.nonce
      → (x.verdict ≡ 0) ⊎ (x.verdict ≡ 8)
      → has_reached a.command.object 0
      (Some (record there { state = state_by (first_fault there.state there.clock c) there.state c })) ≡ true
  reply_made there bytes k x c read as_ nonce told =
      let v : Verdict = first_fault there.state there.clock c in
      let reply : Reply = reply_by v there.state c in
      let read_low = read_nonce w d bytes k c low read in
      let its : reply.nonce ≡ c.nonce = reply_nonce_is there.state there.clock c v refl in
      let same : c.nonce ≡ a.command.nonce =
      sym its ∙ sym (as_.nonce (subst (λ (m : ℕ). m < 2 ^ 64) (sym its) read_low.1)) ∙ nonce in
      let it = identify bytes k c read same in
      let verdict : x.verdict ≡ reply.verdict = as_.verdict (verdict_low there.state there.clock c v refl) in
      subst (λ (o : ℕ). has_reached o 0 (Some (record there { state = state_by v there.state c })) ≡ true) it.1
      (made_behind there c v refl it.0
      (elim told [ inl done ↦ inl (sym verdict ∙ done) | inr eight ↦ inr (sym verdict ∙ eight) ]))

  -- to bytes that spell a command or none
  judged_made : (there : DriveAt) (bytes : List ℕ) → IsCommand w d bytes → (x : Reply) (o : Result Command CommandErr)
      → reading bytes ≡ o → replies.reading (replies.spelling (judges there o).reply) ≡ Ok x
      → x.nonce ≡ a.command.nonce → (x.verdict ≡ 0) ⊎ (x.verdict ≡ 8)
      → has_reached a.command.object 0 (Some (judges there o).drive) ≡ true
  unfolding judges
  judged_made there bytes k x (Ok c) read heard nonce told =
      reply_made there bytes k x c read
      (reply_reads (reply_by (first_fault there.state there.clock c) there.state c) x heard) nonce told
  judged_made there bytes k x (Err e) read heard nonce told =
      absurd (format_counts x ((reply_reads format_reply x heard).verdict (omega arith)) told)

-- ---- what is heard

pub heard_made : (w : World) (h : List Line) → IsRead w h → Numbers w → counters_have_room w.server ≡ true
    → (d k : ℕ) (p : Posted) → slice_get w.network.messages k ≡ Some p → p.message.to ≡ node.Server
    → p.message.from ≡ node.Drive d → (x : Reply) → for_server p.message ≡ Some (RepliesTo x)
    → (f : File) → In f w.server.files → (a : Awaited) → In a (awaited_by f.job) → a.command.action ≡ Create
    → answers d x a ≡ true → is_done f.kept a x ≡ true → a.command.object < 2 ^ 64
    → has_reached a.command.object 0 (drive_after h a.drive) ≡ true
heard_made w h r n low d k p there to sender x read f i a j makes answer done fits =
    let first : Sent = letter (shown p) in
    let sent : slice_get (sent_in h) k ≡ Some (shown p) =
    ap (λ (ss : List Sent). slice_get ss k) (sent_read w r.injected h r.drives)
    ∙ shown_get w.network.messages k (Some p) there in
    let t : Told h d first =
    letters_told h r.lines first d (in_map letter (shown p) (sent_in h) (in_get (sent_in h) k (shown p) sent))
    (ap party_of sender) in
    let rep : Replies t.before d first.to first.bytes = t.replies in
    let m : Sent = rep.message in
    let after : List Line = line.Message t.number (party.Drive d) first.to first.bytes ∷ t.after in
    let whole : h ≡ rep.lines ++ line.Delivered rep.number rep.delivery ∷ after =
    t.lines_are ∙ ap (λ (b : List Line). b ++ after) rep.before_is
    ∙ append_assoc rep.lines (line.Delivered rep.number rep.delivery ∷ []) after in
    let asked : SentTo h d m.bytes = record {
      message = letter m;
      sent = subst (λ (ls : List Line). In (letter m) (letters (sent_in ls))) (sym whole)
          (letters_stay rep.lines (line.Delivered rep.number rep.delivery ∷ after) (letter m)
          (in_map letter m (sent_in rep.lines) (in_get (sent_in rep.lines) rep.number m rep.sent)));
      sender = rep.sender ∙ ap party_of to;
      receiver = rep.receiver;
      bytes_are = refl;
    } in
    let tests = and_parts (a.command.nonce == x.nonce) (a.drive == d) answer in
    let heard : replies.reading (replies.spelling (judges rep.there (reading m.bytes)).reply) ≡ Ok x =
    ap replies.reading (sym rep.bytes_are) ∙ read_reply p.message.from d (spelled p.message.body) x sender read in
    let made : has_reached a.command.object 0 (drive_after t.before d) ≡ true =
    ap (has_reached a.command.object 0) rep.becomes
    ∙ judged_made w n low d a (f, i, j) makes fits rep.there m.bytes (world_command w h r n d m.bytes asked) x
    (reading m.bytes) refl heard (sym (same_number a.command.nonce x.nonce tests.0)) (counts f.kept a x makes done) in
    let at_end : has_reached a.command.object 0 (drive_after (t.before ++ after) d) ≡ true =
    there_stays h t.before after [] (all_spend h r.lines)
    (t.lines_are ∙ ap (λ (b : List Line). t.before ++ b) (sym (append-nil after))) d a.command.object made in
    ap (λ (n : ℕ). has_reached a.command.object 0 (drive_after h n)) (same_number a.drive d tests.1)
    ∙ ap (λ (b : List Line). has_reached a.command.object 0 (drive_after b d)) t.lines_are ∙ at_end
  where
    same_number : (m n : ℕ) → (m == n) ≡ true → m ≡ n
    same_number m n e = grind (arith, e, nat_tests)
