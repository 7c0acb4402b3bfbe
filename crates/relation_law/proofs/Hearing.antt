-- What the server hears of a WRITE that it awaits is true.
use Rattle.std.proofs.Common.{◌≡◌, ◌⊎◌, ◌==◌, ℕ, ◌<◌, ◌^◌, ◌++◌, ◌∷◌, [], List, true, false, nat_lt, nat_eq, eqb, not, length, Option, Some, None, Result, Ok, Err, slice_get, refl, sym, ap, subst, ◌∙◌, append_assoc, arith, inl, inr}
use Rattle.std.specs.Prelude.{slice_index}
use Rattle.std.proofs.lemmas.Bool.Decides.{nat_tests}
use Rattle.std.proofs.lemmas.Bool.{and_parts, cases_Bool, eqb-true}
use Rattle.std.proofs.lemmas.List.{append-nil}
use Rattle.std.proofs.lemmas.Option.{same_Some}
use Rattle.osd_lists.proofs.Tests.{differ}
use Rattle.osd_lists.proofs.Options.{guard_ok}
use Rattle.osd_lists.specs.declared.node.Node.{Node}
use Rattle.osd_lists.specs.declared.node.Node.TheVariants as node
use Rattle.osd_capability.specs.declared.layout.Capability.{Capability}
use Rattle.osd_capability.specs.declared.layout.CapErr.TheVariants.{Length, Format}
use Rattle.osd_capability.specs.declared.layout.TheConstants.{CAPABILITY_BYTES}
use Rattle.osd_capability.specs.Layout as cap
use Rattle.osd_commands.specs.declared.actions.Action.TheVariants.{Write}
use Rattle.osd_commands.specs.declared.commands.Command.{Command}
use Rattle.osd_commands.specs.declared.commands.CommandErr.{CommandErr}
use Rattle.osd_commands.specs.declared.replies.Reply.{Reply}
use Rattle.osd_commands.specs.Commands.{reading, spelling}
use Rattle.osd_commands.specs.Replies as replies
use Rattle.osd_objects.specs.declared.lanes.LaneEntry.{LaneEntry}
use Rattle.osd_objects.specs.declared.object.StoredObject.{StoredObject}
use Rattle.osd_objects.specs.Lanes.{lane_of}
use Rattle.osd_objects.specs.Store.{object_at, lane_or_none}
use Rattle.osd_drive.specs.declared.verdict.Verdict.{Verdict}
use Rattle.osd_drive.specs.declared.verdict.Verdict.TheVariants as verdict
use Rattle.osd_drive.specs.State.{DriveState}
use Rattle.osd_drive.specs.Table.{first_fault, is_mutating, of_lane}
use Rattle.osd_drive.specs.Effects.{format_reply, reply_by, state_by, lane_for, kept_reply}
use Rattle.server_rules.specs.declared.limits.TheConstants.{SERVER_HOLDER, PERFORMED, OLD_FORMAT}
use Rattle.server_rules.specs.History.{Act, state_after, step}
use Rattle.server_rules.specs.Making.{new_server}
use Rattle.server_rules.specs.Laws.{In}
use Rattle.server_rules.specs.Envelopes.{message_in, by_reply}
use Rattle.server_rules.specs.Messages.{Replies as RepliesTo, awaited_by, counters_have_room}
use Rattle.server_rules.specs.Replies.{answers}
use Rattle.server_rules.proofs.Members.{in_map, in_either}
use Rattle.scenario_text.specs.declared.line.Party.TheVariants as party
use Rattle.scenario_text.specs.declared.line.Line.{Line}
use Rattle.scenario_text.specs.declared.line.Line.TheVariants as line
use Rattle.world_history.specs.ServerNames.{Awaited, File, Server}
use Rattle.world_history.specs.declared.messages.Body.TheVariants.{Command as OfCommand}
use Rattle.world_history.specs.declared.messages.Posted.{Posted}
use Rattle.world_history.specs.declared.messages.Sent.{Sent}
use Rattle.world_history.specs.State.{World, DriveAt, at_number}
use Rattle.world_history.specs.Spelled.{spelled, party_of}
use Rattle.world_history.specs.Drives.{judges}
use Rattle.world_history.specs.Handed.{for_server}
use Rattle.world_history.specs.Reading.{sent_in}
use Rattle.world_history.specs.ReadDrives.{drive_after}
use Rattle.world_history.specs.Laws.{shown}
use Rattle.world_history.specs.History.{OneEventMore}
use Rattle.history_law.specs.BookMoments.{IsMoment}
use Rattle.history_law.specs.Judging.{Replies}
use Rattle.history_law.specs.Spent.{HasPassed, IsSpent, IsSpentOn, Spends}
use Rattle.history_law.proofs.Carried.{read_spelled}
use Rattle.history_law.proofs.DriveLines.{sent_read, shown_get, drive_read}
use Rattle.history_law.proofs.DriveEvents.{IsRead}
use Rattle.history_law.proofs.HistoryTelling.{again_row, result_done, old_row}
use Rattle.history_law.proofs.Lanes.{lane_passed}
use Rattle.history_law.proofs.Spending.{all_spend, free}
use Rattle.component_law.proofs.NamedLines.{are_named}
use Rattle.history_law.specs.Numbered.{Awaits, IsOf}
use Rattle.history_law.specs.Owned.{AreOwned}
use Rattle.history_law.proofs.JobSteps.{step_owns}
use Rattle.history_law.specs.Names.{ToDrive}
use Rattle.exchange_law.specs.Counters.{CountersStayLow}
use Rattle.history_law.proofs.Heard.{IsCommand, world_command}
use Rattle.history_law.proofs.LaneLines.{letter, letters, letters_stay, in_get, SentTo}
use Rattle.history_law.proofs.FencingMoves.{messages_in}
use Rattle.history_law.proofs.Letters.{Told, letters_told}
use Rattle.history_law.proofs.Numbers.{Numbers, to_drive}
use Rattle.history_law.proofs.Holding.{Holds}
use Rattle.history_law.proofs.Spelled.{command_reads, RepliesAs, reply_reads}
use Rattle.history_law.proofs.Telling.{reply_nonce_is, verdict_low}
use Rattle.history_law.proofs.Ending.{at_moment}
use Rattle.component_law.specs.Sent.{IsSentByRun}
use Rattle.component_law.specs.Tagged.{NoCommandIsAhead, sent_over}
use Rattle.component_law.proofs.Moments.{server_sent_its_run}
use Rattle.relation_law.proofs.DriveObjects.{writes}
use Rattle.file_simulation.specs.Claim.{IsOfScenario}
use Rattle.relation_law.specs.Hearing.{TellsOfWrite, HeardTellsOfWrites}

-- ---- a lane that is passed

-- at a drive the lane of a holder at an object has this nonce or a later one, or the drive has failed
abbrev PassedAt : Option DriveAt → (object holder nonce : ℕ) → Type 0
PassedAt None o q n = ⊥
PassedAt (Some a) o q n = (a.failed ≡ true) ⊎ HasPassed (lane_or_none (object_at a.state.store o) q) n

-- a WRITE of the object under that nonce
abbrev probe : (format object holder nonce tag : ℕ) → Command
probe format object holder nonce tag = record {
  action = Write;
  partition = 0;
  object = object;
  offset = 0;
  length = 0;
  nonce = nonce;
  attribute = 0;
  capability = record {
    format = format;
    key_version = 0;
    rights = 0;
    expiry = 0;
    grant = 0;
    holder = holder;
    tag = tag;
    partition = 0;
    object = object;
    range_start = 0;
    range_len = 0;
  };
  payload = [];
  check = [];
}

passed_spent : (s : Option StoredObject) (c : Command) → c.action ≡ Write →
    HasPassed (lane_or_none s c.capability.holder) c.nonce → IsSpentOn s c
passed_spent None c write passed = passed
passed_spent (Some x) c write passed = inr (inr (ap is_mutating write, passed))

-- so each WRITE under it is spent
at_spent : (o : Option DriveAt) (c : Command) → c.action ≡ Write → PassedAt o c.object c.capability.holder c.nonce →
    IsSpent o c
at_spent None c write passed = passed
at_spent (Some a) c write (inl failed) = inl failed
at_spent (Some a) c write (inr passed) = inr (inr (passed_spent (object_at a.state.store c.object) c write passed))

-- and it is passed where each WRITE under it is spent
spent_passed : (s : Option StoredObject) (format object holder nonce : ℕ) →
    ((tag : ℕ) → IsSpentOn s (probe format object holder nonce tag)) → HasPassed (lane_or_none s holder) nonce
spent_passed None format object holder nonce each = each 0
spent_passed (Some x) format object holder nonce each = by_spent (each x.tag)
  where
    by_spent : IsSpentOn (Some x) (probe format object holder nonce x.tag) → HasPassed (lane_of x.lanes holder) nonce
    by_spent (inl e) = absurd (cc e)
    by_spent (inr (inl less)) = absurd (omega (arith, less))
    by_spent (inr (inr late)) = late.1

spent_at : (o : Option DriveAt) (object holder nonce : ℕ) →
    ((format tag : ℕ) → IsSpent o (probe format object holder nonce tag)) → PassedAt o object holder nonce
spent_at None object holder nonce each = each 0 0
spent_at (Some a) object holder nonce each = elim (cases_Bool a.failed) [
  | inl failed ↦ inl failed
  | inr lives ↦ inr (spent_passed (object_at a.state.store object) a.state.least object holder nonce
      (λ tag. by_spent tag lives (each a.state.least tag)))
]
  where
    by_spent : (tag : ℕ) → a.failed ≡ false → IsSpent (Some a) (probe a.state.least object holder nonce tag) →
        IsSpentOn (object_at a.state.store object) (probe a.state.least object holder nonce tag)
    by_spent tag lives (inl failed) = absurd (cc (sym failed ∙ lives))
    by_spent tag lives (inr (inl old)) = absurd (omega (arith, old))
    by_spent tag lives (inr (inr on)) = on

-- so it stays passed
passed_stays : (h first middle after : List Line) → Spends h → h ≡ first ++ (middle ++ after) →
    (d object holder nonce : ℕ) → PassedAt (drive_after first d) object holder nonce →
    PassedAt (drive_after (first ++ middle) d) object holder nonce
passed_stays h first middle after s is d object holder nonce passed =
    spent_at (drive_after (first ++ middle) d) object holder nonce (λ format tag.
    s.stays first middle after is d (probe format object holder nonce tag)
    (at_spent (drive_after first d) (probe format object holder nonce tag) refl passed))

-- ---- a drive that replies

module _ (a : DriveAt) (c : Command) (write : c.action ≡ Write) where
  behind : Verdict → DriveAt
  behind v = record a { state = state_by v a.state c }

  -- a WRITE that was performed, now or before, passed its lane
  written_passed : (v : Verdict) → first_fault a.state a.clock c ≡ v → (reply_by v a.state c).verdict ≡ 0 →
      PassedAt (Some (record a { state = state_by v a.state c })) c.object c.capability.holder c.nonce
  written_passed verdict.Perform clear told =
      let l = writes a.state c write (free a.state a.clock c clear) in
      inr (subst (λ (o : Option StoredObject). HasPassed (lane_or_none o c.capability.holder) c.nonce) (sym l.behind)
      (lane_passed l.before.lanes (lane_for c 0)))
  written_passed verdict.Again clear told =
      inr (by_lane (lane_or_none (object_at a.state.store c.object) c.capability.holder)
      (and_parts (is_mutating c.action) _ (again_row a.state a.clock c clear)).1)
    where
      by_lane : (o : Option LaneEntry) → of_lane (λ l. nat_eq l.nonce c.nonce) o ≡ true → HasPassed o c.nonce
      by_lane None e = absurd (cc e)
      by_lane (Some l) e = grind (arith, e, nat_tests)
  written_passed v clear told = absurd (differ _ _ refl told)

-- one that is refused for its format is of an older one than the drive's least
older : (a : DriveAt) (c : Command) (v : Verdict) → first_fault a.state a.clock c ≡ v →
    (reply_by v a.state c).verdict ≡ 17 → c.capability.format < a.state.least
older a c verdict.OldFormat fault told = less (old_row a.state a.clock c fault)
  where
    less : nat_lt c.capability.format a.state.least ≡ true → c.capability.format < a.state.least
    less is = grind (arith, is, nat_tests)
older a c verdict.Perform fault told = absurd (differ 0 17 refl (sym (result_done c.action a.state.store c) ∙ told))
older a c verdict.Again fault told = kept (lane_or_none (object_at a.state.store c.object) c.capability.holder) told
  where
    kept : (l : Option LaneEntry) → (kept_reply c l).verdict ≡ 17 → c.capability.format < a.state.least
    kept None e = absurd (differ _ _ refl e)
    kept (Some l) e = absurd (differ _ _ refl e)
older a c v fault told = absurd (differ _ _ refl told)

-- what a drive judges leaves its least format
least_kept : (v : Verdict) (d : DriveState) (c : Command) → (state_by v d c).least ≡ d.least
least_kept verdict.Perform d c = refl
least_kept v d c = refl

-- ---- the awaited command

pub low_nonce : (w : World) → counters_have_room w.server ≡ true →
    (w.server.next_nonce < 2 ^ 63) × (w.server.next_object < 2 ^ 63)
unfolding counters_have_room
low_nonce w e =
    let two = and_parts _ _ e in
    (less w.server.next_nonce (2 ^ 63) two.0, less w.server.next_object (2 ^ 63) (and_parts _ _ two.1).0)
  where
    less : (a b : ℕ) → nat_lt a b ≡ true → a < b
    less a b x = grind (arith, x, nat_tests)

pub read_nonce : (w : World) (d : ℕ) (bytes : List ℕ) (k : IsCommand w d bytes) (c : Command) → counters_have_room w.server ≡ true
    → reading bytes ≡ Ok c → (c.nonce ≡ k.command.nonce) × (c.nonce < 2 ^ 64)
read_nonce w d bytes k c low read =
    let below : k.command.nonce < 2 ^ 64 = omega (arith, (low_nonce w low).0, k.low) in
    let same : c.nonce ≡ k.command.nonce =
    (command_reads k.command c (ap reading (sym k.bytes_are) ∙ read)).nonce below in
    (same, omega (arith, same, below))

pub unreserved : (o : Option ℕ) (x c : Capability) → cap.unless_reserved o x ≡ Ok c → x ≡ c
unreserved None x c e = cc e
unreserved (Some at) x c e = absurd (cc e)

format_in : (bytes : List ℕ) (c : Capability) → cap.reading bytes ≡ Ok c → c.format ≡ slice_index bytes 0
unfolding cap.reading cap.capability_at
format_in bytes c e =
    let long = guard_ok (not (eqb (length bytes) CAPABILITY_BYTES)) Length _ c e in
    let format = guard_ok (not (cap.is_format (slice_index bytes 0))) Format _ c long.1 in
    ap (λ (y : Capability). y.format) (sym (unreserved (cap.stray bytes) _ c format.1))

first_byte : (c : Capability) → slice_index (cap.spelling c) 0 ≡ c.format
unfolding cap.spelling
first_byte c = refl

-- the format that is read is the one that was spelled
format_read : (x c : Command) → reading (spelling x) ≡ Ok c → c.capability.format ≡ x.capability.format
format_read x c e = format_in (cap.spelling x.capability) c.capability (read_spelled x c e) ∙ first_byte x.capability

-- what the server sent is under its own holder
pub owned_over : (s : Server) (acts : List Act) → AreOwned s.files → (d : ℕ) (c : Command) →
    In (ToDrive d c) (sent_over s acts) → c.capability.holder ≡ SERVER_HOLDER
unfolding sent_over
owned_over s [] own d c i = absurd i
owned_over s (a ∷ acts) own d c i =
    let t = step s a.chosen a.input in
    elim (in_either (ToDrive d c) t.sends (sent_over t.state acts) i) [
      | inl now ↦ (step_owns s a.chosen a.input).sends own d c now
      | inr later ↦ owned_over t.state acts ((step_owns s a.chosen a.input).waits own) d c later
    ]

-- a command with the awaited one's object, holder and nonce
record IsIt (a : Awaited) (c : Command) : Type 0 where
  action : c.action ≡ a.command.action
  object : c.object ≡ a.command.object
  holder : c.capability.holder ≡ a.command.capability.holder
  format : c.capability.format ≡ a.command.capability.format
  nonce : c.nonce ≡ a.command.nonce

module _ (w : World) (n : Numbers w) (low : counters_have_room w.server ≡ true) (run : IsSentByRun w)
    (ahead : NoCommandIsAhead) (d : ℕ) (a : Awaited) (waits : Awaits w.server.files a) where
  used : (x : Command) → In (to_drive d (OfCommand x)) (messages_in w) → x.object < 2 ^ 64
  used x i =
      let all = (ahead run.acts run.named).1 run.acts [] (sym (append-nil run.acts)) in
      let below : x.object < (state_after (new_server []) run.acts).next_object =
      (all.1 d x (run.sends d x i)).used in
      let same : w.server.next_object ≡ (state_after (new_server []) run.acts).next_object =
      ap (λ (s : Server). s.next_object) run.server in
      omega (arith, below, same, (low_nonce w low).1)

  owned : (x : Command) → In (to_drive d (OfCommand x)) (messages_in w) → x.capability.holder ≡ SERVER_HOLDER
  owned x i = owned_over (new_server []) run.acts (λ b j. absurd j.1) d x (run.sends d x i)

  -- what a drive read with the nonce of an awaited command is that
  identify : (bytes : List ℕ) (k : IsCommand w d bytes) (c : Command) → reading bytes ≡ Ok c →
      c.nonce ≡ a.command.nonce → IsIt a c
  identify bytes k c read nonce =
      let spelled_read : reading (spelling k.command) ≡ Ok c = ap reading (sym k.bytes_are) ∙ read in
      let reads = command_reads k.command c spelled_read in
      let is : IsOf d k.command a =
      n.answers d k.command k.sent a waits (sym nonce ∙ (read_nonce w d bytes k c low read).0) in
      let small : k.command.capability.holder < 2 ^ 32 = omega (arith, owned k.command k.sent) in
      record {
        action = reads.action ∙ ap (λ (x : Command). x.action) is.1;
        object = reads.object (used k.command k.sent) ∙ ap (λ (x : Command). x.object) is.1;
        holder = reads.holder small ∙ ap (λ (x : Command). x.capability.holder) is.1;
        format = format_read k.command c spelled_read ∙ ap (λ (x : Command). x.capability.format) is.1;
        nonce = nonce;
      }

-- ---- the reply

-- what a drive says of a command with the awaited one's numbers
record Says (a : Awaited) (o : Option DriveAt) (x : Reply) : Type 0 where
  there : o ≡ None → ⊥
  passed : a.command.action ≡ Write → x.verdict ≡ PERFORMED →
      PassedAt o a.command.object a.command.capability.holder a.command.nonce
  old : x.verdict ≡ OLD_FORMAT → (b : DriveAt) → o ≡ Some b → a.command.capability.format < b.state.least

module _ (there : DriveAt) (a : Awaited) (c : Command) (is : IsIt a c) (x : Reply) where
  abbrev v : Verdict
  v = first_fault there.state there.clock c

  abbrev becomes : DriveAt
  becomes = record there { state = state_by v there.state c }

  says : RepliesAs (reply_by v there.state c) x → Says a (Some becomes) x
  says as_ = record {
    there = λ none. absurd (cc none);
    passed = λ write told.
        let p = written_passed there c (is.action ∙ write) v refl
        (sym (as_.verdict (verdict_low there.state there.clock c v refl)) ∙ told) in
        subst (λ (o : ℕ). PassedAt (Some becomes) o a.command.capability.holder a.command.nonce) is.object
        (subst (λ (q : ℕ). PassedAt (Some becomes) c.object q a.command.nonce) is.holder
        (subst (λ (m : ℕ). PassedAt (Some becomes) c.object c.capability.holder m) is.nonce p));
    old = λ told b same.
        let verdict : (reply_by v there.state c).verdict ≡ OLD_FORMAT =
        sym (as_.verdict (verdict_low there.state there.clock c v refl)) ∙ told in
        let it : becomes ≡ b = same_Some becomes b same in
        let less = older there c v refl verdict in
        omega (arith, is.format, less, least_kept v there.state c, ap (λ (y : DriveAt). y.state.least) it);
  }

-- what is told of the drive as it was is so of it as it is
tells_later : (h first middle after : List Line) → Spends h → h ≡ first ++ (middle ++ after) → (d : ℕ) (a : Awaited) →
    a.command.action ≡ Write → (x : Reply) → Says a (drive_after first d) x →
    TellsOfWrite (drive_after (first ++ middle) d) a.command x
tells_later h first middle after spends is d a write x says = record {
  passed = λ told b there lives. by_failed b lives
      (subst (λ (o : Option DriveAt). PassedAt o a.command.object a.command.capability.holder a.command.nonce) there
      (later told));
  done = λ told. at_spent (drive_after (first ++ middle) d) a.command write (later told);
  old = λ told. spends.stays first middle after is d a.command (by_drive (drive_after first d) refl told);
}
  where
    later : x.verdict ≡ PERFORMED →
        PassedAt (drive_after (first ++ middle) d) a.command.object a.command.capability.holder a.command.nonce
    later told =
        passed_stays h first middle after spends is d a.command.object a.command.capability.holder a.command.nonce
        (says.passed write told)

    by_failed : (b : DriveAt) → b.failed ≡ false →
        PassedAt (Some b) a.command.object a.command.capability.holder a.command.nonce →
        HasPassed (lane_or_none (object_at b.state.store a.command.object) a.command.capability.holder) a.command.nonce
    by_failed b lives (inl failed) = absurd (cc (sym failed ∙ lives))
    by_failed b lives (inr passed) = passed

    by_drive : (o : Option DriveAt) → drive_after first d ≡ o → x.verdict ≡ OLD_FORMAT → IsSpent o a.command
    by_drive None there told = says.there there
    by_drive (Some b) there told = inr (inl (says.old told b there))

module _ (w : World) (h : List Line) (r : IsRead w h) (n : Numbers w) (low : counters_have_room w.server ≡ true)
    (run : IsSentByRun w) (ahead : NoCommandIsAhead) (d : ℕ) (a : Awaited) (waits : Awaits w.server.files a) where
  -- to bytes that spell a command or none
  judged_says : (there : DriveAt) (bytes : List ℕ) → IsCommand w d bytes → (x : Reply) (o : Result Command CommandErr) →
      reading bytes ≡ o → replies.reading (replies.spelling (judges there o).reply) ≡ Ok x →
      x.nonce ≡ a.command.nonce → Says a (Some (judges there o).drive) x
  unfolding judges
  judged_says there bytes k x (Ok c) read heard nonce =
      let v : Verdict = first_fault there.state there.clock c in
      let reply : Reply = reply_by v there.state c in
      let as_ : RepliesAs reply x = reply_reads reply x heard in
      let its : reply.nonce ≡ c.nonce = reply_nonce_is there.state there.clock c v refl in
      let same : c.nonce ≡ a.command.nonce =
      sym its ∙ sym (as_.nonce (subst (λ (m : ℕ). m < 2 ^ 64) (sym its) (read_nonce w d bytes k c low read).1)) ∙ nonce in
      says there a c (identify w n low run ahead d a waits bytes k c read same) x as_
  judged_says there bytes k x (Err e) read heard nonce =
      let sixteen = (reply_reads format_reply x heard).verdict (omega arith) in
      record {
        there = λ none. absurd (cc none);
        passed = λ write told. absurd (differ 16 0 refl (sym sixteen ∙ told));
        old = λ told b same. absurd (differ 16 17 refl (sym sixteen ∙ told));
      }

  -- ---- what is heard

  replied : (o : Result Reply CommandErr) (x : Reply) → by_reply o ≡ Some (RepliesTo x) → o ≡ Ok x
  replied (Ok y) x e = ap (λ (z : Reply). Ok z) (same e)
    where
      same : Some (RepliesTo y) ≡ Some (RepliesTo x) → y ≡ x
      same f = cc f
  replied (Err f) x e = absurd (cc e)

  pub read_reply : (from : Node) (bytes : List ℕ) (x : Reply) → from ≡ node.Drive d →
      message_in from bytes ≡ Some (RepliesTo x) → replies.reading bytes ≡ Ok x
  unfolding message_in
  read_reply from bytes x is e =
      replied (replies.reading bytes) x (ap (λ (k : Node). message_in k bytes) (sym is) ∙ e)

  tells_of : (k : ℕ) (p : Posted) → slice_get w.network.messages k ≡ Some p → p.message.to ≡ node.Server →
      p.message.from ≡ node.Drive d → (x : Reply) → for_server p.message ≡ Some (RepliesTo x) →
      a.command.nonce ≡ x.nonce → a.command.action ≡ Write → TellsOfWrite (at_number w.drives d) a.command x
  tells_of k p there to sender x read nonce write =
      let first : Sent = letter (shown p) in
      let sent : slice_get (sent_in h) k ≡ Some (shown p) =
      ap (λ (ss : List Sent). slice_get ss k) (sent_read w r.injected h r.drives)
      ∙ shown_get w.network.messages k (Some p) there in
      let t : Told h d first =
      letters_told h r.lines first d (in_map letter (shown p) (sent_in h) (in_get (sent_in h) k (shown p) sent))
      (ap party_of sender) in
      let rep : Replies t.before d first.to first.bytes = t.replies in
      let m : Sent = rep.message in
      let after : List Line = line.Message t.number (party.Drive d) first.to first.bytes ∷ t.after in
      let whole : h ≡ rep.lines ++ line.Delivered rep.number rep.delivery ∷ after =
      t.lines_are ∙ ap (λ (b : List Line). b ++ after) rep.before_is
      ∙ append_assoc rep.lines (line.Delivered rep.number rep.delivery ∷ []) after in
      let asked : SentTo h d m.bytes = record {
        message = letter m;
        sent = subst (λ (ls : List Line). In (letter m) (letters (sent_in ls))) (sym whole)
            (letters_stay rep.lines (line.Delivered rep.number rep.delivery ∷ after) (letter m)
            (in_map letter m (sent_in rep.lines) (in_get (sent_in rep.lines) rep.number m rep.sent)));
        sender = rep.sender ∙ ap party_of to;
        receiver = rep.receiver;
        bytes_are = refl;
      } in
      let heard : replies.reading (replies.spelling (judges rep.there (reading m.bytes)).reply) ≡ Ok x =
      ap replies.reading (sym rep.bytes_are) ∙ read_reply p.message.from (spelled p.message.body) x sender read in
      let told : Says a (drive_after t.before d) x =
      subst (λ (o : Option DriveAt). Says a o x) (sym rep.becomes)
      (judged_says rep.there m.bytes (world_command w h r n d m.bytes asked) x (reading m.bytes) refl heard (sym nonce)) in
      let at_end : TellsOfWrite (drive_after (t.before ++ after) d) a.command x =
      tells_later h t.before after [] (all_spend h r.lines)
      (t.lines_are ∙ ap (λ (b : List Line). t.before ++ b) (sym (append-nil after))) d a write x told in
      subst (λ (o : Option DriveAt). TellsOfWrite o a.command x)
      (ap (λ (b : List Line). drive_after b d) (sym t.lines_are) ∙ drive_read w r.injected h d r.drives) at_end

-- ---- at each moment

-- so it is of a reply among the messages to the server
pub tells_at : OneEventMore → CountersStayLow → NoCommandIsAhead → (w : World) (h : List Line) → IsMoment w h →
    IsOfScenario h → (d n : ℕ) (p : Posted) → slice_get w.network.messages n ≡ Some p → p.message.to ≡ node.Server →
    p.message.from ≡ node.Drive d → (r : Reply) → for_server p.message ≡ Some (RepliesTo r) → (f : File) →
    In f w.server.files → (a : Awaited) → In a (awaited_by f.job) → answers d r a ≡ true → a.command.action ≡ Write →
    TellsOfWrite (at_number w.drives a.drive) a.command r
tells_at more counters ahead w h k scenario d n p there to from r read f i a j answer write =
    let held : Holds w h = at_moment w h k in
    let tests = and_parts (a.command.nonce == r.nonce) (a.drive == d) answer in
    subst (λ (m : ℕ). TellsOfWrite (at_number w.drives m) a.command r) (sym (eqb-true a.drive d tests.1))
    (tells_of w h held.read held.numbers (counters w h k scenario.text scenario.few)
    (server_sent_its_run more w h k (are_named h scenario.written)) ahead d a (f, i, j) n p there to from r read
    (eqb-true a.command.nonce r.nonce tests.0) write)

pub heard_tells : OneEventMore → CountersStayLow → NoCommandIsAhead → HeardTellsOfWrites
heard_tells more counters ahead w h k scenario now d r (dv, now_is, from, read) f i a j answer write =
    tells_at more counters ahead w h k scenario d dv.number dv.posted dv.there dv.receiver (sym from) r read f i a j answer
    write
