-- A drive replies that it performed a READ that a job awaits: what it read is a row of the machine's cells.
-- Towards `RowsFollow` (`specs/Parts.antt`).
use Rattle.std.proofs.Common.{◌≡◌, ◌==◌, ◌||◌, ℕ, ◌+◌, ◌<◌, ◌^◌, Bool, true, false, List, take, drop, get_or, Option, Some, Ok, refl, sym, ap, subst, ◌∙◌}
use Rattle.std.specs.Prelude.{slice_range}
use Rattle.std.specs.Int.{w64, to_be_bytes, from_be_bytes}
use Rattle.std.proofs.lemmas.Bool.{and_parts, eqb-true}
use Rattle.std.proofs.lemmas.List.{get_or-take, get_or-drop}
use Rattle.std.proofs.lemmas.Nat.{from_be_bytes-to_be_bytes_8}
use Rattle.osd_capability.specs.declared.layout.Capability.{Capability}
use Rattle.osd_commands.specs.Commands.{fields, head, spelling, reading, command_at}
use Rattle.osd_commands.specs.declared.actions.Action.{Action}
use Rattle.osd_commands.specs.declared.actions.Action.TheVariants as action
use Rattle.osd_commands.specs.declared.commands.Command.{Command}
use Rattle.osd_commands.specs.declared.replies.Reply.{Reply}
use Rattle.osd_drive.specs.declared.verdict.Verdict.{Verdict}
use Rattle.osd_drive.specs.declared.verdict.Verdict.TheVariants as verdict
use Rattle.osd_drive.specs.Effects.{reply_by, result_of}
use Rattle.osd_drive.specs.Table.{first_fault}
use Rattle.osd_objects.specs.Store.{object_at, bytes_or_none}
use Rattle.scenario_text.specs.declared.line.Line.{Line}
use Rattle.server_rules.specs.declared.limits.TheConstants.{PERFORMED}
use Rattle.server_rules.specs.Replies.{answers}
use Rattle.world_history.specs.ServerNames.{File, Component, Awaited, Piece}
use Rattle.world_history.specs.State.{World, DriveAt, at_number}
use Rattle.history_law.specs.Moments.{IsMoment}
use Rattle.history_law.specs.Numbered.{Awaits, IsOf}
use Rattle.history_law.proofs.Numbers.{Numbers}
use Rattle.history_law.proofs.Spending.{free}
use Rattle.component_law.specs.Sent.{IsSentByRun}
use Rattle.fence_law.specs.State as machine
use Rattle.fence_law.proofs.Safe.{Safe}
use Rattle.file_simulation.specs.Claim.{IsOfScenario}
use Rattle.file_simulation.specs.Components.{IsMade, ObjectIs, AreComponents, has_failed, is_lost_in, object_on, object_of}
use Rattle.file_simulation.specs.Jobs.{IsRow}
use Rattle.relation_law.specs.Awaiting as awaiting
use Rattle.relation_law.specs.ComponentsFollow.{WritesHavePlaces}
use Rattle.relation_law.specs.DriveHearing.{IsReadAs}
use Rattle.relation_law.proofs.ComponentsReading.{taken, offset_read, read_as}
use Rattle.relation_law.proofs.ComponentsSenders.{SenderLaws, server_room}
use Rattle.relation_law.proofs.DriveObjects.{Leaves, reads}
use Rattle.relation_law.proofs.ReadsDrive.{replied_as, read_again, reply_nonce}
use Rattle.headline_law.specs.RowsPlaces.{ReadsHavePlaces}
use Rattle.headline_law.proofs.RowsBegin.{IsPresent}
use Rattle.headline_law.proofs.RowsTold.{IsReplying, of_command}

-- ---- the length

length_there : (y : Command) → slice_range (spelling y) 32 40 ≡ to_be_bytes w64 y.length
unfolding spelling head fields
length_there y = refl

length_at : (a : Action) (k : Capability) (bytes : List ℕ) →
    (command_at a k bytes).length ≡ from_be_bytes w64 (slice_range bytes 32 40)
unfolding command_at
length_at a k bytes = refl

-- the length that is read is the one that was spelled
length_read : (y x : Command) → reading (spelling y) ≡ Ok x → y.length < 2 ^ 64 → x.length ≡ y.length
length_read y x e low =
    let t = taken (spelling y) x e in
    ap (λ (z : Command). z.length) (sym t.is) ∙ length_at t.action t.capability (spelling y)
    ∙ ap (from_be_bytes w64) (length_there y) ∙ from_be_bytes-to_be_bytes_8 y.length low

-- ---- a READ

-- what the drive has of a present component's object isn't lost
not_lost : (w : World) (at : Component) (d : ℕ) (a : DriveAt) → at.drive ≡ d → at_number w.drives d ≡ Some a →
    (a.failed || a.down) ≡ false → at.missing ≡ false → is_lost_in w at ≡ false
not_lost w at d a drive there hears present =
    ap (λ (b : Bool). b || has_failed (at_number w.drives at.drive)) present
    ∙ ap (λ (n : ℕ). has_failed (at_number w.drives n)) drive ∙ ap has_failed there ∙ first_false a.failed a.down hears
  where
    first_false : (p q : Bool) → (p || q) ≡ false → p ≡ false
    first_false true q e = absurd (cc e)
    first_false false q e = refl

module _ (laws : SenderLaws) (w : World) (h : List Line) (k : IsMoment w h) (scenario : IsOfScenario h) (run : IsSentByRun w)
    (numbers : Numbers w) (writes : WritesHavePlaces w) (places : ReadsHavePlaces w) (s : machine.State) (f : File)
    (safe : Safe s)
    (components : AreComponents s w f) where
  -- A READ of the row of a piece of a present component, which a job awaits, is performed: its payload is the row.
  pub row_read : (a : Awaited) (p : Piece) (r : Reply) → Awaits w.server.files a →
      awaiting.IsRow f.kept.map f.kept.components p a →
      IsPresent f.kept.components a.component → IsReplying w a.drive r → answers a.drive r a ≡ true → r.verdict ≡ PERFORMED →
      IsRow s a.component a.command.offset a.command.length r.payload
  row_read a p r waits asked present replying answer done =
      let c = of_command w numbers a.drive r replying done in
      let x : Command = c.read in
      let d : DriveAt = replying.drive in
      let reads_as : IsReadAs c.command c.read =
      read_as c.command c.read (server_room laws w h k scenario run a.drive c.command c.sent writes c.low) c.reads in
      let nonce : a.command.nonce ≡ c.command.nonce =
      eqb-true a.command.nonce r.nonce (and_parts (a.command.nonce == r.nonce) _ answer).0
      ∙ ap (λ (q : Reply). q.nonce) c.reply ∙ reply_nonce d.state d.clock c.read ∙ reads_as.nonce in
      let own : IsOf a.drive c.command a = numbers.answers a.drive c.command c.sent a waits nonce in
      let act : c.command.action ≡ action.Read = ap (λ (q : Command). q.action) own.1 ∙ asked.action_is in
      let read : c.read.action ≡ action.Read = reads_as.action ∙ act in
      let fits = places a.drive c.command c.sent act in
      let offset : c.read.offset ≡ a.command.offset =
      offset_read c.command c.read c.reads fits.0 ∙ ap (λ (q : Command). q.offset) own.1 in
      let long : c.read.length ≡ a.command.length =
      length_read c.command c.read c.reads fits.1 ∙ ap (λ (q : Command). q.length) own.1 in
      let clear : first_fault d.state d.clock c.read ≡ verdict.Perform =
      replied_as (first_fault d.state d.clock c.read) d.state c.read (read_again d.state d.clock c.read read)
      (sym (ap (λ (q : Reply). q.verdict) c.reply) ∙ done) in
      let l : Leaves d.state c.read (λ y. y) = reads d.state c.read read (free d.state d.clock c.read clear) in
      let payload : r.payload ≡ take a.command.length (drop a.command.offset l.before.content.bytes) =
      ap (λ (q : Reply). q.payload) c.reply ∙ ap (λ (v : Verdict). (reply_by v d.state c.read).payload) clear
      ∙ ap (λ (b : Action). (result_of b d.state.store c.read).payload) read
      ∙ ap (λ o. take c.read.length (drop c.read.offset (bytes_or_none o))) l.there
      ∙ ap (λ (n : ℕ). take n (drop c.read.offset l.before.content.bytes)) long
      ∙ ap (λ (n : ℕ). take a.command.length (drop n l.before.content.bytes)) offset in
      let at : Component = asked.of.component in
      let is = components a.component at asked.of.there in
      let stands : s.lost a.component ≡ false =
      is.lost ∙ not_lost w at a.drive d (sym asked.of.drive) replying.there replying.hears (present at asked.of.there) in
      let object : at.object ≡ c.read.object =
      sym asked.of.object ∙ sym (ap (λ (q : Command). q.object) own.1) ∙ sym reads_as.object in
      let there : object_of w at ≡ Some l.before =
      ap (λ (n : ℕ). object_on (at_number w.drives n) at.object) (sym asked.of.drive)
      ∙ ap (λ (o : Option DriveAt). object_on o at.object) replying.there ∙ ap (object_at d.state.store) object ∙ l.there in
      let made : IsMade s a.component l.before = subst (ObjectIs s f a.component at) there (is.stands stands).object in
      record {
        stands = not_gone (s.gone a.component) refl stands;
        cells = λ i low.
            ap (λ (bs : List ℕ). get_or bs i 0) payload
            ∙ get_or-take a.command.length (drop a.command.offset l.before.content.bytes) i 0 low
            ∙ get_or-drop a.command.offset l.before.content.bytes i 0
            ∙ sym (made.cells (a.command.offset + i));
      }
    where
      not_gone : (b : Bool) → s.gone a.component ≡ b → s.lost a.component ≡ false → s.gone a.component ≡ false
      not_gone false is stands = is
      not_gone true is stands = absurd (cc (sym (safe.gone_lost a.component is) ∙ stands))
