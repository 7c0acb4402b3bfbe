-- Each object whose CREATE is awaited has the file's tag or a later one, once it is there.
use Rattle.std.proofs.Common.{◌≡◌, ◌<◌, ◌≤◌, ◌^◌, ◌||◌, ℕ, Bool, true, false, nat_le, List, [], Option, Some, None, slice_get, refl, sym, ap, subst, ◌∙◌, arith, inl, inr}
use Rattle.std.proofs.lemmas.List.{append-nil}
use Rattle.std.proofs.lemmas.Bool.Decides.{nat_tests}
use Rattle.osd_lists.specs.declared.node.Node.TheVariants as node
use Rattle.osd_commands.specs.declared.actions.Action.TheVariants.{Create}
use Rattle.osd_commands.specs.declared.commands.Command.{Command}
use Rattle.osd_commands.specs.declared.replies.Reply.{Reply}
use Rattle.osd_commands.specs.Commands.{reading}
use Rattle.osd_objects.specs.declared.object.StoredObject.{StoredObject}
use Rattle.osd_objects.specs.Store.{object_at}
use Rattle.server_rules.specs.Laws.{In}
use Rattle.server_rules.specs.Messages.{Replies as RepliesTo, awaited_by, counters_have_room}
use Rattle.server_rules.specs.Replies.{is_done, answers}
use Rattle.server_rules.proofs.Members.{in_map, one_in}
use Rattle.scenario_text.specs.declared.line.Line.{Line}
use Rattle.world_history.specs.ServerNames.{Server, File, Awaited}
use Rattle.world_history.specs.declared.messages.Posted.{Posted}
use Rattle.world_history.specs.State.{World, DriveAt}
use Rattle.world_history.specs.Handed.{for_server}
use Rattle.world_history.specs.Reading.{sent_in}
use Rattle.world_history.specs.ReadDrives.{drive_after}
use Rattle.history_law.specs.BookMoments.{IsMoment}
use Rattle.history_law.specs.Unforged.{AreUnforged}
use Rattle.history_law.proofs.JobFiles.{found_file}
use Rattle.history_law.specs.Reaching.{has_tag, has_reached, reached_in}
use Rattle.history_law.proofs.LaneLines.{letter, in_get}
use Rattle.history_law.proofs.Numbers.{Numbers}
use Rattle.history_law.proofs.Reaching.{reached_by}
use Rattle.history_law.proofs.Spelled.{command_reads}
use Rattle.history_law.proofs.Heard.{world_command}
use Rattle.exchange_law.proofs.Knowing.{lawful_at}
use Rattle.exchange_law.proofs.Replied.{read_at}
use Rattle.component_law.specs.Naming.{AreNamed}
use Rattle.exchange_law.specs.Text.{AreOfText, AreFew}
use Rattle.exchange_law.specs.Files.{KeptFits, AllFilesFit}
use Rattle.exchange_law.specs.Counters.{ServerIsCounted}
use Rattle.exchange_law.proofs.CountGrowing.{as_many}
use Rattle.component_law.specs.Tagged.{HasFile, NoCommandIsAhead}
use Rattle.component_law.specs.Origin.{GivesTag, EachTagWasSent}
use Rattle.component_law.specs.First.{CreatesAreFirst}
use Rattle.component_law.specs.Sent.{ServerSentItsRun}
use Rattle.component_law.proofs.Heard.{heard_made}

given_from : (least : ℕ) (c : Command) (tag : ℕ) → least ≤ c.capability.tag → GivesTag c tag → least ≤ tag
given_from least c tag le (inl (is, e)) = omega (arith, le, e)
given_from least c tag le (inr (is, e)) = omega (arith, le, e)

-- where the object is there, a tag was reached that the object can't be below
tag_there : (o : Option DriveAt) (object tag : ℕ) → has_reached object 0 o ≡ true
    → ((a : DriveAt) → o ≡ Some a → (x : StoredObject) → object_at a.state.store object ≡ Some x → tag ≤ x.tag)
    → has_reached object tag o ≡ true
tag_there None object tag e each = absurd (cc e)
tag_there (Some a) object tag e each =
    by_object a.failed (object_at a.state.store object) (λ x there. each a refl x there) e
  where
    below : (m n : ℕ) → m ≤ n → nat_le m n ≡ true
    below m n le = grind (arith, le, nat_tests)

    by_object : (b : Bool) (o : Option StoredObject) → ((x : StoredObject) → o ≡ Some x → tag ≤ x.tag)
        → (b || has_tag 0 o) ≡ true → (b || has_tag tag o) ≡ true
    by_object true o least f = refl
    by_object false None least f = absurd (cc f)
    by_object false (Some x) least f = below tag x.tag (least x refl)

module _ (run : ServerSentItsRun) (given : EachTagWasSent) (ahead : NoCommandIsAhead) (files : AllFilesFit)
    (counted : ServerIsCounted) (first : CreatesAreFirst) where
  module _ (w : World) (h : List Line) (k : IsMoment w h) (numbers : Numbers w) (named : AreNamed h)
      (text : AreOfText h) (few : AreFew h) (fair : AreUnforged h) (f : File) (i : In f w.server.files)
      (a : Awaited) (j : In a (awaited_by f.job)) (makes : a.command.action ≡ Create) where
    -- it has its tag from a command of the server, and this isn't under an earlier tag than the CREATE
    least_tag : counters_have_room w.server ≡ true → (there : DriveAt) → drive_after h a.drive ≡ Some there → (x : StoredObject)
        → object_at there.state.store a.command.object ≡ Some x → f.kept.tag ≤ x.tag
    least_tag low there stands x found =
        let r = run w h k named in
        let o = ahead r.acts r.named in
        let both = o.1 r.acts [] (sym (append-nil r.acts)) in
        let read = read_at w h k in
        let g = given h (lawful_at w h k) fair a.drive there stands a.command.object x found in
        let c = world_command w h read numbers a.drive g.message.bytes (record {
          message = letter g.message;
          sent = in_map letter g.message (sent_in h) (in_get (sent_in h) g.number g.message g.there);
          sender = g.sender;
          receiver = g.receiver;
          bytes_are = refl;
        }) in
        let reads = command_reads c.command g.command (ap reading (sym c.bytes_are) ∙ g.read) in
        let sent = r.sends a.drive c.command c.sent in
        let s : HasFile o.0 w.server c.command =
        subst (λ (s : Server). HasFile o.0 s c.command) (sym r.server) (both.1 a.drive c.command sent) in
        let next : w.server.next_object < 2 ^ 64 =
        omega (arith, (counted w h k text).objects, as_many w h read, few) in
        let same : g.command.object ≡ c.command.object = reads.object (omega (arith, s.used, next)) in
        let tag : f.kept.tag ≤ c.command.capability.tag =
        first r.acts r.turns (subst (λ (s : Server). counters_have_room s ≡ true) r.server low) f
        (subst (λ (s : Server). In f s.files) r.server i) a j makes a.drive c.command
        sent (sym same ∙ g.object_is) in
        let fits : KeptFits w.server.next_object s.file.kept =
        one_in (λ (y : File). KeptFits w.server.next_object y.kept) w.server.files s.file (files w h k text)
        (found_file w.server.files (o.0 c.command.object) s.file s.there).0 in
        let own : g.command.capability.tag ≡ c.command.capability.tag =
        reads.tag (omega (arith, s.behind.0, fits.tag)) in
        given_from f.kept.tag g.command x.tag (omega (arith, tag, own)) g.gives

    -- so where a reply counts as the answer to the CREATE, the tag was reached
    pub made_reached : counters_have_room w.server ≡ true → (d n : ℕ) (p : Posted) → slice_get w.network.messages n ≡ Some p
        → p.message.to ≡ node.Server → p.message.from ≡ node.Drive d → (x : Reply)
        → for_server p.message ≡ Some (RepliesTo x) → answers d x a ≡ true → is_done f.kept a x ≡ true
        → reached_in h a.drive a.command.object f.kept.tag ≡ true
    made_reached low d n p there to sender x read answer done =
        reached_by h a.drive a.command.object f.kept.tag (λ object_fits tag_fits.
        tag_there (drive_after h a.drive) a.command.object f.kept.tag
        (heard_made w h (read_at w h k) numbers low d n p there to sender x read f i a j makes answer done object_fits)
        (least_tag low))
