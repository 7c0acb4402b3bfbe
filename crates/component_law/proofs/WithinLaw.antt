-- No object on a drive has a tag past its file's, since each has its tag from a command of the server.
use Rattle.std.specs.List.{AllByRecursion}
use Rattle.std.proofs.Common.{◌≡◌, ◌⊎◌, ◌<◌, ◌≤◌, ◌^◌, ℕ, true, List, [], ◌∷◌, Option, Some, None, map, slice_get, sym, ap, subst, ◌∙◌, arith, inl, inr}
use Rattle.std.proofs.lemmas.List.{append-nil}
use Rattle.osd_lists.specs.declared.node.Node.{Node}
use Rattle.osd_lists.specs.declared.node.Node.TheVariants as node
use Rattle.osd_commands.specs.declared.commands.Command.{Command}
use Rattle.osd_commands.specs.declared.actions.Action.TheVariants.{SetTag}
use Rattle.osd_commands.specs.Commands.{reading, spelling}
use Rattle.scenario_text.specs.declared.line.Line.{Line}
use Rattle.scenario_text.specs.declared.line.Party.TheVariants as party
use Rattle.server_rules.specs.Files.{file_at}
use Rattle.server_rules.specs.Laws.{In}
use Rattle.server_rules.specs.Making.{new_server}
use Rattle.server_rules.specs.History.{state_after}
use Rattle.server_rules.proofs.FileLaws.{number_at, file_in}
use Rattle.server_rules.proofs.Members.{in_mapped, in_map}
use Rattle.world_history.specs.ServerNames.{Server, File, Component, Kept}
use Rattle.world_history.specs.declared.messages.Body.{Body}
use Rattle.world_history.specs.declared.messages.Body.TheVariants.{Command as OfCommand}
use Rattle.world_history.specs.declared.messages.Message.{Message}
use Rattle.world_history.specs.declared.messages.Posted.{Posted}
use Rattle.world_history.specs.declared.messages.Sent.{Sent}
use Rattle.world_history.specs.State.{World}
use Rattle.world_history.specs.Laws.{shown}
use Rattle.world_history.specs.Spelled.{spelled}
use Rattle.world_history.specs.Reading.{sent_in}
use Rattle.history_law.specs.BookMoments.{IsMoment}
use Rattle.history_law.proofs.DriveEvents.{IsRead}
use Rattle.history_law.proofs.DriveLines.{sent_read, drive_read}
use Rattle.history_law.proofs.Spelled.{ReadsAs, command_reads}
use Rattle.exchange_law.proofs.Knowing.{lawful_at}
use Rattle.exchange_law.proofs.Replied.{read_at}
use Rattle.exchange_law.specs.Text.{AreOfText, AreFew}
use Rattle.exchange_law.specs.Files.{KeptFits, AllFilesFit}
use Rattle.exchange_law.specs.Counters.{ServerIsCounted}
use Rattle.component_law.specs.Tagged.{HasFile, NoCommandIsAhead, fence_open}
use Rattle.component_law.specs.Within.{IsWithin}
use Rattle.component_law.specs.Objects.{AreOwned, objects_of}
use Rattle.component_law.specs.Sent.{ServerSentItsRun}
use Rattle.component_law.specs.Origin.{GivesTag, EachTagWasSent}
use Rattle.scenario_text.specs.declared.event.Event.{Event}
use Rattle.world_history.specs.Sending.{Move}
use Rattle.world_history.specs.History.{StandsFor}
use Rattle.world_history.specs.Plans.{plan_of}
use Rattle.world_history.specs.Refusals.{refusal}
use Rattle.world_history.specs.Runs.{world_after, AreDue}
use Rattle.world_history.proofs.Always.{opening, IsKept}
use Rattle.world_history.proofs.Parties.{party_server, party_drive}
use Rattle.history_law.proofs.Histories.{stands, kept_part}
use Rattle.history_law.proofs.LaneLines.{in_get}
use Rattle.history_law.proofs.FencingMoves.{messages_in}
use Rattle.history_law.proofs.Numbers.{Numbers, to_drive, numbers_move, numbers_first}
use Rattle.exchange_law.proofs.CountGrowing.{as_many}
use Rattle.component_law.specs.Tagged.{IsBehind}
use Rattle.component_law.specs.TagWithin.{NoTagIsAhead}

-- ---- files

fits_of : (o : ℕ) (fs : List File) (f : File) → AllByRecursion (λ (g : File). KeptFits o g.kept) fs → In f fs
    → KeptFits o f.kept
fits_of o [] f all i = absurd i
fits_of o (x ∷ fs) f all (inl e) = subst (λ (g : File). KeptFits o g.kept) (sym e) all.0
fits_of o (x ∷ fs) f all (inr i) = fits_of o fs f all.1 i

listed : (cs : List Component) (at : Component) → In at cs → In at.object (objects_of cs)
listed [] at i = absurd i
listed (x ∷ cs) at (inl e) = inl (ap (λ (y : Component). y.object) e)
listed (x ∷ cs) at (inr i) = inr (listed cs at i)

same_file : (o : Option File) (f g : File) → o ≡ Some f → o ≡ Some g → f ≡ g
same_file o f g a b = cc (sym a ∙ b)

-- ---- the tag that a command gives

given_within : (k : Kept) (c y : Command) (tag : ℕ) → y.action ≡ c.action → y.capability.tag ≡ c.capability.tag
    → (c.capability.tag ≤ k.tag) × (c.action ≡ SetTag → (c.capability.tag < k.tag) ⊎ (fence_open k ≡ true))
    → GivesTag y tag → IsWithin k tag
given_within k c y tag act same behind (inl (is, e)) = inl (rw (e ∙ same) behind.0)
given_within k c y tag act same behind (inr (is, e)) = elim (behind.1 (sym act ∙ is)) [
  | inl less ↦ inl (omega (arith, less, e, same))
  | inr fence ↦ inr (omega (arith, behind.0, e, same), fence)
]

-- ---- the server's messages

numbers_kept : IsKept (λ w h. Numbers w)
numbers_kept = record {
  starts = numbers_first;
  opens = λ w h e chosen k allowed. numbers_move w (opening e chosen) k;
  moves = λ w h r m k due. numbers_move w m k;
}

numbers_moves : (v : World) (h : List Line) (e : Event) (ms : List Move) → StandsFor v h → refusal v e ≡ None
    → AreDue (plan_of v e) v ms → Numbers (world_after v ms)
numbers_moves v h e [] s allowed d = stands (λ w g. Numbers w) numbers_kept v h s
numbers_moves v h e (m ∷ ms) s allowed d =
    kept_part (λ w g. Numbers w) numbers_kept v h e m ms d allowed (stands (λ w g. Numbers w) numbers_kept v h s)

numbers_at : (w : World) (h : List Line) → IsMoment w h → Numbers w
numbers_at w h k =
    subst Numbers (sym k.world_is)
    (numbers_moves k.before k.history k.event k.moves k.stands k.allowed k.are_due)

-- a message of the server to a drive, as the lines have it, is a command that it sent
record IsCommand (w : World) (d : ℕ) (bytes : List ℕ) : Type 0 where
  command : Command
  sent : In (to_drive d (OfCommand command)) (messages_in w)
  bytes_are : bytes ≡ spelling command

its_command : (w : World) (n : Numbers w) (d : ℕ) (bytes : List ℕ) (m : Message) → In m (messages_in w)
    → m ≡ to_drive d m.body → bytes ≡ spelled m.body → IsCommand w d bytes
its_command w n d bytes m i is spells =
    let there : In (to_drive d m.body) (messages_in w) = subst (λ (x : Message). In x (messages_in w)) is i in
    let c = n.sent d m.body there in
    record {
      command = c.0;
      sent = subst (λ (b : Body). In (to_drive d b) (messages_in w)) c.1 there;
      bytes_are = spells ∙ ap spelled c.1;
    }

world_command : (w : World) (h : List Line) → IsRead w h → Numbers w → (n d : ℕ) (m : Sent)
    → slice_get (sent_in h) n ≡ Some m → m.from ≡ party.Server → m.to ≡ party.Drive d → IsCommand w d m.bytes
world_command w h r numbers n d s there from to =
    let q = in_mapped shown s w.network.messages
    (in_get (map shown w.network.messages) n s
    (ap (λ (ss : List Sent). slice_get ss n) (sym (sent_read w r.injected h r.drives)) ∙ there)) in
    let m : Message = q.0.message in
    let sender : m.from ≡ node.Server = party_server m.from (ap (λ (x : Sent). x.from) (sym q.2) ∙ from) in
    let receiver : m.to ≡ node.Drive d = party_drive m.to d (ap (λ (x : Sent). x.to) (sym q.2) ∙ to) in
    its_command w numbers d s.bytes m (in_map (λ (p : Posted). p.message) q.0 w.network.messages q.1)
    (ap (λ (f : Node). whole f m.to m.body) sender ∙ ap (λ (t : Node). whole node.Server t m.body) receiver)
    (ap (λ (x : Sent). x.bytes) q.2)
  where
    whole : Node → Node → Body → Message
    whole f t b = record { from = f; to = t; body = b }

-- ---- the law

module _ (run : ServerSentItsRun) (given : EachTagWasSent) (ahead : NoCommandIsAhead) (files : AllFilesFit)
    (counted : ServerIsCounted) where
  under : (w : World) (h : List Line) (k : IsMoment w h) → AreOfText h → AreFew h → (n : ℕ) (f : File)
      → file_at w.server.files n ≡ Some f → (at : Component) → In at f.kept.components → (owner : ℕ → ℕ)
      → AreOwned owner w.server → (c y : Command) → ReadsAs c y → y.object ≡ at.object → HasFile owner w.server c
      → (tag : ℕ) → GivesTag y tag → IsWithin f.kept tag
  under w h k text few n f e at i owner owned c y reads object_is s tag gives =
      let some : In f w.server.files = file_in w.server.files n f e in
      let fits = fits_of w.server.next_object w.server.files f (files w h k text) some in
      let next : w.server.next_object < 2 ^ 64 =
      omega (arith, (counted w h k text).objects, as_many w h (read_at w h k), few) in
      let same : y.object ≡ c.object = reads.object (omega (arith, s.used, next)) in
      let own = (owned f some).components at.object (listed f.kept.components at i) in
      let number : owner c.object ≡ n =
      ap owner (sym same ∙ object_is) ∙ own.1 ∙ number_at w.server.files n f e in
      let it : s.file ≡ f =
      same_file (file_at w.server.files n) s.file f
      (ap (λ (x : ℕ). file_at w.server.files x) (sym number) ∙ s.there) e in
      let behind = subst (λ (g : File). IsBehind g.kept c) it s.behind in
      given_within f.kept c y tag reads.action (reads.tag (omega (arith, behind.0, fits.tag))) behind gives

  pub no_tag_is_ahead : NoTagIsAhead
  no_tag_is_ahead w h k named text few fair n f e at i a stands x found =
      let r = run w h k named in
      let o = ahead r.acts r.named in
      let both = o.1 r.acts [] (sym (append-nil r.acts)) in
      let read = read_at w h k in
      let g = given h (lawful_at w h k) fair at.drive a (drive_read w read.injected h at.drive read.drives ∙ stands)
      at.object x found in
      let c = world_command w h read (numbers_at w h k) g.number at.drive g.message g.there g.sender g.receiver in
      let back : (P : Server → Type 0) → P (state_after (new_server []) r.acts) → P w.server =
      λ P p. subst P (sym r.server) p in
      under w h k text few n f e at i o.0 (back (AreOwned o.0) both.0) c.command g.command
      (command_reads c.command g.command (ap reading (sym c.bytes_are) ∙ g.read)) g.object_is
      (back (λ (s : Server). HasFile o.0 s c.command) (both.1 at.drive c.command (r.sends at.drive c.command c.sent)))
      x.tag g.gives
