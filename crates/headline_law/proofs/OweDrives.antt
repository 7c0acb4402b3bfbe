-- What a move that isn't of the server makes of the cells of a component: they stay, or the drive performs a WRITE of a repair.
-- Towards `OweFollows` and `DoneFollows` (`specs/Parts.antt`).
use Rattle.std.proofs.Common.{◌≡◌, ◌⊎◌, ℕ, ◌+◌, ◌-◌, ◌<◌, ◌≤◌, Bool, true, false, List, length, slice_get, Option, Some, None, Ok, refl, sym, ap, subst, ◌∙◌, inl, inr, arith}
use Rattle.std.specs.Prelude.{◌||◌, get_or, slice_index}
use Rattle.std.proofs.lemmas.Bool.{cases_lt, and_parts}
use Rattle.osd_lists.specs.declared.node.Node.{Node}
use Rattle.osd_lists.specs.declared.node.Node.TheVariants as node
use Rattle.osd_commands.specs.declared.actions.Action.{Action}
use Rattle.osd_commands.specs.declared.actions.Action.TheVariants as action
use Rattle.osd_commands.specs.declared.commands.Command.{Command}
use Rattle.osd_commands.specs.Commands as commands
use Rattle.osd_objects.specs.declared.object.StoredObject.{StoredObject}
use Rattle.osd_objects.specs.Objects.{created, after_write, after_set_attr, after_set_tag}
use Rattle.osd_objects.specs.Store.{object_at}
use Rattle.osd_drive.specs.Effects.{lane_for, next_tag, performed}
use Rattle.server_rules.proofs.Members.{in_map}
use Rattle.world_history.specs.declared.messages.Posted.{Posted}
use Rattle.world_history.specs.ServerNames.{File, Component}
use Rattle.world_history.specs.State.{World, DriveAt, at_number}
use Rattle.world_history.specs.Spelled.{spelled}
use Rattle.world_history.specs.Moves as world
use Rattle.exchange_law.specs.Sent.{HasSent}
use Rattle.exchange_law.specs.Doing.{said}
use Rattle.server_rules.specs.Laws.{In}
use Rattle.world_history.specs.declared.messages.Message.{Message}
use Rattle.world_history.specs.Drives.{command_in}
use Rattle.history_law.specs.Spent.{IsSpent}
use Rattle.history_law.proofs.Spending.{IsFree, free, not_spent}
use Rattle.fence_law.specs.State.{State}
use Rattle.file_simulation.specs.Components.{AreComponents, ObjectIs, IsMade, IsUnmade, object_on, object_of, has_failed}
use Rattle.file_simulation.specs.DriveEvents.{is_sent_as}
use Rattle.file_simulation.specs.Jobs.{IsFresh}
use Rattle.relation_law.specs.DriveHearing.{IsPerformed, IsOfClient, IsOfServer, IsOfSender, AreOfSenders, WasSentAs, NoneIsGuessed}
use Rattle.relation_law.proofs.DriveMoves.{got_in, found_in, same_numbers, for_drive}
use Rattle.relation_law.proofs.DriveObjects.{Leaves, writes, sets_tag, sets_attr, creates, creates_none, rests, written_at, written_outside}
use Rattle.relation_law.proofs.DriveReads.{spent_read}
use Rattle.headline_law.proofs.OweBecomes.{Becomes, Stays, Fails, Performs, Comes, Delivered, Injected}

-- what is left of its object beside the bytes: all, or it performed a command of the server that isn't a WRITE
pub data Left (w v : World) (at : Component) : Type 0 where
  Same : object_of v at ≡ object_of w at → Left w v at
  Changed : (a : DriveAt) (x : Command) → IsPerformed w at.drive a x → IsOfServer w at.drive x → x.object ≡ at.object →
      (x.action ≡ action.SetTag) ⊎ ((x.action ≡ action.SetAttr) ⊎ (object_of w at ≡ None)) → Left w v at

-- a cell of component n is that of a WRITE
pub record IsCellOf (t : State) (n z : ℕ) (c : Command) : Type 0 where
  pub low : c.offset ≤ z
  pub past : z < c.offset + length c.payload
  pub byte : t.cell n z ≡ slice_index c.payload (z - c.offset)

-- or isn't, and stays
pub record IsBeside (s t : State) (n z : ℕ) (c : Command) : Type 0 where
  pub same : t.cell n z ≡ s.cell n z
  pub out : c.offset ≤ z → z < c.offset + length c.payload → ⊥

pub data Turn (s t : State) (w v : World) (f : File) (n : ℕ) (at : Component) : Type 0 where
  Rests : ((z : ℕ) → t.cell n z ≡ s.cell n z) → Left w v at → Turn s t w v f n at
  Writes : (c : Command) → IsFresh s w f n c → ((z : ℕ) → IsBeside s t n z c ⊎ IsCellOf t n z c) →
      Turn s t w v f n at

-- each command that is performed of a message was sent by a party
abbrev pub HaveSenders : World → Type 0
HaveSenders w =
    (b : Message) (d : ℕ) (a : DriveAt) (x : Command) → In b (said w.network.messages) → b.to ≡ node.Drive d →
    command_in b.body ≡ Ok x → IsPerformed w d a x → (n : Node) × IsOfSender w d x n

-- who sent a command that is performed
pub sender_of : (w : World) (act : world.Action) → HaveSenders w → NoneIsGuessed w act →
    (d : ℕ) (a : DriveAt) (x : Command) → IsPerformed w d a x → Comes w act d x → (n : Node) × IsOfSender w d x n
sender_of w act senders guess d a x p (Delivered m reads) =
    senders m.posted.message d a x
    (in_map (λ (q : Posted). q.message) m.posted w.network.messages
    (got_in w.network.messages m.number m.posted m.there)) m.receiver reads p
sender_of w act senders guess d a x p (Injected bytes is reads) =
    let was : WasSentAs w d bytes = subst (NoneIsGuessed w) is guess in
    let q = was a x reads p in
    let r = found_in (is_sent_as d bytes) w.network.messages q.0 q.1 in
    let both = and_parts _ _ r.1 in
    let same : spelled q.0.message.body ≡ bytes = same_numbers (spelled q.0.message.body) bytes both.1 in
    senders q.0.message d a x (in_map (λ (y : Posted). y.message) q.0 w.network.messages r.0)
    (for_drive d q.0.message.to both.0) (ap commands.reading same ∙ reads) p

module _ (s t : State) (w v : World) (f : File) (before : AreComponents s w f) (now : AreComponents t v f) (n : ℕ)
    (at : Component) (there : slice_get f.kept.components n ≡ Some at) (lost : t.lost n ≡ false) (stood : s.lost n ≡ false)
  where
    was : ObjectIs s f n at (object_of w at)
    was = ((before n at there).stands stood).object

    is : ObjectIs t f n at (object_of v at)
    is = ((now n at there).stands lost).object

    -- the bytes stay
    same_bytes : (o p : StoredObject) → object_of w at ≡ Some o → object_of v at ≡ Some p →
        p.content.bytes ≡ o.content.bytes → (z : ℕ) → t.cell n z ≡ s.cell n z
    same_bytes o p had has same z =
        let made : IsMade s n o = subst (ObjectIs s f n at) had was in
        let makes : IsMade t n p = subst (ObjectIs t f n at) has is in
        makes.cells z ∙ ap (λ (b : List ℕ). get_or b z 0) same ∙ sym (made.cells z)

    same_object : object_of v at ≡ object_of w at → (z : ℕ) → t.cell n z ≡ s.cell n z
    same_object same z = by (object_of w at) refl
      where
        by : (o : Option StoredObject) → object_of w at ≡ o → t.cell n z ≡ s.cell n z
        by None none =
            let un : IsUnmade s f n at = subst (ObjectIs s f n at) none was in
            let uns : IsUnmade t f n at = subst (ObjectIs t f n at) (same ∙ none) is in
            uns.cells z ∙ sym (un.cells z)
        by (Some o) some = same_bytes o o some (same ∙ some) refl z

    -- where its drive and its lane are the same
    pub rests_same : object_of v at ≡ object_of w at → Turn s t w v f n at
    rests_same same = Rests (same_object same) (Same same)

    -- ---- a command is performed

    module _ (a : DriveAt) (x : Command) (p : IsPerformed w at.drive a x) (own : x.object ≡ at.object)
        (becomes : at_number v.drives at.drive ≡ Some (record a { state = performed a.state x })) where
      is_free : IsFree a.state x
      is_free = free a.state a.clock x p.clear

      before_at : object_of w at ≡ object_at a.state.store x.object
      before_at =
          ap (λ (o : Option DriveAt). object_on o at.object) p.there ∙ ap (object_at a.state.store) (sym own)

      behind_at : object_of v at ≡ object_at (performed a.state x).store x.object
      behind_at =
          ap (λ (o : Option DriveAt). object_on o at.object) becomes ∙ ap (object_at (performed a.state x).store) (sym own)

      unspent : (y : Command) → (IsSpent (at_number w.drives at.drive) y → IsSpent (at_number w.drives at.drive) x) →
          IsSpent (at_number w.drives at.drive) y → ⊥
      unspent y reads spent =
          not_spent a x p.hears is_free (subst (λ (o : Option DriveAt). IsSpent o x) p.there (reads spent))

      reads_on : (x.action ≡ action.Read) ⊎ (x.action ≡ action.GetAttr) → Turn s t w v f n at
      reads_on reads =
          rests_same (behind_at ∙ rests a.state x reads x.object ∙ sym before_at)

      -- a client's
      of_client : ((c : ℕ) (y : Command) → HasSent w c at.drive y → y.action ≡ action.Write → y.object ≡ at.object →
          IsSpent (at_number w.drives at.drive) y) → (c : ℕ) → IsOfClient w at.drive c x → Turn s t w v f n at
      of_client quiet c of = elim of.action [
        | inl reads ↦ reads_on (inl reads)
        | inr write ↦
            absurd (unspent of.command (spent_read (at_number w.drives at.drive) of.command x of.reads)
            (quiet c of.command of.sent (sym of.reads.action ∙ write) (sym of.reads.object ∙ own)))
      ]

      -- the server's
      module _ (of : IsOfServer w at.drive x) where
        writes_on : x.action ≡ action.Write → Turn s t w v f n at
        writes_on write =
            let l : Leaves a.state x (after_write x.offset x.payload (lane_for x 0)) = writes a.state x write is_free in
            let made : IsMade s n l.before = subst (ObjectIs s f n at) (before_at ∙ l.there) was in
            let makes : IsMade t n (after_write x.offset x.payload (lane_for x 0) l.before) =
            subst (ObjectIs t f n at) (behind_at ∙ l.behind) is in
            Writes of.command
            (record {
              component = at;
              there = there;
              sent = of.sent;
              write = sym of.reads.action ∙ write;
              object = sym of.reads.object ∙ own;
              unspent = unspent of.command (spent_read (at_number w.drives at.drive) of.command x of.reads);
              stands = stood;
            })
            (λ z. elim (cases_lt z x.offset) [
              | inl low ↦ inl (beside_command z (λ from past. omega (arith, low, from)) (makes.cells z
                  ∙ written_outside l.before.content x.offset x.payload z (λ from past. omega (arith, low, from))
                  ∙ sym (made.cells z)))
              | inr from ↦ elim (cases_lt z (x.offset + length x.payload)) [
                | inl past ↦ inr (at_command z from past
                    (makes.cells z ∙ written_at l.before.content x.offset x.payload z from past))
                | inr high ↦ inl (beside_command z (λ low past. omega (arith, past, high)) (makes.cells z
                    ∙ written_outside l.before.content x.offset x.payload z (λ low past. omega (arith, past, high))
                    ∙ sym (made.cells z)))
              ]
            ])
          where
            beside_command : (z : ℕ) → (x.offset ≤ z → z < x.offset + length x.payload → ⊥) → t.cell n z ≡ s.cell n z →
                IsBeside s t n z of.command
            beside_command z out same =
                let offset : x.offset ≡ of.command.offset = of.reads.offset write in
                let long : length x.payload ≡ length of.command.payload = ap (λ (b : List ℕ). length b) of.reads.payload in
                record {
                  same = same;
                  out = λ low past. out (omega (arith, low, offset)) (omega (arith, past, offset, long));
                }

            at_command : (z : ℕ) → x.offset ≤ z → z < x.offset + length x.payload →
                t.cell n z ≡ slice_index x.payload (z - x.offset) → IsCellOf t n z of.command
            at_command z low past byte =
                let same : x.offset ≡ of.command.offset = of.reads.offset write in
                let long : length x.payload ≡ length of.command.payload = ap (λ (b : List ℕ). length b) of.reads.payload in
                record {
                  low = omega (arith, low, same);
                  past = omega (arith, past, same, long);
                  byte = byte ∙ ap (λ (b : List ℕ). slice_index b (z - x.offset)) of.reads.payload
                      ∙ ap (λ (o : ℕ). slice_index of.command.payload (z - o)) same;
                }

        by_action : (y : Action) → x.action ≡ y → Turn s t w v f n at
        by_action action.Create e =
            let none : object_of w at ≡ None = before_at ∙ creates_none a.state x e is_free in
            let un : IsUnmade s f n at = subst (ObjectIs s f n at) none was in
            let makes : IsMade t n (created x.capability.tag x.payload (lane_for x 0)) =
            subst (ObjectIs t f n at) (behind_at ∙ creates a.state x e) is in
            Rests (λ z. makes.cells z ∙ sym (un.cells z)) (Changed a x p of own (inr (inr none)))
        by_action action.Read e = reads_on (inl e)
        by_action action.Write e = writes_on e
        by_action action.GetAttr e = reads_on (inr e)
        by_action action.SetAttr e =
            let l = sets_attr a.state x e is_free in
            Rests
            (same_bytes l.before (after_set_attr x.attribute x.payload (lane_for x 0) l.before) (before_at ∙ l.there)
            (behind_at ∙ l.behind) refl) (Changed a x p of own (inr (inl e)))
        by_action action.SetTag e =
            let l = sets_tag a.state x e is_free in
            Rests
            (same_bytes l.before (after_set_tag (lane_for x (next_tag (object_at a.state.store x.object))) l.before)
            (before_at ∙ l.there) (behind_at ∙ l.behind) refl) (Changed a x p of own (inl e))

      by_sender : ((c : ℕ) (y : Command) → HasSent w c at.drive y → y.action ≡ action.Write → y.object ≡ at.object →
          IsSpent (at_number w.drives at.drive) y) → (from : Node) → IsOfSender w at.drive x from → Turn s t w v f n at
      by_sender quiet (node.Client c) of = of_client quiet c of
      by_sender quiet node.Server of = by_action of x.action refl
      by_sender quiet (node.Drive d) of = absurd of

    -- while no client's WRITE may come
    pub turns : (act : world.Action) → AreOfSenders s w f → NoneIsGuessed w act →
        ((c : ℕ) (y : Command) → HasSent w c at.drive y → y.action ≡ action.Write → y.object ≡ at.object →
        IsSpent (at_number w.drives at.drive) y) →
        Becomes w v.drives act at.drive at.object → Turn s t w v f n at
    turns act senders guess quiet (Stays same) = rests_same same
    turns act senders guess quiet (Fails failed none) =
        absurd (cc (sym lost ∙ (now n at there).lost ∙ falls at.missing ∙ failed))
      where
        falls : (b : Bool) → (b || has_failed (at_number v.drives at.drive)) ≡ has_failed (at_number v.drives at.drive)
        falls true = sym failed
        falls false = refl
    turns act senders guess quiet (Performs a x p own becomes comes) =
        let r =
        sender_of w act (λ b d e y i to reads q. (b.from, (senders b d e y i to reads q).0)) guess at.drive a x p comes in
        by_sender a x p own becomes quiet r.0 r.1
