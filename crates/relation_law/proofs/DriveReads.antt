-- A command that was sent, and what a drive reads of it: what holds of the one holds of the other.
-- Towards `ComponentsGoOn` (`specs/Steps.antt`).
use Rattle.std.proofs.Common.{◌≡◌, ℕ, ◌+◌, ◌<◌, List, length, Option, Some, None, sym, ap, subst, ◌∙◌, inl, inr, arith}
use Rattle.std.specs.Prelude.{slice_index}
use Rattle.osd_commands.specs.declared.actions.Action.TheVariants as action
use Rattle.osd_commands.specs.declared.commands.Command.{Command}
use Rattle.osd_drive.specs.Table.{is_mutating}
use Rattle.osd_objects.specs.Lanes.{lane_of}
use Rattle.osd_objects.specs.Store.{object_at}
use Rattle.osd_objects.specs.declared.object.StoredObject.{StoredObject}
use Rattle.osd_capability.specs.declared.layout.Capability.{Capability}
use Rattle.world_history.specs.State.{DriveAt}
use Rattle.history_law.specs.Spent.{HasPassed, IsSpent, IsSpentOn}
use Rattle.fence_law.specs.State.{State, Write}
use Rattle.file_simulation.specs.Messages.{Carries, WasSent}
use Rattle.relation_law.specs.DriveHearing.{IsReadAs}

carries_read : (s : State) (k : ℕ) (y x : Command) (m : Write) → x.payload ≡ y.payload → x.offset ≡ y.offset →
    Carries s k y m → Carries s k x m
carries_read s k y x m payload offset is = record {
  content = λ i low.
      ap (λ (n : ℕ). (s.start m.entry).content k (n + i)) offset
      ∙ is.content i (subst (λ (q : List ℕ). i < length q) payload low)
      ∙ ap (λ (q : List ℕ). Some (slice_index q i)) (sym payload);
  part = λ i low.
      ap (λ (n : ℕ). (s.start m.entry).part k (n + i)) offset
      ∙ is.part i (subst (λ (q : List ℕ). i < length q) payload low);
  just = λ z v has own.
      let r = is.just z v has own in
      (omega (arith, r.0, offset), omega (arith, r.1, offset, ap (λ (q : List ℕ). length q) payload));
}

-- the machine's client sent what is read of a WRITE that it sent
pub sent_read : (s : State) (c k : ℕ) (y x : Command) → IsReadAs y x → x.capability ≡ y.capability →
    x.action ≡ action.Write → WasSent s c k y → WasSent s c k x
sent_read s c k y x reads capability write was = record {
  write = was.write;
  sent = was.sent;
  holder = was.holder;
  grant = was.grant ∙ ap (λ (q : Capability). q.grant) (sym capability);
  tag = was.tag ∙ sym reads.tag;
  nonce = was.nonce ∙ sym reads.nonce;
  at_ = was.at_;
  carries = carries_read s k y x was.write reads.payload (reads.offset write) was.carries;
}

on_read : (o : Option StoredObject) (y x : Command) → IsReadAs y x → IsSpentOn o y → IsSpentOn o x
on_read None y x reads spent = spent
on_read (Some q) y x reads (inl made) = inl (reads.action ∙ made)
on_read (Some q) y x reads (inr (inl older)) = inr (inl (omega (arith, older, reads.tag)))
on_read (Some q) y x reads (inr (inr passed)) = inr (inr (
  ap is_mutating reads.action ∙ passed.0,
  subst (λ (n : ℕ). HasPassed (lane_of q.lanes n) x.nonce) (sym reads.holder)
      (subst (HasPassed (lane_of q.lanes y.capability.holder)) (sym reads.nonce) passed.1),
))

-- it is spent where what was sent is
pub spent_read : (o : Option DriveAt) (y x : Command) → IsReadAs y x → IsSpent o y → IsSpent o x
spent_read None y x reads spent = spent
spent_read (Some a) y x reads (inl failed) = inl failed
spent_read (Some a) y x reads (inr (inl old)) = inr (inl (omega (arith, old, reads.format)))
spent_read (Some a) y x reads (inr (inr on)) =
    inr (inr (subst (λ (n : ℕ). IsSpentOn (object_at a.state.store n) x) (sym reads.object)
    (on_read (object_at a.state.store y.object) y x reads on)))
