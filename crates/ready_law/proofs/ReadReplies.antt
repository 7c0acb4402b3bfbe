-- A client reads in a drive's reply to a command that it carried out that it was.
use Rattle.std.proofs.Common.{◌≡◌, ◌⊎◌, ◌≤◌, ◌<◌, ◌%◌, ◌^◌, ℕ, List, ◌++◌, length, take, drop, replicate, nat_eq, Option, Some, None, Ok, refl, sym, ap, subst, ◌∙◌, inl, inr, arith}
use Rattle.std.specs.Int.{w16, w32, w64, to_be_bytes}
use Rattle.std.proofs.lemmas.List.{length-take}
use Rattle.std.proofs.Math.Bool.{or-true}
use Rattle.std.proofs.lemmas.Nat.{mod_below}
use Rattle.xdr_codec.specs.Items.{u64_item}
use Rattle.osd_commands.specs.declared.actions.Action.{Action}
use Rattle.osd_commands.specs.declared.actions.Action.TheVariants as action
use Rattle.osd_commands.specs.declared.commands.Command.{Command}
use Rattle.osd_commands.specs.declared.replies.Reply.{Reply}
use Rattle.osd_commands.specs.Commands as commands
use Rattle.osd_commands.specs.Replies as replies
use Rattle.osd_commands.proofs.ReplyLaws.{reading-reply}
use Rattle.osd_objects.specs.declared.lanes.LaneEntry.{LaneEntry}
use Rattle.osd_objects.specs.Store.{object_at, lane_or_none, bytes_at}
use Rattle.osd_drive.specs.declared.verdict.Verdict.{Verdict}
use Rattle.osd_drive.specs.declared.verdict.Verdict.TheVariants as verdict
use Rattle.osd_drive.specs.State.{DriveState}
use Rattle.osd_drive.specs.Table.{first_fault}
use Rattle.osd_drive.specs.Effects.{result_of, kept_reply, reply_by, reply_to_reading}
use Rattle.client_rules.specs.Envelopes.{by_reply, message_in}
use Rattle.scenario_text.specs.declared.line.Line.{Line}
use Rattle.world_history.specs.ClientNames.{Awaited}
use Rattle.world_history.specs.State.{World}
use Rattle.world_history.specs.Drives.{judges}
use Rattle.exchange_law.specs.Sent.{HasPlaces}
use Rattle.exchange_law.proofs.CountMoments.{reached}
use Rattle.component_law.proofs.Numbers.{item_64}
use Rattle.cause_law.specs.Readable.{PlacesAreEnough}
use Rattle.ready_law.specs.Clear.{ReadsOrWrites, IsClear, IsCarriedOut, ClearCommandsAreCarriedOut}
use Rattle.ready_law.specs.Fair.{IsFair}
use Rattle.ready_law.specs.Carried.{WorksUnder, CanServe, reply_message, TellsDone}
use Rattle.ready_law.proofs.ReadCommands.{has_places}
use Rattle.ready_law.proofs.NamedLanes.{last_action, StoreNamed, drives_named, holder_named}

-- ---- a wide detail

narrowed : (n : ℕ) → to_be_bytes w64 (n % 2 ^ 64) ≡ to_be_bytes w64 n
unfolding u64_item
narrowed n = item_64 n

-- a reply with another detail, which is spelled as this number is
abbrev with_detail : Reply → ℕ → Reply
with_detail r n = record r { detail = n }

-- the bytes of a reply, around those of its detail
abbrev around : Reply → (detail : List ℕ) → List ℕ
around r bytes =
    (to_be_bytes w32 replies.magic ++ (to_be_bytes w16 r.action ++ (to_be_bytes w16 r.verdict ++ (to_be_bytes w64 r.object
    ++ (to_be_bytes w64 r.nonce ++ (bytes ++ (to_be_bytes w32 (length r.payload) ++ replicate 4 0)))))))
    ++ r.payload

spelled_alike : (r : Reply) → replies.spelling (with_detail r (r.detail % 2 ^ 64)) ≡ replies.spelling r
unfolding replies.spelling replies.fields
spelled_alike r = ap (λ (bytes : List ℕ). around r bytes) (narrowed r.detail)

-- ---- what is read of a reply

-- a reply that tells that a READ or a WRITE was done, but for its detail
record CanTell (r : Reply) (nonce : ℕ) : Type 0 where
  whole : replies.IsWhole r
  object : r.object < 2 ^ 64
  nonce_is : r.nonce ≡ nonce
  low : nonce < 2 ^ 64
  done : r.verdict ≡ 0

-- what a client reads in such a reply
record TellsIn (r : Reply) (nonce : ℕ) : Type 0 where
  reply : Reply
  read : replies.reading (replies.spelling r) ≡ Ok reply
  done : reply.verdict ≡ 0
  its : reply.nonce ≡ nonce

tells_in : (r : Reply) (nonce : ℕ) → CanTell r nonce → TellsIn r nonce
tells_in r nonce k =
    let s : Reply = with_detail r (r.detail % 2 ^ 64) in
    record {
      reply = s;
      read =
          ap replies.reading (sym (spelled_alike r))
          ∙ reading-reply s (record {
            whole = record {
              action = k.whole.action;
              verdict = k.whole.verdict;
              allowed = k.whole.allowed;
              payload = k.whole.payload;
            };
            numbers = record {
              object = k.object;
              nonce = omega (arith, k.nonce_is, k.low);
              detail = mod_below r.detail (2 ^ 64) (omega arith);
            };
          });
      done = k.done;
      its = k.nonce_is;
    }

-- ---- what a drive replies

-- of a READ with few bytes, and of a WRITE
result_whole : (a : Action) (s : DriveState) (c : Command) → ReadsOrWrites a → c.action ≡ a → c.length < 2 ^ 32
    → replies.IsWhole (result_of a s.store c)
result_whole a s c (inl is) own low =
    rw (own, is) (record {
      action = omega arith;
      verdict = refl;
      allowed = or-true (nat_eq (length (take c.length (drop c.offset (bytes_at s.store c.object)))) 0);
      payload = omega (arith, length-take c.length (drop c.offset (bytes_at s.store c.object)), low);
    })
result_whole a s c (inr is) own low =
    rw (own, is) (record { action = omega arith; verdict = refl; allowed = refl; payload = omega arith })

kept_whole : (c : Command) (o : Option LaneEntry) → ((l : LaneEntry) → o ≡ Some l → l.action ≤ last_action)
    → (kept_reply c o).verdict ≡ 0 → replies.IsWhole (kept_reply c o)
kept_whole c None named done = absurd (omega (arith, done))
kept_whole c (Some l) named done = record {
  action = named l refl;
  verdict = refl;
  allowed = refl;
  payload = omega arith;
}

result_object : (a : Action) (s : DriveState) (c : Command) → (result_of a s.store c).object ≡ c.object
result_object action.Create s c = refl
result_object action.Read s c = refl
result_object action.Write s c = refl
result_object action.GetAttr s c = refl
result_object action.SetAttr s c = refl
result_object action.SetTag s c = refl

kept_object : (c : Command) (o : Option LaneEntry) → (kept_reply c o).object ≡ c.object
kept_object c None = refl
kept_object c (Some l) = refl

replied_object : (v : Verdict) (d : DriveState) (c : Command) → (reply_by v d c).object ≡ c.object
replied_object verdict.Perform d c = result_object c.action d c
replied_object verdict.Again d c = kept_object c (lane_or_none (object_at d.store c.object) c.capability.holder)
replied_object v d c = refl

module _ (d : DriveState) (c : Command) (named : StoreNamed d.store) (clear : ReadsOrWrites c.action)
    (low : c.length < 2 ^ 32) where
  replied_whole : (v : Verdict) → (v ≡ verdict.Perform) ⊎ (v ≡ verdict.Again) → (reply_by v d c).verdict ≡ 0
      → replies.IsWhole (reply_by v d c)
  replied_whole v (inl is) done =
      subst (λ (u : Verdict). replies.IsWhole (reply_by u d c)) (sym is) (result_whole c.action d c clear refl low)
  replied_whole v (inr is) done =
      subst (λ (u : Verdict). replies.IsWhole (reply_by u d c)) (sym is)
      (kept_whole c (lane_or_none (object_at d.store c.object) c.capability.holder)
      (λ l e. holder_named d.store c.object c.capability.holder l named e)
      (subst (λ (u : Verdict). (reply_by u d c).verdict ≡ 0) is done))

can_tell : (d : DriveState) (now : ℕ) (c : Command) → StoreNamed d.store → IsClear d now c → IsCarriedOut d now c
    → HasPlaces c → CanTell (reply_by (first_fault d now c) d c) c.nonce
can_tell d now c named clear k places = record {
  whole = replied_whole d c named clear.placed.action (omega (arith, clear.short)) (first_fault d now c) k.verdict k.told;
  object = omega (arith, replied_object (first_fault d now c) d c, places.object);
  nonce_is = k.nonce;
  low = places.nonce;
  done = k.told;
}

-- ---- at a moment

pub replies_are_read : PlacesAreEnough → ClearCommandsAreCarriedOut → (w : World) (h : List Line) → IsFair w h
    → (client : ℕ) (x : Awaited) (u : WorksUnder w client x) (d : CanServe u) → x.drive ≡ d.at.drive
    → commands.reading (commands.spelling x.command) ≡ Ok x.command → IsClear d.drive.state d.drive.clock x.command
    → TellsDone (reply_message d.drive client x) x.command.nonce
unfolding judges message_in
replies_are_read places carried w h fair client x u d on read clear =
    let named : StoreNamed d.drive.state.store = drives_named w (reached w h fair.moment) d.at.drive d.drive d.stands in
    let t = tells_in _ x.command.nonce
    (can_tell d.drive.state d.drive.clock x.command named clear
    (carried d.drive.state d.drive.clock x.command clear) (has_places w h client x u places fair)) in
    record {
      reply = t.reply;
      read =
          ap (λ r. by_reply (replies.reading (replies.spelling (reply_to_reading d.drive.state d.drive.clock r)))) read
          ∙ ap by_reply t.read;
      done = t.done;
      its = t.its;
    }
