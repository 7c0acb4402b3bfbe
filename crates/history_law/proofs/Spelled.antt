-- What is read of a command, or of a reply, that was spelled: the numbers that fit their places.
use Rattle.std.proofs.Common.{◌≡◌, ℕ, ◌<◌, ◌^◌, Bool, true, false, not, cond, nat_eq, nat_lt, List, length, Result, Ok, Err, Option, Some, None, refl, sym, ap, ◌∙◌}
use Rattle.std.specs.Prelude.{slice_range, slice_index}
use Rattle.std.specs.Int.{w16, w32, w64, to_be_bytes, from_be_bytes}
use Rattle.std.proofs.lemmas.Nat.{from_be_bytes-to_be_bytes_2, from_be_bytes-to_be_bytes_4, from_be_bytes-to_be_bytes_8}
use Rattle.osd_capability.specs.declared.layout.Capability.{Capability}
use Rattle.osd_capability.specs.declared.layout.CapErr.{CapErr}
use Rattle.osd_capability.specs.Layout as Cap
use Rattle.osd_commands.specs.declared.actions.Action.{Action}
use Rattle.osd_commands.specs.declared.actions.Action.TheVariants.{Create, Read, Write, GetAttr, SetAttr, SetTag}
use Rattle.osd_commands.specs.declared.commands.Command.{Command}
use Rattle.osd_commands.specs.declared.commands.CommandErr.{CommandErr}
use Rattle.osd_commands.specs.declared.commands.CommandErr.TheVariants.{Short, Magic, BadAction}
use Rattle.osd_capability.specs.declared.layout.CapErr.TheVariants.{Length as CapLength, Format as CapFormat}
use Rattle.osd_lists.specs.Blocks.{first_nonzero}
use Rattle.osd_lists.proofs.Options.{guard_ok}
use Rattle.osd_commands.specs.declared.replies.Reply.{Reply}
use Rattle.osd_commands.specs.Actions.{number_of, action_of}
use Rattle.osd_commands.specs.Commands as Command
use Rattle.osd_commands.specs.Commands.{fields, head, spelling, stray, command_at, with_action, unless_reserved, with_capability, sized, reading}
use Rattle.osd_commands.specs.Replies as Reply
use Rattle.osd_commands.proofs.Passing.{if_ok}

-- ---- what an answer shows

action_ok : (bytes : List ℕ) (o : Option Action) (c : Command) → with_action bytes o ≡ Ok c
    → (a : Action) × (o ≡ Some a) × (unless_reserved bytes a (stray bytes) ≡ Ok c)
action_ok bytes (Some a) c e = (a, refl, e)
action_ok bytes None c e = absurd cc

reserved_ok : (bytes : List ℕ) (a : Action) (o : Option ℕ) (c : Command) → unless_reserved bytes a o ≡ Ok c
    → with_capability bytes a (Cap.reading (slice_range bytes 64 160)) ≡ Ok c
reserved_ok bytes a None c e = e
reserved_ok bytes a (Some at) c e = absurd cc

capability_ok : (bytes : List ℕ) (a : Action) (r : Result Capability CapErr) (c : Command)
    → with_capability bytes a r ≡ Ok c
    → (cap : Capability) × (r ≡ Ok cap) × (sized bytes (command_at a cap bytes) ≡ Ok c)
capability_ok bytes a (Ok cap) c e = (cap, refl, e)
capability_ok bytes a (Err f) c e = absurd cc

record IsRead (bytes : List ℕ) (c : Command) : Type 0 where
  action : Action
  capability : Capability
  action_is : action_of (from_be_bytes w16 (slice_range bytes 4 6)) ≡ Some action
  capability_is : Cap.reading (slice_range bytes 64 160) ≡ Ok capability
  command_is : command_at action capability bytes ≡ c

is_read : (bytes : List ℕ) (c : Command) → reading bytes ≡ Ok c → IsRead bytes c
unfolding reading
is_read bytes c e =
    let one = guard_ok (nat_lt (length bytes) 256) Short _ c e in
    let two = guard_ok (not (nat_eq (from_be_bytes w32 (slice_range bytes 0 4)) Command.magic)) Magic _ c one.1 in
    let three = action_ok bytes _ c two.1 in
    let four = reserved_ok bytes three.0 (stray bytes) c three.2 in
    let five = capability_ok bytes three.0 _ c four in
    let six = if_ok _ _ (command_at three.0 five.0 bytes) c five.2 in
    record {
      action = three.0;
      capability = five.0;
      action_is = three.1;
      capability_is = five.1;
      command_is = six.1;
    }

cap_guard : (b : Bool) (f : CapErr) (r : Result Capability CapErr) (c : Capability)
    → cond (not b) (Err f) r ≡ Ok c → r ≡ Ok c
cap_guard true f r c e = e
cap_guard false f r c e = absurd cc

cap_reserved : (o : Option ℕ) (x c : Capability) → Cap.unless_reserved o x ≡ Ok c → x ≡ c
cap_reserved None x c e = cc
cap_reserved (Some at) x c e = absurd cc

cap_read : (bytes : List ℕ) (c : Capability) → Cap.reading bytes ≡ Ok c → Cap.capability_at bytes ≡ c
unfolding Cap.reading
cap_read bytes c e =
    cap_reserved (Cap.stray bytes) _ c
    (cap_guard (Cap.is_format (slice_index bytes 0)) CapFormat _ c (cap_guard (nat_eq (length bytes) 96) CapLength _
    c e))

action_again : (a : Action) → action_of (from_be_bytes w16 (to_be_bytes w16 (number_of a))) ≡ Some a
action_again Create = refl
action_again Read = refl
action_again Write = refl
action_again GetAttr = refl
action_again SetAttr = refl
action_again SetTag = refl

some_same : (a b : Action) → Some a ≡ Some b → a ≡ b
some_same a b e = cc e

-- ---- a command

-- the numbers of a command that is read are those of the command that was spelled, where they fit their places
pub record ReadsAs (c d : Command) : Type 0 where
  pub action : d.action ≡ c.action
  pub object : c.object < 2 ^ 64 → d.object ≡ c.object
  pub nonce : c.nonce < 2 ^ 64 → d.nonce ≡ c.nonce
  pub tag : c.capability.tag < 2 ^ 32 → d.capability.tag ≡ c.capability.tag
  pub holder : c.capability.holder < 2 ^ 32 → d.capability.holder ≡ c.capability.holder

action_part : (c : Command) → slice_range (spelling c) 4 6 ≡ to_be_bytes w16 (number_of c.action)
unfolding spelling head fields
action_part c = refl

object_part : (c : Command) → slice_range (spelling c) 16 24 ≡ to_be_bytes w64 c.object
unfolding spelling head fields
object_part c = refl

pub nonce_part : (c : Command) → slice_range (spelling c) 40 48 ≡ to_be_bytes w64 c.nonce
unfolding spelling head fields
nonce_part c = refl

capability_part : (c : Command) → slice_range (spelling c) 64 160 ≡ Cap.spelling c.capability
unfolding spelling head fields Cap.spelling
capability_part c = refl

tag_part : (c : Capability) → slice_range (Cap.spelling c) 24 28 ≡ to_be_bytes w32 c.tag
unfolding Cap.spelling
tag_part c = refl

holder_part : (c : Capability) → slice_range (Cap.spelling c) 20 24 ≡ to_be_bytes w32 c.holder
unfolding Cap.spelling
holder_part c = refl

at_object : (a : Action) (cap : Capability) (bytes : List ℕ)
    → (command_at a cap bytes).object ≡ from_be_bytes w64 (slice_range bytes 16 24)
unfolding command_at
at_object a cap bytes = refl

at_nonce : (a : Action) (cap : Capability) (bytes : List ℕ)
    → (command_at a cap bytes).nonce ≡ from_be_bytes w64 (slice_range bytes 40 48)
unfolding command_at
at_nonce a cap bytes = refl

at_action : (a : Action) (cap : Capability) (bytes : List ℕ) → (command_at a cap bytes).action ≡ a
unfolding command_at
at_action a cap bytes = refl

at_capability : (a : Action) (cap : Capability) (bytes : List ℕ) → (command_at a cap bytes).capability ≡ cap
unfolding command_at
at_capability a cap bytes = refl

at_tag : (bytes : List ℕ) → (Cap.capability_at bytes).tag ≡ from_be_bytes w32 (slice_range bytes 24 28)
unfolding Cap.capability_at
at_tag bytes = refl

at_holder : (bytes : List ℕ) → (Cap.capability_at bytes).holder ≡ from_be_bytes w32 (slice_range bytes 20 24)
unfolding Cap.capability_at
at_holder bytes = refl

pub command_reads : (c d : Command) → reading (spelling c) ≡ Ok d → ReadsAs c d
command_reads c d e =
    let r = is_read (spelling c) d e in
    let its : Cap.capability_at (Cap.spelling c.capability) ≡ r.capability =
    ap Cap.capability_at (sym (capability_part c)) ∙ cap_read _ r.capability r.capability_is in
    let own : r.capability ≡ d.capability =
    sym (at_capability r.action r.capability (spelling c)) ∙ ap (λ (x : Command). x.capability) r.command_is in
    record {
      action =
          ap (λ (x : Command). x.action) (sym r.command_is) ∙ at_action r.action r.capability (spelling c)
          ∙ sym (some_same c.action r.action
          (sym (action_again c.action) ∙ ap (λ (p : List ℕ). action_of (from_be_bytes w16 p)) (sym (action_part c))
          ∙ r.action_is));
      object =
          λ fits. ap (λ (x : Command). x.object) (sym r.command_is) ∙ at_object r.action r.capability (spelling c)
          ∙ ap (from_be_bytes w64) (object_part c) ∙ from_be_bytes-to_be_bytes_8 c.object fits;
      nonce =
          λ fits. ap (λ (x : Command). x.nonce) (sym r.command_is) ∙ at_nonce r.action r.capability (spelling c)
          ∙ ap (from_be_bytes w64) (nonce_part c) ∙ from_be_bytes-to_be_bytes_8 c.nonce fits;
      tag =
          λ fits. ap (λ (x : Capability). x.tag) (sym (its ∙ own)) ∙ at_tag (Cap.spelling c.capability)
          ∙ ap (from_be_bytes w32) (tag_part c.capability) ∙ from_be_bytes-to_be_bytes_4 c.capability.tag fits;
      holder =
          λ fits. ap (λ (x : Capability). x.holder) (sym (its ∙ own)) ∙ at_holder (Cap.spelling c.capability)
          ∙ ap (from_be_bytes w32) (holder_part c.capability) ∙ from_be_bytes-to_be_bytes_4 c.capability.holder fits;
    }

-- ---- a reply

reply_guard : (b : Bool) (f : CommandErr) (r : Result Reply CommandErr) (x : Reply) → cond b (Err f) r ≡ Ok x → r ≡ Ok x
reply_guard b f r x e = (guard_ok b f r x e).1

reply_reserved : (bytes : List ℕ) (o : Option ℕ) (x : Reply) → Reply.unless_reserved bytes o ≡ Ok x
    → Reply.sized bytes (Reply.reply_at bytes) ≡ Ok x
reply_reserved bytes None x e = e
reply_reserved bytes (Some at) x e = absurd cc

reply_is : (bytes : List ℕ) (x : Reply) → Reply.reading bytes ≡ Ok x → Reply.reply_at bytes ≡ x
unfolding Reply.reading
reply_is bytes x e =
    let one = reply_guard (nat_lt (length bytes) 40) Short _ x e in
    let two = reply_guard (not (nat_eq (from_be_bytes w32 (slice_range bytes 0 4)) Reply.magic)) Magic _ x one in
    let three = reply_guard (nat_lt 6 (Reply.action_at bytes)) (BadAction (Reply.action_at bytes)) _ x two in
    let four =
    reply_guard (not (Reply.is_verdict (Reply.verdict_at bytes))) (BadAction (Reply.verdict_at bytes)) _ x three in
    (if_ok _ _ (Reply.reply_at bytes) x (reply_reserved bytes (first_nonzero bytes 36 40) x four)).1

verdict_part : (r : Reply) → (Reply.reply_at (Reply.spelling r)).verdict ≡ from_be_bytes w16 (to_be_bytes w16 r.verdict)
unfolding Reply.reply_at Reply.spelling Reply.fields
verdict_part r = refl

reply_nonce : (r : Reply) → (Reply.reply_at (Reply.spelling r)).nonce ≡ from_be_bytes w64 (to_be_bytes w64 r.nonce)
unfolding Reply.reply_at Reply.spelling Reply.fields
reply_nonce r = refl

detail_part : (r : Reply) → (Reply.reply_at (Reply.spelling r)).detail ≡ from_be_bytes w64 (to_be_bytes w64 r.detail)
unfolding Reply.reply_at Reply.spelling Reply.fields
detail_part r = refl

-- so of a reply
pub record RepliesAs (r x : Reply) : Type 0 where
  pub verdict : r.verdict < 2 ^ 16 → x.verdict ≡ r.verdict
  pub nonce : r.nonce < 2 ^ 64 → x.nonce ≡ r.nonce
  pub detail : r.detail < 2 ^ 64 → x.detail ≡ r.detail

pub reply_reads : (r x : Reply) → Reply.reading (Reply.spelling r) ≡ Ok x → RepliesAs r x
reply_reads r x e =
    let its : Reply.reply_at (Reply.spelling r) ≡ x = reply_is (Reply.spelling r) x e in
    record {
      verdict =
          λ fits. ap (λ (y : Reply). y.verdict) (sym its) ∙ verdict_part r ∙ from_be_bytes-to_be_bytes_2 r.verdict fits;
      nonce = λ fits. ap (λ (y : Reply). y.nonce) (sym its) ∙ reply_nonce r ∙ from_be_bytes-to_be_bytes_8 r.nonce fits;
      detail =
          λ fits. ap (λ (y : Reply). y.detail) (sym its) ∙ detail_part r ∙ from_be_bytes-to_be_bytes_8 r.detail fits;
    }
