-- How many bytes the messages of a call have.
use Rattle.std.proofs.Common.{◌≡◌, ◌⊎◌, ◌≤◌, ◌+◌, ◌-◌, ◌*◌, ℕ, suc, Bool, true, false, nat_eq, if◌then◌else◌, List, [], ◌∷◌, ◌++◌, length, take, drop, replicate, Option, Some, None, Result, Ok, flat_map, refl, ap, subst, sym, ◌∙◌, arith, inl, inr}
use Rattle.std.specs.List.{AllByRecursion}
use Rattle.std.proofs.lemmas.List.{length-append, length-take, length-replicate}
use Rattle.std.proofs.lemmas.List.Concat.{flat_map-cons}
use Rattle.hmac_tags.specs.Mac.{hmac_sha1, hmac_sha256}
use Rattle.hmac_tags.proofs.Lengths.{long_sha1, long_sha256}
use Rattle.xdr_codec.specs.Items.{u32_item, u64_item, bool_item, fixed_item, opaque_item}
use Rattle.xdr_codec.proofs.ItemLaws.{length-u32, length-u64, length-bool}
use Rattle.data_map.specs.declared.check.RawMap.{RawMap}
use Rattle.layout_types.specs.declared.cred.ObjectCred.{ObjectCred}
use Rattle.layout_types.specs.Enumerations.{version_number, security_number}
use Rattle.layout_types.specs.Grammar.{list_item}
use Rattle.layout_types.specs.Spelling.{objid_item, cred_item, map_item}
use Rattle.layout_types.proofs.Lengths.{length-objid}
use Rattle.layout_ops.specs.declared.envelope.Envelope.TheVariants as envelope
use Rattle.layout_ops.specs.declared.results.LayoutGetResult.TheVariants as get
use Rattle.layout_ops.specs.declared.results.LayoutCommitResult.TheVariants as commit
use Rattle.layout_ops.specs.declared.results.LayoutReturnResult.TheVariants as return
use Rattle.layout_ops.specs.declared.results.Results.TheVariants as results
use Rattle.layout_ops.specs.declared.args.Args.{Args}
use Rattle.layout_ops.specs.declared.results.LayoutSegment.{LayoutSegment}
use Rattle.layout_ops.specs.Spelling.{args_item, results_item, envelope_item, stateid_item, segment_item}
use Rattle.osd_capability.specs.declared.keys.CapKey.TheVariants.{One, Two}
use Rattle.osd_capability.specs.declared.layout.TheConstants.{FORMAT_SHA256}
use Rattle.osd_capability.proofs.LayoutLaws.{length-spelling}
use Rattle.osd_capability.specs.Layout as capabilities
use Rattle.osd_commands.specs.declared.actions.Action.{Action}
use Rattle.osd_commands.specs.declared.actions.Action.TheVariants.{Read, Write}
use Rattle.osd_commands.specs.declared.commands.CommandErr.{CommandErr}
use Rattle.osd_commands.specs.Commands as commands
use Rattle.osd_commands.specs.Replies as replies
use Rattle.osd_commands.proofs.Writing.{length-fields, check_len-bounds}
use Rattle.osd_objects.specs.declared.lanes.LaneEntry.{LaneEntry}
use Rattle.osd_objects.specs.Store.{StoreState, object_at, lane_or_none, bytes_at}
use Rattle.osd_drive.specs.declared.verdict.Verdict.{Verdict}
use Rattle.osd_drive.specs.declared.verdict.Verdict.TheVariants as verdict
use Rattle.osd_drive.specs.State.{DriveState}
use Rattle.osd_drive.specs.Table.{first_fault}
use Rattle.osd_drive.specs.Effects.{kept_reply, result_of, reply_by, reply_to_reading}
use Rattle.server_rules.specs.Answers.{recall_of}
use Rattle.server_rules.specs.Commands.{key_at}
use Rattle.server_rules.specs.Layouts.{capability_for, key_bytes, no_credential, credential, credentials_from, layout_for, body_of, stateid_of, segment_for, granted}
use Rattle.client_rules.specs.Requests.{get_args, commit_args, return_args}
use Rattle.world_history.specs.ClientNames.{CallOp, Held, Request, RecallAnswer}
use Rattle.world_history.specs.ServerNames.{Kept, Component, Drive, Grant, Answer, Command, Reply}
use Rattle.world_history.specs.State.{DriveAt}
use Rattle.world_history.specs.Drives.{judges}

-- ---- commands and replies

-- a command has 256 bytes and its payload
pub command_size : (c : Command) → length (commands.spelling c) ≤ 256 + length c.payload
unfolding commands.spelling commands.head
command_size c =
    let size = commands.check_len c.capability.format in
    let bounds = check_len-bounds c.capability.format in
    omega (
      arith,
      bounds.1,
      length-append (commands.head c) (take size c.check ++ c.payload),
      length-append (commands.fields c) (capabilities.spelling c.capability ++ replicate (96 - size) 0),
      length-append (capabilities.spelling c.capability) (replicate (96 - size) 0),
      length-append (take size c.check) c.payload,
      length-fields c,
      length-spelling c.capability,
      length-replicate {A = ℕ} (96 - size) 0,
      length-take size c.check,
    )

-- a reply has 40 and its payload
pub reply_size : (r : Reply) → length (replies.spelling r) ≡ 40 + length r.payload
unfolding replies.spelling replies.fields
reply_size r = length-append (replies.fields r) r.payload

-- the reply to a READ has no more bytes than it asks for, and that to a WRITE has none
performed_short : (a : Action) (s : StoreState) (c : Command) → (a ≡ Read) ⊎ (a ≡ Write)
    → length (result_of a s c).payload ≤ c.length
performed_short a s c (inl is) =
    subst (λ (x : Action). length (result_of x s c).payload ≤ c.length) (sym is)
    (omega (arith, length-take c.length (drop c.offset (bytes_at s c.object))))
performed_short a s c (inr is) =
    subst (λ (x : Action). length (result_of x s c).payload ≤ c.length) (sym is) (omega arith)

kept_short : (c : Command) (o : Option LaneEntry) → length (kept_reply c o).payload ≡ 0
kept_short c None = refl
kept_short c (Some l) = refl

by_short : (v : Verdict) (d : DriveState) (c : Command) → (c.action ≡ Read) ⊎ (c.action ≡ Write)
    → length (reply_by v d c).payload ≤ c.length
by_short verdict.Perform d c is = performed_short c.action d.store c is
by_short verdict.Again d c is = omega (arith, kept_short c (lane_or_none (object_at d.store c.object) c.capability.holder))
by_short v d c is = omega arith

pub judged_short : (a : DriveAt) (r : Result Command CommandErr) (c : Command) → r ≡ Ok c
    → (c.action ≡ Read) ⊎ (c.action ≡ Write) → length (judges a r).reply.payload ≤ c.length
unfolding judges
judged_short a r c read is =
    subst (λ (x : Result Command CommandErr). length (reply_to_reading a.state a.clock x).payload ≤ c.length) (sym read)
    (by_short (first_fault a.state a.clock c) a.state c is)

-- ---- requests

request_size : (q : Request) (n : ℕ) → length (args_item q.args) ≤ n → length (envelope_item (envelope.Request q)) ≤ 20 + n
request_size q n few = simp (length-append, length-u32) (omega (arith, few))

get_size : (op : CallOp) → length (args_item (get_args op)) ≡ 56
unfolding u32_item u64_item fixed_item
get_size op = refl

return_size : (n : ℕ) → length (args_item (return_args n [])) ≡ 56
unfolding u32_item u64_item fixed_item opaque_item list_item
return_size n = refl

commit_size : (h : Held) (op : CallOp) → length (args_item (commit_args h op)) ≡ 68
unfolding u32_item u64_item fixed_item opaque_item
commit_size h op = refl

-- what a call asks of the server, but for a report
pub data IsPlain (a : Args) : Type 0 where
  Gets : (op : CallOp) → a ≡ get_args op → IsPlain a
  Returns : (n : ℕ) → a ≡ return_args n [] → IsPlain a
  Commits : (h : Held) (op : CallOp) → a ≡ commit_args h op → IsPlain a

pub plain_request : (q : Request) → IsPlain q.args → length (envelope_item (envelope.Request q)) ≤ 200
plain_request q (Gets op is) =
    let l = request_size q 68 (subst (λ (a : Args). length (args_item a) ≤ 68) (sym is) (omega (arith, get_size op))) in
    omega (arith, l)
plain_request q (Returns n is) =
    let l = request_size q 68 (subst (λ (a : Args). length (args_item a) ≤ 68) (sym is) (omega (arith, return_size n))) in
    omega (arith, l)
plain_request q (Commits h op is) =
    let l = request_size q 68 (subst (λ (a : Args). length (args_item a) ≤ 68) (sym is) (omega (arith, commit_size h op))) in
    omega (arith, l)

-- ---- recalls

pub recall_size : (g : Grant) (n : ℕ) → length (envelope_item (envelope.Recall (recall_of g n))) ≡ 76
unfolding u32_item u64_item fixed_item opaque_item
recall_size g n = refl

pub recall_answer_size : (v : RecallAnswer) → length (envelope_item (envelope.RecallAnswer v)) ≡ 24
unfolding u32_item
recall_answer_size v = refl

-- ---- answers

answer_size : (a : Answer) (n : ℕ) → length (results_item a.results) ≤ n → length (envelope_item (envelope.Answer a)) ≤ 32 + n
answer_size a n few = simp (length-append, length-u32, length-u64) (omega (arith, few))

small_answer : (a : Answer) → length (results_item a.results) ≡ 8 → length (envelope_item (envelope.Answer a)) ≤ 200
small_answer a is = let l = answer_size a 8 (omega (arith, is)) in omega (arith, l)

returned_size : length (results_item (results.LayoutReturn (return.Returned None))) ≡ 8
unfolding u32_item
returned_size = refl

later_size : length (results_item (results.LayoutGet (get.TryLater false))) ≡ 8
unfolding u32_item
later_size = refl

committed_size : length (results_item (results.LayoutCommit (commit.Committed None))) ≡ 8
unfolding u32_item
committed_size = refl

pub returned_answer : (a : Answer) → a.results ≡ results.LayoutReturn (return.Returned None)
    → length (envelope_item (envelope.Answer a)) ≤ 200
returned_answer a is = small_answer a (ap (λ (r : _). length (results_item r)) is ∙ returned_size)

pub later_answer : (a : Answer) → a.results ≡ results.LayoutGet (get.TryLater false)
    → length (envelope_item (envelope.Answer a)) ≤ 200
later_answer a is = small_answer a (ap (λ (r : _). length (results_item r)) is ∙ later_size)

pub committed_answer : (a : Answer) → a.results ≡ results.LayoutCommit (commit.Committed None)
    → length (envelope_item (envelope.Answer a)) ≤ 200
committed_answer a is = small_answer a (ap (λ (r : _). length (results_item r)) is ∙ committed_size)

-- ---- layouts

short_key : (b : Bool) (key text : List ℕ)
    → length (key_bytes (if b then Two (hmac_sha256 key text) else One (hmac_sha1 key text))) ≤ 32
short_key true key text = omega (arith, long_sha256 key text)
short_key false key text = omega (arith, long_sha1 key text)

record IsSmall (v : ObjectCred) : Type 0 where
  device : length v.oc_object_id.oid_device_id ≡ 16
  key : length v.oc_capability_key ≤ 32
  capability : length v.oc_capability ≤ 96

small_at : (ds : List Drive) (f : Kept) (g : Grant) (at : Component) (k : ℕ) (b : Bool)
    → IsSmall (if b then no_credential at else credential ds f g at k)
unfolding credential
small_at ds f g at k true = record { device = refl; key = omega arith; capability = omega arith }
small_at ds f g at k false = record {
  device = refl;
  key = short_key (nat_eq (capability_for f g at k).format FORMAT_SHA256) (key_at ds at.drive) _;
  capability = omega (arith, length-spelling (capability_for f g at k));
}

all_small : (ds : List Drive) (f : Kept) (g : Grant) (cs : List Component) (k : ℕ)
    → AllByRecursion IsSmall (credentials_from ds f g cs k)
unfolding credentials_from
all_small ds f g [] k = tt
all_small ds f g (at ∷ cs) k = (small_at ds f g at k at.missing, all_small ds f g cs (k + 1))

as_many : (ds : List Drive) (f : Kept) (g : Grant) (cs : List Component) (k : ℕ)
    → length (credentials_from ds f g cs k) ≡ length cs
unfolding credentials_from
as_many ds f g [] k = refl
as_many ds f g (at ∷ cs) k = ap suc (as_many ds f g cs (k + 1))

fixed_size : (bytes : List ℕ) → length (fixed_item bytes) ≤ length bytes + 3
unfolding fixed_item
fixed_size bytes = simp (length-append, length-replicate) (omega arith)

opaque_size : (bytes : List ℕ) → length (opaque_item bytes) ≤ length bytes + 7
unfolding opaque_item
opaque_size bytes = simp (length-append, length-u32) (omega (arith, fixed_size bytes))

cred_size : (v : ObjectCred) → IsSmall v → length (cred_item v) ≤ 182
cred_size v s =
    let version = u32_item (version_number v.oc_osd_version) in
    let security = u32_item (security_number v.oc_cap_key_sec) in
    let key = opaque_item v.oc_capability_key in
    let capability = opaque_item v.oc_capability in
    omega (
      arith,
      length-objid v.oc_object_id s.device,
      length-append (objid_item v.oc_object_id) (version ++ (security ++ (key ++ capability))),
      length-append version (security ++ (key ++ capability)),
      length-append security (key ++ capability),
      length-append key capability,
      length-u32 (version_number v.oc_osd_version),
      length-u32 (security_number v.oc_cap_key_sec),
      opaque_size v.oc_capability_key,
      opaque_size v.oc_capability,
      s.key,
      s.capability,
    )

creds_size : (vs : List ObjectCred) → AllByRecursion IsSmall vs → length (flat_map cred_item vs) ≤ 182 * length vs
creds_size [] s = omega arith
creds_size (v ∷ vs) s =
    let rest : length (flat_map cred_item vs) ≤ 182 * length vs = creds_size vs s.1 in
    let all : length (flat_map cred_item (v ∷ vs)) ≡ length (cred_item v) + length (flat_map cred_item vs) =
    ap length (flat_map-cons cred_item v vs) ∙ length-append (cred_item v) (flat_map cred_item vs) in
    omega (arith, rest, all, cred_size v s.0)

map_size : (m : RawMap) → length (map_item m) ≡ 28
unfolding u32_item u64_item
map_size m = refl

body_size : (ds : List Drive) (f : Kept) (g : Grant) → length f.components ≤ 5 → length (body_of (layout_for ds f g)) ≤ 946
unfolding body_of list_item
body_size ds f g few =
    let vs = credentials_from ds f g f.components 0 in
    omega (
      arith,
      map_size f.map,
      length-append (map_item f.map) (u32_item 0 ++ (u32_item (length vs) ++ flat_map cred_item vs)),
      length-append (u32_item 0) (u32_item (length vs) ++ flat_map cred_item vs),
      length-append (u32_item (length vs)) (flat_map cred_item vs),
      length-u32 0,
      length-u32 (length vs),
      creds_size vs (all_small ds f g f.components 0),
      as_many ds f g f.components 0,
      few,
    )

stateid_size : (n : ℕ) → length (stateid_item (stateid_of n)) ≡ 16
unfolding u32_item fixed_item
stateid_size n = refl

granted_size : (ds : List Drive) (f : Kept) (g : Grant) → length f.components ≤ 5
    → length (results_item (results.LayoutGet (get.Granted (granted ds f g)))) ≤ 1100
unfolding list_item
granted_size ds f g few =
    let seg : LayoutSegment = segment_for ds f g in
    let one : flat_map segment_item (seg ∷ []) ≡ segment_item seg ++ flat_map segment_item [] = flat_map-cons segment_item seg [] in
    let all : length (flat_map segment_item (seg ∷ [])) ≡ length (segment_item seg) + length (flat_map segment_item []) =
    ap length one ∙ length-append (segment_item seg) (flat_map segment_item []) in
    let none : length (flat_map segment_item []) ≡ 0 = refl in
    let its : length (segment_item seg) ≤ 24 + length (opaque_item seg.body) =
    simp (length-append, length-u32, length-u64) (omega arith) in
    let total : length (results_item (results.LayoutGet (get.Granted (granted ds f g))))
    ≡ 4 + (length (bool_item false) + (length (stateid_item (stateid_of g.number))
    + (4 + length (flat_map segment_item (seg ∷ []))))) =
    simp (length-append, length-u32) refl in
    omega (
      arith,
      total,
      length-bool false,
      stateid_size g.number,
      all,
      none,
      its,
      opaque_size seg.body,
      body_size ds f g few,
    )

pub layout_answer : (a : Answer) (ds : List Drive) (f : Kept) (g : Grant)
    → a.results ≡ results.LayoutGet (get.Granted (granted ds f g)) → length f.components ≤ 5
    → length (envelope_item (envelope.Answer a)) ≤ 1256
layout_answer a ds f g is few =
    let l = answer_size a 1100 (subst (λ (r : _). length (results_item r) ≤ 1100) (sym is) (granted_size ds f g few)) in
    omega (arith, l)
