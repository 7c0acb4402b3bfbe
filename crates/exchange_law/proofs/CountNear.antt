-- A client sends to drives alone that a line can name.
use Rattle.std.specs.List.{AllByRecursion}
use Rattle.std.proofs.Common.{◌≡◌, ◌||◌, ℕ, zero, suc, Bool, true, false, List, [], ◌∷◌, Option, Some, None, Result, Ok, Err, length, filter, nat_lt, slice_get, unwrap_or, refl, sym, subst, arith, if◌then◌else◌}
use Rattle.std.proofs.lemmas.Bool.Decides.{nat_tests}
use Rattle.layout_types.specs.declared.cred.ObjectCred.{ObjectCred}
use Rattle.layout_types.specs.declared.cred.OsdVersion.{OsdVersion}
use Rattle.layout_types.specs.declared.cred.OsdVersion.TheVariants.{Missing, Version1, Version2}
use Rattle.osd_lists.specs.declared.node.Node.{Node}
use Rattle.osd_lists.specs.declared.node.Node.TheVariants.{Server as FromServer, Drive as FromDrive, Client as FromClient}
use Rattle.osd_capability.specs.declared.keys.CapKey.{CapKey}
use Rattle.osd_capability.specs.declared.layout.CapErr.{CapErr}
use Rattle.osd_capability.specs.Layout as capabilities
use Rattle.scenario_text.specs.declared.names.TheConstants.{DRIVES}
use Rattle.client_rules.specs.declared.limits.TheConstants.{MAX_DRIVE}
use Rattle.history_law.specs.State.{Held, Listed, Credential, Outgoing, AnswersRecall, Asks, ToDrive, Answer, Command, Capability}
use Rattle.client_rules.specs.Commands.{no_credential, credential_in, credential_of}
use Rattle.client_rules.specs.Layouts.{drive_of, key_of, with_key, with_capability, with_version, listed, and_listed, all_listed}
use Rattle.client_rules.specs.Messages.{Message, Replies, Answers, Recalls}
use Rattle.client_rules.specs.History.{Input, Calls, Hears, TimesOut, Leaves, Resends}
use Rattle.world_history.specs.Handed.{is_addressed, is_write_out, client_posts}
use Rattle.history_law.proofs.Known.{HeldKnown}
use Rattle.history_law.proofs.KnownGoing.{SendsKnown}
use Rattle.history_law.proofs.KnownSteps.{AnswerKnown, HeardKnown, InputKnown}
use Rattle.history_law.proofs.Taking.{is_taken}

-- a line can name the drive
abbrev pub IsNear : (drive : ℕ) → Command → Type 0
IsNear drive c = nat_lt drive DRIVES ≡ true

abbrev pub NearIn : Option Credential → Type 0
NearIn None = Unit {0}
NearIn (Some c) = nat_lt c.drive DRIVES ≡ true

pub near_at : (drive : ℕ) → nat_lt MAX_DRIVE drive ≡ false → nat_lt drive DRIVES ≡ true
near_at drive e = grind (arith, e, nat_tests)

-- ---- what is listed

pub near_key : (o : ObjectCred) (c : Capability) (k : Option CapKey) (l : Listed)
    → nat_lt MAX_DRIVE (drive_of o.oc_object_id.oid_device_id) ≡ false → with_key o c k ≡ Some l → NearIn l.credential
near_key o c None l near e = absurd (cc e)
near_key o c (Some key) l near e =
    let made : Listed = record {
      id = o.oc_object_id;
      credential = Some (record { drive = drive_of o.oc_object_id.oid_device_id; key = key; capability = c });
    } in
    let same : made ≡ l = cc e in
    subst (λ (x : Listed). NearIn x.credential) same (near_at (drive_of o.oc_object_id.oid_device_id) near)

pub near_capability : (o : ObjectCred) (r : Result Capability CapErr) (l : Listed)
    → nat_lt MAX_DRIVE (drive_of o.oc_object_id.oid_device_id) ≡ false → with_capability o r ≡ Some l
    → NearIn l.credential
near_capability o (Err x) l near e = absurd (cc e)
near_capability o (Ok c) l near e = near_key o c (key_of c.format o.oc_capability_key) l near e

pub unless_far : (o : ObjectCred) (b : Bool) (r : Result Capability CapErr) (l : Listed)
    → nat_lt MAX_DRIVE (drive_of o.oc_object_id.oid_device_id) ≡ b
    → (if b then None else with_capability o r) ≡ Some l → NearIn l.credential
unless_far o true r l is e = absurd (cc e)
unless_far o false r l is e = near_capability o r l is e

pub near_version : (o : ObjectCred) (v : OsdVersion) (l : Listed) → with_version o v ≡ Some l → NearIn l.credential
near_version o Missing l e =
    let made : Listed = record { id = o.oc_object_id; credential = None } in
    let same : made ≡ l = cc e in
    subst (λ (x : Listed). NearIn x.credential) same tt
near_version o Version1 l e = absurd (cc e)
near_version o Version2 l e = unless_far o _ (capabilities.reading o.oc_capability) l refl e

pub near_listed : (o : ObjectCred) (l : Listed) → listed o ≡ Some l → NearIn l.credential
unfolding listed
near_listed o l e = near_version o o.oc_osd_version l e

abbrev pub AllNear : List Listed → Type 0
AllNear ls = AllByRecursion (λ (l : Listed). NearIn l.credential) ls

pub both_near : (o : ObjectCred) (x : Option Listed) (r : Option (List Listed)) (ls : List Listed) → listed o ≡ x
    → ((rest : List Listed) → r ≡ Some rest → AllNear rest) → and_listed x r ≡ Some ls → AllNear ls
both_near o None r ls is rest e = absurd (cc e)
both_near o (Some l) None ls is rest e = absurd (cc e)
both_near o (Some l) (Some xs) ls is rest e =
    let same : l ∷ xs ≡ ls = cc e in subst AllNear same (near_listed o l is, rest xs refl)

pub all_near : (os : List ObjectCred) (ls : List Listed) → all_listed os ≡ Some ls → AllNear ls
unfolding all_listed
all_near [] ls e = let same : [] ≡ ls = cc e in subst AllNear same tt
all_near (o ∷ os) ls e = both_near o (listed o) (all_listed os) ls refl (all_near os) e

-- ---- what is sent

pub found_near : (ls : List Listed) (k : ℕ) → AllNear ls
    → nat_lt (unwrap_or (credential_in (slice_get ls k)) no_credential).drive DRIVES ≡ true
found_near [] k all = refl
found_near (l ∷ ls) zero all = here l.credential all.0
  where
    here : (c : Option Credential) → NearIn c → nat_lt (unwrap_or c no_credential).drive DRIVES ≡ true
    here None near = refl
    here (Some c) near = near
found_near (l ∷ ls) (suc k) all = found_near ls k all.1

pub held_near : (h : Held) → AllNear h.components → HeldKnown IsNear h
unfolding credential_of
held_near h all j same write w nonce =
    subst (λ (ls : List Listed). nat_lt (unwrap_or (credential_in (slice_get ls w.ask.component)) no_credential).drive
    DRIVES ≡ true) (sym same) (found_near h.components w.ask.component all)

pub answer_near : (a : Answer) → AnswerKnown IsNear a
answer_near a op h e =
    let t = is_taken a op h e in held_near h (all_near t.layout.olo_components h.components t.components)

pub heard_near : (from : Node) (m : Message) → HeardKnown IsNear from m
heard_near FromServer (Answers a) = answer_near a
heard_near FromServer (Replies r) = tt
heard_near FromServer (Recalls r) = tt
heard_near (FromDrive d) m = tt
heard_near (FromClient c) m = tt

-- whatever comes
pub input_near : (i : Input) → InputKnown IsNear i
input_near (Hears from m) = heard_near from m
input_near (Calls op) = tt
input_near (TimesOut k) = tt
input_near Leaves = tt
input_near Resends = tt

-- each message is for one that a line can name, so all are sent
pub all_sent : (c : ℕ) (wrote : Bool) (logged : ℕ) (os : List Outgoing) → SendsKnown IsNear os
    → length (filter is_addressed (client_posts c wrote logged os)) ≡ length os
all_sent c wrote logged [] k = refl
all_sent c wrote logged (AnswersRecall a ∷ os) k =
    omega (arith, all_sent c (wrote || is_write_out (AnswersRecall a)) logged os k)
all_sent c wrote logged (Asks r ∷ os) k = omega (arith, all_sent c (wrote || is_write_out (Asks r)) logged os k)
all_sent c wrote logged (ToDrive d x ∷ os) k =
    rw k.0 (omega (arith, all_sent c (wrote || is_write_out (ToDrive d x)) logged os k.1))
