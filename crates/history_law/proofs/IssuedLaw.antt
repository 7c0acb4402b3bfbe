-- What a drive performs is the server's, or was issued to the client that sent it.
use Rattle.std.proofs.Common.{◌≡◌, ℕ, ◌∷◌, [], List, true, false, Some, Ok, slice_get, bit_and, nat_eq, refl, sym, ap, subst, ◌∙◌, inl, inr}
use Rattle.std.proofs.lemmas.Option.{same_Some}
use Rattle.osd_lists.proofs.Tests.{first_false}
use Rattle.layout_types.specs.declared.cred.ObjectCred.{ObjectCred}
use Rattle.osd_capability.specs.declared.layout.Capability.{Capability}
use Rattle.osd_commands.specs.declared.actions.Action.{Action}
use Rattle.osd_commands.specs.declared.actions.Action.TheVariants.{Create, Read, Write, GetAttr, SetAttr, SetTag}
use Rattle.osd_commands.specs.declared.commands.Command.{Command}
use Rattle.osd_commands.specs.Actions.{right_of}
use Rattle.osd_commands.specs.Commands.{reading, spelling}
use Rattle.osd_drive.specs.declared.verdict.Verdict.TheVariants as drive
use Rattle.osd_drive.specs.State.{DriveState}
use Rattle.osd_drive.specs.Table.{first_fault, has_no_right}
use Rattle.osd_drive.proofs.Clear.{all_told}
use Rattle.client_rules.specs.Commands.{no_capability}
use Rattle.scenario_text.specs.declared.line.Delivery.TheVariants.{Judged}
use Rattle.scenario_text.specs.declared.line.Verdict.TheVariants.{Perform}
use Rattle.scenario_text.specs.declared.line.Party.{Party}
use Rattle.scenario_text.specs.declared.line.Party.TheVariants as party
use Rattle.scenario_text.specs.declared.line.Line.{Line}
use Rattle.scenario_text.specs.declared.line.Line.TheVariants as line
use Rattle.world_history.specs.declared.messages.Sent.{Sent}
use Rattle.world_history.specs.Reading.{sent_in}
use Rattle.history_law.specs.Judging.{Judges, JudgesAt, IsDelivered, injected_in}
use Rattle.history_law.specs.Sources.{IsServerOrClient, WasSent, ComesAt}
use Rattle.history_law.proofs.Replying.{is_performed, is_clear}
use Rattle.history_law.proofs.Coming.{sources_hold}
use Rattle.history_law.proofs.Each.{EachBehind, HoldsAt, judges_of, each_front, at_each_line}
use Rattle.history_law.proofs.Histories.{lawful}
use Rattle.history_law.specs.Listed.{WasGiven}
use Rattle.history_law.specs.Granted.{SpellsOwn}
use Rattle.history_law.specs.Issued.{IsIssued, HasSource, IsFrom, IssuedAt, CommandsAreIssued}
use Rattle.history_law.proofs.BytesRead.{bytes_listed}
use Rattle.history_law.proofs.Carried.{read_again, none_read}
use Rattle.history_law.proofs.Exact.{grant_read, exact_read}
use Rattle.history_law.proofs.IssueLines.{Carries, CarriesAt, IsKnown, all_known}
use Rattle.history_law.proofs.Messages.{SentCarries, AllCarry, all_carry}
use Rattle.history_law.proofs.DriveMoves.{same_number}

-- ---- a capability that allows nothing isn't performed

pub nothing_allowed : (a : Action) → nat_eq (bit_and no_capability.rights (right_of a)) 0 ≡ true
nothing_allowed Create = refl
nothing_allowed Read = refl
nothing_allowed Write = refl
nothing_allowed GetAttr = refl
nothing_allowed SetAttr = refl
nothing_allowed SetTag = refl

-- a command that is performed has the right that it needs
pub allowed : (d : DriveState) (now : ℕ) (c : Command) → first_fault d now c ≡ drive.Perform
    → nat_eq (bit_and c.capability.rights (right_of c.action)) 0 ≡ false
allowed d now c clear =
    let rows = ((all_told d now c).0 clear).1 in
    let right : has_no_right c ≡ false = rows.1.1.1.0 in
    first_false _ _ right

none_performed : (d : DriveState) (now : ℕ) (c : Command) → c.capability ≡ no_capability
    → first_fault d now c ≡ drive.Perform → ⊥
none_performed d now c none clear =
    let nothing : nat_eq (bit_and c.capability.rights (right_of c.action)) 0 ≡ true =
    ap (λ (x : Capability). nat_eq (bit_and x.rights (right_of c.action)) 0) none ∙ nothing_allowed c.action in
    cc (sym nothing ∙ allowed d now c clear)

-- ---- what is performed of a client

-- an answer of the server gives a client its own
pub answered : (ss : List Sent) (c : ℕ) (o : ObjectCred) → AllCarry ss → (w : WasGiven ss c o) → SpellsOwn c w.message.bytes
answered ss c o all w =
    subst (λ (p : Party). SentCarries ss p (party.Client c) w.message.bytes) w.sender
    (subst (λ (p : Party). SentCarries ss w.message.from p w.message.bytes) w.receiver (all w.number w.message w.there))

pub issued : (before : List Line) (l : Line) (c d : ℕ) (bytes : List ℕ) → AllCarry (sent_in before)
    → Carries (sent_in before) c d bytes → Judges before l d bytes Perform → IsIssued before c d bytes
issued before l c d bytes all (x, spells, inl (o, given, under)) p =
    let source = answered (sent_in before) c o all given in
    record {
      credential = o;
      given = given;
      command = x;
      spells = spells;
      under = under;
      carries =
          λ y read are. read_again o.oc_capability x y
          (bytes_listed given.message.bytes given.component o given.lists are) under.capability
          (ap reading (sym spells) ∙ read);
      source = source;
      grant = λ fits. grant_read c given.message.bytes given.component o source given.lists fits;
      exact =
          λ g fits y read. exact_read c given.message.bytes given.component o given.lists g fits x y under.capability
          (ap reading (sym spells) ∙ read)
          (allowed p.there.state p.there.clock y (is_clear p.there bytes y read p.verdict));
    }
issued before l c d bytes all (x, spells, inr none) p =
    let done = is_performed p.there bytes p.verdict in
    let read : reading (spelling x) ≡ Ok done.command = ap reading (sym spells) ∙ done.read in
    absurd (none_performed p.there.state p.there.clock done.command (none_read x done.command none read) done.clear)

-- what was sent to the drive, by who sent it
pub by_sender : (before : List Line) (l : Line) (d : ℕ) (bytes : List ℕ) (n : ℕ) (m : Sent) (from : Party)
    → AllCarry (sent_in before) → slice_get (sent_in before) n ≡ Some m → m.from ≡ from → m.to ≡ party.Drive d
    → m.bytes ≡ bytes → IsServerOrClient from → Judges before l d bytes Perform
    → IsFrom before from d bytes
by_sender before l d bytes n m party.Server all found from to are who p =
    record { number = n; message = m; there = found; sender = from; receiver = to; bytes_are = are }
by_sender before l d bytes n m (party.Client c) all found from to are who p =
    let k : SentCarries (sent_in before) (party.Client c) (party.Drive d) bytes =
    subst (λ (x : Party). SentCarries (sent_in before) x (party.Drive d) bytes) from
    (subst (λ (x : Party). SentCarries (sent_in before) m.from x bytes) to
    (subst (λ (x : List ℕ). SentCarries (sent_in before) m.from m.to x) are (all n m found))) in
    issued before l c d bytes all k p
by_sender before l d bytes n m (party.Drive k) all found from to are who p = absurd who

-- whoever sent it, it has a source
pub source_of : (before : List Line) (from : Party) (d : ℕ) (bytes : List ℕ) → IsFrom before from d bytes
    → HasSource before d bytes
source_of before party.Server d bytes s = inl s
source_of before (party.Client c) d bytes i = inr (c, i)
source_of before (party.Drive k) d bytes none = absurd none

delivered_issued : (before : List Line) (n : ℕ) → IsDelivered before n (Judged Perform)
    → ComesAt before (line.Delivered n (Judged Perform)) → AllCarry (sent_in before)
    → IssuedAt before (line.Delivered n (Judged Perform))
delivered_issued before n p comes all m d found to =
    let same : p.message ≡ m = same_Some p.message m (sym p.sent ∙ found) in
    let here : p.tells.0 ≡ d =
    same_number p.tells.0 d (sym p.tells.1 ∙ ap (λ (x : Sent). x.to) same ∙ to) in
    let l : Line = line.Delivered n (Judged Perform) in
    let judged : Judges before l d m.bytes Perform = subst (λ (k : ℕ). Judges before l k m.bytes Perform) here
    (subst (λ (x : Sent). Judges before l p.tells.0 x.bytes Perform) same p.tells.2) in
    by_sender before l d m.bytes n m m.from all found refl to refl (comes m found) judged

injected_issued : (before : List Line) (d : ℕ)
    → Judges before (line.Judged d Perform) d (injected_in before d) Perform
    → ComesAt before (line.Judged d Perform) → AllCarry (sent_in before) → IssuedAt before (line.Judged d Perform)
injected_issued before d p comes all clean =
    let w : WasSent before d (injected_in before d) = comes clean in
    source_of before w.message.from d (injected_in before d)
    (by_sender before (line.Judged d Perform) d (injected_in before d) w.number w.message w.message.from all w.sent
    refl w.receiver w.bytes_are w.sender p)

at_line : (before : List Line) (l : Line) → JudgesAt before l → ComesAt before l → AllCarry (sent_in before)
    → IssuedAt before l
at_line before (line.Delivered n (Judged Perform)) p comes all = delivered_issued before n p comes all
at_line before (line.Judged d Perform) p comes all = injected_issued before d p comes all
at_line before l p comes all = tt

pub commands_are_issued : CommandsAreIssued
commands_are_issued h l before x after is =
    let more = lawful IsKnown all_known h l in
    let holds : EachBehind HoldsAt [] h = each_front HoldsAt [] h more.1 more.2.read.lines in
    let carry : EachBehind CarriesAt [] h = each_front CarriesAt [] h more.1 more.2.lines in
    let front : EachBehind CarriesAt [] before =
    each_front CarriesAt [] before (x ∷ after) (subst (EachBehind CarriesAt []) is carry) in
    at_line before x (judges_of before x (at_each_line HoldsAt h holds before x after is))
    (sources_hold h holds before x after is) (all_carry before front)
