-- What is performed under the server's holder was sent by the server.
use Rattle.std.proofs.Common.{◌≡◌, ℕ, ◌<◌, ◌^◌, ◌∷◌, [], List, true, nat_lt, Ok, sym, ap, subst, ◌∙◌, arith, inl, inr}
use Rattle.std.proofs.lemmas.Bool.Decides.{nat_tests}
use Rattle.osd_capability.specs.declared.layout.Capability.{Capability}
use Rattle.osd_capability.specs.Layout as capabilities
use Rattle.osd_commands.specs.declared.commands.Command.{Command}
use Rattle.osd_commands.specs.Commands.{reading, spelling}
use Rattle.layout_types.specs.declared.cred.ObjectCred.{ObjectCred}
use Rattle.server_rules.specs.declared.limits.TheConstants.{SERVER_HOLDER}
use Rattle.scenario_text.specs.declared.names.TheConstants.{CLIENTS}
use Rattle.scenario_text.specs.declared.line.Delivery.TheVariants.{Judged}
use Rattle.scenario_text.specs.declared.line.Verdict.TheVariants.{Perform}
use Rattle.scenario_text.specs.declared.line.Party.{Party}
use Rattle.scenario_text.specs.declared.line.Party.TheVariants as party
use Rattle.scenario_text.specs.declared.line.Line.{Line}
use Rattle.scenario_text.specs.declared.line.Line.TheVariants as line
use Rattle.world_history.specs.declared.messages.Sent.{Sent}
use Rattle.world_history.specs.Reading.{sent_in}
use Rattle.history_law.specs.Judging.{injected_in}
use Rattle.history_law.proofs.Each.{EachBehind, each_front}
use Rattle.history_law.specs.Listed.{WasGiven, IsUnder}
use Rattle.history_law.specs.Granted.{SpellsOwn}
use Rattle.history_law.specs.Issued.{IsIssued, HasSource, IssuedAt, CommandsAreIssued}
use Rattle.history_law.specs.Unforged.{AreUnforged, HasFairSource, InjectedAt, UnforgedAreIssued}
use Rattle.history_law.proofs.IssuedLaw.{source_of}
use Rattle.history_law.proofs.Carried.{read_spelled}
use Rattle.history_law.proofs.Unforged.{unforged_front}
use Rattle.history_law.specs.Reaching.{ServerSent, OwnAt}
use Rattle.history_law.specs.Holder.{OwnUnlessForged, EachHolderIsOwn, UnforgedHolderIsServer}
use Rattle.history_law.proofs.Bodies.{given_own}
use Rattle.history_law.proofs.Holders.{bears_holder, holder_read}
use Rattle.history_law.proofs.Addressed.{IsNamedTo}
use Rattle.history_law.proofs.Named.{NamedAt, AllNamed, lines_named, messages_named}

-- ---- the holder of what was issued

below : (c : ℕ) → nat_lt c CLIENTS ≡ true → c < 16
below c e = grind (arith, e, nat_tests)

-- a capability that an answer gave a client names it as the holder
pub listed_holder : (ss : List Sent) (c : ℕ) (o : ObjectCred) (w : WasGiven ss c o) → SpellsOwn c w.message.bytes
    → nat_lt c CLIENTS ≡ true → (x : Capability) → capabilities.reading o.oc_capability ≡ Ok x → x.holder ≡ c
listed_holder ss c o w s named x read =
    let own = given_own ss c o w s in
    let few : c < 2 ^ 32 = omega (arith, below c named) in
    bears_holder own.grant o x (subst (λ (n : ℕ). n < 2 ^ 32) (sym own.client_is) few) own.bears read ∙ own.client_is

-- a command under such a credential has the client's number
pub given_holder : (ss : List Sent) (c d : ℕ) (o : ObjectCred) (w : WasGiven ss c o) (s : SpellsOwn c w.message.bytes)
    (x y : Command) → IsUnder o d x → nat_lt c CLIENTS ≡ true → reading (spelling x) ≡ Ok y → y.capability.holder ≡ c
given_holder ss c d o w s x y under named read =
    let few : c < 2 ^ 32 = omega (arith, below c named) in
    let carried : x.capability.holder ≡ c = listed_holder ss c o w s named x.capability under.capability in
    holder_read x.capability y.capability (subst (λ (n : ℕ). n < 2 ^ 32) (sym carried) few) (read_spelled x y read)
    ∙ carried

pub issued_holder : (before : List Line) (c d : ℕ) (bytes : List ℕ) (i : IsIssued before c d bytes) (y : Command)
    → nat_lt c CLIENTS ≡ true → reading bytes ≡ Ok y → y.capability.holder ≡ c
issued_holder before c d bytes i y named read =
    given_holder (sent_in before) c d i.credential i.given i.source i.command y i.under named
    (ap reading (sym i.spells) ∙ read)

-- the answer that gave the credential went to a client that a line can name
pub given_named : (ss : List Sent) (c : ℕ) (o : ObjectCred) → AllNamed ss → WasGiven ss c o → nat_lt c CLIENTS ≡ true
given_named ss c o all w =
    subst (λ (p : Party). IsNamedTo p (party.Client c)) w.sender
    (subst (λ (p : Party). IsNamedTo w.message.from p) w.receiver (all w.number w.message w.there))

pub client_named : (before : List Line) (c d : ℕ) (bytes : List ℕ) → AllNamed (sent_in before)
    → IsIssued before c d bytes → nat_lt c CLIENTS ≡ true
client_named before c d bytes all i = given_named (sent_in before) c i.credential all i.given

not_servers : (c holder : ℕ) → nat_lt c CLIENTS ≡ true → holder ≡ c → holder ≡ SERVER_HOLDER → ⊥
not_servers c holder named is too = omega (arith, below c named, is, too)

-- ---- what is performed

servers_sent : (before : List Line) (d : ℕ) (bytes : List ℕ) (y : Command) → AllNamed (sent_in before)
    → HasSource before d bytes
    → reading bytes ≡ Ok y → y.capability.holder ≡ SERVER_HOLDER → ServerSent before d bytes
servers_sent before d bytes y all (inl s) read holds =
    (s.number, s.message, s.there, s.sender, s.receiver, s.bytes_are)
servers_sent before d bytes y all (inr (c, i)) read holds =
    let named = client_named before c d bytes all i in
    absurd (not_servers c y.capability.holder named (issued_holder before c d bytes i y named read) holds)

-- by who has a capability that was given to a client, or who sent it
fairly_sent : (before : List Line) (d : ℕ) (bytes : List ℕ) (y : Command) → AllNamed (sent_in before)
    → HasFairSource before d bytes
    → reading bytes ≡ Ok y → y.capability.holder ≡ SERVER_HOLDER → ServerSent before d bytes
fairly_sent before d bytes y all (inl s) read holds = servers_sent before d bytes y all s read holds
fairly_sent before d bytes y all (inr listed) read holds =
    let k = listed y read in
    let i = k.1 in
    let named = given_named (sent_in before) k.0 i.credential all i.given in
    absurd (not_servers k.0 y.capability.holder named
    (listed_holder (sent_in before) k.0 i.credential i.given i.source named y.capability i.is) holds)

at_line : (before : List Line) (l : Line) → AllNamed (sent_in before) → IssuedAt before l → InjectedAt before l
    → OwnUnlessForged before l
at_line before (line.Delivered n (Judged Perform)) all issued injected =
    λ m d y found to read holds.
    servers_sent before d m.bytes y all (source_of before m.from d m.bytes (issued m d found to)) read holds
at_line before (line.Judged d Perform) all issued injected =
    λ fair y read holds. fairly_sent before d (injected_in before d) y all (injected fair) read holds
at_line before l all issued injected = tt

pub each_holder : CommandsAreIssued → UnforgedAreIssued → EachHolderIsOwn
each_holder issued injected h l before x after is =
    let front : EachBehind NamedAt [] before =
    each_front NamedAt [] before (x ∷ after) (subst (EachBehind NamedAt []) is (lines_named h l)) in
    at_line before x (messages_named before front) (issued h l before x after is) (injected h l before x after is)

-- ---- where nothing is forged

unless_forged : (before : List Line) (l : Line) → AreUnforged before → OwnUnlessForged before l → OwnAt before l
unless_forged before (line.Judged d Perform) fair own = own fair
unless_forged before l fair own = own

pub unforged_holder : EachHolderIsOwn → UnforgedHolderIsServer
unforged_holder each h l fair before x after is =
    unless_forged before x (unforged_front before (x ∷ after) (subst AreUnforged is fair)) (each h l before x after is)
