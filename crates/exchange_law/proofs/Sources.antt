-- What a drive performs is the server's, under its own holder, or was sent by the client whose number its holder is.
use Rattle.std.proofs.Common.{◌≡◌, ◌⊎◌, ℕ, ◌<◌, ◌++◌, ◌∷◌, [], List, true, nat_lt, Some, Ok, slice_get, refl, sym, ap, subst, ◌∙◌, arith, inl, inr}
use Rattle.std.proofs.lemmas.Bool.Decides.{nat_tests}
use Rattle.std.proofs.lemmas.Option.{same_Some}
use Rattle.osd_commands.specs.declared.commands.Command.{Command}
use Rattle.osd_commands.specs.Commands.{reading}
use Rattle.server_rules.specs.declared.limits.TheConstants.{SERVER_HOLDER}
use Rattle.server_rules.specs.Laws.{In}
use Rattle.server_rules.proofs.Members.{in_map}
use Rattle.scenario_text.specs.declared.names.TheConstants.{CLIENTS}
use Rattle.scenario_text.specs.declared.line.Delivery.TheVariants.{Judged}
use Rattle.scenario_text.specs.declared.line.Verdict.TheVariants.{Perform}
use Rattle.scenario_text.specs.declared.line.Party.{Party}
use Rattle.scenario_text.specs.declared.line.Party.TheVariants as party
use Rattle.scenario_text.specs.declared.line.Line.{Line}
use Rattle.scenario_text.specs.declared.line.Line.TheVariants as line
use Rattle.world_history.specs.declared.messages.Sent.{Sent}
use Rattle.world_history.specs.Reading.{sent_in}
use Rattle.world_history.specs.Guesses.{unguessed}
use Rattle.world_history.specs.History.{Lawful}
use Rattle.history_law.specs.Judging.{Judges, JudgesAt, IsDelivered, injected_in}
use Rattle.history_law.specs.Safe.{AtEachLine}
use Rattle.history_law.specs.Sources.{IsServerOrClient, WasSent, ComesAt}
use Rattle.history_law.proofs.Coming.{sources_hold, clean_front}
use Rattle.history_law.proofs.Each.{EachBehind, HoldsAt, judges_of, each_front, at_each_line}
use Rattle.history_law.proofs.Histories.{lawful}
use Rattle.history_law.specs.Issued.{IsIssued}
use Rattle.history_law.proofs.IssuedLaw.{issued}
use Rattle.history_law.proofs.IssueLines.{CarriesAt, IsKnown, all_known}
use Rattle.history_law.proofs.Messages.{SentCarries, AllCarry, all_carry}
use Rattle.history_law.proofs.DriveMoves.{same_number}
use Rattle.history_law.proofs.LaneLines.{letter, letters, letters_stay, in_get}
use Rattle.history_law.proofs.Named.{NamedAt, AllNamed, lines_named, messages_named}
use Rattle.history_law.proofs.HolderLaw.{issued_holder, client_named}

-- the party sent these bytes to the drive
pub record CameFrom (h : List Line) (from : Party) (drive : ℕ) (bytes : List ℕ) : Type 0 where
  pub message : Sent
  pub sent : In message (letters (sent_in h))
  pub sender : message.from ≡ from
  pub receiver : message.to ≡ party.Drive drive
  pub bytes_are : message.bytes ≡ bytes

-- what is said of a command in these bytes for the drive
abbrev pub Source : Type 1
Source = List Line → (drive : ℕ) → List ℕ → Command → Type 0

-- whose command it is
abbrev pub IsOwned : Source
IsOwned h drive bytes y =
    ((y.capability.holder ≡ SERVER_HOLDER) × CameFrom h party.Server drive bytes)
    ⊎ ((y.capability.holder < CLIENTS) × CameFrom h (party.Client y.capability.holder) drive bytes)

-- ---- more lines

came_more : (h lines : List Line) (from : Party) (drive : ℕ) (bytes : List ℕ) → CameFrom h from drive bytes
    → CameFrom (h ++ lines) from drive bytes
came_more h lines from drive bytes c = record {
  message = c.message;
  sent = letters_stay h lines c.message c.sent;
  sender = c.sender;
  receiver = c.receiver;
  bytes_are = c.bytes_are;
}

pub owned_more : (h lines : List Line) (drive : ℕ) (bytes : List ℕ) (y : Command) → IsOwned h drive bytes y
    → IsOwned (h ++ lines) drive bytes y
owned_more h lines drive bytes y (inl (e, c)) = inl (e, came_more h lines party.Server drive bytes c)
owned_more h lines drive bytes y (inr (e, c)) =
    inr (e, came_more h lines (party.Client y.capability.holder) drive bytes c)

-- ---- what is performed

-- S is said of what a drive performs at this line
abbrev pub SourceAt : Source → List Line → Line → Type 0
SourceAt S before (line.Delivered n (Judged Perform)) =
    (m : Sent) (d : ℕ) (y : Command) → slice_get (sent_in before) n ≡ Some m → m.to ≡ party.Drive d
    → reading m.bytes ≡ Ok y → S before d m.bytes y
SourceAt S before (line.Judged d Perform) =
    (y : Command) → reading (injected_in before d) ≡ Ok y → S before d (injected_in before d) y
SourceAt S before l = Unit {0}

-- what the server sends to drives has its own holder
abbrev pub ServersOwn : List Line → Type 0
ServersOwn h =
    (x : Sent) (d : ℕ) (y : Command) → In x (letters (sent_in h)) → x.from ≡ party.Server → x.to ≡ party.Drive d
    → reading x.bytes ≡ Ok y → y.capability.holder ≡ SERVER_HOLDER

-- what is known of the messages that were sent so far
pub record IsKnownOf (h : List Line) : Type 0 where
  pub carry : AllCarry (sent_in h)
  pub named : AllNamed (sent_in h)
  pub servers : ServersOwn h

came : (h : List Line) (n : ℕ) (m : Sent) (from : Party) (d : ℕ) (bytes : List ℕ) → slice_get (sent_in h) n ≡ Some m
    → m.from ≡ from → m.to ≡ party.Drive d → m.bytes ≡ bytes → CameFrom h from d bytes
came h n m from d bytes there by to is = record {
  message = letter m;
  sent = in_map letter m (sent_in h) (in_get (sent_in h) n m there);
  sender = by;
  receiver = to;
  bytes_are = is;
}

pub below : (c : ℕ) → nat_lt c CLIENTS ≡ true → c < CLIENTS
below c e = grind (arith, e, nat_tests)

module _ (before : List Line) (l : Line) (known : IsKnownOf before) where
  pub by_sender : (d : ℕ) (bytes : List ℕ) (n : ℕ) (m : Sent) (from : Party) → slice_get (sent_in before) n ≡ Some m
      → m.from ≡ from → m.to ≡ party.Drive d → m.bytes ≡ bytes → IsServerOrClient from
      → Judges before l d bytes Perform → (y : Command) → reading bytes ≡ Ok y
      → IsOwned before d bytes y
  unfolding came
  by_sender d bytes n m party.Server found from to are who p y read =
      let c = came before n m party.Server d bytes found from to are in
      inl (known.servers c.message d y c.sent from to (ap reading are ∙ read), c)
  by_sender d bytes n m (party.Client c) found from to are who p y read =
      let k : SentCarries (sent_in before) (party.Client c) (party.Drive d) bytes =
      subst (λ (x : Party). SentCarries (sent_in before) x (party.Drive d) bytes) from
      (subst (λ (x : Party). SentCarries (sent_in before) m.from x bytes) to
      (subst (λ (x : List ℕ). SentCarries (sent_in before) m.from m.to x) are (known.carry n m found))) in
      let i : IsIssued before c d bytes = issued before l c d bytes known.carry k p in
      let own = client_named before c d bytes known.named i in
      let holder : y.capability.holder ≡ c = issued_holder before c d bytes i y own read in
      inr (
        subst (λ (x : ℕ). x < CLIENTS) (sym holder) (below c own),
        subst (λ (x : ℕ). CameFrom before (party.Client x) d bytes) (sym holder)
            (came before n m (party.Client c) d bytes found from to are),
      )
  by_sender d bytes n m (party.Drive k) found from to are who p y read = absurd who

pub delivered_owned : (before : List Line) (n : ℕ) → IsDelivered before n (Judged Perform)
    → ComesAt before (line.Delivered n (Judged Perform)) → IsKnownOf before
    → SourceAt IsOwned before (line.Delivered n (Judged Perform))
delivered_owned before n p comes known m d y found to read =
    let same : p.message ≡ m = same_Some p.message m (sym p.sent ∙ found) in
    let here : p.tells.0 ≡ d =
    same_number p.tells.0 d (sym p.tells.1 ∙ ap (λ (x : Sent). x.to) same ∙ to) in
    let l : Line = line.Delivered n (Judged Perform) in
    let judged : Judges before l d m.bytes Perform = subst (λ (k : ℕ). Judges before l k m.bytes Perform) here
    (subst (λ (x : Sent). Judges before l p.tells.0 x.bytes Perform) same p.tells.2) in
    by_sender before l known d m.bytes n m m.from found refl to refl (comes m found) judged y read

injected_owned : (before : List Line) (d : ℕ) → Judges before (line.Judged d Perform) d (injected_in before d) Perform
    → ComesAt before (line.Judged d Perform) → IsKnownOf before → unguessed before ≡ true
    → SourceAt IsOwned before (line.Judged d Perform)
injected_owned before d p comes known clean y read =
    let w : WasSent before d (injected_in before d) = comes clean in
    by_sender before (line.Judged d Perform) known d (injected_in before d) w.number w.message
    w.message.from w.sent refl w.receiver w.bytes_are w.sender p y read

owned_at : (before : List Line) (l : Line) → JudgesAt before l → ComesAt before l → IsKnownOf before
    → unguessed before ≡ true → SourceAt IsOwned before l
owned_at before (line.Delivered n (Judged Perform)) p comes known clean = delivered_owned before n p comes known
owned_at before (line.Judged d Perform) p comes known clean = injected_owned before d p comes known clean
owned_at before l p comes known clean = tt

-- what is known of a lawful history, line by line
pub record AreKnown (h : List Line) : Type 0 where
  pub holds : EachBehind HoldsAt [] h
  pub known : (before after : List Line) → h ≡ before ++ after → IsKnownOf before

pub lines_known : (h : List Line) → Lawful h → ((before after : List Line) → h ≡ before ++ after → ServersOwn before)
    → AreKnown h
lines_known h l servers =
    let more = lawful IsKnown all_known h l in
    let holds : EachBehind HoldsAt [] h = each_front HoldsAt [] h more.1 more.2.read.lines in
    let carry : EachBehind CarriesAt [] h = each_front CarriesAt [] h more.1 more.2.lines in
    let named : EachBehind NamedAt [] h = lines_named h l in
    record {
      holds = holds;
      known = λ before after is. record {
        carry = all_carry before
            (each_front CarriesAt [] before after (subst (EachBehind CarriesAt []) is carry));
        named = messages_named before
            (each_front NamedAt [] before after (subst (EachBehind NamedAt []) is named));
        servers = servers before after is;
      };
    }

-- where nothing was guessed, all is its holder's
pub lines_owned : (h : List Line) → AreKnown h → unguessed h ≡ true → AtEachLine (SourceAt IsOwned) h
lines_owned h known clean before x after is =
    owned_at before x (judges_of before x (at_each_line HoldsAt h known.holds before x after is))
    (sources_hold h known.holds before x after is) (known.known before (x ∷ after) is)
    (clean_front before (x ∷ after) (ap unguessed (sym is) ∙ clean))
