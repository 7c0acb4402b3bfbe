-- What a drive performs where nothing is forged is its holder's, or carries what was given to its holder.
use Rattle.std.proofs.Common.{◌≡◌, ◌⊎◌, ℕ, ◌<◌, ◌++◌, ◌∷◌, [], List, true, nat_lt, Some, Ok, slice_get, refl, sym, ap, subst, ◌∙◌, inl, inr}
use Rattle.std.proofs.lemmas.List.Sums.{fold-append}
use Rattle.layout_types.specs.declared.cred.ObjectCred.{ObjectCred}
use Rattle.osd_capability.specs.Layout as capabilities
use Rattle.osd_commands.specs.declared.commands.Command.{Command}
use Rattle.osd_commands.specs.Commands.{reading}
use Rattle.osd_drive.specs.State.{key_of_version}
use Rattle.osd_drive.proofs.Clear.{all_told}
use Rattle.scenario_text.specs.declared.names.TheConstants.{CLIENTS}
use Rattle.scenario_text.specs.declared.event.Event.TheVariants as event
use Rattle.scenario_text.specs.declared.line.Delivery.TheVariants.{Judged}
use Rattle.scenario_text.specs.declared.line.Verdict.TheVariants.{Perform}
use Rattle.scenario_text.specs.declared.line.Line.{Line}
use Rattle.scenario_text.specs.declared.line.Line.TheVariants as line
use Rattle.world_history.specs.declared.messages.Sent.{Sent}
use Rattle.world_history.specs.Guesses.{opens_with}
use Rattle.world_history.specs.Reading.{sent_in}
use Rattle.world_history.specs.ReadDrives.{DriveSeen, sees_drive, drive_seen, drive_after}
use Rattle.history_law.specs.Judging.{Judges, JudgesAt, injected_in}
use Rattle.history_law.specs.Safe.{AtEachLine}
use Rattle.history_law.specs.Sources.{ComesAt}
use Rattle.history_law.specs.Listed.{WasGiven}
use Rattle.history_law.specs.Unforged.{IsUnforged, AreUnforged}
use Rattle.history_law.proofs.Coming.{opens_clear, sources_hold, sent_behind}
use Rattle.history_law.proofs.Each.{ArisesAt, HoldsAt, judges_of, arises_of, at_each_line}
use Rattle.history_law.proofs.Exact.{same_ok}
use Rattle.history_law.proofs.Growing.{history_grows, still_given}
use Rattle.history_law.proofs.IssuedLaw.{answered}
use Rattle.history_law.proofs.Replying.{is_performed}
use Rattle.history_law.proofs.Unforged.{unforged_front}
use Rattle.history_law.proofs.HolderLaw.{listed_holder, given_named}
use Rattle.exchange_law.proofs.Sources.{Source, IsOwned, SourceAt, IsKnownOf, AreKnown, owned_more, below, by_sender, delivered_owned}

-- the command carries a capability that an answer of the server gave the client
pub record CarriesGiven (h : List Line) (client : ℕ) (y : Command) : Type 0 where
  pub credential : ObjectCred
  pub given : WasGiven (sent_in h) client credential
  pub is : capabilities.reading credential.oc_capability ≡ Ok y.capability

-- the holder sent it, or was given what it carries
abbrev pub IsFair : Source
IsFair h drive bytes y =
    IsOwned h drive bytes y ⊎ ((y.capability.holder < CLIENTS) × CarriesGiven h y.capability.holder y)

-- ---- more lines

given_more : (h lines : List Line) (client : ℕ) (y : Command) → CarriesGiven h client y
    → CarriesGiven (h ++ lines) client y
given_more h lines client y g = record {
  credential = g.credential;
  given = still_given (sent_in h) (sent_in (h ++ lines)) client g.credential (history_grows h lines) g.given;
  is = g.is;
}

pub fair_more : (h lines : List Line) (drive : ℕ) (bytes : List ℕ) (y : Command) → IsFair h drive bytes y
    → IsFair (h ++ lines) drive bytes y
fair_more h lines drive bytes y (inl o) = inl (owned_more h lines drive bytes y o)
fair_more h lines drive bytes y (inr (e, g)) = inr (e, given_more h lines y.capability.holder y g)

-- ---- what carries what was given

-- its holder is the client to whom that was given
given_fair : (h : List Line) (drive : ℕ) (bytes : List ℕ) (client : ℕ) (y : Command) → IsKnownOf h
    → CarriesGiven h client y → IsFair h drive bytes y
given_fair h drive bytes client y known g =
    let named : nat_lt client CLIENTS ≡ true = given_named (sent_in h) client g.credential known.named g.given in
    let holder : y.capability.holder ≡ client =
    listed_holder (sent_in h) client g.credential g.given (answered (sent_in h) client g.credential known.carry g.given)
    named y.capability g.is in
    inr (
      subst (λ (n : ℕ). n < CLIENTS) (sym holder) (below client named),
      subst (λ (n : ℕ). CarriesGiven h n y) (sym holder) g,
    )

-- ---- behind an injection

module _ (lines : List Line) (d : ℕ) (bytes : List ℕ) where
  abbrev injection : Line
  injection = line.Event (event.Inject d bytes)

  abbrev behind : List Line
  behind = lines ++ injection ∷ []

  seen_behind : drive_seen d behind ≡ sees_drive d (drive_seen d lines) injection
  seen_behind = fold-append (sees_drive d) _ lines (injection ∷ [])

  sent_same : sent_in behind ≡ sent_in lines
  sent_same = sent_behind lines injection

  injected_fair : Judges behind (line.Judged d Perform) d (injected_in behind d) Perform → IsKnownOf behind
      → AreUnforged behind → SourceAt IsFair behind (line.Judged d Perform)
  injected_fair p known unforged y read =
      let done = is_performed p.there (injected_in behind d) p.verdict in
      let same : done.command ≡ y = same_ok done.command y (reading (injected_in behind d)) done.read read in
      let injected : injected_in behind d ≡ bytes = ap (λ (s : DriveSeen). s.injected) seen_behind in
      let stood : drive_after lines d ≡ Some p.there =
      sym (ap (λ (s : DriveSeen). s.drive) seen_behind) ∙ p.stands in
      let fair : IsUnforged lines injection = unforged lines injection [] refl in
      let rows = ((all_told p.there.state p.there.clock done.command).0 done.clear).1 in
      let opens : opens_with (key_of_version p.there.state.keys done.command.capability.key_version) done.command ≡ true =
      opens_clear (key_of_version p.there.state.keys done.command.capability.key_version) done.command rows.0 rows.1.0 in
      elim (fair p.there done.command stood (ap reading (sym injected) ∙ done.read) opens) [
        | inl w ↦ inl (by_sender behind (line.Judged d Perform) known d (injected_in behind d) w.number w.message
            w.message.from (ap (λ (ss : List Sent). slice_get ss w.number) sent_same ∙ w.sent) refl w.receiver
            (w.bytes_are ∙ sym injected) w.sender p y read)
        | inr w ↦ given_fair behind d (injected_in behind d) w.client y known (record {
          credential = w.credential;
          given = still_given (sent_in lines) (sent_in behind) w.client w.credential
              (history_grows lines (injection ∷ [])) w.given;
          is = w.is ∙ ap (λ (x : Command). Ok x.capability) same;
        })
      ]

injected_at : (before : List Line) (d : ℕ) → ArisesAt before (line.Judged d Perform)
    → Judges before (line.Judged d Perform) d (injected_in before d) Perform → IsKnownOf before → AreUnforged before
    → SourceAt IsFair before (line.Judged d Perform)
injected_at before d (lines, bytes, is) =
    subst (λ (h : List Line). Judges h (line.Judged d Perform) d (injected_in h d) Perform → IsKnownOf h → AreUnforged h
    → SourceAt IsFair h (line.Judged d Perform)) (sym is) (injected_fair lines d bytes)

-- ---- each line

fair_at : (before : List Line) (l : Line) → JudgesAt before l → ArisesAt before l → ComesAt before l → IsKnownOf before
    → AreUnforged before → SourceAt IsFair before l
fair_at before (line.Delivered n (Judged Perform)) p arises comes known unforged =
    λ m d y found to read. inl (delivered_owned before n p comes known m d y found to read)
fair_at before (line.Judged d Perform) p arises comes known unforged = injected_at before d arises p known unforged
fair_at before l p arises comes known unforged = tt

pub lines_fair : (h : List Line) → AreKnown h → AreUnforged h → AtEachLine (SourceAt IsFair) h
lines_fair h known unforged before x after is =
    let here : HoldsAt before x = at_each_line HoldsAt h known.holds before x after is in
    fair_at before x (judges_of before x here) (arises_of before x here)
    (sources_hold h known.holds before x after is) (known.known before (x ∷ after) is)
    (unforged_front before (x ∷ after) (subst AreUnforged is unforged))
