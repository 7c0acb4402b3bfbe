-- Injected bytes that aren't forged and are performed carry a capability that was listed.
use Rattle.std.proofs.Common.{◌≡◌, ℕ, ◌++◌, ◌∷◌, [], List, true, false, Some, Ok, bit_and, nat_eq, slice_get, refl, sym, ap, subst, ◌∙◌, append_assoc, inl, inr}
use Rattle.std.proofs.lemmas.List.Sums.{fold-append}
use Rattle.layout_types.specs.declared.cred.ObjectCred.{ObjectCred}
use Rattle.osd_capability.specs.Layout as capabilities
use Rattle.osd_commands.specs.declared.commands.Command.{Command}
use Rattle.osd_commands.specs.Actions.{right_of}
use Rattle.osd_commands.specs.Commands.{reading}
use Rattle.osd_drive.specs.declared.verdict.Verdict.TheVariants as drive
use Rattle.osd_drive.specs.State.{DriveState, key_of_version}
use Rattle.osd_drive.specs.Table.{first_fault}
use Rattle.osd_drive.proofs.Clear.{all_told}
use Rattle.scenario_text.specs.declared.event.Event.TheVariants as event
use Rattle.scenario_text.specs.declared.line.Verdict.TheVariants.{Perform}
use Rattle.scenario_text.specs.declared.line.Line.{Line}
use Rattle.scenario_text.specs.declared.line.Line.TheVariants as line
use Rattle.world_history.specs.declared.messages.Sent.{Sent}
use Rattle.world_history.specs.Guesses.{opens_with, unguessed}
use Rattle.world_history.specs.Reading.{sent_in}
use Rattle.world_history.specs.ReadDrives.{DriveSeen, sees_drive, drive_seen, drive_after}
use Rattle.history_law.specs.Judging.{Judges, JudgesAt, injected_in}
use Rattle.history_law.proofs.Coming.{opens_clear, opened_were_sent, sent_behind}
use Rattle.history_law.proofs.Each.{EachBehind, ArisesAt, HoldsAt, judges_of, arises_of, each_front, at_each_line}
use Rattle.history_law.proofs.Histories.{lawful}
use Rattle.history_law.proofs.Replying.{is_performed}
use Rattle.history_law.specs.Listed.{WasGiven}
use Rattle.history_law.specs.Unforged.{IsUnforged, AreUnforged, UnguessedAreUnforged, IsListed, HasFairSource, InjectedAt, UnforgedAreIssued}
use Rattle.history_law.proofs.Exact.{same_ok, grant_read, exact_listed}
use Rattle.history_law.proofs.Growing.{history_grows, still_given}
use Rattle.history_law.proofs.IssuedLaw.{allowed, answered, by_sender, source_of}
use Rattle.history_law.proofs.IssueLines.{CarriesAt, IsKnown, all_known}
use Rattle.history_law.proofs.Messages.{AllCarry, all_carry}

-- ---- what is performed is opened

opened : (d : DriveState) (now : ℕ) (c : Command) → first_fault d now c ≡ drive.Perform
    → opens_with (key_of_version d.keys c.capability.key_version) c ≡ true
opened d now c clear =
    let rows = ((all_told d now c).0 clear).1 in
    opens_clear (key_of_version d.keys c.capability.key_version) c rows.0 rows.1.0

-- ---- unforged histories

-- nothing was forged before
pub unforged_front : (before after : List Line) → AreUnforged (before ++ after) → AreUnforged before
unforged_front before after fair first l rest is =
    fair first l (rest ++ after)
    (ap (λ (h : List Line). h ++ after) is ∙ append_assoc first (l ∷ rest) after)

at_guess : (h : List Line) → EachBehind HoldsAt [] h → unguessed h ≡ true → (before : List Line) (l : Line)
    (after : List Line) → h ≡ before ++ l ∷ after → IsUnforged before l
at_guess h each clean before (line.Event (event.Inject d bytes)) after is =
    λ a c stands read opens. inl (opened_were_sent h each clean before after d bytes is a c stands read opens)
at_guess h each clean before l after is = tt

pub unguessed_are_unforged : UnguessedAreUnforged
unguessed_are_unforged h l clean =
    let more = lawful IsKnown all_known h l in
    at_guess h (each_front HoldsAt [] h more.1 more.2.read.lines) clean

-- ---- what was listed

-- what an answer gave, and a command carries
listed : (before : List Line) (client : ℕ) (o : ObjectCred) (c : Command) → AllCarry (sent_in before)
    → WasGiven (sent_in before) client o → capabilities.reading o.oc_capability ≡ Ok c.capability
    → nat_eq (bit_and c.capability.rights (right_of c.action)) 0 ≡ false → IsListed before client c
listed before client o c all given is allowed =
    let source = answered (sent_in before) client o all given in
    record {
      credential = o;
      given = given;
      is = is;
      source = source;
      grant = λ fits. grant_read client given.message.bytes given.component o source given.lists fits;
      exact = λ x fits. exact_listed client given.message.bytes given.component o given.lists x fits c is allowed;
    }

-- ---- behind an injection

module _ (lines : List Line) (d : ℕ) (bytes : List ℕ) where
  abbrev injection : Line
  injection = line.Event (event.Inject d bytes)

  abbrev behind : List Line
  behind = lines ++ injection ∷ []

  seen_behind : drive_seen d behind ≡ sees_drive d (drive_seen d lines) injection
  seen_behind = fold-append (sees_drive d) _ lines (injection ∷ [])

  sent_same : sent_in behind ≡ sent_in lines
  sent_same = sent_behind lines injection

  injected_issued : Judges behind (line.Judged d Perform) d (injected_in behind d) Perform → AllCarry (sent_in behind)
      → AreUnforged behind → HasFairSource behind d (injected_in behind d)
  injected_issued p all unforged =
      let done = is_performed p.there (injected_in behind d) p.verdict in
      let injected : injected_in behind d ≡ bytes = ap (λ (s : DriveSeen). s.injected) seen_behind in
      let stood : drive_after lines d ≡ Some p.there =
      sym (ap (λ (s : DriveSeen). s.drive) seen_behind) ∙ p.stands in
      let fair : IsUnforged lines injection = unforged lines injection [] refl in
      elim (fair p.there done.command stood (ap reading (sym injected) ∙ done.read)
      (opened p.there.state p.there.clock done.command done.clear)) [
        | inl w ↦ inl (source_of behind w.message.from d (injected_in behind d)
            (by_sender behind (line.Judged d Perform) d (injected_in behind d) w.number w.message w.message.from
            all (ap (λ (ss : List Sent). slice_get ss w.number) sent_same ∙ w.sent) refl w.receiver
            (w.bytes_are ∙ sym injected) w.sender p))
        | inr w ↦ inr (λ c read.
            let same : done.command ≡ c = same_ok done.command c (reading (injected_in behind d)) done.read read in
            let given =
            still_given (sent_in lines) (sent_in behind) w.client w.credential (history_grows lines (injection ∷ []))
            w.given in (
              w.client,
              listed behind w.client w.credential c all given (w.is ∙ ap (λ (x : Command). Ok x.capability) same)
                  (subst (λ (x : Command). nat_eq (bit_and x.capability.rights (right_of x.action)) 0 ≡ false) same
                  (allowed p.there.state p.there.clock done.command done.clear)),
            ))
      ]

injected_at : (before : List Line) (d : ℕ) → ArisesAt before (line.Judged d Perform)
    → Judges before (line.Judged d Perform) d (injected_in before d) Perform → AllCarry (sent_in before)
    → InjectedAt before (line.Judged d Perform)
injected_at before d (lines, bytes, is) =
    subst (λ (h : List Line). Judges h (line.Judged d Perform) d (injected_in h d) Perform → AllCarry (sent_in h)
    → InjectedAt h (line.Judged d Perform)) (sym is) (injected_issued lines d bytes)

at_line : (before : List Line) (l : Line) → JudgesAt before l → ArisesAt before l → AllCarry (sent_in before)
    → InjectedAt before l
at_line before (line.Judged d Perform) p arises all = injected_at before d arises p all
at_line before l p arises all = tt

pub unforged_are_issued : UnforgedAreIssued
unforged_are_issued h l before x after is =
    let more = lawful IsKnown all_known h l in
    let holds : EachBehind HoldsAt [] h = each_front HoldsAt [] h more.1 more.2.read.lines in
    let carry : EachBehind CarriesAt [] h = each_front CarriesAt [] h more.1 more.2.lines in
    let front : EachBehind CarriesAt [] before =
    each_front CarriesAt [] before (x ∷ after) (subst (EachBehind CarriesAt []) is carry) in
    let here : HoldsAt before x = at_each_line HoldsAt h holds before x after is in
    at_line before x (judges_of before x here) (arises_of before x here) (all_carry before front)
