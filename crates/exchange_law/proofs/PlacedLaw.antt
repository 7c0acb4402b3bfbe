-- In every history each command of a client is placed, and no drive gives a verdict on where it lies.
use Rattle.std.proofs.Common.{◌≡◌, ℕ, ◌∷◌, [], List, Result, Ok, Err, refl, sym, ap, subst, ◌∙◌}
use Rattle.std.proofs.lemmas.Option.{same_Some}
use Rattle.osd_commands.specs.declared.commands.Command.{Command}
use Rattle.osd_commands.specs.declared.commands.CommandErr.{CommandErr}
use Rattle.osd_commands.specs.Commands.{reading}
use Rattle.osd_drive.specs.declared.verdict.Verdict.{Verdict as DriveVerdict}
use Rattle.osd_drive.specs.declared.verdict.Verdict.TheVariants as drive
use Rattle.osd_drive.specs.Table.{first_fault}
use Rattle.scenario_text.specs.declared.line.Delivery.TheVariants.{Judged}
use Rattle.scenario_text.specs.declared.line.Verdict.{Verdict}
use Rattle.scenario_text.specs.declared.line.Party.TheVariants as party
use Rattle.scenario_text.specs.declared.line.Line.{Line}
use Rattle.scenario_text.specs.declared.line.Line.TheVariants as line
use Rattle.world_history.specs.declared.messages.Sent.{Sent}
use Rattle.world_history.specs.State.{DriveAt}
use Rattle.world_history.specs.Drives.{verdict_on}
use Rattle.world_history.specs.Told.{told_verdict}
use Rattle.world_history.specs.Reading.{sent_in}
use Rattle.history_law.specs.Judging.{Judges, JudgesAt, IsDelivered}
use Rattle.history_law.proofs.Each.{EachBehind, HoldsAt, judges_of, each_front, at_each_line}
use Rattle.history_law.proofs.Histories.{stands, lawful}
use Rattle.exchange_law.specs.Kept.{IsOwnGrant}
use Rattle.exchange_law.specs.Placed as rules
use Rattle.exchange_law.specs.Placed.{IsPlaced}
use Rattle.exchange_law.specs.PlaceAnswers.{AnswersFit}
use Rattle.exchange_law.specs.Histories.{IsMisplaced, PlacedAt, CommandsArePlaced, HeldGrantsAreGiven}
use Rattle.exchange_law.proofs.Parts.{each_in}
use Rattle.exchange_law.proofs.PlaceVerdicts.{never_misplaced}
use Rattle.exchange_law.proofs.DriveNumbers.{drive_number}
use Rattle.exchange_law.proofs.PlaceReading.{placed_read, spells_placed}
use Rattle.exchange_law.proofs.PlaceLines.{Spells, SpellsAt, IsPlacedWorld, all_placed}
use Rattle.exchange_law.proofs.Messages.{AllSpell, all_spell}

-- ---- a verdict

told : (v : DriveVerdict) → IsMisplaced (told_verdict v) → rules.IsMisplaced v
told drive.Rights m = tt
told drive.WrongObject m = tt
told drive.Range m = tt
told v m = absurd m

on_reading : (a : DriveAt) (r : Result Command CommandErr) → ((c : Command) → r ≡ Ok c → IsPlaced a.state.number c)
    → IsMisplaced (verdict_on a.state a.clock r) → ⊥
on_reading a (Err e) placed m = m
on_reading a (Ok c) placed m =
    never_misplaced a.state a.clock c (placed c refl) (told (first_fault a.state a.clock c) m)

judged_right : (before : List Line) (l : Line) (d : ℕ) (bytes : List ℕ) (v : Verdict) → Judges before l d bytes v
    → Spells d bytes → IsMisplaced v → ⊥
judged_right before l d bytes v p s m =
    let number = drive_number before d p.there p.stands in
    on_reading p.there (reading bytes)
    (λ c is. subst (λ (n : ℕ). IsPlaced n c) (sym number)
    (placed_read d s.0 c s.2 (ap reading (sym s.1) ∙ is))) (subst IsMisplaced p.verdict m)

-- ---- each line

delivered_right : (before : List Line) (n : ℕ) (v : Verdict) → IsDelivered before n (Judged v)
    → AllSpell (sent_in before) → AnswersFit (sent_in before) → PlacedAt before (line.Delivered n (Judged v))
delivered_right before n v p all fit m c found from =
    let same : p.message ≡ m = same_Some p.message m (sym p.sent ∙ found) in
    let who : p.message.from ≡ party.Client c = ap (λ (x : Sent). x.from) same ∙ from in
    judged_right before (line.Delivered n (Judged v)) p.tells.0 p.message.bytes v p.tells.2
    (all fit n p.message p.sent c p.tells.0 who p.tells.1)

at_line : (before : List Line) (l : Line) → JudgesAt before l → SpellsAt before l → AllSpell (sent_in before)
    → AnswersFit (sent_in before) → PlacedAt before l
at_line before (line.Message n (party.Client c) (party.Drive d) bytes) p s all fit =
    let x = s fit in spells_placed d bytes x.0 x.1 x.2
at_line before (line.Delivered n (Judged v)) p s all fit = delivered_right before n v p all fit
at_line before l p s all fit = tt

pub commands_placed : CommandsArePlaced
commands_placed h l before x after is =
    let more = lawful IsPlacedWorld all_placed h l in
    let holds : EachBehind HoldsAt [] h = each_front HoldsAt [] h more.1 more.2.known.read.lines in
    let spell : EachBehind SpellsAt [] h = each_front SpellsAt [] h more.1 more.2.lines in
    let front : EachBehind SpellsAt [] before =
    each_front SpellsAt [] before (x ∷ after) (subst (EachBehind SpellsAt []) is spell) in
    at_line before x (judges_of before x (at_each_line HoldsAt h holds before x after is))
    (at_each_line SpellsAt h spell before x after is) (all_spell before front)

-- ---- what is held

pub held_given : HeldGrantsAreGiven
held_given w h s fit c a found x i =
    let here = stands IsPlacedWorld all_placed w h s in
    each_in (IsOwnGrant c) a.state.held x ((here.clients fit) c a found).helds i
