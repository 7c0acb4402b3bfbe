use Rattle.std.proofs.Common.{◌∙◌, ℕ, List, Option, Some, None, subst, sym}
use Rattle.scenario_text.specs.declared.event.Call.{Call}
use Rattle.scenario_text.specs.declared.event.Event.{Event}
use Rattle.scenario_text.specs.declared.event.Event.TheVariants as event
use Rattle.command_words.specs.Work.{Gives, IsCall, Reads}
use Rattle.command_words.proofs.Works.{call_told}
use Rattle.command_words.proofs.work.call_in.Goals as goal

pub returns-in-Some : goal.returns-in-Some
returns-in-Some c =
    let same = c.as_bytes.ensures.value ∙ c.in_ok-line.ensures.ok in
    let found = subst (λ (o : Option Event). Reads c.as_bytes.result.now o) c.in-Some.is c.in_ok-event.ensures in
    let reads = subst (λ (l : List ℕ). Reads l (Some c.in-Some.event)) same found in
    subst (λ (o : Option Call). Gives (IsCall c.args.text.now) o) (sym c.call_of.ensures)
    (call_told c.args.text.now c.in-Some.event reads.0 reads.1)

pub returns : goal.returns
returns c = λ what s.
    let same = c.as_bytes.ensures.value ∙ c.in_ok-line.ensures.ok in
    let found = subst (λ (o : Option Event). Reads c.as_bytes.result.now o) c.in-None.is c.in_ok-event.ensures in
    subst (λ (l : List ℕ). Reads l None) same found (event.Do 0 what) s
