-- What a drive performs of a client is for a component under a grant of the client.
use Rattle.std.proofs.Common.{◌≡◌, ℕ, ◌∷◌, List, Some, Ok, ap, subst, ◌∙◌, inl, inr}
use Rattle.layout_types.specs.declared.cred.ObjectCred.{ObjectCred}
use Rattle.layout_ops.specs.declared.results.Results.{Results}
use Rattle.layout_ops.specs.declared.results.Results.TheVariants as results
use Rattle.layout_ops.specs.declared.results.LayoutGetOk.{LayoutGetOk}
use Rattle.layout_ops.specs.declared.results.LayoutGetResult.TheVariants as get
use Rattle.layout_ops.specs.declared.envelope.Envelope.TheVariants as envelope
use Rattle.layout_ops.specs.Reading.{envelope_of}
use Rattle.layout_ops.proofs.Whole.{all_again}
use Rattle.osd_commands.specs.declared.commands.Command.{Command}
use Rattle.client_rules.specs.Results.{layouts_in}
use Rattle.scenario_text.specs.declared.line.Delivery.TheVariants.{Judged}
use Rattle.scenario_text.specs.declared.line.Verdict.TheVariants.{Perform}
use Rattle.scenario_text.specs.declared.line.Party.{Party}
use Rattle.scenario_text.specs.declared.line.Party.TheVariants as party
use Rattle.scenario_text.specs.declared.line.Line.{Line}
use Rattle.scenario_text.specs.declared.line.Line.TheVariants as line
use Rattle.world_history.specs.Reading.{sent_in}
use Rattle.world_history.specs.History.{Lawful, FrontsAreLawful}
use Rattle.history_law.specs.Granted.{IsGrantOf, NumbersFit}
use Rattle.history_law.specs.Listed.{Lists, WasGiven}
use Rattle.history_law.specs.Issued.{IsIssued, HasSource, IsFrom, IssuedAt, CommandsAreIssued}
use Rattle.history_law.specs.Unforged.{IsListed, InjectedAt, UnforgedAreIssued}
use Rattle.history_law.proofs.Exact.{same_ok}
use Rattle.exchange_law.specs.Text.{AreOfText, AreFew}
use Rattle.exchange_law.specs.Fitting.{ResultsGive, GivesFit, SpellsFit, FitsBetween, AllFit, MessagesFit}
use Rattle.exchange_law.specs.Exact.{IsIssuedExactly, HasExactSource, IsExactlyFrom, IssuedExactlyAt, CommandsAreIssuedExactly, IsListedExactly, InjectedExactlyAt, UnforgedAreIssuedExactly}
use Rattle.exchange_law.proofs.CountGrowing.{fewer, text_front}

-- what is given in a message that fits
abbrev Gives : (client : ℕ) → LayoutGetOk → Type 0
Gives client ok = (x : IsGrantOf client ok) × NumbersFit x.drives x.file x.grant

given_in : (client : ℕ) (r : Results) (given : LayoutGetOk) → layouts_in r ≡ Some given → ResultsGive client r
    → Gives client given
given_in client (results.LayoutGet (get.Granted ok)) given e k =
    let same : ok ≡ given = cc e in subst (Gives client) same k
given_in client (results.LayoutGet (get.TryLater signal)) given e k = absurd (cc e)
given_in client (results.LayoutGet (get.Refused status)) given e k = absurd (cc e)
given_in client (results.LayoutCommit r) given e k = absurd (cc e)
given_in client (results.LayoutReturn r) given e k = absurd (cc e)

given_by : (client : ℕ) (bytes : List ℕ) (k : ℕ) (o : ObjectCred) (s : SpellsFit client bytes) (l : Lists bytes k o)
    → Gives client l.given
given_by client bytes k o s l =
    let again : envelope_of bytes ≡ Ok s.message = ap envelope_of s.bytes_are ∙ all_again s.message s.fits in
    let same : s.message ≡ envelope.Answer l.answer =
    same_ok s.message (envelope.Answer l.answer) (envelope_of bytes) again l.read in
    given_in client l.answer.results l.given l.gives (subst (GivesFit client) same s.gives)

given_fits : (before : List Line) (client : ℕ) (o : ObjectCred) → AllFit (sent_in before)
    → (w : WasGiven (sent_in before) client o) → Gives client w.lists.given
given_fits before client o all w =
    let fits : SpellsFit client w.message.bytes =
    subst (λ (p : Party). FitsBetween p (party.Client client) w.message.bytes) w.sender
    (subst (λ (p : Party). FitsBetween w.message.from p w.message.bytes) w.receiver (all w.number w.message w.there)) in
    given_by client w.message.bytes w.component o fits w.lists

exactly : (before : List Line) (client drive : ℕ) (bytes : List ℕ) → AllFit (sent_in before)
    → IsIssued before client drive bytes → IsIssuedExactly before client drive bytes
exactly before client drive bytes all i =
    let g = given_fits before client i.credential all i.given in
    record { issued = i; grant = g.0; fits = g.1; exact = i.exact g.0 g.1 }

listed_exactly : (before : List Line) (client : ℕ) (c : Command) → AllFit (sent_in before) → IsListed before client c
    → IsListedExactly before client c
listed_exactly before client c all i =
    let g = given_fits before client i.credential all i.given in
    record { listed = i; grant = g.0; fits = g.1; exact = i.exact g.0 g.1 }

sourced : (before : List Line) (drive : ℕ) (bytes : List ℕ) → AllFit (sent_in before) → HasSource before drive bytes
    → HasExactSource before drive bytes
sourced before drive bytes all (inl s) = inl s
sourced before drive bytes all (inr (client, i)) = inr (client, exactly before client drive bytes all i)

exactly_from : (before : List Line) (from : Party) (drive : ℕ) (bytes : List ℕ) → AllFit (sent_in before)
    → IsFrom before from drive bytes → IsExactlyFrom before from drive bytes
exactly_from before party.Server drive bytes all s = s
exactly_from before (party.Client client) drive bytes all i = exactly before client drive bytes all i
exactly_from before (party.Drive d) drive bytes all none = absurd none

at_line : (before : List Line) (l : Line) → AllFit (sent_in before) → IssuedAt before l → IssuedExactlyAt before l
at_line before (line.Delivered n (Judged Perform)) all i =
    λ m drive found to. exactly_from before m.from drive m.bytes all (i m drive found to)
at_line before (line.Judged drive Perform) all i = λ clean. sourced before drive _ all (i clean)
at_line before l all i = tt

injected_line : (before : List Line) (l : Line) → AllFit (sent_in before) → InjectedAt before l
    → InjectedExactlyAt before l
injected_line before (line.Judged drive Perform) all i = λ fair. elim (i fair) [
  | inl s ↦ inl (sourced before drive _ all s)
  | inr listed ↦ inr (λ c read. let k = listed c read in (k.0, listed_exactly before k.0 c all k.1))
]
injected_line before l all i = tt

pub unforged_are_issued_exactly : UnforgedAreIssued → FrontsAreLawful → MessagesFit → UnforgedAreIssuedExactly
unforged_are_issued_exactly issued fronts fit h l text few before x after is =
    let front : Lawful before = fronts before (x ∷ after) (subst Lawful is l) in
    injected_line before x
    (fit before front (text_front before (x ∷ after) (subst AreOfText is text))
    (fewer before (x ∷ after) (subst AreFew is few))) (issued h l before x after is)

pub commands_are_issued_exactly : CommandsAreIssued → FrontsAreLawful → MessagesFit → CommandsAreIssuedExactly
commands_are_issued_exactly issued fronts fit h l text few before x after is =
    let front : Lawful before = fronts before (x ∷ after) (subst Lawful is l) in
    at_line before x
    (fit before front (text_front before (x ∷ after) (subst AreOfText is text))
    (fewer before (x ∷ after) (subst AreFew is few))) (issued h l before x after is)
