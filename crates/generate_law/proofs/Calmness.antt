-- No event of the scenario loses a drive.
use Rattle.std.proofs.Common.{ℕ, zero, suc, ◌+◌, ◌%◌, List, [], ◌∷◌, ◌++◌, sym, subst}
use Rattle.std.specs.List.{AllByRecursion}
use Rattle.scenario_text.specs.declared.event.Call.{Call}
use Rattle.scenario_text.specs.declared.event.Event.{Event}
use Rattle.scenario_text.specs.declared.event.Event.TheVariants as event
use Rattle.scenario_text.specs.declared.line.Line.{Line}
use Rattle.scenario_text.specs.declared.line.Line.TheVariants as line
use Rattle.lossless_law.specs.Lossless.{KeepsDrives, TellsNoLoss, IsLossless, LosslessIsCalm}
use Rattle.generate_law.specs.Calm.{ScenarioIsCalm}
use Rattle.generate_law.specs.Scenario.{opening, call_of, calls_from, next_random, scenario_of}
use Rattle.generate_law.proofs.Events.{events_in, events_are}
use Rattle.generate_law.proofs.Texts.{scenario_is_text}

-- ---- each event

calls_all : (P : Event → Type 0) → ((c : ℕ) (x : Call) → P (event.Do c x)) → (n k x : ℕ) → AllByRecursion P (calls_from n k x)
calls_all P does zero k x = tt
calls_all P does (suc n) k x = (does (k % 3) (call_of k x), calls_all P does n (k + 1) (next_random x))

both_all : (P : Event → Type 0) (xs ys : List Event) → AllByRecursion P xs → AllByRecursion P ys → AllByRecursion P (xs ++ ys)
both_all P [] ys p q = q
both_all P (x ∷ xs) ys p q = (p.0, both_all P xs ys p.1 q)

-- what is so of the opening's events and of each call is so of all
scenario_all : (P : Event → Type 0) → AllByRecursion P opening → ((c : ℕ) (x : Call) → P (event.Do c x)) → (seed calls : ℕ)
    → AllByRecursion P (scenario_of seed calls)
scenario_all P first does seed calls = both_all P opening (calls_from calls 0 seed) first (calls_all P does calls 0 seed)

abbrev Keeps : Event → Type 0
Keeps e = KeepsDrives (line.Event e)

opening_keeps : AllByRecursion Keeps opening
opening_keeps = (tt, (tt, (tt, (tt, (tt, (tt, (tt, (tt, (tt, (tt, (tt, tt)))))))))))

-- ---- each line

lines_lossless : (ls : List Line) → AllByRecursion Keeps (events_in ls) → AllByRecursion TellsNoLoss ls
    → AllByRecursion IsLossless ls
lines_lossless [] p t = tt
lines_lossless (line.Event e ∷ ls) p t = (record { drives = p.0; told = t.0 }, lines_lossless ls p.1 t.1)
lines_lossless (l ∷ ls) p t = (record { drives = tt; told = t.0 }, lines_lossless ls p t.1)

-- ---- the scenario

pub scenario_is_calm : LosslessIsCalm → ScenarioIsCalm
scenario_is_calm is_calm seed calls w h p told =
    is_calm w h p.stands (scenario_is_text seed calls w h p).0
    (lines_lossless h
    (subst (AllByRecursion Keeps) (sym (events_are (scenario_of seed calls) w h p))
    (scenario_all Keeps opening_keeps (λ c x. tt) seed calls)) told)
