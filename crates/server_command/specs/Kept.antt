-- What a metadata server leaves behind, at each moment of the steps that it does.
use Rattle.std.specs.Prelude.{◌≡◌, ◌⊎◌, ◌≤◌, ℕ, Bool, false, List, [], ◌∷◌, ◌++◌, length, Some, Ok}
use Rattle.osd_bytes.specs.Causes.{Rose}
use Rattle.osd_disk.specs.Crashes.{LeavesOnly}
use Rattle.data_map.specs.declared.check.RawMap.{RawMap}
use Rattle.server_rules.specs.declared.server.Server.{Server}
use Rattle.server_rules.specs.Files.{Step as RulesStep}
use Rattle.server_rules.specs.Making.{create_file, refusal}
use Rattle.server_state.specs.declared.step.Step.{Step}
use Rattle.server_state.specs.States.{Did}
use Rattle.server_command.specs.declared.metadata_server.MakeErr.{MakeErr}
use Rattle.server_command.specs.declared.metadata_server.MakeErr.TheVariants.{Refused, DiskFault}
use Rattle.server_command.specs.Steps.{ServerStep, Makes as MakesAt, after_step, after_steps}

-- contents stand for the server after some of these steps, the first of them first and none left out
abbrev pub StandsForSome : (stands_for : Server → List ℕ → Type 0) → Server → List ServerStep → List ℕ → Type 0
StandsForSome stands_for s [] c = stands_for s c
StandsForSome stands_for s (x ∷ xs) c = stands_for s c ⊎ StandsForSome stands_for (after_step s x) xs c

-- A crash from a moment on leaves the server after some of these steps, the last of which may have been cut off. Each of the
-- others was done to its end, from which on a crash leaves the server with it.
abbrev pub StandsSince : (stands_for : Server → List ℕ → Type 0) → (left_since : ℕ → List ℕ → Type 0) → (now : ℕ) → Server
    → (done cut_off : List ServerStep) → (since : ℕ) → Type 0
StandsSince stands_for left_since now s [] cut_off since =
    (c : List ℕ) → left_since since c → StandsForSome stands_for s cut_off c
StandsSince stands_for left_since now s (x ∷ xs) cut_off since =
    ((c : List ℕ) → left_since since c → StandsForSome stands_for s (x ∷ (xs ++ cut_off)) c)
    × (end : ℕ) × (since ≤ end) × (end ≤ now)
    × StandsSince stands_for left_since now (after_step s x) xs cut_off end

module _ {H : Type 0} (server : H → Server) (is_over : H → Bool) (faults : H → ℕ) (keeps : H → Type 0) (moment : H → ℕ)
    (left_since : H → ℕ → List ℕ → Type 0) (stands_for : Server → List ℕ → Type 0) where
  -- These steps were done to their ends but for one at most, which was cut off. If the server was kept before, a crash at any
  -- moment since leaves contents that stand for it after some of them, and for those that were done till then.
  pub record Carries (done cut_off : List ServerStep) (old new : H) : Type 0 where
    pub few : length cut_off ≤ 1
    pub crash : keeps old → LeavesOnly moment left_since old new (StandsForSome stands_for (server old) (done ++ cut_off))
    pub since : keeps old → StandsSince stands_for (left_since new) (moment new) (server old) done cut_off (moment old)

  -- the server did all these steps to their ends, and more may come: what kept it keeps it, and no call of the disk failed
  pub record WentOn (done : List ServerStep) (old new : H) : Type 0 where
    pub state : server new ≡ after_steps (server old) done
    pub carries : Carries done [] old new
    pub keeps_on : keeps old → keeps new
    pub goes_on : is_over new ≡ false
    pub same : faults new ≡ faults old

  -- the server was cut off behind these steps, or in one; the count of faults rose, where that is said
  pub record BrokeOff (done cut_off : List ServerStep) (failed : Type 0) (old new : H) : Type 0 where
    pub carries : Carries done cut_off old new
    pub rose : failed → Rose (faults old) (faults new)

  -- a file was made, on some drives
  abbrev pub Makes : (file : ℕ) → RawMap → (tag : ℕ) → (old new : H) → Step → Type 0
  Makes file raw tag old new out =
      (chosen : List ℕ) × (s : RulesStep) × (create_file (server old) file raw tag false chosen ≡ Ok s)
      × Did out (server new) s × WentOn (MakesAt file raw tag chosen ∷ []) old new

  -- it wasn't: the rules refuse it, and nothing changed; or the server was cut off
  abbrev pub MakesNot : (file : ℕ) → RawMap → (tag : ℕ) → (old new : H) → MakeErr → Type 0
  MakesNot file raw tag old new (Refused r) = (refusal (server old) file raw false ≡ Some r) × WentOn [] old new
  MakesNot file raw tag old new e = (chosen : List ℕ) × BrokeOff [] (MakesAt file raw tag chosen ∷ []) (e ≡ DiskFault) old new
