-- A server in memory alone, which no disk keeps.
use Rattle.std.proofs.Common.{◌≡◌, ◌∙◌, ℕ, true, false, List, [], ◌∷◌, Option, Some, None, Ok, Result, ap, refl, subst, sym, arith}
use Rattle.std.specs.Prelude.{◌≢◌, length, ◌≤◌, is_some, option_map}
use Rattle.data_map.specs.declared.check.RawMap.{RawMap}
use Rattle.layout_server.specs.Creating.{cause_of}
use Rattle.layout_server.specs.declared.new_files.FileErr.{FileErr}
use Rattle.layout_server.specs.declared.new_files.FileErr.TheVariants as cause
use Rattle.server_rules.specs.declared.files.File.{File}
use Rattle.server_rules.specs.declared.files.Kept.{Kept}
use Rattle.server_rules.specs.declared.server.Refusal.{Refusal}
use Rattle.server_rules.specs.declared.server.Server.{Server}
use Rattle.server_rules.specs.Files.{Step as RulesStep}
use Rattle.server_rules.specs.History.{unless_made}
use Rattle.server_rules.specs.Making.{create_file, refusal}
use Rattle.server_command.specs.declared.metadata_server.MakeErr.{MakeErr}
use Rattle.server_command.specs.declared.metadata_server.MakeErr.TheVariants.{Refused, DiskFault, Memory}
use Rattle.server_command.specs.Kept.{BrokeOff, Carries, MakesNot, WentOn}
use Rattle.server_command.specs.Steps.{ServerStep, after_steps}
use Rattle.server_command.specs.Steps as steps

-- what is known of it
abbrev pub CoreCarries : (done cut_off : List ServerStep) → (old new : Server) → Type 0
CoreCarries done cut_off old new =
    Carries (λ (s : Server). s) (λ s. false) (λ s. 0) (λ s. ⊥) (λ s. 0) (λ s t c. ⊥) (λ s c. ⊥) done cut_off old new

abbrev pub CoreWent : (done : List ServerStep) → (old new : Server) → Type 0
CoreWent done old new = WentOn (λ (s : Server). s) (λ s. false) (λ s. 0) (λ s. ⊥) (λ s. 0) (λ s t c. ⊥) (λ s c. ⊥) done old new

abbrev pub CoreBroke : (done cut_off : List ServerStep) → (failed : Type 0) → (old new : Server) → Type 0
CoreBroke done cut_off failed old new =
    BrokeOff (λ (s : Server). s) (λ s. false) (λ s. 0) (λ s. ⊥) (λ s. 0) (λ s t c. ⊥) (λ s c. ⊥) done cut_off failed old new

abbrev pub CoreMakesNot : (file : ℕ) → RawMap → (tag : ℕ) → (old new : Server) → MakeErr → Type 0
CoreMakesNot file raw tag old new e =
    MakesNot (λ (s : Server). s) (λ s. false) (λ s. 0) (λ s. ⊥) (λ s. 0) (λ s t c. ⊥) (λ s c. ⊥) file raw tag old new e

carried : (done cut_off : List ServerStep) (old new : Server) → length cut_off ≤ 1 → CoreCarries done cut_off old new
carried done cut_off old new few = record { few = few; crash = λ kept. absurd kept; since = λ kept. absurd kept }

pub core_went : (done : List ServerStep) (old new : Server) → new ≡ after_steps old done → CoreWent done old new
core_went done old new e = record {
  state = e;
  carries = carried done [] old new (omega arith);
  keeps_on = λ kept. kept;
  goes_on = refl;
  same = refl;
}

pub core_broke : (x : ServerStep) (failed : Type 0) (old new : Server) → (failed → ⊥) → CoreBroke [] (x ∷ []) failed old new
core_broke x failed old new never = record { carries = carried [] (x ∷ []) old new (omega arith); rose = λ f. absurd (never f) }

-- a file was made
pub core_made : (file : ℕ) (raw : RawMap) (tag : ℕ) (chosen : List ℕ) (old new : Server) (s : RulesStep)
    → create_file old file raw tag false chosen ≡ Ok s → new ≡ s.state → CoreWent (steps.Makes file raw tag chosen ∷ []) old new
core_made file raw tag chosen old new s is e =
    core_went (steps.Makes file raw tag chosen ∷ []) old new
    (e ∙ sym (ap (λ (r : Result RulesStep Refusal). (unless_made old r).state) is))

-- it wasn't
pub core_not : (file : ℕ) (raw : RawMap) (tag : ℕ) (old new : Server) (e : FileErr) (told : MakeErr)
    → ((r : Refusal) → e ≡ cause_of r → told ≡ Refused r) → (e ≡ cause.Memory → told ≡ Memory)
    → (e ≢ cause.Memory → (r : Refusal) × (refusal old file raw false ≡ Some r) × (e ≡ cause_of r) × (new ≡ old))
    → CoreMakesNot file raw tag old new told
core_not file raw tag old new e told by memory refused = go e memory refused by
  where
    not : (e : FileErr) → ((r : Refusal) → e ≡ cause_of r → told ≡ Refused r)
        → (r : Refusal) × (refusal old file raw false ≡ Some r) × (e ≡ cause_of r) × (new ≡ old) →
        CoreMakesNot file raw tag old new told
    not e by h = subst (λ (x : MakeErr). CoreMakesNot file raw tag old new x) (sym (by h.0 h.2)) (h.1, core_went [] old new h.3)

    go : (e : FileErr) → (e ≡ cause.Memory → told ≡ Memory)
        → (e ≢ cause.Memory → (r : Refusal) × (refusal old file raw false ≡ Some r) × (e ≡ cause_of r) × (new ≡ old))
        → ((r : Refusal) → e ≡ cause_of r → told ≡ Refused r) → CoreMakesNot file raw tag old new told
    go cause.Memory memory refused by =
        subst (λ (x : MakeErr). CoreMakesNot file raw tag old new x) (sym (memory refl))
        ([], core_broke (steps.Makes file raw tag []) (Memory ≡ DiskFault) old new (λ x. cc x))
    go cause.FileExists memory refused by = not cause.FileExists by (refused (λ x. cc x))
    go (cause.BadMap m) memory refused by = not (cause.BadMap m) by (refused (λ x. cc x))
    go (cause.TooFewDrives n) memory refused by = not (cause.TooFewDrives n) by (refused (λ x. cc x))
    go (cause.NoSpread n) memory refused by = not (cause.NoSpread n) by (refused (λ x. cc x))

-- whether there is a file, by what is kept of it
pub is_there : (k : Kept) (o : Option File) → Some k ≡ option_map (λ f. f.kept) o → true ≡ is_some o
is_there k None e = absurd (cc e)
is_there k (Some f) e = refl

pub is_absent : (o : Option File) → None ≡ option_map (λ (f : File). f.kept) o → false ≡ is_some o
is_absent None e = refl
is_absent (Some f) e = absurd (cc e)
