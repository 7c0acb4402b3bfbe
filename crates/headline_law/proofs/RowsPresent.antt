-- A job that reads awaits commands of present components only, at each moment.
-- Towards `RowsFollow` (`specs/Parts.antt`).
use Rattle.std.proofs.Common.{◌≡◌, ◌⊎◌, ℕ, true, false, slice_get, List, [], ◌∷◌, Option, Some, None, refl, sym, ap, subst, ◌∙◌, arith, inl, inr}
use Rattle.server_rules.specs.Files.{file_at, at_file}
use Rattle.server_rules.specs.History.{Input, Act, step, state_after}
use Rattle.server_rules.specs.Laws.{In, IsSafe, AreSafe, EachStepIsSafe}
use Rattle.server_rules.specs.Making.{new_server, with_file}
use Rattle.server_rules.proofs.FileLaws.{number_at}
use Rattle.history_law.specs.Names.{Server, File, Component, Job}
use Rattle.history_law.proofs.Files.{in_at}
use Rattle.component_law.specs.Objects.{target_of}
use Rattle.component_law.specs.Sent.{IsSentByRun}
use Rattle.component_law.specs.Sound.{IsSound, IsAim, IsAimed}
use Rattle.component_law.specs.Tagged.{AreNamedActs}
use Rattle.component_law.specs.Words.{Each}
use Rattle.component_law.proofs.Making.{each_step_is_sound}
use Rattle.world_history.specs.State.{World, empty_world}
use Rattle.fence_law.specs.Machine.{new_file_state}
use Rattle.plan_law.specs.FileLayout.{layout_of}
use Rattle.relation_law.proofs.ComponentsSteps.{AreAimed}
use Rattle.relation_law.proofs.KeptServer.{at_place}
use Rattle.relation_law.proofs.Walk.{walk_making}
use Rattle.relation_law.proofs.Ways.{FileWays}
use Rattle.relation_law.proofs.WaysSteps.{files_go}
use Rattle.headline_law.proofs.RowsBegin.{is_reading, ArePresent, BeginsAnew, HasCome, IsBegun, begin_cases}
use Rattle.headline_law.proofs.RowsTurn.{GoesOn, GoesOnAs}
use Rattle.headline_law.proofs.RowsSteps.{turned_step}

-- what the file's job awaits, if it reads, goes to present components
abbrev pub ReadsPresent : File → Type 0
ReadsPresent f = (j : Job) → f.job ≡ Some j → is_reading j.work ≡ true → ArePresent f.kept.components j.awaited

abbrev AllPresent : List File → Type 0
AllPresent fs = (f : File) → In f fs → ReadsPresent f

-- ---- a file of many

of_each : (P : File → Type 0) (fs : List File) (f : File) → Each P fs → In f fs → P f
of_each P [] f all i = absurd i
of_each P (x ∷ fs) f all (inl same) = subst P (sym same) all.0
of_each P (x ∷ fs) f all (inr i) = of_each P fs f all.1 i

pub safe_file : (fs : List File) (f : File) → AreSafe fs → In f fs → IsSafe f
safe_file [] f all i = absurd i
safe_file (x ∷ fs) f all (inl same) = subst (λ (y : File). IsSafe y) (sym same) all.0
safe_file (x ∷ fs) f all (inr i) = safe_file fs f all.1 i

pub are_aimed : (s : Server) → IsSound s → AreAimed s.files
are_aimed s sound x i j t runs is =
    (subst (IsAim x.kept.components) (ap target_of runs ∙ is) (of_each IsAimed s.files x sound.aimed i)).0

-- ---- a step

-- by how the file's job goes on
present_behind : (n : ℕ) (i : Input) (f g : File) → ReadsPresent f → BeginsAnew n g ⊎ GoesOn n i f g → ReadsPresent g
present_behind n i f g before (inl begins) j runs reads = (begins j runs reads).present
present_behind n i f g before (inr goes) j runs reads =
    let on : GoesOnAs n i f j = goes.job j runs reads in
    let old : ArePresent f.kept.components on.job.awaited = before on.job on.runs (ap is_reading (sym on.work) ∙ reads) in
    λ a k. elim (on.awaited a k) [
      | inl same ↦ goes.present a.component (old a same)
      | inr again ↦
          subst (λ (c : ℕ). (at : Component) → slice_get g.kept.components c ≡ Some at → at.missing ≡ false) (sym again.component)
          (goes.present again.former.component (old again.former again.awaits))
    ]

-- a file that is made begins anew
made_ways : (s : Server) (chosen : List ℕ) (i : Input) → FileWays s chosen i (λ f g. Unit {0}) (λ g. BeginsAnew 0 g)
made_ways s chosen i = record {
  stays = λ f g j same. tt;
  alike = λ f g h a p. tt;
  heard = λ x is. tt;
  fenced = λ f g kind format j same. tt;
  declared = λ f g drive j same. tt;
  crashed = λ f g j same. tt;
  opened = λ f g format j same. tt;
  made = λ f there none.
      (walk_making (HasCome 0) (IsBegun 0) (begin_cases 0) (at_file (with_file s f) [] f) (omega arith)).1;
}

-- any world with that server
abbrev world_of : Server → World
world_of s = record empty_world { server = s }

present_step : (s : Server) (chosen : List ℕ) (i : Input) → IsSound s → IsSound (step s chosen i).state → AreSafe s.files →
    AllPresent s.files → AllPresent (step s chosen i).state.files
present_step s chosen i sound behind safe before g among = by_file (file_at s.files g.kept.number) refl
  where
    found : file_at (step s chosen i).state.files g.kept.number ≡ Some g
    found = at_place (step s chosen i).state.files g behind.distinct among

    by_file : (o : Option File) → file_at s.files g.kept.number ≡ o → ReadsPresent g
    by_file (Some f) there =
        let number : f.kept.number ≡ g.kept.number = number_at s.files g.kept.number f there in
        let inside : In f s.files = in_at s.files g.kept.number f there in
        present_behind s.next_nonce i f g (before f inside)
        (elim (turned_step (new_file_state (layout_of f.kept.map 0)) (world_of s) f i chosen
        (ap (file_at s.files) number ∙ there) sound.distinct (are_aimed s sound) (safe_file s.files f safe inside) g
        (ap (file_at (step s chosen i).state.files) number ∙ found)) [
          | inl anew ↦ inl anew
          | inr goes ↦ inr goes.0
        ])
    by_file None none =
        elim (files_go s chosen i (λ f h. Unit {0}) (λ h. BeginsAnew 0 h) (made_ways s chosen i) sound.distinct g.kept.number g
        found) [
          | inl x ↦ absurd (cc (sym none ∙ x.there))
          | inr new ↦ λ j runs reads. (new j runs reads).present
        ]

-- ---- a run

record IsPresentRun (s : Server) : Type 0 where
  sound : IsSound s
  safe : AreSafe s.files
  present : AllPresent s.files

present_run : EachStepIsSafe → (s : Server) (acts : List Act) → AreNamedActs acts → IsPresentRun s →
    IsPresentRun (state_after s acts)
present_run each s [] named k = k
present_run each s (a ∷ acts) named k =
    let next : IsSound (step s a.chosen a.input).state = each_step_is_sound s a.chosen a.input k.sound named.0 in
    present_run each (step s a.chosen a.input).state acts named.1 (record {
      sound = next;
      safe = each s a.chosen a.input k.safe;
      present = present_step s a.chosen a.input k.sound next k.safe k.present;
    })

run_at : EachStepIsSafe → (w : World) → IsSentByRun w → IsPresentRun w.server
run_at each w run =
    subst IsPresentRun (sym run.server)
    (present_run each (new_server []) run.acts run.named (record {
      sound = record { distinct = tt; components = tt; aimed = tt; files = tt; drives = tt };
      safe = tt;
      present = λ f i. absurd i;
    }))

-- So it is of the world's server; and its files are sound and safe.
pub reads_are_present : EachStepIsSafe → (w : World) → IsSentByRun w → (f : File) → In f w.server.files → ReadsPresent f
reads_are_present each w run = (run_at each w run).present

pub sound_server : EachStepIsSafe → (w : World) → IsSentByRun w → IsSound w.server
sound_server each w run = (run_at each w run).sound

pub safe_server : EachStepIsSafe → (w : World) → IsSentByRun w → AreSafe w.server.files
safe_server each w run = (run_at each w run).safe
