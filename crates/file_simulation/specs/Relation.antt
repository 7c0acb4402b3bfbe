-- The relation between the machine of a file and the world, at a moment between two moves.
use Rattle.std.specs.Prelude.{◌≡◌, ℕ, ◌<◌, Some}
use Rattle.scenario_text.specs.declared.names.TheConstants.{CLIENTS}
use Rattle.server_rules.specs.Files.{file_at}
use Rattle.server_rules.specs.Slots.{slot_of}
use Rattle.client_rules.specs.Calls.{file_of}
use Rattle.world_history.specs.ServerNames.{File}
use Rattle.world_history.specs.ClientNames.{Call}
use Rattle.world_history.specs.State.{World}
pub use Rattle.exchange_law.specs.InStep.{client_of}
use Rattle.fence_law.specs.State as machine
use Rattle.fence_law.specs.State.Call.{Reads as AtRead}
use Rattle.plan_law.specs.FileLayout.{layout_of}
use Rattle.file_simulation.specs.Components.{AreComponents}
use Rattle.file_simulation.specs.Phases.{IsKept, AreBelowHigh}
use Rattle.file_simulation.specs.Requests.{kept_for, RequestsAgree}
use Rattle.file_simulation.specs.Calls.{IsClient}
use Rattle.file_simulation.specs.Messages.{AreSent, ShownIn, ToldIn}
use Rattle.file_simulation.specs.Jobs.{AreJobs}

-- what the machine has of a client: its slot, its call, what its reads were shown, and the replies to its WRITEs
pub record IsClientOf (s : machine.State) (w : World) (f : File) (c : ℕ) : Type 0 where
  pub slot : RequestsAgree f.kept.number f.kept.map s w.server c (client_of w c)
  pub client : IsClient f.kept.number f.kept.map s c (client_of w c)
      (kept_for (slot_of w.server.slots c) (client_of w c).outstanding)
  pub shown : (call : Call) (j : ℕ) → (client_of w c).call ≡ Some call → file_of call.op ≡ f.kept.number →
      s.call c ≡ AtRead j → ShownIn s w c j call.phase
  pub told : (call : Call) → (client_of w c).call ≡ Some call → file_of call.op ≡ f.kept.number → ToldIn s w c call.phase

-- what the machine has of the file: its layout, components, phase and grants, its clients, what was sent, and its jobs
pub record IsRelated (s : machine.State) (w : World) (f : File) : Type 0 where
  pub layout : s.layout ≡ layout_of f.kept.map f.kept.first_tag
  pub components : AreComponents s w f
  pub kept : IsKept s w.server f
  pub low : AreBelowHigh s f
  pub clients : (c : ℕ) → c < CLIENTS → IsClientOf s w f c
  pub sent : AreSent s w f
  pub jobs : AreJobs s w f

-- The machine is related to the file of this number, which the world has.
pub record Relates (s : machine.State) (w : World) (file : ℕ) : Type 0 where
  pub kept_file : File
  pub there : file_at w.server.files file ≡ Some kept_file
  pub related : IsRelated s w kept_file
