-- How it is told that a file isn't made.
use Rattle.std.specs.Prelude.{ℕ, ◌≡◌, ◌≢◌}
use Rattle.scenario_text.specs.declared.line.Line.TheVariants as line
use Rattle.server_rules.specs.declared.server.Refusal.{Refusal}
use Rattle.layout_server.specs.declared.new_files.FileErr.{FileErr}
use Rattle.layout_server.specs.declared.new_files.FileErr.TheVariants.{Memory}
use Rattle.layout_server.specs.Creating.{cause_of}
use Rattle.world_history.specs.Told.{told_file_refusal}
use Rattle.world_network.specs.declared.acts.Act.{Act}
use Rattle.world_network.specs.Acts.{line_alone}

-- the cause isn't want of memory, and the refusal of that cause has its note
pub record IsRefusedAs (file : ℕ) (why : FileErr) (act : Act) : Type 0 where
  pub known : why ≢ Memory
  pub told : (r : Refusal) → why ≡ cause_of r → act ≡ line_alone (line.Note file (told_file_refusal r))
