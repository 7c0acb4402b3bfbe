-- What the changes of a call make of what was kept before it.
use Rattle.std.specs.Prelude.{[], ◌≡◌, ◌≢◌, false, true, Some}
use Rattle.server_rules.specs.declared.server.Server.{Server}
use Rattle.server_rules.specs.Openings.{crash}
use Rattle.layout_server.specs.declared.new_files.FileErr.{FileErr}
use Rattle.layout_server.specs.declared.new_files.FileErr.TheVariants.{Memory}
use Rattle.server_state.specs.declared.state.State.{State}
use Rattle.server_state.specs.States.{server_of, IsReady}
use Rattle.server_entries.specs.Applying.{applied_all}
use Rattle.kept_server.specs.Views.{Keeping}

-- the changes make what is kept now of what this server keeps
abbrev pub Follows : (before : Server) → (now : Keeping) → Type 0
Follows before now = applied_all before now.changes.entries ≡ Some (crash now.server)

-- the call's changes make what is kept now of what was kept before, unless the server is over
abbrev pub Keeps : (old new : Keeping) → Type 0
Keeps old new = new.is_over ≡ false → Follows (crash old.server) new

-- there are no changes if what is kept now is what this server keeps
abbrev pub SaysNoMore : (before : Server) → (now : Keeping) → Type 0
SaysNoMore before now = before ≡ crash now.server → now.changes.entries ≡ []

-- where nothing that is kept changed there are no changes
abbrev pub IsQuiet : (old new : Keeping) → Type 0
IsQuiet old new = new.is_over ≡ false → SaysNoMore (crash old.server) new

-- a server that is over stays so
abbrev pub StaysOver : (old new : Keeping) → Type 0
StaysOver old new = old.is_over ≡ true → new.is_over ≡ true

-- a refusal other than want of memory leaves the server going on
abbrev pub GoesOn : Keeping → FileErr → Type 0
GoesOn new e = e ≢ Memory → new.is_over ≡ false

-- want of memory ends the server
abbrev pub Ends : Keeping → FileErr → Type 0
Ends new e = e ≡ Memory → new.is_over ≡ true

-- the state without jobs stands for what the server keeps
pub record IsMirror (mirror : State) (server : Server) : Type 0 where
  pub ready : IsReady mirror
  pub same : server_of mirror ≡ crash server
