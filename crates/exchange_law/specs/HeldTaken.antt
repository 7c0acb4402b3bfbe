-- What the server gives for a call, the client takes.
use Rattle.std.specs.Prelude.{◌≡◌, ◌≤◌, ℕ, false, true, List, length, slice_get, Some, Ok}
use Rattle.data_map.specs.Check.{IsChecked}
use Rattle.client_rules.specs.declared.limits.TheConstants.{MAX_DRIVE, MAX_FILE_COMPONENTS}
use Rattle.world_history.specs.ClientNames.{CallOp, Held}
use Rattle.client_rules.specs.Calls.{file_of, span_of}
use Rattle.client_rules.specs.Grants.{covers}
use Rattle.client_rules.specs.Requests.{get_args}
use Rattle.client_rules.specs.Layouts.{taken}
use Rattle.client_rules.specs.Steps.{is_bad_range}
use Rattle.world_history.specs.ServerNames.{Component, Drive, Grant, Kept, ClientRequest}
use Rattle.server_rules.specs.Envelopes.{asked_in}
use Rattle.server_rules.specs.Going.{Going}
use Rattle.server_rules.specs.Served.{Served}
use Rattle.server_rules.specs.Answers.{file_answer}
use Rattle.server_rules.specs.Requests.{serves}
use Rattle.history_law.specs.Granted.{NumbersFit}
use Rattle.exchange_law.specs.Held.{IsGiven}

-- the file has a component for each that its map has, and a map that clients take
pub record IsShaped (f : Kept) : Type 0 where
  pub map : IsChecked f.map
  pub few : f.map.comps ≤ MAX_FILE_COMPONENTS
  pub components : length f.components ≡ f.map.comps

-- each component stands on a drive that a client takes
abbrev pub OnDrives : Kept → Type 0
OnDrives f = (k : ℕ) (at : Component) → slice_get f.components k ≡ Some at → at.drive ≤ MAX_DRIVE

-- The request is the LAYOUTGET of this call.
pub record IsGetOf (op : CallOp) (q : ClientRequest) : Type 0 where
  pub file : q.file ≡ file_of op
  pub args : asked_in (get_args op) ≡ Some q.args

-- Where the server tells a grant for the LAYOUTGET of a call that passes no limit, the client takes from the answer
-- just that grant, and it covers the call.
abbrev pub GivenIsTaken : Type 0
GivenIsTaken =
    (go : Going) (next format now : ℕ) (q : ClientRequest) (op : CallOp) (g : Grant) (v : Served)
    → is_bad_range (span_of op) ≡ false → IsGetOf op q → go.file.kept.number ≡ q.file
    → v ≡ serves go next format now q.client q.args → v.told.grant ≡ Some g → IsShaped v.going.file.kept
    → OnDrives v.going.file.kept → (ds : List Drive) → NumbersFit ds v.going.file.kept g
    → (h : Held) × (taken (file_answer ds v.going.file.kept q v.told) op ≡ Ok h) × IsGiven ds v.going.file.kept g h
    × (covers h op ≡ true)
