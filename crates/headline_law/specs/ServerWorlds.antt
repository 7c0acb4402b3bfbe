-- What the events of the server's steps need of the world, at each moment of a history of a scenario's text.
use Rattle.std.specs.Prelude.{◌≡◌, ℕ, ◌<◌, true, List, Some}
use Rattle.layout_types.specs.declared.ioerrs.IoErr.{IoErr}
use Rattle.scenario_text.specs.declared.line.Line.{Line}
use Rattle.scenario_text.specs.declared.names.TheConstants.{CLIENTS}
use Rattle.server_rules.specs.Envelopes.{asked_in}
use Rattle.server_rules.specs.Grants.{grant_of}
use Rattle.server_rules.specs.Laws.{In}
use Rattle.server_rules.specs.Numbers.{among}
use Rattle.server_rules.specs.Return.{named}
use Rattle.client_rules.specs.Calls.{file_of}
use Rattle.world_history.specs.ServerNames.{File, Grant, Return as Returns}
use Rattle.world_history.specs.ClientNames.{CallOp, Request, TimedOut, Report, Waits}
use Rattle.world_history.specs.State.{World}
use Rattle.history_law.specs.Moments.{IsMoment}
use Rattle.file_simulation.specs.Claim.{IsOfScenario}
use Rattle.file_simulation.specs.Relation.{client_of}

-- A client reports what timed out in its call, under a grant that the server has: if each entry names a component of the file,
-- each component that timed out is named.
abbrev pub ReportsNameAll : World → Type 0
ReportsNameAll w =
    (f : File) (c : ℕ) (r : Request) (op : CallOp) (timed : List TimedOut) (report : List IoErr) (g : Grant) (ks : List ℕ) →
    In f w.server.files → c < CLIENTS → (client_of w c).outstanding ≡ Some r → r.file ≡ f.kept.number →
    (client_of w c).call ≡ Some (record { op = op; phase = Waits (Report timed) }) → file_of op ≡ f.kept.number →
    asked_in r.args ≡ Some (Returns report) → grant_of f.kept.grants c ≡ Some g → named report f.kept.components ≡ Some ks →
    (t : TimedOut) → In t timed → among t.ask.component ks ≡ true

abbrev pub EachReportNamesAll : Type 0
EachReportNamesAll = (w : World) (h : List Line) → IsMoment w h → IsOfScenario h → ReportsNameAll w
