-- What the steps of a ready call behind its last WRITE stand on.
use Rattle.component_law.specs.Objects.{EachObjectIsOwned}
use Rattle.component_law.specs.Sent.{ServerSentItsRun}
use Rattle.ready_law.proofs.AskingForms.{AskingLaws}
use Rattle.ready_law.proofs.AskingServed.{request_laws}
use Rattle.ready_law.proofs.ServingReports.{ReportLaws}

-- the laws of histories by which a call commits and reports
pub record ReportingLaws : Type 0 where
  pub asking : AskingLaws
  pub owned : EachObjectIsOwned
  pub sent : ServerSentItsRun

-- of these, those by which the server takes a report
abbrev pub report_laws : ReportingLaws → ReportLaws
report_laws laws = record { requests = request_laws laws.asking; owned = laws.owned; sent = laws.sent }
