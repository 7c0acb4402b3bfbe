-- Each lawful history is safe.
use Rattle.std.proofs.Common.{◌≡◌, ◌==◌, if◌then◌else◌, Bool, true, false, ℕ, ◌∷◌, [], List, Option, Some, None, subst}
use Rattle.std.specs.List.{fold}
use Rattle.server_rules.specs.declared.files.File.{File}
use Rattle.server_rules.specs.declared.server.Server.{Server}
use Rattle.server_rules.specs.Files.{file_at}
use Rattle.server_rules.specs.History.{Input}
use Rattle.server_rules.specs.Laws.{Apart, NoneBeside, AreSafe, EachStepIsSafe}
use Rattle.server_rules.proofs.GrantLaws.{apart_none}
use Rattle.scenario_text.specs.declared.line.Line.{Line}
use Rattle.world_history.specs.Reading.{Step, steps_of}
use Rattle.world_history.specs.Book.{ServerSeen, input_at, placed_in, step_by, server_behind, sees_server, server_at_first, server_after, live_in}
use Rattle.history_law.specs.Safe.{AreGrantsApart, AreJobsAlone, HistoriesAreSafe}
use Rattle.history_law.specs.Drives.{DrivesAreRead}
use Rattle.history_law.proofs.Histories.{stands, lawful}
use Rattle.history_law.proofs.Each.{EachBehind, HoldsAt, judges_of, each_front, at_each_line}
use Rattle.history_law.proofs.Coming.{sources_hold}
use Rattle.history_law.proofs.Spending.{all_spend, old_tags}
use Rattle.history_law.proofs.DriveLines.{drive_read}
use Rattle.history_law.proofs.DriveEvents.{IsRead, kept}

pub drives_are_read : DrivesAreRead
drives_are_read w h s d = let r = stands IsRead kept w h s in drive_read w r.injected h d r.drives

-- ---- grants

-- the server that is read off lines goes by its rules
safe_behind : EachStepIsSafe → (s : Server) (placed : List ℕ) (i : Option Input) → AreSafe s.files
    → AreSafe (server_behind s (step_by s placed i)).files
safe_behind each s placed None safe = safe
safe_behind each s placed (Some i) safe = each s placed i safe

safe_server : EachStepIsSafe → (s : ServerSeen) (steps : List Step) → AreSafe s.server.files
    → AreSafe (fold sees_server s steps).server.files
safe_server each s [] safe = safe
safe_server each s (t ∷ steps) safe =
    safe_server each (sees_server s t) steps (safe_behind each s.server (placed_in t.rest) (input_at s t.head) safe)

file_apart : (fs : List File) (n : ℕ) → AreSafe fs → Apart (live_in (file_at fs n))
unfolding file_at
file_apart [] n safe = apart_none
file_apart (f ∷ fs) n safe = either (f.kept.number == n) (file_apart fs n safe.1)
  where
    either : (b : Bool) → Apart (live_in (file_at fs n)) → Apart (live_in (if b then Some f else file_at fs n))
    either true rest = safe.0.apart
    either false rest = rest

file_alone : (fs : List File) (n : ℕ) → AreSafe fs → (f : File) → file_at fs n ≡ Some f → NoneBeside f.job f.kept.grants
unfolding file_at
file_alone [] n safe f e = absurd (cc e)
file_alone (g ∷ fs) n safe f e = either (g.kept.number == n) (file_alone fs n safe.1 f) e
  where
    either : (b : Bool) → (file_at fs n ≡ Some f → NoneBeside f.job f.kept.grants)
        → (if b then Some g else file_at fs n) ≡ Some f → NoneBeside f.job f.kept.grants
    either true rest here =
        let same : g ≡ f = cc here in subst (λ (x : File). NoneBeside x.job x.kept.grants) same safe.0.alone
    either false rest there = rest there

grants_apart : EachStepIsSafe → (h : List Line) → AreGrantsApart h
grants_apart each h n =
    file_apart (server_after h).files n (safe_server each server_at_first (steps_of h) tt)

jobs_alone : EachStepIsSafe → (h : List Line) → AreJobsAlone h
jobs_alone each h n = file_alone (server_after h).files n (safe_server each server_at_first (steps_of h) tt)

-- ---- histories

pub histories_are_safe : EachStepIsSafe → HistoriesAreSafe
histories_are_safe law h l =
    let further = lawful IsRead kept h l in
    let each : EachBehind HoldsAt [] h = each_front HoldsAt [] h further.1 further.2.lines in
    record {
      grants = λ before after is. grants_apart law before;
      jobs = λ before after is. jobs_alone law before;
      commands = λ before l after is. judges_of before l (at_each_line HoldsAt h each before l after is);
      sources = sources_hold h each;
      spent = all_spend h each;
      tags = old_tags h each;
    }
