-- Each step of the server leaves zoned files spread.
use Rattle.std.proofs.Common.{◌≡◌, ℕ, List, [], Bool, None, refl, sym, subst}
use Rattle.server_rules.specs.declared.server.Server.{Server}
use Rattle.server_rules.specs.declared.files.File.{File}
use Rattle.server_rules.specs.declared.server.Drive.{Drive}
use Rattle.data_map.specs.declared.check.RawMap.{RawMap}
use Rattle.server_rules.specs.declared.requests.ClientRequest.{ClientRequest}
use Rattle.server_rules.specs.Files.{Step, at_file, begins, put_file, add_file}
use Rattle.server_rules.specs.Going.{Going, noting}
use Rattle.server_rules.specs.History.{Input, step}
use Rattle.server_rules.specs.Jobs.{declares, fence_begins, making}
use Rattle.server_rules.specs.Laws.{In}
use Rattle.server_rules.specs.Making.{refusal, makes_file, with_file}
use Rattle.server_rules.specs.Openings.{opens, opens_each}
use Rattle.server_rules.specs.Orders.{offline, declare}
use Rattle.server_rules.specs.Replies.{hearing}
use Rattle.server_rules.specs.Requests.{serves, on_request}
use Rattle.server_rules.specs.Zoning.{in_zones}
use Rattle.history_law.specs.Steps.{new_file, answered_file}
use Rattle.history_law.proofs.Files.{Each, in_at, put_each, add_each, crashed_each, declared_each, opened_each}
use Rattle.history_law.proofs.Steps.{each_step, each_request}
use Rattle.component_law.specs.Apart.{AreDifferent, IsFresh}
use Rattle.component_law.proofs.Placing.{numbers, numbers_offline}
use Rattle.component_law.specs.Spread.{StaysSpread, AreSpread, AreApart, EachStepSpreads}
use Rattle.component_law.proofs.Zones.{same_equal, same_added, same_put, zones_offline}
use Rattle.component_law.proofs.Keeping.{stays_moved}
use Rattle.component_law.proofs.ZoneMaking.{stays_made}
use Rattle.component_law.proofs.Aiming.{Spread, spread_walked}
use Rattle.component_law.proofs.Walking.{Ends, ends_hears, ends_fence, ends_declares, ends_opens, ends_making, ends_serves}
use Rattle.component_law.specs.Objects.{target_of}

module _ (s : Server) (chosen : List ℕ) (i : Input) (apart : AreApart s) (fresh : IsFresh s i) (h : AreSpread s) where
  abbrev Stays : File → Type 0
  Stays f = StaysSpread (in_zones s.drives) f

  abbrev Leaves : Step → Type 0
  Leaves t = AreSpread t.state

  -- a file in the middle of a step
  abbrev Own : Going → Type 0
  Own g = Ends (Spread s.drives) (spread_walked s.drives) g

  begun : (f : File) → In f s.files → Own (at_file s chosen f)
  begun f there = (refl, apart, h f there)

  stays : (ds : List Drive) (g : Going) → Ends (Spread ds) (spread_walked ds) g → StaysSpread (in_zones ds) g.file
  stays ds g e = subst (λ (x : List Drive). StaysSpread (in_zones x) g.file) e.0 e.2

  put : (n : ℕ) (g : Going) → Own g → Each Stays (put_file s.files n g.file)
  put n g e = put_each Stays s.files n g.file h (stays s.drives g e)

  asked : (now : ℕ) (q : ClientRequest) → Leaves (on_request s now chosen q)
  asked now q = each_request s now chosen q Leaves (record {
    again = λ kept is. h;
    misordered = λ expected is. h;
    without = λ new none. h;
    served = λ new f found.
        put q.file (serves (at_file s chosen f) s.next_grant s.format now q.client q.args).going
        (ends_serves (Spread s.drives) (spread_walked s.drives) (at_file s chosen f) s.next_grant s.format now q.client q.args
        (begun f (in_at s.files q.file f found)));
  })

  -- the drives without one that is declared
  declared : (d : ℕ) → Leaves (declare s chosen d)
  unfolding declare
  declared d =
      let ds : List Drive = offline s.drives d in
      let numbered : AreDifferent (numbers ds) = subst AreDifferent (sym (numbers_offline s.drives d)) apart in
      declared_each (StaysSpread (in_zones ds)) d ds s.files (begins s) chosen
      (λ f there m placed.
      stays ds (declares (record { file = f; effects = m; drives = ds; chosen = placed }) d)
      (ends_declares (Spread ds) (spread_walked ds) (record { file = f; effects = m; drives = ds; chosen = placed }) d (
        refl,
        numbered,
        stays_moved (in_zones s.drives) (in_zones ds)
            (same_equal (in_zones s.drives) (in_zones ds) (zones_offline s.drives d)) f (h f there),
      )))

  made : (n : ℕ) (m : RawMap) (tag : ℕ) (zoned : Bool) → refusal s n m zoned ≡ None
      → Leaves (makes_file s (new_file s chosen n m tag zoned))
  made n m tag zoned none =
      let f : File = new_file s chosen n m tag zoned in
      let new : Stays f = stays_made s chosen n m tag zoned apart none in
      put_each Stays (add_file s.files f) n (making (at_file (with_file s f) [] f)).file (add_each Stays s.files f h new)
      (stays s.drives (making (at_file (with_file s f) [] f))
      (ends_making (Spread s.drives) (spread_walked s.drives) (at_file (with_file s f) [] f) (refl, apart, new)))

  opened : Each Stays (opens_each s.format s.drives s.files (begins s)).files
  opened =
      opened_each Stays s.format s.drives s.files (begins s)
      (λ f there m.
      stays s.drives (opens s.format (record { file = f; effects = m; drives = s.drives; chosen = [] }))
      (ends_opens (Spread s.drives) (spread_walked s.drives) s.format
      (record { file = f; effects = m; drives = s.drives; chosen = [] }) (refl, apart, h f there)))

  pub spread_step : Leaves (step s chosen i)
  spread_step = each_step s chosen i Leaves (record {
    rests = h;
    asked = λ now q is. asked now q;
    answered = λ x is.
        put (answered_file s chosen x).file.kept.number (answered_file s chosen x)
        (ends_hears (Spread s.drives) (spread_walked s.drives) (at_file s chosen x.file) x.job x.awaited x.reply
        (hearing x.file.kept x.awaited x.reply) is.runs (begun x.file is.there));
    recalled = λ f is. h;
    refused = λ f is n why.
        put f.kept.number (noting (at_file s chosen f) n) (begun f (in_at s.files is.target f is.found));
    fenced = λ f is kind none low.
        put f.kept.number (fence_begins kind s.format (at_file s chosen f))
        (ends_fence (Spread s.drives) (spread_walked s.drives) kind s.format (at_file s chosen f)
        ((spread_walked s.drives).ends s.drives s.next_object f.kept (target_of f.job)
        (begun f (in_at s.files is.target f is.found))));
    declared = λ d known. declared d;
    told = λ t now o is result l. l;
    made = λ n m tag zoned is none. made n m tag zoned none;
    added = λ d is f there. stays_moved _ _ (same_added s.drives d (subst (IsFresh s) is fresh)) f (h f there);
    zoned = λ d z is f there. stays_moved _ _ (same_put s.drives d z apart) f (h f there);
    formats = λ n is. h;
    resends = λ is. h;
    crashes = λ is. crashed_each Stays s.files (λ f there e. ((h f there e).0, tt));
    opened = λ is low. opened;
  })

pub each_step_spreads : EachStepSpreads
each_step_spreads s chosen i apart fresh h = spread_step s chosen i apart fresh h
