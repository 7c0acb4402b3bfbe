-- In every lawful history the components of zoned files are spread over zones.
use Rattle.std.proofs.Common.{◌≡◌, ℕ, true≢false, List, [], Option, Some, None, refl, sym, subst, ◌∙◌, inl, inr}
use Rattle.std.proofs.lemmas.Bool.{cases_eq}
use Rattle.scenario_text.specs.declared.event.Event.TheVariants as event
use Rattle.scenario_text.specs.declared.line.Line.{Line}
use Rattle.scenario_text.specs.declared.line.Line.TheVariants as line
use Rattle.zone_place.proofs.Spreading.{apart}
use Rattle.server_rules.specs.Files.{file_at}
use Rattle.server_rules.specs.Making.{new_server}
use Rattle.server_rules.specs.Zoning.{in_zones}
use Rattle.server_rules.specs.History.{Input, Adds, Zones, step}
use Rattle.server_rules.specs.Laws.{In}
use Rattle.world_history.specs.ServerNames.{Server, File}
use Rattle.world_history.specs.Book.{server_after}
use Rattle.history_law.proofs.Files.{in_at}
use Rattle.component_law.specs.Sound.{EachStepIsSound}
use Rattle.component_law.specs.Apart.{AreDifferent, EachStepIsApart}
use Rattle.component_law.proofs.Placing.{numbers}
use Rattle.component_law.specs.Spread.{AreSpread, EachStepSpreads}
use Rattle.component_law.specs.Zoned.{Stands, Gives, ZonesGoOn, EachStepZones}
use Rattle.component_law.specs.Failing.{OneZoneIsBorne}
use Rattle.component_law.proofs.Zones.{different_zones}
use Rattle.history_claims.specs.Spread.{StandSpread, ComponentsStandSpread}
use Rattle.component_law.proofs.OnDrives.{IsTold, stands_at}

-- each zone of a drive was given by one of these lines
abbrev pub AreGiven : List Line → Server → Type 0
AreGiven h s = (drive zone : ℕ) → Stands s drive zone → In (line.Event (event.Zone drive zone)) h

-- what is told of zones is a line
told_zone : (h : List Line) (i : Input) (drive zone : ℕ) → IsTold h i → Gives i drive zone
    → In (line.Event (event.Zone drive zone)) h
told_zone h (Zones d y) drive zone told g =
    subst (λ (x : ℕ). In (line.Event (event.Zone x zone)) h) (sym g.0)
    (subst (λ (x : ℕ). In (line.Event (event.Zone d x)) h) (sym g.1) told)
told_zone h (Adds d) drive zone told g = absurd (cc (sym told ∙ g.1))
told_zone h i drive zone told g = absurd g

given_then : (h : List Line) (s t : Server) (i : Input) → IsTold h i → ZonesGoOn s i t → AreGiven h s → AreGiven h t
given_then h s t i told on g drive zone stands = elim (on.came drive zone stands) [
  | inl was ↦ g drive zone was
  | inr new ↦ told_zone h i drive zone told new
]

none_given : (h : List Line) → AreGiven h (new_server [])
unfolding in_zones
none_given h drive zone e = absurd (cc e)

-- no drive is in two zones
one_zone : (s : Server) → AreDifferent (numbers s.drives) → (drive y z : ℕ) → Stands s drive y → Stands s drive z → y ≡ z
one_zone s different drive y z a b = elim (cases_eq y z) [
  | inl same ↦ same
  | inr other ↦
      absurd (true≢false (sym a ∙ apart (in_zones s.drives) drive z y (different_zones s.drives different) other b))
]

module _ (borne : OneZoneIsBorne) (sound : EachStepIsSound) (is_apart : EachStepIsApart) (spread : EachStepSpreads)
    (zones : EachStepZones) where
  of_file : (s : Server) (n : ℕ) (o : Option File) → file_at s.files n ≡ o → AreSpread s
      → StandSpread (in_zones s.drives) o
  of_file s n None found h = tt
  of_file s n (Some f) found h = λ zoned.
      let x = h f (in_at s.files n f found) zoned in
      record { spread = x.0; room = x.1; borne = λ zone lost l. borne (in_zones s.drives) f.kept zone lost x.0 l }

  -- what lasts
  abbrev SpreadAs : List Line → Server → Type 0
  SpreadAs h s = AreSpread s × AreGiven h s

  pub components_stand_spread : ComponentsStandSpread
  components_stand_spread h l named before after is =
      let s = stands_at sound is_apart SpreadAs
      (λ h s chosen i a fresh told p. (
        spread s chosen i a.drives fresh p.0,
        given_then h s (step s chosen i).state i told (zones s chosen i a.drives fresh) p.1,
      ))
      (λ h. (λ f i. absurd i, none_given h)) h l named before after is in
      record {
        given = s.2.1;
        alone = one_zone (server_after before) s.1.drives;
        files = λ file. of_file (server_after before) file (file_at (server_after before).files file) refl s.2.0;
      }
