-- Any step of the server, with the drives of the CREATEs that it sends, and with any drives of a placer.
use Rattle.std.specs.List.{list_any}
use Rattle.std.proofs.Common.{◌≡◌, ◌==◌, ℕ, ◌<◌, ◌∷◌, [], List, Bool, true, false, Some, ◌||◌, ◌⊎◌, inl, nat_eq, nat_lt, map, refl, sym, ap, ◌∙◌, arith, if◌then◌else◌}
use Rattle.std.proofs.lemmas.Bool.Decides.{nat_tests}
use Rattle.world_history.specs.Moves.{knows_drive}
use Rattle.osd_capability.specs.Layout.{is_format}
use Rattle.scenario_text.specs.declared.names.TheConstants.{DRIVES}
use Rattle.world_history.specs.ServerNames.{Server, File, Drive, Effects, Revoking}
use Rattle.server_rules.specs.declared.limits.TheConstants.{GREATEST_TAG}
use Rattle.server_rules.specs.Files.{Step, still, begins, file_at}
use Rattle.server_rules.specs.Going.{Going}
use Rattle.server_rules.specs.Jobs.{fence_begins}
use Rattle.server_rules.specs.Making.{add_drive}
use Rattle.server_rules.specs.Messages.{counters_have_room}
use Rattle.server_rules.specs.Openings.{crashed_file, is_unsettled, opens_made, opens_spent, opens_fenced, opens, opens_each, reopen}
use Rattle.server_rules.specs.Rounds.{step_round}
use Rattle.server_rules.specs.Zoning.{zone_or, put_in_zone}
use Rattle.server_rules.proofs.Zoned.{any_zoned}
use Rattle.server_rules.specs.History.{Input, Hears, Makes, Obeys, Adds, Zones, Formats, Resends, Crashes, Opens, step}
use Rattle.history_law.specs.Placed.{AreNamed, HaveFormats, IsReadable, PlacedIsChosen, PlacerLeavesKept, PlacerLeavesRepairs}
use Rattle.history_law.proofs.Placing.{Fit, greater_format}
use Rattle.history_law.proofs.BookGoing.{fence_placed}
use Rattle.history_law.proofs.Stepping.{kept_of, IsPlaced, placed_always, placed_either}
use Rattle.history_law.proofs.HistorySteps.{order_placed, message_placed}
use Rattle.history_law.proofs.Made.{making_format, file_placed}

pub placed_is_chosen : PlacedIsChosen
placed_is_chosen s chosen (Hears now from m) n r = (message_placed s now chosen from m r).same n
placed_is_chosen s chosen (Makes f m tag zoned) n r = (file_placed s f m tag zoned r chosen).same n
placed_is_chosen s chosen (Obeys kind target) n r = (order_placed s chosen kind target r).same n
placed_is_chosen s chosen (Adds d) n r = refl
placed_is_chosen s chosen (Zones d zone) n r = refl
placed_is_chosen s chosen (Formats format) n r = refl
placed_is_chosen s chosen Resends n r = refl
placed_is_chosen s chosen Crashes n r = refl
placed_is_chosen s chosen Opens n r = refl

-- ---- what each input keeps of the files that were there

same_kept : (s : Server) (chosen placed : List ℕ) (i : Input) (n : ℕ) (f : File) → IsReadable s
    → file_at s.files n ≡ Some f
    → kept_of (file_at (step s placed i).state.files n) ≡ kept_of (file_at (step s chosen i).state.files n)
same_kept s chosen placed (Hears now from m) n f r at = (message_placed s now chosen from m r).keeps placed n f at
same_kept s chosen placed (Makes file m tag zoned) n f r at =
    (file_placed s file m tag zoned r chosen).keeps placed n f at
same_kept s chosen placed (Obeys kind target) n f r at = (order_placed s chosen kind target r).keeps placed n f at
same_kept s chosen placed (Adds d) n f r at = refl
same_kept s chosen placed (Zones d zone) n f r at = refl
same_kept s chosen placed (Formats format) n f r at = refl
same_kept s chosen placed Resends n f r at = refl
same_kept s chosen placed Crashes n f r at = refl
same_kept s chosen placed Opens n f r at = refl

pub placer_leaves_kept : PlacerLeavesKept
placer_leaves_kept s chosen placed i n f g x r at is other =
    cc (sym (ap kept_of other) ∙ same_kept s chosen placed i n f r at ∙ ap kept_of is)

-- ---- what each input leaves can be told and read

pub added_named : (ds : List Drive) (d : Drive) → AreNamed ds → d.number < DRIVES → AreNamed (add_drive ds d)
unfolding add_drive
added_named [] d a h = (h, tt)
added_named (e ∷ ds) d a h = either (nat_lt e.number d.number) (added_named ds d a.1 h)
  where
    either : (b : Bool) → AreNamed (add_drive ds d) → AreNamed (if b then e ∷ add_drive ds d else d ∷ e ∷ ds)
    either true rest = (a.0, rest)
    either false rest = (h, a)

pub zoned_named : (ds : List Drive) (n z : ℕ) → AreNamed ds → AreNamed (put_in_zone ds n z)
unfolding put_in_zone
zoned_named [] n z a = tt
zoned_named (d ∷ ds) n z a = (either (d.number == n), zoned_named ds n z a.1)
  where
    either : (b : Bool) → (if b then record d { zone = zone_or z d.zone } else d).number < DRIVES
    either true = a.0
    either false = a.0

-- a drive that comes can be named, and a format is one of the two
abbrev pub IsFit : Input → Type 0
IsFit (Adds d) = d.number < DRIVES
IsFit (Formats format) = is_format format ≡ true
IsFit i = Unit {0}

-- a crash keeps the formats, and a file that is opened takes no other than the server's
formats_crashed : (fs : List File) → HaveFormats fs → HaveFormats (map crashed_file fs)
formats_crashed [] h = tt
formats_crashed (f ∷ fs) h = (h.0, formats_crashed fs h.1)

opens_format : (format : ℕ) (g : Going) → is_format format ≡ true → Fit g
    → is_format (opens format g).file.kept.format ≡ true
unfolding opens opens_fenced
opens_format format g known h = either (is_unsettled g.file.kept) (g.file.kept.tag == GREATEST_TAG)
  where
    made : (ready : Bool) → is_format (opens_made g ready).file.kept.format ≡ true
    made true = h.format
    made false = ap (λ (n : ℕ). is_format n) (making_format g) ∙ h.format

    either : (b spent : Bool)
        → is_format (if b then (if spent then opens_spent g else fence_begins Revoking format g)
        else opens_made g g.file.kept.ready).file.kept.format ≡ true
    either true true = h.format
    either true false = (fence_placed Revoking format g known h).format
    either false spent = made g.file.kept.ready

formats_opened : (format : ℕ) (ds : List Drive) (fs : List File) (m : Effects) → is_format format ≡ true → AreNamed ds
    → HaveFormats fs → HaveFormats (opens_each format ds fs m).files
unfolding opens_each
formats_opened format ds [] m known named h = tt
formats_opened format ds (f ∷ fs) m known named h =
    let g : Going = record { file = f; effects = m; drives = ds; chosen = [] } in (
      opens_format format g known (record { format = h.0; drives = named }),
      formats_opened format ds fs (opens format g).effects known named h.1,
    )

opened_placed : (s : Server) → IsReadable s → IsPlaced s (reopen s) (λ x. reopen s)
unfolding reopen
opened_placed s r =
    let t : Step = step_round s (opens_each s.format s.drives s.files (begins s)) in
    placed_either (counters_have_room s) s t (still s) (λ x. t) (λ x. still s)
    (placed_always s t (record {
      drives = r.drives;
      format = r.format;
      files = formats_opened s.format s.drives s.files (begins s) r.format r.drives r.files;
    }) (λ d. refl))
    (placed_always s (still s) r (λ d. refl))

pub stays_readable : (s : Server) (chosen : List ℕ) (i : Input) → IsReadable s → IsFit i
    → IsReadable (step s chosen i).state
stays_readable s chosen (Hears now from m) r h = (message_placed s now chosen from m r).readable
stays_readable s chosen (Makes f m tag zoned) r h = (file_placed s f m tag zoned r chosen).readable
stays_readable s chosen (Obeys kind target) r h = (order_placed s chosen kind target r).readable
stays_readable s chosen (Adds d) r h =
    record { drives = added_named s.drives d r.drives h; format = r.format; files = r.files }
stays_readable s chosen (Zones d zone) r h =
    record { drives = zoned_named s.drives d zone r.drives; format = r.format; files = r.files }
stays_readable s chosen (Formats format) r h =
    record { drives = r.drives; format = greater_format s.format format r.format h; files = r.files }
stays_readable s chosen Resends r h = r
stays_readable s chosen Crashes r h =
    record { drives = r.drives; format = r.format; files = formats_crashed s.files r.files }
stays_readable s chosen Opens r h = (opened_placed s r).readable

-- ---- the drives that it knows

-- the input tells it of that drive
abbrev pub Tells : Input → (drive : ℕ) → Type 0
Tells (Adds x) d = x.number ≡ d
Tells i d = ⊥

added_known : (ds : List Drive) (x : Drive) (d : ℕ)
    → list_any (λ (y : Drive). nat_eq y.number d) (add_drive ds x) ≡ true
    → (list_any (λ (y : Drive). nat_eq y.number d) ds ≡ true) ⊎ (x.number ≡ d)
unfolding add_drive
added_known [] x d e = grind (arith, e, nat_tests)
added_known (y ∷ ds) x d e = either (nat_lt y.number x.number) e (added_known ds x d)
  where
    either : (b : Bool)
        → list_any (λ (z : Drive). nat_eq z.number d) (if b then y ∷ add_drive ds x else x ∷ y ∷ ds) ≡ true
        → (list_any (λ (z : Drive). nat_eq z.number d) (add_drive ds x) ≡ true
        → (list_any (λ (z : Drive). nat_eq z.number d) ds ≡ true) ⊎ (x.number ≡ d))
        → ((nat_eq y.number d || list_any (λ (z : Drive). nat_eq z.number d) ds) ≡ true) ⊎ (x.number ≡ d)
    either true k rest = grind (arith, k, rest, nat_tests)
    either false k rest = grind (arith, k, nat_tests)

pub knows_behind : (s : Server) (chosen : List ℕ) (i : Input) (d : ℕ) → IsReadable s → IsFit i
    → knows_drive (step s chosen i).state d ≡ true → (knows_drive s d ≡ true) ⊎ Tells i d
knows_behind s chosen (Hears now from m) d r h e = inl (sym ((message_placed s now chosen from m r).knows d) ∙ e)
knows_behind s chosen (Makes f m tag zoned) d r h e = inl (sym ((file_placed s f m tag zoned r chosen).knows d) ∙ e)
knows_behind s chosen (Obeys kind target) d r h e = inl (sym ((order_placed s chosen kind target r).knows d) ∙ e)
knows_behind s chosen (Adds x) d r h e = added_known s.drives x d e
knows_behind s chosen (Zones n zone) d r h e =
    inl (sym (any_zoned (λ (x : Drive). nat_eq x.number d) (λ x z. refl) s.drives n zone) ∙ e)
knows_behind s chosen (Formats format) d r h e = inl e
knows_behind s chosen Resends d r h e = inl e
knows_behind s chosen Crashes d r h e = inl e
knows_behind s chosen Opens d r h e = inl (sym ((opened_placed s r).knows d) ∙ e)

-- ---- what repairs it ends

pub placer_leaves_repairs : PlacerLeavesRepairs
placer_leaves_repairs s chosen placed (Hears now from m) r = (message_placed s now chosen from m r).mends placed
placer_leaves_repairs s chosen placed (Makes file m tag zoned) r = (file_placed s file m tag zoned r chosen).mends placed
placer_leaves_repairs s chosen placed (Obeys kind target) r = (order_placed s chosen kind target r).mends placed
placer_leaves_repairs s chosen placed (Adds d) r = refl
placer_leaves_repairs s chosen placed (Zones d zone) r = refl
placer_leaves_repairs s chosen placed (Formats format) r = refl
placer_leaves_repairs s chosen placed Resends r = refl
placer_leaves_repairs s chosen placed Crashes r = refl
placer_leaves_repairs s chosen placed Opens r = refl
