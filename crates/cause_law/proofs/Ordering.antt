-- What each step of the server makes of the live grants of each file, and which orders begin a fence.
use Rattle.std.proofs.Common.{◌≡◌, ◌==◌, ℕ, Bool, true, false, true≢false, List, [], find, is_some, Option, Some, None, refl, sym, ap, subst, ◌∙◌, inl, inr}
use Rattle.std.proofs.lemmas.Bool.{cases_Bool, cases_eq, eq-eqb, eqb-true, ne_eqb}
use Rattle.osd_lists.specs.declared.node.Node.TheVariants.{Server as FromServer, Drive as FromDrive, Client as FromClient}
use Rattle.server_rules.specs.declared.limits.TheConstants.{GREATEST_TAG}
use Rattle.server_rules.specs.Files.{file_at, put_file, at_file, begins}
use Rattle.server_rules.specs.History.{Input, Hears, Makes, Obeys, Adds, Zones, Formats, Resends, Crashes, Opens}
use Rattle.server_rules.specs.Jobs.{fence_begins}
use Rattle.server_rules.specs.Laws.{FilesArePut, AreSafe}
use Rattle.server_rules.specs.Messages.{Asks, Replies, Orders, counters_have_room, on_message}
use Rattle.server_rules.specs.Openings.{opens_each, reopen}
use Rattle.server_rules.specs.Orders.{begins_job, starts, recalls_on, declares_known, ordered, offline, declare}
use Rattle.server_rules.proofs.FileLaws.{number_at, put_other}
use Rattle.server_rules.proofs.Runs.{ran_declares}
use Rattle.world_history.specs.ServerNames.{Server, File, Drive, Job, JobKind, Revoking, Rebuilding, Auditing, Order, OrderKind, ToRecall, ToRevoke, ToDeclare, ToRebuild, ToAudit}
use Rattle.history_law.specs.Steps.{IsOrder, Here, Sent}
use Rattle.history_law.proofs.Files.{declared_each, opened_each, safe_in}
use Rattle.component_law.specs.Sound.{IsSound}
use Rattle.component_law.specs.Tags.{EachStepRaisesTags}
use Rattle.cause_law.specs.Changes as changes
use Rattle.cause_law.specs.Changes.{IsFencing, TakesOrder, BeginsFence, ByOrder, ByOpening, Changes}
use Rattle.cause_law.proofs.Changing.{is_plain, same_order, no_opening, same, number, Goes, GoesSame, Was, goes_fenced, spent, goes_opened, each_was, later, goes_as, all_change, all_stay}

-- ---- an order

module _ (put : FilesArePut) (s : Server) (chosen : List ℕ) (i : Input) (safe : AreSafe s.files) (sound : IsSound s)
    (takes : TakesOrder s i) where
  -- no order to begin a fence
  other_kind : (kind : OrderKind) (n : ℕ) → IsOrder i kind n → (IsFencing kind → ⊥) → (f : File) → BeginsFence s i f → ⊥
  other_kind kind n order other f (ByOrder k fencing it t free low) =
      other (subst IsFencing (same_order i k kind f.kept.number n it order).0 fencing)
  other_kind kind n order other f (ByOpening is room unsettled low) = no_opening i kind n order is

  -- nor on this file
  other_file : (kind : OrderKind) (n : ℕ) → IsOrder i kind n → (f : File) → (f.kept.number ≡ n → ⊥) → BeginsFence s i f → ⊥
  other_file kind n order f other (ByOrder k fencing it t free low) = other (same_order i k kind f.kept.number n it order).1
  other_file kind n order f other (ByOpening is room unsettled low) = no_opening i kind n order is

  busy : (f : File) (kind : OrderKind) (n : ℕ) (j : Job) → IsOrder i kind n → f.job ≡ Some j → BeginsFence s i f → ⊥
  busy f kind n j order runs (ByOrder k fencing it t free low) = absurd (cc (sym free ∙ runs))
  busy f kind n j order runs (ByOpening is room unsettled low) = no_opening i kind n order is

  abbrev Change : ℕ → List File → Type 0
  Change m fs = Changes s i m (file_at s.files m) (file_at fs m)

  -- the file of the order goes on, and every other stays
  one_goes : (kind : OrderKind) (n : ℕ) → IsOrder i kind n → (f g : File) → file_at s.files n ≡ Some f → Goes s i f g
      → (m : ℕ) → Change m (put_file s.files f.kept.number g)
  one_goes kind n order f g found goes m =
      let here : f.kept.number ≡ n = number_at s.files n f found in
      let its : g.kept.number ≡ f.kept.number = number s i f g goes in
      elim (cases_eq f.kept.number m) [
        | inl it ↦
            let before : file_at s.files m ≡ Some f = ap (file_at s.files) (sym it ∙ here) ∙ found in
            let behind : file_at (put_file s.files f.kept.number g) m ≡ Some g =
            ap (file_at (put_file s.files f.kept.number g)) (sym it)
            ∙ (put s.files f.kept.number g f its (ap (file_at s.files) here ∙ found)).0 in
            rw (before, behind) (goes_as s i sound m f g it goes)
        | inr other ↦
            let same_file : file_at (put_file s.files f.kept.number g) m ≡ file_at s.files m =
            put_other s.files f.kept.number g its m (ne_eqb f.kept.number m other) in
            rw same_file (by_other m (λ (x : File) d e. other (here ∙ sym e ∙ number_at s.files m x d)))
      ]
    where
      by_other : (m : ℕ) → ((x : File) → file_at s.files m ≡ Some x → x.kept.number ≡ n → ⊥)
          → Changes s i m (file_at s.files m) (file_at s.files m)
      by_other m other = by (file_at s.files m) refl
        where
          by : (o : Option File) → file_at s.files m ≡ o → Changes s i m o o
          by None e = changes.Absent
          by (Some x) e = changes.Stays x x (other_file kind n order x (other x e)) refl refl

  by_job : (kind : OrderKind) (n : ℕ) → IsOrder i kind n → IsFencing kind → (jobs : JobKind) (f : File)
      → file_at s.files n ≡ Some f → (j : Option Job) → f.job ≡ j → (m : ℕ)
      → Change m (begins_job s chosen jobs f j).step.state.files
  by_job kind n order fencing jobs f found (Some j) runs m =
      one_goes kind n order f f found (same s i f (busy f kind n j order runs)) m
  by_job kind n order fencing jobs f found None free m = elim (cases_Bool (f.kept.tag == GREATEST_TAG)) [
    | inl t ↦
        rw t (one_goes kind n order f f found (same s i f (spent s i f (eqb-true f.kept.tag GREATEST_TAG t))) m)
    | inr z ↦
        rw z (one_goes kind n order f (fence_begins jobs s.format (at_file s chosen f)).file found
        (goes_fenced s i jobs s.format (at_file s chosen f)
        (ByOrder kind fencing (subst (IsOrder i kind) (sym (number_at s.files n f found)) order) takes free
        (λ e. true≢false (sym (eq-eqb f.kept.tag GREATEST_TAG e) ∙ z)))) m)
  ]

  -- where there is no file of the order's number, no file is the order's
  by_start : (kind : OrderKind) (n : ℕ) → IsOrder i kind n → IsFencing kind → (jobs : JobKind) (o : Option File)
      → file_at s.files n ≡ o → (m : ℕ) → Change m (starts s chosen jobs o).step.state.files
  by_start kind n order fencing jobs None none m = by (file_at s.files m) refl
    where
      by : (o : Option File) → file_at s.files m ≡ o → Changes s i m o o
      by None e = changes.Absent
      by (Some x) e =
          changes.Stays x x
          (other_file kind n order x (λ here. absurd (cc (sym none ∙ ap (file_at s.files)
          (sym here ∙ number_at s.files m x e) ∙ e)))) refl refl
  by_start kind n order fencing jobs (Some f) found m = by_job kind n order fencing jobs f found f.job refl m

  by_recall : (n : ℕ) → IsOrder i ToRecall n → (o : Option File) (m : ℕ) → Change m (recalls_on s o).step.state.files
  by_recall n order None m = all_stay s i sound (other_kind ToRecall n order (λ x. x)) m
  by_recall n order (Some f) m = all_stay s i sound (other_kind ToRecall n order (λ x. x)) m

  by_known : (n : ℕ) → IsOrder i ToDeclare n
      → ((k : ℕ) (f : File) → file_at s.files k ≡ Some f
      → (g : File) × (file_at (ordered s chosen ToDeclare n).step.state.files k ≡ Some g)) → (b : Bool)
      → is_some (find (λ (d : Drive). d.number == n) s.drives) ≡ b → (m : ℕ)
      → Change m (declares_known s chosen n b).step.state.files
  unfolding ordered declare
  by_known n order stays true known m =
      all_change s i sound (declare s chosen n).state.files
      (declared_each (Was s i) n (offline s.drives n) s.files (begins s) chosen (λ f there e placed.
      let r = ran_declares (record { file = f; effects = e; drives = offline s.drives n; chosen = placed }) n
      (safe_in s.files safe f there).rests in
      inl (f, there, GoesSame r.number (other_kind ToDeclare n order (λ x. x) f) r.grants r.size)))
      (λ k f found.
      subst (λ (b : Bool). (g : File) × (file_at (declares_known s chosen n b).step.state.files k ≡ Some g)) known
      (stays k f found)) m
  by_known n order stays false known m = all_stay s i sound (other_kind ToDeclare n order (λ x. x)) m

  by_order : (kind : OrderKind) (n : ℕ) → IsOrder i kind n
      → ((k : ℕ) (f : File) → file_at s.files k ≡ Some f
      → (g : File) × (file_at (ordered s chosen kind n).step.state.files k ≡ Some g))
      → (m : ℕ) → Change m (ordered s chosen kind n).step.state.files
  unfolding ordered
  by_order ToRecall n order stays m = by_recall n order (file_at s.files n) m
  by_order ToRevoke n order stays m = by_start ToRevoke n order tt Revoking (file_at s.files n) refl m
  by_order ToDeclare n order stays m =
      by_known n order stays (is_some (find (λ (d : Drive). d.number == n) s.drives)) refl m
  by_order ToRebuild n order stays m = by_start ToRebuild n order tt Rebuilding (file_at s.files n) refl m
  by_order ToAudit n order stays m = by_start ToAudit n order tt Auditing (file_at s.files n) refl m

-- ---- any step

module _ (put : FilesArePut) (raise : EachStepRaisesTags) (s : Server) (chosen : List ℕ) (safe : AreSafe s.files)
    (sound : IsSound s) where
  none_goes : (i : Input) (n : ℕ) (f : File) → file_at s.files n ≡ Some f
      → (g : File) × (file_at (later s chosen i) n ≡ Some g)
  none_goes i n f e = let it = raise s chosen i sound n f e in (it.behind, it.there)

  plainly : (i : Input) → is_plain i ≡ true → (n : ℕ) → Changes s i n (file_at s.files n) (file_at (later s chosen i) n)
  plainly i p n =
      all_change s i sound (later s chosen i) (each_was s chosen i safe p) (none_goes i) n

  -- an order that isn't taken, or an opening that doesn't come about
  untaken : (now : ℕ) (o : Order) (f : File) → counters_have_room s ≡ false
      → BeginsFence s (Hears now FromServer (Orders o)) f → ⊥
  untaken now o f full (ByOrder kind fencing order takes free low) = true≢false (sym takes ∙ full)
  untaken now o f full (ByOpening is room unsettled low) = true≢false (sym room ∙ full)

  unopened : (f : File) → counters_have_room s ≡ false → BeginsFence s Opens f → ⊥
  unopened f full (ByOrder kind fencing order takes free low) = true≢false (sym takes ∙ full)
  unopened f full (ByOpening is room unsettled low) = true≢false (sym room ∙ full)

  heard_by : (now : ℕ) (o : Order) (n : ℕ) (b : Bool) → counters_have_room s ≡ b
      → ((k : ℕ) (f : File) → file_at s.files k ≡ Some f
      → (g : File) × (file_at (later s chosen (Hears now FromServer (Orders o))) k ≡ Some g))
      → Changes s (Hears now FromServer (Orders o)) n (file_at s.files n)
      (file_at (later s chosen (Hears now FromServer (Orders o))) n)
  unfolding on_message
  heard_by now o n true room stays =
      rw (room, later)
      (by_order put s chosen (Hears now FromServer (Orders o)) safe sound room o.order o.target (Sent now o refl refl refl)
      (rw (room, later) at stays) n)
  heard_by now o n false full stays =
      rw (full, later) (all_stay s (Hears now FromServer (Orders o)) sound (λ f b. untaken now o f full b) n)

  opened_by : (n : ℕ) (b : Bool) → counters_have_room s ≡ b
      → ((k : ℕ) (f : File) → file_at s.files k ≡ Some f → (g : File) × (file_at (later s chosen Opens) k ≡ Some g))
      → Changes s Opens n (file_at s.files n) (file_at (later s chosen Opens) n)
  unfolding reopen
  opened_by n true room stays =
      rw (room, later) (all_change s Opens sound (opens_each s.format s.drives s.files (begins s)).files
      (opened_each (Was s Opens) s.format s.drives s.files (begins s) (λ f there m.
      inl (
        f,
        there,
        goes_opened s Opens s.format (record { file = f; effects = m; drives = s.drives; chosen = [] })
            refl room,
      ))) (rw (room, later) at stays) n)
  opened_by n false full stays = rw (full, later) (all_stay s Opens sound (λ f b. unopened f full b) n)

  pub changes_so : (i : Input) (n : ℕ) → Changes s i n (file_at s.files n) (file_at (later s chosen i) n)
  changes_so (Obeys kind k) n =
      by_order put s chosen (Obeys kind k) safe sound tt kind k (Here refl) (none_goes (Obeys kind k)) n
  changes_so Opens n = opened_by n (counters_have_room s) refl (none_goes Opens)
  changes_so (Hears now FromServer (Orders o)) n =
      heard_by now o n (counters_have_room s) refl (none_goes (Hears now FromServer (Orders o)))
  changes_so (Hears now FromServer (Asks q)) n = plainly (Hears now FromServer (Asks q)) refl n
  changes_so (Hears now FromServer (Replies r)) n = plainly (Hears now FromServer (Replies r)) refl n
  changes_so (Hears now (FromDrive d) m) n = plainly (Hears now (FromDrive d) m) refl n
  changes_so (Hears now (FromClient c) m) n = plainly (Hears now (FromClient c) m) refl n
  changes_so (Makes k m tag zoned) n = plainly (Makes k m tag zoned) refl n
  changes_so (Adds d) n = plainly (Adds d) refl n
  changes_so (Zones d zone) n = plainly (Zones d zone) refl n
  changes_so (Formats k) n = plainly (Formats k) refl n
  changes_so Resends n = plainly Resends refl n
  changes_so Crashes n = plainly Crashes refl n
