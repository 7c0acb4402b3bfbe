-- A step of the server that isn't a request: live grants stay so, or come to their fence; so does each file whose fence runs.
-- Towards `EachHeldBecame` (`headline_law/specs/FoundHeld.antt`).
use Rattle.std.proofs.Common.{◌≡◌, ◌==◌, ◌||◌, ℕ, Bool, true, false, nat_lt, List, [], ◌∷◌, length, find, is_some, Option, Some, None, refl, sym, ap, subst, ◌∙◌, inl, inr, suc, arith, if◌then◌else◌}
use Rattle.std.specs.Prelude.{not}
use Rattle.std.proofs.lemmas.Bool.{cases_eq, ne_eqb, or_parts}
use Rattle.std.proofs.lemmas.Bool.Decides.{nat_tests}
use Rattle.osd_commands.specs.declared.actions.Action.TheVariants.{SetTag}
use Rattle.server_rules.specs.declared.limits.TheConstants.{GREATEST_TAG}
use Rattle.server_rules.specs.Files.{Step, add_file, at_file, begins, file_at, put_file, still}
use Rattle.server_rules.specs.Going.{Going, with_components}
use Rattle.server_rules.specs.Grants.{grant_of}
use Rattle.osd_lists.specs.declared.node.Node.TheVariants.{Server as FromServer}
use Rattle.server_rules.specs.History.{Hears, Input, step}
use Rattle.server_rules.specs.Messages.{Orders}
use Rattle.server_rules.specs.Jobs.{declared_in, declares, fence_begins, making, targets}
use Rattle.server_rules.specs.Laws.{In}
use Rattle.server_rules.specs.Making.{refusal, set_format, with_file}
use Rattle.server_rules.specs.Openings.{crash, is_still, is_unsettled, opens, opens_fenced, opens_made}
use Rattle.server_rules.specs.Orders.{declare, offline}
use Rattle.server_rules.specs.Standing.{any_on, lose_on}
use Rattle.server_rules.specs.Requests.{on_request}
use Rattle.server_rules.proofs.FileLaws.{add_other, not_there, number_at, put_other}
use Rattle.server_rules.proofs.Runs.{ran_making}
use Rattle.world_history.specs.ServerNames.{Awaited, ClientRequest, Drive, Effects, File, Grant, Job, Kept, Order, OrderResult, RawMap, Server, Revoking, Fencing}
use Rattle.history_law.specs.Steps.{Answering, IsAnswering, IsAsked, StepCases, answered_file, new_file, with_added, with_answer, with_zoned}
use Rattle.history_law.proofs.Files.{Each, crashed_each, declared_each, in_at, opened_each, put_each}
use Rattle.history_law.proofs.Steps.{each_step}
use Rattle.component_law.specs.Listed.{IsOffline}
use Rattle.component_law.specs.Distinct.{AreDistinct}
use Rattle.component_law.proofs.Offline.{now_out}
use Rattle.component_law.proofs.PhaseSteps.{found_in}
use Rattle.relation_law.proofs.KeptServer.{at_place}
use Rattle.relation_law.proofs.Ways.{declares_number, hears_number, opens_number}
use Rattle.headline_law.proofs.CalmWays.{fence_number}
use Rattle.headline_law.proofs.FoundFences.{ComesTo, FitsFence, kept_on, declares_comes, hears_comes}
use Rattle.headline_law.proofs.FoundServed.{Goes, IsStillBeside, NoClient, fence_goes, goes_itself}

-- what is known of each file of the server
pub record AreFit (s : Server) : Type 0 where
  pub still : (f : File) → In f s.files → IsStillBeside f.kept
  pub fits : (f : File) → In f s.files → f.kept.phase ≡ Fencing → FitsFence f.job
  pub sets : (f : File) (j : Job) (a : Awaited) → In f s.files → f.kept.phase ≡ Fencing → f.job ≡ Some j → In a j.awaited →
      a.command.action ≡ SetTag
  -- while a job runs no grant is live
  pub alone : (f : File) (j : Job) → In f s.files → f.job ≡ Some j → f.kept.grants ≡ []

-- ---- a file

module _ (Off : ℕ → Type 0) (f : File) where
  abbrev pub Went : Kept → Type 0
  Went k = Goes Off f.kept NoClient k

  -- where it has no grants
  no_grants : (k : Kept) → f.kept.grants ≡ [] → (f.kept.phase ≡ Fencing → ComesTo Off f.kept k) → Went k
  no_grants k none comes = record {
    live = λ c g but e. absurd (cc (sym (ap (λ (gs : List Grant). grant_of gs c) none) ∙ e));
    fencing = comes;
  }

  either_went : (b : Bool) (x y : Going) → (b ≡ true → Went x.file.kept) → (b ≡ false → Went y.file.kept) →
      Went (if b then x else y).file.kept
  either_went true x y p q = p refl
  either_went false x y p q = q refl

  -- a drive is declared, while no job runs
  lost_went : (go : Going) → go.file ≡ f → (drive : ℕ) → f.job ≡ None → Off drive → Went (declares go drive).file.kept
  unfolding declares
  lost_went go is drive idle off =
      either_went (any_on drive go.file.kept.components || targets go.file.job drive)
      (declared_in (with_components go (lose_on drive go.file.kept.components)) drive go.file.job) go
      (λ e. subst (λ (o : Option Job).
      Went (declared_in (with_components go (lose_on drive go.file.kept.components)) drive o).file.kept)
      (sym (ap (λ (x : File). x.job) is ∙ idle)) (subst (λ (x : File). Went (record x.kept {
        components = lose_on drive x.kept.components;
      })) (sym is) (record {
        live = λ c g but has. inl (g, has, kept_on Off drive off f.kept.components, refl);
        fencing = λ phase. (kept_on Off drive off f.kept.components, λ ready. ready, inl (phase, refl));
      })))
      (λ e. subst (λ (x : File). Went x.kept) (sym is) (goes_itself Off f.kept NoClient))

  settled : is_unsettled f.kept ≡ false → f.kept.phase ≡ Fencing → ⊥
  settled none phase =
      absurd (cc (sym (ap (λ p. not (is_still p)) phase) ∙ (or_parts (nat_lt 0 (length f.kept.grants)) _ none).1))

  opened_made : (g : Going) (b : Bool) → g.file ≡ f → is_unsettled f.kept ≡ false → Went (opens_made g b).file.kept
  opened_made g true is none = subst (λ (x : File). Went x.kept) (sym is) (goes_itself Off f.kept NoClient)
  opened_made g false is none =
      no_grants _ (ungranted f.kept.grants none) (λ phase. absurd (settled none phase))
    where
      ungranted : (gs : List Grant) → (nat_lt 0 (length gs) || not (is_still f.kept.phase)) ≡ false → gs ≡ []
      ungranted [] e = refl
      ungranted (x ∷ gs) e = absurd (grind (arith, (or_parts (nat_lt 0 (suc (length gs))) _ e).0, nat_tests))

  opens_went : IsStillBeside f.kept → (format : ℕ) (g : Going) → g.file ≡ f → Went (opens format g).file.kept
  unfolding opens opens_fenced
  opens_went still format g is =
      either_went (is_unsettled g.file.kept) _ _
      (λ e. either_went (g.file.kept.tag == GREATEST_TAG) _ _
      (λ e. subst (λ (x : File). Went x.kept) (sym is) (goes_itself Off f.kept NoClient))
      (λ e. fence_goes Off f.kept still NoClient Revoking format g (ap (λ (x : File). x.kept) is)))
      (λ e. opened_made g g.file.kept.ready is (ap (λ (x : File). is_unsettled x.kept) (sym is) ∙ e))

-- ---- a step

-- all files go on so, and each slot is as it was; or a client's request comes
pub data Stepped (s : Server) (chosen : List ℕ) (i : Input) (t : Step) : Type 0 where
  Quiet : ((n : ℕ) (f g : File) → file_at s.files n ≡ Some f → file_at t.state.files n ≡ Some g →
      Went (IsOffline t.state.drives) f g.kept) → t.state.slots ≡ s.slots → Stepped s chosen i t
  Asked : (now : ℕ) (q : ClientRequest) → IsAsked s i now q → t ≡ on_request s now chosen q → Stepped s chosen i t

module _ (s : Server) (chosen : List ℕ) (i : Input) (k : AreFit s) (apart : AreDistinct s.files) where
  -- a file behind a step has gone on from one that was there
  abbrev From : List Drive → File → Type 0
  From ds g = (f : File) × In f s.files × (g.kept.number ≡ f.kept.number) × Went (IsOffline ds) f g.kept

  from_itself : (ds : List Drive) (f : File) → In f s.files → From ds f
  from_itself ds f there = (f, there, refl, goes_itself (IsOffline ds) f.kept NoClient)

  by_each : (t : Step) → Each (From t.state.drives) t.state.files → t.state.slots ≡ s.slots → Stepped s chosen i t
  by_each t all slots = Quiet (λ n f g there found.
      let x = all g (in_at t.state.files n g found) in
      let number : x.0.kept.number ≡ n = sym x.2 ∙ number_at t.state.files n g found in
      let same : x.0 ≡ f =
      cc (sym (at_place s.files x.0 apart x.1) ∙ ap (file_at s.files) number ∙ there) in
      subst (λ (y : File). Went (IsOffline t.state.drives) y g.kept) same x.3) slots

  stays : (t : Step) → t.state.files ≡ s.files → t.state.slots ≡ s.slots → Stepped s chosen i t
  stays t files slots =
      by_each t (subst (Each (From t.state.drives)) (sym files) (λ f there. from_itself t.state.drives f there)) slots

  heard_from : (x : Answering) → IsAnswering s i x → From s.drives (answered_file s chosen x).file
  heard_from x is = (
    x.file,
    is.there,
    hears_number x.file.kept.number (at_file s chosen x.file) x.job x.awaited x.reply _ refl,
    no_grants (IsOffline s.drives) x.file _ (k.alone x.file x.job is.there is.runs)
        (λ phase. hears_comes (IsOffline s.drives) (at_file s chosen x.file) phase x.job x.awaited x.reply
        (k.fits x.file is.there phase x.job is.runs)
        (k.sets x.file x.job x.awaited is.there phase is.runs (found_in _ x.job.awaited x.awaited is.awaits))),
  )

  declared_from : (d : ℕ) → is_some (find (λ (x : Drive). x.number == d) s.drives) ≡ true → (f : File) → In f s.files →
      (m : Effects) (placed : List ℕ) →
      From (offline s.drives d)
      (declares (record { file = f; effects = m; drives = offline s.drives d; chosen = placed }) d).file
  declared_from d known f there m placed =
      let go : Going = record { file = f; effects = m; drives = offline s.drives d; chosen = placed } in (
        f,
        there,
        declares_number f.kept.number d go refl,
        by_job go refl f.job refl,
      )
    where
      by_job : (go : Going) → go.file ≡ f → (o : Option Job) → f.job ≡ o →
          Went (IsOffline (offline s.drives d)) f (declares go d).file.kept
      by_job go is None idle = lost_went (IsOffline (offline s.drives d)) f go is d idle (now_out s.drives d known)
      by_job go is (Some j) runs =
          no_grants (IsOffline (offline s.drives d)) f _ (k.alone f j there runs)
          (λ phase. subst (λ (y : File). ComesTo (IsOffline (offline s.drives d)) y.kept (declares go d).file.kept) is
          (declares_comes (IsOffline (offline s.drives d)) go (ap (λ (y : File). y.kept.phase) is ∙ phase) d
          (subst (λ (y : File). FitsFence y.job) (sym is) (k.fits f there phase))
          (now_out s.drives d known)))

  put_from : (f g : File) → In f s.files → g.kept.number ≡ f.kept.number → Went (IsOffline s.drives) f g.kept →
      (n : ℕ) → Each (From s.drives) (put_file s.files n g)
  put_from f g there number went n =
      put_each (From s.drives) s.files n g (λ x at. from_itself s.drives x at) (f, there, number, went)

  -- a file that is made leaves the others
  old : (f : File) (n : ℕ) → f.kept.number ≡ n → (m : RawMap) (zoned : Bool) → refusal s n m zoned ≡ None → (y : File) →
      y.kept.number ≡ f.kept.number → (j : ℕ) (x g : File) → file_at s.files j ≡ Some x →
      file_at (put_file (add_file s.files f) f.kept.number y) j ≡ Some g → Went (IsOffline s.drives) x g.kept
  old f n is m zoned none y number j x g there found = elim (cases_eq f.kept.number j) [
    | inl here ↦
        absurd (cc (sym (subst (λ (i : ℕ). file_at s.files i ≡ None) (sym is ∙ here) (not_there s n m zoned none)) ∙ there))
    | inr other ↦
        let was : file_at s.files j ≡ Some g =
        sym (add_other s.files f j (ne_eqb f.kept.number j other))
        ∙ sym (put_other (add_file s.files f) f.kept.number y number j (ne_eqb f.kept.number j other)) ∙ found in
        let same : x ≡ g = cc (sym there ∙ was) in
        subst (λ (z : File). Went (IsOffline s.drives) x z.kept) same (goes_itself (IsOffline s.drives) x.kept NoClient)
  ]

  told : (t : Step) (now : ℕ) (o : Order) → i ≡ Hears now FromServer (Orders o) → (result : OrderResult) →
      Stepped s chosen i t → Stepped s chosen i (with_answer t o.order result)
  told t now o is result (Quiet all same) = Quiet all same
  told t now o is result (Asked later q asked done) = absurd (cc (sym is ∙ asked.is))

  cases : StepCases s chosen i (Stepped s chosen i)
  unfolding declare
  cases = record {
    rests = stays (still s) refl refl;
    asked = λ now q is. Asked now q is refl;
    answered = λ x is.
        by_each _ (put_each (From s.drives) s.files (answered_file s chosen x).file.kept.number (answered_file s chosen x).file
        (λ g at. from_itself s.drives g at) (heard_from x is)) refl;
    recalled = λ f is. stays _ refl refl;
    refused = λ f is n why.
        by_each _ (put_from f f (in_at s.files is.target f is.found) refl
        (goes_itself (IsOffline s.drives) f.kept NoClient) f.kept.number) refl;
    fenced = λ f is kind none low.
        let there : In f s.files = in_at s.files is.target f is.found in
        by_each _ (put_from f (fence_begins kind s.format (at_file s chosen f)).file there
        (fence_number kind s.format (at_file s chosen f))
        (fence_goes (IsOffline s.drives) f.kept (k.still f there) NoClient kind s.format (at_file s chosen f) refl)
        f.kept.number) refl;
    declared = λ d known.
        by_each _ (declared_each (From (offline s.drives d)) d (offline s.drives d) s.files (begins s) chosen
        (λ f there m placed. declared_from d known f there m placed)) refl;
    told = told;
    made = λ n m tag zoned is none.
        let f : File = new_file s chosen n m tag zoned in
        Quiet (λ j x g there found. old f n refl m zoned none (making (at_file (with_file s f) [] f)).file
        (ran_making (at_file (with_file s f) [] f)).number j x g there found) refl;
    added = λ d is. stays (still (with_added s d)) refl refl;
    zoned = λ d zone is. stays (still (with_zoned s d zone)) refl refl;
    formats = λ n is. stays (still (set_format s n)) refl refl;
    resends = λ is. stays _ refl refl;
    crashes = λ is.
        by_each (still (crash s)) (crashed_each (From s.drives) s.files
        (λ f there. (f, there, refl, goes_itself (IsOffline s.drives) f.kept NoClient))) refl;
    opened = λ is low.
        by_each _ (opened_each (From s.drives) s.format s.drives s.files (begins s)
        (λ f there m. (
          f,
          there,
          opens_number f.kept.number s.format _ refl,
          opens_went (IsOffline s.drives) f (k.still f there) s.format
              (record { file = f; effects = m; drives = s.drives; chosen = [] }) refl,
        ))) refl;
  }

  pub stepped : Stepped s chosen i (step s chosen i)
  stepped = each_step s chosen i (Stepped s chosen i) cases
