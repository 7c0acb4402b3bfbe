-- What can't be borne of a client's report stays so in a step of the server, unless it asks for a layout.
-- Towards `ReturnsAreRight` (`specs/KeptFollows.antt`).
use Rattle.std.proofs.Common.{◌≡◌, ◌⊎◌, ◌≤◌, ℕ, List, [], ◌∷◌, Option, Some, None, inl, inr, refl, sym, ap, subst, ◌∙◌}
use Rattle.std.proofs.lemmas.Bool.{cases_eq, ne_eqb}
use Rattle.layout_types.specs.declared.ioerrs.IoErr.{IoErr}
use Rattle.osd_lists.specs.declared.node.Node.TheVariants.{Client as FromClient}
use Rattle.server_rules.specs.declared.limits.TheConstants.{MAX_CLIENT}
use Rattle.server_rules.specs.Files.{file_at, at_file}
use Rattle.server_rules.specs.Grants.{grant_of}
use Rattle.server_rules.specs.History.{Input, Hears, step}
use Rattle.server_rules.specs.Laws.{AreSafe}
use Rattle.server_rules.specs.Messages.{Asks}
use Rattle.server_rules.specs.Requests.{serves, carried_out, carries_out, by_admit, on_request}
use Rattle.server_rules.specs.Served.{Served}
use Rattle.server_rules.specs.Slots.{Admit, New, Again, Misordered, slot_of, admit}
use Rattle.server_rules.proofs.FileLaws.{number_at, put_same, put_other}
use Rattle.world_history.specs.ClientNames.{Client, CallOp, Call, Held, Request, Need, First, Get, Commit, Report, Close, Phase, Starts, Needs, Waits, Reads, Probes, Gathers, Scatters}
use Rattle.world_history.specs.ServerNames.{Server, File, Kept, Grant, ClientRequest}
use Rattle.client_rules.specs.Calls.{file_of}
use Rattle.client_rules.specs.Grants.{held_of}
use Rattle.exchange_law.specs.Calls.{Knows, IsNoGet, NoGet, PhaseFine, CallFine}
use Rattle.exchange_law.specs.Meeting.{Reads as IsReadAs}
use Rattle.exchange_law.proofs.HeldAsking.{IsOwn, no_get_asked, none_told}
use Rattle.history_law.specs.Files.{Quiet, Asked}
use Rattle.component_law.specs.Listed.{IsOffline}
use Rattle.component_law.proofs.PartyKeeping.{IsAlike}
use Rattle.component_law.proofs.ListedServing.{MayGive, serves_may}
use Rattle.component_law.proofs.ListedSteps.{FewerAt, Did, step_did}
use Rattle.relation_law.specs.Returns.{CantBeBorne, IsBeyondBearing, ReportsBy, NeedReports, PhaseReports, CallReports}
use Rattle.relation_law.proofs.ReturnsNamed.{beyond_alike}

-- ---- a step

-- so it is of what is kept of the file, if the server has a grant of client c there
abbrev pub OnGrants : (Kept → Type 0) → Server → (c file : ℕ) → Type 0
OnGrants P s c file =
    (f : File) (g : Grant) → file_at s.files file ≡ Some f → grant_of f.kept.grants c ≡ Some g → P f.kept

-- P stays where components become missing, and nothing else changes that a grant has
module _ (s : Server) (chosen : List ℕ) (c : ℕ) (x : Client) (none : NoGet x.outstanding) (file : ℕ) (P : Kept → Type 0)
    (stays : (Off : ℕ → Type 0) (f k : Kept) → IsAlike Off f k → P f → P k) (borne : OnGrants P s c file) where
  module _ (now : ℕ) (q : ClientRequest)
      (own : q.client ≡ c → (r : Request) × (x.outstanding ≡ Some r) × IsReadAs q r) where
    module _ (f : File) (at : file_at s.files q.file ≡ Some f) where
      abbrev v : Served
      v = serves (at_file s chosen f) s.next_grant s.format now q.client q.args

      abbrev t : Server
      t = (carried_out s q v).state

      may : MayGive (IsOffline s.drives) f.kept q.client v
      may = serves_may (IsOffline s.drives) (at_file s chosen f) s.next_grant s.format now q.client q.args

      number : v.going.file.kept.number ≡ q.file
      number = may.number ∙ number_at s.files q.file f at

      there : file_at t.files q.file ≡ Some v.going.file
      there = put_same s.files q.file v.going.file f number at

      old : (g : Grant) → q.file ≡ file
          → ((grant_of f.kept.grants c ≡ Some g) × IsAlike (IsOffline s.drives) f.kept v.going.file.kept)
          ⊎ ((c ≡ q.client) × (v.told.grant ≡ Some g)) → P v.going.file.kept
      old g same (inl before) =
          stays (IsOffline s.drives) f.kept v.going.file.kept before.1
          (borne f g (subst (λ (n : ℕ). file_at s.files n ≡ Some f) same at) before.0)
      old g same (inr new) =
          let r = own (sym new.0) in
          let no_get : IsNoGet r.0.args = subst NoGet r.1 none in
          absurd (none_told (at_file s chosen f) s.next_grant s.format now q.client q.args g
          (no_get_asked r.0.args q.args no_get r.2.args) new.1)

      served_stays : OnGrants P t c file
      served_stays e g found has = elim (cases_eq q.file file) [
        | inl same ↦
            let it : v.going.file ≡ e = cc (sym there ∙ subst (λ (n : ℕ). file_at t.files n ≡ Some e) (sym same) found) in
            let mine : grant_of v.going.file.kept.grants c ≡ Some g =
            ap (λ (y : File). grant_of y.kept.grants c) it ∙ has in
            subst (λ (y : File). P y.kept) it (old g same (may.grants c g mine))
        | inr other ↦
            borne e g (sym (put_other s.files q.file v.going.file number file (ne_eqb q.file file other)) ∙ found) has
      ]

    carried_stays : (o : Option File) → file_at s.files q.file ≡ o
        → OnGrants P (carries_out s now chosen q o).state c file
    carried_stays None at = borne
    carried_stays (Some f) at = served_stays f at

  admitted_stays : (now : ℕ) (q : ClientRequest) (a : Admit) → admit (slot_of s.slots q.client) q.sequence ≡ a
      → (q.client ≡ c → admit (slot_of s.slots q.client) q.sequence ≡ New
      → (r : Request) × (x.outstanding ≡ Some r) × IsReadAs q r)
      → OnGrants P (by_admit s now chosen q a).state c file
  admitted_stays now q (Again kept) e own = borne
  admitted_stays now q (Misordered expected) e own = borne
  admitted_stays now q New e own = carried_stays now q (λ same. own same e) (file_at s.files q.file) refl

  did_stays : (i : Input) → Did s chosen i (step s chosen i) → IsOwn s c x i → OnGrants P (step s chosen i).state c file
  unfolding on_request
  did_stays i (Quiet all same) own = λ f g at has. by f g has (all file f at)
    where
      by : (f : File) (g : Grant) → grant_of f.kept.grants c ≡ Some g
          → FewerAt (IsOffline (step s chosen i).state.drives) s.files file f → P f.kept
      by f g has (inl (e, stood, fewer)) =
          let y = fewer.grants c g has in
          stays (IsOffline (step s chosen i).state.drives) e.kept f.kept y.1 (borne e g stood y.0)
      by f g has (inr gone) = absurd (cc (ap (λ (gs : List Grant). grant_of gs c) (sym gone) ∙ has))
  did_stays i (Asked now q is done) own =
      subst (λ (t : _). OnGrants P t.state c file) (sym done)
      (admitted_stays now q (admit (slot_of s.slots q.client) q.sequence) refl
      (λ same new. own now q (is.is ∙ ap (λ (n : ℕ). Hears now (FromClient n) (Asks q)) same) same
      (subst (λ (n : ℕ). n ≤ MAX_CLIENT) same is.named)
      (subst (λ (n : ℕ). admit (slot_of s.slots n) q.sequence ≡ New) same new)))

  pub stays_behind : (i : Input) → AreSafe s.files → IsOwn s c x i → OnGrants P (step s chosen i).state c file
  stays_behind i safe own = did_stays i (step_did s chosen i safe) own

-- so can't be borne what couldn't
pub borne_behind : (s : Server) (chosen : List ℕ) (c : ℕ) (x : Client) → NoGet x.outstanding → (file : ℕ)
    (report : List IoErr) → CantBeBorne s c file report → (i : Input) → AreSafe s.files → IsOwn s c x i
    → CantBeBorne (step s chosen i).state c file report
borne_behind s chosen c x none file report borne =
    stays_behind s chosen c x none file (λ (k : Kept). IsBeyondBearing k report)
    (λ Off f k a b. beyond_alike Off f k report a b) borne

-- ---- a call

module _ (K : Knows) (out : Option Request) (N M : CallOp → List IoErr → Type 0)
    (on : NoGet out → (op : CallOp) (report : List IoErr) → N op report → M op report) where
  report_on : (op : CallOp) (report : List IoErr) → NoGet out → ReportsBy (N op) report → ReportsBy (M op) report
  report_on op [] none x = tt
  report_on op (e ∷ es) none x = on none op (e ∷ es) x

  need_on : (op : CallOp) (n : Need) → NoGet out → NeedReports (N op) n → NeedReports (M op) n
  need_on op First none x = tt
  need_on op (Get tries) none x = tt
  need_on op (Commit timed) none x = tt
  need_on op (Report timed) none x = x
  need_on op (Close u report) none x = (x.0, report_on op report none x.1)

  phase_on : (o : Option Held) (op : CallOp) (p : Phase) → PhaseFine K o out op p → PhaseReports (N op) p
      → PhaseReports (M op) p
  phase_on o op Starts f x = tt
  phase_on o op (Needs n) f x = need_on op n f.1 x
  phase_on o op (Waits First) f x = tt
  phase_on o op (Waits (Get tries)) f x = tt
  phase_on o op (Waits (Commit timed)) f x = tt
  phase_on o op (Waits (Report timed)) f x = x
  phase_on o op (Waits (Close u report)) f x = (x.0, report_on op report f.1 x.1)
  phase_on o op (Reads io) f x = tt
  phase_on o op (Probes io) f x = tt
  phase_on o op (Gathers io) f x = tt
  phase_on o op (Scatters io queue) f x = tt

  -- what N says of the reports of a call, M says of them too, if that lasts while no LAYOUTGET is outstanding
  pub call_on : (hs : List Held) (o : Option Call) → CallFine K hs out o → CallReports N hs o → CallReports M hs o
  call_on hs None f x = tt
  call_on hs (Some call) f x = record {
    reports = phase_on (held_of hs (file_of call.op)) call.op call.phase f.1 x.reports;
    enough = x.enough;
  }
