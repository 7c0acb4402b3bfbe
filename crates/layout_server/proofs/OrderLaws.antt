-- The step of an order at its file.
use Rattle.std.specs.Prelude.{ℕ, List, [], Option, Some, None, ◌+◌, ◌≡◌, ◌==◌, length, refl}
use Rattle.std.specs.Ordering.{nat_cmp}
use Rattle.std.specs.BTreeMap.{BTreeMap, is_at}
use Rattle.std.specs.Map.{set_value}
use Rattle.std.proofs.Common.{inl, inr, ap, sym, subst, append-nil, ◌∙◌}
use Rattle.std.proofs.lemmas.Bool.{cases_Bool}
use Rattle.layout_ops.specs.declared.orders.OrderResult.{OrderResult}
use Rattle.layout_ops.specs.declared.orders.OrderResult.TheVariants as result
use Rattle.layout_ops.specs.declared.orders.OrderKind.TheVariants as order
use Rattle.server_rules.specs.Answers.{recalls_from}
use Rattle.server_requests.specs.Sending.{all_sent}
use Rattle.server_rules.specs.declared.limits.TheConstants.{GREATEST_TAG}
use Rattle.server_rules.specs.declared.files.File.{File}
use Rattle.server_rules.specs.declared.jobs.Job.{Job}
use Rattle.server_rules.specs.declared.jobs.JobKind.{JobKind}
use Rattle.server_rules.specs.declared.server.Server.{Server}
use Rattle.server_rules.specs.declared.server.Effects.{Effects}
use Rattle.server_rules.specs.Files.{file_at, begins, at_file, step_at}
use Rattle.server_rules.specs.Orders.{Ordered, begins_job, ordered, recalls_on, starts, unknown}
use Rattle.file_jobs.specs.declared.job.FileState.{FileState}
use Rattle.file_jobs.specs.Steps.{at, file_of}
use Rattle.file_jobs.specs.Placing.{AreLoadsOf}
use Rattle.stripe_repair.specs.declared.loads.DriveLoad.{DriveLoad}
use Rattle.layout_server.specs.declared.orders.Obeyed.{Obeyed}
use Rattle.server_state.specs.declared.state.State.{State}
use Rattle.server_state.specs.declared.step.Step.{Step}
use Rattle.server_state.specs.Tables.{Table, files_in, entry_at, AreEntries}
use Rattle.server_state.specs.States.{server_of, Settles}
use Rattle.layout_server.specs.Orders.{Begun, begun, Begins, Obeys}
use Rattle.server_state.proofs.TableLaws.{entry_found, file_there, no_file_there}
use Rattle.server_state.proofs.StepLaws.{settled_at}

-- the step of what was begun at a file
abbrev by_begun : Server → (number : ℕ) → Begun → Ordered
by_begun s n b = record { step = step_at s n b.going; result = b.result }

begins_begun : (s : Server) (chosen : List ℕ) (kind : JobKind) (f : File) (j : Option Job) →
    begins_job s chosen kind f j ≡ by_begun s f.kept.number (begun kind s.format j (at_file s chosen f))
begins_begun s chosen kind f (Some j) = refl
begins_begun s chosen kind f None = elim (cases_Bool (f.kept.tag == GREATEST_TAG)) [
  | inl spent ↦ rw spent refl
  | inr not_spent ↦ rw not_spent refl
]

-- what comes of the order, once it was begun at its file
pub started_at : (old : State) (files : BTreeMap ℕ FileState) (new : State) (m : Effects) (n : ℕ) (kind : JobKind)
    (loads : List DriveLoad) (r : OrderResult) (f g : FileState) (out : Step) →
    AreEntries old.files.entries → files.entries ≡ set_value (is_at (nat_cmp n)) old.files.entries g →
    entry_at old.files.entries n ≡ Some f → AreLoadsOf loads old.drives →
    Begins (begun kind old.format f.job) loads f (begins (server_of old)) r g m →
    Settles (record old { files = files }) m new out →
    (chosen : List ℕ) ×
    Obeys (record { step = out; result = r }) (server_of new)
    (starts (server_of old) chosen kind (file_at (server_of old).files n))
started_at old files new m n kind loads r f g out good put_in found loaded begun_at fin =
    let s : Server = server_of old in
    let h = begun_at old.drives loaded in
    let chosen : List ℕ = h.0 in
    let b : Begun = begun kind old.format f.job (at f (begins s) old.drives chosen) in
    let e : record { going = at g m old.drives []; result = r } ≡ b =
    h.1 [] ∙ ap (λ (cs : List ℕ). begun kind old.format f.job (at f (begins s) old.drives cs)) (append-nil chosen) in
    let number : f.kept.number ≡ n = (entry_found old.files.entries n f good found).number in
    let o : Obeyed = record { step = out; result = r } in (
      chosen,
      subst (λ (x : Option File). Obeys o (server_of new) (starts s chosen kind x))
          (sym (file_there old.files.entries n f good found))
          (subst (λ (x : Ordered). Obeys o (server_of new) x)
          (ap (λ (k : ℕ). by_begun s k b) (sym number) ∙ sym (begins_begun s chosen kind (file_of f) f.job))
          (record {
            step = settled_at old files new m n g [] b.going out good put_in (ap (λ (x : Begun). x.going) e) fin;
            result = ap (λ (x : Begun). x.result) e;
          })),
    )

-- and of one on a file that there isn't
pub unstarted_at : (old : State) (files : BTreeMap ℕ FileState) (n : ℕ) (kind : JobKind) (o : Obeyed) →
    AreEntries old.files.entries → entry_at old.files.entries n ≡ None →
    files.entries ≡ old.files.entries → ((s : State) → Obeys o (server_of s) (unknown (server_of s))) →
    (chosen : List ℕ) ×
    Obeys o (server_of (record old { files = files })) (starts (server_of old) chosen kind (file_at (server_of old).files n))
unstarted_at old files n kind o good none same did = (
  [],
  subst (λ (x : Option File). Obeys o (server_of (record old { files = files })) (starts (server_of old) [] kind x))
      (sym (no_file_there old.files.entries n good none))
      (subst (λ (t : Table). Obeys o (record (server_of old) { files = files_in t }) (unknown (server_of old))) (sym same)
      (did old)),
)

-- what was done is the order of the same server
pub obeys_between : (o : Obeyed) (f : Server → Ordered) (was old is new : Server) → old ≡ was → new ≡ is → Obeys o is (f old) →
    Obeys o new (f was)
obeys_between o f was old is new e h did =
    subst (λ (s : Server). Obeys o s (f was)) (sym h) (subst (λ (s : Server). Obeys o is (f s)) e did)

-- ---- a recall

pub recalled_at : (old : State) (n : ℕ) (f : FileState) (o : Obeyed) (new : Server) → AreEntries old.files.entries →
    entry_at old.files.entries n ≡ Some f →
    new ≡ record (server_of old) { next_recall = old.next_recall + length f.kept.grants } →
    o.step.sends ≡ all_sent (recalls_from old.next_recall f.kept.grants) →
    (o.step.notes ≡ []) × (o.step.mended ≡ []) → o.result ≡ result.Started → (chosen : List ℕ) →
    Obeys o new (ordered (server_of old) chosen order.Recall n)
unfolding ordered
recalled_at old n f o new good found state sends notes result chosen =
    subst (λ (x : Option File). Obeys o new (recalls_on (server_of old) x)) (sym (file_there old.files.entries n f good found))
    (record { step = record { state = state; sends = sends; notes = notes.0; mended = notes.1 }; result = result })

pub not_recalled : (old : State) (n : ℕ) (o : Obeyed) → AreEntries old.files.entries → entry_at old.files.entries n ≡ None →
    Obeys o (server_of old) (unknown (server_of old)) → (chosen : List ℕ) →
    Obeys o (server_of old) (ordered (server_of old) chosen order.Recall n)
unfolding ordered
not_recalled old n o good none did chosen =
    subst (λ (x : Option File). Obeys o (server_of old) (recalls_on (server_of old) x))
    (sym (no_file_there old.files.entries n good none)) did
