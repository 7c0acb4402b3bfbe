-- What a step of the server makes of a file's grants: where it had none, those behind it are new.
use Rattle.std.proofs.Common.{◌≡◌, ◌⊎◌, ◌==◌, ℕ, Bool, true, false, List, [], Some, refl, sym, ap, subst, ◌∙◌, inl, inr, if◌then◌else◌}
use Rattle.std.proofs.lemmas.Bool.{cases_eq, ne_eqb}
use Rattle.server_rules.specs.declared.limits.TheConstants.{GREATEST_TAG}
use Rattle.server_rules.specs.Files.{Step, file_at, put_file, at_file}
use Rattle.server_rules.specs.Going.{Going}
use Rattle.server_rules.specs.History.{Input, step}
use Rattle.server_rules.specs.Jobs.{fence_begins}
use Rattle.server_rules.specs.Laws.{In}
use Rattle.server_rules.specs.Openings.{opens, opens_fenced, opens_made, is_unsettled}
use Rattle.server_rules.specs.Requests.{serves, on_request}
use Rattle.server_rules.proofs.FileLaws.{put_other, number_at}
use Rattle.component_law.proofs.KeptJobs.{ends_fence}
use Rattle.server_rules.proofs.HandlerLaws.{fence_leaves_none}
use Rattle.server_rules.proofs.Runs.{ran_making}
use Rattle.world_history.specs.ServerNames.{Server, File, Grant, Drive, JobKind, Revoking, ClientRequest}
use Rattle.history_law.specs.Files.{FilesGo, Quiet, Asked, FileCases}
use Rattle.history_law.proofs.Files.{files_go, put_gives}
use Rattle.history_law.proofs.Steps.{each_request}
use Rattle.component_law.specs.Distinct.{AreDistinct}
use Rattle.component_law.proofs.PartyJobs.{stays_heard, stays_declared}
use Rattle.relation_law.proofs.KeptRequests.{ends_served}
use Rattle.relation_law.proofs.KeptServer.{at_place, HasNumber, number_walked}
use Rattle.relation_law.proofs.Ways.{hears_number, declares_number, opens_number}
use Rattle.headline_law.specs.Ending.{AreFresh}
use Rattle.headline_law.proofs.CalmRows.{fresh_served, fresh_none}

-- ---- the number

pub fence_number : (kind : JobKind) (format : ℕ) (g : Going) → (fence_begins kind format g).file.kept.number ≡ g.file.kept.number
fence_number kind format g = (ends_fence (HasNumber g.file.kept.number) (number_walked g.file.kept.number) kind format g refl).0

pub served_number : (go : Going) (next format now client : ℕ) (args : _) →
    (serves go next format now client args).going.file.kept.number ≡ go.file.kept.number
served_number go next format now client args =
    ends_served (HasNumber go.file.kept.number) (number_walked go.file.kept.number)
    (λ k l ns same is. same ∙ is) go next format now client args refl

-- ---- the grants

-- none are left, or they are the same
abbrev pub KeepsGrants : (old new : List Grant) → Type 0
KeepsGrants old new = (new ≡ []) ⊎ (new ≡ old)

either_keeps : (b : Bool) (old : List Grant) (x y : Going) → KeepsGrants old x.file.kept.grants →
    KeepsGrants old y.file.kept.grants → KeepsGrants old (if b then x else y).file.kept.grants
either_keeps true old x y p q = p
either_keeps false old x y p q = q

opened_keeps : (format : ℕ) (g : Going) → KeepsGrants g.file.kept.grants (opens format g).file.kept.grants
unfolding opens opens_fenced
opened_keeps format g =
    either_keeps (is_unsettled g.file.kept) g.file.kept.grants _ _
    (either_keeps (g.file.kept.tag == GREATEST_TAG) g.file.kept.grants _ _ (inr refl)
    (inl (fence_leaves_none Revoking format g)))
    (made g.file.kept.ready)
  where
    made : (b : Bool) → KeepsGrants g.file.kept.grants (opens_made g b).file.kept.grants
    made true = inr refl
    made false = inr (ran_making g).grants

module _ (s : Server) (chosen : List ℕ) (i : Input) where
  -- how a file goes on, and what a file is behind a reply, or as it is made
  abbrev pub Ways : List Drive → File → File → Type 0
  Ways ds f g = (g.kept.number ≡ f.kept.number) × KeepsGrants f.kept.grants g.kept.grants

  abbrev pub Else : File → Type 0
  Else g = (g.kept.grants ≡ []) ⊎ ((x : File) × In x s.files × (g.kept.number ≡ x.kept.number) × (g.kept.grants ≡ x.kept.grants))

  cases : FileCases Ways Else s chosen i
  cases = record {
    same = λ ds f. (refl, inr refl);
    number = λ ds f g r. r.0;
    answered = λ x is. inr (
      x.file,
      is.there,
      hears_number x.file.kept.number (at_file s chosen x.file) x.job x.awaited x.reply _ refl,
      stays_heard (at_file s chosen x.file) x.job x.awaited x.reply _,
    );
    fenced = λ f is kind none. (
      fence_number kind s.format (at_file s chosen f),
      inl (fence_leaves_none kind s.format (at_file s chosen f)),
    );
    declared = λ d known f there m placed. (
      declares_number f.kept.number d _ refl,
      inr (stays_declared _ d),
    );
    made = λ f none. inl ((ran_making _).grants ∙ none);
    crashed = λ f there. (refl, inr refl);
    opened = λ f there m. (opens_number f.kept.number s.format _ refl, opened_keeps s.format _);
  }

  pub ways_go : FilesGo Ways Else s chosen i (step s chosen i)
  ways_go = files_go Ways Else s chosen i cases

  module _ (f : File) (there : file_at s.files f.kept.number ≡ Some f) (apart : AreDistinct s.files)
      (fresh : AreFresh s.next_grant f.kept.grants) where
    abbrev Goal : Step → Type 0
    Goal t = (y : File) → file_at t.state.files f.kept.number ≡ Some y → AreFresh s.next_grant y.kept.grants

    kept : (y : File) → KeepsGrants f.kept.grants y.kept.grants → AreFresh s.next_grant y.kept.grants
    kept y (inl none) = fresh_none s.next_grant y.kept.grants none
    kept y (inr same) = subst (AreFresh s.next_grant) (sym same) fresh

    as_was : (y : File) → file_at s.files f.kept.number ≡ Some y → AreFresh s.next_grant y.kept.grants
    as_was y e =
        let same : f ≡ y = cc (sym there ∙ e) in
        subst (λ (z : File). AreFresh s.next_grant z.kept.grants) same fresh

    served : (now : ℕ) (q : ClientRequest) (x : File) → file_at s.files q.file ≡ Some x → (y : File) →
        file_at (put_file s.files q.file (serves (at_file s chosen x) s.next_grant s.format now q.client q.args).going.file)
        f.kept.number ≡ Some y → AreFresh s.next_grant y.kept.grants
    served now q x found y e =
        let v = serves (at_file s chosen x) s.next_grant s.format now q.client q.args in
        let number : v.going.file.kept.number ≡ q.file =
        served_number (at_file s chosen x) s.next_grant s.format now q.client q.args ∙ number_at s.files q.file x found in
        elim (cases_eq q.file f.kept.number) [
          | inl here ↦
              let same : f ≡ x = cc (sym there ∙ ap (file_at s.files) (sym here) ∙ found) in
              let is : y ≡ v.going.file =
              put_gives s.files q.file v.going.file y number
              (subst (λ (n : ℕ). file_at (put_file s.files q.file v.going.file) n ≡ Some y) (sym here) e) in
              subst (λ (z : File). AreFresh s.next_grant z.kept.grants) (sym is)
              (fresh_served s.next_grant (at_file s chosen x) s.format now q.client q.args
              (subst (λ (z : File). AreFresh s.next_grant z.kept.grants) same fresh))
          | inr other ↦
              as_was y
              (sym (put_other s.files q.file v.going.file number f.kept.number (ne_eqb q.file f.kept.number other)) ∙ e)
        ]

    asked : (now : ℕ) (q : ClientRequest) → Goal (on_request s now chosen q)
    asked now q = each_request s now chosen q Goal (record {
      again = λ x is. as_was;
      misordered = λ expected is. as_was;
      without = λ new none. as_was;
      served = λ new x found. served now q x found;
    })

    pub fresh_behind : Goal (step s chosen i)
    fresh_behind = by (step s chosen i) ways_go
      where
        by : (t : Step) → FilesGo Ways Else s chosen i t → Goal t
        by t (Asked now q is same) y e = subst Goal (sym same) (asked now q) y e
        by t (Quiet all slots) y e = elim (all f.kept.number y e) [
          | inl r ↦
              let same : r.0 ≡ f = cc (sym r.1 ∙ there) in
              kept y (subst (λ (z : File). KeepsGrants z.kept.grants y.kept.grants) same r.2.1)
          | inr n ↦ elim n [
            | inl none ↦ fresh_none s.next_grant y.kept.grants none
            | inr x ↦
                let number : x.0.kept.number ≡ f.kept.number = sym x.2 ∙ number_at t.state.files f.kept.number y e in
                let same : x.0 ≡ f =
                cc (sym (at_place s.files x.0 apart x.1) ∙ ap (file_at s.files) number ∙ there) in
                kept y (inr (x.3 ∙ ap (λ (z : File). z.kept.grants) same))
          ]
        ]
