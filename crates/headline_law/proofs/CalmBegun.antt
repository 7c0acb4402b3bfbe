-- Where a step of the server begins a fence of a still file, the grants behind it are new, whatever drives the placer names.
use Rattle.std.proofs.Common.{◌≡◌, ◌⊎◌, ◌==◌, ℕ, true, false, List, [], ◌∷◌, Option, Some, None, refl, sym, ap, subst, ◌∙◌, inl, inr}
use Rattle.std.proofs.lemmas.Bool.{true≢false, cases_Bool, cases_eq, eq-eqb, ne_eqb}
use Rattle.osd_lists.specs.declared.node.Node.TheVariants as node
use Rattle.server_rules.specs.declared.limits.TheConstants.{GREATEST_TAG}
use Rattle.server_rules.specs.Files.{Step, file_at, put_file, at_file, begins}
use Rattle.server_rules.specs.Going.{Going}
use Rattle.server_rules.specs.History.{Input, step, Hears}
use Rattle.server_rules.specs.Jobs.{fence_begins}
use Rattle.server_rules.specs.Messages.{Asks, counters_have_room}
use Rattle.server_rules.specs.Openings.{opens, opens_fenced, is_unsettled, opens_each, reopen}
use Rattle.server_rules.specs.Orders.{begins_job, starts, ordered}
use Rattle.server_rules.specs.Requests.{serves, by_admit, carries_out, on_request}
use Rattle.server_rules.specs.Served.{Served}
use Rattle.server_rules.specs.Slots.{Admit, admit, slot_of}
use Rattle.server_rules.proofs.HandlerLaws.{fence_leaves_none}
use Rattle.world_history.specs.ServerNames.{Server, File, Drive, Effects, Job, JobKind, Revoking, Rebuilding, Auditing, ClientRequest, OrderKind, ToRecall, ToRevoke, ToDeclare, ToRebuild, ToAudit}
use Rattle.file_simulation.specs.ServerEvents.{begins_fence, is_served}
use Rattle.history_law.proofs.Files.{put_gives}
use Rattle.relation_law.proofs.KeptOpens.{none_shows, opening_shows, opening_fences}
use Rattle.relation_law.proofs.RequestsOn.{served_is, on_it}
use Rattle.relation_law.proofs.Ways.{opens_number}
use Rattle.headline_law.specs.Ending.{AreFresh, MayBegin, ByRequest, ByOrder, ByOpening, IsJobOrder}
use Rattle.headline_law.proofs.CalmRows.{fresh_none, served_begun}
use Rattle.headline_law.proofs.CalmWays.{served_number, fence_number}

-- ---- an opening

-- no grant is left, or no fence begins
abbrev OpensSo : (f g : File) → Type 0
OpensSo f g = (g.kept.grants ≡ []) ⊎ (begins_fence f g ≡ false)

opens_so : (format : ℕ) (g : Going) → OpensSo g.file (opens format g).file
unfolding opens opens_fenced
opens_so format g = elim (cases_Bool (is_unsettled g.file.kept)) [
  | inl u ↦ elim (cases_Bool (g.file.kept.tag == GREATEST_TAG)) [
    | inl e ↦ rw (u, e) (inr (none_shows g.file g.file refl refl))
    | inr e ↦ rw (u, e) (inl (fence_leaves_none Revoking format g))
  ]
  | inr u ↦ inr (opening_shows format g ∙ settled u)
]
  where
    settled : is_unsettled g.file.kept ≡ false → opening_fences g.file.kept ≡ false
    settled u = rw u refl

-- the file behind an opening of all files, one after the other
opened_at : (format : ℕ) (ds : List Drive) (fs : List File) (m : Effects) (f y : File) →
    file_at fs f.kept.number ≡ Some f → file_at (opens_each format ds fs m).files f.kept.number ≡ Some y →
    (n : Effects) × (y ≡ (opens format (record { file = f; effects = n; drives = ds; chosen = [] })).file)
unfolding file_at opens_each
opened_at format ds [] m f y there e = absurd (cc there)
opened_at format ds (x ∷ fs) m f y there e =
    let g : Going = opens format (record { file = x; effects = m; drives = ds; chosen = [] }) in
    let same : g.file.kept.number ≡ x.kept.number = opens_number x.kept.number format _ refl in
    elim (cases_eq x.kept.number f.kept.number) [
      | inl here ↦
          let it : x ≡ f = cc (rw (eq-eqb x.kept.number f.kept.number here) at there) in
          let its : g.file ≡ y = cc (rw (eq-eqb g.file.kept.number f.kept.number (same ∙ here)) at e) in (
            m,
            sym its ∙ ap (λ (z : File). (opens format (record { file = z; effects = m; drives = ds; chosen = [] })).file) it,
          )
      | inr other ↦
          opened_at format ds fs g.effects f y (rw (ne_eqb x.kept.number f.kept.number other) at there)
          (rw (ne_eqb g.file.kept.number f.kept.number (λ z. other (sym same ∙ z))) at e)
    ]

module _ (s : Server) (f : File) (there : file_at s.files f.kept.number ≡ Some f) where
  -- behind an opening
  opened : (y : File) → file_at (reopen s).state.files f.kept.number ≡ Some y → begins_fence f y ≡ true →
      AreFresh s.next_grant y.kept.grants
  unfolding reopen
  opened y e begins_ = elim (cases_Bool (counters_have_room s)) [
    | inr z ↦
        let same : f ≡ y = cc (sym there ∙ rw z at e) in
        absurd (true≢false (sym begins_ ∙ none_shows f y (sym (ap (λ (x : File). x.kept.phase) same))
        (sym (ap (λ (x : File). x.kept.tag) same))))
    | inl t ↦
        let o = opened_at s.format s.drives s.files (begins s) f y there (rw t at e) in
        elim (opens_so s.format (record { file = f; effects = o.0; drives = s.drives; chosen = [] })) [
          | inl none ↦ fresh_none s.next_grant y.kept.grants (ap (λ (x : File). x.kept.grants) o.1 ∙ none)
          | inr no_ ↦ absurd (true≢false (sym begins_ ∙ ap (λ (x : File). begins_fence f x) o.1 ∙ no_))
        ]
  ]

  -- ---- an order

  module _ (chosen placed : List ℕ) (job : JobKind) where
    -- in the one step a fence begins, so in the other one does
    jobs_begin : (o : Option Job) (g y : File) →
        file_at (begins_job s chosen job f o).step.state.files f.kept.number ≡ Some g →
        file_at (begins_job s placed job f o).step.state.files f.kept.number ≡ Some y → begins_fence f g ≡ true →
        AreFresh s.next_grant y.kept.grants
    jobs_begin (Some j) g y real read begins_ =
        let same : g ≡ f = put_gives s.files f.kept.number f g refl real in
        absurd (true≢false (sym begins_ ∙ none_shows f g (ap (λ (x : File). x.kept.phase) same)
        (ap (λ (x : File). x.kept.tag) same)))
    jobs_begin None g y real read begins_ = elim (cases_Bool (f.kept.tag == GREATEST_TAG)) [
      | inl t ↦
          let same : g ≡ f = put_gives s.files f.kept.number f g refl (rw t at real) in
          absurd (true≢false (sym begins_ ∙ none_shows f g (ap (λ (x : File). x.kept.phase) same)
          (ap (λ (x : File). x.kept.tag) same)))
      | inr z ↦
          let behind : File = (fence_begins job s.format (at_file s placed f)).file in
          let same : y ≡ behind =
          put_gives s.files f.kept.number behind y (fence_number job s.format (at_file s placed f)) (rw z at read) in
          fresh_none s.next_grant y.kept.grants
          (ap (λ (x : File). x.kept.grants) same ∙ fence_leaves_none job s.format (at_file s placed f))
    ]

    starts_begin : (n : ℕ) (g y : File) → n ≡ f.kept.number →
        file_at (starts s chosen job (file_at s.files n)).step.state.files f.kept.number ≡ Some g →
        file_at (starts s placed job (file_at s.files n)).step.state.files f.kept.number ≡ Some y →
        begins_fence f g ≡ true → AreFresh s.next_grant y.kept.grants
    starts_begin n g y same real read begins_ =
        let found : file_at s.files n ≡ Some f = ap (file_at s.files) same ∙ there in
        jobs_begin f.job g y
        (ap (λ (o : Option File). file_at (starts s chosen job o).step.state.files f.kept.number) (sym found) ∙ real)
        (ap (λ (o : Option File). file_at (starts s placed job o).step.state.files f.kept.number) (sym found) ∙ read) begins_

  module _ (chosen placed : List ℕ) where
    orders_begin : (kind : OrderKind) (job : JobKind) (n : ℕ) (g y : File) → IsJobOrder kind job → n ≡ f.kept.number →
        file_at (ordered s chosen kind n).step.state.files f.kept.number ≡ Some g →
        file_at (ordered s placed kind n).step.state.files f.kept.number ≡ Some y → begins_fence f g ≡ true →
        AreFresh s.next_grant y.kept.grants
    unfolding ordered
    orders_begin ToRevoke job n g y of same real read begins_ = starts_begin chosen placed Revoking n g y same real read begins_
    orders_begin ToRebuild job n g y of same real read begins_ =
        starts_begin chosen placed Rebuilding n g y same real read begins_
    orders_begin ToAudit job n g y of same real read begins_ = starts_begin chosen placed Auditing n g y same real read begins_
    orders_begin ToRecall job n g y of same real read begins_ = absurd of
    orders_begin ToDeclare job n g y of same real read begins_ = absurd of

    -- ---- a request

    module _ (now c : ℕ) (q : ClientRequest) (served : is_served s c q ≡ true) (here : q.file ≡ f.kept.number) where
      abbrev v : List ℕ → Served
      v ds = serves (at_file s ds f) s.next_grant s.format now q.client q.args

      found : file_at s.files q.file ≡ Some f
      found = ap (file_at s.files) here ∙ there

      files_are : (ds : List ℕ) →
          (step s ds (Hears now (node.Client c) (Asks q))).state.files ≡ put_file s.files q.file (v ds).going.file
      unfolding on_request
      files_are ds =
          let k = served_is s c q served in
          ap (λ (t : Step). t.state.files) (on_it s ds now c q k)
          ∙ ap (λ (a : Admit). (by_admit s now ds q a).state.files)
          (ap (λ (x : ℕ). admit (slot_of s.slots x) q.sequence) k.client ∙ k.new)
          ∙ ap (λ (o : Option File). (carries_out s now ds q o).state.files) found

      number_is : (ds : List ℕ) → (v ds).going.file.kept.number ≡ q.file
      number_is ds = served_number (at_file s ds f) s.next_grant s.format now q.client q.args ∙ sym here

      behind_is : (ds : List ℕ) (y : File) →
          file_at (step s ds (Hears now (node.Client c) (Asks q))).state.files f.kept.number ≡ Some y →
          y ≡ (v ds).going.file
      behind_is ds y e =
          put_gives s.files q.file (v ds).going.file y (number_is ds)
          (ap (λ (fs : List File). file_at fs q.file) (sym (files_are ds))
          ∙ ap (file_at (step s ds (Hears now (node.Client c) (Asks q))).state.files) here ∙ e)

      requests_begin : (g y : File) →
          file_at (step s chosen (Hears now (node.Client c) (Asks q))).state.files f.kept.number ≡ Some g →
          file_at (step s placed (Hears now (node.Client c) (Asks q))).state.files f.kept.number ≡ Some y →
          begins_fence f g ≡ true → AreFresh s.next_grant y.kept.grants
      requests_begin g y real read begins_ =
          subst (λ (z : File). AreFresh s.next_grant z.kept.grants) (sym (behind_is placed y read))
          ((served_begun s.next_grant f (begins s) s.drives chosen placed s.format now q.client q.args).fresh
          (ap (λ (z : File). begins_fence f z) (sym (behind_is chosen g real)) ∙ begins_))

    -- ---- any input that may begin one

    pub fresh_begun : (i : Input) (g y : File) → MayBegin s f i →
        file_at (step s chosen i).state.files f.kept.number ≡ Some g →
        file_at (step s placed i).state.files f.kept.number ≡ Some y → begins_fence f g ≡ true →
        AreFresh s.next_grant y.kept.grants
    fresh_begun i g y (ByRequest now c q is served here) real read begins_ =
        requests_begin now c q served here g y
        (ap (λ (j : Input). file_at (step s chosen j).state.files f.kept.number) (sym is) ∙ real)
        (ap (λ (j : Input). file_at (step s placed j).state.files f.kept.number) (sym is) ∙ read) begins_
    fresh_begun i g y (ByOrder kind job n is of same) real read begins_ =
        orders_begin kind job n g y of same
        (ap (λ (j : Input). file_at (step s chosen j).state.files f.kept.number) (sym is) ∙ real)
        (ap (λ (j : Input). file_at (step s placed j).state.files f.kept.number) (sym is) ∙ read) begins_
    fresh_begun i g y (ByOpening is) real read begins_ =
        let real_ : file_at (reopen s).state.files f.kept.number ≡ Some g =
        ap (λ (j : Input). file_at (step s chosen j).state.files f.kept.number) (sym is) ∙ real in
        let read_ : file_at (reopen s).state.files f.kept.number ≡ Some y =
        ap (λ (j : Input). file_at (step s placed j).state.files f.kept.number) (sym is) ∙ read in
        let same : g ≡ y = cc (sym real_ ∙ read_) in
        opened y read_ (ap (λ (z : File). begins_fence f z) (sym same) ∙ begins_)
