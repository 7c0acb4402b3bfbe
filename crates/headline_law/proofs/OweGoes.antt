-- How one file goes on in a step of the server: by its job, as it was, or without a job; for what hangs on all of the file.
-- Towards `OweFollows` and `DoneFollows` (`specs/Parts.antt`).
use Rattle.std.proofs.Common.{◌≡◌, ◌⊎◌, ◌==◌, ◌||◌, ℕ, ◌+◌, Bool, true, false, not, nat_lt, List, [], ◌∷◌, map, Option, Some, None, refl, sym, ap, subst, ◌∙◌, inl, inr, if◌then◌else◌}
use Rattle.std.proofs.lemmas.Bool.{cases_eq, cases_Bool, eq-eqb, ne_eqb}
use Rattle.std.proofs.lemmas.Option.{same_Some}
use Rattle.layout_ops.specs.declared.statuses.TheConstants.{LAYOUTIOMODE4_READ, LAYOUTIOMODE4_RW, NFS4ERR_SEQ_MISORDERED}
use Rattle.server_rules.specs.declared.limits.TheConstants.{GREATEST_TAG}
use Rattle.data_map.specs.declared.ranges.TheConstants.{MAX_FILE_SIZE}
use Rattle.server_rules.specs.Answers.{plain_answer}
use Rattle.server_rules.specs.Commit.{Committed, NoGrant, Wrong, Sizes, by_commit, commits, commit_row}
use Rattle.server_rules.specs.Files.{Step, still, begins, file_at, put_file, add_file, at_file, step_at}
use Rattle.server_rules.specs.Get.{Early, BadMode, Invalid, Unable, Waits, On, Late, NoNumber, Lacks, Conflict, Gives, by_late, late, by_job, early, give_or_refuse, after_fence, fence_first, on_grants, must_fence, by_early, gets}
use Rattle.server_rules.specs.Going.{Going, noting}
use Rattle.server_rules.specs.Grants.{grant_of}
use Rattle.server_rules.specs.History.{Input, step}
use Rattle.server_rules.specs.Jobs.{fence_begins, declares, making}
use Rattle.server_rules.specs.Laws.{AreSafe, IsSafe, NoneBeside}
use Rattle.server_rules.specs.Making.{with_file, set_format}
use Rattle.server_rules.specs.Messages.{resend}
use Rattle.server_rules.specs.Openings.{crashed_file, opens, opens_each}
use Rattle.server_rules.specs.Orders.{recalls, offline, declare, declares_each}
use Rattle.server_rules.specs.Requests.{serves, carried_out, keeps, answer_without, only_answers, size_in}
use Rattle.server_rules.specs.Return.{Returned, NoGrant as NotHeld, Clean, Taken, TooMany, Fencing as ToFence, by_grant, by_return, return_row, returns_on}
use Rattle.server_rules.specs.Served.{Served, tells}
use Rattle.server_rules.proofs.FileLaws.{number_at, put_other, add_other, not_there, safe_at}
use Rattle.server_rules.proofs.HandlerLaws.{leaves_declared, leaves_opened, leaves_served, leaves_fence}
use Rattle.server_rules.proofs.Runs.{ran_making}
use Rattle.history_law.specs.Names.{Server, File, Drive, Effects, Grant, Job, JobKind, Revoking, Spent, RequestArgs, Get, Commit, Return, ClientRequest}
use Rattle.history_law.specs.Steps.{Answering, IsAnswering, answered_file, new_file, with_added, with_zoned, StepCases, RequestCases}
use Rattle.history_law.proofs.Files.{put_gives}
use Rattle.history_law.proofs.Steps.{each_step, each_request}
use Rattle.component_law.specs.Distinct.{AreDistinct}
use Rattle.relation_law.proofs.KeptCommitted.{sized_row}
use Rattle.relation_law.proofs.KeptReturned.{loss_job}
use Rattle.relation_law.proofs.KeptServer.{at_place}
use Rattle.relation_law.proofs.Ways.{hears_number}

-- `R g` says what file f has become so far, in a step of server s on input i
pub record OwnWays (s : Server) (chosen : List ℕ) (i : Input) (f : File) (R : Going → Type 0) : Type 0 where
  pub stays : (g : Going) → g.file ≡ f → R g
  -- no job of it runs
  pub free : (g : Going) → g.file.job ≡ None → R g
  pub heard : (x : Answering) → IsAnswering s i x → x.file ≡ f → R (answered_file s chosen x)
  pub fenced : (g : Going) (kind : JobKind) (format : ℕ) → g.file ≡ f → f.job ≡ None → R (fence_begins kind format g)
  pub declared : (g : Going) (drive : ℕ) → g.file ≡ f → R (declares g drive)
  pub opened : (g : Going) (format : ℕ) → g.file ≡ f → R (opens format g)

module _ (s : Server) (chosen : List ℕ) (i : Input) (f : File) (R : Going → Type 0) (k : OwnWays s chosen i f R)
    (safe : AreSafe s.files) (apart : AreDistinct s.files) (there : file_at s.files f.kept.number ≡ Some f) where
  its : IsSafe f
  its = safe_at s.files f.kept.number f safe there

  -- ---- a request

  none_of : (c : ℕ) (g : Grant) → grant_of [] c ≡ Some g → ⊥
  none_of c g e = cc e

  -- a client that has a grant finds no job
  free_by : (c : ℕ) (g : Grant) → grant_of f.kept.grants c ≡ Some g → f.job ≡ None
  free_by c g has = by f.job refl its.alone
    where
      by : (o : Option Job) → f.job ≡ o → NoneBeside o f.kept.grants → f.job ≡ None
      by None is none = is
      by (Some j) is none = absurd (none_of c g (sym (ap (λ (gs : List Grant). grant_of gs c) none) ∙ has))

  same_job : (go : Going) → go.file ≡ f → (o : Option Job) → f.job ≡ o → go.file.job ≡ o
  same_job go same o is = ap (λ (y : File). y.job) same ∙ is

  given : (go : Going) (next : ℕ) (g : Grant) → go.file.job ≡ None → R (give_or_refuse go next g).going
  unfolding give_or_refuse
  given go next g none = by (late go.file.kept next g)
    where
      by : (l : Late) → R (by_late go g l).going
      by NoNumber = k.free go none
      by (Lacks n) = k.free go none
      by (Conflict holder) = k.free go none
      by Gives = k.free _ none

  either : (b : Bool) (x y : Served) → R x.going → R y.going → R (if b then x else y).going
  either true x y p q = p
  either false x y p q = q

  after : (go : Going) (next : ℕ) (g : Grant) (o : Option Job) → go.file.job ≡ o → R go →
      R (after_fence go next g o).going
  after go next g None is r = given go next g is
  after go next g (Some j) is r = r

  first : (go : Going) (next format : ℕ) (g : Grant) → go.file ≡ f → f.job ≡ None →
      R (fence_first go next format g).going
  unfolding fence_first
  first go next format g same none =
      either (go.file.kept.tag == GREATEST_TAG) _ _ (k.stays (noting go Spent) same)
      (after (fence_begins Revoking format go) next g (fence_begins Revoking format go).file.job refl
      (k.fenced go Revoking format same none))

  early_on : (y : File) (iomode offset count : ℕ) → early y iomode offset count ≡ On → y.job ≡ None
  unfolding early
  early_on y iomode offset count e =
      one (not ((iomode == LAYOUTIOMODE4_READ) || (iomode == LAYOUTIOMODE4_RW)))
      ((count == 0) || nat_lt MAX_FILE_SIZE (offset + count)) y.spent e
    where
      by : (o : Option Job) → by_job o ≡ On → o ≡ None
      by None x = refl
      by (Some j) x = absurd (cc x)

      one : (a c d : Bool) → (if a then BadMode else if c then Invalid else if d then Unable else by_job y.job) ≡ On →
          y.job ≡ None
      one true c d x = absurd (cc x)
      one false true d x = absurd (cc x)
      one false false true x = absurd (cc x)
      one false false false x = by y.job x

  gets_goes : (go : Going) (next format now : ℕ) (g : Grant) (e : Early) → (e ≡ On → go.file.job ≡ None) → go.file ≡ f →
      R (by_early go next format now g e).going
  unfolding on_grants
  gets_goes go next format now g BadMode on same = k.stays go same
  gets_goes go next format now g Invalid on same = k.stays go same
  gets_goes go next format now g Unable on same = k.stays go same
  gets_goes go next format now g (Waits n) on same = k.stays go same
  gets_goes go next format now g On on same =
      either (must_fence now go.file.kept.grants g) _ _
      (first go next format g same (sym (ap (λ (y : File). y.job) same) ∙ on refl)) (given go next g (on refl))

  commit_goes : (go : Going) (c : ℕ) (last : Option ℕ) (x : Committed) → commit_row go.file.kept c last ≡ x → go.file ≡ f →
      R (by_commit go x).going
  commit_goes go c last NoGrant is same = k.stays go same
  commit_goes go c last Wrong is same = k.stays go same
  commit_goes go c last (Sizes size) is same =
      let row = sized_row go.file.kept c last size is in
      k.free _ (same_job go same None (free_by c row.grant
      (ap (λ (y : File). grant_of y.kept.grants c) (sym same) ∙ row.has)))

  -- a return that isn't of no grant
  held_by : (y : File) (c : ℕ) (report : _) (o : Option Grant) → grant_of y.kept.grants c ≡ o →
      (by_grant y.kept report o ≡ NotHeld) ⊎ ((g : Grant) × (grant_of y.kept.grants c ≡ Some g))
  held_by y c report None is = inl refl
  held_by y c report (Some g) is = inr (g, is)

  return_goes : (go : Going) (format c : ℕ) (x : Returned) → (x ≡ NotHeld) ⊎ (f.job ≡ None) → go.file ≡ f →
      R (by_return go format c x).going
  return_goes go format c NotHeld free same = k.stays go same
  return_goes go format c Clean (inl e) same = absurd (cc e)
  return_goes go format c Clean (inr none) same = k.free _ (same_job go same None none)
  return_goes go format c (Taken ks) (inl e) same = absurd (cc e)
  return_goes go format c (Taken ks) (inr none) same = k.free _ (loss_job go ks ∙ same_job go same None none)
  return_goes go format c TooMany free same = k.stays (noting go Spent) same
  return_goes go format c ToFence (inl e) same = absurd (cc e)
  return_goes go format c ToFence (inr none) same = k.fenced go Revoking format same none

  served_goes : (go : Going) (next format now client : ℕ) (args : RequestArgs) → go.file ≡ f →
      R (serves go next format now client args).going
  unfolding gets commits returns_on return_row
  served_goes go next format now client (Get iomode offset count) same =
      gets_goes go next format now _ (early go.file iomode offset count) (early_on go.file iomode offset count) same
  served_goes go next format now client (Commit last) same =
      commit_goes go client last (commit_row go.file.kept client last) refl same
  served_goes go next format now client (Return report) same =
      return_goes go format client _ (elim (held_by go.file client report (grant_of go.file.kept.grants client) refl) [
        | inl none ↦ inl none
        | inr has ↦ inr (free_by client has.0 (ap (λ (y : File). grant_of y.kept.grants client) (sym same) ∙ has.1))
      ]) same

  -- ---- the files behind a step

  abbrev Gone : File → Type 0
  Gone g = (h : Going) × (h.file ≡ g) × R h

  abbrev AllGone : Step → Type 0
  AllGone t = (g : File) → file_at t.state.files f.kept.number ≡ Some g → Gone g

  same_gone : (t : Step) → t.state.files ≡ s.files → AllGone t
  same_gone t same g found =
      let here : f ≡ g =
      same_Some f g (sym there ∙ sym (ap (λ (fs : List File). file_at fs f.kept.number) same) ∙ found) in
      (record { file = g; effects = begins s; drives = s.drives; chosen = chosen }, refl, k.stays _ (sym here))

  put_gone : (t : Step) (x : File) (h : Going) → file_at s.files x.kept.number ≡ Some x →
      h.file.kept.number ≡ x.kept.number → (x ≡ f → R h) →
      t.state.files ≡ put_file s.files x.kept.number h.file → AllGone t
  put_gone t x h at number own files g found = elim (cases_eq x.kept.number f.kept.number) [
    | inl here ↦
        let same : x ≡ f = same_Some x f (sym at ∙ ap (file_at s.files) here ∙ there) in
        let it : g ≡ h.file =
        put_gives s.files x.kept.number h.file g number
        (subst (λ (n : ℕ). file_at (put_file s.files x.kept.number h.file) n ≡ Some g) (sym here)
        (ap (λ (fs : List File). file_at fs f.kept.number) (sym files) ∙ found)) in
        (h, sym it, own same)
    | inr other ↦
        let old : Some f ≡ Some g =
        sym there
        ∙ sym (put_other s.files x.kept.number h.file number f.kept.number (ne_eqb x.kept.number f.kept.number other))
        ∙ ap (λ (fs : List File). file_at fs f.kept.number) (sym files) ∙ found in
        (record { file = g; effects = begins s; drives = s.drives; chosen = chosen }, refl, k.stays _ (sym (cc old)))
  ]

  at_own : (n : ℕ) (x : File) → file_at s.files n ≡ Some x → file_at s.files x.kept.number ≡ Some x
  at_own n x found = ap (file_at s.files) (number_at s.files n x found) ∙ found

  -- ---- rounds

  none_there : (n : ℕ) (g : File) → file_at [] n ≡ Some g → ⊥
  unfolding file_at
  none_there n g found = cc found

  -- the first file with a number, and what is put in its place
  round_on : (x h : File) (fs gs : List File) (g : File) → file_at (x ∷ fs) f.kept.number ≡ Some f →
      h.kept.number ≡ x.kept.number → (x ≡ f → h ≡ g → Gone g) →
      (file_at fs f.kept.number ≡ Some f → file_at gs f.kept.number ≡ Some g → Gone g) →
      file_at (h ∷ gs) f.kept.number ≡ Some g → Gone g
  unfolding file_at
  round_on x h fs gs g at same own later found = elim (cases_eq x.kept.number f.kept.number) [
    | inl here ↦
        own (cc (rw (eq-eqb x.kept.number f.kept.number here) at at))
        (cc (rw (eq-eqb h.kept.number f.kept.number (same ∙ here)) at found))
    | inr other ↦
        later (rw (ne_eqb x.kept.number f.kept.number other) at at)
        (rw (ne_eqb h.kept.number f.kept.number (λ (e : h.kept.number ≡ f.kept.number). other (sym same ∙ e))) at found)
  ]

  declared_gone : (drive : ℕ) (ds : List Drive) (fs : List File) (m : Effects) (placed : List ℕ) → AreSafe fs →
      file_at fs f.kept.number ≡ Some f → (g : File) →
      file_at (declares_each drive ds fs m placed).files f.kept.number ≡ Some g → Gone g
  unfolding declares_each
  declared_gone drive ds [] m placed all at g found = absurd (none_there f.kept.number f at)
  declared_gone drive ds (x ∷ fs) m placed all at g found =
      let go : Going = record { file = x; effects = m; drives = ds; chosen = placed } in
      let h : Going = declares go drive in
      round_on x h.file fs (declares_each drive ds fs h.effects h.chosen).files g at
      (leaves_declared go drive all.0).number (λ same is. (h, is, k.declared go drive same))
      (λ later found_. declared_gone drive ds fs h.effects h.chosen all.1 later g found_) found

  opened_gone : (format : ℕ) (ds : List Drive) (fs : List File) (m : Effects) → AreSafe fs →
      file_at fs f.kept.number ≡ Some f → (g : File) →
      file_at (opens_each format ds fs m).files f.kept.number ≡ Some g → Gone g
  unfolding opens_each
  opened_gone format ds [] m all at g found = absurd (none_there f.kept.number f at)
  opened_gone format ds (x ∷ fs) m all at g found =
      let go : Going = record { file = x; effects = m; drives = ds; chosen = [] } in
      let h : Going = opens format go in
      round_on x h.file fs (opens_each format ds fs h.effects).files g at
      (leaves_opened format go all.0).number (λ same is. (h, is, k.opened go format same))
      (λ later found_. opened_gone format ds fs h.effects all.1 later g found_) found

  crashed_job : (fs : List File) (n : ℕ) (g : File) → file_at (map crashed_file fs) n ≡ Some g → g.job ≡ None
  unfolding file_at
  crashed_job [] n g found = absurd (cc found)
  crashed_job (x ∷ fs) n g found = elim (cases_Bool (x.kept.number == n)) [
    | inl here ↦ ap (λ (y : File). y.job) (sym (same_Some (crashed_file x) g (rw here at found)))
    | inr past ↦ crashed_job fs n g (rw past at found)
  ]

  -- ---- any step

  requests : (now : ℕ) (q : ClientRequest) → RequestCases s now chosen q AllGone
  requests now q = record {
    again = λ kept is. same_gone (only_answers s kept) refl;
    misordered = λ expected is.
        same_gone
        (only_answers s (plain_answer q (tells NFS4ERR_SEQ_MISORDERED expected) (size_in (file_at s.files q.file)))) refl;
    without = λ is none. same_gone (only_answers (keeps s (answer_without q)) (answer_without q)) refl;
    served = λ is x found.
        let v : Served = serves (at_file s chosen x) s.next_grant s.format now q.client q.args in
        put_gone (carried_out s q v) x v.going (at_own q.file x found)
        (leaves_served (at_file s chosen x) s.next_grant s.format now q.client q.args
        (safe_at s.files q.file x safe found)).number
        (λ same. served_goes (at_file s chosen x) s.next_grant s.format now q.client q.args same)
        (ap (λ (n : ℕ). put_file s.files n v.going.file) (sym (number_at s.files q.file x found)));
  }

  cases : StepCases s chosen i AllGone
  unfolding declare
  cases = record {
    rests = same_gone (still s) refl;
    asked = λ now q is. each_request s now chosen q AllGone (requests now q);
    answered = λ x is.
        let h : Going = answered_file s chosen x in
        let number : h.file.kept.number ≡ x.file.kept.number =
        hears_number x.file.kept.number (at_file s chosen x.file) x.job x.awaited x.reply _ refl in
        put_gone (step_at s h.file.kept.number h) x.file h (at_place s.files x.file apart is.there) number
        (λ same. k.heard x is same)
        (ap (λ (n : ℕ). put_file s.files n h.file) number);
    recalled = λ x is. same_gone (recalls s x).step refl;
    refused = λ x is n why.
        let h : Going = noting (at_file s chosen x) n in
        put_gone (step_at s x.kept.number h) x h (at_own is.target x is.found) refl (λ same. k.stays h same) refl;
    fenced = λ x is kind none low.
        let h : Going = fence_begins kind s.format (at_file s chosen x) in
        put_gone (step_at s x.kept.number h) x h (at_own is.target x is.found)
        (leaves_fence kind s.format (at_file s chosen x)).number
        (λ same. k.fenced (at_file s chosen x) kind s.format same (ap (λ (y : File). y.job) (sym same) ∙ none)) refl;
    declared = λ d known g found. declared_gone d (offline s.drives d) s.files (begins s) chosen safe there g found;
    told = λ t now o is result went. went;
    made = λ n m tag zoned is none g found.
        let x : File = new_file s chosen n m tag zoned in
        let h : Going = making (at_file (with_file s x) [] x) in
        let number : h.file.kept.number ≡ n = (ran_making (at_file (with_file s x) [] x)).number in
        let other : n ≡ f.kept.number → ⊥ =
        λ e. absurd (cc (sym (not_there s n m zoned none) ∙ ap (file_at s.files) e ∙ there)) in
        let old : Some f ≡ Some g =
        sym there ∙ sym (add_other s.files x f.kept.number (ne_eqb n f.kept.number other))
        ∙ sym (put_other (add_file s.files x) n h.file number f.kept.number (ne_eqb n f.kept.number other)) ∙ found in
        (record { file = g; effects = begins s; drives = s.drives; chosen = chosen }, refl, k.stays _ (sym (cc old)));
    added = λ d is. same_gone (still (with_added s d)) refl;
    zoned = λ d zone is. same_gone (still (with_zoned s d zone)) refl;
    formats = λ n is. same_gone (still (set_format s n)) refl;
    resends = λ is. same_gone (record (still s) { sends = resend s }) refl;
    crashes = λ is g found. (
      record { file = g; effects = begins s; drives = s.drives; chosen = chosen },
      refl,
      k.free _ (crashed_job s.files f.kept.number g found),
    );
    opened = λ is low g found. opened_gone s.format s.drives s.files (begins s) safe there g found;
  }

  -- The file behind the step has gone one of these ways.
  pub own_goes : (g : File) → file_at (step s chosen i).state.files f.kept.number ≡ Some g → (h : Going) × (h.file ≡ g) × R h
  own_goes g found = each_step s chosen i AllGone cases g found
