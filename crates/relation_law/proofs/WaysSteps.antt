-- How each file goes on in a step of the server: by a request, in a round of all files, or alone.
use Rattle.std.proofs.Common.{◌≡◌, ◌⊎◌, ◌==◌, ◌||◌, ℕ, ◌+◌, Bool, true, false, List, [], ◌∷◌, map, Option, Some, None, refl, sym, ap, subst, ◌∙◌, inl, inr, if◌then◌else◌}
use Rattle.std.proofs.lemmas.Bool.{cases_eq, cases_Bool, eq-eqb, ne_eqb}
use Rattle.server_rules.specs.declared.limits.TheConstants.{GREATEST_TAG}
use Rattle.server_rules.specs.Commit.{Committed, NoGrant, Wrong, Sizes, by_commit, commits}
use Rattle.server_rules.specs.Files.{Step, still, begins, file_at, put_file, add_file, at_file, step_at}
use Rattle.server_rules.specs.Get.{Early, BadMode, Invalid, Unable, Waits, On, Late, NoNumber, Lacks, Conflict, Gives, by_late, late, give_or_refuse, after_fence, fence_first, on_grants, must_fence, by_early, gets}
use Rattle.server_rules.specs.Going.{Going, noting, noting_if, keeping, with_components}
use Rattle.server_rules.specs.History.{Input, step}
use Rattle.server_rules.specs.Jobs.{making, fence_begins, declares, declared_in, is_target, others_than, targets}
use Rattle.server_rules.specs.Laws.{In}
use Rattle.server_rules.specs.Making.{with_file, makes_file, set_format}
use Rattle.server_rules.specs.Messages.{resend}
use Rattle.server_rules.specs.Openings.{crashed_file, is_unsettled, opens_made, opens_fenced, opens, opens_each}
use Rattle.server_rules.specs.Orders.{recalls, offline, declare, declares_each}
use Rattle.layout_ops.specs.declared.statuses.TheConstants.{NFS4ERR_SEQ_MISORDERED}
use Rattle.server_rules.specs.Answers.{plain_answer}
use Rattle.server_rules.specs.Requests.{serves, carried_out, keeps, answer_without, only_answers, size_in}
use Rattle.server_rules.specs.Return.{Returned, NoGrant as NotHeld, Clean, Taken, TooMany, Fencing as ToFence, reports_from, takes_loss, ends_grant, by_return, returns_on}
use Rattle.server_rules.specs.Served.{Served, tells}
use Rattle.server_rules.specs.Standing.{lose_from, lose_on, any_on}
use Rattle.server_rules.specs.Numbers.{among}
use Rattle.server_rules.proofs.FileLaws.{number_at, put_other, add_other, not_there}
use Rattle.server_rules.proofs.Runs.{ran_making}
use Rattle.history_law.specs.Names.{Server, File, Drive, Effects, Component, Grant, Job, Revoking, Note, Spent, Reported, RequestArgs, Get, Commit, Return, ClientRequest}
use Rattle.component_law.specs.Distinct.{AreDistinct}
use Rattle.history_law.specs.Steps.{answered_file, new_file, with_added, with_zoned, StepCases, RequestCases}
use Rattle.history_law.proofs.Files.{put_gives, in_at}
use Rattle.history_law.proofs.Steps.{each_step, each_request}
use Rattle.relation_law.proofs.KeptServer.{at_place}
use Rattle.relation_law.proofs.Places.{keep_here, keep_from}
use Rattle.relation_law.proofs.Walk.{walk_loses, walk_fence, walk_making}
use Rattle.relation_law.proofs.Ways.{Noted, NotedAt, noted_cases, one_more, if_more, IsAlike, alike_here, alike_noted, alike_then, FileWays, Numbered, numbered_ways}

-- ---- what stands behind a step

-- what stands under a number stood there, or is new
pub record HasGone (s : Server) (P : File → Going → Type 0) (n : ℕ) (g : File) (ns : List Note) : Type 0 where
  pub before : File
  pub there : file_at s.files n ≡ Some before
  pub going : Going
  pub is : going.file ≡ g
  pub so : P before going
  pub notes : Noted going.effects.notes ns

abbrev pub Went : (s : Server) → (P : File → Going → Type 0) → (N : File → Type 0) → (n : ℕ) → File → List Note → Type 0
Went s P N n g ns = HasGone s P n g ns ⊎ N g

-- so it is of each file behind a step
abbrev pub AllWent : (s : Server) → (P : File → Going → Type 0) → (N : File → Type 0) → Step → Type 0
AllWent s P N t = (n : ℕ) (g : File) → file_at t.state.files n ≡ Some g → Went s P N n g t.notes

module _ (s : Server) (chosen : List ℕ) (i : Input) (P : File → Going → Type 0) (N : File → Type 0)
    (k : FileWays s chosen i P N) (number : (f : File) (g : Going) → P f g → g.file.kept.number ≡ f.kept.number)
    (apart : AreDistinct s.files) where
  -- ---- a request

  lost_file : (go : Going) (ks : List ℕ) (cs : List Component) (n : ℕ) → (reports_from go ks cs n).file ≡ go.file
  unfolding reports_from
  lost_file go ks [] n = refl
  lost_file go ks (at ∷ cs) n = lost_file (noting_if (among n ks) go (Reported n)) ks cs (n + 1)

  lost_notes : (go : Going) (ks : List ℕ) (cs : List Component) (n : ℕ) →
      Noted go.effects.notes (reports_from go ks cs n).effects.notes
  unfolding reports_from
  lost_notes go ks [] n = λ x j. j
  lost_notes go ks (at ∷ cs) n =
      let h : Going = noting_if (among n ks) go (Reported n) in
      λ x j. lost_notes h ks cs (n + 1) x (if_more go.effects.notes (among n ks) go (Reported n) (λ y q. q) x j)

  taken_alike : (go : Going) (client : ℕ) (ks : List ℕ) → IsAlike go (ends_grant (takes_loss go ks) client)
  unfolding takes_loss
  taken_alike go client ks =
      let h : Going = keeping go (record go.file.kept { components = lose_from ks go.file.kept.components 0 }) in
      let first : IsAlike go h = record {
        job = refl;
        number = refl;
        map = refl;
        phase = refl;
        places = keep_from ks go.file.kept.components 0;
        notes = λ x j. j;
      } in
      let told : Going = reports_from h ks go.file.kept.components 0 in
      alike_then go told (ends_grant told client)
      (alike_then go h told first
      (alike_here h told (lost_file h ks go.file.kept.components 0) (lost_notes h ks go.file.kept.components 0)))
      (record {
        job = refl;
        number = refl;
        map = refl;
        phase = refl;
        places = keep_here told.file.kept.components;
        notes = λ x j. j;
      })

  given_alike : (go : Going) (g : Grant) (l : Late) → IsAlike go (by_late go g l).going
  given_alike go g NoNumber = alike_here go go refl (λ x j. j)
  given_alike go g (Lacks n) = alike_here go go refl (λ x j. j)
  given_alike go g (Conflict holder) = alike_here go go refl (λ x j. j)
  given_alike go g Gives = record {
    job = refl;
    number = refl;
    map = refl;
    phase = refl;
    places = keep_here go.file.kept.components;
    notes = λ x j. j;
  }

  given : (f : File) (go : Going) (next : ℕ) (g : Grant) → P f go → P f (give_or_refuse go next g).going
  unfolding give_or_refuse
  given f go next g p = k.alike f go _ (given_alike go g (late go.file.kept next g)) p

  after : (f : File) (go : Going) (next : ℕ) (g : Grant) (j : Option Job) → P f go → P f (after_fence go next g j).going
  after f go next g None p = given f go next g p
  after f go next g (Some j) p = p

  either : (f : File) (b : Bool) (x y : Served) → P f x.going → P f y.going → P f (if b then x else y).going
  either f true x y p q = p
  either f false x y p q = q

  first : (f : File) (go : Going) (next format : ℕ) (g : Grant) → In f s.files → go.file ≡ f →
      P f (fence_first go next format g).going
  unfolding fence_first
  first f go next format g j same =
      either f (go.file.kept.tag == GREATEST_TAG) _ _
      (k.alike f go (noting go Spent) (alike_noted go Spent) (k.stays f go j same))
      (after f (fence_begins Revoking format go) next g (fence_begins Revoking format go).file.job
      (k.fenced f go Revoking format j same))

  gets_went : (f : File) (go : Going) (next format now : ℕ) (g : Grant) (e : Early) → In f s.files → go.file ≡ f →
      P f (by_early go next format now g e).going
  unfolding on_grants
  gets_went f go next format now g BadMode j same = k.stays f go j same
  gets_went f go next format now g Invalid j same = k.stays f go j same
  gets_went f go next format now g Unable j same = k.stays f go j same
  gets_went f go next format now g (Waits n) j same = k.stays f go j same
  gets_went f go next format now g On j same =
      either f (must_fence now go.file.kept.grants g) _ _ (first f go next format g j same)
      (given f go next g (k.stays f go j same))

  commit_went : (f : File) (go : Going) (c : Committed) → In f s.files → go.file ≡ f → P f (by_commit go c).going
  commit_went f go NoGrant j same = k.stays f go j same
  commit_went f go Wrong j same = k.stays f go j same
  commit_went f go (Sizes size) j same = k.alike f go _ (record {
    job = refl;
    number = refl;
    map = refl;
    phase = refl;
    places = keep_here go.file.kept.components;
    notes = λ x q. q;
  }) (k.stays f go j same)

  return_went : (f : File) (go : Going) (format client : ℕ) (r : Returned) → In f s.files → go.file ≡ f →
      P f (by_return go format client r).going
  return_went f go format client NotHeld j same = k.stays f go j same
  return_went f go format client Clean j same = k.alike f go (ends_grant go client) (record {
    job = refl;
    number = refl;
    map = refl;
    phase = refl;
    places = keep_here go.file.kept.components;
    notes = λ x q. q;
  }) (k.stays f go j same)
  return_went f go format client (Taken ks) j same =
      k.alike f go _ (taken_alike go client ks) (k.stays f go j same)
  return_went f go format client TooMany j same =
      k.alike f go (noting go Spent) (alike_noted go Spent) (k.stays f go j same)
  return_went f go format client ToFence j same = k.fenced f go Revoking format j same

  served_went : (f : File) (go : Going) (next format now client : ℕ) (args : RequestArgs) → In f s.files →
      go.file ≡ f → P f (serves go next format now client args).going
  unfolding gets commits returns_on
  served_went f go next format now client (Get iomode offset count) j same = gets_went f go next format now _ _ j same
  served_went f go next format now client (Commit last) j same = commit_went f go _ j same
  served_went f go next format now client (Return report) j same = return_went f go format client _ j same

  -- ---- the files behind a step

  same_went : (t : Step) → t.state.files ≡ s.files → AllWent s P N t
  same_went t same n g found =
      let there : file_at s.files n ≡ Some g = ap (λ (fs : List File). file_at fs n) (sym same) ∙ found in
      inl (record {
        before = g;
        there = there;
        going = record { file = g; effects = begins s; drives = s.drives; chosen = chosen };
        is = refl;
        so = k.stays g _ (in_at s.files n g there) refl;
        notes = λ x j. absurd j;
      })

  put_went : (t : Step) (f : File) (h : Going) → file_at s.files f.kept.number ≡ Some f → P f h →
      t.state.files ≡ put_file s.files f.kept.number h.file → Noted h.effects.notes t.notes → AllWent s P N t
  put_went t f h there p files notes n g found = elim (cases_eq f.kept.number n) [
    | inl here ↦
        let it : g ≡ h.file =
        put_gives s.files f.kept.number h.file g (number f h p)
        (subst (λ (m : ℕ). file_at (put_file s.files f.kept.number h.file) m ≡ Some g) (sym here)
        (ap (λ (fs : List File). file_at fs n) (sym files) ∙ found)) in
        inl (record {
          before = f;
          there = ap (file_at s.files) (sym here) ∙ there;
          going = h;
          is = sym it;
          so = p;
          notes = notes;
        })
    | inr other ↦
        let old : file_at s.files n ≡ Some g =
        sym (put_other s.files f.kept.number h.file (number f h p) n (ne_eqb f.kept.number n other))
        ∙ ap (λ (fs : List File). file_at fs n) (sym files) ∙ found in
        inl (record {
          before = g;
          there = old;
          going = record { file = g; effects = begins s; drives = s.drives; chosen = chosen };
          is = refl;
          so = k.stays g _ (in_at s.files n g old) refl;
          notes = λ x j. absurd j;
        })
  ]

  at_number : (n : ℕ) (f : File) → file_at s.files n ≡ Some f → file_at s.files f.kept.number ≡ Some f
  at_number n f found = ap (file_at s.files) (number_at s.files n f found) ∙ found

  made_went : (t : Step) (f g : File) → g.kept.number ≡ f.kept.number → N g →
      t.state.files ≡ put_file (add_file s.files f) f.kept.number g → AllWent s P N t
  made_went t f g named new files n h found =
      let there = ap (λ (fs : List File). file_at fs n) (sym files) ∙ found in
      elim (cases_eq f.kept.number n) [
        | inl here ↦
            let it : h ≡ g =
            put_gives (add_file s.files f) f.kept.number g h named
            (subst (λ (m : ℕ). file_at (put_file (add_file s.files f) f.kept.number g) m ≡ Some h) (sym here) there) in
            inr (subst N (sym it) new)
        | inr other ↦
            let old : file_at s.files n ≡ Some h =
            sym (add_other s.files f n (ne_eqb f.kept.number n other))
            ∙ sym (put_other (add_file s.files f) f.kept.number g named n (ne_eqb f.kept.number n other)) ∙ there in
            inl (record {
              before = h;
              there = old;
              going = record { file = h; effects = begins s; drives = s.drives; chosen = chosen };
              is = refl;
              so = k.stays h _ (in_at s.files n h old) refl;
              notes = λ x j. absurd j;
            })
      ]

  crashed_went : (fs : List File) → ((f : File) → In f fs → In f s.files) → (n : ℕ) (g : File) →
      file_at (map crashed_file fs) n ≡ Some g → (f : File) × (file_at fs n ≡ Some f) × In f fs × (g ≡ crashed_file f)
  unfolding file_at
  crashed_went [] all n g found = absurd (cc found)
  crashed_went (f ∷ fs) all n g found = elim (cases_Bool (f.kept.number == n)) [
    | inl here ↦ rw here (f, refl, inl refl, cc (sym (rw here at found)))
    | inr past ↦
        let r = crashed_went fs (λ x j. all x (inr j)) n g (rw past at found) in
        rw past (r.0, r.1, inr r.2, r.3)
  ]

  -- ---- rounds

  declares_notes : (ns : List Note) (drive : ℕ) (g : Going) → Noted ns g.effects.notes →
      Noted ns (declares g drive).effects.notes
  unfolding declares
  declares_notes ns drive g q =
      let h : Going = with_components g (lose_on drive g.file.kept.components) in
      pick (any_on drive g.file.kept.components || targets g.file.job drive) (declared_in h drive g.file.job) g
      (by_job h g.file.job q) q
    where
      pick : (b : Bool) (x y : Going) → Noted ns x.effects.notes → Noted ns y.effects.notes →
          Noted ns (if b then x else y).effects.notes
      pick true x y p r = p
      pick false x y p r = r

      by_job : (h : Going) (o : Option Job) → Noted ns h.effects.notes → Noted ns (declared_in h drive o).effects.notes
      by_job h None p = p
      by_job h (Some j) p =
          walk_loses (NotedAt ns) (λ x. Noted ns x.effects.notes) (noted_cases ns) h j j.work (others_than drive j.awaited)
          (is_target j.work drive) refl (record { waits = λ c cs e. p; stays = p; on = λ rest. p })

  opens_notes : (ns : List Note) (format : ℕ) (g : Going) → Noted ns g.effects.notes →
      Noted ns (opens format g).effects.notes
  unfolding opens opens_fenced
  opens_notes ns format g q =
      pick (is_unsettled g.file.kept) _ _
      (pick (g.file.kept.tag == GREATEST_TAG) _ _
      (one_more ns g.effects.notes _ q)
      (walk_fence (NotedAt ns) (λ x. Noted ns x.effects.notes) (noted_cases ns) Revoking format g q))
      (by_ready g.file.kept.ready)
    where
      pick : (b : Bool) (x y : Going) → Noted ns x.effects.notes → Noted ns y.effects.notes →
          Noted ns (if b then x else y).effects.notes
      pick true x y p r = p
      pick false x y p r = r

      by_ready : (b : Bool) → Noted ns (opens_made g b).effects.notes
      by_ready true = q
      by_ready false = walk_making (NotedAt ns) (λ x. Noted ns x.effects.notes) (noted_cases ns) g q

  declares_grow : (ns : List Note) (drive : ℕ) (ds : List Drive) (fs : List File) (m : Effects) (placed : List ℕ) →
      Noted ns m.notes → Noted ns (declares_each drive ds fs m placed).effects.notes
  unfolding declares_each
  declares_grow ns drive ds [] m placed q = q
  declares_grow ns drive ds (f ∷ fs) m placed q =
      let g : Going = declares (record { file = f; effects = m; drives = ds; chosen = placed }) drive in
      declares_grow ns drive ds fs g.effects g.chosen
      (declares_notes ns drive (record { file = f; effects = m; drives = ds; chosen = placed }) q)

  opens_grow : (ns : List Note) (format : ℕ) (ds : List Drive) (fs : List File) (m : Effects) →
      Noted ns m.notes → Noted ns (opens_each format ds fs m).effects.notes
  unfolding opens_each
  opens_grow ns format ds [] m q = q
  opens_grow ns format ds (f ∷ fs) m q =
      let g : Going = opens format (record { file = f; effects = m; drives = ds; chosen = [] }) in
      opens_grow ns format ds fs g.effects
      (opens_notes ns format (record { file = f; effects = m; drives = ds; chosen = [] }) q)

  -- the file of a round
  record IsRound (fs : List File) (n : ℕ) (g : File) (ns : List Note) : Type 0 where
    before : File
    there : file_at fs n ≡ Some before
    going : Going
    is : going.file ≡ g
    so : P before going
    notes : Noted going.effects.notes ns

  round_next : (f h : File) (fs gs : List File) (n : ℕ) (g : File) (ns : List Note) → h.kept.number ≡ f.kept.number →
      (f.kept.number ≡ n → h ≡ g → IsRound (f ∷ fs) n g ns) → (file_at gs n ≡ Some g → IsRound fs n g ns) →
      file_at (h ∷ gs) n ≡ Some g → IsRound (f ∷ fs) n g ns
  unfolding file_at
  round_next f h fs gs n g ns same own later found = elim (cases_eq f.kept.number n) [
    | inl here ↦ own here (cc (rw (eq-eqb h.kept.number n (same ∙ here)) at found))
    | inr other ↦
        let r = later (rw (ne_eqb h.kept.number n (λ (e : h.kept.number ≡ n). other (sym same ∙ e))) at found) in
        record {
          before = r.before;
          there = rw (ne_eqb f.kept.number n other) r.there;
          going = r.going;
          is = r.is;
          so = r.so;
          notes = r.notes;
        }
  ]

  none_there : (n : ℕ) (g : File) → file_at [] n ≡ Some g → ⊥
  unfolding file_at
  none_there n g found = cc found

  front_there : (f : File) (fs : List File) (n : ℕ) → f.kept.number ≡ n → file_at (f ∷ fs) n ≡ Some f
  unfolding file_at
  front_there f fs n here = rw (eq-eqb f.kept.number n here) refl

  declares_went : (drive : ℕ) (ds : List Drive) (fs : List File) (m : Effects) (placed : List ℕ) →
      ((f : File) → In f fs → In f s.files) → (n : ℕ) (g : File) →
      file_at (declares_each drive ds fs m placed).files n ≡ Some g →
      IsRound fs n g (declares_each drive ds fs m placed).effects.notes
  unfolding declares_each
  declares_went drive ds [] m placed all n g found = absurd (none_there n g found)
  declares_went drive ds (f ∷ fs) m placed all n g found =
      let go : Going = record { file = f; effects = m; drives = ds; chosen = placed } in
      let h : Going = declares go drive in
      let p : P f h = k.declared f go drive (all f (inl refl)) refl in
      round_next f h.file fs (declares_each drive ds fs h.effects h.chosen).files n g _ (number f h p)
      (λ here same. record {
        before = f;
        there = front_there f fs n here;
        going = h;
        is = same;
        so = p;
        notes = declares_grow h.effects.notes drive ds fs h.effects h.chosen (λ x j. j);
      })
      (declares_went drive ds fs h.effects h.chosen (λ x j. all x (inr j)) n g) found

  opens_went : (format : ℕ) (ds : List Drive) (fs : List File) (m : Effects) →
      ((f : File) → In f fs → In f s.files) → (n : ℕ) (g : File) →
      file_at (opens_each format ds fs m).files n ≡ Some g →
      IsRound fs n g (opens_each format ds fs m).effects.notes
  unfolding opens_each
  opens_went format ds [] m all n g found = absurd (none_there n g found)
  opens_went format ds (f ∷ fs) m all n g found =
      let go : Going = record { file = f; effects = m; drives = ds; chosen = [] } in
      let h : Going = opens format go in
      let p : P f h = k.opened f go format (all f (inl refl)) refl in
      round_next f h.file fs (opens_each format ds fs h.effects).files n g _ (number f h p)
      (λ here same. record {
        before = f;
        there = front_there f fs n here;
        going = h;
        is = same;
        so = p;
        notes = opens_grow h.effects.notes format ds fs h.effects (λ x j. j);
      })
      (opens_went format ds fs h.effects (λ x j. all x (inr j)) n g) found

  round_went : (n : ℕ) (g : File) (ns : List Note) → IsRound s.files n g ns → Went s P N n g ns
  round_went n g ns r = inl (record {
    before = r.before;
    there = r.there;
    going = r.going;
    is = r.is;
    so = r.so;
    notes = r.notes;
  })

  -- ---- any step

  requests : (now : ℕ) (q : ClientRequest) → RequestCases s now chosen q (AllWent s P N)
  requests now q = record {
    again = λ kept is. same_went (only_answers s kept) refl;
    misordered = λ expected is.
        same_went (only_answers s (plain_answer q (tells NFS4ERR_SEQ_MISORDERED expected) (size_in (file_at s.files q.file))))
        refl;
    without = λ is none. same_went (only_answers (keeps s (answer_without q)) (answer_without q)) refl;
    served = λ is f found.
        let v : Served = serves (at_file s chosen f) s.next_grant s.format now q.client q.args in
        put_went (carried_out s q v) f v.going (at_number q.file f found)
        (served_went f (at_file s chosen f) s.next_grant s.format now q.client q.args (in_at s.files q.file f found) refl)
        (ap (λ (n : ℕ). put_file s.files n v.going.file) (sym (number_at s.files q.file f found))) (λ x j. j);
  }

  cases : StepCases s chosen i (AllWent s P N)
  unfolding declare
  cases = record {
    rests = same_went (still s) refl;
    asked = λ now q is. each_request s now chosen q (AllWent s P N) (requests now q);
    answered = λ x is.
        let h : Going = answered_file s chosen x in
        put_went (step_at s h.file.kept.number h) x.file h (at_place s.files x.file apart is.there) (k.heard x is)
        (ap (λ (n : ℕ). put_file s.files n h.file) (number x.file h (k.heard x is))) (λ y j. j);
    recalled = λ f is. same_went (recalls s f).step refl;
    refused = λ f is n why.
        let h : Going = noting (at_file s chosen f) n in
        put_went (step_at s f.kept.number h) f h (at_number is.target f is.found)
        (k.alike f (at_file s chosen f) h (alike_noted (at_file s chosen f) n)
        (k.stays f (at_file s chosen f) (in_at s.files is.target f is.found) refl)) refl (λ y j. j);
    fenced = λ f is kind none low.
        let h : Going = fence_begins kind s.format (at_file s chosen f) in
        put_went (step_at s f.kept.number h) f h (at_number is.target f is.found)
        (k.fenced f (at_file s chosen f) kind s.format (in_at s.files is.target f is.found) refl) refl (λ y j. j);
    declared = λ d known n g found.
        round_went n g _ (declares_went d (offline s.drives d) s.files (begins s) chosen (λ f j. j) n g found);
    told = λ t now o is result went. went;
    made = λ n m tag zoned is none.
        let f : File = new_file s chosen n m tag zoned in
        made_went (makes_file s f) f (making (at_file (with_file s f) [] f)).file
        (ran_making (at_file (with_file s f) [] f)).number (k.made f (not_there s n m zoned none) refl) refl;
    added = λ d is. same_went (still (with_added s d)) refl;
    zoned = λ d zone is. same_went (still (with_zoned s d zone)) refl;
    formats = λ n is. same_went (still (set_format s n)) refl;
    resends = λ is. same_went (record (still s) { sends = resend s }) refl;
    crashes = λ is n g found.
        let r = crashed_went s.files (λ f j. j) n g found in
        inl (record {
          before = r.0;
          there = r.1;
          going = record { file = g; effects = begins s; drives = s.drives; chosen = chosen };
          is = refl;
          so = k.crashed r.0 _ r.2 r.3;
          notes = λ x j. absurd j;
        });
    opened = λ is low n g found.
        round_went n g _ (opens_went s.format s.drives s.files (begins s) (λ f j. j) n g found);
  }

  files_went : AllWent s P N (step s chosen i)
  files_went = each_step s chosen i (AllWent s P N) cases

-- Each file behind a step has gone one of these ways, or is new.
pub files_go : (s : Server) (chosen : List ℕ) (i : Input) (P : File → Going → Type 0) (N : File → Type 0) →
    FileWays s chosen i P N → AreDistinct s.files → AllWent s P N (step s chosen i)
files_go s chosen i P N k apart n g found =
    elim (files_went s chosen i (Numbered P) N (numbered_ways s chosen i P N k) (λ f h p. p.0) apart n g found) [
      | inl x ↦ inl (record {
        before = x.before;
        there = x.there;
        going = x.going;
        is = x.is;
        so = x.so.1;
        notes = x.notes;
      })
      | inr new ↦ inr new
    ]
