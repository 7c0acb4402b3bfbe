-- A return on a file: what the machine has behind its step.
-- Towards `KeptGoesOn` (`specs/Steps.antt`).
use Rattle.std.proofs.Common.{◌≡◌, ◌==◌, ℕ, ◌+◌, Bool, true, false, not, List, [], ◌∷◌, ◌++◌, is_some, Option, Some, None, refl, sym, ap, subst, ◌∙◌, arith, inl, inr}
use Rattle.std.proofs.lemmas.Bool.{true≢false, cases_Bool, eq-eqb}
use Rattle.std.proofs.lemmas.List.{append-nil}
use Rattle.layout_ops.specs.declared.statuses.TheConstants.{NFS4_OK, NFS4ERR_LAYOUTUNAVAILABLE}
use Rattle.server_rules.specs.declared.limits.TheConstants.{GREATEST_TAG, NO_COMPONENT, LOSS_TAKEN}
use Rattle.component_law.specs.Tagged.{fence_open}
use Rattle.client_rules.specs.Answers.{is_loss_taken}
use Rattle.server_rules.specs.Files.{at_file}
use Rattle.server_rules.specs.Going.{Going, noting, noting_if, with_components}
use Rattle.server_rules.specs.Grants.{grant_of}
use Rattle.server_rules.specs.History.{Input}
use Rattle.server_rules.specs.Jobs.{ending, fence_begins}
use Rattle.server_rules.specs.Numbers.{among}
use Rattle.server_rules.specs.Requests.{answer_with}
use Rattle.server_rules.specs.Return.{Returned, NoGrant, Clean, Taken, TooMany, Fencing, return_row, by_grant, by_report, by_loss, loss, ends_grant, reports_from, takes_loss, by_return, returns_on}
use Rattle.server_rules.specs.Served.{Served, says}
use Rattle.server_rules.specs.Standing.{lose_from}
use Rattle.world_history.specs.ServerNames.{Server, File, Kept, Still, Grant, Note, NoteKind, Spent, Reported, NoSpace, Rebuilt, Fenced as IsFenced, Repaired as IsRepaired, Component, Revoking, IoErr, ClientRequest, Return as Returns}
use Rattle.world_history.specs.State.{World, at_number}
use Rattle.file_simulation.specs.Components.{has_failed}
use Rattle.fence_law.specs.State as machine
use Rattle.fence_law.specs.State.{State, Event}
use Rattle.fence_law.specs.State.{Event as event}
use Rattle.fence_law.specs.State.RequestKind.{Return}
use Rattle.fence_law.specs.Machine.{Lawful, after, after_all}
use Rattle.fence_law.proofs.Safe.{Safe, keep_safe, safe_all}
use Rattle.file_simulation.specs.EventLists.{where_so, entry_of}
use Rattle.file_simulation.specs.ServerEvents.{fences, returned, answered_here, noted, noted_here, reported, asker, lacks_space, cells_made}
use Rattle.relation_law.specs.KeptAsked.{AsksAs, ReturnIs, IsClean, IsNothing, IsBroken, IsReport}
use Rattle.relation_law.specs.KeptSteps.{AllLight, notes_events, behind_notes, IsSoFar, IsKeptAt, IsDone}
use Rattle.component_law.specs.KeptWalk.{AreAlike, is_plain, noted_of}
use Rattle.component_law.proofs.KeptJobs.{same_but_components}
use Rattle.component_law.proofs.KeptJobs.{ends_fence}
use Rattle.relation_law.proofs.KeptHigh.{high_after}
use Rattle.relation_law.proofs.KeptLight.{so_far_light}
use Rattle.relation_law.proofs.KeptNotes.{AreSupplied, IsBehind, walked, events_more, after_both, lawful_front, lawful_back}
use Rattle.relation_law.proofs.KeptEnds.{so_far_from, kept_from, begins_so_far, fence_shows}
use Rattle.relation_law.proofs.KeptOpens.{none_shows}
use Rattle.relation_law.proofs.KeptReturns.{frees_dropped, leaves_dropped, none_kept, left_kept, granted_still}
use Rattle.relation_law.proofs.KeptRounds.{begun, done}
use Rattle.relation_law.proofs.KeptServer.{light_kept, busy_some}

-- ---- which row it is

row_none : (k : Kept) (c : ℕ) (report : List IoErr) → return_row k c report ≡ NoGrant → grant_of k.grants c ≡ None
unfolding return_row
row_none k c report is = by (grant_of k.grants c) refl is
  where
    loss_row : (o : Option (List ℕ)) → by_loss k o ≡ NoGrant → ⊥
    loss_row (Some ks) e = cc e
    loss_row None e = elim (cases_Bool (k.tag == GREATEST_TAG)) [ inl b ↦ cc (rw b at e) | inr b ↦ cc (rw b at e) ]

    report_row : (g : Grant) (es : List IoErr) → by_report k g es ≡ NoGrant → ⊥
    report_row g [] e = cc e
    report_row g (x ∷ es) e = loss_row (loss k g (x ∷ es)) e

    by : (o : Option Grant) → grant_of k.grants c ≡ o → by_grant k report o ≡ NoGrant → grant_of k.grants c ≡ None
    by None found e = found
    by (Some g) found e = absurd (report_row g report e)

row_some : (k : Kept) (c : ℕ) (report : List IoErr) → (return_row k c report ≡ NoGrant → ⊥)
    → (g : Grant) × (grant_of k.grants c ≡ Some g)
unfolding return_row
row_some k c report other = by (grant_of k.grants c) refl other
  where
    by : (o : Option Grant) → grant_of k.grants c ≡ o → (by_grant k report o ≡ NoGrant → ⊥)
        → (g : Grant) × (grant_of k.grants c ≡ Some g)
    by None found n = absurd (n refl)
    by (Some g) found n = (g, found)

-- ---- the components that a report names are noted

module _ (Q : Kept → List Note → Type 0)
    (alike : (k l : Kept) (ns : List Note) → AreAlike k l → Q k ns → Q l ns)
    (plain : (k : Kept) (ns : List Note) (kind : NoteKind) → is_plain kind ≡ true → Q k ns → Q k (noted_of k ns kind)) where
  if_reported : (b : Bool) (go : Going) (k : ℕ) → Q go.file.kept go.effects.notes
      → Q (noting_if b go (Reported k)).file.kept (noting_if b go (Reported k)).effects.notes
  if_reported true go k h = plain go.file.kept go.effects.notes (Reported k) refl h
  if_reported false go k h = h

  all_reported : (go : Going) (ks : List ℕ) (cs : List Component) (k : ℕ) → Q go.file.kept go.effects.notes
      → Q (reports_from go ks cs k).file.kept (reports_from go ks cs k).effects.notes
  unfolding reports_from
  all_reported go ks [] k h = h
  all_reported go ks (at ∷ cs) k h =
      all_reported (noting_if (among k ks) go (Reported k)) ks cs (k + 1) (if_reported (among k ks) go k h)

  pub loss_walked : (go : Going) (ks : List ℕ) → Q go.file.kept go.effects.notes
      → Q (takes_loss go ks).file.kept (takes_loss go ks).effects.notes
  unfolding takes_loss
  loss_walked go ks h =
      all_reported (with_components go (lose_from ks go.file.kept.components 0)) ks go.file.kept.components 0
      (alike go.file.kept (record go.file.kept { components = lose_from ks go.file.kept.components 0 }) go.effects.notes
      (same_but_components go.file.kept (lose_from ks go.file.kept.components 0)) h)

-- nothing else of the file changes, and a client's grant of the machine stays
job_reported : (go : Going) (ks : List ℕ) (cs : List Component) (k : ℕ) → (reports_from go ks cs k).file.job ≡ go.file.job
unfolding reports_from
job_reported go ks [] k = refl
job_reported go ks (at ∷ cs) k = job_reported (noting_if (among k ks) go (Reported k)) ks cs (k + 1) ∙ flag (among k ks)
  where
    flag : (b : Bool) → (noting_if b go (Reported k)).file.job ≡ go.file.job
    flag true = refl
    flag false = refl

pub loss_job : (go : Going) (ks : List ℕ) → (takes_loss go ks).file.job ≡ go.file.job
unfolding takes_loss
loss_job go ks =
    job_reported (with_components go (lose_from ks go.file.kept.components 0)) ks go.file.kept.components 0

-- ---- what clients hold stays through notes

where_held : (s : State) (b : Bool) (es : List Event) → (after_all s es).held ≡ s.held
    → (after_all s (where_so b es)).held ≡ s.held
where_held s true es e = e
where_held s false es e = refl

space_held : (s : State) (missing lost : Bool) (k : ℕ) → (after_all s (lacks_space missing lost k)).held ≡ s.held
space_held s true lost k = refl
space_held s false true k = refl
space_held s false false k = refl

reported_held : (s : State) (k : ℕ) (o : Option ℕ) → (after_all s (reported k o)).held ≡ s.held
reported_held s k None = refl
reported_held s k (Some c) = refl

here_held : (s : State) (w : World) (f : File) (i : Input) (kind : NoteKind) → is_plain kind ≡ true
    → (after_all s (noted_here s w f i kind)).held ≡ s.held
here_held s w f i (IsFenced tag) p = absurd (true≢false (sym p))
here_held s w f i (IsRepaired stripes short) p = absurd (true≢false (sym p))
here_held s w f i (NoSpace k) p = space_held s (s.missing k) (s.lost k) k
here_held s w f i (Reported k) p = reported_held s k (asker i)
here_held s w f i (Rebuilt k d) p =
    where_held (after s (event.Rebuilds k (cells_made s f.kept.map f.kept.high k))) (has_failed (at_number w.drives d))
    (event.Fails k ∷ []) refl
here_held s w f i kind p = refl

module _ (t : State) (w : World) (f : File) (i : Input) where
  abbrev Holds_ : Kept → List Note → Type 0
  Holds_ k ns = (behind_notes t w f i ns).held ≡ t.held

  holds_more : (k : Kept) (ns : List Note) (kind : NoteKind) → is_plain kind ≡ true → Holds_ k ns → Holds_ k (noted_of k ns kind)
  holds_more k ns kind p h =
      let n : Note = record { file = k.number; kind = kind } in
      let u : State = behind_notes t w f i ns in
      ap (λ (es : List Event). (after_all t es).held) (events_more t w f i ns n)
      ∙ ap (λ (x : State). x.held) (after_both t (notes_events t w f i ns) (noted u w f i n))
      ∙ where_held u (k.number == f.kept.number) (noted_here u w f i kind) (here_held u w f i kind p) ∙ h

-- ---- the answer

-- its events
abbrev pub return_answer : Server → ClientRequest → List IoErr → Served → State → List Event
return_answer server q report v u = answered_here u q.client (Returns report) (answer_with server q v) v.going.file

module _ (next : ℕ) (t : State) (w : World) (f : File) (i : Input) (Given : List Note → Type 0) (safe : Safe t)
    (server : Server) (q : ClientRequest) (report : List IoErr) (is : q.args ≡ Returns report) where
  abbrev answer_of : Served → State → List Event
  answer_of v u = return_answer server q report v u

  -- a return that isn't taken as a loss has none
  pub plain_asks : (v : Served) → IsDone next t w f i Given v.going → is_loss_taken (answer_with server q v) ≡ false
      → v.numbers ≡ 0
      → AsksAs (next + v.numbers) t w f i (Given v.going.effects.notes) v.going.effects.notes (answer_of v) v.going.file
  plain_asks v d e n = record {
    lawful = d.lawful;
    kept = λ x l.
        let u : State = behind_notes t w f i v.going.effects.notes in
        let same : next ≡ next + v.numbers = omega (arith, n) in
        subst (λ (m : ℕ). IsKeptAt m (after_all u (answer_of v u)) v.going.file) same
        (rw e (d.kept x));
  }

-- ---- where no fence begins

module _ (next : ℕ) (s : State) (w : World) (f : File) (i : Input) (Given : State → List Note → Type 0)
    (supplied : (busy : Bool) (t : State) → AreSupplied next busy t w f i (Given t)) (safe : Safe s) (h : IsKeptAt next s f)
    (chosen : List ℕ) (q : ClientRequest) (report : List IoErr) (is : q.args ≡ Returns report) where
  abbrev go : Going
  go = at_file w.server chosen f

  abbrev c : ℕ
  c = q.client

  -- the first line's events, and what the machine has behind them, the notes and the answer
  pub record ReturnsOn (v : Served) : Type 0 where
    pub events : List Event
    pub seen : returned s c (s.waiting c) f v.going.file ≡ events
    pub asks : Lawful s events
        → AsksAs (next + v.numbers) (after_all s events) w f i (Given (after_all s events) v.going.effects.notes)
        v.going.effects.notes (return_answer w.server q report v) v.going.file

  no_fence : (g : File) → g.kept.phase ≡ f.kept.phase → g.kept.tag ≡ f.kept.tag → fences f g ≡ []
  no_fence g p e = ap (λ (b : Bool). where_so b (event.Fences ∷ [])) (none_shows f g p e)

  -- the file stays, behind light events
  still_done : (es : List Event) → AllLight es → Lawful s es
      → IsDone next (after_all s es) w f i (Given (after_all s es)) go
  unfolding notes_events
  still_done es l a = record { number = refl; lawful = λ x. tt; kept = λ x. light_kept next s es f l a safe h }

  spent_done : (es : List Event) → AllLight es → Lawful s es
      → IsDone next (after_all s es) w f i (Given (after_all s es)) (noting go Spent)
  unfolding notes_events
  spent_done es l a = record {
    number = refl;
    lawful = λ x. rw (eq-eqb f.kept.number f.kept.number refl) tt;
    kept = λ x. rw (eq-eqb f.kept.number f.kept.number refl) (light_kept next s es f l a safe h);
  }

  -- nothing is done, or the tag is spent
  nothing_on : (es : List Event) → AllLight es → returned s c (s.waiting c) f f ≡ es → ReturnsOn (says go NFS4_OK 0)
  nothing_on es l seen = record {
    events = es;
    seen = seen;
    asks = λ a.
        plain_asks next (after_all s es) w f i (Given (after_all s es)) (safe_all s es a safe) w.server q report is
        (says go NFS4_OK 0) (still_done es l a) (rw is refl) refl;
  }

  spent_on : (es : List Event) → AllLight es → returned s c (s.waiting c) f f ≡ es
      → ReturnsOn (says (noting go Spent) NFS4ERR_LAYOUTUNAVAILABLE NO_COMPONENT)
  spent_on es l seen = record {
    events = es;
    seen = seen;
    asks = λ a.
        plain_asks next (after_all s es) w f i (Given (after_all s es)) (safe_all s es a safe) w.server q report is
        (says (noting go Spent) NFS4ERR_LAYOUTUNAVAILABLE NO_COMPONENT) (spent_done es l a) (rw is refl) refl;
  }

  -- a clean return of a client that has no grant, or of one that has
  freed_nothing : returned s c (s.waiting c) f f ≡ event.Frees c ∷ [] → grant_of f.kept.grants c ≡ None
      → ReturnsOn (says go NFS4_OK 0)
  unfolding notes_events
  freed_nothing seen none = record {
    events = event.Frees c ∷ [];
    seen = seen;
    asks = λ a.
        let t : State = after s (event.Frees c) in
        plain_asks next t w f i (Given t) (keep_safe s (event.Frees c) a.0 safe) w.server q report is
        (says go NFS4_OK 0)
        (record {
          number = refl;
          lawful = λ x. tt;
          kept = λ x.
              none_kept next s t f c (frees_dropped s c) none (high_after f s (event.Frees c) a.0 tt safe h.low) h;
        }) (rw is refl) refl;
  }

  freed : returned s c (s.waiting c) f (ends_grant go c).file ≡ event.Frees c ∷ [] → (g : Grant)
      → grant_of f.kept.grants c ≡ Some g → ReturnsOn (says (ends_grant go c) NFS4_OK 0)
  unfolding notes_events
  freed seen g has = record {
    events = event.Frees c ∷ [];
    seen = seen;
    asks = λ a.
        let t : State = after s (event.Frees c) in
        plain_asks next t w f i (Given t) (keep_safe s (event.Frees c) a.0 safe) w.server q report is
        (says (ends_grant go c) NFS4_OK 0)
        (record {
          number = refl;
          lawful = λ x. tt;
          kept = λ x.
              left_kept next s t f c (frees_dropped s c) (granted_still s f c g has f.kept.phase h.phase)
              (high_after f s (event.Frees c) a.0 tt safe h.low) h;
        }) (rw is refl) refl;
  }

  -- ---- where a fence begins

  abbrev fence_events : List Event
  fence_events = where_so (not (fence_open f.kept)) (event.Fences ∷ [])

  fence_seen : fences f (fence_begins Revoking w.server.format go).file ≡ fence_events
  fence_seen = ap (λ (b : Bool). where_so b (event.Fences ∷ [])) (elim (cases_Bool (fence_open f.kept)) [
    | inl o ↦ rw o refl
    | inr o ↦ fence_shows Revoking w.server.format go o ∙ sym (ap not o)
  ])

  -- with light events before it and behind it
  fenced : (front back : List Event) → AllLight front → AllLight back
      → returned s c (s.waiting c) f (fence_begins Revoking w.server.format go).file ≡ front ++ (fence_events ++ back)
      → ReturnsOn (says (fence_begins Revoking w.server.format go) NFS4_OK 0)
  unfolding notes_events
  fenced front back lf lb seen = record {
    events = front ++ (fence_events ++ back);
    seen = seen;
    asks = λ a.
        let es : List Event = front ++ (fence_events ++ back) in
        let t : State = after_all s es in
        let u : State = after_all s front in
        let v : State = after_all u fence_events in
        let af : Lawful s front = lawful_front s front (fence_events ++ back) a in
        let am : Lawful u (fence_events ++ back) = lawful_back s front (fence_events ++ back) a in
        let ae : Lawful u fence_events = lawful_front u fence_events back am in
        let ab : Lawful v back = lawful_back u fence_events back am in
        let su : Safe u = safe_all s front af safe in
        let sv : Safe v = safe_all u fence_events ae su in
        let k : IsKeptAt next u f = light_kept next s front f lf af safe h in
        let so : IsSoFar next true v (ending f.kept w.server.format) =
        begins_so_far next u f.kept w.server.format f.kept.phase refl ae su false
        (so_far_from next false u f (λ b. absurd (true≢false (sym b))) k) in
        let last : IsSoFar next true (after_all v back) (ending f.kept w.server.format) =
        so_far_light next true v back (ending f.kept w.server.format) lb ab sv so in
        let same : t ≡ after_all v back =
        after_both s front (fence_events ++ back) ∙ after_both u fence_events back in
        let st : Safe t = safe_all s es a safe in
        let e = ends_fence (IsBehind next true t w f i (Given t)) (walked next true t w f i (Given t) (supplied true t) st)
        Revoking w.server.format go
        (begun next t w f i (Given t) (λ b. supplied b t) true (ending f.kept w.server.format) [] refl refl refl
        (subst (λ (x : State). IsSoFar next true x (ending f.kept w.server.format)) (sym same) last)) in
        plain_asks next t w f i (Given t) st w.server q report is
        (says (fence_begins Revoking w.server.format go) NFS4_OK 0)
        (done next t w f i (Given t) (λ b. supplied b t) true (fence_begins Revoking w.server.format go)
        (λ b. absurd (true≢false b)) e.0) (rw is refl) refl;
  }

  -- ---- a report that is taken as a loss

  abbrev lost_file : List ℕ → Going
  lost_file ks = takes_loss go ks

  -- the file's phase, tag and grants are the same
  abbrev Same : Kept → List Note → Type 0
  Same k ns = (k.phase ≡ f.kept.phase) × (k.tag ≡ f.kept.tag) × (k.grants ≡ f.kept.grants)

  loss_same : (ks : List ℕ) → Same (lost_file ks).file.kept (lost_file ks).effects.notes
  loss_same ks =
      loss_walked Same (λ k l ns a e. (a.phase ∙ e.0, a.tag ∙ e.1, a.grants ∙ e.2)) (λ k ns kind p e. e) go ks
      (refl, refl, refl)

  taken : (ks : List ℕ) → returned s c (s.waiting c) f (ends_grant (lost_file ks) c).file ≡ event.ServesOther c ∷ []
      → (g : Grant) → grant_of f.kept.grants c ≡ Some g → (x : machine.Grant) → s.held c ≡ Some x
      → ReturnsOn (says (ends_grant (lost_file ks) c) NFS4_OK LOSS_TAKEN)
  unfolding notes_events
  taken ks seen g has x holds =
      let same = loss_same ks in
      let G : Going = lost_file ks in
      let t : State = after s (event.ServesOther c) in
      let v : Served = says (ends_grant G c) NFS4_OK LOSS_TAKEN in
      let busy : Bool = is_some f.job in
      let b = busy_some f.job in
      record {
        events = event.ServesOther c ∷ [];
        seen = seen;
        asks = λ a.
            let st : Safe t = keep_safe s (event.ServesOther c) a.0 safe in
            let k : IsKeptAt next t f = light_kept next s (event.ServesOther c ∷ []) f (refl, tt) a safe h in
            let walk = walked next busy t w f i (Given t) (supplied busy t) st in
            let e = loss_walked (IsBehind next busy t w f i (Given t)) walk.alike walk.plain go ks
            (begun next t w f i (Given t) (λ z. supplied z t) busy f.kept [] refl refl refl (so_far_from next busy t f b.0 k)) in
            let held : (behind_notes t w f i G.effects.notes).held ≡ t.held =
            loss_walked (Holds_ t w f i) (λ n l ns z m. m) (holds_more t w f i) go ks refl in
            record {
              lawful = e.lawful;
              kept = λ given l.
                  let u : State = behind_notes t w f i G.effects.notes in
                  let su : Safe u = safe_all t (notes_events t w f i G.effects.notes) (e.lawful given) st in
                  let ku : IsKeptAt next u G.file =
                  kept_from next busy u G.file (λ z. loss_job go ks ∙ b.1 z) (e.so_far given) in
                  let is_ : return_answer w.server q report v u ≡
                  event.Acknowledges c (entry_of u c) ∷ (event.Leaves c x ∷ []) =
                  rw (is, ap (λ (y : ℕ → Option machine.Grant). y c) held, holds) refl in
                  let l2 : Lawful u (event.Acknowledges c (entry_of u c) ∷ (event.Leaves c x ∷ [])) =
                  subst (Lawful u) is_ l in
                  let m : State = after u (event.Acknowledges c (entry_of u c)) in
                  let sm : Safe m = keep_safe u (event.Acknowledges c (entry_of u c)) l2.0 su in
                  let km : IsKeptAt next m G.file =
                  light_kept next u (event.Acknowledges c (entry_of u c) ∷ []) G.file (refl, tt) (l2.0, tt) su ku in
                  let still : G.file.kept.phase ≡ Still =
                  granted_still m G.file c g (ap (λ (gs : List Grant). grant_of gs c) same.2 ∙ has) G.file.kept.phase km.phase in
                  let last : IsKeptAt next (after m (event.Leaves c x)) (ends_grant G c).file =
                  left_kept next m (after m (event.Leaves c x)) G.file c (leaves_dropped m c x) still
                  (high_after G.file m (event.Leaves c x) l2.1.0 tt sm km.low) km in
                  let n : next ≡ next + 0 = omega arith in
                  subst (λ (es : List Event). IsKeptAt (next + 0) (after_all u es) (ends_grant G c).file) (sym is_)
                  (subst (λ (z : ℕ). IsKeptAt z (after m (event.Leaves c x)) (ends_grant G c).file) n last);
            };
      }

  -- ---- by the row

  pub returns_on_row : (r : Returned) → return_row f.kept c report ≡ r → ReturnIs s c r
      → ReturnsOn (by_return go w.server.format c r)
  returns_on_row r row (IsClean waits asked_ clean) =
      let some = row_some f.kept c report (λ n. absurd (cc (sym n ∙ row ∙ clean))) in
      subst (λ (x : Returned). ReturnsOn (by_return go w.server.format c x)) (sym clean)
      (freed (rw (waits, asked_) refl) some.0 some.1)
  returns_on_row r row (IsNothing waits asked_ none) =
      subst (λ (x : Returned). ReturnsOn (by_return go w.server.format c x)) (sym none)
      (freed_nothing (rw (waits, asked_) refl) (row_none f.kept c report (row ∙ none)))
  returns_on_row NoGrant row (IsBroken waits asked_ nc nt) =
      nothing_on (event.Refuses c (Return false) ∷ []) (refl, tt) (rw (waits, asked_, no_fence f refl refl) refl)
  returns_on_row Clean row (IsBroken waits asked_ nc nt) = absurd (nc refl)
  returns_on_row (Taken ks) row (IsBroken waits asked_ nc nt) = absurd (nt ks refl)
  returns_on_row TooMany row (IsBroken waits asked_ nc nt) =
      spent_on (event.Refuses c (Return false) ∷ []) (refl, tt) (rw (waits, asked_, no_fence f refl refl) refl)
  returns_on_row Fencing row (IsBroken waits asked_ nc nt) =
      fenced [] (event.Refuses c (Return false) ∷ []) tt (refl, tt)
      (rw (waits, asked_) (ap (λ (es : List Event). es ++ (event.Refuses c (Return false) ∷ [])) fence_seen))
  returns_on_row NoGrant row (IsReport waits nc x holds) =
      nothing_on (event.ServesOther c ∷ []) (refl, tt) (rw (waits, no_fence f refl refl) refl)
  returns_on_row Clean row (IsReport waits nc x holds) = absurd (nc refl)
  returns_on_row (Taken ks) row (IsReport waits nc x holds) =
      let some = row_some f.kept c report (λ n. absurd (cc (sym n ∙ row))) in
      let same = loss_same ks in
      taken ks (rw (waits, no_fence (ends_grant (lost_file ks) c).file same.0 same.1) refl) some.0 some.1 x holds
  returns_on_row TooMany row (IsReport waits nc x holds) =
      spent_on (event.ServesOther c ∷ []) (refl, tt) (rw (waits, no_fence f refl refl) refl)
  returns_on_row Fencing row (IsReport waits nc x holds) =
      fenced (event.ServesOther c ∷ []) [] (refl, tt) tt
      (rw waits (ap (λ (es : List Event). event.ServesOther c ∷ es) (fence_seen ∙ sym (append-nil fence_events))))

  -- a LAYOUTRETURN on the file
  pub returns_go : ReturnIs s c (return_row f.kept c report) → ReturnsOn (returns_on go w.server.format c report)
  unfolding returns_on
  returns_go x = returns_on_row (return_row f.kept c report) refl x
