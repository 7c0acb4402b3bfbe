-- A report is taken as a loss: each of the step's events can happen.
use Rattle.std.proofs.Common.{◌≡◌, ◌==◌, ◌||◌, ◌<◌, ℕ, suc, ◌+◌, Bool, true, false, List, [], ◌∷◌, length, Option, Some, None, refl, sym, ap, subst, ◌∙◌, inl, inr, arith, if◌then◌else◌}
use Rattle.std.proofs.lemmas.Bool.{true≢false, cases_Bool, cases_eq, eqb-true, and_parts, ne_eqb}
use Rattle.osd_lists.specs.declared.node.Node.TheVariants.{Client as FromClient}
use Rattle.server_rules.specs.declared.limits.TheConstants.{GREATEST_TAG}
use Rattle.layout_ops.specs.declared.messages.Answer.{Answer}
use Rattle.server_rules.specs.Files.{at_file}
use Rattle.server_rules.specs.Going.{Going, noting_if, with_components}
use Rattle.server_rules.specs.Grants.{grant_of}
use Rattle.server_rules.specs.History.{Input, Hears}
use Rattle.server_rules.specs.Messages.{Asks}
use Rattle.server_rules.specs.Numbers.{among}
use Rattle.server_rules.specs.Requests.{answer_with}
use Rattle.server_rules.specs.Return.{Taken, TooMany, Fencing, is_at, is_unreachable, named_from, named_by, and_others, named, loss, by_loss, by_report, by_grant, bearable, is_sole, none_beyond, return_row, ends_grant, reports_from, takes_loss, by_return}
use Rattle.server_rules.specs.Served.{Served}
use Rattle.server_rules.specs.Standing.{lose_from}
use Rattle.client_rules.specs.Answers.{is_loss_taken}
use Rattle.client_rules.specs.Calls.{file_of}
use Rattle.client_rules.specs.Grants.{held_of}
use Rattle.component_law.specs.KeptWalk as kept
use Rattle.component_law.specs.KeptWalk.{noted_of}
use Rattle.component_law.proofs.KeptJobs.{same_but_components}
use Rattle.world_history.specs.ServerNames.{File, Kept, Component, Grant, Note, Still, Reported, IoErr, ClientRequest, Return as Returns}
use Rattle.world_history.specs.ClientNames.{CallOp, TimedOut, Report, Waits}
use Rattle.world_history.specs.State.{World}
use Rattle.server_rules.specs.Laws.{In}
use Rattle.fence_law.specs.State as machine
use Rattle.fence_law.specs.State.{State}
use Rattle.fence_law.specs.State.{Event as event}
use Rattle.fence_law.specs.State.Call.{Idle}
use Rattle.fence_law.specs.Machine.{Allowed, Lawful, after, after_all}
use Rattle.fence_law.proofs.Safe.{Safe, safe_all, keep_safe}
use Rattle.fence_law.proofs.Words.{updated_read, updated_same}
use Rattle.file_simulation.specs.Calls.{IsClient}
use Rattle.file_simulation.specs.EventLists.{where_so, of_grant, entry_of}
use Rattle.file_simulation.specs.Phases.{IsStill, PhaseIs}
use Rattle.file_simulation.specs.Relation.{client_of}
use Rattle.file_simulation.specs.ServerEvents.{noted, returned, answered_here, loss_answered}
use Rattle.relation_law.specs.Frames.{AreAll}
use Rattle.relation_law.specs.KeptSteps.{notes_events, behind_notes, IsKeptAt}
use Rattle.relation_law.proofs.AskedEvents.{IsQuiet, quiet_spares, noted_quiet}
use Rattle.relation_law.proofs.CallsCarried.{reporting_is, still_held}
use Rattle.relation_law.proofs.CallsGuards.{entry_writes, loss_acknowledges_allowed, leaves_allowed}
use Rattle.relation_law.proofs.CallsSpared.{client_spared}
use Rattle.relation_law.proofs.FramesStay.{all_more}
use Rattle.relation_law.proofs.KeptCommitted.{some_by}
use Rattle.relation_law.proofs.KeptEnds.{so_far_from, kept_from}
use Rattle.relation_law.proofs.KeptGuards.{loses_allowed}
use Rattle.relation_law.proofs.KeptNotes.{IsBehind, walked, lawful_supplies}
use Rattle.relation_law.proofs.KeptReturns.{granted_still}
use Rattle.relation_law.proofs.KeptRounds.{begun}
use Rattle.relation_law.proofs.KeptServer.{light_kept}
use Rattle.headline_law.specs.ServerLines.{NotesMay}
use Rattle.headline_law.proofs.ServerNotes.{none_may, own_may, behind_own}
use Rattle.headline_law.proofs.ServerOwn.{StandsSo}
use Rattle.headline_law.proofs.ServerReturns.{RequestMay, ReturnMay}

-- ---- the row

-- the client's grant is the file's only one, and the report names these
pub record IsLoss (k : Kept) (c : ℕ) (report : List IoErr) (ks : List ℕ) : Type 0 where
  pub grant : Grant
  pub has : grant_of k.grants c ≡ Some grant
  pub one : length k.grants ≡ 1
  pub names : named report k.components ≡ Some ks

pub loss_row : (k : Kept) (c : ℕ) (report : List IoErr) (ks : List ℕ) → return_row k c report ≡ Taken ks → IsLoss k c report ks
unfolding return_row loss
loss_row k c report ks row = by (grant_of k.grants c) refl row
  where
    none_taken : (b : Bool) → (if b then TooMany else Fencing) ≡ Taken ks → ⊥
    none_taken true e = cc e
    none_taken false e = cc e

    borne : (es : List IoErr) (p : Option (List ℕ)) → named es k.components ≡ p → by_loss k (bearable k p) ≡ Taken ks
        → named es k.components ≡ Some ks
    borne es None names taken = absurd (none_taken (k.tag == GREATEST_TAG) taken)
    borne es (Some js) names taken = elim (cases_Bool (none_beyond k.map (lose_from js k.components 0) js)) [
      | inl t ↦ let same : Taken js ≡ Taken ks = rw t at taken in names ∙ ap (λ (x : List ℕ). Some x) (cc same)
      | inr z ↦ absurd (none_taken (k.tag == GREATEST_TAG) (rw z at taken))
    ]

    sole : (g : Grant) (e : IoErr) (es : List IoErr) → grant_of k.grants c ≡ Some g
        → (b : Bool) → is_sole k g ≡ b
        → by_loss k (if b then bearable k (named (e ∷ es) k.components) else None) ≡ Taken ks → IsLoss k c (e ∷ es) ks
    sole g e es has true is taken = record {
      grant = g;
      has = has;
      one = eqb-true (length k.grants) 1 (and_parts g.rw (length k.grants == 1) is).1;
      names = borne (e ∷ es) (named (e ∷ es) k.components) refl taken;
    }
    sole g e es has false is taken = absurd (none_taken (k.tag == GREATEST_TAG) taken)

    reports : (g : Grant) (es : List IoErr) → grant_of k.grants c ≡ Some g → by_report k g es ≡ Taken ks → IsLoss k c es ks
    reports g [] has taken = absurd (cc taken)
    reports g (e ∷ es) has taken = sole g e es has (is_sole k g) refl taken

    by : (o : Option Grant) → grant_of k.grants c ≡ o → by_grant k report o ≡ Taken ks → IsLoss k c report ks
    by None has taken = absurd (cc taken)
    by (Some g) has taken = reports g report has taken

-- what a report names is a component
named_below : (report : List IoErr) (cs : List Component) (ks : List ℕ) (n : ℕ) → named report cs ≡ Some ks
    → among n ks ≡ true → n < length cs
unfolding named among named_from
named_below [] cs ks n names is =
    let none : [] ≡ ks = cc names in
    absurd (true≢false (sym is ∙ ap (among n) (sym none)))
named_below (e ∷ es) cs ks n names is = by (λ js. named_below es cs js n) (named_by e cs) refl (named es cs) refl names
  where
    from_below : (xs : List Component) (k m : ℕ) → named_from e xs k ≡ Some m → m < k + length xs
    from_below [] k m there = absurd (cc there)
    from_below (at ∷ xs) k m there = elim (cases_Bool (is_at e.oer_component at)) [
      | inl b ↦ let same : k ≡ m = cc (rw b at there) in omega (arith, same)
      | inr b ↦ let rest = from_below xs (k + 1) m (rw b at there) in omega (arith, rest)
    ]

    by_below : (m : ℕ) → named_by e cs ≡ Some m → m < length cs
    by_below m there = elim (cases_Bool (is_unreachable e.oer_errno)) [
      | inl b ↦ let low = from_below cs 0 m (rw b at there) in omega (arith, low)
      | inr b ↦ absurd (cc (rw b at there))
    ]

    by : ((js : List ℕ) → named es cs ≡ Some js → among n js ≡ true → n < length cs)
        → (o : Option ℕ) → named_by e cs ≡ o → (p : Option (List ℕ)) → named es cs ≡ p → and_others o p ≡ Some ks
        → n < length cs
    by later None first p rest all = absurd (cc all)
    by later (Some m) first None rest all = absurd (cc all)
    by later (Some m) first (Some js) rest all =
        let same : (m ∷ js) ≡ ks = cc all in
        let inside : ((n == m) || among n js) ≡ true = ap (among n) same ∙ is in
        elim (cases_eq n m) [
          | inl here ↦ subst (λ (x : ℕ). x < length cs) (sym here) (by_below m first)
          | inr other ↦ later js rest (rw (ne_eqb n m other) at inside)
        ]

-- ---- the notes

quiet_notes : (t : State) (w : World) (f : File) (i : Input) (ns : List Note) → AreAll IsQuiet (notes_events t w f i ns)
unfolding notes_events
quiet_notes t w f i [] = tt
quiet_notes t w f i (n ∷ ns) =
    all_more IsQuiet (noted t w f i n) (notes_events (after_all t (noted t w f i n)) w f i ns) (noted_quiet t w f i n)
    (quiet_notes (after_all t (noted t w f i n)) w f i ns)

module _ (next : ℕ) (s : State) (w : World) (f : File) (k : StandsSo next s w f) (chosen : List ℕ) (now : ℕ)
    (q : ClientRequest) (report : List IoErr) (is : q.args ≡ Returns report) (may : RequestMay s q.client)
    (idle : f.job ≡ None) (ks : List ℕ) (loss : IsLoss f.kept q.client report ks)
    (serves : Lawful s (event.ServesOther q.client ∷ [])) where
  abbrev c : ℕ
  c = q.client

  abbrev i : Input
  i = Hears now (FromClient q.client) (Asks q)

  abbrev t : State
  t = after s (event.ServesOther c)

  abbrev Given : List Note → Type 0
  Given ns = Lawful t (notes_events t w f i ns)

  abbrev At : Going → State
  At go = behind_notes t w f i go.effects.notes

  safe_t : Safe t
  safe_t = keep_safe s (event.ServesOther c) serves.0 k.safe

  kept_t : IsKeptAt next t f
  kept_t = light_kept next s (event.ServesOther c ∷ []) f (refl, tt) serves k.safe k.kept

  walk : kept.IsWalked (λ l ns. IsBehind next false t w f i Given l ns)
  walk = walked next false t w f i Given (lawful_supplies next false t w f i) safe_t

  -- behind the notes of the components below number n
  record Told (n : ℕ) (go : Going) : Type 0 where
    behind : IsBehind next false t w f i Given go.file.kept go.effects.notes
    grants : go.file.kept.grants ≡ f.kept.grants
    job : go.file.job ≡ f.job
    notes : NotesMay t w f i go.effects.notes
    gone : (j : ℕ) → j < n → among j ks ≡ true → (At go).gone j ≡ true

  kept_at_ : (n : ℕ) (go : Going) → Told n go → Given go.effects.notes → IsKeptAt next (At go) go.file
  kept_at_ n go told law = kept_from next false (At go) go.file (λ e. told.job ∙ idle) (told.behind.so_far law)

  one_told : (b : Bool) (n : ℕ) (go : Going) → among n ks ≡ b → Told n go → Told (n + 1) (noting_if b go (Reported n))
  one_told true n go is told =
      let same : behind_notes t w f i (noted_of go.file.kept go.effects.notes (Reported n))
      ≡ after (At go) (event.Loses c n) =
      behind_own t w f i go.file.kept go.effects.notes (Reported n) told.behind.number in
      record {
        behind = walk.plain go.file.kept go.effects.notes (Reported n) refl told.behind;
        grants = told.grants;
        job = told.job;
        notes = own_may t w f i go.file.kept go.effects.notes (Reported n) told.behind.number told.notes
            (λ l r. (
              loses_allowed next (At go) go.file c n loss.grant (ap (λ (gs : List Grant). grant_of gs c) told.grants ∙ loss.has)
                  (ap length told.grants ∙ loss.one) (kept_at_ n go told l),
              tt,
            ));
        gone = λ j low named_.
            subst (λ (u : State). u.gone j ≡ true) (sym same)
            (elim (updated_read (At go).gone n true j).1 [
              | inl here ↦ here.1
              | inr other ↦ other.1 ∙ told.gone j (let ne = other.0 in below j low ne) named_
            ]);
      }
    where
      below : (j : ℕ) → j < n + 1 → (j ≡ n → ⊥) → j < n
      below j low ne = elim (cases_eq j n) [
        | inl e ↦ absurd (ne e)
        | inr other ↦ omega (arith, low, other)
      ]
  one_told false n go is told = record {
    behind = told.behind;
    grants = told.grants;
    job = told.job;
    notes = told.notes;
    gone = λ j low named_. elim (cases_eq j n) [
      | inl e ↦ absurd (true≢false (sym named_ ∙ ap (λ (x : ℕ). among x ks) e ∙ is))
      | inr other ↦ told.gone j (omega (arith, low, other)) named_
    ];
  }

  all_told : (go : Going) (cs : List Component) (n : ℕ) → Told n go → Told (n + length cs) (reports_from go ks cs n)
  unfolding reports_from
  all_told go [] n told = subst (λ (x : ℕ). Told x go) (let e : n ≡ n + 0 = omega arith in e) told
  all_told go (at ∷ cs) n told =
      let h : Going = noting_if (among n ks) go (Reported n) in
      subst (λ (x : ℕ). Told x (reports_from h ks cs (n + 1)))
      (let e : n + 1 + length cs ≡ n + suc (length cs) = omega arith in e)
      (all_told h cs (n + 1) (one_told (among n ks) n go refl told))

  abbrev lost : Going
  lost = takes_loss (at_file w.server chosen f) ks

  lost_told : Told (length f.kept.components) (takes_loss (at_file w.server chosen f) ks)
  unfolding takes_loss notes_events
  lost_told =
      let l : Kept = record f.kept { components = lose_from ks f.kept.components 0 } in
      subst (λ (x : ℕ). Told x (takes_loss (at_file w.server chosen f) ks))
      (let e : 0 + length f.kept.components ≡ length f.kept.components = omega arith in e)
      (all_told (with_components (at_file w.server chosen f) (lose_from ks f.kept.components 0)) f.kept.components 0
      (record {
        behind = walk.alike f.kept l [] (same_but_components f.kept l.components)
            (begun next t w f i Given (λ busy. lawful_supplies next busy t w f i) false f.kept [] refl refl refl
            (so_far_from next false t f (λ b. absurd (true≢false (sym b))) kept_t));
        grants = refl;
        job = refl;
        notes = none_may t w f i;
        gone = λ j low. absurd (omega (arith, low));
      }))

  -- ---- the answer

  module _ (client : IsClient f.kept.number f.kept.map s q.client (client_of w q.client) None) (op : CallOp)
      (timed : List TimedOut)
      (call : (client_of w q.client).call ≡ Some (record { op = op; phase = Waits (Report timed) }))
      (on : (file_of op == f.kept.number) ≡ true) (unheld : held_of (client_of w q.client).held f.kept.number ≡ None)
      (named_all : (x : TimedOut) → In x timed → among x.ask.component ks ≡ true)
      (seen : returned s q.client (s.waiting q.client) f
      (ends_grant (takes_loss (at_file w.server chosen f) ks) q.client).file ≡ event.ServesOther q.client ∷ []) where
    abbrev v : Served
    v = by_return (at_file w.server chosen f) w.server.format q.client (Taken ks)

    taken : is_loss_taken (answer_with w.server q (by_return (at_file w.server chosen f) w.server.format q.client (Taken ks)))
        ≡ true
    taken = rw is refl

    answer_may : Given lost.effects.notes
        → Lawful (At lost) (answered_here (At lost) q.client (Returns report) (answer_with w.server q v) v.going.file)
    answer_may law =
        let u : State = At lost in
        let su : Safe u = safe_all t (notes_events t w f i lost.effects.notes) law safe_t in
        let told : Told (length f.kept.components) lost = lost_told in
        let ku : IsKeptAt next u lost.file = kept_at_ (length f.kept.components) lost told law in
        let at_u : IsClient f.kept.number f.kept.map u c (client_of w c) None =
        client_spared s u c
        (quiet_spares c s (event.ServesOther c ∷ notes_events t w f i lost.effects.notes)
        (tt, quiet_notes t w f i lost.effects.notes)) f.kept.number f.kept.map (client_of w c) None client in
        let answer : Answer = answer_with w.server q v in
        let r = reporting_is f.kept.number f.kept.map c u (client_of w c) op timed call on unheld at_u answer in
        let j : ℕ = r.0 in
        let held = still_held f.kept.number f.kept.map c u (client_of w c) op timed call on unheld at_u answer in
        let has : grant_of lost.file.kept.grants c ≡ Some loss.grant =
        ap (λ (gs : List Grant). grant_of gs c) told.grants ∙ loss.has in
        let still : lost.file.kept.phase ≡ Still = granted_still u lost.file c loss.grant has lost.file.kept.phase ku.phase in
        let st : IsStill u lost.file = subst (PhaseIs u lost.file) still ku.phase in
        let out = some_by lost.file.kept (grant_of lost.file.kept.grants c) (u.outstanding c) loss.grant has (st.outstanding c) in
        let live : held.grant.tag ≡ u.tag = elim ((su.holds.has c held.grant held.held).1) [
          | inl x ↦ x.0
          | inr older ↦ absurd (cc (sym older.1 ∙ out.1))
        ] in
        let tag : (u.start j).tag ≡ u.tag = (r.1.writing.running.under held.grant held.held).tag ∙ live in
        let first : Allowed u (event.Acknowledges c j) =
        loss_acknowledges_allowed u c op timed j r.1
        (λ n x.
        let named_ : among n ks ≡ true = ap (λ (m : ℕ). among m ks) (sym x.2) ∙ named_all x.0 x.1 in
        told.gone n (named_below report f.kept.components ks n loss.names named_) named_) tag in
        let entry : entry_of u c ≡ j = entry_writes u c j r.1.writing.at_ in
        let es : answered_here u c (Returns report) (answer_with w.server q v) v.going.file
        ≡ event.Acknowledges c (entry_of u c) ∷ (event.Leaves c held.grant ∷ []) =
        ap (λ (b : Bool). where_so b (loss_answered u c)) taken
        ∙ ap (λ (o : Option machine.Grant). event.Acknowledges c (entry_of u c) ∷ of_grant o (λ y. event.Leaves c y ∷ []))
        held.held in
        subst (Lawful u) (sym es)
        (subst (λ (n : ℕ). Lawful u (event.Acknowledges c n ∷ (event.Leaves c held.grant ∷ []))) (sym entry)
        (first, (leaves_allowed (after u (event.Acknowledges c j)) c held.grant held.held (updated_same u.call c Idle), tt)))

    pub loss_may : ReturnMay next s w f k chosen now q report is may v
    loss_may = record {
      events = event.ServesOther c ∷ [];
      seen = seen;
      first = serves;
      notes = lost_told.notes;
      answer = λ l r. answer_may l;
    }
