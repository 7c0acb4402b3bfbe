-- Where a step of the server takes a report as a loss, the asker's grant is the only outstanding one in the machine, and each
-- unfinished write under it has the machine's tag.
-- Towards `CutsShowEntries` (`specs/Parts.antt`).
use Rattle.std.proofs.Common.{◌≡◌, ◌==◌, ◌<◌, ◌≤◌, ℕ, true, List, [], ◌∷◌, length, take, Option, Some, None, refl, sym, ap, subst, ◌∙◌, inl, inr, arith}
use Rattle.std.proofs.lemmas.Bool.{true≢false, cases_Bool, cases_eq, cases_lt, and_parts, eqb-true}
use Rattle.layout_types.specs.declared.ioerrs.IoErr.{IoErr}
use Rattle.scenario_text.specs.declared.line.Line.{Line}
use Rattle.server_rules.specs.Files.{Step, at_file, file_at}
use Rattle.server_rules.specs.Going.{Going}
use Rattle.server_rules.specs.Grants.{grant_of}
use Rattle.server_rules.specs.History.{Input, step}
use Rattle.server_rules.specs.Laws.{is_taken_of}
use Rattle.server_rules.specs.Requests.{serves, carries_out, by_admit, on_request}
use Rattle.server_rules.specs.Return.{Returned, NoGrant, Clean, Taken, TooMany, Fencing, return_row, by_return, returns_on}
use Rattle.server_rules.specs.Slots.{Admit, New, Again, Misordered, admit, slot_of}
use Rattle.std.specs.List.{list_any}
use Rattle.world_history.specs.Calm.{is_taken_out}
use Rattle.world_history.specs.Sending.{Move, move}
use Rattle.world_history.specs.ServerNames.{Server, File, Drive, Grant as KeptGrant, ClientRequest, RequestArgs, Return as Returns}
use Rattle.world_history.specs.State.{World}
use Rattle.history_law.specs.Doing.{input_in}
use Rattle.history_law.specs.Read.{BookIsRead}
use Rattle.component_law.proofs.Server.{grant_in}
use Rattle.fence_law.specs.Machine.{after_all}
use Rattle.fence_law.specs.State.{State, Event, Grant}
use Rattle.fence_law.proofs.Safe.{Safe}
use Rattle.file_simulation.specs.Events.{joined, events_of}
use Rattle.file_simulation.specs.Phases.{OutstandingIs, IsStill, PhaseIs}
use Rattle.file_simulation.specs.ServerEvents as table
use Rattle.file_simulation.specs.ServerEvents.{asker, is_new}
use Rattle.file_simulation.specs.Showing.{Pairs}
use Rattle.data_map.specs.declared.check.RawMap.{RawMap}
use Rattle.server_rules.proofs.FileLaws.{number_at}
use Rattle.relation_law.specs.Frames.{AreAll, IsOfServer}
use Rattle.relation_law.specs.Steps.{owed}
use Rattle.relation_law.proofs.FramesParties.{by_server_lines}
use Rattle.relation_law.proofs.FramesStay.{all_joined, lines_taken}
use Rattle.relation_law.proofs.KeptGoing.{safe_of}
use Rattle.relation_law.proofs.KeptReturns.{granted_still}
use Rattle.headline_law.specs.Parts.{CutShown}
use Rattle.headline_law.proofs.CalmCodes.{code_of}
use Rattle.headline_law.proofs.CalmEvents.{KeepsTag}
use Rattle.headline_law.proofs.CalmLosses.{says_so, answer_alone, asked_step, losses_are_harmless}
use Rattle.headline_law.proofs.EntriesServerLoss.{TakesLoss}
use Rattle.headline_law.proofs.EntriesServerLosses.{all_apart}
use Rattle.headline_law.proofs.EntriesServerOver.{is_here, returned_by}
use Rattle.headline_law.proofs.EntriesServerReported.{LossesAreSole, loss_returns}
use Rattle.headline_law.proofs.EntriesServerTold.{IsDelivered}
use Rattle.headline_law.proofs.LossSoleEvents.{GrantsShrink, grants_shrink, tag_stays, step_keeps}
use Rattle.headline_law.proofs.ServerLoss.{IsLoss, loss_row}

-- What the message returns that brings such a report is the grant that the machine's client holds.
abbrev pub HeldAreReturned : Type 0
HeldAreReturned =
    (w : World) (h : List Line) (m : Move) (count : ℕ) (f g : File) (s : State) (pairs : Pairs) →
    CutShown w h m count f g s pairs → (i : Input) → input_in w m.action ≡ Some i → (loss : TakesLoss w.server m.chosen i) →
    (d : IsDelivered w m i) → is_here g loss ≡ true → (x : Grant) → s.held loss.request.client ≡ Some x →
    returned_by h d ≡ Some x.number

-- ---- the row

row_of : (ds : List Drive) (go : Going) (format client : ℕ) (report : List IoErr) (r : Returned) →
    says_so ds (Returns report) (by_return go format client r) ≡ true → (ks : List ℕ) × (r ≡ Taken ks)
row_of ds go format client report NoGrant e = absurd (true≢false (sym e))
row_of ds go format client report Clean e = absurd (true≢false (sym e))
row_of ds go format client report (Taken ks) e = (ks, refl)
row_of ds go format client report TooMany e = absurd (true≢false (sym e))
row_of ds go format client report Fencing e = absurd (true≢false (sym e))

-- A new return that is taken as a loss has this row.
module _ (s : Server) (chosen : List ℕ) (i : Input) (loss : TakesLoss s chosen i) (f : File) (report : List IoErr)
    (new : is_new (admit (slot_of s.slots loss.request.client) loss.request.sequence) ≡ true)
    (there : file_at s.files loss.request.file ≡ Some f) (is : loss.request.args ≡ Returns report) where
  abbrev q : ClientRequest
  q = loss.request

  says : list_any is_taken_out (on_request s loss.now chosen loss.request).sends ≡ true
  says =
      ap (λ (t : Step). list_any is_taken_out t.sends) (sym (asked_step s chosen i loss.now loss.request loss.asked))
      ∙ ap (list_any is_taken_out) loss.sends ∙ rw loss.taken refl

  by_file : list_any is_taken_out (carries_out s loss.now chosen loss.request (Some f)).sends ≡ true →
      (ks : List ℕ) × (return_row f.kept loss.request.client report ≡ Taken ks)
  unfolding returns_on
  by_file e =
      let go : Going = at_file s chosen f in
      row_of s.drives go s.format q.client report (return_row f.kept q.client report)
      (subst (λ (a : RequestArgs). says_so s.drives a (serves go s.next_grant s.format loss.now q.client a) ≡ true) is
      (answer_alone s q (serves go s.next_grant s.format loss.now q.client q.args) e))

  by : (a : Admit) → is_new a ≡ true → list_any is_taken_out (by_admit s loss.now chosen loss.request a).sends ≡ true →
      (ks : List ℕ) × (return_row f.kept loss.request.client report ≡ Taken ks)
  by New n e =
      by_file
      (ap (λ (o : Option File). list_any is_taken_out (carries_out s loss.now chosen loss.request o).sends) (sym there) ∙ e)
  by (Again kept) n e = absurd (true≢false (sym n))
  by (Misordered expected) n e = absurd (true≢false (sym n))

  pub taken_row : (ks : List ℕ) × (return_row f.kept loss.request.client report ≡ Taken ks)
  unfolding on_request
  taken_row = by (admit (slot_of s.slots loss.request.client) loss.request.sequence) new says

-- ---- grants

-- of one grant no other client has any
alone : (gs : List KeptGrant) (c d : ℕ) (x : KeptGrant) → length gs ≡ 1 → grant_of gs c ≡ Some x → (d ≡ c → ⊥) →
    grant_of gs d ≡ None
alone [] c d x one has ne = refl
alone (y ∷ []) c d x one has ne = elim (cases_Bool (y.client == d)) [
  | inr other ↦ rw other refl
  | inl here ↦
      let z = grant_in (y ∷ []) c x has in
      absurd (ne (sym (eqb-true y.client d here) ∙ (elim z.0 [
        | inl same ↦ ap (λ (v : KeptGrant). v.client) (sym same) ∙ z.1
        | inr none ↦ absurd none
      ])))
]
alone (y ∷ z ∷ gs) c d x one has ne = absurd (omega (arith, one))

-- of the machine then none is outstanding
none_out : (m : RawMap) (tag : ℕ) (o : Option KeptGrant) (y : Option Grant) → o ≡ None → OutstandingIs m tag o y → y ≡ None
none_out m tag None None e k = refl
none_out m tag None (Some y) e k = absurd k
none_out m tag (Some x) y e k = absurd (cc e)

-- and the client's is the kept one
some_out : (m : RawMap) (tag : ℕ) (o : Option KeptGrant) (y : Option Grant) (x : KeptGrant) → o ≡ Some x →
    OutstandingIs m tag o y → (z : Grant) × (y ≡ Some z) × (z.number ≡ x.number)
some_out m tag None y x e k = absurd (cc e)
some_out m tag (Some v) None x e k = absurd k
some_out m tag (Some v) (Some z) x e k =
    let same : v ≡ x = cc e in (z, refl, k.0.number ∙ ap (λ (y : KeptGrant). y.number) same)

-- ---- joined

pub losses_are_sole : BookIsRead → HeldAreReturned → LossesAreSole
losses_are_sole book returned w h m count f g s pairs k tied i is loss d e yes_ x safe held j runs =
    let q : ClientRequest = loss.request in
    let c : ℕ = loss.request.client in
    let u : State = after_all s e.before in
    let parts = and_parts (table.is_served w.server q.client q) (q.file == g.kept.number) yes_ in
    let new : is_new (admit (slot_of w.server.slots q.client) q.sequence) ≡ true =
    (and_parts (is_taken_of w.server q.client q.client q) _ parts.0).1 in
    let number : g.kept.number ≡ f.kept.number =
    number_at (move w m).world.server.files f.kept.number g k.shown.follows.goes in
    let there : file_at w.server.files q.file ≡ Some f =
    ap (file_at w.server.files) (eqb-true q.file g.kept.number parts.1 ∙ number) ∙ k.shown.follows.there in
    let r = loss_returns w m f g i loss k.shown.follows.there number yes_ in
    let row = taken_row w.server m.chosen i loss f r.0 new there r.1 in
    let l : IsLoss f.kept c r.0 row.0 = loss_row f.kept c r.0 row.0 row.1 in
    let still = granted_still s f c l.grant l.has f.kept.phase k.shown.follows.related.kept.phase in
    let st : IsStill s f = subst (PhaseIs s f) still k.shown.follows.related.kept.phase in
    let out = some_out f.kept.map f.kept.tag (grant_of f.kept.grants c) (s.outstanding c) l.grant l.has (st.outstanding c) in
    let all : List (List Event) = events_of s w (owed k.shown.follows.related) f m in
    let own : AreAll (IsOfServer (asker i)) (joined (take count all)) =
    all_joined (IsOfServer (asker i)) _
    (lines_taken (IsOfServer (asker i)) count all
    (by_server_lines s w (owed k.shown.follows.related) f m i is)) in
    let mine : AreAll (IsOfServer (Some c)) (joined (take count all)) =
    subst (λ (o : Option ℕ). AreAll (IsOfServer o) (joined (take count all))) (ap asker loss.asked.is) own in
    let says : list_any is_taken_out (step w.server m.chosen i).sends ≡ true =
    ap (list_any is_taken_out) loss.sends ∙ rw loss.taken refl in
    let keeps : AreAll KeepsTag (joined (take count all)) =
    all_joined KeepsTag _
    (lines_taken KeepsTag count all
    (step_keeps s w (owed k.shown.follows.related) f m i is loss.now c _ loss.asked.is k.shown.follows.there
    (losses_are_harmless w.server m.chosen m.chosen i f.kept.number says))) in
    let shrink : GrantsShrink c s u =
    grants_shrink c s e.before
    (all_apart (IsOfServer (Some c)) e.before _ (subst (AreAll (IsOfServer (Some c))) e.are mine)).0 in
    let tag : u.tag ≡ s.tag =
    tag_stays s e.before (all_apart KeepsTag e.before _ (subst (AreAll KeepsTag) e.are keeps)).0 in
    let first : Safe s = safe_of s k.shown.follows.run (code_of book w h m count f g s k.shown.follows) in
    let held_first : s.held c ≡ Some x = shrink.held c x held in
    let live : (x.tag ≡ s.tag) × (s.outstanding c ≡ Some x) = elim (first.holds.has c x held_first).1 [
      | inl y ↦ y
      | inr older ↦ absurd (cc (sym older.1 ∙ out.1))
    ] in
    let now : u.outstanding c ≡ Some x = elim (safe.holds.has c x held).1 [
      | inl y ↦ y.1
      | inr older ↦ let low : x.tag < u.tag = older.0 in let at_ : x.tag ≡ s.tag = live.0 in absurd (omega (arith, low, at_, tag))
    ] in
    let same : out.0 ≡ x = cc (sym out.1 ∙ live.1) in
    let kept_number : l.grant.number ≡ x.number = sym out.2 ∙ ap (λ (y : Grant). y.number) same in
    record {
      outstanding = λ none. cc (sym none ∙ now);
      sole = λ n y at_. elim (cases_eq n c) [
        | inl here ↦ here
        | inr other ↦
            let none : s.outstanding n ≡ None =
            none_out f.kept.map f.kept.tag (grant_of f.kept.grants n) (s.outstanding n)
            (alone f.kept.grants c n l.grant l.one l.has other) (st.outstanding n) in
            absurd (cc (sym none ∙ shrink.others n y other at_))
      ];
      tags = λ n low write grant open_. elim (cases_lt (s.start n).tag s.tag) [
        | inl older ↦
            absurd (k.shown.over n l.grant low older (grant_in f.kept.grants c l.grant l.has).0 (kept_number ∙ sym grant))
        | inr high ↦
            let top : (s.start n).tag ≤ s.tag = (first.formed n low).low in
            let at_ : (s.start n).tag ≡ s.tag = omega (arith, high, top) in
            at_ ∙ sym tag
      ];
      returned_is = returned w h m count f g s pairs k i is loss d yes_ x held_first;
    }
