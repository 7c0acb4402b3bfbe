-- A LAYOUTRETURN on a file that the server carries out: each of the step's events can happen, but for those of a loss.
use Rattle.std.proofs.Common.{◌≡◌, ℕ, Bool, true, false, not, List, [], ◌∷◌, ◌++◌, refl, sym, ap, subst, ◌∙◌}
use Rattle.std.proofs.lemmas.Bool.{true≢false}
use Rattle.std.proofs.lemmas.List.{append-nil}
use Rattle.osd_lists.specs.declared.node.Node.TheVariants.{Client as FromClient}
use Rattle.component_law.specs.Tagged.{fence_open}
use Rattle.server_rules.specs.Files.{begins, at_file}
use Rattle.server_rules.specs.History.{Input, Hears}
use Rattle.server_rules.specs.Jobs.{ending, fence_begins}
use Rattle.server_rules.specs.Messages.{Asks}
use Rattle.server_rules.specs.Requests.{answer_with}
use Rattle.server_rules.specs.Return.{Returned, NoGrant, Clean, Taken, TooMany, Fencing, return_row, ends_grant, takes_loss, by_return}
use Rattle.server_rules.specs.Served.{Served}
use Rattle.client_rules.specs.Answers.{is_loss_taken}
use Rattle.world_history.specs.ServerNames.{File, Kept, Note, Spent, Revoking, IoErr, ClientRequest, Return as Returns}
use Rattle.world_history.specs.State.{World}
use Rattle.fence_law.specs.State.{State, Event}
use Rattle.fence_law.specs.State.{Event as event}
use Rattle.fence_law.specs.State.RequestKind.{Return}
use Rattle.fence_law.specs.Machine.{Allowed, Lawful, after, after_all}
use Rattle.fence_law.proofs.Safe.{Safe, safe_all}
use Rattle.file_simulation.specs.EventLists.{where_so}
use Rattle.file_simulation.specs.ServerEvents.{fences, returned, answered_here}
use Rattle.file_simulation.specs.Showing.{IsRun}
use Rattle.relation_law.specs.Frames.{AreAll}
use Rattle.relation_law.specs.KeptAsked.{ReturnIs, IsClean, IsNothing, IsBroken, IsReport}
use Rattle.relation_law.specs.KeptSteps.{AllLight, notes_events, behind_notes, IsSoFar, IsKeptAt}
use Rattle.relation_law.specs.Requests.{AskingStays}
use Rattle.relation_law.proofs.ComponentsFirst.{Spares, spared}
use Rattle.relation_law.proofs.ComponentsServer.{start_told}
use Rattle.relation_law.proofs.FramesClient.{where_all}
use Rattle.relation_law.proofs.FramesStay.{all_more}
use Rattle.relation_law.proofs.KeptEnds.{so_far_from, begins_so_far}
use Rattle.relation_law.proofs.KeptLight.{so_far_light}
use Rattle.relation_law.proofs.KeptNotes.{after_both, lawful_front, lawful_back, lawful_both}
use Rattle.relation_law.proofs.KeptOpens.{none_shows}
use Rattle.relation_law.proofs.KeptReturned.{loss_walked}
use Rattle.relation_law.proofs.KeptServer.{light_kept}
use Rattle.relation_law.proofs.KeptSupplies.{fences_lawful}
use Rattle.relation_law.proofs.RequestsLines.{steady_stays, fences_plain}
use Rattle.headline_law.specs.ServerLines.{NotesMay}
use Rattle.headline_law.proofs.ServerFences.{fence_may}
use Rattle.headline_law.proofs.ServerNotes.{none_may, own_may}
use Rattle.headline_law.proofs.ServerOwn.{StandsSo, fence_events, fence_seen, laid_on, many_on}

-- what may happen of a client's request: it is other than those of the file; or the file's, clean or of a write that broke off
pub record RequestMay (s : State) (c : ℕ) : Type 0 where
  pub serves : s.waiting c ≡ false → Allowed s (event.ServesOther c)
  pub frees : s.waiting c ≡ true → s.asked c ≡ Return true → Allowed s (event.Frees c)
  pub refuses : s.waiting c ≡ true → s.asked c ≡ Return false → (t : State) → AskingStays s t →
      Allowed t (event.Refuses c (Return false))

module _ (next : ℕ) (s : State) (w : World) (f : File) (k : StandsSo next s w f) (chosen : List ℕ) (now : ℕ)
    (q : ClientRequest) (report : List IoErr) (is : q.args ≡ Returns report) (may : RequestMay s q.client) where
  abbrev c : ℕ
  c = q.client

  abbrev i : Input
  i = Hears now (FromClient q.client) (Asks q)

  -- the events of a return's step can happen: those of its first line, of its notes, and of its answer
  pub record ReturnMay (v : Served) : Type 0 where
    pub events : List Event
    pub seen : returned s c (s.waiting c) f v.going.file ≡ events
    pub first : Lawful s events
    pub notes : NotesMay (after_all s events) w f i v.going.effects.notes
    pub answer : Lawful (after_all s events) (notes_events (after_all s events) w f i v.going.effects.notes) →
        IsRun (behind_notes (after_all s events) w f i v.going.effects.notes) →
        Lawful (behind_notes (after_all s events) w f i v.going.effects.notes)
        (answered_here (behind_notes (after_all s events) w f i v.going.effects.notes) c (Returns report)
        (answer_with w.server q v) v.going.file)

  no_fence : (g : File) → g.kept.phase ≡ f.kept.phase → g.kept.tag ≡ f.kept.tag → fences f g ≡ []
  no_fence g p e = ap (λ (b : Bool). where_so b (event.Fences ∷ [])) (none_shows f g p e)

  -- without a note
  plain : (v : Served) (es : List Event) → returned s c (s.waiting c) f v.going.file ≡ es → Lawful s es
      → v.going.effects.notes ≡ [] → is_loss_taken (answer_with w.server q v) ≡ false → ReturnMay v
  plain v es seen law none not_ = record {
    events = es;
    seen = seen;
    first = law;
    notes = subst (NotesMay (after_all s es) w f i) (sym none) (none_may (after_all s es) w f i);
    answer = λ l r. rw not_ tt;
  }

  -- with one that the tag is spent
  spent : (es : List Event) → returned s c (s.waiting c) f f ≡ es → Lawful s es
      → ReturnMay (by_return (at_file w.server chosen f) w.server.format c TooMany)
  spent es seen law = record {
    events = es;
    seen = seen;
    first = law;
    notes = own_may (after_all s es) w f i f.kept [] Spent refl (none_may (after_all s es) w f i) (λ l r. tt);
    answer = λ l r. rw is tt;
  }

  -- with a fence, and such events before it and behind it
  fenced : (front back : List Event) → AllLight front → AllLight back → AreAll Spares front → AreAll Spares back
      → returned s c (s.waiting c) f (fence_begins Revoking w.server.format (at_file w.server chosen f)).file
      ≡ front ++ (fence_events f ++ back) → Lawful s (front ++ (fence_events f ++ back))
      → ReturnMay (by_return (at_file w.server chosen f) w.server.format c Fencing)
  unfolding notes_events
  fenced front back light light_back spares spares_back seen law =
      let es : List Event = front ++ (fence_events f ++ back) in
      let t : State = after_all s es in
      record {
        events = es;
        seen = seen;
        first = law;
        notes = fence_may next s t w f i (safe_all s es law k.safe) (laid_on next s w f k es) (many_on next s w f k es) Revoking
            w.server.format (begins w.server) w.server.drives chosen refl so_far
            (start_told s t w f i (λ n. spared s es n spares_all) k.parts);
        answer = λ l r. rw is tt;
      }
    where
      spares_all : AreAll Spares (front ++ (fence_events f ++ back))
      spares_all = all_more Spares front (fence_events f ++ back) spares
          (all_more Spares (fence_events f) back (where_all Spares (not (fence_open f.kept)) (event.Fences ∷ []) (tt, tt))
          spares_back)

      so_far : IsSoFar next true (after_all s (front ++ (fence_events f ++ back))) (ending f.kept w.server.format)
      so_far =
          let u : State = after_all s front in
          let v : State = after_all u (fence_events f) in
          let af : Lawful s front = lawful_front s front (fence_events f ++ back) law in
          let am : Lawful u (fence_events f ++ back) = lawful_back s front (fence_events f ++ back) law in
          let ae : Lawful u (fence_events f) = lawful_front u (fence_events f) back am in
          let ab : Lawful v back = lawful_back u (fence_events f) back am in
          let su : Safe u = safe_all s front af k.safe in
          let sv : Safe v = safe_all u (fence_events f) ae su in
          let at_u : IsKeptAt next u f = light_kept next s front f light af k.safe k.kept in
          let so : IsSoFar next true v (ending f.kept w.server.format) =
          begins_so_far next u f.kept w.server.format f.kept.phase refl ae su false
          (so_far_from next false u f (λ b. absurd (true≢false (sym b))) at_u) in
          subst (λ (x : State). IsSoFar next true x (ending f.kept w.server.format))
          (sym (after_both s front (fence_events f ++ back) ∙ after_both u (fence_events f) back))
          (so_far_light next true v back (ending f.kept w.server.format) light_back ab sv so)

  -- ---- by the row

  -- a loss leaves phase, tag and grants
  abbrev pub Same : Kept → List Note → Type 0
  Same l ns = (l.phase ≡ f.kept.phase) × (l.tag ≡ f.kept.tag) × (l.grants ≡ f.kept.grants)

  pub loss_same : (ks : List ℕ) → Same (takes_loss (at_file w.server chosen f) ks).file.kept
      (takes_loss (at_file w.server chosen f) ks).effects.notes
  loss_same ks =
      loss_walked Same (λ l m ns a e. (a.phase ∙ e.0, a.tag ∙ e.1, a.grants ∙ e.2)) (λ l ns kind p e. e)
      (at_file w.server chosen f) ks (refl, refl, refl)

  -- what is so where a report is taken as a loss
  module _ (loss : (ks : List ℕ) → return_row f.kept c report ≡ Taken ks → Lawful s (event.ServesOther c ∷ [])
      → returned s c (s.waiting c) f (ends_grant (takes_loss (at_file w.server chosen f) ks) c).file ≡ event.ServesOther c ∷ []
      → ReturnMay (by_return (at_file w.server chosen f) w.server.format c (Taken ks))) where
    abbrev fenced_file : File
    fenced_file = (fence_begins Revoking w.server.format (at_file w.server chosen f)).file

    fence_seen_ : fences f (fence_begins Revoking w.server.format (at_file w.server chosen f)).file ≡ fence_events f
    fence_seen_ = fence_seen f Revoking w.server.format (begins w.server) w.server.drives chosen

    pub by_row : (r : Returned) → return_row f.kept c report ≡ r → ReturnIs s c r
        → ReturnMay (by_return (at_file w.server chosen f) w.server.format c r)
    by_row r row (IsClean waits asked clean) =
        subst (λ (x : Returned). ReturnMay (by_return (at_file w.server chosen f) w.server.format c x)) (sym clean)
        (plain (by_return (at_file w.server chosen f) w.server.format c Clean) (event.Frees c ∷ []) (rw (waits, asked) refl)
        (may.frees waits asked, tt) refl (rw is refl))
    by_row r row (IsNothing waits asked none) =
        subst (λ (x : Returned). ReturnMay (by_return (at_file w.server chosen f) w.server.format c x)) (sym none)
        (plain (by_return (at_file w.server chosen f) w.server.format c NoGrant) (event.Frees c ∷ []) (rw (waits, asked) refl)
        (may.frees waits asked, tt) refl (rw is refl))
    by_row NoGrant row (IsBroken waits asked nc nt) =
        plain (by_return (at_file w.server chosen f) w.server.format c NoGrant) (event.Refuses c (Return false) ∷ [])
        (rw (waits, asked, no_fence f refl refl) refl)
        (may.refuses waits asked s (steady_stays s [] tt).asking, tt) refl (rw is refl)
    by_row Clean row (IsBroken waits asked nc nt) = absurd (nc refl)
    by_row (Taken ks) row (IsBroken waits asked nc nt) = absurd (nt ks refl)
    by_row TooMany row (IsBroken waits asked nc nt) =
        spent (event.Refuses c (Return false) ∷ []) (rw (waits, asked, no_fence f refl refl) refl)
        (may.refuses waits asked s (steady_stays s [] tt).asking, tt)
    by_row Fencing row (IsBroken waits asked nc nt) =
        fenced [] (event.Refuses c (Return false) ∷ []) tt (refl, tt) tt (tt, tt)
        (rw (waits, asked) (ap (λ (es : List Event). es ++ (event.Refuses c (Return false) ∷ [])) fence_seen_))
        (lawful_both s (fence_events f) (event.Refuses c (Return false) ∷ [])
        (subst (Lawful s) fence_seen_ (fences_lawful next s f fenced_file k.kept)) (
          may.refuses waits asked (after_all s (fence_events f))
              (subst (λ (es : List Event). AskingStays s (after_all s es)) fence_seen_
              (steady_stays s (fences f fenced_file) (fences_plain f fenced_file)).asking),
          tt,
        ))
    by_row NoGrant row (IsReport waits nc x holds) =
        plain (by_return (at_file w.server chosen f) w.server.format c NoGrant) (event.ServesOther c ∷ [])
        (rw (waits, no_fence f refl refl) refl) (may.serves waits, tt) refl (rw is refl)
    by_row Clean row (IsReport waits nc x holds) = absurd (nc refl)
    by_row (Taken ks) row (IsReport waits nc x holds) =
        let same = loss_same ks in
        loss ks row (may.serves waits, tt)
        (rw (waits, no_fence (ends_grant (takes_loss (at_file w.server chosen f) ks) c).file same.0 same.1) refl)
    by_row TooMany row (IsReport waits nc x holds) =
        spent (event.ServesOther c ∷ []) (rw (waits, no_fence f refl refl) refl) (may.serves waits, tt)
    by_row Fencing row (IsReport waits nc x holds) =
        let at_s1 : IsKeptAt next (after s (event.ServesOther c)) f =
        light_kept next s (event.ServesOther c ∷ []) f (refl, tt) (may.serves waits, tt) k.safe k.kept in
        fenced (event.ServesOther c ∷ []) [] (refl, tt) tt (tt, tt) tt
        (rw waits (ap (λ (es : List Event). event.ServesOther c ∷ es) (fence_seen_ ∙ sym (append-nil (fence_events f))))) (
          may.serves waits,
          subst (Lawful (after s (event.ServesOther c))) (fence_seen_ ∙ sym (append-nil (fence_events f)))
              (fences_lawful next (after s (event.ServesOther c)) f fenced_file at_s1),
        )
