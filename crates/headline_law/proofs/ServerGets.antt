-- A LAYOUTGET on a file that the server carries out: each of the step's events can happen.
use Rattle.std.proofs.Common.{◌≡◌, ◌==◌, ℕ, Bool, true, false, List, [], ◌∷◌, ◌++◌, Option, Some, None, refl, sym, ap, subst, ◌∙◌, inl, inr}
use Rattle.std.proofs.lemmas.Bool.{cases_Bool}
use Rattle.osd_lists.specs.declared.node.Node.TheVariants.{Client as FromClient}
use Rattle.layout_ops.specs.declared.statuses.TheConstants.{LAYOUTIOMODE4_RW, NFS4_OK}
use Rattle.server_rules.specs.declared.limits.TheConstants.{GREATEST_TAG}
use Rattle.client_rules.specs.Results.{status_of}
use Rattle.server_rules.specs.Files.{begins, at_file}
use Rattle.server_rules.specs.Get.{Early, BadMode, Invalid, Unable, Waits, On, early, must_fence, Late, NoNumber, Lacks, Conflict, Gives, late, by_late, give_or_refuse, after_fence, fence_first, on_grants, by_early, gives, gets}
use Rattle.server_rules.specs.Going.{Going}
use Rattle.server_rules.specs.Grants.{asked}
use Rattle.server_rules.specs.History.{Input, Hears}
use Rattle.server_rules.specs.Jobs.{fence_begins}
use Rattle.server_rules.specs.Messages.{Asks}
use Rattle.server_rules.specs.Requests.{answer_with}
use Rattle.server_rules.specs.Served.{Served}
use Rattle.component_law.specs.KeptWalk.{FileFits}
use Rattle.world_history.specs.ServerNames.{Server, File, Grant, Note, Spent, Job, Revoking, ClientRequest, Get as Gets}
use Rattle.world_history.specs.State.{World}
use Rattle.fence_law.specs.State.{State, Event}
use Rattle.fence_law.specs.State.{Event as event}
use Rattle.fence_law.specs.Machine.{Lawful, after_all}
use Rattle.file_simulation.specs.Grants.{covers_column}
use Rattle.file_simulation.specs.ServerEvents.{fences, noted, answered_here}
use Rattle.relation_law.specs.Frames.{AreAll}
use Rattle.relation_law.specs.KeptGets.{IsRefused, IsGiven, GetsAs, Refused, Given_}
use Rattle.relation_law.specs.KeptSteps.{notes_events, behind_notes}
use Rattle.relation_law.specs.Requests.{IsSteady, SteadyStays}
use Rattle.relation_law.specs.RequestsGoing.{CarriesOut}
use Rattle.relation_law.proofs.FramesStay.{all_more}
use Rattle.relation_law.proofs.KeptGets.{gets_on}
use Rattle.relation_law.proofs.KeptGrants.{grants_allowed, found_new}
use Rattle.relation_law.proofs.KeptNotes.{lawful_supplies, after_both}
use Rattle.relation_law.proofs.KeptSupplies.{fences_lawful}
use Rattle.relation_law.proofs.RequestsLawful.{get_asked, refusal_may}
use Rattle.relation_law.proofs.RequestsLines.{steady_stays, fences_plain, noted_plain}
use Rattle.headline_law.specs.ServerLines.{NotesMay}
use Rattle.headline_law.proofs.ServerNotes.{none_may, own_may}
use Rattle.headline_law.proofs.ServerOwn.{StandsSo, fence_events, fence_seen, own_fence}

-- ---- the events of notes are of no request

pub notes_plain : (t : State) (w : World) (f : File) (i : Input) (ns : List Note) → AreAll IsSteady (notes_events t w f i ns)
unfolding notes_events
notes_plain t w f i [] = tt
notes_plain t w f i (n ∷ ns) =
    all_more IsSteady (noted t w f i n) (notes_events (after_all t (noted t w f i n)) w f i ns) (noted_plain t w f i n)
    (notes_plain (after_all t (noted t w f i n)) w f i ns)

-- behind a first line of no request, and the notes
pub notes_stay : (s : State) (es : List Event) (w : World) (f : File) (i : Input) (ns : List Note) → AreAll IsSteady es
    → SteadyStays s (behind_notes (after_all s es) w f i ns)
notes_stay s es w f i ns plain =
    subst (SteadyStays s) (after_both s es (notes_events (after_all s es) w f i ns))
    (steady_stays s (es ++ notes_events (after_all s es) w f i ns)
    (all_more IsSteady es (notes_events (after_all s es) w f i ns) plain (notes_plain (after_all s es) w f i ns)))

module _ (next : ℕ) (s : State) (w : World) (f : File) (k : StandsSo next s w f) (chosen : List ℕ) (format now : ℕ)
    (q : ClientRequest) (iomode offset count : ℕ) where
  abbrev c : ℕ
  c = q.client

  abbrev i : Input
  i = Hears now (FromClient q.client) (Asks q)

  abbrev go : Going
  go = at_file w.server chosen f

  -- ---- the notes

  abbrev NotesOf : Served → Type 0
  NotesOf v =
      Lawful s (fences f v.going.file) →
      NotesMay (after_all s (fences f v.going.file)) w f i v.going.effects.notes

  plain_notes : (v : Served) → v.going.effects.notes ≡ [] → NotesOf v
  plain_notes v none law = subst (NotesMay (after_all s (fences f v.going.file)) w f i) (sym none)
      (none_may (after_all s (fences f v.going.file)) w f i)

  late_same : (G : Going) (x : Grant) (l : Late)
      → ((by_late G x l).going.effects.notes ≡ G.effects.notes) × (fences f (by_late G x l).going.file ≡ fences f G.file)
  late_same G x NoNumber = (refl, refl)
  late_same G x (Lacks n) = (refl, refl)
  late_same G x (Conflict holder) = (refl, refl)
  late_same G x Gives = (refl, refl)

  after_same : (G : Going) (x : Grant) (o : Option Job)
      → ((after_fence G next x o).going.effects.notes ≡ G.effects.notes)
      × (fences f (after_fence G next x o).going.file ≡ fences f G.file)
  unfolding give_or_refuse
  after_same G x None = late_same G x (late G.file.kept next x)
  after_same G x (Some j) = (refl, refl)

  -- behind a fence
  fence_notes : (x : Grant)
      → NotesOf (after_fence (fence_begins Revoking format go) next x (fence_begins Revoking format go).file.job)
  unfolding notes_events
  fence_notes x law =
      let G : Going = fence_begins Revoking format (at_file w.server chosen f) in
      let v : Served = after_fence G next x G.file.job in
      let same = after_same G x G.file.job in
      let seen : fences f v.going.file ≡ fence_events f =
      same.1 ∙ fence_seen f Revoking format (begins w.server) w.server.drives chosen in
      subst (λ (es : List Event). NotesMay (after_all s es) w f i v.going.effects.notes) (sym seen)
      (subst (NotesMay (after_all s (fence_events f)) w f i) (sym same.0)
      (own_fence next s w f k i (subst (Lawful s) seen law) Revoking format (begins w.server) w.server.drives chosen refl))

  first_notes : (x : Grant) → NotesOf (fence_first go next format x)
  unfolding fence_first
  first_notes x = elim (cases_Bool (f.kept.tag == GREATEST_TAG)) [
    | inl e ↦
        rw e (λ law.
        own_may (after_all s (fences f f)) w f i f.kept [] Spent refl (none_may (after_all s (fences f f)) w f i) (λ l r. tt))
    | inr e ↦ rw e (fence_notes x)
  ]

  give_notes : (x : Grant) → NotesOf (give_or_refuse go next x)
  unfolding give_or_refuse
  give_notes x = plain_notes (by_late go x (late f.kept next x)) (late_same go x (late f.kept next x)).0

  grants_notes : (x : Grant) → NotesOf (on_grants go next format now x)
  unfolding on_grants
  grants_notes x = elim (cases_Bool (must_fence now f.kept.grants x)) [
    | inl e ↦ rw e (first_notes x)
    | inr e ↦ rw e (give_notes x)
  ]

  early_notes : (x : Grant) (e : Early) → NotesOf (by_early go next format now x e)
  early_notes x BadMode = plain_notes (by_early go next format now x BadMode) refl
  early_notes x Invalid = plain_notes (by_early go next format now x Invalid) refl
  early_notes x Unable = plain_notes (by_early go next format now x Unable) refl
  early_notes x (Waits n) = plain_notes (by_early go next format now x (Waits n)) refl
  early_notes x On = grants_notes x

  abbrev v : Served
  v = gets (at_file w.server chosen f) next format now q.client iomode offset count

  pub gets_notes : NotesOf (gets (at_file w.server chosen f) next format now q.client iomode offset count)
  unfolding gets
  gets_notes =
      early_notes (asked f.kept next q.client now offset count (iomode == LAYOUTIOMODE4_RW)) (early f iomode offset count)

  -- ---- the first line

  pub gets_first : Lawful s (fences f (gets (at_file w.server chosen f) next format now q.client iomode offset count).going.file)
  gets_first =
      fences_lawful next s f (gets (at_file w.server chosen f) next format now q.client iomode offset count).going.file k.kept

  -- ---- the answer

  module _ (server : Server) (is : q.args ≡ Gets iomode offset count) (out : CarriesOut w s f q.client q)
      (here : q.file ≡ f.kept.number) (t : State) where
    abbrev Given : List Note → Type 0
    Given ns = Lawful t (notes_events t w f i ns)

    abbrev rw_ : Bool
    rw_ = iomode == LAYOUTIOMODE4_RW

    abbrev AnswerOf : Served → Type 0
    AnswerOf x =
        Given x.going.effects.notes → SteadyStays s (behind_notes t w f i x.going.effects.notes) →
        Lawful (behind_notes t w f i x.going.effects.notes)
        (answered_here (behind_notes t w f i x.going.effects.notes) q.client (Gets iomode offset count) (answer_with server q x)
        x.going.file)

    refused : (x : Served) → IsRefused next t w f i Given (Gets iomode offset count) x → AnswerOf x
    refused x r law stays =
        let bad : (status_of (answer_with server q x).results == NFS4_OK) ≡ false = rw (r.none, is) r.status in
        rw bad (
          refusal_may w f x.going.file s q.client q refl out true
              (behind_notes t w f i x.going.effects.notes) stays (answer_with server q x) here iomode offset count is,
          tt,
        )

    given : (x : Served) → IsGiven next t w f i Given q.client rw_ x → AnswerOf x
    given x r = subst AnswerOf (sym r.gives_it) (λ law stays.
        let u : State = behind_notes t w f i r.before.effects.notes in
        let es : answered_here u q.client (Gets iomode offset count) (answer_with server q (gives r.before r.grant))
        (gives r.before r.grant).going.file ≡
        event.Grants q.client r.grant.number r.grant.rw
        (covers_column r.before.file.kept.map r.grant.first r.grant.end) r.grant.extending ∷ [] =
        rw (found_new r.before.file.kept.grants r.grant q.client r.can.client r.can.own, r.rw_is) refl in
        subst (Lawful u) (sym es)
        (let asked_it = get_asked w f x.going.file s q.client q refl out true u stays (answer_with server q x) here iomode offset
        count is in
        (grants_allowed next r.busy u r.before.file.kept q.client r.grant r.can (r.so_far law) (rw r.rw_is asked_it), tt)))

    answer_by : (x : Served) → GetsAs next t w f i Given (Gets iomode offset count) q.client rw_ x → AnswerOf x
    answer_by x (Refused r) = refused x r
    answer_by x (Given_ r) = given x r

  pub gets_answer : (server : Server) → q.args ≡ Gets iomode offset count → CarriesOut w s f q.client q → q.file ≡ f.kept.number
      → FileFits f → (f.job ≡ None → f.spent ≡ false → f.kept.ready ≡ true) → (t : State)
      → t ≡ after_all s (fences f (gets (at_file w.server chosen f) next format now q.client iomode offset count).going.file)
      → Lawful t (notes_events t w f i
      (gets (at_file w.server chosen f) next format now q.client iomode offset count).going.effects.notes)
      → Lawful
      (behind_notes t w f i (gets (at_file w.server chosen f) next format now q.client iomode offset count).going.effects.notes)
      (answered_here
      (behind_notes t w f i (gets (at_file w.server chosen f) next format now q.client iomode offset count).going.effects.notes)
      q.client (Gets iomode offset count)
      (answer_with server q (gets (at_file w.server chosen f) next format now q.client iomode offset count))
      (gets (at_file w.server chosen f) next format now q.client iomode offset count).going.file)
  gets_answer server is out here fits made t same law =
      let r = gets_on next s w f i (λ u ns. Lawful u (notes_events u w f i ns)) (λ busy u. lawful_supplies next busy u w f i)
      k.safe k.kept fits made chosen format now q.client iomode offset count in
      let es : List Event =
      fences f (gets (at_file w.server chosen f) next format now q.client iomode offset count).going.file in
      let g = r.is (subst (Lawful s) r.seen gets_first) in
      let at_t : after_all s r.events ≡ t = ap (after_all s) (sym r.seen) ∙ sym same in
      answer_by server is out here t (gets (at_file w.server chosen f) next format now q.client iomode offset count)
      (subst (λ (u : State). GetsAs next u w f i (λ ns. Lawful u (notes_events u w f i ns)) (Gets iomode offset count) q.client
      (iomode == LAYOUTIOMODE4_RW) (gets (at_file w.server chosen f) next format now q.client iomode offset count)) at_t g)
      law
      (subst (λ (u : State). SteadyStays s (behind_notes u w f i
      (gets (at_file w.server chosen f) next format now q.client iomode offset count).going.effects.notes)) (sym same)
      (notes_stay s es w f i (gets (at_file w.server chosen f) next format now q.client iomode offset count).going.effects.notes
      (fences_plain f (gets (at_file w.server chosen f) next format now q.client iomode offset count).going.file)))
