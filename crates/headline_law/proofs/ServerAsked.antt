-- A client's request that comes to the server: each event of the step can happen, if those of the request can.
use Rattle.std.proofs.Common.{◌≡◌, ◌==◌, ◌&&◌, ℕ, Bool, true, false, nat_le, List, [], ◌∷◌, ◌++◌, Option, Some, None, refl, sym, ap, subst, ◌∙◌, inl, inr}
use Rattle.std.proofs.lemmas.Bool.{cases_Bool, cases_eq, eqb-true, eq-eqb, ne_eqb}
use Rattle.std.proofs.lemmas.Option.{same_Some}
use Rattle.osd_lists.specs.declared.node.Node.TheVariants.{Client as FromClient}
use Rattle.layout_ops.specs.declared.messages.Answer.{Answer}
use Rattle.layout_ops.specs.declared.statuses.TheConstants.{NFS4_OK}
use Rattle.client_rules.specs.Results.{status_of}
use Rattle.server_rules.specs.declared.limits.TheConstants.{MAX_CLIENT}
use Rattle.server_rules.specs.Answers.{recalls_from}
use Rattle.server_rules.specs.Files.{Step, still, file_at, at_file}
use Rattle.server_rules.specs.History.{Input, Hears, step}
use Rattle.server_rules.specs.Laws.{is_taken_of}
use Rattle.server_rules.specs.Messages.{Asks, counters_have_room, on_message}
use Rattle.server_rules.specs.Requests.{serves, answer_with, keeps, answer_without, carried_out, only_answers, carries_out, by_admit, on_request}
use Rattle.server_rules.specs.Return.{returns_on}
use Rattle.server_rules.specs.Served.{Served}
use Rattle.server_rules.specs.Slots.{Admit, New, Again, Misordered, slot_of, admit}
use Rattle.server_rules.proofs.FileLaws.{number_at, put_other}
use Rattle.history_law.proofs.Files.{put_gives}
use Rattle.component_law.specs.KeptWalk.{FileFits}
use Rattle.world_history.specs.ServerNames.{File, ClientRequest, RequestArgs, Get as Gets, Commit as Commits, Return as Returns, IoErr, Answers}
use Rattle.world_history.specs.State.{World}
use Rattle.fence_law.specs.State.{State, Event}
use Rattle.fence_law.specs.State.{Event as event}
use Rattle.fence_law.specs.Machine.{Allowed, Lawful, after_all}
use Rattle.file_simulation.specs.EventLists.{where_so}
use Rattle.file_simulation.specs.ServerEvents.{is_served, served_here, answered_here, answered_to, at_first, sends_all}
use Rattle.file_simulation.specs.Showing.{IsRun}
use Rattle.relation_law.specs.KeptSteps.{notes_events, behind_notes}
use Rattle.relation_law.specs.RequestsGoing.{CarriesOut}
use Rattle.relation_law.proofs.KeptRequests.{carried_answer, ends_served}
use Rattle.relation_law.proofs.KeptServer.{IsReady, number_walked}
use Rattle.headline_law.specs.ServerLines.{MayGo, NotesMay}
use Rattle.headline_law.proofs.ServerCommits.{CommitWaits, commits_may, commits_silent}
use Rattle.headline_law.proofs.ServerGets.{gets_notes, gets_first, gets_answer}
use Rattle.headline_law.proofs.ServerLines.{StepMay, drives_go, recalls_go, answer_go}
use Rattle.headline_law.proofs.ServerNotes.{none_may}
use Rattle.headline_law.proofs.ServerOwn.{OtherMay, other_walked, StandsSo}
use Rattle.headline_law.proofs.ServerReturns.{RequestMay, ReturnMay}

-- what is known of a new request that the server carries out
pub record AskedSo (s : State) (w : World) (f : File) (chosen : List ℕ) (now : ℕ) (q : ClientRequest)
    (k : StandsSo w.server.next_grant s w f) : Type 0 where
  pub carries : CarriesOut w s f q.client q
  pub other : (q.file ≡ f.kept.number → ⊥) → Allowed s (event.ServesOther q.client)
  pub fits : FileFits f
  pub made : f.job ≡ None → f.spent ≡ false → f.kept.ready ≡ true
  pub commits_so : q.file ≡ f.kept.number → (last : Option ℕ) → q.args ≡ Commits last →
      Allowed s (event.ServesOther q.client) × CommitWaits s q.client
  pub returns_so : q.file ≡ f.kept.number → (report : List IoErr) → (is : q.args ≡ Returns report) →
      (may : RequestMay s q.client)
      × ReturnMay w.server.next_grant s w f k chosen now q report is may
      (returns_on (at_file w.server chosen f) w.server.format q.client report)

module _ (s : State) (w : World) (f : File) (chosen : List ℕ) (now : ℕ) (q : ClientRequest)
    (k : StandsSo w.server.next_grant s w f) (ready : IsReady w f) where
  -- ---- on the file

  module _ (so : AskedSo s w f chosen now q k) (here : q.file ≡ f.kept.number) where
    abbrev i : Input
    i = Hears now (FromClient q.client) (Asks q)

    abbrev v : RequestArgs → Served
    v args = serves (at_file w.server chosen f) w.server.next_grant w.server.format now q.client args

    abbrev firsts : RequestArgs → List Event
    firsts args =
        served_here s q.client args (status_of (answer_with w.server q (v args)).results == NFS4_OK) f (v args).going.file

    -- the events of its first line, of the notes, and of the answer
    record OnFile (args : RequestArgs) : Type 0 where
      first : Lawful s (firsts args)
      notes : NotesMay (after_all s (firsts args)) w f i (v args).going.effects.notes
      answer : Lawful (after_all s (firsts args)) (notes_events (after_all s (firsts args)) w f i (v args).going.effects.notes) →
          IsRun (behind_notes (after_all s (firsts args)) w f i (v args).going.effects.notes) →
          Lawful (behind_notes (after_all s (firsts args)) w f i (v args).going.effects.notes)
          (answered_here (behind_notes (after_all s (firsts args)) w f i (v args).going.effects.notes) q.client args
          (answer_with w.server q (v args)) (v args).going.file)

    by_args : (args : RequestArgs) → q.args ≡ args → OnFile args
    by_args (Gets iomode offset count) is =
        let first = gets_first w.server.next_grant s w f k chosen w.server.format now q iomode offset count in
        record {
          first = first;
          notes = gets_notes w.server.next_grant s w f k chosen w.server.format now q iomode offset count first;
          answer = λ l r.
              gets_answer w.server.next_grant s w f k chosen w.server.format now q iomode offset count w.server is so.carries
              here so.fits so.made (after_all s (firsts (Gets iomode offset count))) refl l;
        }
    by_args (Commits last) is =
        let x = so.commits_so here last is in
        record {
          first = (x.0, commits_may w.server.next_grant s w f k chosen q last is x.0 x.1);
          notes = subst (NotesMay (after_all s (firsts (Commits last))) w f i)
              (sym (commits_silent w.server.next_grant s w f k chosen q last is x.0 x.1))
              (none_may (after_all s (firsts (Commits last))) w f i);
          answer = λ l r. tt;
        }
    by_args (Returns report) is =
        let x = (so.returns_so here report is).1 in
        record {
          first = subst (Lawful s) (sym x.seen) x.first;
          notes = subst (λ (es : List Event). NotesMay (after_all s es) w f i (v (Returns report)).going.effects.notes)
              (sym x.seen) x.notes;
          answer = subst (λ (es : List Event).
              Lawful (after_all s es) (notes_events (after_all s es) w f i (v (Returns report)).going.effects.notes)
              → IsRun (behind_notes (after_all s es) w f i (v (Returns report)).going.effects.notes)
              → Lawful (behind_notes (after_all s es) w f i (v (Returns report)).going.effects.notes)
              (answered_here (behind_notes (after_all s es) w f i (v (Returns report)).going.effects.notes) q.client
              (Returns report) (answer_with w.server q (v (Returns report))) (v (Returns report)).going.file)) (sym x.seen)
              x.answer;
        }

    on_file : is_served w.server q.client q ≡ true → (g : File)
        → file_at (carried_out w.server q (v q.args)).state.files f.kept.number ≡ Some g
        → StepMay s w f g (Hears now (FromClient q.client) (Asks q)) (carried_out w.server q (v q.args))
    on_file taken g found =
        let did : Step = carried_out w.server q (v q.args) in
        let n : ℕ = f.kept.number in
        let number : (v q.args).going.file.kept.number ≡ n =
        ends_served (λ l ns. l.number ≡ n) (number_walked n) (λ l m ns e x. e ∙ x) (at_file w.server chosen f)
        w.server.next_grant w.server.format now q.client q.args refl in
        let same : g ≡ (v q.args).going.file =
        put_gives w.server.files n (v q.args).going.file g number (rw here at found) in
        let G : File = (v q.args).going.file in
        let x = by_args q.args refl in
        let t : State = after_all s (firsts q.args) in
        let first : at_first s w.server did f G i ≡ firsts q.args =
        rw (taken, eq-eqb q.file n here, carried_answer w.server q (v q.args)) refl in
        let answer : (u : State) → answered_to u w.server G (answer_with w.server q (v q.args)) i
        ≡ answered_here u q.client q.args (answer_with w.server q (v q.args)) G =
        λ u. rw (taken, eq-eqb q.file G.kept.number (here ∙ sym number)) refl in
        subst (λ (y : File). StepMay s w f y i did) (sym same)
        (record {
          first = subst (Lawful s) (sym first) x.first;
          notes = subst (λ (es : List Event). NotesMay (after_all s es) w f i did.notes) (sym first) x.notes;
          sends = subst (λ (es : List Event).
              Lawful (after_all s es) (notes_events (after_all s es) w f i did.notes)
              → IsRun (behind_notes (after_all s es) w f i did.notes)
              → MayGo (behind_notes (after_all s es) w f i did.notes)
              (sends_all (behind_notes (after_all s es) w f i did.notes) w.server G i did.sends)) (sym first)
              (λ l r.
              let u : State = behind_notes t w f i did.notes in
              drives_go u w.server G i w.server.drives (v q.args).going.effects.sent
              (recalls_from w.server.next_recall (v q.args).recalled ++ (Answers (answer_with w.server q (v q.args)) ∷ []))
              (recalls_go u w.server G i w.server.next_recall (v q.args).recalled
              (Answers (answer_with w.server q (v q.args)) ∷ [])
              (answer_go u w.server G i (answer_with w.server q (v q.args))
              (subst (Lawful u) (sym (answer u)) (x.answer l r)))));
        })

  -- ---- whatever is asked

  module _ (c : ℕ) (so : q.client ≡ c → is_served w.server q.client q ≡ true → AskedSo s w f chosen now q k) where
    abbrev j : Input
    j = Hears now (FromClient c) (Asks q)

    abbrev Goes : Step → Type 0
    Goes did = (g : File) → file_at did.state.files f.kept.number ≡ Some g → StepMay s w f g j did

    never_so : (b : Bool) (es : List Event) → where_so (b && false) es ≡ []
    never_so true es = refl
    never_so false es = refl

    -- one that isn't carried out
    idle_still : is_served w.server c q ≡ false → Goes (still w.server)
    unfolding notes_events sends_all MayGo
    idle_still no_ g found = record {
      first = rw no_ tt;
      notes = none_may _ w f j;
      sends = λ l r. tt;
    }

    idle_answer : is_served w.server c q ≡ false → (a : Answer) → Goes (only_answers w.server a)
    unfolding notes_events
    idle_answer no_ a g found = record {
      first = rw no_ tt;
      notes = none_may _ w f j;
      sends = λ l r. answer_go _ w.server g j a (rw no_ tt);
    }

    -- one on another file
    module _ (taken : is_served w.server q.client q ≡ true) (own : q.client ≡ c) (ne : q.file ≡ f.kept.number → ⊥) where
      taken_c : is_served w.server c q ≡ true
      taken_c = ap (λ (n : ℕ). is_served w.server n q) (sym own) ∙ taken

      first_is : (did : Step) (g : File) → at_first s w.server did f g j ≡ event.ServesOther q.client ∷ []
      first_is did g = rw (taken_c, ne_eqb q.file f.kept.number ne) refl

      answer_is_ : (u : State) (g : File) (a : Answer) → g.kept.number ≡ f.kept.number → answered_to u w.server g a j ≡ []
      answer_is_ u g a same =
          rw (ne_eqb q.file g.kept.number (λ e. ne (e ∙ same)))
          (never_so (is_served w.server c q) (answered_here u c q.args a g))

      beside : (did : Step) → file_at did.state.files f.kept.number ≡ Some f
          → ((t : State) → NotesMay t w f j did.notes)
          → ((u : State) → MayGo u (sends_all u w.server f j did.sends)) → Goes did
      beside did stays notes sends g found =
          let same : f ≡ g = same_Some f g (sym stays ∙ found) in
          subst (λ (y : File). StepMay s w f y j did) same
          (record {
            first = subst (Lawful s) (sym (first_is did f)) ((so own taken).other ne, tt);
            notes = notes (after_all s (at_first s w.server did f f j));
            sends = λ l r. sends (behind_notes (after_all s (at_first s w.server did f f j)) w f j did.notes);
          })

      without : Goes (only_answers (keeps w.server (answer_without q)) (answer_without q))
      without =
          beside (only_answers (keeps w.server (answer_without q)) (answer_without q)) ready.there (λ t. none_may t w f j)
          (λ u. answer_go u w.server f j (answer_without q)
          (subst (Lawful u) (sym (answer_is_ u f (answer_without q) refl)) tt))

      other : (x : File) → file_at w.server.files q.file ≡ Some x
          → Goes (carried_out w.server q
          (serves (at_file w.server chosen x) w.server.next_grant w.server.format now q.client q.args))
      other x found =
          let v : Served = serves (at_file w.server chosen x) w.server.next_grant w.server.format now q.client q.args in
          let is : x.kept.number ≡ q.file = number_at w.server.files q.file x found in
          let number : v.going.file.kept.number ≡ q.file =
          ends_served (λ l ns. l.number ≡ q.file) (number_walked q.file) (λ a b ns e m. e ∙ m) (at_file w.server chosen x)
          w.server.next_grant w.server.format now q.client q.args is in
          let quiet : (t : State) → OtherMay t w f j v.going.file.kept v.going.effects.notes = λ t.
          ends_served (OtherMay t w f j) (other_walked t w f j) (λ a b ns e m. (λ y. m.0 (sym e ∙ y), m.1))
          (at_file w.server chosen x) w.server.next_grant w.server.format now q.client q.args
          ((λ e. ne (sym is ∙ e)), none_may t w f j) in
          beside (carried_out w.server q v)
          (put_other w.server.files q.file v.going.file number f.kept.number (ne_eqb q.file f.kept.number ne) ∙ ready.there)
          (λ t. (quiet t).1)
          (λ u.
          drives_go u w.server f j w.server.drives v.going.effects.sent
          (recalls_from w.server.next_recall v.recalled ++ (Answers (answer_with w.server q v) ∷ []))
          (recalls_go u w.server f j w.server.next_recall v.recalled (Answers (answer_with w.server q v) ∷ [])
          (answer_go u w.server f j (answer_with w.server q v)
          (subst (Lawful u) (sym (answer_is_ u f (answer_with w.server q v) refl)) tt))))

    -- one on the file
    here_goes : is_served w.server q.client q ≡ true → q.client ≡ c → (x : File) → file_at w.server.files q.file ≡ Some x
        → q.file ≡ f.kept.number
        → Goes (carried_out w.server q
        (serves (at_file w.server chosen x) w.server.next_grant w.server.format now q.client q.args))
    here_goes taken own x found e =
        let same : f ≡ x = same_Some f x (sym ready.there ∙ ap (file_at w.server.files) (sym e) ∙ found) in
        subst (λ (y : File).
        Goes (carried_out w.server q
        (serves (at_file w.server chosen y) w.server.next_grant w.server.format now q.client q.args))) same
        (λ g at. subst (λ (n : ℕ). StepMay s w f g (Hears now (FromClient n) (Asks q)) (carried_out w.server q
        (serves (at_file w.server chosen f) w.server.next_grant w.server.format now q.client q.args))) own
        (on_file (so own taken) e taken g at))

    carried : is_served w.server q.client q ≡ true → q.client ≡ c → (o : Option File) → file_at w.server.files q.file ≡ o
        → Goes (carries_out w.server now chosen q o)
    carried taken own None found =
        without taken own (λ e. absurd (cc (sym (ap (file_at w.server.files) (sym e) ∙ found) ∙ ready.there)))
    carried taken own (Some x) found = elim (cases_eq q.file f.kept.number) [
      | inl e ↦ here_goes taken own x found e
      | inr ne ↦ other taken own ne x found
    ]

    admitted : q.client ≡ c → is_taken_of w.server c c q ≡ true → (a : Admit)
        → admit (slot_of w.server.slots c) q.sequence ≡ a → Goes (by_admit w.server now chosen q a)
    admitted own taken New is =
        carried (ap (λ (n : ℕ). is_served w.server n q) own ∙ rw (taken, is) refl) own (file_at w.server.files q.file) refl
    admitted own taken (Again kept) is = idle_answer (rw (taken, is) refl) kept
    admitted own taken (Misordered expected) is = idle_answer (rw (taken, is) refl) _

    untaken : is_taken_of w.server c c q ≡ false → is_served w.server c q ≡ false
    untaken e = rw e refl

    -- each event of the step can happen
    pub asked_may : Goes (step w.server chosen j)
    unfolding on_message on_request
    asked_may = elim (cases_Bool (counters_have_room w.server)) [
      | inl low ↦ elim (cases_Bool ((q.client == c) && nat_le c MAX_CLIENT)) [
        | inl mine ↦
            let own : q.client ≡ c = eqb-true q.client c (front (q.client == c) (nat_le c MAX_CLIENT) mine) in
            let taken : is_taken_of w.server c c q ≡ true = rw (eq-eqb c c refl, low, mine) refl in
            let does : step w.server chosen j ≡
            by_admit w.server now chosen q (admit (slot_of w.server.slots q.client) q.sequence) = rw (low, mine) refl in
            subst Goes (sym does)
            (admitted own taken (admit (slot_of w.server.slots q.client) q.sequence)
            (ap (λ (n : ℕ). admit (slot_of w.server.slots n) q.sequence) (sym own)))
        | inr no_ ↦
            let does : step w.server chosen j ≡ still w.server = rw (low, no_) refl in
            subst Goes (sym does) (idle_still (untaken (rw (eq-eqb c c refl, low, no_) refl)))
      ]
      | inr full ↦
          let does : step w.server chosen j ≡ still w.server = rw full refl in
          subst Goes (sym does) (idle_still (untaken (rw (eq-eqb c c refl, full) refl)))
    ]
      where
        front : (a b : Bool) → (a && b) ≡ true → a ≡ true
        front true b e = refl
        front false b e = e
