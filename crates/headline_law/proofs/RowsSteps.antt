-- Each step of the server: the job of a file begins a piece anew, or goes on at the same piece, and then no note on the file
-- has an event.
-- Towards `RowsFollow` (`specs/Parts.antt`).
use Rattle.std.proofs.Common.{◌≡◌, ◌⊎◌, ◌==◌, ◌++◌, ℕ, ◌+◌, ◌≤◌, Bool, true, false, map, List, [], ◌∷◌, Some, None, refl, sym, ap, subst, ◌∙◌, inl, inr, arith, append_assoc, eq-eqb, if◌then◌else◌}
use Rattle.std.proofs.lemmas.Bool.{cases_Bool, cases_eq, ne_eqb}
use Rattle.std.proofs.lemmas.List.{append-nil}
use Rattle.std.proofs.lemmas.Option.{same_Some}
use Rattle.server_rules.specs.Files.{Step, begins, file_at, put_file, at_file, step_at}
use Rattle.server_rules.specs.Going.{Going}
use Rattle.server_rules.specs.History.{Input, Makes, step}
use Rattle.server_rules.specs.Jobs.{fence_begins, declares, making}
use Rattle.server_rules.specs.Laws.{IsSafe}
use Rattle.server_rules.specs.Making.{refusal, with_file, makes_file}
use Rattle.server_rules.specs.Numbers.{among}
use Rattle.server_rules.specs.Openings.{crashed_file, opens, opens_each}
use Rattle.server_rules.specs.Orders.{declare, declares_each, offline}
use Rattle.server_rules.specs.Replies.{answers, hearing, hears}
use Rattle.server_rules.specs.Requests.{serves}
use Rattle.server_rules.proofs.FileLaws.{number_at, put_same, put_other, add_other, not_there}
use Rattle.history_law.specs.Names.{Server, File, Kept, Component, Drive, Effects, Note, NoteKind, Reported, ClientRequest, RawMap}
use Rattle.history_law.specs.Steps.{Answering, IsAnswering, answered_file, new_file, Refuses, WhileBusy, OnGreatest, StepCases, RequestCases}
use Rattle.history_law.proofs.Files.{put_gives}
use Rattle.history_law.proofs.Hearing.{found_in}
use Rattle.history_law.proofs.Steps.{each_step, each_request}
use Rattle.component_law.specs.Distinct.{AreDistinct}
use Rattle.component_law.specs.Words.{Each}
use Rattle.world_history.specs.State.{World}
use Rattle.fence_law.specs.State.{State, Event}
use Rattle.file_simulation.specs.EventLists.{where_so}
use Rattle.file_simulation.specs.ServerEvents.{noted}
use Rattle.relation_law.specs.ComponentsWalk.{reports_of, IsWalked, TakesReports}
use Rattle.relation_law.specs.KeptSteps.{notes_events, behind_notes}
use Rattle.relation_law.proofs.ComponentsJobs.{own_hears, own_fence, own_declares, own_opens, own_making}
use Rattle.relation_law.proofs.ComponentsServes.{own_serves}
use Rattle.relation_law.proofs.ComponentsSteps.{AreAimed}
use Rattle.relation_law.proofs.KeptNotes.{events_more}
use Rattle.relation_law.proofs.KeptServer.{at_place}
use Rattle.headline_law.proofs.RowsBegin.{BeginsAnew}
use Rattle.headline_law.proofs.RowsTurn.{GoesOn, Turns, same_goes, hears_turn, fence_turn, declares_turn, opens_turn, serves_turn, declares_rises, opens_rises}

-- a file's number stays, whatever it notes
abbrev HasNumber : (number : ℕ) → Kept → List Note → Type 0
HasNumber c k ns = k.number ≡ c

number_walked : (c : ℕ) → IsWalked (HasNumber c)
number_walked c = record {
  same = λ k l ns number components h. number ∙ h;
  silent = λ k ns kind p h. h;
  lost = λ k ns m h. h;
  full = λ k ns m p h. h;
  rebuilt = λ k ns u h. h;
}

number_taken : (c : ℕ) → TakesReports (HasNumber c)
number_taken c k ns ks h = h

module _ (t : State) (w : World) (f : File) (i : Input) (chosen : List ℕ)
    (there : file_at w.server.files f.kept.number ≡ Some f) (apart : AreDistinct w.server.files)
    (aimed : AreAimed w.server.files) (safe : IsSafe f) where
  abbrev s : Server
  s = w.server

  abbrev n : ℕ
  n = w.server.next_nonce

  -- these notes have no event
  abbrev Quiet : List Note → Type 0
  Quiet ns = notes_events t w f i ns ≡ []

  abbrev TurnedOf : List File → List Note → Type 0
  TurnedOf files ns =
      (g : File) → file_at files f.kept.number ≡ Some g → BeginsAnew w.server.next_nonce g
      ⊎ (GoesOn w.server.next_nonce i f g × (notes_events t w f i ns ≡ []))

  -- the job of the file begins anew behind the step, or goes on
  abbrev pub Turned : Step → Type 0
  Turned did = TurnedOf did.state.files did.notes

  none_noted : notes_events t w f i [] ≡ []
  unfolding notes_events
  none_noted = refl

  -- ---- other files

  -- a file with this other number, and notes that have no event
  abbrev Beside : (number : ℕ) → Kept → List Note → Type 0
  Beside c k ns = (k.number ≡ c) × (notes_events t w f i ns ≡ [])

  module _ (c : ℕ) (ne : c ≡ f.kept.number → ⊥) where
    note_more : (ns : List Note) (m : ℕ) (kind : NoteKind) → m ≡ c → Quiet ns →
        notes_events t w f i (ns ++ (record { file = m; kind = kind } ∷ [])) ≡ []
    note_more ns m kind own q =
        let here : noted (behind_notes t w f i ns) w f i (record { file = m; kind = kind }) ≡ [] =
        rw (ne_eqb m f.kept.number (λ e. ne (sym own ∙ e))) refl in
        events_more t w f i ns (record { file = m; kind = kind })
        ∙ ap (λ (es : List Event). es ++ noted (behind_notes t w f i ns) w f i (record { file = m; kind = kind })) q ∙ here

    beside_walked : IsWalked (Beside c)
    beside_walked = record {
      same = λ k l ns number components h. (number ∙ h.0, h.1);
      silent = λ k ns kind p h. (h.0, note_more ns k.number kind h.0 h.1);
      lost = λ k ns m h. (h.0, note_more ns k.number _ h.0 h.1);
      full = λ k ns m p h. (h.0, note_more ns k.number _ h.0 h.1);
      rebuilt = λ k ns u h. (h.0, note_more ns k.number _ h.0 h.1);
    }

    one_report : (m : ℕ) → m ≡ c → (k : ℕ) (b : Bool) (more ns : List Note) → Quiet ns →
        ((ls : List Note) → Quiet ls → notes_events t w f i (ls ++ more) ≡ []) →
        notes_events t w f i (ns ++ ((if b then record { file = m; kind = Reported k } ∷ [] else []) ++ more)) ≡ []
    one_report m own k true more ns q rest =
        ap (notes_events t w f i) (sym (append_assoc ns (record { file = m; kind = Reported k } ∷ []) more))
        ∙ rest (ns ++ (record { file = m; kind = Reported k } ∷ [])) (note_more ns m (Reported k) own q)
    one_report m own k false more ns q rest = rest ns q

    reports_quiet : (m : ℕ) → m ≡ c → (ks : List ℕ) (cs : List Component) (k : ℕ) (ns : List Note) → Quiet ns →
        notes_events t w f i (ns ++ reports_of m ks cs k) ≡ []
    unfolding reports_of
    reports_quiet m own ks [] k ns q = ap (notes_events t w f i) (append-nil ns) ∙ q
    reports_quiet m own ks (at ∷ cs) k ns q =
        one_report m own k (among k ks) (reports_of m ks cs (k + 1)) ns q (reports_quiet m own ks cs (k + 1))

    beside_taken : TakesReports (Beside c)
    beside_taken k ns ks h = (h.0, reports_quiet k.number h.0 ks k.components 0 ns h.1)

  -- ---- the file among those behind a step

  stays : (files : List File) (ns : List Note) → file_at files f.kept.number ≡ Some f → Quiet ns → TurnedOf files ns
  stays files ns same q g found =
      let is : f ≡ g = same_Some f g (sym same ∙ found) in
      inr (subst (GoesOn w.server.next_nonce i f) is (same_goes w.server.next_nonce t w f i f refl refl), q)

  -- this file goes on
  turned : (g : File) (G : Going) → G.file ≡ g → Turns w.server.next_nonce t w f i G →
      BeginsAnew w.server.next_nonce g ⊎ (GoesOn w.server.next_nonce i f g × (notes_events t w f i G.effects.notes ≡ []))
  turned g G is turn = elim turn.1 [
    | inl begins ↦ inl (subst (BeginsAnew w.server.next_nonce) is begins)
    | inr goes ↦ inr (subst (GoesOn w.server.next_nonce i f) is goes.0, goes.1)
  ]

  own : (G : Going) (m : ℕ) → m ≡ f.kept.number → G.file.kept.number ≡ f.kept.number →
      Turns w.server.next_nonce t w f i G → TurnedOf (put_file w.server.files m G.file) G.effects.notes
  own G m here number turn g found =
      let it : g ≡ G.file = put_gives w.server.files f.kept.number G.file g number
      (subst (λ (q : ℕ). file_at (put_file w.server.files q G.file) f.kept.number ≡ Some g) here found) in
      turned g G (sym it) turn

  -- another one does
  other : (x : File) (G : Going) (m : ℕ) → m ≡ x.kept.number → (x.kept.number ≡ f.kept.number → ⊥) →
      Beside x.kept.number G.file.kept G.effects.notes → TurnedOf (put_file w.server.files m G.file) G.effects.notes
  other x G m here ne beside =
      stays (put_file w.server.files m G.file) G.effects.notes
      (put_other w.server.files m G.file (beside.0 ∙ sym here) f.kept.number (ne_eqb m f.kept.number (λ e. ne (sym here ∙ e)))
      ∙ there) beside.1

  -- whichever it is
  either_file : (x : File) (m : ℕ) (G : File → Going) → file_at w.server.files x.kept.number ≡ Some x → m ≡ x.kept.number →
      ((Q : Kept → List Note → Type 0) → IsWalked Q → TakesReports Q → Q x.kept [] → Q (G x).file.kept (G x).effects.notes) →
      Turns w.server.next_nonce t w f i (G f) → TurnedOf (put_file w.server.files m (G x).file) (G x).effects.notes
  either_file x m G found here walk mine = elim (cases_eq x.kept.number f.kept.number) [
    | inl is ↦
        let same : x ≡ f = same_Some x f (sym found ∙ ap (file_at w.server.files) is ∙ there) in
        own (G x) m (here ∙ is) (walk (HasNumber f.kept.number) (number_walked f.kept.number) (number_taken f.kept.number) is)
        (subst (λ (y : File). Turns w.server.next_nonce t w f i (G y)) (sym same) mine)
    | inr ne ↦
        other x (G x) m here ne
        (walk (Beside x.kept.number) (beside_walked x.kept.number ne) (beside_taken x.kept.number ne) (refl, none_noted))
  ]

  -- ---- a request

  requests : (now : ℕ) (q : ClientRequest) → RequestCases w.server now chosen q Turned
  requests now q = record {
    again = λ kept is. stays w.server.files [] there none_noted;
    misordered = λ expected is. stays w.server.files [] there none_noted;
    without = λ is none. stays w.server.files [] there none_noted;
    served = λ is x found.
        let m : x.kept.number ≡ q.file = number_at w.server.files q.file x found in
        either_file x q.file (λ (y : File).
        (serves (at_file w.server chosen y) w.server.next_grant w.server.format now q.client q.args).going)
        (ap (file_at w.server.files) m ∙ found) (sym m)
        (λ Q walked takes h.
        own_serves Q walked takes (at_file w.server chosen x) w.server.next_grant w.server.format now q.client q.args h)
        (serves_turn w.server.next_nonce t w f i (begins w.server) w.server.drives chosen
        (omega arith) none_noted safe w.server.next_grant
        w.server.format now q.client q.args);
  }

  -- ---- rounds

  abbrev AllOther : List File → Type 0
  AllOther fs = Each (λ (x : File). x.kept.number ≡ f.kept.number → ⊥) fs

  module _ (drive : ℕ) (ds : List Drive) where
    declared_beside : (x : File) (m : Effects) (c : List ℕ) → (x.kept.number ≡ f.kept.number → ⊥) → Quiet m.notes →
        Beside x.kept.number (declares (record { file = x; effects = m; drives = ds; chosen = c }) drive).file.kept
        (declares (record { file = x; effects = m; drives = ds; chosen = c }) drive).effects.notes
    declared_beside x m c ne q =
        own_declares (Beside x.kept.number) (beside_walked x.kept.number ne)
        (record { file = x; effects = m; drives = ds; chosen = c }) drive (refl, q) (λ none. (refl, q))

    declares_quiet : (fs : List File) (m : Effects) (c : List ℕ) → AllOther fs → Quiet m.notes →
        Quiet (declares_each drive ds fs m c).effects.notes
    unfolding declares_each
    declares_quiet [] m c others q = q
    declares_quiet (x ∷ fs) m c others q =
        let g : Going = declares (record { file = x; effects = m; drives = ds; chosen = c }) drive in
        declares_quiet fs g.effects g.chosen others.1 (declared_beside x m c others.0 q).1

    declares_turned : (fs : List File) (m : Effects) (c : List ℕ) → AreDistinct fs → file_at fs f.kept.number ≡ Some f →
        w.server.next_nonce ≤ m.nonce → Quiet m.notes →
        TurnedOf (declares_each drive ds fs m c).files (declares_each drive ds fs m c).effects.notes
    unfolding declares_each file_at
    declares_turned [] m c d here low q g found = absurd (cc here)
    declares_turned (x ∷ fs) m c d here low q g found =
        let G : Going = declares (record { file = x; effects = m; drives = ds; chosen = c }) drive in
        let number : G.file.kept.number ≡ x.kept.number =
        own_declares (HasNumber x.kept.number) (number_walked x.kept.number)
        (record { file = x; effects = m; drives = ds; chosen = c }) drive refl (λ none. refl) in
        elim (cases_eq x.kept.number f.kept.number) [
          | inl is ↦
              let same : x ≡ f = same_Some x f (rw (eq-eqb x.kept.number f.kept.number is) at here) in
              let it : G.file ≡ g = same_Some G.file g (rw (eq-eqb G.file.kept.number f.kept.number (number ∙ is)) at found) in
              let mine : Turns w.server.next_nonce t w f i
              (declares (record { file = x; effects = m; drives = ds; chosen = c }) drive) =
              subst (λ (y : File). Turns w.server.next_nonce t w f i
              (declares (record { file = y; effects = m; drives = ds; chosen = c }) drive))
              (sym same) (declares_turn w.server.next_nonce t w f i m ds c low q drive) in
              elim (turned g G it mine) [
                | inl anew ↦ inl anew
                | inr goes ↦ inr (
                  goes.0,
                  declares_quiet fs G.effects G.chosen
                      (subst (λ (k : ℕ). Each (λ (y : File). y.kept.number ≡ k → ⊥) fs) is d.0) goes.1,
                )
              ]
          | inr ne ↦
              declares_turned fs G.effects G.chosen d.1 (rw (ne_eqb x.kept.number f.kept.number ne) at here)
              (declares_rises w.server.next_nonce drive (record { file = x; effects = m; drives = ds; chosen = c }) low)
              (declared_beside x m c ne q).1 g
              (rw (ne_eqb G.file.kept.number f.kept.number (λ e. ne (sym number ∙ e))) at found)
        ]

  module _ (format : ℕ) (ds : List Drive) where
    opened_beside : (x : File) (m : Effects) → (x.kept.number ≡ f.kept.number → ⊥) → Quiet m.notes →
        Beside x.kept.number (opens format (record { file = x; effects = m; drives = ds; chosen = [] })).file.kept
        (opens format (record { file = x; effects = m; drives = ds; chosen = [] })).effects.notes
    opened_beside x m ne q =
        own_opens (Beside x.kept.number) (beside_walked x.kept.number ne) format
        (record { file = x; effects = m; drives = ds; chosen = [] }) (refl, q)

    opens_quiet : (fs : List File) (m : Effects) → AllOther fs → Quiet m.notes → Quiet (opens_each format ds fs m).effects.notes
    unfolding opens_each
    opens_quiet [] m others q = q
    opens_quiet (x ∷ fs) m others q =
        opens_quiet fs (opens format (record { file = x; effects = m; drives = ds; chosen = [] })).effects others.1
        (opened_beside x m others.0 q).1

    opens_turned : (fs : List File) (m : Effects) → AreDistinct fs → file_at fs f.kept.number ≡ Some f →
        w.server.next_nonce ≤ m.nonce → Quiet m.notes →
        TurnedOf (opens_each format ds fs m).files (opens_each format ds fs m).effects.notes
    unfolding opens_each file_at
    opens_turned [] m d here low q g found = absurd (cc here)
    opens_turned (x ∷ fs) m d here low q g found =
        let G : Going = opens format (record { file = x; effects = m; drives = ds; chosen = [] }) in
        let number : G.file.kept.number ≡ x.kept.number =
        own_opens (HasNumber x.kept.number) (number_walked x.kept.number) format
        (record { file = x; effects = m; drives = ds; chosen = [] }) refl in
        elim (cases_eq x.kept.number f.kept.number) [
          | inl is ↦
              let same : x ≡ f = same_Some x f (rw (eq-eqb x.kept.number f.kept.number is) at here) in
              let it : G.file ≡ g = same_Some G.file g (rw (eq-eqb G.file.kept.number f.kept.number (number ∙ is)) at found) in
              let mine : Turns w.server.next_nonce t w f i
              (opens format (record { file = x; effects = m; drives = ds; chosen = [] })) =
              subst (λ (y : File). Turns w.server.next_nonce t w f i
              (opens format (record { file = y; effects = m; drives = ds; chosen = [] })))
              (sym same) (opens_turn w.server.next_nonce t w f i m ds [] low q format) in
              elim (turned g G it mine) [
                | inl anew ↦ inl anew
                | inr goes ↦ inr (
                  goes.0,
                  opens_quiet fs G.effects
                      (subst (λ (k : ℕ). Each (λ (y : File). y.kept.number ≡ k → ⊥) fs) is d.0) goes.1,
                )
              ]
          | inr ne ↦
              opens_turned fs G.effects d.1 (rw (ne_eqb x.kept.number f.kept.number ne) at here)
              (opens_rises w.server.next_nonce format (record { file = x; effects = m; drives = ds; chosen = [] }) low)
              (opened_beside x m ne q).1 g
              (rw (ne_eqb G.file.kept.number f.kept.number (λ e. ne (sym number ∙ e))) at found)
        ]

  -- ---- any step

  crashed : (fs : List File) (g : File) → file_at (map crashed_file fs) f.kept.number ≡ Some g → g.job ≡ None
  unfolding file_at
  crashed [] g found = absurd (cc found)
  crashed (x ∷ fs) g found = elim (cases_Bool (x.kept.number == f.kept.number)) [
    | inl here ↦ ap (λ (y : File). y.job) (sym (same_Some (crashed_file x) g (rw here at found)))
    | inr past ↦ crashed fs g (rw past at found)
  ]

  where_none : (b : Bool) → where_so b [] ++ [] ≡ []
  where_none true = refl
  where_none false = refl

  refused_quiet : (x : File) (kind : NoteKind) → Refuses x kind → Quiet (record { file = x.kept.number; kind = kind } ∷ [])
  unfolding notes_events
  refused_quiet x kind (WhileBusy j runs is) =
      ap (λ (k : NoteKind). notes_events t w f i (record { file = x.kept.number; kind = k } ∷ [])) is
      ∙ where_none (x.kept.number == f.kept.number)
  refused_quiet x kind (OnGreatest none great is) =
      ap (λ (k : NoteKind). notes_events t w f i (record { file = x.kept.number; kind = k } ∷ [])) is
      ∙ where_none (x.kept.number == f.kept.number)

  put_back : (x : File) → file_at w.server.files x.kept.number ≡ Some x →
      file_at (put_file w.server.files x.kept.number x) f.kept.number ≡ Some f
  put_back x found = elim (cases_eq x.kept.number f.kept.number) [
    | inl here ↦
        let same : x ≡ f = same_Some x f (sym found ∙ ap (file_at w.server.files) here ∙ there) in
        subst (λ (y : File). file_at (put_file w.server.files y.kept.number y) f.kept.number ≡ Some f) (sym same)
        (put_same w.server.files f.kept.number f f refl there)
    | inr ne ↦
        put_other w.server.files x.kept.number x refl f.kept.number (ne_eqb x.kept.number f.kept.number ne) ∙ there
  ]

  found_own : (m : ℕ) (x : File) → file_at w.server.files m ≡ Some x → file_at w.server.files x.kept.number ≡ Some x
  found_own m x found = ap (file_at w.server.files) (number_at w.server.files m x found) ∙ found

  -- a reply
  answered : (x : Answering) → IsAnswering w.server i x →
      Turned (step_at w.server (answered_file w.server chosen x).file.kept.number (answered_file w.server chosen x))
  answered x is = elim (cases_eq x.file.kept.number f.kept.number) [
    | inl here ↦
        let same : x.file ≡ f =
        same_Some x.file f (sym (at_place w.server.files x.file apart is.there) ∙ ap (file_at w.server.files) here ∙ there) in
        let found = found_in (answers x.drive x.reply) x.job.awaited x.awaited is.awaits in
        own (answered_file w.server chosen x) (answered_file w.server chosen x).file.kept.number (number ∙ here) (number ∙ here)
        (subst (λ (y : File). Turns w.server.next_nonce t w f i (hears (at_file w.server chosen y) x.job x.awaited x.reply
        (hearing y.kept x.awaited x.reply))) (sym same)
        (hears_turn w.server.next_nonce t w f i (begins w.server) w.server.drives chosen
        (omega arith) none_noted x.now x.drive x.reply
        is.is x.job (ap (λ (y : File). y.job) (sym same) ∙ is.runs) x.awaited found.0 found.1
        (hearing f.kept x.awaited x.reply) refl))
    | inr ne ↦
        other x.file (answered_file w.server chosen x) (answered_file w.server chosen x).file.kept.number number ne
        (walked (Beside x.file.kept.number) (beside_walked x.file.kept.number ne) (refl, none_noted))
  ]
    where
      walked : (Q : Kept → List Note → Type 0) → IsWalked Q → Q x.file.kept [] →
          Q (answered_file w.server chosen x).file.kept (answered_file w.server chosen x).effects.notes
      walked Q q h =
          own_hears Q q (at_file w.server chosen x.file) x.job x.awaited x.reply (hearing x.file.kept x.awaited x.reply)
          (λ u e. aimed x.file is.there x.job u is.runs e) h

      number : (answered_file w.server chosen x).file.kept.number ≡ x.file.kept.number
      number = walked (HasNumber x.file.kept.number) (number_walked x.file.kept.number) refl

  -- a file that is made
  made : (m : ℕ) (map_ : RawMap) (tag : ℕ) (zoned : Bool) → i ≡ Makes m map_ tag zoned →
      refusal w.server m map_ zoned ≡ None → Turned (makes_file w.server (new_file w.server chosen m map_ tag zoned))
  made m map_ tag zoned is ok =
      let x : File = new_file w.server chosen m map_ tag zoned in
      let go : Going =
      at_file (with_file w.server (new_file w.server chosen m map_ tag zoned)) [] (new_file w.server chosen m map_ tag zoned) in
      let ne : m ≡ f.kept.number → ⊥ =
      λ e. cc (sym (ap (file_at w.server.files) e ∙ there) ∙ not_there w.server m map_ zoned ok) in
      let beside : Beside m (making go).file.kept (making go).effects.notes =
      own_making (Beside m) (beside_walked m ne) go (refl, none_noted) in
      stays (put_file (with_file w.server x).files m (making go).file) (making go).effects.notes
      (put_other (with_file w.server x).files m (making go).file beside.0 f.kept.number (ne_eqb m f.kept.number ne)
      ∙ add_other w.server.files x f.kept.number (ne_eqb m f.kept.number ne) ∙ there) beside.1

  cases : StepCases w.server chosen i Turned
  unfolding declare
  cases = record {
    rests = stays w.server.files [] there none_noted;
    asked = λ now q is. each_request w.server now chosen q Turned (requests now q);
    answered = answered;
    recalled = λ x is. stays w.server.files [] there none_noted;
    refused = λ x is kind why.
        stays (put_file w.server.files x.kept.number x) (record { file = x.kept.number; kind = kind } ∷ [])
        (put_back x (found_own is.target x is.found)) (refused_quiet x kind why);
    fenced = λ x is kind none low.
        either_file x x.kept.number (λ (y : File). fence_begins kind w.server.format (at_file w.server chosen y))
        (found_own is.target x is.found) refl
        (λ Q walked takes h. own_fence Q walked kind w.server.format (at_file w.server chosen x) h)
        (fence_turn w.server.next_nonce t w f i (begins w.server) w.server.drives chosen
        (omega arith) none_noted kind w.server.format);
    declared = λ d known.
        declares_turned d (offline w.server.drives d) w.server.files (begins w.server) chosen apart there
        (omega arith) none_noted;
    told = λ u now o is result turned_. turned_;
    made = made;
    added = λ d is. stays w.server.files [] there none_noted;
    zoned = λ d zone is. stays w.server.files [] there none_noted;
    formats = λ m is. stays w.server.files [] there none_noted;
    resends = λ is. stays w.server.files [] there none_noted;
    crashes = λ is g found. inl (λ j runs. absurd (cc (sym (crashed w.server.files g found) ∙ runs)));
    opened = λ is low.
        opens_turned w.server.format w.server.drives w.server.files (begins w.server) apart there (omega arith) none_noted;
  }

  -- So it is behind each step.
  pub turned_step : Turned (step w.server chosen i)
  turned_step = each_step w.server chosen i Turned cases
