-- The notes of a step, one more: its event can happen, or it has none.
use Rattle.std.proofs.Common.{◌≡◌, ◌⊎◌, Bool, List, [], ◌∷◌, ◌++◌, refl, sym, ap, subst, ◌∙◌, inl, inr, append_assoc}
use Rattle.std.proofs.lemmas.Bool.{eq-eqb, ne_eqb}
use Rattle.std.proofs.lemmas.List.{append-nil}
use Rattle.server_rules.specs.History.{Input}
use Rattle.component_law.specs.KeptWalk.{noted_of}
use Rattle.world_history.specs.ServerNames.{File, Kept, Note, NoteKind}
use Rattle.world_history.specs.State.{World}
use Rattle.fence_law.specs.State.{State, Event}
use Rattle.fence_law.specs.Machine.{Lawful, after_all}
use Rattle.file_simulation.specs.EventLists.{where_so}
use Rattle.file_simulation.specs.ServerEvents.{noted, noted_here}
use Rattle.file_simulation.specs.Showing.{IsRun}
use Rattle.relation_law.specs.ComponentsWalk.{noted_after}
use Rattle.relation_law.specs.KeptSteps.{notes_events, behind_notes}
use Rattle.relation_law.proofs.KeptNotes.{after_both, events_more}
use Rattle.headline_law.specs.ServerLines.{NotesMay}

-- ---- lists

-- a note among some and a last one is the last, or among the others
pub last_or_among : (ns : List Note) (x : Note) (before : List Note) (n : Note) (after : List Note)
    → ns ++ (x ∷ []) ≡ before ++ (n ∷ after)
    → ((before ≡ ns) × (n ≡ x)) ⊎ ((rest : List Note) × (ns ≡ before ++ (n ∷ rest)))
last_or_among [] x [] n after is = inl (refl, sym (cc is))
last_or_among [] x (b ∷ bs) n after is = absurd (none bs (cc is))
  where
    none : (cs : List Note) → [] ≡ cs ++ (n ∷ after) → ⊥
    none [] e = cc e
    none (c ∷ cs) e = cc e
last_or_among (y ∷ ns) x [] n after is =
    let same : y ≡ n = cc is in inr (ns, ap (λ (z : Note). z ∷ ns) same)
last_or_among (y ∷ ns) x (b ∷ bs) n after is =
    let same : y ≡ b = cc is in
    elim (last_or_among ns x bs n after (cc is)) [
      | inl e ↦ inl (ap (λ (l : List Note). b ∷ l) e.0 ∙ ap (λ (z : Note). z ∷ ns) (sym same), e.1)
      | inr e ↦ inr (e.0, ap (λ (z : Note). z ∷ ns) same ∙ ap (λ (l : List Note). b ∷ l) e.1)
    ]

-- the two names of the machine behind some notes
pub after_is : (t : State) (w : World) (f : File) (i : Input) (ns : List Note)
    → noted_after t w f i ns ≡ behind_notes t w f i ns
unfolding noted_after notes_events
after_is t w f i [] = refl
after_is t w f i (n ∷ ns) =
    after_is (after_all t (noted t w f i n)) w f i ns
    ∙ sym (after_both t (noted t w f i n) (notes_events (after_all t (noted t w f i n)) w f i ns))

module _ (t : State) (w : World) (f : File) (i : Input) where
  -- ---- one more

  pub more_may : (ns : List Note) (x : Note) → NotesMay t w f i ns
      → (Lawful t (notes_events t w f i ns) → IsRun (behind_notes t w f i ns)
      → Lawful (behind_notes t w f i ns) (noted (behind_notes t w f i ns) w f i x))
      → NotesMay t w f i (ns ++ (x ∷ []))
  more_may ns x may last before n after is law run = elim (last_or_among ns x before n after is) [
    | inl e ↦
        let l : Lawful t (notes_events t w f i ns) =
        subst (λ (z : List Note). Lawful t (notes_events t w f i z)) e.0 law in
        let r : IsRun (behind_notes t w f i ns) = subst (λ (z : List Note). IsRun (behind_notes t w f i z)) e.0 run in
        subst (λ (z : Note). Lawful (behind_notes t w f i before) (noted (behind_notes t w f i before) w f i z)) (sym e.1)
        (subst (λ (z : List Note). Lawful (behind_notes t w f i z) (noted (behind_notes t w f i z) w f i x)) (sym e.0)
        (last l r))
    | inr e ↦ may before n e.0 e.1 law run
  ]

  -- of the file
  pub own_may : (k : Kept) (ns : List Note) (kind : NoteKind) → k.number ≡ f.kept.number → NotesMay t w f i ns
      → (Lawful t (notes_events t w f i ns) → IsRun (behind_notes t w f i ns)
      → Lawful (behind_notes t w f i ns) (noted_here (behind_notes t w f i ns) w f i kind))
      → NotesMay t w f i (noted_of k ns kind)
  own_may k ns kind number may last =
      more_may ns (record { file = k.number; kind = kind }) may
      (λ l r. rw (eq-eqb k.number f.kept.number number) (last l r))

  -- of another
  pub other_may : (k : Kept) (ns : List Note) (kind : NoteKind) → (k.number ≡ f.kept.number → ⊥) → NotesMay t w f i ns
      → NotesMay t w f i (noted_of k ns kind)
  other_may k ns kind ne may =
      more_may ns (record { file = k.number; kind = kind }) may (λ l r. rw (ne_eqb k.number f.kept.number ne) tt)

  -- the machine behind one more of the file
  pub behind_own : (k : Kept) (ns : List Note) (kind : NoteKind) → k.number ≡ f.kept.number
      → behind_notes t w f i (noted_of k ns kind)
      ≡ after_all (behind_notes t w f i ns) (noted_here (behind_notes t w f i ns) w f i kind)
  behind_own k ns kind number =
      let n : Note = record { file = k.number; kind = kind } in
      let u : State = behind_notes t w f i ns in
      ap (after_all t) (events_more t w f i ns n)
      ∙ after_both t (notes_events t w f i ns) (noted u w f i n)
      ∙ ap (λ (b : Bool). after_all u (where_so b (noted_here u w f i kind))) (eq-eqb k.number f.kept.number number)

  pub none_may : NotesMay t w f i []
  none_may before n after is = absurd (none before is)
    where
      none : (bs : List Note) → [] ≡ bs ++ (n ∷ after) → ⊥
      none [] e = cc e
      none (b ∷ bs) e = cc e

  -- ---- notes without events

  nil_front : (es fs : List Event) → es ++ fs ≡ [] → es ≡ []
  nil_front [] fs e = refl
  nil_front (x ∷ es) fs e = absurd (cc e)

  nil_back : (es fs : List Event) → es ++ fs ≡ [] → fs ≡ []
  nil_back [] fs e = e
  nil_back (x ∷ es) fs e = absurd (cc e)

  nil_behind : (es fs : List Event) → es ++ fs ≡ es → fs ≡ []
  nil_behind [] fs e = e
  nil_behind (x ∷ es) fs e = nil_behind es fs (cc e)

-- the events of some notes, and of those behind them
pub events_both : (t : State) (w : World) (f : File) (i : Input) (ns ms : List Note)
    → notes_events t w f i (ns ++ ms) ≡ notes_events t w f i ns ++ notes_events (behind_notes t w f i ns) w f i ms
unfolding notes_events
events_both t w f i [] ms = refl
events_both t w f i (n ∷ ns) ms =
    let es : List Event = noted t w f i n in
    let u : State = after_all t es in
    ap (λ (x : List Event). es ++ x) (events_both u w f i ns ms)
    ∙ ap (λ (x : State). es ++ (notes_events u w f i ns ++ notes_events x w f i ms))
    (sym (after_both t es (notes_events u w f i ns)))
    ∙ sym (append_assoc es (notes_events u w f i ns)
    (notes_events (after_all t (es ++ notes_events u w f i ns)) w f i ms))

module _ (t : State) (w : World) (f : File) (i : Input) where
  pub silent_may : (ns : List Note) → notes_events t w f i ns ≡ [] → NotesMay t w f i ns
  unfolding notes_events
  silent_may ns none before n after is law run =
      let u : State = behind_notes t w f i before in
      let all : notes_events t w f i before ++ notes_events u w f i (n ∷ after) ≡ [] =
      sym (events_both t w f i before (n ∷ after)) ∙ ap (notes_events t w f i) (sym is) ∙ none in
      let here : noted u w f i n ≡ [] =
      nil_front t w f i (noted u w f i n) (notes_events (after_all u (noted u w f i n)) w f i after)
      (nil_back t w f i (notes_events t w f i before) (notes_events u w f i (n ∷ after)) all) in
      subst (Lawful u) (sym here) tt

  -- notes without events behind others
  pub quiet_may : (base more : List Note) → notes_events t w f i (base ++ more) ≡ notes_events t w f i base
      → NotesMay t w f i base → NotesMay t w f i (base ++ more)
  unfolding notes_events
  quiet_may base [] same may = subst (NotesMay t w f i) (sym (append-nil base)) may
  quiet_may base (m ∷ more) same may =
      let u : State = behind_notes t w f i base in
      let on : base ++ (m ∷ more) ≡ (base ++ (m ∷ [])) ++ more = sym (append_assoc base (m ∷ []) more) in
      let rest : notes_events u w f i (m ∷ more) ≡ [] =
      nil_behind t w f i (notes_events t w f i base) (notes_events u w f i (m ∷ more))
      (sym (events_both t w f i base (m ∷ more)) ∙ same) in
      let here : noted u w f i m ≡ [] =
      nil_front t w f i (noted u w f i m) (notes_events (after_all u (noted u w f i m)) w f i more) rest in
      let first : notes_events t w f i (base ++ (m ∷ [])) ≡ notes_events t w f i base =
      events_more t w f i base m ∙ ap (λ (x : List Event). notes_events t w f i base ++ x) here
      ∙ append-nil (notes_events t w f i base) in
      subst (NotesMay t w f i) (sym on)
      (quiet_may (base ++ (m ∷ [])) more (ap (notes_events t w f i) (sym on) ∙ same ∙ sym first)
      (more_may t w f i base m may (λ l r. subst (Lawful u) (sym here) tt)))
