-- The machine at a cut inside a step of the server, and the one behind all notes of the step: a rebuild that is still to be told
-- is done at the cut already, and behind it components are only lost.
use Rattle.std.proofs.Common.{◌≡◌, ◌==◌, ℕ, zero, suc, Bool, true, false, List, [], ◌∷◌, ◌++◌, take, Option, Some, None, refl, sym, ap, subst, ◌∙◌, inl, inr, eq-eqb}
use Rattle.std.specs.Prelude.{drop}
use Rattle.std.proofs.lemmas.Bool.{cases_eq, eqb-true, ne_eqb}
use Rattle.server_rules.specs.History.{Input}
use Rattle.server_rules.specs.Laws.{In}
use Rattle.world_history.specs.ServerNames.{File, Note, NoteKind, Outgoing, Ready, Fenced as FencedNote, Repaired as RepairedNote, Rebuilt, NoDrive, Lost, NoSpace, Audit, Busy, Spent, Reported}
use Rattle.world_history.specs.State.{World, at_number}
use Rattle.fence_law.specs.State.{State, Event}
use Rattle.fence_law.specs.State.Event.{Fails, Rebuilds}
use Rattle.fence_law.specs.Machine.{after, after_all}
use Rattle.fence_law.specs.Words.{updated}
use Rattle.fence_law.proofs.Words.{updated_at, updated_other}
use Rattle.file_simulation.specs.Components.{has_failed}
use Rattle.file_simulation.specs.Cuts.{rebuilt_by, rebuilt_ahead}
use Rattle.file_simulation.specs.EventLists.{Lines, where_so}
use Rattle.file_simulation.specs.Events.{joined}
use Rattle.file_simulation.specs.ServerEvents as table
use Rattle.file_simulation.specs.ServerEvents.{cells_made, notes_all, sends_all}
use Rattle.relation_law.specs.ComponentsWalk.{noted_after}
use Rattle.relation_law.specs.Frames.{AreAll}
use Rattle.relation_law.proofs.ComponentsFirst.{Spares, such_spares, sends_such, spared}
use Rattle.relation_law.proofs.ComponentsNotes.{Leaves, silent_leaves}
use Rattle.relation_law.proofs.KeptNotes.{after_both}
use Rattle.relation_law.proofs.FramesStay.{all_more}
use Rattle.relation_law.proofs.OwnFacts.{all_front}
use Rattle.headline_law.proofs.First.{AreFirst}

-- ---- notes

-- notes that components were rebuilt are the first on their files behind the first note too
first_behind : (n : Note) (ns : List Note) → AreFirst (n ∷ ns) → AreFirst ns
first_behind n ns first front back x y k d is kind i same =
    first (n ∷ front) back x y k d (ap (λ (l : List Note). n ∷ l) is) kind (inr i) same

-- no note on the file tells that a component was rebuilt
abbrev NoneRebuilt : File → List Note → Type 0
NoneRebuilt f ns = (n : Note) → In n ns → n.file ≡ f.kept.number → (k d : ℕ) → n.kind ≡ Rebuilt k d → ⊥

split_at : (x : Note) (ns : List Note) → In x ns → (front back : List Note) × (ns ≡ front ++ (x ∷ back))
split_at x [] i = absurd i
split_at x (n ∷ ns) (inl same) = ([], ns, ap (λ (y : Note). y ∷ ns) (sym same))
split_at x (n ∷ ns) (inr i) = let r = split_at x ns i in (n ∷ r.0, r.1, ap (λ (l : List Note). n ∷ l) r.2)

-- behind a note on the file there is none
none_behind : (f : File) (n : Note) (ns : List Note) → AreFirst (n ∷ ns) → n.file ≡ f.kept.number → NoneRebuilt f ns
none_behind f n ns first own x i file k d kind =
    let r = split_at x ns i in
    first (n ∷ r.0) r.1 x n k d (ap (λ (l : List Note). n ∷ l) r.2) kind (inl refl) (own ∙ sym file)

-- ---- components that are only lost

-- what is lost stays lost, and the cells of the component stay
pub record GoesDown (t u : State) (j : ℕ) : Type 0 where
  pub lost : t.lost j ≡ true → u.lost j ≡ true
  pub cells : (z : ℕ) → u.cell j z ≡ t.cell j z

down_same : (t : State) (j : ℕ) → GoesDown t t j
down_same t j = record { lost = λ e. e; cells = λ z. refl }

down_then : (t u v : State) (j : ℕ) → GoesDown t u j → GoesDown u v j → GoesDown t v j
down_then t u v j a b = record { lost = λ e. b.lost (a.lost e); cells = λ z. b.cells z ∙ a.cells z }

down_left : (t u : State) (j : ℕ) → Leaves t u j → GoesDown t u j
down_left t u j l = record { lost = λ e. l.lost ∙ e; cells = l.cells }

up_left : (t u : State) (j : ℕ) → Leaves t u j → GoesDown u t j
up_left t u j l = record { lost = λ e. sym l.lost ∙ e; cells = λ z. sym (l.cells z) }

-- one more is lost
one_lost : (lost : ℕ → Bool) (n j : ℕ) → lost j ≡ true → updated lost n true j ≡ true
one_lost lost n j e = elim (cases_eq j n) [
  | inl same ↦ updated_at lost n true j same
  | inr other ↦ updated_other lost n true j other ∙ e
]

module _ (w : World) (f : File) (i : Input) (j : ℕ) where
  space_down : (t : State) (n : ℕ) (missing lost : Bool) → GoesDown t (after_all t (table.lacks_space missing lost n)) j
  space_down t n true lost = down_same t j
  space_down t n false true = record { lost = λ e. e; cells = λ z. refl }
  space_down t n false false = record { lost = one_lost t.lost n j; cells = λ z. refl }

  report_down : (t : State) (n : ℕ) (o : Option ℕ) → GoesDown t (after_all t (table.reported n o)) j
  report_down t n None = down_same t j
  report_down t n (Some c) = record { lost = one_lost t.lost n j; cells = λ z. refl }

  kind_down : (t : State) (kind : NoteKind) → ((k d : ℕ) → kind ≡ Rebuilt k d → ⊥) →
      GoesDown t (after_all t (table.noted_here t w f i kind)) j
  kind_down t (Rebuilt k d) none = absurd (none k d refl)
  kind_down t (NoSpace n) none = space_down t n (t.missing n) (t.lost n)
  kind_down t (Reported n) none = report_down t n (table.asker i)
  kind_down t Ready none = down_same t j
  kind_down t (FencedNote tag) none = down_left t _ j (silent_leaves t w f i (FencedNote tag) j refl)
  kind_down t (RepairedNote a b) none = down_left t _ j (silent_leaves t w f i (RepairedNote a b) j refl)
  kind_down t (NoDrive k) none = down_same t j
  kind_down t (Lost a b) none = down_same t j
  kind_down t (Audit a b c d) none = down_same t j
  kind_down t (Busy n) none = down_same t j
  kind_down t Spent none = down_same t j

  note_down : (t : State) (n : Note) → (n.file ≡ f.kept.number → (k d : ℕ) → n.kind ≡ Rebuilt k d → ⊥) →
      GoesDown t (after_all t (table.noted t w f i n)) j
  note_down t n none = by (n.file == f.kept.number) refl
    where
      by : (b : Bool) → (n.file == f.kept.number) ≡ b →
          GoesDown t (after_all t (where_so b (table.noted_here t w f i n.kind))) j
      by true is = kind_down t n.kind (none (eqb-true n.file f.kept.number is))
      by false is = down_same t j

  notes_down : (t : State) (ns : List Note) → NoneRebuilt f ns → GoesDown t (noted_after t w f i ns) j
  unfolding noted_after
  notes_down t [] none = down_same t j
  notes_down t (n ∷ ns) none =
      let u : State = after_all t (table.noted t w f i n) in
      down_then t u (noted_after u w f i ns) j (note_down t n (none n (inl refl)))
      (notes_down u ns (λ x k. none x (inr k)))

  -- ---- a rebuild that is still to be told

  -- the machine with it, and the one behind these notes
  abbrev AheadDown : State → List Note → Type 0
  AheadDown u ns = GoesDown (after_all u (rebuilt_ahead u w f ns)) (noted_after u w f i ns) j

  own_ahead : (u : State) (n : Note) (ns : List Note) (kind : NoteKind) → n.kind ≡ kind → NoneRebuilt f ns →
      GoesDown (after_all u (rebuilt_by u w f kind)) (noted_after (after_all u (table.noted_here u w f i kind)) w f i ns) j
  own_ahead u n ns (Rebuilt k d) is none = notes_down (after_all u (table.rebuilt u w f k d)) ns none
  own_ahead u n ns kind is none =
      down_then u (after_all u (table.noted_here u w f i kind)) _ j (kind_down u kind (λ k d e. absurd (cc e)))
      (notes_down (after_all u (table.noted_here u w f i kind)) ns none)

  ahead_down : (u : State) (ns : List Note) → AreFirst ns → AheadDown u ns
  unfolding rebuilt_ahead noted_after
  ahead_down u [] first = down_same u j
  ahead_down u (n ∷ ns) first = elim (cases_eq n.file f.kept.number) [
    | inl own ↦
        rw (eq-eqb n.file f.kept.number own)
        (own_ahead u n ns n.kind refl (none_behind f n ns first own))
    | inr other ↦ rw (ne_eqb n.file f.kept.number other) (ahead_down u ns (first_behind n ns first))
  ]

  -- ---- a cut

  taken_spare : (n : ℕ) (ls : Lines) → AreAll Spares (joined ls) → AreAll Spares (joined (take n ls))
  taken_spare zero ls a = tt
  taken_spare (suc n) [] a = tt
  taken_spare (suc n) (l ∷ ls) a =
      all_more Spares l (joined (take n ls)) (all_front Spares l (joined ls) a) (taken_spare n ls (back l a))
    where
      back : (es : List Event) → AreAll Spares (es ++ joined ls) → AreAll Spares (joined ls)
      back [] b = b
      back (e ∷ es) b = back es b.1

  -- Behind the first q lines the machine has lost no more than behind all notes, and the cells of the component are the same.
  pub cut_down : (g : File) (os : List Outgoing) (ns : List Note) (q : ℕ) (t : State) → AreFirst ns →
      GoesDown (after_all (after_all t (joined (take q (notes_all t w f g i os ns))))
      (rebuilt_ahead (after_all t (joined (take q (notes_all t w f g i os ns)))) w f (drop q ns))) (noted_after t w f i ns) j
  unfolding notes_all noted_after rebuilt_ahead
  cut_down g os ns zero t first = ahead_down t ns first
  cut_down g os [] (suc q) t first =
      up_left t (after_all t (joined (take (suc q) (sends_all t w.server g i os)))) j
      (spared t (joined (take (suc q) (sends_all t w.server g i os))) j
      (taken_spare (suc q) (sends_all t w.server g i os) (sends_such Spares w.server g (such_spares g) t i os)))
  cut_down g os (n ∷ ns) (suc q) t first =
      let u : State = after_all t (table.noted t w f i n) in
      subst (λ (c : State). GoesDown (after_all c (rebuilt_ahead c w f (drop q ns))) (noted_after u w f i ns) j)
      (sym (after_both t (table.noted t w f i n) (joined (take q (notes_all u w f g i os ns)))))
      (cut_down g os ns q u (first_behind n ns first))

-- ---- the cells of a component that was rebuilt

fails_cells : (t : State) (failed : Bool) (k z : ℕ) → (after_all t (where_so failed (Fails k ∷ []))).cell k z ≡ t.cell k z
fails_cells t true k z = refl
fails_cells t false k z = refl

-- They are as the rebuild makes them where the notes begin.
pub cells_rebuilt : (w : World) (f : File) (i : Input) (k d : ℕ) (x : Note) → x.file ≡ f.kept.number → x.kind ≡ Rebuilt k d →
    (ns : List Note) → In x ns → AreFirst ns → (t : State) (z : ℕ) →
    (noted_after t w f i ns).cell k z ≡ cells_made t f.kept.map f.kept.high k z
unfolding noted_after
cells_rebuilt w f i k d x own kind [] there first t z = absurd there
cells_rebuilt w f i k d x own kind (n ∷ ns) (inl same) first t z =
    let file : n.file ≡ f.kept.number = ap (λ (y : Note). y.file) (sym same) ∙ own in
    let is : n.kind ≡ Rebuilt k d = ap (λ (y : Note). y.kind) (sym same) ∙ kind in
    let cells : ℕ → ℕ = cells_made t f.kept.map f.kept.high k in
    let u : State = after_all t (table.noted t w f i n) in
    let u_is : u ≡ after_all t (table.rebuilt t w f k d) =
    ap (λ (b : Bool). after_all t (where_so b (table.noted_here t w f i n.kind))) (eq-eqb n.file f.kept.number file)
    ∙ ap (λ (y : NoteKind). after_all t (table.noted_here t w f i y)) is in
    (notes_down w f i k u ns (none_behind f n ns first file)).cells z ∙ ap (λ (v : State). v.cell k z) u_is
    ∙ fails_cells (after t (Rebuilds k cells)) (has_failed (at_number w.drives d)) k z
    ∙ ap (λ (c : ℕ → ℕ). c z) (updated_at t.cell k cells k refl)
cells_rebuilt w f i k d x own kind (n ∷ ns) (inr later) first t z = elim (cases_eq n.file f.kept.number) [
  | inl file ↦ absurd (none_behind f n ns first file x later own k d kind)
  | inr other ↦
      ap (λ (b : Bool). (noted_after (after_all t (where_so b (table.noted_here t w f i n.kind))) w f i ns).cell k z)
      (ne_eqb n.file f.kept.number other)
      ∙ cells_rebuilt w f i k d x own kind ns later (first_behind n ns first) t z
]
