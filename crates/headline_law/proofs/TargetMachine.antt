-- Where a reply comes to the server while a file is still, its step's notes leave the machine's bytes, and a component that
-- was made anew has the cells that the rebuild made.
use Rattle.std.proofs.Common.{◌≡◌, ◌⊎◌, ◌==◌, ℕ, Bool, true, false, nat_lt, List, [], ◌∷◌, refl, sym, ap, subst, ◌∙◌, inl, inr, eq-eqb}
use Rattle.std.proofs.lemmas.Bool.{cases_eq, cases_Bool, true≢false}
use Rattle.data_map.specs.Inverse.{stripe_at}
use Rattle.osd_lists.specs.declared.node.Node.TheVariants as node
use Rattle.osd_commands.specs.declared.replies.Reply.{Reply}
use Rattle.server_rules.specs.History.{Input, Hears}
use Rattle.server_rules.specs.Laws.{In}
use Rattle.server_rules.specs.Messages.{Replies}
use Rattle.world_history.specs.ServerNames.{File, Note, NoteKind, Ready, Fenced, Repaired, Rebuilt, NoDrive, Lost, NoSpace, Audit, Busy, Spent, Reported}
use Rattle.world_history.specs.State.{World, at_number}
use Rattle.fence_law.specs.State as machine
use Rattle.fence_law.specs.State.{State}
use Rattle.fence_law.specs.State.Event.{Rebuilds, Fails}
use Rattle.fence_law.specs.Law.{IsCode, byte_before}
use Rattle.fence_law.specs.Machine.{Lawful, after, after_all}
use Rattle.fence_law.specs.Starts.{rebuilt_start}
use Rattle.fence_law.specs.Words.{updated}
use Rattle.fence_law.proofs.Held.{at_new}
use Rattle.fence_law.proofs.Words.{updated_at, updated_other}
use Rattle.plan_law.specs.FileLayout.{position_in}
use Rattle.file_simulation.specs.Components.{has_failed}
use Rattle.file_simulation.specs.EventLists.{where_so}
use Rattle.file_simulation.specs.ServerEvents.{cells_made, lacks_space, noted_here, noted}
use Rattle.relation_law.specs.KeptSteps.{notes_events, behind_notes}
use Rattle.relation_law.proofs.KeptNotes.{after_both, lawful_front, lawful_back}

-- the machine's bytes are as they were, and no fence and no repair runs
pub record IsSteady (s b : State) : Type 0 where
  pub bytes : (q : ℕ) → byte_before b b.count q ≡ byte_before s s.count q
  pub layout : b.layout ≡ s.layout
  pub tag : b.tag ≡ s.tag
  pub fencing : b.fencing ≡ false
  pub repairing : b.repairing ≡ false

pub steady_here : (s : State) → s.fencing ≡ false → s.repairing ≡ false → IsSteady s s
steady_here s over whole = record { bytes = λ q. refl; layout = refl; tag = refl; fencing = over; repairing = whole }

-- a component has the cells that the rebuild made, and the file's tag
pub record IsMadeAnew (s b : State) (f : File) (k : ℕ) : Type 0 where
  pub cells : (z : ℕ) → b.cell k z ≡ cells_made s f.kept.map f.kept.high k z
  pub tag : b.object_tag k ≡ s.tag

module _ (s : State) (code : IsCode s.layout) (w : World) (f : File) (now drive : ℕ) (r : Reply) where
  abbrev i : Input
  i = Hears now (node.Drive drive) (Replies r)

  made_same : (b : State) (k z : ℕ) → IsSteady s b →
      cells_made b f.kept.map f.kept.high k z ≡ cells_made s f.kept.map f.kept.high k z
  unfolding cells_made
  made_same b k z st = elim (cases_Bool (nat_lt (stripe_at f.kept.map (position_in f.kept.map k) z) f.kept.high)) [
    | inl low ↦ rw low
        (ap (λ (y : machine.Layout). y.word k z (byte_before b b.count)) st.layout
        ∙ code.local k z (byte_before b b.count) (byte_before s s.count) (λ q here. st.bytes q))
    | inr high ↦ rw high refl
  ]

  -- ---- one note

  rebuilds : (b : State) (j : ℕ) (cells : ℕ → ℕ) → IsSteady s b → IsSteady s (after b (Rebuilds j cells))
  rebuilds b j cells st = record {
    bytes = λ q. at_new b (rebuilt_start b j cells) (λ n y. updated (λ x. false) j true n) q ∙ st.bytes q;
    layout = st.layout;
    tag = st.tag;
    fencing = st.fencing;
    repairing = st.repairing;
  }

  fails : (b : State) (j : ℕ) (t : Bool) → IsSteady s b → IsSteady s (after_all b (where_so t (Fails j ∷ [])))
  fails b j true st = record {
    bytes = st.bytes;
    layout = st.layout;
    tag = st.tag;
    fencing = st.fencing;
    repairing = st.repairing;
  }
  fails b j false st = st

  lacks : (b : State) (j : ℕ) (missing lost : Bool) → IsSteady s b → IsSteady s (after_all b (lacks_space missing lost j))
  lacks b j true lost st = st
  lacks b j false true st = record {
    bytes = st.bytes;
    layout = st.layout;
    tag = st.tag;
    fencing = st.fencing;
    repairing = st.repairing;
  }
  lacks b j false false st = record {
    bytes = st.bytes;
    layout = st.layout;
    tag = st.tag;
    fencing = st.fencing;
    repairing = st.repairing;
  }

  here : (b : State) (kind : NoteKind) → IsSteady s b → Lawful b (noted_here b w f i kind) →
      IsSteady s (after_all b (noted_here b w f i kind))
  here b (Fenced tag) st l = absurd (true≢false (sym (rw st.repairing at l).0.runs ∙ st.fencing))
  here b (Repaired stripes short) st l = absurd (true≢false (sym l.0.runs ∙ st.repairing))
  here b (NoSpace j) st l = lacks b j (b.missing j) (b.lost j) st
  here b (Rebuilt j d) st l =
      fails (after b (Rebuilds j (cells_made b f.kept.map f.kept.high j))) j (has_failed (at_number w.drives d))
      (rebuilds b j (cells_made b f.kept.map f.kept.high j) st)
  here b kind st l = st

  -- ---- what was made anew

  made_fails : (b : State) (j k : ℕ) (t : Bool) → IsMadeAnew s b f k →
      IsMadeAnew s (after_all b (where_so t (Fails j ∷ []))) f k
  made_fails b j k true x = record { cells = x.cells; tag = x.tag }
  made_fails b j k false x = x

  made_lacks : (b : State) (j k : ℕ) (missing lost : Bool) → IsMadeAnew s b f k →
      IsMadeAnew s (after_all b (lacks_space missing lost j)) f k
  made_lacks b j k true lost x = x
  made_lacks b j k false true x = record { cells = x.cells; tag = x.tag }
  made_lacks b j k false false x = record { cells = x.cells; tag = x.tag }

  made_now : (b : State) (j : ℕ) → IsSteady s b →
      IsMadeAnew s (after b (Rebuilds j (cells_made b f.kept.map f.kept.high j))) f j
  made_now b j st = record {
    cells = λ z.
        ap (λ (c : ℕ → ℕ). c z) (updated_at b.cell j (cells_made b f.kept.map f.kept.high j) j refl) ∙ made_same b j z st;
    tag = updated_at b.object_tag j b.tag j refl ∙ st.tag;
  }

  made_beside : (b : State) (j k : ℕ) (cells : ℕ → ℕ) → (k ≡ j → ⊥) → IsMadeAnew s b f k →
      IsMadeAnew s (after b (Rebuilds j cells)) f k
  made_beside b j k cells other x = record {
    cells = λ z. ap (λ (c : ℕ → ℕ). c z) (updated_other b.cell j cells k other) ∙ x.cells z;
    tag = updated_other b.object_tag j b.tag k other ∙ x.tag;
  }

  -- it is so already, or this note tells it
  abbrev IsDue : State → (k : ℕ) → NoteKind → Type 0
  IsDue b k kind = IsMadeAnew s b f k ⊎ ((d : ℕ) × (kind ≡ Rebuilt k d))

  already : (b : State) (k : ℕ) (kind : NoteKind) → ((d : ℕ) → kind ≡ Rebuilt k d → ⊥) → IsDue b k kind → IsMadeAnew s b f k
  already b k kind none (inl x) = x
  already b k kind none (inr (d, is)) = absurd (none d is)

  made_here : (b : State) (kind : NoteKind) (k : ℕ) → IsSteady s b → Lawful b (noted_here b w f i kind) → IsDue b k kind →
      IsMadeAnew s (after_all b (noted_here b w f i kind)) f k
  made_here b (Rebuilt j d) k st l due =
      made_fails (after b (Rebuilds j (cells_made b f.kept.map f.kept.high j))) j k (has_failed (at_number w.drives d))
      (elim (cases_eq k j) [
        | inl same ↦
            subst (IsMadeAnew s (after b (Rebuilds j (cells_made b f.kept.map f.kept.high j))) f) (sym same)
            (made_now b j st)
        | inr other ↦
            made_beside b j k (cells_made b f.kept.map f.kept.high j) other
            (already b k (Rebuilt j d) (λ e is. other (sym (component j d e is))) due)
      ])
    where
      component : (a c e : ℕ) → Rebuilt a c ≡ Rebuilt k e → a ≡ k
      component a c e is = cc is
  made_here b (Fenced tag) k st l due = absurd (true≢false (sym (rw st.repairing at l).0.runs ∙ st.fencing))
  made_here b (Repaired stripes short) k st l due = absurd (true≢false (sym l.0.runs ∙ st.repairing))
  made_here b (NoSpace j) k st l due =
      made_lacks b j k (b.missing j) (b.lost j) (already b k (NoSpace j) (λ d is. cc is) due)
  made_here b Ready k st l due = already b k Ready (λ d is. cc is) due
  made_here b (NoDrive j) k st l due = already b k (NoDrive j) (λ d is. cc is) due
  made_here b (Lost j positions) k st l due = already b k (Lost j positions) (λ d is. cc is) due
  made_here b (Audit n short bad lengths) k st l due =
      already b k (Audit n short bad lengths) (λ d is. cc is) due
  made_here b (Busy n) k st l due = already b k (Busy n) (λ d is. cc is) due
  made_here b Spent k st l due = already b k Spent (λ d is. cc is) due
  made_here b (Reported j) k st l due = already b k (Reported j) (λ d is. cc is) due

  -- ---- all notes

  one : (b : State) (n : Note) → IsSteady s b → Lawful b (noted b w f i n) → IsSteady s (after_all b (noted b w f i n))
  one b n st l = by_file (n.file == f.kept.number) l
    where
      by_file : (t : Bool) → Lawful b (where_so t (noted_here b w f i n.kind)) →
          IsSteady s (after_all b (where_so t (noted_here b w f i n.kind)))
      by_file true x = here b n.kind st x
      by_file false x = st

  made_one : (b : State) (n : Note) (k : ℕ) → IsSteady s b → Lawful b (noted b w f i n) →
      IsMadeAnew s b f k ⊎ ((n.file ≡ f.kept.number) × ((d : ℕ) × (n.kind ≡ Rebuilt k d))) →
      IsMadeAnew s (after_all b (noted b w f i n)) f k
  made_one b n k st l due = by_file (n.file == f.kept.number) refl l
    where
      by_file : (t : Bool) → (n.file == f.kept.number) ≡ t → Lawful b (where_so t (noted_here b w f i n.kind)) →
          IsMadeAnew s (after_all b (where_so t (noted_here b w f i n.kind))) f k
      by_file true is x = made_here b n.kind k st x (elim due [ inl old ↦ inl old | inr new ↦ inr new.1 ])
      by_file false is x = elim due [
        | inl old ↦ old
        | inr new ↦ absurd (true≢false (sym (eq-eqb n.file f.kept.number new.0) ∙ is))
      ]

  pub made_all : (b : State) (ns : List Note) (k : ℕ) → IsSteady s b → Lawful b (notes_events b w f i ns) →
      IsMadeAnew s b f k
      ⊎ ((n : Note) × In n ns × (n.file ≡ f.kept.number) × ((d : ℕ) × (n.kind ≡ Rebuilt k d))) →
      IsMadeAnew s (behind_notes b w f i ns) f k
  unfolding notes_events
  made_all b [] k st l due = elim due [ inl x ↦ x | inr x ↦ absurd x.1 ]
  made_all b (n ∷ ns) k st l due =
      let front = lawful_front b (noted b w f i n) (notes_events (after_all b (noted b w f i n)) w f i ns) l in
      let back = lawful_back b (noted b w f i n) (notes_events (after_all b (noted b w f i n)) w f i ns) l in
      let next : IsSteady s (after_all b (noted b w f i n)) = one b n st front in
      subst (λ (c : State). IsMadeAnew s c f k)
      (sym (after_both b (noted b w f i n) (notes_events (after_all b (noted b w f i n)) w f i ns)))
      (made_all (after_all b (noted b w f i n)) ns k next back (elim due [
        | inl x ↦ inl (made_one b n k st front (inl x))
        | inr (x, inl same, file, kind) ↦
            inl (made_one b n k st front (inr (
              ap (λ (y : Note). y.file) (sym same) ∙ file,
              (kind.0, ap (λ (y : Note). y.kind) (sym same) ∙ kind.1),
            )))
        | inr (x, inr later, file, kind) ↦ inr (x, later, file, kind)
      ]))
