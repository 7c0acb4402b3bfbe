-- What the machine has of what is kept of a file lasts through each note of a step.
-- Towards `KeptGoesOn` (`specs/Steps.antt`).
use Rattle.std.proofs.Common.{◌≡◌, ℕ, ◌+◌, Bool, true, false, List, [], ◌∷◌, ◌++◌, Option, Some, None, refl, sym, ap, subst, ◌∙◌, arith, append_assoc, if◌then◌else◌}
use Rattle.std.proofs.lemmas.Bool.{true≢false, eq-eqb}
use Rattle.std.proofs.lemmas.List.{append-nil}
use Rattle.component_law.specs.Tagged.{is_fence}
use Rattle.server_rules.specs.History.{Input}
use Rattle.world_history.specs.ServerNames.{File, Kept, Phase, Still, Fencing, Repairing, FencingAgain, Note, NoteKind, Fenced as IsFenced, Repaired as IsRepaired, Rebuilt, NoSpace, Reported}
use Rattle.world_history.specs.State.{World, at_number}
use Rattle.fence_law.specs.State.{State, Event, Grant}
use Rattle.fence_law.specs.State.Event.{Fenced, Refenced, Repaired, Fails}
use Rattle.fence_law.specs.Machine.{Allowed, Lawful, after, after_all}
use Rattle.fence_law.proofs.Safe.{Safe, safe_all}
use Rattle.plan_law.specs.Standing.{column_stands, standing_byte}
use Rattle.file_simulation.specs.Components.{has_failed}
use Rattle.file_simulation.specs.EventLists.{where_so}
use Rattle.file_simulation.specs.Phases.{IsFencing, IsRepairing, PhaseIs, IsEndedAt, AreBelowHigh}
use Rattle.file_simulation.specs.ServerEvents.{noted, noted_here, lacks_space, reported, asker}
use Rattle.relation_law.specs.KeptSteps.{AllLight, notes_events, behind_notes, core, IsSoFar}
use Rattle.component_law.specs.KeptWalk.{is_plain, noted_of, IsWalked}
use Rattle.relation_law.proofs.KeptHigh.{high_after}
use Rattle.relation_law.proofs.KeptLight.{so_far_light, so_far_alike}

-- ---- lists of events

pub after_both : (s : State) (es fs : List Event) → after_all s (es ++ fs) ≡ after_all (after_all s es) fs
after_both s [] fs = refl
after_both s (e ∷ es) fs = after_both (after s e) es fs

pub lawful_front : (s : State) (es fs : List Event) → Lawful s (es ++ fs) → Lawful s es
lawful_front s [] fs l = tt
lawful_front s (e ∷ es) fs l = (l.0, lawful_front (after s e) es fs l.1)

pub lawful_back : (s : State) (es fs : List Event) → Lawful s (es ++ fs) → Lawful (after_all s es) fs
lawful_back s [] fs l = l
lawful_back s (e ∷ es) fs l = lawful_back (after s e) es fs l.1

pub lawful_both : (s : State) (es fs : List Event) → Lawful s es → Lawful (after_all s es) fs → Lawful s (es ++ fs)
lawful_both s [] fs l m = m
lawful_both s (e ∷ es) fs l m = (l.0, lawful_both (after s e) es fs l.1 m)

pub both_light : (es fs : List Event) → AllLight es → AllLight fs → AllLight (es ++ fs)
both_light [] fs l m = m
both_light (e ∷ es) fs l m = (l.0, both_light es fs l.1 m)

-- the events of a further note stand behind those of the former
pub events_more : (t : State) (w : World) (f : File) (i : Input) (ns : List Note) (n : Note)
    → notes_events t w f i (ns ++ (n ∷ [])) ≡ notes_events t w f i ns ++ noted (behind_notes t w f i ns) w f i n
unfolding notes_events
events_more t w f i [] n = append-nil (noted t w f i n)
events_more t w f i (m ∷ ns) n =
    let es : List Event = noted t w f i m in
    let u : State = after_all t es in
    ap (λ (x : List Event). es ++ x) (events_more u w f i ns n)
    ∙ ap (λ (x : State). es ++ (notes_events u w f i ns ++ noted x w f i n)) (sym (after_both t es (notes_events u w f i ns)))
    ∙ sym (append_assoc es (notes_events u w f i ns) (noted (after_all t (es ++ notes_events u w f i ns)) w f i n))

-- ---- a note that tells of no fence and of no repair

pub where_light : (b : Bool) (es : List Event) → AllLight es → AllLight (where_so b es)
where_light true es l = l
where_light false es l = tt

space_light : (missing lost : Bool) (k : ℕ) → AllLight (lacks_space missing lost k)
space_light true lost k = tt
space_light false true k = (refl, tt)
space_light false false k = (refl, tt)

reported_light : (k : ℕ) (o : Option ℕ) → AllLight (reported k o)
reported_light k None = tt
reported_light k (Some c) = (refl, tt)

pub here_light : (s : State) (w : World) (f : File) (i : Input) (kind : NoteKind) → is_plain kind ≡ true
    → AllLight (noted_here s w f i kind)
here_light s w f i (IsFenced tag) p = absurd (true≢false (sym p))
here_light s w f i (IsRepaired stripes short) p = absurd (true≢false (sym p))
here_light s w f i (NoSpace k) p = space_light (s.missing k) (s.lost k) k
here_light s w f i (Reported k) p = reported_light k (asker i)
here_light s w f i (Rebuilt k d) p =
    (refl, where_light (has_failed (at_number w.drives d)) (Fails k ∷ []) (refl, tt))
here_light s w f i kind p = tt

-- ---- a fence that is over

-- so far, behind the event
fenced_so_far : (next : ℕ) (busy : Bool) (s : State) (k : Kept) → k.phase ≡ Fencing → Allowed s Fenced → Safe s
    → IsSoFar next busy s k
    → IsSoFar next busy (after s Fenced) (record k { tag = k.tag + 1; phase = Repairing })
fenced_so_far next busy s k p a safe h =
    let ph : IsFencing s (core k) = subst (PhaseIs s (core k)) p h.phase in
    let covered : (c : ℕ) (x : Grant) → s.outstanding c ≡ Some x → x.rw ≡ true → (q : ℕ) → x.covers q ≡ true
    → IsEndedAt (core k) q =
    λ c x o rw_ q v.
    let e = ph.outstanding c x o in
    record { grant = e.grant; ended = e.ended; rw = sym e.same.rw ∙ rw_; has = sym (e.same.covers q) ∙ v } in
    let low : AreBelowHigh (after s Fenced) (core k) = high_after (core k) s Fenced a covered safe h.low in
    record {
      tag = ap (λ (n : ℕ). n + 1) h.tag;
      size = h.size;
      phase = record {
        fences = refl;
        repairing = refl;
        live = ph.live;
        outstanding = λ c. refl;
        unused = refl;
        older = omega arith;
      };
      next_is = h.next_is;
      unused = λ b q. refl;
      unready = λ r. refl;
      low = record {
        grants = low.grants;
        writes = low.writes;
        worked = λ m j x o t.
            let e = low.worked m j x o t in record { grant = e.grant; ended = e.ended; rw = e.rw; has = e.has };
      };
    }

refenced_so_far : (next : ℕ) (busy : Bool) (s : State) (k : Kept) → k.phase ≡ FencingAgain → Allowed s Refenced → Safe s
    → IsSoFar next busy s k
    → IsSoFar next busy (after s Refenced) (record k { tag = k.tag + 1; phase = Repairing })
refenced_so_far next busy s k p a safe h =
    let ph : IsRepairing true s (core k) = subst (PhaseIs s (core k)) p h.phase in
    let low : AreBelowHigh (after s Refenced) (core k) = high_after (core k) s Refenced a tt safe h.low in
    record {
      tag = ap (λ (n : ℕ). n + 1) h.tag;
      size = h.size;
      phase = record {
        fences = refl;
        repairing = ph.repairing;
        live = ph.live;
        outstanding = λ c. refl;
        unused = refl;
        older = let l = ph.older in omega (arith, l);
      };
      next_is = h.next_is;
      unused = λ b q. refl;
      unready = λ r. refl;
      low = record {
        grants = low.grants;
        writes = low.writes;
        worked = λ m j x o t.
            let e = low.worked m j x o t in record { grant = e.grant; ended = e.ended; rw = e.rw; has = e.has };
      };
    }

-- the event of a fence that is over, by whether a repair runs, leads to what is kept so
abbrev Leads : (next : ℕ) (busy : Bool) → State → Kept → (again : Bool) → Type 0
Leads next busy s l again =
    Lawful s ((if again then Refenced else Fenced) ∷ [])
    → IsSoFar next busy (after_all s ((if again then Refenced else Fenced) ∷ [])) l

fence_kind : (next : ℕ) (busy : Bool) (s : State) (w : World) (f : File) (i : Input) (k : Kept) (p : Phase) (tag : ℕ)
    → k.phase ≡ p → is_fence p ≡ true → Lawful s (noted_here s w f i (IsFenced tag)) → Safe s → IsSoFar next busy s k
    → IsSoFar next busy (after_all s (noted_here s w f i (IsFenced tag))) (record k { tag = k.tag + 1; phase = Repairing })
fence_kind next busy s w f i k Still tag is p l safe h = absurd (true≢false (sym p))
fence_kind next busy s w f i k Repairing tag is p l safe h = absurd (true≢false (sym p))
fence_kind next busy s w f i k Fencing tag is p l safe h =
    let ph : IsFencing s (core k) = subst (PhaseIs s (core k)) is h.phase in
    subst (Leads next busy s (record k { tag = k.tag + 1; phase = Repairing })) (sym ph.repairing)
    (λ m. fenced_so_far next busy s k is m.0 safe h) l
fence_kind next busy s w f i k FencingAgain tag is p l safe h =
    let ph : IsRepairing true s (core k) = subst (PhaseIs s (core k)) is h.phase in
    subst (Leads next busy s (record k { tag = k.tag + 1; phase = Repairing })) (sym ph.repairing)
    (λ m. refenced_so_far next busy s k is m.0 safe h) l

-- ---- a repair that is over

mended_so_far : (next : ℕ) (busy : Bool) (s : State) (k : Kept) (done : ℕ → Bool) (e : ℕ → ℕ) → k.phase ≡ Repairing
    → Allowed s (Repaired done e) → Safe s → IsSoFar next busy s k
    → IsSoFar next busy (after s (Repaired done e)) (record k { ended = []; phase = Still })
mended_so_far next busy s k done e p a safe h =
    let ph : IsRepairing false s (core k) = subst (PhaseIs s (core k)) p h.phase in
    let low : AreBelowHigh (after s (Repaired done e)) (core k) = high_after (core k) s (Repaired done e) a tt safe h.low in
    record {
      tag = h.tag;
      size = h.size;
      phase = record {
        fencing = ph.fences;
        repairing = refl;
        outstanding = λ c. rw (ph.live, ph.outstanding c) tt;
        ended = refl;
        unused = λ u. ph.unused;
      };
      next_is = h.next_is;
      unused = λ b q. ph.unused;
      unready = λ r. ph.unused;
      low = record { grants = low.grants; writes = low.writes; worked = λ m. absurd (true≢false (sym m)) };
    }

-- ---- each note

-- where a note stands in a job: a fence is over while it is open, and a repair while it runs
abbrev pub NoteFits : Kept → NoteKind → Type 0
NoteFits k (IsFenced tag) = is_fence k.phase ≡ true
NoteFits k (IsRepaired stripes short) = k.phase ≡ Repairing
NoteFits k kind = Unit {0}

plain_fits : (k : Kept) (kind : NoteKind) → is_plain kind ≡ true → NoteFits k kind
plain_fits k (IsFenced tag) p = absurd (true≢false (sym p))
plain_fits k (IsRepaired stripes short) p = absurd (true≢false (sym p))
plain_fits k kind p = tt

-- What some notes are given with makes their events lawful, one by one.
pub record AreSupplied (next : ℕ) (busy : Bool) (t : State) (w : World) (f : File) (i : Input) (Given : List Note → Type 0)
    : Type 0 where
  pub front : (ns : List Note) (n : Note) → Given (ns ++ (n ∷ [])) → Given ns
  pub last : (k : Kept) (ns : List Note) (kind : NoteKind) → k.number ≡ f.kept.number → k.map ≡ f.kept.map
      → NoteFits k kind → Given (noted_of k ns kind) → Lawful t (notes_events t w f i ns)
      → IsSoFar next busy (behind_notes t w f i ns) k
      → Lawful (behind_notes t w f i ns) (noted_here (behind_notes t w f i ns) w f i kind)

-- the events of the notes can happen, and the machine behind them has what is kept so far
pub record IsBehind (next : ℕ) (busy : Bool) (t : State) (w : World) (f : File) (i : Input) (Given : List Note → Type 0)
    (k : Kept) (ns : List Note) : Type 0 where
  pub number : k.number ≡ f.kept.number
  pub map : k.map ≡ f.kept.map
  pub lawful : Given ns → Lawful t (notes_events t w f i ns)
  pub so_far : Given ns → IsSoFar next busy (behind_notes t w f i ns) k

module _ (next : ℕ) (busy : Bool) (t : State) (w : World) (f : File) (i : Input) (Given : List Note → Type 0)
    (supplied : AreSupplied next busy t w f i Given) (safe : Safe t) where
  abbrev Behind : Kept → List Note → Type 0
  Behind k ns = IsBehind next busy t w f i Given k ns

  -- the events of one note more
  here_more : (k : Kept) (ns : List Note) (kind : NoteKind) → k.number ≡ f.kept.number
      → notes_events t w f i (noted_of k ns kind)
      ≡ notes_events t w f i ns ++ noted_here (behind_notes t w f i ns) w f i kind
  here_more k ns kind number =
      let es : List Event = notes_events t w f i ns in
      let u : State = after_all t es in
      let here : noted u w f i (record { file = k.number; kind = kind }) ≡ noted_here u w f i kind =
      rw (eq-eqb k.number f.kept.number number) refl in
      events_more t w f i ns (record { file = k.number; kind = kind }) ∙ ap (λ (x : List Event). es ++ x) here

  -- one note more
  more : (k l : Kept) (ns : List Note) (kind : NoteKind) → l.number ≡ k.number → l.map ≡ k.map → NoteFits k kind
      → Behind k ns
      → ((s : State) → Lawful s (noted_here s w f i kind) → Safe s → IsSoFar next busy s k
      → IsSoFar next busy (after_all s (noted_here s w f i kind)) l) → Behind l (noted_of k ns kind)
  more k l ns kind same map fits h on =
      let es : List Event = notes_events t w f i ns in
      let u : State = after_all t es in
      let is = here_more k ns kind h.number in
      let here : Given (noted_of k ns kind) → Lawful u (noted_here u w f i kind) =
      λ given.
      let front : Given ns = supplied.front ns (record { file = k.number; kind = kind }) given in
      supplied.last k ns kind h.number h.map fits given (h.lawful front) (h.so_far front) in
      record {
        number = same ∙ h.number;
        map = map ∙ h.map;
        lawful = λ given.
            let front : Given ns = supplied.front ns (record { file = k.number; kind = kind }) given in
            subst (Lawful t) (sym is)
            (lawful_both t es (noted_here u w f i kind) (h.lawful front) (here given));
        so_far = λ given.
            let front : Given ns = supplied.front ns (record { file = k.number; kind = kind }) given in
            subst (λ (x : List Event). IsSoFar next busy (after_all t x) l) (sym is)
            (subst (λ (x : State). IsSoFar next busy x l) (sym (after_both t es (noted_here u w f i kind)))
            (on u (here given) (safe_all t es (h.lawful front) safe) (h.so_far front)));
      }

  pub walked : IsWalked Behind
  walked = record {
    alike = λ k l ns a h. record {
      number = a.number ∙ h.number;
      map = a.map ∙ h.map;
      lawful = h.lawful;
      so_far = λ given. so_far_alike next busy (behind_notes t w f i ns) k l a (h.so_far given);
    };
    plain = λ k ns kind p h.
        more k k ns kind refl refl (plain_fits k kind p) h (λ s l safe_ x.
        so_far_light next busy s (noted_here s w f i kind) k (here_light s w f i kind p) l safe_ x);
    fenced = λ k ns p h.
        more k (record k { tag = k.tag + 1; phase = Repairing }) ns (IsFenced (k.tag + 1)) refl refl p h
        (λ s l safe_ x. fence_kind next busy s w f i k k.phase (k.tag + 1) refl p l safe_ x);
    mended = λ k ns stripes short p h.
        more k (record k { ended = []; phase = Still }) ns (IsRepaired stripes short) refl refl p h
        (λ s l safe_ x.
        mended_so_far next busy s k (column_stands f.kept.map s.lost) (standing_byte f.kept.map s.lost s.cell) p
        l.0 safe_ x);
  }

-- a whole list of events that can happen gives each of its notes what it needs
pub lawful_supplies : (next : ℕ) (busy : Bool) (t : State) (w : World) (f : File) (i : Input)
    → AreSupplied next busy t w f i (λ (ns : List Note). Lawful t (notes_events t w f i ns))
lawful_supplies next busy t w f i = record {
  front = λ ns n l.
      lawful_front t (notes_events t w f i ns) (noted (behind_notes t w f i ns) w f i n)
      (subst (Lawful t) (events_more t w f i ns n) l);
  last = λ k ns kind number map fits l front h.
      let u : State = behind_notes t w f i ns in
      let here : noted u w f i (record { file = k.number; kind = kind }) ≡ noted_here u w f i kind =
      rw (eq-eqb k.number f.kept.number number) refl in
      subst (Lawful u) here
      (lawful_back t (notes_events t w f i ns) (noted u w f i (record { file = k.number; kind = kind }))
      (subst (Lawful t) (events_more t w f i ns (record { file = k.number; kind = kind })) l));
}
