-- No two tags go with one grant number: an entry under the number of an outstanding grant has that grant's tag.
use Rattle.std.proofs.Common.{◌≡◌, ◌⊎◌, inl, inr, ℕ, ◌+◌, ◌≤◌, ◌<◌, Bool, Option, Some, None, List, [], ◌∷◌, refl, sym, ap, subst, ◌∙◌, arith}
use Rattle.fence_law.specs.State.{State, Grant, Answer, Start, Layout}
use Rattle.fence_law.specs.State.{Event}
use Rattle.fence_law.specs.State.Event.{Grants, Refuses, Takes, GivesBack, Reports, Forgets, Frees, Fenced, Refenced, StartsWrite, StartsRead, Leaves, TakesRefusal, Repairs, Rebuilds}
use Rattle.fence_law.specs.Machine.{Allowed, after, after_all, Lawful, new_file_state}
use Rattle.fence_law.specs.Starts.{granted, written_start, read_start, repair_start, rebuilt_start}
use Rattle.fence_law.specs.Words.{In, updated}
use Rattle.fence_law.proofs.Words.{updated_read}
use Rattle.file_simulation.specs.Showing.{IsRun}

-- ---- what is known of grants

-- a client holds the grant, or it stands in an answer
pub data IsKnown (b : State) (g : Grant) : Type 0 where
  Held : (c : ℕ) → b.held c ≡ Some g → IsKnown b g
  Told : (a : Answer) → In a b.answers → a.grant ≡ Some g → IsKnown b g

-- it was given before the next, and has the tag of each outstanding grant of its number
pub record IsNumbered (b : State) (g : Grant) : Type 0 where
  pub low : g.number < b.next
  pub tag : (d : ℕ) (x : Grant) → b.outstanding d ≡ Some x → g.number ≡ x.number → g.tag ≡ x.tag

-- so it is of each grant that is known, and of each entry
pub record AreNumbered (b : State) : Type 0 where
  pub some : 1 ≤ b.next
  pub known : (g : Grant) → IsKnown b g → IsNumbered b g
  pub live : (d : ℕ) (x : Grant) → b.outstanding d ≡ Some x → (1 ≤ x.number) × (x.number < b.next)
  pub entries : (j : ℕ) → j < b.count → (b.start j).grant < b.next
  pub tags : (j : ℕ) → j < b.count → (d : ℕ) (x : Grant) → b.outstanding d ≡ Some x → (b.start j).grant ≡ x.number →
      (b.start j).tag ≡ x.tag

-- ---- states with the same grants

-- fewer grants are held or outstanding, and no answer, entry or number is new
pub record HasFewer (b t : State) : Type 0 where
  pub next : t.next ≡ b.next
  pub held : (c : ℕ) (g : Grant) → t.held c ≡ Some g → IsKnown b g
  pub told : (a : Answer) (g : Grant) → In a t.answers → a.grant ≡ Some g → In a b.answers
  pub out : (d : ℕ) (x : Grant) → t.outstanding d ≡ Some x → b.outstanding d ≡ Some x
  pub count : t.count ≡ b.count
  pub start : t.start ≡ b.start

fewer : (b t : State) → HasFewer b t → AreNumbered b → AreNumbered t
fewer b t f h = record {
  some = omega (arith, f.next, h.some);
  known = λ g k. (let n = h.known g (known_before g k) in record {
    low = omega (arith, f.next, n.low);
    tag = λ d x e same. n.tag d x (f.out d x e) same;
  });
  live = λ d x e. (let l = h.live d x (f.out d x e) in (l.0, omega (arith, f.next, l.1)));
  entries = λ j low. subst (λ (s : ℕ → Start). (s j).grant < t.next) (sym f.start)
      (omega (arith, h.entries j (omega (arith, low, f.count)), f.next));
  tags = λ j low d x e. subst (λ (s : ℕ → Start). (s j).grant ≡ x.number → (s j).tag ≡ x.tag) (sym f.start)
      (h.tags j (omega (arith, low, f.count)) d x (f.out d x e));
}
  where
    known_before : (g : Grant) → IsKnown t g → IsKnown b g
    known_before g (Held c e) = f.held c g e
    known_before g (Told a i e) = Told a (f.told a g i e) e

-- the same but for what isn't spoken of here
same_grants : (b t : State) → t.next ≡ b.next → t.held ≡ b.held → t.answers ≡ b.answers → t.outstanding ≡ b.outstanding →
    t.count ≡ b.count → t.start ≡ b.start → HasFewer b t
same_grants b t next held answers out count start = record {
  next = next;
  held = λ c g e. Held c (sym (ap (λ (f : ℕ → Option Grant). f c) held) ∙ e);
  told = λ a g i e. subst (In a) answers i;
  out = λ d x e. sym (ap (λ (f : ℕ → Option Grant). f d) out) ∙ e;
  count = count;
  start = start;
}

-- ---- events

-- none at one place, as it was elsewhere
none_at : (f : ℕ → Option Grant) (c d : ℕ) (g : Grant) → updated f c None d ≡ Some g → f d ≡ Some g
none_at f c d g e = elim (updated_read f c None d).1 [
  | inl here ↦ absurd (cc (sym here.1 ∙ e))
  | inr other ↦ sym other.1 ∙ e
]

answered : (b t : State) (x : Answer) → x.grant ≡ None → t.answers ≡ x ∷ b.answers → (a : Answer) (g : Grant) →
    In a t.answers → a.grant ≡ Some g → In a b.answers
answered b t x none is a g i e = by (subst (In a) is i)
  where
    by : (a ≡ x) ⊎ In a b.answers → In a b.answers
    by (inl same) = absurd (cc (sym none ∙ sym (ap (λ (y : Answer). y.grant) same) ∙ e))
    by (inr old) = old

-- a further entry, of nobody's grant or of a known one
starts : (b t : State) (s : Start) → t.next ≡ b.next → t.held ≡ b.held → t.answers ≡ b.answers → t.outstanding ≡ b.outstanding →
    t.count ≡ b.count + 1 → t.start ≡ updated b.start b.count s →
    (s.grant ≡ 0) ⊎ ((g : Grant) × IsKnown b g × (s.grant ≡ g.number) × (s.tag ≡ g.tag)) → AreNumbered b → AreNumbered t
starts b t s next held answers out count start own h = record {
  some = omega (arith, next, h.some);
  known = λ g k. (let n = h.known g (before g k) in record {
    low = omega (arith, next, n.low);
    tag = λ d x e same. n.tag d x (was d x e) same;
  });
  live = λ d x e. (let l = h.live d x (was d x e) in (l.0, omega (arith, next, l.1)));
  entries = λ j low. elim (updated_read b.start b.count s j).1 [
    | inl here ↦ omega (arith, next, ap (λ (y : Start). y.grant) (at_ j ∙ here.1), own_low own)
    | inr other ↦
        omega (arith, next, ap (λ (y : Start). y.grant) (at_ j ∙ other.1), h.entries j (omega (arith, low, count, other.0)))
  ];
  tags = λ j low d x e same. elim (updated_read b.start b.count s j).1 [
    | inl here ↦
        ap (λ (y : Start). y.tag) (at_ j ∙ here.1)
        ∙ own_tag own d x (was d x e) (sym (ap (λ (y : Start). y.grant) (at_ j ∙ here.1)) ∙ same)
    | inr other ↦
        ap (λ (y : Start). y.tag) (at_ j ∙ other.1)
        ∙ h.tags j (omega (arith, low, count, other.0)) d x (was d x e)
        (sym (ap (λ (y : Start). y.grant) (at_ j ∙ other.1)) ∙ same)
  ];
}
  where
    was : (d : ℕ) (x : Grant) → t.outstanding d ≡ Some x → b.outstanding d ≡ Some x
    was d x e = sym (ap (λ (f : ℕ → Option Grant). f d) out) ∙ e

    at_ : (j : ℕ) → t.start j ≡ updated b.start b.count s j
    at_ j = ap (λ (f : ℕ → Start). f j) start

    before : (g : Grant) → IsKnown t g → IsKnown b g
    before g (Held c e) = Held c (sym (ap (λ (f : ℕ → Option Grant). f c) held) ∙ e)
    before g (Told a i e) = Told a (subst (In a) answers i) e

    own_low : (s.grant ≡ 0) ⊎ ((g : Grant) × IsKnown b g × (s.grant ≡ g.number) × (s.tag ≡ g.tag)) → s.grant < b.next
    own_low (inl none) = omega (arith, none, h.some)
    own_low (inr (g, k, same, tag)) = omega (arith, same, (h.known g k).low)

    own_tag : (s.grant ≡ 0) ⊎ ((g : Grant) × IsKnown b g × (s.grant ≡ g.number) × (s.tag ≡ g.tag)) → (d : ℕ) (x : Grant) →
        b.outstanding d ≡ Some x → s.grant ≡ x.number → s.tag ≡ x.tag
    own_tag (inl none) d x e same = absurd (omega (arith, none, same, (h.live d x e).0))
    own_tag (inr (g, k, number, tag)) d x e same = tag ∙ (h.known g k).tag d x e (sym number ∙ same)

-- a grant is given
grants : (b : State) (c number : ℕ) (rw : Bool) (range : ℕ → Bool) (extending : Bool) → b.next ≤ number → AreNumbered b →
    AreNumbered (after b (Grants c number rw range extending))
grants b c number rw range extending new h = record {
  some = omega arith;
  known = λ g k. by_known g k;
  live = λ d x e. elim (updated_read b.outstanding c (Some given) d).1 [
    | inl here ↦
        (let same : given ≡ x = cc (sym here.1 ∙ e) in
        (omega (arith, new, h.some, ap (λ (y : Grant). y.number) same), omega (arith, ap (λ (y : Grant). y.number) same)))
    | inr other ↦ (let l = h.live d x (sym other.1 ∙ e) in (l.0, omega (arith, l.1, new)))
  ];
  entries = λ j low. omega (arith, h.entries j low, new);
  tags = λ j low d x e same. elim (updated_read b.outstanding c (Some given) d).1 [
    | inl here ↦
        (let own : given ≡ x = cc (sym here.1 ∙ e) in
        absurd (omega (arith, h.entries j low, new, same, ap (λ (y : Grant). y.number) own)))
    | inr other ↦ h.tags j low d x (sym other.1 ∙ e) same
  ];
}
  where
    given : Grant
    given = granted b c number rw range extending

    old_fits : (g : Grant) → IsKnown b g → IsNumbered (after b (Grants c number rw range extending)) g
    old_fits g k = (let n = h.known g k in record {
      low = omega (arith, n.low, new);
      tag = λ d x e same. elim (updated_read b.outstanding c (Some given) d).1 [
        | inl here ↦
            (let own : given ≡ x = cc (sym here.1 ∙ e) in
            absurd (omega (arith, n.low, new, same, ap (λ (y : Grant). y.number) own)))
        | inr other ↦ n.tag d x (sym other.1 ∙ e) same
      ];
    })

    new_fits : (g : Grant) → given ≡ g → IsNumbered (after b (Grants c number rw range extending)) g
    new_fits g own = record {
      low = omega (arith, ap (λ (y : Grant). y.number) own);
      tag = λ d x e same. elim (updated_read b.outstanding c (Some given) d).1 [
        | inl here ↦
            (let its : given ≡ x = cc (sym here.1 ∙ e) in
            sym (ap (λ (y : Grant). y.tag) own) ∙ ap (λ (y : Grant). y.tag) its)
        | inr other ↦
            absurd (omega (arith, (h.live d x (sym other.1 ∙ e)).1, new, same, ap (λ (y : Grant). y.number) own))
      ];
    }

    by_known : (g : Grant) → IsKnown (after b (Grants c number rw range extending)) g →
        IsNumbered (after b (Grants c number rw range extending)) g
    by_known g (Held d e) = old_fits g (Held d e)
    by_known g (Told a (inl same) e) = (let own : given ≡ g = cc (sym (ap (λ (y : Answer). y.grant) same) ∙ e) in new_fits g own)
    by_known g (Told a (inr i) e) = old_fits g (Told a i e)

-- what a client takes was told
takes : (b : State) (c : ℕ) (o : Option Grant) (s0 : ℕ) → Allowed b (Takes c o s0) → HasFewer b (after b (Takes c o s0))
takes b c o s0 a = record {
  next = refl;
  held = λ d g e. elim (updated_read b.held c o d).1 [
    | inl here ↦
        Told (record { client = c; sequence = b.sequence c; grant = o; size = s0 }) a.comes (sym here.1 ∙ e)
    | inr other ↦ Held d (sym other.1 ∙ e)
  ];
  told = λ x g i e. i;
  out = λ d x e. e;
  count = refl;
  start = refl;
}

-- a client holds nothing any more
lets_go : (b t : State) (c : ℕ) → t.next ≡ b.next → t.held ≡ updated b.held c None → t.answers ≡ b.answers →
    t.outstanding ≡ b.outstanding → t.count ≡ b.count → t.start ≡ b.start → HasFewer b t
lets_go b t c next held answers out count start = record {
  next = next;
  held = λ d g e. Held d (none_at b.held c d g (sym (ap (λ (f : ℕ → Option Grant). f d) held) ∙ e));
  told = λ a g i e. subst (In a) answers i;
  out = λ d x e. sym (ap (λ (f : ℕ → Option Grant). f d) out) ∙ e;
  count = count;
  start = start;
}

refuses : (b t : State) (x : Answer) → x.grant ≡ None → t.answers ≡ x ∷ b.answers → t.next ≡ b.next → t.held ≡ b.held →
    ((d : ℕ) (y : Grant) → t.outstanding d ≡ Some y → b.outstanding d ≡ Some y) → t.count ≡ b.count → t.start ≡ b.start →
    HasFewer b t
refuses b t x none answers next held out count start = record {
  next = next;
  held = λ d g e. Held d (sym (ap (λ (f : ℕ → Option Grant). f d) held) ∙ e);
  told = λ a g i e. answered b t x none answers a g i e;
  out = out;
  count = count;
  start = start;
}

keep_numbered : (b : State) (e : Event) → Allowed b e → AreNumbered b → AreNumbered (after b e)
keep_numbered b (Grants c number rw range extending) a h = grants b c number rw range extending a.new h
keep_numbered b (Refuses c kind) a h =
    fewer b _ (refuses b (after b (Refuses c kind)) _ refl refl refl refl (λ d x e. e) refl refl) h
keep_numbered b (Frees c) a h =
    fewer b _ (refuses b (after b (Frees c)) _ refl refl refl refl (λ d x e. none_at b.outstanding c d x e) refl refl) h
keep_numbered b (Takes c o s0) a h = fewer b _ (takes b c o s0 a) h
keep_numbered b (GivesBack c g) a h = fewer b _ (lets_go b (after b (GivesBack c g)) c refl refl refl refl refl refl) h
keep_numbered b (Reports c g) a h = fewer b _ (lets_go b (after b (Reports c g)) c refl refl refl refl refl refl) h
keep_numbered b (Forgets c) a h = fewer b _ (lets_go b (after b (Forgets c)) c refl refl refl refl refl refl) h
keep_numbered b (TakesRefusal c j) a h = fewer b _ (lets_go b (after b (TakesRefusal c j)) c refl refl refl refl refl refl) h
keep_numbered b (Leaves c g) a h = fewer b _ (record {
  next = refl;
  held = λ d x e. Held d (none_at b.held c d x e);
  told = λ y x i e. i;
  out = λ d x e. none_at b.outstanding c d x e;
  count = refl;
  start = refl;
}) h
keep_numbered b Fenced a h = fewer b _ (record {
  next = refl;
  held = λ d x e. Held d e;
  told = λ y x i e. i;
  out = λ d x e. absurd (cc e);
  count = refl;
  start = refl;
}) h
keep_numbered b Refenced a h = fewer b _ (record {
  next = refl;
  held = λ d x e. Held d e;
  told = λ y x i e. i;
  out = λ d x e. absurd (cc e);
  count = refl;
  start = refl;
}) h
keep_numbered b (StartsWrite c g i d touch hit seen e1 part) a h =
    starts b _ (written_start b c g d touch hit seen e1 part) refl refl refl refl refl refl
    (inr (g, Held c a.has, refl, refl)) h
keep_numbered b (StartsRead c g lo hi reach) a h =
    starts b _ (read_start b c g lo hi reach) refl refl refl refl refl refl (inr (g, Held c a.has, refl, refl)) h
keep_numbered b (Repairs k cells e) a h =
    starts b _ (repair_start b k cells e) refl refl refl refl refl refl (inl refl) h
keep_numbered b (Rebuilds k cells) a h =
    starts b _ (rebuilt_start b k cells) refl refl refl refl refl refl (inl refl) h
keep_numbered b e a h = fewer b (after b e) (same_grants b (after b e) refl refl refl refl refl refl) h

keep_all : (b : State) (es : List Event) → Lawful b es → AreNumbered b → AreNumbered (after_all b es)
keep_all b [] l h = h
keep_all b (e ∷ es) l h = keep_all (after b e) es l.1 (keep_numbered b e l.0 h)

first_numbered : (m : Layout) → AreNumbered (new_file_state m)
first_numbered m = record {
  some = omega arith;
  known = λ g k. none g k;
  live = λ d x e. absurd (cc e);
  entries = λ j low. absurd (omega (arith, low));
  tags = λ j low d x e same. absurd (omega (arith, low));
}
  where
    none : (g : Grant) → IsKnown (new_file_state m) g → IsNumbered (new_file_state m) g
    none g (Held c e) = absurd (cc e)
    none g (Told a i e) = absurd i

pub run_numbered : (s : State) → IsRun s → AreNumbered s
run_numbered s r =
    subst AreNumbered (sym r.state) (keep_all (new_file_state s.layout) r.events r.lawful (first_numbered s.layout))
