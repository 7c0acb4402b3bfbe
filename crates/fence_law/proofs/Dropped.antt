-- Kept: whoever may name a dropped component has an older tag than its object.
-- From a fence to the end of its job no grant is issued, and a drop happens there alone.
use Rattle.std.proofs.Common.{◌≡◌, ℕ, ◌+◌, ◌<◌, Bool, true, false, Option, Some, None, sym, ap, ◌∙◌, inl, inr, arith}
use Rattle.std.proofs.lemmas.Bool.{cases_eq, true≢false}
use Rattle.std.proofs.lemmas.Option.{same_Some}
use Rattle.fence_law.specs.Words.{updated, In}
use Rattle.fence_law.specs.State.{State, Event, Grant, Write, Start}
use Rattle.fence_law.specs.Starts.{granted, written_start, read_start, repair_start, rebuilt_start}
use Rattle.fence_law.specs.Machine.{Allowed, after}
use Rattle.fence_law.specs.State.Event.{Asks, Grants, Refuses, Takes, AsksOther, ServesOther, GivesBack, Reports, Forgets, Frees, SetsTag, Sends, StartsWrite, StartsRead, Drops, Repairs, Rebuilds, TakesRefusal, Leaves}
use Rattle.fence_law.proofs.Words.{updated_at, updated_other, updated_read}
use Rattle.fence_law.proofs.Tags.{Tags}
use Rattle.fence_law.proofs.Slots.{Slots}
use Rattle.fence_law.proofs.Holds.{Holds, taken_now}
use Rattle.fence_law.proofs.Commands.{Calls}
use Rattle.fence_law.proofs.Formed.{Missing_lost, added, Formed, Running}
use Rattle.fence_law.proofs.Open.{Known, Unissued}

-- whoever may name a dropped component has an older tag than its object
abbrev pub Dropped_tags : State → Type 0
Dropped_tags b = record {
  held : (c k : ℕ) (g : Grant) → b.held c ≡ Some g → b.dropped k ≡ true → g.left k ≡ false → g.tag < b.object_tag k;
  comes : (c k : ℕ) (g : Grant) → b.waiting c ≡ true → b.slot c ≡ b.sequence c → b.kept_grant c ≡ Some g → b.dropped k ≡ true →
      g.left k ≡ false → g.tag < b.object_tag k;
  entries : (j k : ℕ) → j < b.count → (b.start j).server ≡ false → b.dropped k ≡ true → (b.start j).left k ≡ false →
      (b.start j).tag < b.object_tag k;
  sent : (m : Write) → In m b.writes → ((b.start m.entry).left m.at ≡ false) × ((b.start m.entry).server ≡ false);
}

caps_added : (b : State) (s : Start) (row : ℕ → ℕ → Bool) →
    ((k : ℕ) → s.server ≡ false → b.dropped k ≡ true → s.left k ≡ false → s.tag < b.object_tag k) → Known b → Dropped_tags b →
    Dropped_tags (added b s row)
caps_added b s row new n h = record {
  held = h.held;
  comes = h.comes;
  entries = λ j k low sv on l. elim (updated_read b.start b.count s j).1 [
    | inl w ↦ rw w.1 (new k (rw w.1 at sv) on (rw w.1 at l))
    | inr w ↦ rw w.1 (h.entries j k (grind (arith, w.0, low)) (rw w.1 at sv) on (rw w.1 at l))
  ];
  sent = λ m i. let e : updated b.start b.count s m.entry ≡ b.start m.entry =
      grind (arith, updated_read b.start b.count s m.entry, (n m i).entry) in rw e (h.sent m i);
}

caps_asks : (b : State) (c : ℕ) → b.waiting c ≡ false → Slots b → Dropped_tags b →
    Dropped_tags (record b { sequence = updated b.sequence c (b.sequence c + 1); waiting = updated b.waiting c true })
caps_asks b c free s h = record {
  held = h.held;
  entries = h.entries;
  sent = h.sent;
  comes =
      λ d k g w e kp. h.comes d k g (grind (
        arith,
        updated_read b.sequence c (b.sequence c + 1) d,
        updated_read b.waiting c true d,
        s.near d,
        w,
        e,
      ))
      (grind (arith, updated_read b.sequence c (b.sequence c + 1) d, updated_read b.waiting c true d, s.near d, w, e)) kp;
}

caps_leaves : (b : State) (c : ℕ) → Dropped_tags b → Dropped_tags (record b { held = updated b.held c None })
caps_leaves b c h =
    record {
      comes = h.comes;
      entries = h.entries;
      sent = h.sent;
      held = λ d k g e. h.held d k g (grind (arith, updated_read b.held c None d, e));
    }

caps_served : (b : State) (c : ℕ) (o : Option Grant) → ((k : ℕ) (g : Grant) → o ≡ Some g → b.dropped k ≡ true → g.left k ≡ false →
    g.tag < b.object_tag k) → Dropped_tags b →
    Dropped_tags (record b { slot = updated b.slot c (b.slot c + 1); kept_grant = updated b.kept_grant c o })
caps_served b c o new h = record {
  held = h.held;
  entries = h.entries;
  sent = h.sent;
  comes = λ d k g w e kp on l. elim (cases_eq d c) [
    | inl same ↦ new k g (sym (updated_at b.kept_grant c o d same) ∙ kp) on l
    | inr ne ↦
        h.comes d k g w (sym (updated_other b.slot c (b.slot c + 1) d ne) ∙ e)
        (sym (updated_other b.kept_grant c o d ne) ∙ kp) on l
  ];
}

caps_takes : (b : State) (c : ℕ) (o : Option Grant) (s0 : ℕ) → Allowed b (Takes c o s0) → Slots b → Dropped_tags b →
    Dropped_tags (after b (Takes c o s0))
caps_takes b c o s0 a s h = let now = taken_now b c o s0 a.comes s a.waits in record {
  entries = h.entries;
  sent = h.sent;
  comes = λ d k g w. h.comes d k g (grind (arith, updated_read b.waiting c false d, w));
  held = λ d k g e. elim (cases_eq d c) [
    | inl same ↦ h.comes c k g a.waits now.0 (now.1 ∙ sym (updated_at b.held c o d same) ∙ e)
    | inr ne ↦ h.held d k g (sym (updated_other b.held c o d ne) ∙ e)
  ];
}

caps_drops : (b : State) (k0 : ℕ) → Allowed b (Drops k0) → Tags b → Holds b → Unissued b → Dropped_tags b →
    Dropped_tags (after b (Drops k0))
caps_drops b k0 a t o u h = let at : b.object_tag k0 ≡ b.tag = grind (arith, t.at k0 a.there a.stands, a.over) in record {
  sent = h.sent;
  held = λ c k g e on l. elim (cases_eq k k0) [
    | inl same ↦ grind (arith, same, at, o.has c g e, u.outstanding c a.unused)
    | inr ne ↦ h.held c k g e (sym (updated_other b.dropped k0 true k ne) ∙ on) l
  ];
  comes = λ c k g w e kp on l. elim (cases_eq k k0) [
    | inl same ↦ grind (arith, same, at, o.comes c g w e kp, u.outstanding c a.unused)
    | inr ne ↦ h.comes c k g w e kp (sym (updated_other b.dropped k0 true k ne) ∙ on) l
  ];
  entries = λ j k low sv on l. elim (cases_eq k k0) [
    | inl same ↦ grind (arith, same, at, u.entries j low sv a.unused)
    | inr ne ↦ h.entries j k low sv (sym (updated_other b.dropped k0 true k ne) ∙ on) l
  ];
}

caps_steps : (b : State) (k0 : ℕ) → Dropped_tags b → Dropped_tags (after b (SetsTag k0))
caps_steps b k0 h = record {
  sent = h.sent;
  held = λ c k g e on l. grind (arith, updated_read b.object_tag k0 (b.object_tag k0 + 1) k, h.held c k g e on l);
  comes = λ c k g w e kp on l. grind (arith, updated_read b.object_tag k0 (b.object_tag k0 + 1) k, h.comes c k g w e kp on l);
  entries = λ j k low sv on l. grind (arith, updated_read b.object_tag k0 (b.object_tag k0 + 1) k, h.entries j k low sv on l);
}

caps_back : (b : State) (k0 : ℕ) → Dropped_tags b →
    Dropped_tags (record b { dropped = updated b.dropped k0 false; object_tag = updated b.object_tag k0 b.tag })
caps_back b k0 h = record {
  sent = h.sent;
  held = λ c k g e on l. let ne = still k on in
      rw (updated_other b.object_tag k0 b.tag k ne) (h.held c k g e (sym (updated_other b.dropped k0 false k ne) ∙ on) l);
  comes = λ c k g w e kp on l. let ne = still k on in
      rw (updated_other b.object_tag k0 b.tag k ne) (h.comes c k g w e kp (sym (updated_other b.dropped k0 false k ne) ∙ on) l);
  entries = λ j k low sv on l. let ne = still k on in
      rw (updated_other b.object_tag k0 b.tag k ne) (h.entries j k low sv (sym (updated_other b.dropped k0 false k ne) ∙ on) l);
}
  where
    still : (k : ℕ) → updated b.dropped k0 false k ≡ true → k ≡ k0 → ⊥
    still k on e = true≢false (sym on ∙ updated_at b.dropped k0 false k e)

pub keep_dropped_tags : (b : State) (e : Event) → Allowed b e → Tags b → Slots b → Holds b → Formed b → Calls b → Running b →
    Known b → Unissued b → Missing_lost b → Dropped_tags b → Dropped_tags (after b e)
keep_dropped_tags b (Asks c rw) a t s o f r run n u ml h = caps_asks b c a.free s h
keep_dropped_tags b (GivesBack c g) a t s o f r run n u ml h =
    caps_leaves (record b { sequence = updated b.sequence c (b.sequence c + 1); waiting = updated b.waiting c true }) c
    (caps_asks b c a.free s h)
keep_dropped_tags b (Reports c g) a t s o f r run n u ml h =
    caps_leaves (record b { sequence = updated b.sequence c (b.sequence c + 1); waiting = updated b.waiting c true }) c
    (caps_asks b c a.free s h)
keep_dropped_tags b (Leaves c g) a t s o f r run n u ml h = caps_leaves b c h
keep_dropped_tags b (Forgets c) a t s o f r run n u ml h = caps_leaves b c h
keep_dropped_tags b (TakesRefusal c j) a t s o f r run n u ml h = caps_leaves b c h
keep_dropped_tags b (Grants c number rw range extending) a t s o f r run n u ml h =
    caps_served b c (Some (granted b c number rw range extending)) (λ k g e on l. let same : b.missing ≡ g.left = ap (λ y. y.left)
    (same_Some (granted b c number rw range extending) g e) in
    absurd (true≢false (sym (ml.dropped k on) ∙ ap (λ y. y k) same ∙ l))) h
keep_dropped_tags b (Refuses c kind) a t s o f r run n u ml h = caps_served b c None (λ k g e. absurd (cc e)) h
keep_dropped_tags b (Frees c) a t s o f r run n u ml h = caps_served b c None (λ k g e. absurd (cc e)) h
keep_dropped_tags b (Takes c o1 s0) a t s o f r run n u ml h = caps_takes b c o1 s0 a s h
keep_dropped_tags b (AsksOther c) a t s o f r run n u ml h =
    record {
      held = h.held;
      entries = h.entries;
      sent = h.sent;
      comes = λ d k g w e. h.comes d k g w
          (grind (arith, updated_read b.sequence c (b.sequence c + 1) d, e, w, a.free));
    }
keep_dropped_tags b (ServesOther c) a t s o f r run n u ml h =
    record {
      held = h.held;
      entries = h.entries;
      sent = h.sent;
      comes = λ d k g w e. h.comes d k g w (grind (arith, updated_read b.slot c (b.slot c + 1) d, e, w, a.free));
    }
keep_dropped_tags b (StartsWrite c g i d touch hit seen e1 pt) a t s o f r run n u ml h =
    caps_added b (written_start b c g d touch hit seen e1 pt) (λ k z. false) (λ k sv. h.held c k g a.has) n h
keep_dropped_tags b (StartsRead c g lo hi reach) a t s o f r run n u ml h =
    caps_added b (read_start b c g lo hi reach) (λ k z. false) (λ k sv. h.held c k g a.has) n h
keep_dropped_tags b (Repairs k which e0) a t s o f r run n u ml h =
    caps_added b (repair_start b k which e0) (λ f y. updated (λ w. false) k true f) (λ q sv. absurd (true≢false sv)) n h
keep_dropped_tags b (Rebuilds k cells) a t s o f r run n u ml h =
    caps_back (added b (rebuilt_start b k cells) (λ f y. updated (λ w. false) k true f)) k
    (caps_added b (rebuilt_start b k cells) (λ f y. updated (λ w. false) k true f) (λ q sv. absurd (true≢false sv)) n h)
keep_dropped_tags b (Sends c k g j pi fresh) a t s o f r run n u ml h = record {
  held = h.held;
  comes = h.comes;
  entries = h.entries;
  sent = λ m i. elim i [
    | inl e ↦ rw e (a.listed, (f j (r.writes c j a.runs).below).own (run.writes c j a.runs).0)
    | inr o ↦ h.sent m o
  ];
}
keep_dropped_tags b (Drops k) a t s o f r run n u ml h = caps_drops b k a t o u h
keep_dropped_tags b (SetsTag k) a t s o f r run n u ml h = caps_steps b k h
keep_dropped_tags b e a t s o f r run n u ml h = h
