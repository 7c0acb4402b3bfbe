-- The file's size is the greatest end of the writes whose commit was carried out, and a living call knows it before.
-- Beside an extending grant there is no other, and an answer tells the size as it is when it is kept.
use Rattle.std.proofs.Common.{max, ◌≡◌, ℕ, zero, suc, ◌+◌, ◌<◌, ◌≤◌, Bool, true, false, cond, ◌||◌, ◌==◌, ◌∷◌, Option, Some, None, ◌⊎◌, refl, sym, ap, ◌∙◌, inl, inr, arith, add-one}
use Rattle.std.proofs.lemmas.Bool.{true_from_ne_false, false_from_ne_true, eqb-true, cases_eq, cases_lt, true≢false}
use Rattle.fence_law.specs.Words.{updated, In}
use Rattle.fence_law.specs.State.{Commit, State, Event, Answer, Grant, Call, Start}
use Rattle.fence_law.specs.Starts.{granted, written_start, read_start, repair_start, rebuilt_start}
use Rattle.fence_law.specs.Machine.{Allowed, after}
use Rattle.fence_law.specs.State.Commit.{NoCommit, CommitAsked, CommitDone, CommitRefused}
use Rattle.fence_law.specs.State.Call.{Idle, Writes, Reads, Broken}
use Rattle.fence_law.specs.State.Event.{Asks, Grants, Refuses, Takes, AsksOther, ServesOther, GivesBack, Reports, Forgets, Frees, Fenced, Refenced, StartsWrite, StartsRead, Acknowledges, Breaks, Answers, EndsRead, Repairs, Rebuilds, AsksCommit, Commits, RefusesCommit, TakesCommit, TakesRefusal, Leaves}
use Rattle.fence_law.specs.Law.{grow, size_before}
use Rattle.fence_law.proofs.Words.{updated_at, updated_other, updated_read, updated_same}
use Rattle.fence_law.proofs.Slots.{Slots}
use Rattle.fence_law.proofs.Holds.{Holds, taken_now}
use Rattle.fence_law.proofs.Commands.{Calls}
use Rattle.fence_law.proofs.Formed.{added, Formed, Running}
use Rattle.fence_law.proofs.Open.{Dead, Open, open_added, open_acks, open_fenced}
use Rattle.fence_law.proofs.Live.{Open_granted, Open_at_work, busy_free}

-- a commit is of the call that runs
abbrev pub Commit_call : State → Type 0
Commit_call b = (c : ℕ) →
    (b.commit c ≡ NoCommit)
    ⊎ ((j : ℕ) × (b.call c ≡ Writes j)
    × ((b.commit c ≡ CommitAsked j) ⊎ ((b.commit c ≡ CommitDone j) ⊎ (b.commit c ≡ CommitRefused j))))

cm_call : (b : State) (c : ℕ) (x : Call) → b.commit c ≡ NoCommit → Commit_call b →
    Commit_call (record b { call = updated b.call c x })
cm_call b c x plain h d = grind (arith, updated_read b.call c x d, h d, plain)

pub keep_com : (b : State) (e : Event) → Allowed b e → Commit_call b → Commit_call (after b e)
keep_com b (Reports c g) a h = cm_call b c Idle (grind (arith, h c, a.broken)) h
keep_com b (Forgets c) a h = cm_call b c Idle a.plain h
keep_com b (StartsWrite c g i d touch hit seen e1 pt) a h = cm_call b c (Writes b.count) (grind (arith, h c, a.gathers)) h
keep_com b (StartsRead c g lo hi reach) a h = cm_call b c (Reads b.count) (grind (arith, h c, a.idle)) h
keep_com b (Acknowledges c j) a h = cm_call b c Idle a.plain h
keep_com b (Breaks c j) a h = cm_call b c Broken a.plain h
keep_com b (Answers c j f) a h = cm_call b c Idle (grind (arith, h c, a.runs)) h
keep_com b (EndsRead c j) a h = cm_call b c Idle (grind (arith, h c, a)) h
keep_com b (AsksCommit c j) a h = λ d. elim (cases_eq d c) [
  | inl e ↦ inr (j, ap b.call e ∙ a.runs, inl (updated_at b.commit c (CommitAsked j) d e))
  | inr ne ↦ rw (updated_other b.commit c (CommitAsked j) d ne) (h d)
]
keep_com b (Commits c j g) a h = λ d. grind (arith, updated_read b.commit c (CommitDone j) d, h d, h c, a.asks)
keep_com b (RefusesCommit c j) a h = λ d. grind (arith, updated_read b.commit c (CommitRefused j) d, h d, h c, a)
keep_com b (TakesCommit c j) a h = λ d. grind (arith, updated_read b.commit c NoCommit d, h d)
keep_com b (TakesRefusal c j) a h = λ d. grind (arith, updated_read b.commit c NoCommit d, updated_read b.call c Idle d, h d)
keep_com b e a h = h

-- an answer that is taken tells the size that the slot keeps
abbrev pub Told_size : State → Type 0
Told_size b = (a : Answer) → In a b.answers → a.sequence ≡ b.slot a.client → a.size ≡ b.kept_size a.client

ts_served : (b : State) (c : ℕ) (o : Option Grant) → Slots b → Told_size b →
    Told_size
    (record b {
      slot = updated b.slot c (b.slot c + 1);
      kept_size = updated b.kept_size c b.size;
      answers = record
          { client = c; sequence = b.slot c + 1; grant = o; size = b.size } ∷ b.answers;
    })
ts_served b c o s h a i e =
    grind (arith, updated_read b.slot c (b.slot c + 1) a.client, updated_read b.kept_size c b.size a.client, h a, s.told a)

pub keep_told : (b : State) (e : Event) → Allowed b e → Slots b → Told_size b → Told_size (after b e)
keep_told b (Grants c number rw range extending) a s h = ts_served b c (Some (granted b c number rw range extending)) s h
keep_told b (Refuses c kind) a s h = ts_served b c None s h
keep_told b (Frees c) a s h = ts_served b c None s h
keep_told b (ServesOther c) a s h =
    λ r i e. h r i (grind (arith, updated_read b.slot c (b.slot c + 1) r.client, (s.told r i).0, e))
keep_told b e a s h = h

-- beside an extending outstanding grant there is no other
abbrev pub Alone : State → Type 0
Alone b = (c d : ℕ) (g h : Grant) → (c ≡ d → ⊥) → b.outstanding c ≡ Some g → b.outstanding d ≡ Some h →
    (g.extending || h.extending) ≡ false

pub keep_alone : (b : State) (e : Event) → Allowed b e → Alone b → Alone (after b e)
keep_alone b (Grants c number rw range extending) a h =
    λ d f g k ne x y. grind (
      arith,
      updated_read b.outstanding c (Some (granted b c number rw range extending)) d,
      updated_read b.outstanding c (Some (granted b c number rw range extending)) f,
      h d f g k ne,
      a.apart_ext d g,
      a.apart_ext f k,
    )
keep_alone b (Frees c) a h =
    λ d f g k ne x y. h d f g k ne (grind (arith, updated_read b.outstanding c None d, x))
    (grind (arith, updated_read b.outstanding c None f, y))
keep_alone b (Leaves c g0) a h =
    λ d f g k ne x y. h d f g k ne (grind (arith, updated_read b.outstanding c None d, x))
    (grind (arith, updated_read b.outstanding c None f, y))
keep_alone b Fenced a h = λ d f g k ne x y. absurd (cc x)
keep_alone b Refenced a h = λ d f g k ne x y. absurd (cc x)
keep_alone b e a h = h

-- a client under an outstanding grant knows the size, but for its commit that was carried out
abbrev pub Knows : State → Type 0
Knows b = record {
  held : (c : ℕ) (g : Grant) → b.held c ≡ Some g → g.tag ≡ b.tag →
      ((b.known_size c ≡ b.size) × ((j : ℕ) → b.commit c ≡ CommitDone j → ⊥))
      ⊎ ((j : ℕ) × (b.commit c ≡ CommitDone j) × (b.size ≡ max (b.known_size c) (b.start j).end_) × (j < b.count));
  comes : (c : ℕ) (g : Grant) → b.waiting c ≡ true → b.slot c ≡ b.sequence c → b.kept_grant c ≡ Some g → g.tag ≡ b.tag →
      b.kept_size c ≡ b.size;
}

kn_added : (b : State) (s : Start) → Knows b → Knows (record b { count = b.count + 1; start = updated b.start b.count s })
kn_added b s h = record {
  comes = h.comes;
  held = λ c g e t. elim (h.held c g e t) [
    | inl x ↦ inl x
    | inr w ↦ let ne : w.0 ≡ b.count → ⊥ = grind (arith, w.3) in
        inr (w.0, w.1, rw (updated_other b.start b.count s w.0 ne) w.2, grind (arith, w.3))
  ];
}

kn_asks : (b : State) (c : ℕ) → b.waiting c ≡ false → Slots b → Knows b →
    Knows (record b { sequence = updated b.sequence c (b.sequence c + 1); waiting = updated b.waiting c true })
kn_asks b c free s h = record {
  held = h.held;
  comes =
      λ d g w e k t. h.comes d g (grind (
        arith,
        updated_read b.sequence c (b.sequence c + 1) d,
        updated_read b.waiting c true d,
        s.near d,
        w,
        e,
      ))
      (grind (arith, updated_read b.sequence c (b.sequence c + 1) d, updated_read b.waiting c true d, s.near d, w, e)) k t;
}

kn_drops : (b : State) (c : ℕ) → Knows b → Knows (record b { held = updated b.held c None })
kn_drops b c h = record { held = λ d g e. h.held d g (grind (arith, updated_read b.held c None d, e)); comes = h.comes }

kn_served : (b : State) (c : ℕ) (o : Option Grant) → Knows b →
    Knows
    (record b
    { slot = updated b.slot c (b.slot c + 1); kept_grant = updated b.kept_grant c o; kept_size = updated b.kept_size c b.size })
kn_served b c o h = record {
  held = h.held;
  comes = λ d g w e k t. elim (cases_eq d c) [
    | inl same ↦ updated_at b.kept_size c b.size d same
    | inr ne ↦ updated_other b.kept_size c b.size d ne
        ∙ h.comes d g w (sym (updated_other b.slot c (b.slot c + 1) d ne) ∙ e) (sym (updated_other b.kept_grant c o d ne) ∙ k) t
  ];
}

kn_takes : (b : State) (c : ℕ) (o : Option Grant) (s0 : ℕ) → Allowed b (Takes c o s0) → Slots b → Calls b → Commit_call b →
    Told_size b → Knows b → Knows (after b (Takes c o s0))
kn_takes b c o s0 a s r cm ts h = let now = taken_now b c o s0 a.comes s a.waits in record {
  comes = λ d g w. h.comes d g (grind (arith, updated_read b.waiting c false d, w));
  held = λ d g e t. elim (cases_eq d c) [
    | inl same ↦ inl (
      updated_at b.known_size c s0 d same ∙ ts (record { client = c; sequence = b.sequence c; grant = o; size = s0 }) a.comes
          (sym now.0) ∙ h.comes c g a.waits now.0 (now.1 ∙ sym (updated_at b.held c o d same) ∙ e) t,
      λ j y. grind (arith, cm c, r.waits c a.waits, y, same),
    )
    | inr ne ↦ elim (h.held d g (sym (updated_other b.held c o d ne) ∙ e) t) [
      | inl x ↦ inl (updated_other b.known_size c s0 d ne ∙ x.0, x.1)
      | inr w ↦ inr (w.0, w.1, rw (updated_other b.known_size c s0 d ne) w.2, w.3)
    ]
  ];
}

kn_commits : (b : State) (c j : ℕ) (g : Grant) → Allowed b (Commits c j g) → Holds b → Calls b → Commit_call b → Alone b →
    Knows b → Knows (after b (Commits c j g))
kn_commits b c j g a o r cm al h = record {
  held = λ d f e t. elim (cases_eq d c) [
    | inl same ↦ let run : b.call c ≡ Writes j = grind (arith, cm c, a.asks) in
        inr (
          j,
          updated_at b.commit c (CommitDone j) d same,
          grind (arith, h.held d f e t, same, a.asks),
          (r.writes c j run).below,
        )
    | inr ne ↦ absurd (grind (arith, o.has d f e, t, al d c f g ne, a.live, a.extending))
  ];
  comes = λ d f w e k t. elim (cases_eq d c) [
    | inl same ↦ absurd (let run : b.call c ≡ Writes j = grind (arith, cm c, a.asks) in grind (arith, r.waits d w, same, run))
    | inr ne ↦ absurd (grind (arith, o.comes d f w e k, t, al d c f g ne, a.live, a.extending))
  ];
}

kn_taken : (b : State) (c j : ℕ) → Allowed b (TakesCommit c j) → Knows b → Knows (after b (TakesCommit c j))
kn_taken b c j a h = record {
  comes = h.comes;
  held = λ d f e t. elim (cases_eq d c) [
    | inl same ↦ inl (
      updated_at b.known_size c (max (b.known_size c) (b.start j).end_) d same ∙ elim (h.held d f e t) [
        | inl x ↦ absurd (x.1 j (ap b.commit same ∙ a))
        | inr w ↦ let js : w.0 ≡ j = grind (arith, w.1, a, same) in
            sym (w.2 ∙ ap (λ y. max (b.known_size y) (b.start w.0).end_) same
            ∙ ap (λ y. max (b.known_size c) (b.start y).end_) js)
      ],
      λ i y. absurd (let z : NoCommit ≡ CommitDone i = sym (updated_at b.commit c NoCommit d same) ∙ y in cc z),
    )
    | inr ne ↦ elim (h.held d f e t) [
      | inl x ↦
          inl (
            updated_other b.known_size c (max (b.known_size c) (b.start j).end_) d ne ∙ x.0,
            λ i y. x.1 i (sym (updated_other b.commit c NoCommit d ne) ∙ y),
          )
      | inr w ↦
          inr (
            w.0,
            updated_other b.commit c NoCommit d ne ∙ w.1,
            rw (updated_other b.known_size c (max (b.known_size c) (b.start j).end_) d ne) w.2,
            w.3,
          )
    ]
  ];
}

kn_com : (b : State) (c : ℕ) (x : Commit) → ((j : ℕ) → x ≡ CommitDone j → ⊥) → ((j : ℕ) → b.commit c ≡ CommitDone j → ⊥) →
    Knows b → Knows (record b { commit = updated b.commit c x })
kn_com b c x no_ before h = record {
  comes = h.comes;
  held = λ d g e t. elim (cases_eq d c) [
    | inl same ↦ elim (h.held d g e t) [
      | inl y ↦ inl (y.0, λ j z. no_ j (sym (updated_at b.commit c x d same) ∙ z))
      | inr w ↦ absurd (before w.0 (sym (ap b.commit same) ∙ w.1))
    ]
    | inr ne ↦ rw (updated_other b.commit c x d ne) (h.held d g e t)
  ];
}

pub keep_knows : (b : State) (e : Event) → Allowed b e → Slots b → Holds b → Calls b → Commit_call b → Told_size b → Alone b →
    Knows b → Knows (after b e)
keep_knows b (Asks c rw) a s o r cm ts al h = kn_asks b c a.free s h
keep_knows b (GivesBack c g) a s o r cm ts al h =
    kn_drops (record b { sequence = updated b.sequence c (b.sequence c + 1); waiting = updated b.waiting c true }) c
    (kn_asks b c a.free s h)
keep_knows b (Reports c g) a s o r cm ts al h =
    kn_drops (record b { sequence = updated b.sequence c (b.sequence c + 1); waiting = updated b.waiting c true }) c
    (kn_asks b c a.free s h)
keep_knows b (Leaves c g) a s o r cm ts al h = kn_drops b c h
keep_knows b (Forgets c) a s o r cm ts al h = kn_drops b c h
keep_knows b (Grants c number rw range extending) a s o r cm ts al h =
    kn_served b c (Some (granted b c number rw range extending)) h
keep_knows b (Refuses c kind) a s o r cm ts al h = kn_served b c None h
keep_knows b (Frees c) a s o r cm ts al h = kn_served b c None h
keep_knows b (Takes c o1 s0) a s o r cm ts al h = kn_takes b c o1 s0 a s r cm ts h
keep_knows b (StartsWrite c g i d touch hit seen e1 pt) a s o r cm ts al h =
    kn_added b (written_start b c g d touch hit seen e1 pt) h
keep_knows b (StartsRead c g lo hi reach) a s o r cm ts al h = kn_added b (read_start b c g lo hi reach) h
keep_knows b (Repairs k which e0) a s o r cm ts al h = kn_added b (repair_start b k which e0) h
keep_knows b (Rebuilds k cells) a s o r cm ts al h = kn_added b (rebuilt_start b k cells) h
keep_knows b (AsksCommit c j) a s o r cm ts al h =
    kn_com b c (CommitAsked j) (λ i e. absurd (cc e))
    (λ i e. absurd (let z : NoCommit ≡ CommitDone i = sym a.plain ∙ e in cc z)) h
keep_knows b (RefusesCommit c j) a s o r cm ts al h =
    kn_com b c (CommitRefused j) (λ i e. absurd (cc e))
    (λ i e. absurd (let z : CommitAsked j ≡ CommitDone i = sym a ∙ e in cc z)) h
keep_knows b (Commits c j g) a s o r cm ts al h = kn_commits b c j g a o r cm al h
keep_knows b (TakesCommit c j) a s o r cm ts al h = kn_taken b c j a h
keep_knows b (TakesRefusal c j) a s o r cm ts al h =
    kn_drops (record b { commit = updated b.commit c NoCommit }) c
    (kn_com b c NoCommit (λ i e. absurd (cc e)) (λ i e. absurd (let z : CommitRefused j ≡ CommitDone i = sym a ∙ e in cc z)) h)
keep_knows b (AsksOther c) a s o r cm ts al h =
    record {
      held = h.held;
      comes = λ d g w e. h.comes d g w (grind (arith, updated_read b.sequence c (b.sequence c + 1) d, e, w, a.free));
    }
keep_knows b (ServesOther c) a s o r cm ts al h =
    record
    { held = h.held; comes = λ d g w e. h.comes d g w (grind (arith, updated_read b.slot c (b.slot c + 1) d, e, w, a.free)) }
keep_knows b Fenced a s o r cm ts al h = record {
  held = λ c g e t. absurd (grind (arith, o.has c g e, t));
  comes = λ c g w e k t. absurd (grind (arith, o.comes c g w e k, t));
}
keep_knows b Refenced a s o r cm ts al h = record {
  held = λ c g e t. absurd (grind (arith, o.has c g e, t));
  comes = λ c g w e k t. absurd (grind (arith, o.comes c g w e k, t));
}
keep_knows b e a s o r cm ts al h = h

-- after an open write of an extending grant no living entry of a client stands
abbrev pub Last : State → Type 0
Last b = (j : ℕ) → Open b j → (g : Grant) → b.outstanding (b.start j).client ≡ Some g → g.extending ≡ true → (i : ℕ) → j < i →
    i < b.count → (b.start i).server ≡ false → (b.start i).alive ≡ false

last_added : (b : State) (s : Start) (row : ℕ → ℕ → Bool) →
    (s.server ≡ false → (j : ℕ) → Open b j → (g : Grant) → b.outstanding (b.start j).client ≡ Some g → g.extending ≡ true →
    s.alive ≡ false) → Last b → Last (added b s row)
last_added b s row new h j o g e x i low high sv = elim (open_added b s row j o) [
  | inl w ↦ absurd (grind (arith, w.0, low, high))
  | inr w ↦ let st = updated_other b.start b.count s j w.0 in elim (updated_read b.start b.count s i).1 [
    | inl y ↦ rw y.1 (new (rw y.1 at sv) j w.1 g (rw st at e) x)
    | inr y ↦ rw y.1 (h j w.1 g (rw st at e) x i low (grind (arith, y.0, high)) (rw y.1 at sv))
  ]
]

last_starts : (b : State) (c : ℕ) (f : Grant) → b.held c ≡ Some f → (b.call c ≡ Idle) ⊎ ((i : ℕ) × (b.call c ≡ Reads i)) →
    Holds b → Open_at_work b → Alone b → (j : ℕ) → Open b j → (g : Grant) → b.outstanding (b.start j).client ≡ Some g →
    g.extending ≡ true → (f.tag == b.tag) ≡ false
last_starts b c f has free o y al j op g e x = false_from_ne_true (f.tag == b.tag) (λ on.
    grind (arith, o.has c f has, eqb-true f.tag b.tag on, al (b.start j).client c g f (busy_free b c j f has free y op) e, x))

pub keep_last : (b : State) (e : Event) → Allowed b e → Formed b → Holds b → Open_granted b → Open_at_work b → Alone b → Last b →
    Last (after b e)
keep_last b (StartsWrite c g i d touch hit seen e1 pt) a f o q y al h =
    last_added b (written_start b c g d touch hit seen e1 pt) (λ k z. false)
    (λ sv. last_starts b c g a.has (inr (i, a.gathers)) o y al) h
keep_last b (StartsRead c g lo hi reach) a f o q y al h =
    last_added b (read_start b c g lo hi reach) (λ k z. false) (λ sv. last_starts b c g a.has (inl a.idle) o y al) h
keep_last b (Repairs k which e0) a f o q y al h =
    last_added b (repair_start b k which e0) (λ f y. updated (λ w. false) k true f) (λ sv. absurd (true≢false sv)) h
keep_last b (Rebuilds k cells) a f o q y al h =
    last_added b (rebuilt_start b k cells) (λ f y. updated (λ w. false) k true f) (λ sv. absurd (true≢false sv)) h
keep_last b (Grants c number rw range extending) a f o q y al h =
    λ j op g e. h j op g
    (grind (
      arith,
      updated_read b.outstanding c (Some (granted b c number rw range extending)) (b.start j).client,
      e,
      (q j op).1,
      a.none,
    ))
keep_last b (Leaves c g0) a f o q y al h =
    λ j op g e. h j op g (grind (arith, updated_read b.outstanding c None (b.start j).client, e))
keep_last b (Frees c) a f o q y al h =
    λ j op g e. h j op g (grind (arith, updated_read b.outstanding c None (b.start j).client, e))
keep_last b (Acknowledges c i) a f o q y al h = λ j op. h j (open_acks b i j op).1
keep_last b Fenced a f o q y al h = λ j op. absurd (open_fenced b j f op)
keep_last b Refenced a f o q y al h = λ j op. absurd (open_fenced b j f op)
keep_last b e a f o q y al h = h

grow_same : (t u : ℕ → Bool) (e f : ℕ → ℕ) (j : ℕ) → ((i : ℕ) → i < j → (t i ≡ u i) × (e i ≡ f i)) → grow t e j ≡ grow u f j
unfolding grow
grow_same t u e f zero h = refl
grow_same t u e f (suc j) h = let x = h j (omega arith) in rw (grow_same t u e f j (λ i l. h i (omega arith)), x.0, x.1) refl

pub grow-next : (t : ℕ → Bool) (e : ℕ → ℕ) (j : ℕ) → grow t e (j + 1) ≡ cond (t j) (max (grow t e j) (e j)) (grow t e j)
unfolding grow
grow-next t e j = rw add-one refl

max_swap : (x e f : ℕ) → max (max x e) f ≡ max (max x f) e
max_swap x e f = omega arith

max_same : (x e : ℕ) → max (max x e) e ≡ max x e
max_same x e = omega arith

-- one more commit, wherever its entry stands
grow_takes : (t u : ℕ → Bool) (e : ℕ → ℕ) (m n : ℕ) → m < n → u m ≡ true → ((i : ℕ) → (i ≡ m → ⊥) → u i ≡ t i) →
    grow u e n ≡ max (grow t e n) (e m)
unfolding grow
grow_takes t u e m zero l on other = absurd (omega (arith, l))
grow_takes t u e m (suc n) l on other = elim (cases_eq m n) [
  | inl same ↦ let below : grow u e n ≡ grow t e n = grow_same u t e e n (λ i l2. (other i (omega arith), refl)) in
      let un : u n ≡ true = ap u (sym same) ∙ on in rw (un, below, same) (both (t n) (grow t e n) (e n))
  | inr ne ↦ let ih = grow_takes t u e m n (omega (arith, l, ne)) on other in
      rw (ih, other n (λ y. ne (sym y))) (swap (t n) (grow t e n) (e m) (e n))
]
  where
    both : (w : Bool) (x y : ℕ) → max x y ≡ max (cond w (max x y) x) y
    both true x y = sym (max_same x y)
    both false x y = refl

    swap : (w : Bool) (x y z : ℕ) → cond w (max (max x y) z) (max x y) ≡ max (cond w (max x z) x) y
    swap true x y z = max_swap x y z
    swap false x y z = refl

-- the file's size is that of the log
abbrev pub Size_is : State → Type 0
Size_is b = b.size ≡ size_before b b.count

sz_added : (b : State) (s : Start) (row : ℕ → ℕ → Bool) (i : ℕ) → i ≤ b.count → size_before (added b s row) i ≡ size_before b i
sz_added b s row i l =
    grow_same _ _ _ _ i (λ j low. let ne : j ≡ b.count → ⊥ = omega arith in
    (updated_other b.committed b.count false j ne, ap (λ y. y.end_) (updated_other b.start b.count s j ne)))

si_added : (b : State) (s : Start) (row : ℕ → ℕ → Bool) → Size_is b → Size_is (added b s row)
si_added b s row h =
    h
    ∙ sym (grow-next _ _ b.count
    ∙ ap (λ y. cond y (max (size_before (added b s row) b.count) ((added b s row).start b.count).end_)
    (size_before (added b s row) b.count)) (updated_same b.committed b.count false) ∙ sz_added b s row b.count (omega arith))

si_commits : (b : State) (c j : ℕ) (g : Grant) → Allowed b (Commits c j g) → Calls b → Commit_call b → Size_is b →
    Size_is (after b (Commits c j g))
si_commits b c j g a r cm h = let run : b.call c ≡ Writes j = grind (arith, cm c, a.asks) in
    ap (λ y. max y (b.start j).end_) h
    ∙ sym (grow_takes b.committed (updated b.committed j true) (λ i. (b.start i).end_) j b.count (r.writes c j run).below
    (updated_same b.committed j true) (λ i ne. updated_other b.committed j true i ne))

pub keep_size : (b : State) (e : Event) → Allowed b e → Calls b → Commit_call b → Size_is b → Size_is (after b e)
keep_size b (StartsWrite c g i d touch hit seen e1 pt) a r cm h =
    si_added b (written_start b c g d touch hit seen e1 pt) (λ k z. false) h
keep_size b (StartsRead c g lo hi reach) a r cm h = si_added b (read_start b c g lo hi reach) (λ k z. false) h
keep_size b (Repairs k which e0) a r cm h = si_added b (repair_start b k which e0) (λ f y. updated (λ w. false) k true f) h
keep_size b (Rebuilds k cells) a r cm h = si_added b (rebuilt_start b k cells) (λ f y. updated (λ w. false) k true f) h
keep_size b (Commits c j g) a r cm h = si_commits b c j g a r cm h
keep_size b e a r cm h = h

-- what a living call clips by is the size that the log leaves before it
abbrev pub Clips : State → Type 0
Clips b = (i : ℕ) → i < b.count → (b.start i).server ≡ false → (b.start i).alive ≡ true → (b.start i).clip ≡ size_before b i

clips_added : (b : State) (s : Start) (row : ℕ → ℕ → Bool) →
    (s.server ≡ false → s.alive ≡ true → s.clip ≡ size_before b b.count) → Clips b → Clips (added b s row)
clips_added b s row new h i low sv al = elim (updated_read b.start b.count s i).1 [
  | inl w ↦ rw (w.1, w.0) (new (rw w.1 at sv) (rw w.1 at al) ∙ sym (sz_added b s row b.count (omega arith)))
  | inr w ↦ let l : i < b.count = grind (arith, w.0, low) in
      rw w.1 (h i l (rw w.1 at sv) (rw w.1 at al) ∙ sym (sz_added b s row i (omega (arith, l))))
]

clip_now : (b : State) (c : ℕ) (g : Grant) → b.held c ≡ Some g → (b.call c ≡ Idle) ⊎ ((i : ℕ) × (b.call c ≡ Reads i)) →
    Commit_call b → Knows b → Size_is b → (g.tag == b.tag) ≡ true → b.known_size c ≡ size_before b b.count
clip_now b c g has free cm kn si on = elim (kn.held c g has (eqb-true g.tag b.tag on)) [
  | inl x ↦ x.0 ∙ si
  | inr w ↦ absurd (grind (arith, cm c, w.1, free))
]

clips_commits : (b : State) (c j : ℕ) (g : Grant) → Allowed b (Commits c j g) → Holds b → Calls b → Running b → Dead b →
    Commit_call b → Last b → Clips b → Clips (after b (Commits c j g))
clips_commits b c j g a o r run dead cm last h i low sv al =
    let go : b.call c ≡ Writes j = grind (arith, cm c, a.asks) in let u = r.writes c j go in let x = run.writes c j go in
    let tag : (b.start j).tag ≡ b.tag = grind (arith, o.has c u.under.0 u.under.1, u.under.2, a.live) in
    let alj : (b.start j).alive ≡ true = true_from_ne_false (b.start j).alive (λ d. grind (arith, dead j u.below d, tag)) in
    let op : Open b j = (u.below, x.0, alj, x.1, tag) in
    let high : i ≤ j =
    elim (cases_lt j i) [
      | inl l ↦
          absurd (true≢false (sym al ∙ last j op g (ap b.outstanding u.by ∙ a.live) a.extending i l low sv))
      | inr l ↦ l
    ] in
    h i low sv al ∙ sym (grow_same _ _ _ _ i (λ y l. (updated_other b.committed j true y (omega (arith, l, high)), refl)))

pub keep_clips : (b : State) (e : Event) → Allowed b e → Holds b → Calls b → Running b → Dead b → Commit_call b → Knows b →
    Size_is b → Last b → Clips b → Clips (after b e)
keep_clips b (StartsWrite c g i d touch hit seen e1 pt) a o r run dead cm kn si last h =
    clips_added b (written_start b c g d touch hit seen e1 pt) (λ k z. false)
    (λ sv al. clip_now b c g a.has (inr (i, a.gathers)) cm kn si al) h
keep_clips b (StartsRead c g lo hi reach) a o r run dead cm kn si last h =
    clips_added b (read_start b c g lo hi reach) (λ k z. false) (λ sv al. clip_now b c g a.has (inl a.idle) cm kn si al) h
keep_clips b (Repairs k which e0) a o r run dead cm kn si last h =
    clips_added b (repair_start b k which e0) (λ f y. updated (λ w. false) k true f) (λ sv. absurd (true≢false sv)) h
keep_clips b (Rebuilds k cells) a o r run dead cm kn si last h =
    clips_added b (rebuilt_start b k cells) (λ f y. updated (λ w. false) k true f) (λ sv. absurd (true≢false sv)) h
keep_clips b (Commits c j g) a o r run dead cm kn si last h = clips_commits b c j g a o r run dead cm last h
keep_clips b e a o r run dead cm kn si last h = h
