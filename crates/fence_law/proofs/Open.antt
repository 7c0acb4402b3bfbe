-- Kept: a WRITE on the wire is of its holder's entry and part; one that a drive may still perform (fresh) is awaited, and its
-- entry isn't acknowledged.
-- A nonce is used once, a drive performs only nonces above the last, and a write is acknowledged only when nothing is awaited.
use Rattle.std.proofs.Common.{◌≡◌, ℕ, ◌<◌, ◌≤◌, Bool, true, false, Some, None, ◌⊎◌, sym, ap, ◌∙◌, inl, inr, arith, refl}
use Rattle.std.proofs.lemmas.Bool.{true_from_ne_false, cases_eq, true≢false}
use Rattle.osd_lists.proofs.Tests.{first_false}
use Rattle.fence_law.specs.Words.{updated, In}
use Rattle.fence_law.specs.State.{State, Event, Grant, Write, WriteReply, Call, PartState, Start}
use Rattle.fence_law.specs.Starts.{written_start, read_start, repair_start, rebuilt_start}
use Rattle.fence_law.specs.Machine.{Allowed, after}
use Rattle.fence_law.specs.State.Call.{Idle, Writes, Reads, Broken}
use Rattle.fence_law.specs.State.PartState.{NotSent, Sent, Done}
use Rattle.fence_law.specs.State.Event.{Reports, Forgets, Fenced, Refenced, Sends, StartsWrite, StartsRead, Performs, Learns, Acknowledges, Breaks, Answers, EndsRead, Repairs, Rebuilds, TakesRefusal, Loses, Leaves, PerformsLost, Grants, Repaired, Frees}
use Rattle.fence_law.proofs.Words.{up_off, updated_other, updated_read}
use Rattle.fence_law.proofs.Tags.{Tags}
use Rattle.fence_law.proofs.Commands.{Calls}
use Rattle.fence_law.proofs.Formed.{added, Formed, Running, Gone_lost, not_gone}
use Rattle.fence_law.proofs.Holds.{Holds}

-- an entry of an old grant has no part in the bytes
abbrev pub Dead : State → Type 0
Dead b = (j : ℕ) → j < b.count → (b.start j).alive ≡ false →
    ((b.start j).tag < b.tag) × ((k z : ℕ) → b.applied j k z ≡ false) × ((p : ℕ) →
    (b.chosen j p ≡ false) ⊎ ((b.start j).data_at p ≡ None))

-- a WRITE that a drive may still perform
abbrev pub Fresh : State → Write → Type 0
Fresh b m = (m.tag ≡ b.tag) × (b.last_nonce m.at m.holder < m.nonce) × (b.gone m.at ≡ false)

-- each WRITE belongs to the call for which it was sent
abbrev pub Known : State → Type 0
Known b = (m : Write) → In m b.writes → record {
  nonce : m.nonce ≤ b.nonce m.holder;
  entry : m.entry < b.count;
  by : (b.start m.entry).client ≡ m.holder;
  tag : (b.start m.entry).tag ≡ m.tag;
  write : (b.start m.entry).is_write ≡ true;
}

known_added : (b : State) (s : Start) (row : ℕ → ℕ → Bool) → Known b → Known (added b s row)
known_added b s row h m i = let k = h m i in
    let e : updated b.start b.count s m.entry ≡ b.start m.entry =
    grind (arith, updated_read b.start b.count s m.entry, k.entry) in
    record { nonce = k.nonce; entry = grind (arith, k.entry); by = rw e k.by; tag = rw e k.tag; write = rw e k.write }

known_sends : (b : State) (c k : ℕ) (g : Grant) (j pi fresh : ℕ) → Allowed b (Sends c k g j pi fresh) → Calls b → Running b →
    Known b → Known (after b (Sends c k g j pi fresh))
known_sends b c k g j pi fresh a r u h m i = elim i [
  | inl e ↦ let run = r.writes c j a.runs in let same : Some run.under.0 ≡ Some g = sym run.under.1 ∙ a.has in
      record {
        nonce = grind (arith, e, updated_read b.nonce c fresh m.holder);
        entry = grind (arith, e, run.below);
        by = grind (arith, e, run.by);
        tag = grind (arith, e, run.under, same);
        write = grind (arith, e, u.writes c j a.runs);
      }
  | inr o ↦ let w = h m o in
      record {
        nonce = grind (arith, w.nonce, updated_read b.nonce c fresh m.holder);
        entry = w.entry;
        by = w.by;
        tag = w.tag;
        write = w.write;
      }
]

pub keep_known : (b : State) (e : Event) → Allowed b e → Calls b → Running b → Known b → Known (after b e)
keep_known b (StartsWrite c g i d touch hit seen e1 pt) a r u h =
    known_added b (written_start b c g d touch hit seen e1 pt) (λ k z. false) h
keep_known b (StartsRead c g lo hi reach) a r u h = known_added b (read_start b c g lo hi reach) (λ k z. false) h
keep_known b (Repairs k which e0) a r u h = known_added b (repair_start b k which e0) (λ f y. updated (λ w. false) k true f) h
keep_known b (Rebuilds k cells) a r u h = known_added b (rebuilt_start b k cells) (λ f y. updated (λ w. false) k true f) h
keep_known b (Sends c k g j pi fresh) a r u h = known_sends b c k g j pi fresh a r u h
keep_known b e a r u h = h

-- no nonce of an awaited WRITE is ahead of its client's
abbrev pub Sent_low : State → Type 0
Sent_low b = (c k i v : ℕ) → b.out c k i ≡ Sent v → v ≤ b.nonce c

pub keep_sent_low : (b : State) (e : Event) → Allowed b e → Sent_low b → Sent_low (after b e)
keep_sent_low b (StartsWrite c g i d touch hit seen e1 pt) a h =
    λ f k y v o. grind (arith, updated_read b.out c (λ k i2. NotSent) f, h f k y v, o)
keep_sent_low b (Sends c k g j pi fresh) a h =
    λ f q y v o. grind (
      arith,
      updated_read b.nonce c fresh f,
      updated_read b.out c (updated (b.out c) k (updated (b.out c k) pi (Sent fresh))) f,
      updated_read (b.out c) k (updated (b.out c k) pi (Sent fresh)) q,
      updated_read (b.out c k) pi (Sent fresh) y,
      h f q y v,
      o,
    )
keep_sent_low b (Learns c k j v pi) a h =
    λ f q y u o. grind (
      arith,
      updated_read b.out c (updated (b.out c) k (updated (b.out c k) pi Done)) f,
      updated_read (b.out c) k (updated (b.out c k) pi Done) q,
      updated_read (b.out c k) pi Done y,
      h f q y u,
      o,
    )
keep_sent_low b e a h = h

-- a WRITE that is awaited is of the call that runs, and of that part
abbrev pub Own : State → Type 0
Own b = (m : Write) → In m b.writes → (j i : ℕ) → b.call m.holder ≡ Writes j → b.out m.holder m.at i ≡ Sent m.nonce →
    (m.entry ≡ j) × (m.part ≡ i)

own_call : (b : State) (c : ℕ) (x : Call) → ((j : ℕ) → x ≡ Writes j → ⊥) → Own b → Own (record b { call = updated b.call c x })
own_call b c x none h m i j y run out = h m i j y (grind (arith, updated_read b.call c x m.holder, none j, run)) out

own_starts : (b : State) (c : ℕ) (x : Call) → Own b →
    Own (record b { call = updated b.call c x; out = updated b.out c (λ k i2. NotSent) })
own_starts b c x h m i j y run out = elim (updated_read b.out c (λ k i2. NotSent) m.holder).1 [
  | inl w ↦ absurd (let e : NotSent ≡ Sent m.nonce = sym (ap (λ f. f m.at y) w.1) ∙ out in cc e)
  | inr w ↦ h m i j y (sym (updated_other b.call c x m.holder w.0) ∙ run) (sym (ap (λ f. f m.at y) w.1) ∙ out)
]

own_learns : (b : State) (c k pi : ℕ) → Own b →
    Own (record b { out = updated b.out c (updated (b.out c) k (updated (b.out c k) pi Done)) })
own_learns b c k pi h m i j y run out =
    h m i j y run (grind (
      arith,
      updated_read b.out c (updated (b.out c) k (updated (b.out c k) pi Done)) m.holder,
      updated_read (b.out c) k (updated (b.out c k) pi Done) m.at,
      updated_read (b.out c k) pi Done y,
      out,
    ))

own_sends : (b : State) (c k : ℕ) (g : Grant) (j pi fresh : ℕ) → Allowed b (Sends c k g j pi fresh) → Known b → Sent_low b →
    Own b → Own (after b (Sends c k g j pi fresh))
own_sends b c k g j pi fresh a n sl h m i x y run out = elim i [
  | inl e ↦ (
    grind (arith, e, a.runs, run),
    grind (
      arith,
      e,
      updated_read b.out c (updated (b.out c) k (updated (b.out c k) pi (Sent fresh))) m.holder,
      updated_read (b.out c) k (updated (b.out c k) pi (Sent fresh)) m.at,
      updated_read (b.out c k) pi (Sent fresh) y,
      sl c k y fresh,
      out,
    ),
  )
  | inr o ↦
      h m o x y run (grind (
        arith,
        updated_read b.out c (updated (b.out c) k (updated (b.out c k) pi (Sent fresh))) m.holder,
        updated_read (b.out c) k (updated (b.out c k) pi (Sent fresh)) m.at,
        updated_read (b.out c k) pi (Sent fresh) y,
        (n m o).nonce,
        out,
      ))
]

pub keep_own : (b : State) (e : Event) → Allowed b e → Known b → Sent_low b → Own b → Own (after b e)
keep_own b (Reports c g) a n sl h = own_call b c Idle (λ j e. cc) h
keep_own b (Forgets c) a n sl h = own_call b c Idle (λ j e. cc) h
keep_own b (TakesRefusal c j0) a n sl h = own_call b c Idle (λ j e. cc) h
keep_own b (StartsWrite c g i d touch hit seen e1 pt) a n sl h = own_starts b c (Writes b.count) h
keep_own b (StartsRead c g lo hi reach) a n sl h = own_call b c (Reads b.count) (λ j e. cc) h
keep_own b (Sends c k g j pi fresh) a n sl h = own_sends b c k g j pi fresh a n sl h
keep_own b (Learns c k j v pi) a n sl h = own_learns b c k pi h
keep_own b (Acknowledges c j) a n sl h = own_call b c Idle (λ j e. cc) h
keep_own b (Breaks c j) a n sl h = own_call b c Broken (λ j e. cc) h
keep_own b (Answers c j f) a n sl h = own_call b c Idle (λ j e. cc) h
keep_own b (EndsRead c j) a n sl h = own_call b c Idle (λ j e. cc) h
keep_own b e a n sl h = h

-- while no grant was issued since the last fence none is outstanding, and no call of the file's tag
abbrev pub Unissued : State → Type 0
Unissued b = record {
  outstanding : (c : ℕ) → b.granted_since ≡ false → b.outstanding c ≡ None;
  entries : (j : ℕ) → j < b.count → (b.start j).server ≡ false → b.granted_since ≡ false → (b.start j).tag < b.tag;
}

ui_added : (b : State) (s : Start) (row : ℕ → ℕ → Bool) → (s.server ≡ false → b.granted_since ≡ false → s.tag < b.tag) →
    Unissued b → Unissued (added b s row)
ui_added b s row new h = record {
  outstanding = h.outstanding;
  entries = λ j low sv un. elim (updated_read b.start b.count s j).1 [
    | inl w ↦ rw w.1 (new (rw w.1 at sv) un)
    | inr w ↦ rw w.1 (h.entries j (grind (arith, w.0, low)) (rw w.1 at sv) un)
  ];
}

ui_low : (b : State) (c : ℕ) (g : Grant) → b.held c ≡ Some g → Holds b → Unissued b → b.granted_since ≡ false → g.tag < b.tag
ui_low b c g has o h un = grind (arith, o.has c g has, h.outstanding c un)

pub keep_unissued : (b : State) (e : Event) → Allowed b e → Holds b → Formed b → Unissued b → Unissued (after b e)
keep_unissued b (Grants c number rw range extending) a o f h =
    record { outstanding = λ d un. absurd (true≢false un); entries = λ j low sv un. absurd (true≢false un) }
keep_unissued b (Leaves c g) a o f h =
    record { outstanding = λ d un. grind (arith, updated_read b.outstanding c None d, h.outstanding d un); entries = h.entries }
keep_unissued b (Frees c) a o f h =
    record { outstanding = λ d un. grind (arith, updated_read b.outstanding c None d, h.outstanding d un); entries = h.entries }
keep_unissued b Fenced a o f h = record { outstanding = λ d un. refl; entries = λ j low sv un. grind (arith, (f j low).low) }
keep_unissued b Refenced a o f h = record { outstanding = λ d un. refl; entries = λ j low sv un. grind (arith, (f j low).low) }
keep_unissued b (StartsWrite c g i d touch hit seen e1 pt) a o f h =
    ui_added b (written_start b c g d touch hit seen e1 pt) (λ k z. false) (λ sv. ui_low b c g a.has o h) h
keep_unissued b (StartsRead c g lo hi reach) a o f h =
    ui_added b (read_start b c g lo hi reach) (λ k z. false) (λ sv. ui_low b c g a.has o h) h
keep_unissued b (Repairs k which e0) a o f h =
    ui_added b (repair_start b k which e0) (λ f y. updated (λ w. false) k true f) (λ sv. absurd (true≢false sv)) h
keep_unissued b (Rebuilds k cells) a o f h =
    ui_added b (rebuilt_start b k cells) (λ f y. updated (λ w. false) k true f) (λ sv. absurd (true≢false sv)) h
keep_unissued b e a o f h = h

-- what was answered was performed
abbrev pub Replied : State → Type 0
Replied b = (r : WriteReply) → In r b.replies → r.nonce ≤ b.last_nonce r.at r.holder

replied_lane : (b : State) (m : Write) → b.last_nonce m.at m.holder < m.nonce → Replied b →
    Replied (record b { last_nonce = updated b.last_nonce m.at (updated (b.last_nonce m.at) m.holder m.nonce) })
replied_lane b m new h r i =
    grind (
      arith,
      updated_read b.last_nonce m.at (updated (b.last_nonce m.at) m.holder m.nonce) r.at,
      updated_read (b.last_nonce m.at) m.holder m.nonce r.holder,
      h r i,
      new,
    )

pub keep_replied : (b : State) (e : Event) → Allowed b e → Replied b → Replied (after b e)
keep_replied b (Performs m) a h = replied_performs b m a h
  where
    replied_performs : (b : State) (m : Write) → Allowed b (Performs m) → Replied b → Replied (after b (Performs m))
    replied_performs b m a h r i =
        grind (
          arith,
          updated_read b.last_nonce m.at (updated (b.last_nonce m.at) m.holder m.nonce) r.at,
          updated_read (b.last_nonce m.at) m.holder m.nonce r.holder,
          h r,
          a.new,
        )
keep_replied b (PerformsLost m) a h = replied_lane b m a.new h
keep_replied b e a h = h

pub fresh_before : (b : State) (m w : Write) → b.last_nonce m.at m.holder < m.nonce →
    Fresh (record b { last_nonce = updated b.last_nonce m.at (updated (b.last_nonce m.at) m.holder m.nonce) }) w → Fresh b w
fresh_before b m w new f = (
  f.0,
  grind (
    arith,
    f.1,
    updated_read b.last_nonce m.at (updated (b.last_nonce m.at) m.holder m.nonce) w.at,
    updated_read (b.last_nonce m.at) m.holder m.nonce w.holder,
    new,
  ),
  f.2,
)

-- while no grant was issued since the last fence no WRITE is fresh
unissued_fresh : (b : State) (m : Write) → In m b.writes → m.tag ≡ b.tag → b.granted_since ≡ false → Formed b → Known b →
    Unissued b → ⊥
unissued_fresh b m i t un f n u = let k = n m i in
    let l : (b.start m.entry).tag < b.tag = u.entries m.entry k.entry ((f m.entry k.entry).own k.write) un in
    grind (arith, l, k.tag, t)

-- no WRITE is ahead of the file's tag
low_write : (b : State) (m : Write) → In m b.writes → Formed b → Known b → m.tag ≤ b.tag
low_write b m i f n = let k = n m i in grind (arith, (f m.entry k.entry).low, k.tag)

-- a fresh WRITE of the call that runs is awaited
abbrev pub Awaited : State → Type 0
Awaited b = (m : Write) → In m b.writes → Fresh b m → b.call m.holder ≡ Writes m.entry → b.out m.holder m.at m.part ≡ Sent m.nonce

awaited_call : (b : State) (c : ℕ) (x : Call) → ((j : ℕ) → x ≡ Writes j → ⊥) → Awaited b →
    Awaited (record b { call = updated b.call c x })
awaited_call b c x none h m i f run = h m i f (grind (arith, updated_read b.call c x m.holder, none m.entry, run))

awaited_starts : (b : State) (c : ℕ) (o : ℕ → ℕ → PartState) → Known b → Awaited b →
    Awaited (record b { call = updated b.call c (Writes b.count); out = updated b.out c o })
awaited_starts b c o n h m i f run = elim (updated_read b.call c (Writes b.count) m.holder).1 [
  | inl w ↦ let e : m.entry ≡ b.count = grind (arith, w, run) in absurd (grind (arith, e, (n m i).entry))
  | inr w ↦ rw (updated_other b.out c o m.holder w.0) (h m i f (sym w.1 ∙ run))
]

awaited_sends : (b : State) (c k : ℕ) (g : Grant) (j pi fresh : ℕ) → Allowed b (Sends c k g j pi fresh) → Awaited b →
    Awaited (after b (Sends c k g j pi fresh))
awaited_sends b c k g j pi fresh a h m i f run = elim i [
  | inl e ↦ grind (
    arith,
    e,
    updated_read b.out c (updated (b.out c) k (updated (b.out c k) pi (Sent fresh))) m.holder,
    updated_read (b.out c) k (updated (b.out c k) pi (Sent fresh)) m.at,
    updated_read (b.out c k) pi (Sent fresh) m.part,
  )
  | inr o ↦ grind (
    arith,
    h m o f run,
    updated_read b.out c (updated (b.out c) k (updated (b.out c k) pi (Sent fresh))) m.holder,
    updated_read (b.out c) k (updated (b.out c k) pi (Sent fresh)) m.at,
    updated_read (b.out c k) pi (Sent fresh) m.part,
    a.first,
  )
]

awaited_learns : (b : State) (c k j v pi : ℕ) → Allowed b (Learns c k j v pi) → Replied b → Awaited b →
    Awaited (after b (Learns c k j v pi))
awaited_learns b c k j v pi a n h m i f run =
    grind (
      arith,
      h m i f run,
      updated_read b.out c (updated (b.out c) k (updated (b.out c k) pi Done)) m.holder,
      updated_read (b.out c) k (updated (b.out c k) pi Done) m.at,
      updated_read (b.out c k) pi Done m.part,
      n (record { holder = c; nonce = v; at = k }) a.comes,
      a.sent,
      f.1,
    )

pub keep_awaited : (b : State) (e : Event) → Allowed b e → Formed b → Known b → Replied b → Gone_lost b → Unissued b → Awaited b →
    Awaited (after b e)
keep_awaited b (Reports c g) a o n p gl ui h = awaited_call b c Idle (λ j e. cc) h
keep_awaited b (Forgets c) a o n p gl ui h = awaited_call b c Idle (λ j e. cc) h
keep_awaited b (TakesRefusal c j0) a o n p gl ui h = awaited_call b c Idle (λ j e. cc) h
keep_awaited b (StartsWrite c g i d touch hit seen e1 pt) a o n p gl ui h = awaited_starts b c (λ k i2. NotSent) n h
keep_awaited b (StartsRead c g lo hi reach) a o n p gl ui h = awaited_call b c (Reads b.count) (λ j e. cc) h
keep_awaited b (Sends c k g j pi fresh) a o n p gl ui h = awaited_sends b c k g j pi fresh a h
keep_awaited b (Learns c k j v pi) a o n p gl ui h = awaited_learns b c k j v pi a p h
keep_awaited b (Acknowledges c j) a o n p gl ui h = awaited_call b c Idle (λ j e. cc) h
keep_awaited b (Breaks c j) a o n p gl ui h = awaited_call b c Broken (λ j e. cc) h
keep_awaited b (Answers c j f) a o n p gl ui h = awaited_call b c Idle (λ j e. cc) h
keep_awaited b (EndsRead c j) a o n p gl ui h = awaited_call b c Idle (λ j e. cc) h
keep_awaited b (Performs m) a o n p gl ui h = λ w i f. h w i (fresh_before b m w a.new f)
keep_awaited b (PerformsLost m) a o n p gl ui h = λ w i f. h w i (fresh_before b m w a.new f)
keep_awaited b (Grants c number rw range extending) a o n p gl ui h =
    λ w i f. h w i (f.0, f.1, first_false (b.gone w.at) (b.missing w.at) f.2)
keep_awaited b (Loses c k) a o n p gl ui h = λ w i f. h w i (f.0, f.1, up_off b.gone k w.at f.2)
keep_awaited b (Repaired done e0) a o n p gl ui h = λ w i f. h w i (f.0, f.1, not_gone b w.at gl f.2)
keep_awaited b (Rebuilds k cells) a o n p gl ui h = λ w i f. absurd (unissued_fresh b w i f.0 a.unused o n ui)
keep_awaited b Fenced a o n p gl ui h = λ m i f. absurd (grind (arith, low_write b m i o n, f.0))
keep_awaited b Refenced a o n p gl ui h = λ m i f. absurd (grind (arith, low_write b m i o n, f.0))
keep_awaited b e a o n p gl ui h = h

-- the write of a fresh WRITE isn't acknowledged
abbrev pub Unacked : State → Type 0
Unacked b = (m : Write) → In m b.writes → Fresh b m → b.acknowledged m.entry ≡ false

unacked_added : (b : State) (s : Start) (row : ℕ → ℕ → Bool) → Known b → Unacked b → Unacked (added b s row)
unacked_added b s row n h m i f = grind (arith, updated_read b.acknowledged b.count false m.entry, h m i f)

unacked_acks : (b : State) (c j : ℕ) → Allowed b (Acknowledges c j) → Calls b → Known b → Awaited b → Unacked b →
    Unacked (after b (Acknowledges c j))
unacked_acks b c j a r n w h m i f = elim (cases_eq m.entry j) [
  | inr ne ↦ rw (updated_other b.acknowledged j true m.entry ne) (h m i f)
  | inl e ↦ let by : m.holder ≡ c = grind (arith, e, (n m i).by, (r.writes c j a.runs).by) in
      absurd (true≢false (sym (a.told m.at m.part m.nonce (rw (by, e) at (w m i f) a.runs)) ∙ f.2))
]

unacked_sends : (b : State) (c k : ℕ) (g : Grant) (j pi fresh : ℕ) → Allowed b (Sends c k g j pi fresh) → Running b → Unacked b →
    Unacked (after b (Sends c k g j pi fresh))
unacked_sends b c k g j pi fresh a u h m i f = elim i [ inl e ↦ grind (arith, e, u.writes c j a.runs) | inr o ↦ h m o f ]

pub keep_unacked : (b : State) (e : Event) → Allowed b e → Calls b → Running b → Formed b → Known b → Awaited b → Gone_lost b →
    Unissued b → Unacked b → Unacked (after b e)
keep_unacked b (StartsWrite c g i d touch hit seen e1 pt) a r u o n w gl ui h =
    unacked_added b (written_start b c g d touch hit seen e1 pt) (λ k z. false) n h
keep_unacked b (StartsRead c g lo hi reach) a r u o n w gl ui h =
    unacked_added b (read_start b c g lo hi reach) (λ k z. false) n h
keep_unacked b (Repairs k which e0) a r u o n w gl ui h =
    unacked_added b (repair_start b k which e0) (λ f y. updated (λ w. false) k true f) n h
keep_unacked b (Rebuilds k cells) a r u o n w gl ui h = λ x i f. absurd (unissued_fresh b x i f.0 a.unused o n ui)
keep_unacked b (Sends c k g j pi fresh) a r u o n w gl ui h = unacked_sends b c k g j pi fresh a u h
keep_unacked b (Acknowledges c j) a r u o n w gl ui h = unacked_acks b c j a r n w h
keep_unacked b (Performs m) a r u o n w gl ui h = λ x i f. h x i (fresh_before b m x a.new f)
keep_unacked b (PerformsLost m) a r u o n w gl ui h = λ x i f. h x i (fresh_before b m x a.new f)
keep_unacked b (Grants c number rw range extending) a r u o n w gl ui h =
    λ x i f. h x i (f.0, f.1, first_false (b.gone x.at) (b.missing x.at) f.2)
keep_unacked b (Loses c k) a r u o n w gl ui h = λ x i f. h x i (f.0, f.1, up_off b.gone k x.at f.2)
keep_unacked b (Repaired done e0) a r u o n w gl ui h = λ x i f. h x i (f.0, f.1, not_gone b x.at gl f.2)
keep_unacked b Fenced a r u o n w gl ui h = λ m i f. absurd (grind (arith, low_write b m i o n, f.0))
keep_unacked b Refenced a r u o n w gl ui h = λ m i f. absurd (grind (arith, low_write b m i o n, f.0))
keep_unacked b e a r u o n w gl ui h = h

-- a write under an outstanding grant that isn't acknowledged
abbrev pub Open : State → ℕ → Type 0
Open b j =
    (j < b.count) × ((b.start j).is_write ≡ true) × ((b.start j).alive ≡ true) × (b.acknowledged j ≡ false)
    × ((b.start j).tag ≡ b.tag)

pub fresh_open : (b : State) (m : Write) → In m b.writes → Fresh b m → Known b → Dead b → Unacked b → Open b m.entry
fresh_open b m i f n dead u = let k = n m i in (
  k.entry,
  k.write,
  true_from_ne_false (b.start m.entry).alive (λ e. grind (arith, dead m.entry k.entry e, k.tag, f.0)),
  u m i f,
  grind (arith, k.tag, f.0),
)

pub now_fresh : (b : State) (m : Write) → Allowed b (Performs m) → Tags b → Formed b → Known b → Fresh b m
now_fresh b m a t o n = (grind (arith, t.at m.at a.there a.stands, low_write b m a.comes o n, a.right), a.new, a.here)

-- the new entry, or one that was open
pub open_added : (b : State) (s : Start) (row : ℕ → ℕ → Bool) (j : ℕ) → Open (added b s row) j →
    ((j ≡ b.count) × (s.is_write ≡ true) × (s.alive ≡ true) × (s.tag ≡ b.tag)) ⊎ ((j ≡ b.count → ⊥) × Open b j)
open_added b s row j o = elim (updated_read b.start b.count s j).1 [
  | inl w ↦ inl (w.0, rw w.1 at o.1, rw w.1 at o.2, rw w.1 at o.4)
  | inr w ↦
      inr (
        w.0,
        (
          grind (arith, o.0, w.0),
          rw w.1 at o.1,
          rw w.1 at o.2,
          rw (updated_other b.acknowledged b.count false j w.0) at o.3,
          rw w.1 at o.4,
        ),
      )
]

pub open_acks : (b : State) (i j : ℕ) → Open (record b { acknowledged = updated b.acknowledged i true }) j →
    (j ≡ i → ⊥) × Open b j
open_acks b i j o = elim (updated_read b.acknowledged i true j).1 [
  | inl w ↦ absurd (grind (arith, w.1, o.3))
  | inr w ↦ (w.0, (o.0, o.1, o.2, sym w.1 ∙ o.3, o.4))
]

pub open_fenced : (b : State) (j : ℕ) → Formed b → Open (after b Fenced) j → ⊥
open_fenced b j f o = grind (arith, (f j o.0).low, o.4)
