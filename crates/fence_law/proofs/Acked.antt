-- Kept: what a client knows to be done was performed; an acknowledged write is performed whole, on what isn't gone; a dead entry
-- has no part in the bytes.
-- A reply comes only from a drive that performed, and drives refuse a dead entry's tag.
use Rattle.std.proofs.Common.{◌≡◌, ℕ, ◌<◌, ◌≤◌, Bool, true, false, Option, Some, None, refl, sym, ap, ◌∙◌, inl, inr, arith}
use Rattle.std.proofs.lemmas.Bool.{and_right, eq-eqb, cases_eq, true≢false}
use Rattle.fence_law.specs.Words.{updated, In}
use Rattle.fence_law.specs.State.{State, Event, Grant, Write, WriteReply, Call, PartState, Start}
use Rattle.fence_law.specs.Starts.{written_start, read_start, repair_start, rebuilt_start, ended, performed}
use Rattle.fence_law.specs.Machine.{Allowed, after}
use Rattle.fence_law.specs.State.Call.{Idle, Writes, Reads, Broken}
use Rattle.fence_law.specs.State.PartState.{NotSent, Sent, Done}
use Rattle.fence_law.specs.State.Event.{Reports, Forgets, Fenced, Refenced, Sends, StartsWrite, StartsRead, Performs, Learns, Acknowledges, Breaks, Answers, EndsRead, Repairs, Repaired, Rebuilds, TakesRefusal}
use Rattle.fence_law.specs.Law.{IsCode}
use Rattle.fence_law.proofs.Words.{updated_other, updated_read, updated_same}
use Rattle.fence_law.proofs.Parts.{pf_row, pf_hit, pf_grows}
use Rattle.fence_law.proofs.Tags.{Tags}
use Rattle.fence_law.proofs.Holds.{Holds}
use Rattle.fence_law.proofs.Commands.{Calls}
use Rattle.fence_law.proofs.Formed.{added, old_low, Formed, Running}
use Rattle.fence_law.proofs.Open.{Dead, Known, Own, Unacked, Open, fresh_open, now_fresh}

-- what a client knows to be done was performed
abbrev pub Known_done : State → Type 0
Known_done b = record {
  nonce : (r : WriteReply) → In r b.replies → r.nonce ≤ b.nonce r.holder;
  told : (r : WriteReply) → In r b.replies → (j z : ℕ) → b.call r.holder ≡ Writes j →
      b.out r.holder r.at ((b.start j).part r.at z) ≡ Sent r.nonce → b.applied j r.at z ≡ true;
  done : (c j k z : ℕ) → b.call c ≡ Writes j → b.out c k ((b.start j).part k z) ≡ Done → b.applied j k z ≡ true;
}

kd_call : (b : State) (c : ℕ) (x : Call) → ((j : ℕ) → x ≡ Writes j → ⊥) → Known_done b →
    Known_done (record b { call = updated b.call c x })
kd_call b c x none h = record {
  nonce = h.nonce;
  told = λ r i j z run. h.told r i j z (grind (arith, updated_read b.call c x r.holder, none j, run));
  done = λ d j k z run. h.done d j k z (grind (arith, updated_read b.call c x d, none j, run));
}

kd_added : (b : State) (s : Start) (row : ℕ → ℕ → Bool) → Calls b → Known_done b → Known_done (added b s row)
kd_added b s row u h = record {
  nonce = h.nonce;
  told = λ r i j z run out. let ne : j ≡ b.count → ⊥ = grind (arith, (u.writes r.holder j run).below) in
      rw (updated_other b.applied b.count row j ne) (h.told r i j z run (rw (updated_other b.start b.count s j ne) at out));
  done = λ d j k z run out. let ne : j ≡ b.count → ⊥ = grind (arith, (u.writes d j run).below) in
      rw (updated_other b.applied b.count row j ne) (h.done d j k z run (rw (updated_other b.start b.count s j ne) at out));
}

kd_starts : (b : State) (s : Start) (c : ℕ) → Calls b → Known_done b →
    Known_done
    (record b {
      start = updated b.start b.count s;
      applied = updated b.applied b.count (λ k z. false);
      call = updated b.call c
          (Writes b.count);
      out = updated b.out c (λ k i2. NotSent);
    })
kd_starts b s c u h = record {
  nonce = h.nonce;
  told = λ r i j z run out. elim (updated_read b.out c (λ k i2. NotSent) r.holder).1 [
    | inl w ↦
        absurd (let e : NotSent ≡ Sent r.nonce = sym (ap (λ f. f r.at ((updated b.start b.count s j).part r.at z)) w.1)
        ∙ out in cc e)
    | inr w ↦ let run2 : b.call r.holder ≡ Writes j = sym (updated_other b.call c (Writes b.count) r.holder w.0) ∙ run in
        let ne : j ≡ b.count → ⊥ = grind (arith, (u.writes r.holder j run2).below) in
        rw (updated_other b.applied b.count (λ k z. false) j ne)
        (h.told r i j z run2 (rw (updated_other b.start b.count s j ne, w.1) at out))
  ];
  done = λ d j k z run out. elim (updated_read b.out c (λ k i2. NotSent) d).1 [
    | inl w ↦ absurd (let e : NotSent ≡ Done = sym (ap (λ f. f k ((updated b.start b.count s j).part k z)) w.1) ∙ out in cc e)
    | inr w ↦ let run2 : b.call d ≡ Writes j = sym (updated_other b.call c (Writes b.count) d w.0) ∙ run in
        let ne : j ≡ b.count → ⊥ = grind (arith, (u.writes d j run2).below) in
        rw (updated_other b.applied b.count (λ k z. false) j ne)
        (h.done d j k z run2 (rw (updated_other b.start b.count s j ne, w.1) at out))
  ];
}

kd_sends : (b : State) (c k : ℕ) (g : Grant) (j pi fresh : ℕ) → b.nonce c < fresh → Known_done b →
    Known_done (after b (Sends c k g j pi fresh))
kd_sends b c k g j pi fresh new h =
    let F : ℕ → ℕ → PartState = updated (b.out c) k (updated (b.out c k) pi (Sent fresh)) in record {
      nonce = λ r i. grind (arith, updated_read b.nonce c fresh r.holder, h.nonce r i, new);
      told =
          λ r i x z run out. h.told r i x z run
          (grind (
            arith,
            updated_read b.out c F r.holder,
            updated_read (b.out c) k (updated (b.out c k) pi (Sent fresh)) r.at,
            updated_read (b.out c k) pi (Sent fresh) ((b.start x).part r.at z),
            h.nonce r i,
            new,
            out,
          ));
      done =
          λ d x y z run out. h.done d x y z run
          (grind (
            arith,
            updated_read b.out c F d,
            updated_read (b.out c) k (updated (b.out c k) pi (Sent fresh)) y,
            updated_read (b.out c k) pi (Sent fresh) ((b.start x).part y z),
            out,
          ));
    }

kd_learns : (b : State) (c k j v pi : ℕ) → Allowed b (Learns c k j v pi) → Known_done b → Known_done (after b (Learns c k j v pi))
kd_learns b c k j v pi a h = record {
  nonce = h.nonce;
  told =
      λ r i x z run out. h.told r i x z run
      (grind (
        arith,
        updated_read b.out c (updated (b.out c) k (updated (b.out c k) pi Done)) r.holder,
        updated_read (b.out c) k (updated (b.out c k) pi Done) r.at,
        updated_read (b.out c k) pi Done ((b.start x).part r.at z),
        out,
      ));
  done = λ d x y z run out. grind (
    arith,
    updated_read b.out c (updated (b.out c) k (updated (b.out c k) pi Done)) d,
    updated_read (b.out c) k (updated (b.out c k) pi Done) y,
    updated_read (b.out c k) pi Done ((b.start x).part y z),
    h.done d x y z run,
    h.told (record { holder = c; nonce = v; at = k }) a.comes x z,
    a.sent,
    out,
    run,
  );
}

kd_hit : (b : State) (m : Write) → Allowed b (Performs m) → Own b → (j z : ℕ) → b.call m.holder ≡ Writes j →
    b.out m.holder m.at ((b.start j).part m.at z) ≡ Sent m.nonce → performed b m j m.at z ≡ true
kd_hit b m a own j z run out = let w = own m a.comes j ((b.start j).part m.at z) run out in
    pf_hit b m j m.at z (sym w.0) refl
    (eq-eqb ((b.start m.entry).part m.at z) m.part (ap (λ y. (b.start y).part m.at z) w.0 ∙ sym w.1))

kd_performs : (b : State) (m : Write) → Allowed b (Performs m) → Known b → Own b → Known_done b →
    Known_done (after b (Performs m))
kd_performs b m a n own h = record {
  nonce = λ r i. grind (arith, h.nonce r, (n m a.comes).nonce);
  told = λ r i j z run out. elim i [
    | inl e ↦ rw e (kd_hit b m a own j z (rw e at run) (rw e at out))
    | inr o ↦ pf_grows b m j r.at z (h.told r o j z run out)
  ];
  done = λ c j k z run out. pf_grows b m j k z (h.done c j k z run out);
}

pub keep_known_done : (b : State) (e : Event) → Allowed b e → Known b → Own b → Calls b → Known_done b → Known_done (after b e)
keep_known_done b (Reports c g) a n own u h = kd_call b c Idle (λ j e. cc) h
keep_known_done b (Forgets c) a n own u h = kd_call b c Idle (λ j e. cc) h
keep_known_done b (TakesRefusal c j0) a n own u h = kd_call b c Idle (λ j e. cc) h
keep_known_done b (StartsWrite c g i d touch hit seen e1 pt) a n own u h =
    kd_starts b (written_start b c g d touch hit seen e1 pt) c u h
keep_known_done b (StartsRead c g lo hi reach) a n own u h =
    kd_call (added b (read_start b c g lo hi reach) (λ k z. false)) c (Reads b.count) (λ j e. cc)
    (kd_added b (read_start b c g lo hi reach) (λ k z. false) u h)
keep_known_done b (Repairs k which e0) a n own u h =
    kd_added b (repair_start b k which e0) (λ f y. updated (λ w. false) k true f) u h
keep_known_done b (Rebuilds k cells) a n own u h = kd_added b (rebuilt_start b k cells) (λ f y. updated (λ w. false) k true f) u h
keep_known_done b (Sends c k g j pi fresh) a n own u h = kd_sends b c k g j pi fresh a.new h
keep_known_done b (Learns c k j v pi) a n own u h = kd_learns b c k j v pi a h
keep_known_done b (Acknowledges c j) a n own u h = kd_call b c Idle (λ j e. cc) h
keep_known_done b (Breaks c j) a n own u h = kd_call b c Broken (λ j e. cc) h
keep_known_done b (Answers c j f) a n own u h = kd_call b c Idle (λ j e. cc) h
keep_known_done b (EndsRead c j) a n own u h = kd_call b c Idle (λ j e. cc) h
keep_known_done b (Performs m) a n own u h = kd_performs b m a n own h
keep_known_done b e a n own u h = h

pub option_cases : {P : Type 0} (o : Option ℕ) → (o ≡ None → P) → ((u : ℕ) → o ≡ Some u → P) → P
option_cases None n s = n refl
option_cases (Some u) n s = s u refl

-- all parts of a write were performed
abbrev pub Full : State → ℕ → Type 0
Full b j = (k z v : ℕ) → (b.start j).content k z ≡ Some v → b.applied j k z ≡ true

-- all of them on components that aren't gone
abbrev pub FullHere : State → ℕ → Type 0
FullHere b j = (k z v : ℕ) → b.gone k ≡ false → (b.start j).content k z ≡ Some v → b.applied j k z ≡ true

pub acks_here : (b : State) (c j : ℕ) → Allowed b (Acknowledges c j) → Known_done b → FullHere b j
acks_here b c j a kd k z v l content =
    elim (a.all k z v content) [ inl d ↦ kd.done c j k z a.runs d | inr g ↦ absurd (true≢false (sym g.0 ∙ l)) ]

-- what is acknowledged after its time was performed whole
pub acks_full : (b : State) (c j : ℕ) → Allowed b (Acknowledges c j) → Known_done b → (b.start j).tag < b.tag → Full b j
acks_full b c j a kd old k z v content =
    elim (a.all k z v content) [ inl d ↦ kd.done c j k z a.runs d | inr g ↦ absurd (grind (arith, g.1, old)) ]

dead_added : (b : State) (s : Start) (row : ℕ → ℕ → Bool) → (s.alive ≡ false → (s.tag < b.tag) × ((k z : ℕ) → row k z ≡ false)) →
    Dead b → Dead (added b s row)
dead_added b s row new h j l dead = elim (updated_read b.start b.count s j).1 [
  | inl w ↦ let x = new (rw w.1 at dead) in (
    rw w.1 x.0,
    λ k z. rw (w.0, updated_same b.applied b.count row) (x.1 k z),
    λ p. inl (rw (w.0, updated_same b.chosen b.count (λ p. false)) refl),
  )
  | inr w ↦ let x = h j (grind (arith, w.0, l)) (rw w.1 at dead) in (
    rw w.1 x.0,
    λ k z. rw (updated_other b.applied b.count row j w.0) (x.1 k z),
    λ p. rw (w.1, updated_other b.chosen b.count (λ p. false) j w.0) (x.2 p),
  )
]

dead_performs : (b : State) (m : Write) → Allowed b (Performs m) → Open b m.entry → Dead b → Dead (after b (Performs m))
dead_performs b m a opened h j low dead = let x = h j low dead in (
  x.0,
  λ k z. ap (λ y. y k z) (pf_row b m j (λ e. true≢false (sym opened.2 ∙ ap (λ y. (b.start y).alive) (sym e) ∙ dead)))
      ∙ x.1 k z,
  x.2,
)

-- a dead write that is acknowledged had no data
dead_acks : (b : State) (c i : ℕ) → Allowed b (Acknowledges c i) → IsCode b.layout → Calls b → Running b → Formed b →
    Known_done b → Dead b → Dead (after b (Acknowledges c i))
dead_acks b c i a code r u f kd h j low dead = let x = h j low dead in (
  x.0,
  x.1,
  λ p. elim (cases_eq j i) [
    | inr ne ↦ rw (updated_other b.chosen i (λ p. true) j ne) (x.2 p)
    | inl e ↦ option_cases ((b.start j).data_at p) (λ n. inr n) (λ v is.
        let w : (b.start j).is_write ≡ true = ap (λ y. (b.start y).is_write) e ∙ (u.writes c i a.runs).0 in
        let c1 = (f j low).lands p v w is in
        absurd
        (true≢false
        (sym (acks_full b c i a kd (rw (← e) x.0) c1.0 c1.1 c1.2 (ap (λ y. (b.start y).content c1.0 c1.1) (sym e) ∙ c1.3))
        ∙ ap (λ y. b.applied y c1.0 c1.1) (sym e) ∙ x.1 c1.0 c1.1)))
  ],
)

not_ended : (b : State) (j : ℕ) → (b.start j).alive ≡ false → ended b j ≡ false
not_ended b j dead = rw dead (and_right (b.start j).is_write _ refl)

dead_mended : (b : State) (done : ℕ → Bool) (e0 : ℕ → ℕ) → Dead b → Dead (after b (Repaired done e0))
dead_mended b done e0 h j low dead = let x = h j low dead in (x.0, x.1, λ p. rw (not_ended b j dead) (x.2 p))

pub keep_dead : (b : State) (e : Event) → Allowed b e → IsCode b.layout → Tags b → Formed b → Holds b → Calls b → Running b →
    Known b → Unacked b → Known_done b → Dead b → Dead (after b e)
keep_dead b (StartsWrite c g i d touch hit seen e1 pt) a code t f o r run n u kd h =
    dead_added b (written_start b c g d touch hit seen e1 pt) (λ k z. false) (λ e. (old_low b g c a.has o e, λ k z. refl)) h
keep_dead b (StartsRead c g lo hi reach) a code t f o r run n u kd h =
    dead_added b (read_start b c g lo hi reach) (λ k z. false) (λ e. (old_low b g c a.has o e, λ k z. refl)) h
keep_dead b (Repairs k which e0) a code t f o r run n u kd h =
    dead_added b (repair_start b k which e0) (λ f y. updated (λ w. false) k true f) (λ e. absurd (true≢false e)) h
keep_dead b (Rebuilds k cells) a code t f o r run n u kd h =
    dead_added b (rebuilt_start b k cells) (λ f y. updated (λ w. false) k true f) (λ e. absurd (true≢false e)) h
keep_dead b (Performs m) a code t f o r run n u kd h =
    dead_performs b m a (fresh_open b m a.comes (now_fresh b m a t f n) n h u) h
keep_dead b (Acknowledges c i) a code t f o r run n u kd h = dead_acks b c i a code r run f kd h
keep_dead b (Repaired done e0) a code t f o r run n u kd h = dead_mended b done e0 h
keep_dead b Fenced a code t f o r run n u kd h = λ j l d. let x = h j l d in (grind (arith, x.0), x.1, x.2)
keep_dead b Refenced a code t f o r run n u kd h = λ j l d. let x = h j l d in (grind (arith, x.0), x.1, x.2)
keep_dead b e a code t f o r run n u kd h = h
