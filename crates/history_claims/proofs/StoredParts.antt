-- What a write has stored so far, and what it still has to store: each store of its plan was performed, is awaited or is queued,
-- or its component timed out.
use Rattle.std.proofs.Common.{◌≡◌, ◌⊎◌, ◌==◌, ◌<◌, ◌≤◌, ℕ, ◌+◌, ◌-◌, true, false, List, [], ◌∷◌, ◌++◌, length, refl, sym, ap, subst, ◌∙◌, inl, inr, arith}
use Rattle.std.specs.Prelude.{slice_index}
use Rattle.std.proofs.lemmas.Bool.{cases_eq, eq-eqb, ne_eqb}
use Rattle.osd_lists.proofs.Tests.{first_false, second_false}
use Rattle.stripe_plan.specs.declared.plan.Ask.{Ask}
use Rattle.stripe_plan.specs.Lost.{among}
use Rattle.stripe_plan.specs.Plans.{stores}
use Rattle.osd_commands.specs.declared.actions.Action.TheVariants.{Write}
use Rattle.server_rules.specs.Laws.{In}
use Rattle.client_rules.specs.declared.limits.TheConstants.{PERFORMED}
use Rattle.client_rules.specs.Calls.{span_of, bytes_of, is_write}
use Rattle.client_rules.specs.Commands.{credential_of}
use Rattle.client_rules.specs.Grants.{missing_of}
use Rattle.client_rules.specs.Io.{outs}
use Rattle.client_rules.specs.Requests.{object_of}
use Rattle.world_history.specs.ClientNames.{CallOp, Held, Awaited, TimedOut, Store, Column, Request, Answer, Reply}
use Rattle.data_map.specs.Check.{IsChecked}
use Rattle.gather_law.specs.Ready.{IsSome}
use Rattle.plan_law.specs.Sending.{MayScatter}
use Rattle.stripe_plan.specs.Laws.{Agrees}
use Rattle.cause_law.specs.Met as met
use Rattle.cause_law.specs.Met.{Met, Answered, Replied, timed_in, out_in}
use Rattle.cause_law.specs.Read.{read_in}
use Rattle.cause_law.proofs.Trace.{comps}
use Rattle.history_claims.specs.Stored.{IsKept, IsAlone, AreStored}
use Rattle.history_claims.proofs.StoredPlan.{IsStoreOf, one_byte, own_stored, parity_stored, parity_fits}
use Rattle.stripe_plan.specs.Words.{word_at}
use Rattle.data_map.specs.Striping.{stripe_of, column_of}

-- ---- one grant

-- the same grant, with another count of commands or another size perhaps
abbrev pub IsAlike : Held → Held → Type 0
IsAlike g h = (n s : ℕ) × (g ≡ record h { count = n; size = s })

-- all timeouts were under it
abbrev pub AreAlike : Held → List Met → Type 0
AreAlike h [] = Unit {0}
AreAlike h (Answered r a ∷ ms) = AreAlike h ms
AreAlike h (Replied a r ∷ ms) = AreAlike h ms
AreAlike h (met.TimedOut g k ∷ ms) = IsAlike g h × AreAlike h ms

alike_again : (h : Held) (n s : ℕ) (ms : List Met) → AreAlike h ms → AreAlike (record h { count = n; size = s }) ms
alike_again h n s [] x = tt
alike_again h n s (Answered r a ∷ ms) x = alike_again h n s ms x
alike_again h n s (Replied a r ∷ ms) x = alike_again h n s ms x
alike_again h n s (met.TimedOut g k ∷ ms) x = (x.0, alike_again h n s ms x.1)

-- ---- stores

-- the WRITE carries the store to its component, under the grant
pub record Carries (h : Held) (w : Store) (a : Awaited) : Type 0 where
  pub ask : a.ask ≡ w.ask
  pub writes : a.write ≡ true
  pub write : a.command.action ≡ Write
  pub drive : a.drive ≡ (credential_of h w.ask.component).drive
  pub capability : a.command.capability ≡ (credential_of h w.ask.component).capability
  pub partition : a.command.partition ≡ (object_of h w.ask.component).oid_partition_id
  pub object : a.command.object ≡ (object_of h w.ask.component).oid_object_id
  pub offset : a.command.offset ≡ w.ask.offset
  pub payload : a.command.payload ≡ w.bytes

pub carries_again : (h : Held) (n s : ℕ) (w : Store) (a : Awaited) → Carries h w a →
    Carries (record h { count = n; size = s }) w a
unfolding credential_of object_of
carries_again h n s w a x = record {
  ask = x.ask;
  writes = x.writes;
  write = x.write;
  drive = x.drive;
  capability = x.capability;
  partition = x.partition;
  object = x.object;
  offset = x.offset;
  payload = x.payload;
}

-- the reply to such a WRITE, by its nonce, says that it was performed
abbrev pub IsDone : Held → List Met → Store → Type 0
IsDone h [] w = ⊥
IsDone h (Answered r a ∷ ms) w = IsDone h ms w
IsDone h (Replied a r ∷ ms) w =
    (Carries h w a × (r.verdict ≡ PERFORMED) × (r.nonce ≡ a.command.nonce)) ⊎ IsDone h ms w
IsDone h (met.TimedOut g k ∷ ms) w = IsDone h ms w

done_again : (h : Held) (n s : ℕ) (ms : List Met) (w : Store) → IsDone h ms w →
    IsDone (record h { count = n; size = s }) ms w
done_again h n s [] w x = x
done_again h n s (Answered r a ∷ ms) w x = done_again h n s ms w x
done_again h n s (Replied a r ∷ ms) w (inl x) = inl (carries_again h n s w a x.0, x.1, x.2)
done_again h n s (Replied a r ∷ ms) w (inr x) = inr (done_again h n s ms w x)
done_again h n s (met.TimedOut g k ∷ ms) w x = done_again h n s ms w x

-- a WRITE is for a store of a plan
abbrev pub IsPlanned : Held → List Store → Awaited → Type 0
IsPlanned h plan a = (w : Store) × In w plan × Carries h w a

-- all WRITEs are to which replies were taken
abbrev pub ArePlanned : Held → List Store → List Met → Type 0
ArePlanned h plan [] = Unit {0}
ArePlanned h plan (Answered r a ∷ ms) = ArePlanned h plan ms
ArePlanned h plan (Replied a r ∷ ms) = (a.command.action ≡ Write → IsPlanned h plan a) × ArePlanned h plan ms
ArePlanned h plan (met.TimedOut g k ∷ ms) = ArePlanned h plan ms

planned_again : (h : Held) (n s : ℕ) (plan : List Store) (ms : List Met) → ArePlanned h plan ms →
    ArePlanned (record h { count = n; size = s }) plan ms
planned_again h n s plan [] x = tt
planned_again h n s plan (Answered r a ∷ ms) x = planned_again h n s plan ms x
planned_again h n s plan (Replied a r ∷ ms) x = (
  λ e. let p = x.0 e in (p.0, p.1, carries_again h n s p.0 a p.2),
  planned_again h n s plan ms x.1,
)
planned_again h n s plan (met.TimedOut g k ∷ ms) x = planned_again h n s plan ms x

-- no reply to a WRITE was taken
abbrev pub NoneWritten : List Met → Type 0
NoneWritten [] = Unit {0}
NoneWritten (Answered r a ∷ ms) = NoneWritten ms
NoneWritten (Replied a r ∷ ms) = (a.command.action ≡ Write → ⊥) × NoneWritten ms
NoneWritten (met.TimedOut g k ∷ ms) = NoneWritten ms

pub none_planned : (h : Held) (plan : List Store) (ms : List Met) → NoneWritten ms → ArePlanned h plan ms
none_planned h plan [] x = tt
none_planned h plan (Answered r a ∷ ms) x = none_planned h plan ms x
none_planned h plan (Replied a r ∷ ms) x = (λ e. absurd (x.0 e), none_planned h plan ms x.1)
none_planned h plan (met.TimedOut g k ∷ ms) x = none_planned h plan ms x

-- such a WRITE is awaited
abbrev pub IsAwaited : Held → List Awaited → Store → Type 0
IsAwaited h awaited w = (a : Awaited) × In a awaited × Carries h w a

abbrev pub Stands : Held → List Met → List TimedOut → List Awaited → List Store → Store → Type 0
Stands h ms timed awaited queue w =
    IsDone h ms w ⊎ In w.ask.component (comps timed) ⊎ IsAwaited h awaited w ⊎ In w queue

-- a write works under the grant, and these components timed out
pub record Under (op : CallOp) (h : Held) (ms : List Met) (timed : List TimedOut) : Type 0 where
  pub write : is_write op ≡ true
  pub alike : AreAlike h ms
  pub silent : timed_in ms ≡ comps timed

-- it gathers, and has got what drives told
pub record Gathering (op : CallOp) (h : Held) (ms : List Met) (got : List Column) (timed : List TimedOut) : Type 0 where
  pub under : Under op h ms timed
  pub read : got ≡ read_in ms
  pub none : NoneWritten ms

-- it scatters, by what was got and had timed out when its scatter began
pub record Scattering (op : CallOp) (h : Held) (ms : List Met) (timed : List TimedOut) (awaited : List Awaited)
    (queue : List Store) : Type 0
  where
    pub under : Under op h ms timed
    pub got : List Column
    pub first : List TimedOut
    pub still : (k : ℕ) → In k (comps first) → In k (comps timed)
    pub read : got ≡ read_in ms
    pub may : MayScatter h.map (span_of op) (bytes_of op) got (outs h first)
    pub sent : (a : Awaited) → In a awaited →
        IsPlanned h (stores h.map (span_of op) (bytes_of op) got (outs h first)) a
    pub left : (w : Store) → In w queue → In w (stores h.map (span_of op) (bytes_of op) got (outs h first))
    pub alone : ArePlanned h (stores h.map (span_of op) (bytes_of op) got (outs h first)) ms
    pub each : (w : Store) → In w (stores h.map (span_of op) (bytes_of op) got (outs h first)) →
        Stands h ms timed awaited queue w

-- and has performed it
abbrev pub Scattered : CallOp → Held → List Met → List TimedOut → Type 0
Scattered op h ms timed = Scattering op h ms timed [] []

-- ---- the grant goes on

under_again : (op : CallOp) (h : Held) (n s : ℕ) (ms : List Met) (timed : List TimedOut) → Under op h ms timed →
    Under op (record h { count = n; size = s }) ms timed
under_again op h n s ms timed x =
    record { write = x.write; alike = alike_again h n s ms x.alike; silent = x.silent }

pub gathering_again : (op : CallOp) (h : Held) (n s : ℕ) (ms : List Met) (got : List Column) (timed : List TimedOut) →
    Gathering op h ms got timed → Gathering op (record h { count = n; size = s }) ms got timed
gathering_again op h n s ms got timed x = record { under = under_again op h n s ms timed x.under; read = x.read; none = x.none }

stands_again : (h : Held) (n s : ℕ) (ms : List Met) (timed : List TimedOut) (awaited : List Awaited) (queue : List Store)
    (w : Store) → Stands h ms timed awaited queue w → Stands (record h { count = n; size = s }) ms timed awaited queue w
stands_again h n s ms timed awaited queue w (inl done) = inl (done_again h n s ms w done)
stands_again h n s ms timed awaited queue w (inr (inl out)) = inr (inl out)
stands_again h n s ms timed awaited queue w (inr (inr (inl (a, i, c)))) =
    inr (inr (inl (a, i, carries_again h n s w a c)))
stands_again h n s ms timed awaited queue w (inr (inr (inr i))) = inr (inr (inr i))

pub scattering_again : (op : CallOp) (h : Held) (n s : ℕ) (ms : List Met) (timed : List TimedOut) (awaited : List Awaited)
    (queue : List Store) → Scattering op h ms timed awaited queue →
    Scattering op (record h { count = n; size = s }) ms timed awaited queue
unfolding outs
scattering_again op h n s ms timed awaited queue x = record {
  under = under_again op h n s ms timed x.under;
  got = x.got;
  first = x.first;
  still = x.still;
  read = x.read;
  may = x.may;
  sent = λ a i. let p = x.sent a i in (p.0, p.1, carries_again h n s p.0 a p.2);
  left = x.left;
  alone = planned_again h n s (stores h.map (span_of op) (bytes_of op) x.got (outs h x.first)) ms x.alone;
  each = λ w i. stands_again h n s ms timed awaited queue w (x.each w i);
}

-- ---- more is met

-- what was done is done, no component timed out, and nothing was read
pub record IsMore (ms later : List Met) : Type 0 where
  pub done : (h : Held) (w : Store) → IsDone h ms w → IsDone h later w
  pub alike : (h : Held) → AreAlike h ms → AreAlike h later
  pub silent : timed_in later ≡ timed_in ms
  pub read : read_in later ≡ read_in ms
  pub none : NoneWritten ms → NoneWritten later
  pub planned : (h : Held) (plan : List Store) → ArePlanned h plan ms → ArePlanned h plan later

pub more_none : (ms : List Met) → IsMore ms ms
more_none ms = record { done = λ h w x. x; alike = λ h x. x; silent = refl; read = refl; none = λ x. x; planned = λ h p x. x }

pub more_answered : (r : Request) (a : Answer) (ms : List Met) → IsMore ms (Answered r a ∷ ms)
unfolding timed_in read_in
more_answered r a ms = record {
  done = λ h w x. x;
  alike = λ h x. x;
  silent = refl;
  read = refl;
  none = λ x. x;
  planned = λ h p x. x;
}

pub under_replied : (op : CallOp) (h : Held) (ms : List Met) (timed : List TimedOut) (a : Awaited) (r : Reply) →
    Under op h ms timed → Under op h (Replied a r ∷ ms) timed
unfolding timed_in
under_replied op h ms timed a r x = record { write = x.write; alike = x.alike; silent = x.silent }

under_more : (op : CallOp) (h : Held) (ms later : List Met) (timed : List TimedOut) → IsMore ms later →
    Under op h ms timed → Under op h later timed
under_more op h ms later timed m x =
    record { write = x.write; alike = m.alike h x.alike; silent = m.silent ∙ x.silent }

pub gathering_more : (op : CallOp) (h : Held) (ms later : List Met) (got : List Column) (timed : List TimedOut) →
    IsMore ms later → Gathering op h ms got timed → Gathering op h later got timed
gathering_more op h ms later got timed m x =
    record { under = under_more op h ms later timed m x.under; read = x.read ∙ sym m.read; none = m.none x.none }

stands_more : (h : Held) (ms later : List Met) (timed : List TimedOut) (awaited : List Awaited) (queue : List Store)
    (w : Store) → ((y : Store) → IsDone h ms y → IsDone h later y) → Stands h ms timed awaited queue w →
    Stands h later timed awaited queue w
stands_more h ms later timed awaited queue w m (inl done) = inl (m w done)
stands_more h ms later timed awaited queue w m (inr x) = inr x

pub scattering_more : (op : CallOp) (h : Held) (ms later : List Met) (timed : List TimedOut) (awaited : List Awaited)
    (queue : List Store) → IsMore ms later → Scattering op h ms timed awaited queue →
    Scattering op h later timed awaited queue
scattering_more op h ms later timed awaited queue m x = record {
  under = under_more op h ms later timed m x.under;
  got = x.got;
  first = x.first;
  still = x.still;
  read = x.read ∙ sym m.read;
  may = x.may;
  sent = x.sent;
  left = x.left;
  alone = m.planned h (stores h.map (span_of op) (bytes_of op) x.got (outs h x.first)) x.alone;
  each = λ w i. stands_more h ms later timed awaited queue w (m.done h) (x.each w i);
}

-- ---- components that are out

pub not_in : (k : ℕ) (xs : List ℕ) → among k xs ≡ false → In k xs → ⊥
not_in k [] e i = i
not_in k (x ∷ xs) e (inl same) = cc (sym (first_false (x == k) _ e) ∙ eq-eqb x k (sym same))
not_in k (x ∷ xs) e (inr i) = not_in k xs (second_false (x == k) _ e) i

pub none_in : (k : ℕ) (xs : List ℕ) → (In k xs → ⊥) → among k xs ≡ false
none_in k [] no_ = refl
none_in k (x ∷ xs) no_ = elim (cases_eq x k) [
  | inl same ↦ absurd (no_ (inl (sym same)))
  | inr other ↦ rw (ne_eqb x k other) (none_in k xs (λ i. no_ (inr i)))
]

out_parts : (k : ℕ) (xs ys : List ℕ) → among k (xs ++ ys) ≡ false → (among k xs ≡ false) × (among k ys ≡ false)
out_parts k [] ys e = (refl, e)
out_parts k (x ∷ xs) ys e =
    let rest = out_parts k xs ys (second_false (x == k) _ e) in (rw (first_false (x == k) _ e) rest.0, rest.1)

both_out : (k : ℕ) (xs ys : List ℕ) → among k xs ≡ false → among k ys ≡ false → among k (xs ++ ys) ≡ false
both_out k [] ys e f = f
both_out k (x ∷ xs) ys e f =
    rw (first_false (x == k) _ e) (both_out k xs ys (second_false (x == k) _ e) f)

-- ---- what was performed is kept

done_kept : (h : Held) (ms : List Met) (w : Store) (k z v : ℕ) → w.ask.component ≡ k → w.ask.offset ≤ z →
    z < w.ask.offset + length w.bytes → v ≡ slice_index w.bytes (z - w.ask.offset) → IsDone h ms w → IsKept h ms k z v
done_kept h [] w k z v is from to byte x = x
done_kept h (Answered r a ∷ ms) w k z v is from to byte x = done_kept h ms w k z v is from to byte x
done_kept h (Replied a r ∷ ms) w k z v is from to byte (inl (c, performed, nonce)) = inl (record {
  performed = performed;
  nonce = nonce;
  write = c.write;
  drive = rw is at c.drive;
  capability = rw is at c.capability;
  partition = rw is at c.partition;
  object = rw is at c.object;
  first = rw c.offset from;
  end = rw (c.offset, c.payload) to;
  byte = rw (c.offset, c.payload) byte;
})
done_kept h (Replied a r ∷ ms) w k z v is from to byte (inr x) = inr (done_kept h ms w k z v is from to byte x)
done_kept h (met.TimedOut g j ∷ ms) w k z v is from to byte x = done_kept h ms w k z v is from to byte x

module _ (op : CallOp) (h : Held) (ms : List Met) (timed : List TimedOut) (ch : IsChecked h.map) (has : IsSome op)
    (x : Scattered op h ms timed) where
  -- what isn't out now wasn't when the scatter began
  there_before : (k : ℕ) → among k (out_in h ms) ≡ false → among k (outs h x.first) ≡ false
  unfolding outs
  there_before k there =
      let parts = out_parts k (missing_of h) (timed_in ms) there in
      both_out k (missing_of h) (comps x.first) parts.0
      (none_in k (comps x.first) (λ i.
      not_in k (timed_in ms) parts.1 (subst (In k) (sym x.under.silent) (x.still k i))))

  is_kept : (k z v : ℕ) → among k (out_in h ms) ≡ false →
      IsStoreOf h.map (span_of op) (bytes_of op) x.got (outs h x.first) k z v → IsKept h ms k z v
  is_kept k z v there s = by (x.each s.store s.there)
    where
      by : Stands h ms timed [] [] s.store → IsKept h ms k z v
      by (inl done) = done_kept h ms s.store k z v s.component s.from s.to s.byte done
      by (inr (inl out)) =
          let parts = out_parts k (missing_of h) (timed_in ms) there in
          absurd (not_in k (timed_in ms) parts.1
          (subst (In k) (sym x.under.silent) (subst (λ (j : ℕ). In j (comps timed)) s.component out)))
      by (inr (inr (inl (a, i, c)))) = absurd i
      by (inr (inr (inr i))) = absurd i

  is_alone : (k z v : ℕ) → IsStoreOf h.map (span_of op) (bytes_of op) x.got (outs h x.first) k z v → IsAlone ms k z v
  is_alone k z v s = by ms x.alone
    where
      by : (ns : List Met) → ArePlanned h (stores h.map (span_of op) (bytes_of op) x.got (outs h x.first)) ns →
          IsAlone ns k z v
      by [] y = tt
      by (Answered r a ∷ ns) y = by ns y
      by (Replied a r ∷ ns) y = (
        λ f.
            let p = y.0 f.write in
            let is : p.0.ask.component ≡ k = sym (ap (λ (b : Ask). b.component) p.2.ask) ∙ f.component in
            rw (p.2.payload, p.2.offset) (one_byte h.map (span_of op) (bytes_of op) x.got (outs h x.first) ch has.some k z v s
            p.0 p.1 is (rw p.2.offset at f.first) (rw (p.2.offset, p.2.payload) at f.end)),
        by ns y.1,
      )
      by (met.TimedOut g j ∷ ns) y = by ns y

  kept_alone : (k z v : ℕ) → among k (out_in h ms) ≡ false →
      IsStoreOf h.map (span_of op) (bytes_of op) x.got (outs h x.first) k z v → IsKept h ms k z v × IsAlone ms k z v
  kept_alone k z v there s = (is_kept k z v there s, is_alone k z v s)

  -- So the bytes of a write that has scattered are stored.
  pub are_stored : AreStored h op ms
  are_stored = record {
    own = λ i l lt is k below at_ there.
        let z : l - (span_of op).offset ≡ i = omega (arith, is) in
        kept_alone k _ _ there
        (rw z at (own_stored h.map (span_of op) (bytes_of op) x.got (outs h x.first) ch has.some l (omega (arith, is))
        (omega (arith, is, lt, has.long)) k at_ (there_before k there)));
    parity = λ i l u lt is high wide. (
      word_at h.map (span_of op) (bytes_of op) x.got (outs h x.first) (stripe_of h.map l) (column_of h.map l) u,
      λ k below at_ there.
          kept_alone k _ _ there
          (parity_stored h.map (span_of op) (bytes_of op) x.got (outs h x.first) ch has.some l (omega (arith, is))
          (omega (arith, is, lt, has.long)) u high wide k at_ (there_before k there)),
      λ d bytes agrees.
          parity_fits h.map (span_of op) (bytes_of op) x.got (outs h x.first) ch has.some l (omega (arith, is))
          (omega (arith, is, lt, has.long)) u high wide x.may.can x.may.fetched d bytes
          (subst (λ (cs : List Column). Agrees h.map cs d) (sym x.read) agrees),
    );
  }
