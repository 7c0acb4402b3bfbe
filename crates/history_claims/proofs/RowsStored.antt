-- Worked rows of what an acknowledged write has stored: one byte in a stripe of a data unit and a parity unit, each of a byte.
use Rattle.std.proofs.Common.{◌≡◌, ◌⊎◌, ◌<◌, ◌/◌, ◌+◌, ℕ, zero, suc, true, List, [], ◌∷◌, length, Some, refl, sym, ap, subst, ◌∙◌, inl, inr, arith}
use Rattle.data_map.specs.declared.check.RawMap.{RawMap}
use Rattle.data_map.specs.Striping.{stripe_of, column_of}
use Rattle.client_rules.specs.Commands.{no_credential, credential_of, command, sealed, awaited_for}
use Rattle.client_rules.specs.Calls.{file_of}
use Rattle.client_rules.specs.Grants.{held_of, missing_from}
use Rattle.world_history.specs.ClientNames.{CallOp, Write, Held, Listed, Awaited, Reply, WriteOk}
use Rattle.server_rules.specs.Laws.{In}
use Rattle.cause_law.specs.Met as met
use Rattle.cause_law.specs.Met.{Met, Replied, rising_with, timed_in}
use Rattle.cause_law.specs.Read.{read_in}
use Rattle.cause_law.specs.ReadCalls.{LastStep}
use Rattle.history_claims.specs.Stored.{Keeps, IsKept, IsAlone, IsStored, FitsReplies, AreStored, HasStored}

-- RAID 4 of two components, with units of a byte
abbrev two : RawMap
two = record { comps = 2; unit = 1; width = 0; depth = 0; mirrors = 0; algorithm = 2 }

abbrev listed : (k : ℕ) → Listed
listed k = record {
  id = record { oid_device_id = []; oid_partition_id = 65536 + k; oid_object_id = 70000 + k };
  credential = Some (record no_credential { drive = k });
}

abbrev grant : Held
grant = record {
  file = 0;
  number = 1;
  reach = record { rw = true; extending = true; first = 0; end = 1 };
  size = 1;
  map = two;
  components = listed 0 ∷ listed 1 ∷ [];
  count = 2;
}

-- the WRITE of a byte to a component, and its reply
abbrev to_component : (k byte : ℕ) → Awaited
to_component k byte =
    awaited_for grant true (record {
      ask = record { stripe = 0; position = k; component = k; offset = 0; length = 1 };
      bytes = byte ∷ [];
    }) k

abbrev done : (k : ℕ) → Reply
done k = record { action = 2; verdict = 0; object = 70000 + k; nonce = k; detail = 0; payload = [] }

abbrev carried : (k : ℕ) → Met
carried k = Replied (to_component k 7) (done k)

-- the last step of a call that writes 7, and met this
abbrev after_all : List Met → LastStep
after_all ms = record { call = Some (Write 0 0 (7 ∷ [])); held = grant ∷ []; met = ms; outcome = Some (WriteOk 1) }

kept : (k : ℕ) → Keeps grant (to_component k 7) (done k) k 0 7
unfolding command sealed
kept k = record {
  performed = refl;
  nonce = refl;
  write = refl;
  drive = refl;
  capability = refl;
  partition = refl;
  object = refl;
  first = omega arith;
  end = omega arith;
  byte = refl;
}

abbrev Both : (k : ℕ) → Type 0
Both k = IsKept grant (carried 1 ∷ carried 0 ∷ []) k 0 7 × IsAlone (carried 1 ∷ carried 0 ∷ []) k 0 7

alone : (k : ℕ) → IsAlone (carried 1 ∷ carried 0 ∷ []) k 0 7
unfolding command sealed
alone k = (λ f. refl, (λ f. refl, tt))

-- so is byte l's parity in unit u
abbrev ParityAt : (l u : ℕ) → Type 0
ParityAt l u =
    (v : ℕ) × IsStored grant (carried 1 ∷ carried 0 ∷ []) (stripe_of two l) u (column_of two l) v
    × FitsReplies grant (Write 0 0 (7 ∷ [])) (carried 1 ∷ carried 0 ∷ []) (stripe_of two l) u (column_of two l) v

-- the byte and its parity were performed
pub stored : HasStored (after_all (carried 1 ∷ carried 0 ∷ []))
unfolding held_of missing_from timed_in read_in
stored = record {
  op = Write 0 0 (7 ∷ []);
  call = refl;
  write = refl;
  held = grant;
  under = inl refl;
  checked = record {
    some_unit = omega arith;
    short_unit = omega arith;
    some_components = omega arith;
    few_components = omega arith;
    whole_positions = refl;
    narrow = omega arith;
    whole_groups = refl;
    some_data = omega arith;
    no_depth = λ e. refl;
    some_depth = λ none. absurd (none refl);
    short_depth = omega arith;
    algorithm = (omega arith, omega arith);
  };
  stored = record {
    own = λ i l lt is k below at_ there.
        let first : i ≡ 0 = omega (arith, lt) in
        let here : l ≡ 0 = omega (arith, is, first) in
        rw (first, here) (own k below (rw here at at_));
    parity = λ i l u lt is high wide.
        let here : l ≡ 0 = omega (arith, lt, is) in
        let unit : u ≡ 1 = omega (arith, high, wide) in
        subst (λ (n : ℕ). ParityAt n u) (sym here) (subst (λ (n : ℕ). ParityAt 0 n) (sym unit) parity);
  };
  reported = inl refl;
}
  where
    own : (k : ℕ) → k < 2 → k / 1 ≡ 0 → Both k
    own zero lt e = (inr (inl (kept 0)), alone 0)
    own (suc zero) lt e = absurd (cc e)
    own (suc (suc k)) lt e = absurd (omega (arith, lt))

    second : (k : ℕ) → k < 2 → k / 1 ≡ 1 → Both k
    second zero lt e = absurd (cc e)
    second (suc zero) lt e = (inl (kept 1), alone 1)
    second (suc (suc k)) lt e = absurd (omega (arith, lt))

    parity : ParityAt 0 1
    parity = (7, λ k below at_ there. second k below at_, λ d bytes agrees. refl)

-- where nothing timed out the call's grant is that one
its_stored : (ms : List Met) → ((g : Held) (k : ℕ) → In (met.TimedOut g k) ms → ⊥) → HasStored (after_all ms) →
    AreStored grant (Write 0 0 (7 ∷ [])) ms
unfolding held_of
its_stored ms none h =
    let op_is : h.op ≡ Write 0 0 (7 ∷ []) = cc (sym h.call) in
    subst (λ (op : CallOp). AreStored grant op ms) op_is
    (subst (λ (g : Held). AreStored g h.op ms) (by op_is h.under) h.stored)
  where
    by : h.op ≡ Write 0 0 (7 ∷ []) → (held_of (grant ∷ []) (file_of h.op) ≡ Some h.held)
        ⊎ ((k : ℕ) × In (met.TimedOut h.held k) ms) → h.held ≡ grant
    by op_is (inl held) =
        let there : held_of (grant ∷ []) 0 ≡ Some h.held =
        ap (λ (op : CallOp). held_of (grant ∷ []) (file_of op)) (sym op_is) ∙ held in
        cc (sym there)
    by op_is (inr (k, i)) = absurd (none h.held k i)

-- without the reply to the WRITE of the parity the bytes aren't stored
pub parity_wants : HasStored (after_all (carried 0 ∷ [])) → ⊥
unfolding missing_from timed_in credential_of
parity_wants h =
    let s = its_stored (carried 0 ∷ []) none h in
    let p = s.parity 0 0 1 (omega arith) refl (omega arith) (omega arith) in
    elim (p.1 1 (omega arith) refl refl).0 [
      | inl k ↦ absurd (cc k.drive)
      | inr none ↦ none
    ]
  where
    none : (g : Held) (k : ℕ) → In (met.TimedOut g k) (carried 0 ∷ []) → ⊥
    none g k (inl same) = absurd (cc same)
    none g k (inr i) = i

-- nor are they where it carried another byte than the parity of what is written
abbrev wrong : Met
wrong = Replied (to_component 1 8) (done 1)

pub value_wants : HasStored (after_all (wrong ∷ carried 0 ∷ [])) → ⊥
unfolding missing_from timed_in read_in credential_of command sealed
value_wants h =
    let s = its_stored (wrong ∷ carried 0 ∷ []) none h in
    let p = s.parity 0 0 1 (omega arith) refl (omega arith) (omega arith) in
    let seven : p.0 ≡ 7 = p.2 (λ l. 0) (λ l. omega arith) (λ s b c lt g. absurd g) in
    elim (p.1 1 (omega arith) refl refl).0 [
      | inl k ↦ absurd (cc (sym k.byte ∙ seven))
      | inr (inl k) ↦ absurd (cc k.drive)
      | inr (inr none) ↦ none
    ]
  where
    none : (g : Held) (k : ℕ) → In (met.TimedOut g k) (wrong ∷ carried 0 ∷ []) → ⊥
    none g k (inl same) = absurd (cc same)
    none g k (inr (inl same)) = absurd (cc same)
    none g k (inr (inr i)) = i

-- nor are they where the byte was written over in the call
abbrev over_it : Met
over_it = Replied (to_component 0 9) (done 0)

pub alone_wants : HasStored (after_all (over_it ∷ carried 1 ∷ carried 0 ∷ [])) → ⊥
unfolding missing_from timed_in command sealed
alone_wants h =
    let s = its_stored (over_it ∷ carried 1 ∷ carried 0 ∷ []) none h in
    let p = s.own 0 0 (omega arith) refl 0 (omega arith) refl refl in
    absurd (cc (p.1.0 (record { component = refl; write = refl; first = omega arith; end = omega arith })))
  where
    none : (g : Held) (k : ℕ) → In (met.TimedOut g k) (over_it ∷ carried 1 ∷ carried 0 ∷ []) → ⊥
    none g k (inl same) = absurd (cc same)
    none g k (inr (inl same)) = absurd (cc same)
    none g k (inr (inr (inl same))) = absurd (cc same)
    none g k (inr (inr (inr i))) = i

-- nor has the write stored them where the parity timed out and nothing was reported
pub report_wants : HasStored (after_all (met.TimedOut grant 1 ∷ carried 0 ∷ [])) → ⊥
unfolding timed_in rising_with
report_wants h = elim h.reported [
  | inl none ↦ absurd (cc none)
  | inr taken ↦ taken
]
