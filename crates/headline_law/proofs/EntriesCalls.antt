-- A client's pending call, line by line: its entry of the log, and what the machine is at.
-- Towards `CutsShowEntries` (`specs/Parts.antt`).
use Rattle.std.proofs.Common.{◌≡◌, ◌≤◌, ℕ, Bool, true, false, List, [], ◌∷◌, length, slice_get, Option, Some, None, sym, ap, subst, ◌∙◌, inl, inr}
use Rattle.std.proofs.lemmas.Bool.{cases_eq}
use Rattle.osd_objects.proofs.Entries.{lookup_inserted, lookup_beside}
use Rattle.osd_lists.proofs.Slices.{get_last, get_more}
use Rattle.file_log.specs.declared.entry.Entry.{Entry}
use Rattle.file_log.specs.declared.entry.Entry.TheVariants as entry
use Rattle.scenario_text.specs.declared.event.Call.{Call as ToldCall}
use Rattle.scenario_text.specs.declared.event.Call.TheVariants as call
use Rattle.client_rules.specs.Calls.{file_of}
use Rattle.world_history.specs.State.{at_number, and_number}
use Rattle.world_history.specs.Moves.{op_of}
use Rattle.world_history.specs.ReadLog.{Pending, Logged, Log, starts}
use Rattle.fence_law.specs.State as machine
use Rattle.fence_law.specs.State.{State}
use Rattle.fence_law.specs.State.Call.{Idle, Broken, Writes as AtWrite, Reads as AtRead}
use Rattle.file_simulation.specs.Showing.{Pairs, ArePaired}
use Rattle.file_simulation.specs.Tied.{IsSingle, HasEntry}

-- ---- the log

-- an entry is one of a call
abbrev pub IsOfCall : Entry → ToldCall → Type 0
IsOfCall (entry.Write offset bytes acknowledged) (call.Write f o b) = Unit {0}
IsOfCall (entry.Read offset count answer) (call.Read f o n) = offset ≡ o
IsOfCall e x = ⊥

-- An entry of the log is of this call's file and kind.
pub record IsEntryOf (es : List Logged) (x : ToldCall) (n : ℕ) : Type 0 where
  pub logged : Logged
  pub there : slice_get es n ≡ Some logged
  pub file : logged.file ≡ file_of (op_of x)
  pub kind : IsOfCall logged.entry x

-- so it is of the entry of each pending call
abbrev pub AreNamed : Log → Type 0
AreNamed l = (c n : ℕ) (p : Pending) → at_number l.pending c ≡ Some p → p.entry ≡ Some n → IsEntryOf l.entries p.call n

-- ---- the machine

-- no entry that is still to come was told
abbrev pub NoneToldAbove : State → Type 0
NoneToldAbove t = (j : ℕ) → t.count ≤ j → t.told_client j ≡ false

-- Between two lines of a move: the entries are paired.
pub record Stands (file : ℕ) (t : State) (l : Log) (pairs : Pairs) : Type 0 where
  pub paired : ArePaired t file l.entries pairs
  pub single : IsSingle pairs
  pub named : AreNamed l
  pub untold : NoneToldAbove t

-- what client c is at, and the entry of its pending call in the log: of a gather the log has none
abbrev pub CallAs : Pairs → (writes : Bool) → Option ℕ → machine.Call → Type 0
CallAs pairs writes o Idle = o ≡ None
CallAs pairs true o (AtRead j) = o ≡ None
CallAs pairs false o (AtRead j) = HasEntry pairs j o
CallAs pairs writes o (AtWrite j) = HasEntry pairs j o
CallAs pairs writes o Broken = ⊥

-- ---- an entry begins

-- the logged entry that begins
abbrev pub begun_entry : (c : ℕ) → (f g : ℕ) → Entry → Logged
begun_entry c f g e = record { client = c; file = f; grant = g; taken = false; entry = e }

pub starts_named : (l : Log) (c : ℕ) (p : Pending) (f g : ℕ) (e : Entry) → at_number l.pending c ≡ Some p →
    f ≡ file_of (op_of p.call) → IsOfCall e p.call → AreNamed l → AreNamed (starts l c p f g e)
starts_named l c p f g e has file kind named d n q there is = elim (cases_eq d c) [
  | inl same ↦ mine same
  | inr other ↦ older other
]
  where
    new : Pending
    new = record p { entry = Some (length l.entries) }

    mine : d ≡ c → IsEntryOf (starts l c p f g e).entries q.call n
    mine same =
        let found : Some new ≡ Some q =
        sym (lookup_inserted l.pending c new) ∙ sym (ap (at_number (and_number l.pending c new)) same) ∙ there in
        let it : new ≡ q = cc found in
        let at_ : length l.entries ≡ n = cc (ap (λ (z : Pending). z.entry) it ∙ is) in
        let x : ToldCall = p.call in
        let call : p.call ≡ q.call = ap (λ (z : Pending). z.call) it in
        subst (λ (z : ToldCall). IsEntryOf (starts l c p f g e).entries z n) call (record {
          logged = begun_entry c f g e;
          there = subst (λ (k : ℕ). slice_get (starts l c p f g e).entries k ≡ Some (begun_entry c f g e)) at_
              (get_last l.entries (begun_entry c f g e));
          file = file;
          kind = kind;
        })

    older : (d ≡ c → ⊥) → IsEntryOf (starts l c p f g e).entries q.call n
    older other =
        let k = named d n q (sym (lookup_beside l.pending c d new other) ∙ there) is in
        record {
          logged = k.logged;
          there = get_more l.entries (begun_entry c f g e ∷ []) n k.logged k.there;
          file = k.file;
          kind = k.kind;
        }
