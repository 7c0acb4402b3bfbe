-- The lines of a client's messages: which of them begins an entry of the log, and of the machine.
-- Towards `CutsShowEntries` (`specs/Parts.antt`).
use Rattle.std.proofs.Common.{◌≡◌, ◌⊎◌, ℕ, ◌+◌, ◌<◌, Bool, true, false, not, List, [], ◌∷◌, ◌++◌, length, Option, Some, None, Ok, refl, sym, ap, subst, ◌∙◌, inl, inr, arith, if◌then◌else◌}
use Rattle.std.proofs.lemmas.Bool.{true≢false}
use Rattle.osd_objects.proofs.Entries.{lookup_inserted}
use Rattle.osd_commands.specs.declared.actions.Action.{Action}
use Rattle.osd_commands.specs.declared.actions.Action.TheVariants as action
use Rattle.osd_commands.specs.declared.commands.Command.{Command}
use Rattle.osd_commands.specs.Commands as commands
use Rattle.osd_drive.specs.Table.{is_write as is_write_action}
use Rattle.file_log.specs.declared.entry.Entry.{Entry}
use Rattle.file_log.specs.declared.entry.Entry.TheVariants as entry
use Rattle.scenario_text.specs.declared.event.Call.{Call as ToldCall}
use Rattle.scenario_text.specs.declared.event.Call.TheVariants as told
use Rattle.client_rules.specs.Calls.{file_of, is_write}
use Rattle.world_history.specs.ClientNames as client_rules
use Rattle.world_history.specs.ClientNames.{Call, CallOp, Held}
use Rattle.world_history.specs.State.{at_number}
use Rattle.world_history.specs.Moves.{op_of}
use Rattle.world_history.specs.ReadLog.{Pending, Log, starts, begins_beside, sends_write, sends_read, sends_command}
use Rattle.fence_law.specs.Log.{SameAnswer}
use Rattle.fence_law.specs.Machine.{after, after_all}
use Rattle.fence_law.specs.State as machine
use Rattle.fence_law.specs.State.{State, Grant, Event, Start}
use Rattle.fence_law.specs.State.{Event as event}
use Rattle.fence_law.specs.State.Call.{Idle, Broken, Writes as AtWrite, Reads as AtRead}
use Rattle.fence_law.proofs.Words.{updated_same, updated_other}
use Rattle.file_simulation.specs.ClientEvents as table
use Rattle.file_simulation.specs.EventLists.{entry_of, is_idle, is_writing, where_so}
use Rattle.file_simulation.specs.Showing.{Pairs, IsPair, IsSame}
use Rattle.relation_law.specs.Frames.{AreAll}
use Rattle.file_simulation.specs.Tied.{HasEntry}
use Rattle.headline_law.proofs.EntriesPairs.{StaysAt, same_at, stay_same, IsSilent, silent_stay, paired_stays, one_more, single_more, pair_old, pair_new}
use Rattle.headline_law.proofs.EntriesCalls.{NoneToldAbove, Stands, CallAs, IsOfCall, begun_entry, starts_named}

-- these pairs have all of those
abbrev pub More : (old new : Pairs) → Type 0
More old new = (i j : ℕ) → IsPair old i j → IsPair new i j

-- ---- the machine goes on alone

untold_one : (s : State) (e : Event) → IsSilent e → NoneToldAbove s → NoneToldAbove (after s e)
untold_one s (event.StartsRead c g lo hi reach) k h = λ j l. h j (omega (arith, l))
untold_one s (event.Repairs n cells e) k h = λ j l. h j (omega (arith, l))
untold_one s (event.Rebuilds n cells) k h = λ j l. h j (omega (arith, l))
untold_one s (event.StartsWrite c g i bytes touch hit seen past part) k h = absurd k
untold_one s (event.Acknowledges c j) k h = absurd k
untold_one s (event.Answers c j bytes) k h = absurd k
untold_one s (event.Tells j) k h = absurd k
untold_one s e k h = h

untold_stays : (s : State) (es : List Event) → AreAll IsSilent es → NoneToldAbove s → NoneToldAbove (after_all s es)
untold_stays s [] a h = h
untold_stays s (e ∷ es) a h = untold_stays (after s e) es a.1 (untold_one s e a.0 h)

pub stands_on : (file : ℕ) (t : State) (l : Log) (pairs : Pairs) (es : List Event) → AreAll IsSilent es → Stands file t l pairs →
    Stands file (after_all t es) l pairs
stands_on file t l pairs es a k = record {
  paired = paired_stays t (after_all t es) file l.entries pairs (silent_stay t es a) k.paired;
  single = k.single;
  named = k.named;
  untold = untold_stays t es a k.untold;
}

-- which messages are of which entry doesn't matter
pub other_writes : (file : ℕ) (t : State) (l : Log) (pairs : Pairs) (ws : List (ℕ × ℕ)) → Stands file t l pairs →
    Stands file t (record l { writes = ws }) pairs
other_writes file t l pairs ws k = record {
  paired = k.paired;
  single = k.single;
  named = k.named;
  untold = k.untold;
}

-- ---- an entry begins in both

module _ (file : ℕ) (t : State) (l : Log) (pairs : Pairs) (k : Stands file t l pairs) (c : ℕ) (p : Pending)
    (has : at_number l.pending c ≡ Some p) (f g : ℕ) (e : Entry) (is_file : f ≡ file_of (op_of p.call))
    (kind : IsOfCall e p.call) where
  abbrev new_pairs : Pairs
  new_pairs = pairs ++ (length l.entries, t.count) ∷ []

  -- the machine's new entry says what the log's does
  begins_both : (u : State) → u.count ≡ t.count + 1 → ((j : ℕ) → j < t.count → StaysAt t u j) →
      ((j : ℕ) → u.told_client j ≡ t.told_client j) → IsSame u file t.count (begun_entry c f g e) →
      Stands file u (starts l c p f g e) new_pairs
  begins_both u count stays told_ same = record {
    paired = one_more t t file l.entries pairs k.paired (begun_entry c f g e) (stay_same t) u (omega (arith, count)) t.count
        count (omega arith) (λ j x low z. same_at t u file j x (omega (arith, count)) (stays j low) z)
        (λ j low z. record {
          write = ap (λ (a : Start). a.is_write) (stays j low).start ∙ z.write;
          answer = (stays j low).answer ∙ z.answer;
        }) same refl;
    single = single_more t t file l.entries pairs k.paired t.count k.single;
    named = starts_named l c p f g e has is_file kind k.named;
    untold = λ j low. told_ j ∙ k.untold j (omega (arith, low, count));
  }

-- ---- a command

-- what a command of a call is: a READ, or a WRITE of a write, under the machine's grant; and its bytes are read as it is
pub record CommandIs (g : Grant) (writes : Bool) (x : Command) : Type 0 where
  pub kind : (x.action ≡ action.Read) ⊎ ((x.action ≡ action.Write) × (writes ≡ true))
  pub grant : x.capability.grant ≡ g.number
  pub read : commands.reading (commands.spelling x) ≡ Ok x

-- the events of a command under the machine's grant
abbrev pub under_grant : (c : ℕ) → State → Held → Grant → (component : Option ℕ) → Command → CallOp → Action → List Event
under_grant c t h g component cmd op a =
    if is_write_action a then table.sends_write t c h op component cmd g else table.sends_read t c h op g

-- behind the line of a command
pub record CommandGoes (file c : ℕ) (t u : State) (m : Log) (old : Pairs) (x : ToldCall) : Type 0 where
  pub pairs : Pairs
  pub more : More old pairs
  pub stands : Stands file u m pairs
  pub entry_now : Option ℕ
  pub has : at_number m.pending c ≡ Some (record { call = x; entry = entry_now })
  pub as_ : CallAs pairs (is_write (op_of x)) entry_now (u.call c)
  pub held : u.held c ≡ t.held c

module _ (file c : ℕ) (t : State) (l : Log) (pairs : Pairs) (k : Stands file t l pairs) (h : Held) (g : Grant) (number : ℕ)
    (component : Option ℕ) (cmd : Command) where
  -- a part goes out
  on_silent : (z : State) (o : Option ℕ) → AreAll IsSilent (table.sends_on z c o cmd g)
  on_silent z None = tt
  on_silent z (Some n) = (tt, tt)

  on_call : (z : State) (o : Option ℕ) → (after_all z (table.sends_on z c o cmd g)).call ≡ z.call
  on_call z None = refl
  on_call z (Some n) = refl

  on_held : (z : State) (o : Option ℕ) → (after_all z (table.sends_on z c o cmd g)).held ≡ z.held
  on_held z None = refl
  on_held z (Some n) = refl

  -- the client is at the write that has an entry already
  stays_writing : (x : ToldCall) (m j : ℕ) → at_number l.pending c ≡ Some (record { call = x; entry = Some m }) →
      t.call c ≡ AtWrite j → HasEntry pairs j (Some m) → (ws : List (ℕ × ℕ)) →
      CommandGoes file c t (after_all t (table.sends_on t c component cmd g)) (record l { writes = ws }) pairs x
  stays_writing x m j has at_ entry_ ws = record {
    pairs = pairs;
    more = λ a b n. n;
    stands = other_writes file _ l pairs ws
        (stands_on file t l pairs (table.sends_on t c component cmd g) (on_silent t component) k);
    entry_now = Some m;
    has = has;
    as_ = subst (CallAs pairs (is_write (op_of x)) (Some m))
        (sym (ap (λ (f : ℕ → machine.Call). f c) (on_call t component) ∙ at_)) entry_;
    held = ap (λ (f : ℕ → Option Grant). f c) (on_held t component);
  }

  -- a write begins, at this machine
  module _ (f offset : ℕ) (bytes : List ℕ) (here : f ≡ file) (grant : cmd.capability.grant ≡ g.number)
      (has : at_number l.pending c ≡ Some (record { call = told.Write f offset bytes; entry = None })) where
    abbrev op : CallOp
    op = client_rules.Write f offset bytes

    abbrev write_log : Log
    write_log =
        starts l c (record { call = told.Write f offset bytes; entry = None }) f cmd.capability.grant
        (entry.Write offset bytes false)

    write_begins : (z : State) → Stands file z l pairs → z.held c ≡ t.held c → (i : ℕ) → (ws : List (ℕ × ℕ)) →
        CommandGoes file c t
        (after_all (after_all z (table.starts_write z c i h op g))
        (table.sends_on (after_all z (table.starts_write z c i h op g)) c component cmd g))
        (record write_log { writes = ws }) pairs (told.Write f offset bytes)
    write_begins z kz held i ws =
        let u : State = after_all z (table.starts_write z c i h op g) in
        let new : Pairs = pairs ++ (length l.entries, z.count) ∷ [] in
        let below : (j : ℕ) → j < z.count → j ≡ z.count → ⊥ = λ j l e. absurd (omega (arith, l, e)) in
        let begun : Stands file (after_all z (table.starts_write z c i h (client_rules.Write f offset bytes) g)) write_log new =
        begins_both file z l pairs kz c (record { call = told.Write f offset bytes; entry = None }) has f
        cmd.capability.grant (entry.Write offset bytes false) refl tt
        (after_all z (table.starts_write z c i h (client_rules.Write f offset bytes) g)) refl
        (λ j low. record {
          start = updated_other z.start z.count _ j (below j low);
          told = refl;
          answer = updated_other z.answer z.count None j (below j low);
          acknowledged = updated_other z.acknowledged z.count false j (below j low);
        }) (λ j. refl) (new_write z kz i) in
        record {
          pairs = new;
          more = λ a b n. pair_old pairs (length l.entries) z.count a b n;
          stands =
              other_writes file _ write_log new ws
              (stands_on file u write_log new (table.sends_on u c component cmd g) (on_silent u component) begun);
          entry_now = Some (length l.entries);
          has = lookup_inserted l.pending c _;
          as_ = subst (CallAs new true (Some (length l.entries)))
              (sym (ap (λ (f : ℕ → machine.Call). f c) (on_call u component) ∙ updated_same z.call c (AtWrite z.count)))
              (length l.entries, refl, pair_new pairs (length l.entries) z.count);
          held = ap (λ (f : ℕ → Option Grant). f c) (on_held u component) ∙ held;
        }
      where
        new_write : (z : State) → Stands file z l pairs → (i : ℕ) →
            IsSame (after_all z (table.starts_write z c i h op g)) file z.count
            (begun_entry c f cmd.capability.grant (entry.Write offset bytes false))
        new_write z kz i = record {
          file_is = here;
          below = omega arith;
          client = ap (λ (a : Start). a.client) (updated_same z.start z.count _);
          grant = ap (λ (a : Start). a.grant) (updated_same z.start z.count _) ∙ sym grant;
          entry = record {
            write = ap (λ (a : Start). a.is_write) (updated_same z.start z.count _);
            same = λ q. ap (λ (a : Start). a.data_at q) (updated_same z.start z.count _);
            ends = ap (λ (a : Start). a.end_) (updated_same z.start z.count _);
            told = kz.untold z.count (omega arith);
          };
          unfinished = λ w. sym (ap not (updated_same z.acknowledged z.count false));
        }

  -- by what the machine's client is at
  write_goes : (f offset : ℕ) (bytes : List ℕ) → f ≡ file → cmd.capability.grant ≡ g.number → (o : Option ℕ) →
      at_number l.pending c ≡ Some (record { call = told.Write f offset bytes; entry = o }) →
      (n : machine.Call) → t.call c ≡ n → CallAs pairs true o n → (ws : List (ℕ × ℕ)) →
      CommandGoes file c t
      (after_all t
      (if is_writing n then table.sends_on t c component cmd g
      else if is_idle n then table.sends_behind t c h (client_rules.Write f offset bytes) component cmd g
      else table.sends_first t c h (client_rules.Write f offset bytes) component cmd g))
      (record (begins_beside l c (record { call = told.Write f offset bytes; entry = o }) f cmd.capability.grant
      (entry.Write offset bytes false) o) { writes = ws }) pairs (told.Write f offset bytes)
  write_goes f offset bytes here grant None there (AtWrite j) at_ a ws = absurd (cc a.1)
  write_goes f offset bytes here grant (Some m) there (AtWrite j) at_ a ws =
      stays_writing (told.Write f offset bytes) m j there at_ a ws
  write_goes f offset bytes here grant None there (AtRead i) at_ a ws =
      write_begins f offset bytes here grant there t k refl (entry_of t c) ws
  write_goes f offset bytes here grant (Some m) there (AtRead i) at_ a ws = absurd (cc a)
  write_goes f offset bytes here grant None there Idle at_ a ws =
      write_begins f offset bytes here grant there
      (after_all t (table.starts_gather c h (client_rules.Write f offset bytes) g))
      (stands_on file t l pairs (table.starts_gather c h (client_rules.Write f offset bytes) g) (tt, tt) k) refl
      (entry_of (after_all t (table.starts_gather c h (client_rules.Write f offset bytes) g)) c) ws
  write_goes f offset bytes here grant (Some m) there Idle at_ a ws = absurd (cc a)
  write_goes f offset bytes here grant o there Broken at_ a ws = absurd a

  -- nothing begins
  as_before : (x : ToldCall) (o : Option ℕ) → at_number l.pending c ≡ Some (record { call = x; entry = o }) →
      CallAs pairs (is_write (op_of x)) o (t.call c) → CommandGoes file c t t l pairs x
  as_before x o there a = record {
    pairs = pairs;
    more = λ a b n. n;
    stands = k;
    entry_now = o;
    has = there;
    as_ = a;
    held = refl;
  }

  -- a gather begins, which the log passes over
  gather_goes : (f offset : ℕ) (bytes : List ℕ) (o : Option ℕ) →
      at_number l.pending c ≡ Some (record { call = told.Write f offset bytes; entry = o }) →
      (n : machine.Call) → t.call c ≡ n → CallAs pairs true o n →
      CommandGoes file c t
      (after_all t (where_so (is_idle n) (table.starts c h (client_rules.Write f offset bytes) g))) l pairs
      (told.Write f offset bytes)
  gather_goes f offset bytes o there Idle at_ a =
      let es : List Event = table.starts_gather c h (client_rules.Write f offset bytes) g in
      record {
        pairs = pairs;
        more = λ a b n. n;
        stands = stands_on file t l pairs es (tt, tt) k;
        entry_now = o;
        has = there;
        as_ = subst (CallAs pairs true o) (sym (updated_same t.call c (AtRead t.count))) a;
        held = refl;
      }
  gather_goes f offset bytes o there (AtRead i) at_ a =
      as_before (told.Write f offset bytes) o there (subst (CallAs pairs true o) (sym at_) a)
  gather_goes f offset bytes o there (AtWrite j) at_ a =
      as_before (told.Write f offset bytes) o there (subst (CallAs pairs true o) (sym at_) a)
  gather_goes f offset bytes o there Broken at_ a = absurd a

  -- a read begins
  read_begins : (f offset count : ℕ) → f ≡ file → cmd.capability.grant ≡ g.number →
      at_number l.pending c ≡ Some (record { call = told.Read f offset count; entry = None }) →
      CommandGoes file c t (after_all t (table.starts_read c h (client_rules.Read f offset count) g))
      (starts l c (record { call = told.Read f offset count; entry = None }) f cmd.capability.grant
      (entry.Read offset count None)) pairs (told.Read f offset count)
  read_begins f offset count here grant there =
      let u : State = after_all t (table.starts_read c h (client_rules.Read f offset count) g) in
      let new : Pairs = pairs ++ (length l.entries, t.count) ∷ [] in
      let below : (j : ℕ) → j < t.count → j ≡ t.count → ⊥ = λ j l e. absurd (omega (arith, l, e)) in
      record {
        pairs = new;
        more = λ a b n. pair_old pairs (length l.entries) t.count a b n;
        stands =
            begins_both file t l pairs k c (record { call = told.Read f offset count; entry = None }) there f
            cmd.capability.grant (entry.Read offset count None) refl refl u refl
            (λ j low. record {
              start = updated_other t.start t.count _ j (below j low);
              told = refl;
              answer = updated_other t.answer t.count None j (below j low);
              acknowledged = updated_other t.acknowledged t.count false j (below j low);
            }) (λ j. refl) new_read;
        entry_now = Some (length l.entries);
        has = lookup_inserted l.pending c _;
        as_ = subst (CallAs new false (Some (length l.entries))) (sym (updated_same t.call c (AtRead t.count)))
            (length l.entries, refl, pair_new pairs (length l.entries) t.count);
        held = refl;
      }
    where
      none_same : (a : Start) (o : Option (ℕ → ℕ)) → o ≡ None → SameAnswer a o None
      none_same a None e = tt
      none_same a (Some q) e = absurd (cc e)

      new_read : IsSame (after_all t (table.starts_read c h (client_rules.Read f offset count) g)) file t.count
          (begun_entry c f cmd.capability.grant (entry.Read offset count None))
      new_read = record {
        file_is = here;
        below = omega arith;
        client = ap (λ (a : Start). a.client) (updated_same t.start t.count _);
        grant = ap (λ (a : Start). a.grant) (updated_same t.start t.count _) ∙ sym grant;
        entry = record {
          read = ap (λ (a : Start). a.is_read) (updated_same t.start t.count _);
          first = ap (λ (a : Start). a.from_) (updated_same t.start t.count _);
          past = ap (λ (a : Start). a.to_) (updated_same t.start t.count _);
          same =
              none_same ((after_all t (table.starts_read c h (client_rules.Read f offset count) g)).start t.count)
              ((after_all t (table.starts_read c h (client_rules.Read f offset count) g)).answer t.count)
              (updated_same t.answer t.count None);
        };
        unfinished = λ w. absurd (true≢false (sym w ∙ ap (λ (a : Start). a.is_write) (updated_same t.start t.count _)));
      }

  read_goes : (f offset count : ℕ) → f ≡ file → cmd.capability.grant ≡ g.number → (o : Option ℕ) →
      at_number l.pending c ≡ Some (record { call = told.Read f offset count; entry = o }) →
      (n : machine.Call) → t.call c ≡ n → CallAs pairs false o n →
      CommandGoes file c t
      (after_all t (where_so (is_idle n) (table.starts c h (client_rules.Read f offset count) g)))
      (begins_beside l c (record { call = told.Read f offset count; entry = o }) f cmd.capability.grant
      (entry.Read offset count None) o) pairs (told.Read f offset count)
  read_goes f offset count here grant None there Idle at_ a = read_begins f offset count here grant there
  read_goes f offset count here grant (Some m) there Idle at_ a = absurd (cc a)
  read_goes f offset count here grant None there (AtRead j) at_ a = absurd (cc a.1)
  read_goes f offset count here grant (Some m) there (AtRead j) at_ a =
      as_before (told.Read f offset count) (Some m) there (subst (CallAs pairs false (Some m)) (sym at_) a)
  read_goes f offset count here grant None there (AtWrite j) at_ a = absurd (cc a.1)
  read_goes f offset count here grant (Some m) there (AtWrite j) at_ a =
      as_before (told.Read f offset count) (Some m) there (subst (CallAs pairs false (Some m)) (sym at_) a)
  read_goes f offset count here grant o there Broken at_ a = absurd a

  -- Any command of a call on the file.
  pub command_goes : (x : ToldCall) (o : Option ℕ) → file_of (op_of x) ≡ file →
      at_number l.pending c ≡ Some (record { call = x; entry = o }) → CommandIs g (is_write (op_of x)) cmd →
      CallAs pairs (is_write (op_of x)) o (t.call c) →
      CommandGoes file c t (after_all t (under_grant c t h g component cmd (op_of x) cmd.action))
      (sends_command l number c (record { call = x; entry = o }) cmd cmd.action) pairs x
  command_goes x o here there is a = by_kind is.kind
    where
      reads : (y : ToldCall) → y ≡ x → CommandGoes file c t (after_all t (table.sends_read t c h (op_of y) g))
          (sends_read l c (record { call = y; entry = o }) cmd y) pairs y
      reads (told.Write f offset bytes) e =
          gather_goes f offset bytes o
          (subst (λ (y : ToldCall). at_number l.pending c ≡ Some (record { call = y; entry = o })) (sym e) there)
          (t.call c) refl (subst (λ (y : ToldCall). CallAs pairs (is_write (op_of y)) o (t.call c)) (sym e) a)
      reads (told.Read f offset count) e =
          read_goes f offset count (ap (λ (y : ToldCall). file_of (op_of y)) e ∙ here) is.grant o
          (subst (λ (y : ToldCall). at_number l.pending c ≡ Some (record { call = y; entry = o })) (sym e) there)
          (t.call c) refl (subst (λ (y : ToldCall). CallAs pairs (is_write (op_of y)) o (t.call c)) (sym e) a)

      writes : (y : ToldCall) → y ≡ x → is_write (op_of y) ≡ true →
          CommandGoes file c t (after_all t (table.sends_write t c h (op_of y) component cmd g))
          (sends_write l number c (record { call = y; entry = o }) cmd y) pairs y
      writes (told.Write f offset bytes) e w =
          write_goes f offset bytes (ap (λ (y : ToldCall). file_of (op_of y)) e ∙ here) is.grant o
          (subst (λ (y : ToldCall). at_number l.pending c ≡ Some (record { call = y; entry = o })) (sym e) there)
          (t.call c) refl (subst (λ (y : ToldCall). CallAs pairs (is_write (op_of y)) o (t.call c)) (sym e) a) _
      writes (told.Read f offset count) e w = absurd (true≢false (sym w))

      abbrev_goal : Action → Type 0
      abbrev_goal b =
          CommandGoes file c t (after_all t (under_grant c t h g component cmd (op_of x) b))
          (sends_command l number c (record { call = x; entry = o }) cmd b) pairs x

      by_kind : ((cmd.action ≡ action.Read) ⊎ ((cmd.action ≡ action.Write) × (is_write (op_of x) ≡ true))) →
          abbrev_goal cmd.action
      by_kind (inl e) = subst abbrev_goal (sym e) (reads x refl)
      by_kind (inr e) = subst abbrev_goal (sym e.0) (writes x refl e.1)
