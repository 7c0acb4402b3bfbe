-- A client in the middle of its turn: what its dealings with the drives make of it, and its call that begins.
-- Towards `CallsGoOn` (`specs/Steps.antt`).
use Rattle.std.proofs.Common.{◌≡◌, ◌==◌, ◌&&◌, not, ℕ, ◌+◌, ◌*◌, ◌<◌, ◌≤◌, Bool, true, false, List, [], ◌∷◌, Option, Some, None, refl, sym, ap, subst, ◌∙◌, inl, inr, arith, if◌then◌else◌}
use Rattle.std.proofs.lemmas.Bool.{true≢false, cases_eq, eq-eqb, ne_eqb, eqb-true}
use Rattle.data_map.specs.declared.check.RawMap.{RawMap}
use Rattle.layout_ops.specs.declared.messages.Answer.{Answer}
use Rattle.client_rules.specs.declared.limits.TheConstants.{NONCES}
use Rattle.client_rules.specs.Calls.{file_of, is_write}
use Rattle.client_rules.specs.Going.{begins, begun, by_turn, forgotten, moved, over, phased, starts_at, starts_call, starts_under, starts_with, with_held}
use Rattle.client_rules.specs.Grants.{covers, held_of, put_held, without_held}
use Rattle.client_rules.proofs.HeldGrants.{held_file, put_at}
use Rattle.exchange_law.proofs.ClientKeeping.{put_other, none_left}
use Rattle.exchange_law.proofs.Kept.{IsKept, begins_kept}
use Rattle.world_history.specs.ClientNames.{Client, Call, CallOp, Held, Request, Need, First, Get, Commit, Report, Close, Phase, Starts, Needs, Waits, Reads, Probes, Gathers, Scatters, Outcome, Turn, Goes, Ends, Forgets, Moved, Done}
use Rattle.fence_law.specs.Words.{In as InRun}
use Rattle.fence_law.specs.State.{State, Grant}
use Rattle.fence_law.specs.State as machine
use Rattle.file_simulation.specs.Calls.{IsIdle, IsHolding, HoldsNone, HeldIs, NeedIs, reports_on, waits_report, is_taken}
use Rattle.relation_law.specs.CallsTurns.{PhaseOn, PendsAt, IsMid, NeedHas, TurnIs, IsCounted, MovedIs, WritesSome, ReadsWait}
use Rattle.relation_law.proofs.CallsMoved.{begins_is}

-- ---- grants of other files

pub without_other : (hs : List Held) (f n : ℕ) → (n ≡ f → ⊥) → held_of (without_held hs f) n ≡ held_of hs n
unfolding held_of without_held
without_other [] f n ne = refl
without_other (g ∷ gs) f n ne = elim (cases_eq g.file f) [
  | inl s ↦ rw (eq-eqb g.file f s, ne_eqb g.file n (λ e. ne (sym e ∙ s))) (without_other gs f n ne)
  | inr t ↦ elim (cases_eq g.file n) [
    | inl u ↦ rw (ne_eqb g.file f t, eq-eqb g.file n u) refl
    | inr v ↦ rw (ne_eqb g.file f t, ne_eqb g.file n v) (without_other gs f n ne)
  ]
]

-- ---- what is held

-- under which more was sent
counted_holding : (m : RawMap) (s : State) (c : ℕ) (h k : Held) → IsCounted h k → IsHolding m s c h → IsHolding m s c k
counted_holding m s c h k e w = subst (λ x. IsHolding m s c x) (sym e.same) (record {
  grant = w.grant;
  held = w.held;
  same = record {
    given = w.same.given;
    same = w.same.same;
    agrees = record {
      file = w.same.agrees.file;
      number = w.same.agrees.number;
      rw = w.same.agrees.rw;
      extending = w.same.agrees.extending;
      first = w.same.agrees.first;
      end = w.same.agrees.end;
      map = w.same.agrees.map;
    };
    left = w.same.left;
    tag = w.same.tag;
  };
  size = w.size;
  nonce = low k.count e.more;
})
  where
    low : (n : ℕ) → h.count ≤ n → s.nonce c ≤ h.number * NONCES + n
    low n le = let old : s.nonce c ≤ h.number * NONCES + h.count = w.nonce in omega (arith, old, le)

-- in a machine that has the same of it
pub held_as : (file : ℕ) (m : RawMap) (s t : State) (c : ℕ) (x : Client) (o : Option Answer) (h : Option Held) →
    t.held c ≡ s.held c → t.known_size c ≡ s.known_size c → t.nonce c ≡ s.nonce c → HeldIs file m s c x o h →
    HeldIs file m t c x o h
held_as file m s t c x o (Some h) e f g w =
    record { grant = w.grant; held = e ∙ w.held; same = w.same; size = f ∙ w.size; nonce = rw g w.nonce }
held_as file m s t c x o None e f g w = by_report (reports_on file x.call && not (is_taken o)) w
  where
    by_report : (b : Bool) → HoldsNone s c x.outstanding b → HoldsNone t c x.outstanding b
    by_report true k = record { grant = k.grant; held = e ∙ k.held; returned = k.returned }
    by_report false k = e ∙ k

-- where no report waits, by the grants alone
pub held_plain : (file : ℕ) (m : RawMap) (s : State) (c : ℕ) (x y : Client) (o p : Option Answer) (h : Option Held) →
    reports_on file x.call ≡ false → reports_on file y.call ≡ false → HeldIs file m s c x o h → HeldIs file m s c y p h
held_plain file m s c x y o p (Some h) a b w = w
held_plain file m s c x y o p None a b w = rw b (none_so (reports_on file x.call) a w)
  where
    none_so : (t : Bool) → t ≡ false → HoldsNone s c x.outstanding (t && not (is_taken o)) → s.held c ≡ None
    none_so false e k = k
    none_so true e k = absurd (true≢false e)

some_has : (n : Need) (h : Held) → NeedHas n (Some h)
some_has First h = tt
some_has (Get tries) h = tt
some_has (Commit timed) h = tt
some_has (Report timed) h = tt
some_has (Close u report) h = tt

op_of : (x y : Call) → Some x ≡ Some y → x.op ≡ y.op
op_of x y e = cc e

need_of : (x : Call) (p : CallOp) (n q : Need) → x.phase ≡ Needs n → Some x ≡ Some (record { op = p; phase = Needs q }) → n ≡ q
need_of x p n q a e = cc (sym a ∙ phase_is x (record { op = p; phase = Needs q }) e)
  where
    phase_is : (y z : Call) → Some y ≡ Some z → y.phase ≡ z.phase
    phase_is y z u = cc u

-- ---- dealings with the drives

module _ (file : ℕ) (m : RawMap) (c : ℕ) (o : Option Answer) where
  -- what stays of the machine's side
  pub record IsReady (s : State) : Type 0 where
    pub fresh : (g : machine.Grant) (size : ℕ) → s.waiting c ≡ true →
        InRun (record { client = c; sequence = s.sequence c; grant = Some g; size = size }) s.answers →
        s.nonce c < g.number * NONCES
    pub used : s.nonce c < s.next * NONCES

  module _ (s : State) (ready : IsReady s) (d : Done) (none : d.outcome ≡ None) (unasked : d.requests ≡ []) (op : CallOp)
      (h : Held) (mv : Moved) where
    abbrev e : Done
    e = moved d op mv

    abbrev base : Done
    base = record (with_held d mv.held) { commands = mv.sent }

    abbrev forgot : Done
    forgot = forgotten base (file_of op)

    ended_none : (u : Outcome) → d.outcome ≡ Some u → ⊥
    ended_none u is = cc (sym none ∙ is)

    -- the call is one on the file
    -- the machine's client holds the grant, but where it is forgotten
    abbrev pub HoldsBy : Turn → Type 0
    HoldsBy (Forgets u) = Unit {0}
    HoldsBy (Goes p) = IsHolding m s c h
    HoldsBy (Ends u) = IsHolding m s c h

    pub holds_any : (t : Turn) → IsHolding m s c h → HoldsBy t
    holds_any (Goes p) w = w
    holds_any (Ends u) w = w
    holds_any (Forgets u) w = tt

    module _ (here : (file_of op == file) ≡ true) (own : h.file ≡ file_of op) (k : MovedIs m s c op o h mv) where
      file_is : mv.held.file ≡ file
      file_is = rw k.held.same (own ∙ eqb-true (file_of op) file here)

      put_there : held_of (put_held d.client.held mv.held) file ≡ Some mv.held
      put_there = put_at d.client.held mv.held file file_is

      holds_at : IsHolding m s c h → (x : Client) (p : Option Held) → p ≡ Some mv.held → HeldIs file m s c x o p
      holds_at holds x p is =
          subst (λ q. HeldIs file m s c x o q) (sym is) (counted_holding m s c h mv.held k.held holds)

      turned_here : (t : Turn) → HoldsBy t → TurnIs m s c op o mv.sent t →
          IsMid file m s c o (Some op) (by_turn (record (with_held d mv.held) { commands = mv.sent }) op t)
      turned_here (Goes p) holds w = record {
        held = holds_at holds (phased base op p).client (held_of (put_held d.client.held mv.held) file) put_there;
        call = rw here w;
        fresh = ready.fresh;
        used = ready.used;
        about = λ call is. ap (λ (z : Call). Some z.op) (same_call (record { op = op; phase = p }) call is);
        ended = λ u is. absurd (ended_none u is);
        unasked = unasked;
        needs = λ call_op n is b. subst (NeedHas n) (sym put_there) (some_has n mv.held);
      }
        where
          same_call : (x y : Call) → Some x ≡ Some y → x ≡ y
          same_call x y q = cc q
      turned_here (Ends u) holds w = record {
        held = holds_at holds (over base u).client (held_of (put_held d.client.held mv.held) file) put_there;
        call = rw here w;
        fresh = ready.fresh;
        used = ready.used;
        about = λ call is. absurd (cc is);
        ended = λ v is. refl;
        unasked = unasked;
        needs = λ call_op n is b. absurd (cc is);
      }
      turned_here (Forgets u) holds w = record {
        held = subst (λ (q : Option Held). HeldIs file m s c (over forgot u).client o q) (sym none_there) w.1;
        call = rw here w.0;
        fresh = ready.fresh;
        used = ready.used;
        about = λ call is. absurd (cc is);
        ended = λ v is. refl;
        unasked = unasked;
        needs = λ call_op n is b. absurd (cc is);
      }
        where
          none_there : held_of (without_held (put_held d.client.held mv.held) (file_of op)) file ≡ None
          none_there = ap (λ (n : ℕ). held_of (without_held (put_held d.client.held mv.held) (file_of op)) n)
              (sym (eqb-true (file_of op) file here)) ∙ none_left (put_held d.client.held mv.held) (file_of op)

      pub moved_here : HoldsBy mv.turn → IsMid file m s c o (Some op) e
      moved_here holds = turned_here mv.turn holds k.turn

    -- or on another file
    module _ (here : (file_of op == file) ≡ false) (there : held_of d.client.held (file_of op) ≡ Some h) (kept : IsKept h mv)
        (holds : HeldIs file m s c d.client o (held_of d.client.held file)) (plain : reports_on file d.client.call ≡ false)
        (idle : IsIdle s c) where
      other_file : file_of op ≡ file → ⊥
      other_file x = true≢false (sym (eq-eqb (file_of op) file x) ∙ here)

      mine : mv.held.file ≡ file_of op
      mine = kept.file ∙ held_file d.client.held (file_of op) h there

      put_same : held_of (put_held d.client.held mv.held) file ≡ held_of d.client.held file
      put_same = put_other d.client.held mv.held file (λ x. other_file (sym mine ∙ x))

      without_same : held_of (without_held (put_held d.client.held mv.held) (file_of op)) file ≡ held_of d.client.held file
      without_same =
          without_other (put_held d.client.held mv.held) (file_of op) file (λ x. other_file (sym x)) ∙ put_same

      holds_for : (y : Client) (p : Option Held) → p ≡ held_of d.client.held file → reports_on file y.call ≡ false →
          HeldIs file m s c y o p
      holds_for y p is quiet =
          subst (λ q. HeldIs file m s c y o q) (sym is)
          (held_plain file m s c d.client y o o (held_of d.client.held file) plain quiet holds)

      off : (p : Phase) → (file_of op == file) ≡ false → reports_on file (Some (record { op = op; phase = p })) ≡ false
      off p f = rw f refl

      other_op : (call_op : CallOp) → op ≡ call_op → (file_of call_op == file) ≡ true → ⊥
      other_op call_op is b = true≢false (sym b ∙ ap (λ (z : CallOp). file_of z == file) (sym is) ∙ here)

      turned_other : (t : Turn) →
          IsMid file m s c o (Some op) (by_turn (record (with_held d mv.held) { commands = mv.sent }) op t)
      turned_other (Goes p) = record {
        held = holds_for (phased base op p).client (held_of (put_held d.client.held mv.held) file) put_same (off p here);
        call = rw here idle;
        fresh = ready.fresh;
        used = ready.used;
        about = λ call is. ap (λ (z : Call). Some z.op) (same_call (record { op = op; phase = p }) call is);
        ended = λ u is. absurd (ended_none u is);
        unasked = unasked;
        needs = λ call_op n is b.
            absurd (other_op call_op (op_of (record { op = op; phase = p }) (record { op = call_op; phase = Needs n }) is) b);
      }
        where
          same_call : (x y : Call) → Some x ≡ Some y → x ≡ y
          same_call x y q = cc q
      turned_other (Ends u) = record {
        held = holds_for (over base u).client (held_of (put_held d.client.held mv.held) file) put_same refl;
        call = rw here idle;
        fresh = ready.fresh;
        used = ready.used;
        about = λ call is. absurd (cc is);
        ended = λ v is. refl;
        unasked = unasked;
        needs = λ call_op n is b. absurd (cc is);
      }
      turned_other (Forgets u) = record {
        held =
            holds_for (over forgot u).client (held_of (without_held (put_held d.client.held mv.held) (file_of op)) file)
            without_same refl;
        call = rw here idle;
        fresh = ready.fresh;
        used = ready.used;
        about = λ call is. absurd (cc is);
        ended = λ v is. refl;
        unasked = unasked;
        needs = λ call_op n is b. absurd (cc is);
      }

      pub moved_other : IsMid file m s c o (Some op) e
      moved_other = turned_other mv.turn

  -- ---- a call begins

  -- What the begin of a call asks of plans.
  abbrev pub BeginFits : Held → CallOp → Type 0
  BeginFits h op = (is_write op ≡ true → WritesSome h op []) × ReadsWait h op

  module _ (s : State) (op : Option CallOp) (d : Done) (k : IsMid file m s c o op d) where
    ready : IsReady s
    ready = record { fresh = k.fresh; used = k.used }

    module _ (call_op : CallOp) (is : d.client.call ≡ Some (record { op = call_op; phase = Starts })) where
      no_outcome : d.outcome ≡ None
      no_outcome = by_outcome d.outcome refl
        where
          by_outcome : (u : Option Outcome) → d.outcome ≡ u → d.outcome ≡ None
          by_outcome None e = e
          by_outcome (Some u) e = absurd (cc (sym (k.ended u e) ∙ is))

      op_is : op ≡ Some call_op
      op_is = k.about (record { op = call_op; phase = Starts }) is

      at_start : PendsAt file m s c o op d.outcome d.commands (Some (record { op = call_op; phase = Starts }))
      at_start = subst (λ (x : Option Call). PendsAt file m s c o op d.outcome d.commands x) is k.call

      idle_by : (b : Bool) → PhaseOn b m s c (record { op = call_op; phase = Starts }) o d.commands → IsIdle s c
      idle_by true w = w.1
      idle_by false w = w

      idle : IsIdle s c
      idle = idle_by (file_of call_op == file) at_start

      start_plain : (b : Bool) → (file_of call_op == file) ≡ b →
          reports_on file (Some (record { op = call_op; phase = Starts })) ≡ false
      start_plain true e = rw e refl
      start_plain false e = rw e refl

      quiet : reports_on file d.client.call ≡ false
      quiet = ap (reports_on file) is ∙ start_plain (file_of call_op == file) refl

      need_plain : (n : Need) → reports_on file (Some (record { op = call_op; phase = Needs n })) ≡ false
      need_plain n = by_file (file_of call_op == file)
        where
          by_file : (b : Bool) → (b && waits_report (Needs n)) ≡ false
          by_file true = refl
          by_file false = refl

      -- it needs the server
      need_by : (b : Bool) (n : Need) → (IsIdle s c → NeedIs s c call_op n) →
          PhaseOn b m s c (record { op = call_op; phase = Starts }) o d.commands →
          PhaseOn b m s c (record { op = call_op; phase = Needs n }) o d.commands
      need_by true n f w = (w.0, f w.1)
      need_by false n f w = w

      pub needs : (n : Need) → (IsIdle s c → NeedIs s c call_op n) → NeedHas n (held_of d.client.held file) →
          IsMid file m s c o op (phased d call_op (Needs n))
      needs n f has = record {
        held = held_plain file m s c d.client (phased d call_op (Needs n)).client o o (held_of d.client.held file) quiet
            (need_plain n) k.held;
        call = need_by (file_of call_op == file) n f at_start;
        fresh = k.fresh;
        used = k.used;
        about = λ call e. op_is ∙ ap (λ (z : Call). Some z.op) (same_call (record { op = call_op; phase = Needs n }) call e);
        ended = λ u e. absurd (cc (sym no_outcome ∙ e));
        unasked = k.unasked;
        needs = λ p q e b. subst (λ (i : Need). NeedHas i (held_of d.client.held file))
            (need_of (record { op = call_op; phase = Needs n }) p n q refl e) has;
      }
        where
          same_call : (x y : Call) → Some x ≡ Some y → x ≡ y
          same_call x y q = cc q

      needs_with : (n : Need) → (IsIdle s c → NeedIs s c call_op n) → NeedHas n (held_of d.client.held file) →
          (r : Option Request) → IsMid file m s c o op (starts_with d call_op n r)
      needs_with n f has None = needs n f has
      needs_with n f has (Some r) = k

      -- or begins under its grant
      begins_by : (b : Bool) → (file_of call_op == file) ≡ b → (h : Held) → held_of d.client.held (file_of call_op) ≡ Some h →
          ((file_of call_op == file) ≡ true → BeginFits h call_op) →
          IsMid file m s c o (Some call_op) (moved d call_op (begins h call_op))
      begins_by true e h there fits =
          let same : held_of d.client.held file ≡ Some h =
          ap (λ (n : ℕ). held_of d.client.held n) (sym (eqb-true (file_of call_op) file e)) ∙ there in
          let holds : IsHolding m s c h = subst (λ q. HeldIs file m s c d.client o q) same k.held in
          moved_here s ready d no_outcome k.unasked call_op h (begins h call_op) e
          (held_file d.client.held (file_of call_op) h there)
          (begins_is m s c call_op o h idle (fits e).0 (fits e).1)
          (holds_any s ready d no_outcome k.unasked call_op h (begins h call_op) (begins h call_op).turn holds)
      begins_by false e h there fits =
          moved_other s ready d no_outcome k.unasked call_op h (begins h call_op) e there (begins_kept h call_op)
          k.held quiet idle

      covered_by : (b : Bool) → (h : Held) → held_of d.client.held (file_of call_op) ≡ Some h →
          ((file_of call_op == file) ≡ true → b ≡ true → BeginFits h call_op) →
          IsMid file m s c o op (if b then moved d call_op (begins h call_op)
          else starts_with d call_op First d.client.outstanding)
      covered_by true h there fits = rw op_is (begins_by (file_of call_op == file) refl h there (λ e. fits e refl))
      covered_by false h there fits = needs_with First (λ w. w) tt d.client.outstanding

      under_by : (h : Option Held) → held_of d.client.held (file_of call_op) ≡ h →
          ((g : Held) → h ≡ Some g → (file_of call_op == file) ≡ true → covers g call_op ≡ true → BeginFits g call_op) →
          IsMid file m s c o op (starts_under d call_op h)
      under_by None there fits = needs_with (Get 0) (λ w. w) tt d.client.outstanding
      under_by (Some h) there fits =
          covered_by (covers h call_op) h there (λ e t. fits h refl e t)

    -- the begin asks of plans what it has to, where the call is one on the file and begins
    abbrev pub AsksOfBegin : Type 0
    AsksOfBegin =
        (call_op : CallOp) (h : Held) → d.client.call ≡ Some (record { op = call_op; phase = Starts }) →
        held_of d.client.held (file_of call_op) ≡ Some h → (file_of call_op == file) ≡ true → covers h call_op ≡ true →
        BeginFits h call_op

    begun_at : AsksOfBegin → (call_op : CallOp) (p : Phase) → d.client.call ≡ Some (record { op = call_op; phase = p }) →
        IsMid file m s c o op (starts_at d call_op p)
    begun_at fits call_op Starts is =
        under_by call_op is (held_of d.client.held (file_of call_op)) refl (λ g e b t. fits call_op g is e b t)
    begun_at fits call_op (Needs n) is = k
    begun_at fits call_op (Waits n) is = k
    begun_at fits call_op (Reads io) is = k
    begun_at fits call_op (Probes io) is = k
    begun_at fits call_op (Gathers io) is = k
    begun_at fits call_op (Scatters io queue) is = k

    begun_call : AsksOfBegin → (x : Option Call) → d.client.call ≡ x → IsMid file m s c o op (starts_call d x)
    begun_call fits None is = k
    begun_call fits (Some call) is = begun_at fits call.op call.phase is

    pub begun_mid : AsksOfBegin → IsMid file m s c o op (begun d)
    unfolding begun
    begun_mid fits = begun_call fits d.client.call refl
