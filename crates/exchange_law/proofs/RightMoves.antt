-- What a call does with the drives keeps all that a read needs had or awaited, so that its answer is right.
use Rattle.std.proofs.Common.{◌≡◌, ◌≢◌, ◌<◌, ℕ, ◌+◌, ◌/◌, ◌==◌, Bool, true, false, List, [], ◌∷◌, ◌++◌, refl, sym, arith, inl, inr, eq-eqb, ne_eqb}
use Rattle.std.specs.Prelude.{if◌then◌else◌, filter, Option, Some, None}
use Rattle.std.proofs.lemmas.Bool.{cases_Bool, cases_eq}
use Rattle.data_map.specs.Check.{IsChecked}
use Rattle.data_map.specs.Striping.{replicas, group_width}
use Rattle.stripe_plan.specs.Touched.{stripes}
use Rattle.stripe_plan.specs.Lost.{positions_out, unreadable}
use Rattle.std.specs.List.{range_with_len}
use Rattle.std.specs.Prelude.{map, length}
use Rattle.data_map.specs.Striping.{position_of, offset_of}
use Rattle.stripe_plan.specs.declared.plan.Aim.TheVariants.{Reads as ToRead}
use Rattle.stripe_plan.specs.Touched.{IsTouchedStripe}
use Rattle.stripe_plan.specs.Lost.{is_out}
use Rattle.stripe_plan.specs.Asks.{needed}
use Rattle.stripe_plan.specs.Laws.{IsWithin, IsFetched, AreBytes, Agrees}
use Rattle.stripe_plan.proofs.ReadLaws.{read_follows}
use Rattle.exchange_law.proofs.Covers.{HasStretch, asks_cover}
use Rattle.exchange_law.proofs.Had.{AreBelow, had_sent, had_got, had_replied, others_below, rest_below, sent_below}
use Rattle.exchange_law.specs.ClientState.{CallOp, Held, Awaited, TimedOut, Io, Phase, Starts, Needs, Waits, Reads, Probes, Gathers, Scatters, Outcome, Lost, Silent, Turn, Goes, Ends, Forgets, Moved, Answer, Reply, Span, Ask, Column, Store, RawMap}
use Rattle.layout_ops.specs.declared.statuses.TheConstants.{NFS4_OK}
use Rattle.client_rules.specs.Results.{status_of}
use Rattle.client_rules.specs.Calls.{span_of, is_write}
use Rattle.client_rules.specs.Grants.{clipped}
use Rattle.client_rules.specs.Requests.{report_of}
use Rattle.client_rules.specs.Commands.{nonce_at, numbered, carrying_none, read_commands, others, not_of}
use Rattle.client_rules.specs.Io.{outs, had, had_positions, got_of, awaited_in}
use Rattle.client_rules.specs.Turns.{turned, ended, closing}
use Rattle.client_rules.specs.Commands.{counted}
use Rattle.client_rules.specs.Reads.{reads_due, reads_on, reads_unless, reads, probes_on, is_probe_lost, probes_sent, probes_by, probes}
use Rattle.client_rules.specs.Writes.{accounted, written, scatters_on, scatters, scatters_next, gathers_on, gathers, is_too_short, without_component}
use Rattle.client_rules.specs.Replies.{refusal, refused_report, refused, performed, replied, gather_timed, scatter_timed, timed_out}
use Rattle.client_rules.specs.Answers.{committed, not_committed, on_commit}
use Rattle.client_rules.specs.Going.{begins}
use Rattle.client_rules.specs.Messages.{TakesReply}
use Rattle.client_rules.specs.Laws.{with_reply, NoneTo, AreApart}
use Rattle.client_rules.proofs.Apart.{IsIn, others_apart, rest_apart, others_none, next_apart, firsts_apart}
use Rattle.client_rules.proofs.Asked.{some_asked, front_none, rest_none}
use Rattle.client_rules.proofs.ReadMoves.{AreReads, FitsOutcome, AnswersNone, GoodNeed}
use Rattle.client_rules.proofs.Probed.{no_commands, due_some}

-- ---- READs

all_reads : (xs ys : List Awaited) → AreReads xs → AreReads ys → AreReads (xs ++ ys)
all_reads [] ys x y = y
all_reads (a ∷ xs) ys x y = (x.0, all_reads xs ys x.1 y)

some_reads : (p : Awaited → Bool) (xs : List Awaited) → AreReads xs → AreReads (filter p xs)
some_reads p [] x = tt
some_reads p (a ∷ xs) x = elim (cases_Bool (p a)) [ inl t ↦ rw t (x.0, some_reads p xs x.1) | inr f ↦ rw f (some_reads p xs x.1) ]

numbered_reads : (h : Held) (count : ℕ) (ws : List Store) → AreReads (numbered h false count ws)
unfolding numbered
numbered_reads h count [] = tt
numbered_reads h count (w ∷ ws) = (refl, numbered_reads h (count + 1) ws)

commands_read : (h : Held) (xs : List Ask) → AreReads (read_commands h xs)
unfolding read_commands
commands_read h xs = numbered_reads h h.count (carrying_none xs)

others_read : (xs : List Awaited) (nonce : ℕ) → AreReads xs → AreReads (others xs nonce)
unfolding others
others_read xs nonce x = some_reads _ xs x

rest_read : (xs : List Awaited) (k : ℕ) → AreReads xs → AreReads (not_of k xs)
unfolding not_of
rest_read xs k x = some_reads _ xs x

is_read : (xs : List Awaited) (a : Awaited) → AreReads xs → IsIn a xs → a.write ≡ false
is_read [] a x i = absurd i
is_read (y ∷ xs) a x (inl e) = rw e x.0
is_read (y ∷ xs) a x (inr i) = is_read xs a x.1 i

-- ---- what is kept

-- all that a read needs of positions that aren't out
abbrev pub IsHad : RawMap → Span → List ℕ → List Column → List Awaited → Type 0
IsHad m r out got awaited =
    (s b c : ℕ) → IsTouchedStripe m r s → c < group_width m → is_out m out (position_of m s c) ≡ false →
    IsWithin b (needed ToRead m r out s c)
    → HasStretch (had got awaited) (position_of m s c) (offset_of m s b)

-- it can be read, and all that it needs is had or awaited
pub record IsReady (m : RawMap) (r : Span) (out : List ℕ) (got : List Column) (awaited : List Awaited) (top : ℕ) : Type 0 where
  pub readable : unreadable m r out (stripes m r) ≡ None
  pub needs : IsHad m r out got awaited
  pub nonces : AreBelow top awaited

-- a phase that reads keeps what was read, and awaits READs
abbrev pub GoodPhase : Held → CallOp → Phase → List Column → Type 0
GoodPhase h op Starts got = got ≡ []
GoodPhase h op (Needs n) got = GoodNeed n got
GoodPhase h op (Waits n) got = GoodNeed n got
GoodPhase h op (Reads io) got =
    (0 < (clipped h.size (span_of op)).length) × (io.got ≡ got) × AreReads io.awaited
    × IsReady h.map (clipped h.size (span_of op)) (outs h io.timed) io.got io.awaited (nonce_at h h.count)
GoodPhase h op (Probes io) got = ((clipped h.size (span_of op)).length ≡ 0) × (io.got ≡ got) × AreReads io.awaited
GoodPhase h op (Gathers io) got = Unit {0}
GoodPhase h op (Scatters io queue) got = AreApart io.awaited

-- bytes that are those of all data that agree with what was read
abbrev pub IsRightFor : Held → CallOp → List Column → List ℕ → Type 0
IsRightFor h op got bytes =
    (d : ℕ → ℕ) → AreBytes d → Agrees h.map got d
    → bytes ≡ map d (range_with_len (clipped h.size (span_of op)).offset (clipped h.size (span_of op)).length)

abbrev pub Follows : Held → CallOp → List Column → List ℕ → Type 0
Follows h op got bytes = (got ≢ []) × IsRightFor h op got bytes

unfoldable pub GoodTurn : Held → Held → CallOp → Turn → List Column → Type 0
GoodTurn h k op (Goes p) got = GoodPhase k op p got
GoodTurn h k op (Ends o) got = FitsOutcome (Follows h op got) o
GoodTurn h k op (Forgets o) got = AnswersNone o

pub record GoodMoved (h : Held) (op : CallOp) (m : Moved) (got : List Column) : Type 0 where
  pub file : m.held.file ≡ h.file
  pub map : m.held.map ≡ h.map
  pub turn : GoodTurn h m.held op m.turn got

goes : (h k : Held) (op : CallOp) (p : Phase) (got : List Column) → GoodPhase k op p got → GoodTurn h k op (Goes p) got
unfolding GoodTurn
goes h k op p got x = x

ends : (h k : Held) (op : CallOp) (o : Outcome) (got : List Column) → FitsOutcome (Follows h op got) o →
    GoodTurn h k op (Ends o) got
unfolding GoodTurn
ends h k op o got x = x

forgets : (h k : Held) (op : CallOp) (o : Outcome) (got : List Column) → AnswersNone o → GoodTurn h k op (Forgets o) got
unfolding GoodTurn
forgets h k op o got x = x

either_turn : (h k : Held) (op : CallOp) (got : List Column) (b : Bool) (t u : Turn) → GoodTurn h k op t got →
    GoodTurn h k op u got → GoodTurn h k op (if b then t else u) got
either_turn h k op got true t u x y = x
either_turn h k op got false t u x y = y

either : (h : Held) (op : CallOp) (got : List Column) (b : Bool) (m n : Moved) → GoodMoved h op m got → GoodMoved h op n got →
    GoodMoved h op (if b then m else n) got
either h op got true m n x y = x
either h op got false m n x y = y

turned_good : (h : Held) (op : CallOp) (t : Turn) (got : List Column) → GoodTurn h h op t got → GoodMoved h op (turned h t) got
turned_good h op t got x = record { file = refl; map = refl; turn = x }

-- ---- reads

pub counted_outs : (h : Held) (sent : List Awaited) (timed : List TimedOut) → outs (counted h sent) timed ≡ outs h timed
unfolding outs
counted_outs h sent timed = refl

-- where nothing is awaited, all was fetched
pub fetched : (m : RawMap) (r : Span) (out : List ℕ) (got : List Column) (top : ℕ) → IsReady m r out got [] top →
    IsFetched ToRead m r got out
fetched m r out got top x = λ s b c t l n w. had_got got (position_of m s c) (offset_of m s b) (x.needs s b c t l n w)

reads_on_good : (h : Held) (op : CallOp) (got : List Column) (timed : List TimedOut) (sent awaited : List Awaited) →
    IsChecked h.map →
    0 < (clipped h.size (span_of op)).length → (awaited ≡ [] → got ≢ []) → AreReads awaited →
    (top : ℕ) → top ≡ nonce_at h (h.count + length sent) →
    IsReady h.map (clipped h.size (span_of op)) (outs h timed) got awaited top →
    GoodMoved h op (reads_on h (clipped h.size (span_of op)) got timed sent awaited) got
unfolding reads_on
reads_on_good h op got timed sent [] ch some n rs top e x =
    record {
      file = refl;
      map = refl;
      turn =
          ends _ _ _ _ _ (
            n refl,
            λ d bs ag. read_follows h.map (clipped h.size (span_of op)) got (outs h timed) ch x.readable d
                bs (fetched h.map (clipped h.size (span_of op)) (outs h timed) got top x) ag,
          );
    }
reads_on_good h op got timed sent (a ∷ xs) ch some n rs top e x =
    record { file = refl; map = refl; turn = goes _ _ _ _ _ (some, refl, rs, rw (counted_outs h sent timed) (rw e at x)) }

pub ready_sent : (h : Held) (r : Span) (got : List Column) (timed : List TimedOut) (awaited : List Awaited) → 0 < r.length →
    unreadable h.map r (outs h timed) (stripes h.map r) ≡ None → AreBelow (nonce_at h h.count) awaited →
    IsReady h.map r (outs h timed) got (awaited ++ read_commands h (reads_due h r got timed awaited))
    (nonce_at h (h.count + length (read_commands h (reads_due h r got timed awaited))))
ready_sent h r got timed awaited some u b = record {
  readable = u;
  needs = λ s b c t l n w. had_sent h got awaited (reads_due h r got timed awaited) (position_of h.map s c) (offset_of h.map s b)
      (asks_cover ToRead h.map r (outs h timed) (had got awaited) s b c tt some t l n w);
  nonces = sent_below h awaited (reads_due h r got timed awaited) b;
}

-- the plan of a read asks something
pub asked_some : (h : Held) (op : CallOp) (got : List Column) (timed : List TimedOut) (awaited : List Awaited) → IsChecked h.map →
    0 < (clipped h.size (span_of op)).length →
    unreadable h.map (clipped h.size (span_of op)) (outs h timed) (stripes h.map (clipped h.size (span_of op))) ≡ None →
    awaited ++ read_commands h (reads_due h (clipped h.size (span_of op)) got timed awaited) ≡ [] → got ≢ []
unfolding had
asked_some h op got timed awaited ch some u none = λ g.
    let free : awaited ≡ [] = front_none awaited _ none in
    let due = no_commands h _ (rest_none awaited _ none) in
    some_asked h.map (clipped h.size (span_of op)) (outs h timed) ch some u (rw (g, free) at due)

reads_unless_good : (h : Held) (op : CallOp) (got : List Column) (timed : List TimedOut) (awaited : List Awaited)
    (o : Option (List ℕ)) →
    IsChecked h.map → 0 < (clipped h.size (span_of op)).length → AreReads awaited → AreBelow (nonce_at h h.count) awaited →
    unreadable h.map (clipped h.size (span_of op)) (outs h timed) (stripes h.map (clipped h.size (span_of op))) ≡ o →
    GoodMoved h op (reads_unless h (clipped h.size (span_of op)) got timed awaited o) got
reads_unless_good h op got timed awaited (Some ps) ch some rs b u = turned_good h op (Ends (Lost ps)) got (ends _ _ _ _ _ tt)
reads_unless_good h op got timed awaited None ch some rs b u =
    reads_on_good h op got timed _ _ ch some (asked_some h op got timed awaited ch some u)
    (all_reads awaited _ rs (commands_read h _)) _ refl
    (ready_sent h (clipped h.size (span_of op)) got timed awaited some u b)

reads_good : (h : Held) (op : CallOp) (got : List Column) (timed : List TimedOut) (awaited : List Awaited) →
    IsChecked h.map → 0 < (clipped h.size (span_of op)).length → AreReads awaited → AreBelow (nonce_at h h.count) awaited →
    GoodMoved h op (reads h (clipped h.size (span_of op)) got timed awaited) got
unfolding reads
reads_good h op got timed awaited ch some rs b = reads_unless_good h op got timed awaited _ ch some rs b refl

-- ---- probes

nothing_right : (h : Held) (op : CallOp) (got : List Column) → (clipped h.size (span_of op)).length ≡ 0 → IsRightFor h op got []
nothing_right h op got e = λ d bs ag. rw e refl

probes_on_good : (h : Held) (op : CallOp) (got : List Column) (timed : List TimedOut) (sent awaited : List Awaited) →
    (clipped h.size (span_of op)).length ≡ 0 → (awaited ≡ [] → got ≢ []) → AreReads awaited →
    GoodMoved h op (probes_on h got timed sent awaited) got
unfolding probes_on
probes_on_good h op got timed sent [] none n rs =
    record { file = refl; map = refl; turn = ends _ _ _ _ _ (n refl, nothing_right h op got none) }
probes_on_good h op got timed sent (a ∷ xs) none n rs = record { file = refl; map = refl; turn = goes _ _ _ _ _ (none, refl, rs) }

probes_sent_good : (h : Held) (op : CallOp) (got : List Column) (timed : List TimedOut) (awaited : List Awaited) (p : ℕ) →
    IsChecked h.map → (clipped h.size (span_of op)).length ≡ 0 → AreReads awaited → is_probe_lost h.map (outs h timed) p ≡ false →
    GoodMoved h op (probes_sent h got timed awaited p) got
unfolding had_positions
probes_sent_good h op got timed awaited p ch none rs kept =
    probes_on_good h op got timed _ _ none
    (λ empty. λ g.
    let free : awaited ≡ [] = front_none awaited _ empty in
    let due = no_commands h _ (rest_none awaited _ empty) in
    due_some h (outs h timed) p ch kept (rw (g, free) at due))
    (all_reads awaited _ rs (commands_read h _))

probes_by_good : (h : Held) (op : CallOp) (got : List Column) (timed : List TimedOut) (awaited : List Awaited) (o : Option ℕ) →
    IsChecked h.map → (clipped h.size (span_of op)).length ≡ 0 → AreReads awaited →
    GoodMoved h op (probes_by h got timed awaited o) got
probes_by_good h op got timed awaited None ch none rs = turned_good h op _ got (ends _ _ _ _ _ tt)
probes_by_good h op got timed awaited (Some k) ch none rs =
    elim (cases_Bool (is_probe_lost h.map (outs h timed) (k / replicas h.map))) [
      | inl gone ↦
          rw gone
          (turned_good h op (Ends (Lost (positions_out h.map (outs h timed) (k / replicas h.map / group_width h.map)))) got
          (ends _ _ _ _ _ tt))
      | inr kept ↦ rw kept (probes_sent_good h op got timed awaited (k / replicas h.map) ch none rs kept)
    ]

probes_good : (h : Held) (op : CallOp) (got : List Column) (timed : List TimedOut) (awaited : List Awaited) →
    IsChecked h.map → (clipped h.size (span_of op)).length ≡ 0 → AreReads awaited →
    GoodMoved h op (probes h got timed awaited) got
unfolding probes
probes_good h op got timed awaited ch none rs = probes_by_good h op got timed awaited _ ch none rs

-- ---- writes

accounted_good : (h k : Held) (op : CallOp) (timed : List TimedOut) (got : List Column) → GoodTurn h k op (accounted op timed) got
accounted_good h k op [] got = ends _ _ _ _ _ tt
accounted_good h k op (t ∷ ts) got = goes _ _ _ _ _ tt

written_good : (h k l : Held) (op : CallOp) (timed : List TimedOut) (got : List Column) → GoodTurn h k op (written l op timed) got
unfolding written
written_good h k l op timed got = either_turn h k op got _ _ _ (goes _ _ _ _ _ tt) (accounted_good h k op timed got)

scatters_on_good : (h : Held) (op : CallOp) (timed : List TimedOut) (queue : List Store) (sent awaited : List Awaited)
    (got : List Column) → AreApart awaited → GoodMoved h op (scatters_on h op timed queue sent awaited) got
unfolding scatters_on
scatters_on_good h op timed queue sent [] got x = record { file = refl; map = refl; turn = written_good _ _ h op timed got }
scatters_on_good h op timed queue sent (a ∷ xs) got x = record { file = refl; map = refl; turn = goes _ _ _ _ _ x }

scatters_good : (h : Held) (op : CallOp) (cols : List Column) (timed : List TimedOut) (got : List Column) →
    GoodMoved h op (scatters h op cols timed) got
unfolding scatters
scatters_good h op cols timed got = scatters_on_good h op timed _ _ _ got (firsts_apart h _)

scatters_next_good : (h : Held) (op : CallOp) (timed : List TimedOut) (queue : List Store) (k : ℕ) (awaited : List Awaited)
    (got : List Column) → AreApart awaited → NoneTo k awaited → GoodMoved h op (scatters_next h op timed queue k awaited) got
unfolding scatters_next
scatters_next_good h op timed queue k awaited got x n = scatters_on_good h op timed _ _ _ got (next_apart h k queue awaited x n)

gathers_on_good : (h : Held) (op : CallOp) (cols : List Column) (timed : List TimedOut) (sent awaited : List Awaited)
    (got : List Column) → GoodMoved h op (gathers_on h op cols timed sent awaited) got
unfolding gathers_on
gathers_on_good h op cols timed sent [] got = scatters_good h op cols timed got
gathers_on_good h op cols timed sent (a ∷ xs) got = record { file = refl; map = refl; turn = goes _ _ _ _ _ tt }

gathers_good : (h : Held) (op : CallOp) (cols : List Column) (timed : List TimedOut) (awaited : List Awaited)
    (got : List Column) → GoodMoved h op (gathers h op cols timed awaited) got
unfolding gathers
gathers_good h op cols timed awaited got = gathers_on_good h op cols timed _ _ got

-- ---- replies

refused_good : (h : Held) (op : CallOp) (p : Phase) (a : Awaited) (r : Reply) (got : List Column) →
    GoodMoved h op (refused h p a r) got
unfolding refused
refused_good h op p a r got =
    either h op got _ (turned h (Forgets (refusal a r))) (turned h (closing (refusal a r) (refused_report h p a r)))
    (turned_good h op _ got (forgets _ _ _ _ _ tt)) (turned_good h op _ got (goes _ _ _ _ _ tt))

pub grown : {A : Type 0} (x : A) (xs : List A) → xs ++ x ∷ [] ≢ []
grown x [] e = cc e
grown x (y ∷ xs) e = cc e

-- a reply leaves all had or awaited
pub ready_replied : (m : RawMap) (r : Span) (out : List ℕ) (got : List Column) (awaited : List Awaited) (a : Awaited)
    (reply : Reply) (top : ℕ) → IsIn a awaited → IsReady m r out got awaited top →
    IsReady m r out (got ++ got_of a reply ∷ []) (others awaited a.command.nonce) top
ready_replied m r out got awaited a reply top i x = record {
  readable = x.readable;
  needs =
      λ s b c t l n w. had_replied got awaited a reply (position_of m s c) (offset_of m s b) x.nonces.differ i
      (x.needs s b c t l n w);
  nonces = others_below top a.command.nonce awaited x.nonces;
}

-- a READ that was performed, in a phase that reads
read_good : (h : Held) (op : CallOp) (io : Io) (a : Awaited) (r : Reply) (got : List Column) → IsChecked h.map →
    IsIn a io.awaited → GoodPhase h op (Reads io) got →
    GoodMoved h op (performed h op (Reads io) a r) (got ++ got_of a r ∷ [])
read_good h op io a r got ch i g =
    let next : IsReady h.map (clipped h.size (span_of op)) (outs h io.timed) (io.got ++ got_of a r ∷ [])
    (others io.awaited a.command.nonce) (nonce_at h h.count) =
    ready_replied h.map (clipped h.size (span_of op)) (outs h io.timed) io.got io.awaited a r (nonce_at h h.count) i g.3 in
    rw (sym g.1) (reads_on_good h op (io.got ++ got_of a r ∷ []) io.timed [] _ ch g.0 (λ e. grown (got_of a r) io.got)
    (others_read io.awaited a.command.nonce g.2) (nonce_at h h.count) (omega arith) next)

probe_good : (h : Held) (op : CallOp) (io : Io) (a : Awaited) (r : Reply) (got : List Column) → GoodPhase h op (Probes io) got →
    GoodMoved h op (performed h op (Probes io) a r) (got ++ got_of a r ∷ [])
probe_good h op io a r got g =
    rw (sym g.1)
    (probes_on_good h op (io.got ++ got_of a r ∷ []) io.timed [] _ g.0 (λ e. grown (got_of a r) io.got)
    (others_read io.awaited a.command.nonce g.2))

pub replied_good : (h : Held) (op : CallOp) (p : Phase) (a : Awaited) (r : Reply) (got : List Column) → IsChecked h.map →
    GoodPhase h op p got → IsIn a (awaited_in p) →
    GoodMoved h op (replied h op p a r) (with_reply got (Some (TakesReply a r)))
unfolding replied
replied_good h op (Reads io) a r got ch g i =
    let w : a.write ≡ false = is_read io.awaited a g.2 i in
    elim (cases_eq r.verdict 0) [
      | inl done ↦ rw (eq-eqb r.verdict 0 done, w) (read_good h op io a r got ch i g)
      | inr other ↦ rw (ne_eqb r.verdict 0 other) (refused_good h op (Reads io) a r got)
    ]
replied_good h op (Probes io) a r got ch g i =
    let w : a.write ≡ false = is_read io.awaited a g.2 i in
    elim (cases_eq r.verdict 0) [
      | inl done ↦ rw (eq-eqb r.verdict 0 done, w) (probe_good h op io a r got g)
      | inr other ↦ rw (ne_eqb r.verdict 0 other) (refused_good h op (Probes io) a r got)
    ]
replied_good h op (Gathers io) a r got ch g i =
    either h op _ _ _ _ (gathers_on_good h op _ io.timed [] _ _) (refused_good h op (Gathers io) a r _)
replied_good h op (Scatters io queue) a r got ch g i =
    either h op _ _ _ _ (scatters_next_good h op io.timed queue _ _ _ (others_apart io.awaited a.command.nonce g)
    (others_none io.awaited a g i)) (refused_good h op (Scatters io queue) a r _)
replied_good h op Starts a r got ch g i = absurd i
replied_good h op (Needs need) a r got ch g i = absurd i
replied_good h op (Waits need) a r got ch g i = absurd i

-- ---- timeouts

gather_timed_good : (h : Held) (op : CallOp) (io : Io) (k : ℕ) (timed : List TimedOut) (got : List Column) →
    GoodMoved h op (gather_timed h op io k timed) got
unfolding gather_timed
gather_timed_good h op io k timed got =
    either h op got (is_too_short h op timed) (ended h (Silent k)) (gathers h op io.got timed (not_of k io.awaited))
    (turned_good h op _ got (ends _ _ _ _ _ tt)) (gathers_good h op io.got timed _ got)

scatter_timed_good : (h : Held) (op : CallOp) (io : Io) (queue : List Store) (k : ℕ) (timed : List TimedOut) (got : List Column) →
    AreApart io.awaited → GoodMoved h op (scatter_timed h op io queue k timed) got
unfolding scatter_timed
scatter_timed_good h op io queue k timed got x =
    either h op got (is_too_short h op timed) (turned h (closing (Silent k) (report_of h timed)))
    (scatters_on h op timed (without_component k queue) [] (not_of k io.awaited))
    (turned_good h op _ got (goes _ _ _ _ _ tt)) (scatters_on_good h op timed _ [] _ got (rest_apart k io.awaited x))

pub timed_good : (h : Held) (op : CallOp) (p : Phase) (k : ℕ) (a : Awaited) (xs : List Awaited) (got : List Column) →
    IsChecked h.map → GoodPhase h op p got →
    GoodMoved h op (timed_out h op p k a xs) got
timed_good h op (Reads io) k a xs got ch g =
    rw (sym g.1)
    (reads_good h op io.got _ _ ch g.0 (rest_read io.awaited k g.2) (rest_below (nonce_at h h.count) k io.awaited g.3.nonces))
timed_good h op (Probes io) k a xs got ch g = rw (sym g.1) (probes_good h op io.got _ _ ch g.0 (rest_read io.awaited k g.2))
timed_good h op (Gathers io) k a xs got ch g = gather_timed_good h op io k _ got
timed_good h op (Scatters io queue) k a xs got ch g = scatter_timed_good h op io queue k _ got g
timed_good h op Starts k a xs got ch g = turned_good h op _ got (goes _ _ _ _ _ g)
timed_good h op (Needs need) k a xs got ch g = turned_good h op _ got (goes _ _ _ _ _ g)
timed_good h op (Waits need) k a xs got ch g = turned_good h op _ got (goes _ _ _ _ _ g)

-- ---- the begin, and a commit

pub begins_good : (h : Held) (op : CallOp) → IsChecked h.map → GoodMoved h op (begins h op) []
unfolding begins
begins_good h op ch = elim (cases_Bool (is_write op)) [
  | inl t ↦ rw t (gathers_good h op [] [] [] [])
  | inr f ↦ elim (cases_eq (clipped h.size (span_of op)).length 0) [
    | inl z ↦ rw (f, eq-eqb (clipped h.size (span_of op)).length 0 z) (probes_good h op [] [] [] ch z tt)
    | inr n ↦
        rw (f, ne_eqb (clipped h.size (span_of op)).length 0 n)
        (reads_good h op [] [] [] ch (omega (arith, n)) tt (record { differ = tt; below = tt }))
  ]
]

not_committed_good : (h k : Held) (op : CallOp) (status detail : ℕ) (got : List Column) →
    GoodTurn h k op (not_committed status detail) got
unfolding not_committed
not_committed_good h k op status detail got = either_turn h k op got _ _ _ (forgets _ _ _ _ _ tt) (ends _ _ _ _ _ tt)

pub on_commit_good : (h : Held) (op : CallOp) (a : Answer) (timed : List TimedOut) (got : List Column) →
    GoodMoved h op (on_commit h op a timed) got
unfolding on_commit
on_commit_good h op a timed got =
    either h op got (status_of a.results == NFS4_OK) (committed h op a timed)
    (turned h (not_committed (status_of a.results) a.detail))
    (record { file = refl; map = refl; turn = accounted_good _ _ op timed got })
    (turned_good h op _ got (not_committed_good _ _ op _ _ got))
