-- A client's turn behind its first line: the line that tells how the call ended, and then the messages.
-- Towards `CutsShowEntries` (`specs/Parts.antt`).
use Rattle.std.proofs.Common.{◌≡◌, ◌⊎◌, ◌==◌, ◌||◌, ◌&&◌, not, if◌then◌else◌, ◌≤◌, ◌+◌, ℕ, zero, suc, Bool, true, false, List, [], ◌∷◌, ◌++◌, length, map, Option, Some, None, refl, sym, ap, subst, ◌∙◌, arith}
use Rattle.server_rules.specs.Laws.{In}
use Rattle.client_rules.specs.Calls.{file_of, is_write}
use Rattle.client_rules.specs.Grants.{held_of}
use Rattle.client_rules.specs.Messages.{Step, to_drive}
use Rattle.world_history.specs.ClientNames.{Client, Call, CallOp, Held, Awaited, Request, RecallAnswer, Outgoing, AnswersRecall, Asks, Outcome, Phase}
use Rattle.world_history.specs.Handed.{is_write_out}
use Rattle.world_history.specs.ReadLog.{Log, entry_in}
use Rattle.world_history.specs.State.{at_number}
use Rattle.fence_law.specs.Machine.{after, after_all}
use Rattle.fence_law.specs.State.{State, Grant, Event, Start}
use Rattle.fence_law.specs.State.{Event as event}
use Rattle.fence_law.specs.State.RequestKind.{Get, Return}
use Rattle.layout_ops.specs.declared.args.Args.{Args}
use Rattle.layout_ops.specs.declared.args.Args.TheVariants as args
use Rattle.file_simulation.specs.ClientEvents as table
use Rattle.file_simulation.specs.EventLists.{write_of, last_write}
use Rattle.file_simulation.specs.Requests.{RequestClass, Own, Other, phase_of, return_class}
use Rattle.file_simulation.specs.Showing.{Pairs}
use Rattle.relation_law.specs.CallsTurns.{IsWorking}
use Rattle.relation_law.specs.Frames.{AreAll}
use Rattle.relation_law.proofs.CallsTells.{told, told_more, recalls_told}
use Rattle.relation_law.proofs.FramesClient.{either_all, grant_all}
use Rattle.relation_law.proofs.FramesStay.{related_by_all}
use Rattle.file_simulation.specs.Tied.{PhaseTied}
use Rattle.headline_law.proofs.EntriesCalls.{Stands, CallAs}
use Rattle.headline_law.proofs.EntriesSends.{More, CommandIs, stands_on}
use Rattle.headline_law.proofs.EntriesEnds.{OutcomeTied}
use Rattle.headline_law.proofs.EntriesMessages.{AllToServer, machine_to, log_to, machine_next, log_next, server_logs, server_silent}

-- ---- what a turn is to the entries

-- a call that sends no command behind its turn is tied by its phase; one that sends some asks the server nothing, and sends
-- them under the grant that the machine's client holds
pub record Commanding (file c : ℕ) (t : State) (pairs : Pairs) (o : Option ℕ) (x : Client) (call : Call)
    (requests : List Request) (commands : List Awaited) : Type 0 where
  pub alone : requests ≡ []
  pub works : IsWorking call.phase
  pub at_ : CallAs pairs (is_write call.op) o (t.call c)
  pub held : Held
  pub holds : held_of x.held file ≡ Some held
  pub grant : Grant
  pub has : t.held c ≡ Some grant
  pub each : (a : Awaited) → In a commands → CommandIs grant (is_write call.op) a.command

abbrev pub CallSends : (file c : ℕ) → State → Pairs → Option ℕ → Client → Call → List Request → List Awaited → Type 0
CallSends file c t pairs o x call requests commands =
    ((commands ≡ []) × PhaseTied t c pairs o call.phase × (IsWorking call.phase → requests ≡ []))
    ⊎ Commanding file c t pairs o x call requests commands

-- `o` is the entry of the call before the turn, and `t` the machine behind the first line
pub record TurnTied (file c : ℕ) (t : State) (pairs : Pairs) (o : Option ℕ) (op : Option CallOp) (d : Step) : Type 0 where
  pub ended : (u : Outcome) (p : CallOp) → d.outcome ≡ Some u → op ≡ Some p → (file_of p == file) ≡ true →
      OutcomeTied t c p pairs o u
  pub recalls : List RecallAnswer
  pub requests : List Request
  pub commands : List Awaited
  pub sends : d.sends ≡ map AnswersRecall recalls ++ (map Asks requests ++ map to_drive commands)
  pub over : (u : Outcome) → d.outcome ≡ Some u → d.client.call ≡ None
  pub about : (u : Outcome) → d.outcome ≡ Some u → (p : CallOp) × (op ≡ Some p)
  pub goes : (call : Call) → d.client.call ≡ Some call → (file_of call.op == file) ≡ true →
      CallSends file c t pairs o d.client call requests commands

-- ---- lists

pub to_servers : (rs : List RecallAnswer) (qs : List Request) → AllToServer (map AnswersRecall rs ++ map Asks qs)
to_servers [] [] = tt
to_servers [] (q ∷ qs) = (tt, to_servers [] qs)
to_servers (r ∷ rs) qs = (tt, to_servers rs qs)

-- ---- up to a line

-- behind some lines of a turn the entries are paired, with at least these pairs
pub record Reaches (file : ℕ) (u : State) (m : Log) (old : Pairs) : Type 0 where
  pub pairs : Pairs
  pub more : More old pairs
  pub stands : Stands file u m pairs

abbrev pub stays_so : (file : ℕ) (t : State) (l : Log) (pairs : Pairs) → Stands file t l pairs → Reaches file t l pairs
stays_so file t l pairs k = record { pairs = pairs; more = λ i j n. n; stands = k }

-- and the client's call is tied there, or is as its commands leave it
abbrev pub EndTied : (file c : ℕ) → State → Log → Pairs → Client → Type 0
EndTied file c u m pairs x =
    (call : Call) → x.call ≡ Some call → (file_of call.op == file) ≡ true →
    PhaseTied u c pairs (entry_in (at_number m.pending c)) call.phase
    ⊎ (IsWorking call.phase × CallAs pairs (is_write call.op) (entry_in (at_number m.pending c)) (u.call c))

-- ---- requests

-- a request leaves all entries, and the machine's client where it is, or at nothing
abbrev pub IsRequest : Event → Type 0
IsRequest (event.Asks c rw) = Unit {0}
IsRequest (event.AsksOther c) = Unit {0}
IsRequest (event.AsksCommit c j) = Unit {0}
IsRequest (event.GivesBack c g) = Unit {0}
IsRequest (event.Reports c g) = Unit {0}
IsRequest e = ⊥

abbrev pub SameEntries : (s t : State) → Type 0
SameEntries s t = (t.count ≡ s.count) × (t.start ≡ s.start)

request_one : (s : State) (e : Event) → IsRequest e → SameEntries s (after s e)
request_one s (event.Asks c rw) k = (refl, refl)
request_one s (event.AsksOther c) k = (refl, refl)
request_one s (event.AsksCommit c j) k = (refl, refl)
request_one s (event.GivesBack c g) k = (refl, refl)
request_one s (event.Reports c g) k = (refl, refl)
request_one s e k = absurd k

requests_same : (s : State) (es : List Event) → AreAll IsRequest es → SameEntries s (after_all s es)
requests_same s es a =
    related_by_all IsRequest SameEntries (λ s. (refl, refl)) (λ s t u p q. (q.0 ∙ p.0, q.1 ∙ p.1)) request_one s es a

returns_are : (t : State) (c : ℕ) (class : RequestClass) → AreAll IsRequest (table.returns t c class)
returns_are t c (Own (Return true)) = grant_all IsRequest (t.held c) _ (λ g. (tt, tt))
returns_are t c (Own (Return false)) = grant_all IsRequest (t.held c) _ (λ g. (tt, tt))
returns_are t c (Own (Get rw)) = tt
returns_are t c Other = (tt, tt)

asks_are : (t : State) (c : ℕ) (p : Option Phase) (a : Args) → AreAll IsRequest (table.asks_here t c p a)
asks_are t c p (args.LayoutGet x) = (tt, tt)
asks_are t c p (args.LayoutCommit x) = (tt, (tt, tt))
asks_are t c p (args.LayoutReturn x) = returns_are t c (return_class p)

asked_same : (file c : ℕ) (x : Client) (qs : List Request) (t : State) → SameEntries t (told t file c x (map Asks qs))
unfolding told
asked_same file c x [] t = (refl, refl)
asked_same file c x (q ∷ qs) t =
    let u : State = after_all t (table.sends t file c x (Asks q)) in
    let one = requests_same t (table.sends t file c x (Asks q))
    (either_all IsRequest (q.file == file) _ _ (asks_are t c (phase_of x.call) q.args) (tt, tt)) in
    let rest = asked_same file c x qs u in (rest.0 ∙ one.0, rest.1 ∙ one.1)

pub recalled_same : (file c : ℕ) (x : Client) (rs : List RecallAnswer) (qs : List Request) (t : State) →
    SameEntries t (told t file c x (map AnswersRecall rs ++ map Asks qs))
recalled_same file c x rs qs t =
    subst (SameEntries t) (sym (told_more t file c x (map AnswersRecall rs) (map Asks qs)))
    (subst (λ (u : State). SameEntries t (told u file c x (map Asks qs))) (sym (recalls_told t file c x rs))
    (asked_same file c x qs t))

-- the last write is the same one
pub same_write : (s t : State) (c : ℕ) → SameEntries s t → write_of t c ≡ write_of s c
same_write s t c k =
    ap (λ (f : ℕ → Start). last_write f c t.count) k.1 ∙ ap (last_write s.start c) k.0

-- ---- the first messages go to the server

-- what the others reach is reached behind these too
pub behind_front : (file c : ℕ) (x : Client) (xs ys : List Outgoing) → AllToServer xs → (t : State) (l : Log) (pairs : Pairs) →
    Stands file t l pairs → (logged : ℕ) → (E : State → Log → Pairs → Type 0) →
    ((wrote : Bool) (number n : ℕ) → Stands file (told t file c x xs) l pairs → (r : Reaches file
    (machine_to (told t file c x xs) file c x ys n) (log_to l c wrote logged number ys n) pairs)
    × (length ys ≤ n → E (machine_to (told t file c x xs) file c x ys n) (log_to l c wrote logged number ys n) r.pairs)) →
    (wrote : Bool) (number n : ℕ) → (r : Reaches file (machine_to t file c x (xs ++ ys) n)
    (log_to l c wrote logged number (xs ++ ys) n) pairs)
    × (length (xs ++ ys) ≤ n → E (machine_to t file c x (xs ++ ys) n) (log_to l c wrote logged number (xs ++ ys) n) r.pairs)
unfolding told
behind_front file c x [] ys all t l pairs k logged E later wrote number n = later wrote number n k
behind_front file c x (a ∷ xs) ys all t l pairs k logged E later wrote number zero = (
  stays_so file t l pairs k,
  λ low. absurd (omega (arith, low)),
)
behind_front file c x (a ∷ xs) ys all t l pairs k logged E later wrote number (suc n) =
    let size : ℕ = if is_write_out a && not wrote then logged else 0 in
    let u : State = after_all t (table.sends t file c x a) in
    let same : log_to l c wrote logged number (a ∷ (xs ++ ys)) (suc n)
    ≡ log_to l c (wrote || is_write_out a) logged (number + 1) (xs ++ ys) n =
    log_next l c wrote logged number a (xs ++ ys) n
    ∙ ap (λ (m : Log). log_to m c (wrote || is_write_out a) logged (number + 1) (xs ++ ys) n)
    (server_logs l number c size a all.0) in
    let r = behind_front file c x xs ys all.1 u l pairs
    (stands_on file t l pairs (table.sends t file c x a) (server_silent t file c x a all.0) k) logged E later
    (wrote || is_write_out a) (number + 1) n in
    let whole : Type 0 = length (a ∷ (xs ++ ys)) ≤ suc n in
    subst
    (λ (v : State). (r : Reaches file v (log_to l c wrote logged number (a ∷ (xs ++ ys)) (suc n)) pairs)
    × (length (a ∷ (xs ++ ys)) ≤ suc n → E v (log_to l c wrote logged number (a ∷ (xs ++ ys)) (suc n)) r.pairs))
    (sym (machine_next t file c x a (xs ++ ys) n))
    (subst
    (λ (m : Log). (r : Reaches file (machine_to u file c x (xs ++ ys) n) m pairs)
    × (length (a ∷ (xs ++ ys)) ≤ suc n → E (machine_to u file c x (xs ++ ys) n) m r.pairs)) (sym same)
    (r.0, λ low. r.1 (omega (arith, low))))
