-- A commit that the server carries out names the end of the write that its client is at.
-- Towards `KeptGoesOn` (`specs/Steps.antt`).
use Rattle.std.proofs.Common.{◌≡◌, ◌==◌, ◌&&◌, ◌+◌, ◌-◌, ◌<◌, ℕ, Bool, true, false, List, [], ◌∷◌, Option, Some, None, refl, sym, ap, subst, ◌∙◌, arith}
use Rattle.std.proofs.lemmas.Bool.{true≢false, eq-eqb, eqb-false}
use Rattle.data_map.specs.declared.check.RawMap.{RawMap}
use Rattle.layout_types.specs.Grammar.{whole}
use Rattle.layout_types.specs.Reading.{ioerrs_in, update_in}
use Rattle.layout_ops.specs.declared.args.Args.{Args}
use Rattle.layout_ops.specs.declared.args.Args.TheVariants as args
use Rattle.layout_ops.specs.declared.args.LayoutCommitArgs.{LayoutCommitArgs}
use Rattle.layout_ops.specs.declared.messages.Answer.{Answer}
use Rattle.scenario_text.specs.Spelling.{Fits}
use Rattle.scenario_text.specs.declared.event.Event.{Event}
use Rattle.scenario_text.specs.declared.event.Event.TheVariants as event
use Rattle.scenario_text.specs.declared.line.Line.{Line}
use Rattle.scenario_text.specs.declared.line.Line.TheVariants as line
use Rattle.scenario_text.specs.declared.names.TheConstants.{CLIENTS}
use Rattle.client_rules.specs.Calls.{file_of, span_of, is_write}
use Rattle.client_rules.specs.Grants.{held_of}
use Rattle.client_rules.specs.Requests.{commit_args}
use Rattle.server_rules.specs.Envelopes.{asked_in}
use Rattle.world_history.specs.ClientNames.{Client, Call, CallOp, Held, Request, Need, First, Get, Commit, Report, Close, Phase, Starts, Needs, Waits, Reads, Probes, Gathers, Scatters, TimedOut}
use Rattle.world_history.specs.ServerNames.{RequestArgs, Commit as Commits}
use Rattle.world_history.specs.Moves.{Action, Opens, Delivers, TimesOut, Pends}
use Rattle.world_history.specs.Plans.{Rule, due_by}
use Rattle.world_history.specs.Sending.{Move, move}
use Rattle.world_history.specs.State.{World, ClientAt, at_number, empty_world}
use Rattle.world_history.proofs.Always.{opening, IsKept}
use Rattle.world_history.proofs.ReadMessages.{never_opens}
use Rattle.history_law.specs.BookMoments.{IsMoment}
use Rattle.exchange_law.specs.Calls.{Knows, CallFine, IsCall, Writes, PhaseFine, Commits as CommitsUnder}
use Rattle.exchange_law.specs.InStep.{state_of}
use Rattle.exchange_law.specs.Text.{AreOfText}
use Rattle.exchange_law.proofs.CountGrowing.{text_front, text_behind}
use Rattle.exchange_law.proofs.CountMoments.{at_moment}
use Rattle.cause_law.proofs.Moves.{AllClients, IsKeptGiven, Given, acts_go}
use Rattle.fence_law.specs.State.{State}
use Rattle.file_simulation.specs.Calls.{CallAt, CallOn, WaitsCommit}
use Rattle.file_simulation.specs.EventLists.{entry_in, entry_of}
use Rattle.relation_law.specs.Requests.{Works}
use Rattle.relation_law.specs.RequestsClients.{IsReturnOf, AsksBy, AsksFor}
use Rattle.relation_law.proofs.RequestsAsking.{works_due}
use Rattle.relation_law.proofs.RequestsServed.{commit_read, return_read}

-- ---- clients that are there have numbers that lines can name

abbrev HasNumber : ℕ → Type 0
HasNumber c = c < CLIENTS

abbrev AnyCall : CallOp → Type 0
AnyCall op = Unit {0}

abbrev IsNumbered : ℕ → Client → Type 0
IsNumbered c x = c < CLIENTS

numbers_kept : IsKeptGiven HasNumber AnyCall IsNumbered
numbers_kept = record { made = λ c named. named; steps = λ c x i named given. named }

given_event : (e : Event) → Fits e → Given HasNumber AnyCall (Opens e)
given_event (event.Client c) f = f.1.0
given_event e f = tt

given_rule : (w : World) (r : Rule) (action : Action) → due_by w r ≡ Some action → Given HasNumber AnyCall action
given_rule w r (Delivers number) due = tt
given_rule w r (TimesOut c component) due = tt
given_rule w r (Pends c) due = tt
given_rule w r (Opens e) due = absurd (never_opens w r e due)

abbrev AreNumbered : World → List Line → Type 0
AreNumbered w h = AreOfText h → AllClients IsNumbered w.clients

move_numbers : (w : World) (m : Move) → Given HasNumber AnyCall m.action → AllClients IsNumbered w.clients
    → AllClients IsNumbered (move w m).world.clients
move_numbers w m g all = acts_go HasNumber AnyCall IsNumbered numbers_kept w all m.chosen m.action g

none_there : AllClients IsNumbered empty_world.clients
none_there c a found = absurd (cc found)

all_numbered : IsKept AreNumbered
all_numbered = record {
  starts = λ text. none_there;
  opens =
      λ w h e chosen k allowed text.
      let lines = (move w (opening e chosen)).lines in
      move_numbers w (opening e chosen) (given_event e (text_behind h (line.Event e ∷ lines) text).0)
      (k (text_front h (line.Event e ∷ lines) text));
  moves =
      λ w h r m k due text.
      move_numbers w m (given_rule w r m.action due) (k (text_front h (move w m).lines text));
}

-- a client that there is has a number that lines can name
pub client_low : (w : World) (h : List Line) → IsMoment w h → AreOfText h → (c : ℕ) (a : ClientAt)
    → at_number w.clients c ≡ Some a → c < CLIENTS
client_low w h m text c a found = at_moment AreNumbered all_numbered w h m text c a found

-- so has one of whom a request is outstanding
pub asker_low : (w : World) (h : List Line) → IsMoment w h → AreOfText h → (c : ℕ) (r : Request)
    → (state_of c (at_number w.clients c)).outstanding ≡ Some r → c < CLIENTS
asker_low w h m text c r out =
    by_client (at_number w.clients c) (at_moment AreNumbered all_numbered w h m text c) out
  where
    by_client : (o : Option ClientAt) → ((a : ClientAt) → o ≡ Some a → c < CLIENTS)
        → (state_of c o).outstanding ≡ Some r → c < CLIENTS
    by_client None k e = absurd (cc e)
    by_client (Some a) k e = k a refl

-- ---- what the server reads as a commit is one

pub commit_asked : (a : Args) (b : RequestArgs) (last : Option ℕ) → asked_in a ≡ Some b → b ≡ Commits last
    → (z : LayoutCommitArgs) × (a ≡ args.LayoutCommit z) × (z.last_write_offset ≡ last)
commit_asked (args.LayoutGet g) b last e is = absurd (cc (e ∙ ap Some is))
commit_asked (args.LayoutReturn g) b last e is =
    let r = return_read (whole ioerrs_in g.body) b e in absurd (cc (sym r.1 ∙ is))
commit_asked (args.LayoutCommit z) b last e is =
    (z, refl, cc (sym (commit_read z.last_write_offset (whole update_in z.body) b e) ∙ is))

-- ---- it names the end of its call's write

behind_end : (n : ℕ) → (n ≡ 0 → ⊥) → (k : ℕ) → k + n - 1 + 1 ≡ k + n
behind_end n some k = omega (arith, some)

module _ (file : ℕ) (m : RawMap) (s : State) (c : ℕ) (x : Client) (o : Option Answer) (K : Knows) (r : Request)
    (out : x.outstanding ≡ Some r) (asks : AsksFor x) (here : r.file ≡ file) (a : LayoutCommitArgs)
    (commits : r.args ≡ args.LayoutCommit a) where
  abbrev EndsAt : Type 0
  EndsAt = (last : ℕ) → a.last_write_offset ≡ Some last → last + 1 ≡ (s.start (entry_of s c)).end_

  no_return : IsReturnOf [] r.args → EndsAt
  no_return back = absurd (cc (sym commits ∙ back.1))

  works : (op : CallOp) (p : Phase) → x.call ≡ Some (record { op = op; phase = p }) → Works p → EndsAt
  works op p is free = no_return (works_due x op p is free asks r out)

  module _ (op : CallOp) (timed : List TimedOut) (is_call : IsCall op)
      (f : CommitsUnder (K op (Commit timed)) (held_of x.held (file_of op)) (Some r) op)
      (at : CallOn (file_of op == file) m s c (record { op = op; phase = Waits (Commit timed) }) o) where
    same : r ≡ f.asks.request
    same = cc f.asks.outstanding

    on_file : file_of op ≡ file
    on_file = sym f.asks.file_is ∙ ap (λ (z : Request). z.file) (sym same) ∙ here

    waits : (j : ℕ) × WaitsCommit s c op timed o j
    waits = at_here (file_of op == file) (eq-eqb (file_of op) file on_file) at
      where
        at_here : (b : Bool) → b ≡ true → CallOn b m s c (record { op = op; phase = Waits (Commit timed) }) o
            → (j : ℕ) × WaitsCommit s c op timed o j
        at_here true e w = w
        at_here false e w = absurd (true≢false (sym e))

    some_bytes : (span_of op).length ≡ 0 → ⊥
    some_bytes =
        let writes : is_write op ≡ true = (subst (λ (z : Option Held). Writes z op) f.holds f.writes).0 in
        eqb-false (span_of op).length 0 (is_some (is_write op) writes is_call.some)
      where
        is_some : (b : Bool) → b ≡ true → (b && ((span_of op).length == 0)) ≡ false → ((span_of op).length == 0) ≡ false
        is_some true e z = z
        is_some false e z = absurd (true≢false (sym e))

    last_is : a.last_write_offset ≡ Some ((span_of op).offset + (span_of op).length - 1)
    last_is =
        let both : args.LayoutCommit a ≡ commit_args f.held op =
        sym commits ∙ ap (λ (z : Request). z.args) same ∙ f.asks.args_are in
        ap (λ (z : LayoutCommitArgs). z.last_write_offset) (args_same a _ both)
      where
        args_same : (u v : LayoutCommitArgs) → args.LayoutCommit u ≡ args.LayoutCommit v → u ≡ v
        args_same u v e = cc e

    ends_write : EndsAt
    ends_write last is =
        let w = waits.1.writing in
        let entry : entry_of s c ≡ waits.0 = ap entry_in w.at_ in
        let number : (span_of op).offset + (span_of op).length - 1 ≡ last = cc (sym last_is ∙ is) in
        ap (λ (n : ℕ). n + 1) (sym number)
        ∙ behind_end (span_of op).length some_bytes (span_of op).offset
        ∙ sym w.write.past ∙ ap (λ (j : ℕ). (s.start j).end_) (sym entry)

  by_need : (op : CallOp) (n : Need) → x.call ≡ Some (record { op = op; phase = Waits n }) → AsksBy n (args.LayoutCommit a)
      → IsCall op → PhaseFine K (held_of x.held (file_of op)) (Some r) op (Waits n)
      → CallOn (file_of op == file) m s c (record { op = op; phase = Waits n }) o → EndsAt
  by_need op First is asked call fine at = absurd (cc asked.1)
  by_need op (Get tries) is asked call fine at = absurd asked
  by_need op (Commit timed) is asked call fine at = ends_write op timed call fine at
  by_need op (Report timed) is asked call fine at = absurd (cc asked.1.1)
  by_need op (Close u report) is asked call fine at = absurd (cc asked.1)

  by_phase : (op : CallOp) (p : Phase) → x.call ≡ Some (record { op = op; phase = p }) → IsCall op
      → PhaseFine K (held_of x.held (file_of op)) (Some r) op p
      → CallOn (file_of op == file) m s c (record { op = op; phase = p }) o → EndsAt
  by_phase op (Waits n) is call fine at =
      let w = asks.waits op n is in
      let same_request : w.request ≡ r = cc (sym w.outstanding ∙ out) in
      let asked : AsksBy n r.args = subst (λ (z : Request). AsksBy n z.args) same_request w.asks in
      by_need op n is (subst (AsksBy n) commits asked) call fine at
  by_phase op Starts is call fine at = works op Starts is refl
  by_phase op (Needs n) is call fine at = works op (Needs n) is refl
  by_phase op (Reads io) is call fine at = works op (Reads io) is refl
  by_phase op (Probes io) is call fine at = works op (Probes io) is refl
  by_phase op (Gathers io) is call fine at = works op (Gathers io) is refl
  by_phase op (Scatters io queue) is call fine at = works op (Scatters io queue) is refl

  by_call : (z : Option Call) → x.call ≡ z → CallFine K x.held (Some r) z → CallAt file m s c o z → EndsAt
  by_call None is fine at = no_return (asks.due (λ op n wait. absurd (cc (sym is ∙ wait))) r out)
  by_call (Some call) is fine at = by_phase call.op call.phase is fine.0 fine.1 at

  -- the end of a commit that is outstanding
  pub commit_ends : CallFine K x.held x.outstanding x.call → CallAt file m s c o x.call → EndsAt
  commit_ends fine at =
      by_call x.call refl (subst (λ (z : Option Request). CallFine K x.held z x.call) out fine) at
