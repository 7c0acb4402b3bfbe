-- At each moment of a history each client knows the sizes of its files.
use Rattle.std.proofs.Common.{◌≡◌, ◌⊎◌, ℕ, List, Option, Some, None, Ok, inl, inr, refl, sym, ap, subst, ◌∙◌}
use Rattle.osd_lists.specs.declared.node.Node.{Node}
use Rattle.osd_lists.proofs.Options.{same_some}
use Rattle.layout_ops.specs.declared.messages.Answer.{Answer}
use Rattle.scenario_text.specs.declared.line.Line.{Line}
use Rattle.client_rules.specs.Calls.{file_of}
use Rattle.client_rules.specs.Going.{quiet}
use Rattle.client_rules.specs.Grants.{held_of}
use Rattle.client_rules.specs.History.{Input, Hears, Calls, TimesOut, Leaves, Resends, step as client_step}
use Rattle.client_rules.specs.Layouts.{taken}
use Rattle.client_rules.specs.Messages.{Message, TakesAnswer, takes, on_call}
use Rattle.client_rules.specs.Results.{status_of}
use Rattle.server_rules.specs.Files.{file_at}
use Rattle.server_rules.specs.Grants.{grant_of}
use Rattle.server_rules.specs.Laws.{SlotsAreKept}
use Rattle.server_rules.specs.Slots.{slot_of}
use Rattle.server_rules.proofs.FileLaws.{number_at}
use Rattle.world_history.specs.ClientNames.{Client, CallOp, Held, Request, TimedOut, Get, Commit, Phase, Waits}
use Rattle.world_history.specs.ServerNames.{Server, File, Grant, Slot}
use Rattle.world_history.specs.History.{OneEventMore}
use Rattle.world_history.specs.State.{World, ClientAt, at_number}
use Rattle.history_law.specs.Grants.{GrantsAreSafe}
use Rattle.history_law.specs.BookMoments.{IsMoment}
use Rattle.exchange_law.specs.Doing.{IsHeardByClient}
use Rattle.exchange_law.specs.InStep.{state_of, client_of}
use Rattle.exchange_law.specs.Taking.{AnswersAreOwn, TakesOwn}
use Rattle.exchange_law.proofs.Each.{clients_are_in_step}
use Rattle.exchange_law.proofs.Granted.{taken_covers}
use Rattle.exchange_law.specs.Calls.{Knows, CallFine}
use Rattle.exchange_law.specs.Meeting.{KeptGood, IsMet, IsReadableThrough, ClientsAgree}
use Rattle.exchange_law.proofs.ClientsWalk.{holds_always}
use Rattle.exchange_law.proofs.HeldHearing.{made_file}
use Rattle.exchange_law.proofs.HeldWorlds.{none_held, none_kept, own_request, readable_fronts, readable_there, reached}
use Rattle.component_law.specs.Sizes.{IsCommitted, SizesAgree}
use Rattle.component_law.proofs.PartyAnswering.{WaitsFor, Tells, taken_size, answer_goes}
use Rattle.component_law.proofs.Client.{IsCommitting, AskedFine, IsSized, finished_sized, behind, IsGood, step_keeps}
use Rattle.component_law.proofs.Knowing.{IsLate, Known, step_known}
use Rattle.component_law.proofs.Server.{IsSize, AnswersSized, step_sized}

-- what a client knows, and that it waits for its LAYOUTCOMMIT
pub record IsKnowing (s : Server) (c : ℕ) (x : Client) : Type 0 where
  pub known : Known s c x
  pub asked : AskedFine x.outstanding x.call

-- what the server keeps for clients tells the sizes as well
abbrev pub Know : Server → (c : ℕ) → Client → Type 0
Know s c x = AnswersSized s × IsKnowing s c x

-- ---- the file of the outstanding request

module _ (K : Knows) (hs : List Held) (r : Request) (op : CallOp) where
  get_file : (tries : ℕ) → CallFine K hs (Some r) (Some (record { op = op; phase = Waits (Get tries) }))
      → r.file ≡ file_of op
  get_file tries x =
      let same : x.1.1.request ≡ r = same_some _ _ (Some r) x.1.1.outstanding refl in
      ap (λ (q : Request). q.file) (sym same) ∙ x.1.1.file_is

  commit_file : (timed : List TimedOut)
      → CallFine K hs (Some r) (Some (record { op = op; phase = Waits (Commit timed) })) → r.file ≡ file_of op
  commit_file timed x =
      let same : x.1.asks.request ≡ r = same_some _ _ (Some r) x.1.asks.outstanding refl in
      ap (λ (q : Request). q.file) (sym same) ∙ x.1.asks.file_is

-- ---- a client's step

module _ (kept : SlotsAreKept) (more : OneEventMore) (safe : GrantsAreSafe) (own : AnswersAreOwn)
    (agree : ClientsAgree) where
  module _ (w : World) (h : List Line) (k : IsMoment w h) (t : IsReadableThrough h)
      (s : (c : ℕ) → Know w.server c (client_of w c)) (c : ℕ) (a : ClientAt) (found : at_number w.clients c ≡ Some a) where
    abbrev P : ℕ → ℕ → Type 0
    P n size = IsSize w.server c n size ⊎ IsLate w.server c a.state n

    abbrev R : Client → Type 0
    R x = IsKnowing w.server c x

    knowing : R a.state
    knowing = subst R (ap (state_of c) found) (s c).1

    met : IsMet w.server c a.state
    met = subst (IsMet w.server c) (ap (state_of c) found) (agree w h k t c)

    sized : IsSized P a.state.outstanding a.state
    sized = record { helds = λ n x e. knowing.known n x e; asked = knowing.asked; stays = λ r e. e }

    plain : (x : Client) → IsSized P a.state.outstanding x → R x
    plain x z = record { known = λ n y e. by n y.size (z.helds n y e); asked = z.asked }
      where
        by : (n size : ℕ) → P n size → IsSize w.server c n size ⊎ IsLate w.server c x n
        by n size (inl is) = inl is
        by n size (inr l) = inr (record {
          request = l.request;
          outstanding = z.stays l.request l.outstanding;
          commits = l.commits;
          file_is = l.file_is;
          slot = l.slot;
          kept = l.kept;
          last = l.last;
          on = l.on;
          done = l.done;
        })

    abbrev Q : ℕ → ℕ → Type 0
    Q n size = IsSize w.server c n size

    call_at : (r : Request) (op : CallOp) (p : Phase) → a.state.outstanding ≡ Some r
        → a.state.call ≡ Some (record { op = op; phase = p })
        → CallFine (KeptGood w.server c) a.state.held (Some r) (Some (record { op = op; phase = p }))
    call_at r op p out call =
        subst (CallFine (KeptGood w.server c) a.state.held (Some r)) call
        (subst (λ (o : Option Request). CallFine (KeptGood w.server c) a.state.held o a.state.call) out met.call)

    module _ (from : Node) (m : Message) (heard : IsHeardByClient w c (Hears from m)) (b : Answer)
        (takes_it : takes a.state from m ≡ Some (TakesAnswer b)) where
      it : TakesOwn w h c a.state heard.0.posted b
      it =
          own w h k c a found heard.0.number heard.0.posted heard.0.there heard.0.receiver m b heard.2
          (subst (λ (n : Node). takes a.state n m ≡ Some (TakesAnswer b)) heard.1 takes_it)

      exact : b ≡ it.slot.kept
      exact = it.exact ((readable_there w h k t).answers c it.slot it.kept)

      on_file : it.slot.kept.file ≡ it.request.file
      on_file =
          made_file h c it.request it.slot.kept
          ((readable_there w h k t).requests c it.request
          (ap (λ (o : Option ClientAt). (state_of c o).outstanding) found ∙ it.outstanding)) it.made

      -- the answer's size is that of the request's file
      its_size : Q it.request.file b.size
      its_size =
          subst (λ (n : ℕ). Q n b.size) on_file
          (subst (λ (y : Answer). Q it.slot.kept.file y.size) (sym exact) ((s c).0 c it.slot it.kept))

      old : (n : ℕ) (x : Held) → held_of a.state.held n ≡ Some x → Q n x.size ⊎ Tells a.state b n
      old n x e = by (knowing.known n x e)
        where
          by : P n x.size → Q n x.size ⊎ Tells a.state b n
          by (inl is) = inl is
          by (inr l) =
              let z : IsCommitting l.request a.state.call =
              (subst (λ (o : Option Request). AskedFine o a.state.call) l.outstanding knowing.asked) l.commits in
              let slot : l.slot ≡ it.slot = same_some _ _ (slot_of w.server.slots c) l.kept it.kept in
              inr (record {
                op = z.op;
                timed = z.timed;
                call = z.call;
                file_is = sym z.file ∙ l.file_is;
                done =
                    ap (λ (y : Answer). status_of y.results) exact
                    ∙ ap (λ (y : Slot). status_of y.kept.results) (sym slot) ∙ l.done;
              })

      new : (op : CallOp) (tries : ℕ) (x : Held) → WaitsFor a.state op (Get tries) → taken b op ≡ Ok x → Q x.file x.size
      new op tries x call e =
          subst (λ (n : ℕ). Q n x.size)
          (get_file (KeptGood w.server c) a.state.held it.request op tries
          (call_at it.request op (Waits (Get tries)) it.outstanding call) ∙ sym (taken_covers b op x e).0)
          (subst (λ (size : ℕ). Q it.request.file size) (sym (taken_size b op x e)) its_size)

      told : (op : CallOp) (timed : List TimedOut) → WaitsFor a.state op (Commit timed) → Q (file_of op) b.size
      told op timed call =
          subst (λ (n : ℕ). Q n b.size)
          (commit_file (KeptGood w.server c) a.state.held it.request op timed
          (call_at it.request op (Waits (Commit timed)) it.outstanding call)) its_size

      answered : R (behind P R a.state sized plain b)
      answered =
          let z : IsSized Q None (behind P R a.state sized plain b) =
          finished_sized Q None (on_call (quiet (record a.state { outstanding = None })) a.state.call b)
          (answer_goes Q a.state b old new told a.state.call refl) in
          record { known = λ n x e. inl (z.helds n x e); asked = z.asked }

    good : (i : Input) → IsHeardByClient w c i → IsGood P R a.state sized plain i
    good (Hears from m) heard = λ b e. answered from m heard b e
    good (Calls op) heard = tt
    good (TimesOut j) heard = tt
    good Leaves heard = tt
    good Resends heard = tt

    pub client_knows : (i : Input) → IsHeardByClient w c i → R (client_step a.state i).client
    client_knows i heard = step_keeps P R a.state sized plain i (good i heard)

  -- ---- at each moment

  knows : (w : World) (h : List Line) → IsMoment w h → IsReadableThrough h → (c : ℕ) → Know w.server c (client_of w c)
  knows =
      holds_always Know IsReadableThrough (record {
        front = readable_fronts;
        starts = λ c. (
          λ d slot e. absurd (none_kept d slot e),
          record { known = λ n h e. absurd (none_held n h e); asked = tt },
        );
        client = λ w h k t s c a found i heard. ((s c).0, client_knows w h k t s c a found i heard);
        server = λ w h k m d t later s g c.
            let safe_there = safe w (reached w h k) in (
              step_sized w.server m.chosen g.input safe_there (s c).0,
              record {
                known =
                    step_known w.server m.chosen g.input c (client_of w c) safe_there (agree w h k t c)
                    (own_request (clients_are_in_step kept more) w h k (readable_there w h k t) c g.input g.heard)
                    (s c).1.known;
                asked = (s c).1.asked;
              },
            );
      }) more

  late_commits : (w : World) (c n : ℕ) (f : File) (g : Grant) → AnswersSized w.server → file_at w.server.files n ≡ Some f
      → grant_of f.kept.grants c ≡ Some g → IsLate w.server c (client_of w c) n
      → IsCommitted w.server c (client_of w c) f
  late_commits w c n f g answers at has l = record {
    request = l.request;
    outstanding = l.outstanding;
    commits = l.commits;
    file = l.file_is ∙ sym (number_at w.server.files n f at);
    slot = l.slot;
    kept = l.kept;
    last = l.last;
    done = l.done;
    size = answers c l.slot l.kept f g (ap (file_at w.server.files) l.on ∙ at) has;
  }

  pub sizes_agree : SizesAgree
  sizes_agree w h k t c n x f g held at has = by (s.1.known n x held)
    where
      s : Know w.server c (client_of w c)
      s = knows w h k t c

      by : IsSize w.server c n x.size ⊎ IsLate w.server c (client_of w c) n
          → (x.size ≡ f.kept.size) ⊎ IsCommitted w.server c (client_of w c) f
      by (inl is) = inl (is f g at has)
      by (inr l) = inr (late_commits w c n f g s.0 at has l)
