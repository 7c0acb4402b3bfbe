-- What a move of a call's event comes to: few messages, each of them short; it tells no loss; and the log keeps no more.
use Rattle.cause_law.proofs.Frames.{delivered_act}
use Rattle.cause_law.proofs.MadeCommands.{IsMade, MovedMade, TurnMade}
use Rattle.client_rules.specs.Calls.{file_of, is_write, span_of}
use Rattle.client_rules.specs.Commands.{action_of, command, sealed}
use Rattle.client_rules.specs.Going.{request_of}
use Rattle.client_rules.specs.Grants.{clipped}
use Rattle.client_rules.specs.Messages.{Step as ClientStep, to_drive}
use Rattle.client_rules.specs.Requests.{commit_args}
use Rattle.data_map.specs.Striping.{stripe_length}
use Rattle.data_map.specs.declared.check.RawMap.{RawMap}
use Rattle.exchange_law.specs.Doing.{posted}
use Rattle.generate_law.proofs.KeptSizes.{Commits, IsPlain, command_size, judged_short, plain_request, reply_size}
use Rattle.generate_law.specs.Kept.{BYTES_A_MESSAGE}
use Rattle.layout_ops.specs.declared.args.Args.{Args}
use Rattle.load_law.specs.Load.{reached, stripes_reached}
use Rattle.osd_commands.specs.Commands.{reading, spelling}
use Rattle.osd_commands.specs.declared.actions.Action.{Action}
use Rattle.osd_commands.specs.declared.actions.Action.TheVariants.{Read as ReadAction, Write as WriteAction}
use Rattle.osd_commands.specs.declared.commands.Command.{Command}
use Rattle.osd_commands.specs.declared.replies.Reply.{Reply}
use Rattle.osd_lists.specs.declared.node.Node.{Node}
use Rattle.ready_law.proofs.AskingForms.{Steps}
use Rattle.ready_law.proofs.WorkingMessages.{posted_length}
use Rattle.ready_law.specs.Stepping.{Commits as CommitsSize, IsDone as EndsAll, Reports as ReportsLoss, StepsWell, WorksOn, asks_step, holding}
use Rattle.std.proofs.Common.{ℕ, Bool, List, None, Ok, Option, Some, [], ap, arith, false, filter, if◌then◌else◌, inl, inr, length, map, refl, slice_get, subst, suc, sym, true, ◌*◌, ◌++◌, ◌+◌, ◌-◌, ◌/◌, ◌||◌, ◌∙◌, ◌∷◌, ◌≡◌, ◌≤◌, ◌⊎◌}
use Rattle.std.proofs.Math.Nat.{div-le_self}
use Rattle.std.proofs.lemmas.Bool.{cases_Bool, cases_eq, ne_eqb}
use Rattle.std.proofs.lemmas.List.FromFn.{length-range_with_len}
use Rattle.std.specs.List.{AllByRecursion}
use Rattle.stripe_plan.specs.Lost.{among}
use Rattle.stripe_plan.specs.Touched.{stripes}
use Rattle.stripe_plan.specs.declared.plan.Span.{Span}
use Rattle.world_history.specs.ClientNames.{Asks, Awaited, CallOp, Client, Commit, Goes, Held, Moved, Need, Outgoing, Request}
use Rattle.world_history.specs.Drives.{command_in, is_deaf, judges}
use Rattle.world_history.specs.Handed.{Handed, Post, client_body, client_posts, drive_hears, drive_replies, handed_to, is_addressed, is_write_out, quiet}
use Rattle.world_history.specs.Moves.{Act, Delivers, acts, marked, told_delivered}
use Rattle.world_history.specs.Sending.{Move}
use Rattle.world_history.specs.Spelled.{size, spelled}
use Rattle.world_history.specs.State.{ClientAt, DriveAt, World, at_number}
use Rattle.world_history.specs.declared.messages.Body.TheVariants.{Command as OfCommand}
use Rattle.world_history.specs.declared.messages.Message.{Message}
use Rattle.world_history.specs.declared.messages.Posted.{Posted}
use Rattle.scenario_text.specs.declared.line.Delivery.TheVariants as delivery
use Rattle.osd_lists.specs.declared.node.Node.TheVariants as node

-- ---- what is sent

-- a message has few bytes
abbrev pub IsShort : Message → Type 0
IsShort x = size x ≤ BYTES_A_MESSAGE

-- more messages than any move of the scenario sends at once
abbrev pub MOST_AT_ONCE : ℕ
MOST_AT_ONCE = 8000000

-- the move sends not too many messages, and each is short
pub record SendsLittle (w : World) (m : Move) : Type 0 where
  pub count : length (acts w m.chosen m.action).posts ≤ MOST_AT_ONCE
  pub short : AllByRecursion IsShort (posted (acts w m.chosen m.action).posts)

pub little_of : (w : World) (m : Move) (ms : List Message) → posted (acts w m.chosen m.action).posts ≡ ms
    → length ms ≤ MOST_AT_ONCE → AllByRecursion IsShort ms → SendsLittle w m
little_of w m ms is few short = record {
  count = omega (arith, posted_length (acts w m.chosen m.action).posts, ap (λ (xs : List Message). length xs) is, few);
  short = subst (AllByRecursion IsShort) (sym is) short;
}

filter_short : (p : Post → Bool) (ps : List Post) → AllByRecursion IsShort (posted ps)
    → AllByRecursion IsShort (posted (filter p ps)) × (length (filter p ps) ≤ length ps)
filter_short p [] s = (tt, omega arith)
filter_short p (x ∷ ps) s =
    let rest = filter_short p ps s.1 in
    elim (cases_Bool (p x)) [
      | inl t ↦ rw t ((s.0, rest.0), omega (arith, rest.1))
      | inr f ↦ rw f (rest.0, omega (arith, rest.1))
    ]

-- ---- what a client sends

abbrev pub IsShortOut : Outgoing → Type 0
IsShortOut o = length (spelled (client_body o)) ≤ BYTES_A_MESSAGE

client_short : (c : ℕ) (wrote : Bool) (logged : ℕ) (os : List Outgoing) → AllByRecursion IsShortOut os
    → AllByRecursion IsShort (posted (client_posts c wrote logged os)) × (length (client_posts c wrote logged os) ≡ length os)
client_short c wrote logged [] s = (tt, refl)
client_short c wrote logged (o ∷ os) s =
    let rest = client_short c (wrote || is_write_out o) logged os s.1 in
    ((s.0, rest.0), ap suc rest.1)

pub client_little : (w : World) (m : Move) (c : ℕ) (before : ClientAt) (op : Option CallOp) (t : ClientStep)
    → Steps w m c before op t → (os : List Outgoing) → t.sends ≡ os → length os ≤ MOST_AT_ONCE → AllByRecursion IsShortOut os
    → SendsLittle w m
client_little w m c before op t st os is few short =
    let a = client_short c st.wrote st.logged os short in
    let b = filter_short is_addressed (client_posts c st.wrote st.logged os) a.0 in
    let posts : (acts w m.chosen m.action).posts ≡ filter is_addressed (client_posts c st.wrote st.logged os) =
    st.posts ∙ ap (λ (xs : List Outgoing). filter is_addressed (client_posts c st.wrote st.logged xs)) is in
    record {
      count = omega (arith, ap (λ (ps : List Post). length ps) posts, b.1, a.1, few);
      short = subst (λ (ps : List Post). AllByRecursion IsShort (posted ps)) (sym posts) b.0;
    }

-- a request alone
pub asks_little : (w : World) (m : Move) (c : ℕ) (before : ClientAt) (op : Option CallOp) (t : ClientStep)
    → Steps w m c before op t → (k : Client) (its : CallOp) (n : Need) (a : Args) → t ≡ asks_step k its n a → IsPlain a
    → SendsLittle w m
asks_little w m c before op t st k its n a is plain =
    let q : Request = request_of k (file_of its) a in
    client_little w m c before op t st (Asks q ∷ []) (ap (λ (x : ClientStep). x.sends) is) (omega arith)
    (omega (arith, plain_request q plain), tt)

-- nothing
pub silent_little : (w : World) (m : Move) → (acts w m.chosen m.action).posts ≡ [] → SendsLittle w m
silent_little w m none = little_of w m [] (ap posted none) (omega arith) tt

-- ---- commands

command_payload : (h : Held) (n : ℕ) (y : Awaited) → IsMade h n y → length y.command.payload ≤ n
unfolding command sealed
command_payload h n y it =
    let same : length y.command.payload ≡ length it.store.bytes = ap (λ (z : Awaited). length z.command.payload) it.is in
    omega (arith, same, few it.write it.carries.0 it.carries.1)
  where
    few : (b : Bool) → length it.store.bytes ≡ (if b then it.store.ask.length else 0) → it.store.ask.length ≤ n
        → length it.store.bytes ≤ n
    few true e l = omega (arith, e, l)
    few false e l = omega (arith, e)

pub command_length : (h : Held) (n : ℕ) (y : Awaited) → IsMade h n y → y.command.length ≤ n
unfolding command sealed
command_length h n y it =
    let same : y.command.length ≡ it.store.ask.length = ap (λ (z : Awaited). z.command.length) it.is in
    omega (arith, same, it.carries.1)

reads_or_writes : (b : Bool) → (action_of b ≡ ReadAction) ⊎ (action_of b ≡ WriteAction)
reads_or_writes true = inr refl
reads_or_writes false = inl refl

pub command_action : (h : Held) (n : ℕ) (y : Awaited) → IsMade h n y
    → (y.command.action ≡ ReadAction) ⊎ (y.command.action ≡ WriteAction)
unfolding command sealed
command_action h n y it =
    subst (λ (a : Action). (a ≡ ReadAction) ⊎ (a ≡ WriteAction)) (sym (ap (λ (z : Awaited). z.command.action) it.is))
    (reads_or_writes it.write)

commands_short : (h : Held) (n : ℕ) (xs : List Awaited) → n ≤ 1000 → AllByRecursion (IsMade h n) xs
    → AllByRecursion IsShortOut (map to_drive xs) × (length (map to_drive xs) ≡ length xs)
commands_short h n [] few made = (tt, refl)
commands_short h n (x ∷ xs) few made =
    let rest = commands_short h n xs few made.1 in
    ((omega (arith, command_size x.command, command_payload h n x made.0, few), rest.0), ap suc rest.1)

all_behind : (P : Awaited → Type 0) (xs ys : List Awaited) → AllByRecursion P (xs ++ ys) → AllByRecursion P ys
all_behind P [] ys k = k
all_behind P (x ∷ xs) ys k = all_behind P xs ys k.1

none_gone : (lost : List ℕ) (k : ℕ) → lost ≡ [] → among k lost ≡ true → ⊥
none_gone [] k none e = absurd (cc e)
none_gone (x ∷ xs) k none e = absurd (cc none)

-- a step that deals with drives, where nothing is lost
pub works_little : (w : World) (m : Move) (c : ℕ) (before : ClientAt) (o : Option CallOp) (t : ClientStep)
    → Steps w m c before o t → (k : Client) (h : Held) (op : CallOp) (lost : List ℕ) (rest : List Awaited) (mv : Moved)
    → StepsWell k h op lost rest mv t → lost ≡ [] → (n : ℕ) → n ≤ 1000 → MovedMade h n mv
    → length mv.sent ≤ MOST_AT_ONCE → SendsLittle w m
works_little w m c before o t st k h op lost rest mv (WorksOn p goes g is) none n few made most =
    let turn : TurnMade h n (Goes p) = subst (TurnMade h n) goes made.turn in
    let all : AllByRecursion (IsMade h n) (rest ++ mv.sent) = subst (AllByRecursion (IsMade h n)) g.awaited turn.0 in
    let short = commands_short h n mv.sent few (all_behind (IsMade h n) rest mv.sent all) in
    client_little w m c before o t st (map to_drive mv.sent) (ap (λ (x : ClientStep). x.sends) is)
    (omega (arith, short.1, most)) short.0
works_little w m c before o t st k h op lost rest mv (EndsAll e over well low is) none n few made most =
    client_little w m c before o t st [] (ap (λ (x : ClientStep). x.sends) is) (omega arith) tt
works_little w m c before o t st k h op lost rest mv (CommitsSize timed past it is) none n few made most =
    asks_little w m c before o t st (holding k h) op (Commit timed) (commit_args h op) is (Commits h op refl)
works_little w m c before o t st k h op lost rest mv (ReportsLoss u timed turns low it is) none n few made most =
    absurd (none_gone lost u.ask.component none it.well.each.0.gone)

-- ---- how many commands

many_stripes : (m : RawMap) (r : Span) → r.offset + r.length ≤ 262144 → length (stripes m r) ≤ 262145
unfolding stripes
many_stripes m r low = elim (cases_eq r.length 0) [
  | inl none ↦ rw none (omega arith)
  | inr some ↦
      rw (ne_eqb r.length 0 some)
      (omega (
        arith,
        length-range_with_len (r.offset / stripe_length m)
            ((r.offset + r.length - 1) / stripe_length m + 1 - r.offset / stripe_length m),
        div-le_self (r.offset + r.length - 1) (stripe_length m),
        low,
      ))
]

pub not_many : (h : Held) (op : CallOp) (l : ℕ) → l ≤ 6 * h.map.comps * stripes_reached h op → h.map.comps ≡ 5
    → (span_of op).offset + (span_of op).length ≤ 262144 → l ≤ MOST_AT_ONCE
not_many h op l most five low =
    let few : length (stripes h.map (reached h op)) ≤ 262145 = many_stripes h.map (reached h op) (within (is_write op)) in
    let all : l ≤ 6 * 5 * stripes_reached h op = subst (λ (n : ℕ). l ≤ 6 * n * stripes_reached h op) five most in
    omega (arith, all, few)
  where
    within : (b : Bool) → (if b then span_of op else clipped h.size (span_of op)).offset
        + (if b then span_of op else clipped h.size (span_of op)).length ≤ 262144
    within true = low
    within false = omega (arith, low)

-- ---- a drive's reply

module _ (w : World) (m : Move) (number d : ℕ) (p : Posted) (c : Command) (action : m.action ≡ Delivers number)
    (found : slice_get w.network.messages number ≡ Some p) (to : p.message.to ≡ node.Drive d)
    (body : p.message.body ≡ OfCommand c) (read : reading (spelling c) ≡ Ok c)
    (kind : (c.action ≡ ReadAction) ⊎ (c.action ≡ WriteAction)) (few : c.length ≤ 1000) where
  abbrev after : World
  after = marked w number p

  to_drive_is : acts w m.chosen m.action ≡ told_delivered number (drive_hears after d p.message (at_number w.drives d))
  to_drive_is =
      ap (acts w m.chosen) action ∙ delivered_act w m.chosen number p found
      ∙ ap (λ (n : Node). told_delivered number (handed_to after m.chosen p.message n)) to

  abbrev Little : Handed → Type 0
  Little x = (length x.posts ≤ MOST_AT_ONCE) × AllByRecursion IsShort (posted x.posts)

  command_is : command_in p.message.body ≡ Ok c
  command_is = ap command_in body ∙ read

  one_reply : (a : DriveAt) → Little (drive_replies after d p.message.from (judges a (command_in p.message.body)))
  one_reply a =
      let r : Reply = (judges a (command_in p.message.body)).reply in
      (omega arith, (omega (arith, reply_size r, judged_short a (command_in p.message.body) c command_is kind, few), tt))

  heard : (a : Option DriveAt) → Little (drive_hears after d p.message a)
  heard None = (omega arith, tt)
  heard (Some a) = by (is_deaf a)
    where
      by : (b : Bool) → Little (if b then quiet after delivery.Deaf
          else drive_replies after d p.message.from (judges a (command_in p.message.body)))
      by true = (omega arith, tt)
      by false = one_reply a

  pub drive_little : SendsLittle w m
  drive_little =
      let x = heard (at_number w.drives d) in
      record {
        count = subst (λ (a : Act). length a.posts ≤ MOST_AT_ONCE) (sym to_drive_is) x.0;
        short = subst (λ (a : Act). AllByRecursion IsShort (posted a.posts)) (sym to_drive_is) x.1;
      }
