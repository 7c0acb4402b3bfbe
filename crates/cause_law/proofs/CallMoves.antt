-- The clients that are read off the lines of an act are the world's, and each line of a call that ends tells how it did.
use Rattle.std.proofs.Common.{◌≡◌, ℕ, ◌++◌, ◌∷◌, [], List, Bool, true, false, Option, Some, None, IsSome, ◌+◌, ◌&&◌, nat_lt, map, length, fold, option_map, refl, sym, ap, subst, ◌∙◌, append_assoc, inl, inr, if◌then◌else◌}
use Rattle.std.specs.List.{cons_option, filter_map}
use Rattle.std.proofs.lemmas.Bool.{cases_eq, eq-eqb, ne_eqb}
use Rattle.std.proofs.lemmas.List.{append-nil, map-append}
use Rattle.std.proofs.lemmas.List.Sums.{fold-append}
use Rattle.osd_objects.proofs.Entries.{lookup_set, lookup_set_beside}
use Rattle.world_history.specs.ClientNames.{CallOp, Outcome, WriteOk, ReadOk, NoFile, HeldBy, Fencing, Degraded, Spent, Status, Refused, Silent, Lost, BadLayout}
use Rattle.client_rules.specs.History as client
use Rattle.scenario_text.specs.declared.names.TheConstants.{FILES}
use Rattle.scenario_text.specs.declared.line.CallKind.{CallKind}
use Rattle.scenario_text.specs.declared.line.Ending.TheVariants as ending
use Rattle.scenario_text.specs.declared.line.Outcome.TheVariants as outcome
use Rattle.scenario_text.specs.declared.line.Note.{Note}
use Rattle.scenario_text.specs.declared.line.Refusal.{Refusal}
use Rattle.scenario_text.specs.declared.line.Line.{Line}
use Rattle.scenario_text.specs.declared.line.Line.TheVariants as line
use Rattle.world_history.specs.ServerNames as server_rules
use Rattle.world_history.specs.declared.messages.Posted.{Posted}
use Rattle.world_history.specs.declared.messages.Sent.{Sent}
use Rattle.world_history.specs.State.{World, ClientAt, at_number, with_number, with_client}
use Rattle.world_history.specs.Told.{kind_of, told_outcome}
use Rattle.world_history.specs.Names.{where_known, note_line, is_tellable, is_tellable_note, known_note_line, known_outcome}
use Rattle.world_history.specs.Handed.{Post, Handed, op_in, end_line, ended_by, client_goes}
use Rattle.world_history.specs.Moves.{Act}
use Rattle.world_history.specs.Sending.{fresh, sent_line, sent_lines, sends_all}
use Rattle.world_history.specs.Laws.{shown}
use Rattle.history_law.proofs.DriveLines.{view}
use Rattle.history_law.proofs.Each.{EachBehind, each_more}
use Rattle.cause_law.specs.Caused.{call_in}
use Rattle.cause_law.specs.ReadClients.{ClientSeen, went, where_it_is}
use Rattle.cause_law.specs.ReadCalls.{line_input, LastStep, stepped, after_input, after_line, CallSeen, sees_call, call_seen}
use Rattle.cause_law.specs.Ended.{EndsBy, CausedAt}
use Rattle.cause_law.proofs.CallLines.{ended_by_met}

-- ---- what is read

-- a client is read off the lines as it stands in the world, and so are the messages
pub record SeenAs (w : World) (c : ℕ) (s : CallSeen) : Type 0 where
  pub sent : s.seen.sent ≡ view w
  pub client : s.seen.client ≡ at_number w.clients c

abbrev pub AreSeen : World → List Line → Type 0
AreSeen w h = (c : ℕ) → SeenAs w c (call_seen c h)

pub seen_more : (c : ℕ) (h ls : List Line) → call_seen c (h ++ ls) ≡ fold (sees_call c) (call_seen c h) ls
seen_more c h ls = fold-append (sees_call c) _ h ls

-- behind these lines an act tells what it does of clients, and how their calls end
pub record IsTold (before : List Line) (a : Act) : Type 0 where
  pub seen : (c : ℕ) → SeenAs a.world c (fold (sees_call c) (call_seen c before) a.told)
  pub says : EachBehind CausedAt before (a.told ++ sent_lines (length a.world.network.messages) a.posts)

-- ---- messages that are sent

sent_says : (before : List Line) (n : ℕ) (ps : List Post) → EachBehind CausedAt before (sent_lines n ps)
unfolding sent_lines
sent_says before n [] = tt
sent_says before n (p ∷ ps) = (tt, sent_says (before ++ sent_line n p.message ∷ []) (n + 1) ps)

sent_seen : (c n : ℕ) (ps : List Post) (s : CallSeen)
    → (fold (sees_call c) s (sent_lines n ps)).seen
    ≡ record { sent = s.seen.sent ++ map shown (map fresh ps); client = s.seen.client }
unfolding sent_lines
sent_seen c n [] s = ap (λ (ss : List Sent). record { sent = ss; client = s.seen.client }) (sym (append-nil s.seen.sent))
sent_seen c n (p ∷ ps) s =
    sent_seen c (n + 1) ps _
    ∙ ap (λ (ss : List Sent). record { sent = ss; client = s.seen.client })
    (append_assoc s.seen.sent (shown (fresh p) ∷ []) (map shown (map fresh ps)))

pub told_seen : (before : List Line) (a : Act) → IsTold before a
    → AreSeen (sends_all a).world (before ++ (sends_all a).lines)
told_seen before a t c =
    let n : ℕ = length a.world.network.messages in
    let s : CallSeen = fold (sees_call c) (call_seen c before) a.told in
    let all : call_seen c (before ++ (sends_all a).lines) ≡ fold (sees_call c) s (sent_lines n a.posts) =
    seen_more c before (sends_all a).lines ∙ fold-append (sees_call c) (call_seen c before) a.told (sent_lines n a.posts) in
    let seen = ap (λ (x : CallSeen). x.seen) all ∙ sent_seen c n a.posts s in
    record {
      sent =
          ap (λ (x : ClientSeen). x.sent) seen
          ∙ ap (λ (ss : List Sent). ss ++ map shown (map fresh a.posts)) (t.seen c).sent
          ∙ sym (map-append shown a.world.network.messages (map fresh a.posts));
      client = ap (λ (x : ClientSeen). x.client) seen ∙ (t.seen c).client;
    }

-- ---- lines that change no client, and end no call

pub record AreStill (ls : List Line) : Type 0 where
  pub folds : (c : ℕ) (s : CallSeen) → (fold (sees_call c) s ls).seen ≡ s.seen
  pub says : (before : List Line) → EachBehind CausedAt before ls

pub none_still : AreStill []
none_still = record { folds = λ c s. refl; says = λ before. tt }

pub refused_still : (k : ℕ) (why : Refusal) → AreStill (line.Refused k why ∷ [])
refused_still k why = record { folds = λ c s. refl; says = λ before. (tt, tt) }

pub noted_still : (f : ℕ) (n : Note) → AreStill (line.Note f n ∷ [])
noted_still f n = record { folds = λ c s. refl; says = λ before. (tt, tt) }

pub pending_still : (k : ℕ) (kind : CallKind) → AreStill (line.Ended k (outcome.Failed kind ending.Pending) ∷ [])
pending_still k kind = record { folds = λ c s. refl; says = λ before. (tt, tt) }

note_still : (known : Bool) (n : server_rules.Note) (ls : List Line) → AreStill ls
    → AreStill (cons_option (where_known known (note_line n)) ls)
note_still true n ls q = record {
  folds = λ c s. q.folds c _;
  says = λ before. (tt, q.says (before ++ note_line n ∷ []));
}
note_still false n ls q = q

pub notes_still : (ns : List server_rules.Note) → AreStill (filter_map known_note_line ns)
notes_still [] = none_still
notes_still (n ∷ ns) =
    note_still (nat_lt n.file FILES && is_tellable_note n.kind) n (filter_map known_note_line ns) (notes_still ns)

-- an act that changes no client
pub record IsStillAct (w : World) (a : Act) : Type 0 where
  pub messages : a.world.network.messages ≡ w.network.messages
  pub clients : a.world.clients ≡ w.clients
  pub told : AreStill a.told

pub still_told : (w : World) (before : List Line) (a : Act) → AreSeen w before → IsStillAct w a → IsTold before a
still_told w before a r q = record {
  seen = λ c. record {
    sent = ap (λ (x : ClientSeen). x.sent) (q.told.folds c (call_seen c before)) ∙ (r c).sent
        ∙ ap (λ (ps : List Posted). map shown ps) (sym q.messages);
    client = ap (λ (x : ClientSeen). x.client) (q.told.folds c (call_seen c before)) ∙ (r c).client
        ∙ ap (λ (xs : List (ℕ × ClientAt)). at_number xs c) (sym q.clients);
  };
  says =
      each_more CausedAt before a.told _ (q.told.says before)
      (sent_says (before ++ a.told) (length a.world.network.messages) a.posts);
}

-- ---- a client becomes another

pub where_it : (k c : ℕ) (f : ClientAt → ClientAt) (o : Option ClientAt) → k ≡ c → where_it_is k c f o ≡ option_map f o
where_it k c f o it = ap (λ (b : Bool). if b then option_map f o else o) (eq-eqb k c it)

pub where_another : (k c : ℕ) (f : ClientAt → ClientAt) (o : Option ClientAt) → (k ≡ c → ⊥) → where_it_is k c f o ≡ o
where_another k c f o other = ap (λ (b : Bool). if b then option_map f o else o) (ne_eqb k c other)

pub none_changed : (w : World) (k c : ℕ) (f : ClientAt → ClientAt) → at_number w.clients k ≡ None
    → where_it_is k c f (at_number w.clients c) ≡ at_number w.clients c
none_changed w k c f none = elim (cases_eq k c) [
  | inl it ↦
      let here : at_number w.clients c ≡ None = ap (at_number w.clients) (sym it) ∙ none in
      where_it k c f (at_number w.clients c) it ∙ ap (option_map f) here ∙ sym here
  | inr other ↦ where_another k c f (at_number w.clients c) other
]

pub one_changed : (w : World) (k c : ℕ) (f : ClientAt → ClientAt) (a b : ClientAt) → at_number w.clients k ≡ Some a
    → f a ≡ b → where_it_is k c f (at_number w.clients c) ≡ at_number (with_number w.clients k b) c
one_changed w k c f a b there is = elim (cases_eq k c) [
  | inl it ↦
      where_it k c f (at_number w.clients c) it ∙ ap (option_map f) (ap (at_number w.clients) (sym it) ∙ there)
      ∙ ap (λ (x : ClientAt). Some x) is
      ∙ sym (lookup_set w.clients k b (subst IsSome (sym there) refl))
      ∙ ap (λ (n : ℕ). at_number (with_number w.clients k b) n) it
  | inr other ↦
      where_another k c f (at_number w.clients c) other
      ∙ sym (lookup_set_beside w.clients k c b (λ (e : c ≡ k). other (sym e)))
]

-- one that stays as it is
pub same_changed : (w : World) (k c : ℕ) (f : ClientAt → ClientAt) (a : ClientAt) → at_number w.clients k ≡ Some a
    → f a ≡ a → where_it_is k c f (at_number w.clients c) ≡ at_number w.clients c
same_changed w k c f a there is = elim (cases_eq k c) [
  | inl it ↦
      let here : at_number w.clients c ≡ Some a = ap (at_number w.clients) (sym it) ∙ there in
      where_it k c f (at_number w.clients c) it ∙ ap (option_map f) here ∙ ap (λ (x : ClientAt). Some x) is ∙ sym here
  | inr other ↦ where_another k c f (at_number w.clients c) other
]

-- ---- how a call ends

caused_line : (before : List Line) (k : ℕ) (kind : CallKind) (f : Outcome)
    → EndsBy (call_seen k before).last (told_outcome kind f) → CausedAt before (line.Ended k (told_outcome kind f))
caused_line before k kind (WriteOk n) x = x
caused_line before k kind (ReadOk bytes) x = x
caused_line before k kind NoFile x = x
caused_line before k kind (HeldBy c) x = x
caused_line before k kind (Fencing n) x = x
caused_line before k kind (Degraded n) x = x
caused_line before k kind Spent x = x
caused_line before k kind (Status s d) x = x
caused_line before k kind (Refused d v n) x = x
caused_line before k kind (Silent n) x = x
caused_line before k kind (Lost ps) x = x
caused_line before k kind (BadLayout why) x = x

same_op : (op other : CallOp) → Some op ≡ Some other → op ≡ other
same_op op other e = cc e

module _ (before : List Line) (k : ℕ) (op : CallOp) (call : (call_seen k before).last.call ≡ Some op) (f : Outcome)
    (ended : (call_seen k before).last.outcome ≡ Some f) where
  ends_by : EndsBy (call_seen k before).last (told_outcome (kind_of op) f)
  ends_by =
      let e = ended_by_met k before f ended in
      record {
        op = e.op;
        call = e.call;
        outcome = f;
        ended = ended;
        is = ap (λ (o : CallOp). told_outcome (kind_of o) f) (same_op op e.op (sym call ∙ e.call));
        cause = e.cause;
        whole = e.whole;
      }

  by_test : (b : Bool) → EachBehind CausedAt before (end_line k (where_known b (told_outcome (kind_of op) f)))
  by_test true = (caused_line before k (kind_of op) f ends_by, tt)
  by_test false = tt

  line_caused : EachBehind CausedAt before (end_line k (known_outcome (kind_of op) f))
  line_caused = by_test (is_tellable f)

same_call : (x : _) (i : client.Input) → call_in x i ≡ op_in x i
same_call x (client.Calls op) = refl
same_call x (client.Hears from m) = refl
same_call x (client.TimesOut j) = refl
same_call x client.Leaves = refl
same_call x client.Resends = refl

-- the lines of the end of a call in a client's step, behind the line that began it
module _ (before : List Line) (k : ℕ) (a : ClientAt) (i : client.Input) (t : LastStep)
    (last : (call_seen k before).last ≡ stepped a.state t i) where
  by_parts : (o : Option CallOp) → (call_seen k before).last.call ≡ o → (u : Option Outcome)
      → (call_seen k before).last.outcome ≡ u → EachBehind CausedAt before (ended_by k o u)
  by_parts None call u ended = tt
  by_parts (Some op) call None ended = tt
  by_parts (Some op) call (Some f) ended = line_caused before k op call f ended

  pub ended_says : EachBehind CausedAt before (ended_by k (op_in a.state i) (client.step a.state i).outcome)
  ended_says =
      by_parts (op_in a.state i) (ap (λ (x : LastStep). x.call) last ∙ same_call a.state i)
      (client.step a.state i).outcome (ap (λ (x : LastStep). x.outcome) last)

end_still : (k : ℕ) (o : Option _) (c : ℕ) (s : CallSeen) → (fold (sees_call c) s (end_line k o)).seen ≡ s.seen
end_still k None c s = refl
end_still k (Some told) c s = refl

ended_still : (k : ℕ) (op : Option CallOp) (o : Option Outcome) (c : ℕ) (s : CallSeen)
    → (fold (sees_call c) s (ended_by k op o)).seen ≡ s.seen
ended_still k None o c s = refl
ended_still k (Some op) None c s = refl
ended_still k (Some op) (Some f) c s = end_still k (known_outcome (kind_of op) f) c s

-- what is read behind a line in which this comes to a client that is there
pub last_is : (k : ℕ) (h : List Line) (l : Line) (a : ClientAt) (i : client.Input)
    → (call_seen k h).seen.client ≡ Some a → line_input k (call_seen k h).seen.sent l a ≡ Some i
    → (call_seen k (h ++ l ∷ [])).last ≡ stepped a.state (call_seen k h).last i
last_is k h l a i there comes =
    ap (λ (s : CallSeen). s.last) (seen_more k h (l ∷ []))
    ∙ ap (λ (o : Option ClientAt). after_line o (line_input k (call_seen k h).seen.sent l) (call_seen k h).last) there
    ∙ ap (after_input a.state (call_seen k h).last) comes

-- a step of a client, whose first line, if it has one of its own, is this
module _ (w : World) (k : ℕ) (a : ClientAt) (i : client.Input) (before : List Line) where
  abbrev v : World
  v = with_client w k (went a i (client.step a.state i))

  abbrev told : List Line
  told = ended_by k (op_in a.state i) (client.step a.state i).outcome

  abbrev now : Handed
  now = client_goes w k a i

  pub goes_told : AreSeen v before → (t : LastStep) → (call_seen k before).last ≡ stepped a.state t i
      → IsTold before (record { world = now.world; told = now.told; posts = now.posts })
  goes_told r t last = record {
    seen = λ c.
        let same = ended_still k (op_in a.state i) (client.step a.state i).outcome c (call_seen c before) in
        record {
          sent = ap (λ (x : ClientSeen). x.sent) same ∙ (r c).sent;
          client = ap (λ (x : ClientSeen). x.client) same ∙ (r c).client;
        };
    says =
        each_more CausedAt before told _ (ended_says before k a i t last)
        (sent_says (before ++ told) (length w.network.messages) now.posts);
  }

-- a line in front
pub line_told : (before : List Line) (l : Line) (a : Act) → CausedAt before l → IsTold (before ++ l ∷ []) a
    → IsTold before (record { world = a.world; told = l ∷ a.told; posts = a.posts })
line_told before l a x t = record {
  seen = λ c. subst (λ (s : CallSeen). SeenAs a.world c (fold (sees_call c) s a.told)) (seen_more c before (l ∷ [])) (t.seen c);
  says = (x, t.says);
}
