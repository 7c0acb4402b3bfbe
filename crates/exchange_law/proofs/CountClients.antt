-- A client has counted what it sends behind each step, and a line can name each drive to which it sends.
use Rattle.std.proofs.Common.{◌≡◌, ℕ, ◌+◌, ◌≤◌, ◌++◌, Bool, true, false, List, [], ◌∷◌, Option, Some, None, Result, Ok, Err, length, map, refl, sym, ap, subst, ◌∙◌, arith, inl, inr, if◌then◌else◌}
use Rattle.layout_types.specs.declared.layout.Layout.{Layout}
use Rattle.layout_ops.specs.declared.results.LayoutGetOk.{LayoutGetOk}
use Rattle.layout_ops.specs.declared.results.LayoutSegment.{LayoutSegment}
use Rattle.layout_types.specs.declared.err.LayoutErr.{LayoutErr}
use Rattle.layout_types.specs.Grammar.{whole}
use Rattle.layout_types.specs.Reading.{layout_in}
use Rattle.server_rules.specs.Laws.{In}
use Rattle.client_rules.specs.declared.limits.TheConstants.{GREATEST_SEQUENCE}
use Rattle.history_law.specs.State.{Client, Call, CallOp, Held, Listed, Reach, Awaited, Done, AnswersRecall, Asks, Request, RecallAnswer, Answer, Outcome, Moved, Why, BadCredential, Outgoing}
use Rattle.client_rules.specs.Calls.{file_of}
use Rattle.client_rules.specs.Grants.{held_of}
use Rattle.client_rules.specs.Requests.{grant_in}
use Rattle.client_rules.specs.Results.{layouts_in}
use Rattle.client_rules.specs.Layouts.{all_listed, enough, fresh, first_why, reach_of, with_listed, unless_why, with_body, one_layout, in_layouts, taken}
use Rattle.client_rules.specs.Answers.{not_granted, on_commit}
use Rattle.client_rules.specs.Replies.{replied, timed_out}
use Rattle.client_rules.specs.Going.{quiet, over, moved, begun, progressed}
use Rattle.client_rules.specs.Messages.{Step, still, to_drive, sends_of, closed, finished, on_call}
use Rattle.client_rules.specs.Steps.{new_client, resent, all_due}
use Rattle.client_rules.specs.History.{Input, step}
use Rattle.client_rules.proofs.Numbering.{nonces_rise}
use Rattle.exchange_law.specs.Counters.{ClientCounts}
use Rattle.exchange_law.proofs.Settled.{BeginsAnew, IsSettled, replied_settled, timed_out_settled, on_commit_settled}
use Rattle.exchange_law.proofs.CountAsking.{HeldsCount, more_held, put_counts, FoundCounts, found_counts, Numbered, DoneCounts, moved_counts, turned_counts, finishes}
use Rattle.client_rules.specs.Laws.{IsNumbered}
use Rattle.history_law.specs.Turns.{with_start, TurnCases}
use Rattle.history_law.proofs.Turns.{each_refusal, each_answer, each_finish, each_turn}

-- ---- what a step sends

requests_first : (n : ℕ) (d : Done) → n ≤ length (map to_drive d.commands)
    → length d.requests + n ≤ length (sends_of d)
requests_first n d l =
    recalls_before d.recalls (map Asks d.requests ++ map to_drive d.commands) (asked d.requests)
  where
    asked : (rs : List Request) → length rs + n ≤ length (map Asks rs ++ map to_drive d.commands)
    asked [] = omega (arith, l)
    asked (r ∷ rs) = omega (arith, asked rs)

    recalls_before : (rs : List RecallAnswer) (os : List Outgoing) → length d.requests + n ≤ length os
        → length d.requests + n ≤ length (map AnswersRecall rs ++ os)
    recalls_before [] os k = k
    recalls_before (r ∷ rs) os k = omega (arith, recalls_before rs os k)

all_drives : (xs : List Awaited) → length (map to_drive xs) ≡ length xs
all_drives [] = refl
all_drives (x ∷ xs) = omega (arith, all_drives xs)

-- behind n messages a client sent so many more
pub record StepCounts (n : ℕ) (s : Step) : Type 0 where
  pub requests : Numbered (n + length s.sends) s.client.next
  pub commands : HeldsCount (n + length s.sends) s.client.held

more_numbered : (m n next : ℕ) → m ≤ n → Numbered m next → Numbered n next
more_numbered m n next l k = record { few = omega (arith, l, k.few); spent = λ e. later (k.spent e) }
  where
    later : GREATEST_SEQUENCE ≤ m → GREATEST_SEQUENCE ≤ n
    later g = omega (arith, l, g)

closed_counts : (n : ℕ) (d : Done) → DoneCounts n d → StepCounts n (closed d)
closed_counts n d k =
    let sent = requests_first (length d.commands) d (omega (arith, all_drives d.commands)) in
    record {
      requests = more_numbered (n + length d.requests) (n + length (sends_of d)) d.client.next
          (omega (arith, sent)) k.requests;
      commands = more_held (n + length d.commands) (n + length (sends_of d)) d.client.held
          (omega (arith, sent)) k.commands;
    }

finished_counts : (n : ℕ) (d : Done) → DoneCounts n d → StepCounts n (finished d)
unfolding finished
finished_counts n d k = closed_counts n (progressed (begun d)) (each_finish (DoneCounts n) (finishes n) d k)

-- ---- what comes

-- what a client has counted
pub record Counted (n : ℕ) (c : Client) : Type 0 where
  pub requests : Numbered n c.next
  pub commands : HeldsCount n c.held

still_counts : (n : ℕ) (c : Client) → Counted n c → StepCounts n (still c)
still_counts n c k = record {
  requests = more_numbered n (n + 0) c.next (omega arith) k.requests;
  commands = more_held n (n + 0) c.held (omega arith) k.commands;
}

-- nothing was sent yet, and its call is this one
quiet_counts : (n : ℕ) (c d : Client) → Counted n c → d.next ≡ c.next → d.held ≡ c.held → DoneCounts n (quiet d)
quiet_counts n c d k next held = record {
  requests = subst (Numbered (n + 0)) (sym next) (more_numbered n (n + 0) c.next (omega arith) k.requests);
  commands = subst (HeldsCount (n + 0)) (sym held) (more_held n (n + 0) c.held (omega arith) k.commands);
  anew = λ x. refl;
}

over_counts : (n : ℕ) (d : Done) (o : Outcome) → DoneCounts n d → DoneCounts n (over d o)
over_counts n d o k = record { requests = k.requests; commands = k.commands; anew = λ x. absurd x }

-- ---- the grant of an answer is new

same_grant : (b : Bool) (h k : Held) → (if b then Err BadCredential else Ok h) ≡ Ok k → h.count ≡ 0 → k.count ≡ 0
same_grant true h k e z = absurd (cc e)
same_grant false h k e z = let same : h ≡ k = cc e in ap (λ (x : Held). x.count) (sym same) ∙ z

enough_new : (h k : Held) (op : CallOp) → enough h op ≡ Ok k → h.count ≡ 0 → k.count ≡ 0
unfolding enough
enough_new h k op e z = same_grant _ h k e z

listed_new : (a : Answer) (n : ℕ) (op : CallOp) (g : Reach) (l : Layout) (o : Option (List Listed)) (h : Held)
    → with_listed a n op g l o ≡ Ok h → h.count ≡ 0
listed_new a n op g l None h e = absurd (cc e)
listed_new a n op g l (Some ls) h e = enough_new (fresh (file_of op) n a.size g l.olo_map ls) h op e refl

layout_new : (a : Answer) (n : ℕ) (op : CallOp) (g : Reach) (l : Layout) (w : Option Why) (h : Held)
    → unless_why a n op g l w ≡ Ok h → h.count ≡ 0
layout_new a n op g l (Some w) h e = absurd (cc e)
layout_new a n op g l None h e = listed_new a n op g l (all_listed l.olo_components) h e

body_new : (a : Answer) (n : ℕ) (op : CallOp) (g : Reach) (r : Result Layout LayoutErr) (h : Held)
    → with_body a n op g r ≡ Ok h → h.count ≡ 0
body_new a n op g (Err x) h e = absurd (cc e)
body_new a n op g (Ok l) h e = layout_new a n op g l (first_why g a.size op l) h e

one_new : (a : Answer) (n : ℕ) (op : CallOp) (gs : List LayoutSegment) (h : Held) → one_layout a n op gs ≡ Ok h
    → h.count ≡ 0
one_new a n op [] h e = absurd (cc e)
one_new a n op (g ∷ []) h e = body_new a n op (reach_of a.size op g) (whole layout_in g.body) h e
one_new a n op (g ∷ f ∷ gs) h e = absurd (cc e)

results_new : (a : Answer) (op : CallOp) (o : Option LayoutGetOk) (h : Held) → in_layouts a op o ≡ Ok h → h.count ≡ 0
results_new a op None h e = absurd (cc e)
results_new a op (Some given) h e = one_new a (grant_in given.stateid) op given.layouts h e

pub taken_new : (a : Answer) (op : CallOp) (h : Held) → taken a op ≡ Ok h → h.count ≡ 0
unfolding taken
taken_new a op h e = results_new a op (layouts_in a.results) h e

-- ---- answers

answered_counts : (n : ℕ) (d : Done) (a : Answer) → d.commands ≡ [] → HeldsCount n d.client.held → DoneCounts n d
    → DoneCounts n (on_call d d.client.call a)
answered_counts n d a none helds k =
    each_answer d a (DoneCounts n) (record {
      stays = k;
      returned = λ op is. record { requests = k.requests; commands = k.commands; anew = λ y. none };
      granted = λ op tries h is took. record {
        requests = k.requests;
        commands = put_counts (n + length d.commands) d.client.held h k.commands (omega (arith, taken_new a op h took));
        anew = λ x. none;
      };
      unusable = λ op tries w is took. over_counts n d _ k;
      refused = λ op tries is.
          turned_counts n d op (not_granted a tries) k (each_refusal a tries (λ t. BeginsAnew t → ⊥) (record {
            again = λ few x. x;
            no_file = λ x. x;
            is_held = λ x. x;
            is_fenced = λ x. x;
            none_given = λ x. x;
            other = λ x. x;
          }));
      committed = λ op timed h is held.
          moved_counts n d op h (on_commit h op a timed) k.requests helds
          (subst (FoundCounts n) held (found_counts n d.client.held (file_of op) helds))
          (nonces_rise.committed h op a timed) (on_commit_settled h op a timed);
      reported = λ op timed is. over_counts n d _ k;
      closed = λ op o report is. over_counts n d o k;
    })

-- ---- any step

-- what the call does with the drives under its grant
under_grant : (n : ℕ) (c : Client) (call : Call) (h : Held) (m : Moved) → Counted n c
    → held_of c.held (file_of call.op) ≡ Some h → IsNumbered h m → IsSettled m
    → StepCounts n (finished (moved (quiet c) call.op m))
under_grant n c call h m k held numbered settled =
    finished_counts n _ (moved_counts n (quiet c) call.op h m (quiet_counts n c c k refl refl).requests k.commands
    (subst (FoundCounts n) held (found_counts n c.held (file_of call.op) k.commands)) numbered settled)

cases : (n : ℕ) (c : Client) (i : Input) → Counted n c → TurnCases c i (StepCounts n)
cases n c i k = let q = quiet_counts n c c k refl refl in record {
  rests = still_counts n c k;
  nothing = λ op is e. let s = still_counts n c k in record { requests = s.requests; commands = s.commands };
  called = λ op is none can. finished_counts n _ (quiet_counts n c (with_start c op) k refl refl);
  answered = λ a is.
      finished_counts n _ (answered_counts n (quiet (record c { outstanding = None })) a refl k.commands
      (quiet_counts n c (record c { outstanding = None }) k refl refl));
  replied = λ drive r call h a is.
      under_grant n c call h (replied h call.op call.phase a r) k is.held (nonces_rise.replied h call.op call.phase a r)
      (replied_settled h call.op call.phase a r);
  unheld = finished_counts n _ q;
  recalled = λ r is. finished_counts n _ (record { requests = q.requests; commands = q.commands; anew = q.anew });
  unmatched = λ r is. finished_counts n _ (record { requests = q.requests; commands = q.commands; anew = q.anew });
  timed = λ j call h a xs is.
      under_grant n c call h (timed_out h call.op call.phase j a xs) k is.held
      (nonces_rise.timed h call.op call.phase j a xs) (timed_out_settled h call.op call.phase j a xs);
  leaves = λ is. finished_counts n _ (quiet_counts n c (record c { due = all_due c.due c.held }) k refl refl);
  resends = λ is. record {
    requests = more_numbered n (n + length (resent c)) c.next (omega arith) k.requests;
    commands = more_held n (n + length (resent c)) c.held (omega arith) k.commands;
  };
}

pub step_counts : (n : ℕ) (c : Client) (i : Input) → Counted n c → StepCounts n (step c i)
step_counts n c i k = each_turn c i (StepCounts n) (cases n c i k)

pub new_counts : (n number : ℕ) → Counted n (new_client number 1)
new_counts n number = record { requests = record { few = omega arith; spent = λ e. absurd (cc e) }; commands = tt }

pub more_counts : (m n : ℕ) (c : Client) → m ≤ n → Counted m c → Counted n c
more_counts m n c l k = record {
  requests = more_numbered m n c.next l k.requests;
  commands = more_held m n c.held l k.commands;
}

in_helds : (n : ℕ) (hs : List Held) → HeldsCount n hs → (h : Held) → In h hs → h.count ≤ n
in_helds n [] k h i = absurd i
in_helds n (x ∷ hs) k h (inl same) = subst (λ (y : Held). y.count ≤ n) (sym same) k.0
in_helds n (x ∷ hs) k h (inr i) = in_helds n hs k.1 h i

pub client_counts : (n : ℕ) (c : Client) → Counted n c → ClientCounts c n
client_counts n c k = record {
  requests = k.requests.few;
  spent = k.requests.spent;
  commands = in_helds n c.held k.commands;
}
