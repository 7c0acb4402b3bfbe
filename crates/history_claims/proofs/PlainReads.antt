-- What a client has read in its call it had awaited: after any inputs.
use Rattle.std.proofs.Common.{◌≡◌, ◌≢◌, ◌⊎◌, ◌==◌, Bool, true, false, List, [], ◌∷◌, ◌++◌, find, Option, Some, None, refl, ap, subst, ◌∙◌, inl, inr, if◌then◌else◌}
use Rattle.osd_lists.specs.declared.node.Node.{Node}
use Rattle.osd_lists.specs.declared.node.Node.TheVariants as node
use Rattle.server_rules.specs.Laws.{In}
use Rattle.client_rules.specs.History.{Input, Calls, Hears, TimesOut, Leaves, Resends, step, state_after}
use Rattle.client_rules.specs.Laws.{with_reply, kept_by, read_after, read_by}
use Rattle.client_rules.specs.Replies.{answers}
use Rattle.client_rules.specs.Messages.{Message, Replies, Answers, Recalls, Taken, TakesAnswer, TakesReply, TakesRecall, is_awaited, answer_taken, reply_taken, awaited_of, takes}
use Rattle.world_history.specs.ClientNames.{Client, Call, Awaited, Column, Request, Answer, Recall, Reply}
use Rattle.client_rules.proofs.ReadMoves.{found_in}
use Rattle.exchange_law.proofs.LaneMoves.{is_in}

-- The call has read something, or awaits something.
pub record HasWorked (x : Client) (reads : List Column) : Type 0 where
  pub call : Call
  pub pending : x.call ≡ Some call
  pub some : (reads ≢ []) ⊎ ((a : Awaited) × In a (awaited_of x.call))

kept_some : (x : Client) (reads : List Column) → kept_by x.call reads ≢ [] → HasWorked x reads
kept_some x reads some = by x.call refl
  where
    by : (o : Option Call) → x.call ≡ o → HasWorked x reads
    by None none = absurd (some (ap (λ (o : Option Call). kept_by o reads) none))
    by (Some call) is = record {
      call = call;
      pending = is;
      some = inl (λ e. some (ap (λ (o : Option Call). kept_by o reads) is ∙ e));
    }

pub awaits_some : (x : Client) (reads : List Column) (a : Awaited) → In a (awaited_of x.call) → HasWorked x reads
awaits_some x reads a i = by x.call refl
  where
    by : (o : Option Call) → x.call ≡ o → HasWorked x reads
    by None none = absurd (subst (λ (o : Option Call). In a (awaited_of o)) none i)
    by (Some call) is = record { call = call; pending = is; some = inr (a, i) }

reply_in : (x : Client) (p : Awaited → Bool) (q : Reply) (o : Option Awaited) → find p (awaited_of x.call) ≡ o →
    (a : Awaited) (r : Reply) → reply_taken q o ≡ Some (TakesReply a r) → In a (awaited_of x.call)
reply_in x p q None is a r e = absurd (cc e)
reply_in x p q (Some b) is a r e =
    let one : b ≡ a = cc e in
    is_in a (awaited_of x.call) (found_in p (awaited_of x.call) a (is ∙ ap (λ (z : Awaited). Some z) one))

no_answer : (x : Client) (b : Answer) (o : Option Request) (a : Awaited) (r : Reply) →
    answer_taken x b o ≡ Some (TakesReply a r) → ⊥
no_answer x b None a r e = cc e
no_answer x b (Some q) a r e = by (is_awaited x b q) e
  where
    by : (y : Bool) → (if y then Some (TakesAnswer b) else None) ≡ Some (TakesReply a r) → ⊥
    by true e = cc e
    by false e = cc e

no_recall : (b : Bool) (q : Recall) (a : Awaited) (r : Reply) →
    (if b then Some (TakesRecall q) else None) ≡ Some (TakesReply a r) → ⊥
no_recall true q a r e = cc e
no_recall false q a r e = cc e

-- a reply that is taken is one to what was awaited
taken_awaited : (x : Client) (a : Awaited) (from : Node) (m : Message) (r : Reply) →
    takes x from m ≡ Some (TakesReply a r) → In a (awaited_of x.call)
unfolding takes
taken_awaited x a (node.Drive d) (Replies q) r e = reply_in x (answers d q) q (find (answers d q) (awaited_of x.call)) refl a r e
taken_awaited x a (node.Drive d) (Answers b) r e = absurd (cc e)
taken_awaited x a (node.Drive d) (Recalls q) r e = absurd (cc e)
taken_awaited x a node.Server (Replies q) r e = absurd (cc e)
taken_awaited x a node.Server (Answers b) r e = absurd (no_answer x b x.outstanding a r e)
taken_awaited x a node.Server (Recalls q) r e = absurd (no_recall (q.client == x.number) q a r e)
taken_awaited x a (node.Client k) (Replies q) r e = absurd (cc e)
taken_awaited x a (node.Client k) (Answers b) r e = absurd (cc e)
taken_awaited x a (node.Client k) (Recalls q) r e = absurd (cc e)

-- What is read behind an input was read before, or its reply was awaited.
pub read_worked : (x : Client) (reads : List Column) (i : Input) → read_after x reads i ≢ [] → HasWorked x reads
read_worked x reads (Hears from m) some = by (takes x from m) refl
  where
    by : (t : Option Taken) → takes x from m ≡ t → HasWorked x reads
    by None is = kept_some x reads (λ e. some (ap (with_reply (kept_by x.call reads)) is ∙ e))
    by (Some (TakesAnswer a)) is = kept_some x reads (λ e. some (ap (with_reply (kept_by x.call reads)) is ∙ e))
    by (Some (TakesRecall r)) is = kept_some x reads (λ e. some (ap (with_reply (kept_by x.call reads)) is ∙ e))
    by (Some (TakesReply a r)) is = awaits_some x reads a (taken_awaited x a from m r is)
read_worked x reads (Calls op) some = kept_some x reads some
read_worked x reads (TimesOut k) some = kept_some x reads some
read_worked x reads Leaves some = kept_some x reads some
read_worked x reads Resends some = kept_some x reads some

-- ---- one input more

pub state_more : (c : Client) (is : List Input) (i : Input) → state_after c (is ++ i ∷ []) ≡ (step (state_after c is) i).client
state_more c [] i = refl
state_more c (j ∷ is) i = state_more (step c j).client is i

pub read_more : (c : Client) (got : List Column) (is : List Input) (i : Input) →
    read_by c got (is ++ i ∷ []) ≡ read_after (state_after c is) (read_by c got is) i
read_more c got [] i = refl
read_more c got (j ∷ is) i = read_more (step c j).client (read_after c got j) is i
