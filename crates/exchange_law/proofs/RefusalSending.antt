-- The commands among a client's messages, and their nonces.
use Rattle.std.proofs.Common.{◌≡◌, ◌||◌, ◌&&◌, not, ℕ, ◌≤◌, Bool, true, false, List, [], ◌∷◌, ◌++◌, Option, Some, None, map, filter, length, refl, sym, ap, subst, ◌∙◌, arith, inl, inr, if◌then◌else◌}
use Rattle.osd_lists.specs.declared.node.Node.TheVariants as node
use Rattle.server_rules.specs.Laws.{In}
use Rattle.client_rules.specs.Commands.{placed, before, in_order}
use Rattle.client_rules.specs.Messages.{to_drive, awaited_of}
use Rattle.client_rules.specs.Steps.{outstanding_sends, resent}
use Rattle.history_law.specs.Said.{posted}
use Rattle.exchange_law.specs.ClientNonces.{nonces_in, NoneIs, AllDiffer}
use Rattle.exchange_law.proofs.Rising.{IsAmong}
use Rattle.history_law.specs.State.{Client, Awaited, Outgoing, AnswersRecall, Asks, ToDrive, Request, Command}
use Rattle.history_law.proofs.KnownGoing.{SendsKnown}
use Rattle.world_history.specs.declared.messages.Body.TheVariants.{Command as OfCommand}
use Rattle.world_history.specs.declared.messages.Message.{Message}
use Rattle.world_history.specs.Handed.{Post, is_addressed, is_write_out, client_post, client_posts}
use Rattle.exchange_law.proofs.CountNear.{IsNear}

-- a client's command to a drive, as a message
abbrev pub command_of : (client drive : ℕ) → Command → Message
command_of c d x = record { from = node.Client c; to = node.Drive d; body = OfCommand x }

-- ---- nonces

pub among_sent : (d : ℕ) (x : Command) (os : List Outgoing) → In (ToDrive d x) os → IsAmong x.nonce (nonces_in os)
among_sent d x [] i = i
among_sent d x (ToDrive e y ∷ os) (inl is) =
    let same : x ≡ y = cc is in inl (ap (λ (z : Command). z.nonce) same)
among_sent d x (ToDrive e y ∷ os) (inr i) = inr (among_sent d x os i)
among_sent d x (Asks r ∷ os) (inl is) = absurd (cc is)
among_sent d x (Asks r ∷ os) (inr i) = among_sent d x os i
among_sent d x (AnswersRecall a ∷ os) (inl is) = absurd (cc is)
among_sent d x (AnswersRecall a ∷ os) (inr i) = among_sent d x os i

pub none_among : (x : ℕ) (xs : List ℕ) → NoneIs x xs → IsAmong x xs → ⊥
none_among x [] n i = i
none_among x (y ∷ xs) n (inl e) = n.0 e
none_among x (y ∷ xs) n (inr i) = none_among x xs n.1 i

-- where no two have one nonce, the nonce tells the command
pub one_sent : (os : List Outgoing) → AllDiffer (nonces_in os) → (d e : ℕ) (x y : Command) → In (ToDrive d x) os
    → In (ToDrive e y) os → x.nonce ≡ y.nonce → ToDrive d x ≡ ToDrive e y
one_sent [] a d e x y i j same = absurd i
one_sent (ToDrive k z ∷ os) a d e x y (inl is) (inl too) same = is ∙ sym too
one_sent (ToDrive k z ∷ os) a d e x y (inl is) (inr j) same =
    let it : x ≡ z = cc is in
    absurd (none_among z.nonce (nonces_in os) a.0
    (subst (λ (n : ℕ). IsAmong n (nonces_in os)) (sym same ∙ ap (λ (c : Command). c.nonce) it) (among_sent e y os j)))
one_sent (ToDrive k z ∷ os) a d e x y (inr i) (inl too) same =
    let it : y ≡ z = cc too in
    absurd (none_among z.nonce (nonces_in os) a.0
    (subst (λ (n : ℕ). IsAmong n (nonces_in os)) (same ∙ ap (λ (c : Command). c.nonce) it) (among_sent d x os i)))
one_sent (ToDrive k z ∷ os) a d e x y (inr i) (inr j) same = one_sent os a.1 d e x y i j same
one_sent (Asks r ∷ os) a d e x y (inl is) j same = absurd (cc is)
one_sent (Asks r ∷ os) a d e x y (inr i) (inl is) same = absurd (cc is)
one_sent (Asks r ∷ os) a d e x y (inr i) (inr j) same = one_sent os a d e x y i j same
one_sent (AnswersRecall r ∷ os) a d e x y (inl is) j same = absurd (cc is)
one_sent (AnswersRecall r ∷ os) a d e x y (inr i) (inl is) same = absurd (cc is)
one_sent (AnswersRecall r ∷ os) a d e x y (inr i) (inr j) same = one_sent os a d e x y i j same

pub fewer_nonces : (os : List Outgoing) → length (nonces_in os) ≤ length os
fewer_nonces [] = omega arith
fewer_nonces (ToDrive d x ∷ os) = omega (arith, fewer_nonces os)
fewer_nonces (Asks r ∷ os) = omega (arith, fewer_nonces os)
fewer_nonces (AnswersRecall a ∷ os) = omega (arith, fewer_nonces os)

-- ---- what is posted

pub command_posted : (m : Message) (c : ℕ) (wrote : Bool) (logged : ℕ) (os : List Outgoing)
    → In m (posted (client_posts c wrote logged os)) → (x : Command) → m.body ≡ OfCommand x
    → (d : ℕ) × In (ToDrive d x) os × (m ≡ command_of c d x)
command_posted m c wrote logged [] i x body = absurd i
command_posted m c wrote logged (ToDrive e y ∷ os) (inl is) x body =
    let bodies : OfCommand y ≡ OfCommand x = sym (ap (λ (z : Message). z.body) is) ∙ body in
    let same : y ≡ x = cc bodies in
    (e, inl (ap (λ (z : Command). ToDrive e z) (sym same)), is ∙ ap (command_of c e) same)
command_posted m c wrote logged (Asks r ∷ os) (inl is) x body =
    absurd (cc (sym (ap (λ (z : Message). z.body) is) ∙ body))
command_posted m c wrote logged (AnswersRecall a ∷ os) (inl is) x body =
    absurd (cc (sym (ap (λ (z : Message). z.body) is) ∙ body))
command_posted m c wrote logged (o ∷ os) (inr i) x body =
    let r = command_posted m c (wrote || is_write_out o) logged os i x body in (r.0, inr r.1, r.2)

pub posts_command : (c : ℕ) (wrote : Bool) (logged : ℕ) (os : List Outgoing) (d : ℕ) (x : Command) → In (ToDrive d x) os
    → In (command_of c d x) (posted (client_posts c wrote logged os))
posts_command c wrote logged [] d x i = absurd i
posts_command c wrote logged (ToDrive e y ∷ os) d x (inl is) =
    let drive : d ≡ e = cc is in
    let same : x ≡ y = cc is in
    inl (ap (λ (n : ℕ). command_of c n x) drive ∙ ap (command_of c e) same)
posts_command c wrote logged (Asks r ∷ os) d x (inl is) = absurd (cc is)
posts_command c wrote logged (AnswersRecall a ∷ os) d x (inl is) = absurd (cc is)
posts_command c wrote logged (o ∷ os) d x (inr i) = inr (posts_command c (wrote || is_write_out o) logged os d x i)

-- all of them go out
pub all_addressed : (c : ℕ) (wrote : Bool) (logged : ℕ) (os : List Outgoing) → SendsKnown IsNear os
    → filter is_addressed (client_posts c wrote logged os) ≡ client_posts c wrote logged os
all_addressed c wrote logged [] k = refl
all_addressed c wrote logged (ToDrive d x ∷ os) k =
    rw k.0 (ap (λ (ps : List Post). client_post c (if is_write_out (ToDrive d x) && not wrote then logged else 0)
    (ToDrive d x) ∷ ps) (all_addressed c (wrote || is_write_out (ToDrive d x)) logged os k.1))
all_addressed c wrote logged (Asks r ∷ os) k =
    ap (λ (ps : List Post). client_post c (if is_write_out (Asks r) && not wrote then logged else 0) (Asks r) ∷ ps)
    (all_addressed c (wrote || is_write_out (Asks r)) logged os k)
all_addressed c wrote logged (AnswersRecall a ∷ os) k =
    ap (λ (ps : List Post). client_post c (if is_write_out (AnswersRecall a) && not wrote then logged else 0)
    (AnswersRecall a) ∷ ps) (all_addressed c (wrote || is_write_out (AnswersRecall a)) logged os k)

pub length_posts : (c : ℕ) (wrote : Bool) (logged : ℕ) (os : List Outgoing)
    → length (client_posts c wrote logged os) ≡ length os
length_posts c wrote logged [] = refl
length_posts c wrote logged (o ∷ os) = omega (arith, length_posts c (wrote || is_write_out o) logged os)

-- ---- what is sent once more

in_placed : (a b : Awaited) (xs : List Awaited) → In a (placed b xs) → In a (b ∷ xs)
unfolding placed
in_placed a b [] i = i
in_placed a b (x ∷ xs) i = either (before b.ask x.ask) i (λ j. in_placed a b xs j)
  where
    either : (t : Bool) → In a (if t then b ∷ x ∷ xs else x ∷ placed b xs)
        → (In a (placed b xs) → In a (b ∷ xs)) → In a (b ∷ x ∷ xs)
    either true j rest = j
    either false (inl e) rest = inr (inl e)
    either false (inr j) rest = elim (rest j) [ inl e ↦ inl e | inr k ↦ inr (inr k) ]

in_ordered : (a : Awaited) (xs : List Awaited) → In a (in_order xs) → In a xs
unfolding in_order
in_ordered a [] i = i
in_ordered a (x ∷ xs) i = elim (in_placed a x (in_order xs) i) [ inl e ↦ inl e | inr j ↦ inr (in_ordered a xs j) ]

-- an awaited command that is this one
pub record IsOf (xs : List Awaited) (d : ℕ) (x : Command) : Type 0 where
  pub awaited : Awaited
  pub there : In awaited xs
  pub drive : awaited.drive ≡ d
  pub command : awaited.command ≡ x

in_driven : (d : ℕ) (x : Command) (xs : List Awaited) → In (ToDrive d x) (map to_drive xs) → IsOf xs d x
in_driven d x [] i = absurd i
in_driven d x (a ∷ xs) (inl e) =
    let drive : d ≡ a.drive = cc e in
    let command : x ≡ a.command = cc e in
    record { awaited = a; there = inl refl; drive = sym drive; command = sym command }
in_driven d x (a ∷ xs) (inr i) =
    let r = in_driven d x xs i in
    record { awaited = r.awaited; there = inr r.there; drive = r.drive; command = r.command }

behind_request : (d : ℕ) (x : Command) (o : Option Request) (os : List Outgoing)
    → In (ToDrive d x) (outstanding_sends o ++ os) → In (ToDrive d x) os
behind_request d x None os i = i
behind_request d x (Some r) os (inl e) = absurd (cc e)
behind_request d x (Some r) os (inr i) = i

pub resent_awaited : (c : Client) (d : ℕ) (x : Command) → In (ToDrive d x) (resent c) → IsOf (awaited_of c.call) d x
unfolding resent
resent_awaited c d x i =
    let r = in_driven d x (in_order (awaited_of c.call)) (behind_request d x c.outstanding _ i) in
    record {
      awaited = r.awaited;
      there = in_ordered r.awaited (awaited_of c.call) r.there;
      drive = r.drive;
      command = r.command;
    }
