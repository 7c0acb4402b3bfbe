-- How many data bytes the log keeps of a call: those of its write, once.
use Rattle.std.proofs.Common.{◌≡◌, ◌≢◌, ◌⊎◌, ◌≤◌, ◌+◌, ◌||◌, ◌&&◌, not, ℕ, Bool, true, false, if◌then◌else◌, List, [], ◌∷◌, length, map, filter, Option, Some, None, IsSome, refl, sym, ap, subst, ◌∙◌, arith, inl, inr}
use Rattle.std.specs.List.{list_any, sum_by}
use Rattle.std.proofs.lemmas.Bool.{cases_Bool}
use Rattle.std.proofs.lemmas.List.Sums.{sum_by-cons}
use Rattle.osd_lists.specs.declared.node.Node.{Node}
use Rattle.osd_lists.specs.declared.node.Node.TheVariants as node
use Rattle.osd_objects.proofs.Entries.{lookup_set, lookup_set_beside}
use Rattle.client_rules.specs.Calls.{bytes_of}
use Rattle.client_rules.specs.History.{Calls, Hears, step}
use Rattle.client_rules.specs.Messages.{Message as ClientMessage, Step as ClientStep}
use Rattle.server_rules.specs.History.{Hears as ServerHears, step as server_step}
use Rattle.server_rules.specs.Messages.{Message as ServerMessage}
use Rattle.world_history.specs.ClientNames.{CallOp, Outgoing}
use Rattle.world_history.specs.ServerNames.{Outgoing as ServerOutgoing}
use Rattle.world_history.specs.declared.messages.Message.{Message}
use Rattle.world_history.specs.State.{World, DriveAt, ClientAt, at_number}
use Rattle.world_history.specs.Drives.{is_deaf, judges, command_in}
use Rattle.scenario_text.specs.declared.line.Delivery.TheVariants as delivery
use Rattle.world_history.specs.Handed.{Post, Handed, quiet, is_addressed, drive_hears, drive_replies, server_post, server_takes, for_server, is_write_out, client_post, client_posts, pending_op, data_in, client_did, client_takes, client_hears, for_client, handed_to}

abbrev pub logged_in : List Post → ℕ
logged_in ps = sum_by (λ (p : Post). p.logged) ps

-- what the log may still keep of a call of so many bytes: none once a WRITE of it was sent
abbrev pub spare : (d : ℕ) → (wrote : Bool) → ℕ
spare d wrote = if wrote then 0 else d

abbrev pub spare_of : (d : ℕ) → Option ClientAt → ℕ
spare_of d None = d
spare_of d (Some a) = spare d a.wrote

-- ---- lists of messages

fewer_logged : (p : Post → Bool) (ps : List Post) → logged_in (filter p ps) ≤ logged_in ps
fewer_logged p [] = omega arith
fewer_logged p (x ∷ ps) = elim (cases_Bool (p x)) [
  | inl t ↦ rw t (omega (
    arith,
    fewer_logged p ps,
    sum_by-cons (λ (y : Post). y.logged) x ps,
    sum_by-cons (λ (y : Post). y.logged) x (filter p ps),
  ))
  | inr f ↦ rw f (omega (arith, fewer_logged p ps, sum_by-cons (λ (y : Post). y.logged) x ps))
]

none_logged : (os : List ServerOutgoing) → logged_in (map server_post os) ≡ 0
none_logged [] = refl
none_logged (o ∷ os) = omega (arith, none_logged os, sum_by-cons (λ (y : Post). y.logged) (server_post o) (map server_post os))

-- the first WRITE alone is logged
once_logged : (c : ℕ) (wrote : Bool) (d : ℕ) (os : List Outgoing)
    → logged_in (client_posts c wrote d os) + spare d (wrote || list_any is_write_out os) ≤ spare d wrote
once_logged c true d [] = omega arith
once_logged c false d [] = omega arith
once_logged c wrote d (o ∷ os) =
    by wrote (is_write_out o) (once_logged c true d os) (once_logged c false d os)
  where
    by : (wrote w : Bool) → logged_in (client_posts c true d os) + spare d (true || list_any is_write_out os) ≤ spare d true
        → logged_in (client_posts c false d os) + spare d (false || list_any is_write_out os) ≤ spare d false
        → logged_in (client_post c (if w && not wrote then d else 0) o ∷ client_posts c (wrote || w) d os)
        + spare d (wrote || (w || list_any is_write_out os)) ≤ spare d wrote
    by true true p q =
        omega (arith, p, sum_by-cons (λ (y : Post). y.logged) (client_post c 0 o) (client_posts c true d os))
    by true false p q =
        omega (arith, p, sum_by-cons (λ (y : Post). y.logged) (client_post c 0 o) (client_posts c true d os))
    by false true p q =
        omega (arith, p, sum_by-cons (λ (y : Post). y.logged) (client_post c d o) (client_posts c true d os))
    by false false p q =
        omega (arith, q, sum_by-cons (λ (y : Post). y.logged) (client_post c 0 o) (client_posts c false d os))

addressed_once : (c : ℕ) (wrote : Bool) (d : ℕ) (os : List Outgoing)
    → logged_in (filter is_addressed (client_posts c wrote d os)) + spare d (wrote || list_any is_write_out os)
    ≤ spare d wrote
addressed_once c wrote d os =
    omega (arith, once_logged c wrote d os, fewer_logged is_addressed (client_posts c wrote d os))

-- no byte is logged where there are none
nothing_logged : (c : ℕ) (wrote : Bool) (os : List Outgoing) → logged_in (filter is_addressed (client_posts c wrote 0 os)) ≡ 0
nothing_logged c wrote os = none wrote (addressed_once c wrote 0 os)
  where
    none : (b : Bool) → logged_in (filter is_addressed (client_posts c wrote 0 os)) + spare 0 (wrote || list_any is_write_out os)
        ≤ spare 0 b → logged_in (filter is_addressed (client_posts c wrote 0 os)) ≡ 0
    none true l = omega (arith, l)
    none false l = omega (arith, l)

-- ---- a message comes to a party

-- what a party logs, and what may still be logged of client c's call, are no more than before
abbrev pub LogsWithin : (c d : ℕ) → World → Handed → Type 0
LogsWithin c d w x = logged_in x.posts + spare_of d (at_number x.world.clients c) ≤ spare_of d (at_number w.clients c)

-- a client that hears something has this call, or is another one without a call
abbrev pub MayLog : (c d : ℕ) → (receiver : ℕ) → ClientAt → Type 0
MayLog c d k a = ((k ≡ c) × (data_in (pending_op a.state) ≤ d)) ⊎ ((k ≢ c) × (pending_op a.state ≡ None))

module _ (c d : ℕ) (w : World) where
  unchanged : (x : Handed) → x.posts ≡ [] → x.world.clients ≡ w.clients → LogsWithin c d w x
  unchanged x none same =
      let a : logged_in x.posts ≡ 0 = ap logged_in none in
      let b : spare_of d (at_number x.world.clients c) ≡ spare_of d (at_number w.clients c) =
      ap (λ (cs : List (ℕ × ClientAt)). spare_of d (at_number cs c)) same in
      omega (arith, a, b)

  either : (b : Bool) (x y : Handed) → LogsWithin c d w x → LogsWithin c d w y → LogsWithin c d w (if b then x else y)
  either true x y p q = p
  either false x y p q = q

  server_logs : (chosen : List ℕ) (from : Node) (m : Option ServerMessage) → LogsWithin c d w (server_takes w chosen from m)
  server_logs chosen from None = unchanged (quiet w delivery.Taken) refl refl
  server_logs chosen from (Some m) =
      let os : List ServerOutgoing = (server_step w.server chosen (ServerHears w.clock from m)).sends in
      omega (arith, fewer_logged is_addressed (map server_post os), none_logged os)

  drive_logs : (k : ℕ) (m : Message) (a : Option DriveAt) → LogsWithin c d w (drive_hears w k m a)
  drive_logs k m None = unchanged (quiet w delivery.Deaf) refl refl
  drive_logs k m (Some a) =
      either (is_deaf a) (quiet w delivery.Deaf) (drive_replies w k m.from (judges a (command_in m.body)))
      (unchanged (quiet w delivery.Deaf) refl refl) (one (drive_replies w k m.from (judges a (command_in m.body))) refl refl)
    where
      one : (x : Handed) → logged_in x.posts ≡ 0 → x.world.clients ≡ w.clients → LogsWithin c d w x
      one x none same =
          let b : spare_of d (at_number x.world.clients c) ≡ spare_of d (at_number w.clients c) =
          ap (λ (cs : List (ℕ × ClientAt)). spare_of d (at_number cs c)) same in
          omega (arith, none, b)

  module _ (k : ℕ) (a : ClientAt) (found : at_number w.clients k ≡ Some a) (may : MayLog c d k a) where
    some_there : IsSome (at_number w.clients k)
    some_there = subst IsSome (sym found) refl

    did_logs : (from : Node) (x : ClientMessage) (t : ClientStep) → LogsWithin c d w (client_did w k a (Hears from x) t)
    did_logs from x t = elim may [
      | inl its ↦
          let n : ℕ = data_in (pending_op a.state) in
          let logs = addressed_once k a.wrote n t.sends in
          let now : at_number (client_did w k a (Hears from x) t).world.clients c
          ≡ Some (record a { state = t.client; wrote = a.wrote || list_any is_write_out t.sends }) =
          ap (at_number (client_did w k a (Hears from x) t).world.clients) (sym its.0) ∙ lookup_set w.clients k _ some_there in
          let was : at_number w.clients c ≡ Some a = ap (at_number w.clients) (sym its.0) ∙ found in
          let now_is : spare_of d (at_number (client_did w k a (Hears from x) t).world.clients c)
          ≡ spare d (a.wrote || list_any is_write_out t.sends) = ap (spare_of d) now in
          let was_is : spare_of d (at_number w.clients c) ≡ spare d a.wrote = ap (spare_of d) was in
          let all = within n a.wrote (list_any is_write_out t.sends)
          (logged_in (filter is_addressed (client_posts k a.wrote n t.sends))) its.1 logs in
          omega (arith, now_is, was_is, all)
      | inr other ↦
          let none : logged_in (client_did w k a (Hears from x) t).posts ≡ 0 =
          ap (λ (o : Option CallOp). logged_in (filter is_addressed (client_posts k a.wrote (data_in o) t.sends))) other.1
          ∙ nothing_logged k a.wrote t.sends in
          let same : spare_of d (at_number (client_did w k a (Hears from x) t).world.clients c)
          ≡ spare_of d (at_number w.clients c) =
          ap (spare_of d) (lookup_set_beside w.clients k c _ (λ e. other.0 (sym e))) in
          omega (arith, none, same)
    ]
      where
        within : (n : ℕ) (b e : Bool) (l : ℕ) → n ≤ d → l + spare n (b || e) ≤ spare n b → l + spare d (b || e) ≤ spare d b
        within n true e l few p = p
        within n false true l few p = omega (arith, few, p)
        within n false false l few p = omega (arith, few, p)

    takes_logs : (from : Node) (x : Option ClientMessage) → LogsWithin c d w (client_takes w k a from x)
    takes_logs from None = unchanged (quiet w delivery.Taken) refl refl
    takes_logs from (Some x) = did_logs from x (step a.state (Hears from x))

  hears_logs : (k : ℕ) (m : Message) (o : Option ClientAt) → at_number w.clients k ≡ o
      → ((a : ClientAt) → at_number w.clients k ≡ Some a → MayLog c d k a) → LogsWithin c d w (client_hears w k m o)
  hears_logs k m None found may = unchanged (quiet w delivery.Deaf) refl refl
  hears_logs k m (Some a) found may =
      either a.stopped (quiet w delivery.Deaf) (client_takes w k a m.from (for_client m))
      (unchanged (quiet w delivery.Deaf) refl refl) (takes_logs k a found (may a found) m.from (for_client m))

  -- whoever it is for
  pub handed_logs : (chosen : List ℕ) (m : Message) (to : Node)
      → ((k : ℕ) (a : ClientAt) → to ≡ node.Client k → at_number w.clients k ≡ Some a → MayLog c d k a)
      → LogsWithin c d w (handed_to w chosen m to)
  handed_logs chosen m node.Server may =
      either w.down (quiet w delivery.Deaf) (server_takes w chosen m.from (for_server m))
      (unchanged (quiet w delivery.Deaf) refl refl) (server_logs chosen m.from (for_server m))
  handed_logs chosen m (node.Drive k) may = drive_logs k m (at_number w.drives k)
  handed_logs chosen m (node.Client k) may = hears_logs k m (at_number w.clients k) refl (λ a found. may k a refl found)

-- ---- a client is called

-- what is logged at a call's begin, and what may still be, are no more than it has bytes
pub called_logs : (w : World) (c : ℕ) (a : ClientAt) (op : CallOp) (t : ClientStep) → at_number w.clients c ≡ Some a
    → logged_in (client_did w c a (Calls op) t).posts
    + spare_of (length (bytes_of op)) (at_number (client_did w c a (Calls op) t).world.clients c) ≤ length (bytes_of op)
called_logs w c a op t found =
    let now = ap (spare_of (length (bytes_of op)))
    (lookup_set w.clients c (record a { state = t.client; wrote = false || list_any is_write_out t.sends })
    (subst IsSome (sym found) refl)) in
    omega (arith, now, addressed_once c false (length (bytes_of op)) t.sends)
