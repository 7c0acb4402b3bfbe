-- A LAYOUTGET for a call: the grant is given, or those that conflict with it are recalled.
use Rattle.std.proofs.Common.{◌≡◌, ◌<◌, ◌≤◌, ◌==◌, ◌||◌, ◌+◌, ◌++◌, ℕ, Bool, true, false, not, true≢false, List, [], ◌∷◌, length, max, nat_lt, find, filter, Option, Some, None, refl, sym, ap, subst, ◌∙◌, inl, inr, eq-eqb, ne_eqb, arith, if◌then◌else◌}
use Rattle.std.proofs.lemmas.Bool.{cases_Bool, le-ltb}
use Rattle.data_map.specs.declared.ranges.TheConstants.{MAX_FILE_SIZE}
use Rattle.layout_ops.specs.declared.statuses.TheConstants.{LAYOUTIOMODE4_READ, LAYOUTIOMODE4_RW, NFS4ERR_LAYOUTTRYLATER}
use Rattle.layout_ops.specs.declared.results.LayoutGetResult.TheVariants as get
use Rattle.layout_ops.specs.declared.results.Results.TheVariants as results
use Rattle.scenario_text.specs.declared.names.TheConstants.{CLIENTS}
use Rattle.scenario_text.specs.declared.line.Line.{Line}
use Rattle.client_rules.specs.Calls.{span_of, is_write}
use Rattle.client_rules.specs.Requests.{asked_span, get_args}
use Rattle.client_rules.specs.Steps.{is_bad_range}
use Rattle.server_rules.specs.declared.limits.TheConstants.{GREATEST_GRANT}
use Rattle.server_rules.specs.Envelopes.{asked_in}
use Rattle.server_rules.specs.Files.{at_file}
use Rattle.server_rules.specs.Get.{On, early, must_fence, by_first, high_after, lacked, late, gives, by_late, give_or_refuse, on_grants, by_early, gets}
use Rattle.server_rules.specs.Going.{Going}
use Rattle.server_rules.specs.Grants.{conflicts, grant_of, against, any_expired, asked}
use Rattle.server_rules.specs.Laws.{In}
use Rattle.server_rules.specs.Layouts.{granted}
use Rattle.server_rules.specs.Requests.{serves}
use Rattle.server_rules.specs.Served.{Served, tells}
use Rattle.server_rules.proofs.GrantLaws.{nobody, in_filter}
use Rattle.world_history.specs.declared.limits.TheConstants.{MAX_KEPT}
use Rattle.world_history.specs.ClientNames.{CallOp, Request}
use Rattle.world_history.specs.ServerNames.{File, Kept, Grant, RequestArgs, Get}
use Rattle.world_history.specs.State.{World}
use Rattle.world_history.specs.Moves.{Delivers, acts}
use Rattle.exchange_law.proofs.Covered.{inside_limit, rw_again, asked_for, limit_asked}
use Rattle.cause_law.proofs.Files.{few_there}
use Rattle.cause_law.proofs.Holders.{AreNamed, grants_named}
use Rattle.ready_law.specs.Fair.{IsFair}
use Rattle.ready_law.proofs.ServingForms.{RequestLaws, Comes, Carried, Serves}
use Rattle.ready_law.proofs.ServingRequests.{AreOfNamed, request_served}

-- the grant that the call asks for now
abbrev pub asked_now : World → Kept → (c : ℕ) → CallOp → Grant
asked_now w f c op = asked_for f w.server.next_grant c w.clock op

-- Nothing of the file but grants of other clients stands against it: no job runs, the file isn't spent, the client has no
-- grant, and a writer there lacks no component.
pub record CanAsk (w : World) (f : File) (c : ℕ) (op : CallOp) : Type 0 where
  pub range : is_bad_range (span_of op) ≡ false
  pub quiet : f.job ≡ None
  pub unspent : f.spent ≡ false
  pub own : grant_of f.kept.grants c ≡ None
  pub enough : lacked f.kept (asked_now w f.kept c op) ≡ None

-- ---- it is given

-- what is kept of the file with one grant more
abbrev pub with_grant : Kept → Grant → Kept
with_grant f g = record f { grants = f.grants ++ (g ∷ []); high = high_after f.high g }

-- the answer gives the layout of the grant
abbrev pub given : World → (c : ℕ) → Request → File → Grant → Carried
given w c q f g = record {
  left = record f { kept = with_grant f.kept g };
  recalled = [];
  numbers = 1;
  answer = record {
    client = c;
    sequence = q.sequence;
    file = q.file;
    detail = 0;
    size = f.kept.size;
    results = results.LayoutGet (get.Granted (granted w.server.drives (with_grant f.kept g) g));
  };
}

-- ---- others hold what conflicts

-- their grants are recalled, and the answer names the first one's client
abbrev pub held_off : (c : ℕ) → Request → File → (holder : ℕ) → List Grant → Carried
held_off c q f holder gs = record {
  left = f;
  recalled = gs;
  numbers = 0;
  answer = record {
    client = c;
    sequence = q.sequence;
    file = q.file;
    detail = holder;
    size = f.kept.size;
    results = results.LayoutGet (get.TryLater false);
  };
}

-- ---- lists of grants

find_none : (p : Grant → Bool) (gs : List Grant) → filter p gs ≡ [] → find p gs ≡ None
find_none p [] e = refl
find_none p (g ∷ gs) e = elim (cases_Bool (p g)) [
  | inl t ↦ absurd (cc (rw t at e))
  | inr z ↦ rw z (find_none p gs (rw z at e))
]

find_first : (p : Grant → Bool) (gs : List Grant) (x : Grant) (xs : List Grant) → filter p gs ≡ x ∷ xs → find p gs ≡ Some x
find_first p [] x xs e = absurd (cc e)
find_first p (g ∷ gs) x xs e = elim (cases_Bool (p g)) [
  | inl t ↦ let same : g ≡ x = cc (rw t at e) in rw t (ap (λ (y : Grant). Some y) same)
  | inr z ↦ rw z (find_first p gs x xs (rw z at e))
]

none_expired : (now : ℕ) (gs : List Grant) → ((x : Grant) → In x gs → nat_lt x.expiry now ≡ false) → any_expired now gs ≡ false
none_expired now [] all = refl
none_expired now (g ∷ gs) all = rw (all g (inl refl)) (none_expired now gs (λ x i. all x (inr i)))

-- of a client with a number, where each client's first grant is of one
of_named : (gs : List Grant) → AreNamed gs → (x : Grant) → In x gs → x.client < CLIENTS
of_named gs all x i = by (grant_of gs x.client) refl
  where
    by : (o : Option Grant) → grant_of gs x.client ≡ o → x.client < CLIENTS
    by None e =
        absurd (true≢false (sym (eq-eqb x.client x.client refl) ∙ nobody (λ (g : Grant). g.client == x.client) gs x e i))
    by (Some g) e = all x.client g e

all_named : (xs : List Grant) → ((x : Grant) → In x xs → x.client < CLIENTS) → AreOfNamed xs
all_named [] all = tt
all_named (x ∷ xs) all = (all x (inl refl), all_named xs (λ y i. all y (inr i)))

-- ---- the rows

abbrev mode_of : Bool → ℕ
mode_of write = if write then LAYOUTIOMODE4_RW else LAYOUTIOMODE4_READ

known_mode : (b : Bool) → not ((mode_of b == LAYOUTIOMODE4_READ) || (mode_of b == LAYOUTIOMODE4_RW)) ≡ false
known_mode true = refl
known_mode false = refl

early_on : (f : File) (b : Bool) (o n : ℕ) → 0 < n → o + n ≤ MAX_FILE_SIZE → f.spent ≡ false → f.job ≡ None
    → early f (mode_of b) o n ≡ On
unfolding early
early_on f b o n some short unspent quiet =
    rw (known_mode b, ne_eqb n 0 (λ e. absurd (omega (arith, e, some))), le-ltb MAX_FILE_SIZE (o + n) short, unspent, quiet)
    refl

asked_some : (n : ℕ) → 0 < max n 1
asked_some n = omega arith

module _ (go : Going) (next format now : ℕ) (g : Grant) (own : grant_of go.file.kept.grants g.client ≡ None)
    (unexpired : any_expired now (against go.file.kept.grants g) ≡ false) (number : nat_lt GREATEST_GRANT next ≡ false)
    (enough : lacked go.file.kept g ≡ None) where
  by_conflict : on_grants go next format now g ≡ by_late go g (by_first (find (conflicts g) go.file.kept.grants))
  unfolding on_grants must_fence give_or_refuse late
  by_conflict = rw (own, unexpired, number, enough) refl

-- what the call's LAYOUTGET comes to, where nothing else of the file stands against it
module _ (w : World) (f : File) (chosen : List ℕ) (c : ℕ) (op : CallOp) (can : CanAsk w f c op)
    (number : nat_lt GREATEST_GRANT w.server.next_grant ≡ false)
    (unexpired : any_expired w.clock (against f.kept.grants (asked_now w f.kept c op)) ≡ false) where
  abbrev go : Going
  go = at_file w.server chosen f

  abbrev g : Grant
  g = asked_now w f.kept c op

  its_client : g.client ≡ c
  unfolding asked
  its_client = refl

  get_comes : gets go w.server.next_grant w.server.format w.clock c (mode_of (is_write op)) (asked_span op).offset
      (asked_span op).length ≡ by_late go g (by_first (find (conflicts g) f.kept.grants))
  unfolding gets
  get_comes =
      ap (λ (b : Bool). by_early go w.server.next_grant w.server.format w.clock
      (asked f.kept w.server.next_grant c w.clock (asked_span op).offset (asked_span op).length b)
      (early f (mode_of (is_write op)) (asked_span op).offset (asked_span op).length)) (rw_again (is_write op))
      ∙ ap (by_early go w.server.next_grant w.server.format w.clock g)
      (early_on f (is_write op) (asked_span op).offset (asked_span op).length (asked_some (span_of op).length)
      (limit_asked (span_of op).offset (span_of op).length (inside_limit op can.range)) can.unspent can.quiet)
      ∙ by_conflict go w.server.next_grant w.server.format w.clock g
      (ap (grant_of f.kept.grants) its_client ∙ can.own) unexpired number can.enough

module _ (laws : RequestLaws) (w : World) (h : List Line) (fair : IsFair w h) (chosen : List ℕ) (number c : ℕ) (q : Request)
    (f : File) (comes : Comes w c q f number) (named : c < CLIENTS) (op : CallOp) (args : q.args ≡ get_args op)
    (can : CanAsk w f c op) where
  abbrev wanted : Grant
  wanted = asked_now w f.kept c op

  abbrev asks : RequestArgs
  asks = Get (mode_of (is_write op)) (asked_span op).offset (asked_span op).length

  is_read : asked_in q.args ≡ Some asks
  is_read = ap asked_in args

  -- a number is left for a grant
  numbered : nat_lt GREATEST_GRANT w.server.next_grant ≡ false
  numbered =
      let counts = laws.counted w h fair.moment fair.of_text in
      let few : length w.network.messages ≤ MAX_KEPT = few_there w h fair.moment fair.few in
      le-ltb GREATEST_GRANT w.server.next_grant (omega (arith, counts.grants, few))

  -- no grant conflicts
  pub get_gives : against f.kept.grants (asked_now w f.kept c op) ≡ []
      → Serves w c q number (given w c q f (asked_now w f.kept c op)) (acts w chosen (Delivers number))
  get_gives free =
      let go : Going = at_file w.server chosen f in
      let its : serves go w.server.next_grant w.server.format w.clock c asks ≡ gives go wanted =
      get_comes w f chosen c op can numbered (ap (any_expired w.clock) free)
      ∙ ap (λ (o : Option Grant). by_late go wanted (by_first o)) (find_none (conflicts wanted) f.kept.grants free) in
      request_served laws w h fair chosen number c q f comes named asks is_read (gives go wanted) its refl refl tt

  -- some do, and none of them is expired
  pub get_recalls : (first : Grant) (others : List Grant) → against f.kept.grants (asked_now w f.kept c op) ≡ first ∷ others
      → ((x : Grant) → In x (first ∷ others) → nat_lt x.expiry w.clock ≡ false)
      → Serves w c q number (held_off c q f first.client (first ∷ others)) (acts w chosen (Delivers number))
  get_recalls first others are unexpired =
      let go : Going = at_file w.server chosen f in
      let v : Served = record {
        going = go;
        recalled = first ∷ others;
        numbers = 0;
        told = tells NFS4ERR_LAYOUTTRYLATER first.client;
      } in
      let its : serves go w.server.next_grant w.server.format w.clock c asks ≡ v =
      get_comes w f chosen c op can numbered
      (ap (any_expired w.clock) are ∙ none_expired w.clock (first ∷ others) unexpired)
      ∙ ap (λ (o : Option Grant). by_late go wanted (by_first o))
      (find_first (conflicts wanted) f.kept.grants first others are)
      ∙ ap (λ (gs : List Grant). record {
        going = go;
        recalled = gs;
        numbers = 0;
        told = tells NFS4ERR_LAYOUTTRYLATER first.client;
      }) are in
      let known : AreNamed f.kept.grants = grants_named laws.safe laws.more w h fair.moment q.file f comes.file in
      request_served laws w h fair chosen number c q f comes named asks is_read v its refl refl
      (all_named (first ∷ others) (λ x i. of_named f.kept.grants known x
      (in_filter (conflicts wanted) f.kept.grants x (subst (In x) (sym are) i))))
