-- Replies and requests at a file go with the placer's drives as the CREATEs that they send.
use Rattle.std.proofs.Common.{◌≡◌, ℕ, ◌+◌, ◌==◌, ◌∷◌, [], List, ◌++◌, Bool, true, false, Option, Some, None, is_some, find, refl, sym, ap, subst, ◌∙◌, append_assoc, if◌then◌else◌}
use Rattle.std.proofs.lemmas.List.{append-nil}
use Rattle.std.proofs.lemmas.Grind.{flat_map-append}
use Rattle.osd_capability.specs.Layout.{is_format}
use Rattle.server_rules.specs.declared.limits.TheConstants.{GREATEST_TAG, NO_COMPONENT, LOSS_TAKEN}
use Rattle.layout_ops.specs.declared.statuses.TheConstants.{NFS4_OK, NFS4ERR_LAYOUTUNAVAILABLE}
use Rattle.world_history.specs.ServerNames.{Kept, Component, Grant, Awaited, Drive, Job, Work, Revoking, Targets, Gathers, Fills, NoSpace, Reported, Spent, Reply, RequestArgs, Get, Commit, Return}
use Rattle.server_rules.specs.Numbers.{among}
use Rattle.server_rules.specs.Grants.{without}
use Rattle.server_rules.specs.Standing.{lose_from}
use Rattle.server_rules.specs.Going.{Going, keeping, with_components, noting, noting_if}
use Rattle.server_rules.specs.Replies.{Hearing, Older, Full, Done, Nothing, hearing, others, fills_up, heard_with, hears, answers, heard_by, heard_in, on_reply}
use Rattle.server_rules.specs.Jobs.{fence_begins}
use Rattle.server_rules.specs.Served.{Served, says}
use Rattle.server_rules.specs.Get.{Early, BadMode, Invalid, Unable, Waits, On, Late, NoNumber, Lacks, Conflict, Gives, high_after, late, by_late, give_or_refuse, after_fence, fence_then, fence_first, must_fence, on_grants, by_early, gets}
use Rattle.server_rules.specs.Commit.{Committed, Wrong, Sizes, NoGrant as NoCommit, by_commit, commits}
use Rattle.server_rules.specs.Return.{Returned, NoGrant, Clean, Taken, TooMany, Fencing, reports_from, takes_loss, ends_grant, by_return, returns_on}
use Rattle.server_rules.specs.Requests.{serves}
use Rattle.history_law.proofs.Creating.{place}
use Rattle.history_law.proofs.Placing.{Given, given, choosing, left_with, IsAlike, alike_same, Fit, placed_of, Placed, placed_here}
use Rattle.history_law.proofs.Rebuilding.{full_placed}
use Rattle.history_law.proofs.BookGoing.{fence_placed, waits_placed, loses_placed}

-- ---- a reply

-- A step ends with `h`, and so it does with the drives of the CREATEs that it sent; which of them are left doesn't
-- matter. With any drives it ends alike.
pub record Ends (ds : List Drive) (sent : List Awaited) (h : Going) (f : List ℕ → Going) : Type 0 where
  pub more : List Awaited
  pub sends : h.effects.sent ≡ sent ++ more
  pub left : List ℕ
  pub same : f (placed_of ds more) ≡ left_with h left
  pub alike : (x : List ℕ) → IsAlike (f x) h
  pub format : is_format h.file.kept.format ≡ true

pub ends_placed : (ds : List Drive) (sent : List Awaited) (h : Going) (f : Given → Going) → Placed ds sent h f
    → Ends ds sent h (λ x. f (given sent x))
ends_placed ds sent h f p = record {
  more = p.more;
  sends = p.sends;
  left = [];
  same = ap (λ (ns : List ℕ). f (given sent ns)) (sym (append-nil (placed_of ds p.more))) ∙ p.same [];
  alike = λ x. p.alike (given sent x);
  format = p.format;
}

full_up_placed : (g : Going) (j : Job) (a : Awaited) (work : Work) → Fit g
    → Placed g.drives g.effects.sent (fills_up g j a work) (λ x. fills_up (choosing g x) j a work)
full_up_placed g j a (Targets t) h = full_placed g t h
full_up_placed g j a (Gathers t todo) h = full_placed g t h
full_up_placed g j a (Fills t todo) h = full_placed g t h
full_up_placed g j a work h =
    loses_placed (noting (with_components g (lose_from (a.component ∷ []) g.file.kept.components 0))
    (NoSpace a.component)) j
    work (others j.awaited a.command.nonce) false h

hears_ends : (g : Going) (j : Job) (a : Awaited) (r : Reply) (v : Hearing) → Fit g
    → Ends g.drives g.effects.sent (hears g j a r v) (λ x. hears (left_with g x) j a r v)
hears_ends g j a r Older h = record {
  more = _;
  sends = refl;
  left = _;
  same = refl;
  alike = λ x. alike_same _ _ refl refl;
  format = refl;
}
hears_ends g j a r Full h = ends_placed _ _ _ _ (full_up_placed g j a j.work h)
hears_ends g j a r Done h =
    ends_placed _ _ _ _ (waits_placed g j j.work (others j.awaited a.command.nonce) (heard_with j a r) h)
hears_ends g j a r Nothing h = ends_placed _ _ _ _ (placed_here g h)

-- it heard it, and went on alike
abbrev pub HearsAlike : Option Going → Going → Type 0
HearsAlike None h = ⊥
HearsAlike (Some g) h = IsAlike g h

-- of a file that may hear it
abbrev pub HeardAs : List Drive → List Awaited → Option Going → (List ℕ → Option Going) → Type 0
HeardAs ds sent None f = (x : List ℕ) → f x ≡ None
HeardAs ds sent (Some h) f =
    (more : List Awaited) × (left : List ℕ) × (h.effects.sent ≡ sent ++ more) ×
    (f (placed_of ds more) ≡ Some (left_with h left)) ×
    (is_format h.file.kept.format ≡ true) × ((x : List ℕ) → HearsAlike (f x) h)

by_placed : (g : Going) (r : Reply) (j : Job) (a : Option Awaited) → Fit g
    → HeardAs g.drives g.effects.sent (heard_by g r j a) (λ x. heard_by (left_with g x) r j a)
by_placed g r j None h = λ x. refl
by_placed g r j (Some a) h =
    let e = hears_ends g j a r (hearing g.file.kept a r) h in
    (e.more, e.left, e.sends, ap (λ (y : Going). Some y) e.same, e.format, e.alike)

in_placed : (g : Going) (drive : ℕ) (r : Reply) (j : Option Job) → Fit g
    → HeardAs g.drives g.effects.sent (heard_in g drive r j) (λ x. heard_in (left_with g x) drive r j)
in_placed g drive r None h = λ x. refl
in_placed g drive r (Some j) h = by_placed g r j (find (answers drive r) j.awaited) h

pub reply_placed : (g : Going) (drive : ℕ) (r : Reply) → Fit g
    → HeardAs g.drives g.effects.sent (on_reply g drive r) (λ x. on_reply (left_with g x) drive r)
unfolding on_reply
reply_placed g drive r h = in_placed g drive r g.file.job h

-- ---- a request

-- A request is served so, and so it is with the drives of the CREATEs that are sent; with any drives it is alike.
pub record Serves (ds : List Drive) (sent : List Awaited) (v : Served) (f : List ℕ → Served) : Type 0 where
  pub more : List Awaited
  pub sends : v.going.effects.sent ≡ sent ++ more
  pub same : (rest : List ℕ) → f (placed_of ds more ++ rest) ≡ record v { going = left_with v.going rest }
  pub alike : (x : List ℕ) → IsAlike (f x).going v.going
  pub format : is_format v.going.file.kept.format ≡ true

serves_here : (ds : List Drive) (sent : List Awaited) (v : Served) → v.going.effects.sent ≡ sent
    → is_format v.going.file.kept.format ≡ true → Serves ds sent v (λ x. record v { going = left_with v.going x })
serves_here ds sent v same format = record {
  more = [];
  sends = same ∙ sym (append-nil sent);
  same = λ rest. refl;
  alike = λ x. alike_same _ _ refl refl;
  format = format;
}

-- behind something else that was done at the file
serves_then : (ds : List Drive) (sent : List Awaited) (h : Going) (f : Given → Going) (k : Going → Served)
    → Placed ds sent h f → Serves ds h.effects.sent (k h) (λ x. k (left_with h x))
    → ((g : Going) → IsAlike g h → IsAlike (k g).going (k h).going)
    → Serves ds sent (k h) (λ x. k (f (given sent x)))
serves_then ds sent h f k p q alike = record {
  more = p.more ++ q.more;
  sends = q.sends ∙ ap (λ (cs : List Awaited). cs ++ q.more) p.sends ∙ append_assoc sent p.more q.more;
  same = λ rest. ap (λ (ns : List ℕ). k (f (given sent (ns ++ rest)))) (flat_map-append (place ds) p.more q.more)
      ∙ ap (λ (ns : List ℕ). k (f (given sent ns))) (append_assoc (placed_of ds p.more) (placed_of ds q.more) rest)
      ∙ ap k (p.same (placed_of ds q.more ++ rest)) ∙ q.same rest;
  alike = λ x. alike (f (given sent x)) (p.alike (given sent x));
  format = q.format;
}

serves_either : (ds : List Drive) (sent : List Awaited) (b : Bool) (v u : Served) (f k : List ℕ → Served)
    → Serves ds sent v f
    → Serves ds sent u k → Serves ds sent (if b then v else u) (λ x. if b then f x else k x)
serves_either ds sent true v u f k p q = p
serves_either ds sent false v u f k p q = q

-- ---- LAYOUTGET

late_serves : (ds : List Drive) (go : Going) (g : Grant) (l : Late) → is_format go.file.kept.format ≡ true
    → Serves ds go.effects.sent (by_late go g l) (λ x. by_late (left_with go x) g l)
late_serves ds go g NoNumber h = serves_here ds go.effects.sent _ refl h
late_serves ds go g (Lacks k) h = serves_here ds go.effects.sent _ refl h
late_serves ds go g (Conflict holder) h = serves_here ds go.effects.sent _ refl h
late_serves ds go g Gives h = serves_here ds go.effects.sent _ refl h

give_serves : (ds : List Drive) (go : Going) (next : ℕ) (g : Grant) → is_format go.file.kept.format ≡ true
    → Serves ds go.effects.sent (give_or_refuse go next g) (λ x. give_or_refuse (left_with go x) next g)
unfolding give_or_refuse
give_serves ds go next g h = late_serves ds go g (late go.file.kept next g) h

after_serves : (ds : List Drive) (go : Going) (next : ℕ) (g : Grant) (j : Option Job)
    → is_format go.file.kept.format ≡ true
    → Serves ds go.effects.sent (after_fence go next g j) (λ x. after_fence (left_with go x) next g j)
after_serves ds go next g None h = give_serves ds go next g h
after_serves ds go next g (Some j) h = serves_here ds go.effects.sent _ refl h

late_alike : (g h : Going) (d : Grant) (l : Late) → IsAlike g h → IsAlike (by_late g d l).going (by_late h d l).going
late_alike g h d NoNumber s = s
late_alike g h d (Lacks k) s = s
late_alike g h d (Conflict holder) s = s
late_alike g h d Gives s = record { kept = ap granted s.kept; runs = s.runs; effects = s.effects }
  where
    granted : Kept → Kept
    granted k = record k { grants = k.grants ++ (d ∷ []); high = high_after k.high d }

give_alike : (g h : Going) (next : ℕ) (d : Grant) → IsAlike g h
    → IsAlike (give_or_refuse g next d).going (give_or_refuse h next d).going
unfolding give_or_refuse
give_alike g h next d s =
    subst (λ (k : Kept). IsAlike (by_late g d (late k next d)).going (by_late h d (late h.file.kept next d)).going)
    (sym s.kept) (late_alike g h d (late h.file.kept next d) s)

after_alike : (g h : Going) (next : ℕ) (d : Grant) (i j : Option Job) → is_some i ≡ is_some j → IsAlike g h
    → IsAlike (after_fence g next d i).going (after_fence h next d j).going
after_alike g h next d None None e s = give_alike g h next d s
after_alike g h next d (Some i) (Some j) e s = s
after_alike g h next d None (Some j) e s = absurd (cc e)
after_alike g h next d (Some i) None e s = absurd (cc e)

fence_serves : (go : Going) (next format : ℕ) (g : Grant) → is_format format ≡ true → Fit go
    → Serves go.drives go.effects.sent (fence_first go next format g) (λ x. fence_first (left_with go x) next format g)
unfolding fence_first
fence_serves go next format g known h =
    let p = fence_placed Revoking format go known h in
    serves_either go.drives go.effects.sent (go.file.kept.tag == GREATEST_TAG) _ _
    (λ x. says (noting (left_with go x) Spent) NFS4ERR_LAYOUTUNAVAILABLE NO_COMPONENT)
    (λ x. fence_then (fence_begins Revoking format (left_with go x)) next g)
    (serves_here go.drives go.effects.sent _ refl h.format)
    (serves_then go.drives go.effects.sent (fence_begins Revoking format go) _ (λ y. fence_then y next g) p
    (after_serves go.drives (fence_begins Revoking format go) next g
    (fence_begins Revoking format go).file.job p.format)
    (λ y s. after_alike y (fence_begins Revoking format go) next g _ _ s.runs s))

grants_serve : (go : Going) (next format now : ℕ) (g : Grant) → is_format format ≡ true → Fit go
    → Serves go.drives go.effects.sent (on_grants go next format now g) (λ x. on_grants (left_with go x) next format now g)
unfolding on_grants
grants_serve go next format now g known h =
    serves_either go.drives go.effects.sent (must_fence now go.file.kept.grants g) _ _
    (λ x. fence_first (left_with go x) next format g) (λ x. give_or_refuse (left_with go x) next g)
    (fence_serves go next format g known h) (give_serves go.drives go next g h.format)

early_serves : (go : Going) (next format now : ℕ) (g : Grant) (e : Early) → is_format format ≡ true → Fit go
    → Serves go.drives go.effects.sent (by_early go next format now g e)
    (λ x. by_early (left_with go x) next format now g e)
early_serves go next format now g BadMode known h = serves_here go.drives go.effects.sent _ refl h.format
early_serves go next format now g Invalid known h = serves_here go.drives go.effects.sent _ refl h.format
early_serves go next format now g Unable known h = serves_here go.drives go.effects.sent _ refl h.format
early_serves go next format now g (Waits k) known h = serves_here go.drives go.effects.sent _ refl h.format
early_serves go next format now g On known h = grants_serve go next format now g known h

-- ---- LAYOUTCOMMIT and LAYOUTRETURN

commit_serves : (go : Going) (c : Committed) → Fit go
    → Serves go.drives go.effects.sent (by_commit go c) (λ x. by_commit (left_with go x) c)
commit_serves go NoCommit h = serves_here go.drives go.effects.sent _ refl h.format
commit_serves go Wrong h = serves_here go.drives go.effects.sent _ refl h.format
commit_serves go (Sizes size) h = serves_here go.drives go.effects.sent _ refl h.format

reports_placed : (go : Going) (ks : List ℕ) (cs : List Component) (k : ℕ) → Fit go
    → Placed go.drives go.effects.sent (reports_from go ks cs k) (λ x. reports_from (choosing go x) ks cs k)
unfolding reports_from
reports_placed go ks [] k h = placed_here go h
reports_placed go ks (at ∷ cs) k h = reports_placed (noting_if (among k ks) go (Reported k)) ks cs (k + 1) h

taken_serves : (go : Going) (client : ℕ) (ks : List ℕ) → Fit go
    → Serves go.drives go.effects.sent (says (ends_grant (takes_loss go ks) client) NFS4_OK LOSS_TAKEN)
    (λ x. says (ends_grant (takes_loss (left_with go x) ks) client) NFS4_OK LOSS_TAKEN)
unfolding takes_loss
taken_serves go client ks h =
    let g : Going = keeping go (record go.file.kept { components = lose_from ks go.file.kept.components 0 }) in
    let p = reports_placed g ks go.file.kept.components 0 h in
    serves_then go.drives go.effects.sent (reports_from g ks go.file.kept.components 0) _
    (λ y. says (ends_grant y client) NFS4_OK LOSS_TAKEN) p
    (serves_here go.drives _ _ refl p.format)
    (λ y s. record { kept = ap ended s.kept; runs = s.runs; effects = s.effects })
  where
    ended : Kept → Kept
    ended k = record k { grants = without k.grants client }

return_serves : (go : Going) (format client : ℕ) (r : Returned) → is_format format ≡ true → Fit go
    → Serves go.drives go.effects.sent (by_return go format client r) (λ x. by_return (left_with go x) format client r)
return_serves go format client NoGrant known h = serves_here go.drives go.effects.sent _ refl h.format
return_serves go format client Clean known h = serves_here go.drives go.effects.sent _ refl h.format
return_serves go format client (Taken ks) known h = taken_serves go client ks h
return_serves go format client TooMany known h = serves_here go.drives go.effects.sent _ refl h.format
return_serves go format client Fencing known h =
    let p = fence_placed Revoking format go known h in
    serves_then go.drives go.effects.sent (fence_begins Revoking format go) _ (λ y. says y NFS4_OK 0) p
    (serves_here go.drives _ _ refl p.format) (λ y s. s)

-- ---- any request

pub request_serves : (go : Going) (next format now client : ℕ) (a : RequestArgs) → is_format format ≡ true → Fit go
    → Serves go.drives go.effects.sent (serves go next format now client a)
    (λ x. serves (left_with go x) next format now client a)
unfolding gets commits returns_on
request_serves go next format now client (Get iomode offset count) known h = early_serves go next format now _ _ known h
request_serves go next format now client (Commit last) known h = commit_serves go _ h
request_serves go next format now client (Return report) known h = return_serves go format client _ known h
