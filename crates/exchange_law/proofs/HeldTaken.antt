-- What the server gives for a call, the client takes.
use Rattle.std.proofs.Common.{◌≡◌, ◌==◌, ◌<◌, ◌≤◌, ℕ, ◌+◌, ◌-◌, ◌*◌, ◌/◌, ◌^◌, ◌&&◌, ◌||◌, min, nat_lt, Bool, true, false, List, Some, None, Ok, slice_get, refl, sym, ap, subst, ◌∙◌, arith, inl, inr, if◌then◌else◌, length}
use Rattle.std.proofs.lemmas.Bool.{cases_lt, le-ltb, eq-eqb}
use Rattle.std.proofs.lemmas.Nat.{le-div, div-mul-add, from_be_bytes-to_be_bytes_4}
use Rattle.std.proofs.Math.Nat.{div-mul-le_self, mul-le-mul_right}
use Rattle.data_map.specs.Striping.{stripe_of, stripe_length}
use Rattle.data_map.proofs.Checks.{checked_again}
use Rattle.data_map.proofs.Shape.{some_stripe}
use Rattle.stripe_plan.specs.declared.plan.Span.{Span}
use Rattle.stripe_plan.specs.Touched.{end_of, stripes}
use Rattle.stripe_plan.specs.Lost.{unwritable}
use Rattle.osd_capability.specs.Layout as capabilities
use Rattle.layout_ops.specs.declared.statuses.TheConstants.{LAYOUTIOMODE4_READ, LAYOUTIOMODE4_RW}
use Rattle.layout_ops.specs.declared.results.LayoutGetResult.TheVariants as get
use Rattle.layout_ops.specs.declared.results.Results.TheVariants as results
use Rattle.layout_ops.specs.declared.messages.Answer.{Answer}
use Rattle.world_history.specs.ClientNames.{CallOp, Held, Reach}
use Rattle.client_rules.specs.declared.limits.TheConstants.{MAX_FILE_COMPONENTS}
use Rattle.client_rules.specs.Calls.{file_of, span_of, is_write}
use Rattle.client_rules.specs.Grants.{covers, is_for}
use Rattle.client_rules.specs.Requests.{asked_span, grant_in, stateid_of}
use Rattle.client_rules.specs.Layouts.{is_map, first_why, fresh, granted_span, is_lacking, enough, reach_of, taken}
use Rattle.client_rules.specs.Steps.{is_bad_range}
use Rattle.world_history.specs.ServerNames.{ClientRequest, Component, Drive, Grant, Kept, Get}
use Rattle.server_rules.specs.declared.limits.TheConstants.{GREATEST_GRANT}
use Rattle.server_rules.specs.Answers.{result_with, file_answer}
use Rattle.server_rules.specs.Get.{lacked}
use Rattle.server_rules.specs.Grants.{asked}
use Rattle.server_rules.specs.Going.{Going}
use Rattle.server_rules.specs.Layouts.{capability_for, credentials_from, granted, layout_for, segment_for}
use Rattle.server_rules.specs.Requests.{serves}
use Rattle.server_rules.specs.Served.{Served, Told}
use Rattle.server_rules.specs.Standing.{lacked_from}
use Rattle.history_law.specs.Granted.{NumbersFit}
use Rattle.history_law.proofs.Exact.{body_read}
use Rattle.exchange_law.specs.Held.{listed_from, IsGiven}
use Rattle.exchange_law.specs.HeldTaken.{IsShaped, OnDrives, IsGetOf, GivenIsTaken}
use Rattle.exchange_law.proofs.HeldTelling.{TellsIt, gets_tells}
use Rattle.exchange_law.proofs.Covered.{asked_for, asked_is_for, holds_asked, reach_is, first_is, end_is, rw_again, IsReachOf}
use Rattle.exchange_law.proofs.Listing.{listed_all, length_credentials, none_secured}
use Rattle.exchange_law.proofs.Enough.{missing, not_short, none_unwritable}

-- ---- what is told

-- the grant that is told is the one that the call asked
module _ (go : Going) (next format now : ℕ) (q : ClientRequest) (op : CallOp) (is_get : IsGetOf op q) where
  abbrev mode : ℕ
  mode = if is_write op then LAYOUTIOMODE4_RW else LAYOUTIOMODE4_READ

  abbrev pub its_grant : Grant
  its_grant = asked_for go.file.kept next q.client now op

  args_are : Get mode (asked_span op).offset (asked_span op).length ≡ q.args
  args_are = cc is_get.args

  pub told_for : (v : Served) → v ≡ serves go next format now q.client q.args
      → TellsIt go.file.kept next its_grant v
  told_for v is =
      let as_get : serves go next format now q.client (Get mode (asked_span op).offset (asked_span op).length) ≡ v =
      ap (serves go next format now q.client) args_are ∙ sym is in
      let as_asked : asked go.file.kept next q.client now (asked_span op).offset (asked_span op).length
      (mode == LAYOUTIOMODE4_RW) ≡ its_grant =
      ap (asked go.file.kept next q.client now (asked_span op).offset (asked_span op).length)
      (rw_again (is_write op)) in
      subst (λ (g : Grant). TellsIt go.file.kept next g v) as_asked
      (subst (TellsIt go.file.kept next (asked go.file.kept next q.client now (asked_span op).offset
      (asked_span op).length (mode == LAYOUTIOMODE4_RW))) as_get
      (gets_tells go next format now q.client mode (asked_span op).offset (asked_span op).length))

-- ---- stripes of what was asked and granted

below_end : (x w : ℕ) → 0 < w → 0 < x → (x - 1) / w < (x + (w - 1)) / w
below_end x w some more =
    omega (arith, le-div ((x - 1) / w + 1) (x + (w - 1)) w some (omega (arith, div-mul-le_self (x - 1) w, some, more)))

pub below_product : (x q w : ℕ) → x < q * w → x / w < q
below_product x q w less = elim (cases_lt (x / w) q) [
  | inl l ↦ l
  | inr m ↦ absurd (omega (arith, less, mul-le-mul_right w m, div-mul-le_self x w))
]

-- ---- the answer is taken

module _ (ds : List Drive) (f : Kept) (next client now : ℕ) (op : CallOp) (e : Kept) (map_is : f.map ≡ e.map)
    (size_is : f.size ≡ e.size) (shaped : IsShaped f) (fine : is_bad_range (span_of op) ≡ false) where
  abbrev g : Grant
  g = asked_for e next client now op

  abbrev w : ℕ
  w = stripe_length f.map

  some : 0 < w
  some = some_stripe f.map shaped.map

  abbrev r : Reach
  r = reach_of f.size op (segment_for ds f g)

  reaches : IsReachOf f g r
  reaches = reach_is ds f next client now op e map_is size_is some

  for_call : is_for r f.size op ≡ true
  for_call = asked_is_for op f.size r fine (holds_asked ds f next client now op e map_is size_is some fine)

  abbrev pub gained : Held
  gained = fresh (file_of op) g.number f.size r f.map (listed_from ds f g f.components 0)

  pub gains_cover : covers gained op ≡ true
  unfolding covers
  gains_cover = for_call

  pub gains_it : file_of op ≡ e.number → IsGiven ds f g gained
  unfolding asked
  gains_it same = record {
    agrees = record {
      file = same;
      number = refl;
      rw = reaches.rw;
      extending = reaches.extending;
      first = reaches.first;
      end = reaches.end;
      map = refl;
    };
    size = refl;
    components = refl;
    count = refl;
  }

  -- nothing stands against the layout
  usable : is_map f.map ≡ true
  usable =
      rw (checked_again f.map shaped.map, le-ltb MAX_FILE_COMPONENTS f.map.comps shaped.few) refl

  no_why : first_why r f.size op (layout_for ds f g) ≡ None
  unfolding first_why
  no_why =
      let each : length (credentials_from ds f g f.components 0) ≡ f.map.comps =
      length_credentials ds f g f.components 0 ∙ shaped.components in
      rw (for_call, eq-eqb _ _ each, none_secured ds f g f.components 0, usable) refl

  -- no stripe lacks too much
  module _ (lacks : lacked f g ≡ None) where
    lacks_none : is_write op ≡ true → lacked_from f.map f.components g.first g.end f.components 0 ≡ None
    unfolding asked
    lacks_none writes =
        ap (λ (b : Bool). if b then lacked_from f.map f.components g.first g.end f.components 0 else None) (sym writes)
        ∙ lacks

    abbrev Fine : Span → Type 0
    Fine s = unwritable f.map (missing ds f g) (stripes f.map s) ≡ None

    asked_fine : is_write op ≡ true → Fine (asked_span op)
    asked_fine writes =
        none_unwritable f.map (missing ds f g) (asked_span op) g.first g.end
        (not_short ds f g shaped.map shaped.components g.first g.end (lacks_none writes))
        (omega (arith, first_is ds f next client now op e map_is size_is some))
        (λ more. omega (
          arith,
          end_is ds f next client now op e map_is size_is some,
          below_end ((asked_span op).offset + (asked_span op).length) w some (omega (arith, more)),
        ))

    granted_fine : is_write op ≡ true → Fine (granted_span r)
    granted_fine writes =
        none_unwritable f.map (missing ds f g) (granted_span r) g.first g.end
        (not_short ds f g shaped.map shaped.components g.first g.end (lacks_none writes)) starts
        (λ more. below_product (end_of (granted_span r) - 1) g.end w (omega (arith, more, reaches.end)))
      where
        starts : g.first ≤ stripe_of f.map r.first
        starts =
            let same : g.first * w + 0 ≡ r.first = omega arith in
            omega (arith, ap (λ (x : ℕ). x / w) same, div-mul-add g.first w 0 some)

    lacks_nothing : (b : Bool) → is_write op ≡ b → ((b || b) && is_lacking gained op) ≡ false
    unfolding is_lacking
    lacks_nothing false is = refl
    lacks_nothing true is = rw (asked_fine is, granted_fine is) refl

    enough_there : enough gained op ≡ Ok gained
    unfolding enough asked
    enough_there =
        let alike : r.rw ≡ is_write op = reaches.rw in
        rw (ap (λ (b : Bool). (is_write op || b) && is_lacking gained op) alike ∙ lacks_nothing (is_write op) refl) refl

    module _ (drives : OnDrives f) (fits : NumbersFit ds f g) (low : nat_lt GREATEST_GRANT next ≡ false)
        (a : Answer) (same_size : a.size ≡ f.size)
        (gives : a.results ≡ results.LayoutGet (get.Granted (granted ds f g))) where
      number_again : grant_in (stateid_of g.number) ≡ g.number
      unfolding asked
      number_again =
          let small : min next GREATEST_GRANT < 2 ^ 32 = omega arith in
          from_be_bytes-to_be_bytes_4 (min next GREATEST_GRANT) small

      its_fit : (i : ℕ) (at : Component) → slice_get f.components i ≡ Some at
          → capabilities.Fits (capability_for f g at (0 + i))
      its_fit i at found =
          let same : 0 + i ≡ i = omega arith in
          subst (λ (n : ℕ). capabilities.Fits (capability_for f g at n)) (sym same) (fits.capabilities i at found)

      pub takes : taken a op ≡ Ok gained
      unfolding taken
      takes =
          rw (
            gives,
            same_size,
            number_again,
            body_read ds f g fits.layout,
            no_why,
            listed_all ds f g f.components 0 (λ i at found. (drives i at found, its_fit i at found)),
          ) enough_there

-- ---- the law

pub given_is_taken : GivenIsTaken
given_is_taken go next format now q op g v fine is_get number is told shaped drives ds fits =
    let e : Kept = go.file.kept in
    let f : Kept = v.going.file.kept in
    let t = told_for go next format now q op is_get v is g told in
    let it : Grant = asked_for e next q.client now op in
    let map_is : f.map ≡ e.map = ap (λ (k : Kept). k.map) t.1.file ∙ t.1.of.map in
    let size_is : f.size ≡ e.size = ap (λ (k : Kept). k.size) t.1.file ∙ t.1.of.size in
    let lacks : lacked f it ≡ None = ap (λ (k : Kept). lacked k it) t.1.file ∙ t.1.lacks in
    let gives : result_with ds f q.args v.told.status v.told.grant
    ≡ results.LayoutGet (get.Granted (granted ds f it)) =
    ap (λ (x : Told). result_with ds f q.args x.status x.grant) t.1.told in
    let its : NumbersFit ds f it = subst (NumbersFit ds f) t.0 fits in
    let taken_it =
    takes ds f next q.client now op e map_is size_is shaped fine lacks drives its t.1.low (file_answer ds f q v.told)
    refl gives in (
      gained ds f next q.client now op e map_is size_is shaped fine,
      taken_it,
      subst (λ (x : Grant). IsGiven ds f x (gained ds f next q.client now op e map_is size_is shaped fine)) (sym t.0)
          (gains_it ds f next q.client now op e map_is size_is shaped fine (sym is_get.file ∙ sym number)),
      gains_cover ds f next q.client now op e map_is size_is shaped fine,
    )
