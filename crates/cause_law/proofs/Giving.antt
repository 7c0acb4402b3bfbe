-- The number of a grant that is given is the server's next, which is past it from then on.
use Rattle.std.proofs.Common.{◌≡◌, ◌≤◌, ◌<◌, ◌==◌, ℕ, Bool, List, [], ◌∷◌, drop, refl, sym, ap, subst, ◌∙◌, arith, inl, inr}
use Rattle.std.proofs.lemmas.Bool.{cases_lt}
use Rattle.std.proofs.lemmas.Nat.{from_be_bytes-to_be_bytes_4}
use Rattle.std.specs.Int.{w32, to_be_bytes, from_be_bytes}
use Rattle.layout_ops.specs.declared.items.StateId.{StateId}
use Rattle.layout_ops.specs.declared.results.LayoutGetOk.{LayoutGetOk}
use Rattle.layout_ops.specs.declared.results.LayoutGetResult.TheVariants as get
use Rattle.layout_ops.specs.declared.results.Results.{Results}
use Rattle.layout_ops.specs.declared.results.Results.TheVariants as results
use Rattle.layout_ops.specs.declared.statuses.TheConstants.{LAYOUTIOMODE4_RW}
use Rattle.server_rules.specs.declared.limits.TheConstants.{GREATEST_GRANT}
use Rattle.server_rules.specs.Files.{Step}
use Rattle.server_rules.specs.Grants.{asked}
use Rattle.server_rules.specs.History.{Input, step}
use Rattle.server_rules.specs.Laws.{In}
use Rattle.server_rules.specs.Layouts.{stateid_of, granted}
use Rattle.server_rules.specs.Orders.{declare}
use Rattle.server_rules.proofs.Members.{in_behind}
use Rattle.world_history.specs.ServerNames.{Server, File, Kept, Grant, Answer, ClientRequest, RequestArgs, Get, Commit, Return}
use Rattle.history_law.specs.Steps.{StepCases, RequestCases}
use Rattle.history_law.proofs.Files.{in_at}
use Rattle.history_law.proofs.Steps.{each_request, each_step}
use Rattle.component_law.specs.Order.{AreInOrder}
use Rattle.cause_law.specs.Answers.{IsCausedAt, IsCaused, NoFile, OnFile}
use Rattle.cause_law.specs.Gets as row
use Rattle.cause_law.specs.Gets.{Asking, Row, LeavesLive, result_of as told_by}
use Rattle.cause_law.specs.Reopened.{GiveLayout}
use Rattle.cause_law.proofs.ReopenTelling.{plain_none, commit_none, return_none, gives_row}

-- ---- the next number doesn't fall

request_rises : (s : Server) (now : ℕ) (chosen : List ℕ) (q : ClientRequest)
    → RequestCases s now chosen q (λ (t : Step). s.next_grant ≤ t.state.next_grant)
request_rises s now chosen q = record {
  again = λ kept is. omega arith;
  misordered = λ expected is. omega arith;
  without = λ new none. omega arith;
  served = λ new f found. omega arith;
}

step_rises : (s : Server) (chosen : List ℕ) (i : Input)
    → StepCases s chosen i (λ (t : Step). s.next_grant ≤ t.state.next_grant)
unfolding declare
step_rises s chosen i = record {
  rests = omega arith;
  asked = λ now q is. each_request s now chosen q _ (request_rises s now chosen q);
  answered = λ x is. omega arith;
  recalled = λ f is. omega arith;
  refused = λ f is n why. omega arith;
  fenced = λ f is kind none low. omega arith;
  declared = λ d known. omega arith;
  told = λ t now o is result p. p;
  made = λ n m tag zoned is none. omega arith;
  added = λ d is. omega arith;
  zoned = λ d zone is. omega arith;
  formats = λ n is. omega arith;
  resends = λ is. omega arith;
  crashes = λ is. omega arith;
  opened = λ is low. omega arith;
}

pub grants_rise : (s : Server) (chosen : List ℕ) (i : Input) → s.next_grant ≤ (step s chosen i).state.next_grant
grants_rise s chosen i = each_step s chosen i _ (step_rises s chosen i)

-- ---- what is given

-- the layout is of a grant with the server's next number, which is live behind
pub record HasNext (s t : Server) (ok : LayoutGetOk) : Type 0 where
  pub named : ok.stateid ≡ stateid_of s.next_grant
  pub left : s.next_grant ≤ GREATEST_GRANT
  pub file : File
  pub there : In file t.files
  pub grant : Grant
  pub live : In grant file.kept.grants
  pub number_is : grant.number ≡ s.next_grant

its_number : (f : Kept) (next client now offset count : ℕ) (rw_ : Bool) → next ≤ GREATEST_GRANT
    → (asked f next client now offset count rw_).number ≡ next
unfolding asked
its_number f next client now offset count rw_ le = omega (arith, le)

same_results : (q : ClientRequest) (a : Answer) (r : Results) (ok : LayoutGetOk) → a.results ≡ r
    → a.results ≡ results.LayoutGet (get.Granted ok) → GiveLayout r
same_results q a r ok is gives = subst GiveLayout (sym gives ∙ is) tt

same_ok : (a b : LayoutGetOk) → results.LayoutGet (get.Granted a) ≡ results.LayoutGet (get.Granted b) → a ≡ b
same_ok a b e = cc e

module _ (s t : Server) (now : ℕ) (q : ClientRequest) (f g : File) (a : Answer) (ok : LayoutGetOk)
    (gives : a.results ≡ results.LayoutGet (get.Granted ok)) (behind : In g t.files) where
  -- by the row, which is the last
  by_get : (iomode offset count : ℕ) → IsCausedAt s now q f g a (Get iomode offset count) → HasNext s t ok
  by_get iomode offset count c =
      by (gives_row s.drives g.kept x.wanted c.row (same_results q a _ ok (ap (λ (b : Answer). b.results) c.is) gives))
    where
      x : Asking
      x = record {
        before = f;
        behind = g;
        iomode = iomode;
        offset = offset;
        count = count;
        wanted = asked f.kept s.next_grant q.client now offset count (iomode == LAYOUTIOMODE4_RW);
        next = s.next_grant;
        now = now;
      }

      by : c.row ≡ row.Gives → HasNext s t ok
      by e =
          let l : LeavesLive x row.Gives = subst (LeavesLive x) e c.live in
          let less : s.next_grant ≤ GREATEST_GRANT = elim (cases_lt GREATEST_GRANT s.next_grant) [
            | inl over ↦
                absurd (c.first.none row.NoNumber
                (subst (λ (r : Row). row.place row.NoNumber < row.place r) (sym e) (omega arith)) over)
            | inr le ↦ le
          ] in
          let number : x.wanted.number ≡ s.next_grant =
          its_number f.kept s.next_grant q.client now offset count (iomode == LAYOUTIOMODE4_RW) less in
          let given : ok ≡ granted s.drives g.kept x.wanted =
          same_ok ok (granted s.drives g.kept x.wanted)
          (sym gives ∙ ap (λ (b : Answer). b.results) c.is
          ∙ ap (λ (r : Row). told_by s.drives g.kept x.wanted r) e) in
          record {
            named = ap (λ (k : LayoutGetOk). k.stateid) given ∙ ap stateid_of number;
            left = less;
            file = g;
            there = behind;
            grant = x.wanted;
            live = subst (In x.wanted) (sym l.2) (in_behind x.wanted l.0 (x.wanted ∷ []) (inl refl));
            number_is = number;
          }

  by_args : (args : RequestArgs) → IsCausedAt s now q f g a args → HasNext s t ok
  by_args (Get iomode offset count) c = by_get iomode offset count c
  by_args (Commit last) (detail, r, c, is) =
      absurd (commit_none f.kept g.kept q.client last detail r c
      (same_results q a r ok (ap (λ (b : Answer). b.results) is) gives))
  by_args (Return report) (detail, r, c, is) =
      absurd (return_none f.kept g.kept q.client report detail r c
      (same_results q a r ok (ap (λ (b : Answer). b.results) is) gives))

-- so is what a new answer gives
pub has_next : (s t : Server) (now : ℕ) (q : ClientRequest) (a : Answer) (ok : LayoutGetOk) → IsCaused s t now q a
    → a.results ≡ results.LayoutGet (get.Granted ok) → HasNext s t ok
has_next s t now q a ok (NoFile none is) gives =
    absurd (plain_none q.args _ (same_results q a _ ok (ap (λ (b : Answer). b.results) is) gives))
has_next s t now q a ok (OnFile f g found there c) gives =
    by_args s t now q f g a ok gives (in_at t.files q.file g there) q.args c

-- and the next number is past it behind
pub next_past : (s t : Server) (ok : LayoutGetOk) → AreInOrder t → HasNext s t ok → s.next_grant < t.next_grant
next_past s t ok order n =
    let less : n.grant.number < t.next_grant = (order n.file n.there).below n.grant n.live in
    omega (arith, less, n.number_is)

-- ---- the names of grants

-- two numbers that fit have two names
pub same_number : (a b : ℕ) → a ≤ GREATEST_GRANT → b ≤ GREATEST_GRANT → stateid_of a ≡ stateid_of b → a ≡ b
same_number a b la lb e =
    let bytes : to_be_bytes w32 a ≡ to_be_bytes w32 b = ap (λ (x : StateId). drop 8 x.other) e in
    sym (from_be_bytes-to_be_bytes_4 a (omega (arith, la))) ∙ ap (from_be_bytes w32) bytes
    ∙ from_be_bytes-to_be_bytes_4 b (omega (arith, lb))
