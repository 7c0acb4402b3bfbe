-- Each byte of an answered read has its cause in the lines.
use Rattle.std.proofs.Common.{◌≡◌, ℕ, Bool, true, false, List, [], ◌∷◌, ◌++◌, Option, Some, None, Result, Ok, Err, refl, sym, ap, subst, ◌∙◌, inl, inr, arith, if◌then◌else◌}
use Rattle.std.specs.Prelude.{◌==◌, length}
use Rattle.std.specs.Option.{option_or}
use Rattle.data_map.specs.Check.{IsChecked}
use Rattle.layout_ops.specs.declared.args.Args.{Args}
use Rattle.layout_ops.specs.declared.args.Args.TheVariants as args
use Rattle.layout_ops.specs.declared.statuses.TheConstants.{NFS4_OK}
use Rattle.client_rules.specs.Calls.{file_of}
use Rattle.client_rules.specs.Grants.{held_of}
use Rattle.client_rules.specs.Layouts.{taken}
use Rattle.client_rules.specs.Results.{status_of}
use Rattle.client_rules.specs.Steps.{new_client}
use Rattle.client_rules.specs.History.{Input, step, state_after}
use Rattle.client_rules.proofs.TakenMaps.{taken_checked}
use Rattle.client_rules.proofs.ReadSteps.{reads_took_replies}
use Rattle.world_history.specs.ClientNames.{Client, CallOp, Held, Outcome, ReadOk, Why, Answer}
use Rattle.scenario_text.specs.declared.line.Outcome.TheVariants as outcome
use Rattle.scenario_text.specs.declared.line.Line.{Line}
use Rattle.scenario_text.specs.declared.line.Line.TheVariants as line
use Rattle.cause_law.specs.Met as met
use Rattle.cause_law.specs.Met.{Met, Answered, Replied, met_after, met_by, given_in, given_args, given_at, grant_under}
use Rattle.cause_law.specs.Caused.{call_in}
use Rattle.cause_law.specs.ReadCalls.{LastStep, stepped}
use Rattle.cause_law.specs.Ended.{CausedAt}
use Rattle.cause_law.specs.ReadBytes.{HaveCauses, BytesAt, EachByteHasItsCause}
use Rattle.cause_law.proofs.Fetching.{Answers}
use Rattle.cause_law.proofs.PutBytes.{put_long, each_cause}
use Rattle.cause_law.proofs.Runs.{is_answered}
use Rattle.cause_law.proofs.CallHistories.{ends_are_caused}
use Rattle.exchange_law.proofs.RightSteps.{reads_are_right}
use Rattle.cause_law.proofs.Read.{met_more, call_of, told_so}

-- ---- the grant of a step has a map that was checked

given_checked : (op : CallOp) (a : Answer) (r : Result Held Why) (h : Held) → taken a op ≡ r → given_in r ≡ Some h
    → IsChecked h.map
given_checked op a (Err w) h is e = absurd (cc e)
given_checked op a (Ok g) h is e =
    let same : g ≡ h = cc e in taken_checked a op h (is ∙ ap (λ (x : Held). Ok x) same)

either_checked : (op : CallOp) (a : Answer) (b : Bool) (h : Held) → (if b then given_in (taken a op) else None) ≡ Some h
    → IsChecked h.map
either_checked op a true h e = given_checked op a (taken a op) h refl e
either_checked op a false h e = absurd (cc e)

args_checked : (op : CallOp) (x : Args) (a : Answer) (h : Held) → given_args op x a ≡ Some h → IsChecked h.map
args_checked op (args.LayoutGet x) a h e = either_checked op a (status_of a.results == NFS4_OK) h e
args_checked op (args.LayoutCommit x) a h e = absurd (cc e)
args_checked op (args.LayoutReturn x) a h e = absurd (cc e)

at_checked : (op : CallOp) (ms : List Met) (h : Held) → given_at op ms ≡ Some h → IsChecked h.map
at_checked op [] h e = absurd (cc e)
at_checked op (Answered r a ∷ ms) h e = args_checked op r.args a h e
at_checked op (Replied a r ∷ ms) h e = absurd (cc e)
at_checked op (met.TimedOut g k ∷ ms) h e = absurd (cc e)

under_checked : (op : CallOp) (ms : List Met) (h : Held) (o p : Option Held) → given_at op ms ≡ o
    → ((g : Held) → p ≡ Some g → IsChecked g.map) → option_or o p ≡ Some h → IsChecked h.map
under_checked op ms h None p is ch e = ch h e
under_checked op ms h (Some g) p is ch e = at_checked op ms h (is ∙ e)

same_held : (g h : Held) → Some g ≡ Some h → h ≡ g
same_held g h e = cc (sym e)

same_call : (a b : CallOp) → Some a ≡ Some b → a ≡ b
same_call a b e = cc e

-- ---- an answered read

with_causes : (mine : Option CallOp) (hs : List Held) (ms : List Met) (o : Option Outcome) (op : CallOp) (bytes : List ℕ)
    → mine ≡ Some op → Answers (grant_under hs op ms) op ms (ReadOk bytes)
    → ((h : Held) → grant_under hs op ms ≡ Some h → IsChecked h.map)
    → HaveCauses (record { call = mine; held = hs; met = ms; outcome = o }) bytes
with_causes mine hs ms o op bytes is (h, under, inl none) ch = record {
  op = op;
  call = is;
  held = h;
  under = under;
  long = ap length none.1 ∙ sym none.0;
  each = λ i l lt at. absurd (omega (arith, lt, ap length none.1));
}
with_causes mine hs ms o op bytes is (h, under, inr put) ch = record {
  op = op;
  call = is;
  held = h;
  under = under;
  long = put_long h op ms bytes (ch h under) put;
  each = each_cause h op ms bytes (ch h under) put;
}

has_causes : (k : ℕ) (is : List Input) (t : LastStep) (i : Input) (bytes : List ℕ)
    → met_after (state_after (new_client k 1) is) t.met i ≡ met_by (new_client k 1) [] (is ++ i ∷ [])
    → (step (state_after (new_client k 1) is) i).outcome ≡ Some (ReadOk bytes)
    → HaveCauses (stepped (state_after (new_client k 1) is) t i) bytes
has_causes k is t i bytes same e =
    let x : Client = state_after (new_client k 1) is in
    let now : List Met = met_after x (met_by (new_client k 1) [] is) i in
    let a = reads_took_replies k 1 is i bytes e in
    let w = is_answered k 1 is i bytes e in
    let its : w.0 ≡ a.call.op =
    same_call w.0 a.call.op (sym w.1 ∙ call_of reads_took_replies reads_are_right x i a.call (ReadOk bytes) a.pending e) in
    let ch : (h : Held) → grant_under x.held w.0 now ≡ Some h → IsChecked h.map =
    λ h under. under_checked w.0 now h (given_at w.0 now) (held_of x.held (file_of w.0)) refl
    (λ g there. subst (λ (f : Held). IsChecked f.map)
    (same_held g a.held (sym there ∙ ap (λ (op : CallOp). held_of x.held (file_of op)) its ∙ a.holds)) a.checked) under in
    subst (λ (ms : List Met).
    HaveCauses (record { call = call_in x i; held = x.held; met = ms; outcome = (step x i).outcome }) bytes)
    (sym (same ∙ met_more (new_client k 1) [] is i)) (with_causes (call_in x i) x.held now _ w.0 bytes w.1 w.2 ch)

at_line : (before : List Line) (l : Line) → CausedAt before l → BytesAt before l
at_line before (line.Ended c (outcome.ReadOk bytes)) x = told_so HaveCauses has_causes before c bytes x
at_line before (line.Ended c (outcome.WriteOk n)) x = tt
at_line before (line.Ended c (outcome.Failed kind e)) x = tt
at_line before l x = tt

pub each_byte_has_its_cause : EachByteHasItsCause
each_byte_has_its_cause h l before x after is = at_line before x (ends_are_caused h l before x after is)
