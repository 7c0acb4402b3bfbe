-- The machine has the SET TAGs of each tag that it is past, and of its present one while it fences; so it has all that the
-- server sent.
-- Towards `ComponentsGoOn` (`specs/Steps.antt`).
use Rattle.std.proofs.Common.{◌≡◌, ℕ, ◌+◌, ◌<◌, ◌≤◌, true, false, List, [], ◌∷◌, slice_get, Some, refl, sym, ap, subst, ◌∙◌, inl, inr, arith}
use Rattle.std.proofs.lemmas.Bool.{cases_eq}
use Rattle.std.proofs.lemmas.List.{append-nil}
use Rattle.osd_commands.specs.declared.commands.Command.{Command}
use Rattle.scenario_text.specs.declared.line.Line.{Line}
use Rattle.server_rules.specs.Files.{file_at}
use Rattle.server_rules.specs.History.{state_after}
use Rattle.server_rules.specs.Laws.{In}
use Rattle.server_rules.specs.Making.{new_server}
use Rattle.server_rules.proofs.Members.{in_map}
use Rattle.world_history.specs.ServerNames.{File, Component, Phase, Still, Fencing, Repairing, FencingAgain, Server}
use Rattle.world_history.specs.State.{World}
use Rattle.history_law.proofs.Files.{in_at}
use Rattle.world_history.specs.Sending.{Move, move}
use Rattle.component_law.specs.Sent.{IsSentByRun}
use Rattle.component_law.specs.Tagged.{is_fence, IsBehind, NoCommandIsAhead}
use Rattle.fence_law.specs.Words.{In as InRun}
use Rattle.fence_law.specs.State.{State, Event, Layout}
use Rattle.fence_law.specs.State.Event.{Fences, Fenced, Refenced}
use Rattle.fence_law.specs.Machine.{Allowed, Lawful, after, after_all, new_file_state}
use Rattle.file_simulation.specs.Phases.{PhaseIs, IsKept}
use Rattle.file_simulation.specs.Events.{joined, events_of}
use Rattle.file_simulation.specs.Messages.{HasCommanded}
use Rattle.relation_law.specs.ComponentsFacts.{AreRaising, NoneIsEarlier, AreRaisedIn}
use Rattle.relation_law.specs.Steps.{FollowsWhole, owed, whole_behind}
use Rattle.relation_law.proofs.DriveMoves.{got_in}

-- ---- the machine

-- its SET TAGs
pub record HasRaised (first : ℕ) (s : State) : Type 0 where
  pub past : (n : ℕ) → first ≤ n → n < s.tag → InRun n s.set_tags
  pub present : s.fencing ≡ true → InRun s.tag s.set_tags

raised_over : (first : ℕ) (s t : State) → HasRaised first s → s.fencing ≡ true → t.tag ≡ s.tag + 1 → t.set_tags ≡ s.set_tags →
    t.fencing ≡ false → HasRaised first t
raised_over first s t is runs tag same over = record {
  past = λ n low below. elim (cases_eq n s.tag) [
    | inl it ↦ subst (InRun n) (sym same) (subst (λ (x : ℕ). InRun x s.set_tags) (sym it) (is.present runs))
    | inr other ↦ subst (InRun n) (sym same) (is.past n low (omega (arith, below, tag, other)))
  ];
  present = λ e. absurd (cc (sym e ∙ over));
}

raised_on : (first : ℕ) (s : State) (e : Event) → Allowed s e → HasRaised first s → HasRaised first (after s e)
raised_on first s Fences a is = record {
  past = λ n low below. inr (is.past n low below);
  present = λ e. inl refl;
}
raised_on first s Fenced a is = raised_over first s (after s Fenced) is a.runs refl refl refl
raised_on first s Refenced a is = raised_over first s (after s Refenced) is a.runs refl refl refl
raised_on first s e a is = record { past = is.past; present = is.present }

-- so it is behind lawful events
pub raised_all : (first : ℕ) (s : State) (es : List Event) → Lawful s es → HasRaised first s → HasRaised first (after_all s es)
raised_all first s [] l is = is
raised_all first s (e ∷ es) l is = raised_all first (after s e) es l.1 (raised_on first s e l.0 is)

-- and so of the machine of a new file
pub raised_first : (m : Layout) → HasRaised m.first_tag (new_file_state m)
raised_first m = record {
  past = λ n low below. absurd (omega (arith, low, below));
  present = λ e. absurd (cc e);
}

-- ---- the world

open_fences : (s : State) (f : File) (p : Phase) → PhaseIs s f p → is_fence p ≡ true → s.fencing ≡ true
open_fences s f Still is e = absurd (cc e)
open_fences s f Fencing is e = is.fencing
open_fences s f Repairing is e = absurd (cc e)
open_fences s f FencingAgain is e = is.fences

-- it has each SET TAG that was sent to an object of the file
pub raised_in : (s : State) (w : World) (f : File) → HasRaised f.kept.first_tag s → s.tag ≡ f.kept.tag →
    PhaseIs s f f.kept.phase → AreRaising w f → AreRaisedIn s w f
raised_in s w f has tag phase are d k x at sent sets there object =
    let r = are d k x at sent sets there object in
    elim r.high.1 [
      | inl less ↦ has.past x.capability.tag r.low (omega (arith, less, tag))
      | inr runs ↦
          let last = has.present (open_fences s f f.kept.phase phase runs) in
          elim (cases_eq x.capability.tag s.tag) [
            | inl it ↦ subst (λ (n : ℕ). InRun n s.set_tags) (sym it) last
            | inr other ↦ has.past x.capability.tag r.low (omega (arith, r.high.0, tag, other))
          ]
    ]

-- ---- what the server sent

-- it isn't past the file to an object of which it goes
pub behind_file : NoCommandIsAhead → (w : World) → IsSentByRun w → (f : File) →
    file_at w.server.files f.kept.number ≡ Some f → (d k : ℕ) (x : Command) (at : Component) → HasCommanded w d x →
    slice_get f.kept.components k ≡ Some at → x.object ≡ at.object → IsBehind f.kept x
behind_file ahead w sent f there d k x at has found object =
    let run = ahead sent.acts sent.named in
    let all = run.1 sent.acts [] (sym (append-nil sent.acts)) in
    let mine = all.1 d x (sent.sends d x has) in
    let here : In f (state_after (new_server []) sent.acts).files =
    subst (λ (y : Server). In f y.files) sent.server (in_at w.server.files f.kept.number f there) in
    let of_file : run.0 at.object ≡ f.kept.number =
    ((all.0 f here).components at.object (in_map (λ (y : Component). y.object) at f.kept.components
    (got_in f.kept.components k at found))).1 in
    let number : run.0 x.object ≡ f.kept.number = ap run.0 object ∙ of_file in
    let both : Some mine.file ≡ Some f =
    sym mine.there ∙ ap (λ (n : ℕ). file_at (state_after (new_server []) sent.acts).files n) number
    ∙ ap (λ (y : Server). file_at y.files f.kept.number) (sym sent.server) ∙ there in
    let same : mine.file ≡ f = cc both in
    subst (λ (y : File). IsBehind y.kept x) same mine.behind

-- so each SET TAG is under a tag that the machine had or has, if none was under an earlier tag than the first
pub raising : NoCommandIsAhead → (w : World) → IsSentByRun w → (f : File) →
    file_at w.server.files f.kept.number ≡ Some f → NoneIsEarlier w f → AreRaising w f
raising ahead w sent f there low d k x at has sets found object =
    let is = behind_file ahead w sent f there d k x at has found object in
    record { low = low d k x at has sets found object; high = (is.0, is.1 sets) }

-- ---- a whole move

-- behind it the machine has each of them
pub raised_goes_on : (w : World) (h : List Line) (m : Move) (f g : File) (s : State) (k : FollowsWhole w h m f g s) →
    IsKept (whole_behind k) (move w m).world.server g → g.kept.first_tag ≡ f.kept.first_tag →
    AreRaising (move w m).world g → AreRaisedIn (whole_behind k) (move w m).world g
raised_goes_on w h m f g s k kept first are =
    let run = k.follows.run in
    let start : HasRaised s.layout.first_tag s =
    subst (HasRaised s.layout.first_tag) (sym run.state)
    (raised_all s.layout.first_tag (new_file_state s.layout) run.events run.lawful (raised_first s.layout)) in
    let same : s.layout.first_tag ≡ g.kept.first_tag =
    ap (λ (y : Layout). y.first_tag) k.follows.related.layout ∙ sym first in
    raised_in (whole_behind k) (move w m).world g
    (subst (λ (n : ℕ). HasRaised n (whole_behind k)) same
    (raised_all s.layout.first_tag s (joined (events_of s w (owed k.follows.related) f m)) k.lawful start))
    kept.tag kept.phase are
