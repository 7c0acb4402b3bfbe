-- A file that there isn't has no entry in the log, nor behind the move that makes it, nor at a cut of it.
-- `NoneIsLoggedBehind` (`specs/NotLogged.antt`).
use Rattle.std.proofs.Common.{◌≡◌, ◌⊎◌, ℕ, zero, suc, ◌+◌, List, [], ◌∷◌, ◌++◌, length, take, Some, None, refl, sym, ap, subst, ◌∙◌, inl, inr}
use Rattle.std.specs.List.{fold}
use Rattle.std.proofs.lemmas.List.Sums.{fold-append}
use Rattle.scenario_text.specs.declared.line.Line.{Line}
use Rattle.server_rules.specs.Files.{file_at}
use Rattle.client_rules.specs.Calls.{file_of}
use Rattle.world_history.specs.Handed.{Post}
use Rattle.world_history.specs.ServerNames.{Server}
use Rattle.world_history.specs.History.{OneEventMore}
use Rattle.world_history.specs.Moves.{Act, Action, Opens, Delivers, TimesOut, Pends, acts}
use Rattle.world_history.specs.Plans.{due}
use Rattle.world_history.specs.ReadLog.{Logged, Log, log_after, log_in, empty_log}
use Rattle.world_history.specs.Sending.{Move, move, sent_line, sent_lines}
use Rattle.world_history.specs.State.{World, ClientAt, at_number}
use Rattle.history_law.specs.Moments.{IsMoment, plan_at, with_event, lines_in}
use Rattle.exchange_law.specs.Text.{AreOfText}
use Rattle.exchange_law.specs.Meeting.{ClientsAgree, IsReadableThrough}
use Rattle.exchange_law.specs.Taking.{AnswersAreOwn}
use Rattle.exchange_law.proofs.ClientMoves.{clients_always}
use Rattle.exchange_law.proofs.CountMoments.{reached}
use Rattle.exchange_law.proofs.HeldWorlds.{next_moment}
use Rattle.exchange_law.proofs.Knowing.{lawful_at}
use Rattle.exchange_law.proofs.SlotMoments.{always}
use Rattle.cause_law.specs.Readable.{FilesAndAnswersAreReadable}
use Rattle.file_simulation.specs.Claim.{IsOfScenario}
use Rattle.file_simulation.proofs.Fronts.{scenario_before}
use Rattle.name_law.specs.ClientTells.{CallsOfTextArePending}
use Rattle.relation_law.specs.Working.{ClientWorks}
use Rattle.exchange_law.specs.Pending.{logged_op}
use Rattle.relation_law.proofs.Followed.{all_taken}
use Rattle.relation_law.proofs.FramesFiles.{move_stays, files_distinct}
use Rattle.relation_law.proofs.OwnFacts.{works_kept}
use Rattle.exchange_law.proofs.PendingLines.{sent_keeps}
use Rattle.headline_law.specs.NotLogged.{NoneIsLoggedBehind}
use Rattle.headline_law.proofs.BirthReturns.{IsThere}
use Rattle.headline_law.proofs.CreationHeld.{held_behind}
use Rattle.headline_law.proofs.NotLoggedLines.{AllOn, CallsAreOn, NoMessages, told_on, sent_on, none_on}
use Rattle.headline_law.proofs.SmallLemmas.{in_take}
use Rattle.headline_law.proofs.NotLoggedMoves.{IsHeldBehind, TellsSends, event_told, tells_sends}

-- what is known of histories
pub record LoggedLaws : Type 0 where
  pub more : OneEventMore
  pub own : AnswersAreOwn
  pub agree : ClientsAgree
  pub readable : FilesAndAnswersAreReadable
  pub calls : CallsOfTextArePending

-- each entry of the log is on a file that the server has
abbrev pub AreThere : World → List Line → Type 0
AreThere w h = AllOn (IsThere w) (log_in h).entries

-- ---- the first lines

no_first : (n : ℕ) (ls : List Line) → NoMessages ls → NoMessages (take n ls)
no_first zero ls none = tt
no_first (suc n) [] none = tt
no_first (suc n) (l ∷ ls) none = (none.0, no_first n ls none.1)

-- the first of two lists' lines are the first of the former, or all of it and the first of the latter
cut_either : (n : ℕ) (xs ys : List Line) →
    (take n (xs ++ ys) ≡ take n xs) ⊎ ((i : ℕ) × (take n (xs ++ ys) ≡ xs ++ take i ys))
cut_either zero xs ys = inl refl
cut_either (suc n) [] ys = inr (suc n, refl)
cut_either (suc n) (x ∷ xs) ys = elim (cut_either n xs ys) [
  | inl r ↦ inl (ap (λ (ls : List Line). x ∷ ls) r)
  | inr r ↦ inr (r.0, ap (λ (ls : List Line). x ∷ ls) r.1)
]

sent_first : (n number : ℕ) (ps : List Post) → take n (sent_lines number ps) ≡ sent_lines number (take n ps)
unfolding sent_lines
sent_first zero number ps = refl
sent_first (suc n) number [] = refl
sent_first (suc n) number (p ∷ ps) = ap (λ (ls : List Line). sent_line number p.message ∷ ls) (sent_first n (number + 1) ps)

-- ---- a move

-- the lines that an action is told by stand in front of those of its messages
pub event_front : (action : Action) (told sent : List Line) → with_event action (told ++ sent) ≡ with_event action told ++ sent
event_front (Opens e) told sent = refl
event_front (Delivers number) told sent = refl
event_front (TimesOut c k) told sent = refl
event_front (Pends c) told sent = refl

module _ (laws : LoggedLaws) where
  module _ (w : World) (h : List Line) (k : IsMoment w h) (m : Move) (d : due (plan_at k) w ≡ Some m.action)
      (before : IsOfScenario h) (text : AreOfText (h ++ lines_in w m)) where
    abbrev a : Act
    a = acts w m.chosen m.action

    abbrev v : World
    v = (move w m).world

    abbrev number : ℕ
    number = length (acts w m.chosen m.action).world.network.messages

    -- the log behind what is told
    abbrev told_log : Log
    told_log = fold log_after (log_in h) (with_event m.action (acts w m.chosen m.action).told)

    next : IsMoment (move w m).world (h ++ lines_in w m)
    next = next_moment w h k m d

    works : (c : ℕ) (x : ClientAt) → at_number w.clients c ≡ Some x → ClientWorks x.state
    works c x found = clients_always (λ n y. ClientWorks y) works_kept w (reached w h k) c x found

    its : TellsSends w m.chosen m.action works (acts w m.chosen m.action)
    its = tells_sends w m.chosen m.action works

    log_is : log_in (h ++ lines_in w m) ≡ fold log_after told_log (sent_lines number (acts w m.chosen m.action).posts)
    log_is =
        fold-append log_after empty_log h (lines_in w m)
        ∙ ap (fold log_after (log_in h)) (event_front m.action a.told (sent_lines number a.posts))
        ∙ fold-append log_after (log_in h) (with_event m.action a.told) (sent_lines number a.posts)

    readable : IsReadableThrough h
    readable = laws.readable h (lawful_at w h k) before.text before.few

    -- a call of which a command goes out is on a file that there was
    calls_on : CallsAreOn (IsThere w) told_log (acts w m.chosen m.action).posts
    calls_on p i c n from to op is =
        let held : IsHeldBehind w (acts w m.chosen m.action).world c op =
        its.sent p i c n from to op
        (sym (laws.calls v (h ++ lines_in w m) next text c)
        ∙ ap (λ (l : Log). logged_op (at_number l.pending c)) log_is
        ∙ (sent_keeps told_log number a.posts).1 c ∙ is) in
        let f = held_behind laws.more laws.own laws.agree w h k m d readable c (file_of op) held.held held.holds in
        (f.0, ap (λ (s : Server). file_at s.files (file_of op)) (sym held.rests) ∙ f.1)

    -- the lines of the first messages
    sent_there : AllOn (IsThere w) told_log.entries → (n : ℕ) →
        AllOn (IsThere w) (fold log_after told_log (take n (sent_lines number (acts w m.chosen m.action).posts))).entries
    sent_there all n =
        subst (λ (ls : List Line). AllOn (IsThere w) (fold log_after told_log ls).entries) (sym (sent_first n number a.posts))
        (sent_on (IsThere w) told_log number (take n a.posts) (λ p i. calls_on p (in_take p n a.posts i)) all)

    -- Behind the first lines of a move each entry is on a file that there was before it.
    pub first_there : AreThere w h → (n : ℕ) → AllOn (IsThere w) (log_in (h ++ take n (lines_in w m))).entries
    first_there all n =
        subst (λ (l : Log). AllOn (IsThere w) l.entries)
        (sym (fold-append log_after empty_log h (take n (lines_in w m))
        ∙ ap (λ (ls : List Line). fold log_after (log_in h) (take n ls))
        (event_front m.action a.told (sent_lines number a.posts))))
        (elim (cut_either n (with_event m.action a.told) (sent_lines number a.posts)) [
          | inl r ↦
              subst (λ (ls : List Line). AllOn (IsThere w) (fold log_after (log_in h) ls).entries) (sym r)
              (told_on (IsThere w) (log_in h) (take n (with_event m.action a.told))
              (no_first n (with_event m.action a.told) (event_told m.action a.told its.told)) all)
          | inr r ↦
              subst (λ (ls : List Line). AllOn (IsThere w) (fold log_after (log_in h) ls).entries) (sym r.1)
              (subst (λ (l : Log). AllOn (IsThere w) l.entries)
              (sym (fold-append log_after (log_in h) (with_event m.action a.told) (take r.0 (sent_lines number a.posts))))
              (sent_there (told_on (IsThere w) (log_in h) (with_event m.action a.told)
              (event_told m.action a.told its.told) all) r.0))
        ])

    -- so behind all of them
    behind_there : AreThere w h → AllOn (IsThere w) (log_in (h ++ lines_in w m)).entries
    behind_there all =
        subst (λ (ls : List Line). AllOn (IsThere w) (log_in (h ++ ls)).entries) (all_taken (lines_in w m))
        (first_there all (length (lines_in w m)))

    later : AllOn (IsThere w) (log_in (h ++ lines_in w m)).entries → AreThere v (h ++ lines_in w m)
    later all n x is =
        let there = all n x is in
        (move_stays w m (files_distinct w (reached w h k))).2 x.file there.0 there.1

  -- Each entry is on a file that there is.
  pub are_there : (w : World) (h : List Line) → IsMoment w h → IsOfScenario h → AreThere w h
  are_there w h k =
      always (λ u g. IsOfScenario g → AreThere u g) (record {
        starts = λ t n x is. absurd (cc is);
        moves = λ u g j m d before t.
            (let front = scenario_before g (lines_in u m) t in
            later u g j m d front t.text (behind_there u g j m d front t.text (before front)));
      }) laws.more w h k

  pub away : (w : World) (es : List Logged) (file : ℕ) → AllOn (IsThere w) es → file_at w.server.files file ≡ None →
      AllOn (λ (n : ℕ). n ≡ file → ⊥) es
  away w es file all none n x is same =
      let there = all n x is in
      absurd (cc (sym there.1 ∙ ap (file_at w.server.files) same ∙ none))

  pub none_is_logged_behind : NoneIsLoggedBehind
  none_is_logged_behind w h k m d t file none =
      none_on (log_in (h ++ lines_in w m)).entries file
      (away w (log_in (h ++ lines_in w m)).entries file
      (behind_there w h k m d (scenario_before h (lines_in w m) t) t.text
      (are_there w h k (scenario_before h (lines_in w m) t))) none)

  -- Nor has it one at a cut of a move.
  pub none_is_logged_at : (w : World) (h : List Line) (k : IsMoment w h) (m : Move) → due (plan_at k) w ≡ Some m.action →
      IsOfScenario h → AreOfText (h ++ lines_in w m) → (n file : ℕ) → file_at w.server.files file ≡ None →
      AllOn (λ (x : ℕ). x ≡ file → ⊥) (log_in (h ++ take n (lines_in w m))).entries
  none_is_logged_at w h k m d before text n file none =
      away w (log_in (h ++ take n (lines_in w m))).entries file
      (first_there w h k m d before text (are_there w h k before) n) none
