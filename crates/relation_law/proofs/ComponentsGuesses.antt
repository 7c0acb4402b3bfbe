-- Bytes that are injected in a move of an unguessed history were sent to the drive before, if it performs them.
-- Towards `ComponentsGoOn` (`specs/Steps.antt`).
use Rattle.std.proofs.Common.{◌≡◌, ℕ, Bool, true, List, [], ◌∷◌, ◌++◌, zero, suc, map, find, nat_eq, slice_get, Some, refl, sym, ap, ◌∙◌, inl, inr, eq-eqb}
use Rattle.std.specs.Cmp.Lexicographic.{pointwise}
use Rattle.std.proofs.lemmas.Bool.{cases_Bool}
use Rattle.osd_drive.proofs.Clear.{all_told}
use Rattle.osd_drive.specs.State.{key_of_version}
use Rattle.osd_lists.specs.declared.node.Node.TheVariants as node
use Rattle.scenario_text.specs.declared.event.Event.TheVariants as event
use Rattle.scenario_text.specs.declared.line.Line.{Line}
use Rattle.scenario_text.specs.declared.line.Line.TheVariants as line
use Rattle.server_rules.specs.Laws.{In}
use Rattle.world_history.specs.declared.messages.Posted.{Posted}
use Rattle.world_history.specs.declared.messages.Sent.{Sent}
use Rattle.world_history.specs.Guesses.{unguessed, opens_with}
use Rattle.world_history.specs.Laws.{shown}
use Rattle.world_history.specs.Moves.{Action, Opens}
use Rattle.world_history.specs.Sending.{Move, move}
use Rattle.world_history.specs.Spelled.{spelled}
use Rattle.world_history.specs.State.{World}
use Rattle.world_history.proofs.Parties.{party_drive}
use Rattle.history_law.specs.BookMoments.{IsMoment, with_event, lines_in}
use Rattle.history_law.specs.Sources.{WasSent}
use Rattle.history_law.proofs.Coming.{opened_were_sent, opens_clear}
use Rattle.history_law.proofs.DriveEvents.{IsRead}
use Rattle.history_law.proofs.DriveLines.{sent_read, drive_read}
use Rattle.exchange_law.proofs.Replied.{read_at}
use Rattle.file_simulation.specs.DriveEvents.{is_sent_as}
use Rattle.relation_law.specs.DriveHearing.{WasSentAs, NoneIsGuessed}

-- ---- lists

same_text : (xs : List ℕ) → pointwise nat_eq xs xs ≡ true
same_text [] = refl
same_text (x ∷ xs) = rw (eq-eqb x x refl) (same_text xs)

-- what is shown at a place was posted there
pub record IsShown (ps : List Posted) (m : Sent) : Type 0 where
  pub number : ℕ
  pub posted : Posted
  pub there : slice_get ps number ≡ Some posted
  pub inside : In posted ps
  pub is : shown posted ≡ m

pub shown_at : (ps : List Posted) (n : ℕ) (m : Sent) → slice_get (map shown ps) n ≡ Some m → IsShown ps m
shown_at [] n m e = absurd (cc e)
shown_at (p ∷ ps) zero m e = record { number = 0; posted = p; there = refl; inside = inl refl; is = cc e }
shown_at (p ∷ ps) (suc n) m e =
    let r = shown_at ps n m e in
    record { number = suc r.number; posted = r.posted; there = r.there; inside = inr r.inside; is = r.is }

found_some : (f : Posted → Bool) (ps : List Posted) (p : Posted) → In p ps → f p ≡ true →
    (q : Posted) × (find f ps ≡ Some q)
found_some f [] p i e = absurd i
found_some f (x ∷ ps) p i e = elim (cases_Bool (f x)) [
  | inl here ↦ (x, rw here refl)
  | inr past ↦
      let rest : In p ps → (q : Posted) × (find f (x ∷ ps) ≡ Some q) =
      λ j. let r = found_some f ps p j e in (r.0, rw past r.1) in
      elim i [
        | inl same ↦ absurd (cc (sym e ∙ ap f same ∙ past))
        | inr j ↦ rest j
      ]
]

-- ---- a move

module _ (w : World) (h : List Line) (k : IsMoment w h) (m : Move) (next : IsMoment (move w m).world (h ++ lines_in w m))
    (clean : unguessed (h ++ lines_in w m) ≡ true) where
  module _ (d : ℕ) (bytes : List ℕ) (is : m.action ≡ Opens (event.Inject d bytes)) where
    lines_are : h ++ lines_in w m ≡ h ++ line.Event (event.Inject d bytes) ∷ (move w m).lines
    lines_are = ap (λ (a : Action). h ++ with_event a (move w m).lines) is

    sent_as : WasSentAs w d bytes
    sent_as a x reads p =
        let read : IsRead w h = read_at w h k in
        let rows = ((all_told a.state a.clock x).0 p.clear).1 in
        let opens : opens_with (key_of_version a.state.keys x.capability.key_version) x ≡ true =
        opens_clear (key_of_version a.state.keys x.capability.key_version) x rows.0 rows.1.0 in
        let was : WasSent h d bytes =
        opened_were_sent (h ++ lines_in w m) (read_at (move w m).world (h ++ lines_in w m) next).lines clean h (move w m).lines d
        bytes lines_are a x (drive_read w read.injected h d read.drives ∙ p.there) reads opens in
        let r = shown_at w.network.messages was.number was.message
        (ap (λ (ss : List Sent). slice_get ss was.number) (sym (sent_read w read.injected h read.drives)) ∙ was.sent) in
        let to : r.posted.message.to ≡ node.Drive d =
        party_drive r.posted.message.to d (ap (λ (y : Sent). y.to) r.is ∙ was.receiver) in
        let text : spelled r.posted.message.body ≡ bytes = ap (λ (y : Sent). y.bytes) r.is ∙ was.bytes_are in
        found_some (is_sent_as d bytes) w.network.messages r.posted r.inside (rw (to, text, eq-eqb d d refl) (same_text bytes))

  guessed_by : (a : Action) → m.action ≡ a → NoneIsGuessed w a
  guessed_by (Opens (event.Inject d bytes)) is = sent_as d bytes is
  guessed_by (Opens e) is = tt
  guessed_by a is = tt

  -- nothing that is injected is a guess
  pub none_is_guessed : NoneIsGuessed w m.action
  none_is_guessed = guessed_by m.action refl
