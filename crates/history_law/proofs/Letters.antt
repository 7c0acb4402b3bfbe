-- Each message of a drive is its reply to a message that came to it.
use Rattle.std.proofs.Common.{◌≡◌, ℕ, false, ◌++◌, ◌∷◌, [], List, slice_get, refl, sym, ap, subst, ◌∙◌, append_assoc, inl, inr}
use Rattle.std.proofs.lemmas.List.{append-nil}
use Rattle.server_rules.specs.Laws.{In}
use Rattle.server_rules.proofs.Members.{in_either}
use Rattle.scenario_text.specs.declared.line.Party.{Party}
use Rattle.scenario_text.specs.declared.line.Party.TheVariants as party
use Rattle.scenario_text.specs.declared.line.Line.{Line}
use Rattle.scenario_text.specs.declared.line.Line.TheVariants as line
use Rattle.world_history.specs.declared.messages.Sent.{Sent}
use Rattle.world_history.specs.Reading.{arrived, sent_after, sent_in}
use Rattle.history_law.specs.Judging.{Replies, JudgesAt}
use Rattle.history_law.proofs.Each.{EachBehind, HoldsAt, judges_of}
use Rattle.history_law.proofs.Coming.{sent_behind}
use Rattle.history_law.proofs.LaneLines.{letters, letters_event, letters_changed, map_append}

-- where a letter of a drive was sent, and to what it replied
pub record Told (h : List Line) (d : ℕ) (x : Sent) : Type 0 where
  pub before : List Line
  pub number : ℕ
  pub after : List Line
  pub lines_are : h ≡ before ++ line.Message number (party.Drive d) x.to x.bytes ∷ after
  pub replies : Replies before d x.to x.bytes

abbrev AreTold : List Line → Type 0
AreTold h = (x : Sent) (d : ℕ) → In x (letters (sent_in h)) → x.from ≡ party.Drive d → Told h d x

told_more : (h : List Line) (l : Line) (d : ℕ) (x : Sent) → Told h d x → Told (h ++ l ∷ []) d x
told_more h l d x t = record {
  before = t.before;
  number = t.number;
  after = t.after ++ l ∷ [];
  lines_are =
      ap (λ (y : List Line). y ++ l ∷ []) t.lines_are
      ∙ append_assoc t.before (line.Message t.number (party.Drive d) x.to x.bytes ∷ t.after) (l ∷ []);
  replies = t.replies;
}

told_here : (h : List Line) (n : ℕ) (from to : Party) (bytes : List ℕ) (d : ℕ) (x : Sent)
    → JudgesAt h (line.Message n from to bytes)
    → x ≡ record { from = from; to = to; bytes = bytes; delivered = false; dropped = false } → x.from ≡ party.Drive d
    → Told (h ++ line.Message n from to bytes ∷ []) d x
told_here h n from to bytes d x says is own =
    let drive : from ≡ party.Drive d = ap (λ (s : Sent). s.from) (sym is) ∙ own in
    record {
      before = h;
      number = n;
      after = [];
      lines_are =
          ap (λ (f : Party). h ++ line.Message n f to bytes ∷ []) drive
          ∙ ap (λ (s : Sent). h ++ line.Message n (party.Drive d) s.to s.bytes ∷ []) (sym is);
      replies =
          subst (λ (s : Sent). Replies h d s.to s.bytes) (sym is)
          (subst (λ (f : Party). JudgesAt h (line.Message n f to bytes)) drive says);
    }

letters_after : (h : List Line) (l : Line) → JudgesAt h l → AreTold h → (x : Sent) (d : ℕ)
    → In x (letters (sent_after (sent_in h) l)) → x.from ≡ party.Drive d → Told (h ++ l ∷ []) d x
letters_after h (line.Event e) says told x d i own =
    told_more h _ d x (told x d (subst (In x) (letters_event (sent_in h) e) i) own)
letters_after h (line.Message n from to bytes) says told x d i own =
    elim (in_either x (letters (sent_in h)) _ (subst (In x) (map_append (sent_in h) _) i)) [
      | inl old ↦ told_more h _ d x (told x d old own)
      | inr (inl new) ↦ told_here h n from to bytes d x says new own
      | inr (inr none) ↦ absurd none
    ]
letters_after h (line.Delivered n del) says told x d i own =
    told_more h _ d x
    (told x d (subst (In x) (letters_changed (sent_in h) n arrived (slice_get (sent_in h) n) (λ s. refl) refl) i) own)
letters_after h l says told x d i own = told_more h l d x (told x d i own)

one_told : (h : List Line) (l : Line) → JudgesAt h l → AreTold h → AreTold (h ++ l ∷ [])
one_told h l says told x d i own =
    letters_after h l says told x d (subst (λ (ss : List Sent). In x (letters ss)) (sent_behind h l) i) own

lines_told : (h lines : List Line) → EachBehind HoldsAt h lines → AreTold h → AreTold (h ++ lines)
lines_told h [] each told = subst AreTold (sym (append-nil h)) told
lines_told h (l ∷ lines) each told =
    subst AreTold (append_assoc h (l ∷ []) lines)
    (lines_told (h ++ l ∷ []) lines each.1 (one_told h l (judges_of h l each.0) told))

none_told : AreTold []
unfolding sent_in
none_told x d i own = absurd i

pub letters_told : (h : List Line) → EachBehind HoldsAt [] h → (x : Sent) (d : ℕ) → In x (letters (sent_in h))
    → x.from ≡ party.Drive d → Told h d x
letters_told h each = lines_told [] h each none_told
