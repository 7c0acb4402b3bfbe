-- What a ready call left of the clients, as it can be told of any client that rested before.
use Rattle.std.proofs.Common.{◌≡◌, ◌≢◌, ℕ, List, Option, Some, None, is_some, option_map, true, false, true≢false, refl, sym, ap, ◌∙◌, inl, inr}
use Rattle.scenario_text.specs.declared.line.Line.{Line}
use Rattle.server_rules.specs.Grants.{grant_of}
use Rattle.world_history.specs.ClientNames.{Held}
use Rattle.world_history.specs.ServerNames.{File, Grant}
use Rattle.world_history.specs.State.{World, ClientAt, at_number}
use Rattle.ready_law.specs.Ready.{held_by, scene_of}
use Rattle.ready_law.specs.Rested.{HoldsTheSame, RestsAt, LeavesRest, size_after}
use Rattle.ready_law.proofs.Calls.{ReadyCall, scene_at, op_at, file_at_call, kept_at, IsIn}
use Rattle.ready_law.proofs.Stages.{IsRested}
use Rattle.ready_law.proofs.AskingForms.{AskingLaws}
use Rattle.ready_law.proofs.WorkingStage.{grant_agrees}

module _ (laws : AskingLaws) (s : ReadyCall) (w : World) (h : List Line) (i : IsIn s w h) (r : IsRested s w) where
  abbrev file_now : File
  file_now =
      record s.ready.file {
        kept = record (kept_at s) { grants = r.grants; size = size_after (kept_at s) (op_at s); high = r.server.high };
      }

  -- what the client of the call holds is what the server has
  holds_the_same : HoldsTheSame (file_at_call s) file_now.kept s.client r.at
  holds_the_same = by (held_by r.at (file_at_call s)) refl (grant_of r.grants s.client) refl r.alike
    where
      numbers : Option Held → Option ℕ
      numbers o = option_map (λ (x : Held). x.number) o

      granted : Option Grant → Option ℕ
      granted o = option_map (λ (g : Grant). g.number) o

      apart : false ≡ true → HoldsTheSame (file_at_call s) file_now.kept s.client r.at
      apart e = absurd (true≢false (sym e))

      by : (o : Option Held) → held_by r.at (file_at_call s) ≡ o → (p : Option Grant) → grant_of r.grants s.client ≡ p
          → is_some (held_by r.at (file_at_call s)) ≡ is_some (grant_of r.grants s.client)
          → HoldsTheSame (file_at_call s) file_now.kept s.client r.at
      by None e None f alike = ap numbers e ∙ sym (ap granted f)
      by (Some x) e (Some g) f alike =
          ap numbers e
          ∙ ap (λ (n : ℕ). Some n)
          (grant_agrees laws s w h i r.at r.there x e r.grants (size_after (kept_at s) (op_at s)) r.server g f).number
          ∙ sym (ap granted f)
      by None e (Some g) f alike = apart (sym (ap (λ (o : Option Held). is_some o) e) ∙ alike
          ∙ ap (λ (o : Option Grant). is_some o) f)
      by (Some x) e None f alike = apart (sym (sym (ap (λ (o : Option Held). is_some o) e) ∙ alike
          ∙ ap (λ (o : Option Grant). is_some o) f))

  -- so does each other that did before
  others_rest : (d : ℕ) (a : ClientAt) → d ≢ s.client → at_number s.world.clients d ≡ Some a
      → RestsAt (file_at_call s) (kept_at s) d a
      → (b : ClientAt) × (at_number w.clients d ≡ Some b) × RestsAt (file_at_call s) file_now.kept d b
  others_rest d a other there was = elim (r.aside d other) [
    | inl one ↦ absurd one.1
    | inr (inl x) ↦ (
      a,
      x.client ∙ there,
      record { idle = was.idle; same = was.same ∙ sym (ap (option_map (λ (g : Grant). g.number)) x.grant) },
    )
    | inr (inr x) ↦ (
      x.at,
      x.there,
      record {
        idle = x.idle;
        same = ap (option_map (λ (y : Held). y.number)) x.released ∙ sym (ap (option_map (λ (g : Grant). g.number)) x.none);
      },
    )
  ]

  pub leaves_rest : (lines : List Line)
      → LeavesRest (scene_at s) (scene_of w lines) s.client (op_at s) s.ready.file
  leaves_rest lines = record {
    clock = r.server.clock;
    up = r.server.up;
    file = file_now;
    found = r.server.found;
    file_is = refl;
    live = r.others;
    caller = r.at;
    there = r.there;
    rests = record { idle = r.idle; same = holds_the_same };
    others = others_rest;
    drives = r.drives.each;
    room = r.drives.stays;
  }
