-- A past has no bytes and owns nothing, so a proof may tell any: the walk makes one of no bytes, with what its caller tells.
use mathlib.Core.Path.{refl}
use mathlib.Core.List.{[], ◌∷◌}
use seplogic.Ra.Ura.{Ura}
use mir.Val.{vstruct, vnil}
use base.Logic.{SProp, via, fst∗, emp}
use base.Fml.{Fml}
use prog.Wp.{Calls, Loops, WpFn}
use prog.Memory.{Memory}
use prog.Routine.{Routine}
use types.Logic.{Logic}
use types.Kit.{‵, raw, ◌$◌, ◌∵◌, !, qed, keep, use0, suffices, done}
use types.Run.{no_more, returns, enter}
use types.Part.{agg}
use types.ByLocal.{alloc_all, pass_all, free_all, look_at, sets}
use contract.Monad.{Fun, fm→mono}
use contract.Running.{tables}
use denote.Shadow.{makes_shadow}
use denote.Signature.{type_at}
use denote.Triple.Entry.{on_entry, Res}
use denote.Steps.{nothing}
use denote.Triple.Table.{entered, run_framed}
use denote.Triple.Walked.{says, walk_of, Walks, ends_at, walked, walk_Meets}
use denote.Triple.Clauses.{Clauses}
use Rattle.osd_disk.specs.contracts.past.Past.from_nothing.Key.{name as #self}
use Rattle.osd_disk.specs.contracts.past.Past.from_nothing as f
use Rattle.osd_disk.proofs.past.Past.from_nothing.Statement as stated
use Rattle.osd_disk.proofs.past.Past.from_nothing.Code as code

module _ {M : Type 1} {𝓤 : Ura M} (𝓛 : Logic 𝓤) (mem : Memory → SProp 𝓤) (run : Routine → Fun 𝓤) where
  open 𝓛 use {H}

  abbrev c : Clauses 𝓤 f.ended
  c = f.clauses 𝓛 mem run

  walks : (C : Calls 𝓤 H) (Λ : Loops 𝓤 H) → Walks 𝓛 f.ended tt (WpFn 𝓤 H C Λ code.function) c
  walks C Λ = walked 𝓛 f.ended tt c (WpFn 𝓤 H C Λ code.function) (λ κs. tt) (λ κs. tt)
      (λ κs qs bounds a g are. via 𝓤 (on_entry 𝓛 f.signature tt tt tt tt) (fst∗ 𝓤 _ (emp 𝓤)) (
      let r : Res f.signature tt = record { first = g.first; calls = g.calls } in
      let O : Fml = (type_at f.signature.result tt).own_val r (vstruct vnil ∷ []) in
      qed 𝓛 (raw (on_entry 𝓛 f.signature tt tt tt tt) ∷ []) ∵ enter ! C Λ code.function [] _ $
      alloc_all ! (λ l. pass_all ! refl tt $
      sets ! (agg ! (no_more !)) refl (tt, tt) $
      returns ! (look_at ! 0 refl) $ free_all ! refl $ keep ! [] $
      use0 𝓛 (‵ O) (makes_shadow 𝓛 O ((λ vss. (tt, tt)), tt) ((tt, (refl, tt)), tt)) $
      suffices ! _ (ends_at 𝓛 f.ended tt c ((tt, tt, tt, tt, tt), g) (vstruct vnil) r tt tt) $
      says ! (refl, refl) $ nothing ! $ nothing ! $ done !)))

pub from_nothing_spec : {M : Type 1} → stated.statement M
from_nothing_spec 𝓤 𝓛 𝓜 𝓡 wired =
    walk_Meets 𝓛 f.ended tt tt (f.clauses 𝓛 𝓜.mem 𝓡.returns) (𝓡.run (𝓡.env #self))
    (λ vs. fm→mono 𝓤 (𝓡.run (𝓡.env #self) vs) (run_framed 𝓤 𝓛.H 𝓜 𝓡 (𝓡.env #self) vs))
    (entered 𝓤 𝓛.H (walk_of 𝓛 f.ended tt (f.clauses 𝓛 𝓜.mem 𝓡.returns))
    (tables 𝓤 𝓛.H 𝓜 𝓡 𝓡.env).C (tables 𝓤 𝓛.H 𝓜 𝓡 𝓡.env).Λ #self code.function (code.unfolded 𝓤 𝓛.H 𝓜 𝓡 wired)
    (walks 𝓛 𝓜.mem 𝓡.returns (tables 𝓤 𝓛.H 𝓜 𝓡 𝓡.env).C (tables 𝓤 𝓛.H 𝓜 𝓡 𝓡.env).Λ))
