use Rattle.std.proofs.Common.{◌≡◌, refl, ℕ, length, sym, ap, subst, ◌∙◌}
use Rattle.world_history.specs.Runs.{world_after}
use Rattle.world_network.specs.Network.{NetworkState}
use Rattle.layout_world.specs.Going.{Delivering}
use Rattle.layout_world.specs.Rules.{action_of}
use Rattle.layout_world.proofs.Settling.{settled_start}
use Rattle.layout_world.proofs.Going.{broken_here}
use Rattle.layout_world.proofs.Finishing.{finishes_quiet, due_quiet, remembered, quiet_err, quiet_over, quiet_pends, quiet_next}
use Rattle.layout_world.proofs.Watched.{leaves_on}
use Rattle.layout_world.proofs.following.prompt.Goals as goal

pub loop-rounds-init : goal.loop-rounds-init
loop-rounds-init g c = (
  λ w e before watch m f. record {
    far = f;
    settled = settled_start c.args.first c.args.parties.now.settled c.later-next.result c.args.parties.now.network.messages
        f.shows.settled m c.later-next.ensures.from c.later-next.ensures.one;
  },
  (refl, refl),
)

pub returns-in-Err-clause-finishes : goal.returns-in-Err-clause-finishes
returns-in-Err-clause-finishes g c = λ m w e before watch f.
    finishes_quiet w e before watch c.args.first c.args.client c.settle.new.parties c.settle.new.watch c.settle.new.lines
    c.in-Err.error
    (c.in-Err.ensures.quiets w e before watch c.args.first c.args.client (c.loop-rounds.invariant.0 w e before watch m f))

pub returns-in-Err-quieten-clause-finishes : goal.returns-in-Err-quieten-clause-finishes
returns-in-Err-quieten-clause-finishes g c = λ m w e before watch f.
    let i = c.loop-rounds.invariant.0 w e before watch m f in
    let p = c.remember_settled.new.self in
    let q = remembered w e before watch c.args.first c.args.client c.settle.new.parties p c.settle.new.watch c.settle.new.lines
    (c.in-Ok.ensures.quiets w e before watch c.args.first c.args.client i) c.remember_settled.ensures.network
    c.remember_settled.ensures.shows in
    let due = due_quiet c.network_shows.ensures.pending w e before watch c.args.first c.args.client p c.settle.new.watch
    c.settle.new.lines q ∙ sym (c.quiet_of-due.ensures (world_after w q.far.moves) q.far.shows) in
    quiet_err w e before watch c.args.first c.args.client p c.quieten.new.parties c.settle.new.watch c.quieten.new.watch
    c.settle.new.lines c.quieten.new.lines c.in-Err-quieten.error q
    (action_of c.quiet_of-due.result) due c.in-Err-quieten.ensures.moves

pub returns-in-Over-clause-finishes : goal.returns-in-Over-clause-finishes
returns-in-Over-clause-finishes g c = λ m w e before watch f.
    let i = c.loop-rounds.invariant.0 w e before watch m f in
    let p = c.remember_settled.new.self in
    let q = remembered w e before watch c.args.first c.args.client c.settle.new.parties p c.settle.new.watch c.settle.new.lines
    (c.in-Ok.ensures.quiets w e before watch c.args.first c.args.client i) c.remember_settled.ensures.network
    c.remember_settled.ensures.shows in
    let due = due_quiet c.network_shows.ensures.pending w e before watch c.args.first c.args.client p c.settle.new.watch
    c.settle.new.lines q ∙ sym (c.quiet_of-due.ensures (world_after w q.far.moves) q.far.shows) in
    quiet_over w e before watch c.args.first c.args.client p c.quieten.new.parties c.settle.new.watch c.quieten.new.watch
    c.settle.new.lines c.quieten.new.lines q (rw c.in-Over.is at due) (rw c.in-Over.is at c.in-Ok-quieten.ensures.moves)

pub returns-in-Pends-clause-finishes : goal.returns-in-Pends-clause-finishes
returns-in-Pends-clause-finishes g c = λ m w e before watch f.
    let i = c.loop-rounds.invariant.0 w e before watch m f in
    let p = c.remember_settled.new.self in
    let q = remembered w e before watch c.args.first c.args.client c.settle.new.parties p c.settle.new.watch c.settle.new.lines
    (c.in-Ok.ensures.quiets w e before watch c.args.first c.args.client i) c.remember_settled.ensures.network
    c.remember_settled.ensures.shows in
    let due = due_quiet c.network_shows.ensures.pending w e before watch c.args.first c.args.client p c.settle.new.watch
    c.settle.new.lines q ∙ sym (c.quiet_of-due.ensures (world_after w q.far.moves) q.far.shows) in
    quiet_pends w e before watch c.args.first c.args.client p c.quieten.new.parties c.settle.new.watch c.quieten.new.watch
    c.settle.new.lines c.quieten.new.lines q c.in-Pends.client (rw c.in-Pends.is at due)
    (rw c.in-Pends.is at c.in-Ok-quieten.ensures.moves)

pub returns-clause-finishes : goal.returns-clause-finishes
returns-clause-finishes g c = λ m w e before watch f.
    let i = c.loop-rounds.invariant.0 w e before watch m f in
    broken_here w e before watch _ c.loop-rounds.parties c.loop-rounds.watch c.loop-rounds.lines i.far

pub loop-rounds-preserved : goal.loop-rounds-preserved
loop-rounds-preserved g c = (
  λ w e before watch m f.
      let i = c.loop-rounds.invariant.0 w e before watch m f in
      let p = c.remember_settled.new.self in
      let q = remembered w e before watch c.args.first c.args.client c.settle.new.parties p c.settle.new.watch c.settle.new.lines
      (c.in-Ok.ensures.quiets w e before watch c.args.first c.args.client i) c.remember_settled.ensures.network
      c.remember_settled.ensures.shows in
      let due = due_quiet c.network_shows.ensures.pending w e before watch c.args.first c.args.client p c.settle.new.watch
      c.settle.new.lines q ∙ sym (c.quiet_of-due.ensures (world_after w q.far.moves) q.far.shows) in
      let place : c.len-next.result ≡ length p.network.messages =
      c.len-next.ensures ∙ ap (λ (n : NetworkState). length n.messages) (sym c.remember_settled.ensures.network) in
      subst (λ (k : ℕ). Delivering w e before watch c.args.first c.args.client c.quieten.new.parties c.quieten.new.watch k
      c.quieten.new.lines) (sym place)
      (quiet_next w e before watch c.args.first c.args.client p c.quieten.new.parties c.settle.new.watch c.quieten.new.watch
      c.settle.new.lines c.quieten.new.lines q
      c.in-TimesOut.client c.in-TimesOut.component (rw c.in-TimesOut.is at due)
      (rw c.in-TimesOut.is at c.in-Ok-quieten.ensures.moves) c.in-Ok-quieten.ensures.grows),
  leaves_on c.args.watch.now c.settle.new.watch c.quieten.new.watch
      (leaves_on c.args.watch.now c.loop-rounds.watch c.settle.new.watch c.loop-rounds.invariant.1 c.settle.ensures.told)
      c.quieten.ensures.told,
)
