use Rattle.std.proofs.Common.{sym, ap, ◌∙◌, ◌≡◌, length, List, ℕ}
use Rattle.stripe_plan.specs.Touched.{stripes}
use Rattle.stripe_plan.specs.Plans.{span, filled_each, stores, written, writes, columns_of}
use Rattle.client_rules.specs.Calls.{span_of, bytes_of}
use Rattle.call_io.specs.State.{CallOp, Column}
use Rattle.call_io.proofs.Ends.{stores_told, columns_told, stores_eq}
use Rattle.call_io.proofs.writing.stores.Goals as goal

pub returns : goal.returns
returns c =
    let m = c.args.held.now.map in
    let out = c.args.out.now.components in
    let o = c.in-Write.offset in
    let s = c.as_slice.result.now in
    let made : c.in-Ok.columns ≡ written c.args.held.now.map
    (span c.in-Write.offset (length c.in-Write.bytes)) c.in-Write.bytes c.args.got c.args.out.now.components
    (stripes c.args.held.now.map (span c.in-Write.offset (length c.in-Write.bytes))) =
    columns_told m (span o (length s)) s c.in_ok-parts.parts out c.in-Ok.columns c.in-Ok.ensures.exact
    ∙ ap (λ (z : List ℕ). written m (span o (length z)) z (columns_of m c.in_ok-parts.parts) out (stripes m (span o (length z))))
    c.as_slice.ensures
    ∙ ap (λ (g : List Column). written m (span o (length c.in-Write.bytes)) c.in-Write.bytes g out
    (stripes m (span o (length c.in-Write.bytes)))) c.in_ok-parts.ensures
    in
    let planned : c.in-Ok-plan_stores.stores.items ≡ filled_each c.in-Ok.columns
    (writes c.args.held.now.map (span c.in-Write.offset (length c.in-Write.bytes)) c.args.out.now.components) =
    stores_told m (span o c.len.result) c.in-Ok.columns out c.in-Ok-plan_stores.stores.items c.in-Ok-plan_stores.ensures.ok
    ∙ ap (λ (k : ℕ). filled_each c.in-Ok.columns (writes m (span o k) out)) c.len.ensures
    in
    let all : stores c.args.held.now.map (span_of c.args.op.now)
    (bytes_of c.args.op.now) c.args.got c.args.out.now.components ≡ filled_each c.in-Ok.columns
    (writes c.args.held.now.map (span c.in-Write.offset (length c.in-Write.bytes)) c.args.out.now.components) =
    ap (λ (x : CallOp). stores m (span_of x) (bytes_of x) c.args.got out) c.in-Write.is
    ∙ stores_eq m (span o (length c.in-Write.bytes)) c.in-Write.bytes c.args.got out c.in-Ok.columns made
    in
    planned ∙ sym all
