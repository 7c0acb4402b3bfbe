use Rattle.std.proofs.Common.{sym, ◌≡◌, ◌∙◌, false}
use Rattle.std.proofs.lemmas.Result.{on_ok_weaker}
use Rattle.file_log.proofs.sizes.next_sizes.Goals as goal

pub returns-in-Write-default-default-false : goal.returns-in-Write-default-default-false
returns-in-Write-default-default-false c = let e : c.in-Write-default-default-false.acknowledged ≡ false =
    sym c.in-Write-default-default-false.acknowledged-is ∙ c.in-Write-default-default-false.acknowledged-test in
    rw (c.in-Write-default-default-false.is, e)
    (on_ok_weaker c.add_raised.result
    (λ h n. rw (c.from-in-Write-default-default-false.ensures, c.len-in-Write-default-default-false.ensures) at h n)
    c.add_raised.ensures)

pub returns-in-Read-default-default-Some : goal.returns-in-Read-default-default-Some
returns-in-Read-default-default-Some c =
    let some = rw c.in-Read-default-default-Some.is at c.in-Read-default-default-Some.answer-is in
    let bytes : c.as_slice.result.now ≡ c.in-Read-default-default-Some.bytes =
    rw (c.in-Read-default-default-Some.is, some) at c.as_slice.ensures in
    rw (c.in-Read-default-default-Some.is, some, ← bytes)
    (on_ok_weaker c.keep_fitting.result (λ h n. rw h (λ x. x, λ x. x)) c.keep_fitting.ensures)
