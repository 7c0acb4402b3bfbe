use Rattle.std.proofs.Common.{◌≡◌, ◌++◌, ◌∙◌, refl}
use Rattle.sha2.specs.Sha256.{sha256}
use Rattle.hmac_tags.specs.declared.block.TheConstants.{INNER_PAD}
use Rattle.hmac_tags.specs.Mac.{hmac, key_of, padded}
use Rattle.hmac_tags.proofs.sha256_tags.Hmac256.finish.Goals as goal

pub returns : goal.returns
unfolding hmac
returns c = λ key text h.
    let first : c.finalize-first.result ≡ sha256 (padded INNER_PAD (key_of sha256 key) ++ text) =
    c.finalize-first.ensures _ h.inner in
    c.finalize.ensures _ (c.update.ensures _ h.outer) ∙ rw first refl
