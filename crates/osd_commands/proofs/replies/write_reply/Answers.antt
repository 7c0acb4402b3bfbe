use Rattle.std.proofs.Common.{◌≡◌, ◌∙◌, ap, refl}
use Rattle.osd_commands.specs.Replies.{spelling, reading}
use Rattle.osd_commands.proofs.ReplyLaws.{reading-reply}
use Rattle.osd_commands.proofs.replies.write_reply.Goals as goal

pub returns : goal.returns
unfolding spelling
returns c =
    let spelled : c.extend_from_slice-2.new.self ≡ spelling c.args.r.now =
    c.in_ok-extend_from_slice-2.ensures.ok
    ∙ rw (c.as_slice.ensures, c.in_ok-extend_from_slice.ensures.ok, c.in_ok-bytes.ensures, c.fields_of.ensures.written)
    refl in
    record {
      spelled = spelled;
      read_back = λ whole. ap reading spelled
          ∙ reading-reply c.args.r.now (record { whole = whole; numbers = c.fields_of.ensures.fits });
    }
