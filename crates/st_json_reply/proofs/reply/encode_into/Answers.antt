use Rattle.std.proofs.Common.{◌++◌, ap, ◌∙◌}
use Rattle.serde_json.specs.Written.{compact_text}
use Rattle.st_json_reply.specs.Replies.{reply_data, text_of}
use Rattle.st_json_reply.proofs.Added.{whole_text}
use Rattle.st_json_reply.proofs.reply.encode_into.Goals as goal

pub returns : goal.returns
unfolding text_of
returns g c = c.into_inner.ensures.items ∙ whole_text c.new-out.result c.write_reply.new.out (reply_data c.args.reply.now) c.new-out.ensures.tokens c.in_ok-write_reply.ensures
    ∙ ap (λ s. s ++ compact_text (reply_data c.args.reply.now)) c.new-out.ensures.before
