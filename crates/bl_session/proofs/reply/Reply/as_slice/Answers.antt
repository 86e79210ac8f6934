use Rattle.std.proofs.Common.{◌≡◌, ◌∙◌, sym, ap, List, ℕ}
use Rattle.std.specs.Fmt.{digits}
use Rattle.bl_http.specs.Replies.{allow_line, close_line, length_line, phrase_of, status_line, type_line}
use Rattle.bl_session.specs.Replies.{memory_out_bytes, reply_bytes}
use Rattle.bl_session.specs.declared.reply.Reply.{Reply}
use Rattle.bl_session.proofs.reply.Reply.as_slice.Goals as goal

pub returns-in-MemoryOut : goal.returns-in-MemoryOut
unfolding digits status_line type_line length_line allow_line close_line phrase_of
returns-in-MemoryOut c = sent ∙ ap (λ (reply : Reply). reply_bytes reply) (sym c.in-MemoryOut.is) where
  sent : c.as_bytes.result.now ≡ memory_out_bytes
  sent = c.as_bytes.ensures.value
