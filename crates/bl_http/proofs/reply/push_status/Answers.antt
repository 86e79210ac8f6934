use Rattle.std.proofs.Common.{◌≡◌, ◌∙◌, ap, append_assoc}
use Rattle.http.specs.StatusCode.{code_digits}
use Rattle.bl_http.specs.Replies.{phrase_of, status_line}
use Rattle.bl_http.proofs.reply.push_status.Goals as goal

pub returns : goal.returns
unfolding status_line
returns c =
    let digits : c.as_bytes.result.now ≡ code_digits c.args.status =
    c.as_bytes.ensures.value ∙ c.as_str.ensures ∙ ap code_digits c.in-Ok.ensures.1 in
    let words : c.as_bytes-2.result.now ≡ phrase_of c.args.status =
    c.as_bytes-2.ensures.value ∙ c.phrase.ensures ∙ ap phrase_of c.in-Ok.ensures.1 in
    rw (
      c.in_ok-extend-5.ensures.ok,
      c.in_ok-extend-4.ensures.ok,
      c.in_ok-extend-3.ensures.ok,
      c.in_ok-extend-2.ensures.ok,
      c.in_ok-extend.ensures.ok,
      digits,
      words,
    ) (simp append_assoc)
