-- A body that was made is told.
use Rattle.std.proofs.Common.{◌≡◌, Bool, List, Ok, Err, Result, ℕ, Some, inr, subst}
use Rattle.std.specs.Prelude.{IfOk}
use Rattle.bl_session.specs.Replies.{Tells, TellsMade}
use Rattle.bl_session.specs.declared.reply.Reply.{Reply}

pub told_made : {E : Type 0} (made : Result (List ℕ) E) (body : List ℕ) (close : Bool) (reply : Reply) → IfOk made (λ text. text ≡ body) → TellsMade made close reply → Tells (Some (Ok body)) close reply
told_made (Ok text) body close reply is tells = subst (λ (t : List ℕ). Tells (Some (Ok t)) close reply) is tells
told_made (Err refusal) body close reply is tells = inr tells
