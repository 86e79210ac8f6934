-- Lists put together.
use Rattle.std.proofs.Common.{◌≡◌, ℕ, List, ◌++◌, append_assoc, ap, ◌∙◌}

pub joined : (a b c : List ℕ) → (a ++ b) ++ c ≡ a ++ (b ++ c)
joined a b c = append_assoc a b c

-- what was written is at the end, and what is written then behind it
pub after : (o a b l m : List ℕ) → l ≡ o ++ a → m ≡ l ++ b → m ≡ o ++ (a ++ b)
after o a b l m one two = two ∙ ap (λ x. x ++ b) one ∙ append_assoc o a b
