-- A clock that stands.
use Rattle.std.specs.Prelude.{ℕ}

-- The one value that it gives, and how often it was read.
pub record Standing : Type 0 where
  pub value : ℕ
  pub readings : ℕ
