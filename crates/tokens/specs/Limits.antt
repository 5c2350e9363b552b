-- The limit of a command text.
use Rattle.std.specs.Prelude.{ℕ, cond, List, length, Some, None, Option, nat_le}

-- A text of at most 4,096 bytes.
abbrev pub within_limit : List ℕ → Option (List ℕ)
within_limit text = cond (nat_le (length text) 4096) (Some text) None
