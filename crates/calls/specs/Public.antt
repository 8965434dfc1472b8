-- Where the record at a place ends.
-- Assumes nothing.
use Rattle.std.specs.Prelude.{ℕ, ◌≡◌, List, MatchResult}
use Rattle.records.specs.Record.{item_at}

-- what follows the record at byte i starts at next
abbrev pub Follows : List ℕ → ℕ → ℕ → Type 0
Follows s i next = MatchResult (item_at s i) (λ p. p.1 ≡ next) (λ e. ⊥)
