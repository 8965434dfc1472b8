-- The namespaces, by name: `use Rattle.names.specs.Space as space` and then `space.mathml`.
-- Assumes nothing.
use Rattle.std.specs.Prelude.{ℕ}

abbrev pub html : ℕ
html = 0

abbrev pub mathml : ℕ
mathml = 1

abbrev pub svg : ℕ
svg = 2

-- the first number past the namespaces
abbrev pub limit : ℕ
limit = 3
