-- Elements as the rules look at them: namespace, name, mark; and which element an entry of the stack stands for.
-- Assumes nothing.
use Rattle.std.specs.Prelude.{ℕ, zero, suc, List, None, Option, Some}
use Rattle.lent.specs.Mem.{field, SPACE, NAME, MARK}
use Rattle.state.specs.declared.Context.{Context}

-- an element as the rules look at it; a fragment's context is one too
abbrev pub Expanded : Type 0
Expanded = Context

-- node n
unfoldable pub expanded : List ℕ → ℕ → Expanded
expanded m n = record { space = field m n SPACE; name = field m n NAME; mark = field m n MARK }

-- the context element, if there is one, stands in for e
unfoldable pub context_or : Option Context → Expanded → Expanded
context_or None e = e
context_or (Some x) e = x

-- n is entry k of the stack: in the fragment case (a context is there) the context element stands in for the first entry
unfoldable pub standing : List ℕ → Option Context → ℕ → ℕ → Expanded
standing m x n zero = context_or x (expanded m n)
standing m x n (suc k) = expanded m n
