use Rattle.std.proofs.Common.{◌∙◌, ap, List, ℕ, arith, length, get_or}
use Rattle.names.proofs.Rows.{starts_length, starts_at}
use Rattle.names.proofs.start_in.Goals as goal

pub bounds-starts-k : goal.bounds-starts-k
bounds-starts-k c = omega (arith, ap length c.requires.starts, starts_length)

pub returns : goal.returns
returns c = c.from.ensures ∙ ap (λ (s : List ℕ). get_or s c.args.k 0) c.requires.starts ∙ starts_at c.args.k c.requires.k
