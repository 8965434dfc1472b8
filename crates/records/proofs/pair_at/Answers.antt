use Rattle.std.proofs.Common.{◌≡◌, ◌∙◌, ap, List, ℕ, refl, Some, None, unwrap_or}
use Rattle.records.specs.Number.{Read, number_at}
use Rattle.records.specs.Pair.{value_of, next_of, name_at, text_at, pair_next, value_at, next_at}
use Rattle.records.proofs.pair_at.Goals as goal

-- the number, and what follows it: 0 and the place itself where there is none
read_or : (s : List ℕ) (i : ℕ) {r : Read} {x : ℕ × ℕ} → r ≡ number_at s i → x ≡ unwrap_or r (0, i) → x ≡ (value_at s i, next_at s i)
unfolding value_at next_at
read_or s i {r} e d = d ∙ by r i ∙ ap (λ (r : Read). (value_of r, next_of r i)) e
  where
    by : (r : Read) (i : ℕ) → unwrap_or r (0, i) ≡ (value_of r, next_of r i)
    by (Some a) i = refl
    by None i = refl

pub returns : goal.returns
unfolding name_at text_at pair_next
returns c =
    let name = read_or c.args.s.now c.args.at c.number.ensures c.unwrap_or-name.ensures in
    let next : c.unwrap_or-name.result.1 ≡ next_at c.args.s.now c.args.at = ap (λ (x : ℕ × ℕ). x.1) name in
    let text = read_or c.args.s.now c.unwrap_or-name.result.1 c.number-2.ensures c.unwrap_or-text.ensures in
    (ap (λ (x : ℕ × ℕ). x.0) name, ap (λ (x : ℕ × ℕ). x.0) text ∙ ap (value_at c.args.s.now) next, ap (λ (x : ℕ × ℕ). x.1) text ∙ ap (next_at c.args.s.now) next)
