use Rattle.std.proofs.Common.{◌≡◌, ◌-◌}
use Rattle.records.specs.Record.{skip_at}
use Rattle.records.proofs.skip_numbers.Given as goal

abbrev pub invariant-loop : goal.invariant-loop
invariant-loop l = skip_at l.s l.p (l.count - l.counter) ≡ skip_at l.s l.at l.count
