use Rattle.std.proofs.Common.{◌-◌, ◌+◌, sym, ◌∙◌, arith}
use Rattle.records.proofs.Laws.{skip_bad, skip_more, skip_none}
use Rattle.records.proofs.skip_numbers.Goals as goal

pub returns-in_err-next : goal.returns-in_err-next
returns-in_err-next c = c.from_residual.ensures ∙ skip_bad c.args.s.now c.loop.p (c.args.count - c.loop.counter) (c.args.count - (c.loop.counter + 1)) (omega arith) (sym c.number.ensures ∙ c.in_err-next.was) ∙ c.loop.invariant

pub loop-preserved : goal.loop-preserved
loop-preserved c = skip_more c.args.s.now c.loop.p (c.args.count - c.loop.counter) (c.args.count - (c.loop.counter + 1)) (omega arith) (sym c.number.ensures ∙ c.in_ok-next.was) ∙ c.loop.invariant

pub returns : goal.returns
returns c = skip_none c.args.s.now c.loop.p (c.args.count - c.loop.counter) (omega arith) ∙ c.loop.invariant
