use Rattle.std.proofs.Common.{sym}
use Rattle.names.proofs.Placed.{put_name_past, after_name_past}
use Rattle.names.proofs.put_in.Goals as goal

pub returns-then-n-ge-LIMIT-clause-value : goal.returns-then-n-ge-LIMIT-clause-value
returns-then-n-ge-LIMIT-clause-value c = sym (after_name_past c.args.out.now c.args.n c.args.at c.if-n-ge-LIMIT.true)

pub returns-then-n-ge-LIMIT-clause-out_after : goal.returns-then-n-ge-LIMIT-clause-out_after
returns-then-n-ge-LIMIT-clause-out_after c = sym (put_name_past c.args.out.now c.args.n c.args.at c.if-n-ge-LIMIT.true)
