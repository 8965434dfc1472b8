use Rattle.std.proofs.Common.{rules, arith, sym, ◌∙◌}
use Rattle.reconstruct.proofs.Laws as laws
use Rattle.reconstruct.proofs.make_all.Goals as goal

pub loop-i-preserved : goal.loop-i-preserved
loop-i-preserved c = let v = c.loop-i.invariant in
    record {
      loans = search rules;
      room = laws.room_turn _ _ _ _ (omega arith) v.room c.make_anew.ensures.outcome;
      all = v.all ∙ laws.anew_turn _ _ _ (omega arith) c.make_anew.ensures.outcome;
    }

pub returns-clause-outcome : goal.returns-clause-outcome
returns-clause-outcome c = laws.anew_end _ c.loop-i.i _ (omega arith) ∙ sym c.loop-i.invariant.all
