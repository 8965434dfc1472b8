use Rattle.std.proofs.Common.{arith, refl, rules, ◌∙◌}
use Rattle.records.proofs.Refusals.{number_of_some}
use Rattle.standard.specs.Run.{run_of}
use Rattle.calls.proofs.RunLaws.{run_end, run_stops, run_goes, item_sound, follows_past}
use Rattle.calls.proofs.run_all.Goals as goal

pub returns-in-Err-clause-outcome : goal.returns-in-Err-clause-outcome
unfolding run_of
returns-in-Err-clause-outcome c = run_stops _ _ _ _ c.loop-at-test.true c.in-Err.ensures.outcome (number_of_some _) ∙ c.loop-at.invariant.same

pub returns-clause-outcome : goal.returns-clause-outcome
unfolding run_of
returns-clause-outcome c = run_end _ _ _ _ c.loop-at-test.false ∙ c.loop-at.invariant.same

pub loop-at-smaller : goal.loop-at-smaller
loop-at-smaller c = omega (arith, c.loop-at-test.true, follows_past _ _ _ c.in-Ok.ensures.next)

pub loop-at-preserved : goal.loop-at-preserved
loop-at-preserved c =
    let b = c.loop-at.invariant in
    let e = c.in-Ok.ensures in
    record {
      loans = search rules;
      sound = item_sound _ _ _ b.sound e.outcome;
      same = run_goes _ _ _ _ c.loop-at-test.true e.outcome _ refl e.next ∙ b.same;
      fewer = omega (arith, b.fewer, follows_past _ _ _ e.next);
    }
