use Rattle.std.proofs.Common.{◌≡◌, ◌+◌, ◌-◌, sym, ◌∙◌, arith, rules}
use Rattle.rounds.proofs.TurnLaws.{round_of}
use Rattle.rounds.proofs.FirmLaws.{firm_next, firm_fewer}
use Rattle.adoption.proofs.Laws.{further_on, further_stay, further_none}
use Rattle.adoption.proofs.later_rounds.Goals as goal
use Rattle.adoption.proofs.later_rounds.Goals.{then-again, else-again}

pub one_round-again-requires : goal.one_round-again-requires
one_round-again-requires c = firm_fewer 1 (8 - c.loop-round._round) (omega arith) c.loop-round.invariant.firm

pub loop-round-preserved : goal.loop-round-preserved
loop-round-preserved c = let l = c.loop-round in
    let less : 8 - (l._round + 1) ≡ 8 - l._round - 1 = omega arith in
    elim c.if-again.branch [
      | then-again w ↦
          rw (less, w.b-is, w.again-is)
          (record {
            loans = search rules;
            firm = firm_next _ _ _ _ (omega arith) (round_of _ _ w.one_round-again.ensures.outcome) l.invariant.firm;
            rest = l.invariant.rest ∙ further_on _ _ _ _ (omega arith) w.if-again.true (round_of _ _ w.one_round-again.ensures.outcome);
          })
      | else-again w ↦
          rw (w.b-is, w.again-is)
          (record {
            loans = l.invariant.loans;
            firm = firm_fewer _ (8 - l._round) (omega arith) l.invariant.firm;
            rest = l.invariant.rest ∙ further_stay _ _ _ _ _ w.if-again.false;
          })
    ]

pub returns-clause-outcome : goal.returns-clause-outcome
returns-clause-outcome c = further_none _ _ _ _ (omega arith) ∙ sym c.loop-round.invariant.rest
