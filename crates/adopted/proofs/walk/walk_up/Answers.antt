use Rattle.std.proofs.Common.{◌≡◌, ◌-◌, refl, sym, ◌∙◌, arith, rules}
use Rattle.places.proofs.Laws.{at_of}
use Rattle.adopted.specs.Bookmark.{started}
use Rattle.adopted.proofs.WalkLaws as laws
use Rattle.adopted.proofs.walk.walk_up.Goals as goal

pub loop-i-init : goal.loop-i-init
unfolding started
loop-i-init c = let z : c.args.at - c.args.at ≡ 0 = omega arith in
    record {
      loans = search rules;
      going = record { stack = c.requires.stack; list = c.requires.list; above = c.requires.open; depth = omega arith; listed = omega arith; room = omega arith };
      walked = rw z;
    }

pub returns-then-b-i-clause-outcome : goal.returns-then-b-i-clause-outcome
returns-then-b-i-clause-outcome c = sym (c.loop-i.invariant.walked ∙ laws.inner_stop _ _ (c.loop-i.i - 1) _ refl (omega arith) _ (at_of _ _ _ (omega (arith, c.loop-i.invariant.going.above)) ∙ c.if-b-i.true))

pub loop-i-preserved : goal.loop-i-preserved
loop-i-preserved c =
    record {
      loans = search rules;
      going = laws.turned_going _ _ _ _ (omega arith) (omega arith) _ c.loop-i.invariant.going c.turn-w.ensures.outcome;
      walked =
          c.loop-i.invariant.walked
          ∙ laws.inner_on _ _ _ _ (omega arith) (omega arith) _ (λ e. c.if-b-i.false (sym (at_of _ _ _ (omega (arith, c.loop-i.invariant.going.above))) ∙ e)) c.turn-w.ensures.outcome;
    }

pub returns-clause-outcome : goal.returns-clause-outcome
returns-clause-outcome c = sym (c.loop-i.invariant.walked ∙ laws.inner_none _ _ _ _ _ (omega arith))
