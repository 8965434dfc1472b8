use Rattle.std.proofs.Common.{◌≡◌, refl, ◌≢◌, List, ℕ, arith, Option, Some}
use Rattle.lent.specs.Mem.{field, KIND, PIECE, END}
use Rattle.texts.specs.Texts.{after, told_other, told_text, untold_text}
use Rattle.texts.specs.Say.{Chained, Texted}
use Rattle.texts.proofs.text.Goals as goal

other : (m q seen : List ℕ) {u n : ℕ} → field m n KIND ≢ 3 → Texted m q seen seen u n (Some 0)
other m q seen {u} {n} h =
    record {
      long = refl;
      small = λ k e. let s : 0 ≡ k = cc in omega arith;
      good = λ k e. let s : 0 ≡ k = cc in rw (← s) (told_other m q seen u n h);
      bad = λ z. absurd (cc);
    }

some : (m q : List ℕ) {seen seen' : List ℕ} {u n : ℕ} {r : Option ℕ} → field m n KIND ≡ 3
    → Chained (after q) seen seen' u (field m n PIECE) (field m n END) r → Texted m q seen seen' u n r
some m q {u = u} {n = n} h g =
    record {
      long = g.long;
      small = λ k e. (g.small k e).1;
      good = λ k e. told_text m q u n h (g.small k e).0 (g.good k e);
      bad = λ e. untold_text m q _ u n h (g.bad e);
    }

pub returns-then-kind-from : goal.returns-then-kind-from
returns-then-kind-from c = other _ _ _ (rw (c.field-kind.ensures.0, c.from.ensures) at c.if-kind-from.true)

pub returns : goal.returns
returns c = some _ _ (rw (c.field-kind.ensures.0, c.from.ensures) at c.if-kind-from.false)
    (rw (c.field-x.ensures.0, c.field-e.ensures.0) at c.chain.ensures)
