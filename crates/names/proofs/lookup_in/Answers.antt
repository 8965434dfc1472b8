use Rattle.std.proofs.Common.{◌≡◌, sym, ◌∙◌, ap, List, ℕ, Bool, eqb, add-one, arith}
use Rattle.std.specs.Cmp.Lexicographic.{pointwise}
use Rattle.names.specs.Text.{same}
use Rattle.names.proofs.Find.{same_pointwise, scan_hit, scan_miss, scan_past}
use Rattle.names.proofs.lookup_in.Goals as goal

told : (b : List ℕ) {x y : List ℕ} {r t : Bool} → r ≡ pointwise eqb b x → x ≡ y → r ≡ t → same b y ≡ t
told b e i d = same_pointwise b _ ∙ ap (pointwise eqb b) (sym i) ∙ sym e ∙ d

pub returns-then-eq : goal.returns-then-eq
returns-then-eq c = sym (c.loop-n.invariant ∙ scan_hit c.args.b.now c.loop-n.n (omega arith) (told c.args.b.now c.eq.ensures c.name_in.ensures c.if-eq.true))

pub loop-n-preserved : goal.loop-n-preserved
loop-n-preserved c = rw add-one (c.loop-n.invariant ∙ scan_miss c.args.b.now c.loop-n.n (omega arith) (told c.args.b.now c.eq.ensures c.name_in.ensures c.if-eq.false))

pub returns : goal.returns
returns c = sym (c.loop-n.invariant ∙ scan_past c.args.b.now c.loop-n.n (omega arith))
