use Rattle.std.proofs.Common.{arith, Bool, List, ℕ, ◌≤◌, length}
use Rattle.theory.specs.Says.{Says, says_no}
use Rattle.theory.specs.Depth.{InRange, Ends}
use Rattle.theory.specs.Natural.{Natural}
use Rattle.theory.specs.Nearest.{Placed, blank_none, nearest, memo_of, Memo, Apart, order→natural, natural→order, natural→apart}
use Rattle.std.proofs.Math.Seq.{take-length}
use Rattle.order.specs.Say.{Ordered}
use Rattle.order.proofs.order.Goals as goal

-- l is what is held of the stack
verdict : {f : ℕ → ℕ} (l : List ℕ) {near : List ℕ} {c : ℕ} {r : Bool} → InRange f c → Ends f c → Placed c l (length l) near
    → Ordered f l near (length l) c r → Says (Natural f c l) r
verdict {f} l {near} {c} g e p o =
    let h : length l ≤ length l = omega arith in
    let m : Memo f c (nearest f c l) near = rw take-length at (memo_of p h g e) in
    record {
      good = λ q. rw take-length at (order→natural p h g e (rw take-length (o.good q (nearest f c l) m)));
      bad = λ q s. o.bad q (nearest f c l) m (rw take-length at (natural→order (length l) l h g e (rw take-length s)));
    }

apart : {f : ℕ → ℕ} {c : ℕ} (l : List ℕ) → Natural f c l → Apart c l (length l)
apart {f} {c} l s = natural→apart {up = f} {c = c} (length l) l (omega arith) (rw take-length s)

pub places-requires-clause-blank : goal.places-requires-clause-blank
places-requires-clause-blank c = blank_none 4097

pub returns-then-places : goal.returns-then-places
returns-then-places c = verdict _ c.requires.in_range c.requires.ends (c.places.ensures.good c.if-places.true) c.ordered.ensures

pub returns-else-places : goal.returns-else-places
returns-else-places c = rw c.if-places.false (says_no (λ s. c.places.ensures.bad c.if-places.false (apart _ s)))
