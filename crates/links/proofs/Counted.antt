-- The count of the check: how many are met from a first child, what each node adds, and what the sum decides.
use Rattle.std.proofs.Common.{◌≡◌, ◌≢◌, ◌<◌, ◌-◌, ◌+◌, ℕ, zero, suc, Bool, true, false, List, length, leb, sub-one, arith}
use Rattle.lent.specs.Mem.{field, NEXT, PARENT, FIRST}
use Rattle.lent.specs.Tree.{links}
use Rattle.theory.specs.Says.{Says, says_no, says_leb}
use Rattle.theory.specs.Pigeon.{walk, walk_more}
use Rattle.theory.specs.Check.{Nodes}
use Rattle.theory.specs.Count.{lists, roots}
use Rattle.links.specs.Links.{Children, kids_of, field_of, bare_of, total_step, counted→children, children→counted, children→nodes}

-- what is met from x in k - n steps is one more than from the next in a step fewer; nothing is met from none, or in no step
pub met_next : (f : ℕ → ℕ) (k n x : ℕ) → n < k → x ≢ 0 → length (walk f (k - n) x) ≡ suc (length (walk f (k - (n + 1)) (f x)))
met_next f k n x h e = let d : k - (n + 1) ≡ k - n - 1 = omega arith in rw d (walk_more f (k - n) x (omega arith) e)

-- node x adds what is met from its first child, and itself where it has no parent
pub total_next : (m : List ℕ) (c x k : ℕ) {n y a b : ℕ} → 0 < x
    → n ≡ length (lists (kids_of m c) (x - 1)) + length (roots (field_of m PARENT) (x - 1)) → y ≡ field m x FIRST
    → a ≡ length (walk (field_of m NEXT) (c + 1) y) → b ≡ bare_of m x
    → k ≡ x → n + (a + b) ≡ length (lists (kids_of m c) k) + length (roots (field_of m PARENT) k)
total_next m c zero k z h e f g s = absurd (omega arith)
total_next m c (suc x) k {n} {y} {a} {b} z h e f g s =
    let t : k ≡ x + 1 = omega (arith, s) in
    let d : x + 1 ≡ suc x = omega arith in
    rw t (omega (arith, total_step m c x {n = n} {y = y} {a = a} {b = b} (rw sub-one at h) (rw d e) f (rw d g)))

-- where each node's links keep their rules, the sum decides whether the lists of children exist; where not, they do not
pub by_count : (m : List ℕ) (c t : ℕ) (r : Bool) → Says (Nodes (links m) c) r → r ≡ true → t ≡ length (lists (kids_of m c) c) + length (roots (field_of m PARENT) c)
    → Says (Children m c) (leb c t)
by_count m c t r s e d = says_leb c t (λ l. counted→children (s.good e) (omega (arith, d, l))) (λ k. omega (arith, d, children→counted k))

pub by_nodes : (m : List ℕ) (c : ℕ) (r : Bool) → Says (Nodes (links m) c) r → r ≡ false → Says (Children m c) r
by_nodes m c r s e = rw e (says_no (λ k. s.bad e (children→nodes k)))
