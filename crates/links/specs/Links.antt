-- The links of the lent nodes, and the rules that a test decides. Assumes nothing.
use Rattle.std.specs.Prelude.{◌≡◌, cond, ◌≢◌, List, ℕ, suc, ◌+◌, ◌≤◌, ◌<◌, length, eqb}
use Rattle.std.proofs.Common.{add-one, eq-eqb, ne_eqb, arith}
use Rattle.std.proofs.Math.Decide.{ℕ_discrete}
use Rattle.lent.specs.Mem.{field, PARENT, PREV, NEXT, FIRST, LAST}
use Rattle.lent.specs.Tree.{links}
use Rattle.theory.specs.Kids.{Kids}
use Rattle.theory.specs.Pigeon.{walk}
use Rattle.theory.specs.Count.{lists, roots, counted, counts, lists_more, lists_none, roots_none, roots_bare, roots_other}
use Rattle.theory.specs.Check.{Nodes, run, checked→kids, kids→checked}

abbrev pub field_of : List ℕ → ℕ → ℕ → ℕ
field_of m f = λ n. field m n f

abbrev pub kids_of : List ℕ → ℕ → ℕ → List ℕ
kids_of m c = λ p. walk (λ n. field m n NEXT) (suc c) (field m p FIRST)

unfoldable pub bare_of : List ℕ → ℕ → ℕ
bare_of m x = cond (eqb (field m x PARENT) 0) 1 0

-- the document's words: the lists of children exist
pub record Children (m : List ℕ) (c : ℕ) : Type 0 where
  pub parent : (x : ℕ) → 0 < x → x ≤ c → field m x PARENT ≤ c
  pub kids : ℕ → List ℕ
  pub is_kids : Kids (links m) c kids

pub record Sibling (m : List ℕ) (c x f g p : ℕ) : Type 0 where
  pub some : field m x f ≢ 0 → (field m x f ≤ c) × (field m (field m x f) g ≡ x) × (field m (field m x f) PARENT ≡ p)

pub record Head (m : List ℕ) (c x : ℕ) : Type 0 where
  pub some : field m x FIRST ≢ 0 → (field m x FIRST ≤ c) × (field m (field m x FIRST) PARENT ≡ x) × (field m (field m x FIRST) PREV ≡ 0)
  pub none : field m x FIRST ≡ 0 → field m x LAST ≡ 0

pub record Tail (m : List ℕ) (x p : ℕ) : Type 0 where
  pub tail : p ≢ 0 → field m x NEXT ≡ 0 → field m p LAST ≡ x
  pub loose : p ≡ 0 → (field m x NEXT ≡ 0) × (field m x PREV ≡ 0)

-- the counts decide
pub counted→children : {m : List ℕ} {c : ℕ} → Nodes (links m) c
    → c ≤ length (lists (kids_of m c) c) + length (roots (field_of m PARENT) c) → Children m c
counted→children {m} {c} t h =
    record {
      parent = λ x z l. (t.node x z l).par;
      kids = kids_of m c;
      is_kids = checked→kids (record { node = t.node; met = counted (links m) c (kids_of m c) (run t) h });
    }

pub children→counted : {m : List ℕ} {c : ℕ} → Children m c → c ≤ length (lists (kids_of m c) c) + length (roots (field_of m PARENT) c)
children→counted {m} {c} k = counts (checked→kids (kids→checked k.is_kids k.parent)) k.parent

pub children→nodes : {m : List ℕ} {c : ℕ} → Children m c → Nodes (links m) c
children→nodes k = record { node = (kids→checked k.is_kids k.parent).node }

-- what the loop of the check adds up
bare_is : (m : List ℕ) (x : ℕ) → length (roots (field_of m PARENT) (suc x)) ≡ length (roots (field_of m PARENT) x) + bare_of m (suc x)
unfolding bare_of
bare_is m x = by (ℕ_discrete (field m (suc x) PARENT) 0)
  where
    by : Dec (field m (suc x) PARENT ≡ 0)
        → length (roots (field_of m PARENT) (suc x)) ≡ length (roots (field_of m PARENT) x) + cond (eqb (field m (suc x) PARENT) 0) 1 0
    by (yes e) = rw (eq-eqb (field m (suc x) PARENT) 0 e) (omega (arith, roots_bare (field_of m PARENT) x e))
    by (no ne) = rw (ne_eqb (field m (suc x) PARENT) 0 ne) (omega (arith, roots_other (field_of m PARENT) x ne))

pub total_step : (m : List ℕ) (c x : ℕ) {n y a b : ℕ}
    → n ≡ length (lists (kids_of m c) x) + length (roots (field_of m PARENT) x) → y ≡ field m (x + 1) FIRST
    → a ≡ length (walk (field_of m NEXT) (c + 1) y) → b ≡ bare_of m (x + 1) → n + a + b ≡ length (lists (kids_of m c) (x + 1)) + length (roots (field_of m PARENT) (x + 1))
total_step m c x {n} {y} {a} {b} h e f g =
    let f' : a ≡ length (kids_of m c (suc x)) = rw (e, add-one, add-one) at f in
    let g' : b ≡ bare_of m (suc x) = rw add-one at g in
    rw add-one (omega (arith, lists_more (kids_of m c) x, bare_is m x))

pub total_none : (m : List ℕ) (c : ℕ) → 0 ≡ length (lists (kids_of m c) 0) + length (roots (field_of m PARENT) 0)
total_none m c = omega (arith, lists_none (kids_of m c), roots_none (field_of m PARENT))
