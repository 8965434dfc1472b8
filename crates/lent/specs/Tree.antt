-- The tree that the links of the nodes give: the five links as functions, and the children of a node as a list.
-- Assumes nothing.
use Rattle.std.specs.Prelude.{ℕ, List}
use Rattle.lent.specs.Mem.{field, PARENT, PREV, NEXT, FIRST, LAST}
use Rattle.theory.specs.Kids.{Mem}
use Rattle.theory.specs.Pigeon.{walk}

abbrev pub links : List ℕ → Mem
links m =
    record {
      par = λ n. field m n PARENT;
      first = λ n. field m n FIRST;
      last = λ n. field m n LAST;
      next = λ n. field m n NEXT;
      prev = λ n. field m n PREV;
    }

-- the children of p: what is met from its first child by going to the next sibling
unfoldable pub children : List ℕ → ℕ → List ℕ
children m p = walk (links m).next 4096 ((links m).first p)
