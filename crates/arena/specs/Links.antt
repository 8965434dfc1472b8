-- What each operation on the links makes of the nodes' bytes. `proofs/Children.antt` says what it is on lists of children.
-- Assumes nothing.
use Rattle.std.specs.Prelude.{ℕ, zero, suc, cond, List, eqb}
use Rattle.lent.specs.Mem.{field, put_field, link, PARENT, PREV, NEXT, FIRST, LAST}

-- c, which has no parent, becomes the last child of p
unfoldable pub appended : List ℕ → ℕ → ℕ → List ℕ
appended m p c =
    put_field (link (put_field (put_field (put_field m c PARENT p) c PREV (field m p LAST)) c NEXT 0) (field m p LAST) FIRST p NEXT c) p LAST c

-- n, a child of p between prev and next, leaves its parent
unfoldable pub unlinked : List ℕ → ℕ → ℕ → ℕ → ℕ → List ℕ
unlinked m n p prev next =
    put_field (put_field (put_field (link (link m prev FIRST p NEXT next) next LAST p PREV prev) n PARENT 0) n PREV 0) n NEXT 0

-- n leaves its parent, if it has one
unfoldable pub detached : List ℕ → ℕ → List ℕ
detached m n = cond (eqb (field m n PARENT) 0) m (unlinked m n (field m n PARENT) (field m n PREV) (field m n NEXT))

-- c, which has no parent, comes right before s, which has one
unfoldable pub inserted : List ℕ → ℕ → ℕ → List ℕ
inserted m s c =
    link
    (put_field (put_field (put_field (put_field m c PARENT (field m s PARENT)) c PREV (field m s PREV)) c NEXT s) s PREV c)
    (field m s PREV)
    FIRST
    (field m s PARENT)
    NEXT
    c

-- the parent of n and of the siblings after it is p: of k nodes at most
unfoldable pub reparented : List ℕ → ℕ → ℕ → ℕ → List ℕ
reparented m n p zero = m
reparented m n p (suc k) = cond (eqb n 0) m (reparented (put_field m n PARENT p) (field (put_field m n PARENT p) n NEXT) p k)

-- the children of a, of which first and last are the ends, become the last children of b, whose last child is end
unfoldable pub spliced : List ℕ → ℕ → ℕ → ℕ → ℕ → ℕ → List ℕ
spliced m a b first last end =
    put_field (link (put_field (put_field (put_field (reparented m first b 4096) a FIRST 0) a LAST 0) first PREV end) end FIRST b NEXT first) b LAST last

-- the children of a become the last children of b
unfoldable pub moved : List ℕ → ℕ → ℕ → List ℕ
moved m a b = cond (eqb (field m a FIRST) 0) m (spliced m a b (field m a FIRST) (field m a LAST) (field m b LAST))
