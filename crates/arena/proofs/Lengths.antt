-- No operation changes how much is lent, and so how many nodes there can be.
-- Assumes nothing.
use Rattle.std.proofs.Common.{ℕ, zero, suc, ◌≡◌, refl, ◌∙◌, Bool, true, false, cond, List, length, eqb}
use Rattle.lent.specs.Mem.{NODES, slots, field, put_field, PARENT, PREV, NEXT, FIRST, LAST}
use Rattle.lent.proofs.Kit.{length_store, length_link}
use Rattle.arena.specs.Links.{appended, detached, unlinked, inserted, reparented, spliced, moved}

pub slots_same : (m m' : List ℕ) → length m' ≡ length m → slots NODES m' ≡ slots NODES m
unfolding slots
slots_same m m' e = rw e

pub length_appended : (m : List ℕ) (p x : ℕ) → length (appended m p x) ≡ length m
unfolding appended
length_appended m p x = simp (length_store, length_link)

pub length_inserted : (m : List ℕ) (s x : ℕ) → length (inserted m s x) ≡ length m
unfolding inserted
length_inserted m s x = simp (length_store, length_link)

pub length_detached : (m : List ℕ) (x : ℕ) → length (detached m x) ≡ length m
unfolding detached unlinked
length_detached m x = by (eqb (field m x PARENT) 0)
  where
    by : (b : Bool) → length (cond b m (unlinked m x (field m x PARENT) (field m x PREV) (field m x NEXT))) ≡ length m
    by true = refl
    by false = simp (length_store, length_link)

pub length_reparented : (m : List ℕ) (n p k : ℕ) → length (reparented m n p k) ≡ length m
unfolding reparented
length_reparented m n p zero = refl
length_reparented m n p (suc k) = by (eqb n 0) (length_reparented (put_field m n PARENT p) (field (put_field m n PARENT p) n NEXT) p k)
  where
    by : (b : Bool) → length (reparented (put_field m n PARENT p) (field (put_field m n PARENT p) n NEXT) p k) ≡ length (put_field m n PARENT p)
        → length (cond b m (reparented (put_field m n PARENT p) (field (put_field m n PARENT p) n NEXT) p k)) ≡ length m
    by true h = refl
    by false h = h ∙ length_store NODES m n PARENT p

pub length_moved : (m : List ℕ) (a b : ℕ) → length (moved m a b) ≡ length m
unfolding moved spliced
length_moved m a b = by (eqb (field m a FIRST) 0)
  where
    by : (t : Bool) → length (cond t m (spliced m a b (field m a FIRST) (field m a LAST) (field m b LAST))) ≡ length m
    by true = refl
    by false = simp (length_store, length_link, length_reparented)

pub slots_appended : (m : List ℕ) (p x : ℕ) → slots NODES (appended m p x) ≡ slots NODES m
slots_appended m p x = slots_same m (appended m p x) (length_appended m p x)

pub slots_inserted : (m : List ℕ) (s x : ℕ) → slots NODES (inserted m s x) ≡ slots NODES m
slots_inserted m s x = slots_same m (inserted m s x) (length_inserted m s x)

pub slots_detached : (m : List ℕ) (x : ℕ) → slots NODES (detached m x) ≡ slots NODES m
slots_detached m x = slots_same m (detached m x) (length_detached m x)

pub slots_moved : (m : List ℕ) (a b : ℕ) → slots NODES (moved m a b) ≡ slots NODES m
slots_moved m a b = slots_same m (moved m a b) (length_moved m a b)
