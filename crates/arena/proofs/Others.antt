-- What the operations on links do not touch: append, insert before, detach and move change no other field of any node.
-- Assumes nothing.
use Rattle.std.proofs.Common.{ℕ, ◌≡◌, refl, Bool, true, false, cond, List, eqb, ltb}
use Rattle.lent.specs.Mem.{field, PARENT, PREV, NEXT, FIRST, LAST}
use Rattle.lent.proofs.Kit.{links}
use Rattle.arena.specs.Links.{appended, detached, unlinked, inserted, spliced, moved}
use Rattle.arena.proofs.Stores.{reparented_field}

-- a field that is no link to a parent, sibling or child
pub record NoLink (f : ℕ) : Type 0 where
  pub below : ltb f 16 ≡ true
  pub parent : eqb PARENT f ≡ false
  pub prev : eqb PREV f ≡ false
  pub next : eqb NEXT f ≡ false
  pub first : eqb FIRST f ≡ false
  pub last : eqb LAST f ≡ false

module _ (m : List ℕ) (k f : ℕ) (h : NoLink f) where
  pub appended_field : (p x : ℕ) → field (appended m p x) k f ≡ field m k f
  unfolding appended
  appended_field p x = simp (links, h.below, h.parent, h.prev, h.next, h.first, h.last)

  pub inserted_field : (s x : ℕ) → field (inserted m s x) k f ≡ field m k f
  unfolding inserted
  inserted_field s x = simp (links, h.below, h.parent, h.prev, h.next, h.first, h.last)

  pub detached_field : (x : ℕ) → field (detached m x) k f ≡ field m k f
  unfolding detached unlinked
  detached_field x = by (eqb (field m x PARENT) 0)
    where
      by : (b : Bool) → field (cond b m (unlinked m x (field m x PARENT) (field m x PREV) (field m x NEXT))) k f ≡ field m k f
      by true = refl
      by false = simp (links, h.below, h.parent, h.prev, h.next, h.first, h.last)

  pub moved_field : (a b : ℕ) → field (moved m a b) k f ≡ field m k f
  unfolding moved spliced
  moved_field a b = by (eqb (field m a FIRST) 0)
    where
      by : (t : Bool) → field (cond t m (spliced m a b (field m a FIRST) (field m a LAST) (field m b LAST))) k f ≡ field m k f
      by true = refl
      by false = simp (links, reparented_field, h.below, h.parent, h.prev, h.next, h.first, h.last)
