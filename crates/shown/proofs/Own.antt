-- The nodes whose own lines a dump shows are those of the tree in document order, but the contents of templates.
-- Assumes nothing.
use Rattle.std.proofs.Common.{ℕ, zero, suc, ◌+◌, ◌<◌, ◌≡◌, refl, sym, ap, ◌∙◌, ◌≢◌, inl, inr, ◌↔◌, Bool, true, false, cond, List, [], ◌∷◌, ◌++◌, arith, eqb, eq-eqb, ne_eqb}
use Rattle.std.proofs.Math.Decide.{ℕ_discrete}
use Rattle.theory.specs.Fn.{In}
use Rattle.theory.specs.Ord.{Out}
use Rattle.theory.specs.Pigeon.{Once}
use Rattle.lent.specs.Mem.{field, KIND, TIE, COUNT, CONTENTS}
use Rattle.kept.specs.Met.{each, down}
use Rattle.kept.specs.Tree.{under, in_order}
use Rattle.dump.specs.declared.Cursor.{Cursor}
use Rattle.dump.specs.Order.{own_line}
use Rattle.shown.specs.Lines.{every}
use Rattle.shown.specs.Cursors.{content_line, parts, cursors_here, cursors_of, tree_cursors, own_nodes, without_contents}

-- ---- lists

own_join : (xs ys : List Cursor) → own_nodes (xs ++ ys) ≡ own_nodes xs ++ own_nodes ys
unfolding own_nodes
own_join [] ys = refl
own_join (c ∷ xs) ys = by (eqb c.part 0) (own_join xs ys)
  where
    by : (b : Bool) → own_nodes (xs ++ ys) ≡ own_nodes xs ++ own_nodes ys
        → cond b (c.node ∷ own_nodes (xs ++ ys)) (own_nodes (xs ++ ys)) ≡ cond b (c.node ∷ own_nodes xs) (own_nodes xs) ++ own_nodes ys
    by true e = ap (λ (z : List ℕ). c.node ∷ z) e
    by false e = e

without_join : (m xs ys : List ℕ) → without_contents m (xs ++ ys) ≡ without_contents m xs ++ without_contents m ys
unfolding without_contents
without_join m [] ys = refl
without_join m (x ∷ xs) ys = by (eqb (field m x KIND) CONTENTS) (without_join m xs ys)
  where
    by : (b : Bool) → without_contents m (xs ++ ys) ≡ without_contents m xs ++ without_contents m ys
        → cond b (without_contents m (xs ++ ys)) (x ∷ without_contents m (xs ++ ys))
        ≡ cond b (without_contents m xs) (x ∷ without_contents m xs) ++ without_contents m ys
    by true e = e
    by false e = ap (λ (z : List ℕ). x ∷ z) e

own_every : (m : List ℕ) (f : ℕ → List Cursor) (g : ℕ → List ℕ) → ((y : ℕ) → own_nodes (f y) ≡ without_contents m (g y)) → (ys : List ℕ)
    → own_nodes (every f ys) ≡ without_contents m (each g ys)
unfolding every each own_nodes without_contents
own_every m f g h [] = refl
own_every m f g h (y ∷ ys) =
    own_join (f y) (every f ys) ∙ rw (h y, own_every m f g h ys) (sym (without_join m (g y) (each g ys)))

-- ---- the lines of a node

own_parts : (n l k i : ℕ) → 0 < i → own_nodes (parts n l i k) ≡ []
unfolding parts own_nodes
own_parts n l zero i z = refl
own_parts n l (suc k) i z = rw (ne_eqb i 0 (λ e. omega arith)) (own_parts n l k (i + 1) (omega arith))

own_here : (m : List ℕ) (l n : ℕ) → own_nodes (cursors_here m l n) ≡ without_contents m (n ∷ [])
unfolding cursors_here own_nodes without_contents
own_here m l n = by (eqb (field m n KIND) CONTENTS)
  where
    by : (b : Bool) → own_nodes (cond b (content_line m l (field m n TIE) ∷ []) (own_line n l ∷ parts n l 1 (field m n COUNT))) ≡ cond b [] (n ∷ [])
    by true = rw (ne_eqb (field m (field m n TIE) COUNT + 1) 0 (λ e. omega arith)) refl
    by false = ap (λ (z : List ℕ). n ∷ z) (own_parts n l (field m n COUNT) 1 (omega arith))

own_below : (m : List ℕ) (k l n : ℕ) → own_nodes (cursors_of m k l n) ≡ without_contents m (down (under m) k n)
unfolding cursors_of down own_nodes without_contents
own_below m zero l n = refl
own_below m (suc k) l n =
    own_join (cursors_here m l n) (every (cursors_of m k (suc l)) (under m n))
    ∙ rw (own_here m l n, own_every m (cursors_of m k (suc l)) (down (under m) k) (λ y. own_below m k (suc l) y) (under m n))
    (sym (without_join m (n ∷ []) (each (down (under m) k) (under m n))))

-- with the document in front, which has no line
pub own_tree : (m : List ℕ) → field m 1 KIND ≢ CONTENTS → 1 ∷ own_nodes (tree_cursors m) ≡ without_contents m (in_order m)
unfolding tree_cursors in_order down without_contents
own_tree m d =
    rw (ne_eqb (field m 1 KIND) CONTENTS d)
    (ap (λ (z : List ℕ). 1 ∷ z) (own_every m (cursors_of m 4095 0) (down (under m) 4095) (λ y. own_below m 4095 0 y) (under m 1)))

-- ---- each once

pub in_without : (m xs : List ℕ) (x : ℕ) → In x (without_contents m xs) ↔ (In x xs × (field m x KIND ≢ CONTENTS))
unfolding without_contents
in_without m [] x = (λ i. absurd i, λ t. absurd t.0)
in_without m (y ∷ ys) x = by (ℕ_discrete (field m y KIND) CONTENTS) (in_without m ys x)
  where
    by : Dec (field m y KIND ≡ CONTENTS) → In x (without_contents m ys) ↔ (In x ys × (field m x KIND ≢ CONTENTS))
        → In x (cond (eqb (field m y KIND) CONTENTS) (without_contents m ys) (y ∷ without_contents m ys)) ↔ (In x (y ∷ ys) × (field m x KIND ≢ CONTENTS))
    by (yes e) r = rw (eq-eqb (field m y KIND) CONTENTS e) (λ i. (inr (r.0 i).0, (r.0 i).1), λ t. back t.0 t.1)
      where
        back : In x (y ∷ ys) → field m x KIND ≢ CONTENTS → In x (without_contents m ys)
        back (inl q) d = absurd (d (rw q e))
        back (inr i) d = r.1 (i, d)
    by (no d) r = rw (ne_eqb (field m y KIND) CONTENTS d) (there, λ t. back t.0 t.1)
      where
        there : In x (y ∷ without_contents m ys) → In x (y ∷ ys) × (field m x KIND ≢ CONTENTS)
        there (inl q) = (inl q, rw q d)
        there (inr i) = (inr (r.0 i).0, (r.0 i).1)

        back : In x (y ∷ ys) → field m x KIND ≢ CONTENTS → In x (y ∷ without_contents m ys)
        back (inl q) g = inl q
        back (inr i) g = inr (r.1 (i, g))

out_without : (m xs : List ℕ) (x : ℕ) → Out x xs → Out x (without_contents m xs)
unfolding without_contents
out_without m [] x o = tt
out_without m (y ∷ ys) x o = by (eqb (field m y KIND) CONTENTS) (out_without m ys x o.1)
  where
    by : (b : Bool) → Out x (without_contents m ys) → Out x (cond b (without_contents m ys) (y ∷ without_contents m ys))
    by true r = r
    by false r = (o.0, r)

pub once_without : (m xs : List ℕ) → Once xs → Once (without_contents m xs)
unfolding without_contents
once_without m [] o = tt
once_without m (y ∷ ys) o = by (eqb (field m y KIND) CONTENTS) (once_without m ys o.1)
  where
    by : (b : Bool) → Once (without_contents m ys) → Once (cond b (without_contents m ys) (y ∷ without_contents m ys))
    by true r = r
    by false r = (out_without m ys y o.0, r)
