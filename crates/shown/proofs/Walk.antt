-- The walk by links goes through a tree of lists. The tree is given by `Sits`: what is right below a node stands there one beside the
-- other, and from the lines of a node alone the next line is that of the first below it, or else of what comes after it.
-- Assumes nothing.
use Rattle.std.proofs.Common.{ℕ, zero, suc, ◌+◌, ◌-◌, ◌≤◌, ◌<◌, ◌≡◌, refl, sym, ap, ◌∙◌, subst, ◌≢◌, inl, inr, cond, List, [], ◌∷◌, ◌++◌, arith, eqb, leb, ne_eqb}
use Rattle.theory.specs.Fn.{In}
use Rattle.theory.specs.Kids.{hd}
use Rattle.theory.specs.Natural.{Steps}
use Rattle.lent.specs.Mem.{field, up, KIND, TIE, CONTENTS}
use Rattle.kept.specs.Tree.{under}
use Rattle.dump.specs.declared.Cursor.{Cursor}
use Rattle.dump.specs.Order.{own_line, no_line, next_line, beside, line_beside}
use Rattle.dump.proofs.OrderLaws.{past_document, past_found, past_step}
use Rattle.shown.specs.Lines.{every}
use Rattle.shown.specs.Cursors.{content_line, cursors_here, cursors_of, Goes, none, more}

pub goes_join : {m : List ℕ} {c d e : Cursor} {xs ys : List Cursor} → Goes m c xs d → Goes m d ys e → Goes m c (xs ++ ys) e
goes_join none h = h
goes_join (more z g) h = more z (goes_join g h)

pub goes_on : {m : List ℕ} {c d e : Cursor} {cs : List Cursor} → c.node ≢ 0 → next_line m c ≡ d → Goes m d cs e → Goes m c (c ∷ cs) e
goes_on {m} {c} {d} {e} {cs} z q g = more z (subst (λ (x : Cursor). Goes m x cs e) (sym q) g)

-- ---- how deep a node is

-- node n is d steps below the document
pub data Deep (m : List ℕ) : ℕ → ℕ → Type 0 where
  top : {n : ℕ} → n ≡ 1 → Deep m 0 n
  below : {d n : ℕ} → 1 < n → Deep m d (up m n) → Deep m (suc d) n

pub deep_less : {m : List ℕ} {d n : ℕ} → Deep m d n → (k : ℕ) → Steps (up m) k n → d < k
deep_less (top e) zero s = absurd (omega arith)
deep_less (top e) (suc k) s = omega arith
deep_less (below g h) zero s = absurd (omega arith)
deep_less (below g h) (suc k) (inl e) = absurd (omega arith)
deep_less (below g h) (suc k) (inr s) = omega (arith, deep_less h k s)

-- as many steps up as it is deep are enough
pub enough : {m : List ℕ} {d n : ℕ} → Deep m d n → (k l : ℕ) → d ≤ k → line_beside m k n l ≡ line_beside m (suc k) n l
unfolding line_beside
enough {m} {d} {n} (top e) k l h = past_document m n k l (omega arith) ∙ sym (past_document m n (suc k) l (omega arith))
enough (below g t) zero l h = absurd (omega arith)
enough {m} {d} {n} (below g t) (suc k) l h =
    ap (λ (x : Cursor). cond (leb n 1) no_line (cond (eqb (beside m n) 0) x (own_line (beside m n) l))) (enough t k (l - 1) (omega arith))

-- ---- the first line of a node, and of those right below one

unfoldable pub head_line : List ℕ → ℕ → ℕ → Cursor
head_line m l n = cond (eqb (field m n KIND) CONTENTS) (content_line m l (field m n TIE)) (own_line n l)

pub head_plain : (m : List ℕ) (l n : ℕ) → field m n KIND ≢ CONTENTS → head_line m l n ≡ own_line n l
unfolding head_line
head_plain m l n d = rw (ne_eqb (field m n KIND) CONTENTS d)

-- the first line of ys, which are at level l, or e where there is none
abbrev pub start_line : List ℕ → ℕ → Cursor → List ℕ → Cursor
start_line m l e [] = e
start_line m l e (y ∷ ys) = head_line m l y

abbrev pub Plain : List ℕ → List ℕ → Type 0
Plain m [] = Unit {0}
Plain m (y ∷ ys) = field m y KIND ≢ CONTENTS

-- ys are right below p, one beside the other; only the first of them may be contents
abbrev pub Follow : List ℕ → ℕ → ℕ → List ℕ → Type 0
Follow m c p [] = Unit {0}
Follow m c p (y ∷ ys) = (1 < y) × (y ≤ c) × (up m y ≡ p) × (beside m y ≡ hd ys 0) × Plain m ys × Follow m c p ys

-- each of them is used, not the document, and right below p; where the first is not contents none is
pub follow_in : (m : List ℕ) (c p : ℕ) (ys : List ℕ) → Follow m c p ys → (y : ℕ) → In y ys → (1 < y) × (y ≤ c) × (up m y ≡ p)
follow_in m c p [] w y x'' = elim x'' [ ]
follow_in m c p (x ∷ xs) w y (inl e) = rw e (w.0, w.1, w.2)
follow_in m c p (x ∷ xs) w y (inr i) = follow_in m c p xs w.5 y i

pub follow_plain : (m : List ℕ) (c p : ℕ) (ys : List ℕ) → Plain m ys → Follow m c p ys → (y : ℕ) → In y ys → field m y KIND ≢ CONTENTS
follow_plain m c p [] a w y x3 = elim x3 [ ]
follow_plain m c p (x ∷ xs) a w y (inl e) = rw e a
follow_plain m c p (x ∷ xs) a w y (inr i) = follow_plain m c p xs w.4 w.5 y i

pub record Sits (m : List ℕ) (c : ℕ) : Type 0 where
  pub few : (n : ℕ) → n ≤ c → Steps (up m) 4096 n
  pub follows : (p : ℕ) → 0 < p → p ≤ c → Follow m c p (under m p)
  pub enters : (l n : ℕ) → 1 < n → n ≤ c → Deep m (suc l) n
      → Goes m (head_line m l n) (cursors_here m l n) (start_line m (suc l) (line_beside m 4096 n l) (under m n))

-- ---- the walk

module _ {m : List ℕ} {c : ℕ} (t : Sits m c) where
  shallow : {d n : ℕ} → n ≤ c → Deep m d n → d < 4096
  shallow {n = n} h g = deep_less g 4096 (t.few n h)

  -- after y, which is right below p: those that stand behind it, else what comes after p
  passes : (d p y : ℕ) (ys : List ℕ) → p ≤ c → Deep m d p → Follow m c p (y ∷ ys)
      → line_beside m 4096 y d ≡ start_line m d (line_beside m 4096 p (d - 1)) ys
  passes d p y [] h g w =
      past_step m y refl 4096 d (omega arith) w.0 w.3 (sym w.2) refl ∙ enough g 4095 (d - 1) (omega (arith, shallow h g))
  passes d p y (z ∷ zs) h g w =
      past_found m y (sym w.3) 4096 d (omega arith) w.0 (λ e. omega (arith, w.5.0)) ∙ sym (head_plain m d z w.4)

  -- all of ys, which are right below p
  pub goes_list : (k d p : ℕ) → p ≤ c → Deep m d p → (ys : List ℕ) → Follow m c p ys
      → ((y : ℕ) → 1 < y → y ≤ c → Deep m (suc d) y → Goes m (head_line m d y) (cursors_of m k d y) (line_beside m 4096 y d))
      → Goes m (start_line m d (line_beside m 4096 p (d - 1)) ys) (every (cursors_of m k d) ys) (line_beside m 4096 p (d - 1))
  unfolding every
  goes_list k d p h g [] w f = none
  goes_list k d p h g (y ∷ ys) w f =
      goes_join (f y w.0 w.1 (below w.0 (rw w.2 g)))
      (rw (passes d p y ys h g w) (goes_list k d p h g ys w.5 f))

  -- node n, at level l, and all that is below it
  pub goes_below : (k l n : ℕ) → 1 < n → n ≤ c → Deep m (suc l) n → k + l ≡ 4095 → Goes m (head_line m l n) (cursors_of m k l n) (line_beside m 4096 n l)
  unfolding cursors_of
  goes_below zero l n z h g e = absurd (omega (arith, shallow h g))
  goes_below (suc k) l n z h g e =
      let q : suc l - 1 ≡ l = omega arith in
      goes_join (t.enters l n z h g)
      (rw q at
      (goes_list k (suc l) n h g (under m n) (t.follows n (omega arith) h) (λ y a b r. goes_below k (suc l) y a b r (omega arith))))
