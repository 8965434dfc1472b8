-- Document order, case by case: the definitions' answers from the numbers that the code reads.
-- Assumes nothing.
use Rattle.std.proofs.Common.{◌≡◌, refl, sym, ◌∙◌, List, ℕ, zero, suc, ◌+◌, ◌-◌, ◌≤◌, ◌<◌, arith, eq-eqb, ne_eqb, le-leb, lt-ltb, le-ltb}
use Rattle.std.proofs.lemmas.Bool.{lt-leb}
use Rattle.lent.specs.Mem.{field, up, KIND, NEXT, FIRST, TIE, COUNT}
use Rattle.dump.specs.Order.{own_line, no_line, level_down, extra_lines, first_inside, beside, line_beside, line_inside, next_line}
use Rattle.dump.specs.declared.Cursor.{Cursor}

module _ (m : List ℕ) (n : ℕ) where
  -- what is above n, and what stands beside it
  module _ {k : ℕ} (q : k ≡ field m n KIND) where
    pub beside_contents : {t : ℕ} → k ≡ 5 → t ≡ field m n TIE → beside m n ≡ field m t FIRST
    unfolding beside
    beside_contents h t = rw (eq-eqb (field m n KIND) 5 (sym q ∙ h), ← t)

    pub beside_other : (k ≡ 5 → ⊥) → beside m n ≡ field m n NEXT
    unfolding beside
    beside_other h = rw (ne_eqb (field m n KIND) 5 (λ z. h (q ∙ z)))

  -- contents
  module _ {t : ℕ} (q : t ≡ field m n TIE) where
    pub inside_none : t ≡ 0 → first_inside m n ≡ 0
    unfolding first_inside
    inside_none h = rw (eq-eqb (field m n TIE) 0 (sym q ∙ h))

    pub inside_some : (t ≡ 0 → ⊥) → first_inside m n ≡ field m t FIRST
    unfolding first_inside
    inside_some h = rw (ne_eqb (field m n TIE) 0 (λ z. h (q ∙ z)), ← q)

    pub extra_plain : t ≡ 0 → extra_lines m n ≡ field m n COUNT
    unfolding extra_lines
    extra_plain h = rw (eq-eqb (field m n TIE) 0 (sym q ∙ h)) (omega arith)

    pub extra_contents : (t ≡ 0 → ⊥) → extra_lines m n ≡ field m n COUNT + 1
    unfolding extra_lines
    extra_contents h = rw (ne_eqb (field m n TIE) 0 (λ z. h (q ∙ z)))

  -- going up: no steps left, at the document, found, one step
  pub past_spent : (k l : ℕ) → k ≤ 0 → line_beside m k n l ≡ no_line
  unfolding line_beside
  past_spent zero l h = refl
  past_spent (suc k) l h = absurd (omega arith)

  pub past_document : (k l : ℕ) → n ≤ 1 → line_beside m k n l ≡ no_line
  unfolding line_beside
  past_document zero l h = refl
  past_document (suc k) l h = rw (le-leb n 1 h)

  module _ {s : ℕ} (q : s ≡ beside m n) where
    pub past_found : (k l : ℕ) → 0 < k → 1 < n → (s ≡ 0 → ⊥) → line_beside m k n l ≡ own_line s l
    unfolding line_beside
    past_found zero l h d f = absurd (omega arith)
    past_found (suc k) l h d f = rw (lt-leb n 1 d, ne_eqb (beside m n) 0 (λ z. f (q ∙ z)), ← q)

    pub past_step : (k l : ℕ) {u v : ℕ} → 0 < k → 1 < n → s ≡ 0 → u ≡ up m n → v ≡ l - 1 → line_beside m k n l ≡ line_beside m (k - 1) u v
    unfolding line_beside
    past_step zero l h d f a b = absurd (omega arith)
    past_step (suc k) l h d f a b =
        let z : suc k - 1 ≡ k = omega arith in
        rw (lt-leb n 1 d, eq-eqb (beside m n) 0 (sym q ∙ f), z, a, b)

  -- the line after a node's own ones
  module _ (l : ℕ) {i : ℕ} (q : i ≡ first_inside m n) where
    pub after_contents : {a b : ℕ} → (i ≡ 0 → ⊥) → a ≡ level_down l → b ≡ level_down a → line_inside m n l ≡ own_line i b
    unfolding line_inside
    after_contents h a b = rw (ne_eqb (first_inside m n) 0 (λ z. h (q ∙ z)), ← q, b, a)

    module _ (h : i ≡ 0) {f : ℕ} (p : f ≡ field m n FIRST) where
      pub after_child : {a : ℕ} → (f ≡ 0 → ⊥) → a ≡ level_down l → line_inside m n l ≡ own_line f a
      unfolding line_inside
      after_child g a = rw (eq-eqb (first_inside m n) 0 (sym q ∙ h), ne_eqb (field m n FIRST) 0 (λ z. g (p ∙ z)), ← p, a)

      pub after_leaf : f ≡ 0 → line_inside m n l ≡ line_beside m 4096 n l
      unfolding line_inside
      after_leaf g = rw (eq-eqb (first_inside m n) 0 (sym q ∙ h), eq-eqb (field m n FIRST) 0 (sym p ∙ g))

module _ (m : List ℕ) (c : Cursor) where
  module _ (h : c.node ≡ 0 → ⊥) {x : ℕ} (q : x ≡ extra_lines m c.node) where
    pub next_part : c.part < x → next_line m c ≡ record { node = c.node; level = c.level; part = c.part + 1 }
    unfolding next_line
    next_part l = rw (ne_eqb c.node 0 h, lt-ltb c.part (extra_lines m c.node) (rw q at l))

    pub next_inside : x ≤ c.part → next_line m c ≡ line_inside m c.node c.level
    unfolding next_line
    next_inside l = rw (ne_eqb c.node 0 h, le-ltb c.part (extra_lines m c.node) (rw q at l))
