-- What is written by each function of a line is what the definitions say, case by case.
-- Assumes nothing.
use Rattle.std.proofs.Common.{◌≡◌, ◌∙◌, List, ◌++◌, ℕ, zero, suc, ◌+◌, ◌-◌, ◌≤◌, ◌<◌, add-one, arith, eq-eqb, ne_eqb, le-leb}
use Rattle.names.specs.Text.{text}
use Rattle.lent.specs.Mem.{PIECES, load, field, KIND}
use Rattle.dump.specs.Digits.{digits}
use Rattle.dump.specs.Line.{indent, text_number, name_of, space_of, further, text_of, node_of, level_of}
use Rattle.dump.specs.Written.{Grew}
use Rattle.dump.specs.declared.Cursor.{Cursor}
use Rattle.dump.specs.declared.page.Page.{Page}
use Rattle.dump.proofs.WrittenLaws.{grew_none}

module _ {a b : Page} where
  -- names
  pub name_host : (n : ℕ) → 512 ≤ n → Grew a b (text "?" ++ digits n) → Grew a b (name_of n)
  unfolding name_of
  name_host n h w = rw (le-leb 512 n h) w

  -- texts
  pub text_some : (p : List ℕ) (k : ℕ) → (k ≡ 0 → ⊥) → Grew a b (text_number (load PIECES p k 0) ++ further p 8191 (load PIECES p k 1)) → Grew a b (text_of p k)
  unfolding text_of
  text_some p k h w = rw (ne_eqb k 0 h) w

  -- levels
  pub margin_below : (c : Cursor) → (c.part ≡ 0 → ⊥) → Grew a b (indent c.level ++ text "  ") → Grew a b (indent (level_of c))
  unfolding level_of indent
  margin_below c h w = rw (ne_eqb c.part 0 h) w

  pub indent_next : (k : ℕ) → Grew a b (indent k ++ text "  ") → Grew a b (indent (k + 1))
  unfolding indent
  indent_next k w = rw add-one w

  -- pieces: one more, where there are some left and this is one
  pub further_step : (p : List ℕ) (k j : ℕ) → 0 < k → (j ≡ 0 → ⊥) → Grew a b (text " " ++ (text_number (load PIECES p j 0) ++ further p (k - 1) (load PIECES p j 1))) → Grew a b (further p k j)
  unfolding further
  further_step p zero j h n w = absurd (omega arith)
  further_step p (suc k) j h n w = let z : suc k - 1 ≡ k = omega arith in rw (ne_eqb j 0 n, ← z) w

module _ (a : Page) where
  -- where nothing is written
  pub space_html : (s : ℕ) → (s ≡ 2 → ⊥) → (s ≡ 1 → ⊥) → Grew a a (space_of s)
  unfolding space_of
  space_html s x y = rw (ne_eqb s 2 x, ne_eqb s 1 y) (grew_none a)

  pub text_none : (p : List ℕ) (k : ℕ) → k ≡ 0 → Grew a a (text_of p k)
  unfolding text_of
  text_none p k h = rw (eq-eqb k 0 h) (grew_none a)

  pub further_none : (p : List ℕ) (k j : ℕ) → j ≡ 0 → Grew a a (further p k j)
  unfolding further
  further_none p zero j h = grew_none a
  further_none p (suc k) j h = rw (eq-eqb j 0 h) (grew_none a)

  pub further_end : (p : List ℕ) (k j : ℕ) → k ≤ 0 → Grew a a (further p k j)
  unfolding further
  further_end p zero j h = grew_none a
  further_end p (suc k) j h = absurd (omega arith)

  pub node_other : (m p : List ℕ) (n : ℕ) {k : ℕ} → k ≡ field m n KIND → (k ≡ 2 → ⊥) → (k ≡ 3 → ⊥) → (k ≡ 4 → ⊥) → Grew a a (node_of m p n)
  unfolding node_of
  node_other m p n {k} q x y d =
      rw (ne_eqb (field m n KIND) 2 (λ z. x (q ∙ z)), ne_eqb (field m n KIND) 3 (λ z. y (q ∙ z)), ne_eqb (field m n KIND) 4 (λ z. d (q ∙ z))) (grew_none a)

pub indent_none : (a : Page) → Grew a a (indent 0)
unfolding indent
indent_none a = grew_none a
