-- The lines at the cursors of a tree are the bytes that document 01 gives for it.
-- Assumes nothing.
use Rattle.std.proofs.Common.{ℕ, zero, suc, ◌+◌, ◌-◌, ◌≤◌, ◌<◌, ◌≡◌, refl, ap, ◌∙◌, ◌⊎◌, inl, inr, List, [], ◌∷◌, map, arith, length, eq-eqb, ne_eqb, le-leb, Option}
use Rattle.std.proofs.lemmas.List.{map-append}
use Rattle.std.proofs.lemmas.Bool.{lt-leb}
use Rattle.names.specs.Text.{text}
use Rattle.theory.specs.Fn.{In}
use Rattle.lent.specs.Mem.{field, KIND, TIE, START, COUNT, ELEMENT, TEXT, COMMENT, CONTENTS}
use Rattle.state.specs.declared.Context.{Context}
use Rattle.sound.specs.Sound.{Sound}
use Rattle.kept.specs.Tree.{under}
use Rattle.dump.specs.declared.Cursor.{Cursor}
use Rattle.dump.specs.Line.{node_of, pair_of, part_of, level_of, line_of}
use Rattle.dump.specs.Order.{own_line}
use Rattle.shown.specs.Lines.{every, line_at, attribute_lines, lines_here, lines_of}
use Rattle.shown.specs.Cursors.{part_line, parts, cursors_here, cursors_of, Goes, none, more, dumped}
use Rattle.shown.proofs.Walk.{follow_in}
use Rattle.shown.proofs.Linked.{thing, follows}

-- ---- lists

module _ {A B : Type 0} (g : A → B) where
  pub map_every : (f : ℕ → List A) (h : ℕ → List B) (ys : List ℕ) → ((y : ℕ) → In y ys → map g (f y) ≡ h y) → map g (every f ys) ≡ every h ys
  unfolding every
  map_every f h [] e = refl
  map_every f h (y ∷ ys) e = map-append g (f y) (every f ys) ∙ rw (e y (inl refl), map_every f h ys (λ x i. e x (inr i))) refl

-- ---- single lines

module _ (m p q : List ℕ) where
  line_own : (n l : ℕ) → line_of m p q (own_line n l) ≡ line_at l (node_of m p n)
  unfolding line_of level_of part_of
  line_own n l = refl

  line_pair : (n l i : ℕ) → 0 < i → i ≤ field m n COUNT → line_of m p q (part_line n l i) ≡ line_at (suc l) (pair_of q (field m n START + (i - 1)))
  unfolding line_of level_of part_of
  line_pair n l i z h = rw (ne_eqb i 0 (λ e. omega arith), le-leb i (field m n COUNT) h) refl

  line_content : (n l : ℕ) → line_of m p q (part_line n l (field m n COUNT + 1)) ≡ line_at (suc l) (text "content")
  unfolding line_of level_of part_of
  line_content n l =
      rw (ne_eqb (field m n COUNT + 1) 0 (λ e. omega arith), lt-leb (field m n COUNT + 1) (field m n COUNT) (omega arith)) refl

  lines_pairs : (n l k i : ℕ) → 0 < i → i + k ≡ field m n COUNT + 1
      → map (line_of m p q) (parts n l i k) ≡ attribute_lines q (suc l) (field m n START + (i - 1)) k
  unfolding parts attribute_lines
  lines_pairs n l zero i z e = refl
  lines_pairs n l (suc k) i z e =
      let a : field m n START + (i + 1 - 1) ≡ suc (field m n START + (i - 1)) = omega arith in
      rw (line_pair n l i z (omega arith), ← a)
      (ap (λ (x : List (List ℕ)). line_at (suc l) (pair_of q (field m n START + (i - 1))) ∷ x) (lines_pairs n l k (i + 1) (omega arith) (omega arith)))

  -- ---- the lines of a node, by kind

  module _ (l n : ℕ) where
    here_element : field m n KIND ≡ ELEMENT → map (line_of m p q) (cursors_here m l n) ≡ lines_here m p q l n
    unfolding cursors_here lines_here node_of
    here_element e =
        let a : field m n START + (1 - 1) ≡ field m n START = omega arith in
        rw (e, line_own n l, lines_pairs n l (field m n COUNT) 1 (omega arith) (omega arith)) (rw (e, a) refl)

    here_text : field m n KIND ≡ TEXT → field m n COUNT ≡ 0 → map (line_of m p q) (cursors_here m l n) ≡ lines_here m p q l n
    unfolding cursors_here lines_here node_of parts
    here_text e c = rw (e, c, line_own n l) (rw e refl)

    here_comment : field m n KIND ≡ COMMENT → field m n COUNT ≡ 0 → map (line_of m p q) (cursors_here m l n) ≡ lines_here m p q l n
    unfolding cursors_here lines_here node_of parts
    here_comment e c = rw (e, c, line_own n l) (rw e refl)

    here_contents : field m n KIND ≡ CONTENTS → 0 < l → map (line_of m p q) (cursors_here m l n) ≡ lines_here m p q l n
    unfolding cursors_here lines_here
    here_contents e z =
        let a : suc (l - 1) ≡ l = omega arith in
        rw (e, line_content (field m n TIE) (l - 1), a) refl

-- ---- the lines of a tree

module _ {m ps qs stk fmt tms : List ℕ} {c v u size k s foster head : ℕ} {ctx : Option Context} (o : Sound m ps qs stk fmt tms c v u size k s foster head ctx) where
  module _ (p q : List ℕ) where
    lines_here_lem : (l n : ℕ) → 1 < n → n ≤ c → (field m n KIND ≡ CONTENTS → 0 < l) → map (line_of m p q) (cursors_here m l n) ≡ lines_here m p q l n
    lines_here_lem l n z h d = by (thing o n z h).known
      where
        by : (field m n KIND ≡ ELEMENT) ⊎ ((field m n KIND ≡ TEXT) ⊎ ((field m n KIND ≡ COMMENT) ⊎ (field m n KIND ≡ CONTENTS)))
            → map (line_of m p q) (cursors_here m l n) ≡ lines_here m p q l n
        by (inl e) = here_element m p q l n e
        by (inr (inl e)) = here_text m p q l n e ((thing o n z h).bare (omega (arith, e)))
        by (inr (inr (inl e))) = here_comment m p q l n e ((thing o n z h).bare (omega (arith, e)))
        by (inr (inr (inr e))) = here_contents m p q l n e (d e)

    pub lines_below : (k l n : ℕ) → 1 < n → n ≤ c → (field m n KIND ≡ CONTENTS → 0 < l) → map (line_of m p q) (cursors_of m k l n) ≡ lines_of m p q k l n
    unfolding cursors_of lines_of
    lines_below zero l n z h d = refl
    lines_below (suc k) l n z h d =
        map-append (line_of m p q) (cursors_here m l n) (every (cursors_of m k (suc l)) (under m n))
        ∙ rw (
          lines_here_lem l n z h d,
          map_every (line_of m p q) (cursors_of m k (suc l)) (lines_of m p q k (suc l)) (under m n)
              (λ y i. let a = follow_in m c n (under m n) (follows o n (omega arith) h) y i in lines_below k (suc l) y a.0 a.1 (λ e. omega arith)),
        )
        refl

-- ---- a dump shows the lines that it goes through

pub dumped_goes : {m : List ℕ} (p q : List ℕ) {c e : Cursor} {cs : List Cursor} → Goes m c cs e → e.node ≡ 0 → (k : ℕ) → length cs ≤ k
    → dumped m p q k c ≡ map (line_of m p q) cs
unfolding dumped
dumped_goes p q none z zero h = refl
dumped_goes p q {c = c} none z (suc k) h = rw (eq-eqb c.node 0 z) refl
dumped_goes p q (more d g) z zero h = absurd (omega arith)
dumped_goes {m} p q {c = c} (more d g) z (suc k) h =
    rw (ne_eqb c.node 0 d) (ap (λ (x : List (List ℕ)). line_of m p q c ∷ x) (dumped_goes p q g z k (omega arith)))
