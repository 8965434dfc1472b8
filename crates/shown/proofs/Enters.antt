-- From the lines of a node alone the next line is that of the first node below it, or else of what comes after it: for each kind of
-- node, in a sound state.
-- Assumes nothing.
use Rattle.std.proofs.Common.{ℕ, zero, suc, ◌+◌, ◌-◌, ◌≤◌, ◌<◌, ◌≡◌, refl, sym, ap, ◌∙◌, ◌≢◌, Bool, true, false, List, [], ◌∷◌, arith, eq-eqb, ne_eqb, Option}
use Rattle.std.proofs.Math.Decide.{ℕ_discrete}
use Rattle.names.specs.Tag as tag
use Rattle.theory.specs.Kids.{hd}
use Rattle.lent.specs.Mem.{field, up, KIND, FIRST, TIE, COUNT, CONTENTS}
use Rattle.lent.specs.Tree.{children}
use Rattle.arena.proofs.Ancestors.{up_tie}
use Rattle.nodes.specs.Nodes.{Partner}
use Rattle.state.specs.declared.Context.{Context}
use Rattle.sound.specs.Sound.{Sound}
use Rattle.standard.specs.Html.{is_html}
use Rattle.kept.specs.Usual.{is_html_lem}
use Rattle.kept.specs.Tree.{under}
use Rattle.dump.specs.Order.{own_line, level_down, next_line, extra_lines, first_inside, beside, line_beside, line_inside}
use Rattle.dump.proofs.OrderLaws.{beside_contents, inside_none, inside_some, extra_plain, extra_contents, past_found, past_step, after_contents, after_child, after_leaf, next_part, next_inside}
use Rattle.shown.specs.Cursors.{part_line, content_line, parts, cursors_here, Goes, none}
use Rattle.shown.proofs.Walk.{Deep, top, below, enough, head_line, head_plain, start_line, Plain, Follow, Sits, goes_on}
use Rattle.shown.proofs.Linked.{under_template, under_other, first, contents, untied, follow_kids, follows, steps, shallow}

-- the line of contents, and of any other node
here_contents : (m : List ℕ) (l n : ℕ) → field m n KIND ≡ CONTENTS → cursors_here m l n ≡ content_line m l (field m n TIE) ∷ []
unfolding cursors_here
here_contents m l n e = rw (eq-eqb (field m n KIND) CONTENTS e)

here_plain : (m : List ℕ) (l n : ℕ) → field m n KIND ≢ CONTENTS → cursors_here m l n ≡ own_line n l ∷ parts n l 1 (field m n COUNT)
unfolding cursors_here
here_plain m l n d = rw (ne_eqb (field m n KIND) CONTENTS d)

head_contents : (m : List ℕ) (l n : ℕ) → field m n KIND ≡ CONTENTS → head_line m l n ≡ content_line m l (field m n TIE)
unfolding head_line
head_contents m l n e = rw (eq-eqb (field m n KIND) CONTENTS e)

-- the attributes of n come one after the other
goes_parts : (m : List ℕ) (n l : ℕ) → n ≢ 0 → (k i : ℕ) → i + k ≡ field m n COUNT
    → Goes m (part_line n l i) (part_line n l i ∷ parts n l (i + 1) k) (next_line m (part_line n l (field m n COUNT)))
unfolding parts
goes_parts m n l z zero i e =
    let q : i ≡ field m n COUNT = omega arith in
    goes_on z (ap (λ (x : ℕ). next_line m (part_line n l x)) q) none
goes_parts m n l z (suc k) i e =
    goes_on z (next_part m (part_line n l i) z refl (more_parts m n i (omega arith))) (goes_parts m n l z k (i + 1) (omega arith))
  where
    more_parts : (m : List ℕ) (n i : ℕ) → i < field m n COUNT → i < extra_lines m n
    more_parts m n i h = by (ℕ_discrete (field m n TIE) 0)
      where
        by : Dec (field m n TIE ≡ 0) → i < extra_lines m n
        by (yes d) = rw (extra_plain m n refl d) h
        by (no d) = rw (extra_contents m n refl d) (omega arith)

down_one : (l : ℕ) → l < 4096 → level_down l ≡ suc l
unfolding level_down
down_one l h = omega arith

module _ {m ps qs stk fmt tms : List ℕ} {c v u size k s foster head : ℕ} {ctx : Option Context} (o : Sound m ps qs stk fmt tms c v u size k s foster head ctx) where
  -- from the attributes of a template to the line of its contents
  into_template : (l n : ℕ) → 1 < n → n ≤ c → is_html m n tag.template ≡ true
      → next_line m (part_line n l (field m n COUNT)) ≡ head_line m (suc l) (field m n TIE)
  into_template l n z h e =
      let t = contents o n (omega arith) h e in
      let q : suc l - 1 ≡ l = omega arith in
      let some : field m n TIE ≢ 0 = omega (arith, t.0) in
      let x : field m n COUNT < extra_lines m n = rw (extra_contents m n refl some) (omega arith) in
      next_part m (part_line n l (field m n COUNT)) (λ d. omega arith) refl x
      ∙ rw (head_contents m (suc l) (field m n TIE) t.3, t.2, q) refl

  -- from the lines of any other node, but contents, to its children
  into_other : (l n : ℕ) → 1 < n → n ≤ c → Deep m (suc l) n → field m n TIE ≡ 0
      → next_line m (part_line n l (field m n COUNT))
      ≡ start_line m (suc l) (line_beside m 4096 n l) (children m n)
  into_other l n z h g e =
      next_inside m (part_line n l (field m n COUNT)) (λ d. omega arith) refl
      (rw (extra_plain m n refl e) (omega arith))
      ∙ by (children m n) (first o n (omega arith) h) (follow_kids o n (omega arith) h).0 (follow_kids o n (omega arith) h).1
    where
      inside : 0 ≡ first_inside m n
      inside = sym (inside_none m n refl e)

      by : (xs : List ℕ) → field m n FIRST ≡ hd xs 0 → Plain m xs → Follow m c n xs
          → line_inside m n l ≡ start_line m (suc l) (line_beside m 4096 n l) xs
      by [] a b w = after_leaf m n l inside refl refl a
      by (x ∷ xs) a b w =
          after_child m n l inside refl (sym a) (λ d. omega (arith, w.0)) (sym (down_one l (omega (arith, shallow o h g))))
          ∙ sym (head_plain m (suc l) x b)

  -- from the line of contents to their children, else to what comes after them, the children of their template
  module _ (j n : ℕ) (z : 1 < n) (h : n ≤ c) (e : field m n KIND ≡ CONTENTS)
      (g : Deep m (suc j) (field m n TIE)) where
    tie : Partner m c n
    tie = ((o.tree.kinds.kind n (omega arith) h).contents e).partner

    low : j < 4096
    low = omega (arith, shallow o tie.used g)

    inside : field m n FIRST ≡ first_inside m (field m n TIE)
    inside = sym (inside_some m (field m n TIE) (sym tie.back) (λ d. omega arith))

    next_to : field m (field m n TIE) FIRST ≡ beside m n
    next_to = sym (beside_contents m n refl e refl)

    past_empty : field m n FIRST ≡ 0 → Dec (field m (field m n TIE) FIRST ≡ 0)
        → line_inside m (field m n TIE) j ≡ line_beside m 4096 n (suc j)
    past_empty a (yes d) =
        let q : j ≡ suc j - 1 = omega arith in
        after_leaf m (field m n TIE) j inside a refl d
        ∙ sym
        (past_step m n next_to 4096 (suc j) (omega arith) z d (sym (up_tie m n e)) q
        ∙ enough g 4095 j (omega (arith, shallow o tie.used g)))
    past_empty a (no d) =
        after_child m (field m n TIE) j inside a refl d (sym (down_one j low))
        ∙ sym (past_found m n next_to 4096 (suc j) (omega arith) z d)

    into_contents : next_line m (content_line m (suc j) (field m n TIE))
        ≡ start_line m (suc (suc j)) (line_beside m 4096 n (suc j)) (children m n)
    into_contents =
        let q : suc j - 1 ≡ j = omega arith in
        let some : field m (field m n TIE) TIE ≢ 0 = omega (arith, tie.back) in
        rw q
        (next_inside m (part_line (field m n TIE) j (field m (field m n TIE) COUNT + 1)) tie.some refl
        (rw (extra_contents m (field m n TIE) refl some) (omega arith))
        ∙ by (children m n) (first o n (omega arith) h) (follow_kids o n (omega arith) h).0 (follow_kids o n (omega arith) h).1)
      where
        by : (xs : List ℕ) → field m n FIRST ≡ hd xs 0 → Plain m xs → Follow m c n xs
            → line_inside m (field m n TIE) j
            ≡ start_line m (suc (suc j)) (line_beside m 4096 n (suc j)) xs
        by [] a b w = past_empty a (ℕ_discrete (field m (field m n TIE) FIRST) 0)
        by (x ∷ xs) a b w =
            after_contents m (field m n TIE) j (sym a ∙ inside) (λ d. omega (arith, w.0)) (sym (down_one j low))
            (sym (down_one (suc j) (omega (arith, shallow o tie.used g))))
            ∙ sym (head_plain m (suc (suc j)) x b)

  -- the template above contents is not the document
  enter_contents : (l n : ℕ) → 1 < n → n ≤ c → field m n KIND ≡ CONTENTS → Deep m l (up m n)
      → Goes m (head_line m l n) (cursors_here m l n)
      (start_line m (suc l) (line_beside m 4096 n l) (under m n))
  enter_contents zero n z h e (top d) =
      let k = ((o.tree.kinds.kind n (omega arith) h).contents e).host.kind in
      let a : field m n TIE ≡ 1 = sym (up_tie m n e) ∙ d in
      absurd (omega (arith, rw a at k, o.tree.top.document))
  enter_contents (suc j) n z h e g =
      let t = ((o.tree.kinds.kind n (omega arith) h).contents e).partner in
      rw (
        head_contents m (suc j) n e,
        here_contents m (suc j) n e,
        under_other m n (no_template (is_html m n tag.template) refl),
      )
      (goes_on t.some (into_contents j n z h e (rw (up_tie m n e) at g)) none)
    where
      no_template : (b : Bool) → is_html m n tag.template ≡ b → is_html m n tag.template ≡ false
      no_template true d = absurd (omega (arith, e, (is_html_lem m n tag.template d).kind))
      no_template false d = d

  enters : (l n : ℕ) → 1 < n → n ≤ c → Deep m (suc l) n
      → Goes m (head_line m l n) (cursors_here m l n)
      (start_line m (suc l) (line_beside m 4096 n l) (under m n))
  enters l n z h (below a g) = by (ℕ_discrete (field m n KIND) CONTENTS)
    where
      inside : (b : Bool) → is_html m n tag.template ≡ b → field m n KIND ≢ CONTENTS
          → next_line m (part_line n l (field m n COUNT))
          ≡ start_line m (suc l) (line_beside m 4096 n l) (under m n)
      inside true e d = rw (under_template m n e) (into_template l n z h e)
      inside false e d = rw (under_other m n e) (into_other l n z h (below a g) (untied o n z h e d))

      by : Dec (field m n KIND ≡ CONTENTS)
          → Goes m (head_line m l n) (cursors_here m l n)
          (start_line m (suc l) (line_beside m 4096 n l) (under m n))
      by (yes e) = enter_contents l n z h e g
      by (no d) =
          rw (
            head_plain m l n d,
            here_plain m l n d,
            ← inside (is_html m n tag.template) refl d,
          )
          (goes_parts m n l (λ q. omega arith) (field m n COUNT) 0 (omega arith))

  -- the tree of a sound state
  pub sits : Sits m c
  sits = record { few = steps o; follows = follows o; enters = enters }
