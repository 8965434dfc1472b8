-- What a dump of a sound state shows, for a reader to quote: the lines of document 01, all of them, in document order, and no other. It
-- ends, after 17 lines for each node at most, and each line fits in 65,536 bytes. Each node that is in the document, but the document
-- and contents, has its own line once.
-- Assumes nothing.
use Rattle.std.proofs.Common.{ℕ, ◌-◌, ◌*◌, ◌≤◌, ◌<◌, ◌≡◌, refl, sym, ◌∙◌, subst, ◌≢◌, inl, inr, ◌↔◌, Bool, true, false, List, [], ◌∷◌, map, arith, length, Option}
use Rattle.std.proofs.Math.ListN.{length-map}
use Rattle.names.specs.Tag as tag
use Rattle.theory.specs.Fn.{In}
use Rattle.theory.specs.Anc.{Reach}
use Rattle.theory.specs.Ord.{Out}
use Rattle.theory.specs.Kids.{hd}
use Rattle.theory.specs.Pigeon.{Once, pigeon}
use Rattle.lent.specs.Mem.{field, up, KIND, FIRST, CONTENTS}
use Rattle.lent.specs.Tree.{children}
use Rattle.state.specs.Full.{Full}
use Rattle.state.specs.declared.Context.{Context}
use Rattle.sound.specs.Sound.{Sound}
use Rattle.sound.specs.State.{SoundFull}
use Rattle.standard.specs.Html.{is_html}
use Rattle.kept.specs.Usual.{is_html_lem}
use Rattle.kept.specs.Met.{each, down}
use Rattle.kept.specs.Tree.{under, in_order, met_once}
use Rattle.dump.specs.Line.{line_of}
use Rattle.dump.specs.Order.{no_line, first_line, line_beside}
use Rattle.dump.proofs.OrderLaws.{past_document}
use Rattle.shown.specs.Lines.{every, lines_of, tree_lines, lines_in, Fit}
use Rattle.shown.specs.Cursors.{cursors_of, tree_cursors, Goes, dump_of, own_nodes, without_contents}
use Rattle.shown.proofs.Walk.{top, below, head_plain, start_line, Plain, follow_in, follow_plain, goes_list, goes_below}
use Rattle.shown.proofs.Linked.{under_other, first, follow_kids, follows}
use Rattle.shown.proofs.Enters.{sits}
use Rattle.shown.proofs.Bytes.{map_every, lines_below, dumped_goes}
use Rattle.shown.proofs.Bounds.{few_every, within_all, few_below, low_every, low_below, fit_map, every_same, deep_enough}
use Rattle.shown.proofs.Own.{own_tree, in_without, once_without}

out_not : (x y : ℕ) (xs : List ℕ) → Out x xs → In y xs → y ≢ x
out_not x y [] o x3 = elim x3 [ ]
out_not x y (z ∷ xs) o (inl e) = rw e o.0
out_not x y (z ∷ xs) o (inr i) = out_not x y xs o.1 i

-- ---- from the document down

module _ {m ps qs stk fmt tms : List ℕ} {c v u size k s foster head : ℕ} {ctx : Option Context} (o : Sound m ps qs stk fmt tms c v u size k s foster head ctx) where
  used : 1 ≤ c
  used = omega (arith, o.tree.top.two)

  -- what is right below the document are its children
  top_is : under m 1 ≡ children m 1
  top_is = under_other m 1 (by (is_html m 1 tag.template) refl)
    where
      by : (b : Bool) → is_html m 1 tag.template ≡ b → is_html m 1 tag.template ≡ false
      by true e = absurd (omega (arith, (is_html_lem m 1 tag.template e).kind, o.tree.top.document))
      by false e = e

  first_is : first_line m ≡ start_line m 0 no_line (under m 1)
  unfolding first_line
  first_is = rw top_is (by (children m 1) (first o 1 (omega arith) used) (follow_kids o 1 (omega arith) used).0)
    where
      by : (xs : List ℕ) → field m 1 FIRST ≡ hd xs 0 → Plain m xs → first_line m ≡ start_line m 0 no_line xs
      by [] e a = rw e refl
      by (x ∷ xs) e a = rw e (sym (head_plain m 0 x a))

  all_met : Goes m (first_line m) (tree_cursors m) no_line
  unfolding tree_cursors
  all_met =
      let e : line_beside m 4096 1 (0 - 1) ≡ no_line = past_document m 1 4096 (0 - 1) (omega arith) in
      rw first_is
      (rw e at
      (goes_list (sits o) 4095 0 1 used (top refl) (under m 1) (follows o 1 (omega arith) used)
      (λ y a b g. goes_below (sits o) 4095 0 y a b g (omega arith))))

  all_lines : (p q : List ℕ) → map (line_of m p q) (tree_cursors m) ≡ tree_lines m p q
  unfolding tree_cursors tree_lines
  all_lines p q =
      rw top_is
      (map_every (line_of m p q) (cursors_of m 4095 0) (lines_of m p q 4095 0) (children m 1)
      (λ y i.
      let w = follow_kids o 1 (omega arith) used in
      let t = follow_in m c 1 (children m 1) w.1 y i in
      lines_below o p q 4095 0 y t.0 t.1 (λ e. absurd (follow_plain m c 1 (children m 1) w.0 w.1 y i e))))

  few_cursors : length (in_order m) ≤ c → length (tree_cursors m) ≤ 17 * c
  unfolding tree_cursors in_order down
  few_cursors n =
      let w : length (every (cursors_of m 4095 0) (under m 1)) ≤ 17 * length (each (down (under m) 4095) (under m 1)) =
      few_every (cursors_of m 4095 0) (down (under m) 4095) (under m 1)
      (λ y i. let t = follow_in m c 1 (under m 1) (follows o 1 (omega arith) used) y i in few_below o 4095 0 y t.0 t.1)
      in
      omega arith

  all_fit : (p q : List ℕ) → Fit (map (line_of m p q) (tree_cursors m))
  unfolding tree_cursors
  all_fit p q = fit_map m p q (every (cursors_of m 4095 0) (under m 1)) (low_every (cursors_of m 4095 0) (λ y. low_below m 4095 0 y (omega arith)) (under m 1))

  any_depth : (p q : List ℕ) (j : ℕ) → 4095 ≤ j → every (lines_of m p q j 0) (under m 1) ≡ tree_lines m p q
  unfolding tree_lines
  any_depth p q j h =
      every_same (lines_of m p q j 0) (lines_of m p q 4095 0) (under m 1)
      (λ y i.
      let t = follow_in m c 1 (under m 1) (follows o 1 (omega arith) used) y i in
      deep_enough o p q j 4095 0 y t.0 t.1 (below t.0 (top t.2)) (omega arith) (omega arith))

module _ (f : Full) (ok : SoundFull f) where
  -- ---- the lines

  -- from the first line on, `next_line` goes through the lines of the tree, one after the other, and then there is none
  pub goes_through : Goes f.nodes.mem (first_line f.nodes.mem) (tree_cursors f.nodes.mem) no_line
  goes_through = all_met ok.sound

  -- at those cursors are the lines of document 01
  pub lines_are : map (line_of f.nodes.mem f.pieces.mem f.pairs.mem) (tree_cursors f.nodes.mem) ≡ lines_in f
  lines_are = all_lines ok.sound f.pieces.mem f.pairs.mem

  same_length : length (lines_in f) ≡ length (tree_cursors f.nodes.mem)
  same_length =
      rw (sym lines_are) (length-map (tree_cursors f.nodes.mem) (line_of f.nodes.mem f.pieces.mem f.pairs.mem))

  -- so a dump that may have as many lines shows these and ends
  pub dump_in_order : (k : ℕ) → length (lines_in f) ≤ k → dump_of f k ≡ lines_in f
  dump_in_order k h = dumped_goes f.pieces.mem f.pairs.mem goes_through refl k (omega (arith, same_length)) ∙ lines_are

  pub few_lines : length (lines_in f) ≤ 17 * f.nodes.used
  few_lines =
      let o = met_once f ok in
      omega (
        arith,
        same_length,
        few_cursors ok.sound
            (pigeon f.nodes.used (in_order f.nodes.mem) o.0
            (within_all f.nodes.used (in_order f.nodes.mem) (λ x i. let t = (o.1 x).0 i in (t.0, t.1)))),
      )

  pub lines_fit : Fit (lines_in f)
  lines_fit = rw lines_are at (all_fit ok.sound f.pieces.mem f.pairs.mem)

  -- the tree is not cut: going down further gives the same lines
  pub not_cut : (k : ℕ) → 4095 ≤ k → every (lines_of f.nodes.mem f.pieces.mem f.pairs.mem k 0) (under f.nodes.mem 1) ≡ lines_in f
  not_cut k h = any_depth ok.sound f.pieces.mem f.pairs.mem k h

  -- ---- each node once

  -- own lines come in document order: with the document in front, which has none, their nodes are those of `in_order` but contents
  pub own_in_order : 1 ∷ own_nodes (tree_cursors f.nodes.mem) ≡ without_contents f.nodes.mem (in_order f.nodes.mem)
  own_in_order = own_tree f.nodes.mem (omega (arith, ok.sound.tree.top.document))

  -- each node that is in the document, but the document and contents, has its own line exactly once, and nothing else has one
  pub shown_once : Once (own_nodes (tree_cursors f.nodes.mem))
      × ((x : ℕ) → In x (own_nodes (tree_cursors f.nodes.mem))
      ↔ ((1 < x) × (x ≤ f.nodes.used) × Reach (up f.nodes.mem) 1 x × (field f.nodes.mem x KIND ≢ CONTENTS)))
  shown_once =
      let o = met_once f ok in
      let w = rw (sym own_in_order) at (once_without f.nodes.mem (in_order f.nodes.mem) o.0) in
      (w.1, λ x. (λ i. there x w.0 i, λ t. back x t))
    where
      there : (x : ℕ) → Out 1 (own_nodes (tree_cursors f.nodes.mem)) → In x (own_nodes (tree_cursors f.nodes.mem))
          → (1 < x) × (x ≤ f.nodes.used) × Reach (up f.nodes.mem) 1 x × (field f.nodes.mem x KIND ≢ CONTENTS)
      there x d i =
          let g = (in_without f.nodes.mem (in_order f.nodes.mem) x).0 (subst (λ (xs : List ℕ). In x xs) own_in_order (inr i)) in
          let t = ((met_once f ok).1 x).0 g.0 in
          let n = out_not 1 x (own_nodes (tree_cursors f.nodes.mem)) d i in
          (omega (arith, t.0, n), t.1, t.2, g.1)

      back : (x : ℕ) → (1 < x) × (x ≤ f.nodes.used) × Reach (up f.nodes.mem) 1 x × (field f.nodes.mem x KIND ≢ CONTENTS)
          → In x (own_nodes (tree_cursors f.nodes.mem))
      back x t =
          by
          (rw (sym own_in_order) at
          ((in_without f.nodes.mem (in_order f.nodes.mem) x).1 (((met_once f ok).1 x).1 (omega (arith, t.0), t.1, t.2), t.3)))
        where
          by : In x (1 ∷ own_nodes (tree_cursors f.nodes.mem)) → In x (own_nodes (tree_cursors f.nodes.mem))
          by (inl e) = absurd (omega (arith, t.0))
          by (inr i) = i
