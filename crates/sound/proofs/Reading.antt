-- What the rules of `Sound` say together, where it takes more than one of them: every link leads to a used node or is 0;
-- links agree both ways; each child is met once from its parent's first; contents are in no list of children; the
-- document's one element child is the root; what is used lies in the lent bytes.
-- Assumes nothing.
use Rattle.std.proofs.Common.{◌≡◌, sym, ◌≢◌, ◌⊎◌, inl, inr, List, true, ℕ, zero, suc, ◌≤◌, ◌<◌, ◌/◌, min, lt_irrefl, le_refl, arith, lt-ltb, length}
use Rattle.std.proofs.Math.Decide.{ℕ_discrete}
use Rattle.lent.specs.Mem.{NODES, PIECES, PAIRS, slots, inside, field, KIND, PARENT, PREV, NEXT, FIRST, LAST, TIE, SPACE, NAME, ELEMENT, CONTENTS}
use Rattle.names.specs.Space as space
use Rattle.names.specs.Tag as tag
use Rattle.theory.specs.Fn.{In}
use Rattle.theory.specs.Kids.{lst, lst_or, run_in}
use Rattle.theory.specs.Pigeon.{Once, walk, run_pigeon, kids_walk}
use Rattle.theory.specs.Check.{Node}
use Rattle.lent.specs.Tree.{links}
use Rattle.links.specs.Links.{children→nodes}
use Rattle.nodes.specs.Nodes.{Kind, Ties}
use Rattle.sound.specs.Sound.{Tree, Sizes}

-- every link of node x is 0 or a used node
pub record Linked (m : List ℕ) (c x : ℕ) : Type 0 where
  pub parent : field m x PARENT ≤ c
  pub prev : field m x PREV ≤ c
  pub next : field m x NEXT ≤ c
  pub first : field m x FIRST ≤ c
  pub last : field m x LAST ≤ c
  pub tie : field m x TIE ≤ c

-- 0 or a used node
low : {c : ℕ} (n : ℕ) → (n ≢ 0 → n ≤ c) → n ≤ c
low zero h = omega arith
low (suc n) h = h (λ e. omega arith)

module _ {m q l : List ℕ} {c u d : ℕ} (t : Tree m q l c u d) (x : ℕ) (z : 0 < x) (h : x ≤ c) where
  -- a child of x: used, and x is its parent
  child : (y : ℕ) → In y (t.children.kids x) → (0 < y) × (y ≤ c) × (field m y PARENT ≡ x)
  child y i = run_in (links m) c x 0 (t.children.kids x) 0 y (t.children.is_kids.run x z h) i

  -- links agree both ways, siblings have the same parent, and a node without a parent has no siblings
  pub links_agree : Node (links m) c x
  links_agree = (children→nodes t.children).node x z h

  last_used : field m x LAST ≤ c
  last_used = rw (t.children.is_kids.last x z h) (by (lst_or 0 (t.children.kids x)))
    where
      by : (lst 0 (t.children.kids x) ≡ 0) ⊎ In (lst 0 (t.children.kids x)) (t.children.kids x) → lst 0 (t.children.kids x) ≤ c
      by (inl e) = omega arith
      by (inr i) = (child _ i).1

  element_tie : Ties m c x → field m x KIND ≡ ELEMENT → field m x TIE ≤ c
  element_tie s k = by (ℕ_discrete (field m x SPACE) space.html) (ℕ_discrete (field m x NAME) tag.template)
    where
      by : Dec (field m x SPACE ≡ space.html) → Dec (field m x NAME ≡ tag.template) → field m x TIE ≤ c
      by (yes a) (yes b) = (s.tied (record { kind = k; space = a; name = b })).0.used
      by (no a) b = let e = s.untied (λ w. a w.space) in omega arith
      by (yes a) (no b) = let e = s.untied (λ w. b w.name) in omega arith

  tie_used : Kind m q c u x → field m x TIE ≤ c
  tie_used k =
      by (ℕ_discrete (field m x KIND) 1) (ℕ_discrete (field m x KIND) 2) (ℕ_discrete (field m x KIND) 3)
      (ℕ_discrete (field m x KIND) 4)
    where
      by : Dec (field m x KIND ≡ 1) → Dec (field m x KIND ≡ 2) → Dec (field m x KIND ≡ 3) → Dec (field m x KIND ≡ 4) → field m x TIE ≤ c
      by (yes a) _ _ _ = let e = (k.document a).clear.zero TIE (omega arith) (omega arith) in omega arith
      by (no a) (yes b) _ _ = element_tie (k.element b).ties b
      by (no a) (no b) (yes d) _ = let e = (k.text d).zero TIE (omega arith) (omega arith) in omega arith
      by (no a) (no b) (no d) (yes g) = let e = (k.comment g).front.zero TIE (omega arith) (omega arith) in omega arith
      by (no a) (no b) (no d) (no g) = (k.contents (omega (arith, k.known.0, k.known.1))).partner.used

  pub links_used : Linked m c x
  links_used =
      record {
        parent = links_agree.par;
        prev = low (field m x PREV) (λ n. (links_agree.prev n).0);
        next = low (field m x NEXT) (λ n. (links_agree.next n).0);
        first = low (field m x FIRST) (λ n. (links_agree.first n).0);
        last = last_used;
        tie = tie_used (t.kinds.kind x z h);
      }

  -- what is met from the first child by `next` is the list of children, and no node is met twice
  pub child_met_once : (walk (λ n. field m n NEXT) c (field m x FIRST) ≡ t.children.kids x) × Once (t.children.kids x)
  child_met_once = (
    sym (kids_walk t.children.is_kids x z h c (le_refl c)),
    (run_pigeon (links m) c x 0 (t.children.kids x) 0 (λ i. lt_irrefl 0 (child 0 i).0) (t.children.is_kids.run x z h)).0,
  )

  pub contents_apart : (y : ℕ) → In y (t.children.kids x) → field m y KIND ≢ CONTENTS
  contents_apart y i e =
      let w = child y i in
      let g = ((t.kinds.kind y w.0 w.1).contents e).parent in
      omega (arith, w.2)

-- the document's one element child is the root
pub root_alone : {m q l : List ℕ} {c u d : ℕ} (t : Tree m q l c u d) (y : ℕ) → In y (t.children.kids 1) → field m y KIND ≡ ELEMENT → y ≡ 2
root_alone t y i e =
    let w = child t 1 (omega arith) (omega (arith, t.top.two)) y i in
    ((t.kinds.kind y w.0 w.1).element e).rooted.root w.2

-- what is used lies in the lent bytes: no load of a used node, piece or pair falls outside
module _ {m p q : List ℕ} {c v u : ℕ} (s : Sizes m p q c v u) (n : ℕ) where
  pub node_inside : n ≤ c → inside NODES m n ≡ true
  unfolding inside slots
  node_inside h = lt-ltb n (min (length m / 32) 4097) (omega (arith, s.nodes.0, s.nodes.1))

  pub piece_inside : 0 < n → n ≤ v → inside PIECES p n ≡ true
  unfolding inside slots
  piece_inside z h = lt-ltb n (min (length p / 4) 8193) (omega (arith, s.pieces.0, s.pieces.1 (omega arith)))

  pub pair_inside : n < u → inside PAIRS q n ≡ true
  unfolding inside slots
  pair_inside h = lt-ltb n (min (length q / 4) 4096) (omega (arith, s.pairs.0, s.pairs.1))
