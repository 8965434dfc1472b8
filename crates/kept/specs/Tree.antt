-- What a sound state says of its tree, for a reader to quote: one root; no element twice on the stack; no node its own ancestor; no node
-- twice among children; and in document order each node of the document is met once.
-- Assumes nothing.
use Rattle.std.specs.Prelude.{ℕ, zero, suc, ◌≤◌, ◌<◌, ◌≡◌, ◌≢◌, ◌↔◌, Bool, true, false, cond, List, ◌∷◌, take}
use Rattle.std.proofs.Common.{refl, sym, ◌∙◌, inl, inr, arith, lt_irrefl, eq-eqb, length-take, get_or-take}
use Rattle.std.proofs.Math.Decide.{ℕ_discrete}
use Rattle.names.specs.Space as space
use Rattle.names.specs.Tag as tag
use Rattle.theory.specs.Fn.{In}
use Rattle.theory.specs.Ord.{Ord}
use Rattle.theory.specs.Natural.{Steps, Anc, natural→ord, lower}
use Rattle.theory.specs.Anc.{Reach}
use Rattle.theory.specs.Kids.{run_in}
use Rattle.theory.specs.Pigeon.{Once, run_pigeon, out_of, steps_bound}
use Rattle.lent.specs.Mem.{field, up, KIND, PARENT, TIE, SPACE, NAME, ELEMENT, CONTENTS}
use Rattle.lent.specs.Tree.{links, children}
use Rattle.arena.proofs.Children.{children_are}
use Rattle.arena.proofs.Ancestors.{up_parent, up_tie}
use Rattle.nodes.specs.Nodes.{Template}
use Rattle.places.specs.Places.{at}
use Rattle.state.specs.Full.{Full}
use Rattle.sound.specs.State.{SoundFull}
use Rattle.sound.proofs.Reading.{root_alone, contents_apart}
use Rattle.standard.specs.Html.{is_html}
use Rattle.kept.specs.Attach.{forest}
use Rattle.kept.specs.Usual.{is_html_lem}
use Rattle.kept.specs.Met.{down, Agrees, met_below, down_once, all_met}

-- the document has one element among its children, node 2, and that is the first of the stack
pub record Root (f : Full) : Type 0 where
  pub child : In 2 (children f.nodes.mem 1)
  pub element : field f.nodes.mem 2 KIND ≡ ELEMENT
  pub alone : (x : ℕ) → In x (children f.nodes.mem 1) → field f.nodes.mem x KIND ≡ ELEMENT → x ≡ 2
  pub open_at_lem : (0 < f.stack.size) × (at f.stack 0 ≡ 2)

-- what stands right below node n: of an HTML `template` its contents, and then the children of n
unfoldable pub under : List ℕ → ℕ → List ℕ
under m n = cond (is_html m n tag.template) (field m n TIE ∷ children m n) (children m n)

-- the document and all that is in it, in document order: each node before what is below it, contents right behind their template
unfoldable pub in_order : List ℕ → List ℕ
in_order m = down (under m) 4096 1

-- more steps are enough too
steps_more : (f : ℕ → ℕ) (j k n : ℕ) → j ≤ k → Steps f j n → Steps f k n
steps_more f zero zero n h s = s
steps_more f zero (suc k) n h s = inl s
steps_more f (suc j) zero n h s = absurd (omega arith)
steps_more f (suc j) (suc k) n h (inl e) = inl e
steps_more f (suc j) (suc k) n h (inr s) = inr (steps_more f j k (f n) (omega arith) s)

-- the test for an HTML template
pub template_is : (m : List ℕ) (n : ℕ) → Template m n → is_html m n tag.template ≡ true
unfolding is_html
template_is m n t =
    rw (eq-eqb (field m n KIND) ELEMENT t.kind, eq-eqb (field m n SPACE) space.html t.space, eq-eqb (field m n NAME) tag.template t.name)

module _ (f : Full) (ok : SoundFull f) where
  kids : (p : ℕ) → 0 < p → p ≤ f.nodes.used → ok.sound.tree.children.kids p ≡ children f.nodes.mem p
  kids p z h = children_are (forest ok.sound) p z h

  -- a child: used, its parent is p, and it is not contents
  child : (p x : ℕ) → 0 < p → p ≤ f.nodes.used → In x (children f.nodes.mem p)
      → (0 < x) × (x ≤ f.nodes.used) × (field f.nodes.mem x PARENT ≡ p) × (field f.nodes.mem x KIND ≢ CONTENTS)
  child p x z h i =
      let j : In x (ok.sound.tree.children.kids p) = rw (kids p z h) i in
      let t = run_in (links f.nodes.mem) f.nodes.used p 0 (ok.sound.tree.children.kids p) 0 x (ok.sound.tree.children.is_kids.run p z h) j in
      (t.0, t.1, t.2, contents_apart ok.sound.tree p z h x j)

  own_child : (x : ℕ) → 0 < x → x ≤ f.nodes.used → field f.nodes.mem x PARENT ≢ 0 → In x (children f.nodes.mem (field f.nodes.mem x PARENT))
  own_child x z h d =
      rw (kids (field f.nodes.mem x PARENT) (omega arith) (ok.sound.tree.children.parent x z h)) at (ok.sound.tree.children.is_kids.own x z h d)

  once : (p : ℕ) → 0 < p → p ≤ f.nodes.used → Once (children f.nodes.mem p)
  once p z h =
      rw (kids p z h) at
      (run_pigeon (links f.nodes.mem) f.nodes.used p 0 (ok.sound.tree.children.kids p) 0
      (λ i. lt_irrefl 0 (child p 0 z h (rw (kids p z h) at i)).0) (ok.sound.tree.children.is_kids.run p z h)).0

  order : Ord (up f.nodes.mem) f.nodes.used (take f.stack.size f.stack.held)
  order = natural→ord ok.sound.tree.order

  -- the document's only element child is node 2, and it is open, as the first of the stack
  pub one_root : Root f
  unfolding at
  one_root =
      let t = ok.sound.tree.top in
      record {
        child = rw t.parent at (own_child 2 (omega arith) t.two (omega (arith, t.parent)));
        element = t.element;
        alone = λ x i e. root_alone ok.sound.tree x (rw (kids 1 (omega arith) (omega (arith, t.two))) i) e;
        open_at_lem = (ok.sound.tree.stack.some, ok.sound.tree.stack.root);
      }

  -- no node stands twice on the stack
  pub stack_once : (i j : ℕ) → i < j → j < f.stack.size → at f.stack i ≢ at f.stack j
  unfolding at
  stack_once i j h k =
      rw (get_or-take f.stack.size f.stack.held i 0 (omega arith), get_or-take f.stack.size f.stack.held j 0 k) at
      (ok.sound.tree.order.apart i j h (omega (arith, length-take f.stack.size f.stack.held, ok.sound.places.stack)))

  -- no node is its own ancestor
  pub no_own_ancestor : (n : ℕ) → n ≤ f.nodes.used → ¬ Anc (up f.nodes.mem) n n
  no_own_ancestor n h a = omega (arith, lower order a h)

  -- no node stands twice among the children of a node, and none among those of two
  pub children_once : (p : ℕ) → 0 < p → p ≤ f.nodes.used
      → Once (children f.nodes.mem p)
      × ((q x : ℕ) → 0 < q → q ≤ f.nodes.used → In x (children f.nodes.mem p) → In x (children f.nodes.mem q) → p ≡ q)
  children_once p z h = (once p z h, λ q x a b i j. sym (child p x z h i).2 ∙ (child q x a b j).2)

  -- ---- document order

  -- the contents of a template
  contents : (n : ℕ) → 0 < n → n ≤ f.nodes.used → is_html f.nodes.mem n tag.template ≡ true
      → (0 < field f.nodes.mem n TIE) × (field f.nodes.mem n TIE ≤ f.nodes.used) × (field f.nodes.mem (field f.nodes.mem n TIE) TIE ≡ n)
      × (field f.nodes.mem (field f.nodes.mem n TIE) KIND ≡ CONTENTS)
  contents n z h e =
      let t = is_html_lem f.nodes.mem n tag.template e in
      let r = ((ok.sound.tree.kinds.kind n z h).element t.kind).ties.tied (record { kind = t.kind; space = t.space; name = t.name }) in
      (omega (arith, r.0.some), r.0.used, r.0.back, r.1)

  tree : Agrees (up f.nodes.mem) f.nodes.used (under f.nodes.mem)
  unfolding under
  tree =
      record {
        child = λ p x z h i. kid p x z h (is_html f.nodes.mem p tag.template) refl i;
        own = λ x z h d. own x z h d (ℕ_discrete (field f.nodes.mem x KIND) CONTENTS);
        once = λ p z h. lone p z h (is_html f.nodes.mem p tag.template) refl;
      }
    where
      plain : (p x : ℕ) → 0 < p → p ≤ f.nodes.used → In x (children f.nodes.mem p) → (0 < x) × (x ≤ f.nodes.used) × (up f.nodes.mem x ≡ p)
      plain p x z h i = let t = child p x z h i in (t.0, t.1, up_parent f.nodes.mem x t.3 ∙ t.2)

      kid : (p x : ℕ) → 0 < p → p ≤ f.nodes.used → (b : Bool) → is_html f.nodes.mem p tag.template ≡ b
          → In x (cond b (field f.nodes.mem p TIE ∷ children f.nodes.mem p) (children f.nodes.mem p))
          → (0 < x) × (x ≤ f.nodes.used) × (up f.nodes.mem x ≡ p)
      kid p x z h true e (inl i) = let t = contents p z h e in rw i (t.0, t.1, up_tie f.nodes.mem _ t.3 ∙ t.2)
      kid p x z h true e (inr i) = plain p x z h i
      kid p x z h false e i = plain p x z h i

      either : (p x : ℕ) (b : Bool) → In x (children f.nodes.mem p)
          → In x (cond b (field f.nodes.mem p TIE ∷ children f.nodes.mem p) (children f.nodes.mem p))
      either p x true i = inr i
      either p x false i = i

      own : (x : ℕ) → 0 < x → x ≤ f.nodes.used → up f.nodes.mem x ≢ 0 → Dec (field f.nodes.mem x KIND ≡ CONTENTS)
          → In x (under f.nodes.mem (up f.nodes.mem x))
      own x z h d (yes e) =
          let t = (ok.sound.tree.kinds.kind x z h).contents e in
          rw (up_tie f.nodes.mem x e, template_is f.nodes.mem (field f.nodes.mem x TIE) t.host) (inl (sym t.partner.back))
      own x z h d (no e) =
          rw (up_parent f.nodes.mem x e)
          (either (field f.nodes.mem x PARENT) x (is_html f.nodes.mem (field f.nodes.mem x PARENT) tag.template)
          (own_child x z h (rw (up_parent f.nodes.mem x e) at d)))

      lone : (p : ℕ) → 0 < p → p ≤ f.nodes.used → (b : Bool) → is_html f.nodes.mem p tag.template ≡ b
          → Once (cond b (field f.nodes.mem p TIE ∷ children f.nodes.mem p) (children f.nodes.mem p))
      lone p z h true e =
          (out_of (field f.nodes.mem p TIE) (children f.nodes.mem p) (λ i. (child p _ z h i).3 (contents p z h e).3), once p z h)
      lone p z h false e = once p z h

  -- in document order the document and each node below it is met exactly once, and nothing else is
  pub met_once : Once (in_order f.nodes.mem) × ((x : ℕ) → In x (in_order f.nodes.mem) ↔ ((0 < x) × (x ≤ f.nodes.used) × Reach (up f.nodes.mem) 1 x))
  unfolding in_order
  met_once =
      let two = ok.sound.tree.top.two in (
        down_once order tree 4096 1 (omega arith) (omega arith),
        λ x. (
          λ i. met_below order tree 4096 1 x (omega arith) (omega arith) i,
          λ t.
              all_met order tree 4096 1 x
              (steps_more (up f.nodes.mem) f.nodes.used 4096 x ok.sound.sizes.nodes.0 (steps_bound order x t.1))
              (omega arith) t.0 t.1 t.2,
        ),
      )
