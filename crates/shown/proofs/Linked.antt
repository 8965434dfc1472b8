-- The tree of a sound state: what is right below a node stands there one beside the other, and what kinds of nodes there are.
-- Assumes nothing.
use Rattle.std.proofs.Common.{ℕ, zero, suc, ◌≤◌, ◌<◌, ◌≡◌, refl, sym, ◌∙◌, ◌≢◌, ◌⊎◌, inl, inr, Bool, true, false, List, [], ◌∷◌, arith, take, Option}
use Rattle.std.proofs.Math.Bool.{false≢true}
use Rattle.std.proofs.Math.Decide.{ℕ_discrete}
use Rattle.names.specs.Tag as tag
use Rattle.theory.specs.Fn.{In}
use Rattle.theory.specs.Ord.{Ord}
use Rattle.theory.specs.Natural.{Steps, natural→ord}
use Rattle.theory.specs.Kids.{hd, Run}
use Rattle.theory.specs.Pigeon.{steps_bound}
use Rattle.lent.specs.Mem.{field, up, KIND, PARENT, FIRST, TIE, COUNT, DOCUMENT, ELEMENT, TEXT, COMMENT, CONTENTS}
use Rattle.lent.specs.Tree.{links, children}
use Rattle.arena.proofs.Children.{children_are}
use Rattle.arena.proofs.Ancestors.{up_parent, up_tie}
use Rattle.state.specs.declared.Context.{Context}
use Rattle.sound.specs.Sound.{Sound}
use Rattle.sound.proofs.Reading.{contents_apart}
use Rattle.standard.specs.Html.{is_html}
use Rattle.kept.specs.Attach.{forest}
use Rattle.kept.specs.Usual.{is_html_lem}
use Rattle.kept.specs.Tree.{under, template_is}
use Rattle.dump.proofs.OrderLaws.{beside_contents, beside_other}
use Rattle.shown.proofs.Walk.{Deep, deep_less, Plain, Follow}

-- more steps are enough too
steps_more : (f : ℕ → ℕ) (j k n : ℕ) → j ≤ k → Steps f j n → Steps f k n
steps_more f zero zero n h s = s
steps_more f zero (suc k) n h s = inl s
steps_more f (suc j) zero n h s = absurd (omega arith)
steps_more f (suc j) (suc k) n h (inl e) = inl e
steps_more f (suc j) (suc k) n h (inr s) = inr (steps_more f j k (f n) (omega arith) s)

-- what is right below a template, and below any other node
pub under_template : (m : List ℕ) (n : ℕ) → is_html m n tag.template ≡ true → under m n ≡ field m n TIE ∷ children m n
unfolding under
under_template m n e = rw e

pub under_other : (m : List ℕ) (n : ℕ) → is_html m n tag.template ≡ false → under m n ≡ children m n
unfolding under
under_other m n e = rw e

-- what a node of the tree is, but the document: attributes are those of elements
pub record Thing (m : List ℕ) (n : ℕ) : Type 0 where
  pub known : (field m n KIND ≡ ELEMENT) ⊎ ((field m n KIND ≡ TEXT) ⊎ ((field m n KIND ≡ COMMENT) ⊎ (field m n KIND ≡ CONTENTS)))
  pub few : field m n COUNT ≤ 16
  pub bare : field m n KIND ≢ ELEMENT → field m n COUNT ≡ 0

module _ {m ps qs stk fmt tms : List ℕ} {c v u size k s foster head : ℕ} {ctx : Option Context} (o : Sound m ps qs stk fmt tms c v u size k s foster head ctx) where
  kids : (p : ℕ) → 0 < p → p ≤ c → o.tree.children.kids p ≡ children m p
  kids p z h = children_are (forest o) p z h

  -- a node whose kind is not the document's is not the document
  not_one : (n : ℕ) → 0 < n → field m n KIND ≢ DOCUMENT → 1 < n
  not_one n z d = by (ℕ_discrete n 1)
    where
      by : Dec (n ≡ 1) → 1 < n
      by (yes e) = absurd (d (rw e o.tree.top.document))
      by (no e) = omega arith

  -- a node that has a parent is not the document
  inner : (n : ℕ) → 0 < n → n ≤ c → field m n PARENT ≢ 0 → 1 < n
  inner n z h d = not_one n z (λ e. d ((o.tree.kinds.kind n z h).document e).parent)

  pub first : (p : ℕ) → 0 < p → p ≤ c → field m p FIRST ≡ hd (children m p) 0
  first p z h = rw (kids p z h) at (o.tree.children.is_kids.first p z h)

  -- the contents of a template
  pub contents : (n : ℕ) → 0 < n → n ≤ c → is_html m n tag.template ≡ true
      → (1 < field m n TIE) × (field m n TIE ≤ c) × (field m (field m n TIE) TIE ≡ n)
      × (field m (field m n TIE) KIND ≡ CONTENTS)
  contents n z h e =
      let t = is_html_lem m n tag.template e in
      let r = ((o.tree.kinds.kind n z h).element t.kind).ties.tied (record { kind = t.kind; space = t.space; name = t.name }) in
      (not_one _ (omega (arith, r.0.some)) (omega (arith, r.1)), r.0.used, r.0.back, r.1)

  -- any other node but contents has none
  pub untied : (n : ℕ) → 1 < n → n ≤ c → is_html m n tag.template ≡ false → field m n KIND ≢ CONTENTS
      → field m n TIE ≡ 0
  untied n z h e d =
      by (ℕ_discrete (field m n KIND) 1) (ℕ_discrete (field m n KIND) 2) (ℕ_discrete (field m n KIND) 3)
    where
      by : Dec (field m n KIND ≡ 1) → Dec (field m n KIND ≡ 2) → Dec (field m n KIND ≡ 3)
          → field m n TIE ≡ 0
      by (yes a) _ _ = absurd (omega (arith, ((o.tree.kinds.kind n (omega arith) h).document a).one))
      by (no a) (yes b) _ =
          ((o.tree.kinds.kind n (omega arith) h).element b).ties.untied
          (λ t. false≢true (sym e ∙ template_is m n t))
      by (no a) (no b) (yes g) = ((o.tree.kinds.kind n (omega arith) h).text g).zero TIE (omega arith) (omega arith)
      by (no a) (no b) (no g) =
          let k = o.tree.kinds.kind n (omega arith) h in
          (k.comment (omega (arith, k.known.0, k.known.1))).front.zero TIE (omega arith) (omega arith)

  -- ---- kinds

  pub thing : (n : ℕ) → 1 < n → n ≤ c → Thing m n
  thing n z h =
      by (ℕ_discrete (field m n KIND) DOCUMENT) (ℕ_discrete (field m n KIND) ELEMENT) (ℕ_discrete (field m n KIND) TEXT) (ℕ_discrete (field m n KIND) COMMENT)
    where
      bare : (kind : ℕ) → field m n KIND ≡ kind → (kind ≡ ELEMENT) ⊎ ((kind ≡ TEXT) ⊎ ((kind ≡ COMMENT) ⊎ (kind ≡ CONTENTS)))
          → field m n COUNT ≡ 0 → Thing m n
      bare kind e d g = record { known = rw e d; few = omega (arith, g); bare = λ _. g }

      by : Dec (field m n KIND ≡ DOCUMENT) → Dec (field m n KIND ≡ ELEMENT) → Dec (field m n KIND ≡ TEXT) → Dec (field m n KIND ≡ COMMENT) → Thing m n
      by (yes a) _ _ _ = absurd (omega (arith, ((o.tree.kinds.kind n (omega arith) h).document a).one))
      by (no a) (yes b) _ _ =
          record { known = inl b; few = ((o.tree.kinds.kind n (omega arith) h).element b).span.few; bare = λ d. absurd (d b) }
      by (no a) (no b) (yes g) _ =
          bare TEXT g (inr (inl refl)) (((o.tree.kinds.kind n (omega arith) h).text g).zero COUNT (omega arith) (omega arith))
      by (no a) (no b) (no g) (yes r) =
          bare COMMENT r (inr (inr (inl refl))) (((o.tree.kinds.kind n (omega arith) h).comment r).back.zero COUNT (omega arith) (omega arith))
      by (no a) (no b) (no g) (no r) =
          let t = o.tree.kinds.kind n (omega arith) h in
          let e : field m n KIND ≡ CONTENTS = omega (arith, t.known.0, t.known.1) in
          bare CONTENTS e (inr (inr (inr refl))) ((t.contents e).clear.zero COUNT (omega arith) (omega arith))

  -- ---- one beside the other

  follow_run : (p l : ℕ) (xs : List ℕ) → 0 < p → Run (links m) c p l xs 0
      → ((x : ℕ) → In x xs → field m x KIND ≢ CONTENTS) → Plain m xs × Follow m c p xs
  follow_run p l [] z r g = (tt, tt)
  follow_run p l (x ∷ xs) z r g =
      let t = follow_run p x xs z r.5 (λ y i. g y (inr i)) in
      let d = g x (inl refl) in (
        d,
        (
          inner x r.0 r.1 (rw r.2 (omega arith)),
          r.1,
          up_parent m x d ∙ r.2,
          beside_other m x refl d ∙ r.4,
          t.0,
          t.1,
        ),
      )

  pub follow_kids : (p : ℕ) → 0 < p → p ≤ c
      → Plain m (children m p) × Follow m c p (children m p)
  follow_kids p z h =
      rw (kids p z h) at
      (follow_run p 0 (o.tree.children.kids p) z (o.tree.children.is_kids.run p z h) (contents_apart o.tree p z h))

  pub follows : (p : ℕ) → 0 < p → p ≤ c → Follow m c p (under m p)
  follows p z h = by (is_html m p tag.template) refl
    where
      by : (b : Bool) → is_html m p tag.template ≡ b → Follow m c p (under m p)
      by true e =
          let t = contents p z h e in
          let k = follow_kids p z h in
          rw (under_template m p e) (
            t.0,
            t.1,
            up_tie m _ t.3 ∙ t.2,
            beside_contents m (field m p TIE) refl t.3 (sym t.2) ∙ first p z h,
            k.0,
            k.1,
          )
      by false e = rw (under_other m p e) (follow_kids p z h).1

  pub steps : (n : ℕ) → n ≤ c → Steps (up m) 4096 n
  steps n h =
      let r : Ord (up m) c (take size stk) = natural→ord o.tree.order in
      steps_more (up m) c 4096 n o.sizes.nodes.0 (steps_bound r n h)

  pub shallow : {d n : ℕ} → n ≤ c → Deep m d n → d < 4096
  shallow {n = n} h g = deep_less g 4096 (steps n h)
