-- A text node gets one more piece: a sound state stays sound. And what stands directly before a place is a used node, or none.
-- Assumes nothing.
use Rattle.std.specs.Prelude.{ℕ, suc, ◌≤◌, ◌<◌, ◌≡◌, ◌≢◌, ◌⊎◌, Bool, List, ◌∷◌, ◌++◌, length, ltb, Option}
use Rattle.std.proofs.Common.{refl, sym, ◌∙◌, inl, inr, arith, true, false, cond, eqb, lt-ltb, ne_eqb, eqb-true}
use Rattle.std.proofs.Math.Path.{fun_ext}
use Rattle.theory.specs.Fn.{In}
use Rattle.theory.specs.Kids.{Kids, Run, lst, run_in, run_part, lst_or, in_left}
use Rattle.theory.specs.Stores.{find}
use Rattle.lent.specs.Mem.{NODES, PIECES, slots, field, put_field, up, KIND, PARENT, PREV, FIRST, LAST, TIE, END, TEXT}
use Rattle.lent.specs.Tree as tree
use Rattle.lent.proofs.Kit.{reads, length_store}
use Rattle.makers.specs.Make.{piece, piece_after}
use Rattle.arena.proofs.Ancestors.{up_same}
use Rattle.state.specs.declared.Context.{Context}
use Rattle.sound.specs.Sound.{Sound}
use Rattle.standard.specs.declared.Place.{Place}
use Rattle.standard.specs.declared.Place.TheVariants.{End, Before}
use Rattle.standard.specs.Place.{sibling_before, text_before}
use Rattle.kept.specs.Room.{held_in, node_slots, slots_pieces}
use Rattle.kept.specs.Same.{changed, names_refl}
use Rattle.kept.specs.Pieces.{words_joined}
use Rattle.kept.specs.Attach.{Spot}

pub length_piece : (p : List ℕ) (i number : ℕ) → length (piece p i number) ≡ length p
unfolding piece
length_piece p i number = simp length_store

pub length_piece_after : (p : List ℕ) (e i number : ℕ) → length (piece_after p e i number) ≡ length p
unfolding piece_after piece
length_piece_after p e i number = simp length_store

module _ {m p q l f t : List ℕ} {c v u d k s foster head : ℕ} {x : Option Context} (o : Sound m p q l f t c v u d k s foster head x) where
  -- ---- one more piece

  module _ (n : ℕ) (nz : 0 < n) (nc : n ≤ c) (e : field m n KIND ≡ TEXT) (room : suc v < slots PIECES p) (number : ℕ) where
    other : (y g : ℕ) → ltb g 16 ≡ true → eqb END g ≡ false → field (put_field m n END (suc v)) y g ≡ field m y g
    other y g b d = simp (reads, b, d)

    elsewhere : (y : ℕ) → y ≢ n → field (put_field m n END (suc v)) y END ≡ field m y END
    elsewhere y d = simp reads

    same_up : up (put_field m n END (suc v)) ≡ up m
    same_up = fun_ext (λ y. up_same m (put_field m n END (suc v)) y (other y KIND refl refl) (other y TIE refl refl) (other y PARENT refl refl))

    links : Kids (tree.links (put_field m n END (suc v))) c o.tree.children.kids
    links = simp reads o.tree.children.is_kids

    pub joined_sound : Sound (put_field m n END (suc v)) (piece_after p (field m n END) (suc v) number) q l f t c (suc v) u d k s foster head x
    joined_sound =
        let g = slots_pieces p (suc v) room in
        changed o
        (record {
          sizes =
              record {
                nodes = (o.sizes.nodes.0, rw (length_store NODES m n END (suc v)) o.sizes.nodes.1);
                pieces = (g.0, rw (length_piece_after p (field m n END) (suc v) number) g.1);
                pairs = o.sizes.pairs;
              };
          more = omega arith;
          longer = omega arith;
          same =
              record {
                kind = λ y z h. other y KIND refl refl;
                rest = λ y g z h i j. other y g (lt-ltb g 16 (omega arith)) (ne_eqb END g (λ r. omega arith));
                end = λ y z h i. elsewhere y (λ r. i (rw r e));
              };
          links =
              λ y z h.
              record {
                loose = λ g. other y PARENT refl refl;
                root = λ g r. sym (other y PARENT refl refl) ∙ r;
                leaf = λ g. (other y FIRST refl refl, other y LAST refl refl);
              };
          root = other 2 PARENT refl refl;
          names = names_refl q u;
          children =
              record {
                parent = λ y z h. rw (other y PARENT refl refl) (o.tree.children.parent y z h);
                kids = o.tree.children.kids;
                is_kids = links;
              };
          kinds = λ y g h. absurd (omega arith);
          known = o.tree.names;
          order = rw same_up o.tree.order;
          texts =
              words_joined number o.texts n nz nc e (held_in NODES m n (let r = node_slots m c o.sizes.nodes in omega arith))
              (λ i h. held_in PIECES p i (omega arith));
        })

  -- ---- before a place

  before_used : (a : Place) → Spot m c a → sibling_before m a ≢ 0 → (0 < sibling_before m a) × (sibling_before m a ≤ c)
  unfolding sibling_before
  before_used (End b) w z = by (lst_or 0 (o.tree.children.kids b.0))
    where
      e : field m b.0 LAST ≡ lst 0 (o.tree.children.kids b.0)
      e = o.tree.children.is_kids.last b.0 w.some w.used

      by : (lst 0 (o.tree.children.kids b.0) ≡ 0) ⊎ In (lst 0 (o.tree.children.kids b.0)) (o.tree.children.kids b.0)
          → (0 < field m b.0 LAST) × (field m b.0 LAST ≤ c)
      by (inl g) = absurd (z (e ∙ g))
      by (inr i) =
          let r = run_in (tree.links m) c b.0 0 (o.tree.children.kids b.0) 0 _ (o.tree.children.is_kids.run b.0 w.some w.used) i in
          rw e (r.0, r.1)
  before_used (Before b) w z = by (find b.0 (ks par) (o.tree.children.is_kids.own b.0 w.sibling.0 w.sibling.1 (omega (arith, w.some))))
    where
      par : ℕ
      par = field m b.0 PARENT

      ks : ℕ → List ℕ
      ks = o.tree.children.kids

      by : (a : List ℕ) × (r : List ℕ) × (ks par ≡ a ++ b.0 ∷ r) → (0 < field m b.0 PREV) × (field m b.0 PREV ≤ c)
      by g = go (lst_or 0 g.0)
        where
          run : Run (tree.links m) c par 0 (g.0 ++ b.0 ∷ g.1) 0
          run = rw g.2 at (o.tree.children.is_kids.run par w.some w.used)

          e : field m b.0 PREV ≡ lst 0 g.0
          e = (run_part (tree.links m) c par 0 g.0 (b.0 ∷ g.1) 0 run).1.3

          go : (lst 0 g.0 ≡ 0) ⊎ In (lst 0 g.0) g.0 → (0 < field m b.0 PREV) × (field m b.0 PREV ≤ c)
          go (inl y) = absurd (z (e ∙ y))
          go (inr i) =
              let r = run_in (tree.links m) c par 0 (g.0 ++ b.0 ∷ g.1) 0 _ run (in_left _ g.0 (b.0 ∷ g.1) i) in
              rw e (r.0, r.1)

  -- the text node before a place
  pub before_text : (a : Place) → Spot m c a → text_before m a ≢ 0 → (0 < text_before m a) × (text_before m a ≤ c) × (field m (text_before m a) KIND ≡ TEXT)
  unfolding text_before
  before_text a w = by (eqb (sibling_before m a) 0) refl (eqb (field m (sibling_before m a) KIND) TEXT) refl
    where
      by : (b : Bool) → eqb (sibling_before m a) 0 ≡ b → (d : Bool) → eqb (field m (sibling_before m a) KIND) TEXT ≡ d
          → cond b 0 (cond d (sibling_before m a) 0) ≢ 0
          → (0 < cond b 0 (cond d (sibling_before m a) 0)) × (cond b 0 (cond d (sibling_before m a) 0) ≤ c) × (field m (cond b 0 (cond d (sibling_before m a) 0)) KIND ≡ TEXT)
      by true e d g z = absurd (z refl)
      by false e true g z = let r = before_used a w z in (r.0, r.1, eqb-true _ TEXT g)
      by false e false g z = absurd (z refl)
