-- A node that has no parent is put at a place, after the last child of a node or right before one: a sound state stays sound, if the
-- order does. What is asked of the place is `Spot`.
-- Assumes nothing.
use Rattle.std.specs.Prelude.{ℕ, ◌≤◌, ◌<◌, ◌≡◌, ◌≢◌, ◌⊎◌, List, [], ◌∷◌, ◌++◌, length, take, Option}
use Rattle.std.proofs.Common.{sym, ◌∙◌, inl, inr, arith}
use Rattle.std.proofs.Math.Decide.{ℕ_discrete}
use Rattle.theory.specs.Fn.{Upd, put, put_upd}
use Rattle.theory.specs.Natural.{Natural}
use Rattle.theory.specs.Stores.{find}
use Rattle.lent.specs.Mem.{field, up, KIND, PARENT, FIRST, LAST, TIE, DOCUMENT, ELEMENT, TEXT, COMMENT, CONTENTS}
use Rattle.arena.proofs.Lengths.{length_appended, length_inserted}
use Rattle.arena.proofs.Children.{Forest, appended_parents, appended_children, inserted_parents, inserted_children}
use Rattle.arena.proofs.Others.{NoLink, appended_field, inserted_field}
use Rattle.arena.proofs.Ancestors.{kind_free, tie_free, up_parent, up_same}
use Rattle.state.specs.declared.Context.{Context}
use Rattle.sound.specs.Sound.{Sound}
use Rattle.standard.specs.declared.Place.{Place}
use Rattle.standard.specs.declared.Place.TheVariants.{End, Before}
use Rattle.standard.specs.Place.{attached}
use Rattle.kept.specs.Room.{node_slots}
use Rattle.kept.specs.Same.{Links}
use Rattle.kept.specs.Rewire.{ends_same, rewired_sound}
pub use Rattle.kept.specs.Rewire.{late_free}

-- what is put there becomes a child of
abbrev pub parent_at : List ℕ → Place → ℕ
parent_at m (End p) = p.0
parent_at m (Before s) = field m s.0 PARENT

-- what it comes before is a used node
abbrev pub Sibling : ℕ → Place → Type 0
Sibling c (End p) = Unit {0}
Sibling c (Before s) = (0 < s.0) × (s.0 ≤ c)

-- the parent is a used node that may have children
pub record Spot (m : List ℕ) (c : ℕ) (w : Place) : Type 0 where
  pub some : 0 < parent_at m w
  pub used : parent_at m w ≤ c
  pub text : field m (parent_at m w) KIND ≢ TEXT
  pub comment : field m (parent_at m w) KIND ≢ COMMENT
  pub sibling : Sibling c w

-- from m to m' node x becomes a child of p
pub record Child (m m' : List ℕ) (c : ℕ) (ks : ℕ → List ℕ) (p x : ℕ) : Type 0 where
  pub size : length m' ≡ length m
  pub fields : (k f : ℕ) → NoLink f → field m' k f ≡ field m k f
  pub parents : Upd (λ n. field m n PARENT) (λ n. field m' n PARENT) x p
  pub list : List ℕ
  pub forest : Forest m' c (put ks p list)

pub attached_field : (m : List ℕ) (w : Place) (x k f : ℕ) → NoLink f → field (attached m w x) k f ≡ field m k f
unfolding attached
attached_field m (End p) x k f h = appended_field m k f h p.0 x
attached_field m (Before s) x k f h = inserted_field m k f h s.0 x

pub attached_child : {m : List ℕ} {c : ℕ} {ks : ℕ → List ℕ} → Forest m c ks → (w : Place) → Spot m c w → (x : ℕ) → 0 < x → x ≤ c → field m x PARENT ≡ 0
    → Child m (attached m w x) c ks (parent_at m w) x
unfolding attached
attached_child {m} {c} {ks} f (End p) s x z h e =
    record {
      size = length_appended m p.0 x;
      fields = attached_field m (End p) x;
      parents = appended_parents f p.0 x s.some s.used z h e;
      list = ks p.0 ++ x ∷ [];
      forest = appended_children f p.0 x s.some s.used z h e;
    }
attached_child {m} {c} {ks} f (Before b) s x z h e =
    let n : field m b.0 PARENT ≢ 0 = omega (arith, s.some) in
    let t = find b.0 (ks (field m b.0 PARENT)) (f.are.own b.0 s.sibling.0 s.sibling.1 n) in
    record {
      size = length_inserted m b.0 x;
      fields = attached_field m (Before b) x;
      parents = inserted_parents f b.0 s.sibling.0 s.sibling.1 n t.0 t.1 t.2 x z h e;
      list = t.0 ++ x ∷ b.0 ∷ t.1;
      forest = inserted_children f b.0 s.sibling.0 s.sibling.1 n t.0 t.1 t.2 x z h e;
    }

-- going up leads from x to p, and is as it was elsewhere
pub child_up : {m m' : List ℕ} {c : ℕ} {ks : ℕ → List ℕ} {p x : ℕ} → Child m m' c ks p x → field m x KIND ≢ CONTENTS → Upd (up m) (up m') x p
child_up {m} {m'} {x = x} w d =
    record {
      new = up_parent m' x (rw (w.fields x KIND kind_free) d) ∙ w.parents.new;
      old = λ n e. up_same m m' n (w.fields n KIND kind_free) (w.fields n TIE tie_free) (w.parents.old n e);
    }

module _ {m p q l f t : List ℕ} {c v u d k s foster head : ℕ} {x : Option Context} (o : Sound m p q l f t c v u d k s foster head x) where
  pub forest : Forest m c o.tree.children.kids
  forest =
      record {
        held = node_slots m c o.sizes.nodes;
        parents = o.tree.children.parent;
        are = o.tree.children.is_kids;
      }

  module _ {m' : List ℕ} {a n : ℕ} (w : Child m m' c o.tree.children.kids a n) (at : field m a KIND ≢ TEXT) (ac : field m a KIND ≢ COMMENT)
      (nd : field m n KIND ≢ DOCUMENT) (nc : field m n KIND ≢ CONTENTS) (ne : field m n KIND ≡ ELEMENT → a ≢ 1) (bare : field m n PARENT ≡ 0) where
    ends : (y : ℕ) → 0 < y → y ≤ c → y ≢ a → (field m' y FIRST ≡ field m y FIRST) × (field m' y LAST ≡ field m y LAST)
    ends y z h d = ends_same forest w.forest y z h ((put_upd o.tree.children.kids a w.list).old y d)

    links : (y : ℕ) → 0 < y → y ≤ c → Links m m' y
    links y z h =
        record {
          loose = λ g. w.parents.old y (λ e. other g e);
          root = λ g r. root g r (ℕ_discrete y n);
          leaf = λ g. ends y z h (λ e. leaf g e);
        }
      where
        other : (field m y KIND ≡ DOCUMENT) ⊎ (field m y KIND ≡ CONTENTS) → y ≢ n
        other (inl g) e = nd (rw e at g)
        other (inr g) e = nc (rw e at g)

        root : field m y KIND ≡ ELEMENT → field m' y PARENT ≡ 1 → Dec (y ≡ n) → field m y PARENT ≡ 1
        root g r (yes e) = absurd (ne (rw e at g) (sym w.parents.new ∙ rw e at r))
        root g r (no e) = sym (w.parents.old y e) ∙ r

        leaf : (field m y KIND ≡ TEXT) ⊎ (field m y KIND ≡ COMMENT) → y ≢ a
        leaf (inl g) e = at (rw e at g)
        leaf (inr g) e = ac (rw e at g)

    pub attached_sound : Natural (up m') c (take d l) → Sound m' p q l f t c v u d k s foster head x
    attached_sound r =
        rewired_sound o
        (record {
          size = w.size;
          fields = w.fields;
          kids = put o.tree.children.kids a w.list;
          forest = w.forest;
          links = links;
          root = w.parents.old 2 (λ e. omega (arith, o.tree.top.parent, rw (← e) at bare));
        })
        r
