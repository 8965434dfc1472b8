-- An element that is not the root leaves its parent, if it has one: a sound state stays sound, and nothing but links changes.
-- Assumes nothing.
use Rattle.std.specs.Prelude.{ℕ, ◌≤◌, ◌<◌, ◌≡◌, refl, ◌≢◌, ◌⊎◌, List, ◌∷◌, ◌++◌, Option}
use Rattle.std.proofs.Common.{sym, ◌∙◌, inl, inr, arith}
use Rattle.std.proofs.Math.Decide.{ℕ_discrete}
use Rattle.theory.specs.Fn.{Upd, put, put_upd}
use Rattle.theory.specs.Ord.{detach}
use Rattle.theory.specs.Natural.{natural→ord, ord→natural}
use Rattle.theory.specs.Stores.{find}
use Rattle.lent.specs.Mem.{field, up, KIND, PARENT, FIRST, LAST, DOCUMENT, ELEMENT, TEXT, COMMENT, CONTENTS}
use Rattle.arena.specs.Links.{detached}
use Rattle.arena.proofs.Laws.{detached_none}
use Rattle.arena.proofs.Lengths.{length_detached}
use Rattle.arena.proofs.Children.{detached_parents, detached_children}
use Rattle.arena.proofs.Others.{detached_field}
use Rattle.arena.proofs.Ancestors as ancestors
use Rattle.arena.proofs.Ancestors.{up_parent, kind_free}
use Rattle.state.specs.declared.Context.{Context}
use Rattle.sound.specs.Sound.{Sound}
use Rattle.kept.specs.Same.{Links}
use Rattle.kept.specs.Attach.{forest}
use Rattle.kept.specs.Rewire.{Rewired, ends_same, rewired_sound}
use Rattle.kept.specs.Usual.{has_first}

-- what stays: kinds, and the fields from TIE on, of every node
pub detached_kind : (m : List ℕ) (n y : ℕ) → field (detached m n) y KIND ≡ field m y KIND
detached_kind m n y = detached_field m y KIND kind_free n

module _ {m p q l f t : List ℕ} {c v u d k s foster head : ℕ} {x : Option Context} (o : Sound m p q l f t c v u d k s foster head x)
    (n : ℕ) (nz : 0 < n) (nc : n ≤ c) (ne : field m n KIND ≡ ELEMENT) where
  -- its place among the children of its parent
  place : field m n PARENT ≢ 0 → (a : List ℕ) × (b : List ℕ) × (o.tree.children.kids (field m n PARENT) ≡ a ++ n ∷ b)
  place z = find n (o.tree.children.kids (field m n PARENT)) (o.tree.children.is_kids.own n nz nc z)

  pub detached_pars : Upd (λ y. field m y PARENT) (λ y. field (detached m n) y PARENT) n 0
  detached_pars = by (ℕ_discrete (field m n PARENT) 0)
    where
      by : Dec (field m n PARENT ≡ 0) → Upd (λ y. field m y PARENT) (λ y. field (detached m n) y PARENT) n 0
      by (yes e) = rw (detached_none m n refl e) (record { new = e; old = λ y d. refl })
      by (no e) = let t = place e in detached_parents (forest o) n nz nc e t.0 t.1 t.2

  pub detached_parent : field (detached m n) n PARENT ≡ 0
  detached_parent = detached_pars.new

  pub detached_up : Upd (up m) (up (detached m n)) n 0
  detached_up = by (ℕ_discrete (field m n PARENT) 0)
    where
      other : field m n KIND ≢ CONTENTS
      other = omega arith

      by : Dec (field m n PARENT ≡ 0) → Upd (up m) (up (detached m n)) n 0
      by (yes e) = rw (detached_none m n refl e) (record { new = up_parent m n other ∙ e; old = λ y d. refl })
      by (no e) = let t = place e in ancestors.detached_up (forest o) n nz nc e t.0 t.1 t.2 other

  module _ (nt : n ≢ 2) where
    root : field (detached m n) 2 PARENT ≡ field m 2 PARENT
    root = detached_pars.old 2 (λ e. nt (sym e))

    -- its parent has children, so it is neither text nor comment
    parent_kind : field m n PARENT ≢ 0 → (y : ℕ) → (field m y KIND ≡ TEXT) ⊎ (field m y KIND ≡ COMMENT) → y ≢ field m n PARENT
    parent_kind z y g e = by g
      where
        used : field m n PARENT ≤ c
        used = o.tree.children.parent n nz nc

        first : field m (field m n PARENT) FIRST ≢ 0
        first = has_first o (field m n PARENT) (omega arith) used n (o.tree.children.is_kids.own n nz nc z)

        by : (field m y KIND ≡ TEXT) ⊎ (field m y KIND ≡ COMMENT) → ⊥
        by (inl h) = first (((o.tree.kinds.kind (field m n PARENT) (omega arith) used).text (rw e at h)).zero FIRST (omega arith) (omega arith))
        by (inr h) = first (((o.tree.kinds.kind (field m n PARENT) (omega arith) used).comment (rw e at h)).front.zero FIRST (omega arith) (omega arith))

    links : ((y : ℕ) → 0 < y → y ≤ c → (field m y KIND ≡ TEXT) ⊎ (field m y KIND ≡ COMMENT) → (field (detached m n) y FIRST ≡ field m y FIRST) × (field (detached m n) y LAST ≡ field m y LAST))
        → (y : ℕ) → 0 < y → y ≤ c → Links m (detached m n) y
    links ends y z h =
        record {
          loose = λ g. detached_pars.old y (λ e. other g e);
          root = λ g r. sym (detached_pars.old y (λ e. let a : 0 ≡ 1 = sym detached_parent ∙ rw e at r in omega arith)) ∙ r;
          leaf = ends y z h;
        }
      where
        other : (field m y KIND ≡ DOCUMENT) ⊎ (field m y KIND ≡ CONTENTS) → y ≢ n
        other (inl g) e = omega (arith, rw e at g)
        other (inr g) e = omega (arith, rw e at g)

    rewired : Rewired m (detached m n) c
    rewired = by (ℕ_discrete (field m n PARENT) 0)
      where
        by : Dec (field m n PARENT ≡ 0) → Rewired m (detached m n) c
        by (yes e) =
            record {
              size = length_detached m n;
              fields = λ y g b. detached_field m y g b n;
              kids = o.tree.children.kids;
              forest = rw (detached_none m n refl e) (forest o);
              links = links (λ y z h g. rw (detached_none m n refl e) (refl, refl));
              root = root;
            }
        by (no e) =
            let t = place e in
            let w = detached_children (forest o) n nz nc e t.0 t.1 t.2 in
            record {
              size = length_detached m n;
              fields = λ y g b. detached_field m y g b n;
              kids = put o.tree.children.kids (field m n PARENT) (t.0 ++ t.1);
              forest = w;
              links = links (λ y z h g. ends_same (forest o) w y z h ((put_upd o.tree.children.kids (field m n PARENT) (t.0 ++ t.1)).old y (parent_kind e y g)));
              root = root;
            }

    pub detached_sound : Sound (detached m n) p q l f t c v u d k s foster head x
    detached_sound = rewired_sound o rewired (ord→natural (detach n (natural→ord o.tree.order) detached_up))
