-- The adoption agency, 4.15 to 4.17: a copy of an element takes all children of the furthest block, and becomes its only child. A sound
-- state stays sound, if the order does; and what this is to the ways up is `Wrap`.
-- Assumes nothing.
use Rattle.std.specs.Prelude.{ℕ, suc, ◌≤◌, ◌<◌, ◌≡◌, refl, ◌≢◌, ◌⊎◌, List, [], ◌∷◌, ◌++◌, length, take, Option}
use Rattle.std.proofs.Common.{sym, ◌∙◌, inl, inr, arith}
use Rattle.std.proofs.Math.Decide.{ℕ_discrete}
use Rattle.theory.specs.Fn.{Upd, put, put_upd}
use Rattle.theory.specs.Ord.{Wrap}
use Rattle.theory.specs.Natural.{Natural}
use Rattle.lent.specs.Mem.{NODES, slots, field, up, KIND, PARENT, FIRST, LAST, DOCUMENT, ELEMENT, TEXT, COMMENT, CONTENTS}
use Rattle.arena.specs.Links.{moved}
use Rattle.makers.specs.Make.{copied}
use Rattle.arena.proofs.Lengths.{length_appended, length_moved}
use Rattle.arena.proofs.Children.{Forest, appended_parents, appended_children, moved_parents, moved_children}
use Rattle.arena.proofs.Others.{NoLink, appended_field, moved_field}
use Rattle.arena.proofs.Ancestors.{kind_free, up_tie, appended_up, moved_up, moved_up_contents}
use Rattle.nodes.specs.Nodes.{Template}
use Rattle.state.specs.declared.Context.{Context}
use Rattle.sound.specs.Sound.{Sound}
use Rattle.standard.specs.Adoption.{rehung}
use Rattle.kept.specs.Same.{Links}
use Rattle.kept.specs.Attach.{forest}
use Rattle.kept.specs.Rewire.{Rewired, ends_same, rewired_sound}
use Rattle.kept.specs.Copy.{Copyable}
use Rattle.kept.specs.Renew.{copy_made, copy_fields, copy_sound, copy_up}

-- the copy is made, and has the children
abbrev taken : List ℕ → ℕ → ℕ → ℕ → List ℕ
taken m n fe b = moved (copied m n fe) b n

module _ {m p q l f t : List ℕ} {c v u d k s foster head : ℕ} {x : Option Context} (o : Sound m p q l f t c v u d k s foster head x)
    (fe : ℕ) (may : Copyable m q u fe) (room : suc c < slots NODES m) (b : ℕ) (bz : 0 < b) (bc : b ≤ c) (bk : field m b KIND ≡ ELEMENT) where
  made : Sound (copied m (suc c) fe) p q l f t (suc c) v u d k s foster head x
  made = copy_sound o fe may room

  -- the lists of children before and after the move
  abbrev ks : ℕ → List ℕ
  ks = made.tree.children.kids

  abbrev ks' : ℕ → List ℕ
  ks' = put (put made.tree.children.kids b []) (suc c) (made.tree.children.kids (suc c) ++ made.tree.children.kids b)

  taken_forest : Forest (taken m (suc c) fe b) (suc c) ks'
  taken_forest = moved_children (forest made) b (suc c) (omega arith) bz (omega arith) (omega arith) (omega arith)

  taken_parents : (n : ℕ) → 0 < n → n ≤ suc c
      → (field (copied m (suc c) fe) n PARENT ≡ b → field (taken m (suc c) fe b) n PARENT ≡ suc c) × (field (copied m (suc c) fe) n PARENT ≢ b → field (taken m (suc c) fe b) n PARENT ≡ field (copied m (suc c) fe) n PARENT)
  taken_parents = moved_parents (forest made) b (suc c) (omega arith) bz (omega arith) (omega arith) (omega arith)

  taken_bare : field (taken m (suc c) fe b) (suc c) PARENT ≡ 0
  taken_bare =
      let e = (copy_made o fe may room).parent in
      (taken_parents (suc c) (omega arith) (omega arith)).1 (omega arith) ∙ e

  -- the last step
  pars : Upd (λ n. field (taken m (suc c) fe b) n PARENT) (λ n. field (rehung m (suc c) fe b) n PARENT) (suc c) b
  unfolding rehung
  pars = appended_parents taken_forest b (suc c) bz (omega arith) (omega arith) (omega arith) taken_bare

  hung_forest : Forest (rehung m (suc c) fe b) (suc c) (put ks' b (ks' b ++ suc c ∷ []))
  unfolding rehung
  hung_forest = appended_children taken_forest b (suc c) bz (omega arith) (omega arith) (omega arith) taken_bare

  -- ---- what does not change

  rehung_length : length (rehung m (suc c) fe b) ≡ length (copied m (suc c) fe)
  unfolding rehung
  rehung_length = length_appended (taken m (suc c) fe b) b (suc c) ∙ length_moved (copied m (suc c) fe) b (suc c)

  pub rehung_field : (n g : ℕ) → NoLink g → field (rehung m (suc c) fe b) n g ≡ field (copied m (suc c) fe) n g
  unfolding rehung
  rehung_field n g h =
      appended_field (taken m (suc c) fe b) n g h b (suc c) ∙ moved_field (copied m (suc c) fe) n g h b (suc c)

  new_kind : field (copied m (suc c) fe) (suc c) KIND ≡ ELEMENT
  new_kind = (copy_fields o fe may room).kind

  block_kind : field (copied m (suc c) fe) b KIND ≡ ELEMENT
  block_kind = (copy_made o fe may room).others b KIND (omega arith) refl ∙ bk

  block_one : b ≢ 1
  block_one e = let h = rw e at block_kind in omega (arith, made.tree.top.document)

  -- a node that is not the copy, and whose parent was not the block
  stays : (n : ℕ) → 0 < n → n ≤ suc c → n ≢ suc c → field (copied m (suc c) fe) n PARENT ≢ b
      → field (rehung m (suc c) fe b) n PARENT ≡ field (copied m (suc c) fe) n PARENT
  stays n z h d e = pars.old n d ∙ (taken_parents n z h).1 e

  leaf : (n : ℕ) → 0 < n → n ≤ suc c → (field (copied m (suc c) fe) n KIND ≡ TEXT) ⊎ (field (copied m (suc c) fe) n KIND ≡ COMMENT)
      → (field (rehung m (suc c) fe b) n FIRST ≡ field (copied m (suc c) fe) n FIRST) × (field (rehung m (suc c) fe b) n LAST ≡ field (copied m (suc c) fe) n LAST)
  leaf n z h g = ends_same (forest made) hung_forest n z h same
    where
      other : (y : ℕ) → field (copied m (suc c) fe) y KIND ≡ ELEMENT → (field (copied m (suc c) fe) n KIND ≡ TEXT) ⊎ (field (copied m (suc c) fe) n KIND ≡ COMMENT) → n ≢ y
      other y w (inl r) e = omega (arith, rw e at r)
      other y w (inr r) e = omega (arith, rw e at r)

      same : put ks' b (ks' b ++ suc c ∷ []) n ≡ made.tree.children.kids n
      same =
          (put_upd ks' b (ks' b ++ suc c ∷ [])).old n (other b block_kind g)
          ∙ (put_upd (put ks b []) (suc c) (ks (suc c) ++ ks b)).old n (other (suc c) new_kind g)
          ∙ (put_upd ks b []).old n (other b block_kind g)

  links : (n : ℕ) → 0 < n → n ≤ suc c → Links (copied m (suc c) fe) (rehung m (suc c) fe b) n
  links n z h =
      record {
        loose = λ g. loose g;
        root = λ g r. root r (ℕ_discrete n (suc c)) (ℕ_discrete (field (copied m (suc c) fe) n PARENT) b);
        leaf = leaf n z h;
      }
    where
      bare : (field (copied m (suc c) fe) n KIND ≡ DOCUMENT) ⊎ (field (copied m (suc c) fe) n KIND ≡ CONTENTS) → field (copied m (suc c) fe) n PARENT ≡ 0
      bare (inl g) = ((made.tree.kinds.kind n z h).document g).parent
      bare (inr g) = ((made.tree.kinds.kind n z h).contents g).parent

      old : (field (copied m (suc c) fe) n KIND ≡ DOCUMENT) ⊎ (field (copied m (suc c) fe) n KIND ≡ CONTENTS) → n ≢ suc c
      old (inl g) e = omega (arith, new_kind, rw e at g)
      old (inr g) e = omega (arith, new_kind, rw e at g)

      loose : (field (copied m (suc c) fe) n KIND ≡ DOCUMENT) ⊎ (field (copied m (suc c) fe) n KIND ≡ CONTENTS)
          → field (rehung m (suc c) fe b) n PARENT ≡ field (copied m (suc c) fe) n PARENT
      loose g = let e = bare g in stays n z h (old g) (omega arith)

      root : field (rehung m (suc c) fe b) n PARENT ≡ 1 → Dec (n ≡ suc c) → Dec (field (copied m (suc c) fe) n PARENT ≡ b) → field (copied m (suc c) fe) n PARENT ≡ 1
      root r (yes e) g = absurd (block_one (sym pars.new ∙ rw e at r))
      root r (no e) (yes g) =
          let a : suc c ≡ 1 = sym (pars.old n e ∙ (taken_parents n z h).0 g) ∙ r in
          absurd (omega (arith, o.tree.top.two))
      root r (no e) (no g) = sym (stays n z h e g) ∙ r

  rewired : Rewired (copied m (suc c) fe) (rehung m (suc c) fe b) (suc c)
  rewired =
      let two = o.tree.top.two in
      let one = made.tree.top.parent in
      let nb = block_one in
      record {
        size = rehung_length;
        fields = rehung_field;
        kids = put ks' b (ks' b ++ suc c ∷ []);
        forest = hung_forest;
        links = links;
        root = stays 2 (omega arith) (omega arith) (omega arith) (λ e. nb (sym e ∙ one));
      }

  pub rehung_sound : Natural (up (rehung m (suc c) fe b)) (suc c) (take d l) → Sound (rehung m (suc c) fe b) p q l f t (suc c) v u d k s foster head x
  rehung_sound r = rewired_sound made rewired r

  -- ---- the ways up

  module _ (bt : ¬ Template m b) where
    not_contents : (n : ℕ) → 0 < n → n ≤ c → up m n ≡ b → field m n KIND ≢ CONTENTS
    not_contents n z h e g = bt (rw (sym (up_tie m n g) ∙ e) at ((o.tree.kinds.kind n z h).contents g).host)

    copied_kind : (n : ℕ) → n ≤ c → field (copied m (suc c) fe) n KIND ≡ field m n KIND
    copied_kind n h = (copy_made o fe may room).others n KIND (omega arith) refl

    before : (n : ℕ) → n ≤ c → up (copied m (suc c) fe) n ≡ up m n
    before n h = (copy_up o fe may room).old n (omega arith)

    last : Upd (up (taken m (suc c) fe b)) (up (rehung m (suc c) fe b)) (suc c) b
    unfolding rehung
    last =
        let e : field (taken m (suc c) fe b) (suc c) KIND ≡ ELEMENT = moved_field (copied m (suc c) fe) (suc c) KIND kind_free b (suc c) ∙ new_kind in
        appended_up taken_forest b (suc c) bz (omega arith) (omega arith) (omega arith) taken_bare (omega arith)

    move : (n : ℕ) → 0 < n → n ≤ c → field m n KIND ≢ CONTENTS
        → (up (copied m (suc c) fe) n ≡ b → up (taken m (suc c) fe b) n ≡ suc c) × (up (copied m (suc c) fe) n ≢ b → up (taken m (suc c) fe b) n ≡ up (copied m (suc c) fe) n)
    move n z h g = moved_up (forest made) b (suc c) (omega arith) bz (omega arith) (omega arith) (omega arith) n z (omega arith) (rw (copied_kind n h) g)

    pub rehung_wrap : Wrap (up m) (up (rehung m (suc c) fe b)) c b
    rehung_wrap =
        record {
          new = last.new;
          moved = λ n z h e. last.old n (omega arith) ∙ (move n z h (not_contents n z h e)).0 (before n h ∙ e);
          old = λ n z h d. last.old n (omega arith) ∙ old n z h d (ℕ_discrete (field m n KIND) CONTENTS) ∙ before n h;
        }
      where
        old : (n : ℕ) → 0 < n → n ≤ c → up m n ≢ b → Dec (field m n KIND ≡ CONTENTS) → up (taken m (suc c) fe b) n ≡ up (copied m (suc c) fe) n
        old n z h d (yes g) = moved_up_contents (forest made) b (suc c) n (copied_kind n h ∙ g)
        old n z h d (no g) = (move n z h g).1 (rw (before n h) d)
