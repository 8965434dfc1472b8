-- One more node, without a parent, and then put at a place: a sound state stays sound, if the node is what its kind asks for.
-- Assumes nothing.
use Rattle.std.specs.Prelude.{ℕ, suc, ◌+◌, ◌*◌, ◌≤◌, ◌<◌, ◌≡◌, refl, ◌≢◌, true, List, [], ◌∷◌, ◌++◌, length, take, ltb, Option}
use Rattle.std.proofs.Common.{sym, ◌∙◌, arith, lt-ltb}
use Rattle.theory.specs.Fn.{Upd}
use Rattle.theory.specs.Ord.{born, push}
use Rattle.theory.specs.Natural.{Natural, natural→ord, ord→natural}
use Rattle.lent.specs.Mem.{NODES, slots, field, up, KIND, PARENT, FIRST, LAST, TIE, PIECE, END, DOCUMENT, ELEMENT, CONTENTS}
use Rattle.makers.proofs.Made.{Made, made_children}
use Rattle.arena.proofs.Ancestors.{up_parent, up_same}
use Rattle.nodes.specs.Nodes.{Kind}
use Rattle.texts.specs.Words.{Words}
use Rattle.state.specs.declared.Context.{Context}
use Rattle.sound.specs.Sound.{Sound}
use Rattle.standard.specs.declared.Place.{Place}
use Rattle.standard.specs.declared.Place.TheVariants.{End, Before}
use Rattle.standard.specs.Place.{attached}
use Rattle.kept.specs.Room.{slots_nodes}
use Rattle.kept.specs.Same.{Same, Links, changed, names_refl}
use Rattle.kept.specs.Pieces.{Texts}
use Rattle.kept.specs.Attach.{parent_at, Sibling, Spot, attached_child, child_up, forest, attached_sound}

-- every field of the nodes 1 to c is as it was
pub record Old (m m' : List ℕ) (c : ℕ) : Type 0 where
  pub same : (n f : ℕ) → 0 < n → n ≤ c → ltb f 16 ≡ true → field m' n f ≡ field m n f

pub made_old : {m m' : List ℕ} {c : ℕ} → Made m m' (suc c) → Old m m' c
made_old w = record { same = λ n f z h b. w.others n f (omega arith) b }

module _ {m m' : List ℕ} {c : ℕ} (w : Old m m' c) where
  pub old_same : Same m m' c
  old_same =
      record {
        kind = λ n z h. w.same n KIND z h refl;
        rest = λ n f z h i j. w.same n f z h (lt-ltb f 16 (omega arith));
        end = λ n z h d. w.same n END z h refl;
      }

  pub old_links : (n : ℕ) → 0 < n → n ≤ c → Links m m' n
  old_links n z h =
      let e = w.same n PARENT z h refl in
      record { loose = λ g. e; root = λ g r. sym e ∙ r; leaf = λ g. (w.same n FIRST z h refl, w.same n LAST z h refl) }

  pub old_texts : Texts m m' c
  old_texts =
      record { kind = λ n z h. w.same n KIND z h refl; piece = λ n z h. w.same n PIECE z h refl; end = λ n z h. w.same n END z h refl }

  -- a place stays one
  pub old_parent : (a : Place) → Sibling c a → parent_at m' a ≡ parent_at m a
  old_parent (End p) b = refl
  old_parent (Before s) b = w.same s.0 PARENT b.0 b.1 refl

  pub old_spot : {c' : ℕ} → c ≤ c' → (a : Place) → Spot m c a → Spot m' c' a
  old_spot {c'} le a s =
      let e = old_parent a s.sibling in
      let k = w.same (parent_at m a) KIND s.some s.used refl in
      record {
        some = rw e s.some;
        used = rw e (omega (arith, s.used));
        text = rw (e, k) s.text;
        comment = rw (e, k) s.comment;
        sibling = sibling a s.sibling;
      }
    where
      sibling : (a : Place) → Sibling c a → Sibling c' a
      sibling (End p) b = tt
      sibling (Before n) b = (b.0, omega (arith, b.1))

pub upd_upd : {a b c : ℕ → ℕ} {n x y : ℕ} → Upd a b n x → Upd b c n y → Upd a c n y
upd_upd h k = record { new = k.new; old = λ i d. k.old i d ∙ h.old i d }

module _ {m p q l f t : List ℕ} {c v u d k s foster head : ℕ} {x : Option Context} (o : Sound m p q l f t c v u d k s foster head x)
    {m' p' : List ℕ} {v' : ℕ} (w : Made m m' (suc c)) (room : suc c < slots NODES m) (new : Kind m' q (suc c) u (suc c)) (nc : field m' (suc c) KIND ≢ CONTENTS)
    (words : Words m' p' (suc c) v') (long : (v' ≤ 8192) × (0 < v' → (v' + 1) * 4 ≤ length p')) where
  pub up_made : Upd (up m) (up m') (suc c) 0
  up_made =
      record {
        new = up_parent m' (suc c) nc ∙ w.parent;
        old = λ n d. up_same m m' n (w.others n KIND d refl) (w.others n TIE d refl) (w.others n PARENT d refl);
      }

  -- the new node under a, or nowhere
  order_born : {up' : ℕ → ℕ} (a : ℕ) → a ≤ c → Upd (up m) up' (suc c) a → Natural up' (suc c) (take d l)
  order_born a h e = ord→natural (born a (natural→ord o.tree.order) e h)

  pub made_sound : Sound m' p' q l f t (suc c) v' u d k s foster head x
  made_sound =
      let g = slots_nodes m (suc c) room in
      let r = made_children (forest o) room w in
      changed o
      (record {
        sizes = record { nodes = (g.0, rw w.size g.1); pieces = long; pairs = o.sizes.pairs };
        more = omega arith;
        longer = omega arith;
        same = old_same (made_old w);
        links = old_links (made_old w);
        root = w.others 2 PARENT (omega (arith, o.tree.top.two)) refl;
        names = names_refl q u;
        children = record { parent = r.parents; kids = _; is_kids = r.are };
        kinds = λ n a b. let e : n ≡ suc c = omega arith in rw e new;
        known = o.tree.names;
        order = order_born 0 (omega arith) up_made;
        texts = words;
      })

  -- and at its place
  pub grown_sound : (a : Place) → Spot m c a → field m' (suc c) KIND ≢ DOCUMENT → (field m' (suc c) KIND ≡ ELEMENT → parent_at m a ≢ 1)
      → Sound (attached m' a (suc c)) p' q l f t (suc c) v' u d k s foster head x
  grown_sound a b nd ne =
      let e = old_parent (made_old w) a b.sibling in
      let b' = old_spot (made_old w) {c' = suc c} (omega arith) a b in
      let ch = attached_child (forest made_sound) a b' (suc c) (omega arith) (omega arith) w.parent in
      attached_sound made_sound ch b'.text b'.comment nd nc (λ h. rw e (ne h)) w.parent
      (order_born (parent_at m a) b.used (rw e at (upd_upd up_made (child_up ch nc))))

  -- and open, as the last
  pub grown_order : (a : Place) → Spot m c a → Natural (up (attached m' a (suc c))) (suc c) (take d l ++ suc c ∷ [])
  grown_order a b =
      let e = old_parent (made_old w) a b.sibling in
      let b' = old_spot (made_old w) {c' = suc c} (omega arith) a b in
      let ch = attached_child (forest made_sound) a b' (suc c) (omega arith) (omega arith) w.parent in
      ord→natural (push (parent_at m a) (natural→ord o.tree.order) (rw e at (upd_upd up_made (child_up ch nc))) b.used)
